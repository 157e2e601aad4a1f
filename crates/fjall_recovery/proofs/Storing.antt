-- What is stored of keyspaces: the versions in the tables of their homes, and the numbers that their last records tell.
use Rattle.std.proofs.Common.{◌≡◌, ℕ, ◌≤◌, ◌==◌, Bool, true, false, cond, List, [], ◌∷◌, get_or, All, Option, None, Some, refl, sym, ◌∙◌, ap, subst, arith}
use Rattle.std.proofs.lemmas.Bool.Decides.{nat_tests}
use Rattle.std.proofs.lemmas.List.Elements.{All-cons, All-nil}
use Rattle.std.specs.Cmp.{nat_cmp_total}
use Rattle.std.specs.List.{flat_map}
use Rattle.std.specs.Ordering.{nat_cmp}
use Rattle.std.specs.FinMap.{FinMap, empty, get, insert, remove, get-empty, get-remove}
use Rattle.fjall_table.specs.Blocks.{Entry}
use Rattle.fjall_table.specs.declared.table_info.TableInfo.{TableInfo}
use Rattle.fjall_table_reader.proofs.TableFiles.{one_list_of}
use Rattle.fjall_manifest.specs.Records.{Fields}
use Rattle.fjall_manifest.specs.Homes.{Home}
use Rattle.fjall_manifest.specs.Reading.{AreRight}
use Rattle.fjall_meta.specs.declared.living.LivingKeyspace.{LivingKeyspace}
use Rattle.fjall_meta.specs.Keyspaces.{Keyspaces}
use Rattle.fjall_meta.proofs.Slots.{get_put, same_maps, ties}
use Rattle.fjall_meta.specs.Contents.{AreWithin, IsWithin, is_beyond, nothing_stored}
use Rattle.fjall_recovery.specs.Folders.{past, past_record, past_records}
use Rattle.fjall_recovery.specs.Homes.{ClearsAreWithin, HasVersions, HasVersionsAt, HaveVersions, Homes, Versions, last_in, lasts, stored_at, stored_in, stored_of}

-- ---- numbers

-- nothing that is stored is beyond the persisted number
within_at : (h : Option Home) (versions : Option (List Entry)) → HasVersionsAt h versions → IsWithin (stored_at h versions)
within_at (Some h) (Some versions) has = has.within
within_at (Some h) None has = absurd has
within_at None (Some versions) has = absurd has
within_at None None has = (All-nil (λ (v : Entry). is_beyond None v.number ≡ false), All-nil (λ n. is_beyond None n ≡ false))

pub stored_within : (homes : Homes) (versions : Versions) → HaveVersions homes versions → (id : ℕ) → IsWithin (stored_in homes versions id)
stored_within homes versions have id = within_at (get homes id) (get versions id) (have id)

pub are_within : (homes : Homes) (versions : Versions) → HaveVersions homes versions → (s : Keyspaces) → AreWithin s (stored_in homes versions)
are_within homes versions have s i d lt = stored_within homes versions have (get_or s.living i d).id

-- a number past all that the homes' last records tell is beyond each persisted one
past_is_beyond : (persisted : Option ℕ) (n : ℕ) → past persisted ≤ n → is_beyond persisted n ≡ true
past_is_beyond None n low = refl
past_is_beyond (Some p) n low = grind (arith, nat_tests)

beyond_at : (h : Option Home) (versions : Option (List Entry)) (n : ℕ) → past_record (last_in h) ≤ n → is_beyond (stored_at h versions).persisted n ≡ true
beyond_at (Some h) (Some versions) n low = past_is_beyond h.last.persisted n (omega (arith, low))
beyond_at (Some h) None n low = refl
beyond_at None versions n low = refl

pub beyond_lasts : (homes : Homes) (versions : Versions) (living : List LivingKeyspace) (n : ℕ) → past_records (lasts living homes) ≤ n
    → All (λ k. is_beyond (stored_in homes versions k.id).persisted n ≡ true) living
beyond_lasts homes versions [] n low = All-nil (λ (k : LivingKeyspace). is_beyond (stored_in homes versions k.id).persisted n ≡ true)
beyond_lasts homes versions (k ∷ living) n low =
    All-cons (λ (j : LivingKeyspace). is_beyond (stored_in homes versions j.id).persisted n ≡ true) k living
    (beyond_at (get homes k.id) (get versions k.id) n (omega (arith, low))) (beyond_lasts homes versions living n (omega (arith, low)))

-- ---- one keyspace more, or one less

-- what a map has without a key
pub get_removed : {X : Type 0} (m : FinMap nat_cmp X) (k q : ℕ) → get (remove m k) q ≡ cond (q == k) None (get m q)
get_removed m k q = get-remove nat_cmp_total m k q ∙ ap (λ b. cond b None (get m q)) (ties q k)

put_at : (b : Bool) (h : Home) (versions : List Entry) (one : Option Home) (other : Option (List Entry))
    → stored_at (cond b (Some h) one) (cond b (Some versions) other) ≡ cond b (stored_of h versions) (stored_at one other)
put_at true h versions one other = refl
put_at false h versions one other = refl

pub stored_inserted : (homes : Homes) (versions : Versions) (id : ℕ) (h : Home) (vs : List Entry) (other : ℕ)
    → stored_in (insert homes id h) (insert versions id vs) other ≡ cond (other == id) (stored_of h vs) (stored_in homes versions other)
stored_inserted homes versions id h vs other =
    (λ i. stored_at (get_put homes id h other i) (get_put versions id vs other i)) ∙ put_at (other == id) h vs (get homes other) (get versions other)

removed_at : (b : Bool) (one : Option Home) (other : Option (List Entry)) → stored_at (cond b None one) (cond b None other) ≡ cond b nothing_stored (stored_at one other)
removed_at true one other = refl
removed_at false one other = refl

pub stored_removed : (homes : Homes) (versions : Versions) (id other : ℕ)
    → stored_in (remove homes id) (remove versions id) other ≡ cond (other == id) nothing_stored (stored_in homes versions other)
stored_removed homes versions id other =
    (λ i. stored_at (get_removed homes id other i) (get_removed versions id other i)) ∙ removed_at (other == id) (get homes other) (get versions other)

-- so do the homes have their versions
with_at : (b : Bool) (h : Home) (vs : List Entry) (one : Option Home) (other : Option (List Entry)) → HasVersions h vs → HasVersionsAt one other
    → HasVersionsAt (cond b (Some h) one) (cond b (Some vs) other)
with_at true h vs one other has rest = has
with_at false h vs one other has rest = rest

pub versions_inserted : (homes : Homes) (versions : Versions) (id : ℕ) (h : Home) (vs : List Entry) → HasVersions h vs → HaveVersions homes versions
    → HaveVersions (insert homes id h) (insert versions id vs)
versions_inserted homes versions id h vs has have other =
    subst (λ (o : Option Home). HasVersionsAt o (get (insert versions id vs) other)) (sym (get_put homes id h other))
    (subst (λ (o : Option (List Entry)). HasVersionsAt (cond (other == id) (Some h) (get homes other)) o) (sym (get_put versions id vs other))
    (with_at (other == id) h vs (get homes other) (get versions other) has (have other)))

without_at : (b : Bool) (one : Option Home) (other : Option (List Entry)) → HasVersionsAt one other → HasVersionsAt (cond b None one) (cond b None other)
without_at true one other rest = tt
without_at false one other rest = rest

pub versions_removed : (homes : Homes) (versions : Versions) (id : ℕ) → HaveVersions homes versions → HaveVersions (remove homes id) (remove versions id)
versions_removed homes versions id have other =
    subst (λ (o : Option Home). HasVersionsAt o (get (remove versions id) other)) (sym (get_removed homes id other))
    (subst (λ (o : Option (List Entry)). HasVersionsAt (cond (other == id) None (get homes other)) o) (sym (get_removed versions id other))
    (without_at (other == id) (get homes other) (get versions other) (have other)))

-- where there are no homes there are no versions
pub no_versions : HaveVersions empty empty
no_versions id =
    subst (λ (o : Option Home). HasVersionsAt o (get {R = nat_cmp} empty id)) (sym (get-empty nat_cmp id))
    (subst (λ (o : Option (List Entry)). HasVersionsAt None o) (sym (get-empty nat_cmp id)) tt)

-- ---- tables

-- the home of a last record that names no table
abbrev pub plain_home : Fields → Home
plain_home last = record { last = last; texts = [] }

-- it has no versions
pub plain_versions : (last : Fields) → last.tables ≡ [] → ClearsAreWithin last → HasVersions (plain_home last) []
plain_versions last none clears = record {
  lists = [];
  right = subst (λ (tables : List TableInfo). AreRight tables [] []) (sym none) tt;
  all = refl;
  within = (All-nil (λ (v : Entry). is_beyond last.persisted v.number ≡ false), clears);
  once = tt;
}

-- ---- one list of versions

one_right : (tables : List TableInfo) (texts : List (List ℕ)) (a b : List (List Entry)) → AreRight tables texts a → AreRight tables texts b → a ≡ b
one_right [] [] [] [] x y = refl
one_right [] [] [] (l ∷ b) x y = absurd y
one_right [] [] (l ∷ a) b x y = absurd x
one_right [] (text ∷ texts) a b x y = absurd x
one_right (t ∷ tables) [] a b x y = absurd x
one_right (t ∷ tables) (text ∷ texts) [] b x y = absurd x
one_right (t ∷ tables) (text ∷ texts) (l ∷ a) [] x y = absurd y
one_right (t ∷ tables) (text ∷ texts) (l ∷ a) (m ∷ b) x y = λ i. one_list_of t text l m x.0 y.0 i ∷ one_right tables texts a b x.1 y.1 i

pub one_list_of_versions : (h : Home) (a b : List Entry) → HasVersions h a → HasVersions h b → a ≡ b
one_list_of_versions h a b x y = x.all ∙ ap (flat_map (λ entries. entries)) (one_right h.last.tables h.texts x.lists y.lists x.right y.right) ∙ sym y.all

one_at : (h : Option Home) (a b : Option (List Entry)) → HasVersionsAt h a → HasVersionsAt h b → a ≡ b
one_at (Some h) (Some a) (Some b) x y = ap Some (one_list_of_versions h a b x y)
one_at (Some h) (Some a) None x y = absurd y
one_at (Some h) None b x y = absurd x
one_at None (Some a) b x y = absurd x
one_at None None (Some b) x y = absurd y
one_at None None None x y = refl

-- homes have one map of versions
pub one_map_of_versions : (homes : Homes) (a b : Versions) → HaveVersions homes a → HaveVersions homes b → a ≡ b
one_map_of_versions homes a b x y = same_maps a b (λ id. one_at (get homes id) (get a id) (get b id) (x id) (y id))
