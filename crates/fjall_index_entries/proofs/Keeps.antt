-- What keeps an index as the main keyspace changes.
use Rattle.std.proofs.Common.{◌≡◌, ◌≢◌, ◌⊎◌, inl, inr, ℕ, suc, Bool, true, false, cond, List, [], ◌∷◌, ◌++◌, Option, None, Some, unwrap_or, refl, sym, ◌∙◌, ap, subst, arith, append_assoc}
use Rattle.std.specs.Prelude.{All, AllPairs, if◌then◌else◌, slice_index_or}
use Rattle.std.specs.Option.{option_eq}
use Rattle.std.specs.Str.{bytes_eq}
use Rattle.std.specs.FinMap.{FinMap, contains_key, empty, get, insert, get-insert}
use Rattle.std.specs.Ordering.{eq_by_cmp, nat_cmp}
use Rattle.std.specs.Cmp.{nat_cmp_total}
use Rattle.std.proofs.lemmas.Bool.{true≢false}
use Rattle.std.proofs.lemmas.Bool.Decides.{nat_tests}
use Rattle.std.proofs.lemmas.List.Elements.{All-append, All-cons, All-head, All-nil, All-tail, All-weaker}
use Rattle.std.proofs.lemmas.Slice.Eq.{bytes_eq-Decides}
use Rattle.fjall_base.specs.Pairs.{Bytes, Pairs, altered, byte_order, lookup}
use Rattle.fjall_base.specs.Store.{Command, Item, Store, Write, apply, fold, kept, map_at, written}
use Rattle.fjall_tx.specs.Marks.{IsCovered, Mark}
use Rattle.fjall_tx.specs.Oracles.{Conflicts}
use Rattle.fjall_meta.proofs.Kept.{kept_along, kept_map}
use Rattle.fjall_history.specs.Checked.{IsChecked}
use Rattle.fjall_history.specs.Histories.{History, commits, latest, view}
use Rattle.fjall_history.specs.Serial.{ChangesByTransactions, value_at}
use Rattle.fjall_history.proofs.Serials.{present_of}
use Rattle.fjall_history.proofs.Views.{fold_append}
use Rattle.fjall_index_entries.specs.Index.{FieldOf, field_in, index_of, with_entry, without_entry}
use Rattle.fjall_index_entries.specs.Keeping.{AreRead, AreSeen, IsIndexed, IsIndexedAmid, KeepsIndex}
use Rattle.fjall_index_entries.specs.Putting.{all_items, comes, entry_in, entry_item, entry_items, goes, item, put_items}
use Rattle.fjall_index_entries.proofs.Index.{get_altered, index_altered, index_stays}
use Rattle.fjall_index_entries.proofs.Standing.{eq_same}

-- ---- maps of keyspaces

pub map_here : (maps : FinMap nat_cmp Pairs) (id : ℕ) (p : Pairs) → map_at (insert maps id p) id ≡ p
map_here maps id p = ap (λ o. unwrap_or o empty) (get-insert nat_cmp_total maps id p id ∙ ap (λ b. cond b (Some p) (get maps id)) (let e : eq_by_cmp nat_cmp id id ≡ true = grind (arith, nat_tests) in e))

pub map_there : (maps : FinMap nat_cmp Pairs) (id j : ℕ) (p : Pairs) → id ≢ j → map_at (insert maps id p) j ≡ map_at maps j
map_there maps id j p other = ap (λ o. unwrap_or o empty) (get-insert nat_cmp_total maps id p j ∙ ap (λ b. cond b (Some p) (get maps j)) (off (eq_by_cmp nat_cmp j id) refl))
  where
    same : (a b : ℕ) → eq_by_cmp nat_cmp a b ≡ true → a ≡ b
    same a b e = grind (arith, nat_tests)

    off : (b : Bool) → eq_by_cmp nat_cmp j id ≡ b → eq_by_cmp nat_cmp j id ≡ false
    off true e = absurd (other (sym (same j id e)))
    off false e = e

pub written_append : (maps : FinMap nat_cmp Pairs) (xs ys : List Item) → written maps (xs ++ ys) ≡ written (written maps xs) ys
written_append maps [] ys = refl
written_append maps (x ∷ xs) ys = written_append (insert maps x.id (altered (map_at maps x.id) x.key x.value)) xs ys

gone_index : (maps : FinMap nat_cmp Pairs) (index : ℕ) (key : Bytes) (f : Option Bytes) → map_at (written maps (goes index (entry_in key f))) index ≡ without_entry key f (map_at maps index)
gone_index maps index key None = refl
gone_index maps index key (Some f) = map_here maps index _

gone_main : (maps : FinMap nat_cmp Pairs) (main index : ℕ) (key : Bytes) (f : Option Bytes) → index ≢ main → map_at (written maps (goes index (entry_in key f))) main ≡ map_at maps main
gone_main maps main index key None other = refl
gone_main maps main index key (Some f) other = map_there maps index main _ other

come_index : (maps : FinMap nat_cmp Pairs) (index : ℕ) (key : Bytes) (f : Option Bytes) → map_at (written maps (comes index (entry_in key f))) index ≡ with_entry key f (map_at maps index)
come_index maps index key None = refl
come_index maps index key (Some f) = map_here maps index _

come_main : (maps : FinMap nat_cmp Pairs) (main index : ℕ) (key : Bytes) (f : Option Bytes) → index ≢ main → map_at (written maps (comes index (entry_in key f))) main ≡ map_at maps main
come_main maps main index key None other = refl
come_main maps main index key (Some f) other = map_there maps index main _ other

same_field : (a b : Option Bytes) → option_eq bytes_eq a b ≡ true → a ≡ b
same_field None None e = refl
same_field None (Some b) e = absurd (true≢false (sym e))
same_field (Some a) None e = absurd (true≢false (sym e))
same_field (Some a) (Some b) e = ap (λ x. Some x) ((bytes_eq-Decides a b).0 e)

-- ---- one key

-- the map of the main keyspace has the key's new value then
pub put_main : (field : FieldOf) (main index : ℕ) (maps : FinMap nat_cmp Pairs) (key : Bytes) (old new : Option Bytes) → index ≢ main → map_at (written maps (put_items field main index key old new)) main ≡ altered (map_at maps main) key new
put_main field main index maps key old new other = by (option_eq bytes_eq was becomes)
  where
    was : Option Bytes
    was = field_in field key old

    becomes : Option Bytes
    becomes = field_in field key new

    first : FinMap nat_cmp Pairs
    first = insert maps main (altered (map_at maps main) key new)

    by : (b : Bool) → map_at (written first (if b then [] else (goes index (entry_in key was) ++ comes index (entry_in key becomes)))) main ≡ altered (map_at maps main) key new
    by true = map_here maps main (altered (map_at maps main) key new)
    by false =
        ap (λ n. map_at n main) (written_append first (goes index (entry_in key was)) (comes index (entry_in key becomes)))
        ∙ come_main (written first (goes index (entry_in key was))) main index key becomes other
        ∙ gone_main first main index key was other
        ∙ map_here maps main (altered (map_at maps main) key new)

-- and those of other keyspaces stay
pub put_others : (field : FieldOf) (main index : ℕ) (maps : FinMap nat_cmp Pairs) (key : Bytes) (old new : Option Bytes) (id : ℕ) → id ≢ main → id ≢ index
    → map_at (written maps (put_items field main index key old new)) id ≡ map_at maps id
put_others field main index maps key old new id apart also = by (option_eq bytes_eq was becomes)
  where
    was : Option Bytes
    was = field_in field key old

    becomes : Option Bytes
    becomes = field_in field key new

    first : FinMap nat_cmp Pairs
    first = insert maps main (altered (map_at maps main) key new)

    there : map_at first id ≡ map_at maps id
    there = map_there maps main id (altered (map_at maps main) key new) (λ e. apart (sym e))

    other : index ≢ id
    other e = also (sym e)

    by : (b : Bool) → map_at (written first (if b then [] else (goes index (entry_in key was) ++ comes index (entry_in key becomes)))) id ≡ map_at maps id
    by true = there
    by false =
        ap (λ n. map_at n id) (written_append first (goes index (entry_in key was)) (comes index (entry_in key becomes)))
        ∙ come_main (written first (goes index (entry_in key was))) id index key becomes other
        ∙ gone_main first id index key was other
        ∙ there

-- a key becomes something else in the main keyspace, and its entries in the index
put_keeps : (field : FieldOf) (main index : ℕ) (maps : FinMap nat_cmp Pairs) (key : Bytes) (old new : Option Bytes) → index ≢ main → lookup (map_at maps main) key ≡ old → IsIndexed field main index maps
    → IsIndexed field main index (written maps (put_items field main index key old new))
put_keeps field main index maps key old new other finds indexed = by (option_eq bytes_eq was becomes) refl ∙ ap (index_of field) (sym (put_main field main index maps key old new other))
  where
    m : Pairs
    m = map_at maps main

    was : Option Bytes
    was = field_in field key old

    becomes : Option Bytes
    becomes = field_in field key new

    first : FinMap nat_cmp Pairs
    first = insert maps main (altered m key new)

    there : map_at first index ≡ index_of field m
    there = map_there maps main index (altered m key new) (λ e. other (sym e)) ∙ indexed

    old_field : was ≡ field_in field key (lookup m key)
    old_field = ap (field_in field key) (sym finds)

    changed : map_at (written first (goes index (entry_in key was) ++ comes index (entry_in key becomes))) index ≡ index_of field (altered m key new)
    changed =
        ap (λ n. map_at n index) (written_append first (goes index (entry_in key was)) (comes index (entry_in key becomes)))
        ∙ come_index (written first (goes index (entry_in key was))) index key becomes
        ∙ ap (with_entry key becomes) (gone_index first index key was ∙ ap (without_entry key was) there ∙ ap (λ f. without_entry key f (index_of field m)) old_field)
        ∙ sym (index_altered field m key new)

    by : (b : Bool) → option_eq bytes_eq was becomes ≡ b → map_at (written maps (put_items field main index key old new)) index ≡ index_of field (altered m key new)
    by true e =
        ap (λ c. map_at (written first (if c then [] else (goes index (entry_in key was) ++ comes index (entry_in key becomes)))) index) e
        ∙ there ∙ sym (index_stays field m key new (sym (same_field was becomes e) ∙ old_field))
    by false e = ap (λ c. map_at (written first (if c then [] else (goes index (entry_in key was) ++ comes index (entry_in key becomes)))) index) e ∙ changed

-- what holds of each of some items holds of each of the first, and of the others
parts : {X : Type 0} (P : X → Type 0) (xs ys : List X) → All P (xs ++ ys) → All P xs × All P ys
parts P [] ys all = (All-nil P, all)
parts P (x ∷ xs) ys all =
    let rest = parts P xs ys (All-tail P x (xs ++ ys) all) in
    (All-cons P x xs (All-head P x (xs ++ ys) all) rest.0, rest.1)

abbrev IsSeen : ℕ → (Bytes → Option Bytes) → Pairs → Item → Type 0
IsSeen main seen map one = one.id ≡ main → lookup map one.key ≡ seen one.key

-- items that keep the index still do so with those of one more key behind them
pub one_more_keeps : (field : FieldOf) (main index : ℕ) (items : List Item) (seen : Bytes → Option Bytes) (key : Bytes) (old new : Option Bytes) → index ≢ main
    → ((maps : FinMap nat_cmp Pairs) → AreSeen items main seen (map_at maps main) → lookup (map_at maps main) key ≡ seen key → lookup (map_at (written maps items) main) key ≡ old)
    → KeepsIndex field main index items seen → KeepsIndex field main index (items ++ put_items field main index key old new) seen
one_more_keeps field main index items seen key old new other finds keeps maps all indexed =
    let own = put_items field main index key old new in
    let both = parts (IsSeen main seen (map_at maps main)) items own all in
    let here = All-head (IsSeen main seen (map_at maps main)) (item main key new) (entry_items index key (field_in field key old) (field_in field key new)) both.1 refl in
    subst (IsIndexed field main index) (sym (written_append maps items own))
    (put_keeps field main index (written maps items) key old new other (finds maps both.0 here) (keeps maps both.0 indexed))

-- ---- several keys

-- an item isn't that of this key of the main keyspace
abbrev IsApart : ℕ → Bytes → Item → Type 0
IsApart main key one = one.id ≡ main → one.key ≢ key

entry_apart : (main index : ℕ) (key : Bytes) (bytes value : Option Bytes) → index ≢ main → All (IsApart main key) (entry_item index bytes value)
entry_apart main index key None value other = All-nil (IsApart main key)
entry_apart main index key (Some bytes) value other = All-cons (IsApart main key) (item index bytes value) [] (λ is. absurd (other is)) (All-nil (IsApart main key))

put_apart : (field : FieldOf) (main index : ℕ) (key at : Bytes) (old new : Option Bytes) → index ≢ main → at ≢ key → All (IsApart main key) (put_items field main index at old new)
put_apart field main index key at old new other differs = All-cons (IsApart main key) (item main at new) (entry_items index at was becomes) (λ _. differs) (by (option_eq bytes_eq was becomes))
  where
    was : Option Bytes
    was = field_in field at old

    becomes : Option Bytes
    becomes = field_in field at new

    by : (b : Bool) → All (IsApart main key) (if b then [] else (goes index (entry_in at was) ++ comes index (entry_in at becomes)))
    by true = All-nil (IsApart main key)
    by false =
        All-append (IsApart main key) (goes index (entry_in at was)) (comes index (entry_in at becomes))
        (entry_apart main index key (entry_in at was) None other)
        (entry_apart main index key (entry_in at becomes) (Some []) other)

abbrev Change : Type 0
Change = Bytes × Option Bytes

all_apart : (field : FieldOf) (main index : ℕ) (seen : Bytes → Option Bytes) (key : Bytes) (changes : List Change) → index ≢ main → All (λ change. key ≢ change.0) changes → All (IsApart main key) (all_items field main index seen changes)
all_apart field main index seen key [] other apart = All-nil (IsApart main key)
all_apart field main index seen key (c ∷ cs) other apart =
    All-append (IsApart main key) (put_items field main index c.0 (seen c.0) c.1) (all_items field main index seen cs)
    (put_apart field main index key c.0 (seen c.0) c.1 other (λ e. All-head (λ (change : Change). key ≢ change.0) c cs apart (sym e)))
    (all_apart field main index seen key cs other (All-tail (λ (change : Change). key ≢ change.0) c cs apart))

-- other keys of the main keyspace have what they had
stays : (m : Pairs) (key : Bytes) (new : Option Bytes) (other : Bytes) → other ≢ key → lookup (altered m key new) other ≡ lookup m other
stays m key new other differs = get_altered m key new other ∙ by (eq_by_cmp byte_order other key) refl
  where
    by : (b : Bool) → eq_by_cmp byte_order other key ≡ b → cond (eq_by_cmp byte_order other key) new (lookup m other) ≡ lookup m other
    by true e = absurd (differs (eq_same other key e))
    by false e = ap (λ b. cond b new (lookup m other)) e

still_seen : (main : ℕ) (seen : Bytes → Option Bytes) (m : Pairs) (key : Bytes) (new : Option Bytes) (items : List Item) → All (IsApart main key) items → AreSeen items main seen m → AreSeen items main seen (altered m key new)
still_seen main seen m key new items apart all k d lt is = stays m key new (slice_index_or items k d).key (apart k d lt is) ∙ all k d lt is

first_differs : (c : Change) (cs : List Change) → AllPairs (λ a b. a.0 ≢ b.0) (c ∷ cs) → All (λ change. c.0 ≢ change.0) cs
first_differs c cs pairs k d lt = pairs 0 (suc k) d (omega arith) (omega (arith, lt))

others_differ : (c : Change) (cs : List Change) → AllPairs (λ a b. a.0 ≢ b.0) (c ∷ cs) → AllPairs (λ a b. a.0 ≢ b.0) cs
others_differ c cs pairs i j d lt in' = pairs (suc i) (suc j) d (omega (arith, lt)) (omega (arith, in'))

-- the items of changes of several keys, each of which comes once, keep the index
pub changes_keep : (field : FieldOf) (main index : ℕ) (seen : Bytes → Option Bytes) (changes : List Change) → index ≢ main → AllPairs (λ a b. a.0 ≢ b.0) changes → KeepsIndex field main index (all_items field main index seen changes) seen
changes_keep field main index seen [] other once maps all indexed = indexed
changes_keep field main index seen (c ∷ cs) other once maps all indexed =
    let own = put_items field main index c.0 (seen c.0) c.1 in
    let more = all_items field main index seen cs in
    let both = parts (IsSeen main seen (map_at maps main)) own more all in
    let here = All-head (IsSeen main seen (map_at maps main)) (item main c.0 c.1) (entry_items index c.0 (field_in field c.0 (seen c.0)) (field_in field c.0 c.1)) both.0 refl in
    let next = written maps own in
    subst (IsIndexed field main index) (sym (written_append maps own more))
    (changes_keep field main index seen cs other (others_differ c cs once) next
    (subst (AreSeen more main seen) (sym (put_main field main index maps c.0 (seen c.0) c.1 other))
    (still_seen main seen (map_at maps main) c.0 c.1 more (all_apart field main index seen c.0 cs other (first_differs c cs once)) both.1))
    (put_keeps field main index maps c.0 (seen c.0) c.1 other here indexed))

-- ---- one commit

-- a transaction that meets none since its instant, and whose writes keep the index wherever what it read stands, keeps it at the present
pub commit_keeps : (field : FieldOf) (h : History) (main index : ℕ) → IsChecked h → ChangesByTransactions h.opened h.accepted main
    → (instant : ℕ) (reads : List Mark) → (Conflicts instant reads (commits h) → ⊥)
    → (items : List Item) → AreRead items main reads → KeepsIndex field main index items (λ key. value_at (view h instant) main key)
    → IsIndexed field main index (latest h).maps → IsIndexed field main index (apply (latest h) (Write items)).maps
commit_keeps field h main index checked alone instant reads none items are keeps indexed =
    keeps (latest h).maps
    (All-weaker (λ (one : Item). one.id ≡ main → IsCovered reads main one.key) (IsSeen main (λ key. value_at (view h instant) main key) (map_at (latest h).maps main))
    (λ one read is. sym (present_of h checked main alone instant reads none one.key (read is))) items are)
    indexed

-- ---- crashes

-- what a call leaves: another base, with what is pending then
pub passes_indexed : (field : FieldOf) (main index : ℕ) (base next : Store) (safe all pending : List Command) → IsIndexedAmid field main index base all → kept next ≡ kept (fold base safe) → safe ++ pending ≡ all
    → IsIndexedAmid field main index next pending
passes_indexed field main index base next safe all pending is same parts front rest e =
    subst (λ (s : Store). IsIndexed field main index s.maps)
    (sym (kept_along next (fold base safe) front same ∙ ap kept (sym (fold_append base safe front))))
    (is (safe ++ front) rest (append_assoc safe front rest ∙ ap (λ l. safe ++ l) e ∙ parts))

-- ---- one command more

tail_of : List Command → List Command
tail_of [] = []
tail_of (c ∷ cs) = cs

head_of : Command → List Command → Command
head_of d [] = d
head_of d (c ∷ cs) = c

empty_front : (xs ys : List Command) → xs ++ ys ≡ [] → xs ≡ []
empty_front [] ys e = refl
empty_front (x ∷ xs) ys e = absurd (true≢false (ap (λ (l : List Command). elim l as (λ _. Bool) [ [] ↦ false | x ∷ xs ↦ true ]) e))

-- a beginning of these and one more is a beginning of these, or all of it
split_last : (front rest pending : List Command) (c : Command) → front ++ rest ≡ pending ++ c ∷ [] → ((left : List Command) × (front ++ left ≡ pending)) ⊎ (front ≡ pending ++ c ∷ [])
unfolding tail_of head_of
split_last [] rest pending c e = inl (pending, refl)
split_last (f ∷ front) rest [] c e =
    let none = empty_front front rest (ap tail_of e) in
    inr (λ i. ap (head_of c) e i ∷ none i)
split_last (f ∷ front) rest (p ∷ pending) c e =
    let first : f ≡ p = ap (head_of f) e in
    elim (split_last front rest pending c (ap tail_of e)) [
      | inl (left, is) ↦ inl (left, λ i. first i ∷ is i)
      | inr is ↦ inr (λ i. first i ∷ is i)
    ]

-- where base and pending make the present, and the present is indexed behind one command more, so is whatever a crash leaves of all these
pub change_indexed : (field : FieldOf) (main index : ℕ) (base present : Store) (pending : List Command) (c : Command) → IsIndexedAmid field main index base pending → kept (fold base pending) ≡ kept present
    → IsIndexed field main index (kept (apply present c)).maps → IsIndexedAmid field main index base (pending ++ c ∷ [])
change_indexed field main index base present pending c amid same is front rest e = elim (split_last front rest pending c e) [
  | inl (left, part) ↦ amid front left part
  | inr whole ↦ subst (λ (s : Store). IsIndexed field main index s.maps)
      (sym (ap (λ l. kept (fold base l)) whole ∙ ap kept (fold_append base pending (c ∷ [])) ∙ kept_along (fold base pending) present (c ∷ []) same)) is
]

-- what is indexed stays so where what deleted keyspaces leave is given up, while both keyspaces live
pub kept_indexed : (field : FieldOf) (main index : ℕ) (s : Store) → contains_key s.names main ≡ true → contains_key s.names index ≡ true → IsIndexed field main index s.maps → IsIndexed field main index (kept s).maps
kept_indexed field main index s lives also is = kept_map s index also ∙ is ∙ ap (index_of field) (sym (kept_map s main lives))
