-- The next number after a change of the keyspaces.
use Rattle.std.proofs.Common.{◌≡◌, inl, inr, ℕ, ◌+◌, ◌≤◌, ◌==◌, Bool, true, false, cond, not, max, List, [], ◌∷◌, ◌++◌, map, filter, Option, None, Some, ◌∙◌, ap, arith}
use Rattle.std.specs.Cmp.{nat_cmp_total}
use Rattle.std.specs.FinMap.{get, insert, remove, get-remove}
use Rattle.std.specs.Ordering.{nat_cmp, eq_by_cmp}
use Rattle.std.proofs.lemmas.Bool.Decides.{nat_tests}
use Rattle.fjall_base.proofs.Names.{bool_cases}
use Rattle.fjall_journal.specs.Batches.{shown}
use Rattle.fjall_manifest.specs.Homes.{Home}
use Rattle.fjall_meta.specs.declared.living.LivingKeyspace.{LivingKeyspace}
use Rattle.fjall_manifest.specs.declared.catalog.Catalog.{Catalog}
use Rattle.fjall_manifest.specs.Catalog.{fields}
use Rattle.fjall_meta.specs.Replays.{least_after}
use Rattle.fjall_recovery.specs.Folders.{number_of_contents, past, past_record, past_records}
use Rattle.fjall_recovery.specs.Journals.{batches_in}
use Rattle.fjall_meta.proofs.Slots.{get_put}
use Rattle.fjall_recovery.specs.Halves.{Tree}
use Rattle.fjall_recovery.specs.Homes.{Homes, last_in, lasts}
use Rattle.fjall_recovery.specs.Places.{Journaling, contents_with, journals_with}
use Rattle.fjall_changes.specs.Changes.{first_home, with_home, without_home}

-- what the last record at an id knows, once a home was put into the map
put_past : (homes : Homes) (id : ℕ) (h : Home) (k : ℕ) → past_record (last_in (get (insert homes id h) k)) ≤ max (past_record (last_in (get homes k))) (past_record h.last)
put_past homes id h k = of (k == id) (get_put homes id h k)
  where
    of : (b : Bool) → get (insert homes id h) k ≡ cond b (Some h) (get homes k) → past_record (last_in (get (insert homes id h) k)) ≤ max (past_record (last_in (get homes k))) (past_record h.last)
    of true is = let at = ap (λ (o : Option Home). past_record (last_in o)) is in omega (arith, at)
    of false is = let at = ap (λ (o : Option Home). past_record (last_in o)) is in omega (arith, at)

-- one keyspace more, with its home
more_past : (homes : Homes) (k : LivingKeyspace) (h : Home) (living : List LivingKeyspace) → past_records (lasts (living ++ k ∷ []) (insert homes k.id h)) ≤ max (past_records (lasts living homes)) (past_record h.last)
more_past homes k h [] =
    let itself : (k.id == k.id) ≡ true = grind (arith, nat_tests) in
    let own : get (insert homes k.id h) k.id ≡ Some h = get_put homes k.id h k.id ∙ ap (λ b. cond b (Some h) (get homes k.id)) itself in
    let at = ap (λ (o : Option Home). past_record (last_in o)) own in
    omega (arith, at)
more_past homes k h (j ∷ living) = let first = put_past homes k.id h j.id in let rest = more_past homes k h living in omega (arith, first, rest)

-- what the last record at an id knows, once one was taken out of the map
removed_past : (homes : Homes) (id k : ℕ) → past_record (last_in (get (remove homes id) k)) ≤ past_record (last_in (get homes k))
removed_past homes id k = of (eq_by_cmp nat_cmp k id) (get-remove nat_cmp_total homes id k)
  where
    of : (b : Bool) → get (remove homes id) k ≡ cond b None (get homes k) → past_record (last_in (get (remove homes id) k)) ≤ past_record (last_in (get homes k))
    of true is = let at = ap (λ (o : Option Home). past_record (last_in o)) is in omega (arith, at)
    of false is = let at = ap (λ (o : Option Home). past_record (last_in o)) is in omega (arith, at)

-- the keyspaces but one
fewer_past : (id : ℕ) (living : List LivingKeyspace) (homes : Homes) → past_records (lasts (filter (λ k. not (k.id == id)) living) (remove homes id)) ≤ past_records (lasts living homes)
fewer_past id [] homes = omega arith
fewer_past id (k ∷ living) homes = elim (bool_cases (k.id == id)) [
  | inl is ↦ let rest = fewer_past id living homes in rw is (omega (arith, rest))
  | inr other ↦ let rest = fewer_past id living homes in let first = removed_past homes id k.id in rw other (omega (arith, first, rest))
]

-- the record of a change knows its number
change_past : (c : Catalog) (number : ℕ) → c.persisted ≡ Some number → c.highest ≡ Some number → past_record (fields c) ≡ number + 1
change_past c number persisted highest = let a = ap past persisted in let b = ap past highest in omega (arith, a, b)

-- the least number behind the synced batches
abbrev pub least_in : Journaling → ℕ
least_in j = least_after 0 (map shown (batches_in (journals_with j [])))

pub created_number : (j : Journaling) (t : Tree) (name : List ℕ) (options : List (List ℕ)) (number : ℕ) (c : Catalog) → c.persisted ≡ Some number → c.highest ≡ Some number → number_of_contents (contents_with j t []) ≤ number
    → number_of_contents (contents_with j (with_home name options number c t) []) ≤ number + 1
created_number j t name options number c persisted highest is =
    let last = change_past c number persisted highest in
    let more = more_past t.homes (record { id = t.keyspaces.next; number = number; name = name; options = options }) (first_home number) t.keyspaces.living in
    omega (arith, last, more, is)

pub deleted_number : (j : Journaling) (t : Tree) (id number : ℕ) (c : Catalog) → c.persisted ≡ Some number → c.highest ≡ Some number → number_of_contents (contents_with j t []) ≤ number
    → number_of_contents (contents_with j (without_home id c t) []) ≤ number + 1
deleted_number j t id number c persisted highest is =
    let last = change_past c number persisted highest in
    let fewer = fewer_past id t.keyspaces.living t.homes in
    omega (arith, last, fewer, is)

-- what lies below the next number
pub below_number : (j : Journaling) (t : Tree) (number : ℕ) → number_of_contents (contents_with j t []) ≤ number → (least_in j ≤ number) × (past_record (fields t.last) ≤ number)
below_number j t number is = (omega (arith, is), omega (arith, is))
