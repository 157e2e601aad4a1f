-- Versions in order: sorting puts them so, and keeps them.
use Rattle.std.proofs.Common.{◌≡◌, ℕ, Bool, true, false, ◌||◌, List, [], ◌∷◌, refl, sym, ap, ◌∙◌}
use Rattle.std.specs.List.{list_any, AllByRecursion}
use Rattle.std.specs.Cmp.{IsTotalOrder}
use Rattle.std.specs.Ordering.{nat_cmp, ordering_then, ordering_reverse, match_ordering}
use Rattle.std.specs.declared.cmp.Ordering.{Ordering}
use Rattle.std.specs.declared.cmp.Ordering.TheVariants.{Less, Equal, Greater}
use Rattle.std.proofs.lemmas.Bool.{true≢false, or_parts}
use Rattle.std.proofs.lemmas.Cmp.{ranked, on_total}
use Rattle.fjall_base.specs.Pairs.{byte_order}
use Rattle.fjall_table.specs.Blocks.{Entry, StandsBefore, IsBefore, IsOrdered}
use Rattle.fjall_memtable.specs.Stamps.{Stamp, stamp_cmp, stamp_total}
use Rattle.fjall_memtable.specs.Entries.{stamp_of, inserted}
use Rattle.fjall_memtable.proofs.Fronts.{less}
use Rattle.fjall_memtable.proofs.Orders.{same_stamp}
use Rattle.fjall_memtable.specs.Jobs.{OnceEach, Same, is_at}
use Rattle.fjall_memtable.proofs.Sameness.{at-from}
use Rattle.fjall_memtable.specs.Sorted.{sorted}

-- ---- one before another

-- how two versions compare
abbrev pub order : Entry → Entry → Ordering
order v w = stamp_cmp (stamp_of v) (stamp_of w)

-- this orders all versions but those of one key and number
pub order_total : IsTotalOrder order
order_total = on_total stamp_of stamp_total

-- by what the keys compare as
from_less : (o : Ordering) (n m : ℕ) → ordering_then o (nat_cmp m n) ≡ Less → StandsBefore o n m
from_less Less n m e = tt
from_less Equal n m e = ranked m n Less (sym e)
from_less Greater n m e = absurd cc

to_less : (o : Ordering) (n m : ℕ) → StandsBefore o n m → ordering_then o (nat_cmp m n) ≡ Less
to_less Less n m h = refl
to_less Equal n m h = less m n h
to_less Greater n m h = absurd h

-- what compares as less is before
pub before_from : (v w : Entry) → order v w ≡ Less → IsBefore v w
before_from v w e = from_less (byte_order v.key w.key) v.number w.number e

-- what is before compares as less
pub less_from : (v w : Entry) → IsBefore v w → order v w ≡ Less
less_from v w h = to_less (byte_order v.key w.key) v.number w.number h

-- and from the other side as greater
pub greater_from : (v w : Entry) → IsBefore v w → order w v ≡ Greater
greater_from v w h = order_total.antisymm w v ∙ ap ordering_reverse (less_from v w h)

-- what compares as greater is behind
pub behind_from : (v w : Entry) → order v w ≡ Greater → IsBefore w v
behind_from v w e = before_from w v (order_total.antisymm w v ∙ ap ordering_reverse e)

pub before_trans : (v w u : Entry) → IsBefore v w → IsBefore w u → IsBefore v u
before_trans v w u h k = before_from v u (order_total.trans v w u (less_from v w h) (less_from w u k))

-- what compares as equal has the key and number
pub tied : (v w : Entry) → order v w ≡ Equal → is_at v w ≡ true
tied v w e =
    let s = same_stamp (stamp_of v) (stamp_of w) e in
    at-from v w (sym (ap (λ (s : Stamp). s.key) s)) (sym (ap (λ (s : Stamp). s.number) s))

-- ---- lists in order

-- what each has, and what follows from it
pub all_weaker : {X : Type 0} (P Q : X → Type 0) (xs : List X) → ((x : X) → P x → Q x) → AllByRecursion P xs → AllByRecursion Q xs
all_weaker P Q [] f each = tt
all_weaker P Q (x ∷ xs) f each = (f x each.0, all_weaker P Q xs f each.1)

-- each version is before all that follow
abbrev pub IsChain : List Entry → Type 0
IsChain [] = Unit {0}
IsChain (v ∷ vs) = AllByRecursion (IsBefore v) vs × IsChain vs

-- in order each is before all that follow, not only before the next one
pub chain_of : (versions : List Entry) → IsOrdered versions → IsChain versions
chain_of [] up = tt
chain_of (v ∷ []) up = (tt, tt)
chain_of (v ∷ w ∷ vs) up =
    let more = chain_of (w ∷ vs) up.1 in
    ((up.0, all_weaker (IsBefore w) (IsBefore v) vs (λ u h. before_trans v w u up.0 h) more.0), more)

-- and back
pub ordered_of : (versions : List Entry) → IsChain versions → IsOrdered versions
ordered_of [] up = tt
ordered_of (v ∷ []) up = tt
ordered_of (v ∷ w ∷ vs) up = (up.0.0, ordered_of (w ∷ vs) up.1)

-- ---- one more version

-- what it and all others have, all have with it
pub all_inserted : (P : Entry → Type 0) (v : Entry) (vs : List Entry) → P v → AllByRecursion P vs → AllByRecursion P (inserted v vs)
all_inserted P v [] h each = (h, tt)
all_inserted P v (w ∷ vs) h each = by (order v w) (all_inserted P v vs h each.1)
  where
    by : (o : Ordering) → AllByRecursion P (inserted v vs) → AllByRecursion P (match_ordering o (v ∷ w ∷ vs) (v ∷ vs) (w ∷ inserted v vs))
    by Less more = (h, each)
    by Equal more = (h, each.1)
    by Greater more = (each.0, more)

-- one that is before all others comes first
pub inserted_first : (v : Entry) (vs : List Entry) → AllByRecursion (IsBefore v) vs → inserted v vs ≡ v ∷ vs
inserted_first v [] each = refl
inserted_first v (w ∷ vs) each = ap (λ (o : Ordering). match_ordering o (v ∷ w ∷ vs) (v ∷ vs) (w ∷ inserted v vs)) (less_from v w each.0)

-- one that is behind the first comes among the others
pub inserted_behind : (u v : Entry) (vs : List Entry) → IsBefore v u → inserted u (v ∷ vs) ≡ v ∷ inserted u vs
inserted_behind u v vs h = ap (λ (o : Ordering). match_ordering o (u ∷ v ∷ vs) (u ∷ vs) (v ∷ inserted u vs)) (greater_from v u h)

-- the order stays
pub inserted_chain : (v : Entry) (vs : List Entry) → IsChain vs → IsChain (inserted v vs)
inserted_chain v [] up = (tt, tt)
inserted_chain v (w ∷ vs) up = by (order v w) refl (inserted_chain v vs up.1)
  where
    by : (o : Ordering) → order v w ≡ o → IsChain (inserted v vs) → IsChain (match_ordering o (v ∷ w ∷ vs) (v ∷ vs) (w ∷ inserted v vs))
    by Less e more = let h = before_from v w e in ((h, all_weaker (IsBefore w) (IsBefore v) vs (λ u k. before_trans v w u h k) up.0), up)
    by Equal e more = (all_weaker (IsBefore w) (IsBefore v) vs (λ u k. before_from v u (order_total.congr v w u e ∙ less_from w u k)) up.0, up.1)
    by Greater e more = (all_inserted (IsBefore w) v vs (behind_from v w e) up.0, more)

-- where none has its key and number, no other is lost
pub inserted_same : (v : Entry) (vs : List Entry) (test : Entry → Bool) → list_any (is_at v) vs ≡ false → list_any test (inserted v vs) ≡ (test v || list_any test vs)
inserted_same v [] test apart = refl
inserted_same v (w ∷ vs) test apart = by (order v w) refl (inserted_same v vs test (or_parts (is_at v w) (list_any (is_at v) vs) apart).1)
  where
    swap : (a b d : Bool) → (a || (b || d)) ≡ (b || (a || d))
    swap true true d = refl
    swap true false d = refl
    swap false true d = refl
    swap false false d = refl

    by : (o : Ordering) → order v w ≡ o → list_any test (inserted v vs) ≡ (test v || list_any test vs)
        → list_any test (match_ordering o (v ∷ w ∷ vs) (v ∷ vs) (w ∷ inserted v vs)) ≡ (test v || (test w || list_any test vs))
    by Less e more = refl
    by Equal e more = absurd (true≢false (sym (tied v w e) ∙ (or_parts (is_at v w) (list_any (is_at v) vs) apart).0))
    by Greater e more = ap (λ b. test w || b) more ∙ swap (test w) (test v) (list_any test vs)

-- ---- all of them

-- what each has, each has in order
pub all_sorted : (P : Entry → Type 0) (vs : List Entry) → AllByRecursion P vs → AllByRecursion P (sorted vs)
all_sorted P [] each = tt
all_sorted P (v ∷ vs) each = all_inserted P v (sorted vs) each.0 (all_sorted P vs each.1)

-- sorting puts them in order
pub sorted_chain : (versions : List Entry) → IsChain (sorted versions)
sorted_chain [] = tt
sorted_chain (v ∷ versions) = inserted_chain v (sorted versions) (sorted_chain versions)

pub sorted_ordered : (versions : List Entry) → IsOrdered (sorted versions)
sorted_ordered versions = ordered_of (sorted versions) (sorted_chain versions)

-- and keeps them, where no key and number stands twice
pub sorted_same : (versions : List Entry) → OnceEach versions → Same (sorted versions) versions
sorted_same [] once test = refl
sorted_same (v ∷ versions) once test =
    inserted_same v (sorted versions) test (sorted_same versions once.1 (is_at v) ∙ once.0) ∙ ap (λ b. test v || b) (sorted_same versions once.1 test)

-- what is in order already stays as it is
chain_already : (versions : List Entry) → IsChain versions → sorted versions ≡ versions
chain_already [] up = refl
chain_already (v ∷ versions) up = ap (inserted v) (chain_already versions up.1) ∙ inserted_first v versions up.0

pub sorted_already : (versions : List Entry) → IsOrdered versions → sorted versions ≡ versions
sorted_already versions up = chain_already versions (chain_of versions up)
