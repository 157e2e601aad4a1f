-- The pairs of a map: each stands in it under its key.
use Rattle.std.proofs.Common.{◌≡◌, true, false, cond, List, [], ◌∷◌, Some, refl, ◌∙◌, ap}
use Rattle.std.specs.Prelude.{T}
use Rattle.std.specs.Ordering.{eq_by_cmp, is_eq, is_lt}
use Rattle.std.specs.FinMap.Entries.{below_all, is_sorted}
use Rattle.std.specs.Cmp.{tied_itself}
use Rattle.std.specs.Cmp.Lexicographic.{nat_list_cmp_total}
use Rattle.std.specs.FinMap.{entries, entries_sorted, find, get-entries, nat_cmp-IsAntisymmetric, slice_cmp-IsAntisymmetric}
use Rattle.std.specs.declared.cmp.Ordering.{Ordering}
use Rattle.std.specs.declared.cmp.Ordering.TheVariants.{Less, Equal, Greater}
use Rattle.std.proofs.lemmas.Bool.{true≢false}
use Rattle.std.proofs.Common.{sym}
use Rattle.fjall_base.specs.Pairs.{Bytes, Pairs, byte_order, lookup}
use Rattle.fjall_tx.proofs.Merges.{first, greater, less, second}

-- ---- bytes that tie

pub same_bytes : (a b : Bytes) → byte_order a b ≡ Equal → a ≡ b
same_bytes = slice_cmp-IsAntisymmetric nat_cmp-IsAntisymmetric

tied : (o : Ordering) → is_eq o ≡ true → o ≡ Equal
tied Less e = absurd (true≢false (sym e))
tied Equal e = refl
tied Greater e = absurd (true≢false (sym e))

pub eq_same : (a b : Bytes) → eq_by_cmp byte_order a b ≡ true → a ≡ b
eq_same a b e = same_bytes a b (tied (byte_order a b) e)

pub eq_itself : (a : Bytes) → eq_by_cmp byte_order a a ≡ true
eq_itself a = ap is_eq (tied_itself nat_list_cmp_total a)

-- ---- pairs of a map

-- each of these pairs is found in the list by its key
abbrev AreFound : List (Bytes × Bytes) → List (Bytes × Bytes) → Type 0
AreFound whole [] = Unit {0}
AreFound whole (p ∷ ps) = (find byte_order p.0 whole ≡ Some p.1) × AreFound whole ps

-- a later key isn't the first one
apart : (a b : Bytes) → T (is_lt (byte_order a b)) → eq_by_cmp byte_order b a ≡ false
apart a b h = ap is_eq (greater byte_order nat_list_cmp_total a b (less (byte_order a b) h))

later : (e : Bytes × Bytes) (whole ps : List (Bytes × Bytes)) → T (below_all byte_order e.0 ps) → AreFound whole ps → AreFound (e ∷ whole) ps
later e whole [] h found = tt
later e whole (p ∷ ps) h found = (
  ap (λ b. cond b (Some e.1) (find byte_order p.0 whole)) (apart e.0 p.0 (first (is_lt (byte_order e.0 p.0)) (below_all byte_order e.0 ps) h)) ∙ found.0,
  later e whole ps (second (is_lt (byte_order e.0 p.0)) (below_all byte_order e.0 ps) h) found.1,
)

all_found : (es : List (Bytes × Bytes)) → T (is_sorted byte_order es) → AreFound es es
all_found [] h = tt
all_found (e ∷ es) h = (
  ap (λ b. cond b (Some e.1) (find byte_order e.0 es)) (eq_itself e.0),
  later e es es (first (below_all byte_order e.0 es) (is_sorted byte_order es) h) (all_found es (second (below_all byte_order e.0 es) (is_sorted byte_order es) h)),
)

-- each of these pairs stands in the map
abbrev pub AreOf : Pairs → List (Bytes × Bytes) → Type 0
AreOf m [] = Unit {0}
AreOf m (p ∷ ps) = (lookup m p.0 ≡ Some p.1) × AreOf m ps

of_map : (m : Pairs) (ps : List (Bytes × Bytes)) → AreFound (entries m) ps → AreOf m ps
of_map m [] found = tt
of_map m (p ∷ ps) found = (get-entries m p.0 ∙ found.0, of_map m ps found.1)

pub all_stand : (m : Pairs) → AreOf m (entries m)
all_stand m = of_map m (entries m) (all_found (entries m) (entries_sorted m))
