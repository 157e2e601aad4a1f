-- Orderings of which the first that isn't equal counts.
use Rattle.std.proofs.Common.{◌≡◌, refl, arith}
use Rattle.std.specs.Ordering.{nat_cmp, ordering_then}
use Rattle.std.specs.declared.cmp.Ordering.{Ordering}
use Rattle.std.specs.declared.cmp.Ordering.TheVariants.{Less, Equal, Greater}
use Rattle.std.proofs.lemmas.Bool.Decides.{nat_tests}
use Rattle.std.proofs.Common.{ℕ, suc}

pub then_assoc : (a b c : Ordering) → ordering_then (ordering_then a b) c ≡ ordering_then a (ordering_then b c)
then_assoc Less b c = refl
then_assoc Equal b c = refl
then_assoc Greater b c = refl

pub zero_first : (b : ℕ) → nat_cmp 0 (suc b) ≡ Less
zero_first b = grind (arith, nat_tests)

pub zero_last : (b : ℕ) → nat_cmp (suc b) 0 ≡ Greater
zero_last b = grind (arith, nat_tests)
