use Rattle.std.proofs.Common.{rules, eqb}
use Rattle.std.specs.Cmp.{nat_eq_equiv, unsigned_Decides}
use Rattle.std.specs.HashSet as bag
use Rattle.std.proofs.lemmas.Map.Made.{hash_set_len-Decides}
use Rattle.fjall_manifest.proofs.consistency.are_different.Goals as goal

-- the set has as many numbers as the list exactly where no two are the same
pub returns-clause-gives : goal.returns-clause-gives
returns-clause-gives c =
    let made : bag.IsFromIterResult eqb c.args.numbers.now c.in_ok-set.set = search rules in
    rw c.len.ensures.len (hash_set_len-Decides unsigned_Decides nat_eq_equiv c.args.numbers.now c.in_ok-set.set made)
