use Rattle.std.proofs.Common.{ap, sym, ◌∙◌}
use Rattle.std.specs.FinMap as fin
use Rattle.fjall_tx.specs.Owns.{Own, key_of}
use Rattle.fjall_tx.proofs.Keys.{same_get}
use Rattle.fjall_tx.proofs.own_writes.OwnWrites.get.Goals as goal

pub returns : goal.returns
returns c =
    let q = key_of c.args.id c.args.key in
    c.get.ensures.value ∙ sym (same_get c.self.inside.writes.entries q) ∙ ap (λ (own : Own). fin.get own q) c.self.view_is
