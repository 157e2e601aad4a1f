use Rattle.std.proofs.Common.{sym, ◌∙◌}
use Rattle.std.specs.Int.{w128, to_be_bytes}
use Rattle.fjall_table.proofs.Fronts.{fronts_decide}
use Rattle.fjall_table.proofs.owned_handle.OwnedHandle.compare.Goals as goal

pub returns-then-is_ne : goal.returns-then-is_ne
returns-then-is_ne c =
    let h = c.args.self.now in
    let s = c.args.sought.now in
    fronts_decide c.compare_numbers-order.result (to_be_bytes w128 h.front) (to_be_bytes w128 s.front) h.first_key s.key.now h.fronts s.fronts c.compare_numbers-order.ensures (sym c.is_ne.ensures ∙ c.if-is_ne.true)
