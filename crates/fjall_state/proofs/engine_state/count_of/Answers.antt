use Rattle.std.proofs.Common.{◌∙◌, ap, unwrap_or}
use Rattle.fjall_machine.proofs.Counting.{same_count}
use Rattle.fjall_state.proofs.engine_state.count_of.Goals as goal

pub returns : goal.returns
returns c = same_count c.args.handles.now c.args.id c.unwrap_or.result (c.unwrap_or.ensures ∙ ap (λ o. unwrap_or o 0) (c.copied.ensures ∙ c.get.ensures.value))
