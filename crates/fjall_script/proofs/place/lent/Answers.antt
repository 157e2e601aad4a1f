use Rattle.std.proofs.Common.{ap, ◌∙◌, map, arith}
use Rattle.std.proofs.lemmas.List.{take_all}
use Rattle.fjall_lines.specs.Fills.{named_bytes}
use Rattle.fjall_script.proofs.Lending.{next_lent}
use Rattle.fjall_script.proofs.place.lent.Goals as goal

pub loop-path-preserved : goal.loop-path-preserved
loop-path-preserved c =
    next_lent _ c.loop-path.lent.items _ c.loop-path.path-index c.loop-path-item.result _ c.loop-path-test.true c.loop-path-item.is c.loop-path.invariant c.as_str.ensures.value c.as_slice.ensures c.in_ok-push.ensures.items

pub returns : goal.returns
returns c = c.loop-path.invariant ∙ ap (map named_bytes) (take_all c.loop-path.path-index c.as_slice-kept.result.now (omega arith)) ∙ c.as_slice-kept.ensures
