use Rattle.std.proofs.Common.{rules}
use Rattle.std.specs.Ordering.{is_lt}
use Rattle.std.proofs.lemmas.List.Sorted.{answers_always}
use Rattle.fjall_base.specs.Pairs.{byte_order}
use Rattle.fjall_reading.specs.Ingestions.{KeyOp}
use Rattle.fjall_machine.proofs.Ascending.{ascend_is}
use Rattle.fjall_state.proofs.ingestions.do_ascend.Goals as goal

pub returns : goal.returns
returns c =
    ascend_is c.args.items.now c.is_sorted_by.result
    (c.is_sorted_by.ensures.cases (λ (item next : KeyOp). is_lt (byte_order item.0 next.0)) (answers_always _ _ _ (λ f a r g h. search rules)))
