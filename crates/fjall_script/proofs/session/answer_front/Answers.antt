use Rattle.fjall_script.proofs.Fronts.{answered_front}
use Rattle.fjall_script.proofs.session.answer_front.Goals as goal

pub returns-clause-ok : goal.returns-clause-ok
returns-clause-ok g c =
    answered_front g.D.Disk.honest c.args.earlier c.args.commands.now c.split_at.result.0.now c.split_at.result.1.now c.first_stop.result c.unwrap_or-end.result c.args.core.now.engine c.args.core.now.transactions c.run.new.core.engine c.run.new.core.transactions
    c.in_ok-calls.field-0 c.as_slice.result.now c.in_ok-replies.replies.items c.as_slice-2.result.now _ _ c.first_stop.ensures c.unwrap_or-end.ensures c.split_at.ensures.front c.split_at.ensures.back c.in_ok-calls.ensures.ok
    c.in_ok-replies.ensures.runs c.as_slice.ensures.value c.as_slice-2.ensures.value c.in_ok-text.ensures c.asked_in.ensures
