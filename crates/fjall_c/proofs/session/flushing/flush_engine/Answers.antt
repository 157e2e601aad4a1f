use Rattle.std.proofs.Common.{List, refl, ap, ◌∙◌}
use Rattle.fjall_history.specs.declared.reply.Reply.{Reply}
use Rattle.fjall_c.specs.Openings.{first_refusal}
use Rattle.fjall_c.proofs.Opening.{flushed_so}
use Rattle.fjall_c.proofs.session.flushing.flush_engine.Goals as goal

pub returns : goal.returns
returns c =
    let ran = c.in_ok-replies.ensures in
    flushed_so c.args.id c.args.engine.now c.run.new.self c.first_refusal.result c.in_ok-calls.calls.items c.in_ok-replies.replies.items c.in_ok-calls.ensures.ok
    (c.first_refusal.ensures ∙ ap (λ (l : List Reply). first_refusal l) c.deref.ensures.value) (ran.runs refl) (ran.crash refl) ran.owes
