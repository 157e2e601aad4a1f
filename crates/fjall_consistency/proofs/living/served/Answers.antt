use Rattle.std.proofs.Common.{Err, refl, sym, ap, subst, ◌∙◌}
use Rattle.fjall_base.specs.Crash.{IsHoused}
use Rattle.fjall_base.specs.Disk.{Meaning, state_in}
use Rattle.fjall_consistency.specs.Links.{Leaves}
use Rattle.fjall_consistency.proofs.Lasting.{none_served, run_served, used_up}
use Rattle.fjall_consistency.proofs.living.served.Goals as goal

pub returns-in-Ok : goal.returns-in-Ok
returns-in-Ok g c = λ h.
    run_served g.D.Disk.honest h c.args.core.engine c.run.new.core.engine c.args.core.transactions c.run.new.core.transactions c.args.life (record { replies = c.in-Ok.replies; closed = c.ended-closed.result.0 }) c.ended-closed.result.0
    (g.D.Disk.meaning c.ended-closed.result.1) c.in-Ok.ensures.runs refl c.ended-closed.ensures.asked (c.ended-closed.ensures.ends h)

pub returns-in-Err : goal.returns-in-Err
returns-in-Err g c = λ h none start same opens.
    let kept_so = ap (λ k. k.engine) c.in-Err.ensures.err in
    let housed = subst (λ k. IsHoused (state_in k.disk)) kept_so (c.into_disk.ensures.housed h) in
    subst (λ (m : Meaning). Leaves start c.args.life (Err c.in-Err.error) m) (sym (c.into_disk.ensures.disk ∙ ap (λ k. k.disk) kept_so))
    (none_served c.args.core.engine start c.args.life c.in-Err.error (used_up c.in-Err.error c.in-Err.ensures.only) same opens housed)
