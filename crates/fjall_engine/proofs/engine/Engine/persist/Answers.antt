use Rattle.std.proofs.Common.{refl, sym, ◌∙◌, ap, subst}
use Rattle.fjall_machine.specs.Shapes.{OfPersist}
use Rattle.fjall_history.specs.declared.reply.Reply.TheVariants.{Done, Refused}
use Rattle.fjall_base.specs.declared.error.Error.TheVariants.{Poisoned}
use Rattle.fjall_engine.specs.Holding.{Held}
use Rattle.fjall_engine.specs.Crashes.{BlamesDevice}
use Rattle.fjall_engine.specs.Standing.{Serves, StandsOn}
use Rattle.fjall_engine.proofs.DeviceFaults.{fault_blames, refusal_blames, served_on}
use Rattle.fjall_changes.proofs.KeptHomes.{persisted_homes, unpersisted_homes}
use Rattle.fjall_engine.proofs.Persists.{ill_due, persisted_serves, unpersisted_serves}
use Rattle.fjall_engine.proofs.ServedCalls.{due_serves}
use Rattle.fjall_engine.proofs.engine.Engine.persist.Goals as goal

pub returns-then-is_poisoned-clause-serves : goal.returns-then-is_poisoned-clause-serves
returns-then-is_poisoned-clause-serves g c = λ h.
    due_serves c.args.self.now (OfPersist c.args.mode) Poisoned (ill_due c.args.self.now c.args.mode (ap (λ (core : Held). core.memory.poisoned) (sym c.self.view_is) ∙ sym c.is_poisoned.ensures ∙ c.if-is_poisoned.true))

pub returns-in-Ok-clause-serves : goal.returns-in-Ok-clause-serves
returns-in-Ok-clause-serves g c = λ h.
    let m = g.D.Disk.meaning in
    let old : Held = record { disk = m c.self.inside.disk; journal = c.self.inside.journal; catalog = c.self.inside.catalog; memory = c.self.inside.memory } in
    let new : Held = record { disk = m c.sync_journal.new.disk; journal = c.sync_journal.new.journal; catalog = c.self.inside.catalog; memory = c.self.inside.memory } in
    subst (λ (core : Held). Serves core (OfPersist c.args.mode) Done new) c.self.view_is
    (persisted_serves old new c.args.mode (sym c.is_poisoned.ensures ∙ c.if-is_poisoned.false) (record { memory_is = refl; catalog = refl; journal = c.in-Ok.ensures.ok; faults = c.in-Ok.ensures.cause.later }) (c.in-Ok.ensures.took h)
    (record { leaves = c.in-Ok.ensures.any_moment h; lies = λ _. c.in-Ok.ensures.lies h; elsewhere = c.in-Ok.ensures.elsewhere h; homes = λ out. persisted_homes old.journal old.disk new.disk out c.args.mode (c.in-Ok.ensures.took h); served = c.in-Ok.ensures.served h; kinds = c.in-Ok.ensures.kinds h; took = λ _. c.in-Ok.ensures.took h; left = λ e. let bad : ⊥ = cc in absurd bad }))

pub returns-in-Err-clause-serves : goal.returns-in-Err-clause-serves
returns-in-Err-clause-serves g c = λ h.
    let m = g.D.Disk.meaning in
    let old : Held = record { disk = m c.self.inside.disk; journal = c.self.inside.journal; catalog = c.self.inside.catalog; memory = c.self.inside.memory } in
    let new : Held = record { disk = m c.sync_journal.new.disk; journal = c.sync_journal.new.journal; catalog = c.self.inside.catalog; memory = c.poison.new.self } in
    subst (λ (core : Held). Serves core (OfPersist c.args.mode) (Refused c.in-Err.error) new) c.self.view_is
    (unpersisted_serves old new c.args.mode c.in-Err.error (sym c.is_poisoned.ensures ∙ c.if-is_poisoned.false) c.poison.ensures c.in-Err.ensures.cause.cause (c.in-Err.ensures.left h)
    (record { leaves = c.in-Err.ensures.any_moment h; lies = λ e. let bad : ⊥ = cc in absurd bad; elsewhere = c.in-Err.ensures.elsewhere h; homes = λ out. unpersisted_homes old.journal old.disk new.disk out new.journal c.args.mode (c.in-Err.ensures.left h); served = c.in-Err.ensures.served h; kinds = c.in-Err.ensures.kinds h; took = λ e. let bad : ⊥ = cc in absurd bad; left = λ _. c.in-Err.ensures.left h }))

-- ---- which calls the disk could serve

pub returns-then-is_poisoned-clause-device : goal.returns-then-is_poisoned-clause-device
returns-then-is_poisoned-clause-device g c = λ h s d stands on. refusal_blames Poisoned c.args.self.now.disk refl

pub returns-in-Ok-clause-device : goal.returns-in-Ok-clause-device
returns-in-Ok-clause-device g c = λ h s d stands on.
    let m = g.D.Disk.meaning in
    let old : Held = record { disk = m c.self.inside.disk; journal = c.self.inside.journal; catalog = c.self.inside.catalog; memory = c.self.inside.memory } in
    let new = m c.sync_journal.new.disk in
    subst (λ (core : Held). StandsOn core s.parts.entries d → BlamesDevice Done core.disk new) c.self.view_is
    (λ here. served_on s.parts.entries old new d (sym c.is_poisoned.ensures ∙ c.if-is_poisoned.false) (c.in-Ok.ensures.served h) here) on

pub returns-in-Err-clause-device : goal.returns-in-Err-clause-device
returns-in-Err-clause-device g c = λ h s d stands on.
    let m = g.D.Disk.meaning in
    let old : Held = record { disk = m c.self.inside.disk; journal = c.self.inside.journal; catalog = c.self.inside.catalog; memory = c.self.inside.memory } in
    let new = m c.sync_journal.new.disk in
    subst (λ (core : Held). StandsOn core s.parts.entries d → BlamesDevice (Refused c.in-Err.error) core.disk new) c.self.view_is
    (λ here. fault_blames s.parts.entries old new d c.in-Err.error (sym c.is_poisoned.ensures ∙ c.if-is_poisoned.false) c.in-Err.ensures.cause.cause (c.in-Err.ensures.served h) here) on
