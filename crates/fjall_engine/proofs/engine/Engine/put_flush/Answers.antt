use Rattle.std.proofs.Common.{◌≡◌, ◌⊎◌, ◌≤◌, IsTrue, Err, Ok, true, refl, subst, sym}
use Rattle.fjall_jobs.specs.Tasks.{Task}
use Rattle.fjall_machine.specs.Finishing.{keyspace_of}
use Rattle.fjall_machine.specs.Machine.{is_living}
use Rattle.fjall_machine.specs.Remembered.{KnowsTask}
use Rattle.fjall_state.specs.Flushes.{IsOfFlush}
use Rattle.fjall_engine.specs.Holding.{Held}
use Rattle.fjall_engine.specs.CallParts.{Puts}
use Rattle.fjall_engine.specs.Standing.{store_in}
use Rattle.fjall_engine.proofs.PutFlushes.{poison_keeps, put_failed, refusal_poisons}
use Rattle.fjall_engine.proofs.engine.Engine.put_flush.Goals as goal

pub returns-in-Err-clause-puts : goal.returns-in-Err-clause-puts
returns-in-Err-clause-puts g c = λ own.
    let m = g.D.Disk.meaning in
    let made = c.args.made.now in
    let error = c.in-Err.error in
    let old : Held = record { disk = m c.self.inside.disk; journal = c.self.inside.journal; catalog = c.self.inside.catalog; memory = c.self.inside.memory } in
    let mid : Held = record { disk = m c.finish_flush.new.disk; journal = c.self.inside.journal; catalog = c.self.inside.catalog; memory = c.finish_flush.new.self } in
    let lives = subst (λ (h : Held). is_living (store_in h) (keyspace_of made) ≡ true) (sym c.self.view_is) c.requires.living in
    let of = subst (λ (h : Held). IsOfFlush h.memory made) (sym c.self.view_is) own in
    subst (λ (h : Held). Puts (IsTrue g.D.Disk.honest) h made (Err error) c.poison_by.new.self) c.self.view_is
    (put_failed (IsTrue g.D.Disk.honest) old mid c.poison_by.new.self made error
    (λ i. record { disk = mid.disk; journal = old.journal; catalog = old.catalog; memory = c.in-Err.ensures.unchanged of i }) c.poison_by.ensures lives of (c.in-Err.ensures.cause of)
    (c.in-Err.ensures.untouched of)
    (λ h. record {
      within = c.in-Err.ensures.within h;
      leaves = c.in-Err.ensures.any_moment h of;
      lies = λ e. let bad : ⊥ = cc in absurd bad;
      beside = c.in-Err.ensures.beside h of;
      fits = λ e. let bad : ⊥ = cc in absurd bad;
      files = λ e. let bad : ⊥ = cc in absurd bad;
      served = c.in-Err.ensures.served h of;
      kinds = c.in-Err.ensures.kinds h;
    }))

pub returns-in-Err-clause-later : goal.returns-in-Err-clause-later
returns-in-Err-clause-later g c =
    let m = g.D.Disk.meaning in
    let old : Held = record { disk = m c.self.inside.disk; journal = c.self.inside.journal; catalog = c.self.inside.catalog; memory = c.self.inside.memory } in
    let mid : Held = record { disk = m c.finish_flush.new.disk; journal = c.self.inside.journal; catalog = c.self.inside.catalog; memory = c.finish_flush.new.self } in
    let new = c.poison_by.new.self in
    subst (λ (h : Held). h.disk.faults ≤ new.disk.faults) c.self.view_is
    (subst (λ d. old.disk.faults ≤ d.faults) (sym (poison_keeps mid new c.in-Err.error c.poison_by.ensures).0) c.in-Err.ensures.later)

pub returns-in-Err-clause-poisons : goal.returns-in-Err-clause-poisons
returns-in-Err-clause-poisons g c =
    let m = g.D.Disk.meaning in
    let old : Held = record { disk = m c.self.inside.disk; journal = c.self.inside.journal; catalog = c.self.inside.catalog; memory = c.self.inside.memory } in
    let mid : Held = record { disk = m c.finish_flush.new.disk; journal = c.self.inside.journal; catalog = c.self.inside.catalog; memory = c.finish_flush.new.self } in
    let new = c.poison_by.new.self in
    subst (λ (h : Held). (new.disk ≡ h.disk) ⊎ (new.memory.poisoned ≡ true)) c.self.view_is (refusal_poisons old mid new c.in-Err.error c.poison_by.ensures c.in-Err.ensures.poisons)

pub returns-in-Err-clause-keeps : goal.returns-in-Err-clause-keeps
returns-in-Err-clause-keeps g c = λ task known.
    let m = g.D.Disk.meaning in
    let mid : Held = record { disk = m c.finish_flush.new.disk; journal = c.self.inside.journal; catalog = c.self.inside.catalog; memory = c.finish_flush.new.self } in
    (poison_keeps mid c.poison_by.new.self c.in-Err.error c.poison_by.ensures).1 task
    (c.in-Err.ensures.keeps task (subst (λ (h : Held). KnowsTask h.memory task) (sym c.self.view_is) known))

pub returns-clause-puts : goal.returns-clause-puts
returns-clause-puts g c = λ own.
    let m = g.D.Disk.meaning in
    let made = c.args.made.now in
    let new : Held = record { disk = m c.finish_flush.new.disk; journal = c.self.inside.journal; catalog = c.self.inside.catalog; memory = c.finish_flush.new.self } in
    let of = subst (λ (h : Held). IsOfFlush h.memory made) (sym c.self.view_is) own in
    subst (λ (h : Held). Puts (IsTrue g.D.Disk.honest) h made (Ok tt) new) c.self.view_is (
      c.in_default.ensures.ok of,
      record { memory_is = refl; catalog = refl; journal = refl; faults = c.in_default.ensures.later },
      λ h. record {
        within = c.in_default.ensures.within h;
        leaves = c.in_default.ensures.any_moment h of;
        lies = λ e. c.in_default.ensures.lies h of;
        beside = c.in_default.ensures.beside h of;
        fits = λ e. c.in_default.ensures.fits of;
        files = λ e. c.in_default.ensures.files h of;
        served = c.in_default.ensures.served h of;
        kinds = c.in_default.ensures.kinds h;
      },
    )

pub returns-clause-later : goal.returns-clause-later
returns-clause-later g c = subst (λ (h : Held). h.disk.faults ≤ (g.D.Disk.meaning c.finish_flush.new.disk).faults) c.self.view_is c.in_default.ensures.later

pub returns-clause-keeps : goal.returns-clause-keeps
returns-clause-keeps g c = λ task known. c.in_default.ensures.keeps task (subst (λ (h : Held). KnowsTask h.memory task) (sym c.self.view_is) known)
