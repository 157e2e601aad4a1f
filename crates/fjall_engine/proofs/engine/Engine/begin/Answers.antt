use Rattle.std.proofs.Common.{◌≡◌, IsTrue, false, if◌then◌else◌, nat_lt, Err, Ok, refl, sym, ◌∙◌, ap, subst}
use Rattle.fjall_jobs.specs.Flushes.{flush_task}
use Rattle.fjall_tree.specs.Jobs.{IsFlushing}
use Rattle.fjall_trees.specs.Tables.{shape_in}
use Rattle.fjall_machine.specs.Machine.{begins_flush}
use Rattle.fjall_machine.specs.Remembered.{Remembered, flush_out_in_memory, poisoned}
use Rattle.fjall_engine.specs.Holding.{Held}
use Rattle.fjall_engine.specs.CallParts.{Begins, SyncsAll}
use Rattle.fjall_engine.specs.Crashes.{is_io}
use Rattle.fjall_engine.specs.Standing.{are_jobs_used_up_in}
use Rattle.fjall_engine.proofs.FlushBegins.{begin_done, begin_failed, told_long, told_used, unsynced_memory}
use Rattle.fjall_engine.proofs.engine.Engine.begin.Goals as goal

pub take_back_flush-requires : goal.take_back_flush-requires
take_back_flush-requires g c =
    let m = g.D.Disk.meaning in
    let mid : Held = record { disk = m c.self.inside.disk; journal = c.self.inside.journal; catalog = c.self.inside.catalog; memory = c.begin_flush.new.self } in (
      c.self.inside.memory,
      c.begin_flush.ensures.lawful,
      ap (λ (h : Held). begins_flush h.memory.trees c.args.id) c.self.view_is ∙ c.requires.begins,
      ap (λ (h : Held). h.memory) c.self-in-Err.view_is
          ∙ unsynced_memory (IsTrue g.D.Disk.honest) mid c.sync_for_flush.new.self c.in-Err.error c.in-Err.ensures.synced ∙ c.in_ok-job.ensures.ok,
    )

pub returns-in-Err : goal.returns-in-Err
returns-in-Err g c =
    let m = g.D.Disk.meaning in
    let error = c.in-Err.error in
    let old : Held = record { disk = m c.self.inside.disk; journal = c.self.inside.journal; catalog = c.self.inside.catalog; memory = c.self.inside.memory } in
    let mid : Held = record { disk = m c.self.inside.disk; journal = c.self.inside.journal; catalog = c.self.inside.catalog; memory = c.begin_flush.new.self } in
    let left = c.sync_for_flush.new.self in
    let long = nat_lt 64000000 c.pos-is_long.result in
    let is_told = told_long old.journal long c.pos-is_long.result c.pos-is_long.ensures refl in
    let free : are_jobs_used_up_in old ≡ false = sym (told_used old long c.are_jobs_used_up.result is_told c.are_jobs_used_up.ensures.value) ∙ c.if-are_jobs_used_up.false in
    let memory : c.self-in-Err.inside.memory ≡ flush_out_in_memory c.args.id old.memory =
    ap (λ (h : Held). h.memory) c.self-in-Err.view_is ∙ unsynced_memory (IsTrue g.D.Disk.honest) mid left error c.in-Err.ensures.synced ∙ c.in_ok-job.ensures.ok in
    let begins = ap (λ (h : Held). begins_flush h.memory.trees c.args.id) c.self.view_is ∙ c.requires.begins in
    let back : c.take_back_flush.new.self ≡ old.memory = c.take_back_flush.ensures old.memory c.begin_flush.ensures.lawful begins memory in
    let synced = subst (λ (x : Remembered). SyncsAll (IsTrue g.D.Disk.honest) (record old { memory = x }) (Err error) left) c.in_ok-job.ensures.ok c.in-Err.ensures.synced in
    record {
      begun = subst (λ (h : Held). Begins (IsTrue g.D.Disk.honest) h c.args.id (Err error) c.poison_by.new.self) c.self.view_is
          (begin_failed (IsTrue g.D.Disk.honest) old c.args.id free error left c.poison_by.new.self synced
          (c.poison_by.ensures ∙ (λ i. let h : Held = record (c.self-in-Err.view_is i) { memory = back i } in if is_io error then record h { memory = poisoned h.memory } else h)));
    }

pub returns : goal.returns
returns g c =
    let m = g.D.Disk.meaning in
    let job = c.in_ok-job.job in
    let new = c.sync_for_flush.new.self in
    let old : Held = record { disk = m c.self.inside.disk; journal = c.self.inside.journal; catalog = c.self.inside.catalog; memory = c.self.inside.memory } in
    let long = nat_lt 64000000 c.pos-is_long.result in
    let is_told = told_long old.journal long c.pos-is_long.result c.pos-is_long.ensures refl in
    let free : are_jobs_used_up_in old ≡ false = sym (told_used old long c.are_jobs_used_up.result is_told c.are_jobs_used_up.ensures.value) ∙ c.if-are_jobs_used_up.false in
    let begins = ap (λ (h : Held). begins_flush h.memory.trees c.args.id) c.self.view_is ∙ c.requires.begins in
    let out = subst (λ (x : Remembered). IsFlushing (shape_in c.args.id x.trees) (flush_task job)) c.in_ok-job.ensures.ok c.in_ok-job.ensures.out in
    let synced = subst (λ (x : Remembered). SyncsAll (IsTrue g.D.Disk.honest) (record old { memory = x }) (Ok tt) new) c.in_ok-job.ensures.ok c.in_default.ensures.synced in
    record {
      begun = subst (λ (h : Held). Begins (IsTrue g.D.Disk.honest) h c.args.id (Ok job) new) c.self.view_is
          (begin_done (IsTrue g.D.Disk.honest) old c.args.id free job new begins c.in_ok-job.ensures.job out synced);
    }
