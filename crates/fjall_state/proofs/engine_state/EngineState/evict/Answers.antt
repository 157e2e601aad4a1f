use Rattle.std.proofs.Common.{List, OnErr, subst}
use Rattle.fjall_files.specs.Evictions.{StoppedBehind, TookEvictions}
use Rattle.fjall_files.specs.Journals.{Sealed}
use Rattle.fjall_machine.specs.Remembered.{Remembered, flushed_by}
use Rattle.fjall_state.proofs.Inside.{memory_in}
use Rattle.fjall_machine.proofs.Evicting.{left_by}
use Rattle.fjall_state.proofs.engine_state.EngineState.evict.Goals as goal

pub returns-clause-left : goal.returns-clause-left
returns-clause-left g c =
    let a = c.self.inside in
    let m = memory_in a in
    left_by c.evict_journals.result m c.args.self.now c.evict_journals.new.journals c.self.view_is c.evict_journals.ensures.left

pub returns-clause-part : goal.returns-clause-part
returns-clause-part g c = λ h.
    let old = g.D.Disk.meaning c.args.disk.now in
    let new = g.D.Disk.meaning c.evict_journals.new.disk in
    let left = c.evict_journals.new.journals in
    subst (λ (m : Remembered). OnErr c.evict_journals.result ((gone : List Sealed) × (stopped : StoppedBehind (flushed_by m.keyspaces m.records) m.journals.sealed left gone) × TookEvictions old new gone stopped.next))
    c.self.view_is (c.evict_journals.ensures.part h)
