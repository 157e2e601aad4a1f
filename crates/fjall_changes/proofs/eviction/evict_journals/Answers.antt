use Rattle.fjall_base.specs.Disk.{state_in}
use Rattle.fjall_files.specs.Journals.{going}
use Rattle.fjall_changes.specs.Evictions.{evicted}
use Rattle.fjall_changes.specs.Journaling.{IsWriting}
use Rattle.std.proofs.Common.{length}
use Rattle.fjall_changes.proofs.CrashesInEvictions.{evicted_on, eviction_keeps, eviction_kinds, eviction_leaves, some_evicted, stays_evicted, told_evicted, took_eviction}
use Rattle.fjall_changes.proofs.Results.{on_ok}
use Rattle.fjall_changes.proofs.eviction.evict_journals.Goals as goal

pub returns-clause-told : goal.returns-clause-told
returns-clause-told g c = told_evicted c.maintenance.result (g.F.Flushed.flushed c.args.flushed.now) c.args.journals.now c.maintenance.new.self c.maintenance.ensures.ok

pub returns-clause-served : goal.returns-clause-served
returns-clause-served g c = λ h writer j writing tells.
    c.maintenance.ensures.served h (eviction_kinds (g.D.Disk.meaning c.args.disk.now) (g.D.Disk.meaning c.maintenance.new.disk) writer j writing c.args.journals.now tells)

pub returns-clause-any_moment : goal.returns-clause-any_moment
returns-clause-any_moment g c = λ h writer j writing tells.
    let flushed = g.F.Flushed.flushed c.args.flushed.now in
    let journals = c.args.journals.now in
    let old = g.D.Disk.meaning c.args.disk.now in
    let new = g.D.Disk.meaning c.maintenance.new.disk in
    eviction_leaves old new writer j writing journals tells (length (going flushed journals))
    (took_eviction flushed journals c.maintenance.result old new c.maintenance.new.self (c.maintenance.ensures.took h) (c.maintenance.ensures.part h))

pub returns-clause-lies : goal.returns-clause-lies
returns-clause-lies g c = λ h writer j writing tells.
    let flushed = g.F.Flushed.flushed c.args.flushed.now in
    let journals = c.args.journals.now in
    let old = g.D.Disk.meaning c.args.disk.now in
    let new = g.D.Disk.meaning c.maintenance.new.disk in
    on_ok c.maintenance.result (IsWriting (state_in new) writer (evicted (length (going flushed journals)) j)) (c.maintenance.ensures.took h)
    (evicted_on old new writer j writing journals tells flushed)

pub returns-clause-some_gone : goal.returns-clause-some_gone
returns-clause-some_gone g c = λ h writer j writing tells.
    some_evicted c.maintenance.result (g.D.Disk.meaning c.args.disk.now) (g.D.Disk.meaning c.maintenance.new.disk) writer j writing (g.F.Flushed.flushed c.args.flushed.now) c.args.journals.now
    c.maintenance.new.self tells (c.maintenance.ensures.part h)

pub returns-clause-elsewhere : goal.returns-clause-elsewhere
returns-clause-elsewhere g c = λ h writer j writing tells.
    let flushed = g.F.Flushed.flushed c.args.flushed.now in
    let journals = c.args.journals.now in
    let old = g.D.Disk.meaning c.args.disk.now in
    let new = g.D.Disk.meaning c.maintenance.new.disk in
    eviction_keeps old new writer j writing journals tells (length (going flushed journals))
    (took_eviction flushed journals c.maintenance.result old new c.maintenance.new.self (c.maintenance.ensures.took h) (c.maintenance.ensures.part h))

pub returns-clause-kinds : goal.returns-clause-kinds
returns-clause-kinds g c = λ h.
    let flushed = g.F.Flushed.flushed c.args.flushed.now in
    let journals = c.args.journals.now in
    let old = g.D.Disk.meaning c.args.disk.now in
    let new = g.D.Disk.meaning c.maintenance.new.disk in
    stays_evicted old new journals (length (going flushed journals))
    (took_eviction flushed journals c.maintenance.result old new c.maintenance.new.self (c.maintenance.ensures.took h) (c.maintenance.ensures.part h))
