use Rattle.std.proofs.Common.{◌⊎◌, ◌+◌, ◌<◌, ◌^◌, ◌∙◌, List, length, ap, refl, rules, subst, sym}
use Rattle.std.specs.FinMap.{get}
use Rattle.fjall_base.specs.Disk.{LeavesOnly, state_in}
use Rattle.fjall_files.specs.Calls.{AllServed}
use Rattle.fjall_compaction.specs.FlushPlans.{HaveFiles}
use Rattle.fjall_compaction.proofs.Behind.{nothing_written}
use Rattle.fjall_jobs.specs.declared.made_table.MadeTable.{MadeTable}
use Rattle.fjall_jobs.specs.Made.{merge_tables, merged_task}
use Rattle.fjall_replay.specs.Known.{last_known}
use Rattle.fjall_compaction.specs.Merges.{merge_of}
use Rattle.fjall_compaction.specs.MergePlans.{HasNoTableFolder, MergeKeepsTables}
use Rattle.fjall_recovery.specs.Halves.{HasTree}
use Rattle.fjall_recovery.specs.Places.{LiesInTree}
use Rattle.fjall_manifest.specs.Records.{Fields, view}
use Rattle.fjall_trees.specs.Tables.{shape_in}
use Rattle.fjall_machine.specs.Merging.{AreTaken, keyspace_of}
use Rattle.fjall_machine.specs.Remembered.{IsLawful, Remembered, journals_of, with_merge}
use Rattle.fjall_machine.proofs.Counting.{map_of}
use Rattle.fjall_machine.proofs.Facts.{living_given}
use Rattle.fjall_machine.proofs.Finishing.{none_missing}
use Rattle.fjall_state.proofs.Inside.{memory_in}
use Rattle.fjall_machine.proofs.Lawful.{alike}
use Rattle.fjall_machine.proofs.MergeFinishing.{finished, last_is, may_merge, merge_there, on_disk, refused, taken}
use Rattle.fjall_machine.proofs.MergesLawful.{merged_is_lawful}
use Rattle.fjall_state.proofs.engine_state.EngineState.finish_merge.Goals as goal

pub unreachable-requires : goal.unreachable-requires
unreachable-requires g c =
    let a = c.self.inside in
    let now = c.args.self.now in
    let is = subst IsLawful c.self.view_is c.self.invariant in
    none_missing now is (keyspace_of c.args.made.now) c.requires.living (c.in_default.ensures ∙ ap (get a.records) c.keyspace_id-id.ensures ∙ ap (λ (m : Remembered). get m.records (keyspace_of c.args.made.now)) c.self.view_is)

pub returns-in_err-planned-clause-cause : goal.returns-in_err-planned-clause-cause
returns-in_err-planned-clause-cause g c = λ k out at was.
    let a = c.self.inside in
    let old = memory_in a in
    let now = c.args.self.now in
    let made = c.args.made.now in
    let last = view c.in-Some.last.now in
    let input = c.in-Some-merge_input.input in
    let may = may_merge old now made last c.keyspace_id-id.result input c.self.invariant c.self.view_is c.keyspace_id-id.ensures c.in-Some.ensures c.in-Some-merge_input.ensures.input in
    let faults = (g.D.Disk.meaning c.args.disk.now).faults in
    let is = refused now made last input may k out at was faults faults c.in_err-planned.field-0.0 c.in_err-planned.ensures.cause in
    search rules

pub returns-in_err-planned-clause-any_moment : goal.returns-in_err-planned-clause-any_moment
returns-in_err-planned-clause-any_moment g c = λ honest k out at was records t h entries lists lies has right same merges. nothing_written (g.D.Disk.meaning c.args.disk.now) records t _ lies

pub returns-in_err-write_merge-clause-within : goal.returns-in_err-write_merge-clause-within
returns-in_err-write_merge-clause-within g c = λ honest.
    let made = c.args.made.now in
    c.in_err-write_merge.ensures.within honest (keyspace_of made) (merge_of c.in-Some-merge_input.input made) (view c.in-Some.last.now) (sym c.tables.ensures.value) c.in_ok-planned.ensures.writes

pub returns-in_err-write_merge-clause-any_moment : goal.returns-in_err-write_merge-clause-any_moment
returns-in_err-write_merge-clause-any_moment g c = λ honest.
    let a = c.self.inside in
    let old = memory_in a in
    let now = c.args.self.now in
    let made = c.args.made.now in
    let last = view c.in-Some.last.now in
    let input = c.in-Some-merge_input.input in
    let may = may_merge old now made last c.keyspace_id-id.result input c.self.invariant c.self.view_is c.keyspace_id-id.ensures c.in-Some.ensures c.in-Some-merge_input.ensures.input in
    let before = g.D.Disk.meaning c.args.disk.now in
    let after = g.D.Disk.meaning c.write_merge.new.disk in
    on_disk now made last input may before c.in_ok-planned.planned.writes c.in_ok-planned.ensures.writes c.tables.result.now (sym c.tables.ensures.value)
    (λ id records t next. LeavesOnly before after (λ image. HasTree image t ⊎ HasTree image next)) (c.in_err-write_merge.ensures.any_moment honest)

pub returns-in_err-write_merge-clause-served : goal.returns-in_err-write_merge-clause-served
returns-in_err-write_merge-clause-served g c = λ honest.
    let a = c.self.inside in
    let old = memory_in a in
    let now = c.args.self.now in
    let made = c.args.made.now in
    let last = view c.in-Some.last.now in
    let input = c.in-Some-merge_input.input in
    let may = may_merge old now made last c.keyspace_id-id.result input c.self.invariant c.self.view_is c.keyspace_id-id.ensures c.in-Some.ensures c.in-Some-merge_input.ensures.input in
    let before = g.D.Disk.meaning c.args.disk.now in
    let after = g.D.Disk.meaning c.write_merge.new.disk in
    on_disk now made last input may before c.in_ok-planned.planned.writes c.in_ok-planned.ensures.writes c.tables.result.now (sym c.tables.ensures.value)
    (λ id records t next. HasNoTableFolder before id → AllServed before after) (c.in_err-write_merge.ensures.served honest)

pub returns-in_err-write_merge-clause-kinds : goal.returns-in_err-write_merge-clause-kinds
returns-in_err-write_merge-clause-kinds g c = λ honest.
    let made = c.args.made.now in
    c.in_err-write_merge.ensures.kinds honest (keyspace_of made) (merge_of c.in-Some-merge_input.input made) (view c.in-Some.last.now) (sym c.tables.ensures.value) c.in_ok-planned.ensures.writes

pub returns-in_err-write_merge-clause-beside : goal.returns-in_err-write_merge-clause-beside
returns-in_err-write_merge-clause-beside g c = λ honest k out at was.
    let a = c.self.inside in
    let old = memory_in a in
    let now = c.args.self.now in
    let made = c.args.made.now in
    let last = view c.in-Some.last.now in
    let input = c.in-Some-merge_input.input in
    let may = may_merge old now made last c.keyspace_id-id.result input c.self.invariant c.self.view_is c.keyspace_id-id.ensures c.in-Some.ensures c.in-Some-merge_input.ensures.input in
    let before = g.D.Disk.meaning c.args.disk.now in
    let after = g.D.Disk.meaning c.write_merge.new.disk in
    let known = last_is now made last input may k at in
    subst (λ (x : Fields × List MadeTable). MergeKeepsTables (keyspace_of made) x.0.next_table_id (length x.1) before after) (λ i. (known i, c.tables.ensures.value i))
    (c.in_err-write_merge.ensures.beside honest (keyspace_of made) (merge_of input made) last (sym c.tables.ensures.value) c.in_ok-planned.ensures.writes)

pub invariant_of-self : goal.invariant_of-self
invariant_of-self g c =
    let a = c.self.inside in
    let old = memory_in a in
    let now = c.args.self.now in
    let id = keyspace_of c.args.made.now in
    let readers = c.in_ok-planned.planned.readers.items in
    let record_is = view c.in_ok-planned.planned.writes.record in
    let is = subst IsLawful c.self.view_is c.self.invariant in
    let given = subst (λ (m : Remembered). id < m.keyspaces.next) (sym c.self.view_is) (living_given now.keyspaces is.keyspaces now.trees id c.requires.living) in
    let there = merge_there (merged_task c.args.made.now).id (shape_in id now.trees).merge c.requires.out in
    let trees = c.settle.ensures.trees there.0 (ap (λ (m : Remembered). (shape_in id m.trees).merge) c.self.view_is ∙ there.1) in
    alike (with_merge id there.0 readers record_is old) _ (merged_is_lawful id there.0 readers record_is old c.self.invariant given) refl trees refl refl c.settle.ensures.records refl

pub returns-clause-ok : goal.returns-clause-ok
returns-clause-ok g c = λ k out at was.
    let a = c.self.inside in
    let old = memory_in a in
    let now = c.args.self.now in
    let made = c.args.made.now in
    let last = view c.in-Some.last.now in
    let input = c.in-Some-merge_input.input in
    let may = may_merge old now made last c.keyspace_id-id.result input c.self.invariant c.self.view_is c.keyspace_id-id.ensures c.in-Some.ensures c.in-Some-merge_input.ensures.input in
    let planned = c.in_ok-planned.planned in
    let trees = c.settle.ensures.trees out (ap (λ (m : Remembered). (shape_in (keyspace_of made) m.trees).merge) c.self.view_is ∙ was) in
    finished now made last input may k out at was old _ planned.readers.items (view planned.writes.record) c.self.view_is c.in_ok-planned.ensures.readers c.in_ok-planned.ensures.writes.record_is
    (λ i.
    record {
      keyspaces = a.keyspaces;
      trees = trees i;
      next = a.tickets.visible;
      poisoned = a.poisoned;
      handles = map_of a.handles;
      lasting = a.lasting.items;
      tickets = a.tickets.tickets;
      journals = journals_of a.sealed a.active a.watermarks;
      records = c.settle.ensures.records i;
      next_job = a.next_job;
      merges_done = a.merges_done;
    })

pub returns-clause-taken : goal.returns-clause-taken
returns-clause-taken g c = λ k out at was.
    let a = c.self.inside in
    let old = memory_in a in
    let now = c.args.self.now in
    let made = c.args.made.now in
    let last = view c.in-Some.last.now in
    let input = c.in-Some-merge_input.input in
    let may = may_merge old now made last c.keyspace_id-id.result input c.self.invariant c.self.view_is c.keyspace_id-id.ensures c.in-Some.ensures c.in-Some-merge_input.ensures.input in
    subst (λ names. AreTaken (keyspace_of made) (last_known now.records k) out names.items) (sym c.settle.ensures.taken) (taken now made last input may k out at was c.in_ok-planned.planned.writes c.in_ok-planned.ensures.writes)

pub returns-clause-within : goal.returns-clause-within
returns-clause-within g c = λ honest.
    let made = c.args.made.now in
    c.in_ok-write_merge.ensures.within honest (keyspace_of made) (merge_of c.in-Some-merge_input.input made) (view c.in-Some.last.now) (sym c.tables.ensures.value) c.in_ok-planned.ensures.writes

pub returns-clause-any_moment : goal.returns-clause-any_moment
returns-clause-any_moment g c = λ honest.
    let a = c.self.inside in
    let old = memory_in a in
    let now = c.args.self.now in
    let made = c.args.made.now in
    let last = view c.in-Some.last.now in
    let input = c.in-Some-merge_input.input in
    let may = may_merge old now made last c.keyspace_id-id.result input c.self.invariant c.self.view_is c.keyspace_id-id.ensures c.in-Some.ensures c.in-Some-merge_input.ensures.input in
    let before = g.D.Disk.meaning c.args.disk.now in
    let after = g.D.Disk.meaning c.write_merge.new.disk in
    on_disk now made last input may before c.in_ok-planned.planned.writes c.in_ok-planned.ensures.writes c.tables.result.now (sym c.tables.ensures.value)
    (λ id records t next. LeavesOnly before after (λ image. HasTree image t ⊎ HasTree image next)) (c.in_ok-write_merge.ensures.any_moment honest)

pub returns-clause-lies : goal.returns-clause-lies
returns-clause-lies g c = λ honest.
    let a = c.self.inside in
    let old = memory_in a in
    let now = c.args.self.now in
    let made = c.args.made.now in
    let last = view c.in-Some.last.now in
    let input = c.in-Some-merge_input.input in
    let may = may_merge old now made last c.keyspace_id-id.result input c.self.invariant c.self.view_is c.keyspace_id-id.ensures c.in-Some.ensures c.in-Some-merge_input.ensures.input in
    let before = g.D.Disk.meaning c.args.disk.now in
    let after = g.D.Disk.meaning c.write_merge.new.disk in
    on_disk now made last input may before c.in_ok-planned.planned.writes c.in_ok-planned.ensures.writes c.tables.result.now (sym c.tables.ensures.value)
    (λ id records t next. LiesInTree (state_in after) records next) (c.in_ok-write_merge.ensures.ok honest)

pub returns-clause-served : goal.returns-clause-served
returns-clause-served g c = λ honest.
    let a = c.self.inside in
    let old = memory_in a in
    let now = c.args.self.now in
    let made = c.args.made.now in
    let last = view c.in-Some.last.now in
    let input = c.in-Some-merge_input.input in
    let may = may_merge old now made last c.keyspace_id-id.result input c.self.invariant c.self.view_is c.keyspace_id-id.ensures c.in-Some.ensures c.in-Some-merge_input.ensures.input in
    let before = g.D.Disk.meaning c.args.disk.now in
    let after = g.D.Disk.meaning c.write_merge.new.disk in
    on_disk now made last input may before c.in_ok-planned.planned.writes c.in_ok-planned.ensures.writes c.tables.result.now (sym c.tables.ensures.value)
    (λ id records t next. HasNoTableFolder before id → AllServed before after) (c.in_ok-write_merge.ensures.served honest)

pub returns-clause-kinds : goal.returns-clause-kinds
returns-clause-kinds g c = λ honest.
    let made = c.args.made.now in
    c.in_ok-write_merge.ensures.kinds honest (keyspace_of made) (merge_of c.in-Some-merge_input.input made) (view c.in-Some.last.now) (sym c.tables.ensures.value) c.in_ok-planned.ensures.writes

pub returns-clause-beside : goal.returns-clause-beside
returns-clause-beside g c = λ honest k out at was.
    let a = c.self.inside in
    let old = memory_in a in
    let now = c.args.self.now in
    let made = c.args.made.now in
    let last = view c.in-Some.last.now in
    let input = c.in-Some-merge_input.input in
    let may = may_merge old now made last c.keyspace_id-id.result input c.self.invariant c.self.view_is c.keyspace_id-id.ensures c.in-Some.ensures c.in-Some-merge_input.ensures.input in
    let before = g.D.Disk.meaning c.args.disk.now in
    let after = g.D.Disk.meaning c.write_merge.new.disk in
    let known = last_is now made last input may k at in
    subst (λ (x : Fields × List MadeTable). MergeKeepsTables (keyspace_of made) x.0.next_table_id (length x.1) before after) (λ i. (known i, c.tables.ensures.value i))
    (c.in_ok-write_merge.ensures.beside honest (keyspace_of made) (merge_of input made) last (sym c.tables.ensures.value) c.in_ok-planned.ensures.writes)

pub returns-clause-files : goal.returns-clause-files
returns-clause-files g c = λ honest k out at was.
    let a = c.self.inside in
    let old = memory_in a in
    let now = c.args.self.now in
    let made = c.args.made.now in
    let last = view c.in-Some.last.now in
    let input = c.in-Some-merge_input.input in
    let may = may_merge old now made last c.keyspace_id-id.result input c.self.invariant c.self.view_is c.keyspace_id-id.ensures c.in-Some.ensures c.in-Some-merge_input.ensures.input in
    let after = g.D.Disk.meaning c.write_merge.new.disk in
    let known = last_is now made last input may k at in
    subst (λ (x : Fields × List MadeTable). HaveFiles after (keyspace_of made) x.0.next_table_id x.1) (λ i. (known i, c.tables.ensures.value i))
    (c.in_ok-write_merge.ensures.files honest (keyspace_of made) (merge_of input made) last (sym c.tables.ensures.value) c.in_ok-planned.ensures.writes)

pub returns-clause-fits : goal.returns-clause-fits
returns-clause-fits g c = λ k out at was.
    let a = c.self.inside in
    let old = memory_in a in
    let now = c.args.self.now in
    let made = c.args.made.now in
    let last = view c.in-Some.last.now in
    let input = c.in-Some-merge_input.input in
    let may = may_merge old now made last c.keyspace_id-id.result input c.self.invariant c.self.view_is c.keyspace_id-id.ensures c.in-Some.ensures c.in-Some-merge_input.ensures.input in
    subst (λ (l : Fields). l.next_table_id + length (merge_tables made) < 2 ^ 64) (last_is now made last input may k at) c.in_ok-planned.ensures.writes.fits.room.next_table_id
