use Rattle.std.proofs.Common.{◌≡◌, ◌⊎◌, ◌+◌, ◌<◌, ◌^◌, ◌∙◌, ℕ, List, false, true, length, ap, arith, refl, rules, subst, sym}
use Rattle.std.proofs.lemmas.Bool.{true≢false}
use Rattle.std.specs.FinMap.{get}
use Rattle.fjall_base.specs.Disk.{IsNoFolder, LeavesOnly, state_in}
use Rattle.fjall_files.specs.Calls.{AllServed}
use Rattle.fjall_files.specs.Names.{table_name}
use Rattle.fjall_base.specs.declared.error.Error.TheVariants.{OutOfMemory}
use Rattle.fjall_compaction.specs.Flushes.{flush_of, record_after_flush}
use Rattle.fjall_compaction.specs.FlushPlans.{HaveFiles, KeepsTables}
use Rattle.fjall_compaction.proofs.Room.{fits_placed}
use Rattle.fjall_compaction.proofs.Beside.{tables_stay}
use Rattle.fjall_compaction.proofs.Behind.{nothing_written}
use Rattle.fjall_recovery.specs.Halves.{HasTree}
use Rattle.fjall_recovery.specs.Places.{LiesInTree}
use Rattle.fjall_manifest.specs.Records.{Fields, view}
use Rattle.fjall_jobs.specs.Made.{flush_tables, flushed_task}
use Rattle.fjall_tree.specs.Jobs.{flush_finished, is_flush_out}
use Rattle.fjall_trees.specs.Forests.{Forest, altered_at}
use Rattle.fjall_trees.specs.Tables.{shape_in}
use Rattle.fjall_machine.specs.Finishing.{keyspace_of}
use Rattle.fjall_machine.specs.Remembered.{IsLawful, KnowsTask, Remembered, journals_of, with_flush, with_trees}
use Rattle.fjall_state.proofs.Inside.{memory_in}
use Rattle.fjall_state.proofs.MadeFlushes.{flush_there, room_suffices}
use Rattle.fjall_machine.proofs.Counting.{map_of}
use Rattle.fjall_machine.proofs.Finishing.{finished, last_is, may_finish, none_missing, on_disk, refused}
use Rattle.fjall_machine.proofs.Facts.{living_given}
use Rattle.fjall_machine.proofs.Flushing.{finished_is_lawful}
use Rattle.fjall_machine.proofs.Knowing.{after_finished}
use Rattle.fjall_machine.proofs.Lawful.{alike}
use Rattle.fjall_state.proofs.engine_state.EngineState.finish_flush.Goals as goal

pub unreachable-requires : goal.unreachable-requires
unreachable-requires g c =
    let a = c.self.inside in
    let now = c.args.self.now in
    let is = subst IsLawful c.self.view_is c.self.invariant in
    none_missing now is (keyspace_of c.args.made.now) c.requires.living (c.in_default.ensures ∙ ap (get a.records) c.keyspace_id-id.ensures ∙ ap (λ (m : Remembered). get m.records (keyspace_of c.args.made.now)) c.self.view_is)

pub returns-in_err-planned-clause-cause : goal.returns-in_err-planned-clause-cause
returns-in_err-planned-clause-cause g c = λ of k out at was.
    let a = c.self.inside in
    let old = memory_in a in
    let now = c.args.self.now in
    let made = c.args.made.now in
    let last = view c.in-Some.last.now in
    let number = c.saturating_sub-number.result in
    let may = may_finish old now made last c.keyspace_id-id.result c.flush_end.result number c.self.view_is c.keyspace_id-id.ensures c.in-Some.ensures c.flush_end.ensures c.saturating_sub-number.ensures of in
    let disk = g.D.Disk.meaning c.args.disk.now in
    let is = refused now made last number may k out at was disk.faults disk.faults c.in_err-planned.field-0.0 c.in_err-planned.ensures.cause in
    search rules

pub returns-in_err-planned-clause-any_moment : goal.returns-in_err-planned-clause-any_moment
returns-in_err-planned-clause-any_moment g c = λ honest of k out at was records t h versions lists lies has same follows. nothing_written (g.D.Disk.meaning c.args.disk.now) records t _ lies

pub returns-in_err-reserve-clause-cause : goal.returns-in_err-reserve-clause-cause
returns-in_err-reserve-clause-cause g c = λ of k out at was.
    let a = c.self.inside in
    let old = memory_in a in
    let now = c.args.self.now in
    let made = c.args.made.now in
    let last = view c.in-Some.last.now in
    let number = c.saturating_sub-number.result in
    let may = may_finish old now made last c.keyspace_id-id.result c.flush_end.result number c.self.view_is c.keyspace_id-id.ensures c.in-Some.ensures c.flush_end.ensures c.saturating_sub-number.ensures of in
    let disk = g.D.Disk.meaning c.args.disk.now in
    let place = fits_placed (record_after_flush (flush_of number made) last) c.in_ok-planned.ensures.writes.fits in
    let is = refused now made last number may k out at was disk.faults disk.faults OutOfMemory place in
    search rules

pub returns-in_err-reserve-clause-any_moment : goal.returns-in_err-reserve-clause-any_moment
returns-in_err-reserve-clause-any_moment g c = λ honest of k out at was records t h versions lists lies has same follows. nothing_written (g.D.Disk.meaning c.args.disk.now) records t _ lies

pub returns-in_err-planned-clause-keeps : goal.returns-in_err-planned-clause-keeps
returns-in_err-planned-clause-keeps g c = λ task known. known

pub returns-in_err-reserve-clause-keeps : goal.returns-in_err-reserve-clause-keeps
returns-in_err-reserve-clause-keeps g c = λ task known.
    let old = memory_in c.self.inside in
    subst (λ (f : Forest). KnowsTask (with_trees f old) task) (sym (c.in_err-reserve.ensures.trees)) (subst (λ (m : Remembered). KnowsTask m task) (sym c.self.view_is) known)

pub returns-in_err-write_flush-clause-keeps : goal.returns-in_err-write_flush-clause-keeps
returns-in_err-write_flush-clause-keeps g c = λ task known.
    let old = memory_in c.self.inside in
    subst (λ (f : Forest). KnowsTask (with_trees f old) task) (sym (c.in_ok-reserve.ensures.trees)) (subst (λ (m : Remembered). KnowsTask m task) (sym c.self.view_is) known)

pub returns-in_err-write_flush-clause-within : goal.returns-in_err-write_flush-clause-within
returns-in_err-write_flush-clause-within g c = λ honest. c.in_err-write_flush.ensures.within honest (keyspace_of c.args.made.now) c.saturating_sub-number.result (view c.in-Some.last.now) c.in_ok-planned.ensures.writes

pub returns-in_err-write_flush-clause-any_moment : goal.returns-in_err-write_flush-clause-any_moment
returns-in_err-write_flush-clause-any_moment g c = λ honest of.
    let a = c.self.inside in
    let old = memory_in a in
    let now = c.args.self.now in
    let made = c.args.made.now in
    let last = view c.in-Some.last.now in
    let number = c.saturating_sub-number.result in
    let may = may_finish old now made last c.keyspace_id-id.result c.flush_end.result number c.self.view_is c.keyspace_id-id.ensures c.in-Some.ensures c.flush_end.ensures c.saturating_sub-number.ensures of in
    let plan = c.in_ok-planned.planned.writes in
    let before = g.D.Disk.meaning c.args.disk.now in
    let after = g.D.Disk.meaning c.write_flush.new.disk in
    on_disk now made last number may before plan c.in_ok-planned.ensures.writes (λ id records t h next. LeavesOnly before after (λ image. HasTree image t ⊎ HasTree image next)) (c.in_err-write_flush.ensures.any_moment honest)

pub returns-in_err-write_flush-clause-served : goal.returns-in_err-write_flush-clause-served
returns-in_err-write_flush-clause-served g c = λ honest of.
    let a = c.self.inside in
    let old = memory_in a in
    let now = c.args.self.now in
    let made = c.args.made.now in
    let last = view c.in-Some.last.now in
    let number = c.saturating_sub-number.result in
    let may = may_finish old now made last c.keyspace_id-id.result c.flush_end.result number c.self.view_is c.keyspace_id-id.ensures c.in-Some.ensures c.flush_end.ensures c.saturating_sub-number.ensures of in
    let plan = c.in_ok-planned.planned.writes in
    let before = g.D.Disk.meaning c.args.disk.now in
    let after = g.D.Disk.meaning c.write_flush.new.disk in
    on_disk now made last number may before plan c.in_ok-planned.ensures.writes
    (λ id records t h next. IsNoFolder (state_in before (table_name id h.last.next_table_id)).now → AllServed before after) (c.in_err-write_flush.ensures.served honest)

pub returns-in_err-write_flush-clause-kinds : goal.returns-in_err-write_flush-clause-kinds
returns-in_err-write_flush-clause-kinds g c = λ honest. c.in_err-write_flush.ensures.kinds honest (keyspace_of c.args.made.now) c.saturating_sub-number.result (view c.in-Some.last.now) c.in_ok-planned.ensures.writes

pub returns-in_err-planned-clause-beside : goal.returns-in_err-planned-clause-beside
returns-in_err-planned-clause-beside g c = λ honest of k out at was n small other. refl

pub returns-in_err-reserve-clause-beside : goal.returns-in_err-reserve-clause-beside
returns-in_err-reserve-clause-beside g c = λ honest of k out at was n small other. refl

pub returns-in_err-write_flush-clause-beside : goal.returns-in_err-write_flush-clause-beside
returns-in_err-write_flush-clause-beside g c = λ honest of k out at was.
    let a = c.self.inside in
    let old = memory_in a in
    let now = c.args.self.now in
    let made = c.args.made.now in
    let last = view c.in-Some.last.now in
    let number = c.saturating_sub-number.result in
    let may = may_finish old now made last c.keyspace_id-id.result c.flush_end.result number c.self.view_is c.keyspace_id-id.ensures c.in-Some.ensures c.flush_end.ensures c.saturating_sub-number.ensures of in
    let before = g.D.Disk.meaning c.args.disk.now in
    let after = g.D.Disk.meaning c.write_flush.new.disk in
    let room : last.next_table_id + length (flush_tables made) < 2 ^ 64 = c.in_ok-planned.ensures.writes.fits.room.next_table_id in
    subst (λ (l : Fields). KeepsTables (keyspace_of made) l.next_table_id before after) (last_is now made last number may k at)
    (tables_stay (keyspace_of made) last.next_table_id before after (omega (arith, room)) (c.in_err-write_flush.ensures.beside honest (keyspace_of made) number last c.in_ok-planned.ensures.writes))

pub settle-requires-clause-out : goal.settle-requires-clause-out
settle-requires-clause-out g c =
    let made = c.args.made.now in
    let trees = c.in_ok-reserve.ensures.trees ∙ ap (λ (m : Remembered). m.trees) c.self.view_is in
    ap (λ (f : Forest). is_flush_out (flushed_task made).id (shape_in (keyspace_of made) f).flush) trees ∙ c.requires.out

-- ---- memory has no room for it, since it isn't of the flush

pub invariant_of-self-in-Err : goal.invariant_of-self-in-Err
invariant_of-self-in-Err g c =
    let old = memory_in c.self.inside in
    alike old _ c.self.invariant refl (c.in-Err.ensures.same_trees ∙ c.in_ok-reserve.ensures.trees) refl refl c.in-Err.ensures.same_records refl

pub returns-in-Err-clause-unchanged : goal.returns-in-Err-clause-unchanged
returns-in-Err-clause-unchanged g c = λ of.
    let made = c.args.made.now in
    let tables : c.len.result ≡ length c.in_ok-planned.planned.readers.items = search rules in
    let clears = ap (λ (l : List ℕ). length l) c.clears.ensures.value in
    let trees = c.in_ok-reserve.ensures.trees ∙ ap (λ (m : Remembered). m.trees) c.self.view_is in
    absurd (true≢false (sym (room_suffices c.args.self.now made c.reserve.new.self c.keyspace_id-id.result c.len.result (length c.clears.result.now) (length c.in_ok-planned.planned.readers.items) (false ≡ true) c.keyspace_id-id.ensures
    tables clears trees c.in_ok-reserve.ensures.room c.in-Err.ensures.ready of)))

pub returns-in-Err-clause-untouched : goal.returns-in-Err-clause-untouched
returns-in-Err-clause-untouched g c = λ of.
    let made = c.args.made.now in
    let tables : c.len.result ≡ length c.in_ok-planned.planned.readers.items = search rules in
    let clears = ap (λ (l : List ℕ). length l) c.clears.ensures.value in
    let trees = c.in_ok-reserve.ensures.trees ∙ ap (λ (m : Remembered). m.trees) c.self.view_is in
    absurd (true≢false (sym (room_suffices c.args.self.now made c.reserve.new.self c.keyspace_id-id.result c.len.result (length c.clears.result.now) (length c.in_ok-planned.planned.readers.items) (false ≡ true) c.keyspace_id-id.ensures
    tables clears trees c.in_ok-reserve.ensures.room c.in-Err.ensures.ready of)))

pub returns-in-Err-clause-keeps : goal.returns-in-Err-clause-keeps
returns-in-Err-clause-keeps g c = λ task known.
    let old = memory_in c.self.inside in
    subst (λ (m : Remembered). KnowsTask m task) (sym c.poison.ensures)
    (subst (λ (f : Forest). KnowsTask (with_trees f old) task) (sym (c.in-Err.ensures.same_trees ∙ c.in_ok-reserve.ensures.trees)) (subst (λ (m : Remembered). KnowsTask m task) (sym c.self.view_is) known))

pub returns-in-Err-clause-cause : goal.returns-in-Err-clause-cause
returns-in-Err-clause-cause g c = λ of k out at was.
    let made = c.args.made.now in
    let tables : c.len.result ≡ length c.in_ok-planned.planned.readers.items = search rules in
    let clears = ap (λ (l : List ℕ). length l) c.clears.ensures.value in
    let trees = c.in_ok-reserve.ensures.trees ∙ ap (λ (m : Remembered). m.trees) c.self.view_is in
    absurd (true≢false (sym (room_suffices c.args.self.now made c.reserve.new.self c.keyspace_id-id.result c.len.result (length c.clears.result.now) (length c.in_ok-planned.planned.readers.items) (false ≡ true) c.keyspace_id-id.ensures
    tables clears trees c.in_ok-reserve.ensures.room c.in-Err.ensures.ready of)))

pub returns-in-Err-clause-within : goal.returns-in-Err-clause-within
returns-in-Err-clause-within g c = λ honest. c.in_ok-write_flush.ensures.within honest (keyspace_of c.args.made.now) c.saturating_sub-number.result (view c.in-Some.last.now) c.in_ok-planned.ensures.writes

pub returns-in-Err-clause-any_moment : goal.returns-in-Err-clause-any_moment
returns-in-Err-clause-any_moment g c = λ honest of.
    let made = c.args.made.now in
    let tables : c.len.result ≡ length c.in_ok-planned.planned.readers.items = search rules in
    let clears = ap (λ (l : List ℕ). length l) c.clears.ensures.value in
    let trees = c.in_ok-reserve.ensures.trees ∙ ap (λ (m : Remembered). m.trees) c.self.view_is in
    absurd (true≢false (sym (room_suffices c.args.self.now made c.reserve.new.self c.keyspace_id-id.result c.len.result (length c.clears.result.now) (length c.in_ok-planned.planned.readers.items) (false ≡ true) c.keyspace_id-id.ensures
    tables clears trees c.in_ok-reserve.ensures.room c.in-Err.ensures.ready of)))

pub returns-in-Err-clause-served : goal.returns-in-Err-clause-served
returns-in-Err-clause-served g c = λ honest of.
    let made = c.args.made.now in
    let tables : c.len.result ≡ length c.in_ok-planned.planned.readers.items = search rules in
    let clears = ap (λ (l : List ℕ). length l) c.clears.ensures.value in
    let trees = c.in_ok-reserve.ensures.trees ∙ ap (λ (m : Remembered). m.trees) c.self.view_is in
    absurd (true≢false (sym (room_suffices c.args.self.now made c.reserve.new.self c.keyspace_id-id.result c.len.result (length c.clears.result.now) (length c.in_ok-planned.planned.readers.items) (false ≡ true) c.keyspace_id-id.ensures
    tables clears trees c.in_ok-reserve.ensures.room c.in-Err.ensures.ready of)))

pub returns-in-Err-clause-kinds : goal.returns-in-Err-clause-kinds
returns-in-Err-clause-kinds g c = λ honest. c.in_ok-write_flush.ensures.kinds honest (keyspace_of c.args.made.now) c.saturating_sub-number.result (view c.in-Some.last.now) c.in_ok-planned.ensures.writes

pub returns-in-Err-clause-beside : goal.returns-in-Err-clause-beside
returns-in-Err-clause-beside g c = λ honest of.
    let made = c.args.made.now in
    let tables : c.len.result ≡ length c.in_ok-planned.planned.readers.items = search rules in
    let clears = ap (λ (l : List ℕ). length l) c.clears.ensures.value in
    let trees = c.in_ok-reserve.ensures.trees ∙ ap (λ (m : Remembered). m.trees) c.self.view_is in
    absurd (true≢false (sym (room_suffices c.args.self.now made c.reserve.new.self c.keyspace_id-id.result c.len.result (length c.clears.result.now) (length c.in_ok-planned.planned.readers.items) (false ≡ true) c.keyspace_id-id.ensures
    tables clears trees c.in_ok-reserve.ensures.room c.in-Err.ensures.ready of)))

-- ---- it is done

pub invariant_of-self-in_default-settle : goal.invariant_of-self-in_default-settle
invariant_of-self-in_default-settle g c =
    let a = c.self.inside in
    let old = memory_in a in
    let now = c.args.self.now in
    let id = keyspace_of c.args.made.now in
    let there = flush_there (flushed_task c.args.made.now).id (shape_in id now.trees).flush c.requires.out in
    let out = there.0 in
    let planned = c.in_ok-planned.planned in
    let is = subst IsLawful c.self.view_is c.self.invariant in
    let given = subst (λ (m : Remembered). id < m.keyspaces.next) (sym c.self.view_is) (living_given now.keyspaces is.keyspaces now.trees id c.requires.living) in
    let kept = c.in_ok-reserve.ensures.trees in
    let was = ap (λ (f : Forest). (shape_in id f).flush) (kept ∙ ap (λ (m : Remembered). m.trees) c.self.view_is) ∙ there.1 in
    let trees = c.in_default-settle.ensures.trees out was ∙ ap (altered_at id (flush_finished planned.readers.items out)) kept in
    alike (with_flush id out planned.readers.items (view planned.writes.record) old) _ (finished_is_lawful id out planned.readers.items (view planned.writes.record) old c.self.invariant given) refl trees refl refl
    c.in_default-settle.ensures.records refl

pub returns-clause-keeps : goal.returns-clause-keeps
returns-clause-keeps g c = λ task known.
    let old = memory_in c.self.inside in
    let now = c.args.self.now in
    let id = keyspace_of c.args.made.now in
    let there = flush_there (flushed_task c.args.made.now).id (shape_in id now.trees).flush c.requires.out in
    let planned = c.in_ok-planned.planned in
    let kept = c.in_ok-reserve.ensures.trees in
    let was = ap (λ (f : Forest). (shape_in id f).flush) (kept ∙ ap (λ (m : Remembered). m.trees) c.self.view_is) ∙ there.1 in
    let trees = c.in_default-settle.ensures.trees there.0 was ∙ ap (altered_at id (flush_finished planned.readers.items there.0)) kept in
    subst (λ (f : Forest). KnowsTask (with_trees f old) task) (sym trees)
    (after_finished old task id there.0 planned.readers.items (view planned.writes.record) (subst (λ (m : Remembered). KnowsTask m task) (sym c.self.view_is) known))

pub returns-clause-ok : goal.returns-clause-ok
returns-clause-ok g c = λ of k out at was.
    let a = c.self.inside in
    let old = memory_in a in
    let now = c.args.self.now in
    let made = c.args.made.now in
    let last = view c.in-Some.last.now in
    let number = c.saturating_sub-number.result in
    let may = may_finish old now made last c.keyspace_id-id.result c.flush_end.result number c.self.view_is c.keyspace_id-id.ensures c.in-Some.ensures c.flush_end.ensures c.saturating_sub-number.ensures of in
    let id = keyspace_of made in
    let planned = c.in_ok-planned.planned in
    let readers = planned.readers.items in
    let kept = c.in_ok-reserve.ensures.trees in
    let trees = c.in_default-settle.ensures.trees out (ap (λ (f : Forest). (shape_in id f).flush) (kept ∙ ap (λ (m : Remembered). m.trees) c.self.view_is) ∙ was) ∙ ap (altered_at id (flush_finished readers out)) kept in
    finished now made last number may k out at was old _ readers (view planned.writes.record) c.self.view_is c.in_ok-planned.ensures.readers c.in_ok-planned.ensures.writes.record_is
    (λ i.
    record {
      keyspaces = a.keyspaces;
      trees = trees i;
      next = a.tickets.visible;
      poisoned = a.poisoned;
      handles = map_of a.handles;
      lasting = a.lasting.items;
      tickets = a.tickets.tickets;
      journals = journals_of a.sealed a.active a.watermarks;
      records = c.in_default-settle.ensures.records i;
      next_job = a.next_job;
      merges_done = a.merges_done;
    })

pub returns-clause-within : goal.returns-clause-within
returns-clause-within g c = λ honest. c.in_ok-write_flush.ensures.within honest (keyspace_of c.args.made.now) c.saturating_sub-number.result (view c.in-Some.last.now) c.in_ok-planned.ensures.writes

pub returns-clause-any_moment : goal.returns-clause-any_moment
returns-clause-any_moment g c = λ honest of.
    let a = c.self.inside in
    let old = memory_in a in
    let now = c.args.self.now in
    let made = c.args.made.now in
    let last = view c.in-Some.last.now in
    let number = c.saturating_sub-number.result in
    let may = may_finish old now made last c.keyspace_id-id.result c.flush_end.result number c.self.view_is c.keyspace_id-id.ensures c.in-Some.ensures c.flush_end.ensures c.saturating_sub-number.ensures of in
    let plan = c.in_ok-planned.planned.writes in
    let before = g.D.Disk.meaning c.args.disk.now in
    let after = g.D.Disk.meaning c.write_flush.new.disk in
    on_disk now made last number may before plan c.in_ok-planned.ensures.writes (λ id records t h next. LeavesOnly before after (λ image. HasTree image t ⊎ HasTree image next)) (c.in_ok-write_flush.ensures.any_moment honest)

pub returns-clause-lies : goal.returns-clause-lies
returns-clause-lies g c = λ honest of.
    let a = c.self.inside in
    let old = memory_in a in
    let now = c.args.self.now in
    let made = c.args.made.now in
    let last = view c.in-Some.last.now in
    let number = c.saturating_sub-number.result in
    let may = may_finish old now made last c.keyspace_id-id.result c.flush_end.result number c.self.view_is c.keyspace_id-id.ensures c.in-Some.ensures c.flush_end.ensures c.saturating_sub-number.ensures of in
    let plan = c.in_ok-planned.planned.writes in
    let before = g.D.Disk.meaning c.args.disk.now in
    let after = g.D.Disk.meaning c.write_flush.new.disk in
    on_disk now made last number may before plan c.in_ok-planned.ensures.writes (λ id records t h next. LiesInTree (state_in after) records next) (c.in_ok-write_flush.ensures.ok honest)

pub returns-clause-served : goal.returns-clause-served
returns-clause-served g c = λ honest of.
    let a = c.self.inside in
    let old = memory_in a in
    let now = c.args.self.now in
    let made = c.args.made.now in
    let last = view c.in-Some.last.now in
    let number = c.saturating_sub-number.result in
    let may = may_finish old now made last c.keyspace_id-id.result c.flush_end.result number c.self.view_is c.keyspace_id-id.ensures c.in-Some.ensures c.flush_end.ensures c.saturating_sub-number.ensures of in
    let plan = c.in_ok-planned.planned.writes in
    let before = g.D.Disk.meaning c.args.disk.now in
    let after = g.D.Disk.meaning c.write_flush.new.disk in
    on_disk now made last number may before plan c.in_ok-planned.ensures.writes
    (λ id records t h next. IsNoFolder (state_in before (table_name id h.last.next_table_id)).now → AllServed before after) (c.in_ok-write_flush.ensures.served honest)

pub returns-clause-kinds : goal.returns-clause-kinds
returns-clause-kinds g c = λ honest. c.in_ok-write_flush.ensures.kinds honest (keyspace_of c.args.made.now) c.saturating_sub-number.result (view c.in-Some.last.now) c.in_ok-planned.ensures.writes

pub returns-clause-beside : goal.returns-clause-beside
returns-clause-beside g c = λ honest of k out at was.
    let a = c.self.inside in
    let old = memory_in a in
    let now = c.args.self.now in
    let made = c.args.made.now in
    let last = view c.in-Some.last.now in
    let number = c.saturating_sub-number.result in
    let may = may_finish old now made last c.keyspace_id-id.result c.flush_end.result number c.self.view_is c.keyspace_id-id.ensures c.in-Some.ensures c.flush_end.ensures c.saturating_sub-number.ensures of in
    let before = g.D.Disk.meaning c.args.disk.now in
    let after = g.D.Disk.meaning c.write_flush.new.disk in
    let room : last.next_table_id + length (flush_tables made) < 2 ^ 64 = c.in_ok-planned.ensures.writes.fits.room.next_table_id in
    subst (λ (l : Fields). KeepsTables (keyspace_of made) l.next_table_id before after) (last_is now made last number may k at)
    (tables_stay (keyspace_of made) last.next_table_id before after (omega (arith, room)) (c.in_ok-write_flush.ensures.beside honest (keyspace_of made) number last c.in_ok-planned.ensures.writes))

pub returns-clause-fits : goal.returns-clause-fits
returns-clause-fits g c = λ of k out at was.
    let a = c.self.inside in
    let old = memory_in a in
    let now = c.args.self.now in
    let made = c.args.made.now in
    let last = view c.in-Some.last.now in
    let number = c.saturating_sub-number.result in
    let may = may_finish old now made last c.keyspace_id-id.result c.flush_end.result number c.self.view_is c.keyspace_id-id.ensures c.in-Some.ensures c.flush_end.ensures c.saturating_sub-number.ensures of in
    subst (λ (l : Fields). l.next_table_id + length (flush_tables made) < 2 ^ 64) (last_is now made last number may k at) c.in_ok-planned.ensures.writes.fits.room.next_table_id

pub returns-clause-files : goal.returns-clause-files
returns-clause-files g c = λ honest of k out at was.
    let a = c.self.inside in
    let old = memory_in a in
    let now = c.args.self.now in
    let made = c.args.made.now in
    let last = view c.in-Some.last.now in
    let number = c.saturating_sub-number.result in
    let may = may_finish old now made last c.keyspace_id-id.result c.flush_end.result number c.self.view_is c.keyspace_id-id.ensures c.in-Some.ensures c.flush_end.ensures c.saturating_sub-number.ensures of in
    let after = g.D.Disk.meaning c.write_flush.new.disk in
    subst (λ (l : Fields). HaveFiles after (keyspace_of made) l.next_table_id (flush_tables made)) (last_is now made last number may k at)
    (c.in_ok-write_flush.ensures.files honest (keyspace_of made) number last c.in_ok-planned.ensures.writes)
