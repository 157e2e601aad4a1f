use Rattle.std.proofs.Common.{◌≢◌, ap, get_or, string_bytes, refl, sym, ◌∙◌, subst, arith}
use Rattle.fjall_base.specs.Disk.{DiskState, IsNoFolder, Meaning, Name, state_in}
use Rattle.fjall_files.specs.Names.{keyspace_folder, table_name}
use Rattle.fjall_files.proofs.Changes.{within_start}
use Rattle.fjall_files.proofs.Made.{within_both, within_none}
use Rattle.fjall_files.proofs.Tidying.{removing_tidy, stays_both, stays_by, stays_none, stays_start}
use Rattle.fjall_manifest.proofs.Removals as Removals
use Rattle.fjall_manifest.proofs.Runs as Runs
use Rattle.fjall_manifest.proofs.writing.remove_tables.Goals as goal

pub loop-name-init : goal.loop-name-init
loop-name-init g c =
    let m : _ → Meaning = g.D.Disk.meaning in
    record {
      within = λ honest id ids same. within_start (keyspace_folder id) (m c.args.disk.now);
      ready = λ honest id records h ids small same unnamed ready. Removals.ready_start id small records h (m c.args.disk.now) ready;
      rests = λ honest id records h ids small same unnamed rests. Runs.start id small records h (m c.args.disk.now) rests;
      served = λ honest id ids same kinds. (refl, kinds);
      beside = λ honest q apart. refl;
      gone = λ honest id ids same k lt. absurd (omega (arith, lt));
      later = omega arith;
      kinds = λ honest. stays_start (m c.args.disk.now);
    }

pub returns-in_err-remove-clause-within : goal.returns-in_err-remove-clause-within
returns-in_err-remove-clause-within g c honest id ids same =
    let m : _ → Meaning = g.D.Disk.meaning in
    within_both (keyspace_folder id) (m c.args.disk.now) (m c.loop-name.disk) (m c.remove.new.self) (c.loop-name.invariant.within honest id ids same) (within_none (keyspace_folder id) _ _ (c.in_err-remove.ensures.err honest))

pub returns-in_err-remove-clause-any_moment : goal.returns-in_err-remove-clause-any_moment
returns-in_err-remove-clause-any_moment g c honest id records h ids small same unnamed ready =
    let m : _ → Meaning = g.D.Disk.meaning in
    (Removals.as_it_was id small records h (m c.args.disk.now) (m c.loop-name.disk) (m c.remove.new.self) (c.loop-name.invariant.ready honest id records h ids small same unnamed ready) (c.in_err-remove.ensures.err honest)).still.run

pub returns-in_err-remove-clause-ready : goal.returns-in_err-remove-clause-ready
returns-in_err-remove-clause-ready g c honest id records h ids small same unnamed ready =
    let m : _ → Meaning = g.D.Disk.meaning in
    (Removals.as_it_was id small records h (m c.args.disk.now) (m c.loop-name.disk) (m c.remove.new.self) (c.loop-name.invariant.ready honest id records h ids small same unnamed ready) (c.in_err-remove.ensures.err honest)).ready

pub returns-in_err-remove-clause-rests : goal.returns-in_err-remove-clause-rests
returns-in_err-remove-clause-rests g c honest id records h ids small same unnamed rests =
    let m : _ → Meaning = g.D.Disk.meaning in
    let still = Runs.unchanged id small records h (m c.args.disk.now) (m c.loop-name.disk) (m c.remove.new.self) (c.loop-name.invariant.rests honest id records h ids small same unnamed rests) (c.in_err-remove.ensures.err honest) in
    (still.run, still.rests)

pub returns-in_err-remove-clause-served : goal.returns-in_err-remove-clause-served
returns-in_err-remove-clause-served g c honest id ids same kinds =
    let m : _ → Meaning = g.D.Disk.meaning in
    let so_far = c.loop-name.invariant.served honest id ids same kinds in
    let at = Removals.name_at string_bytes id c.args.names.now ids c.loop-name.name-index c.name-item.result c.as_str.result.now same c.loop-name-test.true c.name-item.is c.as_str.ensures.value in
    (c.in_err-remove.ensures.judged honest).served (subst (λ (n : Name). IsNoFolder (state_in (m c.loop-name.disk) n).now) (sym at.0) (so_far.1 c.loop-name.name-index 0 at.1)) ∙ so_far.0

pub returns-in_err-remove-clause-beside : goal.returns-in_err-remove-clause-beside
returns-in_err-remove-clause-beside g c honest q apart =
    ap (λ (s : DiskState). (s q).now) (c.in_err-remove.ensures.err honest).state ∙ c.loop-name.invariant.beside honest q apart

pub returns-in_err-remove-clause-kinds : goal.returns-in_err-remove-clause-kinds
returns-in_err-remove-clause-kinds g c honest =
    let m : _ → Meaning = g.D.Disk.meaning in
    stays_both (m c.args.disk.now) (m c.loop-name.disk) (m c.remove.new.self) (c.loop-name.invariant.kinds honest) (stays_none _ _ (c.in_err-remove.ensures.err honest))

pub loop-name-preserved : goal.loop-name-preserved
loop-name-preserved g c =
    let m : _ → Meaning = g.D.Disk.meaning in
    let i = c.loop-name.name-index in
    let name = c.as_str.result.now in
    let faults = c.loop-name.invariant.later in
    let more = c.in_ok-remove.ensures.cause.later in
    record {
      within = λ honest id ids same.
          let at = Removals.name_at string_bytes id c.args.names.now ids i c.name-item.result name same c.loop-name-test.true c.name-item.is c.as_str.ensures.value in
          within_both (keyspace_folder id) (m c.args.disk.now) (m c.loop-name.disk) (m c.remove.new.self) (c.loop-name.invariant.within honest id ids same)
          (Removals.removed_under id (get_or ids i 0) name (m c.loop-name.disk) (m c.remove.new.self) at.0 (c.in_ok-remove.ensures.ok honest));
      ready = λ honest id records h ids small same unnamed ready.
          let at = Removals.name_at string_bytes id c.args.names.now ids i c.name-item.result name same c.loop-name-test.true c.name-item.is c.as_str.ensures.value in
          Removals.one_removed id small records h ids i name (m c.loop-name.disk) (m c.remove.new.self) at.0 at.1 unnamed (c.in_ok-remove.ensures.ok honest) (m c.args.disk.now)
          (c.loop-name.invariant.ready honest id records h ids small same unnamed ready);
      rests = λ honest id records h ids small same unnamed rests.
          let at = Removals.name_at string_bytes id c.args.names.now ids i c.name-item.result name same c.loop-name-test.true c.name-item.is c.as_str.ensures.value in
          Removals.still_removed id small records h ids i name (m c.loop-name.disk) (m c.remove.new.self) at.0 at.1 unnamed (c.in_ok-remove.ensures.ok honest) (m c.args.disk.now)
          (c.loop-name.invariant.rests honest id records h ids small same unnamed rests);
      served = λ honest id ids same kinds.
          let so_far = c.loop-name.invariant.served honest id ids same kinds in
          let at = Removals.name_at string_bytes id c.args.names.now ids i c.name-item.result name same c.loop-name-test.true c.name-item.is c.as_str.ensures.value in (
            (c.in_ok-remove.ensures.judged honest).served (subst (λ (n : Name). IsNoFolder (state_in (m c.loop-name.disk) n).now) (sym at.0) (so_far.1 i 0 at.1)) ∙ so_far.0,
            λ k d lt. Removals.removing_keeps IsNoFolder tt name (table_name id (get_or ids k d)) (m c.loop-name.disk) (m c.remove.new.self) (c.in_ok-remove.ensures.ok honest) (so_far.1 k d lt),
          );
      beside = λ honest q apart.
          let away : q ≢ name = λ at. apart i c.name-item.result c.loop-name-test.true (at ∙ c.as_str.ensures.value ∙ ap (λ n. string_bytes n) c.name-item.is) in
          Removals.beside_removed name q (m c.loop-name.disk) (m c.remove.new.self) away (c.in_ok-remove.ensures.ok honest) ∙ c.loop-name.invariant.beside honest q apart;
      gone = λ honest id ids same.
          let at = Removals.name_at string_bytes id c.args.names.now ids i c.name-item.result name same c.loop-name-test.true c.name-item.is c.as_str.ensures.value in
          Removals.one_gone id ids i name (m c.loop-name.disk) (m c.remove.new.self) at.0 (c.in_ok-remove.ensures.ok honest) (c.loop-name.invariant.gone honest id ids same);
      later = omega (arith, faults, more);
      kinds = λ honest. stays_both (m c.args.disk.now) (m c.loop-name.disk) (m c.remove.new.self) (c.loop-name.invariant.kinds honest) (stays_by _ _ _ (c.in_ok-remove.ensures.ok honest) (removing_tidy name _));
    }

pub returns-clause-any_moment : goal.returns-clause-any_moment
returns-clause-any_moment g c honest id records h ids small same unnamed ready = (c.loop-name.invariant.ready honest id records h ids small same unnamed ready).still.run

pub returns-clause-ready : goal.returns-clause-ready
returns-clause-ready g c honest id records h ids small same unnamed ready = (c.loop-name.invariant.ready honest id records h ids small same unnamed ready).ready

pub returns-clause-rests : goal.returns-clause-rests
returns-clause-rests g c honest id records h ids small same unnamed rests =
    let still = c.loop-name.invariant.rests honest id records h ids small same unnamed rests in (still.run, still.rests)

pub returns-clause-served : goal.returns-clause-served
returns-clause-served g c honest id ids same kinds = (c.loop-name.invariant.served honest id ids same kinds).0

pub returns-clause-beside : goal.returns-clause-beside
returns-clause-beside g c honest q apart = c.loop-name.invariant.beside honest q apart

pub returns-clause-gone : goal.returns-clause-gone
returns-clause-gone g c honest id ids same =
    let count = Removals.as_many string_bytes id c.args.names.now ids same in
    let end = c.loop-name-test.false in
    Removals.all_gone (state_in (g.D.Disk.meaning c.loop-name.disk)) id ids c.loop-name.name-index (omega (arith, end, count)) (c.loop-name.invariant.gone honest id ids same)
