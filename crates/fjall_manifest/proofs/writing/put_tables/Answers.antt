use Rattle.std.proofs.Common.{◌≡◌, ℕ, ◌+◌, [], ◌∷◌, List, OnOk, length, string_bytes, true, sym, ◌∙◌, ap, subst, arith, inr}
use Rattle.std.proofs.lemmas.Bool.{eqb-true}
use Rattle.fjall_base.specs.Disk.{File, Meaning, Name, SyncFolder, Took, IsThere, standing, state_in}
use Rattle.fjall_files.specs.Names.{keyspace_folder}
use Rattle.fjall_files.specs.Regions.{is_under}
use Rattle.fjall_files.specs.Tidy.{FitsAt}
use Rattle.fjall_files.proofs.Changes.{within_start}
use Rattle.fjall_files.proofs.Made.{settled_within, within_both}
use Rattle.fjall_files.proofs.Tidying.{stays_both, stays_settling, stays_start}
use Rattle.fjall_files.proofs.Under.{under_self}
use Rattle.fjall_manifest.proofs.Naming.{table_under}
use Rattle.fjall_manifest.proofs.Runs as Runs
use Rattle.fjall_manifest.proofs.Writings as Writings
use Rattle.fjall_manifest.proofs.writing.put_tables.Goals as goal

pub returns-then-is_empty-clause-any_moment : goal.returns-then-is_empty-clause-any_moment
returns-then-is_empty-clause-any_moment g c honest id records h infos texts at ready new = (Runs.start id at.0 records h (g.D.Disk.meaning c.args.disk.now) ready.rests).run

pub returns-then-is_empty-clause-ok : goal.returns-then-is_empty-clause-ok
returns-then-is_empty-clause-ok g c honest id records h next infos texts at ready new is =
    let none = eqb-true (length c.args.files.now) 0 (sym c.is_empty.ensures ∙ c.if-is_empty.true) in
    Writings.nothing_written (state_in (g.D.Disk.meaning c.args.disk.now)) id records h next infos c.args.files.now texts none ready new is

pub loop-file-init : goal.loop-file-init
loop-file-init g c =
    let m : _ → Meaning = g.D.Disk.meaning in
    record {
      within = λ honest id next infos texts new. within_start (keyspace_folder id) (m c.args.disk.now);
      writing = λ honest id records h infos texts small ready new. Writings.begun id small records h texts (m c.args.disk.now) ready;
      place = omega arith;
      later = omega arith;
      kinds = λ honest fit. stays_start (m c.args.disk.now);
    }

pub returns-in_err-make_file-clause-within : goal.returns-in_err-make_file-clause-within
returns-in_err-make_file-clause-within g c honest id next infos texts at new =
    let m : _ → Meaning = g.D.Disk.meaning in
    let here = Writings.new_at id next infos c.args.files.now texts c.loop-file.file-index c.file-item.result new c.loop-file-test.true c.file-item.is in
    let under : is_under (keyspace_folder id) c.as_str.result.now ≡ true = ap (λ (q : Name). is_under (keyspace_folder id) q) (c.as_str.ensures.value ∙ here.name) ∙ table_under id (next + c.loop-file.file-index) in
    within_both (keyspace_folder id) (m c.args.disk.now) (m c.loop-file.disk) (m c.make_file.new.disk) (c.loop-file.invariant.within honest id next infos texts new) (c.in_err-make_file.ensures.within honest (keyspace_folder id) under)

pub returns-in_err-make_file-clause-any_moment : goal.returns-in_err-make_file-clause-any_moment
returns-in_err-make_file-clause-any_moment g c honest id records h infos texts at ready new =
    let m : _ → Meaning = g.D.Disk.meaning in
    let i = c.loop-file.file-index in
    let here = Writings.new_at id h.last.next_table_id infos c.args.files.now texts i c.file-item.result new c.loop-file-test.true c.file-item.is in
    (Writings.still_on id at.0 records h texts (m c.args.disk.now) (m c.loop-file.disk) i c.file-item.result c.as_str.result.now (c.loop-file.invariant.writing honest id records h infos texts at.0 ready new) here c.as_str.ensures.value
    (m c.make_file.new.disk) (c.in_err-make_file.ensures.within honest c.as_str.result.now (under_self c.as_str.result.now))).run

pub returns-in_err-make_file-clause-served : goal.returns-in_err-make_file-clause-served
returns-in_err-make_file-clause-served g c honest id records h infos texts at ready new =
    let m : _ → Meaning = g.D.Disk.meaning in
    let i = c.loop-file.file-index in
    let here = Writings.new_at id h.last.next_table_id infos c.args.files.now texts i c.file-item.result new c.loop-file-test.true c.file-item.is in
    let so_far = c.loop-file.invariant.writing honest id records h infos texts at.0 ready new in
    c.in_err-make_file.ensures.served honest (Writings.can_make id at.0 records h texts (m c.args.disk.now) (m c.loop-file.disk) i c.file-item.result c.as_str.result.now so_far here c.as_str.ensures.value) ∙ so_far.served

pub returns-in_err-make_file-clause-kinds : goal.returns-in_err-make_file-clause-kinds
returns-in_err-make_file-clause-kinds g c honest fit =
    let m : _ → Meaning = g.D.Disk.meaning in
    let here : FitsAt c.as_str.result.now (File [] []) = subst (λ (q : Name). FitsAt q (File [] [])) (sym (c.as_str.ensures.value ∙ ap (λ f. string_bytes f.name) c.file-item.is)) (fit c.loop-file.file-index c.file-item.result c.loop-file-test.true) in
    stays_both (m c.args.disk.now) (m c.loop-file.disk) (m c.make_file.new.disk) (c.loop-file.invariant.kinds honest fit) (c.in_err-make_file.ensures.kinds honest here)

pub loop-file-preserved : goal.loop-file-preserved
loop-file-preserved g c =
    let m : _ → Meaning = g.D.Disk.meaning in
    let i = c.loop-file.file-index in
    let name = c.as_str.result.now in
    let faults = c.loop-file.invariant.later in
    let more = c.in_ok-make_file.ensures.cause.later in
    let before = c.loop-file-test.true in
    record {
      within = λ honest id next infos texts new.
          let here = Writings.new_at id next infos c.args.files.now texts i c.file-item.result new c.loop-file-test.true c.file-item.is in
          let under : is_under (keyspace_folder id) name ≡ true = ap (λ (q : Name). is_under (keyspace_folder id) q) (c.as_str.ensures.value ∙ here.name) ∙ table_under id (next + i) in
          within_both (keyspace_folder id) (m c.args.disk.now) (m c.loop-file.disk) (m c.make_file.new.disk) (c.loop-file.invariant.within honest id next infos texts new) (c.in_ok-make_file.ensures.within honest (keyspace_folder id) under);
      writing = λ honest id records h infos texts small ready new.
          let here = Writings.new_at id h.last.next_table_id infos c.args.files.now texts i c.file-item.result new c.loop-file-test.true c.file-item.is in
          let so_far = c.loop-file.invariant.writing honest id records h infos texts small ready new in
          let none = Writings.missing id small records h texts (m c.args.disk.now) (m c.loop-file.disk) i c.file-item.result name so_far here c.as_str.ensures.value in
          let can = Writings.can_make id small records h texts (m c.args.disk.now) (m c.loop-file.disk) i c.file-item.result name so_far here c.as_str.ensures.value in
          Writings.one_more id small records h texts (m c.args.disk.now) (m c.loop-file.disk) i c.file-item.result name so_far here c.as_str.ensures.value (m c.make_file.new.disk)
          (c.in_ok-make_file.ensures.within honest name (under_self name)) (c.in_ok-make_file.ensures.made honest none ∙ ap (λ (l : List ℕ). File l []) c.deref.ensures.value) (c.in_ok-make_file.ensures.served honest can);
      place = omega (arith, before);
      later = omega (arith, faults, more);
      kinds = λ honest fit.
          let here : FitsAt name (File [] []) = subst (λ (q : Name). FitsAt q (File [] [])) (sym (c.as_str.ensures.value ∙ ap (λ f. string_bytes f.name) c.file-item.is)) (fit i c.file-item.result c.loop-file-test.true) in
          stays_both (m c.args.disk.now) (m c.loop-file.disk) (m c.make_file.new.disk) (c.loop-file.invariant.kinds honest fit) (c.in_ok-make_file.ensures.kinds honest here);
    }

pub returns-clause-within : goal.returns-clause-within
returns-clause-within g c honest id next infos texts at new =
    let m : _ → Meaning = g.D.Disk.meaning in
    within_both (keyspace_folder id) (m c.args.disk.now) (m c.loop-file.disk) (m c.sync_folder.new.self) (c.loop-file.invariant.within honest id next infos texts new)
    (settled_within (keyspace_folder id) (m c.loop-file.disk) (m c.sync_folder.new.self) c.sync_folder.result
    (subst (λ (n : Name). OnOk c.sync_folder.result (Took (m c.loop-file.disk) (m c.sync_folder.new.self) (SyncFolder n ∷ []))) at.1 (c.sync_folder.ensures.ok honest)) (c.sync_folder.ensures.err honest))

pub returns-clause-any_moment : goal.returns-clause-any_moment
returns-clause-any_moment g c honest id records h infos texts at ready new =
    let m : _ → Meaning = g.D.Disk.meaning in
    let so_far = c.loop-file.invariant.writing honest id records h infos texts at.0 ready new in
    (Runs.synced_or_not id at.0 records h (m c.args.disk.now) (m c.loop-file.disk) (m c.sync_folder.new.self) c.args.folder.now c.sync_folder.result so_far.still (c.sync_folder.ensures.ok honest) (c.sync_folder.ensures.err honest)).run

pub returns-clause-ok : goal.returns-clause-ok
returns-clause-ok g c honest id records h next infos texts at ready new is =
    let m : _ → Meaning = g.D.Disk.meaning in
    let i = c.loop-file.file-index in
    let most = c.loop-file.invariant.place in
    let least = c.loop-file-test.false in
    let all : i ≡ length c.args.files.now = omega (arith, most, least) in
    let so_far = c.loop-file.invariant.writing honest id records h infos texts at.0 ready new in
    Writings.ended id at.0 records h texts (m c.args.disk.now) (m c.loop-file.disk) (m c.sync_folder.new.self) c.sync_folder.result next infos c.args.files.now c.args.folder.now at.1 new
    (subst (λ (n : ℕ). Writings.Writing (m c.args.disk.now) (m c.loop-file.disk) id records h texts n) all so_far) (c.sync_folder.ensures.ok honest) is

pub returns-clause-served : goal.returns-clause-served
returns-clause-served g c honest id records h infos texts at ready new =
    let m : _ → Meaning = g.D.Disk.meaning in
    let so_far = c.loop-file.invariant.writing honest id records h infos texts at.0 ready new in
    let there : IsThere (standing (state_in (m c.loop-file.disk))) c.args.folder.now = inr (ap (λ (n : Name). (state_in (m c.loop-file.disk) n).now) at.1 ∙ ap (λ p. p.now) so_far.still.rests.folder) in
    (c.sync_folder.ensures.judged honest).served there ∙ so_far.served

pub returns-clause-kinds : goal.returns-clause-kinds
returns-clause-kinds g c honest fit =
    let m : _ → Meaning = g.D.Disk.meaning in
    stays_both (m c.args.disk.now) (m c.loop-file.disk) (m c.sync_folder.new.self) (c.loop-file.invariant.kinds honest fit) (stays_settling _ _ c.args.folder.now c.sync_folder.result (c.sync_folder.ensures.ok honest) (c.sync_folder.ensures.err honest))
