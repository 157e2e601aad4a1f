use Rattle.std.proofs.Common.{◌∙◌, arith, length, refl, subst}
use Rattle.fjall_base.specs.Disk.{Meaning, state_in}
use Rattle.fjall_manifest.proofs.Runs as Runs
use Rattle.fjall_compaction.specs.MergePlans.{AreNamed}
use Rattle.fjall_compaction.proofs.Naming.{one_for_each}
use Rattle.fjall_compaction.proofs.Writings.{Writing, at_end}
use Rattle.fjall_compaction.proofs.Writings as Writings
use Rattle.fjall_compaction.proofs.writing.put_tables.Goals as goal

-- ---- no table was made

pub returns-then-is_empty-clause-any_moment : goal.returns-then-is_empty-clause-any_moment
returns-then-is_empty-clause-any_moment g c honest id records h rests new = (Runs.start id new.home.0 records h (g.D.Disk.meaning c.args.disk.now) rests).run

pub returns-then-is_empty-clause-ok : goal.returns-then-is_empty-clause-ok
returns-then-is_empty-clause-ok g c honest id records h rests new = Writings.none_put c.args.tables.now c.if-is_empty.ensures (state_in (g.D.Disk.meaning c.args.disk.now)) id records h rests

-- ---- one by one

pub loop-at-init : goal.loop-at-init
loop-at-init g c = record {
  writing = λ honest id next new. Writings.begun id next c.args.tables.now (g.D.Disk.meaning c.args.disk.now);
  still = λ honest id records h rests new. Runs.start id new.home.0 records h (g.D.Disk.meaning c.args.disk.now) rests;
  served = λ honest id records h rests new none. (refl, none);
  place = omega arith;
  later = omega arith;
}

pub loop-at-preserved : goal.loop-at-preserved
loop-at-preserved g c = record {
  writing = λ honest id next new.
      let look = c.in-Some.ensures.lookup.3 in
      let turn = Writings.turn id next _ _ _ new c.loop-at.at c.loop-at-test.true _ look.0 (look.1 _) _ c.as_str.ensures.value in
      Writings.one_more _ _ _ _ _ turn _ _ _ (c.in_ok-put_anew.ensures.within honest) (c.loop-at.invariant.writing honest id next new)
      (c.in_ok-put_anew.ensures.kinds honest (Writings.fit _ _ _ _ _ turn))
      (c.in_ok-put_anew.ensures.made honest
      ∙ Writings.text_is c.args.tables.now c.loop-at.at c.index-tables-at.result c.deref.result.now c.loop-at-test.true c.deref.ensures.value);
  still = λ honest id records h rests new.
      let look = c.in-Some.ensures.lookup.3 in
      let turn = Writings.turn id h.last.next_table_id _ _ _ new c.loop-at.at c.loop-at-test.true _ look.0 (look.1 _) _ c.as_str.ensures.value in
      Writings.still_on _ _ _ _ _ turn records h refl _ _ (c.loop-at.invariant.still honest id records h rests new) _ (c.in_ok-put_anew.ensures.within honest);
  served = λ honest id records h rests new none.
      let look = c.in-Some.ensures.lookup.3 in
      let turn = Writings.turn id h.last.next_table_id _ _ _ new c.loop-at.at c.loop-at-test.true _ look.0 (look.1 _) _ c.as_str.ensures.value in
      let so_far = c.loop-at.invariant.served honest id records h rests new none in (
        c.in_ok-put_anew.ensures.served honest (Writings.can_make _ _ _ _ _ turn records h refl _ _ (c.loop-at.invariant.still honest id records h rests new) so_far.1)
            (Writings.apart _ _ _ _ _ turn) ∙ so_far.0,
        Writings.none_still _ _ _ _ _ turn (g.D.Disk.meaning c.args.disk.now) _ _ (c.in_ok-put_anew.ensures.within honest) _ (c.in_ok-put_anew.ensures.made honest) so_far.1,
      );
  place = let lt = c.loop-at-test.true in omega (arith, lt);
  later = let before = c.loop-at.invariant.later in let one = c.put_anew.ensures.cause.later in omega (arith, before, one);
}

-- ---- there is a name for each

pub returns-in_default-clause-ok : goal.returns-in_default-clause-ok
returns-in_default-clause-ok g c honest id records h rests new =
    absurd (one_for_each id h.last.next_table_id c.args.tables.now c.args.files.now c.loop-at.at new.named c.loop-at-test.true c.in_default.ensures.lookup.0)

pub returns-in_default-clause-files : goal.returns-in_default-clause-files
returns-in_default-clause-files g c honest id next new = absurd (one_for_each id next c.args.tables.now c.args.files.now c.loop-at.at new.named c.loop-at-test.true c.in_default.ensures.lookup.0)

-- ---- one of them wasn't written

pub returns-in_err-put_anew-clause-within : goal.returns-in_err-put_anew-clause-within
returns-in_err-put_anew-clause-within g c honest id next new =
    let look = c.in-Some.ensures.lookup.3 in
    let turn = Writings.turn id next _ _ _ new c.loop-at.at c.loop-at-test.true _ look.0 (look.1 _) _ c.as_str.ensures.value in
    (Writings.changing_on _ _ _ _ _ turn _ _ _ (c.in_err-put_anew.ensures.within honest) (c.loop-at.invariant.writing honest id next new).on
    (c.in_err-put_anew.ensures.kinds honest (Writings.fit _ _ _ _ _ turn))).within

pub returns-in_err-put_anew-clause-any_moment : goal.returns-in_err-put_anew-clause-any_moment
returns-in_err-put_anew-clause-any_moment g c honest id records h rests new =
    let look = c.in-Some.ensures.lookup.3 in
    let turn = Writings.turn id h.last.next_table_id _ _ _ new c.loop-at.at c.loop-at-test.true _ look.0 (look.1 _) _ c.as_str.ensures.value in
    (Writings.still_on _ _ _ _ _ turn records h refl _ _ (c.loop-at.invariant.still honest id records h rests new) _ (c.in_err-put_anew.ensures.within honest)).run

pub returns-in_err-put_anew-clause-served : goal.returns-in_err-put_anew-clause-served
returns-in_err-put_anew-clause-served g c honest id records h rests new none =
    let look = c.in-Some.ensures.lookup.3 in
    let turn = Writings.turn id h.last.next_table_id _ _ _ new c.loop-at.at c.loop-at-test.true _ look.0 (look.1 _) _ c.as_str.ensures.value in
    let so_far = c.loop-at.invariant.served honest id records h rests new none in
    c.in_err-put_anew.ensures.served honest (Writings.can_make _ _ _ _ _ turn records h refl _ _ (c.loop-at.invariant.still honest id records h rests new) so_far.1) (Writings.apart _ _ _ _ _ turn)
    ∙ so_far.0

pub returns-in_err-put_anew-clause-kinds : goal.returns-in_err-put_anew-clause-kinds
returns-in_err-put_anew-clause-kinds g c honest id next new =
    let look = c.in-Some.ensures.lookup.3 in
    let turn = Writings.turn id next _ _ _ new c.loop-at.at c.loop-at-test.true _ look.0 (look.1 _) _ c.as_str.ensures.value in
    (Writings.changing_on _ _ _ _ _ turn _ _ _ (c.in_err-put_anew.ensures.within honest) (c.loop-at.invariant.writing honest id next new).on
    (c.in_err-put_anew.ensures.kinds honest (Writings.fit _ _ _ _ _ turn))).kinds

pub returns-in_err-put_anew-clause-beside : goal.returns-in_err-put_anew-clause-beside
returns-in_err-put_anew-clause-beside g c honest id next new =
    let look = c.in-Some.ensures.lookup.3 in
    let turn = Writings.turn id next _ _ _ new c.loop-at.at c.loop-at-test.true _ look.0 (look.1 _) _ c.as_str.ensures.value in
    (Writings.changing_on _ _ _ _ _ turn _ _ _ (c.in_err-put_anew.ensures.within honest) (c.loop-at.invariant.writing honest id next new).on
    (c.in_err-put_anew.ensures.kinds honest (Writings.fit _ _ _ _ _ turn))).beside

-- ---- the whole call

pub returns-clause-within : goal.returns-clause-within
returns-clause-within g c honest id next new =
    (Writings.changing_still _ _ _ _ _ new _ _ _ _ (c.sync_folder.ensures.ok honest) (c.sync_folder.ensures.err honest) (c.loop-at.invariant.writing honest id next new).on).within

pub returns-clause-any_moment : goal.returns-clause-any_moment
returns-clause-any_moment g c honest id records h rests new =
    (Writings.still_then _ _ _ _ _ new _ _ _ _ (c.sync_folder.ensures.ok honest) (c.sync_folder.ensures.err honest) records h refl (c.loop-at.invariant.still honest id records h rests new)).run

pub returns-clause-ok : goal.returns-clause-ok
returns-clause-ok g c honest id records h rests new =
    let w : _ → Meaning = g.D.Disk.meaning in
    let tables = c.args.tables.now in
    let all : Writing (w c.args.disk.now) (w c.loop-at.disk) id h.last.next_table_id tables (length tables) =
    subst (Writing (w c.args.disk.now) (w c.loop-at.disk) id h.last.next_table_id tables) (at_end c.loop-at.at (length tables) c.loop-at.invariant.place c.loop-at-test.false)
    (c.loop-at.invariant.writing honest id h.last.next_table_id new) in
    Writings.ended_put _ _ _ _ _ new _ _ _ _ (c.sync_folder.ensures.ok honest) (c.sync_folder.ensures.err honest) records h refl (c.loop-at.invariant.still honest id records h rests new) all

pub returns-clause-served : goal.returns-clause-served
returns-clause-served g c honest id records h rests new none =
    (c.sync_folder.ensures.judged honest).served
    (Writings.folder_there _ _ _ _ _ new _ _ _ _ (c.sync_folder.ensures.ok honest) (c.sync_folder.ensures.err honest) records h refl (c.loop-at.invariant.still honest id records h rests new))
    ∙ (c.loop-at.invariant.served honest id records h rests new none).0

pub returns-clause-kinds : goal.returns-clause-kinds
returns-clause-kinds g c honest id next new =
    (Writings.changing_still _ _ _ _ _ new _ _ _ _ (c.sync_folder.ensures.ok honest) (c.sync_folder.ensures.err honest) (c.loop-at.invariant.writing honest id next new).on).kinds

pub returns-clause-beside : goal.returns-clause-beside
returns-clause-beside g c honest id next new =
    (Writings.changing_still _ _ _ _ _ new _ _ _ _ (c.sync_folder.ensures.ok honest) (c.sync_folder.ensures.err honest) (c.loop-at.invariant.writing honest id next new).on).beside

pub returns-clause-files : goal.returns-clause-files
returns-clause-files g c honest id next new =
    let w : _ → Meaning = g.D.Disk.meaning in
    let tables = c.args.tables.now in
    let all : Writing (w c.args.disk.now) (w c.loop-at.disk) id next tables (length tables) =
    subst (Writing (w c.args.disk.now) (w c.loop-at.disk) id next tables) (at_end c.loop-at.at (length tables) c.loop-at.invariant.place c.loop-at-test.false)
    (c.loop-at.invariant.writing honest id next new) in
    Writings.ended_files _ _ _ _ _ new _ _ _ _ (c.sync_folder.ensures.ok honest) (c.sync_folder.ensures.err honest) all
