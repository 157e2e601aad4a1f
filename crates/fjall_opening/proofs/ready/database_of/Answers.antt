use Rattle.std.proofs.Common.{◌≡◌, ◌∙◌, All, List, map, ap, refl, rules, subst, sym}
use Rattle.std.proofs.lemmas.Bool.{true≢false}
use Rattle.std.proofs.lemmas.List.Elements.{All-map}
use Rattle.std.proofs.lemmas.Result.{err_from_is_err_and}
use Rattle.fjall_base.specs.Disk.{Image, standing, state_in}
use Rattle.fjall_journal.specs.Batches.{shown}
use Rattle.fjall_meta.specs.Keyspaces.{Keyspaces}
use Rattle.fjall_replay.specs.Beside.{AreEndedBy}
use Rattle.fjall_replay.specs.Parted.{AreUnwritten}
use Rattle.fjall_trees.specs.Views.{forest_of}
use Rattle.fjall_replay.specs.Opening.{opened}
use Rattle.fjall_recovery.specs.Folders.{Contents, IsOpenable, ShowsContents}
use Rattle.fjall_recovery.specs.Journals.{EndsAt, AreJournalsRead, batches_in}
use Rattle.fjall_meta.specs.declared.recovery.Persisted.{Persisted}
use Rattle.fjall_opening.specs.Readings.{persisted_of}
use Rattle.fjall_opening.specs.Replaying.{IsHeldBy, ShowBeyond}
use Rattle.fjall_repair.specs.Steps.{active_of}
use Rattle.fjall_opening.proofs.Counting.{rise_of, told_read}
use Rattle.fjall_opening.proofs.JournalsLeft.{left_by}
use Rattle.fjall_opening.proofs.Openings.{may_replay_all, number_listed, number_risen, numbers}
use Rattle.fjall_opening.proofs.Replayed.{IsStill, all_given, all_planted, all_positive, rest_still}
use Rattle.fjall_opening.proofs.Sealings.{opened_unwritten}
use Rattle.fjall_repair.proofs.Suiting.{ends_found}
use Rattle.fjall_opening.proofs.ready.database_of.Goals as goal

pub returns-in_err-number-clause-risen : goal.returns-in_err-number-clause-risen
returns-in_err-number-clause-risen g c =
    let p = err_from_is_err_and c.from_residual.result c.from_residual.ensures.1 in
    rw (p.1, p.2) (number_risen _ _ c.in_err-number.field-0.0 c.in_err-number.ensures.cause)

pub returns-in_err-number-clause-due : goal.returns-in_err-number-clause-due
returns-in_err-number-clause-due g c honest read =
    let no = c.in_err-number.ensures.fine (standing (state_in (g.D.Disk.meaning c.args.disk.now))) read in absurd (true≢false (sym no))

pub returns-in_err-number-clause-listed : goal.returns-in_err-number-clause-listed
returns-in_err-number-clause-listed g c =
    let p = err_from_is_err_and c.from_residual.result c.from_residual.ensures.1 in
    rw (p.1, p.2) (number_listed c.in_err-number.field-0.0 c.in_err-number.ensures.cause)

pub replay_journals-requires-clause-ended : goal.replay_journals-requires-clause-ended
replay_journals-requires-clause-ended g c =
    let same : c.in_ok-loaded.loaded.persisted ≡ persisted_of c.args.found = c.in_ok-loaded.ensures.persisted in
    subst (λ (l : List Persisted). AreEndedBy l 0 (forest_of c.in_ok-loaded.loaded.trees)) (sym same) c.in_ok-loaded.ensures.ended

pub replay_journals-requires-clause-unwritten : goal.replay_journals-requires-clause-unwritten
replay_journals-requires-clause-unwritten g c = subst AreUnwritten (sym c.in_ok-loaded.ensures.trees) (opened_unwritten c.args.found.homes.items)

pub returns-in_err-trees-clause-due : goal.returns-in_err-trees-clause-due
returns-in_err-trees-clause-due g c honest read =
    let p = err_from_is_err_and c.from_residual-in_err-trees.result c.from_residual-in_err-trees.ensures.1 in
    let image : Image = standing (state_in (g.D.Disk.meaning c.args.disk.now)) in
    let found = c.args.found in
    let js = read.journals in
    rw (p.1, p.2)
    (c.in_err-trees.ensures.due honest js.journals found.journals.torn (record { named = js.named ∙ sym c.deref-2.ensures.value; read = js.read; ends = js.ends })
    (may_replay_all image found read _ c.in_ok-number.number refl (c.in_ok-number.ensures.number (numbers image found read))))

pub returns-clause-opened : goal.returns-clause-opened
returns-clause-opened g c honest old same read =
    let image : Image = standing (state_in old) in
    let now : Image = standing (state_in (g.D.Disk.meaning c.args.disk.now)) in
    let found = c.args.found in
    let loaded = c.in_ok-loaded.ensures in
    let made = c.in_ok-trees.ensures in
    let some = made.some in
    let told : c.in_ok-loaded.loaded.persisted ≡ persisted_of found = c.in_ok-loaded.ensures.persisted in
    let held : (contents : Contents) → IsOpenable image contents → ShowsContents found contents → IsHeldBy now c.deref-2.result.now found.journals.end found.journals.torn contents.journals =
    λ contents is shows. record {
      named = sym shows.ids ∙ sym c.deref-2.ensures.value;
      read = subst (λ (i : Image). AreJournalsRead i contents.journals) same is.journals.read;
      ends = subst (λ (i : Image). EndsAt i contents.journals found.journals.end found.journals.torn) same (ends_found image found contents is read);
    } in
    record {
      loaded = forest_of c.in_ok-loaded.loaded.trees;
      takes = record {
        journal = search rules;
        last_is = refl;
        keyspaces = refl;
        reads = some.1.reads;
        rest = some.1.rest;
        parted = made.parted;
      };
      trees = λ contents is shows.
          subst (λ (s : Keyspaces). ShowBeyond s (persisted_of found) (forest_of c.in_ok-loaded.loaded.trees) (map shown (batches_in contents.journals)) (forest_of c.in_ok-trees.trees)) shows.keyspaces
          (subst (λ (l : List Persisted). ShowBeyond found.catalog.keyspaces l (forest_of c.in_ok-loaded.loaded.trees) (map shown (batches_in contents.journals)) (forest_of c.in_ok-trees.trees)) told
          (made.ok honest contents.journals found.journals.torn (held contents is shows)).shown);
      left = λ contents is shows.
          left_by image found contents c.in_ok-loaded.loaded.persisted (forest_of c.in_ok-loaded.loaded.trees) (forest_of c.in_ok-trees.trees) read shows told loaded.trees some.1.rest
          (made.made honest contents.journals found.journals.torn found.journals.watermarks (held contents is shows) (told_read image found contents read shows is));
      journals = record { sealed_are = refl; active_is = c.active_id-id.ensures ∙ ap active_of c.deref.ensures.value; marks_are = c.in_ok-watermarks.ensures.ok };
      opened = λ contents is shows. loaded.opened old contents is (sym shows.keyspaces) read.homes;
      named = loaded.named image read.homes;
      reads = λ contents is shows entries have. loaded.reads old contents is (sym shows.keyspaces) read.homes entries have;
      sound = λ contents is shows versions have. loaded.sound old contents is (sym shows.keyspaces) read.homes versions have;
    }

pub returns-clause-lawful : goal.returns-clause-lawful
returns-clause-lawful g c =
    let number = c.in_ok-number.number in
    let found = c.args.found in
    let s = found.catalog.keyspaces in
    let told = c.in_ok-number.ensures in
    let made = c.in_ok-trees.ensures in
    let some = made.some in
    let keyspaces = c.next_id.ensures.lawful in
    let ids = some.1.ids ∙ c.in_ok-loaded.ensures.live in
    record {
      keyspaces = keyspaces;
      made = told.made;
      forest = c.in_ok-trees.trees.lawful;
      planted = all_planted s _ ids;
      positive = all_positive s _ ids keyspaces;
      given = all_given s _ ids keyspaces;
      below = made.below (c.in_ok-loaded.ensures.before number told.told);
      small = told.small;
      numbered =
          rise_of found.journal_ids.items found.journals.sealed c.active_id-id.result c.requires.numbered.ascending c.requires.numbered.sealed
          (c.active_id-id.ensures ∙ ap active_of c.deref.ensures.value);
      recorded = c.in_ok-loaded.ensures.recorded;
      kept = c.in_ok-loaded.ensures.kept;
      still =
          rest_still (forest_of c.in_ok-loaded.loaded.trees) (forest_of c.in_ok-trees.trees) some.1.rest
          (subst (All IsStill) (sym c.in_ok-loaded.ensures.trees) (All-map IsStill opened found.homes.items (λ i d lt. (refl, refl))));
      parted = made.parted;
    }
