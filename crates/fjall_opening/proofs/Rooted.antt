-- The root while names in `keyspaces` are removed.
use Rattle.std.proofs.Common.{◌≡◌, inl, ⊎_elim, ◌<◌, ◌^◌, Bool, true, false, List, [], ◌∷◌, ◌++◌, map, codes, refl, sym, ◌∙◌, subst}
use Rattle.std.specs.Prelude.{not}
use Rattle.std.specs.List.{AllByRecursion}
use Rattle.std.proofs.lemmas.List.Elements.{recursion_from_All}
use Rattle.fjall_base.specs.Disk.{Name, DiskState, Meaning, LeavesOnly, state_in}
use Rattle.fjall_files.specs.Regions.{IsSafe, Within, is_under}
use Rattle.fjall_files.proofs.Changes.{within_state}
use Rattle.fjall_files.proofs.Parts.{region_run}
use Rattle.fjall_manifest.specs.Records.{Fields}
use Rattle.fjall_files.specs.Names.{IsMisnamed, journal_name}
use Rattle.fjall_recovery.specs.Folders.{ImageStandsFor, store_of_contents}
use Rattle.fjall_recovery.specs.Journals.{WholeJournal}
use Rattle.fjall_recovery.specs.Halves.{Tree, is_of_keyspaces, is_of_root}
use Rattle.fjall_recovery.specs.Places.{IsNeverFile, Journaling, LiesInRoot, RestsInTree, contents_with, journal_ids, texts_of}
use Rattle.fjall_recovery.proofs.Named.{journal_within, keyspaces_not_misnamed, root_cases}
use Rattle.fjall_recovery.proofs.Roots.{crashes_leave_the_root}
use Rattle.fjall_recovery.proofs.Holding.{one_sound, some_sound}
use Rattle.fjall_repair.specs.Sweeps.{RemovesNames, removals}
use Rattle.fjall_repair.proofs.Removals as Removals
use Rattle.fjall_repair.proofs.Spared.{IsSpare, moments}

-- ---- what stands in the root is all that matters

module _ (old new : DiskState) (agree : (q : Name) → is_of_root q ≡ true → new q ≡ old q) where
  sealed_along : (sealed rest : List WholeJournal) → AllByRecursion (λ id. id < 2 ^ 64) (map (λ (k : WholeJournal). k.id) (sealed ++ rest))
      → AllByRecursion (λ journal. IsSafe old (journal_name journal.id) (texts_of journal.batches)) sealed → AllByRecursion (λ journal. IsSafe new (journal_name journal.id) (texts_of journal.batches)) sealed
  sealed_along [] rest fit all = tt
  sealed_along (k ∷ sealed) rest fit all = (agree (journal_name k.id) (journal_within k.id fit.0) ∙ all.0, sealed_along sealed rest fit.1 all.1)

  active_fits : (sealed : List WholeJournal) (last : WholeJournal) → AllByRecursion (λ id. id < 2 ^ 64) (map (λ (k : WholeJournal). k.id) (sealed ++ last ∷ [])) → last.id < 2 ^ 64
  active_fits [] last fit = fit.0
  active_fits (k ∷ sealed) last fit = active_fits sealed last fit.1

  pub root_along : (j : Journaling) → LiesInRoot old j → LiesInRoot new j
  root_along j lies =
      let fit = recursion_from_All (λ id. id < 2 ^ 64) (journal_ids j) lies.fit in
      record {
        marker_text = lies.marker_text;
        marker = agree (codes "version") refl ∙ lies.marker;
        marker_is = lies.marker_is;
        named = λ name inside misnamed. ⊎_elim
            (λ is. subst IsNeverFile (sym (agree name is)) (lies.named name inside misnamed))
            (λ at. absurd (keyspaces_not_misnamed (subst IsMisnamed at misnamed))) (root_cases name inside);
        ascending = lies.ascending;
        fit = lies.fit;
        others = λ id small none. subst IsNeverFile (sym (agree (journal_name id) (journal_within id small))) (lies.others id small none);
        sealed = sealed_along j.sealed (record { id = j.active; batches = j.whole ++ [] } ∷ []) fit lies.sealed;
        active = agree (journal_name j.active) (journal_within j.active (active_fits j.sealed (record { id = j.active; batches = j.whole ++ [] }) fit)) ∙ lies.active;
        written = lies.written;
        sound = lies.sound;
      }

-- ---- names in `keyspaces` that are removed

of_root : (q : Name) → is_of_root q ≡ true → is_of_keyspaces q ≡ false
of_root q is = not_true (is_of_keyspaces q) is
  where
    not_true : (b : Bool) → not b ≡ true → b ≡ false
    not_true true is = sym is
    not_true false is = refl

-- a name in `keyspaces` that they don't rest on
abbrev pub IsSpareWithin : Tree → Name → Type 0
IsSpareWithin t name = IsSpare t name × (is_under (codes "keyspaces") name ≡ true)

module _ (mid new : Meaning) (j : Journaling) (records : List Fields) (t : Tree) (root : LiesInRoot (state_in mid) j) (rests : RestsInTree (state_in mid) records t) (later : j.later ≡ [])
    (run : RemovesNames (IsSpareWithin t) mid new) where
  under : Within (codes "keyspaces") mid new
  under = Removals.within (IsSpareWithin t) (codes "keyspaces") mid new (λ name is. is.1) run

  -- the root lies as before
  pub root_stays : LiesInRoot (state_in new) j
  root_stays = root_along (state_in mid) (state_in new) (λ q is. within_state (codes "keyspaces") (λ none. cc) mid new under q (of_root q is)) j root

  -- and at each moment the folder stands for the same store
  pub store_stays : LeavesOnly mid new (λ image. ImageStandsFor image (store_of_contents (contents_with j t [])))
  store_stays = record {
    added = removals run.names;
    took = run.took;
    each = λ image left.
        let seen = region_run is_of_root (codes "keyspaces") (λ none. cc) of_root (state_in mid) (state_in mid) (removals run.names) image (Removals.all_under (IsSpareWithin t) (codes "keyspaces") (λ name is. is.1) run.names run.each) (λ q out. refl) left in
        let tree = moments (state_in mid) records t run.names image (Removals.all_weaker (IsSpareWithin t) (IsSpare t) run.names (λ name is. is.0) run.each) rests left in
        inl (contents_with j t [], one_sound image j t later (some_sound image j t (crashes_leave_the_root (state_in mid) image j root seen) tree), refl);
  }
