-- Disks of which a crash may leave different stores, and what is opened on them.
use Rattle.std.proofs.Common.{◌≡◌, inl, inr, ℕ, ◌<◌, ◌^◌, codes, List, [], map, Option, Some, None, refl, sym, ◌∙◌, ap, subst, arith}
use Rattle.std.specs.Prelude.{Contains}
use Rattle.fjall_base.specs.Store.{Command, Store, fold, kept}
use Rattle.fjall_base.specs.Crash.{IsHoused}
use Rattle.fjall_base.proofs.Wholes.{all_kept, all_kept_is_left}
use Rattle.fjall_base.specs.Disk.{DiskState, Image, IsFile, IsImage, LeavesOnly, Meaning, standing, state_in}
use Rattle.fjall_meta.specs.Keyspaces.{no_keyspaces}
use Rattle.fjall_table.specs.Blocks.{Entry}
use Rattle.fjall_files.specs.Names.{journal_name}
use Rattle.fjall_files.specs.Marker.{marker_tells}
use Rattle.fjall_files.specs.Tidy.{StaysTidy}
use Rattle.fjall_meta.proofs.Keeping.{nothing_to_keep}
use Rattle.fjall_recovery.specs.Folders.{Contents, ImageStandsFor, IsOpenable, IsUnfinished}
use Rattle.fjall_recovery.specs.Journals.{WholeJournal}
use Rattle.fjall_recovery.proofs.Alone.{one_list_of_journals}
use Rattle.fjall_recovery.specs.Amid.{ComesBackUnfinished, HoldsAmid, StandsAmid}
use Rattle.fjall_recovery.specs.Held.{Holds, IsFolder, store_of_folder}
use Rattle.fjall_recovery.proofs.Alike.{kept_alike, standing_amid}
use Rattle.fjall_recovery.proofs.Amidst.{told_twice}
use Rattle.fjall_recovery.proofs.Holding.{folder_stands}
use Rattle.fjall_opening.specs.declared.opened.Opened.{Opened}
use Rattle.fjall_opening.specs.Opened.{ComesBack}
use Rattle.fjall_opening.specs.Opened as repair
use Rattle.fjall_repair.specs.Sweeps.{IsSwept}
use Rattle.fjall_engine.specs.Holding.{Held}
use Rattle.fjall_engine.specs.Durables.{Durable, IsFinishedImage, StaysFinished}
use Rattle.fjall_engine.specs.Openings.{OpensAfterCrash}
use Rattle.fjall_engine.specs.Standing.{HoldsStore, StandsOn}
use Rattle.fjall_changes.proofs.CrashedJournals.{store_is_kept}
use Rattle.fjall_engine.proofs.Opening.{core_of, opens_as}

-- ---- one store

kept_again : (folder : Option Contents) → kept (store_of_folder folder) ≡ store_of_folder folder
kept_again None = nothing_to_keep no_keyspaces []
kept_again (Some c) = store_is_kept c

like : (image : Image) (folder : Option Contents) (store : Store) → IsFolder image folder → store ≡ store_of_folder folder → StandsAmid store [] [] image
like image folder store is same = record {
  front = [];
  holds = ([], refl);
  within = ([], refl);
  stands = subst (ImageStandsFor image) (sym (ap kept same ∙ kept_again folder)) (folder_stands image folder is);
}

no_file : (journals : List WholeJournal) (id : ℕ) → journals ≡ [] → Contains (map (λ (j : WholeJournal). j.id) journals) id → ⊥
no_file journals id none has =
    let at : Contains [] id = subst (λ (l : List WholeJournal). Contains (map (λ (j : WholeJournal). j.id) l) id) none has in
    let lt = at.1 in
    omega (arith, lt)

none_back : (state : DiskState) (folder : Option Contents) → Holds state folder → (c : Contents) → IsOpenable (standing state) c → c.journals ≡ [] → (image : Image) → IsImage state image → (id : ℕ) → id < 2 ^ 64 → IsFile (image (journal_name id)) → ⊥
none_back state None holds c openable none image is id small file = told_twice openable.marker holds.now.marker
none_back state (Some d) holds c openable none image is id small file =
    let same : d.journals ≡ c.journals = one_list_of_journals (standing state) d.journals c.journals holds.now.openable.journals openable.journals in
    no_file d.journals id (same ∙ none) (((holds.crash image is).openable.journals.ids.each id).1 (small, file))

comes_back : (state : DiskState) (folder : Option Contents) → IsFolder (standing state) folder → ComesBack state folder → IsUnfinished (standing state) → ComesBackUnfinished state
comes_back state None is back begun = back
comes_back state (Some c) is back begun = absurd (told_twice is.openable.marker begun.marker)

-- a disk that holds a store holds it with nothing pending
pub holds_store_amid : (state : DiskState) (store : Store) → HoldsStore state store → HoldsAmid state store []
holds_store_amid state store (folder, holds, back, same) =
    record {
      now = like (standing state) folder store holds.now same;
      crash = λ image is. like image folder store (holds.crash image is) same;
      journals = none_back state folder holds;
      back = comes_back state folder holds.now back;
    }

-- ---- the disk of a core

-- what stands is finished where whatever a crash leaves is
standing_finished : (state : DiskState) → IsHoused state → StaysFinished state → IsFinishedImage (standing state)
standing_finished state housed finished =
    let whole = finished (all_kept state) (all_kept_is_left state housed) in
    record {
      marker = ap marker_tells (kept_alike state (codes "version")).bytes ∙ whole.marker;
      id = whole.id;
      fits = whole.fits;
      journal = (kept_alike state (journal_name whole.id)).file.0 whole.journal;
    }

-- a disk of finished folders holds, in the midst of work, what whatever a crash leaves of it stands for
pub finished_amid : (state : DiskState) (base : Store) (pending : List Command) → IsHoused state → StaysFinished state → ((image : Image) → IsImage state image → StandsAmid base [] pending image) → HoldsAmid state base pending
finished_amid state base pending housed finished crash =
    let stands = standing_finished state housed finished in
    record {
      now = standing_amid state base [] pending housed crash;
      crash = crash;
      journals = λ c sound none image is id small file. no_file c.journals stands.id none ((sound.journals.ids.each stands.id).1 (stands.fits, stands.journal));
      back = λ begun. absurd (told_twice stands.marker begun.marker);
    }

pub a_core_holds_amid : (core : Held) (entries : ℕ → List (List Entry)) (d : Durable) → StandsOn core entries d → IsHoused (state_in d.meaning) → HoldsAmid (state_in d.meaning) d.base d.pending
a_core_holds_amid core entries d on housed = finished_amid (state_in d.meaning) d.base d.pending housed on.finished on.rests

-- ---- what is opened

pub opens_amid : (old new : Meaning) (o : Opened) (base : Store) (pending : List Command) → HoldsAmid (state_in old) base pending → StaysTidy old new → IsSwept (state_in old) (state_in new) o.catalog o.keyspaces.living
    → ((folder : Option Contents) → IsFolder (standing (state_in old)) folder → repair.OpensFolder new folder o) → LeavesOnly old new (StandsAmid base [] pending) → repair.IsLawfulOpening o → OpensAfterCrash old (core_of new o) base pending
opens_amid old new o base pending holds kinds swept opens run lawful =
    let found = stood (standing (state_in old)) (kept (fold base holds.now.front)) holds.now.stands in
    let is = opens found.0 found.1 in
    record { front = holds.now.front; within = holds.now.within; opens = opens_as new found.0 o is (kept (fold base holds.now.front)) lawful found.2; any_moment = run; kinds = kinds }
  where
    stood : (image : Image) (store : Store) → ImageStandsFor image store → (folder : Option Contents) × IsFolder image folder × (store ≡ store_of_folder folder)
    stood image store (inl (c, sound, is)) = (Some c, sound, is)
    stood image store (inr (begun, is)) = (None, begun, is)
