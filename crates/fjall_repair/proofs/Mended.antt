-- A folder all of whose steps were taken is mended.
use Rattle.std.proofs.Common.{◌≡◌, List, [], ◌∷◌, length, Some, refl, sym, ◌∙◌, ap}
use Rattle.fjall_base.specs.Disk.{DiskState, Name}
use Rattle.fjall_base.specs.Lists.{last_of}
use Rattle.fjall_files.specs.Names.{journal_name}
use Rattle.fjall_recovery.specs.declared.folder.RecoveredFolder.{RecoveredFolder}
use Rattle.fjall_recovery.specs.Folders.{Contents}
use Rattle.fjall_recovery.specs.Homes.{HaveVersions}
use Rattle.fjall_recovery.specs.Journals.{WholeJournal, batches_in}
use Rattle.fjall_recovery.specs.Places.{texts_of}
use Rattle.fjall_repair.specs.Mended.{IsMended}
use Rattle.fjall_repair.specs.Steps.{IsRested, active_of, opened, with_active}
use Rattle.fjall_repair.proofs.MendOpened.{ids_of, same_batches}
use Rattle.fjall_repair.proofs.Rested.{Parted, active_parted, journaling, last_parted, lies_in_root, parted, rests_in_tree, sound, with_is}

opened_parted : (js : List WholeJournal) → Parted (opened js)
opened_parted [] = parted (record { id = 1; batches = [] }) []
opened_parted (j ∷ js) = parted j js

pub same_active : (js : List WholeJournal) → active_of (ids_of (opened js)) ≡ active_of (ids_of js)
same_active [] = refl
same_active (j ∷ js) = refl

pub mended : (state : DiskState) (found : RecoveredFolder) (c : Contents) (active : Name) → HaveVersions c.homes c.versions → IsRested state (with_active c) → active ≡ journal_name (active_of (ids_of c.journals))
    → ((journal : WholeJournal) → last_of (opened c.journals) ≡ Some journal → length (texts_of journal.batches) ≡ found.journals.end) → IsMended state found c active
mended state found c active have rest is ends =
    let p = opened_parted c.journals in
    record {
      j = journaling state (with_active c) rest p;
      root = lies_in_root state (with_active c) rest p;
      active_is = ap journal_name (sym (active_parted (opened c.journals) p) ∙ same_active c.journals) ∙ sym is;
      later = refl;
      end = ends p.active (last_parted (opened c.journals) p);
      batches = ap batches_in (with_is state (with_active c) rest p) ∙ same_batches c.journals;
      journals = with_is state (with_active c) rest p;
      records = (sound state (with_active c) rest).records;
      tree = rests_in_tree state (with_active c) rest have;
    }

-- the last journal is the active one
pub last_named : (js : List WholeJournal) (journal : WholeJournal) → last_of (opened js) ≡ Some journal → journal_name journal.id ≡ journal_name (active_of (ids_of (opened js)))
last_named js journal last =
    let p = opened_parted js in
    let both : Some journal ≡ Some p.active = sym last ∙ last_parted (opened js) p in
    let same : journal ≡ p.active = cc in
    ap (λ (j : WholeJournal). journal_name j.id) same ∙ ap journal_name (sym (active_parted (opened js) p))
