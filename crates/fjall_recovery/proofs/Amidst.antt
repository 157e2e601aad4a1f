-- A disk whose root lies exactly holds, in the midst of work, what whatever a crash leaves of it stands for.
use Rattle.std.proofs.Common.{◌≡◌, List, [], ◌∷◌, ◌++◌, Result, Ok, sym, ◌∙◌}
use Rattle.fjall_base.specs.declared.error.Error.{Error}
use Rattle.fjall_base.specs.Store.{Store, Command}
use Rattle.fjall_base.specs.Crash.{IsHoused}
use Rattle.fjall_base.specs.Disk.{DiskState, Image, IsImage, standing}
use Rattle.fjall_files.specs.declared.marker.Marker.{Marker}
use Rattle.fjall_files.specs.declared.marker.Marker.TheVariants.{Whole, Unfinished}
use Rattle.fjall_recovery.specs.Journals.{WholeJournal}
use Rattle.fjall_recovery.proofs.Alone.{one_list_of_journals}
use Rattle.fjall_recovery.specs.Amid.{HoldsAmid, StandsAmid}
use Rattle.fjall_recovery.specs.Places.{Journaling, LiesInRoot, journals_with}
use Rattle.fjall_recovery.proofs.Alike.{standing_amid}
use Rattle.fjall_recovery.proofs.Roots.{standing_root}

pub told_twice : {told : Result Marker Error} → told ≡ Ok Whole → told ≡ Ok Unfinished → ⊥
told_twice whole unfinished = let no = sym whole ∙ unfinished in cc

never_none : (front : List WholeJournal) (last : WholeJournal) → [] ≡ front ++ last ∷ [] → ⊥
never_none [] last is = cc
never_none (j ∷ front) last is = cc

-- Where the root lies exactly, whatever a crash leaves says all.
pub lies_amid : (s : DiskState) (j : Journaling) → LiesInRoot s j → (base : Store) (pending : List Command) → IsHoused s → ((image : Image) → IsImage s image → StandsAmid base [] pending image) → HoldsAmid s base pending
lies_amid s j root base pending housed crash =
    let stood = standing_root s j root in
    record {
      now = standing_amid s base [] pending housed crash;
      crash = crash;
      journals = λ c sound none. absurd (never_none j.sealed (let r : WholeJournal = record { id = j.active; batches = j.whole ++ stood.0 } in r) (sym none ∙ one_list_of_journals (standing s) c.journals (journals_with j stood.0) sound.journals stood.3.holds));
      back = λ begun. absurd (told_twice stood.3.marker begun.marker);
    }
