-- A folder that is repaired and opened where a crash may leave different stores.
use Rattle.std.proofs.Common.{◌≡◌, List, [], sym, subst}
use Rattle.fjall_base.specs.Store.{Store, Command, fold, kept}
use Rattle.fjall_base.specs.Crash.{IsHoused}
use Rattle.fjall_base.specs.Disk.{DiskState, Image, IsImage, LeavesOnly, Meaning, Took, standing, state_in}
use Rattle.fjall_base.proofs.Moments.{at_end, started, weaken}
use Rattle.fjall_recovery.specs.Folders.{Contents, ImageStandsFor, IsOpenable, IsUnfinished}
use Rattle.fjall_recovery.proofs.Alone.{one_store}
use Rattle.fjall_recovery.specs.Amid.{ComesBackUnfinished, HoldsAmid, StandsAmid}
use Rattle.fjall_recovery.specs.Places.{Journaling, LiesInRoot}
use Rattle.fjall_recovery.proofs.Alike.{standing_amid}
use Rattle.fjall_recovery.proofs.Amidst.{lies_amid}

-- an image of the store that this one stands for stands for as many commands
pub like_now : (image other : Image) (store : Store) (base : Store) (pending : List Command) → StandsAmid base [] pending image → ImageStandsFor image store → ImageStandsFor other store → StandsAmid base [] pending other
like_now image other store base pending amid is at = record {
  front = amid.front;
  holds = amid.holds;
  within = amid.within;
  stands = subst (ImageStandsFor other) (sym (one_store image (kept (fold base amid.front)) store amid.stands is)) at;
}

-- a run in which the folder stands for the store that it stood for
pub run_amid : (old mid new : Meaning) (store : Store) (base : Store) (pending : List Command) → HoldsAmid (state_in old) base pending → ImageStandsFor (standing (state_in old)) store → LeavesOnly mid new (λ image. ImageStandsFor image store) → LeavesOnly mid new (StandsAmid base [] pending)
run_amid old mid new store base pending holds is run = weaken mid new (λ image. ImageStandsFor image store) (StandsAmid base [] pending) run (λ image at. like_now (standing (state_in old)) image store base pending holds.now is at)

-- before the first change
pub amid_now : (old : Meaning) (base : Store) (pending : List Command) → HoldsAmid (state_in old) base pending → LeavesOnly old old (StandsAmid base [] pending)
amid_now old base pending holds = started old (StandsAmid base [] pending) (λ image is. holds.crash image is)

pub amid_on : (old mid : Meaning) → Took old mid [] → (base : Store) (pending : List Command) → HoldsAmid (state_in old) base pending → HoldsAmid (state_in mid) base pending
amid_on old mid same base pending holds = subst (λ (s : DiskState). HoldsAmid s base pending) (sym same.state) holds

-- what is swept holds them still, also where the sweep failed
pub held_swept : (old mid new : Meaning) (base : Store) (pending : List Command) → IsHoused (state_in new) → LeavesOnly old new (StandsAmid base [] pending) → (j : Journaling) → LiesInRoot (state_in new) j → HoldsAmid (state_in new) base pending
held_swept old mid new base pending housed run j root = lies_amid (state_in new) j root base pending housed (λ image is. at_end old new (StandsAmid base [] pending) run image is)

-- a disk on which a database was begun, perhaps in part
pub held_begun : (old new : Meaning) (base : Store) (pending : List Command) → IsHoused (state_in new) → LeavesOnly old new (StandsAmid base [] pending) → (IsUnfinished (standing (state_in new)) → ComesBackUnfinished (state_in new))
    → ((c : Contents) → IsOpenable (standing (state_in new)) c → c.journals ≡ [] → ⊥) → HoldsAmid (state_in new) base pending
held_begun old new base pending housed run back journal =
    let crash : (image : Image) → IsImage (state_in new) image → StandsAmid base [] pending image = λ image is. at_end old new (StandsAmid base [] pending) run image is in
    record {
      now = standing_amid (state_in new) base [] pending housed crash;
      crash = crash;
      journals = λ c sound none. absurd (journal c sound none);
      back = back;
    }
