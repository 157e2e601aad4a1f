-- What disks hold that a crash left, a usual one or a wild one, or that nothing was put on.
use Rattle.std.proofs.Common.{◌≡◌, inl, false, List, [], ◌∷◌, Option, None, refl, sym, subst}
use Rattle.std.specs.List.{AllByRecursion}
use Rattle.fjall_base.specs.Store.{Command, Store, fold, kept}
use Rattle.fjall_base.specs.Disk.{DiskState, DiskStep, Image, IsImage, Leaves, LeavesBy, Missing, Name, Place, disk_of}
use Rattle.fjall_files.specs.Tidy.{FitsAt, IsTidy, IsTidyStep}
use Rattle.fjall_files.proofs.Tidying.{fits_missing, left_tidy}
use Rattle.fjall_meta.specs.Keyspaces.{no_keyspaces}
use Rattle.fjall_meta.specs.Replays.{bare}
use Rattle.fjall_recovery.specs.Folders.{Contents, ImageStandsFor, IsUnfinished}
use Rattle.fjall_recovery.specs.Held.{IsOpenFolder}
use Rattle.fjall_recovery.proofs.Holding.{folder_stands}
use Rattle.fjall_repair.proofs.Standing.{missing_stands, unfinished_of}
use Rattle.fjall_recovery.specs.Wild.{SurvivesUnforged}
use Rattle.fjall_recovery.proofs.Cutting.{left_itself}
use Rattle.fjall_recovery.proofs.Folders.{wild_amid}
use Rattle.fjall_engine.specs.Durables.{IsBeginning, StandsAmid}
use Rattle.fjall_engine.specs.Standing.{HoldsStore}
use Rattle.fjall_engine.proofs.CrashedDisks.{crash_holds, left_holds}

pub a_crash_amid_holds : (state : DiskState) (steps : List DiskStep) (image : Image) (base : Store) (least all : List Command) → Leaves state steps image → StandsAmid base least all image
    → (front : List Command) × IsBeginning least front × IsBeginning front all × HoldsStore (disk_of image) (kept (fold base front))
a_crash_amid_holds state steps image base least all leaves is = (is.front, is.holds, is.within, crash_holds state steps image (kept (fold base is.front)) leaves is.stands)

pub a_wild_crash_amid_holds : (state : DiskState) (steps : List DiskStep) (image : Image) (folder : Option Contents) (base : Store) (least all : List Command)
    → ((usual : Image) → Leaves state steps usual → StandsAmid base least all usual) → LeavesBy SurvivesUnforged state steps image → IsOpenFolder image folder
    → (front : List Command) × IsBeginning least front × IsBeginning front all × HoldsStore (disk_of image) (kept (fold base front))
a_wild_crash_amid_holds state steps image folder base least all usual leaves opens =
    let is = wild_amid state steps base least all image folder usual leaves opens in
    (is.front, is.holds, is.within, crash_holds (disk_of image) [] image (kept (fold base is.front)) (left_itself state steps image leaves) is.stands)

-- nothing stands in the way on a disk that a crash left, where nothing did, whatever was done to it
pub crash_stays_tidy : (state : DiskState) (steps : List DiskStep) (image : Image) → IsTidy state → AllByRecursion IsTidyStep steps → Leaves state steps image → IsTidy (disk_of image)
crash_stays_tidy state steps image tidy each leaves = left_tidy steps state image each tidy leaves

pub holds_through_crash : (state : DiskState) (store : Store) (image : Image) → HoldsStore state store → IsImage state image → ImageStandsFor image store
holds_through_crash state store image (folder, holds, back, same) is = subst (ImageStandsFor image) (sym same) (folder_stands image folder (holds.crash image is))

-- nothing stands anywhere
abbrev nothing : Image
nothing name = Missing

nothing_unfinished : IsUnfinished nothing
nothing_unfinished = unfinished_of nothing (missing_stands false)

nothing_left : IsImage (disk_of nothing) nothing
nothing_left = record { kept = λ name there. inl refl; lost = λ name gone. refl }

pub new_disk_holds : (state : DiskState) → ((name : Name) → state name ≡ record { now = Missing; older = [] }) → HoldsStore state (bare no_keyspaces)
new_disk_holds state none =
    let at : disk_of nothing ≡ state = λ i name. sym (none name) i in
    subst (λ (s : DiskState). HoldsStore s (bare no_keyspaces)) at (left_holds (disk_of nothing) [] nothing (bare no_keyspaces) None nothing_left nothing_unfinished refl)

pub new_disk_tidy : (state : DiskState) → ((name : Name) → state name ≡ record { now = Missing; older = [] }) → IsTidy state
new_disk_tidy state none name = subst (λ (p : Place). AllByRecursion (FitsAt name) (p.now ∷ p.older)) (sym (none name)) (fits_missing name, tt)
