-- What disks hold that a crash left.
use Rattle.std.proofs.Common.{◌≡◌, inl, inr, List, Option, Some, None, refl}
use Rattle.fjall_base.specs.Store.{Store}
use Rattle.fjall_base.specs.Disk.{DiskState, DiskStep, Image, Leaves, disk_of}
use Rattle.fjall_recovery.specs.Folders.{Contents, ImageStandsFor}
use Rattle.fjall_recovery.specs.Held.{IsFolder, store_of_folder}
use Rattle.fjall_recovery.proofs.Holding.{a_crash_holds}
use Rattle.fjall_opening.proofs.Openings.{settled_comes_back}
use Rattle.fjall_engine.specs.Standing.{HoldsStore}

-- a folder that a crash left
pub left_holds : (state : DiskState) (steps : List DiskStep) (image : Image) (store : Store) (folder : Option Contents) → Leaves state steps image → IsFolder image folder → store ≡ store_of_folder folder → HoldsStore (disk_of image) store
left_holds state steps image store folder leaves is same = (folder, a_crash_holds state steps image folder leaves is, settled_comes_back (disk_of image) folder (λ name. refl) is, same)

pub crash_holds : (state : DiskState) (steps : List DiskStep) (image : Image) (store : Store) → Leaves state steps image → ImageStandsFor image store → HoldsStore (disk_of image) store
crash_holds state steps image store leaves (inl (contents, sound, same)) = left_holds state steps image store (Some contents) leaves sound same
crash_holds state steps image store leaves (inr (unfinished, same)) = left_holds state steps image store None leaves unfinished same
