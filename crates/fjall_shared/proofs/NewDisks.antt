-- What a new disk holds.
use Rattle.std.proofs.Common.{◌≡◌, inl, false, [], None, refl, subst, sym}
use Rattle.fjall_base.specs.Disk.{Image, IsImage, Meaning, Missing, disk_of}
use Rattle.fjall_meta.specs.Keyspaces.{no_keyspaces}
use Rattle.fjall_meta.specs.Replays.{bare}
use Rattle.fjall_repair.proofs.Standing.{missing_stands, unfinished_of}
use Rattle.fjall_core.specs.CoreStanding.{HoldsStore}
use Rattle.fjall_core.proofs.CrashedDisks.{left_holds}
use Rattle.fjall_core.proofs.Reopening.{holds_store_amid}
use Rattle.fjall_shared.specs.Openings.{IsLeftByEngine}

-- nothing stands anywhere
abbrev nothing : Image
nothing name = Missing

nothing_left : IsImage (disk_of nothing) nothing
nothing_left = record { kept = λ name there. inl refl; lost = λ name gone. refl }

-- a disk on which nothing stands holds the store without keyspaces
nothing_holds : HoldsStore (disk_of nothing) (bare no_keyspaces)
nothing_holds = left_holds (disk_of nothing) [] nothing (bare no_keyspaces) None nothing_left (unfinished_of nothing (missing_stands false)) refl

-- so an engine may have left a new disk, with nothing pending
pub new_is_left : (disk : Meaning) → disk ≡ record { places = []; steps = []; faults = 0; misuses = 0 } → IsLeftByEngine disk
new_is_left disk new =
    let holds = holds_store_amid (disk_of nothing) (bare no_keyspaces) nothing_holds in
    subst IsLeftByEngine (sym new) (bare no_keyspaces, [], [], inl (record { none = refl; holds = holds }))
