-- A file of which no more than its first bytes are wanted.
use Rattle.std.specs.Prelude.{◌≡◌, ◌≢◌, ◌⊎◌, ℕ, ◌≤◌, Bool, true, false, List, [], take}
use Rattle.fjall_base.specs.Disk.{Name, DiskEntry, File, Place, DiskState, Image, IsImage, all_synced, cut_to}

-- What is left of an entry of which at least the first so many bytes stay: all of it, or a file's first bytes.
abbrev pub KeepsFront : ℕ → DiskEntry → DiskEntry → Type 0
KeepsFront len entry left = (left ≡ entry) ⊎ ((bytes : List ℕ) × (k : ℕ) × (len ≤ k) × (entry ≡ File bytes []) × (left ≡ File (take k bytes) []))

-- The image is one that a crash of the state may leave, but that of the file of that name at least the first so many
-- bytes may be all that stayed.
pub record IsTrimmed (state : DiskState) (name : Name) (len : ℕ) (image : Image) : Type 0 where
  pub whole : Image
  pub is : IsImage state whole
  pub elsewhere : (q : Name) → q ≢ name → image q ≡ whole q
  pub here : KeepsFront len (whole name) (image name)

-- a file that was cut to that length where that was asked for, and else synced
abbrev pub ended : Bool → ℕ → DiskEntry → DiskEntry
ended true len = cut_to len
ended false len = all_synced

-- the place with its file ended so; what stood there before its folder was synced is as it was
abbrev pub ended_place : Bool → ℕ → Place → Place
ended_place cut len place = record { now = ended cut len place.now; older = place.older }
