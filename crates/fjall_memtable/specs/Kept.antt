-- What a job keeps of versions in order, by one look back at each; and how it parts them into tables.
use Rattle.std.specs.Prelude.{◌≡◌, ◌≢◌, ℕ, ◌≤◌, Bool, false, not, nat_lt, nat_le, ◌&&◌, ◌||◌, if◌then◌else◌, List, [], ◌∷◌, ◌++◌, Option, Some, None, IsSomeAnd}
use Rattle.std.specs.List.{sum_by}
use Rattle.std.specs.Str.{bytes_eq}
use Rattle.fjall_base.specs.Lists.{last_of}
use Rattle.fjall_table.specs.Blocks.{Entry}
use Rattle.fjall_table.specs.Tables.{first_key}
use Rattle.fjall_memtable.specs.Entries.{size_of}
use Rattle.fjall_memtable.specs.Jobs.{is_old_removal}

-- whether the version before is of the same key
abbrev pub is_behind : Option Entry → Entry → Bool
is_behind None v = false
is_behind (Some w) v = bytes_eq w.key v.key

-- whether the version before is of the same key and numbered up to the watermark
abbrev pub is_followed : ℕ → Option Entry → Entry → Bool
is_followed watermark None v = false
is_followed watermark (Some w) v = bytes_eq w.key v.key && nat_le w.number watermark

-- Whether a job keeps a version behind another one, where all that is numbered below the bound is cleared. One that spends
-- also leaves out removals that the watermark reaches and before which no version of their key stands.
abbrev pub is_kept : Bool → ℕ → ℕ → Option Entry → Entry → Bool
is_kept spends watermark bound before v =
    not (nat_lt v.number bound || is_followed watermark before v) && not (spends && (is_old_removal watermark v && not (is_behind before v)))

-- what a job keeps of versions in order
abbrev pub kept_of : Bool → ℕ → ℕ → Option Entry → List Entry → List Entry
kept_of spends watermark bound before [] = []
kept_of spends watermark bound before (v ∷ versions) =
    if is_kept spends watermark bound before v then v ∷ kept_of spends watermark bound (Some v) versions else kept_of spends watermark bound (Some v) versions

-- ---- parted into tables

-- the sizes of versions, all added up
abbrev pub size_of_all : List Entry → ℕ
size_of_all versions = sum_by size_of versions

-- There is a last version, and its key isn't this one.
abbrev pub EndsBefore : List Entry → List ℕ → Type 0
EndsBefore versions key = IsSomeAnd (last_of versions) (λ v. v.key ≢ key)

-- A table isn't closed late: where a front of it had reached the target, all behind it is of the front's last key.
abbrev pub IsClosedInTime : ℕ → List Entry → Type 0
IsClosedInTime target table = (front behind : List Entry) → table ≡ front ++ behind → target ≤ size_of_all front
    → EndsBefore front (first_key behind) → behind ≡ []

-- Tables, one behind another: each holds something and is closed in time, and each but the last had reached the target where
-- the key changes.
abbrev pub AreClosedAt : ℕ → List (List Entry) → Type 0
AreClosedAt target [] = Unit {0}
AreClosedAt target (table ∷ []) = (table ≢ []) × IsClosedInTime target table
AreClosedAt target (table ∷ next ∷ tables) =
    ((table ≢ []) × IsClosedInTime target table × (target ≤ size_of_all table) × EndsBefore table (first_key next)) × AreClosedAt target (next ∷ tables)
