-- The marker of a folder: its file `version`.
use Rattle.std.specs.Prelude.{ℕ, List, [], ◌∷◌, ◌++◌, take, length, Bool, ◌&&◌, nat_lt, if◌then◌else◌, codes, Option, Some, None, Result, Ok, Err}
use Rattle.std.specs.Str.{bytes_eq}
use Rattle.fjall_base.specs.Errors.{version_byte}
use Rattle.fjall_base.specs.declared.error.FormatVersion.{FormatVersion}
use Rattle.fjall_base.specs.declared.error.FormatVersion.TheVariants.{V1, V2, V3}
use Rattle.fjall_base.specs.declared.error.Error.{Error}
use Rattle.fjall_base.specs.declared.error.Error.TheVariants.{InvalidVersion}
use Rattle.fjall_files.specs.declared.marker.Marker.{Marker}
use Rattle.fjall_files.specs.declared.marker.Marker.TheVariants.{Whole, Unfinished}

-- the header of a version: "FJL" and the version's byte
abbrev pub header : FormatVersion → List ℕ
header version = codes "FJL" ++ version_byte version ∷ []

-- the first four bytes are the header of this version
abbrev pub begins_with : FormatVersion → List ℕ → Bool
begins_with version bytes = bytes_eq (take 4 bytes) (header version)

-- the version whose header the first four bytes are
abbrev pub version_at : List ℕ → Option FormatVersion
version_at bytes = if begins_with V1 bytes then Some V1 else (if begins_with V2 bytes then Some V2 else (if begins_with V3 bytes then Some V3 else None))

-- the bytes are a beginning of version 3's header, and not all of it
abbrev pub is_cut_short : List ℕ → Bool
is_cut_short bytes = nat_lt (length bytes) 4 && bytes_eq bytes (take (length bytes) (header V3))

-- of the versions version 3 alone is read
abbrev pub accepted : Option FormatVersion → Result Marker Error
accepted (Some V3) = Ok Whole
accepted version = Err (InvalidVersion version)

-- A marker that is missing or cut short: the folder's creation was never finished. Any other one is accepted by its version.
abbrev pub marker_tells : Option (List ℕ) → Result Marker Error
marker_tells None = Ok Unfinished
marker_tells (Some bytes) = if is_cut_short bytes then Ok Unfinished else accepted (version_at bytes)
