-- What a wild crash leaves of a disk in memory.
use Rattle.std.specs.Prelude.{ℕ, List, [], ◌∷◌, if◌then◌else◌, map}
use Rattle.std.specs.Borrow.{Bor}
use Rattle.std.specs.Str.{bytes_eq}
use Rattle.fjall_base.specs.Disk.{Name, DiskEntry, Image, all_synced, appended}

-- an entry with these bytes behind those of its file, all of them synced
abbrev pub followed : List ℕ → DiskEntry → DiskEntry
followed bytes entry = all_synced (appended bytes entry)

-- names of files, each with the bytes that follow its own
abbrev pub Fills : Type 0
Fills = List (Name × List ℕ)

-- as they are passed
abbrev pub fills_of : List (Bor (List ℕ) × Bor (List ℕ)) → Fills
fills_of given = map (λ f. (f.0.now, f.1.now)) given

-- the image with these bytes behind those of the name's file
abbrev pub following : Name → List ℕ → Image → Image
following name bytes image q = if bytes_eq q name then followed bytes (image q) else image q

-- the same of all of these, the first of them first
abbrev pub filled : Fills → Image → Image
filled [] image = image
filled (fill ∷ fills) image = filled fills (following fill.0 fill.1 image)
