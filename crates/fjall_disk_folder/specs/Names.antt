-- Which names a disk over a folder takes.
use Rattle.std.specs.Prelude.{ℕ, List, [], ◌∷◌, ◌++◌, Bool, not, ◌&&◌, ◌||◌, ◌==◌, codes, string_bytes, All, IsTrue, ◌≡◌, if◌then◌else◌}
use Rattle.std.specs.Str.{bytes_eq}
use Rattle.std.specs.List.{list_all, slice_split}
use Rattle.fjall_base.specs.Disk.{Name}
use Rattle.fjall_base.specs.declared.disk.DirEntry.{DirEntry}

-- the parts of a name, divided by slashes: one more than its slashes
abbrev pub parts_of : Name → List (List ℕ)
parts_of name = slice_split (λ b. b == 47) name

-- a part that names an entry of the folder that it is looked up in: none is empty, and "." and ".." name that folder and the one that it is in
abbrev pub is_entry : List ℕ → Bool
is_entry part = not (bytes_eq part [] || (bytes_eq part (codes ".") || bytes_eq part (codes "..")))

-- the name leads to something below the root: each of its parts names an entry
abbrev pub stays_within : Name → Bool
stays_within name = list_all is_entry (parts_of name)

-- the name may be used: it stays within the root, and isn't that of the disk's own file
abbrev pub is_usable : Name → Bool
is_usable name = stays_within name && not (bytes_eq name (codes "lock"))

-- the name may be used for a folder: that of the root may, too
abbrev pub is_usable_folder : Name → Bool
is_usable_folder name = bytes_eq name [] || is_usable name

-- the name, from the root on, of an entry of a folder
abbrev pub entry_name : Name → List ℕ → Name
entry_name folder entry = if bytes_eq folder [] then entry else folder ++ 47 ∷ entry

-- what a list of the folder tells of: its name may be used, and is that of the folder with one more part
abbrev pub IsEntryOf : Name → DirEntry → Type 0
IsEntryOf folder entry = IsTrue (is_usable (string_bytes entry.name)) × ((part : List ℕ) × (string_bytes entry.name ≡ entry_name folder part))

-- a list of the folder
abbrev pub AreEntries : Name → List DirEntry → Type 0
AreEntries folder listed = All (IsEntryOf folder) listed
