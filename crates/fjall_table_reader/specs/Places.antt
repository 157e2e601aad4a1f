-- Entries by where their keys and values stand in a text.
use Rattle.std.specs.Prelude.{◌≡◌, ℕ, ◌+◌, ◌≤◌, ◌<◌, List, [], ◌∷◌, Option, Some, None, length, take, drop, map, is_some, if◌then◌else◌}
use Rattle.std.specs.List.{AllByRecursion}
use Rattle.std.specs.Int.{w128, to_be_bytes}
use Rattle.fjall_table.specs.Blocks.{Entry, IsOrdered, block_text, value_bytes}
use Rattle.fjall_table.specs.Padded.{padded}
use Rattle.fjall_table_reader.specs.declared.place.EntryPlace.{EntryPlace}

-- the key that stands there, and the value behind it
abbrev pub key_at : List ℕ → EntryPlace → List ℕ
key_at text p = take p.key_len (drop p.at text)

abbrev pub value_at : List ℕ → EntryPlace → Option (List ℕ)
value_at text p = if p.is_value then Some (take p.value_len (drop (p.at + p.key_len) text)) else None

-- where the value ends
abbrev pub end_of : EntryPlace → ℕ
end_of p = p.at + p.key_len + p.value_len

-- the entry that stands there
abbrev pub entry_in : List ℕ → EntryPlace → Entry
entry_in text p = record { key = key_at text p; number = p.number; value = value_at text p }

abbrev pub entries_in : List ℕ → List EntryPlace → List Entry
entries_in text places = map (entry_in text) places

-- each of these numbers spells the first sixteen bytes of the entry's key, with zeros past its end
abbrev pub AreFronts : List ℕ → List Entry → Type 0
AreFronts fronts entries = map (to_be_bytes w128) fronts ≡ map (λ e. padded 16 e.key) entries

-- The places are those of entries in order, one at least; each ends within the text, which is the block of these entries. The
-- fronts are those of their keys.
pub record ArePlaced (text : List ℕ) (places : List EntryPlace) (fronts : List ℕ) : Type 0 where
  pub some : 0 < length places
  pub count : length fronts ≡ length places
  pub fits : AllByRecursion (λ p. end_of p ≤ length text) places
  pub ordered : IsOrdered (entries_in text places)
  pub block : text ≡ block_text (entries_in text places)
  pub spelled : AreFronts fronts (entries_in text places)

-- the place of an entry whose text begins there: its key stands behind fifteen bytes
abbrev pub place_of : ℕ → Entry → EntryPlace
place_of at e = record { at = at + 15; number = e.number; value_len = length (value_bytes e.value); key_len = length e.key; is_value = is_some e.value }

-- the places of entries whose texts stand one behind another
abbrev pub places_from : ℕ → List Entry → List EntryPlace
places_from at [] = []
places_from at (e ∷ es) = place_of at e ∷ places_from (end_of (place_of at e)) es
