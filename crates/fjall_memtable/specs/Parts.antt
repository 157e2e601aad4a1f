-- What a keyspace holds in memory, in parts: memtables, each with the clears that came while it was written.
use Rattle.std.specs.Prelude.{ℕ, ◌+◌, ◌<◌, ◌≤◌, ◌^◌, ◌==◌, ◌&&◌, max, Bool, List, [], ◌∷◌, ◌++◌, length}
use Rattle.std.specs.List.{All, flat_map}
use Rattle.std.specs.Coded.{×_prop, Unit-prop, le_prop}
use Rattle.std.proofs.Props.{props}
use Rattle.std.specs.declared.cmp.Ordering.{Ordering}
use Rattle.std.specs.declared.cmp.Ordering.TheVariants.{Less, Equal, Greater}
use Rattle.fjall_base.specs.Pairs.{byte_order}
use Rattle.fjall_table.specs.Blocks.{Entry, IsEntry, IsOrdered, StandsBefore}
use Rattle.fjall_memtable.specs.Entries.{inserted}

-- What a memtable and its clears hold. All its numbers are at least `from` and below `until`.
pub record HeldPart : Type 0 where
  pub from : ℕ
  pub until : ℕ
  pub versions : List Entry
  pub clears : List ℕ

-- Each number is below all that follow.
abbrev pub Ascends : List ℕ → Type 0
Ascends [] = Unit {0}
Ascends (n ∷ numbers) = All (λ m. n < m) numbers × Ascends numbers

-- The versions are such as tables hold, in their order, the clears ascend, and all numbers lie within the bounds.
pub record IsHeld (h : HeldPart) : Type 0 where
  pub each : All IsEntry h.versions
  pub ordered : IsOrdered h.versions
  pub bounds : h.from ≤ h.until
  pub small : h.until ≤ 2 ^ 63
  pub low : All (λ v. h.from ≤ v.number) h.versions
  pub high : All (λ v. v.number < h.until) h.versions
  pub low_clears : All (λ n. h.from ≤ n) h.clears
  pub high_clears : All (λ n. n < h.until) h.clears
  pub ascend : Ascends h.clears

-- the sealed parts, the oldest first, and the one that is written
pub record Memory : Type 0 where
  pub sealed : List HeldPart
  pub active : HeldPart

-- all parts, the oldest first
abbrev pub parts_of : Memory → List HeldPart
parts_of memory = memory.sealed ++ memory.active ∷ []

-- Each part ends where the next one begins, or before.
abbrev pub AreApart : List HeldPart → Type 0
AreApart [] = Unit {0}
AreApart (h ∷ []) = Unit {0}
AreApart (h ∷ next ∷ parts) = (h.until ≤ next.from) × AreApart (next ∷ parts)

-- the versions of all parts, and their clears
abbrev pub versions_in : List HeldPart → List Entry
versions_in parts = flat_map (λ h. h.versions) parts

abbrev pub clears_in : List HeldPart → List ℕ
clears_in parts = flat_map (λ h. h.clears) parts

-- whether it has no version and no clear
abbrev pub holds_nothing : HeldPart → Bool
holds_nothing h = length h.versions == 0 && length h.clears == 0

-- ---- changes

-- a part of nothing
abbrev pub empty_from : ℕ → HeldPart
empty_from from = record { from = from; until = from; versions = []; clears = [] }

-- the part with one version more
abbrev pub with_version : Entry → HeldPart → HeldPart
with_version e h = record h { until = max h.until (e.number + 1); versions = inserted e h.versions }

-- the part with one clear more
abbrev pub with_clear : ℕ → HeldPart → HeldPart
with_clear number h = record h { until = max h.until (number + 1); clears = h.clears ++ number ∷ [] }

-- the memory with another active part
abbrev pub with_active : HeldPart → Memory → Memory
with_active h memory = record memory { active = h }

-- the active part sealed, and an empty one from where it ended
abbrev pub rotated : Memory → Memory
rotated memory = record { sealed = memory.sealed ++ memory.active ∷ []; active = empty_from memory.active.until }

-- ---- each fact has one proof

before_prop : (o : Ordering) (n m : ℕ) → IsProp (StandsBefore o n m)
before_prop Less n m = Unit-prop
before_prop Equal n m = le_prop
before_prop Greater n m = hlevel props

ordered_prop : (versions : List Entry) → IsProp (IsOrdered versions)
ordered_prop [] = Unit-prop
ordered_prop (v ∷ []) = Unit-prop
ordered_prop (v ∷ w ∷ versions) = ×_prop (before_prop (byte_order v.key w.key) v.number w.number) (ordered_prop (w ∷ versions))

ascends_prop : (numbers : List ℕ) → IsProp (Ascends numbers)
ascends_prop [] = Unit-prop
ascends_prop (n ∷ numbers) = ×_prop (hlevel props) (ascends_prop numbers)

pub held_prop : (h : HeldPart) → IsProp (IsHeld h)
held_prop h = hlevel (props, ordered_prop h.versions, ascends_prop h.clears)

pub apart_prop : (parts : List HeldPart) → IsProp (AreApart parts)
apart_prop [] = Unit-prop
apart_prop (h ∷ []) = Unit-prop
apart_prop (h ∷ next ∷ parts) = ×_prop le_prop (apart_prop (next ∷ parts))
