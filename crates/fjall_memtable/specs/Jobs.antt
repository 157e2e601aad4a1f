-- What flushes and merges keep of the versions and clears that they read, and when views stay as they are.
use Rattle.std.specs.Prelude.{◌≡◌, ◌⊎◌, ℕ, ◌<◌, ◌≤◌, ◌==◌, Bool, false, ◌&&◌, ◌||◌, not, nat_lt, nat_le, List, [], ◌∷◌, filter, Some, is_some}
use Rattle.std.specs.List.{list_any, All}
use Rattle.std.specs.Str.{bytes_eq}
use Rattle.fjall_table.specs.Blocks.{Entry}
use Rattle.fjall_memtable.specs.Views.{living, newest}

-- ---- what a job leaves out

-- whether the second is a later version of the first one's key
abbrev pub is_later : Entry → Entry → Bool
is_later v w = bytes_eq w.key v.key && nat_lt v.number w.number

-- Whether a job's input hides a version at its watermark: a later clear or a later version of its key there has a number
-- up to the watermark.
abbrev pub is_hidden : ℕ → List ℕ → List Entry → Entry → Bool
is_hidden watermark clears versions v =
    list_any (λ n. nat_lt v.number n && nat_le n watermark) clears
    || list_any (λ w. is_later v w && nat_le w.number watermark) versions

-- a removal with a number up to the watermark
abbrev pub is_old_removal : ℕ → Entry → Bool
is_old_removal watermark v = not (is_some v.value) && nat_le v.number watermark

-- Whether a removal is of no more use where nothing older is left: the watermark reaches it, and it is the newest version
-- of its key in a job's input.
abbrev pub is_spent : ℕ → List Entry → Entry → Bool
is_spent watermark versions v = is_old_removal watermark v && not (list_any (is_later v) versions)

-- ---- what a job writes

-- the versions that a flush keeps of its input; it keeps all clears
abbrev pub flushed : ℕ → List ℕ → List Entry → List Entry
flushed watermark clears versions = filter (λ v. not (is_hidden watermark clears versions v)) versions

-- the versions that a merge keeps of its input
abbrev pub merged : ℕ → List ℕ → List Entry → List Entry
merged watermark clears versions =
    filter (λ v. not (is_hidden watermark clears versions v) && not (is_spent watermark versions v)) versions

-- the clears that a merge keeps
abbrev pub merged_clears : ℕ → List ℕ → List ℕ
merged_clears watermark clears = filter (λ n. nat_lt watermark n) clears

-- The watermark is 0, at which nothing is hidden, or it is below the instant.
abbrev pub IsAbove : ℕ → ℕ → Type 0
IsAbove watermark instant = (watermark ≡ 0) ⊎ (watermark < instant)

-- Some view of these above the watermark finds this version under its key.
abbrev pub ShowsAbove : ℕ → List ℕ → List Entry → Entry → Type 0
ShowsAbove watermark clears versions v =
    (instant : ℕ) × (watermark < instant) × (newest v.key instant (living instant clears versions) ≡ Some v)

-- ---- lists as sets

-- whether the second is of the first one's key and number
abbrev pub is_at : Entry → Entry → Bool
is_at v w = bytes_eq w.key v.key && w.number == v.number

-- No key has two versions of one number.
abbrev pub OnceEach : List Entry → Type 0
OnceEach [] = Unit {0}
OnceEach (v ∷ vs) = (list_any (is_at v) vs ≡ false) × OnceEach vs

-- The same elements, in whatever order and however often: no test tells the lists apart.
abbrev pub Same : {X : Type 0} → List X → List X → Type 0
Same {X} xs ys = (test : X → Bool) → list_any test xs ≡ list_any test ys

-- all these versions are numbered below the bound
abbrev pub AreBelow : ℕ → List Entry → Type 0
AreBelow bound versions = All (λ v. v.number < bound) versions

-- all these versions are numbered from the bound on
abbrev pub AreFrom : ℕ → List Entry → Type 0
AreFrom bound versions = All (λ v. bound ≤ v.number) versions
