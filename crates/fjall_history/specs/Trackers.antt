-- Which snapshots are open, which number they see, and below which number no snapshot reads.
use Rattle.std.specs.Prelude.{◌≡◌, ℕ, ◌+◌, ◌-◌, ◌<◌, ◌≤◌, ◌==◌, ◌^◌, Bool, true, false, List, [], ◌∷◌, ◌++◌, length, max, replicate, nat_le, nat_eq, if◌then◌else◌, slice_get, unwrap_or}
use Rattle.std.specs.List.{All, list_any}
use Rattle.std.specs.List.Sorted.{IsNonDecreasing}
use Rattle.std.specs.Set.{remove_key, distinct_count}
use Rattle.fjall_base.specs.declared.error.Error.{Error}
use Rattle.fjall_base.specs.declared.error.Error.TheVariants.{OutOfMemory, NumbersUsedUp, SnapshotClosed}

-- The instants of the open snapshots, ascending, each as often as it is open; the visible number; the watermark; how many snapshots were closed since the last ten-thousandth closing.
pub record Tracker : Type 0 where
  pub instants : List ℕ
  pub visible : ℕ
  pub watermark : ℕ
  pub closings : ℕ

-- The instants, each as often as its count says.
abbrev pub instants_of : List (ℕ × ℕ) → List ℕ
instants_of [] = []
instants_of (e ∷ es) = replicate e.1 e.0 ++ instants_of es

-- The instants with i open once more.
abbrev pub with_instant : ℕ → List ℕ → List ℕ
with_instant i [] = i ∷ []
with_instant i (x ∷ xs) = if nat_le i x then i ∷ x ∷ xs else x ∷ with_instant i xs

-- The instants with i open once less.
abbrev pub without_instant : ℕ → List ℕ → List ℕ
without_instant i xs = remove_key (nat_eq i) xs

-- Whether some snapshot is open at i.
abbrev pub is_open : ℕ → List ℕ → Bool
is_open i xs = list_any (nat_eq i) xs

-- How many instants are open, each counted once.
abbrev pub instant_count : List ℕ → ℕ
instant_count xs = distinct_count nat_eq xs

-- At first nothing is open and no number is visible.
abbrev pub fresh_tracker : Tracker
fresh_tracker = record { instants = []; visible = 0; watermark = 0; closings = 0 }

-- The oldest instant that may still be read at: the least open one, or the visible number where none is open.
abbrev pub oldest : Tracker → ℕ
oldest t = unwrap_or (slice_get t.instants 0) t.visible

-- i is opened once more.
abbrev pub after_opening : ℕ → Tracker → Tracker
after_opening i t = record t { instants = with_instant i t.instants }

-- The watermark rises to one below the oldest instant, and never falls.
abbrev pub after_gc : Tracker → Tracker
after_gc t = record t { watermark = max t.watermark (oldest t - 1) }

-- A closing is counted, and the ten-thousandth collects.
abbrev pub after_count : Tracker → Tracker
after_count t = if t.closings + 1 == 10000 then after_gc (record t { closings = 0 }) else record t { closings = t.closings + 1 }

-- i is closed once, where it is open.
abbrev pub after_closing : ℕ → Tracker → Tracker
after_closing i t = if is_open i t.instants then after_count (record t { instants = without_instant i t.instants }) else t

-- The visible number rises to n, and never falls.
abbrev pub after_raise : ℕ → Tracker → Tracker
after_raise n t = record t { visible = max t.visible n }

-- What is so of every tracker: its instants ascend and don't pass the visible number, and the watermark is 0 or below each of them and the visible number.
pub record IsSoundTracker (t : Tracker) : Type 0 where
  pub ascending : IsNonDecreasing t.instants
  pub reached : All (λ i. i ≤ t.visible) t.instants
  pub spared : 0 < t.watermark → All (λ i. t.watermark < i) t.instants
  pub behind : 0 < t.watermark → t.watermark < t.visible
  pub countable : length t.instants < 2 ^ 64
  pub counted : t.closings < 10000

-- Why an opening of i is refused: no number is left to count it, or i isn't open yet and memory for it is wanted.
abbrev pub IsSnapshotRefusal : ℕ → List ℕ → Error → Type 0
IsSnapshotRefusal i xs NumbersUsedUp = length xs ≡ 2 ^ 64 - 1
IsSnapshotRefusal i xs OutOfMemory = (length xs < 2 ^ 64 - 1) × (is_open i xs ≡ false)
IsSnapshotRefusal i xs error = ⊥

-- Why a second opening of i is refused: i isn't open, or no number is left to count it.
abbrev pub IsCloningRefusal : ℕ → List ℕ → Error → Type 0
IsCloningRefusal i xs SnapshotClosed = is_open i xs ≡ false
IsCloningRefusal i xs NumbersUsedUp = (is_open i xs ≡ true) × (length xs ≡ 2 ^ 64 - 1)
IsCloningRefusal i xs error = ⊥
