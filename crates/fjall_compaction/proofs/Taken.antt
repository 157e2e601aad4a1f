-- What a flush takes out of memory, part by part.
use Rattle.std.proofs.Common.{◌≡◌, ℕ, zero, suc, ◌+◌, ◌<◌, ◌≤◌, ◌^◌, true, false, List, [], ◌∷◌, ◌++◌, All, Option, get_or, map, refl, sym, ◌∙◌, ap, subst, arith, append_assoc, take, drop, take-append-drop}
use Rattle.std.specs.Prelude.{slice_index}
use Rattle.std.specs.List.{AllPairs}
use Rattle.std.specs.List.Sorted.{IsStrictlyIncreasing}
use Rattle.std.proofs.lemmas.Grind.{flat_map-append}
use Rattle.std.proofs.lemmas.List.{append-nil}
use Rattle.std.proofs.lemmas.List.Elements.{All-append, All-cons, All-head, All-nil, All-tail, All-weaker}
use Rattle.std.proofs.lemmas.List.Kept.{AllPairs-from_increasing}
use Rattle.fjall_meta.specs.Contents.{Stored, is_beyond}
use Rattle.fjall_meta.proofs.Beyond.{beyond_is_later}
use Rattle.fjall_manifest.specs.Homes.{Home}
use Rattle.fjall_jobs.specs.declared.made_table.MadeTable.{MadeTable}
use Rattle.fjall_jobs.specs.Tasks.{IsFlushed, Task}
use Rattle.fjall_jobs.proofs.Flushing.{flat_runs}
use Rattle.fjall_journal.specs.Batches.{Shown, shown}
use Rattle.fjall_tree.specs.Jobs.{IsFlushing}
use Rattle.fjall_tree.specs.Trees.{Shape, first_from}
use Rattle.fjall_meta.specs.Keyspaces.{Keyspaces}
use Rattle.fjall_memtable.specs.Parts.{AreApart, Ascends, HeldPart, IsHeld, Memory, clears_in, parts_of, versions_in}
use Rattle.fjall_memtable.proofs.Apart.{apart_front, apart_tail}
use Rattle.fjall_memtable.proofs.Onces.{once_in}
use Rattle.fjall_recovery.specs.Halves.{Tree}
use Rattle.fjall_recovery.specs.Homes.{ClearsAreWithin, HaveVersions, stored_of}
use Rattle.fjall_recovery.specs.Journals.{batches_in}
use Rattle.fjall_recovery.specs.Places.{Journaling, journals_with}
use Rattle.fjall_memtable.specs.Sorted.{flat}
use Rattle.fjall_table.specs.Blocks.{Entry}
use Rattle.fjall_manifest.specs.Records.{Fields, IsRecord}
use Rattle.fjall_memtable.specs.Jobs.{OnceEach, Same, flushed}
use Rattle.fjall_memtable.specs.Views.{value_at}
use Rattle.fjall_compaction.specs.Covering.{FlushCovers, IsSyncedTo, MayCount, ShowsBatches, TakesParts}
use Rattle.fjall_compaction.specs.Flushes.{Flush, Follows, HasAt}
use Rattle.fjall_compaction.proofs.Covered.{made_of}
use Rattle.fjall_compaction.proofs.Once.{from_is_beyond, ordered_once}
use Rattle.fjall_compaction.proofs.FlushSameStore.{first_all}

-- ---- numbers of parts

pub last_all : {X : Type 0} (P : X → Type 0) (xs ys : List X) → All P (xs ++ ys) → All P ys
last_all P [] ys all = all
last_all P (x ∷ xs) ys all = last_all P xs ys (All-tail P x (xs ++ ys) all)

-- what holds of each number up to where each part ends holds of all of them
versions_to : (number : ℕ) (parts : List HeldPart) → All IsHeld parts → All (λ h. h.until ≤ number + 1) parts → All (λ v. v.number ≤ number) (versions_in parts)
versions_to number [] held until = All-nil (λ (v : Entry). v.number ≤ number)
versions_to number (h ∷ parts) held until =
    let end = All-head (λ (k : HeldPart). k.until ≤ number + 1) h parts until in
    All-append (λ (v : Entry). v.number ≤ number) h.versions (versions_in parts)
    (All-weaker (λ (v : Entry). v.number < h.until) (λ v. v.number ≤ number) (λ v lt. omega (arith, lt, end)) h.versions (All-head IsHeld h parts held).high)
    (versions_to number parts (All-tail IsHeld h parts held) (All-tail (λ (k : HeldPart). k.until ≤ number + 1) h parts until))

clears_to : (number : ℕ) (parts : List HeldPart) → All IsHeld parts → All (λ h. h.until ≤ number + 1) parts → All (λ n. n ≤ number) (clears_in parts)
clears_to number [] held until = All-nil (λ n. n ≤ number)
clears_to number (h ∷ parts) held until =
    let end = All-head (λ (k : HeldPart). k.until ≤ number + 1) h parts until in
    All-append (λ n. n ≤ number) h.clears (clears_in parts)
    (All-weaker (λ n. n < h.until) (λ n. n ≤ number) (λ n lt. omega (arith, lt, end)) h.clears (All-head IsHeld h parts held).high_clears)
    (clears_to number parts (All-tail IsHeld h parts held) (All-tail (λ (k : HeldPart). k.until ≤ number + 1) h parts until))

versions_above : (number : ℕ) (parts : List HeldPart) → All IsHeld parts → All (λ h. number < h.from) parts → All (λ v. number < v.number) (versions_in parts)
versions_above number [] held from = All-nil (λ (v : Entry). number < v.number)
versions_above number (h ∷ parts) held from =
    let begin = All-head (λ (k : HeldPart). number < k.from) h parts from in
    All-append (λ (v : Entry). number < v.number) h.versions (versions_in parts)
    (All-weaker (λ (v : Entry). h.from ≤ v.number) (λ v. number < v.number) (λ v le. omega (arith, le, begin)) h.versions (All-head IsHeld h parts held).low)
    (versions_above number parts (All-tail IsHeld h parts held) (All-tail (λ (k : HeldPart). number < k.from) h parts from))

clears_above : (number : ℕ) (parts : List HeldPart) → All IsHeld parts → All (λ h. number < h.from) parts → All (λ n. number < n) (clears_in parts)
clears_above number [] held from = All-nil (λ n. number < n)
clears_above number (h ∷ parts) held from =
    let begin = All-head (λ (k : HeldPart). number < k.from) h parts from in
    All-append (λ n. number < n) h.clears (clears_in parts)
    (All-weaker (λ n. h.from ≤ n) (λ n. number < n) (λ n le. omega (arith, le, begin)) h.clears (All-head IsHeld h parts held).low_clears)
    (clears_above number parts (All-tail IsHeld h parts held) (All-tail (λ (k : HeldPart). number < k.from) h parts from))

-- what parts that begin beyond a number hold is beyond it
versions_beyond : (p : Option ℕ) (parts : List HeldPart) → All IsHeld parts → All (λ h. is_beyond p h.from ≡ true) parts → All (λ v. is_beyond p v.number ≡ true) (versions_in parts)
versions_beyond p [] held beyond = All-nil (λ (v : Entry). is_beyond p v.number ≡ true)
versions_beyond p (h ∷ parts) held beyond =
    let begin = All-head (λ (k : HeldPart). is_beyond p k.from ≡ true) h parts beyond in
    All-append (λ (v : Entry). is_beyond p v.number ≡ true) h.versions (versions_in parts)
    (All-weaker (λ (v : Entry). h.from ≤ v.number) (λ v. is_beyond p v.number ≡ true) (λ v le. from_is_beyond p h.from v.number begin le) h.versions (All-head IsHeld h parts held).low)
    (versions_beyond p parts (All-tail IsHeld h parts held) (All-tail (λ (k : HeldPart). is_beyond p k.from ≡ true) h parts beyond))

-- ---- clears that ascend

pub rises : (ns : List ℕ) → Ascends ns → IsStrictlyIncreasing ns
rises [] up k within = absurd (omega (arith, within))
rises (n ∷ ns) up zero within = up.0 zero 0 (omega (arith, within))
rises (n ∷ ns) up (suc k) within =
    let on : suc (k + 1) ≡ suc k + 1 = omega arith in
    subst (λ i. slice_index ns k < slice_index (n ∷ ns) i) on (rises ns up.1 k (omega (arith, within)))

ascends : (ns : List ℕ) → IsStrictlyIncreasing ns → Ascends ns
ascends ns up = by ns (AllPairs-from_increasing ns up)
  where
    by : (ms : List ℕ) → AllPairs (λ x y. x < y) ms → Ascends ms
    by [] pairs = tt
    by (m ∷ ms) pairs = (λ i d lt. pairs 0 (suc i) d (omega arith) (omega (arith, lt)), by ms (λ i j d lt within. pairs (suc i) (suc j) d (omega (arith, lt)) (omega (arith, within))))

ascends_both : (bound : ℕ) (xs ys : List ℕ) → Ascends xs → Ascends ys → All (λ x. x < bound) xs → All (λ y. bound ≤ y) ys → Ascends (xs ++ ys)
ascends_both bound [] ys up also low high = also
ascends_both bound (x ∷ xs) ys up also low high =
    let here = All-head (λ (n : ℕ). n < bound) x xs low in (
      All-append (λ (m : ℕ). x < m) xs ys up.0 (All-weaker (λ (y : ℕ). bound ≤ y) (λ (y : ℕ). x < y) (λ y le. omega (arith, here, le)) ys high),
      ascends_both bound xs ys up.1 also (All-tail (λ (n : ℕ). n < bound) x xs low) high,
    )

-- where one part begins, or behind it, all parts behind it begin
pub from_on : (bound : ℕ) (k : HeldPart) (ks : List HeldPart) → AreApart (k ∷ ks) → All IsHeld (k ∷ ks) → bound ≤ k.from → All (λ p. bound ≤ p.from) (k ∷ ks)
from_on bound k [] apart held le = All-cons (λ (p : HeldPart). bound ≤ p.from) k [] le (All-nil (λ (p : HeldPart). bound ≤ p.from))
from_on bound k (p ∷ ks) apart held le =
    let bounds = (All-head IsHeld k (p ∷ ks) held).bounds in
    let next = apart.0 in
    All-cons (λ (q : HeldPart). bound ≤ q.from) k (p ∷ ks) le (from_on bound p ks apart.1 (All-tail IsHeld k (p ∷ ks) held) (omega (arith, le, bounds, next)))

-- the clears of parts ascend behind such as are below all parts
parts_ascend : (clears : List ℕ) (parts : List HeldPart) → Ascends clears → All IsHeld parts → AreApart parts → All (λ h. All (λ n. n < h.from) clears) parts → Ascends (clears ++ clears_in parts)
parts_ascend clears [] up held apart below = subst Ascends (sym (append-nil clears)) up
parts_ascend clears (h ∷ parts) up held apart below =
    let here = All-head IsHeld h parts held in
    let first = All-head (λ (k : HeldPart). All (λ n. n < k.from) clears) h parts below in
    subst Ascends (append_assoc clears h.clears (clears_in parts))
    (parts_ascend (clears ++ h.clears) parts (ascends_both h.from clears h.clears up here.ascend first here.low_clears) (All-tail IsHeld h parts held) (apart_tail h parts apart)
    (later parts apart (All-tail (λ (k : HeldPart). All (λ n. n < k.from) clears) h parts below) (All-tail IsHeld h parts held)))
  where
    each : (k : HeldPart) → h.until ≤ k.from → IsHeld h → All (λ n. n < k.from) clears → All (λ n. n < k.from) (clears ++ h.clears)
    each k le here low = All-append (λ n. n < k.from) clears h.clears low (All-weaker (λ n. n < h.until) (λ n. n < k.from) (λ n lt. omega (arith, lt, le)) h.clears here.high_clears)

    all_behind : (ks : List HeldPart) → AreApart (h ∷ ks) → All IsHeld ks → All (λ p. h.until ≤ p.from) ks
    all_behind [] apart held = All-nil (λ (p : HeldPart). h.until ≤ p.from)
    all_behind (k ∷ ks) apart held = from_on h.until k ks apart.1 held apart.0

    later : (ks : List HeldPart) → AreApart (h ∷ ks) → All (λ k. All (λ n. n < k.from) clears) ks → All IsHeld ks → All (λ k. All (λ n. n < k.from) (clears ++ h.clears)) ks
    later ks apart low rest i d lt = each (get_or ks i d) (all_behind ks apart rest i d lt) (All-head IsHeld h parts held) (low i d lt)

-- ---- a flush of the first parts

module _ (number : ℕ) (task : Task) (taken left : List HeldPart) (takes : TakesParts number task taken left) (tables : List MadeTable) (clears : List ℕ) (made : IsFlushed task tables clears) where
  abbrev f : Flush
  f = record { number = number; tables = tables; clears = clears }

  held : All IsHeld taken
  held = first_all IsHeld taken left takes.held

  held_left : All IsHeld left
  held_left = last_all IsHeld taken left takes.held

  -- its input
  input : flat task.runs ≡ versions_in taken
  input = ap flat takes.runs ∙ flat_runs taken

  pub own_clears : clears ≡ clears_in taken
  own_clears = made.clears_are ∙ takes.clears

  low : All (λ v. v.number ≤ number) (flat task.runs)
  low = subst (All (λ (v : Entry). v.number ≤ number)) (sym input) (versions_to number taken held takes.until)

  low_clears : All (λ n. n ≤ number) clears
  low_clears = subst (All (λ n. n ≤ number)) (sym own_clears) (clears_to number taken held takes.until)

  kept : Same (flat made.lists) (flushed task.watermark clears (flat task.runs))
  kept = subst (λ (l : List ℕ). Same (flat made.lists) (flushed task.watermark l (flat task.runs))) (sym made.clears_are) made.kept

  covers : FlushCovers number task.watermark clears (clears_in left) (flat task.runs) (versions_in left) (flat made.lists)
  covers = record {
    low = low;
    low_clears = low_clears;
    high = versions_above number left held_left takes.from;
    high_clears = clears_above number left held_left takes.from;
    once = subst OnceEach (sym input) (once_in taken held (apart_front taken left takes.apart));
    made_is = kept;
  }

  -- all parts, as it parts them
  all_clears : clears_in (taken ++ left) ≡ clears ++ clears_in left
  all_clears = flat_map-append (λ (h : HeldPart). h.clears) taken left ∙ ap (λ (l : List ℕ). l ++ clears_in left) (sym own_clears)

  all_versions : versions_in (taken ++ left) ≡ flat task.runs ++ versions_in left
  all_versions = flat_map-append (λ (h : HeldPart). h.versions) taken left ∙ ap (λ (l : List Entry). l ++ versions_in left) (sym input)

  shows_parted : (s : Keyspaces) (h : Stored) (id : ℕ) (batches : List Shown) → ShowsBatches s h id batches (clears_in (taken ++ left)) (versions_in (taken ++ left))
      → ShowsBatches s h id batches (clears ++ clears_in left) (flat task.runs ++ versions_in left)
  shows_parted s h id batches shows key instant = sym (λ i. value_at key instant (h.clears ++ all_clears i) (h.versions ++ all_versions i)) ∙ shows key instant

  pub counts : (j : Journaling) (t : Tree) (id : ℕ) (h : Home) (versions : List Entry) → HasAt t id h versions → HaveVersions t.homes t.versions → is_beyond h.last.persisted number ≡ true
      → number < 2 ^ 63
      → IsSyncedTo number j
      → ShowsBatches t.keyspaces (stored_of h versions) id (map shown (batches_in (journals_with j j.later))) (clears_in (taken ++ left)) (versions_in (taken ++ left))
      → (may : MayCount j t id f made.lists h versions) × (may.rest_clears ≡ clears_in left) × (may.rest ≡ versions_in left)
  counts j t id h versions at have beyond small synced shows = (
    record {
      at = at;
      have = have;
      beyond = beyond;
      synced = synced;
      watermark = task.watermark;
      small = small;
      covered = flat task.runs;
      rest = versions_in left;
      rest_clears = clears_in left;
      memory = shows_parted t.keyspaces (stored_of h versions) id (map shown (batches_in (journals_with j j.later))) shows;
      covers = covers;
    },
    refl,
    refl,
  )

  -- its versions are beyond the record's and its clears ascend behind them, where each part begins beyond the persisted number
  pub follows_from : (last : Fields) → number < 2 ^ 63 → Ascends last.clears → ClearsAreWithin last → All (λ h. is_beyond last.persisted h.from ≡ true) taken → Follows f made.lists last
  follows_from last small up within beyond = record {
    small = small;
    made = made.made;
    versions = made_of (λ v. v.number ≤ number) task.watermark task.clears (flat task.runs) (flat made.lists) made.kept low;
    beyond = made_of (λ v. is_beyond last.persisted v.number ≡ true) task.watermark task.clears (flat task.runs) (flat made.lists) made.kept
        (subst (All (λ (v : Entry). is_beyond last.persisted v.number ≡ true)) (sym input) (versions_beyond last.persisted taken held beyond));
    once = ordered_once (flat made.lists) made.ordered;
    clears = low_clears;
    ascend = rises (last.clears ++ clears) (subst (λ (l : List ℕ). Ascends (last.clears ++ l)) (sym own_clears)
        (parts_ascend last.clears taken up held (apart_front taken left takes.apart)
        (All-weaker (λ (h : HeldPart). is_beyond last.persisted h.from ≡ true) (λ h. All (λ n. n < h.from) last.clears)
        (λ h starts. All-weaker (λ n. is_beyond last.persisted n ≡ false) (λ n. n < h.from) (λ n in_it. beyond_is_later last.persisted n h.from in_it starts) last.clears within) taken beyond)));
  }

  pub follows : (last : Fields) → number < 2 ^ 63 → IsRecord last → ClearsAreWithin last → All (λ h. is_beyond last.persisted h.from ≡ true) taken → Follows f made.lists last
  follows last small is within beyond = follows_from last small (ascends last.clears is.consistent.ascending) within beyond

-- ---- a flush of a tree

-- the parts of memory, as a count parts them
pub parts_parted : (count : ℕ) (memory : Memory) → parts_of memory ≡ take count memory.sealed ++ (drop count memory.sealed ++ memory.active ∷ [])
parts_parted count memory =
    ap (λ (l : List HeldPart). l ++ memory.active ∷ []) (sym (take-append-drop count memory.sealed)) ∙ append_assoc (take count memory.sealed) (drop count memory.sealed) (memory.active ∷ [])

pub apart_behind : (front behind : List HeldPart) → AreApart (front ++ behind) → AreApart behind
apart_behind [] behind apart = apart
apart_behind (h ∷ front) behind apart = apart_behind front behind (apart_tail h (front ++ behind) apart)

all_from : (number : ℕ) (left : List HeldPart) (active : HeldPart) → number < first_from left active → AreApart (left ++ active ∷ []) → All IsHeld (left ++ active ∷ [])
    → All (λ h. number < h.from) (left ++ active ∷ [])
all_from number [] active lt apart held =
    All-weaker (λ (h : HeldPart). number + 1 ≤ h.from) (λ h. number < h.from) (λ h le. omega (arith, le)) (active ∷ [])
    (from_on (number + 1) active [] apart held (omega (arith, lt)))
all_from number (k ∷ left) active lt apart held =
    All-weaker (λ (h : HeldPart). number + 1 ≤ h.from) (λ h. number < h.from) (λ h le. omega (arith, le)) (k ∷ (left ++ active ∷ []))
    (from_on (number + 1) k (left ++ active ∷ []) apart held (omega (arith, lt)))

pub takes : (shape : Shape) (task : Task) (is : IsFlushing shape task) (number : ℕ) → All IsHeld (parts_of shape.memory) → AreApart (parts_of shape.memory)
    → All (λ h. h.until ≤ number + 1) (take is.out.count shape.memory.sealed) → number < first_from (drop is.out.count shape.memory.sealed) shape.memory.active
    → TakesParts number task (take is.out.count shape.memory.sealed) (drop is.out.count shape.memory.sealed ++ shape.memory.active ∷ [])
takes shape task is number held apart until from =
    let memory = shape.memory in
    let taken = take is.out.count memory.sealed in
    let left = drop is.out.count memory.sealed ++ memory.active ∷ [] in
    let parted = parts_parted is.out.count memory in
    let all = subst (All IsHeld) parted held in
    let stand = subst AreApart parted apart in
    record {
      runs = is.runs;
      clears = is.clears;
      held = all;
      apart = stand;
      until = until;
      from = all_from number (drop is.out.count memory.sealed) memory.active from (apart_behind taken left stand) (last_all IsHeld taken left all);
    }
