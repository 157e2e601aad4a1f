-- What a batch makes of one tree.
use Rattle.std.proofs.Common.{◌≡◌, ℕ, ◌<◌, ◌≤◌, ◌^◌, ◌==◌, ◌&&◌, ◌||◌, Bool, true, false, cond, List, [], ◌∷◌, ◌++◌, filter, nat_le, refl, sym, ◌∙◌, ap, subst, append_assoc, arith}
use Rattle.std.specs.List.{All, list_any}
use Rattle.std.proofs.lemmas.Bool.{or_parts}
use Rattle.std.proofs.lemmas.Bool.Decides.{nat_tests}
use Rattle.std.proofs.lemmas.List.{append-nil}
use Rattle.std.proofs.lemmas.List.Elements.{All-append, All-cons, All-filter, All-head, All-map, All-nil, All-tail, All-weaker}
use Rattle.std.proofs.lemmas.List.Folds.{list_any-append, list_any_none}
use Rattle.fjall_journal.specs.declared.batch.ReadBatchItem.{ReadBatchItem}
use Rattle.fjall_journal.specs.Batches.{Shown}
use Rattle.fjall_table.specs.Blocks.{Entry}
use Rattle.fjall_memtable.specs.Jobs.{AreBelow}
use Rattle.fjall_memtable.specs.Parts.{AreApart, HeldPart, IsHeld, clears_in, versions_in, with_clear, with_version}
use Rattle.fjall_memtable.proofs.Apart.{apart_with, clears_numbered, held_behind, numbers_below, versions_numbered}
use Rattle.fjall_memtable.proofs.Changes.{clear_held, version_held}
use Rattle.fjall_memtable.proofs.PartFinds.{last_versions}
use Rattle.fjall_meta.specs.Views.{entry_of}
use Rattle.fjall_meta.proofs.Beyond.{clear_where, entries_where}
use Rattle.fjall_tree.specs.Puts.{emptied_once, has_stamp, put, put_all}
use Rattle.fjall_tree.specs.Trees.{Shape, clears_of, emptied, first_from, floor_of, versions_of, written}
use Rattle.fjall_tree.proofs.Changes.{first_same}
use Rattle.fjall_trees.specs.Forests.{IsTree}
use Rattle.fjall_replay.proofs.Putting.{MayPut}

-- ---- numbers in a tree

-- no part before another begins above it
pub floor_low : (sealed : List HeldPart) (active : HeldPart) → All IsHeld (sealed ++ active ∷ []) → AreApart (sealed ++ active ∷ []) → first_from sealed active ≤ active.from
floor_low [] active held apart = omega arith
floor_low (h ∷ []) active held apart = let bounds = (All-head IsHeld h (active ∷ []) held).bounds in let next = apart.0 in omega arith
floor_low (h ∷ g ∷ sealed) active held apart =
    let bounds = (All-head IsHeld h (g ∷ (sealed ++ active ∷ [])) held).bounds in
    let next = apart.0 in
    let more = floor_low (g ∷ sealed) active (All-tail IsHeld h (g ∷ (sealed ++ active ∷ [])) held) apart.1 in
    omega (arith, more)

pub last_held : (shape : Shape) → IsTree shape → IsHeld shape.memory.active
last_held shape is = All-head IsHeld shape.memory.active [] (held_behind shape.memory.sealed (shape.memory.active ∷ []) is.held)

-- all are below the one where the active part ends
pub versions_below : (shape : Shape) → IsTree shape → (n : ℕ) → shape.memory.active.until ≤ n → AreBelow n (versions_of shape [])
versions_below shape is n le =
    let sealed = shape.memory.sealed in
    let h = shape.memory.active in
    let held = last_held shape is in
    let bounds = held.bounds in
    subst (AreBelow n) (sym (last_versions sealed h))
    (All-append (λ (v : Entry). v.number < n) (versions_in sealed) h.versions
    (All-weaker (λ (v : Entry). v.number < h.from) (λ (v : Entry). v.number < n) (λ v k. omega arith) (versions_in sealed)
    (numbers_below (λ (g : HeldPart). g.versions) (λ (v : Entry). v.number) versions_numbered sealed [] h is.held is.apart))
    (All-weaker (λ (v : Entry). v.number < h.until) (λ (v : Entry). v.number < n) (λ v k. omega arith) h.versions held.high))

pub clears_below : (shape : Shape) → IsTree shape → (n : ℕ) → shape.memory.active.until ≤ n → All (λ m. m < n) (clears_of shape)
clears_below shape is n le =
    let sealed = shape.memory.sealed in
    let h = shape.memory.active in
    let held = last_held shape is in
    let bounds = held.bounds in
    let floor = floor_low sealed h is.held is.apart in
    All-append (λ (m : ℕ). m < n) shape.clears (clears_in (sealed ++ h ∷ []))
    (All-weaker (λ (m : ℕ). m < floor_of shape.memory) (λ (m : ℕ). m < n) (λ m k. omega arith) shape.clears is.clears.low)
    (subst (λ (ms : List ℕ). All (λ (m : ℕ). m < n) ms) (sym (last_clears sealed h))
    (All-append (λ (m : ℕ). m < n) (clears_in sealed) h.clears
    (All-weaker (λ (m : ℕ). m < h.from) (λ (m : ℕ). m < n) (λ m k. omega arith) (clears_in sealed)
    (numbers_below (λ (g : HeldPart). g.clears) (λ (m : ℕ). m) clears_numbered sealed [] h is.held is.apart))
    (All-weaker (λ (m : ℕ). m < h.until) (λ (m : ℕ). m < n) (λ m k. omega arith) h.clears held.high_clears)))
  where
    last_clears : (sealed : List HeldPart) (h : HeldPart) → clears_in (sealed ++ h ∷ []) ≡ clears_in sealed ++ h.clears
    last_clears [] h = append-nil h.clears
    last_clears (g ∷ sealed) h = ap (λ (l : List ℕ). g.clears ++ l) (last_clears sealed h) ∙ sym (append_assoc g.clears (clears_in sealed) h.clears)

-- the active part, as it is replaced by another one that begins there too
still_tree : (shape : Shape) (h : HeldPart) → IsTree shape → h.from ≡ shape.memory.active.from → IsHeld h
    → IsTree (record shape { memory = record { sealed = shape.memory.sealed; active = h } })
still_tree shape h is from held = record {
  held = All-append IsHeld shape.memory.sealed (h ∷ []) (held_front shape.memory.sealed (shape.memory.active ∷ []) is.held) (All-cons IsHeld h [] held (All-nil IsHeld));
  apart = apart_with shape.memory.sealed shape.memory.active h from is.apart;
  clears = record {
    low = subst (λ (n : ℕ). All (λ m. m < n) shape.clears) (sym (first_same shape.memory.sealed shape.memory.active h from)) is.clears.low;
    ascend = is.clears.ascend;
  };
}
  where
    held_front : (front behind : List HeldPart) → All IsHeld (front ++ behind) → All IsHeld front
    held_front [] behind all = All-nil IsHeld
    held_front (g ∷ front) behind all = All-cons IsHeld g front (All-head IsHeld g (front ++ behind) all) (held_front front behind (All-tail IsHeld g (front ++ behind) all))

-- ---- puts

pub put_tree : (v : Entry) (shape : Shape) → MayPut v shape → IsTree shape → IsTree (put v shape)
unfolding put
put_tree v shape may is = by (has_stamp v shape)
  where
    by : (b : Bool) → IsTree (cond b shape (written v shape))
    by true = is
    by false = still_tree shape (with_version v shape.memory.active) is refl (version_held v shape.memory.active may.is (last_held shape is) may.from may.small)

pub put_until : (v : Entry) (shape : Shape) (bound : ℕ) → v.number < bound → shape.memory.active.until ≤ bound → (put v shape).memory.active.until ≤ bound
unfolding put
put_until v shape bound low le = by (has_stamp v shape)
  where
    by : (b : Bool) → (cond b shape (written v shape)).memory.active.until ≤ bound
    by true = le
    by false = omega arith

pub put_all_until : (vs : List Entry) (shape : Shape) (bound : ℕ) → All (λ v. v.number < bound) vs → shape.memory.active.until ≤ bound → (put_all vs shape).memory.active.until ≤ bound
put_all_until [] shape bound low le = le
put_all_until (v ∷ vs) shape bound low le =
    put_until v (put_all vs shape) bound (All-head (λ (w : Entry). w.number < bound) v vs low) (put_all_until vs shape bound (All-tail (λ (w : Entry). w.number < bound) v vs low) le)

-- ---- clears

none_later : (n : ℕ) (clears : List ℕ) → All (λ m. m < n) clears → list_any (λ m. nat_le n m) clears ≡ false
none_later n clears low = list_any_none (λ m. nat_le n m) clears (All-weaker (λ m. m < n) (λ m. nat_le n m ≡ false) (λ m h. grind (arith, nat_tests)) clears low)

all_earlier : (n : ℕ) (clears : List ℕ) → list_any (λ m. nat_le n m) clears ≡ false → All (λ m. m < n) clears
all_earlier n [] none = All-nil (λ m. m < n)
all_earlier n (m ∷ clears) none =
    let p = or_parts (nat_le n m) (list_any (λ k. nat_le n k) clears) none in
    let here = p.0 in
    All-cons (λ k. k < n) m clears (grind (arith, nat_tests)) (all_earlier n clears p.1)

-- it is taken where all others are below it
pub emptied_new : (n : ℕ) (shape : Shape) → All (λ m. m < n) shape.memory.active.clears → emptied_once n shape ≡ emptied n shape
unfolding emptied_once
emptied_new n shape low = ap (λ b. cond b shape (emptied n shape)) (none_later n shape.memory.active.clears low)

-- and not again
pub emptied_twice : (n : ℕ) (shape : Shape) → emptied_once n (emptied_once n shape) ≡ emptied_once n shape
unfolding emptied_once
emptied_twice n shape = by (list_any (λ m. nat_le n m) shape.memory.active.clears) refl
  where
    itself : nat_le n n ≡ true
    itself = grind (arith, nat_tests)

    or_true : (b : Bool) → (b || (true || false)) ≡ true
    or_true true = refl
    or_true false = refl

    by : (b : Bool) → list_any (λ m. nat_le n m) shape.memory.active.clears ≡ b → emptied_once n (cond b shape (emptied n shape)) ≡ cond b shape (emptied n shape)
    by true has = ap (λ b. cond b shape (emptied n shape)) has
    by false none =
        ap (λ b. cond b (emptied n shape) (emptied n (emptied n shape)))
        (list_any-append (λ m. nat_le n m) shape.memory.active.clears (n ∷ []) ∙ ap (λ b. list_any (λ m. nat_le n m) shape.memory.active.clears || (b || false)) itself
        ∙ or_true (list_any (λ m. nat_le n m) shape.memory.active.clears))

pub emptied_tree : (n : ℕ) (shape : Shape) → shape.memory.active.from ≤ n → n < 2 ^ 63 → IsTree shape → IsTree (emptied_once n shape)
unfolding emptied_once
emptied_tree n shape from small is = by (list_any (λ m. nat_le n m) shape.memory.active.clears) refl
  where
    by : (b : Bool) → list_any (λ m. nat_le n m) shape.memory.active.clears ≡ b → IsTree (cond b shape (emptied n shape))
    by true has = is
    by false none =
        still_tree shape (with_clear n shape.memory.active) is refl (clear_held n shape.memory.active (last_held shape is) from small (all_earlier n shape.memory.active.clears none))

pub emptied_until : (n : ℕ) (shape : Shape) (bound : ℕ) → n < bound → shape.memory.active.until ≤ bound → (emptied_once n shape).memory.active.until ≤ bound
unfolding emptied_once
emptied_until n shape bound low le = by (list_any (λ m. nat_le n m) shape.memory.active.clears)
  where
    by : (b : Bool) → (cond b shape (emptied n shape)).memory.active.until ≤ bound
    by true = le
    by false = omega arith

pub emptied_from : (n : ℕ) (shape : Shape) → (emptied_once n shape).memory.active.from ≡ shape.memory.active.from
unfolding emptied_once
emptied_from n shape = by (list_any (λ m. nat_le n m) shape.memory.active.clears)
  where
    by : (b : Bool) → (cond b shape (emptied n shape)).memory.active.from ≡ shape.memory.active.from
    by true = refl
    by false = refl

-- ---- a batch

-- the tree with its clear, where it has one for it
abbrev pub cleared_by : Bool → ℕ → Shown → Shape → Shape
cleared_by counted id b shape = cond (counted && list_any (λ k. k == id) b.clears) (emptied_once b.number shape) shape

-- and then with its versions, where it counts for it
abbrev pub stepped : Bool → ℕ → Shown → Shape → Shape
stepped counted id b shape = put_all (entries_where counted id b) (cleared_by counted id b shape)

pub entries_have : (P : Entry → Type 0) (counted : Bool) (id : ℕ) (b : Shown) → All (λ item. P (entry_of b.number item)) b.items → All P (entries_where counted id b)
entries_have P true id b all =
    All-map P (entry_of b.number) (filter (λ item. item.keyspace_id == id) b.items) (All-filter (λ (item : ReadBatchItem). item.keyspace_id == id) (λ item. P (entry_of b.number item)) b.items all)
entries_have P false id b all = All-nil P

pub numbered : (counted : Bool) (id : ℕ) (b : Shown) → All (λ v. v.number ≡ b.number) (entries_where counted id b)
numbered counted id b = entries_have (λ v. v.number ≡ b.number) counted id b (λ i d lt. refl)

pub same_clear : (counted : Bool) (id : ℕ) (b : Shown) → All (λ n. n ≡ b.number) (clear_where counted id b)
same_clear counted id b = by (counted && list_any (λ k. k == id) b.clears)
  where
    by : (t : Bool) → All (λ n. n ≡ b.number) (cond t (b.number ∷ []) [])
    by true = All-cons (λ n. n ≡ b.number) b.number [] refl (All-nil (λ n. n ≡ b.number))
    by false = All-nil (λ n. n ≡ b.number)

pub cleared_held : (t : Bool) (n : ℕ) (shape : Shape) → shape.memory.active.from ≤ n → n < 2 ^ 63 → IsTree shape → IsTree (cond t (emptied_once n shape) shape)
cleared_held true n shape from small is = emptied_tree n shape from small is
cleared_held false n shape from small is = is

pub cleared_from : (t : Bool) (n : ℕ) (shape : Shape) → (cond t (emptied_once n shape) shape).memory.active.from ≡ shape.memory.active.from
cleared_from true n shape = emptied_from n shape
cleared_from false n shape = refl

-- where it ends then
pub stepped_until : (counted : Bool) (id : ℕ) (b : Shown) (shape : Shape) (bound : ℕ) → (counted ≡ true → b.number < bound) → shape.memory.active.until ≤ bound
    → (stepped counted id b shape).memory.active.until ≤ bound
stepped_until false id b shape bound low le = le
stepped_until true id b shape bound low le =
    put_all_until (entries_where true id b) (cleared_by true id b shape) bound
    (All-weaker (λ v. v.number ≡ b.number) (λ v. v.number < bound) (λ v e. let here = low refl in omega (arith, here, e)) (entries_where true id b) (numbered true id b))
    (by (list_any (λ k. k == id) b.clears))
  where
    by : (t : Bool) → (cond t (emptied_once b.number shape) shape).memory.active.until ≤ bound
    by true = emptied_until b.number shape bound (low refl) le
    by false = le
