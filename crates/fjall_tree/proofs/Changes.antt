-- What writes, clears and rotations make of the versions and clears of a tree.
use Rattle.std.proofs.Common.{◌≡◌, ◌≢◌, ◌⊎◌, ℕ, ◌<◌, ◌≤◌, Bool, true, false, ◌||◌, List, [], ◌∷◌, ◌++◌, Option, refl, sym, ap, subst, ◌∙◌, append_assoc}
use Rattle.std.specs.List.{list_any, All}
use Rattle.std.proofs.lemmas.Bool.{false_from_ne_true, true≢false}
use Rattle.std.proofs.lemmas.List.{append-nil}
use Rattle.std.proofs.lemmas.List.Concat.{flat_map-append}
use Rattle.std.proofs.lemmas.List.Elements.{All-cons, All-nil, All-weaker}
use Rattle.std.proofs.lemmas.List.Folds.{list_any-append, list_any_none}
use Rattle.fjall_base.specs.Disk.{Meaning}
use Rattle.fjall_base.specs.Pairs.{Bytes}
use Rattle.fjall_table.specs.Blocks.{Entry}
use Rattle.fjall_memtable.specs.Entries.{IsAbsent, inserted, stamp_of}
use Rattle.fjall_memtable.specs.Jobs.{AreBelow, OnceEach, is_at}
use Rattle.fjall_memtable.specs.Views.{is_seen, later, newest, value_at, value_left}
use Rattle.fjall_memtable.proofs.NewestSeen.{newest-append}
use Rattle.fjall_memtable.proofs.Sameness.{at-true, at_turned, same_newest}
use Rattle.fjall_memtable.proofs.Shown.{value_shown}
use Rattle.fjall_memtable.proofs.Writing.{write_keeps, write_shows}
use Rattle.fjall_memtable.specs.Sorted.{flat}
use Rattle.fjall_memtable.proofs.Sorting.{inserted_same}
use Rattle.fjall_table_reader.specs.Readers.{AreRead, Reader}
use Rattle.fjall_memtable.specs.Parts.{HeldPart, IsHeld, clears_in, empty_from, parts_of, versions_in, with_clear, with_version}
use Rattle.fjall_memtable.proofs.PartFinds.{last_versions}
use Rattle.fjall_memtable.proofs.Onces.{once_in}
use Rattle.fjall_tree.specs.Trees.{ReadsAll, Shape, clears_of, emptied, first_from, floor_of, sealed_off, versions_of, written}

-- ---- one version more in a part

pub or_none : (a b : Bool) → (a || b) ≡ false → (a ≡ false) × (b ≡ false)
or_none true b e = absurd (true≢false e)
or_none false b e = (refl, e)

or_turned : (a b : Bool) → (a || b) ≡ (b || (a || false))
or_turned true true = refl
or_turned true false = refl
or_turned false true = refl
or_turned false false = refl

none_at : (v : Entry) (xs : List Entry) → IsAbsent v.key v.number xs → list_any (is_at v) xs ≡ false
none_at v xs absent =
    list_any_none (is_at v) xs (All-weaker (λ (e : Entry). stamp_of e ≢ record { key = v.key; number = v.number }) (λ (e : Entry). is_at v e ≡ false) other xs absent)
  where
    other : (e : Entry) → stamp_of e ≢ record { key = v.key; number = v.number } → is_at v e ≡ false
    other e h = false_from_ne_true (is_at v e) (λ t. let p = at-true v e t in h (λ i. record { key = p.0 i; number = p.1 i }))

once_with : (xs : List Entry) (v : Entry) → OnceEach xs → list_any (is_at v) xs ≡ false → OnceEach (xs ++ v ∷ [])
once_with [] v once apart = (refl, tt)
once_with (x ∷ xs) v once apart =
    let p = or_none (is_at v x) (list_any (is_at v) xs) apart in
    let here : is_at x v ≡ false = false_from_ne_true (is_at x v) (λ h. true≢false (sym (at_turned x v h) ∙ p.0)) in (
      list_any-append (is_at x) xs (v ∷ []) ∙ (λ i. once.0 i || (here i || false)),
      once_with xs v once.1 p.1,
    )

-- in its place or last, it is found alike
newest_put : (key : Bytes) (instant : ℕ) (h : HeldPart) (v : Entry) → IsHeld h → IsAbsent v.key v.number h.versions
    → newest key instant (inserted v h.versions) ≡ newest key instant (h.versions ++ v ∷ [])
newest_put key instant h v held absent =
    let apart = none_at v h.versions absent in
    let once = subst OnceEach (append-nil h.versions) (once_in (h ∷ []) (All-cons IsHeld h [] held (All-nil IsHeld)) tt) in
    same_newest key instant (inserted v h.versions) (h.versions ++ v ∷ []) (once_with h.versions v once apart)
    (λ test. inserted_same v h.versions test apart ∙ or_turned (test v) (list_any test h.versions) ∙ sym (list_any-append test h.versions (v ∷ [])))

-- ---- the last part of a tree

all_last : (entries : List (List Entry)) (sealed : List HeldPart) (h : HeldPart) → flat entries ++ versions_in (sealed ++ h ∷ []) ≡ flat entries ++ (versions_in sealed ++ h.versions)
all_last entries sealed h = ap (λ (xs : List Entry). flat entries ++ xs) (last_versions sealed h)

last_clears : (sealed : List HeldPart) (h : HeldPart) → clears_in (sealed ++ h ∷ []) ≡ clears_in sealed ++ h.clears
last_clears sealed h = flat_map-append (λ (g : HeldPart). g.clears) sealed (h ∷ []) ∙ ap (λ (xs : List ℕ). clears_in sealed ++ xs) (append-nil h.clears)

newest_last : (key : Bytes) (instant : ℕ) (front middle xs ys : List Entry) → newest key instant xs ≡ newest key instant ys
    → newest key instant (front ++ (middle ++ xs)) ≡ newest key instant (front ++ (middle ++ ys))
newest_last key instant front middle xs ys same =
    both xs ∙ ap (λ (o : Option Entry). later (newest key instant front) (later (newest key instant middle) o)) same ∙ sym (both ys)
  where
    both : (zs : List Entry) → newest key instant (front ++ (middle ++ zs)) ≡ later (newest key instant front) (later (newest key instant middle) (newest key instant zs))
    both zs = newest-append (is_seen key instant) front (middle ++ zs) ∙ ap (λ (o : Option Entry). later (newest key instant front) o) (newest-append (is_seen key instant) middle zs)

-- ---- writes

pub written_clears : (shape : Shape) (v : Entry) → clears_of (written v shape) ≡ clears_of shape
written_clears shape v =
    ap (λ (xs : List ℕ). shape.clears ++ xs) (last_clears shape.memory.sealed (with_version v shape.memory.active) ∙ sym (last_clears shape.memory.sealed shape.memory.active))

newest_written : (key : Bytes) (instant : ℕ) (shape : Shape) (entries : List (List Entry)) (v : Entry) → IsHeld shape.memory.active → IsAbsent v.key v.number shape.memory.active.versions
    → newest key instant (versions_of (written v shape) entries) ≡ newest key instant (versions_of shape entries ++ v ∷ [])
newest_written key instant shape entries v held absent =
    let sealed = shape.memory.sealed in
    let h = shape.memory.active in
    ap (newest key instant) (all_last entries sealed (with_version v h))
    ∙ newest_last key instant (flat entries) (versions_in sealed) (inserted v h.versions) (h.versions ++ v ∷ []) (newest_put key instant h v held absent)
    ∙ ap (newest key instant) (ap (λ (xs : List Entry). flat entries ++ xs) (sym (append_assoc (versions_in sealed) h.versions (v ∷ [])))
    ∙ sym (append_assoc (flat entries) (versions_in sealed ++ h.versions) (v ∷ []))
    ∙ ap (λ (xs : List Entry). xs ++ v ∷ []) (sym (all_last entries sealed h)))

pub written_view : (key : Bytes) (instant : ℕ) (shape : Shape) (entries : List (List Entry)) (v : Entry) → IsHeld shape.memory.active → IsAbsent v.key v.number shape.memory.active.versions
    → value_at key instant (clears_of (written v shape)) (versions_of (written v shape) entries) ≡ value_at key instant (clears_of shape) (versions_of shape entries ++ v ∷ [])
written_view key instant shape entries v held absent =
    value_shown key instant (clears_of (written v shape)) (versions_of (written v shape) entries)
    ∙ (λ i. value_left instant (written_clears shape v i) (newest_written key instant shape entries v held absent i))
    ∙ sym (value_shown key instant (clears_of shape) (versions_of shape entries ++ v ∷ []))

pub written_shows : (instant : ℕ) (shape : Shape) (entries : List (List Entry)) (v : Entry) → IsHeld shape.memory.active → IsAbsent v.key v.number shape.memory.active.versions
    → v.number < instant → All (λ w. w.number ≤ v.number) (versions_of shape entries) → All (λ n. n ≤ v.number) (clears_of shape)
    → value_at v.key instant (clears_of (written v shape)) (versions_of (written v shape) entries) ≡ v.value
written_shows instant shape entries v held absent low others before =
    written_view v.key instant shape entries v held absent ∙ write_shows instant (clears_of shape) (versions_of shape entries) v low others before

pub written_keeps : (key : Bytes) (instant : ℕ) (shape : Shape) (entries : List (List Entry)) (v : Entry) → IsHeld shape.memory.active → IsAbsent v.key v.number shape.memory.active.versions
    → (v.key ≢ key) ⊎ (instant ≤ v.number)
    → value_at key instant (clears_of (written v shape)) (versions_of (written v shape) entries) ≡ value_at key instant (clears_of shape) (versions_of shape entries)
written_keeps key instant shape entries v held absent other =
    written_view key instant shape entries v held absent ∙ write_keeps key instant (clears_of shape) (versions_of shape entries) v other

-- ---- clears

pub emptied_clears : (shape : Shape) (n : ℕ) → clears_of (emptied n shape) ≡ clears_of shape ++ n ∷ []
emptied_clears shape n =
    let sealed = shape.memory.sealed in
    let h = shape.memory.active in
    ap (λ (xs : List ℕ). shape.clears ++ xs) (last_clears sealed (with_clear n h) ∙ sym (append_assoc (clears_in sealed) h.clears (n ∷ [])))
    ∙ sym (append_assoc shape.clears (clears_in sealed ++ h.clears) (n ∷ []))
    ∙ ap (λ (xs : List ℕ). (shape.clears ++ xs) ++ n ∷ []) (sym (last_clears sealed h))

pub emptied_versions : (shape : Shape) (entries : List (List Entry)) (n : ℕ) → versions_of (emptied n shape) entries ≡ versions_of shape entries
emptied_versions shape entries n = all_last entries shape.memory.sealed (with_clear n shape.memory.active) ∙ sym (all_last entries shape.memory.sealed shape.memory.active)

-- ---- rotations

pub sealed_clears : (shape : Shape) → clears_of (sealed_off shape) ≡ clears_of shape
sealed_clears shape =
    ap (λ (xs : List ℕ). shape.clears ++ xs) (last_clears (parts_of shape.memory) (empty_from shape.memory.active.until) ∙ append-nil (clears_in (parts_of shape.memory)))

pub sealed_versions : (shape : Shape) (entries : List (List Entry)) → versions_of (sealed_off shape) entries ≡ versions_of shape entries
sealed_versions shape entries =
    all_last entries (parts_of shape.memory) (empty_from shape.memory.active.until) ∙ ap (λ (xs : List Entry). flat entries ++ xs) (append-nil (versions_in (parts_of shape.memory)))

-- ---- what is on the disk stays

pub first_same : (sealed : List HeldPart) (h g : HeldPart) → g.from ≡ h.from → first_from sealed g ≡ first_from sealed h
first_same [] h g same = same
first_same (k ∷ sealed) h g same = refl

pub first_sealed : (sealed : List HeldPart) (h g : HeldPart) → first_from (sealed ++ h ∷ []) g ≡ first_from sealed h
first_sealed [] h g = refl
first_sealed (k ∷ sealed) h g = refl

still_read : (disk : Meaning) (old new : Shape) (entries : List (List Entry)) → new.tables ≡ old.tables → floor_of new.memory ≡ floor_of old.memory → ReadsAll disk old entries → ReadsAll disk new entries
still_read disk old new entries tables floor r = record {
  tables = subst (λ (ts : List Reader). AreRead disk ts entries) (sym tables) r.tables;
  below = subst (λ (n : ℕ). AreBelow n (flat entries)) (sym floor) r.below;
  once = r.once;
}

pub written_read : (disk : Meaning) (shape : Shape) (entries : List (List Entry)) (v : Entry) → ReadsAll disk shape entries → ReadsAll disk (written v shape) entries
written_read disk shape entries v = still_read disk shape (written v shape) entries refl (first_same shape.memory.sealed shape.memory.active (with_version v shape.memory.active) refl)

pub emptied_read : (disk : Meaning) (shape : Shape) (entries : List (List Entry)) (n : ℕ) → ReadsAll disk shape entries → ReadsAll disk (emptied n shape) entries
emptied_read disk shape entries n = still_read disk shape (emptied n shape) entries refl (first_same shape.memory.sealed shape.memory.active (with_clear n shape.memory.active) refl)

pub sealed_read : (disk : Meaning) (shape : Shape) (entries : List (List Entry)) → ReadsAll disk shape entries → ReadsAll disk (sealed_off shape) entries
sealed_read disk shape entries = still_read disk shape (sealed_off shape) entries refl (first_sealed shape.memory.sealed shape.memory.active (empty_from shape.memory.active.until))
