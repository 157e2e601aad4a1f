-- Entries by their places, where the text grows or is cut.
use Rattle.std.proofs.Common.{◌≡◌, ℕ, ◌+◌, ◌-◌, ◌*◌, ◌<◌, ◌≤◌, ◌^◌, Bool, true, false, nat_le, List, [], ◌∷◌, ◌++◌, length, take, drop, map, filter, Some, None, if◌then◌else◌, refl, sym, ap, ◌∙◌, arith, inl, inr}
use Rattle.std.specs.List.{AllByRecursion, sum_by}
use Rattle.std.specs.BTreeMap.{insert_entry}
use Rattle.std.proofs.lemmas.Bool.{cases_Bool, leb-true, le-leb, lt-leb}
use Rattle.std.proofs.lemmas.List.{length-drop, length-append, length-take-le, drop-append-le, take-append-le, drop-take, take-take, drop_at, take_at, take_all}
use Rattle.std.proofs.lemmas.List.Sums.{sum_by-cons}
use Rattle.fjall_table.specs.Blocks.{value_bytes}
use Rattle.fjall_memtable.specs.declared.place.Place.{Place}
use Rattle.fjall_memtable.specs.Stamps.{Stamp, stamp_cmp}
use Rattle.fjall_memtable.specs.Places.{key_at, value_at, place_len, end_of, entry_at_place, IsPlaced, AreAll, up_to, IsMarkOf}
use Rattle.fjall_memtable.specs.Entries.{size_of, inserted}
use Rattle.fjall_memtable.proofs.Orders.{Apart, map_same, map_insert, sum_insert, filter_insert, all_insert}

-- ---- parts of a text

part_grown : (at n : ℕ) (t more : List ℕ) → at + n ≤ length t → take n (drop at (t ++ more)) ≡ take n (drop at t)
part_grown at n t more fits =
    let l = length-drop at t in
    ap (take n) (drop-append-le at t more (omega (arith, fits))) ∙ take-append-le n (drop at t) more (omega (arith, fits, l))

part_cut : (at n m : ℕ) (t : List ℕ) → at + n ≤ m → take n (drop at (take m t)) ≡ take n (drop at t)
part_cut at n m t fits =
    let e : m ≡ at + (m - at) = omega (arith, fits) in
    ap (λ (k : ℕ). take n (drop at (take k t))) e ∙ ap (take n) (drop-take at (m - at) t) ∙ take-take n (m - at) (drop at t) (omega (arith, fits))

-- the other text has the same there
abbrev Sees : List ℕ → List ℕ → Place → Type 0
Sees t u p = (key_at u p ≡ key_at t p) × (value_at u p ≡ value_at t p)

grown : (t more : List ℕ) (p : Place) → end_of p ≤ length t → Sees t (t ++ more) p
grown t more p fits = (part_grown p.at p.key_len t more (omega (arith, fits)), ap (λ (v : List ℕ). if p.is_value then Some v else None) (part_grown (p.at + p.key_len) p.value_len t more (omega (arith, fits))))

cut : (t : List ℕ) (m : ℕ) (p : Place) → end_of p ≤ m → Sees t (take m t) p
cut t m p fits = (part_cut p.at p.key_len m t (omega (arith, fits)), ap (λ (v : List ℕ). if p.is_value then Some v else None) (part_cut (p.at + p.key_len) p.value_len m t (omega (arith, fits))))

same_entry : (t u : List ℕ) (e : Stamp × Place) → Sees t u e.1 → entry_at_place u e ≡ entry_at_place t e
same_entry t u e h = λ i. record { key = e.0.key; number = e.0.number; value = h.1 i }

still_placed : (t u : List ℕ) (e : Stamp × Place) → IsPlaced t e → Sees t u e.1 → end_of e.1 ≤ length u → IsPlaced u e
still_placed t u e h s fits = record { some = h.some; fits = fits; key = s.0 ∙ h.key; number = h.number; tombstone = h.tombstone }

pub placed_grown : (t more : List ℕ) (es : List (Stamp × Place)) → AllByRecursion (IsPlaced t) es → AllByRecursion (IsPlaced (t ++ more)) es
placed_grown t more [] h = tt
placed_grown t more (e ∷ es) h = let l = length-append t more in (still_placed t (t ++ more) e h.0 (grown t more e.1 h.0.fits) (let f = h.0.fits in omega (arith, f, l)), placed_grown t more es h.1)

pub same_grown : (t more : List ℕ) (es : List (Stamp × Place)) → AllByRecursion (IsPlaced t) es → AllByRecursion (λ e. entry_at_place (t ++ more) e ≡ entry_at_place t e) es
same_grown t more [] h = tt
same_grown t more (e ∷ es) h = (same_entry t (t ++ more) e (grown t more e.1 h.0.fits), same_grown t more es h.1)

-- ---- some of them

pub all_filter : (P : Stamp × Place → Type 0) (q : Stamp × Place → Bool) (es : List (Stamp × Place)) → AllByRecursion P es → AllByRecursion P (filter q es)
all_filter P q [] h = tt
all_filter P q (e ∷ es) h = elim (cases_Bool (q e)) [ inl t ↦ rw t (h.0, all_filter P q es h.1) | inr f ↦ rw f (all_filter P q es h.1) ]

all_up_to : (P Q : Stamp × Place → Type 0) (mark : ℕ) → ((e : Stamp × Place) → P e → end_of e.1 ≤ mark → Q e) → (es : List (Stamp × Place)) → AllByRecursion P es → AllByRecursion Q (up_to mark es)
all_up_to P Q mark to [] h = tt
all_up_to P Q mark to (e ∷ es) h = elim (cases_Bool (nat_le (end_of e.1) mark)) [ inl t ↦ rw t (to e h.0 (leb-true (end_of e.1) mark t), all_up_to P Q mark to es h.1) | inr f ↦ rw f (all_up_to P Q mark to es h.1) ]

-- ---- one more entry

here_key : (t k v : List ℕ) (n : ℕ) → n ≡ length k → take n (drop (length t) ((t ++ k) ++ v)) ≡ k
here_key t k v n e =
    let l = length-append t k in
    ap (take n) (drop-append-le (length t) (t ++ k) v (omega (arith, l)) ∙ ap (λ (x : List ℕ). x ++ v) (drop_at t k (length t) refl)) ∙ take_at k v n (sym e)

here_value : (t k v : List ℕ) (at n : ℕ) → at ≡ length t + length k → n ≡ length v → take n (drop at ((t ++ k) ++ v)) ≡ v
here_value t k v at n a e =
    let l = length-append t k in
    ap (take n) (drop_at (t ++ k) v at (omega (arith, a, l))) ∙ take_all n v (omega (arith, e))

-- A place behind the text, and what comes there.
pub record IsNext (t k v : List ℕ) (s : Stamp) (p : Place) : Type 0 where
  pub at : p.at ≡ length t
  pub key_len : p.key_len ≡ length k
  pub value_len : p.value_len ≡ length v
  pub key : s.key ≡ k
  pub number : s.number < 2 ^ 64
  pub some : 0 < length k
  pub tombstone : (if p.is_value then 0 else length v) ≡ 0

next_value : (t k v : List ℕ) (s : Stamp) (p : Place) → IsNext t k v s p → value_at ((t ++ k) ++ v) p ≡ (if p.is_value then Some v else None)
next_value t k v s p h =
    let a = h.at in
    let b = h.key_len in
    ap (λ (x : List ℕ). if p.is_value then Some x else None) (here_value t k v (p.at + p.key_len) p.value_len (omega (arith, a, b)) h.value_len)

next_end : (t k v : List ℕ) (s : Stamp) (p : Place) → IsNext t k v s p → end_of p ≡ length ((t ++ k) ++ v)
next_end t k v s p h =
    let a = h.at in
    let b = h.key_len in
    let c = h.value_len in
    let l = length-append t k in
    let m = length-append (t ++ k) v in
    omega (arith, a, b, c, l, m)

next_placed : (t k v : List ℕ) (s : Stamp) (p : Place) → IsNext t k v s p → IsPlaced ((t ++ k) ++ v) (s, p)
next_placed t k v s p h =
    let b = h.key_len in
    let n = h.some in
    let e = next_end t k v s p h in
    record {
      some = omega (arith, b, n);
      fits = omega (arith, e);
      key = ap (λ (at : ℕ). take p.key_len (drop at ((t ++ k) ++ v))) h.at ∙ here_key t k v p.key_len h.key_len ∙ sym h.key;
      number = h.number;
      tombstone = ap (λ (n : ℕ). if p.is_value then 0 else n) h.value_len ∙ h.tombstone;
    }

twice_grown : (t k v : List ℕ) (es : List (Stamp × Place)) → AllByRecursion (IsPlaced t) es → AllByRecursion (IsPlaced ((t ++ k) ++ v)) es
twice_grown t k v es h = placed_grown (t ++ k) v es (placed_grown t k es h)

both_same : (t u w : List ℕ) (es : List (Stamp × Place)) → AllByRecursion (λ e. entry_at_place u e ≡ entry_at_place t e) es → AllByRecursion (λ e. entry_at_place w e ≡ entry_at_place u e) es → AllByRecursion (λ e. entry_at_place w e ≡ entry_at_place t e) es
both_same t u w [] g h = tt
both_same t u w (e ∷ es) g h = (h.0 ∙ g.0, both_same t u w es g.1 h.1)

twice_same : (t k v : List ℕ) (es : List (Stamp × Place)) → AllByRecursion (IsPlaced t) es → AllByRecursion (λ e. entry_at_place ((t ++ k) ++ v) e ≡ entry_at_place t e) es
twice_same t k v es h = both_same t (t ++ k) ((t ++ k) ++ v) es (same_grown t k es h) (same_grown (t ++ k) v es (placed_grown t k es h))

pub next_all : (t k v : List ℕ) (s : Stamp) (p : Place) (es : List (Stamp × Place)) → AreAll t es → Apart s es → IsNext t k v s p → AreAll ((t ++ k) ++ v) (insert_entry stamp_cmp es s p)
next_all t k v s p es all apart h = record {
  placed = all_insert (IsPlaced ((t ++ k) ++ v)) s p (next_placed t k v s p h) es apart (twice_grown t k v es all.placed);
  filled =
      let sum = sum_insert (λ e. place_len e.1) s p es apart in
      let b = h.key_len in
      let c = h.value_len in
      let f = all.filled in
      let l = length-append t k in
      let m = length-append (t ++ k) v in
      omega (arith, sum, b, c, f, l, m);
}

pub next_entries : (t k v : List ℕ) (s : Stamp) (p : Place) (es : List (Stamp × Place)) → AreAll t es → Apart s es → IsNext t k v s p
    → map (entry_at_place ((t ++ k) ++ v)) (insert_entry stamp_cmp es s p) ≡ inserted (record { key = s.key; number = s.number; value = if p.is_value then Some v else None }) (map (entry_at_place t) es)
next_entries t k v s p es all apart h = map_insert t ((t ++ k) ++ v) s p (if p.is_value then Some v else None) (next_value t k v s p h) es apart (twice_same t k v es all.placed)

-- marks of the one, and what they stand for
abbrev pub KeepsMarksOf : List ℕ → List (Stamp × Place) → List ℕ → List (Stamp × Place) → Type 0
KeepsMarksOf t es u fs = (mark : ℕ) → IsMarkOf t es mark → IsMarkOf u fs mark × (map (entry_at_place u) (up_to mark fs) ≡ map (entry_at_place t) (up_to mark es))

past : (t k v : List ℕ) (s : Stamp) (p : Place) (mark : ℕ) → IsNext t k v s p → mark ≤ length t → nat_le (end_of p) mark ≡ false
past t k v s p mark h within =
    let a = h.at in
    let b = h.key_len in
    let n = h.some in
    lt-leb (end_of p) mark (omega (arith, a, b, n, within))

pub next_marks : (t k v : List ℕ) (s : Stamp) (p : Place) (es : List (Stamp × Place)) → AreAll t es → Apart s es → IsNext t k v s p → KeepsMarksOf t es ((t ++ k) ++ v) (insert_entry stamp_cmp es s p)
next_marks t k v s p es all apart h = λ mark m.
    let e = filter_insert (λ e. nat_le (end_of e.1) mark) s p (past t k v s p mark h m.within) es apart in
    let l = length-append t k in
    let n = length-append (t ++ k) v in
    let w = m.within in (
      record { within = omega (arith, l, n, w); filled = ap (λ (fs : List (Stamp × Place)). sum_by (λ e. place_len e.1) fs) e ∙ m.filled },
      ap (map (entry_at_place ((t ++ k) ++ v))) e ∙ map_same t ((t ++ k) ++ v) (up_to mark es) (all_filter (λ x. entry_at_place ((t ++ k) ++ v) x ≡ entry_at_place t x) (λ x. nat_le (end_of x.1) mark) es (twice_same t k v es all.placed)),
    )

-- ---- back to a mark

pub cut_all : (t : List ℕ) (es : List (Stamp × Place)) (mark : ℕ) → AreAll t es → IsMarkOf t es mark → AreAll (take mark t) (up_to mark es)
cut_all t es mark all m = record {
  placed = all_up_to (IsPlaced t) (IsPlaced (take mark t)) mark (λ e h ends. still_placed t (take mark t) e h (cut t mark e.1 ends) (let l = length-take-le mark t m.within in omega (arith, l, ends))) es all.placed;
  filled = length-take-le mark t m.within ∙ sym m.filled;
}

pub cut_entries : (t : List ℕ) (es : List (Stamp × Place)) (mark : ℕ) → AllByRecursion (IsPlaced t) es → map (entry_at_place (take mark t)) (up_to mark es) ≡ map (entry_at_place t) (up_to mark es)
cut_entries t es mark all = map_same t (take mark t) (up_to mark es) (all_up_to (IsPlaced t) (λ e. entry_at_place (take mark t) e ≡ entry_at_place t e) mark (λ e h ends. same_entry t (take mark t) e (cut t mark e.1 ends)) es all)

-- ---- the mark at the end

pub all_end : (t : List ℕ) (es : List (Stamp × Place)) → AllByRecursion (IsPlaced t) es → up_to (length t) es ≡ es
all_end t [] h = refl
all_end t (e ∷ es) h = rw (le-leb (end_of e.1) (length t) h.0.fits) (ap (λ (fs : List (Stamp × Place)). e ∷ fs) (all_end t es h.1))

pub end_mark : (t : List ℕ) (es : List (Stamp × Place)) → AreAll t es → IsMarkOf t es (length t)
end_mark t es all = record { within = omega arith; filled = ap (λ (fs : List (Stamp × Place)). sum_by (λ e. place_len e.1) fs) (all_end t es all.placed) ∙ sym all.filled }

-- ---- sizes

key_len_is : (t : List ℕ) (e : Stamp × Place) → IsPlaced t e → length e.0.key ≡ e.1.key_len
key_len_is t e h =
    let f = h.fits in
    let l = length-drop e.1.at t in
    sym (ap length h.key) ∙ length-take-le e.1.key_len (drop e.1.at t) (omega (arith, f, l))

value_len_by : (t : List ℕ) (at n : ℕ) (b : Bool) → at + n ≤ length t → (if b then 0 else n) ≡ 0 → length (value_bytes (if b then Some (take n (drop at t)) else None)) ≡ n
value_len_by t at n true fits none = let l = length-drop at t in length-take-le n (drop at t) (omega (arith, fits, l))
value_len_by t at n false fits none = sym none

size_is : (t : List ℕ) (e : Stamp × Place) → IsPlaced t e → size_of (entry_at_place t e) ≡ place_len e.1 + 16
size_is t e h =
    let k = key_len_is t e h in
    let f = h.fits in
    let v = value_len_by t (e.1.at + e.1.key_len) e.1.value_len e.1.is_value (omega (arith, f)) h.tombstone in
    omega (arith, k, v)

pub sizes_are : (t : List ℕ) (es : List (Stamp × Place)) → AllByRecursion (IsPlaced t) es → sum_by (λ e. place_len e.1) es + 16 * length es ≡ sum_by size_of (map (entry_at_place t) es)
sizes_are t [] h = refl
sizes_are t (e ∷ es) h =
    let a = sum_by-cons (λ e. place_len e.1) e es in
    let b = sum_by-cons size_of (entry_at_place t e) (map (entry_at_place t) es) in
    let s = size_is t e h.0 in
    let more = sizes_are t es h.1 in
    omega (arith, a, b, s, more)
