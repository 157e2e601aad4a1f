-- Each change of a tracker leaves it sound.
use Rattle.std.proofs.Common.{◌≡◌, ℕ, suc, zero, ◌+◌, ◌-◌, ◌<◌, ◌≤◌, ◌^◌, ◌||◌, ◌==◌, max, true, false, List, [], ◌∷◌, length, nat_eq, unwrap_or, slice_get, refl, sym, ◌∙◌, subst, arith}
use Rattle.std.specs.List.{All}
use Rattle.std.specs.List.Sorted.{IsNonDecreasing}
use Rattle.std.proofs.lemmas.Bool.Decides.{nat_tests}
use Rattle.std.proofs.lemmas.Bool.{eqb-true, eq-eqb}
use Rattle.std.proofs.lemmas.List.Elements.{All-from_recursion, recursion_from_All, All-nil, All-cons, All-head, All-tail, All-weaker}
use Rattle.std.proofs.lemmas.Map.Views.{All-remove_key}
use Rattle.fjall_history.proofs.TrackerOpenings.{length-with_instant, length-without_instant, AllByRecursion-with_instant, IsNonDecreasing-with_instant, IsNonDecreasing-without_instant, IsNonDecreasing-head}
use Rattle.fjall_history.specs.Trackers.{Tracker, fresh_tracker, with_instant, without_instant, is_open, oldest, after_opening, after_gc, after_closing, after_raise, IsSoundTracker}

true-false : true ≡ false → ⊥
true-false e = cc

All-with_instant : (P : ℕ → Type 0) (i : ℕ) (xs : List ℕ) → P i → All P xs → All P (with_instant i xs)
All-with_instant P i xs here all = All-from_recursion P (with_instant i xs) (AllByRecursion-with_instant P i xs here (recursion_from_All P xs all))

-- what holds of every open instant holds of one that is open
pub at_open : (P : ℕ → Type 0) (i : ℕ) (xs : List ℕ) → is_open i xs ≡ true → All P xs → P i
at_open P i [] there all = let bad : ⊥ = cc in absurd bad
at_open P i (x ∷ xs) there all =
    (elim (nat_eq i x) as (λ b. nat_eq i x ≡ b → (b || is_open i xs) ≡ true → P i) [
      | true ↦ λ q t. subst P (sym (eqb-true i x q)) (All-head P x xs all)
      | false ↦ λ q t. at_open P i xs t (All-tail P x xs all)
    ]) refl there

pub sound-fresh_tracker : IsSoundTracker fresh_tracker
sound-fresh_tracker = record {
  ascending = λ i j d h l. absurd (omega arith);
  reached = All-nil _;
  spared = λ p. All-nil _;
  behind = λ p. absurd (omega arith);
  countable = omega arith;
  counted = omega arith;
}

pub sound-after_opening : (i : ℕ) (t : Tracker) → IsSoundTracker t → i ≤ t.visible → (0 < t.watermark → t.watermark < i) → length t.instants < 2 ^ 64 - 1
    → IsSoundTracker (after_opening i t)
sound-after_opening i t sound reach above room = record {
  ascending = IsNonDecreasing-with_instant i t.instants sound.ascending;
  reached = All-with_instant (λ x. x ≤ t.visible) i t.instants reach sound.reached;
  spared = λ p. All-with_instant (λ x. t.watermark < x) i t.instants (above p) (sound.spared p);
  behind = sound.behind;
  countable = omega (arith, length-with_instant i t.instants);
  counted = sound.counted;
}

-- a snapshot at the visible number
pub sound-opening_visible : (t : Tracker) → IsSoundTracker t → length t.instants < 2 ^ 64 - 1 → IsSoundTracker (after_opening t.visible t)
sound-opening_visible t sound room = sound-after_opening t.visible t sound (omega arith) sound.behind room

-- a second snapshot at an open instant
pub sound-opening_open : (i : ℕ) (t : Tracker) → IsSoundTracker t → is_open i t.instants ≡ true → length t.instants < 2 ^ 64 - 1 → IsSoundTracker (after_opening i t)
sound-opening_open i t sound there room =
    sound-after_opening i t sound (at_open (λ x. x ≤ t.visible) i t.instants there sound.reached) (λ p. at_open (λ x. t.watermark < x) i t.instants there (sound.spared p)) room

-- the first of ascending instants is the least
pub oldest_le : (visible : ℕ) (xs : List ℕ) → IsNonDecreasing xs → All (λ i. unwrap_or (slice_get xs 0) visible ≤ i) xs
oldest_le visible [] sorted = All-nil _
oldest_le visible (x ∷ xs) sorted = All-cons (λ i. x ≤ i) x xs (omega arith) (IsNonDecreasing-head x xs sorted)

oldest_reached : (visible : ℕ) (xs : List ℕ) → All (λ i. i ≤ visible) xs → unwrap_or (slice_get xs 0) visible ≤ visible
oldest_reached visible [] all = omega arith
oldest_reached visible (x ∷ xs) all = All-head (λ i. i ≤ visible) x xs all

below_both : (w m i : ℕ) → (0 < w → w < i) → m ≤ i → 0 < max w (m - 1) → max w (m - 1) < i
below_both zero m i below le p = omega arith
below_both (suc w) m i below le p = let h : suc w < i = below (omega arith) in omega arith

below_oldest : (w visible : ℕ) (xs : List ℕ) → (0 < w → All (λ i. w < i) xs) → (0 < w → w < visible)
    → max w (unwrap_or (slice_get xs 0) visible - 1) ≡ unwrap_or (slice_get xs 0) visible - 1
below_oldest zero visible xs spared behind = omega arith
below_oldest (suc w) visible [] spared behind = let h : suc w < visible = behind (omega arith) in omega arith
below_oldest (suc w) visible (x ∷ xs) spared behind = let h : suc w < x = All-head (λ i. suc w < i) x xs (spared (omega arith)) in omega arith

pub sound-after_gc : (t : Tracker) → IsSoundTracker t → IsSoundTracker (after_gc t)
sound-after_gc t sound = record {
  ascending = sound.ascending;
  reached = sound.reached;
  spared = λ p k d l. below_both t.watermark (oldest t) _ (λ q. sound.spared q k d l) (oldest_le t.visible t.instants sound.ascending k d l) p;
  behind = λ p. below_both t.watermark (oldest t) t.visible sound.behind (oldest_reached t.visible t.instants sound.reached) p;
  countable = sound.countable;
  counted = sound.counted;
}

-- the watermark never has to be kept up: after gc it is one below the oldest instant
pub watermark-after_gc : (t : Tracker) → IsSoundTracker t → (after_gc t).watermark ≡ oldest t - 1
watermark-after_gc t sound = below_oldest t.watermark t.visible t.instants sound.spared sound.behind

-- one opening of i is closed
pub sound-closed : (i n : ℕ) (t : Tracker) → IsSoundTracker t → is_open i t.instants ≡ true → n < 10000
    → IsSoundTracker (record t { instants = without_instant i t.instants; closings = n })
sound-closed i n t sound there few = record {
  ascending = IsNonDecreasing-without_instant i t.instants sound.ascending;
  reached = All-remove_key (nat_eq i) (λ x. x ≤ t.visible) t.instants sound.reached;
  spared = λ p. All-remove_key (nat_eq i) (λ x. t.watermark < x) t.instants (sound.spared p);
  behind = sound.behind;
  countable = omega (arith, length-without_instant i t.instants there, sound.countable);
  counted = few;
}

-- nothing is closed
pub closing-none : (i : ℕ) (t : Tracker) → is_open i t.instants ≡ false → after_closing i t ≡ t
closing-none i t none = rw none refl

-- one opening of i is closed, and it isn't a ten-thousandth closing
pub closing-counted : (i : ℕ) (t : Tracker) → is_open i t.instants ≡ true → (t.closings + 1 ≡ 10000 → ⊥)
    → after_closing i t ≡ record t { instants = without_instant i t.instants; closings = t.closings + 1 }
closing-counted i t there few = let no : (t.closings + 1 == 10000) ≡ false = grind (arith, nat_tests) in rw (there, no) refl

-- one opening of i is closed, by a ten-thousandth closing
pub closing-collects : (i : ℕ) (t : Tracker) → is_open i t.instants ≡ true → t.closings + 1 ≡ 10000
    → after_closing i t ≡ after_gc (record t { instants = without_instant i t.instants; closings = 0 })
closing-collects i t there full = let yes : (t.closings + 1 == 10000) ≡ true = grind (arith, nat_tests) in rw (there, yes) refl

pub sound-after_closing : (i : ℕ) (t : Tracker) → IsSoundTracker t → IsSoundTracker (after_closing i t)
sound-after_closing i t sound =
    (elim (is_open i t.instants) as (λ b. is_open i t.instants ≡ b → IsSoundTracker (after_closing i t)) [
      | true ↦ λ there. (elim (t.closings + 1 == 10000) as (λ b. (t.closings + 1 == 10000) ≡ b → IsSoundTracker (after_closing i t)) [
        | true ↦ λ q. rw (closing-collects i t there (eqb-true (t.closings + 1) 10000 q)) (sound-after_gc _ (sound-closed i 0 t sound there (omega arith)))
        | false ↦ λ q.
            let few : t.closings < 10000 = sound.counted in
            let apart : t.closings + 1 ≡ 10000 → ⊥ = λ e. true-false (sym (eq-eqb (t.closings + 1) 10000 e) ∙ q) in
            rw (closing-counted i t there apart) (sound-closed i (t.closings + 1) t sound there (omega arith))
      ]) refl
      | false ↦ λ none. rw (closing-none i t none) sound
    ]) refl

pub sound-after_raise : (n : ℕ) (t : Tracker) → IsSoundTracker t → IsSoundTracker (after_raise n t)
sound-after_raise n t sound = record {
  ascending = sound.ascending;
  reached = All-weaker (λ i. i ≤ t.visible) (λ i. i ≤ max t.visible n) (λ i h. omega arith) t.instants sound.reached;
  spared = sound.spared;
  behind = λ p. let h : t.watermark < t.visible = sound.behind p in omega arith;
  countable = sound.countable;
  counted = sound.counted;
}

-- the visible number is taken back where nothing reads there
pub sound-retracted : (t : Tracker) → IsSoundTracker t → 0 < t.visible → All (λ i. i < t.visible) t.instants → (0 < t.watermark → t.watermark + 1 < t.visible) → IsSoundTracker (record t { visible = t.visible - 1 })
sound-retracted t sound some unread spared = record {
  ascending = sound.ascending;
  reached = All-weaker (λ i. i < t.visible) (λ i. i ≤ t.visible - 1) (λ i h. omega arith) t.instants unread;
  spared = sound.spared;
  behind = λ p. let h = spared p in omega (arith, h);
  countable = sound.countable;
  counted = sound.counted;
}
