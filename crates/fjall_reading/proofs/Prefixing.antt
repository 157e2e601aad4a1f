-- Which keys lie within the range of a prefix.
use Rattle.std.proofs.Common.{◌≡◌, ℕ, ◌+◌, ◌<◌, ◌≤◌, Bool, true, false, not, ◌&&◌, [], ◌∷◌, ◌++◌, length, drop, Option, Some, None, refl, sym, ◌∙◌, ap, arith, ◌⊎◌, inl, inr}
use Rattle.std.specs.Prelude.{All, if◌then◌else◌, ◌==◌}
use Rattle.std.specs.Cmp.{nat_cmp_is, unsigned_ties}
use Rattle.std.specs.Ordering.{is_eq, is_le, is_lt, nat_cmp, ordering_then}
use Rattle.std.specs.declared.cmp.Ordering.{Ordering}
use Rattle.std.specs.declared.cmp.Ordering.TheVariants.{Less, Equal, Greater}
use Rattle.std.specs.declared.ops.Bound.{Bound}
use Rattle.std.specs.declared.ops.Bound.TheVariants.{Included, Excluded, Unbounded}
use Rattle.std.specs.BTreeMap.Range.{is_from_start, is_past_end}
use Rattle.std.proofs.Math.Seq.{drop-append_seam}
use Rattle.std.proofs.lemmas.List.Elements.{All-head, All-tail}
use Rattle.std.proofs.lemmas.Bool.{cases_lt, eq-eqb, eqb-true}
use Rattle.fjall_base.specs.Pairs.{Bytes, KeyRange, byte_order, is_within}
use Rattle.fjall_reading.specs.Prefixes.{begins_with, bound_behind, from_prefix, prefix_range, raised, raised_with, range_behind, up_to}

-- what the first bytes decide, where they do
abbrev then_by : Ordering → Bool → Bool
then_by Less b = true
then_by Equal b = b
then_by Greater b = false

le_then : (o q : Ordering) → is_le (ordering_then o q) ≡ then_by o (is_le q)
le_then Less q = refl
le_then Equal q = refl
le_then Greater q = refl

lt_then : (o q : Ordering) → is_lt (ordering_then o q) ≡ then_by o (is_lt q)
lt_then Less q = refl
lt_then Equal q = refl
lt_then Greater q = refl

from_start : (c k : ℕ) (p ks : Bytes) (low : Bound Bytes) → is_from_start byte_order (bound_behind (c ∷ p) (from_prefix (c ∷ p)) low) (k ∷ ks) ≡ then_by (nat_cmp c k) (is_from_start byte_order (bound_behind p (from_prefix p) low) ks)
from_start c k p ks (Included a) = le_then (nat_cmp c k) (byte_order (p ++ a) ks)
from_start c k p ks (Excluded a) = lt_then (nat_cmp c k) (byte_order (p ++ a) ks)
from_start c k [] [] Unbounded = le_then (nat_cmp c k) Equal
from_start c k [] (x ∷ ks) Unbounded = le_then (nat_cmp c k) Less
from_start c k (d ∷ p) ks Unbounded = le_then (nat_cmp c k) (byte_order (d ∷ p) ks)

-- nothing is ahead of the empty bytes
le_from_none : (ks : Bytes) → is_le (byte_order [] ks) ≡ true
le_from_none [] = refl
le_from_none (x ∷ ks) = refl

-- a lesser first byte, or the same one
not_ahead : (c k : ℕ) → k ≤ c → then_by (nat_cmp c k) false ≡ false
not_ahead c k le = either (cases_lt k c)
  where
    either : (k < c) ⊎ (c ≤ k) → then_by (nat_cmp c k) false ≡ false
    either (inl lt) = ap (λ o. then_by o false) (sym (nat_cmp_is c k Greater lt))
    either (inr ge) = ap (λ o. then_by o false) (sym (nat_cmp_is c k Equal (omega (arith, le, ge))))

-- a byte above a greater one than the first, or at it
at_next : (c k : ℕ) → c < k → then_by (nat_cmp (c + 1) k) true ≡ true
at_next c k lt = either (cases_lt (c + 1) k)
  where
    either : ((c + 1) < k) ⊎ (k ≤ (c + 1)) → then_by (nat_cmp (c + 1) k) true ≡ true
    either (inl above) = ap (λ o. then_by o true) (sym (nat_cmp_is (c + 1) k Less above))
    either (inr le) = ap (λ o. then_by o true) (sym (nat_cmp_is (c + 1) k Equal (omega (arith, lt, le))))

by_next : (c k : ℕ) (ks : Bytes) → k < 256 → is_past_end byte_order (up_to (raised_with c None)) (k ∷ ks) ≡ then_by (nat_cmp c k) false
by_next c k ks byte = either (c == 255) refl (cases_lt c k)
  where
    either : (b : Bool) → (c == 255) ≡ b → (c < k) ⊎ (k ≤ c) → is_past_end byte_order (up_to (if b then None else Some ((c + 1) ∷ []))) (k ∷ ks) ≡ then_by (nat_cmp c k) false
    either true is (inl lt) = absurd (omega (arith, eqb-true c 255 is, lt, byte))
    either true is (inr le) = sym (not_ahead c k le)
    either false is (inl lt) = le_then (nat_cmp (c + 1) k) (byte_order [] ks) ∙ ap (then_by (nat_cmp (c + 1) k)) (le_from_none ks) ∙ at_next c k lt ∙ ap (λ o. then_by o false) (nat_cmp_is c k Less lt)
    either false is (inr le) = ap (λ o. is_le (ordering_then o (byte_order [] ks))) (sym (nat_cmp_is (c + 1) k Greater (omega (arith, le)))) ∙ sym (not_ahead c k le)

past_open : (c k : ℕ) (ks : Bytes) (end : Option Bytes) → k < 256 → is_past_end byte_order (up_to (raised_with c end)) (k ∷ ks) ≡ then_by (nat_cmp c k) (is_past_end byte_order (up_to end) ks)
past_open c k ks (Some end) byte = le_then (nat_cmp c k) (byte_order end ks)
past_open c k ks None byte = by_next c k ks byte

past_end : (c k : ℕ) (p ks : Bytes) (high : Bound Bytes) → k < 256 → is_past_end byte_order (bound_behind (c ∷ p) (up_to (raised (c ∷ p))) high) (k ∷ ks) ≡ then_by (nat_cmp c k) (is_past_end byte_order (bound_behind p (up_to (raised p)) high) ks)
past_end c k p ks (Included a) byte = lt_then (nat_cmp c k) (byte_order (p ++ a) ks)
past_end c k p ks (Excluded a) byte = le_then (nat_cmp c k) (byte_order (p ++ a) ks)
past_end c k p ks Unbounded byte = past_open c k ks (raised p) byte

both_by : (o : Ordering) (a b : Bool) → then_by o a && not (then_by o b) ≡ is_eq o && (a && not b)
both_by Less a b = refl
both_by Equal a b = refl
both_by Greater a b = refl

assoc : (a b c : Bool) → a && (b && c) ≡ (a && b) && c
assoc true b c = refl
assoc false b c = refl

-- a key that is shorter than the prefix
none_within : (c : ℕ) (p : Bytes) (range : KeyRange) → is_within (range_behind (c ∷ p) range) [] ≡ false
none_within c p range = by_low range.0 range.1
  where
    by_low : (low high : Bound Bytes) → is_within (range_behind (c ∷ p) (low, high)) [] ≡ false
    by_low (Included a) high = refl
    by_low (Excluded a) high = refl
    by_low Unbounded high = refl

-- THE LAW: within a range behind a prefix are the keys that begin with it and go on within the range
pub within_behind : (prefix : Bytes) (range : KeyRange) (key : Bytes) → All (λ byte. byte < 256) key → is_within (range_behind prefix range) key ≡ begins_with prefix key && is_within range (drop (length prefix) key)
within_behind [] range key bytes = by_bounds range.0 range.1
  where
    by_bounds : (low high : Bound Bytes) → is_within (range_behind [] (low, high)) key ≡ is_within (low, high) key
    by_bounds (Included a) (Included b) = refl
    by_bounds (Included a) (Excluded b) = refl
    by_bounds (Included a) Unbounded = refl
    by_bounds (Excluded a) (Included b) = refl
    by_bounds (Excluded a) (Excluded b) = refl
    by_bounds (Excluded a) Unbounded = refl
    by_bounds Unbounded (Included b) = refl
    by_bounds Unbounded (Excluded b) = refl
    by_bounds Unbounded Unbounded = refl
within_behind (c ∷ p) range [] bytes = none_within c p range
within_behind (c ∷ p) range (k ∷ ks) bytes =
    let low = is_from_start byte_order (bound_behind p (from_prefix p) range.0) ks in
    let high = is_past_end byte_order (bound_behind p (up_to (raised p)) range.1) ks in
    ap (λ b. b && not (is_past_end byte_order (bound_behind (c ∷ p) (up_to (raised (c ∷ p))) range.1) (k ∷ ks))) (from_start c k p ks range.0)
    ∙ ap (λ b. then_by (nat_cmp c k) low && not b) (past_end c k p ks range.1 (All-head (λ byte. byte < 256) k ks bytes))
    ∙ both_by (nat_cmp c k) low high
    ∙ ap (λ b. b && (low && not high)) (sym (unsigned_ties c k))
    ∙ ap (λ b. (c == k) && b) (within_behind p range ks (All-tail (λ byte. byte < 256) k ks bytes))
    ∙ assoc (c == k) (begins_with p ks) (is_within range (drop (length p) ks))

-- and within the range of a prefix those that begin with it
pub within_prefix : (prefix key : Bytes) → All (λ byte. byte < 256) key → is_within (prefix_range prefix) key ≡ begins_with prefix key
within_prefix prefix key bytes = within_behind prefix (Unbounded, Unbounded) key bytes ∙ and_true (begins_with prefix key)
  where
    and_true : (b : Bool) → b && true ≡ b
    and_true true = refl
    and_true false = refl

-- what is put behind a prefix begins with it
begins_joined : (prefix key : Bytes) → begins_with prefix (prefix ++ key) ≡ true
begins_joined [] key = refl
begins_joined (c ∷ p) key = ap (λ b. b && begins_with p (p ++ key)) (eq-eqb c c refl) ∙ begins_joined p key

pub within_joined : (prefix : Bytes) (range : KeyRange) (key : Bytes) → All (λ byte. byte < 256) (prefix ++ key) → is_within (range_behind prefix range) (prefix ++ key) ≡ is_within range key
within_joined prefix range key bytes =
    within_behind prefix range (prefix ++ key) bytes
    ∙ ap (λ b. b && is_within range (drop (length prefix) (prefix ++ key))) (begins_joined prefix key)
    ∙ ap (is_within range) (drop-append_seam prefix key)
