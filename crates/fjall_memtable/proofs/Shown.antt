-- The value of a key by its newest version alone, and the map of all keys.
use Rattle.std.proofs.Common.{◌≡◌, ℕ, Bool, true, false, cond, not, List, [], ◌∷◌, ◌||◌, Option, Some, None, ltb, refl, sym, ap, ◌∙◌, arith}
use Rattle.std.specs.List.{list_any}
use Rattle.std.specs.Str.{bytes_eq}
use Rattle.std.specs.Ordering.{eq_by_cmp}
use Rattle.std.specs.Cmp.Lexicographic.{nat_list_cmp_total, texts_ties}
use Rattle.std.specs.FinMap.{empty, get, get-insert, get-remove, get-empty, same_map, slice_cmp-IsAntisymmetric, nat_cmp-IsAntisymmetric}
use Rattle.std.proofs.lemmas.Bool.{and_parts, true≢false, not-true}
use Rattle.fjall_base.specs.Pairs.{Bytes, Pairs, byte_order, altered}
use Rattle.fjall_table.specs.Blocks.{Entry}
use Rattle.fjall_memtable.specs.Views.{is_seen, is_cleared, living, newest, value_in, value_at, value_left, IsView, given, view_of}
use Rattle.fjall_memtable.proofs.NewestSeen.{top, still_none, still_newest, fewer, newest_among, newest_kept, newest_passes}
use Rattle.fjall_memtable.proofs.Sameness.{same_key, key_turned}
use Rattle.fjall_memtable.proofs.Clears.{alive, cleared_less}

-- ---- one key

-- where a clear hides the newest version it hides all of the key
pub value_shown : (key : Bytes) (instant : ℕ) (clears : List ℕ) (vs : List Entry)
    → value_at key instant clears vs ≡ value_left instant clears (newest key instant vs)
value_shown key instant clears vs = by (newest key instant vs) refl
  where
    gone : (v : Entry) → newest key instant vs ≡ Some v → is_cleared instant clears v.number ≡ true
        → (o : Option Entry) → newest key instant (living instant clears vs) ≡ o → value_in o ≡ None
    gone v e h None g = refl
    gone v e h (Some w) g =
        let l = fewer (is_seen key instant) (alive instant clears) vs in
        let a = ap top g in
        let c = ap top e in
        let lives = not-true _ (newest_kept (is_seen key instant) (alive instant clears) vs w g) in
        absurd (true≢false (sym (cleared_less instant clears w.number v.number (omega arith) h) ∙ lives))

    some : (v : Entry) (b : Bool) → newest key instant vs ≡ Some v → is_cleared instant clears v.number ≡ b
        → value_at key instant clears vs ≡ cond b None v.value
    some v false e h = ap value_in (still_newest (is_seen key instant) (alive instant clears) vs v e (ap not h))
    some v true e h = gone v e h (newest key instant (living instant clears vs)) refl

    by : (o : Option Entry) → newest key instant vs ≡ o → value_at key instant clears vs ≡ value_left instant clears o
    by None e = ap value_in (still_none (is_seen key instant) (alive instant clears) vs e)
    by (Some v) e = some v (is_cleared instant clears v.number) e refl

-- a key without versions has no value
pub no_value : (key : Bytes) (instant : ℕ) (clears : List ℕ) (vs : List Entry) → list_any (λ v. bytes_eq key v.key) vs ≡ false
    → value_at key instant clears vs ≡ None
no_value key instant clears vs none = value_shown key instant clears vs ∙ by (newest key instant vs) refl
  where
    by : (o : Option Entry) → newest key instant vs ≡ o → value_left instant clears o ≡ None
    by None e = refl
    by (Some v) e =
        let seen = and_parts (bytes_eq v.key key) (ltb v.number instant) (newest_passes (is_seen key instant) vs v e) in
        let there = newest_among (is_seen key instant) (λ w. bytes_eq key w.key) vs v e (key_turned v.key key true seen.0) in
        absurd (true≢false (sym there ∙ none))

-- ---- all keys

-- what an altered map has at a key
pub get_altered : (pairs : Pairs) (at : Bytes) (value : Option Bytes) (key : Bytes)
    → get (altered pairs at value) key ≡ cond (bytes_eq key at) value (get pairs key)
get_altered pairs at value key = by value ∙ ap (λ b. cond b value (get pairs key)) (sym (texts_ties key at))
  where
    by : (o : Option Bytes) → get (altered pairs at o) key ≡ cond (eq_by_cmp byte_order key at) o (get pairs key)
    by (Some v) = get-insert nat_list_cmp_total pairs at v key
    by None = get-remove nat_list_cmp_total pairs at key

pub one_view : (instant : ℕ) (clears : List ℕ) (versions : List Entry) (pairs others : Pairs)
    → IsView instant clears versions pairs → IsView instant clears versions others → pairs ≡ others
one_view instant clears versions pairs others view other =
    same_map nat_list_cmp_total (slice_cmp-IsAntisymmetric nat_cmp-IsAntisymmetric) pairs others (λ key. view key ∙ sym (other key))

-- what the map of these versions' values has at a key
get_given : (value : Bytes → Option Bytes) (versions : List Entry) (key : Bytes)
    → get (given value versions) key ≡ cond (list_any (λ v. bytes_eq key v.key) versions) (value key) None
get_given value [] key = get-empty byte_order key
get_given value (v ∷ versions) key = get_altered (given value versions) v.key (value v.key) key ∙ by (bytes_eq key v.key) refl (get_given value versions key)
  where
    there : Bool
    there = list_any (λ w. bytes_eq key w.key) versions

    by : (b : Bool) → bytes_eq key v.key ≡ b → get (given value versions) key ≡ cond there (value key) None
        → cond b (value v.key) (get (given value versions) key) ≡ cond (b || there) (value key) None
    by true e rest = ap value (sym (same_key key v.key e))
    by false e rest = rest

pub is_view : (instant : ℕ) (clears : List ℕ) (versions : List Entry) → IsView instant clears versions (view_of instant clears versions)
is_view instant clears versions key = get_given value versions key ∙ by (list_any (λ v. bytes_eq key v.key) versions) refl
  where
    value : Bytes → Option Bytes
    value k = value_at k instant clears versions

    by : (b : Bool) → list_any (λ v. bytes_eq key v.key) versions ≡ b → cond b (value key) None ≡ value key
    by true e = refl
    by false e = sym (no_value key instant clears versions e)

-- where each key has the same value it is the same map
pub same_views : (instant : ℕ) (clears others : List ℕ) (versions more : List Entry)
    → ((key : Bytes) → value_at key instant clears versions ≡ value_at key instant others more) → view_of instant clears versions ≡ view_of instant others more
same_views instant clears others versions more same =
    one_view instant clears versions (view_of instant clears versions) (view_of instant others more) (is_view instant clears versions)
    (λ key. is_view instant others more key ∙ sym (same key))
