-- What one version more and one clear more do to views.
use Rattle.std.proofs.Common.{◌≡◌, ◌≢◌, ℕ, ◌+◌, ◌<◌, ◌≤◌, Bool, true, false, cond, not, ltb, leb, ◌||◌, ◌&&◌, List, [], ◌∷◌, ◌++◌, filter, Option, Some, None, refl, sym, ap, ◌∙◌, inl, inr, ◌⊎◌, arith}
use Rattle.std.specs.List.{All}
use Rattle.std.specs.Str.{bytes_eq}
use Rattle.std.specs.FinMap.{get}
use Rattle.std.proofs.lemmas.Bool.{false_from_ne_true, cond-false, and_from, and_left, and_right, true≢false, lt-ltb, le-ltb, lt-leb}
use Rattle.std.proofs.lemmas.List.Elements.{All-head, All-tail, All-weaker}
use Rattle.fjall_base.specs.Pairs.{Bytes, Pairs, altered}
use Rattle.fjall_table.specs.Blocks.{Entry}
use Rattle.fjall_memtable.specs.Views.{newest, newest_of, is_seen, is_cleared, later, value_in, value_at, value_left, IsView}
use Rattle.fjall_memtable.specs.Jobs.{is_at, AreBelow}
use Rattle.fjall_memtable.proofs.NewestSeen.{top, one, later_none, newest-append, newest_passes, second_wins, still_newest, still_none, fewer, top_below}
use Rattle.fjall_memtable.proofs.Sameness.{same_key, keys_tie, key_itself, at-true}
use Rattle.std.proofs.lemmas.Bool.Decides.{nat_tests}
use Rattle.fjall_memtable.proofs.Clears.{alive, none_cleared, last_clear}
use Rattle.fjall_memtable.proofs.Tests.{filters_same, filter-filter}
use Rattle.fjall_memtable.proofs.Shown.{value_shown, get_altered}

-- ---- a version

newest_last : (key : Bytes) (instant : ℕ) (vs : List Entry) (v : Entry)
    → newest key instant (vs ++ (v ∷ [])) ≡ later (newest key instant vs) (one (is_seen key instant) v)
newest_last key instant vs v = newest-append (is_seen key instant) vs (v ∷ []) ∙ ap (later (newest key instant vs)) (later_none (one (is_seen key instant) v))

-- one that isn't seen changes nothing
pub write_keeps : (key : Bytes) (instant : ℕ) (clears : List ℕ) (vs : List Entry) (v : Entry) → (v.key ≢ key) ⊎ (instant ≤ v.number)
    → value_at key instant clears (vs ++ (v ∷ [])) ≡ value_at key instant clears vs
write_keeps key instant clears vs v other =
    value_shown key instant clears (vs ++ (v ∷ []))
    ∙ ap (value_left instant clears) (newest_last key instant vs v
    ∙ ap (λ b. later (newest key instant vs) (cond b (Some v) None)) (unseen other) ∙ later_none (newest key instant vs))
    ∙ sym (value_shown key instant clears vs)
  where
    unseen : (v.key ≢ key) ⊎ (instant ≤ v.number) → is_seen key instant v ≡ false
    unseen (inl h) = and_left (bytes_eq v.key key) (ltb v.number instant) (false_from_ne_true (bytes_eq v.key key) (λ e. h (same_key v.key key e)))
    unseen (inr h) = and_right (bytes_eq v.key key) (ltb v.number instant) (le-ltb v.number instant h)

-- one whose number no other exceeds is the newest of its key
pub write_shows : (instant : ℕ) (clears : List ℕ) (vs : List Entry) (v : Entry) → v.number < instant → All (λ w. w.number ≤ v.number) vs
    → All (λ n. n ≤ v.number) clears
    → value_at v.key instant clears (vs ++ (v ∷ [])) ≡ v.value
write_shows instant clears vs v low others before =
    value_shown v.key instant clears (vs ++ (v ∷ []))
    ∙ ap (value_left instant clears) (newest_last v.key instant vs v
    ∙ ap (λ b. later (newest v.key instant vs) (cond b (Some v) None)) seen ∙ second_wins (newest v.key instant vs) (Some v) small)
    ∙ cond-false (is_cleared instant clears v.number) None v.value (none_cleared instant v.number clears v.number before (omega arith))
  where
    seen : is_seen v.key instant v ≡ true
    seen = and_from (bytes_eq v.key v.key) (ltb v.number instant) (key_itself v.key) (lt-ltb v.number instant low)

    small : top (newest v.key instant vs) ≤ v.number + 1
    small =
        top_below (is_seen v.key instant) (v.number + 1) vs
        (All-weaker (λ w. w.number ≤ v.number) (λ w. w.number < v.number + 1) (λ w k. omega arith) vs others)

-- so a view's map is altered at its key
pub write_alters : (instant : ℕ) (clears : List ℕ) (vs : List Entry) (v : Entry) (pairs : Pairs) → v.number < instant
    → All (λ w. w.number ≤ v.number) vs → All (λ n. n ≤ v.number) clears
    → IsView instant clears vs pairs → IsView instant clears (vs ++ (v ∷ [])) (altered pairs v.key v.value)
write_alters instant clears vs v pairs low others before view key = get_altered pairs v.key v.value key ∙ by (bytes_eq key v.key) refl
  where
    by : (b : Bool) → bytes_eq key v.key ≡ b → cond b v.value (get pairs key) ≡ value_at key instant clears (vs ++ (v ∷ []))
    by true e = sym (ap (λ k. value_at k instant clears (vs ++ (v ∷ []))) (same_key key v.key e) ∙ write_shows instant clears vs v low others before)
    by false e = view key ∙ sym (write_keeps key instant clears vs v (inl (λ h. true≢false (sym (keys_tie key v.key (sym h)) ∙ e))))

-- those of its key and number give way to it
pub write_replaces : (key : Bytes) (instant : ℕ) (clears : List ℕ) (vs : List Entry) (v : Entry)
    → value_at key instant clears (filter (λ w. not (is_at v w)) vs ++ (v ∷ [])) ≡ value_at key instant clears (vs ++ (v ∷ []))
write_replaces key instant clears vs v =
    value_shown key instant clears (filter apart vs ++ (v ∷ []))
    ∙ ap (value_left instant clears) (newest_last key instant (filter apart vs) v
    ∙ by (newest key instant vs) refl (is_seen key instant v) refl ∙ sym (newest_last key instant vs v))
    ∙ sym (value_shown key instant clears (vs ++ (v ∷ [])))
  where
    apart : Entry → Bool
    apart w = not (is_at v w)

    some : (w : Entry) → newest key instant vs ≡ Some w → (b : Bool) → is_at v w ≡ b → (s : Bool) → is_seen key instant v ≡ s
        → later (newest key instant (filter (λ u. not (is_at v u)) vs)) (cond s (Some v) None) ≡ later (newest key instant vs) (cond s (Some v) None)
    some w e false h s seen = ap (λ o. later o (cond s (Some v) None)) (still_newest (is_seen key instant) (λ u. not (is_at v u)) vs w e (ap not h) ∙ sym e)
    some w e true h true seen =
        let p = at-true v w h in
        let n = p.1 in
        let t = ap top e in
        let l = fewer (is_seen key instant) (λ u. not (is_at v u)) vs in
        second_wins (newest key instant (filter (λ u. not (is_at v u)) vs)) (Some v) (omega arith)
        ∙ sym (second_wins (newest key instant vs) (Some v) (omega arith))
    some w e true h false seen =
        let p = at-true v w h in
        absurd (true≢false (sym (newest_passes (is_seen key instant) vs w e) ∙ (λ i. bytes_eq (p.0 i) key && ltb (p.1 i) instant) ∙ seen))

    by : (o : Option Entry) → newest key instant vs ≡ o → (s : Bool) → is_seen key instant v ≡ s
        → later (newest key instant (filter (λ u. not (is_at v u)) vs)) (cond (is_seen key instant v) (Some v) None)
        ≡ later (newest key instant vs) (cond (is_seen key instant v) (Some v) None)
    by None e s seen = ap (λ o. later o (cond (is_seen key instant v) (Some v) None)) (still_none (is_seen key instant) (λ u. not (is_at v u)) vs e ∙ sym e)
    by (Some w) e s seen = some w e (is_at v w) refl (is_seen key instant v) refl

-- ---- a clear

-- each view above a clear shows what is numbered from it on
pub clear_leaves : (key : Bytes) (instant : ℕ) (clears : List ℕ) (n : ℕ) (vs : List Entry) → n < instant
    → value_at key instant (clears ++ (n ∷ [])) vs ≡ value_at key instant clears (filter (λ v. leb n v.number) vs)
clear_leaves key instant clears n vs low =
    ap (λ us. value_in (newest_of (is_seen key instant) us))
    (filters_same _ (λ v. leb n v.number && alive instant clears v) vs each ∙ sym (filter-filter (alive instant clears) (λ v. leb n v.number) vs))
  where
    tells : (c l r : Bool) → not l ≡ r → not (c || ((l && true) || false)) ≡ (r && not c)
    tells true true r h = ap (λ b. b && false) h
    tells true false r h = ap (λ b. b && false) h
    tells false true r h = ap (λ b. b && true) h
    tells false false r h = ap (λ b. b && true) h

    each : (v : Entry) → alive instant (clears ++ (n ∷ [])) v ≡ (leb n v.number && alive instant clears v)
    each v =
        ap not (last_clear instant clears n v.number)
        ∙ ap (λ b. not (is_cleared instant clears v.number || ((ltb v.number n && b) || false))) (lt-ltb n instant low)
        ∙ tells (is_cleared instant clears v.number) (ltb v.number n) (leb n v.number) (grind (arith, nat_tests))

none_from : (n : ℕ) (vs : List Entry) → AreBelow n vs → filter (λ v. leb n v.number) vs ≡ []
none_from n [] below = refl
none_from n (v ∷ vs) below =
    ap (λ b. cond b (v ∷ filter (λ u. leb n u.number) vs) (filter (λ u. leb n u.number) vs))
    (lt-leb n v.number (All-head (λ w. w.number < n) v vs below)) ∙ none_from n vs (All-tail (λ w. w.number < n) v vs below)

-- so it empties what is numbered below it
pub clear_empties : (key : Bytes) (instant : ℕ) (clears : List ℕ) (n : ℕ) (vs : List Entry) → n < instant → AreBelow n vs
    → value_at key instant (clears ++ (n ∷ [])) vs ≡ None
clear_empties key instant clears n vs low below = clear_leaves key instant clears n vs low ∙ ap (value_at key instant clears) (none_from n vs below)

-- and the views up to it stay
pub clear_keeps : (key : Bytes) (instant : ℕ) (clears : List ℕ) (n : ℕ) (vs : List Entry) → instant ≤ n
    → value_at key instant (clears ++ (n ∷ [])) vs ≡ value_at key instant clears vs
clear_keeps key instant clears n vs high =
    ap (λ us. value_in (newest_of (is_seen key instant) us))
    (filters_same (alive instant (clears ++ (n ∷ []))) (alive instant clears) vs each)
  where
    nothing_more : (a b : Bool) → b ≡ false → (a || (b || false)) ≡ a
    nothing_more true b h = refl
    nothing_more false true h = h
    nothing_more false false h = refl

    each : (v : Entry) → alive instant (clears ++ (n ∷ [])) v ≡ alive instant clears v
    each v =
        ap not (last_clear instant clears n v.number
        ∙ nothing_more (is_cleared instant clears v.number) (ltb v.number n && ltb n instant)
        (and_right (ltb v.number n) (ltb n instant) (le-ltb n instant high)))
