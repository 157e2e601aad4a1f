-- What a merge keeps at the bottom of all versions shows each view above its watermark.
use Rattle.std.proofs.Common.{◌≡◌, ℕ, ◌<◌, ◌≤◌, Bool, true, false, not, ◌&&◌, ◌||◌, ltb, leb, List, [], ◌∷◌, ◌++◌, Option, Some, None, is_some, refl, sym, ap, ◌∙◌, inl, inr, ◌⊎◌, arith}
use Rattle.std.specs.List.{filter, list_any, All}
use Rattle.std.specs.Str.{bytes_eq}
use Rattle.std.proofs.lemmas.Bool.{cases_lt, cond-true, cond-false, and_parts, and_from, or_parts, true≢false, lt-ltb, le-ltb, leb-true, le-leb, not-true, not_from_false}
use Rattle.fjall_base.specs.Pairs.{Bytes}
use Rattle.std.proofs.lemmas.List.Elements.{All-filter, All-weaker, filter_passes}
use Rattle.fjall_table.specs.Blocks.{Entry}
use Rattle.fjall_memtable.specs.Views.{later, newest_of, is_seen, is_cleared, living, newest, value_in, value_at}
use Rattle.fjall_memtable.specs.Jobs.{is_hidden, is_later, is_old_removal, is_spent, merged, merged_clears, IsAbove, OnceEach, Same, AreBelow, AreFrom}
use Rattle.fjall_memtable.proofs.Tests.{any_weaker, any_fewer, filters_agree, filters_swap}
use Rattle.fjall_memtable.proofs.NewestSeen.{top, second_wins, later_none, still_none, still_newest, fewer, newest_kept, newest_passes, top_below, top_from}
use Rattle.fjall_memtable.proofs.Sameness.{same_key, keys_tie, seen_at, is, is-true, is_among, one_alone, fewer_once}
use Rattle.fjall_memtable.proofs.Clears.{alive, is_emptied, Counts, clears_count, none_cleared, beside}
use Rattle.fjall_memtable.proofs.Hiding.{hides, stays, newest_stays, newest_parts, same_living}

-- ---- the clears that it drops

-- hide nothing that it keeps
same_clears : (watermark instant : ℕ) (clears : List ℕ) (n : ℕ) → is_emptied watermark clears n ≡ false
    → is_cleared instant (merged_clears watermark clears) n ≡ is_cleared instant clears n
same_clears watermark instant [] n h = refl
same_clears watermark instant (c ∷ cs) n h = by (cases_lt watermark c) (or_parts (ltb n c && leb c watermark) (is_emptied watermark cs n) h).0
    (same_clears watermark instant cs n (or_parts (ltb n c && leb c watermark) (is_emptied watermark cs n) h).1)
  where
    dropped : (a b d : Bool) → b ≡ true → (a && b) ≡ false → (a && d) ≡ false
    dropped true b d e f = absurd (true≢false (sym e ∙ f))
    dropped false b d e f = refl

    by : (watermark < c) ⊎ (c ≤ watermark) → (ltb n c && leb c watermark) ≡ false → is_cleared instant (merged_clears watermark cs) n ≡ is_cleared instant cs n
        → is_cleared instant (merged_clears watermark (c ∷ cs)) n ≡ is_cleared instant (c ∷ cs) n
    by (inl k) e i =
        ap (λ ns. is_cleared instant ns n) (cond-true (ltb watermark c) (c ∷ merged_clears watermark cs) (merged_clears watermark cs) (lt-ltb watermark c k))
        ∙ ap (λ b. (ltb n c && ltb c instant) || b) i
    by (inr k) e i =
        ap (λ ns. is_cleared instant ns n) (cond-false (ltb watermark c) (c ∷ merged_clears watermark cs) (merged_clears watermark cs) (le-ltb watermark c k))
        ∙ i ∙ sym (ap (λ b. b || is_cleared instant cs n) (dropped (ltb n c) (leb c watermark) (ltb c instant) (le-leb c watermark k) e))

kept_alike : (watermark instant : ℕ) (clears rest : List ℕ) (versions : List Entry)
    → All (λ v. alive instant (merged_clears watermark clears ++ rest) v ≡ alive instant (clears ++ rest) v) (merged watermark clears versions)
kept_alike watermark instant clears rest versions =
    All-weaker (λ v. stays watermark clears versions v ≡ true)
    (λ v. alive instant (merged_clears watermark clears ++ rest) v ≡ alive instant (clears ++ rest) v)
    each (merged watermark clears versions) (filter_passes (stays watermark clears versions) versions)
  where
    each : (v : Entry) → stays watermark clears versions v ≡ true → alive instant (merged_clears watermark clears ++ rest) v ≡ alive instant (clears ++ rest) v
    each v e =
        let keeps = and_parts (not (is_hidden watermark clears versions v)) (not (is_spent watermark versions v)) e in
        let shown = not-true (is_hidden watermark clears versions v) keeps.0 in
        let here = (or_parts (is_emptied watermark clears v.number) (list_any (hides watermark v) versions) shown).0 in
        beside instant (merged_clears watermark clears) clears rest v (same_clears watermark instant clears v.number here)

-- nor what is numbered from the bound on
above_alike : (watermark instant bound : ℕ) (clears rest : List ℕ) (versions : List Entry) → All (λ n. n ≤ bound) clears → AreFrom bound versions
    → All (λ v. alive instant (merged_clears watermark clears ++ rest) v ≡ alive instant (clears ++ rest) v) versions
above_alike watermark instant bound clears rest versions low from =
    All-weaker (λ v. bound ≤ v.number) (λ v. alive instant (merged_clears watermark clears ++ rest) v ≡ alive instant (clears ++ rest) v)
    (λ v h. beside instant (merged_clears watermark clears) clears rest v
    (none_cleared instant bound (merged_clears watermark clears) v.number (All-filter (λ n. ltb watermark n) (λ n. n ≤ bound) clears low) h
    ∙ sym (none_cleared instant bound clears v.number low h))) versions from

-- ---- the versions that it drops

-- What is left of a view of the input: its newest version, or nothing where that was a removal.
abbrev IsLeft : Option Entry → Option Entry → Type 0
IsLeft old new = (new ≡ old) ⊎ ((new ≡ None) × (value_in old ≡ None))

-- where the newest version is spent it hid all others
nothing_left : (key : Bytes) (watermark instant : ℕ) (clears all : List ℕ) (versions : List Entry) (v m : Entry) → OnceEach versions
    → is_spent watermark versions v ≡ true
    → newest key instant (living instant all versions) ≡ Some v
    → newest key instant (filter (stays watermark clears versions) (living instant all versions)) ≡ Some m → ⊥
nothing_left key watermark instant clears all versions v m once spent e f = by (cases_lt m.number v.number)
  where
    keeps : (not (is_hidden watermark clears versions m) ≡ true) × (not (is_spent watermark versions m) ≡ true)
    keeps =
        and_parts (not (is_hidden watermark clears versions m)) (not (is_spent watermark versions m))
        (newest_kept (is_seen key instant) (stays watermark clears versions) (living instant all versions) m f)

    v_there : list_any (is v) versions ≡ true
    v_there = any_fewer (is v) (alive instant all) versions (is_among (is_seen key instant) (living instant all versions) v e)

    m_there : list_any (is m) versions ≡ true
    m_there =
        any_fewer (is m) (alive instant all) versions (any_fewer (is m) (stays watermark clears versions) (living instant all versions)
        (is_among (is_seen key instant) (filter (stays watermark clears versions) (living instant all versions)) m f))

    v_seen : is_seen key instant v ≡ true
    v_seen = newest_passes (is_seen key instant) (living instant all versions) v e

    m_seen : is_seen key instant m ≡ true
    m_seen = newest_passes (is_seen key instant) (filter (stays watermark clears versions) (living instant all versions)) m f

    reached : v.number ≤ watermark
    reached =
        leb-true v.number watermark (and_parts (not (is_some v.value)) (leb v.number watermark)
        (and_parts (is_old_removal watermark v) (not (list_any (is_later v) versions)) spent).0).1

    same : bytes_eq v.key m.key ≡ true
    same =
        let a = and_parts (bytes_eq v.key key) (ltb v.number instant) v_seen in
        let b = and_parts (bytes_eq m.key key) (ltb m.number instant) m_seen in
        keys_tie v.key m.key (same_key v.key key a.0 ∙ sym (same_key m.key key b.0))

    by : (m.number < v.number) ⊎ (v.number ≤ m.number) → ⊥
    by (inl less) =
        let hidden = any_weaker (is v) (hides watermark m) versions
        (λ w g. ap (hides watermark m) (is-true v w g) ∙ and_from (is_later m v) (leb v.number watermark)
        (and_from (bytes_eq v.key m.key) (ltb m.number v.number) same (lt-ltb m.number v.number less)) (le-leb v.number watermark reached)) v_there in
        let not_hidden = not-true (is_hidden watermark clears versions m) keeps.0 in
        true≢false (sym hidden ∙ (or_parts (is_emptied watermark clears m.number) (list_any (hides watermark m) versions) not_hidden).1)
    by (inr more) =
        let l = fewer (is_seen key instant) (stays watermark clears versions) (living instant all versions) in
        let t = ap top e in
        let u = ap top f in
        let is_v = one_alone versions v m once v_there m_there (seen_at key instant v m v_seen m_seen (omega arith)) in
        true≢false (sym spent ∙ ap (is_spent watermark versions) is_v ∙ not-true (is_spent watermark versions m) keeps.1)

merge_newest : (key : Bytes) (watermark instant : ℕ) (clears all : List ℕ) (versions : List Entry) → IsAbove watermark instant
    → Counts watermark instant clears all → OnceEach versions
    → IsLeft (newest key instant (living instant all versions)) (newest key instant (filter (stays watermark clears versions) (living instant all versions)))
merge_newest key watermark instant clears all versions above counts once = by (newest key instant (living instant all versions)) refl
  where
    removed : (o : Option Bytes) → not (is_some o) ≡ true → o ≡ None
    removed None h = refl
    removed (Some b) h = cc

    none : (v : Entry) → is_spent watermark versions v ≡ true → newest key instant (living instant all versions) ≡ Some v → (o : Option Entry)
        → newest key instant (filter (stays watermark clears versions) (living instant all versions)) ≡ o → o ≡ None
    none v s e None f = refl
    none v s e (Some m) f = absurd (nothing_left key watermark instant clears all versions v m once s e f)

    either : (v : Entry) → newest key instant (living instant all versions) ≡ Some v → (b : Bool) → is_spent watermark versions v ≡ b
        → IsLeft (Some v) (newest key instant (filter (stays watermark clears versions) (living instant all versions)))
    either v e false s =
        let shown = newest_stays key watermark instant clears all versions v above counts e in
        inl (still_newest (is_seen key instant) (stays watermark clears versions) (living instant all versions) v e
        (and_from (not (is_hidden watermark clears versions v)) (not (is_spent watermark versions v))
        (not_from_false (is_hidden watermark clears versions v) shown) (not_from_false (is_spent watermark versions v) s)))
    either v e true s =
        let old = (and_parts (is_old_removal watermark v) (not (list_any (is_later v) versions)) s).0 in
        inr (
          none v s e (newest key instant (filter (stays watermark clears versions) (living instant all versions))) refl,
          removed v.value (and_parts (not (is_some v.value)) (leb v.number watermark) old).0,
        )

    by : (o : Option Entry) → newest key instant (living instant all versions) ≡ o
        → IsLeft o (newest key instant (filter (stays watermark clears versions) (living instant all versions)))
    by None e = inl (still_none (is_seen key instant) (stays watermark clears versions) (living instant all versions) e)
    by (Some v) e = either v e (is_spent watermark versions v) refl

-- under newer versions what is left shows the same
left_shows : (bound : ℕ) (old new more : Option Entry) → IsLeft old new → top old ≤ bound → (more ≡ None) ⊎ (bound < top more)
    → value_in (later new more) ≡ value_in (later old more)
left_shows bound old new more (inl e) h k = ap (λ o. value_in (later o more)) e
left_shows bound old new more (inr e) h (inl k) =
    ap (λ o. value_in (later new o)) k ∙ ap (λ o. value_in (later o None)) e.0 ∙ sym (ap (λ o. value_in (later old o)) k ∙ ap value_in (later_none old) ∙ e.1)
left_shows bound old new more (inr e) h (inr k) = ap (λ o. value_in (later o more)) e.0 ∙ sym (ap value_in (second_wins old more (omega arith)))

-- A merge takes the oldest versions that there are.
pub a_merge_keeps_views : (key : Bytes) (instant watermark bound : ℕ) → IsAbove watermark instant → (clears rest : List ℕ) (versions made above : List Entry)
    → OnceEach versions → Same made (merged watermark clears versions) → AreBelow bound versions → All (λ n. n ≤ bound) clears → AreFrom bound above
    → value_at key instant (merged_clears watermark clears ++ rest) (made ++ above) ≡ value_at key instant (clears ++ rest) (versions ++ above)
a_merge_keeps_views key instant watermark bound high clears rest versions made above once same below low from =
    ap value_in (newest_parts key instant fewer_clears made above ∙ (λ i. later (kept i) (others i)))
    ∙ left_shows bound (newest key instant (living instant all versions)) left (newest key instant (living instant all above))
    (merge_newest key watermark instant clears all versions high (clears_count watermark instant high [] clears rest) once)
    (let f = fewer (is_seen key instant) (alive instant all) versions in let t = top_below (is_seen key instant) bound versions below in omega arith)
    (top_from (is_seen key instant) bound (living instant all above) (All-filter (alive instant all) (λ v. bound ≤ v.number) above from))
    ∙ sym (ap value_in (newest_parts key instant all versions above))
  where
    all : List ℕ
    all = clears ++ rest

    fewer_clears : List ℕ
    fewer_clears = merged_clears watermark clears ++ rest

    left : Option Entry
    left = newest key instant (filter (stays watermark clears versions) (living instant (clears ++ rest) versions))

    kept : newest key instant (living instant (merged_clears watermark clears ++ rest) made)
        ≡ newest key instant (filter (stays watermark clears versions) (living instant (clears ++ rest) versions))
    kept =
        same_living key instant fewer_clears made (merged watermark clears versions) (fewer_once (stays watermark clears versions) versions once) same
        ∙ ap (newest_of (is_seen key instant))
        (filters_agree (alive instant fewer_clears) (alive instant all) (merged watermark clears versions) (kept_alike watermark instant clears rest versions)
        ∙ filters_swap (alive instant all) (stays watermark clears versions) versions)

    others : newest key instant (living instant (merged_clears watermark clears ++ rest) above) ≡ newest key instant (living instant (clears ++ rest) above)
    others =
        ap (newest_of (is_seen key instant))
        (filters_agree (alive instant fewer_clears) (alive instant all) above (above_alike watermark instant bound clears rest above low from))
