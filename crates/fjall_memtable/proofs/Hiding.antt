-- What a job's input hides at a watermark is never the newest in a view above it.
use Rattle.std.proofs.Common.{◌≡◌, ℕ, ◌+◌, ◌<◌, ◌≤◌, Bool, true, false, not, ◌&&◌, ltb, leb, List, ◌++◌, Some, sym, ap, ◌∙◌, inl, inr, ◌⊎◌, arith}
use Rattle.std.specs.List.{list_any}
use Rattle.std.specs.Str.{bytes_eq}
use Rattle.std.proofs.lemmas.Bool.{or_cases, and_parts, and_from, true≢false, ltb-true, lt-ltb, leb-true, false_from_ne_true, not-true, not_from_false}
use Rattle.std.proofs.lemmas.List.Elements.{filter-append}
use Rattle.fjall_base.specs.Pairs.{Bytes}
use Rattle.fjall_table.specs.Blocks.{Entry}
use Rattle.fjall_memtable.specs.Views.{later, newest_of, is_seen, is_cleared, living, newest, value_in, value_at}
use Rattle.fjall_memtable.specs.Jobs.{is_hidden, is_later, is_spent, flushed, IsAbove, OnceEach, Same}
use Rattle.fjall_memtable.proofs.Clears.{alive, cleared_less, seen_above, is_emptied, Counts, clears_count}
use Rattle.fjall_memtable.proofs.Tests.{any_weaker, any-filter, filters_swap, filters_same, same_filters}
use Rattle.fjall_memtable.proofs.NewestSeen.{top, newest-append, newest_kept, newest_passes, kept_newest, reaches}
use Rattle.fjall_memtable.proofs.Sameness.{same_key, keys_tie, fewer_once, same_newest}

-- whether the second, a later version that the watermark reaches, hides the first
abbrev pub hides : ℕ → Entry → Entry → Bool
hides watermark v w = is_later v w && leb w.number watermark

-- what a flush keeps
abbrev pub unhidden : ℕ → List ℕ → List Entry → Entry → Bool
unhidden watermark clears versions v = not (is_hidden watermark clears versions v)

-- and a merge
abbrev pub stays : ℕ → List ℕ → List Entry → Entry → Bool
stays watermark clears versions v = not (is_hidden watermark clears versions v) && not (is_spent watermark versions v)

-- ---- the newest one of a view is not hidden

-- What hides it is a clear, and then it isn't living, or a later version, and then it isn't the newest.
pub newest_stays : (key : Bytes) (watermark instant : ℕ) (clears all : List ℕ) (versions : List Entry) (v : Entry)
    → IsAbove watermark instant → Counts watermark instant clears all → newest key instant (living instant all versions) ≡ Some v
    → is_hidden watermark clears versions v ≡ false
newest_stays key watermark instant clears all versions v above counts e =
    false_from_ne_true (is_hidden watermark clears versions v)
    (λ h. either (or_cases (is_emptied watermark clears v.number) (list_any (hides watermark v) versions) h))
  where
    lives : is_cleared instant all v.number ≡ false
    lives = not-true (is_cleared instant all v.number) (newest_kept (is_seen key instant) (alive instant all) versions v e)

    seen : (bytes_eq v.key key ≡ true) × (ltb v.number instant ≡ true)
    seen = and_parts (bytes_eq v.key key) (ltb v.number instant) (newest_passes (is_seen key instant) (living instant all versions) v e)

    parts : (w : Entry) → hides watermark v w ≡ true → (w.key ≡ v.key) × (v.number < w.number) × (w.number ≤ watermark)
    parts w t =
        let p = and_parts (is_later v w) (leb w.number watermark) t in
        let q = and_parts (bytes_eq w.key v.key) (ltb v.number w.number) p.0 in
        (same_key w.key v.key q.0, ltb-true v.number w.number q.1, leb-true w.number watermark p.1)

    living_too : (w : Entry) → hides watermark v w ≡ true
        → (not (is_cleared instant all w.number) && hides watermark v w) ≡ true
    living_too w t =
        let l : v.number < w.number = (parts w t).1 in
        let none = false_from_ne_true (is_cleared instant all w.number)
        (λ g. true≢false (sym (cleared_less instant all v.number w.number (omega arith) g) ∙ lives)) in
        and_from (not (is_cleared instant all w.number)) (hides watermark v w) (not_from_false (is_cleared instant all w.number) none) t

    seen_too : (w : Entry) → hides watermark v w ≡ true → (is_seen key instant w ≡ true) × (v.number + 1 ≤ w.number)
    seen_too w t =
        let p = parts w t in
        let l : v.number < w.number = p.1 in
        let early = lt-ltb w.number instant (seen_above watermark instant v.number w.number above l p.2) in
        (and_from (bytes_eq w.key key) (ltb w.number instant) (keys_tie w.key key (p.0 ∙ same_key v.key key seen.0)) early, omega arith)

    either : (is_emptied watermark clears v.number ≡ true) ⊎ (list_any (hides watermark v) versions ≡ true) → ⊥
    either (inl h) = true≢false (sym (counts v.number h) ∙ lives)
    either (inr h) =
        let there = any-filter (hides watermark v) (alive instant all) versions
        ∙ any_weaker (hides watermark v) (λ w. alive instant all w && hides watermark v w) versions living_too h in
        let newer = reaches (is_seen key instant) (hides watermark v) (v.number + 1) (living instant all versions) seen_too there in
        let t = ap top e in
        absurd (omega arith)

-- ---- a flush

-- what a flush keeps has the newest one of each view above the watermark
flush_newest : (key : Bytes) (watermark instant : ℕ) (clears all : List ℕ) (versions : List Entry) → IsAbove watermark instant
    → Counts watermark instant clears all
    → newest key instant (living instant all (flushed watermark clears versions)) ≡ newest key instant (living instant all versions)
flush_newest key watermark instant clears all versions above counts =
    ap (newest_of (is_seen key instant)) (filters_swap (alive instant all) (unhidden watermark clears versions) versions)
    ∙ kept_newest (is_seen key instant) (unhidden watermark clears versions) (living instant all versions)
    (λ v e. not_from_false (is_hidden watermark clears versions v) (newest_stays key watermark instant clears all versions v above counts e))

-- the newest of parts
pub newest_parts : (key : Bytes) (instant : ℕ) (clears : List ℕ) (vs ws : List Entry)
    → newest key instant (living instant clears (vs ++ ws))
    ≡ later (newest key instant (living instant clears vs)) (newest key instant (living instant clears ws))
newest_parts key instant clears vs ws =
    ap (newest_of (is_seen key instant)) (filter-append (alive instant clears) vs ws)
    ∙ newest-append (is_seen key instant) (living instant clears vs) (living instant clears ws)

-- the same versions in another order have the same newest ones
pub same_living : (key : Bytes) (instant : ℕ) (clears : List ℕ) (vs ws : List Entry) → OnceEach ws → Same vs ws
    → newest key instant (living instant clears vs) ≡ newest key instant (living instant clears ws)
same_living key instant clears vs ws once same =
    same_newest key instant (living instant clears vs) (living instant clears ws) (fewer_once (alive instant clears) ws once)
    (same_filters (alive instant clears) vs ws same)

-- in the middle of others
newest_between : (key : Bytes) (instant : ℕ) (clears : List ℕ) (below vs ws above : List Entry)
    → newest key instant (living instant clears vs) ≡ newest key instant (living instant clears ws)
    → newest key instant (living instant clears (below ++ (vs ++ above))) ≡ newest key instant (living instant clears (below ++ (ws ++ above)))
newest_between key instant clears below vs ws above same =
    newest_parts key instant clears below (vs ++ above)
    ∙ ap (later (newest key instant (living instant clears below))) (newest_parts key instant clears vs above
    ∙ ap (λ o. later o (newest key instant (living instant clears above))) same ∙ sym (newest_parts key instant clears ws above))
    ∙ sym (newest_parts key instant clears below (ws ++ above))

-- A flush may write what it keeps in any order.
pub a_flush_keeps_views : (key : Bytes) (instant watermark : ℕ) → IsAbove watermark instant
    → (before clears after : List ℕ) (below versions made above : List Entry) → OnceEach versions → Same made (flushed watermark clears versions)
    → value_at key instant (before ++ (clears ++ after)) (below ++ (made ++ above))
    ≡ value_at key instant (before ++ (clears ++ after)) (below ++ (versions ++ above))
a_flush_keeps_views key instant watermark high before clears after below versions made above once same =
    ap value_in (newest_between key instant all below made versions above
    (same_living key instant all made (flushed watermark clears versions) (fewer_once (unhidden watermark clears versions) versions once) same
    ∙ flush_newest key watermark instant clears all versions high (clears_count watermark instant high before clears after)))
  where
    all : List ℕ
    all = before ++ (clears ++ after)

-- ---- order

pub versions_order : (key : Bytes) (instant : ℕ) (clears : List ℕ) (versions others : List Entry) → OnceEach versions → Same versions others
    → value_at key instant clears versions ≡ value_at key instant clears others
versions_order key instant clears versions others once same = ap value_in (sym (same_living key instant clears others versions once (λ test. sym (same test))))

pub clears_order : (key : Bytes) (instant : ℕ) (clears others : List ℕ) (versions : List Entry) → Same clears others
    → value_at key instant clears versions ≡ value_at key instant others versions
clears_order key instant clears others versions same =
    ap (λ vs. value_in (newest key instant vs))
    (filters_same (alive instant clears) (alive instant others) versions (λ v. ap not (same (λ n. ltb v.number n && ltb n instant))))
