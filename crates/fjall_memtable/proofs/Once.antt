-- Of a key and number there goes on being one version.
use Rattle.std.proofs.Common.{◌≡◌, ℕ, ◌<◌, ◌≤◌, ◌==◌, true, false, not, ◌&&◌, ◌||◌, List, [], ◌∷◌, ◌++◌, refl, sym, ap, ◌∙◌, arith}
use Rattle.std.specs.List.{filter, list_any, All}
use Rattle.std.specs.Str.{bytes_eq}
use Rattle.std.proofs.lemmas.Bool.{and_right, false_from_ne_true, ne_eqb, not-true, true≢false}
use Rattle.std.proofs.lemmas.List.Elements.{All-head, All-tail, All-weaker, filter_passes}
use Rattle.std.proofs.lemmas.List.Folds.{list_any-append, list_any_none}
use Rattle.fjall_table.specs.Blocks.{Entry}
use Rattle.fjall_memtable.specs.Jobs.{is_at, is_hidden, is_spent, flushed, merged, OnceEach, AreBelow, AreFrom}
use Rattle.fjall_memtable.proofs.Sameness.{at_turned, fewer_once}

once-append : (vs ws : List Entry) → OnceEach vs → OnceEach ws → All (λ v. list_any (is_at v) ws ≡ false) vs → OnceEach (vs ++ ws)
once-append [] ws once more apart = more
once-append (v ∷ vs) ws once more apart = (
  list_any-append (is_at v) vs ws ∙ (λ i. once.0 i || All-head (λ u. list_any (is_at u) ws ≡ false) v vs apart i),
  once-append vs ws once.1 more (All-tail (λ u. list_any (is_at u) ws ≡ false) v vs apart),
)

-- a version that takes the place of those of its key and number
pub write_once : (vs : List Entry) (v : Entry) → OnceEach vs → OnceEach (filter (λ w. not (is_at v w)) vs ++ (v ∷ []))
write_once vs v once =
    once-append (filter (λ w. not (is_at v w)) vs) (v ∷ []) (fewer_once (λ w. not (is_at v w)) vs once) (refl, tt)
    (All-weaker (λ w. not (is_at v w) ≡ true) (λ w. list_any (is_at w) (v ∷ []) ≡ false) apart
    (filter (λ w. not (is_at v w)) vs) (filter_passes (λ w. not (is_at v w)) vs))
  where
    apart : (w : Entry) → not (is_at v w) ≡ true → (is_at w v || false) ≡ false
    apart w e = ap (λ b. b || false) (false_from_ne_true (is_at w v) (λ h. true≢false (sym (at_turned w v h) ∙ not-true (is_at v w) e)))

-- parts whose numbers a bound tells apart
pub parts_once : (bound : ℕ) (front behind : List Entry) → AreBelow bound front → AreFrom bound behind → OnceEach front → OnceEach behind
    → OnceEach (front ++ behind)
parts_once bound front behind below from once more =
    once-append front behind once more (All-weaker (λ v. v.number < bound) (λ v. list_any (is_at v) behind ≡ false) none front below)
  where
    none : (v : Entry) → v.number < bound → list_any (is_at v) behind ≡ false
    none v low =
        list_any_none (is_at v) behind (All-weaker (λ w. bound ≤ w.number) (λ w. is_at v w ≡ false)
        (λ w high. and_right (bytes_eq w.key v.key) (w.number == v.number) (ne_eqb w.number v.number (λ e. omega arith))) behind from)

pub flush_once : (watermark : ℕ) (clears : List ℕ) (versions : List Entry) → OnceEach versions → OnceEach (flushed watermark clears versions)
flush_once watermark clears versions = fewer_once (λ v. not (is_hidden watermark clears versions v)) versions

pub merge_once : (watermark : ℕ) (clears : List ℕ) (versions : List Entry) → OnceEach versions → OnceEach (merged watermark clears versions)
merge_once watermark clears versions = fewer_once (λ v. not (is_hidden watermark clears versions v) && not (is_spent watermark versions v)) versions
