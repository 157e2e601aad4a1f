-- What a flush made, put in the place of what it covers: over lists of versions and clears alone.
use Rattle.std.proofs.Common.{◌≡◌, ◌⊎◌, inl, inr, ℕ, ◌+◌, ◌<◌, ◌≤◌, min, Bool, true, false, not, ◌&&◌, ◌||◌, cond, ltb, leb, List, [], ◌∷◌, ◌++◌, refl, sym, ap, subst, ◌∙◌, arith, append_assoc}
use Rattle.std.specs.List.{filter, All}
use Rattle.std.proofs.lemmas.Bool.{cases_lt, le-ltb, le-leb, lt-leb}
use Rattle.std.proofs.lemmas.List.Elements.{All-append, All-filter, All-head, All-tail, All-weaker}
use Rattle.fjall_base.specs.Pairs.{Bytes}
use Rattle.fjall_table.specs.Blocks.{Entry}
use Rattle.fjall_memtable.specs.Jobs.{OnceEach, Same, flushed, is_hidden, is_later}
use Rattle.fjall_memtable.specs.Views.{value_at}
use Rattle.fjall_memtable.proofs.Hiding.{a_flush_keeps_views}
use Rattle.fjall_memtable.proofs.Sameness.{all_among, among_has, is}
use Rattle.fjall_memtable.proofs.Tests.{filters_same}
use Rattle.fjall_compaction.proofs.Layers.{all_seen, any_agree, high_clears_are_high, high_clears_of, high_is_high, high_of, low_clears_are_low, low_clears_of, low_is_low, low_of, parted, same_over, unseen}

-- ---- behind what is numbered at most a number

passing : {X : Type 0} (p : X → Bool) (xs more : List X) → All (λ x. p x ≡ true) xs → filter p (xs ++ more) ≡ xs ++ filter p more
passing p [] more each = refl
passing p (x ∷ xs) more each =
    ap (λ b. cond b (x ∷ filter p (xs ++ more)) (filter p (xs ++ more))) (All-head (λ y. p y ≡ true) x xs each)
    ∙ ap (λ ys. x ∷ ys) (passing p xs more (All-tail (λ y. p y ≡ true) x xs each))

failing : {X : Type 0} (p : X → Bool) (xs more : List X) → All (λ x. p x ≡ false) xs → filter p (xs ++ more) ≡ filter p more
failing p [] more each = refl
failing p (x ∷ xs) more each =
    ap (λ b. cond b (x ∷ filter p (xs ++ more)) (filter p (xs ++ more))) (All-head (λ y. p y ≡ false) x xs each)
    ∙ failing p xs more (All-tail (λ y. p y ≡ false) x xs each)

module _ (q : ℕ) (versions more : List Entry) (low : All (λ v. v.number ≤ q) versions) where
  low_behind : low_of q (versions ++ more) ≡ versions ++ low_of q more
  low_behind = passing (λ v. leb v.number q) versions more (All-weaker (λ v. v.number ≤ q) (λ v. leb v.number q ≡ true) (λ v at_most. le-leb v.number q at_most) versions low)

  high_behind : high_of q (versions ++ more) ≡ high_of q more
  high_behind = failing (λ v. ltb q v.number) versions more (All-weaker (λ v. v.number ≤ q) (λ v. ltb q v.number ≡ false) (λ v at_most. le-ltb q v.number at_most) versions low)

module _ (q : ℕ) (clears more : List ℕ) (low : All (λ n. n ≤ q) clears) where
  low_clears_behind : low_clears_of q (clears ++ more) ≡ clears ++ low_clears_of q more
  low_clears_behind = passing (λ n. leb n q) clears more (All-weaker (λ n. n ≤ q) (λ n. leb n q ≡ true) (λ n at_most. le-leb n q at_most) clears low)

  high_clears_behind : high_clears_of q (clears ++ more) ≡ high_clears_of q more
  high_clears_behind = failing (λ n. ltb q n) clears more (All-weaker (λ n. n ≤ q) (λ n. ltb q n ≡ false) (λ n at_most. le-ltb q n at_most) clears low)

-- ---- what a flush keeps

-- a watermark beyond all that is covered hides no more than one that just reaches it
module _ (q watermark : ℕ) (clears : List ℕ) (versions : List Entry) (low_clears : All (λ n. n ≤ q) clears) (low : All (λ v. v.number ≤ q) versions) where
  reached : (n : ℕ) → n ≤ q → leb n watermark ≡ leb n (min watermark q)
  reached n le = by (cases_lt watermark n)
    where
      by : (watermark < n) ⊎ (n ≤ watermark) → leb n watermark ≡ leb n (min watermark q)
      by (inl lt) = lt-leb n watermark lt ∙ sym (lt-leb n (min watermark q) (omega (arith, lt)))
      by (inr within) = le-leb n watermark within ∙ sym (le-leb n (min watermark q) (omega (arith, within, le)))

  same_hidden : (v : Entry) → is_hidden watermark clears versions v ≡ is_hidden (min watermark q) clears versions v
  same_hidden v =
      let by_clears = any_agree (λ n. ltb v.number n && leb n watermark) (λ n. ltb v.number n && leb n (min watermark q)) clears
      (All-weaker (λ n. n ≤ q) (λ n. (ltb v.number n && leb n watermark) ≡ (ltb v.number n && leb n (min watermark q))) (λ n le. ap (λ b. ltb v.number n && b) (reached n le)) clears low_clears) in
      let by_versions = any_agree (λ w. is_later v w && leb w.number watermark) (λ w. is_later v w && leb w.number (min watermark q)) versions
      (All-weaker (λ (w : Entry). w.number ≤ q) (λ w. (is_later v w && leb w.number watermark) ≡ (is_later v w && leb w.number (min watermark q)))
      (λ w le. ap (λ b. is_later v w && b) (reached w.number le)) versions low) in
      λ i. by_clears i || by_versions i

  pub same_flushed : flushed watermark clears versions ≡ flushed (min watermark q) clears versions
  same_flushed = filters_same (λ v. not (is_hidden watermark clears versions v)) (λ v. not (is_hidden (min watermark q) clears versions v)) versions (λ v. ap not (same_hidden v))

-- what holds of versions holds of those that a flush made of them
pub made_of : (P : Entry → Type 0) (watermark : ℕ) (clears : List ℕ) (versions made : List Entry) → Same made (flushed watermark clears versions) → All P versions → All P made
made_of P watermark clears versions made same all =
    let kept = All-filter (λ v. not (is_hidden watermark clears versions v)) P versions all in
    all_among P made (λ v here. among_has P (flushed watermark clears versions) v (sym (same (is v)) ∙ here) kept)

-- ---- a flush

-- What is stored, what a flush covers beside it, and what stays in memory. `told` and `told_clears` are what batches make beyond
-- what is stored: all of these show the same to each view. In the place of what it covers the flush makes `made`.
module _ (key : Bytes) (q : ℕ) (clears covered_clears rest_clears told_clears : List ℕ) (versions covered rest told : List Entry)
    (low_clears : All (λ n. n ≤ q) clears) (low : All (λ v. v.number ≤ q) versions)
    (covered_clears_low : All (λ n. n ≤ q) covered_clears) (covered_low : All (λ v. v.number ≤ q) covered)
    (rest_clears_high : All (λ n. q < n) rest_clears) (rest_high : All (λ v. q < v.number) rest)
    (shows : (i : ℕ) → value_at key i (clears ++ (covered_clears ++ rest_clears)) (versions ++ (covered ++ rest)) ≡ value_at key i (clears ++ told_clears) (versions ++ told))
    (watermark : ℕ) (made : List Entry) (once : OnceEach covered) (same : Same made (flushed watermark covered_clears covered)) where
  both_clears : All (λ n. n ≤ q) (clears ++ covered_clears)
  both_clears = All-append (λ n. n ≤ q) clears covered_clears low_clears covered_clears_low

  both : All (λ v. v.number ≤ q) (versions ++ covered)
  both = All-append (λ v. v.number ≤ q) versions covered low covered_low

  both_made : All (λ v. v.number ≤ q) (versions ++ made)
  both_made = All-append (λ v. v.number ≤ q) versions made low (made_of (λ v. v.number ≤ q) watermark covered_clears covered made same covered_low)

  told_clears_low : All (λ n. n ≤ q) (clears ++ low_clears_of q told_clears)
  told_clears_low = All-append (λ n. n ≤ q) clears (low_clears_of q told_clears) low_clears (low_clears_are_low q told_clears)

  told_low : All (λ v. v.number ≤ q) (versions ++ low_of q told)
  told_low = All-append (λ v. v.number ≤ q) versions (low_of q told) low (low_is_low q told)

  -- what is stored and what is told, parted at the number
  told_parted : (i : ℕ) (more_clears : List ℕ) (more : List Entry)
      → value_at key i (clears ++ more_clears) (versions ++ more)
      ≡ value_at key i ((clears ++ low_clears_of q more_clears) ++ high_clears_of q more_clears) ((versions ++ low_of q more) ++ high_of q more)
  told_parted i more_clears more =
      parted key i q (clears ++ more_clears) (versions ++ more)
      ∙ (λ d. value_at key i (low_clears_behind q clears more_clears low_clears d ++ high_clears_behind q clears more_clears low_clears d)
      (low_behind q versions more low d ++ high_behind q versions more low d))

  -- all that is there in memory, parted alike
  shows_parted : (i : ℕ) → value_at key i ((clears ++ covered_clears) ++ rest_clears) ((versions ++ covered) ++ rest) ≡ value_at key i (clears ++ told_clears) (versions ++ told)
  shows_parted i = (λ d. value_at key i (append_assoc clears covered_clears rest_clears d) (append_assoc versions covered rest d)) ∙ shows i

  -- what is covered shows what is told up to the number
  lower : (i : ℕ) → q < i → value_at key i (clears ++ covered_clears) (versions ++ covered) ≡ value_at key i (clears ++ low_clears_of q told_clears) (versions ++ low_of q told)
  lower i lt =
      all_seen key q i (clears ++ covered_clears) (versions ++ covered) lt both_clears both
      ∙ sym (unseen key (q + 1) q (clears ++ covered_clears) rest_clears (versions ++ covered) rest both_clears both rest_clears_high rest_high (omega arith))
      ∙ shows_parted (q + 1)
      ∙ told_parted (q + 1) told_clears told
      ∙ unseen key (q + 1) q (clears ++ low_clears_of q told_clears) (high_clears_of q told_clears) (versions ++ low_of q told) (high_of q told) told_clears_low told_low
      (high_clears_are_high q told_clears)
      (high_is_high q told) (omega arith)
      ∙ sym (all_seen key q i (clears ++ low_clears_of q told_clears) (versions ++ low_of q told) lt told_clears_low told_low)

  -- what was made shows what is covered, with whatever stands behind it
  put_in : (i : ℕ) → q < i → (more_clears : List ℕ) (more : List Entry)
      → value_at key i ((clears ++ covered_clears) ++ more_clears) ((versions ++ made) ++ more) ≡ value_at key i ((clears ++ covered_clears) ++ more_clears) ((versions ++ covered) ++ more)
  put_in i lt more_clears more =
      let kept = subst (Same made) (same_flushed q watermark covered_clears covered covered_clears_low covered_low) same in
      (λ d. value_at key i (append_assoc clears covered_clears more_clears d) (append_assoc versions made more d))
      ∙ a_flush_keeps_views key i (min watermark q) (inr (omega (arith, lt))) clears covered_clears more_clears versions covered made more once kept
      ∙ sym (λ d. value_at key i (append_assoc clears covered_clears more_clears d) (append_assoc versions covered more d))

  -- So with what other batches tell above the number it shows what these tell, where they tell the same up to the number.
  pub instead : (i : ℕ) → q < i → (other_clears : List ℕ) (other : List Entry) → low_clears_of q other_clears ≡ low_clears_of q told_clears → low_of q other ≡ low_of q told
      → value_at key i ((clears ++ covered_clears) ++ high_clears_of q other_clears) ((versions ++ made) ++ high_of q other) ≡ value_at key i (clears ++ other_clears) (versions ++ other)
  instead i lt other_clears other same_clears same_versions =
      let hc = high_clears_of q other_clears in
      let hv = high_of q other in
      put_in i lt hc hv
      ∙ same_over key i q (clears ++ covered_clears) (clears ++ low_clears_of q told_clears) hc (versions ++ covered) (versions ++ low_of q told) hv
      both_clears told_clears_low both told_low (high_clears_are_high q other_clears) (high_is_high q other) (lower i lt)
      ∙ sym (λ d. value_at key i ((clears ++ same_clears d) ++ hc) ((versions ++ same_versions d) ++ hv))
      ∙ sym (told_parted i other_clears other)

  -- And what stays in memory shows with it, to each view, what is told above the number.
  pub still_shows : (i : ℕ) → value_at key i ((clears ++ covered_clears) ++ rest_clears) ((versions ++ made) ++ rest)
      ≡ value_at key i ((clears ++ covered_clears) ++ high_clears_of q told_clears) ((versions ++ made) ++ high_of q told)
  still_shows i = by (cases_lt q i)
    where
      by : (q < i) ⊎ (i ≤ q) → value_at key i ((clears ++ covered_clears) ++ rest_clears) ((versions ++ made) ++ rest)
          ≡ value_at key i ((clears ++ covered_clears) ++ high_clears_of q told_clears) ((versions ++ made) ++ high_of q told)
      by (inl lt) = put_in i lt rest_clears rest ∙ shows_parted i ∙ sym (instead i lt told_clears told refl refl)
      by (inr le) =
          unseen key i q (clears ++ covered_clears) rest_clears (versions ++ made) rest both_clears both_made rest_clears_high rest_high (omega (arith, le))
          ∙ sym (unseen key i q (clears ++ covered_clears) (high_clears_of q told_clears) (versions ++ made) (high_of q told) both_clears both_made (high_clears_are_high q told_clears)
          (high_is_high q told) (omega (arith, le)))
