-- What a keyspace shows once a merge is finished: to each view of all that its tables hold, and beside what lies above them, what it
-- showed before.
use Rattle.std.proofs.Common.{◌≡◌, inl, inr, ℕ, ◌+◌, ◌<◌, ◌≤◌, ◌^◌, max, true, false, List, [], ◌∷◌, ◌++◌, All, Option, Some, None, IfSome, take, drop, refl, sym, ◌∙◌, ap, subst, arith}
use Rattle.std.proofs.lemmas.Bool.{cases_lt, lt-ltb, ltb-true, true≢false}
use Rattle.std.proofs.lemmas.List.{take-append-drop}
use Rattle.std.proofs.lemmas.List.Elements.{All-append, All-filter, All-head, All-weaker}
use Rattle.fjall_base.specs.Pairs.{Bytes}
use Rattle.fjall_meta.specs.Contents.{is_beyond}
use Rattle.fjall_compaction.proofs.Layers.{all_seen, same_over, unseen}
use Rattle.fjall_tree.proofs.Flushed.{behind_of, front_of}
use Rattle.fjall_tree.proofs.Merged.{once_of}
use Rattle.fjall_tree.proofs.Several.{all_same, flat_both, flat_parted}
use Rattle.fjall_memtable.specs.Sorted.{flat}
use Rattle.fjall_table.specs.Blocks.{Entry}
use Rattle.fjall_manifest.specs.Records.{Fields}
use Rattle.fjall_memtable.specs.Jobs.{OnceEach, Same, merged, merged_clears}
use Rattle.fjall_memtable.specs.Views.{value_at}
use Rattle.fjall_memtable.proofs.Merging.{a_merge_keeps_views}
use Rattle.fjall_compaction.specs.Merges.{Merge, MergesTables, entries_after, record_after_merge}

-- ---- lists of nothing

none_same : (xs : List Entry) → Same xs [] → xs ≡ []
none_same [] same = refl
none_same (x ∷ xs) same = let no : true ≡ false = same (λ v. true) in cc

front_none : {X : Type 0} (xs ys : List X) → xs ++ ys ≡ [] → xs ≡ []
front_none [] ys none = refl
front_none (x ∷ xs) ys none = cc

behind_none : {X : Type 0} (xs ys : List X) → xs ++ ys ≡ [] → ys ≡ []
behind_none [] ys none = none
behind_none (x ∷ xs) ys none = cc

taken_none : {X : Type 0} (n : ℕ) (xs : List X) → xs ≡ [] → take n xs ≡ []
taken_none n xs none = front_none (take n xs) (drop n xs) (take-append-drop n xs ∙ none)

dropped_none : {X : Type 0} (n : ℕ) (xs : List X) → xs ≡ [] → drop n xs ≡ []
dropped_none n xs none = behind_none (take n xs) (drop n xs) (take-append-drop n xs ∙ none)

-- where nothing isn't beyond the persisted number, and there is none, there is nothing
none_within : {X : Type 0} (number : X → ℕ) (p : Option ℕ) (xs : List X) → p ≡ None → All (λ x. is_beyond p (number x) ≡ false) xs → xs ≡ []
none_within number p [] none within = refl
none_within number p (x ∷ xs) none within =
    absurd (true≢false (sym (ap (λ o. is_beyond o (number x)) none) ∙ All-head (λ y. is_beyond p (number y) ≡ false) x xs within))

-- ---- numbers beside the persisted one

low_within : {X : Type 0} (number : X → ℕ) (p : Option ℕ) (q : ℕ) (xs : List X) → p ≡ Some q → All (λ x. is_beyond p (number x) ≡ false) xs → All (λ x. number x ≤ q) xs
low_within {X} number p q xs is within =
    All-weaker (λ x. is_beyond p (number x) ≡ false) (λ x. number x ≤ q)
    (λ x e. elim (cases_lt q (number x)) [
      | inl lt ↦ absurd (true≢false (sym (is_over x lt) ∙ e))
      | inr le ↦ le
    ]) xs within
  where
    is_over : (x : X) → q < number x → is_beyond p (number x) ≡ true
    is_over x lt = ap (λ o. is_beyond o (number x)) is ∙ lt-ltb q (number x) lt

high_beyond : {X : Type 0} (number : X → ℕ) (p : Option ℕ) (q : ℕ) (xs : List X) → p ≡ Some q → All (λ x. is_beyond p (number x) ≡ true) xs → All (λ x. q < number x) xs
high_beyond number p q xs is beyond =
    All-weaker (λ x. is_beyond p (number x) ≡ true) (λ x. q < number x) (λ x e. ltb-true q (number x) (sym (ap (λ o. is_beyond o (number x)) is) ∙ e)) xs beyond

module _ (m : Merge) (lists entries : List (List Entry)) (last : Fields) (is : MergesTables m lists entries last) (once : OnceEach (flat entries)) where
  abbrev n : ℕ
  n = m.table_count

  abbrev k : ℕ
  k = m.clear_count

  abbrev pub old : List Entry
  old = flat entries

  abbrev pub new : List Entry
  new = flat (entries_after m lists entries)

  abbrev pub new_clears : List ℕ
  new_clears = (record_after_merge m last).clears

  -- what a property of what it took and of what came since makes of what there is then
  pub each_new : (P : Entry → Type 0) → All P old → All P new
  each_new P all =
      let parted = subst (All P) (flat_parted n entries) all in
      let front = front_of P (flat (take n entries)) (flat (drop n entries)) parted in
      subst (All P) (sym (flat_both lists (drop n entries)))
      (All-append P (flat lists) (flat (drop n entries))
      (all_same P (flat lists) (merged is.watermark (take k last.clears) (flat (take n entries))) is.kept (All-filter _ P (flat (take n entries)) front))
      (behind_of P (flat (take n entries)) (flat (drop n entries)) parted))

  pub each_new_clear : (P : ℕ → Type 0) → All P last.clears → All P new_clears
  each_new_clear P all =
      let parted = subst (All P) (sym (take-append-drop k last.clears)) all in
      subst (λ (l : List ℕ). All P (l ++ drop k last.clears)) (sym is.clears)
      (All-append P (merged_clears is.watermark (take k last.clears)) (drop k last.clears) (All-filter _ P (take k last.clears) (front_of P (take k last.clears) (drop k last.clears) parted))
      (behind_of P (take k last.clears) (drop k last.clears) parted))

  -- above its watermark it shows the same
  above_watermark : (key : Bytes) (instant : ℕ) → is.watermark < instant → value_at key instant new_clears new ≡ value_at key instant last.clears old
  above_watermark key instant lt =
      let low = All-weaker (λ (c : ℕ). c < is.bound) (λ (c : ℕ). c ≤ is.bound) (λ c less. omega (arith, less)) (take k last.clears) is.clears_below in
      (λ i. value_at key instant (is.clears i ++ drop k last.clears) (flat_both lists (drop n entries) i))
      ∙ a_merge_keeps_views key instant is.watermark is.bound (inr lt) (take k last.clears) (drop k last.clears) (flat (take n entries)) (flat lists) (flat (drop n entries))
      (once_of entries n once).0 is.kept is.below low is.from
      ∙ sym (λ i. value_at key instant (sym (take-append-drop k last.clears) i) (flat_parted n entries i))

  -- and so it does above all that there is
  module _ (q : ℕ) (low : All (λ v. v.number ≤ q) old) (low_clears : All (λ c. c ≤ q) last.clears) where
    low_new : All (λ v. v.number ≤ q) new
    low_new = each_new (λ v. v.number ≤ q) low

    low_new_clears : All (λ c. c ≤ q) new_clears
    low_new_clears = each_new_clear (λ c. c ≤ q) low_clears

    above_all : (key : Bytes) (instant : ℕ) → q < instant → value_at key instant new_clears new ≡ value_at key instant last.clears old
    above_all key instant lt =
        let big = max q is.watermark + 1 in
        all_seen key q instant new_clears new lt low_new_clears low_new
        ∙ sym (all_seen key q big new_clears new (omega arith) low_new_clears low_new)
        ∙ above_watermark key big (omega arith)
        ∙ all_seen key q big last.clears old (omega arith) low_clears low
        ∙ sym (all_seen key q instant last.clears old lt low_clears low)

    -- under what lies above it
    over_both : (key : Bytes) (instant : ℕ) → q < instant → (more : List ℕ) (above : List Entry) → All (λ c. q < c) more → All (λ v. q < v.number) above
        → value_at key instant (new_clears ++ more) (new ++ above) ≡ value_at key instant (last.clears ++ more) (old ++ above)
    over_both key instant lt more above high_clears high =
        same_over key instant q new_clears last.clears more new old above low_new_clears low_clears low_new low high_clears high (above_all key instant lt)

    -- what showed the same above it does so still
    alike_above : (key : Bytes) (instant : ℕ) (more others : List ℕ) (above besides : List Entry) → All (λ c. q < c) more → All (λ c. q < c) others → All (λ v. q < v.number) above
        → All (λ v. q < v.number) besides → value_at key instant (last.clears ++ more) (old ++ above) ≡ value_at key instant (last.clears ++ others) (old ++ besides)
        → value_at key instant (new_clears ++ more) (new ++ above) ≡ value_at key instant (new_clears ++ others) (new ++ besides)
    alike_above key instant more others above besides high_more high_others high high_besides same = elim (cases_lt q instant) [
      | inl lt ↦ over_both key instant lt more above high_more high ∙ same ∙ sym (over_both key instant lt others besides high_others high_besides)
      | inr le ↦
          unseen key instant q new_clears more new above low_new_clears low_new high_more high (omega (arith, le))
          ∙ sym (unseen key instant q new_clears others new besides low_new_clears low_new high_others high_besides (omega (arith, le)))
    ]

  -- ---- beyond the persisted number

  module _ (within : All (λ v. is_beyond last.persisted v.number ≡ false) old × All (λ c. is_beyond last.persisted c ≡ false) last.clears) where
    no_new : last.persisted ≡ None → new ≡ []
    no_new none =
        let nothing = none_within (λ (v : Entry). v.number) last.persisted old none within.0 in
        let parted = sym (flat_parted n entries) ∙ nothing in
        let taken = front_none (flat (take n entries)) (flat (drop n entries)) parted in
        let made = none_same (flat lists) (subst (λ (l : List Entry). Same (flat lists) (merged is.watermark (take k last.clears) l)) taken is.kept) in
        flat_both lists (drop n entries) ∙ (λ i. made i ++ behind_none (flat (take n entries)) (flat (drop n entries)) parted i)

    no_clears : last.persisted ≡ None → last.clears ≡ []
    no_clears none = none_within (λ (c : ℕ). c) last.persisted last.clears none within.1

    no_new_clears : last.persisted ≡ None → new_clears ≡ []
    no_new_clears none =
        let nothing = no_clears none in
        ap (λ (l : List ℕ). l ++ drop k last.clears) (is.clears ∙ ap (merged_clears is.watermark) (taken_none k last.clears nothing)) ∙ dropped_none k last.clears nothing

    same_lists : last.persisted ≡ None → (new_clears ≡ last.clears) × (new ≡ old)
    same_lists none = (no_new_clears none ∙ sym (no_clears none), no_new none ∙ sym (none_within (λ (v : Entry). v.number) last.persisted old none within.0))

    -- to a view above all numbers it shows the same, beside whatever is beyond that number
    pub shows_same : (key : Bytes) (more : List ℕ) (above : List Entry) → All (λ c. is_beyond last.persisted c ≡ true) more → All (λ v. is_beyond last.persisted v.number ≡ true) above
        → value_at key (2 ^ 63) (new_clears ++ more) (new ++ above) ≡ value_at key (2 ^ 63) (last.clears ++ more) (old ++ above)
    shows_same key more above beyond_clears beyond = by last.persisted refl
      where
        by : (p : Option ℕ) → last.persisted ≡ p → value_at key (2 ^ 63) (new_clears ++ more) (new ++ above) ≡ value_at key (2 ^ 63) (last.clears ++ more) (old ++ above)
        by None none = let same = same_lists none in λ i. value_at key (2 ^ 63) (same.0 i ++ more) (same.1 i ++ above)
        by (Some q) at =
            over_both q (low_within (λ (v : Entry). v.number) last.persisted q old at within.0) (low_within (λ (c : ℕ). c) last.persisted q last.clears at within.1) key (2 ^ 63)
            (subst (λ (o : Option ℕ). IfSome o (λ x. x < 2 ^ 63)) at is.persisted) more above (high_beyond (λ (c : ℕ). c) last.persisted q more at beyond_clears)
            (high_beyond (λ (v : Entry). v.number) last.persisted q above at beyond)

    -- what showed the same to a view, beside two lists beyond that number, does so still
    pub shows_alike : (key : Bytes) (instant : ℕ) (more others : List ℕ) (above besides : List Entry) → All (λ c. is_beyond last.persisted c ≡ true) more
        → All (λ c. is_beyond last.persisted c ≡ true) others → All (λ v. is_beyond last.persisted v.number ≡ true) above → All (λ v. is_beyond last.persisted v.number ≡ true) besides
        → value_at key instant (last.clears ++ more) (old ++ above) ≡ value_at key instant (last.clears ++ others) (old ++ besides)
        → value_at key instant (new_clears ++ more) (new ++ above) ≡ value_at key instant (new_clears ++ others) (new ++ besides)
    shows_alike key instant more others above besides beyond_more beyond_others beyond beyond_besides same = by last.persisted refl
      where
        by : (p : Option ℕ) → last.persisted ≡ p → value_at key instant (new_clears ++ more) (new ++ above) ≡ value_at key instant (new_clears ++ others) (new ++ besides)
        by None none =
            let lists_same = same_lists none in
            (λ i. value_at key instant (lists_same.0 i ++ more) (lists_same.1 i ++ above)) ∙ same ∙ sym (λ i. value_at key instant (lists_same.0 i ++ others) (lists_same.1 i ++ besides))
        by (Some q) at =
            alike_above q (low_within (λ (v : Entry). v.number) last.persisted q old at within.0) (low_within (λ (c : ℕ). c) last.persisted q last.clears at within.1) key instant more others above besides
            (high_beyond (λ (c : ℕ). c) last.persisted q more at beyond_more) (high_beyond (λ (c : ℕ). c) last.persisted q others at beyond_others)
            (high_beyond (λ (v : Entry). v.number) last.persisted q above at beyond) (high_beyond (λ (v : Entry). v.number) last.persisted q besides at beyond_besides) same
