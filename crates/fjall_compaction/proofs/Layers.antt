-- What is numbered above a number, beside what is numbered at most it: what lies above shows first, and hides what lies below
-- only as a whole.
use Rattle.std.proofs.Common.{◌≡◌, ℕ, ◌+◌, ◌<◌, ◌≤◌, Bool, true, false, not, ◌&&◌, ◌||◌, cond, ltb, leb, List, [], ◌∷◌, ◌++◌, Option, Some, None, refl, sym, ap, ◌∙◌, inl, inr, ◌⊎◌, arith}
use Rattle.std.specs.List.{filter, list_any, All}
use Rattle.std.specs.Str.{bytes_eq}
use Rattle.std.proofs.lemmas.Bool.{lt-ltb, le-ltb, le-leb, lt-leb, leb-true, ltb-true, cases_lt}
use Rattle.std.proofs.lemmas.Bool.Decides.{nat_tests}
use Rattle.std.proofs.lemmas.List.Folds.{list_any-append}
use Rattle.std.proofs.lemmas.List.Elements.{All-head, All-tail, All-weaker, filter_passes}
use Rattle.fjall_base.specs.Pairs.{Bytes}
use Rattle.fjall_table.specs.Blocks.{Entry}
use Rattle.fjall_memtable.specs.Views.{is_cleared, is_seen, later, newest, newest_of, value_at, value_left}
use Rattle.fjall_memtable.proofs.Clears.{none_cleared}
use Rattle.fjall_memtable.proofs.Hiding.{clears_order}
use Rattle.fjall_memtable.proofs.NewestSeen.{first_wins, later_assoc, later_none, newest-append, newest_has, one, second_wins, top, top-later, top_below}
use Rattle.fjall_memtable.proofs.Shown.{value_shown}

-- ---- tests that answer alike

pub any_agree : {X : Type 0} (f g : X → Bool) (xs : List X) → All (λ x. f x ≡ g x) xs → list_any f xs ≡ list_any g xs
any_agree f g [] each = refl
any_agree f g (x ∷ xs) each =
    let here = All-head (λ y. f y ≡ g y) x xs each in
    let rest = any_agree f g xs (All-tail (λ y. f y ≡ g y) x xs each) in
    λ i. here i || rest i

any_none : {X : Type 0} (f : X → Bool) (xs : List X) → All (λ x. f x ≡ false) xs → list_any f xs ≡ false
any_none f [] each = refl
any_none f (x ∷ xs) each =
    ap (λ b. b || list_any f xs) (All-head (λ y. f y ≡ false) x xs each) ∙ any_none f xs (All-tail (λ y. f y ≡ false) x xs each)

newest_agree : (test other : Entry → Bool) (vs : List Entry) → All (λ v. test v ≡ other v) vs → newest_of test vs ≡ newest_of other vs
newest_agree test other [] each = refl
newest_agree test other (v ∷ vs) each =
    let here = All-head (λ w. test w ≡ other w) v vs each in
    let rest = newest_agree test other vs (All-tail (λ w. test w ≡ other w) v vs each) in
    λ i. later (cond (here i) (Some v) None) (rest i)

none_newest : (test : Entry → Bool) (vs : List Entry) → All (λ v. test v ≡ false) vs → newest_of test vs ≡ None
none_newest test [] each = refl
none_newest test (v ∷ vs) each =
    ap (λ b. later (cond b (Some v) None) (newest_of test vs)) (All-head (λ w. test w ≡ false) v vs each)
    ∙ none_newest test vs (All-tail (λ w. test w ≡ false) v vs each)

-- ---- what lies above

-- what shows of a key where something lies above what shows this
abbrev pub shown_over : ℕ → List ℕ → Option Bytes → Option Entry → Option Bytes
shown_over instant clears below None = cond (list_any (λ n. ltb n instant) clears) None below
shown_over instant clears below (Some v) = value_left instant clears (Some v)

either_clears : (a b : Bool) (x : Option Bytes) → cond (a || b) None x ≡ cond b None (cond a None x)
either_clears true true x = refl
either_clears true false x = refl
either_clears false b x = refl

-- no value
abbrev no_value : Option Bytes
no_value = None

both_none : (b : Bool) → cond b no_value no_value ≡ no_value
both_none true = refl
both_none false = refl

above_tests : (q number n instant : ℕ) → number ≤ q → q < n → (ltb number n && ltb n instant) ≡ ltb n instant
above_tests q number n instant low high = ap (λ b. b && ltb n instant) (lt-ltb number n (omega arith))

module _ (key : Bytes) (instant q : ℕ) (clears more : List ℕ) (versions above : List Entry)
    (low_clears : All (λ n. n ≤ q) clears) (low : All (λ v. v.number ≤ q) versions)
    (high_clears : All (λ n. q < n) more) (high : All (λ v. q < v.number) above) where
  none_above : newest key instant above ≡ None → (w : Option Entry) → newest key instant versions ≡ w
      → value_left instant (clears ++ more) w ≡ shown_over instant more (value_left instant clears w) None
  none_above none None is = sym (both_none (list_any (λ n. ltb n instant) more))
  none_above none (Some w) is =
      let number : w.number ≤ q = (newest_has (is_seen key instant) (λ v. v.number ≤ q) versions w is low).0 in
      let all : is_cleared instant (clears ++ more) w.number ≡ (is_cleared instant clears w.number || list_any (λ n. ltb n instant) more) =
      list_any-append (λ n. ltb w.number n && ltb n instant) clears more
      ∙ ap (λ b. is_cleared instant clears w.number || b) (any_agree (λ n. ltb w.number n && ltb n instant) (λ n. ltb n instant) more
      (All-weaker (λ n. q < n) (λ n. (ltb w.number n && ltb n instant) ≡ ltb n instant) (λ n more_than. above_tests q w.number n instant number more_than) more high_clears)) in
      ap (λ b. cond b None w.value) all ∙ either_clears (is_cleared instant clears w.number) (list_any (λ n. ltb n instant) more) w.value

  some_above : (v : Entry) → newest key instant above ≡ Some v
      → value_left instant (clears ++ more) (later (newest key instant versions) (Some v)) ≡ value_left instant more (Some v)
  some_above v is =
      let number : q < v.number = (newest_has (is_seen key instant) (λ w. q < w.number) above v is high).0 in
      let below : top (newest key instant versions) ≤ q + 1 =
      top_below (is_seen key instant) (q + 1) versions (All-weaker (λ w. w.number ≤ q) (λ w. w.number < q + 1) (λ w at_most. omega (arith, at_most)) versions low) in
      ap (value_left instant (clears ++ more)) (second_wins (newest key instant versions) (Some v) (omega (arith, below, number)))
      ∙ ap (λ b. cond b None v.value)
      (list_any-append (λ n. ltb v.number n && ltb n instant) clears more
      ∙ ap (λ b. b || is_cleared instant more v.number) (none_cleared instant q clears v.number low_clears (omega (arith, number))))

  pub over : value_at key instant (clears ++ more) (versions ++ above) ≡ shown_over instant more (value_at key instant clears versions) (newest key instant above)
  over =
      value_shown key instant (clears ++ more) (versions ++ above)
      ∙ ap (value_left instant (clears ++ more)) (newest-append (is_seen key instant) versions above)
      ∙ by (newest key instant above) refl
      ∙ ap (λ o. shown_over instant more o (newest key instant above)) (sym (value_shown key instant clears versions))
    where
      by : (v : Option Entry) → newest key instant above ≡ v
          → value_left instant (clears ++ more) (later (newest key instant versions) v) ≡ shown_over instant more (value_left instant clears (newest key instant versions)) v
      by None is = ap (value_left instant (clears ++ more)) (later_none (newest key instant versions)) ∙ none_above is (newest key instant versions) refl
      by (Some v) is = some_above v is

  -- a view up to just above the number sees nothing of what lies above
  pub unseen : instant ≤ q + 1 → value_at key instant (clears ++ more) (versions ++ above) ≡ value_at key instant clears versions
  unseen le =
      over
      ∙ ap (shown_over instant more (value_at key instant clears versions))
      (none_newest (is_seen key instant) above (All-weaker (λ v. q < v.number) (λ v. is_seen key instant v ≡ false) (λ v more_than. grind (arith, nat_tests)) above high))
      ∙ ap (λ b. cond b None (value_at key instant clears versions))
      (any_none (λ n. ltb n instant) more (All-weaker (λ n. q < n) (λ n. ltb n instant ≡ false) (λ n more_than. le-ltb n instant (omega (arith, le, more_than))) more high_clears))

-- ---- what lies below

-- where what lies below shows the same, all of it does
pub same_over : (key : Bytes) (instant q : ℕ) (clears others more : List ℕ) (versions instead above : List Entry)
    → All (λ n. n ≤ q) clears → All (λ n. n ≤ q) others → All (λ v. v.number ≤ q) versions → All (λ v. v.number ≤ q) instead
    → All (λ n. q < n) more → All (λ v. q < v.number) above
    → value_at key instant clears versions ≡ value_at key instant others instead
    → value_at key instant (clears ++ more) (versions ++ above) ≡ value_at key instant (others ++ more) (instead ++ above)
same_over key instant q clears others more versions instead above low_clears low_others low low_instead high_clears high same =
    over key instant q clears more versions above low_clears low high_clears high
    ∙ ap (λ o. shown_over instant more o (newest key instant above)) same
    ∙ sym (over key instant q others more instead above low_others low_instead high_clears high)

-- each view above a number shows the same of what is numbered at most it
pub all_seen : (key : Bytes) (q instant : ℕ) (clears : List ℕ) (versions : List Entry) → q < instant → All (λ n. n ≤ q) clears → All (λ v. v.number ≤ q) versions
    → value_at key instant clears versions ≡ value_at key (q + 1) clears versions
all_seen key q instant clears versions lt low_clears low =
    value_shown key instant clears versions
    ∙ ap (value_left instant clears) (newest_agree (is_seen key instant) (is_seen key (q + 1)) versions
    (All-weaker (λ v. v.number ≤ q) (λ v. is_seen key instant v ≡ is_seen key (q + 1) v) (λ v at_most. ap (λ b. bytes_eq v.key key && b) (both_before v.number at_most)) versions low))
    ∙ cleared_alike (newest key (q + 1) versions)
    ∙ sym (value_shown key (q + 1) clears versions)
  where
    both_before : (n : ℕ) → n ≤ q → ltb n instant ≡ ltb n (q + 1)
    both_before n at_most = lt-ltb n instant (omega (arith, lt, at_most)) ∙ sym (lt-ltb n (q + 1) (omega (arith, at_most)))

    cleared_alike : (o : Option Entry) → value_left instant clears o ≡ value_left (q + 1) clears o
    cleared_alike None = refl
    cleared_alike (Some v) = ap (λ b. cond b None v.value)
        (any_agree (λ n. ltb v.number n && ltb n instant) (λ n. ltb v.number n && ltb n (q + 1)) clears
        (All-weaker (λ n. n ≤ q) (λ n. (ltb v.number n && ltb n instant) ≡ (ltb v.number n && ltb n (q + 1))) (λ n at_most. ap (λ b. ltb v.number n && b) (both_before n at_most)) clears low_clears))

-- ---- parted at a number

-- what is numbered at most it, and what is numbered above it
abbrev pub low_of : ℕ → List Entry → List Entry
low_of q versions = filter (λ v. leb v.number q) versions

abbrev pub high_of : ℕ → List Entry → List Entry
high_of q versions = filter (λ v. ltb q v.number) versions

abbrev pub low_clears_of : ℕ → List ℕ → List ℕ
low_clears_of q clears = filter (λ n. leb n q) clears

abbrev pub high_clears_of : ℕ → List ℕ → List ℕ
high_clears_of q clears = filter (λ n. ltb q n) clears

pub low_is_low : (q : ℕ) (versions : List Entry) → All (λ v. v.number ≤ q) (low_of q versions)
low_is_low q versions = All-weaker (λ v. leb v.number q ≡ true) (λ v. v.number ≤ q) (λ v is. leb-true v.number q is) (low_of q versions) (filter_passes (λ v. leb v.number q) versions)

pub high_is_high : (q : ℕ) (versions : List Entry) → All (λ v. q < v.number) (high_of q versions)
high_is_high q versions = All-weaker (λ v. ltb q v.number ≡ true) (λ v. q < v.number) (λ v is. ltb-true q v.number is) (high_of q versions) (filter_passes (λ v. ltb q v.number) versions)

pub low_clears_are_low : (q : ℕ) (clears : List ℕ) → All (λ n. n ≤ q) (low_clears_of q clears)
low_clears_are_low q clears = All-weaker (λ n. leb n q ≡ true) (λ n. n ≤ q) (λ n is. leb-true n q is) (low_clears_of q clears) (filter_passes (λ n. leb n q) clears)

pub high_clears_are_high : (q : ℕ) (clears : List ℕ) → All (λ n. q < n) (high_clears_of q clears)
high_clears_are_high q clears = All-weaker (λ n. ltb q n ≡ true) (λ n. q < n) (λ n is. ltb-true q n is) (high_clears_of q clears) (filter_passes (λ n. ltb q n) clears)

-- one version more, wherever it lies
newest_with : (test : Entry → Bool) (q : ℕ) (v : Entry) (low high all : Option Entry) → top low ≤ q + 1 → all ≡ later low high
    → (a b : Bool) → leb v.number q ≡ a → ltb q v.number ≡ b
    → later (one test v) all ≡ later (cond a (later (one test v) low) low) (cond b (later (one test v) high) high)
newest_with test q v low high all bound is true true below above = absurd (let le = leb-true v.number q below in let lt = ltb-true q v.number above in omega (arith, le, lt))
newest_with test q v low high all bound is true false below above = ap (later (one test v)) is ∙ sym (later_assoc (one test v) low high)
newest_with test q v low high all bound is false true below above = ap (later (one test v)) is ∙ past (test v) refl
  where
    past : (b : Bool) → test v ≡ b → later (cond b (Some v) None) (later low high) ≡ later low (later (cond b (Some v) None) high)
    past true passes =
        let lt : q < v.number = ltb-true q v.number above in
        let more = top-later (Some v) high in
        sym (later_assoc (Some v) low high)
        ∙ ap (λ o. later o high) (first_wins (Some v) low (omega (arith, bound, lt)))
        ∙ sym (second_wins low (later (Some v) high) (let most = more.0 in omega (arith, bound, lt, most)))
    past false passes = refl
newest_with test q v low high all bound is false false below above = absurd (neither (cases_lt q v.number))
  where
    neither : (q < v.number) ⊎ (v.number ≤ q) → ⊥
    neither (inl lt) = let no : true ≡ false = sym (lt-ltb q v.number lt) ∙ above in cc
    neither (inr le) = let no : true ≡ false = sym (le-leb v.number q le) ∙ below in cc

filtered : (test p : Entry → Bool) (v : Entry) (vs : List Entry) → newest_of test (filter p (v ∷ vs)) ≡ cond (p v) (later (one test v) (newest_of test (filter p vs))) (newest_of test (filter p vs))
filtered test p v vs = by (p v)
  where
    by : (b : Bool) → newest_of test (cond b (v ∷ filter p vs) (filter p vs)) ≡ cond b (later (one test v) (newest_of test (filter p vs))) (newest_of test (filter p vs))
    by true = refl
    by false = refl

newest_parted : (test : Entry → Bool) (q : ℕ) (vs : List Entry) → newest_of test vs ≡ later (newest_of test (low_of q vs)) (newest_of test (high_of q vs))
newest_parted test q [] = refl
newest_parted test q (v ∷ vs) =
    let bound = top_below test (q + 1) (low_of q vs) (All-weaker (λ w. w.number ≤ q) (λ w. w.number < q + 1) (λ w at_most. omega (arith, at_most)) (low_of q vs) (low_is_low q vs)) in
    newest_with test q v (newest_of test (low_of q vs)) (newest_of test (high_of q vs)) (newest_of test vs) bound (newest_parted test q vs) (leb v.number q) (ltb q v.number) refl refl
    ∙ sym (λ i. later (filtered test (λ w. leb w.number q) v vs i) (filtered test (λ w. ltb q w.number) v vs i))

any_with : (x low high all : Bool) → all ≡ (low || high) → (a : Bool) → (x || all) ≡ (cond a (x || low) low || cond (not a) (x || high) high)
any_with true low high all is true = refl
any_with false low high all is true = is
any_with true true high all is false = refl
any_with true false high all is false = refl
any_with false low high all is false = is

any_filtered : (test p : ℕ → Bool) (n : ℕ) (ns : List ℕ) → list_any test (filter p (n ∷ ns)) ≡ cond (p n) (test n || list_any test (filter p ns)) (list_any test (filter p ns))
any_filtered test p n ns = by (p n)
  where
    by : (b : Bool) → list_any test (cond b (n ∷ filter p ns) (filter p ns)) ≡ cond b (test n || list_any test (filter p ns)) (list_any test (filter p ns))
    by true = refl
    by false = refl

-- a number is above another one just where it isn't at most it
pub above_or_not : (q n : ℕ) → ltb q n ≡ not (leb n q)
above_or_not q n = by (cases_lt q n)
  where
    by : (q < n) ⊎ (n ≤ q) → ltb q n ≡ not (leb n q)
    by (inl lt) = lt-ltb q n lt ∙ sym (ap not (lt-leb n q lt))
    by (inr le) = le-ltb q n le ∙ sym (ap not (le-leb n q le))

any_parted : (test : ℕ → Bool) (q : ℕ) (clears : List ℕ) → list_any test clears ≡ list_any test (low_clears_of q clears ++ high_clears_of q clears)
any_parted test q clears = halves clears ∙ sym (list_any-append test (low_clears_of q clears) (high_clears_of q clears))
  where
    halves : (ns : List ℕ) → list_any test ns ≡ (list_any test (low_clears_of q ns) || list_any test (high_clears_of q ns))
    halves [] = refl
    halves (n ∷ ns) =
        any_with (test n) (list_any test (low_clears_of q ns)) (list_any test (high_clears_of q ns)) (list_any test ns) (halves ns) (leb n q)
        ∙ ap (λ b. cond (leb n q) (test n || list_any test (low_clears_of q ns)) (list_any test (low_clears_of q ns)) || cond b (test n || list_any test (high_clears_of q ns))
        (list_any test (high_clears_of q ns)))
        (sym (above_or_not q n))
        ∙ sym (λ i. any_filtered test (λ m. leb m q) n ns i || any_filtered test (λ m. ltb q m) n ns i)

-- all of it shows what its two parts show
pub parted : (key : Bytes) (instant q : ℕ) (clears : List ℕ) (versions : List Entry)
    → value_at key instant clears versions ≡ value_at key instant (low_clears_of q clears ++ high_clears_of q clears) (low_of q versions ++ high_of q versions)
parted key instant q clears versions =
    value_shown key instant clears versions
    ∙ ap (value_left instant clears) (newest_parted (is_seen key instant) q versions ∙ sym (newest-append (is_seen key instant) (low_of q versions) (high_of q versions)))
    ∙ sym (value_shown key instant clears (low_of q versions ++ high_of q versions))
    ∙ clears_order key instant clears (low_clears_of q clears ++ high_clears_of q clears) (low_of q versions ++ high_of q versions) (λ test. any_parted test q clears)
