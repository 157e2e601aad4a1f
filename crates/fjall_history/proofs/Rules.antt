-- Each step keeps the rule of the word.
use Rattle.std.proofs.Common.{◌≡◌, ◌≢◌, ◌⊎◌, ℕ, zero, suc, ◌+◌, List, [], ◌∷◌, ◌++◌, set, max, refl, sym, ap, ◌∙◌, subst, inl, inr, ⊎_elim, arith, length-append}
use Rattle.std.specs.Prelude.{slice_index, slice_set}
use mathlib.Core.Option.{some, none, some-ne-none, some-injective}
use lib.ListN.{get_elem?}
use Rattle.atomic_table.specs.Table.{Me, keeps, step, Allows, Splits, Joins}
use Rattle.atomic_table.proofs.Lists.{at_set, at_snoc, set_again}
use Rattle.fjall_history.specs.Histories.{Accepted, History, grown, number}
use Rattle.fjall_history.specs.Moves.{HasGrown}
use Rattle.fjall_history.proofs.Views.{grown_on, same_grown}
use Rattle.fjall_history.specs.Seats.{Kind, Fresh, Leads, Follows, Gone, Known, beside, follower, following, gone, leader, leading, newcomer, seen_of}
use Rattle.fjall_history.specs.Rules.{Fits, FitsAs, Runs, Starts, Kept, Settles, Publishes, Looks, Compares}

-- ---- histories

pub one_more : (h : History) (a : Accepted) → HasGrown h (grown h a)
one_more h a = (a ∷ [], refl)

pub number_of_grown : (h : History) (a : Accepted) → number (grown h a) ≡ number h + 1
number_of_grown h a = omega (arith, length-append h.accepted (a ∷ []))

-- ---- views

abbrev is_fresh : Kind → Type 0
is_fresh Fresh = Unit {0}
is_fresh Leads = ⊥
is_fresh Follows = ⊥
is_fresh Gone = ⊥

at_first : (n id : ℕ) (v : Known) → get_elem? (newcomer n ∷ []) id ≡ some v → is_fresh v.kind
at_first n zero v e = subst (λ (u : Known). is_fresh u.kind) (some-injective _ _ e) tt
at_first n (suc id) v e = absurd (some-ne-none v (sym e))

only_place : (x v : Known) (i : ℕ) → get_elem? (x ∷ []) i ≡ some v → i ≡ 0
only_place x v zero e = refl
only_place x v (suc i) e = absurd (some-ne-none v (sym e))

-- a seat that is not the first one sits at a table whose history is known
runs_of : (n id : ℕ) (v : Known) (words : List ℕ) (views : List Known) → (is_fresh v.kind → ⊥) → Starts n words views ⊎ Runs words views → get_elem? views id ≡ some v → Runs words views
runs_of n id v words views not (inl s) at = absurd (not (at_first n id v (subst (λ (l : List Known). get_elem? l id ≡ some v) s.views_are at)))
runs_of n id v words views not (inr r) at = r

-- one view changes, under the same history
runs_set : (words : List ℕ) (views : List Known) (r : Runs words views) (id : ℕ) (w : Known) → Fits r.history r.core id w → Runs words (set views id w)
runs_set words views r id w fits = record {
  history = r.history;
  core = r.core;
  word = r.word;
  each = λ j u e.
      ⊎_elim
      (λ (x : (j ≡ id) × (w ≡ u)). subst (λ (y : ℕ × Known). Fits r.history r.core y.0 y.1) (λ i. (sym x.0 i, x.1 i)) fits)
      (λ (x : (j ≢ id) × (get_elem? views j ≡ some u)). r.each j u x.1)
      (at_set views id j w u e);
}

-- one view is added
runs_more : (words : List ℕ) (views : List Known) (r : Runs words views) (w : Known) → ((by : ℕ) → Fits r.history r.core by w) → Runs words (views ++ w ∷ [])
runs_more words views r w fits = record {
  history = r.history;
  core = r.core;
  word = r.word;
  each = λ j u e. ⊎_elim (λ was. r.each j u was) (λ (x : w ≡ u). subst (Fits r.history r.core j) x (fits j)) (at_snoc views w u j e);
}

-- under a longer history only what the core's seat knows is another
fits_grown : (h g : History) (core id : ℕ) → HasGrown h g → id ≡ core → (k : Kind) (j : ℕ) (v : Known) → j ≢ id → FitsAs k h core j v → FitsAs k g core j v
fits_grown h g core id more here Fresh j v apart f = f
fits_grown h g core id more here Leads j v apart f = absurd (apart (f.0 ∙ sym here))
fits_grown h g core id more here Follows j v apart f = (grown_on v.list h g f.0 more, grown_on v.aside h g f.1 more)
fits_grown h g core id more here Gone j v apart f = tt

-- ---- the word

word_after : (words : List ℕ) (n : ℕ) (f : ℕ → ℕ) → words ≡ n ∷ [] → slice_set words 0 (f (slice_index words 0)) ≡ f n ∷ []
word_after words n f is = ap (λ (ws : List ℕ). slice_set ws 0 (f (slice_index ws 0))) is

word_same : (words : List ℕ) (n : ℕ) → words ≡ n ∷ [] → slice_set words 0 (slice_index words 0) ≡ words
word_same words n is = word_after words n (λ x. x) is ∙ sym is

number_read : (words : List ℕ) (n : ℕ) → words ≡ n ∷ [] → slice_index words 0 ≡ n
number_read words n is = ap (λ (ws : List ℕ). slice_index ws 0) is

-- ---- the steps

settles : (n slots id : ℕ) (fits : History → Type 0) (h : History) → fits h → number h ≡ n
    → Allows (Kept n) slots id (newcomer n, []) 0 (λ x. x) (Settles fits (step slots 0 0 0 none) (newcomer n, []))
settles n slots id fits h fit next s holds room at small =
    ⊎_elim
    (λ (k : Starts n s.words s.views). (
      leader h,
      keeps,
      tt,
      inr record {
        history = h;
        core = id;
        word = word_same s.words n k.word ∙ k.word ∙ ap (λ (x : ℕ). x ∷ []) (sym next);
        each = λ j u e. only (only_place (newcomer n) (newcomer n) id (subst (λ (l : List Known). get_elem? l id ≡ some (newcomer n)) k.views_are at)) j u (subst (λ (l : List Known). get_elem? (set l id (leader h)) j ≡ some u) k.views_are e);
      },
      (fit, next, refl),
    ))
    (λ (k : Runs s.words s.views). absurd (k.each id (newcomer n) at))
    holds
  where
    only : id ≡ 0 → (j : ℕ) (u : Known) → get_elem? (set (newcomer n ∷ []) id (leader h)) j ≡ some u → Fits h id j u
    only here j u e =
        ⊎_elim
        (λ (x : (j ≡ id) × (leader h ≡ u)). subst (λ (y : ℕ × Known). Fits h id y.0 y.1) (λ i. (sym x.0 i, x.1 i)) (refl, refl, same_grown h))
        (λ (x : (j ≢ id) × (get_elem? (newcomer n ∷ []) j ≡ some u)). absurd (x.0 (only_place (newcomer n) u j x.1 ∙ sym here)))
        (at_set (newcomer n ∷ []) id j (leader h) u e)

publishes : (n slots id k : ℕ) (h : History) (a : Accepted) → k ≡ number h + 1
    → Allows (Kept n) slots id (leader h, []) 0 (λ x. max x k) (Publishes a (step slots 0 k 0 none) (leader h, []))
publishes n slots id k h a next s holds room at small =
    let r = runs_of n id (leader h) s.words s.views (λ e. e) holds at in
    let mine = r.each id (leader h) at in
    let same : h ≡ r.history = mine.1 in (
      leader (grown h a),
      keeps,
      tt,
      inr record {
        history = grown h a;
        core = r.core;
        word = word_after s.words (number r.history) (λ x. max x k) r.word ∙ ap (λ (x : ℕ). x ∷ []) (omega (arith, number_of_grown h a, ap number same, next));
        each = λ j u e.
            ⊎_elim
            (λ (x : (j ≡ id) × (leader (grown h a) ≡ u)). subst (λ (y : ℕ × Known). Fits (grown h a) r.core y.0 y.1) (λ i. (sym x.0 i, x.1 i)) (mine.0, refl, same_grown (grown h a)))
            (λ (x : (j ≢ id) × (get_elem? s.views j ≡ some u)). fits_grown h (grown h a) r.core id (one_more h a) mine.0 u.kind j u x.0 (subst (λ (g : History). Fits g r.core j u) (sym same) (r.each j u x.1)))
            (at_set s.views id j (leader (grown h a)) u e);
      },
      refl,
    )

looks : (n slots id : ℕ) (h g : History) → Allows (Kept n) slots id (following h g, []) 0 (λ x. x) (Looks (step slots 0 0 0 none) (following h g, []))
looks n slots id h g s holds room at small =
    let r = runs_of n id (following h g) s.words s.views (λ e. e) holds at in
    let mine : HasGrown h r.history × HasGrown g r.history = r.each id (following h g) at in (
      follower r.history,
      keeps,
      tt,
      inr (subst (λ ws. Runs ws (set s.views id (follower r.history))) (sym (word_same s.words (number r.history) r.word)) (runs_set s.words s.views r id (follower r.history) (same_grown r.history, same_grown r.history))),
      (mine.0, mine.1, number_read s.words (number r.history) r.word, refl),
    )

compares : (n slots id : ℕ) (h g : History) → Allows (Kept n) slots id (leading h g, []) 0 (λ x. x) (Compares (step slots 0 0 0 none) (leading h g, []))
compares n slots id h g s holds room at small =
    let r = runs_of n id (leading h g) s.words s.views (λ e. e) holds at in
    let mine = r.each id (leading h g) at in (
      leader h,
      keeps,
      tt,
      inr (subst (λ ws. Runs ws (set s.views id (leader h))) (sym (word_same s.words (number r.history) r.word)) (runs_set s.words s.views r id (leader h) (mine.0, mine.1, subst (HasGrown h) mine.1 (same_grown h)))),
      (subst (HasGrown g) (sym mine.1) mine.2, refl),
    )

core_splits : (n id : ℕ) (h : History) → Splits (Kept n) id (leader h) (leader h) (follower h)
core_splits n id h s holds at =
    let r = runs_of n id (leader h) s.words s.views (λ e. e) holds at in
    let mine = r.each id (leader h) at in
    let all : HasGrown h r.history = subst (HasGrown h) mine.1 (same_grown h) in
    inr (subst (λ vs. Runs s.words (vs ++ follower h ∷ [])) (sym (set_again s.views id (leader h) at)) (runs_more s.words s.views r (follower h) (λ by. (all, all))))

seen_splits : (n id : ℕ) (h : History) → Splits (Kept n) id (follower h) (follower h) (follower h)
seen_splits n id h s holds at =
    let r = runs_of n id (follower h) s.words s.views (λ e. e) holds at in
    inr (subst (λ vs. Runs s.words (vs ++ follower h ∷ [])) (sym (set_again s.views id (follower h) at)) (runs_more s.words s.views r (follower h) (λ by. r.each id (follower h) at)))

-- what the other seat knows is a beginning of the history, and so it may stand beside what this one knows
joins : (n id : ℕ) (v : Known) (other : ℕ) (g : History) → (is_fresh v.kind → ⊥) → ((h : History) (core by : ℕ) → Fits h core by v → HasGrown g h → Fits h core by (beside v (follower g)))
    → Joins (Kept n) id v other (follower g) (beside v (follower g)) gone
joins n id v other g not fits s holds at apart there =
    let w = beside v (follower g) in
    let r = runs_of n id v s.words s.views not holds at in
    let theirs : HasGrown g r.history × HasGrown g r.history =
    ⊎_elim
    (λ (t : (other ≡ id) × (w ≡ follower g)). absurd (apart t.0))
    (λ (t : (other ≢ id) × (get_elem? s.views other ≡ some (follower g))). r.each other (follower g) t.1)
    (at_set s.views id other w (follower g) there) in
    inr (runs_set s.words (set s.views id w) (runs_set s.words s.views r id w (fits r.history r.core id (r.each id v at) theirs.0)) other gone tt)

core_joins : (n id : ℕ) (h : History) (other : ℕ) (g : History) → Joins (Kept n) id (leader h) other (follower g) (leading h g) gone
core_joins n id h other g = joins n id (leader h) other g (λ e. e) (λ k core by f more. (f.0, f.1, more))

seen_joins : (n id : ℕ) (h : History) (other : ℕ) (g : History) → Joins (Kept n) id (follower h) other (follower g) (following h g) gone
seen_joins n id h other g = joins n id (follower h) other g (λ e. e) (λ k core by f more. (f.0, more))

-- ---- the steps, at a seat of which it is known what it knows

pub settles_as : (n slots id : ℕ) (me : Me (Unit {0}) Known) (fits : History → Type 0) (h : History) → me ≡ (newcomer n, []) → fits h → number h ≡ n
    → Allows (Kept n) slots id me 0 (λ x. x) (Settles fits (step slots 0 0 0 none) me)
settles_as n slots id me fits h is fit next = subst (λ (m : Me (Unit {0}) Known). Allows (Kept n) slots id m 0 (λ x. x) (Settles fits (step slots 0 0 0 none) m)) (sym is) (settles n slots id fits h fit next)

pub publishes_as : (n slots id : ℕ) (me : Me (Unit {0}) Known) (k : ℕ) (h : History) (a : Accepted) → me ≡ (leader h, []) → k ≡ number h + 1
    → Allows (Kept n) slots id me 0 (λ x. max x k) (Publishes a (step slots 0 k 0 none) me)
publishes_as n slots id me k h a is next = subst (λ (m : Me (Unit {0}) Known). Allows (Kept n) slots id m 0 (λ x. max x k) (Publishes a (step slots 0 k 0 none) m)) (sym is) (publishes n slots id k h a next)

pub looks_as : (n slots id : ℕ) (me : Me (Unit {0}) Known) (h g : History) → me ≡ (following h g, []) → Allows (Kept n) slots id me 0 (λ x. x) (Looks (step slots 0 0 0 none) me)
looks_as n slots id me h g is = subst (λ (m : Me (Unit {0}) Known). Allows (Kept n) slots id m 0 (λ x. x) (Looks (step slots 0 0 0 none) m)) (sym is) (looks n slots id h g)

pub compares_as : (n slots id : ℕ) (me : Me (Unit {0}) Known) (h g : History) → me ≡ (leading h g, []) → Allows (Kept n) slots id me 0 (λ x. x) (Compares (step slots 0 0 0 none) me)
compares_as n slots id me h g is = subst (λ (m : Me (Unit {0}) Known). Allows (Kept n) slots id m 0 (λ x. x) (Compares (step slots 0 0 0 none) m)) (sym is) (compares n slots id h g)

pub core_splits_as : (n id : ℕ) (v : Known) (h : History) → v ≡ leader h → Splits (Kept n) id v v (seen_of v)
core_splits_as n id v h is = subst (λ (u : Known). Splits (Kept n) id u u (seen_of u)) (sym is) (core_splits n id h)

pub seen_splits_as : (n id : ℕ) (v : Known) (h : History) → v ≡ follower h → Splits (Kept n) id v v (seen_of v)
seen_splits_as n id v h is = subst (λ (u : Known). Splits (Kept n) id u u (seen_of u)) (sym is) (seen_splits n id h)

pub core_joins_as : (n id : ℕ) (v : Known) (h : History) (other : ℕ) (w : Known) (g : History) → v ≡ leader h → w ≡ follower g → Joins (Kept n) id v other w (beside v w) gone
core_joins_as n id v h other w g is was = subst (λ (x : Known × Known). Joins (Kept n) id x.0 other x.1 (beside x.0 x.1) gone) (λ i. (sym is i, sym was i)) (core_joins n id h other g)

pub seen_joins_as : (n id : ℕ) (v : Known) (h : History) (other : ℕ) (w : Known) (g : History) → v ≡ follower h → w ≡ follower g → Joins (Kept n) id v other w (beside v w) gone
seen_joins_as n id v h other w g is was = subst (λ (x : Known × Known). Joins (Kept n) id x.0 other x.1 (beside x.0 x.1) gone) (λ i. (sym is i, sym was i)) (seen_joins n id h other g)
