-- Each step keeps the rule of a place.
use Rattle.std.proofs.Common.{◌≡◌, ◌≢◌, ℕ, zero, suc, List, [], ◌∷◌, ◌++◌, set, refl, sym, ap, ◌∙◌, subst, inl, inr, ⊎_elim}
use Rattle.std.specs.Prelude.{Option, Some, None}
use Rattle.std.proofs.lemmas.Option.{none-some}
use mathlib.Core.Option.{some, some-ne-none, some-injective}
use lib.ListN.{get_elem?}
use Rattle.crossbeam_queue.proofs.Lists.{at_set, at_snoc}
use Rattle.crossbeam_queue.specs.Fifo.{Forks, Pushes, Pops}
use Rattle.fjall_shared.specs.Labels.{Label, label_in}
use Rattle.fjall_shared.specs.Places.{AreOf, Chosen, Fresh, Kept}

abbrev first : List (Option Label)
first = None ∷ []

first_only : (i : ℕ) (v : Option Label) → get_elem? first i ≡ some v → v ≡ None
first_only zero v e = sym (some-injective _ _ e)
first_only (suc i) v e = absurd (some-ne-none v (sym e))

one_set : (id : ℕ) (l : Label) (by : ℕ) (v : Option Label) → get_elem? first id ≡ some None → get_elem? (set first id (Some l)) by ≡ some v → v ≡ Some l
one_set zero l zero v at e = sym (some-injective _ _ e)
one_set zero l (suc by) v at e = absurd (some-ne-none v (sym e))
one_set (suc id) l by v at e = absurd (some-ne-none None (sym at))

each_set : (views : List (Option Label)) (id : ℕ) (l : Label) → ((by : ℕ) (v : Option Label) → get_elem? views by ≡ some v → v ≡ Some l) → (by : ℕ) (v : Option Label) → get_elem? (set views id (Some l)) by ≡ some v → v ≡ Some l
each_set views id l each by v e = ⊎_elim (λ (x : (by ≡ id) × (Some l ≡ v)). sym x.1) (λ (x : (by ≢ id) × (get_elem? views by ≡ some v)). each by v x.1) (at_set views id by (Some l) v e)

module _ {M : Type 0} (made_of : M → Label) where
  are_more : (l : Label) (items : List M) (p : M) → AreOf made_of l items → made_of p ≡ l → AreOf made_of l (items ++ p ∷ [])
  are_more l [] p a is = (is, tt)
  are_more l (x ∷ items) p a is = (a.0, are_more l items p a.1 is)

  -- an end that knows the job is of a place whose job is chosen
  chosen_of : (items : List M) (views : List (Option Label)) (id : ℕ) (l : Label) → Kept made_of items views → get_elem? views id ≡ some (Some l) → Chosen made_of items views
  chosen_of items views id l (inl f) at = absurd (none-some l (sym (first_only id (Some l) (subst (λ (vs : List (Option Label)). get_elem? vs id ≡ some (Some l)) f.views_are at))))
  chosen_of items views id l (inr c) at = c

  pub chooses : (id : ℕ) (w : Option Label) (l : Label) → w ≡ None → Forks (Kept made_of) id w (Some l) (Some l)
  chooses id w l is items views kept at =
      ⊎_elim
      (λ (f : Fresh made_of items views). inr record {
        job = l;
        items_are = subst (AreOf made_of l) (sym f.items_are) tt;
        each = λ by v e.
            ⊎_elim
            (λ was. one_set id l by v (subst (λ (vs : List (Option Label)). get_elem? vs id ≡ some None) f.views_are (at ∙ ap some is)) (subst (λ (vs : List (Option Label)). get_elem? (set vs id (Some l)) by ≡ some v) f.views_are was))
            (λ (x : Some l ≡ v). sym x)
            (at_snoc (set views id (Some l)) (Some l) v by e);
      })
      (λ (c : Chosen made_of items views). absurd (none-some c.job (sym is ∙ c.each id w at)))
      kept

  -- the rule stays where what an end knows stays
  stays : (items more : List M) (views : List (Option Label)) (id : ℕ) (w : Option Label) (c : Chosen made_of items views) → get_elem? views id ≡ some w → AreOf made_of c.job more → Kept made_of more (set views id w)
  stays items more views id w c at are = inr record {
    job = c.job;
    items_are = are;
    each = subst (λ (u : Option Label). (by : ℕ) (v : Option Label) → get_elem? (set views id u) by ≡ some v → v ≡ Some c.job) (sym (c.each id w at)) (each_set views id c.job c.each);
  }

  pub leaves : (n id : ℕ) (w : Option Label) (p : M) → w ≡ Some (made_of p) → Pushes (Kept made_of) n id w p (λ u. u ≡ w)
  leaves n id w p is items views room kept at =
      let c = chosen_of items views id (made_of p) kept (at ∙ ap some is) in
      let same : made_of p ≡ c.job = ap label_in (sym is ∙ c.each id w at) in (
        w,
        stays items (items ++ p ∷ []) views id w c at (are_more c.job items p c.items_are same),
        refl,
      )

  pub finds : (id : ℕ) (w : Option Label) → w ≡ Some (label_in w) → Pops (Kept made_of) id w (λ p u. (u ≡ w) × (made_of p ≡ label_in w))
  finds id w is p items views kept at =
      let c = chosen_of (p ∷ items) views id (label_in w) kept (at ∙ ap some is) in (
        w,
        stays (p ∷ items) items views id w c at c.items_are.1,
        (refl, c.items_are.0 ∙ ap label_in (sym (c.each id w at))),
      )
