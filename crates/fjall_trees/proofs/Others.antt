-- The trees of other keyspaces.
use Rattle.std.proofs.Common.{◌≡◌, ◌≢◌, ℕ, ◌==◌, Bool, true, false, cond, not, [], ◌∷◌, Option, Some, None, refl, sym, ap, ◌∙◌}
use Rattle.std.specs.Option.{option_map}
use Rattle.std.proofs.lemmas.Bool.{cond-false, cond-true, eq-eqb, eqb-true, false_from_ne_true}
use Rattle.fjall_tree.specs.Trees.{Shape}
use Rattle.fjall_trees.specs.Forests.{Forest, altered_at, tree_at, without}
use Rattle.fjall_trees.proofs.Places.{tree_each}

same_map : (f g : Shape → Shape) (o : Option Shape) → ((s : Shape) → f s ≡ g s) → option_map f o ≡ option_map g o
same_map f g None e = refl
same_map f g (Some s) e = ap (λ (t : Shape). Some t) (e s)

map_none : (o : Option Shape) → option_map (λ s. s) o ≡ o
map_none None = refl
map_none (Some s) = refl

pub altered_here : (id : ℕ) (change : Shape → Shape) (trees : Forest) → tree_at id (altered_at id change trees) ≡ option_map change (tree_at id trees)
altered_here id change trees =
    tree_each (λ n s. cond (n == id) (change s) s) id trees
    ∙ same_map (λ s. cond (id == id) (change s) s) change (tree_at id trees) (λ s. cond-true (id == id) (change s) s (eq-eqb id id refl))

pub altered_other : (id other : ℕ) (change : Shape → Shape) (trees : Forest) → other ≢ id → tree_at other (altered_at id change trees) ≡ tree_at other trees
altered_other id other change trees differ =
    tree_each (λ n s. cond (n == id) (change s) s) other trees
    ∙ same_map (λ s. cond (other == id) (change s) s) (λ s. s) (tree_at other trees)
    (λ s. cond-false (other == id) (change s) s (false_from_ne_true (other == id) (λ t. differ (eqb-true other id t))))
    ∙ map_none (tree_at other trees)

pub dropped_here : (id : ℕ) (trees : Forest) → tree_at id (without id trees) ≡ None
dropped_here id [] = refl
dropped_here id (k ∷ trees) = by (k.id == id) refl (dropped_here id trees)
  where
    by : (b : Bool) → (k.id == id) ≡ b → tree_at id (without id trees) ≡ None → tree_at id (cond (not b) (k ∷ without id trees) (without id trees)) ≡ None
    by true e more = more
    by false e more = cond-false (k.id == id) (Some k.shape) (tree_at id (without id trees)) e ∙ more

pub kept_others : (id other : ℕ) (trees : Forest) → other ≢ id → tree_at other (without id trees) ≡ tree_at other trees
kept_others id other [] differ = refl
kept_others id other (k ∷ trees) differ = by (k.id == id) refl (kept_others id other trees differ)
  where
    by : (b : Bool) → (k.id == id) ≡ b → tree_at other (without id trees) ≡ tree_at other trees
        → tree_at other (cond (not b) (k ∷ without id trees) (without id trees)) ≡ cond (k.id == other) (Some k.shape) (tree_at other trees)
    by true e more =
        more ∙ sym (cond-false (k.id == other) (Some k.shape) (tree_at other trees) (false_from_ne_true (k.id == other) (λ t. differ (sym (eqb-true k.id other t) ∙ eqb-true k.id id e))))
    by false e more = ap (λ (o : Option Shape). cond (k.id == other) (Some k.shape) o) more
