-- How many keyspaces' trees pass a test.
use Rattle.std.proofs.Common.{◌≡◌, ◌≢◌, ◌+◌, ◌↔◌, Bool, true, false, cond, IsTrue, List, [], ◌∷◌, Option, Some, None, is_some, refl, sym, ap, ◌∙◌}
use Rattle.std.specs.List.{count_by}
use Rattle.std.proofs.lemmas.List.Sums.{sum_by-cons}
use Rattle.fjall_trees.specs.declared.trees.KeyspaceTree.{KeyspaceTree}
use Rattle.fjall_trees.specs.Forests.{Planted}
use Rattle.fjall_trees.specs.Lists.{forest_in, planted}

-- a test of whether there is something
pub tells_some : {X : Type 0} (b : Bool) (o : Option X) → (IsTrue b ↔ (o ≢ None)) → b ≡ is_some o
tells_some true None so = absurd (so.0 refl refl)
tells_some true (Some x) so = refl
tells_some false None so = refl
tells_some false (Some x) so = so.1 (λ none. absurd cc)

-- the trees' count is that of what they hold
pub count_planted : (test : Planted → Bool) (ks : List KeyspaceTree) → count_by (λ k. test (planted k)) ks ≡ count_by test (forest_in ks)
count_planted test [] = refl
count_planted test (k ∷ ks) =
    sum_by-cons (λ j. cond (test (planted j)) 1 0) k ks ∙ ap (λ n. cond (test (planted k)) 1 0 + n) (count_planted test ks) ∙ sym (sum_by-cons (λ j. cond (test j) 1 0) (planted k) (forest_in ks))
