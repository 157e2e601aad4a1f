-- All active memtables sealed, one tree after another.
use Rattle.std.proofs.Common.{◌≡◌, ℕ, zero, suc, ◌+◌, Bool, true, false, cond, not, List, [], ◌∷◌, set, slice_get, add-one, Some, refl, sym, ap, ◌∙◌}
use Rattle.std.specs.Option.{option_map}
use Rattle.std.proofs.lemmas.List.{map-set}
use Rattle.std.proofs.lemmas.Option.{slice_get-map}
use Rattle.fjall_base.proofs.Codecs.{some_is}
use Rattle.fjall_memtable.specs.Parts.{holds_nothing}
use Rattle.fjall_tree.specs.declared.tree.Tree.{Tree}
use Rattle.fjall_tree.specs.Shapes.{shape_of}
use Rattle.fjall_tree.specs.Trees.{Shape, sealed_off}
use Rattle.fjall_trees.specs.declared.trees.KeyspaceTree.{KeyspaceTree}
use Rattle.fjall_trees.specs.Forests.{Forest, Planted}
use Rattle.fjall_trees.specs.Lists.{forest_in, planted}
use Rattle.fjall_trees.specs.Sealing.{first_sealed, sealed_once}

-- a tree after its rotation
pub rotated_once : (is_sealed : Bool) (old new : Shape) → is_sealed ≡ not (holds_nothing old.memory.active) → (is_sealed ≡ true → new ≡ sealed_off old)
    → (is_sealed ≡ false → new ≡ old) → new ≡ sealed_once old
unfolding sealed_once
rotated_once true old new is made same = by (holds_nothing old.memory.active) is
  where
    by : (b : Bool) → true ≡ not b → new ≡ cond b old (sealed_off old)
    by true e = cc
    by false e = made refl
rotated_once false old new is made same = by (holds_nothing old.memory.active) is
  where
    by : (b : Bool) → false ≡ not b → new ≡ cond b old (sealed_off old)
    by true e = same refl
    by false e = cc

-- one more
one_sealed : (trees : Forest) (n : ℕ) (k : Planted) → slice_get (first_sealed n trees) n ≡ Some k
    → set (first_sealed n trees) n (record { id = k.id; shape = sealed_once k.shape }) ≡ first_sealed (suc n) trees
one_sealed [] zero k here = cc
one_sealed [] (suc n) k here = cc
one_sealed (j ∷ trees) zero k here = ap (λ (x : Planted). (let y : Planted = record { id = x.id; shape = sealed_once x.shape } in y ∷ trees)) (sym (some_is j k here))
one_sealed (j ∷ trees) (suc n) k here = ap (λ (f : Forest). (let y : Planted = record { id = j.id; shape = sealed_once j.shape } in y ∷ f)) (one_sealed trees n k here)

pub sealed_more : (trees : Forest) (ks : List KeyspaceTree) (n : ℕ) (k : KeyspaceTree) (new : Tree) → forest_in ks ≡ first_sealed n trees → slice_get ks n ≡ Some k
    → shape_of new ≡ sealed_once (shape_of k.tree)
    → forest_in (set ks n (record { id = k.id; tree = new })) ≡ first_sealed (n + 1) trees
sealed_more trees ks n k new so_far here made =
    map-set planted ks n (record { id = k.id; tree = new })
    ∙ (λ i. set (so_far i) n (record { id = k.id; shape = made i }))
    ∙ one_sealed trees n (planted k) (ap (λ (f : Forest). slice_get f n) (sym so_far) ∙ slice_get-map planted ks n ∙ ap (option_map planted) here)
    ∙ ap (λ m. first_sealed m trees) (sym (add-one n))
