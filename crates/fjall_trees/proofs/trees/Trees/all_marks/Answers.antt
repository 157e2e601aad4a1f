use Rattle.std.proofs.Common.{◌≡◌, ℕ, ◌+◌, List, [], ◌∷◌, ◌++◌, add-one, ap, refl, subst, sym, take, ◌∙◌}
use Rattle.std.proofs.Math.Seq.{take-suc}
use Rattle.std.proofs.lemmas.List.{take_all}
use Rattle.fjall_memtable.specs.declared.mark.Mark.{Mark}
use Rattle.fjall_trees.specs.declared.trees.KeyspaceTree.{KeyspaceTree}
use Rattle.fjall_trees.proofs.Marking.{Marked, marked_more}
use Rattle.fjall_trees.proofs.trees.Trees.all_marks.Goals as goal

pub loop-planted-preserved : goal.loop-planted-preserved
loop-planted-preserved c =
    let ks = c.as_slice-trees.result.now in
    let i = c.loop-planted.planted-index in
    let k = c.planted-item.result in
    let more : take (i + 1) ks ≡ take i ks ++ k ∷ [] = ap (λ (n : ℕ). take n ks) (add-one i) ∙ take-suc ks i k c.loop-planted-test.true ∙ ap (λ (x : KeyspaceTree). take i ks ++ x ∷ []) (sym c.planted-item.is) in
    subst (λ (xs : List KeyspaceTree). Marked xs c.push.new.self.items) (sym more)
    (subst (λ (ms : List Mark). Marked (take i ks ++ k ∷ []) ms) (sym c.in_ok-push.ensures.items)
    (marked_more (take i ks) k c.loop-planted.marks.items c.mark.result c.loop-planted.invariant c.mark.ensures.mark c.mark.ensures.shape))

pub returns : goal.returns
returns c =
    let all = subst (λ (ks : List KeyspaceTree). Marked ks c.loop-planted.marks.items)
    (take_all c.loop-planted.planted-index c.as_slice-trees.result.now c.loop-planted-test.false ∙ c.as_slice-trees.ensures.value) c.loop-planted.invariant in
    ((refl, all.count, all.are), all.same)
