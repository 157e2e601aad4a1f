use Rattle.std.proofs.Common.{ℕ, leb, List, ap, sym, ◌∙◌}
use Rattle.std.specs.List.{list_any}
use Rattle.std.proofs.lemmas.Result.{on_ok_weaker}
use Rattle.fjall_memtable.specs.Parts.{HeldPart, Memory}
use Rattle.fjall_tree.specs.Shapes.{shape_of}
use Rattle.fjall_tree.specs.Trees.{with_memory}
use Rattle.fjall_tree.proofs.Puts.{emptied_new, emptied_there}
use Rattle.fjall_tree.proofs.tree.Tree.clear_once.Goals as goal

pub returns-then-is_reached-clause-ok : goal.returns-then-is_reached-clause-ok
returns-then-is_reached-clause-ok c =
    emptied_there c.args.number (shape_of c.args.self.now)
    (sym (c.if-is_reached.ensures ∙ ap (λ (ns : List ℕ). list_any (λ n. leb c.args.number n) ns) (c.clears.ensures ∙ ap (λ (h : HeldPart). h.clears) c.active.ensures)))

pub returns-clause-ok : goal.returns-clause-ok
returns-clause-ok c =
    let shape = shape_of c.args.self.now in
    on_ok_weaker c.clear.result
    (λ made. ap (λ (m : Memory). with_memory m shape) made
    ∙ emptied_new c.args.number shape
    (sym (c.if-is_reached.ensures ∙ ap (λ (ns : List ℕ). list_any (λ n. leb c.args.number n) ns) (c.clears.ensures ∙ ap (λ (h : HeldPart). h.clears) c.active.ensures))))
    c.clear.ensures.ok
