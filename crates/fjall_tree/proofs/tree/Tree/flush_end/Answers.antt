use Rattle.std.proofs.Common.{◌≡◌, ◌<◌, ℕ, Option, ap, drop, get_or, length, subst, sym, ◌∙◌}
use Rattle.std.proofs.Math.ListN.{length-map, get_or-map}
use Rattle.std.specs.declared.alloc.Global.{Global}
use Rattle.std.specs.declared.sync.Arc.{Arc}
use Rattle.std.specs.Option.{option_map}
use Rattle.fjall_memtable.specs.declared.part.Part.{Part}
use Rattle.fjall_memtable.specs.Parts.{HeldPart}
use Rattle.fjall_memtable.specs.Held.{held_of}
use Rattle.fjall_memtable.specs.Shares.{shared}
use Rattle.fjall_tree.specs.declared.out.FlushOut.{FlushOut}
use Rattle.fjall_tree.specs.Jobs.{count_out}
use Rattle.fjall_tree.specs.Out.{flushing}
use Rattle.fjall_tree.specs.Shapes.{shape_of}
use Rattle.fjall_tree.specs.Trees.{first_from}
use Rattle.fjall_tree.proofs.Flushed.{from_behind}
use Rattle.fjall_tree.proofs.tree.Tree.flush_end.Goals.{in-Some, in-None}
use Rattle.fjall_tree.proofs.tree.Tree.flush_end.Goals as goal

pub returns-in-Some-get : goal.returns-in-Some-get
returns-in-Some-get c =
    let shape = shape_of c.args.self.now in
    let items = c.sealed.result.now in
    let part = c.in-Some-get.part.now in
    let n = c.match-self.count in
    let held = λ (p : Arc Part Global). held_of p.value in
    let found = c.in-Some-get.ensures.lookup.3 in
    let out = λ (f : Option FlushOut). count_out (option_map flushing f) in
    let counted : count_out shape.flush ≡ n =
    elim c.match-self.branch [ in-Some w ↦ ap out w.in-Some.is ∙ sym w.count-is | in-None w ↦ ap out w.in-None.is ∙ sym w.count-is ] in
    let within : n < length (shared items) = subst (λ (k : ℕ). n < k) (sym (length-map items held)) found.0 in
    let there = from_behind n (shared items) shape.memory.active (held part) within in
    let here : get_or (shared items) n (held part) ≡ held part = get_or-map held items n part ∙ ap held (sym (found.1 part)) in
    c.from.ensures
    ∙ ap (λ (p : Part). p.from) c.deref.ensures
    ∙ ap (λ (h : HeldPart). h.from) (sym here)
    ∙ sym there
    ∙ (λ i. first_from (drop (sym counted i) (c.sealed.ensures i)) shape.memory.active)
