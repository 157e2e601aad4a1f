use Rattle.std.proofs.Common.{◌≡◌, ℕ, ◌++◌, List, None, Option, ap, subst, sym, ◌∙◌}
use Rattle.std.proofs.Math.Logic.{∥∥₁_map}
use Rattle.std.specs.Option.{option_map}
use Rattle.std.proofs.lemmas.List.Elements.{All-push}
use Rattle.fjall_memtable.specs.Held.{held_of}
use Rattle.fjall_memtable.specs.Memories.{memory_of}
use Rattle.fjall_memtable.specs.Parts.{IsHeld}
use Rattle.fjall_memtable.specs.Shares.{shared}
use Rattle.fjall_memtable.proofs.Apart.{all_held}
use Rattle.fjall_tree.specs.declared.out.FlushOut.{FlushOut}
use Rattle.fjall_tree.specs.Out.{IsFlushOf, flushing}
use Rattle.fjall_tree.specs.Shapes.{shape_of}
use Rattle.fjall_tree.proofs.Flushed.{clears_kept, shape_finished}
use Rattle.fjall_tree.proofs.Outstanding.{merge_stays, more_than}
use Rattle.fjall_tree.proofs.tree.Tree.finish_flush.Goals as goal

pub invariant_of-self-2 : goal.invariant_of-self-2
invariant_of-self-2 c =
    let m = c.args.self.now in
    let sealed = shared m.parts.sealed.items in
    let out = c.in-Some.out in
    let kept = subst (λ (f : Option FlushOut). ∥ IsFlushOf sealed f ∥₁) c.in-Some.is m.flushing in
    let more = clears_kept sealed out.count out.clears.items kept in
    let clears = c.in_ok-put_behind.ensures.clears ∙ ap (λ (l : List ℕ). m.clears.items ++ l) c.as_slice.ensures.value in
    let tables = c.in_ok-put_behind.ensures.tables in
    let none : c.take.new.self ≡ None = c.take.ensures.after in
    let held = All-push IsHeld sealed (held_of m.parts.active) (all_held m.parts.sealed.items) m.parts.active.held in
    record {
      shape = shape_finished m.clears.items c.put_behind.new.clears.items out.clears.items (memory_of m.parts) (memory_of c.remove_sealed.new.self) out.count held m.parts.apart m.shape clears c.remove_sealed.ensures more;
      flushing = subst (λ (f : Option FlushOut). ∥ IsFlushOf (shared c.remove_sealed.new.self.sealed.items) f ∥₁) (sym none) ∣ tt ∣₁;
      merging = ∥∥₁_map m.merging (merge_stays m.tables.items c.put_behind.new.tables.items m.clears.items c.put_behind.new.clears.items m.merge (more_than m.tables.items c.args.tables.items c.put_behind.new.tables.items tables) (more_than m.clears.items out.clears.items c.put_behind.new.clears.items clears));
    }

pub returns-clause-finished : goal.returns-clause-finished
returns-clause-finished c done =
    let m = c.args.self.now in
    let sealed = shared m.parts.sealed.items in
    let out = c.in-Some.out in
    let kept = subst (λ (f : Option FlushOut). ∥ IsFlushOf sealed f ∥₁) c.in-Some.is m.flushing in
    let more = clears_kept sealed out.count out.clears.items kept in
    let clears = c.in_ok-put_behind.ensures.clears ∙ ap (λ (l : List ℕ). m.clears.items ++ l) (c.as_slice.ensures.value ∙ more) in
    let tables = c.in_ok-put_behind.ensures.tables in
    let none : c.take.new.self ≡ None = c.take.ensures.after in
    let left = c.remove_sealed.ensures in
    rw c.in-Some.is (λ i. record { tables = tables i; clears = clears i; memory = left i; flush = ap (option_map flushing) none i; merge = (shape_of m).merge })
