use Rattle.std.proofs.Common.{ℕ, ◌+◌, ◌≤◌, ◌^◌, List, arith, subst, sym}
use Rattle.std.proofs.Math.Logic.{∥∥₁_map}
use Rattle.std.proofs.lemmas.List.Elements.{All-push}
use Rattle.fjall_memtable.specs.Held.{held_of}
use Rattle.fjall_memtable.specs.Memories.{memory_of}
use Rattle.fjall_memtable.specs.Parts.{IsHeld, Memory, clears_in, parts_of}
use Rattle.fjall_memtable.specs.Shares.{shared}
use Rattle.fjall_memtable.proofs.Apart.{all_held}
use Rattle.fjall_tree.specs.Trees.{IsShape}
use Rattle.fjall_tree.proofs.Ingested.{ingested_shape}
use Rattle.fjall_tree.proofs.Outstanding.{merge_stays, more_than}
use Rattle.fjall_tree.proofs.tree.Tree.put_ingestion.Goals as goal

pub invariant_of-self : goal.invariant_of-self
invariant_of-self c =
    let m = c.args.self.now in
    let sealed = shared m.parts.sealed.items in
    let held = All-push IsHeld sealed (held_of m.parts.active) (all_held m.parts.sealed.items) m.parts.active.held in
    let small : c.args.number + 1 ≤ 2 ^ 63 = (let lt = c.requires.number in omega (arith, lt)) in
    let until : (memory_of m.parts).active.until ≤ c.args.number + 1 = (let le = c.requires.until in omega (arith, le)) in
    let more = clears_in (parts_of (memory_of m.parts)) in
    record {
      shape = subst (λ (x : List ℕ × Memory). IsShape x.0 x.1) (λ i. (sym c.requires.clears i, sym c.new.ensures i)) (ingested_shape (c.args.number + 1) m.clears.items (memory_of m.parts) small until held m.parts.apart m.shape);
      flushing = ∣ c.stale.ensures.of (memory_of c.new.result).sealed ∣₁;
      merging = ∥∥₁_map m.merging (merge_stays m.tables.items c.put_in_room.new.tables.items m.clears.items c.args.clears.items m.merge
          (more_than m.tables.items c.args.made.items c.put_in_room.new.tables.items c.put_in_room.ensures) (more_than m.clears.items more c.args.clears.items c.requires.clears));
    }
