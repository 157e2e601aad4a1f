use Rattle.std.proofs.Common.{◌≡◌, ◌++◌, List, ap, arith, length, map, subst, sym, ◌∙◌}
use Rattle.std.specs.List.{All}
use Rattle.std.specs.Vec.{with_items}
use Rattle.std.proofs.lemmas.List.{with_items_is}
use Rattle.std.proofs.lemmas.List.Elements.{All-push}
use Rattle.std.proofs.lemmas.Result.{IfOk-weaker}
use Rattle.fjall_base.specs.Pairs.{key_range}
use Rattle.fjall_table.specs.Blocks.{Entry}
use Rattle.fjall_memtable.specs.Jobs.{OnceEach}
use Rattle.fjall_memtable.specs.Sorted.{IsInTurn, flat, in_turn}
use Rattle.fjall_table_reader.specs.Readers.{AreRead, Reader}
use Rattle.fjall_memtable.specs.Held.{held_of}
use Rattle.fjall_memtable.specs.Memories.{memory_of}
use Rattle.fjall_memtable.specs.Parts.{IsHeld, parts_of}
use Rattle.fjall_memtable.specs.Shares.{shared}
use Rattle.fjall_memtable.proofs.Apart.{all_held}
use Rattle.fjall_tree.specs.Shapes.{shape_of}
use Rattle.fjall_tree.proofs.Outstanding.{merge_read, same_count, same_shape}
use Rattle.fjall_tree.proofs.Paging.{all_once, memory_ordered, page_found, pages_once}
use Rattle.fjall_tree.proofs.tree.Tree.page.Goals as goal

pub returns-in_err-memory-clause-shape : goal.returns-in_err-memory-clause-shape
returns-in_err-memory-clause-shape g c = same_shape (shape_of c.args.self.now)

pub invariant_of-self-2 : goal.invariant_of-self-2
invariant_of-self-2 g c =
    let m = c.args.self.now in
    let v = m.tables in
    let new = c.page.new.tables in
    let same = same_count c.as_mut_slice-tables.result.now new c.page.ensures.tables in
    let len : length new ≡ v.len = omega (arith, same, ap length c.as_mut_slice-tables.ensures.value, v.ok.0) in
    let count : length (with_items v new).items ≡ length v.items = ap length (with_items_is v new len) ∙ len ∙ v.ok.0 in
    record { shape = m.shape; flushing = m.flushing; merging = merge_read v.items (with_items v new).items m.clears.items m.merge count m.merging }

pub returns-clause-found : goal.returns-clause-found
returns-clause-found g c honest entries r pairs view =
    let m = c.args.self.now in
    let range = key_range c.args.range in
    let back = c.args.back in
    let held = All-push IsHeld (shared m.parts.sealed.items) (held_of m.parts.active) (all_held m.parts.sealed.items) m.parts.active.held in
    let runs = c.in_ok-memory.ensures in
    let tables = subst (λ (ts : List Reader). AreRead (g.D.Disk.meaning c.args.disk.now) ts entries) (sym c.as_mut_slice-tables.ensures.value) r.tables in
    let ordered = subst (All (IsInTurn back)) (sym runs) (memory_ordered range back (parts_of (memory_of m.parts)) held) in
    let once = subst (λ (rs : List (List Entry)). OnceEach (flat entries ++ flat (map (in_turn back) rs))) (sym runs) (pages_once (shape_of m) entries held m.parts.apart r.below r.once range back) in
    IfOk-weaker c.page.result _ _
    (λ found is. page_found range back c.args.instant c.barrier.result c.args.max (shape_of m) entries c.in_ok-memory.memory.items pairs found.items (all_once (shape_of m) entries held m.parts.apart r.below r.once) view c.barrier.ensures runs is)
    (c.page.ensures.pairs honest entries tables ordered once)
