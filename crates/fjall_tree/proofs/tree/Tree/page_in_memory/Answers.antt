use Rattle.std.proofs.Common.{List, ap, map, take, sym, subst, ◌∙◌}
use Rattle.std.specs.List.{All}
use Rattle.std.proofs.lemmas.List.Elements.{All-push}
use Rattle.fjall_base.specs.Pairs.{key_range}
use Rattle.fjall_table.specs.Blocks.{Entry}
use Rattle.fjall_memtable.specs.Jobs.{OnceEach}
use Rattle.fjall_memtable.specs.Sorted.{IsInTurn, flat, in_turn, sorted}
use Rattle.fjall_memtable.specs.Held.{held_of}
use Rattle.fjall_memtable.specs.Memories.{memory_of}
use Rattle.fjall_memtable.specs.Parts.{IsHeld, parts_of}
use Rattle.fjall_memtable.specs.Shares.{shared}
use Rattle.fjall_memtable.proofs.Apart.{all_held}
use Rattle.fjall_cursors.specs.Pages.{page_of}
use Rattle.fjall_tree.specs.Shapes.{shape_of}
use Rattle.fjall_tree.proofs.Paging.{memory_once, memory_ordered, memory_page, page_told, runs_themselves}
use Rattle.fjall_tree.proofs.tree.Tree.page_in_memory.Goals as goal

pub page_of_runs-requires-clause-ordered : goal.page_of_runs-requires-clause-ordered
page_of_runs-requires-clause-ordered c =
    let m = c.args.self.now in
    let held = All-push IsHeld (shared m.parts.sealed.items) (held_of m.parts.active) (all_held m.parts.sealed.items) m.parts.active.held in
    let runs = runs_themselves c.as_mut_slice.result.now ∙ c.as_mut_slice.ensures.value ∙ c.in_ok-runs.ensures in
    subst (All (IsInTurn c.args.back)) (sym runs) (memory_ordered (key_range c.args.range) c.args.back (parts_of (memory_of m.parts)) held)

pub page_of_runs-requires-clause-once : goal.page_of_runs-requires-clause-once
page_of_runs-requires-clause-once c =
    let m = c.args.self.now in
    let held = All-push IsHeld (shared m.parts.sealed.items) (held_of m.parts.active) (all_held m.parts.sealed.items) m.parts.active.held in
    let same = runs_themselves c.as_mut_slice.result.now ∙ c.as_mut_slice.ensures.value in
    subst (λ (runs : List (List Entry)). OnceEach (flat runs)) (sym same)
    (memory_once (shape_of m) held m.parts.apart (key_range c.args.range) c.args.back c.in_ok-runs.runs.items c.in_ok-runs.ensures)

pub returns-clause-found : goal.returns-clause-found
returns-clause-found c pairs view =
    let m = c.args.self.now in
    let back = c.args.back in
    let t = c.args.instant in
    let bound = c.barrier-bound.result in
    let found = c.in_ok-pairs.pairs.items in
    let held = All-push IsHeld (shared m.parts.sealed.items) (held_of m.parts.active) (all_held m.parts.sealed.items) m.parts.active.held in
    let same = runs_themselves c.as_mut_slice.result.now ∙ c.as_mut_slice.ensures.value in
    memory_page (shape_of m) held m.parts.apart (key_range c.args.range) back t bound c.args.max c.in_ok-runs.runs.items pairs found view c.barrier-bound.ensures c.in_ok-runs.ensures
    (page_told back t bound c.args.max (flat (map (λ run. run) c.as_mut_slice.result.now)) found c.in_ok-pairs.ensures.forward c.in_ok-pairs.ensures.back
    ∙ ap (λ (runs : List (List Entry)). in_turn back (take c.args.max (page_of back t bound (in_turn back (sorted (flat runs)))))) same)
