use Rattle.std.proofs.Common.{List, [], ◌∷◌, ◌++◌, ap, map, ◌∙◌}
use Rattle.fjall_base.specs.Pairs.{key_range}
use Rattle.fjall_memtable.specs.declared.part.Part.{Part}
use Rattle.fjall_memtable.specs.Held.{held_of}
use Rattle.fjall_memtable.specs.Parts.{HeldPart}
use Rattle.fjall_tree.specs.Pages.{run_of}
use Rattle.fjall_tree.proofs.Paging.{run_taken, runs_of_all}
use Rattle.fjall_tree.proofs.pages.memory_runs.Goals as goal

pub loop-part-preserved : goal.loop-part-preserved
loop-part-preserved c =
    let range = key_range c.args.range in
    let here = c.in_ok-part_run.ensures ∙ ap (λ (p : Part). run_of range c.args.back (held_of p)) c.deref.ensures in
    run_taken range c.args.back c.sealed-sealed.result.now c.loop-part.part-index c.part-item.result c.loop-part.runs.items c.push.new.self.items c.in_ok-part_run.field-0
    c.loop-part-test.true c.part-item.is c.loop-part.invariant here c.in_ok-push.ensures.items

pub returns : goal.returns
returns c =
    let range = key_range c.args.range in
    let active = held_of c.args.parts.now.active in
    let here = c.in_ok-part_run-2.ensures ∙ ap (run_of range c.args.back) c.active.ensures in
    runs_of_all range c.args.back c.sealed-sealed.result.now active c.loop-part.part-index c.loop-part.runs.items c.push-2.new.self.items c.in_ok-part_run-2.field-0 c.loop-part-test.false c.loop-part.invariant here c.in_ok-push-2.ensures.items
    ∙ ap (λ (hs : List HeldPart). map (run_of range c.args.back) (hs ++ active ∷ [])) c.sealed-sealed.ensures
