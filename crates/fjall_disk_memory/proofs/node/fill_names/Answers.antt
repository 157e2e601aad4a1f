use Rattle.std.proofs.Common.{List, sym, ap, ◌∙◌, arith}
use Rattle.std.proofs.lemmas.List.{take_all}
use Rattle.fjall_base.specs.Disk.{disk_of}
use Rattle.fjall_disk_memory.specs.Wild.{filled, fills_of}
use Rattle.fjall_disk_memory.proofs.Filled.{Given, next_filled}
use Rattle.fjall_disk_memory.proofs.node.fill_names.Goals as goal

pub loop-name-preserved : goal.loop-name-preserved
loop-name-preserved c image at = let h = c.in_ok-fill_name.ensures _ (c.loop-name.invariant image at) in h ∙ ap disk_of (sym (next_filled c.args.fill.now c.loop-name.name-index _ image c.loop-name-test.true))

pub returns : goal.returns
returns c image at =
    c.loop-name.invariant image at ∙ ap (λ (l : List Given). disk_of (filled (fills_of l) image)) (take_all c.loop-name.name-index c.args.fill.now (omega arith))
