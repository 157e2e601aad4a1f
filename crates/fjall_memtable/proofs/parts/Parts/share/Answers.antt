use Rattle.std.proofs.Common.{List, ap, sym, take, ◌∙◌}
use Rattle.std.proofs.lemmas.List.{take-map, take_all}
use Rattle.std.specs.declared.alloc.Global.{Global}
use Rattle.std.specs.declared.sync.Arc.{Arc}
use Rattle.fjall_memtable.specs.declared.part.Part.{Part}
use Rattle.fjall_memtable.specs.Held.{held_of}
use Rattle.fjall_memtable.specs.Shares.{shared}
use Rattle.fjall_memtable.proofs.parts.Parts.share.Goals as goal

pub returns : goal.returns
returns c =
    let m = c.args.self.now in
    c.loop-part.invariant
    ∙ ap shared (take_all c.loop-part.part-index (take c.args.count c.as_slice.result.now) c.loop-part-test.false)
    ∙ ap (λ (parts : List (Arc Part Global)). shared (take c.args.count parts)) c.as_slice.ensures.value
    ∙ sym (take-map (λ part. held_of part.value) c.args.count m.sealed.items)
