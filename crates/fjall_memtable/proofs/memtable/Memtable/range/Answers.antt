use Rattle.std.proofs.Common.{◌∙◌, filter}
use Rattle.std.specs.BTreeMap.Range.{range_contains}
use Rattle.fjall_memtable.specs.Stamps.{stamp_cmp}
use Rattle.fjall_base.specs.Pairs.{key_range, is_within}
use Rattle.fjall_memtable.specs.Entries.{entries_kept, stamp_of}
use Rattle.fjall_memtable.proofs.Ranges.{range_is, same_within}
use Rattle.fjall_memtable.proofs.memtable.Memtable.range.Goals as goal

pub returns-clause-versions : goal.returns-clause-versions
returns-clause-versions c =
    let m = c.args.self.now in
    c.part.ensures.versions
    ∙ (λ i. filter (λ e. range_contains stamp_cmp (c.in_ok-start.ensures i) (c.in_ok-end.ensures i) (stamp_of e)) (entries_kept m))
    ∙ range_is m.text.items (key_range c.run_forward.result) m.map.entries m.all.placed
    ∙ same_within (is_within (key_range c.run_forward.result)) (is_within (key_range c.args.range)) c.run_forward.ensures.same (entries_kept m)
