use Rattle.fjall_base.proofs.Lists.{added}
use Rattle.fjall_table.proofs.table_entry.put_entry.Goals as goal

pub returns-clause-ok : goal.returns-clause-ok
returns-clause-ok c =
    added _ _ _ _ _ _ c.header_of-header.result c.args.key.now c.args.value.now c.in_ok-reserve.ensures.items c.header_of-header.ensures
    c.in_ok-extend_from_slice.ensures.items c.in_ok-extend_from_slice-2.ensures.items c.in_ok-extend_from_slice-3.ensures.items
