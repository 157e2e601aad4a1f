use Rattle.fjall_index_entries.proofs.Owning.{own_keeps, own_reads}
use Rattle.fjall_index_entries.proofs.keeping_laws.own_writes_keep_the_index.Goals as goal

pub returns : goal.returns
returns c = record {
  keeps = own_keeps c.items_are_the_own_writes.ensures.items c.own_writes_grow.ensures.many;
  reads = own_reads c.items_are_the_own_writes.ensures.items;
}
