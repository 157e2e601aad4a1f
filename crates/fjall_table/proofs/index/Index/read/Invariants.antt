use Rattle.std.proofs.Common.{map, length}
use Rattle.fjall_table.specs.TableReading.{handle_of}
use Rattle.fjall_table.proofs.Indexes.{Reads}
use Rattle.fjall_table.proofs.index.Index.read.Given as goal

abbrev pub invariant-loop-last_key : goal.invariant-loop-last_key
invariant-loop-last_key l = Reads l.framed (map handle_of l.handles.items) l.last_key l.at l.data_len l.rest

abbrev pub decreases-loop-last_key : goal.decreases-loop-last_key
decreases-loop-last_key l = length l.rest
