use Rattle.std.proofs.Common.{◌≡◌, ◌++◌, map, drop}
use Rattle.fjall_table.specs.Owned.{keys_text}
use Rattle.fjall_table.specs.TableReading.{handle_of}
use Rattle.fjall_table.proofs.owned_index.keys_of.Given as goal

abbrev pub invariant-loop-handle : goal.invariant-loop-handle
invariant-loop-handle l = l.text.items ++ keys_text (map handle_of (drop l.handle-index l.handles)) ≡ keys_text (map handle_of l.handles)
