use Rattle.std.proofs.Common.{◌≡◌, map, take}
use Rattle.std.specs.Prelude.{string_bytes}
use Rattle.fjall_repair.specs.Listing.{other_tables}
use Rattle.fjall_repair.proofs.plan.other_names.Given as goal

abbrev pub invariant-loop-table : goal.invariant-loop-table
invariant-loop-table l = map string_bytes l.names.items ≡ other_tables l.id l.named (take l.table-index l.ids)
