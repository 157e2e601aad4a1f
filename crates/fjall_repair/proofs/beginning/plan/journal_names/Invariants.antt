use Rattle.std.proofs.Common.{◌≡◌, map, take}
use Rattle.std.specs.Prelude.{string_bytes}
use Rattle.fjall_files.specs.Names.{journal_name}
use Rattle.fjall_repair.proofs.beginning.plan.journal_names.Given as goal

abbrev pub invariant-loop-id : goal.invariant-loop-id
invariant-loop-id l = map string_bytes l.names.items ≡ map journal_name (take l.id-index l.ids)
