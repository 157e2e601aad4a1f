use Rattle.std.proofs.Common.{◌≡◌, ◌∷◌, codes, map, take, string_bytes}
use Rattle.fjall_files.specs.Names.{journal_name}
use Rattle.fjall_repair.proofs.mending.plan.whole_files.Given as goal

abbrev pub invariant-loop-id : goal.invariant-loop-id
invariant-loop-id l = map string_bytes l.files.items ≡ codes "version" ∷ map journal_name (take l.id-index l.sealed)
