use Rattle.std.proofs.Common.{◌≡◌, map, take}
use Rattle.fjall_options.specs.Options.{kept_bytes, default_value, stored_options}
use Rattle.fjall_options.proofs.options.create_options.KeyspaceCreateOptions.default.Given as goal

abbrev pub invariant-loop-option : goal.invariant-loop-option
invariant-loop-option l = map kept_bytes l.values.items ≡ map default_value (take l.option-index stored_options)
