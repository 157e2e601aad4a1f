use Rattle.std.proofs.Common.{◌≡◌, map, take}
use Rattle.fjall_options.specs.Options.{config_pair, stored_options}
use Rattle.fjall_options.proofs.options.create_options.KeyspaceCreateOptions.encode_kvs.Given as goal

abbrev pub invariant-loop-option : goal.invariant-loop-option
invariant-loop-option l = l.pairs.items ≡ map (config_pair l.keyspace_id l.self) (take l.option-index stored_options)
