use Rattle.std.proofs.Common.{◌≡◌, map, drop}
use Rattle.fjall_options.specs.Options.{kept_bytes, stored_options, stored_values}
use Rattle.fjall_options.proofs.StoredPairs.{with_before}
use Rattle.fjall_options.proofs.options.create_options.KeyspaceCreateOptions.from_kvs.Given as goal

abbrev pub invariant-loop-option : goal.invariant-loop-option
invariant-loop-option l = with_before (map kept_bytes l.values.items) (stored_values l.keyspace_id l.pairs (drop l.option-index stored_options)) ≡ stored_values l.keyspace_id l.pairs stored_options
