use Rattle.std.proofs.Common.{map}
use Rattle.std.proofs.lemmas.List.{map-append}
use Rattle.std.proofs.lemmas.Result.{err_from_is_err_and}
use Rattle.fjall_options.specs.Options.{kept_bytes, stored_options, stored_values}
use Rattle.fjall_options.proofs.StoredPairs.{value_read, value_refused, all_read, read_options}
use Rattle.fjall_options.proofs.options.create_options.KeyspaceCreateOptions.from_kvs.Goals as goal

pub returns-in_err-value : goal.returns-in_err-value
returns-in_err-value c =
    let p = err_from_is_err_and c.from_residual.result c.from_residual.ensures.1 in
    rw (p.1, p.2) (value_refused c.in_err-value.field-0.0 c.args.keyspace_id c.args.pairs.now (map kept_bytes c.loop-option.values.items) c.loop-option.option-index
    (stored_values c.args.keyspace_id c.args.pairs.now stored_options) c.loop-option-test.true c.in_err-value.ensures c.loop-option.invariant)

pub loop-option-preserved : goal.loop-option-preserved
loop-option-preserved c =
    rw (c.in_ok-push.ensures.items, map-append) (value_read c.args.keyspace_id c.args.pairs.now (map kept_bytes c.loop-option.values.items) c.loop-option.option-index c.in_ok-value.value
    (stored_values c.args.keyspace_id c.args.pairs.now stored_options) c.loop-option-test.true c.in_ok-value.ensures c.loop-option.invariant)

pub invariant_of-result : goal.invariant_of-result
invariant_of-result c =
    read_options c.args.keyspace_id c.args.pairs.now (map kept_bytes c.loop-option.values.items)
    (all_read c.args.keyspace_id c.args.pairs.now (map kept_bytes c.loop-option.values.items) c.loop-option.option-index (stored_values c.args.keyspace_id c.args.pairs.now stored_options) c.loop-option-test.false c.loop-option.invariant)

pub returns : goal.returns
returns c = all_read c.args.keyspace_id c.args.pairs.now (map kept_bytes c.loop-option.values.items) c.loop-option.option-index (stored_values c.args.keyspace_id c.args.pairs.now stored_options) c.loop-option-test.false c.loop-option.invariant
