use Rattle.std.proofs.Common.{◌≡◌, ◌∙◌, refl}
use Rattle.fjall_options.specs.Options.{stored_options, config_pair, config_pairs}
use Rattle.fjall_options.proofs.StoredPairs.{one_more, all_done, read_back}
use Rattle.fjall_options.proofs.options.create_options.KeyspaceCreateOptions.encode_kvs.Goals as goal

pub loop-option-preserved : goal.loop-option-preserved
loop-option-preserved c =
    let next = one_more (config_pair c.args.keyspace_id c.args.self.now) stored_options c.loop-option.option-index c.loop-option-test.true in
    rw (c.in_ok-push.ensures.items, next, c.loop-option.invariant, c.in_ok-key.ensures.ok, c.name.ensures, c.in_ok-value.ensures.value, c.value.ensures.value) refl

pub returns-clause-back : goal.returns-clause-back
unfolding config_pairs
returns-clause-back c =
    let id = c.args.keyspace_id in
    let options = c.args.self.now in
    let text : c.loop-option.pairs.items ≡ config_pairs id options = c.loop-option.invariant ∙ all_done (config_pair id options) stored_options c.loop-option.option-index c.loop-option-test.false in
    rw (text) (read_back id options (rw c.self.view_is at c.self.invariant))
