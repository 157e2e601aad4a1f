use Rattle.std.proofs.Common.{◌≡◌, ◌∙◌, ◌++◌, ◌∷◌, [], List, map, take, sym, ap, append_assoc}
use Rattle.fjall_options.specs.Options.{options_by_name, config_pair}
use Rattle.fjall_meta.specs.Entries.{option_entry, option_entries}
use Rattle.fjall_options.proofs.StoredPairs.{one_more, all_done}
use Rattle.fjall_meta.proofs.Options.{pairs_count, pair_at, item}
use Rattle.fjall_meta.proofs.entry.put_options.Goals as goal

pub pair_of-pair-requires : goal.pair_of-pair-requires
pair_of-pair-requires c = rw (c.deref.ensures.value, c.in_ok-pairs.ensures.ok) (pairs_count c.args.keyspace.now.id c.args.keyspace.now.options)

pub loop-option-preserved : goal.loop-option-preserved
loop-option-preserved c =
    let k = c.args.keyspace.now in
    let key : c.in_ok-clone.field-0 ≡ c.pair_of-pair.result.now.0 = c.in_ok-clone.ensures.cases in
    let value : c.in_ok-clone-2.field-0 ≡ c.pair_of-pair.result.now.1 = c.in_ok-clone-2.ensures.cases in
    let found : c.pair_of-pair.result.now ≡ config_pair k.id k.options (item c.loop-option.option-index) = c.pair_of-pair.ensures ∙ rw (c.deref.ensures.value, c.in_ok-pairs.ensures.ok) (pair_at k.id k.options (item c.loop-option.option-index) c.pair_of-pair.result.now) in
    let next = one_more (option_entry k) options_by_name c.loop-option.option-index c.loop-option-test.true in
    rw (c.in_ok-push.ensures.items, next, c.loop-option.invariant, key, value, found) (append_assoc c.args.entries.now.items (map (option_entry k) (take c.loop-option.option-index options_by_name)) (option_entry k (item c.loop-option.option-index) ∷ []))

pub returns-clause-ok : goal.returns-clause-ok
unfolding option_entries
returns-clause-ok c =
    rw (c.loop-option.invariant) (ap (λ (es : List _). c.args.entries.now.items ++ es) (all_done (option_entry c.args.keyspace.now) options_by_name c.loop-option.option-index c.loop-option-test.false))
