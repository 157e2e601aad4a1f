use Rattle.std.proofs.Common.{◌≡◌, ◌++◌, Err, List, ap, map, rules}
use Rattle.fjall_options.specs.Options.{options_by_name}
use Rattle.fjall_options.proofs.StoredPairs.{all_done}
use Rattle.fjall_meta.specs.Entries.{option_entry, option_entries}
use Rattle.fjall_manifest.specs.Catalog.{table_entry}
use Rattle.fjall_manifest.proofs.Written.{item_refused, next_follows, one_written}
use Rattle.fjall_manifest.proofs.table.write_options.Goals as goal

pub write_option-requires : goal.write_option-requires
unfolding option_entries
write_option-requires c = rw c.loop-option.invariant (next_follows c.args.writer.now (option_entry c.args.keyspace.now) options_by_name c.loop-option.option-index _ c.loop-option-test.true c.requires)

pub returns-in_err-write_option-clause-cause : goal.returns-in_err-write_option-clause-cause
unfolding option_entries
returns-in_err-write_option-clause-cause c =
    let is : c.from_residual.result ≡ Err c.in_err-write_option.field-0.0 = search rules in
    rw is (item_refused (option_entry c.args.keyspace.now) options_by_name c.loop-option.option-index _ c.loop-option-test.true c.in_err-write_option.field-0.0 c.in_err-write_option.ensures.cause)

pub loop-option-preserved : goal.loop-option-preserved
loop-option-preserved c =
    rw (c.in_ok-write_option.ensures.ok, c.loop-option.invariant) (one_written c.args.writer.now (option_entry c.args.keyspace.now) options_by_name c.loop-option.option-index _ c.loop-option-test.true)

pub returns-clause-ok : goal.returns-clause-ok
unfolding option_entries
returns-clause-ok c =
    rw (c.loop-option.invariant) (ap (λ (es : List _). c.args.writer.now ++ map table_entry es) (all_done (option_entry c.args.keyspace.now) options_by_name c.loop-option.option-index c.loop-option-test.false))
