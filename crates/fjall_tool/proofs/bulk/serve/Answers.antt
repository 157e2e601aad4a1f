use Rattle.std.proofs.Common.{rules}
use Rattle.fjall_reading.specs.Ingestions.{IsIngestible}
use Rattle.fjall_tool.specs.Pairs.{SpellItems}
use Rattle.fjall_tool.proofs.Cuts.{printed}
use Rattle.fjall_tool.proofs.bulk.serve.Goals as goal

pub returns-clause-loaded : goal.returns-clause-loaded
returns-clause-loaded g c done =
    let spelled : SpellItems (g.R.Read.remaining c.args.input.now) c.in-Some.ingestion.items = search rules in
    let sound : IsIngestible c.in-Some.ingestion.items = search rules in
    printed _ _ _ _ _ spelled sound c.len-count.ensures c.in_ok-print_count.ensures
