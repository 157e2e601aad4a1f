use Rattle.std.proofs.Common.{subst}
use Rattle.fjall_manifest.specs.Records.{view}
use Rattle.fjall_compaction.specs.Planned.{IsMemoryPlan}
use Rattle.fjall_compaction.proofs.Preparing.{record_here, record_none}
use Rattle.fjall_compaction.proofs.ingestion.whole.flushed_record.Goals as goal

pub returns-in-Some : goal.returns-in-Some
returns-in-Some c flushes id f planned = record_here flushes id (view c.args.last.now) f c.in-Some.writes (subst (IsMemoryPlan flushes id (view c.args.last.now) f) c.in-Some.is planned)

pub returns-in-None : goal.returns-in-None
returns-in-None c flushes id f planned = record_none flushes id (view c.args.last.now) f (subst (IsMemoryPlan flushes id (view c.args.last.now) f) c.in-None.is planned)
