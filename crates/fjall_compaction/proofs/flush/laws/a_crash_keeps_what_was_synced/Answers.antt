use Rattle.fjall_compaction.proofs.SameNumber.{crash_stands, run_stands}
use Rattle.fjall_compaction.proofs.flush.laws.a_crash_keeps_what_was_synced.Goals as goal

pub returns-clause-image : goal.returns-clause-image
returns-clause-image c j t id f lists h versions base image behind rest may = crash_stands j t id f lists h versions may base image behind rest

pub returns-clause-run : goal.returns-clause-run
returns-clause-run c j t id f lists h versions base old new may = run_stands j t id f lists h versions may base old new
