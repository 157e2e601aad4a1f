use Rattle.fjall_compaction.proofs.Crashes as Crashes
use Rattle.fjall_compaction.proofs.ingestion.laws.a_crash_leaves_all_or_nothing.Goals as goal

pub returns-clause-image : goal.returns-clause-image
returns-clause-image c j t id number items tables h versions base image behind rest may is = Crashes.image_stands j t id number items tables h versions base may is image behind rest

pub returns-clause-synced : goal.returns-clause-synced
returns-clause-synced c j t id number items tables h versions base image may is = Crashes.synced_stands j t id number items tables h versions base may is image

pub returns-clause-run : goal.returns-clause-run
returns-clause-run c j t id number items tables h versions base old new may is = Crashes.run_stands j t id number items tables h versions base may is old new

pub returns-clause-synced_run : goal.returns-clause-synced_run
returns-clause-synced_run c j t id number items tables h versions base old new may is = Crashes.synced_run j t id number items tables h versions base may is old new

pub returns-clause-base : goal.returns-clause-base
returns-clause-base c = Crashes.base_kept
