use Rattle.std.proofs.Common.{map}
use Rattle.fjall_journal.specs.Batches.{shown}
use Rattle.fjall_changes.proofs.MarkedJournals.{all_stored, one_stored}
use Rattle.fjall_changes.proofs.sealed_laws.watermarks_tell_what_may_go.Goals as goal

pub returns-clause-one : goal.returns-clause-one
returns-clause-one c flushed t sealed journal told are may = one_stored flushed t told sealed.watermarks (map shown journal.batches) are may

pub returns-clause-all : goal.returns-clause-all
returns-clause-all c flushed t sealed j n told marked few = all_stored flushed t told sealed j.sealed n marked few
