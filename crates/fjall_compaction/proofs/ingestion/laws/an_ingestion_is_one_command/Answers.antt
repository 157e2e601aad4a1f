use Rattle.std.proofs.Common.{◌∙◌, ap, sym}
use Rattle.fjall_base.specs.Store.{kept}
use Rattle.fjall_changes.proofs.CrashedJournals.{store_is_kept}
use Rattle.fjall_recovery.specs.Places.{contents_with}
use Rattle.fjall_compaction.specs.Ingests.{tree_with}
use Rattle.fjall_compaction.proofs.Numbers as Numbers
use Rattle.fjall_compaction.proofs.Storing as Storing
use Rattle.fjall_compaction.proofs.ingestion.laws.an_ingestion_is_one_command.Goals as goal

pub returns-clause-store : goal.returns-clause-store
returns-clause-store c j t id number items tables h versions behind rest may is = Storing.one_command j t id number items tables h versions may.come behind rest is may.persisted

pub returns-clause-synced : goal.returns-clause-synced
returns-clause-synced c j t id number items tables h versions may = Storing.synced_store j t id number items tables h versions may

pub returns-clause-kept : goal.returns-clause-kept
returns-clause-kept c j t id number items tables h versions behind rest may is =
    ap kept (sym (Storing.one_command j t id number items tables h versions may.come behind rest is may.persisted))
    ∙ store_is_kept (contents_with j (tree_with id number items tables h versions t) behind)

pub returns-clause-number : goal.returns-clause-number
returns-clause-number c j t id number items tables h versions behind rest may is = Numbers.own_number j t id number items tables h versions may behind rest is

pub returns-clause-numbers : goal.returns-clause-numbers
returns-clause-numbers c = Numbers.both_numbers

pub returns-clause-beyond : goal.returns-clause-beyond
returns-clause-beyond c = Numbers.is_later

pub returns-clause-pending : goal.returns-clause-pending
returns-clause-pending c j t id number items tables h versions may = Storing.same_pending j t id number items tables h versions may.come may.persisted

pub returns-clause-memory : goal.returns-clause-memory
returns-clause-memory c = Storing.same_memory
