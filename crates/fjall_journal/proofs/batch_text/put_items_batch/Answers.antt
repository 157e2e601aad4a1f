use Rattle.fjall_journal.proofs.Writing.{kept_on}
use Rattle.fjall_journal.proofs.batch_text.put_items_batch.Goals as goal

pub returns-in_err-put_entries-clause-kept : goal.returns-in_err-put_entries-clause-kept
returns-in_err-put_entries-clause-kept c = kept_on _ _ _ _ c.in_ok-put_start.ensures.ok c.in_err-put_entries.ensures.kept
