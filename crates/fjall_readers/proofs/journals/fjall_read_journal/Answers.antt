use Rattle.std.proofs.Common.{inl, ◌∙◌}
use Rattle.fjall_journal.specs.Batches.{shown, view}
use Rattle.fjall_readers.proofs.Tellings.{as_many}
use Rattle.fjall_readers.proofs.journals.fjall_read_journal.Goals as goal

pub returns-in-Ok : goal.returns-in-Ok
returns-in-Ok c = λ bs end whole. inl (c.len.ensures ∙ c.in-Ok.contents.batches.ok.0 ∙ as_many shown view bs c.in-Ok.contents.batches.items (c.in-Ok.ensures.only bs end whole).0)
