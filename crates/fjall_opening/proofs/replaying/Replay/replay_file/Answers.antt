use Rattle.fjall_opening.proofs.JournalByJournal.{none_risen}
use Rattle.fjall_opening.proofs.replaying.Replay.replay_file.Goals as goal

pub returns-clause-risen : goal.returns-clause-risen
returns-clause-risen g c = none_risen c.replay_text.result _ _ c.replay_text.ensures.risen
