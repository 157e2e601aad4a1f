use Rattle.fjall_history.proofs.Resting.{key_itself, key_marked, more_marked, range_itself, range_marked, whole_marked}
use Rattle.fjall_history.proofs.serial_laws.a_marked_query.Goals as goal

pub returns-clause-key : goal.returns-clause-key
returns-clause-key c = key_marked

pub returns-clause-key_itself : goal.returns-clause-key_itself
returns-clause-key_itself c = key_itself

pub returns-clause-range : goal.returns-clause-range
returns-clause-range c = range_marked

pub returns-clause-range_itself : goal.returns-clause-range_itself
returns-clause-range_itself c = range_itself

pub returns-clause-whole : goal.returns-clause-whole
returns-clause-whole c = whole_marked

pub returns-clause-more : goal.returns-clause-more
returns-clause-more c = more_marked
