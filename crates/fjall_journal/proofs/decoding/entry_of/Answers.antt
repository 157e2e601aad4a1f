use Rattle.fjall_journal.proofs.Rests.{rest_byte}
use Rattle.fjall_journal.proofs.decoding.entry_of.Goals as goal

pub item_of-requires : goal.item_of-requires
item_of-requires c = rest_byte c.args.text.now c.args.bytes.now c.in-Some.tag c.in-Some.rest.now c.requires c.in-Some.ensures
