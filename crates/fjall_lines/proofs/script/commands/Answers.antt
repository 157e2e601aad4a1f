use Rattle.fjall_lines.proofs.Bytes.{is_empty_is}
use Rattle.fjall_lines.proofs.Cuts.{all_read}
use Rattle.fjall_lines.proofs.script.commands.Goals as goal

pub returns : goal.returns
returns c = all_read c.args.crashes c.args.text.now c.loop-rest.rest.now c.loop-rest.commands.items ((is_empty_is c.loop-rest.rest.now c.is_empty.result c.is_empty.ensures).0 c.loop-rest-test.false) c.loop-rest.invariant
