use Rattle.fjall_table.proofs.Fronts.{bytes_are}
use Rattle.fjall_table.proofs.front.number_of.Goals as goal

pub returns : goal.returns
returns c = bytes_are c.args.bytes.now c.from_be_bytes.result c.told-bytes c.fits-bytes c.from_be_bytes.ensures
