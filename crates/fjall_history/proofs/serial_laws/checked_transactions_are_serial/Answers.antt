use Rattle.fjall_history.proofs.Serials.{checked_is_serial}
use Rattle.fjall_history.proofs.serial_laws.checked_transactions_are_serial.Goals as goal

pub returns : goal.returns
returns c = checked_is_serial
