use Rattle.fjall_history.proofs.Serials.{checked_is_serial}
use Rattle.fjall_core.specs.Standing.{history_of}
use Rattle.fjall_core.proofs.laws.transactions_are_serial.Goals as goal

pub returns : goal.returns
returns c = λ core kept t stands premise. checked_is_serial (history_of t) stands.checked premise
