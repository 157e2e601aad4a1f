use Rattle.fjall_history.proofs.Moving as History
use Rattle.fjall_machine.specs.Machine.{opened_state, times}
use Rattle.fjall_machine.proofs.Moving.{run_moves}
use Rattle.fjall_machine.proofs.laws.a_snapshot_keeps_its_view.Goals as goal

pub returns-clause-view : goal.returns-clause-view
returns-clause-view c = λ s t calls replies run sound ticket before after was is. History.snapshot_stays (times s) (times t) sound (run_moves s t calls replies run) ticket before after was is

pub returns-clause-sound : goal.returns-clause-sound
returns-clause-sound c = λ s t calls replies run sound. History.sound_moves (times s) (times t) sound (run_moves s t calls replies run)

pub returns-clause-opened : goal.returns-clause-opened
returns-clause-opened c = λ store damaged base parts. History.sound_opening (opened_state store damaged base parts).history
