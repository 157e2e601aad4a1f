use Rattle.fjall_calls.proofs.Writing.{all_read_present}
use Rattle.fjall_calls.proofs.laws.the_single_writer_reads_the_present.Goals as goal

pub returns : goal.returns
returns c = λ core kept t stands calls replies v run. all_read_present core kept t stands calls replies v run
