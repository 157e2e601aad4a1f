use Rattle.fjall_memtable.proofs.Viewing as Viewing
use Rattle.fjall_memtable.proofs.sorted_laws.a_page_is_of_the_view.Goals as goal

pub returns-clause-forward : goal.returns-clause-forward
returns-clause-forward c = Viewing.forward

pub returns-clause-back : goal.returns-clause-back
returns-clause-back c = Viewing.back
