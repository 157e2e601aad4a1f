use Rattle.std.proofs.lemmas.List.Sorted.{list_any-IsPermutation}
use Rattle.fjall_memtable.proofs.Hiding as Hiding
use Rattle.fjall_memtable.proofs.view_laws.the_order_does_not_matter.Goals as goal

pub returns-clause-versions : goal.returns-clause-versions
returns-clause-versions c = Hiding.versions_order

pub returns-clause-clears : goal.returns-clause-clears
returns-clause-clears c = Hiding.clears_order

pub returns-clause-permuted : goal.returns-clause-permuted
returns-clause-permuted c = λ versions others moved test. list_any-IsPermutation test versions others moved
