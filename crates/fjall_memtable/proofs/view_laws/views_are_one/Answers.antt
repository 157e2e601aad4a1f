use Rattle.fjall_memtable.specs.Views.{view_of}
use Rattle.fjall_memtable.proofs.Shown as Shown
use Rattle.fjall_memtable.proofs.view_laws.views_are_one.Goals as goal

pub returns-clause-made : goal.returns-clause-made
returns-clause-made c = Shown.is_view

pub returns-clause-some : goal.returns-clause-some
returns-clause-some c instant clears versions = (view_of instant clears versions, Shown.is_view instant clears versions)

pub returns-clause-one : goal.returns-clause-one
returns-clause-one c = Shown.one_view
