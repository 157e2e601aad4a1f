use Rattle.fjall_disk_folder.specs.Names.{AreEntries}
use Rattle.fjall_disk_folder.proofs.folder.Folder.list.Given as goal

abbrev pub invariant-loop-entry : goal.invariant-loop-entry
invariant-loop-entry l = AreEntries l.name l.listed.items
