use Rattle.fjall_disk_folder.specs.Names.{AreEntries}
use Rattle.fjall_disk_folder.proofs.Passed.{passed_on}
use Rattle.fjall_disk_folder.proofs.reader.FolderReaderDisk.list.Goals as goal

pub returns-clause-listed : goal.returns-clause-listed
returns-clause-listed c =
    passed_on (λ listed. AreEntries c.args.folder.now listed.items) _ _ c.list-answer.result c.of_read.result c.of_read.ensures.exact c.list-answer.ensures.listed
