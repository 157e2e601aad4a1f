-- What a core holds, to contracts. It stores no history.
use Rattle.fjall_base.specs.Disk.{Meaning}
use Rattle.fjall_journal.specs.Writer.{Journal}
use Rattle.fjall_manifest.specs.declared.catalog.Catalog.{Catalog}
use Rattle.fjall_machine.specs.Remembered.{Remembered}

-- What the disk means, the journal's writer, what tree 0's last record says, and what stands in memory.
pub record Held : Type 0 where
  pub disk : Meaning
  pub journal : Journal
  pub catalog : Catalog
  pub memory : Remembered
