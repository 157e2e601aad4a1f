use Rattle.fjall_shared.proofs.Beginning.{Begins}
use Rattle.fjall_shared.proofs.shared.Shared.open.Given as goal

abbrev pub ghosts-seated : goal.ghosts-seated
ghosts-seated g a = record { fits = λ h. Begins g.D.Disk.honest (g.D.Disk.meaning a.opened.now.value) a.core.now.engine h }
