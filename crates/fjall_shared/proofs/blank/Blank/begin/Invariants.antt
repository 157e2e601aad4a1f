use Rattle.fjall_shared.proofs.blank.Blank.begin.Given as goal

abbrev pub ghosts-ends : goal.ghosts-ends
ghosts-ends g a = record { job = g.M.JobOutput.label a.job.now }
