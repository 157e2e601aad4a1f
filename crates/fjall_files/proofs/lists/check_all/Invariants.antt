use Rattle.std.proofs.Common.{ℕ, ◌<◌, get_or, ◌≡◌}
use Rattle.fjall_base.specs.declared.disk.DirEntry.{DirEntry}
use Rattle.fjall_base.specs.declared.error.Error.{Error}
use Rattle.fjall_files.specs.Sought.{RefusesList}
use Rattle.fjall_files.proofs.lists.check_all.Given as goal

-- none of the entries so far refuses
abbrev pub invariant-loop-entry : goal.invariant-loop-entry
invariant-loop-entry l = (k : ℕ) (entry : DirEntry) (error : Error) → k < l.entry-index → get_or l.listed k entry ≡ entry → RefusesList l.sought entry error → ⊥
