use Rattle.std.proofs.Common.{◌≡◌, drop, map, max}
use Rattle.fjall_manifest.specs.Records.{view}
use Rattle.fjall_recovery.specs.Folders.{past, past_records}
use Rattle.fjall_recovery.proofs.folder.greatest.Given as goal

-- what was found, with what is behind, is what all of them tell
abbrev pub invariant-loop-home : goal.invariant-loop-home
invariant-loop-home l = record { all : max (past l.greatest) (past_records (map (λ home. view home.record) (drop l.home-index l.homes))) ≡ past_records (map (λ home. view home.record) l.homes) }
