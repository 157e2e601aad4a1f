use Rattle.std.proofs.Common.{◌≡◌, map, take}
use Rattle.std.specs.List.{AllZip}
use Rattle.fjall_recovery.specs.Told.{TellsOf}
use Rattle.fjall_repair.specs.Plans.{empty_journal}
use Rattle.fjall_opening.proofs.ready.empty_journals.Given as goal

abbrev pub invariant-loop-id : goal.invariant-loop-id
invariant-loop-id l = record {
  tell : AllZip TellsOf (map empty_journal (take l.id-index l.ids)) l.sealed;
  ids : map (λ journal. journal.id) l.sealed ≡ take l.id-index l.ids;
}
