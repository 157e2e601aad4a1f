use Rattle.std.proofs.Common.{is_some, ap, subst, sym, ◌∙◌, refl, IsSome}
use Rattle.std.proofs.lemmas.Bool.{true≢false}
use Rattle.std.specs.FinMap.{contains_key, insert}
use Rattle.fjall_replay.specs.Known.{LastFields}
use Rattle.fjall_manifest.specs.Records.{view}
use Rattle.fjall_replay.proofs.Maps.{inserted, same_get}
use Rattle.fjall_replay.proofs.records.LastRecords.replace.Goals.{in-Some, in_default}
use Rattle.fjall_replay.proofs.records.LastRecords.replace.Goals as goal

pub returns : goal.returns
returns c = elim c.match-get_mut.branch [
  | in-Some w ↦
      let there = subst IsSome w.in-Some.ensures.value refl in
      rw w.self-inside-is
      (inserted c.self.inside.records (c.get_mut.follows.lender (view c.args.last)) c.args.id (view c.args.last) ((c.get_mut.follows.holds (view c.args.last)).3 there).0
      ∙ ap (λ (m : LastFields). insert m c.args.id (view c.args.last)) c.self.view_is)
  | in_default w ↦
      let none = ap is_some (same_get c.self.inside.records c.args.id ∙ sym w.in_default.ensures.value) in
      absurd (true≢false (sym c.requires ∙ ap (λ (m : LastFields). contains_key m c.args.id) (sym c.self.view_is) ∙ none))
]
