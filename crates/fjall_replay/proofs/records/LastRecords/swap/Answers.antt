use Rattle.std.proofs.Common.{Some, is_some, ap, subst, sym, ◌∙◌, refl, IsSome}
use Rattle.std.proofs.lemmas.Bool.{true≢false}
use Rattle.std.specs.FinMap.{contains_key, get, insert}
use Rattle.fjall_replay.specs.Known.{LastFields}
use Rattle.fjall_manifest.specs.declared.record.Record.{Record}
use Rattle.fjall_manifest.specs.Records.{view}
use Rattle.fjall_replay.proofs.Maps.{inserted, same_get}
use Rattle.fjall_replay.proofs.records.LastRecords.swap.Goals.{in-Some, in_default}
use Rattle.fjall_replay.proofs.records.LastRecords.swap.Goals as goal

pub returns-clause-kept : goal.returns-clause-kept
returns-clause-kept c = elim c.match-get_mut.branch [
  | in-Some w ↦
      let there = subst IsSome w.in-Some.ensures.value refl in
      let last = view w.swap.new.x in
      rw w.self-inside-is
      (inserted c.self.inside.records (c.get_mut.follows.lender last) c.args.id last ((c.get_mut.follows.holds last).3 there).0
      ∙ ap (λ (m : LastFields). insert m c.args.id last) c.self.view_is
      ∙ ap (λ (r : Record). insert c.args.self.now c.args.id (view r)) w.swap.ensures.x_after)
  | in_default w ↦
      let none = ap is_some (same_get c.self.inside.records c.args.id ∙ sym w.in_default.ensures.value) in
      absurd (true≢false (sym c.requires ∙ ap (λ (m : LastFields). contains_key m c.args.id) (sym c.self.view_is) ∙ none))
]

pub returns-clause-back : goal.returns-clause-back
returns-clause-back c = elim c.match-get_mut.branch [
  | in-Some w ↦
      sym (ap (λ (m : LastFields). get m c.args.id) c.self.view_is) ∙ same_get c.self.inside.records c.args.id ∙ sym w.in-Some.ensures.value ∙ ap Some (sym w.kept.view_is)
      ∙ ap (λ (r : Record). Some (view r)) (sym (w.last-is ∙ w.swap.ensures.y_after))
  | in_default w ↦
      let none = ap is_some (same_get c.self.inside.records c.args.id ∙ sym w.in_default.ensures.value) in
      absurd (true≢false (sym c.requires ∙ ap (λ (m : LastFields). contains_key m c.args.id) (sym c.self.view_is) ∙ none))
]
