use Rattle.std.proofs.Common.{◌<◌, ◌≤◌, refl, ap, ◌∙◌, arith, rules}
use Rattle.fjall_history.specs.Tickets.{Tracked, collected, no_tickets}
use Rattle.fjall_history.proofs.Values.{all_none}
use Rattle.fjall_trees.specs.Views.{forest_of}
use Rattle.fjall_trees.proofs.Places.{forest_is}
use Rattle.fjall_machine.specs.Remembered.{IsLawful, journals_of, remembered}
use Rattle.fjall_machine.proofs.Lawful.{alike, remembered_is_lawful, still_begun, still_merge_begun}
use Rattle.fjall_state.proofs.engine_state.EngineState.new.Goals as goal

pub invariant_of-result : goal.invariant_of-result
invariant_of-result c =
    let trees = forest_of c.args.trees in
    let journals = journals_of c.args.sealed c.args.active c.args.watermarks in
    let m = remembered c.args.keyspaces trees c.args.next journals c.args.records in
    let is : IsLawful (record m { tickets = no_tickets }) = record {
      keyspaces = search rules;
      made = c.requires.made;
      forest = forest_is c.args.trees;
      planted = c.requires.planted;
      given = c.requires.given;
      below = c.requires.below;
      small = c.requires.small;
      reached = all_none (λ i. i ≤ c.args.next);
      spared = λ some. absurd (omega arith);
      above = all_none (λ i. 0 < 0 → 0 < i);
      recorded = c.requires.recorded;
      kept = c.requires.kept;
      begun = still_begun 0 0 trees c.requires.still;
      merging = still_merge_begun 0 0 trees c.requires.still;
      jobs = omega arith;
    } in
    let told = c.gc.ensures.raised ∙ ap (λ (t : Tracked). record t { tickets = collected t.visible t.tickets }) c.new-tickets.ensures in
    alike m _ (remembered_is_lawful c.args.keyspaces trees c.args.next journals c.args.records is) refl refl (ap (λ (t : Tracked). t.visible) told) (ap (λ (t : Tracked). t.tickets) told) refl refl
