use Rattle.std.proofs.Common.{◌≡◌, ◌∙◌, All, ap, is_some, rules, subst, sym, true}
use Rattle.std.specs.FinMap.{get, get-empty}
use Rattle.std.specs.Ordering.{nat_cmp}
use Rattle.std.proofs.lemmas.List.Elements.{All-nil}
use Rattle.fjall_meta.specs.declared.living.LivingKeyspace.{LivingKeyspace}
use Rattle.fjall_meta.specs.Keyspaces.{Keyspaces}
use Rattle.fjall_files.specs.Places.{told}
use Rattle.fjall_replay.specs.Known.{LastFields}
use Rattle.fjall_trees.specs.Views.{forest_of}
use Rattle.fjall_opening.proofs.Counting.{none_written}
use Rattle.fjall_opening.proofs.Replayed.{IsStill}
use Rattle.fjall_opening.proofs.Sealings.{none_parted}
use Rattle.fjall_opening.proofs.ready.new_database.Goals as goal

pub returns-clause-opened : goal.returns-clause-opened
returns-clause-opened c = record {
  journal = search rules;
  last_is = search rules;
  keyspaces = search rules;
  reads = search rules;
  rest = search rules;
  parted = none_parted c.in_ok-empty_journals.field-0 (forest_of c.new.result) c.new.ensures.trees;
}

pub returns-clause-journals : goal.returns-clause-journals
returns-clause-journals c = none_written c.args.sealed.now c.args.active c.in_ok-empty_journals.field-0 (told c.new-3.result) c.in_ok-empty_journals.ensures.tell (ap told c.new-3.ensures)

pub returns-clause-lawful : goal.returns-clause-lawful
returns-clause-lawful c = record {
  keyspaces = search rules;
  made = search rules;
  forest = search rules;
  planted = search rules;
  positive = search rules;
  given = search rules;
  below = search rules;
  small = search rules;
  numbered = search rules;
  recorded =
      subst (λ (s : Keyspaces). All (λ (k : LivingKeyspace). is_some (get c.new-2.result k.id) ≡ true) s.living) (sym c.new-5.ensures)
      (All-nil (λ (k : LivingKeyspace). is_some (get c.new-2.result k.id) ≡ true));
  kept = λ id le. ap (λ (m : LastFields). get m id) c.new-2.ensures ∙ get-empty nat_cmp id;
  parted = none_parted c.in_ok-empty_journals.field-0 (forest_of c.new.result) c.new.ensures.trees;
  still = subst (All IsStill) (sym c.new.ensures.trees) (All-nil IsStill);
}
