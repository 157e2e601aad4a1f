use Rattle.std.proofs.Common.{◌∷◌, ◌++◌, [], None, Option, Some, slice_set, sym, ap, subst, ◌∙◌, ℕ}
use Rattle.std.specs.Option.{option_map}
use Rattle.fjall_table.specs.Blocks.{seen}
use Rattle.fjall_table.specs.declared.table_entry.TableEntry.{TableEntry}
use Rattle.fjall_cursors.specs.Heads.{HasTwo}
use Rattle.fjall_cursors.proofs.Heads.{farther_found, first_found, nearer_found, two_farther, two_nearer, two_same}
use Rattle.fjall_cursors.proofs.run.two_with.Goals as goal

pub returns-in_default : goal.returns-in_default
returns-in_default c = record {
  two = λ runs run at head has. two_same c.args.back runs run c.args.best c.args.second (sym (ap (option_map seen) c.in_default.is) ∙ head) has;
}

pub returns-in_default-best : goal.returns-in_default-best
returns-in_default-best c = record {
  two = λ runs run at head has.
      let none = subst (λ (best : Option (ℕ × TableEntry)). HasTwo c.args.back runs best c.args.second) c.in_default-best.is has in
      two_nearer c.args.back runs run c.args.at c.in-Some.version None at none.1 (first_found c.args.back runs run c.args.at c.in-Some.version at (sym (ap (option_map seen) c.in-Some.is) ∙ head) none.1);
}

pub returns-then-comes_before : goal.returns-then-comes_before
returns-then-comes_before c = record {
  two = λ runs run at head has.
      let first : ℕ × TableEntry = (c.in-Some-best.field-0-0, c.in-Some-best.first) in
      let some = subst (λ (best : Option (ℕ × TableEntry)). HasTwo c.args.back runs best c.args.second) c.in-Some-best.is has in
      subst (λ (best : Option (ℕ × TableEntry)). HasTwo c.args.back (runs ++ run ∷ []) (Some (c.args.at, c.in-Some.version)) best) (sym c.in-Some-best.is)
      (two_nearer c.args.back runs run c.args.at c.in-Some.version (Some first) at some.0 (nearer_found c.args.back runs run c.args.at c.in-Some.version first at (sym (ap (option_map seen) c.in-Some.is) ∙ head) (c.comes_before.ensures.0 c.if-comes_before.true) some.0));
}

pub returns : goal.returns
returns c = record {
  two = λ runs run at head has.
      let first : ℕ × TableEntry = (c.in-Some-best.field-0-0, c.in-Some-best.first) in
      let some = subst (λ (best : Option (ℕ × TableEntry)). HasTwo c.args.back runs best c.args.second) c.in-Some-best.is has in
      let behind = farther_found c.args.back runs run c.in-Some.version first (sym (ap (option_map seen) c.in-Some.is) ∙ head) (λ before. absurd (cc (c.comes_before.ensures.1 before, c.if-comes_before.false))) some.0 in
      subst (λ (best : Option (ℕ × TableEntry)). HasTwo c.args.back (runs ++ run ∷ []) best c.first_with.result) (sym c.in-Some-best.is)
      (two_farther c.args.back runs run c.args.at first c.first_with.result at some.0 behind (λ long. c.first_with.ensures.first (slice_set runs first.0 []) run long head some.1));
}
