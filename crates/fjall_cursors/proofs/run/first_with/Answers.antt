use Rattle.std.proofs.Common.{sym, ap, subst, ◌∙◌}
use Rattle.std.specs.Option.{option_map}
use Rattle.fjall_table.specs.Blocks.{seen}
use Rattle.fjall_cursors.specs.Heads.{HasFirst}
use Rattle.fjall_cursors.proofs.Heads.{empty_more, first_found, nearer_found, farther_found}
use Rattle.fjall_cursors.proofs.run.first_with.Goals as goal

pub returns-in_default-clause-first : goal.returns-in_default-clause-first
returns-in_default-clause-first c = λ runs run at head has.
    empty_more c.args.back runs run c.args.best (sym (ap (option_map seen) c.in_default.is) ∙ head) has

pub returns-in_default-best-clause-first : goal.returns-in_default-best-clause-first
returns-in_default-best-clause-first c = λ runs run at head has.
    first_found c.args.back runs run c.args.at c.in-Some.version at (sym (ap (option_map seen) c.in-Some.is) ∙ head) (subst (HasFirst c.args.back runs) c.in_default-best.is has)

pub returns-then-comes_before-clause-first : goal.returns-then-comes_before-clause-first
returns-then-comes_before-clause-first c = λ runs run at head has.
    nearer_found c.args.back runs run c.args.at c.in-Some.version (c.in-Some-best.field-0-0, c.in-Some-best.first) at (sym (ap (option_map seen) c.in-Some.is) ∙ head) (c.comes_before.ensures.0 c.if-comes_before.true) (subst (HasFirst c.args.back runs) c.in-Some-best.is has)

pub returns-clause-first : goal.returns-clause-first
returns-clause-first c = λ runs run at head has.
    subst (HasFirst c.args.back _) (sym c.in-Some-best.is) (farther_found c.args.back runs run c.in-Some.version (c.in-Some-best.field-0-0, c.in-Some-best.first) (sym (ap (option_map seen) c.in-Some.is) ∙ head)
    (λ before. absurd (cc (c.comes_before.ensures.1 before, c.if-comes_before.false))) (subst (HasFirst c.args.back runs) c.in-Some-best.is has))
