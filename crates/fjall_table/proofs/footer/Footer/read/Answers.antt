use Rattle.std.proofs.Common.{length, refl, sym, ◌∙◌, arith}
use Rattle.std.proofs.lemmas.Bool.{eqb-true, eqb-false}
use Rattle.fjall_table.proofs.Footers.{no_footer, more_behind, is_footer}
use Rattle.fjall_table.proofs.footer.Footer.read.Goals as goal

pub returns-in_default-clause-damaged : goal.returns-in_default-clause-damaged
returns-in_default-clause-damaged c = (refl, no_footer c.args.bytes.now c.in_default.ensures)

pub returns-then-not-is_empty-clause-damaged : goal.returns-then-not-is_empty-clause-damaged
returns-then-not-is_empty-clause-damaged c =
    (refl, more_behind c.args.bytes.now c.in-Some.behind.now c.in-Some.footer c.in-Some.ensures (eqb-false (length c.in-Some.behind.now) 0 (sym c.is_empty.ensures ∙ c.if-not-is_empty.true)))

pub returns-clause-footer : goal.returns-clause-footer
returns-clause-footer c =
    is_footer c.args.bytes.now c.in-Some.behind.now c.in-Some.footer (λ i. omega (arith, c.type_inv.bytes i)) c.in-Some.ensures (eqb-true (length c.in-Some.behind.now) 0 (sym c.is_empty.ensures ∙ c.if-not-is_empty.false))
