use Rattle.std.proofs.Common.{◌∙◌, inl, inr, arith, rules, length, ◌<◌}
use Rattle.fjall_files.proofs.Numbers.{spelled, all_found, no_empty_number, no_plus, no_zero}
use Rattle.fjall_files.proofs.number.parse_number.Goals as goal
use Rattle.fjall_files.proofs.number.parse_number.Goals.{then-first-eq43-via-then-first-eq43, then-first-eq43-via-else-first-eq43+then-word-gt1}

pub returns-clause-spelled : goal.returns-clause-spelled
returns-clause-spelled c =
    rw c.ok.ensures.value (spelled c.args.word.now c.in_ok-first.field-0.now c.parse.result (search rules) c.if-first-eq43.false (λ e. elim c.if-word-gt1.either [ inl h ↦ h.1 | inr other ↦ absurd (other e) ]) c.parse.ensures.value.0)

pub returns-clause-all_found : goal.returns-clause-all_found
returns-clause-all_found c n is =
    c.ok.ensures.value ∙ all_found c.args.word.now c.parse.result c.parse.ensures.value.0 n is.0 is.1

pub returns-in_err-first-clause-all_found : goal.returns-in_err-first-clause-all_found
returns-in_err-first-clause-all_found c n is =
    absurd (no_empty_number n is.0 (grind (arith, is.1, c.in_err-first.ensures.value)))

pub returns-then-first-eq43-clause-all_found : goal.returns-then-first-eq43-clause-all_found
returns-then-first-eq43-clause-all_found c n is =
    elim c.then-first-eq43.branch [
      | then-first-eq43-via-then-first-eq43 w ↦ absurd (no_plus n c.in_ok-first.field-0.now is.0 (grind (arith, is.1, c.in_ok-first.ensures.value)) w.if-first-eq43.true)
      | then-first-eq43-via-else-first-eq43+then-word-gt1 w ↦
          let long : 1 < length c.args.word.now = w.if-word-gt1.true.1 in
          absurd (no_zero n c.in_ok-first.field-0.now is.0 (grind (arith, is.1, c.in_ok-first.ensures.value)) w.if-word-gt1.true.0 (rw is.1 at long))
    ]
