use Rattle.fjall_opening.proofs.Openings.{made_before, number_small, numbers, told_below}
use Rattle.fjall_opening.proofs.numbers.checked_number.Goals as goal

pub returns-in_err-check_small-clause-fine : goal.returns-in_err-check_small-clause-fine
returns-in_err-check_small-clause-fine c image read =
    absurd (c.in_err-check_small.ensures.cause.1 (number_small image c.args.found.now read c.number_of-number.result (c.number_of-number.ensures (numbers image c.args.found.now read))))

pub returns-in_err-check_made-clause-fine : goal.returns-in_err-check_made-clause-fine
returns-in_err-check_made-clause-fine c image read =
    absurd (c.in_err-check_made.ensures.cause.1 (made_before image c.args.found.now read c.number_of-number.result c.living.result.now (c.number_of-number.ensures (numbers image c.args.found.now read)) c.living.ensures))

pub returns-in_err-check_told-clause-fine : goal.returns-in_err-check_told-clause-fine
returns-in_err-check_told-clause-fine c image read =
    absurd (c.in_err-check_told.ensures.cause.1 (told_below image c.args.found.now read c.number_of-number.result (c.number_of-number.ensures (numbers image c.args.found.now read))))
