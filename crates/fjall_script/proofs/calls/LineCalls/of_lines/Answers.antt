use Rattle.std.proofs.Common.{arith}
use Rattle.fjall_script.proofs.Calling.{all_made, more_made, none_made}
use Rattle.fjall_script.proofs.calls.LineCalls.of_lines.Goals as goal

pub loop-found-init : goal.loop-found-init
loop-found-init c = none_made c.args.earlier c.args.commands.now c.in_ok-lines.lines c.in_ok-lines.ensures.calls c.in_ok-lines.ensures.counts c.in_ok-lines.ensures.numbers c.in_ok-lines.ensures.begun c.in_ok-lines.ensures.earlier

pub loop-found-preserved : goal.loop-found-preserved
loop-found-preserved c = more_made _ _ _ _ _ _ c.loop-found-test.true c.found-item.is c.in_ok-add.ensures.ok c.loop-found.invariant

pub returns-clause-ok : goal.returns-clause-ok
returns-clause-ok c = all_made _ _ _ _ (let past = c.loop-found-test.false in omega (arith, past)) c.loop-found.invariant
