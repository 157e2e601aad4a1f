use Rattle.std.proofs.Common.{length, ◌-◌, refl, rules}
use Rattle.fjall_script.proofs.Calling.{adds_calls}
use Rattle.fjall_script.proofs.calls.LineCalls.ask.Goals as goal

pub returns-clause-ok : goal.returns-clause-ok
returns-clause-ok c = adds_calls _ _ _ c.in_ok-call.call (length c.add_calls.new.calls.items - length c.args.self.now.calls.items) c.in_ok-call.ensures.ok (search rules) (search rules) (search rules) (search rules) (search rules) refl
