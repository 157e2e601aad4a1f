use Rattle.std.proofs.Common.{rules, Result, Err, ap, inr, refl}
use Rattle.fjall_base.specs.declared.error.Error.{Error}
use Rattle.fjall_c.proofs.files.fjall_c_put_folder.Goals as goal

refused : Error → Result Unit Error
refused error = Err error

pub returns-in-Err-clause-puts : goal.returns-in-Err-clause-puts
unfolding refused
returns-in-Err-clause-puts c = (Err c.in-Err.error, search rules, inr ((c.in-Err.ensures.err.0, ap refused c.in-Err.ensures.err.1), refl))
