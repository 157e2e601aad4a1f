use Rattle.fjall_engine.proofs.ApproximateLengths.{a_view_fits}
use Rattle.fjall_engine.proofs.laws.no_view_is_longer.Goals as goal

pub returns : goal.returns
returns c = a_view_fits
