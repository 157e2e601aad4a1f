use Rattle.fjall_history.proofs.TrackerSound.{watermark-after_gc}
use Rattle.fjall_history.proofs.tracker_laws.the_watermark_follows_the_oldest.Goals as goal

pub returns : goal.returns
returns c = watermark-after_gc
