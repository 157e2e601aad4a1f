use Rattle.std.proofs.Common.{◌∙◌, ap, sym}
use Rattle.fjall_core.specs.Holding.{Held}
use Rattle.fjall_shared.proofs.opening.seated.Goals as goal

pub open-requires : goal.open-requires
open-requires g c = (c.requires.0, c.requires.1, c.requires.2 ∙ sym (c.visible_seqno.ensures.held ∙ ap (λ (h : Held). h.memory.next) c.deref.ensures))
