use Rattle.std.proofs.Common.{◌≡◌, drop}
use Rattle.fjall_c.specs.Openings.{first_refusal}
use Rattle.fjall_c.proofs.session.flushing.first_refusal.Given as goal

-- so far none was a refusal
abbrev pub invariant-loop-reply : goal.invariant-loop-reply
invariant-loop-reply l = first_refusal (drop l.reply-index l.replies) ≡ first_refusal l.replies
