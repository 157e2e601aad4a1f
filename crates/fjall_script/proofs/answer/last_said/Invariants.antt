use Rattle.std.proofs.Common.{◌≡◌, drop}
use Rattle.fjall_script.specs.Answers.{last_said}
use Rattle.fjall_script.proofs.answer.last_said.Given as goal

-- what is said so far, and the replies to come
abbrev pub invariant-loop-reply : goal.invariant-loop-reply
invariant-loop-reply l = last_said l.said (drop l.reply-index l.replies) ≡ last_said l.before l.replies
