use Rattle.std.proofs.Common.{◌≡◌, ◌+◌, ◌++◌, ◌≤◌, drop}
use Rattle.std.specs.Prelude.{string_bytes}
use Rattle.fjall_script.specs.Answers.{text_of}
use Rattle.fjall_script.specs.Sessions.{answers_to}
use Rattle.fjall_script.proofs.session.answers_to.Given as goal

-- the text so far, and the answers to the commands to come
abbrev pub invariant-loop-found : goal.invariant-loop-found
invariant-loop-found l = record {
  text : string_bytes l.text ++ text_of (answers_to l.asked (drop l.found-index l.commands) l.counted l.left) ≡ text_of (answers_to l.fn.earlier l.commands l.fn.counts l.fn.replies);
  few : l.asked ≤ l.fn.earlier + l.found-index;
}
