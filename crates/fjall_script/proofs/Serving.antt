-- What was read, run and written, together.
use Rattle.std.proofs.Common.{◌≡◌, ℕ, Bool, true, List, [], ◌++◌, Option, Some, None, Result, Ok, Err, ap, ◌∙◌, subst}
use Rattle.std.specs.Prelude.{IfErr, IfSome, OnOk}
use Rattle.std.specs.List.{AllZip}
use Rattle.std.proofs.KnownBytes.{Keeps-refl}
use Rattle.std.specs.declared.io.ErrorKind.{ErrorKind}
use Rattle.fjall_journal.specs.declared.recovery_mode.RecoveryMode.{RecoveryMode}
use Rattle.fjall_base.specs.declared.error.Error.{Error}
use Rattle.fjall_base.specs.declared.error.Error.TheVariants.{Io, OutOfMemory}
use Rattle.fjall_lines.specs.declared.command.Command.{Command}
use Rattle.fjall_lines.specs.Hearing.{Hears}
use Rattle.fjall_lines.specs.Lines.{lines_of}
use Rattle.fjall_script.specs.Machine.{NotBegun}
use Rattle.fjall_script.specs.Outputs.{IsIo, IsIoOrMemory}
use Rattle.fjall_script.specs.Runs.{AnswersInput, FailsInput, unopened, unread, refused}
use Rattle.fjall_script.specs.Sessions.{PrintsAll, PrintsUntil}
use Rattle.fjall_script.proofs.Answered.{all_answered, answered}
use Rattle.fjall_script.proofs.Living.{session_lived, session_told}

-- the lines of what was read are those of the whole input
same_text : (known start text slice : List ℕ) → start ≡ [] → text ≡ start ++ known → slice ≡ text → slice ≡ known
same_text known start text slice none added shown = shown ∙ added ∙ ap (λ (t : List ℕ). t ++ known) none

-- all of an input was answered
input_answered : (mode : RecoveryMode) (honest : Bool) (text : List ℕ) (commands : List (Option Command)) (old new : Option (List ℕ)) → AllZip (Hears honest) (lines_of text) commands → PrintsAll mode honest commands old new → AnswersInput mode honest text old new
input_answered mode honest text commands old new reads all = record {
  commands = commands;
  core = all.core;
  kept = all.kept;
  printed = all.printed;
  reads = reads;
  session = all.session;
  closed = all.closed;
  lived = session_lived mode honest commands [] true all.core all.kept all.printed all.session;
  told = session_told mode honest commands [] true all.core all.kept all.printed all.session;
  answers = all_answered mode honest commands true all.core all.kept all.printed all.session;
  appends = all.appends;
}

-- a refusal ended its session
input_failed : (mode : RecoveryMode) (honest : Bool) (text : List ℕ) (commands : List (Option Command)) (error : Error) (old new : Option (List ℕ)) → AllZip (Hears honest) (lines_of text) commands → PrintsUntil mode honest commands error old new
    → FailsInput mode honest text old new error
input_failed mode honest text commands error old new reads until =
    let parts = answered mode honest commands until.rest until.ran until.core until.kept until.printed until.session in
    refused error
    (record {
      commands = commands;
      front = parts.0;
      rest = until.rest;
      ran = until.ran;
      core = until.core;
      kept = until.kept;
      printed = until.printed;
      reads = reads;
      split = parts.1;
      session = until.session;
      answers = parts.2;
      lived = session_lived mode honest commands until.rest until.ran until.core until.kept until.printed until.session;
      told = session_told mode honest commands until.rest until.ran until.core until.kept until.printed until.session;
    })
    until.ends

-- what was read was run to its end, or until a refusal
pub all_run : (mode : RecoveryMode) (honest heard : Bool) (known : Option (List ℕ)) (start text slice : List ℕ) (commands given : List (Option Command)) (ended : Result Unit Error) (old new : Option (List ℕ))
    → start ≡ [] → IfSome known (λ xs. text ≡ start ++ xs) → slice ≡ text → heard ≡ honest → AllZip (Hears heard) (lines_of slice) commands → given ≡ commands
    → OnOk ended (PrintsAll mode honest given old new) → OnOk ended (IfSome known (λ xs. AnswersInput mode honest xs old new))
all_run mode honest heard known start text slice commands given (Err error) old new none added shown same reads is all = tt
all_run mode honest heard None start text slice commands given (Ok done) old new none added shown same reads is all = tt
all_run mode honest heard (Some xs) start text slice commands given (Ok done) old new none added shown same reads is all =
    let whole = same_text xs start text slice none added shown in
    let here = subst (λ (t : List ℕ). AllZip (Hears honest) (lines_of t) commands) whole (subst (λ (b : Bool). AllZip (Hears b) (lines_of slice) commands) same reads) in
    input_answered mode honest xs commands old new here (subst (λ (cs : List (Option Command)). PrintsAll mode honest cs old new) is all)

pub run_until : (mode : RecoveryMode) (honest heard : Bool) (known : Option (List ℕ)) (start text slice : List ℕ) (commands given : List (Option Command)) (ended : Result Unit Error) (old new : Option (List ℕ))
    → start ≡ [] → IfSome known (λ xs. text ≡ start ++ xs) → slice ≡ text → heard ≡ honest → AllZip (Hears heard) (lines_of slice) commands → given ≡ commands
    → IfErr ended (λ error. PrintsUntil mode honest given error old new) → IfErr ended (λ error. IfSome known (λ xs. FailsInput mode honest xs old new error))
run_until mode honest heard known start text slice commands given (Ok done) old new none added shown same reads is until = tt
run_until mode honest heard None start text slice commands given (Err error) old new none added shown same reads is until = tt
run_until mode honest heard (Some xs) start text slice commands given (Err error) old new none added shown same reads is until =
    let whole = same_text xs start text slice none added shown in
    let here = subst (λ (t : List ℕ). AllZip (Hears honest) (lines_of t) commands) whole (subst (λ (b : Bool). AllZip (Hears b) (lines_of slice) commands) same reads) in
    input_failed mode honest xs commands error old new here (subst (λ (cs : List (Option Command)). PrintsUntil mode honest cs error old new) is until)

-- the input or the output failed
pub io_is : (error : Error) (kind : ErrorKind) → error ≡ Io kind → IsIo error × IsIoOrMemory error
io_is error kind same = rw same (tt, tt)

-- memory ran out
pub memory_is : (error : Error) → error ≡ OutOfMemory → IsIoOrMemory error
memory_is error same = rw same tt

-- no core was opened
pub not_opened : (mode : RecoveryMode) (honest : Bool) (known old : Option (List ℕ)) (error : Error) → NotBegun mode honest error → IfSome known (λ text. FailsInput mode honest text old old error)
not_opened mode honest None old error h = tt
not_opened mode honest (Some text) old error h = unopened error h (Keeps-refl old)

-- nothing was run
pub not_read : (mode : RecoveryMode) (honest : Bool) (known old : Option (List ℕ)) (error : Error) → IsIoOrMemory error → IfSome known (λ text. FailsInput mode honest text old old error)
not_read mode honest None old error h = tt
not_read mode honest (Some text) old error h = unread error h (Keeps-refl old)
