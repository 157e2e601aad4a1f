-- What the program writes for an input.
use Rattle.std.specs.Prelude.{◌≡◌, ℕ, Bool, true, false, if◌then◌else◌, codes, List, [], ◌∷◌, ◌++◌, Option, Some, None, IfSome, IsTrue, map, String, string_bytes}
use Rattle.std.specs.List.{AllZip}
use Rattle.std.specs.Str.{bytes_eq}
use Rattle.std.specs.Io.KnownBytes.{Appends, Keeps}
use Rattle.fjall_journal.specs.declared.recovery_mode.RecoveryMode.{RecoveryMode}
use Rattle.fjall_journal.specs.declared.recovery_mode.RecoveryMode.TheVariants.{RefuseTornTail, TolerateCorruptTail}
use Rattle.fjall_base.specs.declared.error.Error.{Error}
use Rattle.fjall_lines.specs.declared.command.Command.{Command}
use Rattle.fjall_lines.specs.Hearing.{Hears}
use Rattle.fjall_lines.specs.Lines.{lines_of}
use Rattle.fjall_script.specs.declared.program.Status.{Status}
use Rattle.fjall_script.specs.declared.program.Status.TheVariants.{Failure}
use Rattle.fjall_script.specs.Statuses.{status_code}
use Rattle.fjall_script.specs.Answers.{refusal_line, text_of}
use Rattle.fjall_script.specs.Outputs.{IsIoOrMemory}
use Rattle.fjall_calls.specs.Holding.{Held}
use Rattle.fjall_calls.specs.Transactions.{Kept}
use Rattle.fjall_script.specs.Lived.{HasLived}
use Rattle.fjall_script.specs.Machine.{IsClosed, NotBegun}
use Rattle.fjall_script.specs.Sessions.{EndsBy, ForgesNothing, IsAnswer, Session}
use Rattle.fjall_script.specs.Told.{IsToldSo}

-- Each line of the text is read as a command or as none, a session of these came to its end, the core was
-- closed, and what was printed was added: an answer for each. Over a disk that returns what it holds the session came to lives
-- of engines one after another, where no wild crash forged anything; and so it is told by what callers see alone.
pub record AnswersInput (mode : RecoveryMode) (honest : Bool) (text : List ℕ) (old new : Option (List ℕ)) : Type 0 where
  pub commands : List (Option Command)
  pub core : Held
  pub kept : Kept
  pub printed : List (List ℕ)
  pub reads : AllZip (Hears honest) (lines_of text) commands
  pub session : Session mode honest commands true core kept printed []
  pub closed : IsClosed honest core
  pub lived : IsTrue honest → ForgesNothing session → HasLived commands [] printed core kept
  pub told : IsTrue honest → ForgesNothing session → IsToldSo commands [] printed
  pub answers : AllZip IsAnswer commands printed
  pub appends : Appends old new (text_of printed)

-- Each line of the text is read as a command or as none, and a session of these has come so far. What it printed are the
-- answers to the commands of a beginning, one for each; the rest has none. Over a disk that returns what it holds it came to
-- lives of engines one after another, where no wild crash forged anything; and so it is told by what callers see alone.
pub record RunsInput (mode : RecoveryMode) (honest : Bool) (text : List ℕ) : Type 0 where
  pub commands : List (Option Command)
  pub front : List (Option Command)
  pub rest : List (Option Command)
  pub ran : Bool
  pub core : Held
  pub kept : Kept
  pub printed : List (List ℕ)
  pub reads : AllZip (Hears honest) (lines_of text) commands
  pub split : commands ≡ front ++ rest
  pub session : Session mode honest commands ran core kept printed rest
  pub answers : AllZip IsAnswer front printed
  pub lived : IsTrue honest → ForgesNothing session → HasLived commands rest printed core kept
  pub told : IsTrue honest → ForgesNothing session → IsToldSo commands rest printed

-- What is printed for an input that fails with this refusal. Where no core could be opened, or the input could not be read,
-- nothing; where the session was refused, all that it answered before; where the output failed, a beginning of that.
pub data FailsInput (mode : RecoveryMode) (honest : Bool) (text : List ℕ) (old new : Option (List ℕ)) : Error → Type 0 where
  unopened : (error : Error) → NotBegun mode honest error → Keeps old new → FailsInput mode honest text old new error
  unread : (error : Error) → IsIoOrMemory error → Keeps old new → FailsInput mode honest text old new error
  refused : (error : Error) (r : RunsInput mode honest text) → EndsBy mode honest r.core r.ran r.rest r.printed old new error → FailsInput mode honest text old new error

-- How the program fails: one refusal ended it, for which the output is as it should be, and its line was added to `errors`,
-- but for a failure of `errors` itself, which has a status of its own.
pub record ProgramFails (status : Status) (mode : RecoveryMode) (honest : Bool) (input old new errors told : Option (List ℕ)) : Type 0 where
  pub error : Error
  pub printed : IfSome input (λ text. FailsInput mode honest text old new error)
  pub line : status ≡ Failure → Appends errors told (refusal_line error)

-- Where the input and the output are known, as a reader and a writer may say, the input was answered.
abbrev pub AnswersKnown : {W : Type 0} → RecoveryMode → Bool → Option (List ℕ) → (W → Option (List ℕ)) → W → W → Type 0
AnswersKnown mode honest input contents old new = IfSome input (λ text. AnswersInput mode honest text (contents old) (contents new))

-- the same of an input that fails with this refusal
abbrev pub FailsKnown : {W : Type 0} → RecoveryMode → Bool → Option (List ℕ) → (W → Option (List ℕ)) → W → W → Error → Type 0
FailsKnown mode honest input contents old new error = IfSome input (λ text. FailsInput mode honest text (contents old) (contents new) error)

-- at status 1 the program failed, as far as the input, the output and the errors are known
abbrev pub IfFails : {W E : Type 0} → Status → RecoveryMode → Bool → Option (List ℕ) → (W → Option (List ℕ)) → W → W → (E → Option (List ℕ)) → E → E → Type 0
IfFails status mode honest input contents old new heard_of errors told =
    status_code status ≡ 1 → ProgramFails status mode honest input (contents old) (contents new) (heard_of errors) (heard_of told)

-- the first word asks for an engine in memory; each other one is a folder's path
abbrev pub is_memory : List (List ℕ) → Bool
is_memory [] = false
is_memory (place ∷ words) = bytes_eq place (codes "memory")

-- the words behind it ask for a mode: none for the one that cuts a torn tail, `strict` for the one that refuses it; others ask
-- for nothing
abbrev pub mode_of : List (List ℕ) → Option RecoveryMode
mode_of [] = Some TolerateCorruptTail
mode_of (word ∷ []) = if bytes_eq word (codes "strict") then Some RefuseTornTail else None
mode_of (word ∷ more ∷ words) = None

-- the mode that all words ask for, the first of which names a place
abbrev pub mode_asked : List (List ℕ) → Option RecoveryMode
mode_asked [] = None
mode_asked (place ∷ words) = mode_of words

-- the arguments ask for an engine in memory
abbrev pub in_memory : {Z : Type 0} → List (String Z) → Bool
in_memory arguments = is_memory (map string_bytes arguments)

-- the mode that the arguments ask for; none where they are wrong
abbrev pub mode_in : {Z : Type 0} → List (String Z) → Option RecoveryMode
mode_in arguments = mode_asked (map string_bytes arguments)
