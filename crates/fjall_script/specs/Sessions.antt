-- What a session prints: the answers to its commands, in turn.
use Rattle.std.specs.Prelude.{◌≡◌, ℕ, ◌+◌, Bool, true, false, List, [], ◌∷◌, ◌++◌, take, drop, Option, Some, None, Result, Err, IsTrue, All, ◌⊎◌}
use Rattle.std.specs.Io.KnownBytes.{Appends, Keeps}
use Rattle.fjall_journal.specs.declared.recovery_mode.RecoveryMode.{RecoveryMode}
use Rattle.fjall_base.specs.Crash.{crashed}
use Rattle.fjall_base.specs.Disk.{Meaning, IsImage, IsImageBy, SurvivesWild, disk_of, state_in}
use Rattle.fjall_base.specs.declared.error.Error.{Error}
use Rattle.fjall_base.specs.declared.error.Error.TheVariants.{OutOfMemory}
use Rattle.fjall_disk_memory.specs.Wild.{filled}
use Rattle.fjall_recovery.specs.Wild.{SurvivesUnforged}
use Rattle.fjall_calls.specs.Holding.{Held}
use Rattle.fjall_calls.specs.Transactions.{Kept, none_kept}
use Rattle.fjall_calls.specs.declared.call.TxCall.{TxCall}
use Rattle.fjall_calls.specs.Serving.{RunsTx}
use Rattle.fjall_history.specs.declared.reply.Reply.{Reply}
use Rattle.fjall_history.specs.declared.reply.Reply.TheVariants.{Done, Flag, Value, Pairs, Number, Opened, Refused}
use Rattle.fjall_lines.specs.declared.command.Command.{Command}
use Rattle.fjall_lines.specs.declared.command.Command.TheVariants.{Ask, Crash, CrashWild, Reopen}
use Rattle.fjall_lines.specs.declared.command.Request.{Request}
use Rattle.fjall_lines.specs.declared.command.Request.TheVariants.{Keyspace, Delete, Insert, Remove, RemoveWeak, Clear, Batch, Get, Len, Scan, Snapshot, GetAt, CloseSnapshot, Begin, TxGet, TxInsert, Commit, Gc, Rotate, Flush, Merge, Persist}
use Rattle.fjall_script.specs.Answers.{reply_text, reply_to, bad_line, ok_line, text_of}
use Rattle.fjall_script.specs.Outputs.{AppendsFront, IsIo}
use Rattle.fjall_script.specs.Requests.{AreCalls, all_calls, asked_with, counts_of, is_stop, numbers_before, numbers_in}
use Rattle.fjall_script.specs.Machine.{BeginsSession, ClosesCore, Crashes, CrashesWild, IsNoDisk, RefusedOn, Reopens, IsClosed}

-- The answers to lines by the replies to their calls, in turn, so many to each request, where so many numbers were asked for before: ok
-- for a crash and a reopening, and a line that is no command has an answer of its own.
abbrev pub answers_to : ℕ → List (Option Command) → List ℕ → List Reply → List (List ℕ)
answers_to earlier [] counts replies = []
answers_to earlier (None ∷ rest) counts replies = bad_line ∷ answers_to earlier rest counts replies
answers_to earlier (Some (Ask request) ∷ rest) [] replies = []
answers_to earlier (Some (Ask request) ∷ rest) (count ∷ counts) replies =
    reply_text (earlier + 1) request (reply_to (take count replies)) ∷ answers_to (asked_with earlier request) rest counts (drop count replies)
answers_to earlier (Some (Crash keep) ∷ rest) counts replies = ok_line ∷ answers_to earlier rest counts replies
answers_to earlier (Some (CrashWild fills) ∷ rest) counts replies = ok_line ∷ answers_to earlier rest counts replies
answers_to earlier (Some Reopen ∷ rest) counts replies = ok_line ∷ answers_to earlier rest counts replies

-- what the reply to a request may be: what the request asks for, or a refusal
abbrev pub IsReplyTo : Request → Reply → Type 0
IsReplyTo request (Refused error) = Unit {0}
IsReplyTo (Keyspace name) (Number id) = Unit {0}
IsReplyTo (Delete id) Done = Unit {0}
IsReplyTo (Insert id key value) Done = Unit {0}
IsReplyTo (Remove id key) Done = Unit {0}
IsReplyTo (RemoveWeak id key) Done = Unit {0}
IsReplyTo (Clear id) Done = Unit {0}
IsReplyTo (Batch writes) Done = Unit {0}
IsReplyTo (Get id key) (Value found) = Unit {0}
IsReplyTo (Len id) (Pairs pairs) = Unit {0}
IsReplyTo (Scan id) (Pairs pairs) = Unit {0}
IsReplyTo Snapshot (Opened ticket) = Unit {0}
IsReplyTo (GetAt number id key) (Value found) = Unit {0}
IsReplyTo (CloseSnapshot number) Done = Unit {0}
IsReplyTo Begin Done = Unit {0}
IsReplyTo (TxGet number id key) (Value found) = Unit {0}
IsReplyTo (TxInsert number id key value) Done = Unit {0}
IsReplyTo (Commit number) (Flag is_committed) = Unit {0}
IsReplyTo Gc (Number watermark) = Unit {0}
IsReplyTo (Rotate id) (Flag is_sealed) = Unit {0}
IsReplyTo (Flush id) (Flag is_finished) = Unit {0}
IsReplyTo (Merge id) (Flag is_finished) = Unit {0}
IsReplyTo Persist Done = Unit {0}
IsReplyTo request reply = ⊥

-- the answer by a reply to a request, where a snapshot that it opens, or a transaction that it begins, gets some number
pub record IsReplied (request : Request) (answer : List ℕ) : Type 0 where
  pub number : ℕ
  pub reply : Reply
  pub fits : IsReplyTo request reply
  pub is : answer ≡ reply_text number request reply

-- what a line may be answered: the reply to its request, ok for a crash or a reopening
abbrev pub IsSaid : Option Command → List ℕ → Type 0
IsSaid None answer = answer ≡ bad_line
IsSaid (Some (Crash keep)) answer = answer ≡ ok_line
IsSaid (Some (CrashWild fills)) answer = answer ≡ ok_line
IsSaid (Some Reopen) answer = answer ≡ ok_line
IsSaid (Some (Ask request)) answer = IsReplied request answer

-- The answer to a line. The one for bad lines is given only where the line is no command.
pub record IsAnswer (found : Option Command) (answer : List ℕ) : Type 0 where
  pub said : IsSaid found answer
  pub bad : answer ≡ bad_line → found ≡ None

-- nothing is left, or a crash or a reopening comes next
abbrev pub IsAtStop : List (Option Command) → Type 0
IsAtStop [] = Unit {0}
IsAtStop (found ∷ rest) = is_stop found ≡ true

-- what a crash leaves of a disk, one of the images that it may leave: so many unsynced bytes of each file, or what is given behind
-- the synced ones; or the same disk at a reopening
abbrev pub RestartLeaves : Option Command → Meaning → Meaning → Type 0
RestartLeaves (Some (Crash keep)) old new = IsImage (state_in old) (crashed keep (state_in old)) × (state_in new ≡ disk_of (crashed keep (state_in old)))
RestartLeaves (Some (CrashWild fills)) old new =
    IsImageBy SurvivesWild (state_in old) (filled fills (crashed 0 (state_in old))) × (state_in new ≡ disk_of (filled fills (crashed 0 (state_in old))))
RestartLeaves stop old new = new ≡ old

-- the line opens the core again, after a crash or not
abbrev pub Restarts : RecoveryMode → Bool → Option Command → Held → Held → Type 0
Restarts mode honest (Some (Crash keep)) old new = Crashes mode honest keep old new
Restarts mode honest (Some (CrashWild fills)) old new = CrashesWild mode honest fills old new
Restarts mode honest (Some Reopen) old new = Reopens mode honest old new
Restarts mode honest found old new = ⊥

-- what such a line opens the core on: what the crash leaves, or the disk of the old core, which was closed, with success or not
abbrev pub OpensAgain : Bool → Option Command → Held → Meaning → Type 0
OpensAgain honest (Some (Crash keep)) old disk = IsTrue honest → RestartLeaves (Some (Crash keep)) old.disk disk
OpensAgain honest (Some (CrashWild fills)) old disk = IsTrue honest → RestartLeaves (Some (CrashWild fills)) old.disk disk
OpensAgain honest (Some Reopen) old disk = (closing : Result Unit Error) × (closed : Meaning) × ClosesCore honest old closing closed × (IsTrue honest → disk ≡ closed)
OpensAgain honest found old disk = ⊥

-- the opening of such a line was refused
abbrev pub NotRestarted : RecoveryMode → Bool → Option Command → Held → Error → Type 0
NotRestarted mode honest stop old error = IsNoDisk honest error ⊎ ((disk : Meaning) × OpensAgain honest stop old disk × RefusedOn mode honest disk error)

-- A session of these commands: whether the calls up to the next crash or reopening have run, the core as it stands and what is kept
-- beside it, what was printed so far, and the commands to come. The calls up to a crash, a reopening or the end are one run. Each core
-- that opens begins without transactions.
pub data Session (mode : RecoveryMode) (honest : Bool) (commands : List (Option Command)) : Bool → Held → Kept → List (List ℕ) → List (Option Command) → Type 0 where
  begun : (core : Held) → BeginsSession mode honest core → Session mode honest commands false core none_kept [] commands
  run : (old new : Held) (before after : Kept) (printed : List (List ℕ)) (lines rest : List (Option Command)) (made : List (List TxCall)) (replies : List Reply)
      → Session mode honest commands false old before printed (lines ++ rest) → All (λ found. is_stop found ≡ false) lines → IsAtStop rest
      → AreCalls (numbers_before commands (lines ++ rest)) lines made → RunsTx honest old before (all_calls made) replies new after
      → Session mode honest commands true new after (printed ++ answers_to (numbers_before commands (lines ++ rest)) lines (counts_of made) replies) rest
  restarted : (old new : Held) (before : Kept) (printed : List (List ℕ)) (stop : Option Command) (rest : List (Option Command))
      → Session mode honest commands true old before printed (stop ∷ rest) → Restarts mode honest stop old new
      → Session mode honest commands false new none_kept (printed ++ ok_line ∷ []) rest

-- What the line leaves forges nothing: the whole batches and the whole records at the front of each file stood there as the crash
-- came.
abbrev pub IsUnforgedStop : Option Command → Meaning → Type 0
IsUnforgedStop (Some (CrashWild fills)) disk = IsImageBy SurvivesUnforged (state_in disk) (filled fills (crashed 0 (state_in disk)))
IsUnforgedStop stop disk = Unit {0}

-- no wild crash of the session forged anything
abbrev pub ForgesNothing : {mode : RecoveryMode} {honest : Bool} {commands : List (Option Command)} {ran : Bool} {core : Held} {kept : Kept} {printed : List (List ℕ)} {rest : List (Option Command)}
    → Session mode honest commands ran core kept printed rest → Type 0
ForgesNothing (begun core begins) = Unit {0}
ForgesNothing (run old new before after printed lines rest made replies session alone stop are runs) = ForgesNothing session
ForgesNothing (restarted old new before printed stop rest session restarts) = ForgesNothing session × IsUnforgedStop stop old.disk

-- How a session fails, with its core as it stands and these commands to come: memory ran out for a list of calls as a whole or
-- for an answer, the opening of a crash or a reopening was refused, or the closing at the end.
pub data SessionFails (mode : RecoveryMode) (honest : Bool) (core : Held) : Bool → List (Option Command) → Error → Type 0 where
  no_memory : (ran : Bool) (rest : List (Option Command)) → SessionFails mode honest core ran rest OutOfMemory
  not_restarted : (stop : Option Command) (rest : List (Option Command)) (error : Error) → is_stop stop ≡ true → NotRestarted mode honest stop core error
      → SessionFails mode honest core true (stop ∷ rest) error
  not_closed : (error : Error) (disk : Meaning) → ClosesCore honest core (Err error) disk → SessionFails mode honest core true [] error

-- all commands were answered, what was printed was written, and then the core was closed
pub record PrintsAll (mode : RecoveryMode) (honest : Bool) (commands : List (Option Command)) (old new : Option (List ℕ)) : Type 0 where
  pub core : Held
  pub kept : Kept
  pub printed : List (List ℕ)
  pub session : Session mode honest commands true core kept printed []
  pub closed : IsClosed honest core
  pub appends : Appends old new (text_of printed)

-- A session of these commands came so far, and was ended by a refusal: it failed, and all that was printed before was written;
-- or the output failed, and a beginning of it was.
pub data EndsBy (mode : RecoveryMode) (honest : Bool) (core : Held) (ran : Bool) (rest : List (Option Command)) (printed : List (List ℕ)) (old new : Option (List ℕ)) : Error → Type 0 where
  failed : (error : Error) → SessionFails mode honest core ran rest error → Appends old new (text_of printed) → EndsBy mode honest core ran rest printed old new error
  unwritten : (error : Error) → IsIo error → AppendsFront old new (text_of printed) → EndsBy mode honest core ran rest printed old new error

pub record PrintsUntil (mode : RecoveryMode) (honest : Bool) (commands : List (Option Command)) (error : Error) (old new : Option (List ℕ)) : Type 0 where
  pub ran : Bool
  pub core : Held
  pub kept : Kept
  pub printed : List (List ℕ)
  pub rest : List (Option Command)
  pub session : Session mode honest commands ran core kept printed rest
  pub ends : EndsBy mode honest core ran rest printed old new error

-- The calls before the first crash or reopening were one run, where so many numbers were asked for before.
pub record RunsLines (honest : Bool) (earlier : ℕ) (commands rest : List (Option Command)) (core : Held) (kept : Kept) (after : Held) (left : Kept) (printed : List (List ℕ)) : Type 0 where
  pub lines : List (Option Command)
  pub made : List (List TxCall)
  pub replies : List Reply
  pub split : commands ≡ lines ++ rest
  pub calls_alone : All (λ found. is_stop found ≡ false) lines
  pub stop : IsAtStop rest
  pub asked : AreCalls earlier lines made
  pub runs : RunsTx honest core kept (all_calls made) replies after left
  pub printed_are : printed ≡ answers_to earlier lines (counts_of made) replies

-- These are their answers, and so many numbers were asked for by then.
pub record AnsweredFront (honest : Bool) (earlier : ℕ) (commands rest : List (Option Command)) (core : Held) (kept : Kept) (after : Held) (left : Kept) (text : List ℕ) (asked : ℕ) : Type 0 where
  pub printed : List (List ℕ)
  pub ran : RunsLines honest earlier commands rest core kept after left printed
  pub text_is : text ≡ text_of printed
  pub asked_is : asked + numbers_in rest ≡ earlier + numbers_in commands

-- Their answers were written.
pub record RunsFront (honest : Bool) (earlier : ℕ) (commands rest : List (Option Command)) (core : Held) (kept : Kept) (after : Held) (left : Kept) (old new : Option (List ℕ)) (asked : ℕ) : Type 0 where
  pub printed : List (List ℕ)
  pub ran : RunsLines honest earlier commands rest core kept after left printed
  pub appends : Appends old new (text_of printed)
  pub asked_is : asked + numbers_in rest ≡ earlier + numbers_in commands

-- Memory ran out before one of them was, or a beginning of them was written before the output failed.
pub data FrontFails (honest : Bool) (earlier : ℕ) (commands : List (Option Command)) (core : Held) (kept : Kept) (after : Held) (left : Kept) (old new : Option (List ℕ)) : Error → Type 0 where
  no_room : Keeps old new → FrontFails honest earlier commands core kept after left old new OutOfMemory
  half_written : (error : Error) (rest : List (Option Command)) (printed : List (List ℕ)) → IsIo error → RunsLines honest earlier commands rest core kept after left printed
      → AppendsFront old new (text_of printed) → FrontFails honest earlier commands core kept after left old new error
