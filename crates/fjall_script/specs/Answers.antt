-- What is printed.
use Rattle.std.specs.Prelude.{ℕ, Bool, List, [], ◌∷◌, ◌++◌, if◌then◌else◌, length, codes, decimal, not, Some, None, true, false}
use Rattle.std.specs.List.{flat_map}
use Rattle.fjall_base.specs.declared.error.Error.{Error}
use Rattle.fjall_base.specs.Errors.{number_of, name_of}
use Rattle.fjall_base.specs.Pairs.{Bytes}
use Rattle.fjall_history.specs.declared.reply.Reply.{Reply}
use Rattle.fjall_history.specs.declared.reply.Reply.TheVariants.{Began, Done, Ids, Value, Pairs, Number, Names, Flag, Opened, Refused}
use Rattle.fjall_lines.specs.declared.command.Request.{Request}
use Rattle.fjall_lines.specs.declared.command.Request.TheVariants.{Begin, Commit, Gc, Keyspace, Len}
use Rattle.fjall_lines.specs.Lines.{hex_word}

-- a refusal: its number and its name
abbrev pub refusal_text : Error → List ℕ
refusal_text error = codes "error " ++ (decimal (number_of error) ++ (codes " " ++ name_of error))

-- a refusal's line
abbrev pub refusal_line : Error → List ℕ
refusal_line error = refusal_text error ++ 10 ∷ []

-- the line that wrong arguments are answered
abbrev pub usage_line : List ℕ
usage_line = codes "usage: fjall-run memory|FOLDER [strict]" ++ 10 ∷ []

-- a pair: the key, an equals sign and the value
abbrev pub pair_word : Bytes × Bytes → List ℕ
pair_word (key, value) = hex_word key ++ (codes "=" ++ hex_word value)

-- pairs, each behind a space
abbrev pub pairs_text : List (Bytes × Bytes) → List ℕ
pairs_text pairs = codes "pairs" ++ flat_map (λ pair. codes " " ++ pair_word pair) pairs

abbrev pub count_text : ℕ → List ℕ
count_text count = codes "count " ++ decimal count

-- A reply that says nothing of its line: a job isn't out, so that it could not be finished; or one was begun, or there was none to begin.
abbrev pub is_idle : Reply → Bool
is_idle (Flag done) = not done
is_idle (Began job) = true
is_idle reply = false

-- the last of these replies that says something, and else the one before them
abbrev pub last_said : Reply → List Reply → Reply
last_said before [] = before
last_said before (reply ∷ replies) = last_said (if is_idle reply then before else reply) replies

-- The reply to a request, by those to its calls: the last that says something, and that nothing was done where none does.
abbrev pub reply_to : List Reply → Reply
reply_to replies = last_said (Flag false) replies

-- the answer to a request that is done: a transaction that begins is told by its number
abbrev pub done_text : ℕ → Request → List ℕ
done_text number Begin = codes "tx " ++ decimal number
done_text number request = codes "ok"

-- the answer to a request by a flag: to a commit whether it took place, or conflicts
abbrev pub flag_text : Request → Bool → List ℕ
flag_text (Commit number) true = codes "ok"
flag_text (Commit number) false = codes "conflict"
flag_text request true = codes "true"
flag_text request false = codes "false"

-- the answer to a request by a number: `keyspace` tells an id, and `gc` the watermark
abbrev pub number_text : Request → ℕ → List ℕ
number_text (Keyspace name) id = codes "keyspace " ++ decimal id
number_text Gc watermark = codes "watermark " ++ decimal watermark
number_text request count = count_text count

-- the answer to a request, by its reply, where a snapshot that it opens, or a transaction that it begins, gets this number: `len` tells
-- how many pairs there are, `scan` the pairs, and `flush` and `merge` whether one was begun and finished
abbrev pub reply_text : ℕ → Request → Reply → List ℕ
reply_text number request Done = done_text number request
reply_text number request (Value None) = codes "none"
reply_text number request (Value (Some value)) = codes "value " ++ hex_word value
reply_text number (Len id) (Pairs pairs) = count_text (length pairs.items)
reply_text number request (Pairs pairs) = pairs_text pairs.items
reply_text number request (Number count) = number_text request count
reply_text number request (Names names) = count_text (length names.items)
reply_text number request (Flag flag) = flag_text request flag
reply_text number request (Opened ticket) = codes "snapshot " ++ decimal number
reply_text number request (Began (Some job)) = codes "true"
reply_text number request (Began None) = codes "false"
reply_text number request (Ids ids) = count_text (length ids.items)
reply_text number request (Refused error) = refusal_text error

-- the answer to a line that is no command
abbrev pub bad_line : List ℕ
bad_line = codes "error 0 BadLine"

-- the answer to a crash or a reopening
abbrev pub ok_line : List ℕ
ok_line = codes "ok"

-- lines, each with its line feed
abbrev pub text_of : List (List ℕ) → List ℕ
text_of = flat_map (λ line. line ++ 10 ∷ [])
