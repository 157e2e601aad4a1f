-- What a session over a disk that returns what it holds comes to: engines one after another on one disk, which was new.
use Rattle.std.specs.Prelude.{◌≡◌, ℕ, ◌+◌, List, [], ◌∷◌, ◌++◌, Some, None, Option, map}
use Rattle.std.specs.List.{flat_map, slice_split}
use Rattle.fjall_base.specs.Store.{Store, fold, kept}
use Rattle.fjall_base.specs.Store as store
use Rattle.fjall_base.specs.Disk.{Meaning, state_in}
use Rattle.fjall_meta.specs.Keyspaces.{no_keyspaces}
use Rattle.fjall_meta.specs.Replays.{bare}
use Rattle.fjall_history.specs.declared.reply.Reply.{Reply}
use Rattle.fjall_machine.specs.declared.call.Call.{Call}
use Rattle.fjall_calls.specs.Holding.{Held}
use Rattle.fjall_calls.specs.Crashes.{BlamesEach}
use Rattle.fjall_consistency.specs.Lives.{IsFoldOf, PastLife, Lives, Served, all_left, life_begun, start_of}
use Rattle.fjall_calls.specs.Openings.{OpensAfterCrash, OpensAs}
use Rattle.fjall_calls.specs.CoreStanding.{ReadsOn}
use Rattle.fjall_calls.specs.Standing.{StandFor, CoreState}
use Rattle.fjall_calls.specs.Transactions.{Kept}
use Rattle.fjall_calls.specs.declared.call.TxCall.{TxCall}
use Rattle.fjall_calls.specs.Steps.{TxRun}
use Rattle.fjall_calls.specs.Worlds.{World, begins}
use Rattle.fjall_calls.specs.Serving.{AllCome}
use Rattle.fjall_lines.specs.declared.command.Command.{Command}
use Rattle.fjall_script.specs.Machine.{new_disk}
use Rattle.fjall_script.specs.Requests.{AreCalls, all_calls, counts_of, is_stop, numbers_in}
use Rattle.fjall_script.specs.Sessions.{answers_to}

-- The calls of a list, those of each request together, and what they were replied.
pub record Asked : Type 0 where
  pub made : List (List TxCall)
  pub replies : List Reply

-- none was made yet
abbrev pub unasked : Asked
unasked = record { made = []; replies = [] }

-- the state of the machine that a core opened as, of which nothing is accepted since
abbrev pub told_as : (core : Held) (store : Store) → OpensAs core store → CoreState
told_as core store opens = record { state = start_of core store opens; accepted = [] }

-- A core that opened as this store, without transactions, went through the calls of a list by steps, which came to these calls of the
-- core; and now it may stand for the world that they lead to, with what is kept beside it.
pub record GoesThrough (core : Held) (store : Store) (opens : OpensAs core store) (asked : Asked) (made : List Call) (told : List Reply) (new : Held) (beside : Kept) : Type 0 where
  pub world : World
  pub steps : TxRun (begins (told_as core store opens) None) [] (all_calls asked.made) asked.replies made told world
  pub stands : StandFor new beside world.told
  pub reads : ReadsOn new world.told.state

-- A list of lines was served, where so many numbers were asked for before, by the calls that they make, which got their replies and came
-- to the calls of the core of one life, of an engine that opened as the store that this life was shown.
pub record IsServed (earlier : ℕ) (lines : List (Option Command)) (asked : Asked) (showed : Option Store) (made : List Call) (told : List Reply) : Type 0 where
  pub are : AreCalls earlier lines asked.made
  pub come : AllCome [] (all_calls asked.made) asked.replies made told
  pub core : Held
  pub store : Store
  pub shown : showed ≡ Some store
  pub opens : OpensAs core store
  pub new : Held
  pub served : Served core store opens made told new
  pub beside : Kept
  pub through : GoesThrough core store opens asked made told new beside

-- lists of lines, one after another, each by the calls of a list, which came to those of a life with their replies, over the store
-- that it was shown
abbrev pub AreServed : ℕ → List (List (Option Command)) → List Asked → List (Option Store × List Call × List Reply) → Type 0
AreServed earlier [] [] [] = Unit {0}
AreServed earlier (lines ∷ lists) (asked ∷ others) (life ∷ lives) = IsServed earlier lines asked life.0 life.1 life.2 × AreServed (earlier + numbers_in lines) lists others lives
AreServed earlier lists others lives = ⊥

-- what a life was shown, its calls and their replies
abbrev pub served_in : PastLife → Option Store × List Call × List Reply
served_in life = (life.showed, life.calls, life.replies)

-- all replies of these lists, in order
abbrev pub replies_of : List Asked → List Reply
replies_of others = flat_map (λ asked. asked.replies) others

-- and how many calls each of their requests made
abbrev pub made_of : List Asked → List ℕ
made_of others = flat_map (λ asked. counts_of asked.made) others

-- A session has come as far as this rest. Each crash and each reopening ended the life of an engine, and the core as it stands
-- is of one more: the calls of the lines between one crash or reopening and the next came to the calls of each, over the store that it
-- was shown. What was printed are the answers by their replies. These stores are one chain: each life goes on from the one that it was
-- shown with a beginning of what it tried, with all that a sync followed that succeeded, and the last of them opened as the last store
-- of the chain, the fold of all this in order. Each `Io` of its calls was told where the device failed.
pub record HasLived (commands rest : List (Option Command)) (printed : List (List ℕ)) (core : Held) (beside : Kept) : Type 0 where
  pub front : List (Option Command)
  pub split : commands ≡ front ++ rest
  pub lives : List PastLife
  pub disk : Meaning
  pub base : Store
  pub pending : List store.Command
  pub before : Lives (state_in new_disk) (bare no_keyspaces) lives (state_in disk) base pending
  pub first : Held
  pub opened : OpensAfterCrash disk first base pending
  pub calls : List Call
  pub replies : List Reply
  pub run : Served first (kept (fold base opened.front)) opened.opens calls replies core
  pub device : BlamesEach (start_of first (kept (fold base opened.front)) opened.opens) (life_begun first (kept (fold base opened.front))) calls replies run.tried run.state run.durable run.run
  pub lists : List Asked
  pub last : Asked
  pub through : GoesThrough first (kept (fold base opened.front)) opened.opens last calls replies core beside
  pub calls_are : AreServed 0 (slice_split is_stop front) (lists ++ last ∷ []) (map served_in lives ++ (Some (kept (fold base opened.front)), calls, replies) ∷ [])
  pub printed_are : printed ≡ answers_to 0 front (made_of lists ++ counts_of last.made) (replies_of lists ++ last.replies)
  pub left : IsFoldOf (bare no_keyspaces) lives (kept (fold base opened.front))
  pub stands : OpensAs first (kept (fold (bare no_keyspaces) (all_left left.fronts)))
