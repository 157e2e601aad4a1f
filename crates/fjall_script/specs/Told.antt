-- What a session comes to, told by what callers see alone: lists of lines, with the calls that they make and their replies.
use Rattle.std.specs.Prelude.{◌≡◌, ℕ, ◌+◌, List, [], ◌∷◌, ◌++◌, Option, false}
use Rattle.std.specs.List.{slice_split}
use Rattle.fjall_base.specs.Store.{Store}
use Rattle.fjall_lines.specs.declared.command.Command.{Command}
use Rattle.fjall_consistency.specs.Consistency.{Leads, no_store}
use Rattle.fjall_script.specs.Lived.{Asked, made_of, replies_of}
use Rattle.fjall_script.specs.Requests.{AreCalls, all_calls, is_stop, numbers_in}
use Rattle.fjall_script.specs.Sessions.{answers_to}

-- lists of lines, one after another, make these calls, where so many numbers were asked for before
abbrev pub MakeCalls : ℕ → List (List (Option Command)) → List Asked → Type 0
MakeCalls earlier [] [] = Unit {0}
MakeCalls earlier (lines ∷ lists) (asked ∷ others) = AreCalls earlier lines asked.made × MakeCalls (earlier + numbers_in lines) lists others
MakeCalls earlier lists others = ⊥

-- Calls with their replies, one list after another, lead from this store to that one: each list is the calls of a life, which began with the
-- store that the one before it led to. Whether its engine closed isn't told.
abbrev pub LeadOn : Store → List Asked → Store → Type 0
LeadOn start [] end = end ≡ start
LeadOn start (asked ∷ others) end = (next : Store) × Leads start (all_calls asked.made) asked.replies false next × LeadOn next others end

-- A session has come as far as this rest. The lines between one crash or reopening and the next make the calls of a life, these lead on from
-- no store at all, and what was printed are the answers to the lines by their replies.
pub record IsToldSo (commands rest : List (Option Command)) (printed : List (List ℕ)) : Type 0 where
  pub front : List (Option Command)
  pub split : commands ≡ front ++ rest
  pub lists : List Asked
  pub are : MakeCalls 0 (slice_split is_stop front) lists
  pub end : Store
  pub lead : LeadOn no_store lists end
  pub printed_are : printed ≡ answers_to 0 front (made_of lists) (replies_of lists)
