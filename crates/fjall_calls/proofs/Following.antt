-- What calls make of what is told: it goes on behind what it was.
use Rattle.std.proofs.Common.{◌≡◌, ℕ, ◌+◌, ◌-◌, ◌≤◌, ◌<◌, ◌==◌, true, false, cond, List, [], ◌∷◌, ◌++◌, Some, map, length, drop, take, refl, sym, ap, ◌∙◌, arith}
use Rattle.std.proofs.Math.Seq.{drop-append_seam}
use Rattle.std.proofs.lemmas.List.{append-nil, length-map, take-map}
use Rattle.std.specs.FinMap.{get, remove}
use Rattle.fjall_base.specs.Store.{Command, fold}
use Rattle.fjall_history.specs.Histories.{Accepted, History, command_of, commands_of, extended, number, plain, view}
use Rattle.fjall_history.specs.Moves.{Accepts, AreSound, Closes, Collects, HasGrown, Moves, MovesOn, NoMove, OneMove, Opens, Rests, Times}
use Rattle.fjall_history.specs.Tickets.{Tickets, collected, counted}
use Rattle.fjall_history.proofs.Moving.{history_grows, sound_moves, was_open_before}
use Rattle.fjall_history.proofs.Views.{commands_append, same_grown}
use Rattle.fjall_machine.specs.Machine.{State, times}
use Rattle.fjall_core.specs.Standing.{CoreState, gone_on, history_of}

-- What is told goes on: the history has more behind what it had, ids of tickets are given out upwards, and a ticket that was closed
-- stays closed.
pub record Follows (old new : CoreState) : Type 0 where
  pub grown : HasGrown (history_of old) (history_of new)
  pub given : old.state.tickets.next ≤ new.state.tickets.next
  pub was_open : (id instant : ℕ) → id < old.state.tickets.next → get new.state.tickets.instants id ≡ Some instant → get old.state.tickets.instants id ≡ Some instant

-- The commands that are told are those of the state's history, whose tickets are sound.
pub record IsSound (t : CoreState) : Type 0 where
  pub same : commands_of t.accepted ≡ commands_of t.state.history.accepted
  pub sound : AreSound (times t.state)

-- both, as what is told goes on
pub record GoesOn (old new : CoreState) : Type 0 where
  pub follows : Follows old new
  pub sound : IsSound new

-- ---- ids

pub counted_next : (visible : ℕ) (t : Tickets) → (counted visible t).next ≡ t.next
counted_next visible t =
    elim (t.closings + 1 == 10000) as (λ b. (cond b (collected visible (record t { closings = 0 })) (record t { closings = t.closings + 1 })).next ≡ t.next) [
      | true ↦ refl
      | false ↦ refl
    ]

-- ids are given out upwards
given_once : (old new : Times) → Moves old new → old.tickets.next ≤ new.tickets.next
given_once old new (Rests same) = let n = ap (λ (t : Times). t.tickets.next) same in omega (arith, n)
given_once old new (Accepts one same) = let n = ap (λ (t : Times). t.tickets.next) same in omega (arith, n)
given_once old new (Opens at may same) = let n = ap (λ (t : Times). t.tickets.next) same in omega (arith, n)
given_once old new (Closes k there same) =
    let n = ap (λ (t : Times). t.tickets.next) same in
    let m = counted_next (number old.history) (record old.tickets { instants = remove old.tickets.instants k }) in
    omega (arith, n, m)
given_once old new (Collects same) = let n = ap (λ (t : Times). t.tickets.next) same in omega (arith, n)

given_up : (old new : Times) → MovesOn old new → old.tickets.next ≤ new.tickets.next
given_up old new (NoMove t) = omega arith
given_up old new (OneMove a mid b move rest) = let x = given_once old mid move in let y = given_up mid new rest in omega (arith, x, y)

-- ---- one behind another

pub follows_itself : (t : CoreState) → Follows t t
follows_itself t = record { grown = same_grown (history_of t); given = omega arith; was_open = λ id instant lt is. is }

-- ---- moves

-- the history as it is told, with more
told_as : (old new : CoreState) (more later : List Accepted) → new.state.history ≡ extended old.state.history more → new.accepted ≡ old.accepted ++ later
    → history_of new ≡ extended (history_of old) later
told_as old new more later e grown =
    ap (λ (h : History). record h { accepted = new.accepted }) e ∙ ap (λ (l : List Accepted). record old.state.history { accepted = l }) grown

commands_as : (old new : CoreState) (more later : List Accepted) → IsSound old → new.state.history ≡ extended old.state.history more → new.accepted ≡ old.accepted ++ later
    → commands_of later ≡ commands_of more → commands_of new.accepted ≡ commands_of new.state.history.accepted
commands_as old new more later sound e grown alike =
    ap commands_of grown
    ∙ commands_append old.accepted later
    ∙ ap (λ l. commands_of old.accepted ++ l) alike
    ∙ ap (λ l. l ++ commands_of more) sound.same
    ∙ sym (commands_append old.state.history.accepted more)
    ∙ sym (ap (λ (h : History). commands_of h.accepted) e)

-- moves of the state, where what is told grows by the same commands
pub goes_on : (old new : CoreState) (more later : List Accepted) → IsSound old → MovesOn (times old.state) (times new.state) → new.state.history ≡ extended old.state.history more
    → new.accepted ≡ old.accepted ++ later → commands_of later ≡ commands_of more → GoesOn old new
goes_on old new more later sound moves e grown alike = record {
  follows = record {
    grown = (later, told_as old new more later e grown);
    given = given_up (times old.state) (times new.state) moves;
    was_open = was_open_before (times old.state) (times new.state) moves;
  };
  sound = record {
    same = commands_as old new more later sound e grown alike;
    sound = sound_moves (times old.state) (times new.state) sound.sound moves;
  };
}

-- moves that accept nothing
pub goes_on_still : (old new : CoreState) → IsSound old → MovesOn (times old.state) (times new.state) → new.state.history ≡ old.state.history → new.accepted ≡ old.accepted → GoesOn old new
goes_on_still old new sound moves e same =
    goes_on old new [] [] sound moves (e ∙ (λ i. record old.state.history { accepted = sym (append-nil old.state.history.accepted) i })) (same ∙ sym (append-nil old.accepted)) refl

pub goes_nowhere : (t : CoreState) → IsSound t → GoesOn t t
goes_nowhere t sound = record { follows = follows_itself t; sound = sound }

plain_commands : (commands : List Command) → commands_of (map plain commands) ≡ commands
plain_commands [] = refl
plain_commands (command ∷ commands) = ap (λ l. command ∷ l) (plain_commands commands)

-- a call of the core
pub goes_along : (t : CoreState) (s : State) → IsSound t → Moves (times t.state) (times s) → GoesOn t (gone_on t s)
goes_along t s sound move =
    let moves : MovesOn (times t.state) (times s) = OneMove (times t.state) (times s) (times s) move (NoMove (times s)) in
    let (more, e) = history_grows (times t.state) (times s) moves in
    let seen : drop (length t.state.history.accepted) s.history.accepted ≡ more =
    ap (λ (h : History). drop (length t.state.history.accepted) h.accepted) e ∙ drop-append_seam t.state.history.accepted more in
    goes_on t (gone_on t s) more (map plain (commands_of more)) sound moves e (ap (λ (l : List Accepted). t.accepted ++ map plain (commands_of l)) seen) (plain_commands (commands_of more))

-- ---- numbers and views

-- the number of the history as it is told
pub told_number : (t : CoreState) → IsSound t → number (history_of t) ≡ number t.state.history
told_number t sound =
    ap (λ n. t.state.history.base + n) (sym (length-map t.accepted command_of) ∙ ap length sound.same ∙ length-map t.state.history.accepted command_of)

-- and its views
pub told_view : (t : CoreState) → IsSound t → (instant : ℕ) → view (history_of t) instant ≡ view t.state.history instant
told_view t sound instant =
    ap (fold t.state.history.opened)
    (sym (take-map command_of (instant - t.state.history.base) t.accepted)
    ∙ ap (take (instant - t.state.history.base)) sound.same
    ∙ take-map command_of (instant - t.state.history.base) t.state.history.accepted)
