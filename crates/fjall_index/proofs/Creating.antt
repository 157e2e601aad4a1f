-- What a creation of a keyspace makes of a state over which an index is kept.
use Rattle.std.proofs.Common.{◌≡◌, inl, inr, ℕ, All, Bool, true, false, if◌then◌else◌, List, [], ◌∷◌, Option, None, Some, ap}
use Rattle.std.proofs.lemmas.List.Elements.{All-cons, All-nil}
use Rattle.fjall_base.specs.Pairs.{Bytes}
use Rattle.fjall_base.specs.Store.{Create}
use Rattle.fjall_base.specs.declared.error.Error.{Error}
use Rattle.fjall_base.specs.declared.error.Error.TheVariants.{Io, NumbersUsedUp, OutOfMemory, Poisoned, Storage, TooManyItems, ValueTooLong}
use Rattle.fjall_meta.specs.Replays.{option_pairs}
use Rattle.fjall_history.specs.declared.reply.Reply.{Reply}
use Rattle.fjall_history.specs.declared.reply.Reply.TheVariants.{Refused}
use Rattle.fjall_machine.specs.Shapes.{OfCreation}
use Rattle.fjall_machine.specs.Machine.{MayFail, Refuses, State, names_one, present}
use Rattle.fjall_core.specs.Crashes.{commands_asked, attempt, is_io}
use Rattle.fjall_core.specs.Durables.{Durable}
use Rattle.fjall_core.specs.Holding.{Held}
use Rattle.fjall_core.specs.Standing.{GoesOn, CoreState, gone_on}
use Rattle.fjall_core.specs.Transactions.{Kept}
use Rattle.fjall_index_entries.specs.Index.{FieldOf}
use Rattle.fjall_index.specs.OtherCalls.{LeavesAlone}
use Rattle.fjall_index.specs.Standing.{StandsIndexed, StaysIndexed}
use Rattle.fjall_index.proofs.OtherCalls.{another_call}

failed_history : (s t : State) (name : Bytes) (options : List Bytes) (error : Error) → MayFail (OfCreation name options) error s t → t.history ≡ s.history
failed_history s t name options (Io kind) (inl (changes, fault)) = ap (λ (k : State). k.history) fault.is
failed_history s t name options (Io kind) (inr (inl (reads, same))) = ap (λ (k : State). k.history) same
failed_history s t name options (Io kind) (inr (inr fails)) = absurd fails
failed_history s t name options OutOfMemory (takes, same) = ap (λ (k : State). k.history) same
failed_history s t name options (Storage told) (is, damaged, same) = ap (λ (k : State). k.history) same
failed_history s t name options ValueTooLong (long, same) = ap (λ (k : State). k.history) same
failed_history s t name options Poisoned (late, same) = ap (λ (k : State). k.history) same
failed_history s t name options NumbersUsedUp (used_up, same) = ap (λ (k : State). k.history) same
failed_history s t name options TooManyItems (none_left, same) = ap (λ (k : State). k.history) same
failed_history s t name options error none = absurd none

pub refused_history : (s t : State) (name : Bytes) (options : List Bytes) (error : Error) (first : Option Error) → Refuses first (OfCreation name options) error s t → t.history ≡ s.history
refused_history s t name options error (Some f) (is, same) = ap (λ (k : State). k.history) same
refused_history s t name options error None fails = failed_history s t name options error fails

-- all that it tries leaves each keyspace alone
creation_asks : (s : State) (name : Bytes) (options : List Bytes) (id : ℕ) → All (LeavesAlone id) (commands_asked s (OfCreation name options))
creation_asks s name options id = by (names_one (present s) name)
  where
    by : (has : Bool) → All (LeavesAlone id) (if has then [] else (Create name (option_pairs options) ∷ []))
    by true = All-nil (LeavesAlone id)
    by false = All-cons (LeavesAlone id) (Create name (option_pairs options)) [] tt (All-nil (LeavesAlone id))

creation_tries : (s : State) (name : Bytes) (options : List Bytes) (reply : Reply) (id : ℕ) → All (LeavesAlone id) (attempt s (OfCreation name options) reply)
creation_tries s name options (Refused error) id = by (is_io error)
  where
    by : (io : Bool) → All (LeavesAlone id) (if io then commands_asked s (OfCreation name options) else [])
    by true = creation_asks s name options id
    by false = All-nil (LeavesAlone id)
creation_tries s name options reply id = creation_asks s name options id

-- whatever comes of it, the index is kept
pub creates : (field : FieldOf) (main index since : ℕ) (old new : Held) (before after : Kept) (t : CoreState) (d : Durable) (name : Bytes) (options : List Bytes) (reply : Reply) → StandsIndexed field main index since old before t d
    → (goes : GoesOn old t (OfCreation name options) reply new after) → (e : Durable) × StaysIndexed field main index since t d (gone_on t goes.0) e new after
creates field main index since old new before after t d name options reply all goes =
    another_call field main index since old new before after t d (OfCreation name options) reply all (creation_tries t.state name options reply main) (creation_tries t.state name options reply index) goes
