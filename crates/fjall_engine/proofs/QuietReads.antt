-- What a core stood for it stands for behind a read.
use Rattle.std.proofs.Common.{◌≡◌, ◌⊎◌, inl, inr, ℕ, List, [], ◌∷◌, Option, Some, None, refl, sym, subst}
use Rattle.fjall_base.specs.declared.error.Error.{Error}
use Rattle.fjall_base.specs.declared.error.Error.TheVariants.{Io, NumbersUsedUp, OutOfMemory, Poisoned, Storage, TooManyItems, ValueTooLong}
use Rattle.fjall_table_reader.specs.Readers.{Reader}
use Rattle.fjall_history.specs.declared.reply.Reply.{Reply}
use Rattle.fjall_history.specs.declared.reply.Reply.TheVariants.{Refused}
use Rattle.fjall_history.specs.declared.ticket.View.{View}
use Rattle.fjall_history.specs.Queries.{Query}
use Rattle.fjall_machine.specs.Shapes.{OfRead}
use Rattle.fjall_machine.specs.Machine.{MayFail, Refuses, State, StepOf, due}
use Rattle.fjall_engine.specs.Holding.{Held}
use Rattle.fjall_engine.specs.Standing.{LeadsOn, LooksAt, Owes, OwesRefusal, ReadsOn, Serves, StandsFor, held_due, tables_of}
use Rattle.fjall_engine.proofs.OwedStates.{looked_stands, still}

-- a read of a keyspace with these tables looked at the disk, or at nothing
looked_at : (tables : List Reader) (old new : Held) (s : State) → LooksAt tables old new → StandsFor old s → StandsFor new s
looked_at [] old new s same stands = still old new s same stands
looked_at (t ∷ tables) old new s looks stands = looked_stands old new s looks stands

refused_stands : (first : Option Error) (old new : Held) (view : View) (id : ℕ) (query : Query) (error : Error) (s : State) → OwesRefusal first old (OfRead view id query) error new → StandsFor old s → StandsFor new s
refused_stands (Some first) old new view id query error s (is, same) stands = still old new s same stands
refused_stands None old new view id query (Io kind) s (inl (changes, fault)) stands = absurd changes
refused_stands None old new view id query (Io kind) s (inr (inl (reads, looks, rose))) stands = looked_stands old new s looks stands
refused_stands None old new view id query (Io kind) s (inr (inr poisons)) stands = absurd poisons
refused_stands None old new view id query OutOfMemory s (takes, out) stands = looked_at (tables_of old id) old new s out stands
refused_stands None old new view id query (Storage told) s (is, inl (reads, looks)) stands = looked_stands old new s looks stands
refused_stands None old new view id query (Storage told) s (is, inr found) stands = absurd found
refused_stands None old new view id query ValueTooLong s (long, same) stands = absurd long
refused_stands None old new view id query Poisoned s (late, same) stands = absurd late
refused_stands None old new view id query NumbersUsedUp s (used, same) stands = absurd used
refused_stands None old new view id query TooManyItems s (room, same) stands = absurd room
refused_stands None old new view id query error s bad stands = absurd bad

-- over any disk
pub a_read_stands : (old new : Held) (view : View) (id : ℕ) (query : Query) (reply : Reply) → Owes old (OfRead view id query) reply new → (s : State) → StandsFor old s → StandsFor new s
a_read_stands old new view id query (Refused error) owes s stands = refused_stands (held_due old (OfRead view id query)) old new view id query error s owes stands
a_read_stands old new view id query reply (none, gives) s stands = looked_at (tables_of old id) old new s gives.1 stands

refusal_rests : (first : Option Error) (s t : State) (view : View) (id : ℕ) (query : Query) (error : Error) → Refuses first (OfRead view id query) error s t → t ≡ s
refusal_rests (Some first) s t view id query error (is, same) = same
refusal_rests None s t view id query (Io kind) (inl (changes, fault)) = absurd changes
refusal_rests None s t view id query (Io kind) (inr (inl (reads, same))) = same
refusal_rests None s t view id query (Io kind) (inr (inr fails)) = absurd fails
refusal_rests None s t view id query OutOfMemory (takes, same) = same
refusal_rests None s t view id query (Storage told) (is, reads, same) = same
refusal_rests None s t view id query ValueTooLong (long, same) = same
refusal_rests None s t view id query Poisoned (late, same) = same
refusal_rests None s t view id query NumbersUsedUp (used, same) = same
refusal_rests None s t view id query TooManyItems (room, same) = same
refusal_rests None s t view id query error bad = absurd bad

-- no step of a read leads to another state
read_rests : (s t : State) (view : View) (id : ℕ) (query : Query) (reply : Reply) → StepOf s (OfRead view id query) reply t → t ≡ s
read_rests s t view id query (Refused error) step = refusal_rests (due s (OfRead view id query)) s t view id query error step
read_rests s t view id query reply (none, answers) = answers.1

-- over a disk that returns what it holds
pub a_read_serves : (old new : Held) (view : View) (id : ℕ) (query : Query) (reply : Reply) → Serves old (OfRead view id query) reply new → (s : State) → StandsFor old s → ReadsOn old s
    → StandsFor new s × ReadsOn new s × LeadsOn old s (OfRead view id query) reply new s
a_read_serves old new view id query reply serves s stands reads =
    let on = serves.goes_on s stands reads in
    subst (λ t. StandsFor new t × ReadsOn new t × LeadsOn old s (OfRead view id query) reply new t) (read_rests s on.0 view id query reply on.3) (on.1, on.2, on.4)
