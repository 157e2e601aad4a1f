-- Which refusals are due, and what a call asks for.
use Rattle.std.proofs.Common.{◌≡◌, ℕ, Bool, true, false, not, ◌&&◌, if◌then◌else◌, List, [], ◌∷◌, Option, Some, None, refl, sym, ap}
use Rattle.std.proofs.lemmas.Bool.{true≢false}
use Rattle.std.proofs.lemmas.Option.{none-some}
use Rattle.std.specs.List.{AllByRecursion}
use Rattle.fjall_base.specs.Pairs.{Bytes}
use Rattle.fjall_base.specs.Store.{Command, Create, Delete}
use Rattle.fjall_base.specs.declared.error.Error.{Error}
use Rattle.fjall_base.specs.declared.error.Error.TheVariants.{NumbersUsedUp, Poisoned, SnapshotClosed}
use Rattle.fjall_journal.specs.Changes.{Change, Emptied, Items, command_of}
use Rattle.fjall_meta.specs.Replays.{option_pairs}
use Rattle.fjall_history.specs.declared.ticket.View.TheVariants.{At, Present}
use Rattle.fjall_history.specs.declared.reply.Reply.TheVariants.{Refused}
use Rattle.fjall_history.specs.Tickets.{Tickets, ids_used_up, is_open}
use Rattle.fjall_compaction.specs.Ingests.{ingestion}
use Rattle.fjall_reading.specs.Ingestions.{KeyOp}
use Rattle.fjall_machine.proofs.Ascending.{may_ingest}
use Rattle.fjall_machine.proofs.Dues.{may_change}
use Rattle.fjall_machine.specs.Shapes.{CallShape, Clone, Close, Collect, OfChange, OfCount, OfCreation, OfDeletion, OfFlushBegin, OfFlushFinish, OfHandle, OfIngestion, OfJournalRotation, OfMaintenance, OfMergeBegin, OfMergeFinish, OfPersist, OfRead, OfRotation, OfTickets, OneLess, OneMore, Open, TicketCall}
use Rattle.fjall_machine.specs.Machine.{Facts, State, change_refusals, clear_refusals, creation_refusals, deletion_refusals, due, due_in, facts, first_due, handle_refusals, names_one, ingestion_refusals, is_living, items_refusals, present, rotation_refusals, ticket_refusal, view_refusals, journal_refusals}
use Rattle.fjall_engine.specs.Crashes.{IsSync, commands_asked, attempt, is_io}

-- where none is due, no cause holds
pub none_due : (refusals : List (Bool × Error)) → first_due refusals ≡ None → AllByRecursion (λ refusal. refusal.0 ≡ false) refusals
none_due [] none = tt
none_due ((true, error) ∷ others) none = absurd (none-some _ (sym none))
none_due ((false, error) ∷ others) none = (refl, none_due others none)

-- ---- a fault is never due

abbrev pub is_fault : Option Error → Bool
is_fault None = false
is_fault (Some error) = is_io error

no_fault_due : (refusals : List (Bool × Error)) → AllByRecursion (λ refusal. is_io refusal.1 ≡ false) refusals → is_fault (first_due refusals) ≡ false
no_fault_due [] each = refl
no_fault_due ((true, error) ∷ refusals) each = each.0
no_fault_due ((false, error) ∷ refusals) each = no_fault_due refusals each.1

opening_not : (b : Bool) → is_fault (if b then Some NumbersUsedUp else None) ≡ false
opening_not true = refl
opening_not false = refl

cloning_not : (a b : Bool) → is_fault (if a then (if b then Some NumbersUsedUp else None) else Some SnapshotClosed) ≡ false
cloning_not true b = opening_not b
cloning_not false b = refl

closing_not : (b : Bool) → is_fault (if b then None else Some SnapshotClosed) ≡ false
closing_not true = refl
closing_not false = refl

no_ticket_fault : (t : Tickets) (call : TicketCall) → is_fault (ticket_refusal t call) ≡ false
no_ticket_fault t Open = opening_not (ids_used_up t)
no_ticket_fault t (Clone id) = cloning_not (is_open t id) (ids_used_up t)
no_ticket_fault t (Close id) = closing_not (is_open t id)
no_ticket_fault t Collect = refl

pub never_due : (f : Facts) (shape : CallShape) → is_fault (due_in f shape) ≡ false
never_due f (OfChange (Items []) how) = refl
never_due f (OfChange (Emptied id) how) = no_fault_due (clear_refusals f id) (refl, (refl, (refl, (refl, tt))))
never_due f (OfChange (Items (item ∷ items)) how) = no_fault_due (items_refusals f (item ∷ items)) (refl, (refl, (refl, (refl, (refl, (refl, (refl, (refl, tt))))))))
never_due f (OfIngestion id []) = refl
never_due f (OfIngestion id (item ∷ items)) =
    no_fault_due (ingestion_refusals f id (item ∷ items)) (refl, (refl, (refl, (refl, (refl, (refl, (refl, (refl, (refl, tt)))))))))
never_due f (OfCreation name options) = no_fault_due (creation_refusals f name) (refl, (refl, (refl, tt)))
never_due f (OfDeletion id) = no_fault_due (deletion_refusals f id) (refl, (refl, (refl, tt)))
never_due f (OfHandle OneMore id) = no_fault_due (handle_refusals f OneMore id) (refl, (refl, (refl, tt)))
never_due f (OfHandle OneLess id) = no_fault_due (handle_refusals f OneLess id) (refl, (refl, tt))
never_due f (OfRotation id) = no_fault_due (rotation_refusals f id) (refl, (refl, (refl, tt)))
never_due f OfJournalRotation = no_fault_due (journal_refusals f) (refl, (refl, tt))
never_due f (OfFlushBegin id) = no_fault_due (rotation_refusals f id) (refl, (refl, (refl, tt)))
never_due f (OfFlushFinish job) = refl
never_due f (OfMergeBegin kind id) = no_fault_due (rotation_refusals f id) (refl, (refl, (refl, tt)))
never_due f (OfMergeFinish job) = refl
never_due f OfMaintenance = no_fault_due ((f.poisoned, Poisoned) ∷ []) (refl, tt)
never_due f (OfRead Present id query) = no_fault_due (view_refusals f Present id) (refl, (refl, tt))
never_due f (OfRead (At ticket) id query) = no_fault_due (view_refusals f (At ticket) id) (refl, (refl, (refl, tt)))
never_due f (OfTickets call) = no_ticket_fault f.tickets call
never_due f (OfPersist mode) = no_fault_due ((f.poisoned, Poisoned) ∷ []) (refl, tt)
never_due f (OfCount count) = refl

-- what is refused without a fault was not tried
pub no_attempt : (s : State) (shape : CallShape) (error : Error) → is_io error ≡ false → attempt s shape (Refused error) ≡ []
no_attempt s shape error other = ap (λ b. if b then commands_asked s shape else []) other

-- and what is refused is no sync
pub no_sync : (s : State) (shape : CallShape) (error : Error) → IsSync s shape (Refused error) → ⊥
no_sync s shape error sync = sync

-- ---- what a call asks for

-- A call asks for nothing, or for one command, which is refused to a poisoned engine.
pub data Asks (s : State) (shape : CallShape) : Type 0 where
  asks_nothing : (none : commands_asked s shape ≡ []) → Asks s shape
  asks_one : (command : Command) (is : commands_asked s shape ≡ command ∷ []) (well : due s shape ≡ None → s.poisoned ≡ false) → Asks s shape

and_false : (a b : Bool) → a ≡ true → (a && b) ≡ false → b ≡ false
and_false true b is none = none
and_false false b is none = absurd (true≢false (sym is))

well_change : (s : State) (change : Change) → first_due (change_refusals (facts s) change) ≡ None → s.poisoned ≡ false
well_change s change none = (may_change (facts s) change none).well

well_ingestion : (s : State) (id : ℕ) (items : List KeyOp) → first_due (ingestion_refusals (facts s) id items) ≡ None → s.poisoned ≡ false
well_ingestion s id items none = (may_ingest (facts s) id items none).well

creation_asks : (s : State) (name : Bytes) (options : List Bytes) (had : Bool) → names_one (present s) name ≡ had → Asks s (OfCreation name options)
creation_asks s name options true had = asks_nothing (ap (λ b. if b then [] else (Create name (option_pairs options) ∷ [])) had)
creation_asks s name options false had =
    asks_one (Create name (option_pairs options)) (ap (λ b. if b then [] else (Create name (option_pairs options) ∷ [])) had)
    (λ none. and_false (not (names_one (present s) name)) s.poisoned (ap not had) (none_due (creation_refusals (facts s) name) none).1.0)

deletion_asks : (s : State) (id : ℕ) (living : Bool) → is_living (present s) id ≡ living → Asks s (OfDeletion id)
deletion_asks s id true living =
    asks_one (Delete id) (ap (λ b. if b then (Delete id ∷ []) else []) living) (λ none. and_false (is_living (present s) id) s.poisoned living (none_due (deletion_refusals (facts s) id) none).1.0)
deletion_asks s id false living = asks_nothing (ap (λ b. if b then (Delete id ∷ []) else []) living)

pub asks : (s : State) (shape : CallShape) → Asks s shape
asks s (OfChange (Items []) how) = asks_nothing refl
asks s (OfChange (Items (item ∷ items)) how) = asks_one (command_of (Items (item ∷ items))) refl (well_change s (Items (item ∷ items)))
asks s (OfChange (Emptied id) how) = asks_one (command_of (Emptied id)) refl (well_change s (Emptied id))
asks s (OfIngestion id []) = asks_nothing refl
asks s (OfIngestion id (item ∷ items)) = asks_one (ingestion id (item ∷ items)) refl (well_ingestion s id (item ∷ items))
asks s (OfCreation name options) = creation_asks s name options (names_one (present s) name) refl
asks s (OfDeletion id) = deletion_asks s id (is_living (present s) id) refl
asks s (OfHandle call id) = asks_nothing refl
asks s (OfRotation id) = asks_nothing refl
asks s OfJournalRotation = asks_nothing refl
asks s (OfFlushBegin id) = asks_nothing refl
asks s (OfFlushFinish job) = asks_nothing refl
asks s (OfMergeBegin kind id) = asks_nothing refl
asks s (OfMergeFinish job) = asks_nothing refl
asks s OfMaintenance = asks_nothing refl
asks s (OfRead view id query) = asks_nothing refl
asks s (OfTickets call) = asks_nothing refl
asks s (OfPersist mode) = asks_nothing refl
asks s (OfCount count) = asks_nothing refl
