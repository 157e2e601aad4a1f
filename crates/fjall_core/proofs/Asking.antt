-- What the core is asked as a transaction ends.
use Rattle.std.proofs.Common.{◌≡◌, ◌≤◌, ◌<◌, inl, inr, ℕ, Bool, false, IsTrue, List, [], ◌∷◌, ◌++◌, All, Option, None, Some, Result, Ok, Err, OnOk, OnErr, refl, sym, ap, subst, ◌∙◌, arith}
use Rattle.std.specs.FinMap.{empty, get}
use Rattle.std.proofs.lemmas.Bool.{true≢false}
use Rattle.std.proofs.lemmas.List.Elements.{All-weaker}
use Rattle.fjall_base.specs.declared.error.Error.{Error}
use Rattle.fjall_base.specs.declared.error.Error.TheVariants.{Io, NumbersUsedUp, OutOfMemory, Poisoned, Storage, TooManyItems, ValueTooLong}
use Rattle.fjall_journal.specs.Changes.{Items}
use Rattle.fjall_journal.specs.Ops.{BatchItem}
use Rattle.fjall_journal.specs.declared.persist_mode.PersistMode.{PersistMode}
use Rattle.fjall_tx.specs.Places.{Places}
use Rattle.fjall_tx.specs.declared.oracle.Committed.{Committed}
use Rattle.fjall_tx.specs.declared.outcome.CommitOutcome.{CommitOutcome}
use Rattle.fjall_tx.specs.declared.outcome.CommitOutcome.TheVariants as outcomes
use Rattle.fjall_tx.specs.Oracles.{commit_of, pruned}
use Rattle.fjall_tx.specs.Owns.{items_of}
use Rattle.fjall_history.specs.declared.reply.Reply.{Reply}
use Rattle.fjall_history.specs.declared.reply.Reply.TheVariants.{Done}
use Rattle.fjall_history.specs.Tickets.{IsDueOrMemory}
use Rattle.fjall_machine.specs.Shapes.{ByMode, CallShape, Close, OfChange, OfTickets, Persistence}
use Rattle.fjall_machine.specs.Remembered.{Remembered}
use Rattle.fjall_engine.specs.Holding.{Held}
use Rattle.fjall_engine.specs.Standing.{Owes, OwesFailure, OwesRefusal, held_due, reply_of}
use Rattle.fjall_core.specs.Commits.{AsksFor, Comes, Commits, Ends, Fails, Lets}
use Rattle.fjall_core.specs.Transactions.{AreCommitsOf, Kept, MeetsSome, Tx, committed}

-- what a look at the items found is what is due
pub look_found : (core : Held) (items seen : List BatchItem) (mode : Option PersistMode) (found first : Option Error) → seen ≡ items → ((how : Persistence) → found ≡ held_due core (OfChange (Items seen) how))
    → found ≡ first → held_due core (OfChange (Items items) (ByMode mode)) ≡ first
look_found core items seen mode found first same due is = ap (λ l. held_due core (OfChange (Items l) (ByMode mode))) (sym same) ∙ sym (due (ByMode mode)) ∙ is

-- so what is due is told, and where nothing is, want of memory
pub due_told : (Does : Held → CallShape → Reply → Held → Type 0) (core : Held) (change : CallShape) (error : Error) → held_due core change ≡ Some error → AsksFor Does core change (Err error) core
due_told Does core change error due = inr (subst (λ first. IsDueOrMemory first error) (sym due) refl, refl)

-- a transaction that stands last is taken back
pub taken_back : (old mid new : List Committed) (next number : ℕ) (writes : Places) → number ≡ next → All (λ (c : Committed). c.number < next) old
    → (All (λ (c : Committed). c.number ≤ number) old → mid ≡ old ++ commit_of number writes ∷ []) → ((before : List Committed) (last : Committed) → mid ≡ before ++ last ∷ [] → new ≡ before) → new ≡ old
taken_back old mid new next number writes is below pushed taken =
    taken old (commit_of number writes) (pushed (All-weaker (λ (c : Committed). c.number < next) (λ (c : Committed). c.number ≤ number) (λ c lt. subst (λ n. c.number ≤ n) (sym is) (omega (arith, lt))) old below))

-- a test that failed
pub not_true : (b : Bool) → b ≡ false → IsTrue b → ⊥
not_true b failed held = true≢false (sym held ∙ failed)

-- how a commit is told
abbrev pub outcome_of : Result Unit Error → CommitOutcome Error
outcome_of (Ok _) = outcomes.Ok
outcome_of (Err error) = outcomes.Aborted error

pub comes_of : (Does : Held → CallShape → Reply → Held → Type 0) (old new : Kept) (core left : Held) (instant : ℕ) (tx : Tx) (items : List BatchItem) (result : Result Unit Error) (outcome : CommitOutcome Error)
    → items ≡ items_of tx.own → (tx.own ≡ empty → ⊥) → (MeetsSome instant tx.marks old.commits → ⊥) → outcome ≡ outcome_of result → AsksFor Does core (OfChange (Items items) (ByMode tx.mode)) result left
    → (AreCommitsOf core old.commits → OnOk result (new ≡ record old { commits = committed core.memory.next tx.marks items old.commits })) → (AreCommitsOf core old.commits → OnErr result (new ≡ old)) → Comes Does old.commits core instant tx outcome new.commits left
comes_of Does old new core left instant tx items (Ok u) outcome is some apart told does ok err =
    Commits some apart told (λ are. ap (λ (k : Kept). k.commits) (ok are) ∙ ap (λ l. committed core.memory.next tx.marks l old.commits) is) (subst (λ l. Does core (OfChange (Items l) (ByMode tx.mode)) Done left) is does)
comes_of Does old new core left instant tx items (Err error) outcome is some apart told does ok err =
    Fails some apart error told (λ are. ap (λ (k : Kept). k.commits) (err are)) (subst (λ l. AsksFor Does core (OfChange (Items l) (ByMode tx.mode)) (Err error) left) is does)

-- ---- tickets

failed_tickets : (old new : Held) (items : List BatchItem) (how : Persistence) (error : Error) → OwesFailure old (OfChange (Items items) how) error new → new.memory.tickets ≡ old.memory.tickets
failed_tickets old new items how (Io kind) (inl (changes, fault)) = ap (λ (m : Remembered). m.tickets) fault.memory_is
failed_tickets old new items how (Io kind) (inr (inl (reads, looks, rose))) = absurd reads
failed_tickets old new items how (Io kind) (inr (inr fails)) = absurd fails
failed_tickets old new items how OutOfMemory (takes, same) = ap (λ (h : Held). h.memory.tickets) same
failed_tickets old new items how (Storage told) (is, inl (reads, looks)) = absurd reads
failed_tickets old new items how (Storage told) (is, inr none) = absurd none
failed_tickets old new items how ValueTooLong (long, same) = absurd long
failed_tickets old new items how Poisoned (late, same) = absurd late
failed_tickets old new items how NumbersUsedUp (used_up, same) = absurd used_up
failed_tickets old new items how TooManyItems (none_left, same) = absurd none_left
failed_tickets old new items how error none = absurd none

refused_tickets : (old new : Held) (items : List BatchItem) (how : Persistence) (error : Error) (first : Option Error) → OwesRefusal first old (OfChange (Items items) how) error new → new.memory.tickets ≡ old.memory.tickets
refused_tickets old new items how error (Some f) (is, same) = ap (λ (h : Held). h.memory.tickets) same
refused_tickets old new items how error None fails = failed_tickets old new items how error fails

-- a change leaves the tickets
pub change_tickets : (old new : Held) (items : List BatchItem) (how : Persistence) (result : Result Unit Error) → AsksFor Owes old (OfChange (Items items) how) result new → new.memory.tickets ≡ old.memory.tickets
change_tickets old new [] how (Ok u) owes = ap (λ (h : Held). h.memory.tickets) owes.1.1
change_tickets old new (item ∷ items) how (Ok u) owes = ap (λ (m : Remembered). m.tickets) owes.1.1.memory_is
change_tickets old new items how (Err error) (inl owes) = refused_tickets old new items how error (held_due old (OfChange (Items items) how)) owes
change_tickets old new items how (Err error) (inr (is, same)) = ap (λ (h : Held). h.memory.tickets) same

-- ---- the whole of it

pub ends_of : (Does : Held → CallShape → Reply → Held → Type 0) (old mid new : Kept) (core amid left : Held) (tx : Tx) (instant : ℕ) (outcome : CommitOutcome Error) (result : Result Unit Error) (u : Unit)
    → get core.memory.tickets.instants tx.ticket.id ≡ Some instant → Comes Does old.commits core instant tx outcome mid.commits amid → mid ≡ record old { commits = mid.commits } → result ≡ Ok u
    → Does amid (OfTickets (Close tx.ticket.id)) (reply_of result) left → OnOk result (new ≡ record mid { commits = pruned mid.commits left.memory.tickets.watermark }) → Ends Does old core tx outcome new left
ends_of Does old mid new core amid left tx instant outcome (Ok v) u there comes same is closes ok =
    Lets instant there mid.commits amid comes closes (ok ∙ ap (λ (k : Kept). record k { commits = pruned mid.commits left.memory.tickets.watermark }) same)
ends_of Does old mid new core amid left tx instant outcome (Err error) u there comes same is closes ok = absurd (cc is)
