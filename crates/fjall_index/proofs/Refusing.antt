-- Why calls of an index are refused.
use Rattle.std.proofs.Common.{◌≡◌, ◌⊎◌, inl, inr, ℕ, ◌+◌, Bool, true, if◌then◌else◌, List, map, Option, None, Some, is_some, MatchOption, IsOkUnless, IfErr, IsTrue, OnOk, Result, Ok, Err, length, unwrap_or, refl, sym, ◌∙◌, ap, subst}
use Rattle.std.proofs.lemmas.Option.{none-some}
use Rattle.std.proofs.lemmas.List.{length-map}
use Rattle.std.specs.Borrow.{MutBor}
use Rattle.std.specs.FinMap.{FinMap, get}
use Rattle.std.specs.Ordering.{nat_cmp}
use Rattle.std.specs.Result.{IsErrAnd, result_err}
use Rattle.fjall_base.specs.Disk.{Meaning}
use Rattle.fjall_base.specs.Pairs.{Bytes, Pairs, lookup}
use Rattle.fjall_base.specs.Store.{Command, map_at}
use Rattle.fjall_base.specs.declared.error.Error.{Error}
use Rattle.fjall_base.specs.declared.error.Error.TheVariants.{Io, KeyTooLong, NumbersUsedUp, OutOfMemory, Poisoned, SnapshotClosed, Storage, TooManyItems, ValueTooLong}
use Rattle.fjall_journal.specs.Ops.{BatchItem, item_in, items_refusal}
use Rattle.fjall_reading.specs.Readers.{all_of}
use Rattle.fjall_tx.specs.Marks.{Marks, OfKey}
use Rattle.fjall_tx.specs.declared.outcome.CommitOutcome.{CommitOutcome}
use Rattle.fjall_history.specs.Histories.{command_of, commands_of, commits, latest, number}
use Rattle.fjall_history.specs.declared.reply.Reply.TheVariants.{Opened, Refused}
use Rattle.fjall_history.specs.declared.ticket.Ticket.{Ticket}
use Rattle.fjall_history.specs.declared.ticket.View.{View}
use Rattle.fjall_history.specs.declared.ticket.View.TheVariants.{At}
use Rattle.fjall_history.proofs.Growing.{no_present_conflict}
use Rattle.fjall_machine.specs.Machine.{MayFail, Refuses, State, StepOf, due, maps_in, present}
use Rattle.fjall_machine.specs.Reads.{IsReadRefusal}
use Rattle.fjall_machine.specs.Shapes.{Close, OfTickets, Open}
use Rattle.fjall_core.specs.Commits.{change_of}
use Rattle.fjall_core.specs.CoreStanding.{Owes, ReadsOn, tables_of}
use Rattle.fjall_core.specs.Holding.{Held}
use Rattle.fjall_core.specs.Leaving.{LeavesStanding}
use Rattle.fjall_core.specs.Shown.{ReadsKeyspace, Shows, read_due}
use Rattle.fjall_core.specs.Standing.{CommitStep, GoesOn, IsCommitted, IsGone, IsIdle, IsMet, IsRefused, StandFor, CoreState, gone_on, history_of}
use Rattle.fjall_core.specs.Transactions.{Kept, MeetsSome, Tx, transaction_begun, having_read, no_marks, with_own_items}
use Rattle.fjall_index_entries.specs.Index.{FieldOf}
use Rattle.fjall_index_entries.specs.Putting.{put_items}
use Rattle.fjall_index_entries.specs.Repairs.{AreRepairs, lacks_long}
use Rattle.fjall_index_entries.specs.declared.error.IndexError.{IndexError}
use Rattle.fjall_index_entries.specs.declared.error.IndexError.TheVariants.{Engine, IndexStale, SameKeyspace}
use Rattle.fjall_index.specs.Changing.{HasWritten, IsAnswerOf}
use Rattle.fjall_index.specs.Rebuilding.{HasRepaired, whole}
use Rattle.fjall_index.specs.declared.indexed_tx.IndexedTx.{IndexedTx}
use Rattle.fjall_index.specs.Refusing.{BeginsSo, HasMet, HasPut, HasRebuilt, IsClosed, IsEndRefusal, IsNotAccepted, IsNotCommitted, IsNotDone, IsNotWritten, IsOnceRefusal, IsRefusedForEither, OfEngine, OfEngineOrSame}
use Rattle.fjall_index.proofs.Beginning.{opened_at, opened_shows, ticket_history}
use Rattle.fjall_index.proofs.Showing.{shows}

-- ---- what is passed on

pub same_error : {T : Type 0} (P : Error → Type 0) (answer : Result T Error) (error : Error) → IsErrAnd answer (λ e. e ≡ error) → P error → IfErr answer P
same_error P (Ok x) error gives holds = absurd gives
same_error P (Err e) error gives holds = subst P (sym gives) holds

pub of_engine : {T : Type 0} (P : Error → Type 0) (answer : Result T IndexError) (error : Error) → IsErrAnd answer (λ e. e ≡ Engine error) → P error → IfErr answer (OfEngine P)
of_engine P (Ok x) error gives holds = absurd gives
of_engine P (Err e) error gives holds = subst (OfEngine P) (sym gives) holds

pub of_engine_or_same : {T : Type 0} (P : Error → Type 0) (answer : Result T IndexError) (error : Error) → IsErrAnd answer (λ e. e ≡ Engine error) → P error → IfErr answer (OfEngineOrSame P)
of_engine_or_same P (Ok x) error gives holds = absurd gives
of_engine_or_same P (Err e) error gives holds = subst (OfEngineOrSame P) (sym gives) holds

pub index_error : {T : Type 0} (P : IndexError → Type 0) (answer : Result T IndexError) (error : IndexError) → IsErrAnd answer (λ e. e ≡ error) → P error → IfErr answer P
index_error P (Ok x) error gives holds = absurd gives
index_error P (Err e) error gives holds = subst P (sym gives) holds

-- of one kind or the other
abbrev pub either : (Error → Type 0) → (Error → Type 0) → Error → Type 0
either P Q error = P error ⊎ Q error

-- what is so of one kind of refusals, and more
pub wider : {T : Type 0} (P Q : Error → Type 0) (answer : Result T IndexError) → ((error : Error) → P error → Q error) → IfErr answer (OfEngine P) → IfErr answer (OfEngine Q)
wider P Q (Ok x) more holds = tt
wider P Q (Err (Engine error)) more holds = more error holds
wider P Q (Err IndexStale) more holds = holds
wider P Q (Err SameKeyspace) more holds = holds

-- a transaction that didn't begin
pub not_begun_so : (old new : Held) (answer : Result IndexedTx IndexError) (error : Error) → IsErrAnd answer (λ e. e ≡ Engine error) → Owes old (OfTickets Open) (Refused error) new → BeginsSo old answer new
not_begun_so old new (Ok tx) error gives owes = absurd gives
not_begun_so old new (Err e) error gives owes = subst (λ (x : IndexError). BeginsSo old (Err x) new) (sym gives) owes

error_in : {T : Type 0} → Result T Error → Error → Error
error_in (Ok x) other = other
error_in (Err error) other = error

err_inj : {T : Type 0} (a b : Error) (result : Result T Error) → result ≡ Err a → result ≡ Err b → a ≡ b
unfolding error_in
err_inj {T} a b result one other = sym (ap (λ (r : Result T Error). error_in r a) one) ∙ ap (λ (r : Result T Error). error_in r a) other

-- what is done comes to more
pub on_ok : {T E A B : Type 0} (result : Result T E) → (A → B) → OnOk result A → OnOk result B
on_ok (Ok x) more holds = more holds
on_ok (Err error) more holds = tt

-- items are refused, or memory is used up
pub wrong_items : {T : Type 0} (P : Error → Type 0) (items : List BatchItem) (result : Result T Error) → P OutOfMemory → ((error : Error) → items_refusal items ≡ Some error → P error)
    → MatchOption (items_refusal items) (IsOkUnless result OutOfMemory) (λ e. result ≡ Err e) → IfErr result P
wrong_items {T} P items result memory wrong cause = by (items_refusal items) refl cause result refl
  where
    by : (first : Option Error) → items_refusal items ≡ first → MatchOption first (IsOkUnless result OutOfMemory) (λ e. result ≡ Err e) → (r : Result T Error) → result ≡ r → IfErr r P
    by first e told (Ok x) is = tt
    by None e told (Err error) is = let only : error ≡ OutOfMemory = subst (λ (r : Result T Error). IsOkUnless r OutOfMemory) is told in subst P (sym only) memory
    by (Some f) e told (Err error) is = let same : f ≡ error = err_inj f error result told is in subst P same (wrong f e)

-- a read that left this disk
abbrev ReadRefusedWith : Held → View → ℕ → Meaning → Error → Type 0
ReadRefusedWith old view id disk error = (error ≡ OutOfMemory) ⊎ IsReadRefusal (read_due old view id) (Unit {0}) (tables_of old id) old.disk disk error

abbrev RepairRefusedWith : Bool → FieldOf → ℕ → ℕ → Held → View → Meaning → Error → Type 0
RepairRefusedWith honest field main index old view disk error =
    (ReadRefusedWith old view main disk error ⊎ ReadRefusedWith old view index disk error)
    ⊎ ((error ≡ KeyTooLong) × ((pairs found : Pairs) → Shows honest old view main pairs → Shows honest old view index found → lacks_long field found (all_of pairs) ≡ true))

-- of a core that was lent, in a view
pub repair_cause : {T : Type 0} (honest : Bool) (field : FieldOf) (main index : ℕ) (result : Result T Error) (old core : Held) (view from : View) (disk left : Meaning) → core ≡ old → from ≡ view → disk ≡ left
    → IfErr result (RepairRefusedWith honest field main index core from left) → IfErr result (RepairRefusedWith honest field main index old view disk)
repair_cause honest field main index result old core view from disk left is same given cause =
    subst (λ (m : Meaning). IfErr result (RepairRefusedWith honest field main index old view m)) (sym given)
    (subst (λ (v : View). IfErr result (RepairRefusedWith honest field main index old v left)) same (subst (λ (c : Held). IfErr result (RepairRefusedWith honest field main index c from left)) is cause))

-- ---- reads

pub either_cause : {T : Type 0} (honest : Bool) (old new : MutBor Held) (from to : View) (main index : ℕ) (result : Result T Error)
    → (ReadsKeyspace honest old from main (result_err result) new to ⊎ ReadsKeyspace honest old from index (result_err result) new to) → IfErr result (IsRefusedForEither old.now from main index new.now)
either_cause honest old new from to main index (Ok x) reads = tt
either_cause honest old new from to main index (Err error) (inl reads) = inl reads.cause
either_cause honest old new from to main index (Err error) (inr reads) = inr reads.cause

-- ---- the end of a transaction

-- whatever is refused has this cause
any_error : {T : Type 0} {P : Error → Type 0} (answer : Result T Error) → ((error : Error) → P error) → IfErr answer P
any_error (Ok x) all = tt
any_error (Err error) all = all error

pub commit_cause : (t after : CoreState) (tx : Tx) (outcome : CommitOutcome Error) (done answer : Result Unit Error) → done ≡ Ok tt → IsAnswerOf outcome answer → CommitStep t tx outcome after → IfErr answer (IsEndRefusal t tx done)
commit_cause t after tx outcome done answer ok is (IsGone none told same) = any_error answer (λ error. IsClosed none)
commit_cause t after tx outcome done answer ok is (IsIdle instant opened none told closes same) =
    subst (λ (a : Result Unit Error). IfErr a (IsEndRefusal t tx done)) (sym (subst (λ (o : CommitOutcome Error). IsAnswerOf o answer) told is)) tt
commit_cause t after tx outcome done answer ok is (IsMet instant opened some meets told closes same) =
    subst (λ (a : Result Unit Error). IfErr a (IsEndRefusal t tx done)) (sym (subst (λ (o : CommitOutcome Error). IsAnswerOf o answer) told is)) (HasMet instant opened meets refl)
commit_cause t after tx outcome done answer ok is (IsRefused instant opened some apart error told mid refused closes same) =
    subst (λ (a : Result Unit Error). IfErr a (IsEndRefusal t tx done)) (sym (subst (λ (o : CommitOutcome Error). IsAnswerOf o answer) told is)) (IsNotCommitted ok mid refused)
commit_cause t after tx outcome done answer ok is (IsCommitted instant opened some apart told mid made closes grown) =
    subst (λ (a : Result Unit Error). IfErr a (IsEndRefusal t tx done)) (sym (subst (λ (o : CommitOutcome Error). IsAnswerOf o answer) told is)) tt

-- a ticket that is open is closed
close_fails : (s t : State) (id : ℕ) (error : Error) → MayFail (OfTickets (Close id)) error s t → ⊥
close_fails s t id (Io kind) (inl (changes, fault)) = changes
close_fails s t id (Io kind) (inr (inl (reads, same))) = reads
close_fails s t id (Io kind) (inr (inr fails)) = fails
close_fails s t id OutOfMemory (takes, same) = takes
close_fails s t id (Storage told) (is, damaged, same) = damaged
close_fails s t id ValueTooLong (long, same) = long
close_fails s t id Poisoned (late, same) = late
close_fails s t id NumbersUsedUp (used_up, same) = used_up
close_fails s t id TooManyItems (none_left, same) = none_left
close_fails s t id error none = none

pub close_none : (t s : State) (id : ℕ) (error : Error) → StepOf t (OfTickets (Close id)) (Refused error) s → get t.tickets.instants id ≡ None
close_none t s id error step = by (get t.tickets.instants id) refl
  where
    by : (there : Option ℕ) → get t.tickets.instants id ≡ there → get t.tickets.instants id ≡ None
    by None e = e
    by (Some instant) e =
        let none : due t (OfTickets (Close id)) ≡ None = ap (λ (o : Option ℕ). if is_some o then None else Some SnapshotClosed) e in
        absurd (close_fails t s id error (subst (λ (first : Option Error). Refuses first (OfTickets (Close id)) error t s) none step))

pub rollback_cause : (t : CoreState) (s : State) (tx : Tx) (done answer : Result Unit Error) (error : Error) → IsErrAnd answer (λ e. e ≡ error) → StepOf t.state (OfTickets (Close tx.ticket.id)) (Refused error) s → IfErr answer (IsEndRefusal t tx done)
rollback_cause t s tx done answer error gives step = same_error (IsEndRefusal t tx done) answer error gives (IsClosed (close_none t.state s tx.ticket.id error step))

-- ---- a call that is one transaction

-- one that reads at the present meets none: it wasn't done, or its commit is refused
once_end : (u : CoreState) (tx : Tx) (done : Result Unit Error) (error : Error) → commands_of u.accepted ≡ commands_of u.state.history.accepted → get u.state.tickets.instants tx.ticket.id ≡ Some (number u.state.history)
    → IsEndRefusal u tx done error → (done ≡ Err error) ⊎ ((done ≡ Ok tt) × (after : State) × StepOf u.state (change_of tx) (Refused error) after)
once_end u tx done error same there (IsClosed none) = absurd (none-some (number u.state.history) (sym none ∙ there))
once_end u tx done error same there (IsNotDone told) = inl told
once_end u tx done error same there (HasMet instant opened meets told) = absurd (by tx.marks (subst (λ (n : ℕ). MeetsSome n tx.marks (commits (history_of u))) now meets))
  where
    as_many : length u.accepted ≡ length u.state.history.accepted
    as_many = sym (length-map u.accepted command_of) ∙ ap (λ (l : List Command). length l) same ∙ length-map u.state.history.accepted command_of

    now : instant ≡ number (history_of u)
    now = ap (λ (o : Option ℕ). unwrap_or o 0) (sym opened ∙ there) ∙ ap (λ (n : ℕ). u.state.history.base + n) (sym as_many)

    by : (marks : Option Marks) → MeetsSome (number (history_of u)) marks (commits (history_of u)) → ⊥
    by None meets = meets
    by (Some marks) meets = no_present_conflict (history_of u) marks.reads meets
once_end u tx done error same there (IsNotCommitted ok after refused) = inr (ok, after, refused)

-- why it is refused that began, did its work, and ended
pub once_cause : (honest : Bool) (old mid lent left at : Held) (before amid : Kept) (transaction tx : Tx) (done answer : Result Unit Error) (Fails : Held → Ticket → Held → Error → Type 0) (Writes : CoreState → Tx → Type 0) → IsTrue honest
    → ((t : CoreState) → StandFor old before t → ReadsOn old t.state → GoesOn old t (OfTickets Open) (Opened transaction.ticket) mid amid) → Owes old (OfTickets Open) (Opened transaction.ticket) mid
    → lent ≡ mid → at ≡ left → LeavesStanding honest lent left → tx.ticket ≡ transaction.ticket → IfErr done (Fails lent transaction.ticket left)
    → ((u : CoreState) → StandFor mid amid u → ReadsOn mid u.state → maps_in u.state (At transaction.ticket) ≡ (present u.state).maps → OnOk done (Writes u tx)) → ((u : CoreState) → StandFor at amid u → IfErr answer (IsEndRefusal u tx done))
    → (t : CoreState) → StandFor old before t → ReadsOn old t.state → IfErr answer (IsOnceRefusal t old Fails Writes)
once_cause honest old mid lent left at before amid transaction tx done (Ok x) Fails Writes h goes owes is given stand ticket refused writes ends t stood read = tt
once_cause honest old mid lent left at before amid transaction tx done (Err error) Fails Writes h goes owes is given stand ticket refused writes ends t stood read =
    let (s, stands, reads, step, led) = goes t stood read in
    let u = gone_on t s in
    let leaves : LeavesStanding honest mid at = subst (λ (c : Held). LeavesStanding honest c at) is (subst (LeavesStanding honest lent) (sym given) stand) in
    let there : get s.tickets.instants tx.ticket.id ≡ Some (number s.history) = ap (λ (k : Ticket). get s.tickets.instants k.id) ticket ∙ opened_at t.state s transaction.ticket step in
    by done u stands.same (subst (λ (c : Held). IfErr done (Fails c transaction.ticket left)) is refused)
    (writes u stands reads (opened_shows t.state s transaction.ticket step)) (ap latest (ticket_history t.state s Open (Opened transaction.ticket) step)) there (ends u (stays u stands leaves))
  where
    stays : (u : CoreState) → StandFor mid amid u → LeavesStanding honest mid at → StandFor at amid u
    stays u stands leaves = record {
      machine = leaves.stands u.state stands.machine;
      same = stands.same;
      sound = stands.sound;
      checked = stands.checked;
      upto = stands.upto;
      passed = stands.passed;
      keeps = stands.keeps;
    }

    by : (done : Result Unit Error) (u : CoreState) → commands_of u.accepted ≡ commands_of u.state.history.accepted → IfErr done (Fails mid transaction.ticket left) → OnOk done (Writes u tx) → present u.state ≡ present t.state
        → get u.state.tickets.instants tx.ticket.id ≡ Some (number u.state.history) → IsEndRefusal u tx done error → IsOnceRefusal t old Fails Writes error
    by done u same fails wrote now there end = elim (once_end u tx done error same there end) [
      | inl told ↦ IsNotWritten transaction.ticket mid left owes (subst (λ (r : Result Unit Error). IfErr r (Fails mid transaction.ticket left)) told fails)
      | inr (ok, after, refused) ↦ IsNotAccepted u tx now (subst (λ (r : Result Unit Error). OnOk r (Writes u tx)) ok wrote) after refused
    ]

-- what a put writes, seen by a transaction that reads the present
pub put_writes : (field : FieldOf) (main index : ℕ) (key : Bytes) (value : Option Bytes) (honest : Bool) (mid lent : Held) (amid : Kept) (transaction tx : Tx) (done : Result Unit Error) → IsTrue honest → lent ≡ mid
    → transaction ≡ transaction_begun (Some no_marks) transaction.ticket → tx.ticket ≡ transaction.ticket
    → ((pairs : Pairs) → Shows honest lent (At transaction.ticket) main pairs → OnOk done (HasWritten transaction main key (put_items field main index key (lookup pairs key) value) tx))
    → (u : CoreState) → StandFor mid amid u → ReadsOn mid u.state → maps_in u.state (At transaction.ticket) ≡ (present u.state).maps → OnOk done (HasPut field main index key value u tx)
put_writes field main index key value honest mid lent amid transaction tx done h is fresh ticket written u stands reads now =
    on_ok done (λ has. record {
      batch = has.batch;
      of = has.of ∙ ap (λ (m : FinMap nat_cmp Pairs). put_items field main index key (lookup (map_at m main) key) value) now;
      is = has.is ∙ ap (λ (k : Tx). with_own_items (having_read k (OfKey main key)) has.batch) (fresh ∙ ap (λ (k : Ticket). transaction_begun (Some no_marks) k) (sym ticket));
    }) (written (map_at (maps_in u.state (At transaction.ticket)) main) (shows honest mid lent (At transaction.ticket) u.state main h is stands.machine reads))

-- what a rebuilding writes, seen so
pub rebuilt_writes : (field : FieldOf) (main index : ℕ) (honest : Bool) (mid lent : Held) (amid : Kept) (transaction tx : Tx) (done : Result Unit Error) → IsTrue honest → lent ≡ mid
    → transaction ≡ transaction_begun (Some no_marks) transaction.ticket → tx.ticket ≡ transaction.ticket
    → ((pairs found : Pairs) → Shows honest lent (At transaction.ticket) main pairs → Shows honest lent (At transaction.ticket) index found → OnOk done (HasRepaired field main index pairs found transaction tx))
    → (u : CoreState) → StandFor mid amid u → ReadsOn mid u.state → maps_in u.state (At transaction.ticket) ≡ (present u.state).maps → OnOk done (HasRebuilt field main index u tx)
rebuilt_writes field main index honest mid lent amid transaction tx done h is fresh ticket repaired u stands reads now =
    let seen = maps_in u.state (At transaction.ticket) in
    let shown : (id : ℕ) → Shows honest lent (At transaction.ticket) id (map_at seen id) = λ id. shows honest mid lent (At transaction.ticket) u.state id h is stands.machine reads in
    on_ok done (λ has. record {
      batch = has.batch;
      repairs = subst (λ (m : FinMap nat_cmp Pairs). AreRepairs field index (map_at m main) (map_at m index) (map item_in has.batch)) now has.repairs;
      is = has.is ∙ ap (λ (k : Tx). with_own_items (having_read (having_read k (whole main)) (whole index)) has.batch) (fresh ∙ ap (λ (k : Ticket). transaction_begun (Some no_marks) k) (sym ticket));
    }) (repaired (map_at seen main) (map_at seen index) (shown main) (shown index))
