-- Transactions of a list that end, as steps of a world.
use Rattle.std.proofs.Common.{◌≡◌, ◌<◌, ◌^◌, ◌&&◌, ◌⊎◌, inl, inr, ℕ, length, arith, Bool, true, false, IsTrue, List, [], ◌∷◌, Some, None, is_some, Vec, Global, Result, Ok, Err, OnErr, OnOk, refl, sym, ap, ◌∙◌, subst}
use Rattle.std.specs.Prelude.{◌≢◌}
use Rattle.std.specs.FinMap.{empty, get}
use Rattle.std.proofs.lemmas.Bool.{true≢false}
use Rattle.fjall_base.specs.declared.error.Error.{Error}
use Rattle.fjall_journal.specs.Changes.{Items}
use Rattle.fjall_journal.specs.Ops.{BatchItem}
use Rattle.fjall_tx.specs.declared.outcome.CommitOutcome.{CommitOutcome}
use Rattle.fjall_tx.specs.declared.outcome.CommitOutcome.TheVariants as outcomes
use Rattle.fjall_tx.specs.Oracles.{pruned}
use Rattle.fjall_tx.specs.declared.oracle.Committed.{Committed}
use Rattle.fjall_tx.specs.Owns.{items_of}
use Rattle.fjall_history.specs.Tickets.{IsDueOrMemory, is_open}
use Rattle.fjall_history.specs.declared.job.JobId.{JobId}
use Rattle.fjall_history.specs.declared.reply.Reply.{Reply}
use Rattle.fjall_history.specs.declared.reply.Reply.TheVariants.{Began, Done, Refused}
use Rattle.fjall_machine.specs.Machine.{Step}
use Rattle.fjall_machine.specs.Shapes.{ByMode, CallShape, Close, OfChange, OfTickets, Persistence, shape_of}
use Rattle.fjall_machine.specs.declared.call.Call.{Call}
use Rattle.fjall_machine.specs.declared.call.Call.TheVariants.{CloseSnapshot, CommitBatch}
use Rattle.fjall_core.specs.Holding.{Held}
use Rattle.fjall_core.specs.CoreStanding.{Owes, ReadsOn, Serves, held_due, reply_of}
use Rattle.fjall_core.proofs.ServedCalls.{RunsOut}
use Rattle.fjall_core.specs.Commits.{Comes, Commits, Ends, Fails, Gone, Idle, Lets, Meets, change_of}
use Rattle.fjall_core.specs.Standing.{CommitStep, StandFor, CoreState, gone_on}
use Rattle.fjall_core.specs.Transactions.{Kept, Tx}
use Rattle.fjall_core.proofs.Ending.{pruned_stands}
use Rattle.fjall_core.proofs.Items.{some_items}
use Rattle.fjall_core.proofs.Standing.{served_stands}
use Rattle.fjall_calls.specs.Names.{Takes, is_wanted}
use Rattle.fjall_calls.specs.Steps.{IsEnded, IsRolledBack, gone_with, reply_to}
use Rattle.fjall_calls.specs.Steps as steps
use Rattle.fjall_calls.specs.Worlds.{along}
use Rattle.fjall_calls.specs.declared.call.Kind.{Kind}
use Rattle.fjall_calls.specs.declared.call.TxCall.TheVariants as calls
use Rattle.fjall_calls.specs.declared.named.Named.{Named}
use Rattle.fjall_calls.specs.Serving.{IsReplyToCall, KeepsOn, MakesCoreCalls, Others, ServesTx}
use Rattle.fjall_calls.proofs.Acting.{one_made}
use Rattle.fjall_calls.proofs.Chains.{each_replied}
use Rattle.fjall_calls.proofs.Jobs.{kept_on}
use Rattle.fjall_calls.proofs.Worlds.{takes_going}

-- ---- what the core is asked

-- What the core is asked by a commit, one call after another, whatever that is: its own writes, where there are some and none conflicts,
-- and the closing of its ticket.
abbrev pub Chain : (Held → CallShape → Reply → Held → Type 0) → Held → Tx → CommitOutcome Error → Held → Type 0
Chain Does core tx outcomes.Ok left =
    ((tx.own ≡ empty) × Does core (OfTickets (Close tx.ticket.id)) Done left)
    ⊎ ((tx.own ≢ empty) × (mid : Held) × Does core (change_of tx) Done mid × Does mid (OfTickets (Close tx.ticket.id)) Done left)
Chain Does core tx outcomes.Conflicted left = Does core (OfTickets (Close tx.ticket.id)) Done left
Chain Does core tx (outcomes.Aborted error) left = (mid : Held) × Does core (change_of tx) (Refused error) mid × Does mid (OfTickets (Close tx.ticket.id)) Done left

-- a change with some item may run out of memory
runs_out : (core : Held) (items : List BatchItem) (how : Persistence) → (items ≡ [] → ⊥) → RunsOut core (OfChange (Items items) how)
runs_out core [] how some = absurd (some refl)
runs_out core (item ∷ items) how some = tt

-- a refusal that the core wasn't asked for is one that it would have answered so
abbrev MayRefuse : (Held → CallShape → Reply → Held → Type 0) → Type 0
MayRefuse Does = (core : Held) (shape : CallShape) (error : Error) → RunsOut core shape → IsDueOrMemory (held_due core shape) error → Does core shape (Refused error) core

module _ (Does : Held → CallShape → Reply → Held → Type 0) (may : MayRefuse Does) where
  comes_chain : (old new : List Committed) (core mid left : Held) (instant : ℕ) (tx : Tx) (outcome : CommitOutcome Error) → Comes Does old core instant tx outcome new mid
      → Does mid (OfTickets (Close tx.ticket.id)) Done left → Chain Does core tx outcome left
  comes_chain old new core mid left instant tx outcome (Idle none told kept same) closes =
      subst (λ (o : CommitOutcome Error). Chain Does core tx o left) (sym told) (inl (none, subst (λ (h : Held). Does h (OfTickets (Close tx.ticket.id)) Done left) same closes))
  comes_chain old new core mid left instant tx outcome (Meets some meets told kept same) closes =
      subst (λ (o : CommitOutcome Error). Chain Does core tx o left) (sym told) (subst (λ (h : Held). Does h (OfTickets (Close tx.ticket.id)) Done left) same closes)
  comes_chain old new core mid left instant tx outcome (Fails some apart error told kept (inl refused)) closes =
      subst (λ (o : CommitOutcome Error). Chain Does core tx o left) (sym told) (mid, refused, closes)
  comes_chain old new core mid left instant tx outcome (Fails some apart error told kept (inr (due, same))) closes =
      subst (λ (o : CommitOutcome Error). Chain Does core tx o left) (sym told)
      (core, may core (change_of tx) error (runs_out core (items_of tx.own) (ByMode tx.mode) (some_items tx.own some)) due, subst (λ (h : Held). Does h (OfTickets (Close tx.ticket.id)) Done left) same closes)
  comes_chain old new core mid left instant tx outcome (Commits some apart told kept made) closes =
      subst (λ (o : CommitOutcome Error). Chain Does core tx o left) (sym told) (inr (some, mid, made, closes))

  pub ends_chain : (old new : Kept) (core left : Held) (tx : Tx) (outcome : CommitOutcome Error) → is_open core.memory.tickets tx.ticket.id ≡ true → Ends Does old core tx outcome new left → Chain Does core tx outcome left
  ends_chain old new core left tx outcome there (Gone none told kept same) = absurd (closed_not_open core tx there none)
    where
      closed_not_open : (h : Held) (x : Tx) → is_open h.memory.tickets x.ticket.id ≡ true → get h.memory.tickets.instants x.ticket.id ≡ None → ⊥
      closed_not_open h x opened gone = true≢false (sym opened ∙ ap is_some gone)
  ends_chain old new core left tx outcome there (Lets instant opened commits mid comes closes kept) = comes_chain old.commits commits core mid left instant tx outcome comes closes

-- what is kept beside the core goes on with the same writer
pub ends_writer : (Does : Held → CallShape → Reply → Held → Type 0) (old new : Kept) (core left : Held) (tx : Tx) (outcome : CommitOutcome Error) → Ends Does old core tx outcome new left → new.writer ≡ old.writer
ends_writer Does old new core left tx outcome (Gone none told kept same) = ap (λ (k : Kept). k.writer) kept
ends_writer Does old new core left tx outcome (Lets instant opened commits mid comes closes kept) = ap (λ (k : Kept). k.writer) kept

-- ---- commits

-- one call behind another
two_made : (honest : Bool) (core left : Held) (first second : Call) (reply told : Reply) → (IsTrue honest → (mid : Held) × Serves core (shape_of first) reply mid × Serves mid (shape_of second) told left)
    → ((mid : Held) × Owes core (shape_of first) reply mid × Owes mid (shape_of second) told left) → MakesCoreCalls honest core (first ∷ second ∷ []) (reply ∷ told ∷ []) left
two_made honest core left first second reply told serves (mid, owes, more) = record {
  serves = λ h. let (amid, one, two) = serves h in (amid, one, (left, two, refl));
  owes = (mid, owes, (left, more, refl));
}

module _ (honest : Bool) (core left : Held) (kept after : Kept) (listed rest : List Named) (before : List Reply) (kind : Kind) (name : ℕ) (named : Named) (takes : Takes (is_wanted core.memory.tickets name (Some kind)) listed (Some named) rest) (writer : after.writer ≡ kept.writer) where
  -- the steps of a commit whose calls of the core are these
  ended : (outcome : CommitOutcome Error) (made : List Call) (told : List Reply) → MakesCoreCalls honest core made told left → steps.Commits named.transaction outcome made told
      → (IsTrue honest → (t : CoreState) → StandFor core kept t → ReadsOn core t.state → (new : CoreState) × StandFor left after new × ReadsOn left new.state × CommitStep t named.transaction outcome new)
      → IsReplyToCall (calls.Commit kind name) (reply_to outcome)
      → ServesTx honest core kept listed before (calls.Commit kind name) (reply_to outcome) left after rest
  ended outcome made told makes commits goes fits = record {
    made = made;
    told = told;
    makes = makes;
    comes = Others (calls.Commit kind name) (reply_to outcome) fits made told (each_replied made told core left makes.owes);
    steps = λ h w stands reads.
        let found = takes_going core kept listed rest w name (Some kind) named stands takes in
        let (new, stay, on, step) = goes h w.told stands.told reads in (
          record w { told = new; going = found.others; gone = gone_with w.gone found.going w.told new },
          record { told = stay; writer = stands.writer ∙ sym writer; going = found.left },
          on,
          IsEnded kind name found.going found.others found.takes outcome made told
              (subst (λ (n : Named). steps.Commits n.transaction outcome made told) (sym found.is) commits) new
              (subst (λ (n : Named). CommitStep w.told n.transaction outcome new) (sym found.is) step),
        );
  }

  pub commit_serves : (items : Vec BatchItem Global) → items.items ≡ items_of named.transaction.own → (outcome : CommitOutcome Error)
      → (IsTrue honest → Chain Serves core named.transaction outcome left) → Chain Owes core named.transaction outcome left
      → (IsTrue honest → (t : CoreState) → StandFor core kept t → ReadsOn core t.state → (new : CoreState) × StandFor left after new × ReadsOn left new.state × CommitStep t named.transaction outcome new)
      → ServesTx honest core kept listed before (calls.Commit kind name) (reply_to outcome) left after rest
  commit_serves items are outcomes.Ok serves (inl (none, closes)) goes =
      let tx = named.transaction in
      ended outcomes.Ok (CloseSnapshot tx.ticket ∷ []) (Done ∷ []) (one_made honest core left (CloseSnapshot tx.ticket) Done (λ h. idle (serves h)) closes) (steps.Idles none) goes tt
    where
      idle : Chain Serves core named.transaction outcomes.Ok left → Serves core (OfTickets (Close named.transaction.ticket.id)) Done left
      idle (inl (nothing, done)) = done
      idle (inr (some, mid, made, done)) = absurd (some none)
  commit_serves items are outcomes.Ok serves (inr (some, mid, made, closes)) goes =
      let tx = named.transaction in
      ended outcomes.Ok (CommitBatch items tx.mode ∷ CloseSnapshot tx.ticket ∷ []) (Done ∷ Done ∷ [])
      (two_made honest core left (CommitBatch items tx.mode) (CloseSnapshot tx.ticket) Done Done (λ h. wrote (serves h))
      (mid, subst (λ (l : List BatchItem). Owes core (OfChange (Items l) (ByMode tx.mode)) Done mid) (sym are) made, closes))
      (steps.Succeeds items are some) goes tt
    where
      wrote : Chain Serves core named.transaction outcomes.Ok left
          → (amid : Held) × Serves core (OfChange (Items items.items) (ByMode named.transaction.mode)) Done amid × Serves amid (OfTickets (Close named.transaction.ticket.id)) Done left
      wrote (inl (none, done)) = absurd (some none)
      wrote (inr (more, amid, did, done)) = (amid, subst (λ (l : List BatchItem). Serves core (OfChange (Items l) (ByMode named.transaction.mode)) Done amid) (sym are) did, done)
  commit_serves items are outcomes.Conflicted serves closes goes =
      let tx = named.transaction in
      ended outcomes.Conflicted (CloseSnapshot tx.ticket ∷ []) (Done ∷ []) (one_made honest core left (CloseSnapshot tx.ticket) Done serves closes) steps.Conflicts goes tt
  commit_serves items are (outcomes.Aborted error) serves (mid, refused, closes) goes =
      let tx = named.transaction in
      ended (outcomes.Aborted error) (CommitBatch items tx.mode ∷ CloseSnapshot tx.ticket ∷ []) (Refused error ∷ Done ∷ [])
      (two_made honest core left (CommitBatch items tx.mode) (CloseSnapshot tx.ticket) (Refused error) Done
      (λ h. let (amid, did, done) = serves h in (amid, subst (λ (l : List BatchItem). Serves core (OfChange (Items l) (ByMode tx.mode)) (Refused error) amid) (sym are) did, done))
      (mid, subst (λ (l : List BatchItem). Owes core (OfChange (Items l) (ByMode tx.mode)) (Refused error) mid) (sym are) refused, closes))
      (steps.Aborts items are error) goes tt

-- jobs that are kept stay known behind a commit
pub commit_keeps : (core left : Held) (tx : Tx) (outcome : CommitOutcome Error) → Chain Owes core tx outcome left → KeepsOn core left
commit_keeps core left tx outcomes.Ok (inl (none, closes)) jobs replies keeps = kept_on core left (OfTickets (Close tx.ticket.id)) Done tt closes jobs replies keeps
commit_keeps core left tx outcomes.Ok (inr (some, mid, made, closes)) jobs replies keeps =
    kept_on mid left (OfTickets (Close tx.ticket.id)) Done tt closes jobs replies (kept_on core mid (change_of tx) Done tt made jobs replies keeps)
commit_keeps core left tx outcomes.Conflicted closes jobs replies keeps = kept_on core left (OfTickets (Close tx.ticket.id)) Done tt closes jobs replies keeps
commit_keeps core left tx (outcomes.Aborted error) (mid, refused, closes) jobs replies keeps =
    kept_on mid left (OfTickets (Close tx.ticket.id)) Done tt closes jobs replies (kept_on core mid (change_of tx) (Refused error) tt refused jobs replies keeps)

-- a commit tells of no job
pub no_job_told : (outcome : CommitOutcome Error) (job : JobId) → Some (reply_to outcome) ≡ Some (Began (Some job)) → ⊥
no_job_told outcomes.Ok job is = let bad : ⊥ = cc in bad
no_job_told outcomes.Conflicted job is = let bad : ⊥ = cc in bad
no_job_told (outcomes.Aborted error) job is = let bad : ⊥ = cc in bad

-- ---- rollbacks

pub rollback_serves : (honest : Bool) (core left : Held) (kept after : Kept) (listed rest : List Named) (before : List Reply) (name : ℕ) (named : Named) (result : Result Unit Error)
    → Takes (is_wanted core.memory.tickets name None) listed (Some named) rest
    → (IsTrue honest → Serves core (OfTickets (Close named.transaction.ticket.id)) (reply_of result) left) → Owes core (OfTickets (Close named.transaction.ticket.id)) (reply_of result) left
    → OnOk result (after ≡ record kept { commits = pruned kept.commits left.memory.tickets.watermark }) → OnErr result (after ≡ kept)
    → ServesTx honest core kept listed before (calls.Rollback name) (reply_of result) left after rest
rollback_serves honest core left kept after listed rest before name named result takes serves owes ok err = record {
  made = CloseSnapshot named.transaction.ticket ∷ [];
  told = reply_of result ∷ [];
  makes = one_made honest core left (CloseSnapshot named.transaction.ticket) (reply_of result) serves owes;
  comes = Others (calls.Rollback name) (reply_of result) (fits result) (CloseSnapshot named.transaction.ticket ∷ []) (reply_of result ∷ []) refl;
  steps = λ h w stands reads.
      let found = takes_going core kept listed rest w name None named stands takes in
      let (s, stay, on, step) = served_stands core left kept w.told (OfTickets (Close named.transaction.ticket.id)) (reply_of result) stands.told reads (serves h) in (
        record (along w s) { going = found.others },
        record { told = (kept_after result ok err (gone_on w.told s) stay).0; writer = stands.writer ∙ sym (kept_after result ok err (gone_on w.told s) stay).1; going = found.left },
        on,
        subst (λ (n : Named). steps.TxStep w before (calls.Rollback name) (reply_of result) (CloseSnapshot n.transaction.ticket ∷ []) (reply_of result ∷ []) (record (along w s) { going = found.others })) found.is
            (IsRolledBack name found.going found.others found.takes (reply_of result) s (subst (λ (n : Named). Step w.told.state (CloseSnapshot n.transaction.ticket) (reply_of result) s) (sym found.is) step)),
      );
}
  where
    fits : (r : Result Unit Error) → IsReplyToCall (calls.Rollback name) (reply_of r)
    fits (Ok u) = tt
    fits (Err error) = tt

    kept_after : (r : Result Unit Error) → OnOk r (after ≡ record kept { commits = pruned kept.commits left.memory.tickets.watermark }) → OnErr r (after ≡ kept) → (t : CoreState) → StandFor left kept t
        → StandFor left after t × (after.writer ≡ kept.writer)
    kept_after (Ok u) is none t stands = (subst (λ (k : Kept). StandFor left k t) (sym is) (pruned_stands left kept t stands), ap (λ (k : Kept). k.writer) is)
    kept_after (Err error) none is t stands = (subst (λ (k : Kept). StandFor left k t) (sym is) stands, ap (λ (k : Kept). k.writer) is)

-- a rollback tells of no job
pub no_job_behind : (result : Result Unit Error) (job : JobId) → Some (reply_of result) ≡ Some (Began (Some job)) → ⊥
no_job_behind (Ok u) job is = let bad : ⊥ = cc in bad
no_job_behind (Err error) job is = let bad : ⊥ = cc in bad

-- what is wanted is open
pub wanted_open : (a b c : Bool) → (a && (b && c)) ≡ true → c ≡ true
wanted_open true true c is = is
wanted_open true false c is = absurd (true≢false (sym is))
wanted_open false b c is = absurd (true≢false (sym is))

-- few items as a list that takes them
abbrev pub in_list : {A : Type 0} (other : Vec A Global) (items : List BatchItem) → length items < 2 ^ 63 → Vec BatchItem Global
in_list other items few = record { ptr = other.ptr; len = length items; cap = length items; alloc = other.alloc; items = items; ok = (refl, omega arith); small = few }

pub in_list_has : {A : Type 0} (other : Vec A Global) (items : List BatchItem) (few : length items < 2 ^ 63) → (in_list other items few).items ≡ items
in_list_has other items few = refl
