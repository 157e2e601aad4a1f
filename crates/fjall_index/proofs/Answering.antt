-- How a transaction ends, whatever index is kept.
use Rattle.std.proofs.Common.{◌≡◌, ℕ, List, [], Some, map, Result, Ok, Err, true≢false, sym, ◌∙◌, ap, subst}
use Rattle.std.specs.FinMap.{get}
use Rattle.std.specs.Result.{IsErr}
use Rattle.fjall_base.specs.Store.{Item, Store, Write, apply, map_at, written}
use Rattle.fjall_base.specs.declared.error.Error.{Error}
use Rattle.fjall_journal.specs.Changes.{Items}
use Rattle.fjall_journal.specs.Ops.{BatchItem, item_in}
use Rattle.fjall_tx.specs.Owns.{items_of}
use Rattle.fjall_tx.specs.declared.outcome.CommitOutcome.{CommitOutcome}
use Rattle.fjall_tx.specs.declared.outcome.CommitOutcome.TheVariants as outcomes
use Rattle.fjall_history.specs.Histories.{History, grown, latest, plain}
use Rattle.fjall_history.specs.Moves.{MovesOn, NoMove, OneMove}
use Rattle.fjall_history.specs.declared.reply.Reply.{Reply}
use Rattle.fjall_history.specs.declared.reply.Reply.TheVariants.{Done, Refused}
use Rattle.fjall_history.proofs.Views.{one_more}
use Rattle.fjall_machine.specs.Machine.{State, due, present, times}
use Rattle.fjall_machine.specs.Shapes.{ByMode, Close, OfTickets}
use Rattle.fjall_machine.proofs.Moving.{shape_moves}
use Rattle.fjall_core.specs.Commits.{change_of}
use Rattle.fjall_core.specs.CoreStanding.{ReadsOn}
use Rattle.fjall_core.specs.Holding.{Held}
use Rattle.fjall_core.specs.Standing.{CommitGoesOn, CommitStep, GoesOn, IsCommitted, IsGone, IsIdle, IsMet, IsRefused, StandFor, CoreState, gone_on}
use Rattle.fjall_core.specs.Transactions.{Kept, Tx}
use Rattle.fjall_core.proofs.Items.{some_items}
use Rattle.fjall_index.specs.Changing.{EndsAnswered, IsAnswerOf, own_where_answered, own_where_done}
use Rattle.fjall_index.specs.Opening.{Arrives}
use Rattle.fjall_index.proofs.Beginning.{ticket_history}
use Rattle.fjall_index.proofs.Committing.{closes_quietly, makes, no_items, refused_history}

-- the present has these items behind what it had
abbrev pub HasWrittenTo : CoreState → List Item → CoreState → Type 0
HasWrittenTo t items next = (id : ℕ) → map_at (present next.state).maps id ≡ map_at (written (present t.state).maps items) id

module _ (new : Held) (after : Kept) (t next : CoreState) (stands : StandFor new after next) (reads : ReadsOn new next.state) (moves : MovesOn (times t.state) (times next.state)) where
  -- where nothing was accepted
  pub rests_so : next.state.history ≡ t.state.history → Arrives t next new after × HasWrittenTo t [] next
  rests_so same = (
    record { stands = stands; reads = reads; moves = moves; named = λ id name is. subst (λ (h : History). get (latest h).names id ≡ Some name) (sym same) is },
    λ id. ap (λ (h : History). map_at (latest h).maps id) same,
  )

  -- where these items were
  writes_so : (items : List Item) → next.state.history ≡ grown t.state.history (plain (Write items)) → Arrives t next new after × HasWrittenTo t items next
  writes_so items same =
      let makes : present next.state ≡ apply (present t.state) (Write items) = ap latest same ∙ one_more t.state.history (plain (Write items)) in (
        record { stands = stands; reads = reads; moves = moves; named = λ id name is. subst (λ (s : Store). get s.names id ≡ Some name) (sym makes) is },
        λ id. ap (λ (s : Store). map_at s.maps id) makes,
      )

-- what is answered tells what is written
answered_items : (outcome : CommitOutcome Error) (answer : Result Unit Error) (tx : Tx) → IsAnswerOf outcome answer → own_where_answered answer tx ≡ own_where_done outcome tx
answered_items outcomes.Ok answer tx is = ap (λ (a : Result Unit Error). own_where_answered a tx) is
answered_items outcomes.Conflicted answer tx is = ap (λ (a : Result Unit Error). own_where_answered a tx) is
answered_items (outcomes.Aborted error) answer tx is = ap (λ (a : Result Unit Error). own_where_answered a tx) is

-- by a commit
pub answers_commit : (old new : Held) (before after : Kept) (tx : Tx) (outcome : CommitOutcome Error) (done answer : Result Unit Error)
    → ((t : CoreState) → StandFor old before t → ReadsOn old t.state → CommitGoesOn old t tx outcome new after) → IsAnswerOf outcome answer → EndsAnswered old before tx done answer new after
answers_commit old new before after tx outcome done answer steps is t stood read =
    let (next, stands, reads, step, led) = steps t stood read in
    let (arrives, wrote) = by next stands reads step in
    (next, arrives, subst (λ (items : List Item). HasWrittenTo t items next) (sym (answered_items outcome answer tx is)) wrote)
  where
    by : (next : CoreState) → StandFor new after next → ReadsOn new next.state → CommitStep t tx outcome next → Arrives t next new after × HasWrittenTo t (own_where_done outcome tx) next
    by next stands reads (IsGone none told same) =
        subst (λ (o : CommitOutcome Error). Arrives t next new after × HasWrittenTo t (own_where_done o tx) next) (sym told)
        (let still = ap (λ (u : CoreState). u.state) same in
        rests_so new after t next stands reads (subst (λ (s : State). MovesOn (times t.state) (times s)) (sym still) (NoMove (times t.state))) (ap (λ (s : State). s.history) still))
    by next stands reads (IsIdle instant opened none told closes same) =
        subst (λ (o : CommitOutcome Error). Arrives t next new after × HasWrittenTo t (own_where_done o tx) next) (sym told)
        (subst (λ (l : List BatchItem). Arrives t next new after × HasWrittenTo t (map item_in l) next) (sym (no_items tx.own none))
        (rests_so new after t next stands reads (OneMove (times t.state) (times next.state) (times next.state) (shape_moves t.state next.state (OfTickets (Close tx.ticket.id)) Done closes) (NoMove (times next.state)))
        (closes_quietly t.state next.state tx.ticket.id closes)))
    by next stands reads (IsMet instant opened some meets told closes same) =
        subst (λ (o : CommitOutcome Error). Arrives t next new after × HasWrittenTo t (own_where_done o tx) next) (sym told)
        (rests_so new after t next stands reads (OneMove (times t.state) (times next.state) (times next.state) (shape_moves t.state next.state (OfTickets (Close tx.ticket.id)) Done closes) (NoMove (times next.state)))
        (closes_quietly t.state next.state tx.ticket.id closes))
    by next stands reads (IsRefused instant opened some apart error told mid refused closes same) =
        subst (λ (o : CommitOutcome Error). Arrives t next new after × HasWrittenTo t (own_where_done o tx) next) (sym told)
        (rests_so new after t next stands reads
        (OneMove (times t.state) (times mid) (times next.state) (shape_moves t.state mid (change_of tx) (Refused error) refused)
        (OneMove (times mid) (times next.state) (times next.state) (shape_moves mid next.state (OfTickets (Close tx.ticket.id)) Done closes) (NoMove (times next.state))))
        (closes_quietly mid next.state tx.ticket.id closes ∙ refused_history t.state mid (Items (items_of tx.own)) (ByMode tx.mode) error (due t.state (change_of tx)) refused))
    by next stands reads (IsCommitted instant opened some apart told mid made closes grown_by) =
        subst (λ (o : CommitOutcome Error). Arrives t next new after × HasWrittenTo t (own_where_done o tx) next) (sym told)
        (writes_so new after t next stands reads
        (OneMove (times t.state) (times mid) (times next.state) (shape_moves t.state mid (change_of tx) Done made)
        (OneMove (times mid) (times next.state) (times next.state) (shape_moves mid next.state (OfTickets (Close tx.ticket.id)) Done closes) (NoMove (times next.state))))
        (map item_in (items_of tx.own)) (closes_quietly mid next.state tx.ticket.id closes ∙ makes t.state mid (items_of tx.own) (ByMode tx.mode) (some_items tx.own some) made))

-- by a rollback, behind which it is refused
pub answers_rollback : (old new : Held) (before after : Kept) (tx : Tx) (id : ℕ) (reply : Reply) (done answer : Result Unit Error)
    → ((t : CoreState) → StandFor old before t → ReadsOn old t.state → GoesOn old t (OfTickets (Close id)) reply new after) → IsErr answer → EndsAnswered old before tx done answer new after
answers_rollback old new before after tx id reply done (Ok _) steps fails t stood read = absurd (true≢false (sym fails))
answers_rollback old new before after tx id reply done (Err error) steps fails t stood read =
    let (s, stands, reads, step, led) = steps t stood read in
    let (arrives, wrote) = rests_so new after t (gone_on t s) stands reads (OneMove (times t.state) (times s) (times s) (shape_moves t.state s (OfTickets (Close id)) reply step) (NoMove (times s))) (ticket_history t.state s (Close id) reply step) in
    (gone_on t s, arrives, wrote)
