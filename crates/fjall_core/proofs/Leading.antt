-- What a crash leaves of a commit, by the calls of the core that it was.
use Rattle.std.proofs.Common.{◌≡◌, ◌⊎◌, inl, inr, ℕ, List, [], ◌∷◌, ◌++◌, Option, None, Some, map, sym, ap, subst, ◌∙◌, append_assoc}
use Rattle.std.specs.FinMap.{empty, entries, get, len-empty, len-entries}
use Rattle.std.proofs.lemmas.List.{append-nil, nil_from_length}
use Rattle.fjall_base.specs.Disk.{Meaning}
use Rattle.fjall_base.specs.Store.{Command, fold, kept}
use Rattle.fjall_base.specs.declared.error.Error.{Error}
use Rattle.fjall_base.specs.declared.error.Error.TheVariants.{SnapshotClosed}
use Rattle.fjall_journal.specs.Changes.{Items}
use Rattle.fjall_journal.specs.Ops.{BatchItem}
use Rattle.fjall_journal.specs.declared.op.Op.{Op}
use Rattle.fjall_meta.proofs.Kept.{kept_along}
use Rattle.fjall_tx.specs.declared.outcome.CommitOutcome.{CommitOutcome}
use Rattle.fjall_tx.specs.declared.outcome.CommitOutcome.TheVariants as outcomes
use Rattle.fjall_tx.specs.Owns.{Own, item_of, items_of, key_order}
use Rattle.fjall_history.specs.declared.reply.Reply.{Reply}
use Rattle.fjall_history.specs.declared.reply.Reply.TheVariants.{Done, Refused}
use Rattle.fjall_history.proofs.Tracking.{closing_due}
use Rattle.fjall_history.proofs.Views.{fold_append}
use Rattle.fjall_machine.specs.Shapes.{ByMode, CallShape, Close, OfChange, OfTickets}
use Rattle.fjall_machine.specs.Machine.{Refuses, State, due}
use Rattle.fjall_engine.specs.Holding.{Held}
use Rattle.fjall_engine.specs.Durables.{Durable, Passes}
use Rattle.fjall_engine.specs.Crashes.{CallPasses}
use Rattle.fjall_engine.specs.Standing.{LeadsOn, ReadsOn, Serves, StandsFor, StandsOn}
use Rattle.fjall_engine.proofs.ServedCalls.{due_serves}
use Rattle.fjall_core.specs.Commits.{change_of}
use Rattle.fjall_core.specs.Standing.{CommitLeadsOn}
use Rattle.fjall_core.specs.Transactions.{Tx}

-- the reply of the core to a transaction's own writes, where they were written or refused
abbrev pub Tells : CommitOutcome Error → Reply → Type 0
Tells outcome reply = ((outcome ≡ outcomes.Ok) × (reply ≡ Done)) ⊎ ((error : Error) × (outcome ≡ outcomes.Aborted error) × (reply ≡ Refused error))

-- The calls of the core that a commit was, with what more is known of each: none where its ticket isn't open; the closing of its ticket;
-- or its own writes first.
pub data Through (Does : Held → CallShape → Reply → Held → Type 0) (More : Held → State → CallShape → Reply → Held → State → Type 0) (old : Held) (s : State) (tx : Tx) (outcome : CommitOutcome Error) (new : Held) (t : State) : Type 0 where
  IsStill : (none : get old.memory.tickets.instants tx.ticket.id ≡ None) (told : outcome ≡ outcomes.Aborted SnapshotClosed) (same : new ≡ old) (state : t ≡ s) → Through Does More old s tx outcome new t
  IsClosing : (alone : ((tx.own ≡ empty) × (outcome ≡ outcomes.Ok)) ⊎ (outcome ≡ outcomes.Conflicted)) (more : More old s (OfTickets (Close tx.ticket.id)) Done new t) → Through Does More old s tx outcome new t
  IsBoth : (mid : Held) (m : State) (reply : Reply) (told : Tells outcome reply) (more : More old s (change_of tx) reply mid m) (closes : Does mid (OfTickets (Close tx.ticket.id)) Done new)
      (then : More mid m (OfTickets (Close tx.ticket.id)) Done new t) → Through Does More old s tx outcome new t

-- ---- one call behind another that touches no disk and tries nothing

none_behind : {X : Type 0} (xs ys : List X) → xs ++ ys ≡ [] → ys ≡ []
none_behind [] ys e = e
none_behind (x ∷ xs) ys e = cc

passes_then : (s : State) (d m e : Durable) (shape : CallShape) (reply : Reply) → CallPasses s d shape reply m → Passes m [] e → e.meaning ≡ m.meaning → CallPasses s d shape reply e
passes_then s d m e shape reply first second same =
    let here : CallPasses s d shape reply (record m { meaning = e.meaning }) = subst (λ (meaning : Meaning). CallPasses s d shape reply (record m { meaning = meaning })) (sym same) first in (
      record {
        leaves = here.0.leaves;
        safe = here.0.safe ++ second.safe;
        base = second.base ∙ kept_along m.base (fold d.base here.0.safe) second.safe here.0.base ∙ ap kept (sym (fold_append d.base here.0.safe second.safe));
        rest = append_assoc here.0.safe second.safe e.pending ∙ ap (λ (l : List Command). here.0.safe ++ l) (second.rest ∙ append-nil m.pending) ∙ here.0.rest;
        rests = second.rests;
      },
      λ sync. none_behind second.safe e.pending (second.rest ∙ append-nil m.pending ∙ here.1 sync),
      here.2,
      here.3,
    )

-- the closing of a ticket behind another call
leads_then : (old mid new : Held) (s m t : State) (shape : CallShape) (reply : Reply) (id : ℕ) → LeadsOn old s shape reply mid m → Serves mid (OfTickets (Close id)) Done new → LeadsOn mid m (OfTickets (Close id)) Done new t
    → LeadsOn old s shape reply new t
leads_then old mid new s m t shape reply id led closes then d stood =
    let (n, on, first) = led d stood in
    let (e, now, second) = then n on in
    (e, now, passes_then s d n e shape reply first second.0 (now.same ∙ closes.disk ∙ sym on.same))

-- ---- commits

no_items : (own : Own) → own ≡ empty → items_of own ≡ []
no_items own none = ap items_of none ∙ ap (map item_of) (nil_from_length (entries (empty {X = Op} {R = key_order})) (sym (len-entries (empty {X = Op} {R = key_order})) ∙ len-empty key_order Op))

-- a refusal that is due leaves the state
still_there : (s t : State) (id : ℕ) (first : Option Error) → Refuses first (OfTickets (Close id)) SnapshotClosed s t → t ≡ s
still_there s t id (Some f) (is, same) = same
still_there s t id None fails = absurd fails

-- the commit of a ticket that isn't open does what its closing does: nothing
leads_nowhere : (core : Held) (s : State) (tx : Tx) → StandsFor core s → ReadsOn core s → get core.memory.tickets.instants tx.ticket.id ≡ None → CommitLeadsOn core s tx (outcomes.Aborted SnapshotClosed) core s
leads_nowhere core s tx stands reads none d stood =
    let (t, is, on, step, led) = (due_serves core (OfTickets (Close tx.ticket.id)) SnapshotClosed (closing_due tx.ticket.id core.memory.tickets None none)).goes_on s stands reads in
    let same : t ≡ s = still_there s t tx.ticket.id (due s (OfTickets (Close tx.ticket.id))) step in
    let (e, now, passes) = led d stood in
    (e, subst (λ (x : State). StandsOn core x.parts.entries e) same now, passes)

both_lead : (old mid new : Held) (s m t : State) (tx : Tx) (outcome : CommitOutcome Error) (reply : Reply) → Tells outcome reply → LeadsOn old s (change_of tx) reply mid m → Serves mid (OfTickets (Close tx.ticket.id)) Done new
    → LeadsOn mid m (OfTickets (Close tx.ticket.id)) Done new t → CommitLeadsOn old s tx outcome new t
both_lead old mid new s m t tx outcome reply (inl (told, is)) led closes then =
    subst (λ (o : CommitOutcome Error). CommitLeadsOn old s tx o new t) (sym told)
    (leads_then old mid new s m t (change_of tx) Done tx.ticket.id (subst (λ (r : Reply). LeadsOn old s (change_of tx) r mid m) is led) closes then)
both_lead old mid new s m t tx outcome reply (inr (error, told, is)) led closes then =
    subst (λ (o : CommitOutcome Error). CommitLeadsOn old s tx o new t) (sym told)
    (leads_then old mid new s m t (change_of tx) (Refused error) tx.ticket.id (subst (λ (r : Reply). LeadsOn old s (change_of tx) r mid m) is led) closes then)

-- so a commit leads where such a call would
pub leads_through : (old new : Held) (s t : State) (tx : Tx) (outcome : CommitOutcome Error) → StandsFor old s → ReadsOn old s → Through Serves LeadsOn old s tx outcome new t → CommitLeadsOn old s tx outcome new t
leads_through old new s t tx outcome stands reads (IsStill none told same state) =
    subst (λ (o : CommitOutcome Error). CommitLeadsOn old s tx o new t) (sym told)
    (subst (λ (c : Held). CommitLeadsOn old s tx (outcomes.Aborted SnapshotClosed) c t) (sym same)
    (subst (λ (x : State). CommitLeadsOn old s tx (outcomes.Aborted SnapshotClosed) old x) (sym state) (leads_nowhere old s tx stands reads none)))
leads_through old new s t tx outcome stands reads (IsClosing (inl (none, told)) more) =
    subst (λ (o : CommitOutcome Error). CommitLeadsOn old s tx o new t) (sym told)
    (λ d stood. let (e, now, passes) = more d stood in (e, now, subst (λ (items : List BatchItem). CallPasses s d (OfChange (Items items) (ByMode tx.mode)) Done e) (sym (no_items tx.own none)) passes))
leads_through old new s t tx outcome stands reads (IsClosing (inr told) more) = subst (λ (o : CommitOutcome Error). CommitLeadsOn old s tx o new t) (sym told) more
leads_through old new s t tx outcome stands reads (IsBoth mid m reply told more closes then) = both_lead old mid new s m t tx outcome reply told more closes then
