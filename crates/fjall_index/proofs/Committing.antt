-- What a commit makes of a state over which an index is kept.
use Rattle.std.proofs.Common.{◌≡◌, ℕ, Bool, true, true≢false, false, inl, inr, if◌then◌else◌, List, [], ◌∷◌, ◌++◌, Option, None, Some, map, refl, sym, ◌∙◌, ap, subst}
use Rattle.std.proofs.lemmas.Option.{none-some}
use Rattle.std.proofs.lemmas.List.{nil_from_length}
use Rattle.std.specs.FinMap.{empty, entries, get, len-empty, len-entries}
use Rattle.fjall_base.specs.Store.{Command, Store, Write, apply}
use Rattle.fjall_base.specs.declared.error.Error.{Error}
use Rattle.fjall_base.specs.declared.error.Error.TheVariants.{Io, NumbersUsedUp, OutOfMemory, Poisoned, SnapshotClosed, Storage, TooManyItems, ValueTooLong}
use Rattle.fjall_journal.specs.Changes.{Change, Items}
use Rattle.fjall_journal.specs.Ops.{BatchItem, item_in, write_of}
use Rattle.fjall_tx.specs.Marks.{Marks}
use Rattle.fjall_tx.specs.Oracles.{Conflicts}
use Rattle.fjall_tx.specs.Owns.{Own, item_of, items_of, key_order}
use Rattle.fjall_journal.specs.declared.op.Op.{Op}
use Rattle.fjall_tx.specs.declared.outcome.CommitOutcome.{CommitOutcome}
use Rattle.fjall_history.specs.Histories.{commits, grown, plain, view}
use Rattle.fjall_history.specs.Moves.{MovesOn, NoMove, OneMove}
use Rattle.fjall_history.specs.Serial.{value_at}
use Rattle.fjall_history.specs.declared.reply.Reply.TheVariants.{Done, Refused}
use Rattle.fjall_machine.specs.Shapes.{ByMode, Close, OfChange, OfTickets, Persistence}
use Rattle.fjall_machine.specs.Machine.{MayFail, Refuses, State, StepOf, due, facts, first_due, items_refusals, present, times}
use Rattle.fjall_machine.proofs.Dues.{may_change}
use Rattle.fjall_machine.proofs.Moving.{shape_moves}
use Rattle.fjall_core.specs.Crashes.{CallPasses, commands_asked, attempt, is_io}
use Rattle.fjall_core.specs.Durables.{Durable, Passes}
use Rattle.fjall_core.specs.Holding.{Held}
use Rattle.fjall_core.specs.CoreStanding.{StandsOn}
use Rattle.fjall_core.specs.Commits.{change_of}
use Rattle.fjall_core.specs.Standing.{CommitGoesOn, CommitPasses, CommitStep, IsCommitted, IsGone, IsIdle, IsMet, IsRefused, CoreState, accepted_of, history_of}
use Rattle.fjall_core.specs.Transactions.{Kept, MeetsSome, Tx, marks_of_items}
use Rattle.fjall_core.proofs.Items.{some_items}
use Rattle.fjall_index_entries.specs.Index.{FieldOf}
use Rattle.fjall_index_entries.specs.Keeping.{IsIndexed, IsIndexedAmid, KeepsIndex}
use Rattle.fjall_index_entries.proofs.Keeps.{commit_keeps}
use Rattle.fjall_index.specs.Changing.{TxKeepsIndex, own_where_done}
use Rattle.fjall_index.specs.Standing.{GoesOnIndexed, StandsIndexed}
use Rattle.fjall_index.proofs.Going.{grows, latest_told, none_tried, now_indexed, one_tried, rests, view_told}

-- ---- steps

pub closes_quietly : (s t : State) (id : ℕ) → StepOf s (OfTickets (Close id)) Done t → t.history ≡ s.history
closes_quietly s t id step = ap (λ (k : State). k.history) step.1.1

pub makes : (s t : State) (items : List BatchItem) (how : Persistence) → (items ≡ [] → ⊥) → StepOf s (OfChange (Items items) how) Done t → t.history ≡ grown s.history (plain (write_of items))
makes s t [] how some step = absurd (some refl)
makes s t (item ∷ items) how some step = ap (λ (k : State). k.history) step.1.1

failed_history : (s t : State) (change : Change) (how : Persistence) (error : Error) → MayFail (OfChange change how) error s t → t.history ≡ s.history
failed_history s t change how (Io kind) (inl (changes, fault)) = ap (λ (k : State). k.history) fault.is
failed_history s t change how (Io kind) (inr (inl (reads, same))) = ap (λ (k : State). k.history) same
failed_history s t change how (Io kind) (inr (inr fails)) = absurd fails
failed_history s t change how OutOfMemory (takes, same) = ap (λ (k : State). k.history) same
failed_history s t change how (Storage told) (is, damaged, same) = ap (λ (k : State). k.history) same
failed_history s t change how ValueTooLong (long, same) = ap (λ (k : State). k.history) same
failed_history s t change how Poisoned (late, same) = ap (λ (k : State). k.history) same
failed_history s t change how NumbersUsedUp (used_up, same) = ap (λ (k : State). k.history) same
failed_history s t change how TooManyItems (none_left, same) = ap (λ (k : State). k.history) same
failed_history s t change how error none = absurd none

-- a change that is refused accepts nothing
pub refused_history : (s t : State) (change : Change) (how : Persistence) (error : Error) (first : Option Error) → Refuses first (OfChange change how) error s t → t.history ≡ s.history
refused_history s t change how error (Some f) (is, same) = ap (λ (k : State). k.history) same
refused_history s t change how error None fails = failed_history s t change how error fails

-- ---- a change that isn't refused, or that the disk refuses, was asked of an engine that is well

well_where_none : (s : State) (items : List BatchItem) (how : Persistence) → (items ≡ [] → ⊥) → due s (OfChange (Items items) how) ≡ None → s.poisoned ≡ false
well_where_none s [] how some none = absurd (some refl)
well_where_none s (item ∷ items) how some none = (may_change (facts s) (Items (item ∷ items)) none).well

made_well : (s t : State) (items : List BatchItem) (how : Persistence) → (items ≡ [] → ⊥) → StepOf s (OfChange (Items items) how) Done t → s.poisoned ≡ false
made_well s t items how some step = well_where_none s items how some step.0

abbrev pub AreQuiet : List (Bool × Error) → Type 0
AreQuiet [] = Unit {0}
AreQuiet (r ∷ rs) = (is_io r.1 ≡ false) × AreQuiet rs

pub quiet_due : (rs : List (Bool × Error)) (f : Error) → AreQuiet rs → first_due rs ≡ Some f → is_io f ≡ false
quiet_due [] f quiet e = absurd (none-some f e)
quiet_due ((true, r) ∷ rs) f (quiet, more) e = ap (λ (o : Option Error). elim o as (λ _. Bool) [ None ↦ false | Some x ↦ is_io x ]) (sym e) ∙ quiet
quiet_due ((false, r) ∷ rs) f (quiet, more) e = quiet_due rs f more e

quiet_items : (s : State) (items : List BatchItem) (how : Persistence) (f : Error) → due s (OfChange (Items items) how) ≡ Some f → is_io f ≡ false
quiet_items s [] how f e = absurd (none-some f e)
quiet_items s (item ∷ items) how f e = quiet_due (items_refusals (facts s) (item ∷ items)) f (refl, (refl, (refl, (refl, (refl, (refl, (refl, (refl, tt)))))))) e

refused_well : (s t : State) (items : List BatchItem) (how : Persistence) (error : Error) → (items ≡ [] → ⊥) → is_io error ≡ true → StepOf s (OfChange (Items items) how) (Refused error) t → s.poisoned ≡ false
refused_well s t items how error some io step = by (due s (OfChange (Items items) how)) refl step
  where
    by : (first : Option Error) → due s (OfChange (Items items) how) ≡ first → Refuses first (OfChange (Items items) how) error s t → s.poisoned ≡ false
    by None e refuses = well_where_none s items how some e
    by (Some f) e (is, same) =
        let bad : true ≡ false = sym io ∙ ap is_io is ∙ quiet_items s items how f e in
        absurd (true≢false bad)

-- ---- what was tried

asked_items : (s : State) (items : List BatchItem) (how : Persistence) → (items ≡ [] → ⊥) → commands_asked s (OfChange (Items items) how) ≡ write_of items ∷ []
asked_items s [] how some = absurd (some refl)
asked_items s (item ∷ items) how some = refl

asked_none : (s : State) (items : List BatchItem) (how : Persistence) → items ≡ [] → commands_asked s (OfChange (Items items) how) ≡ []
asked_none s [] how none = refl
asked_none s (item ∷ items) how none = let bad : ⊥ = cc in absurd bad

pub no_items : (own : Own) → own ≡ empty → items_of own ≡ []
no_items own none = ap items_of none ∙ ap (map item_of) (nil_from_length (entries (empty {X = Op} {R = key_order})) (sym (len-entries (empty {X = Op} {R = key_order})) ∙ len-empty key_order Op))

-- an optimistic transaction tells of itself
marked : (marks : Option Marks) (m : Marks) → marks ≡ Some m → (instant : ℕ) (items : List BatchItem) → (accepted_of instant marks items).commit ≡ None → ⊥
marked None m e instant items none = none-some m e
marked (Some k) m e instant items none = none-some (record { instant = instant; marks = marks_of_items k items }) (sym none)

-- ---- commits

module _ (field : FieldOf) (main index since : ℕ) where
  -- the present behind what an open transaction writes that meets none
  kept_at : (core : Held) (before : Kept) (t : CoreState) (d : Durable) (tx : Tx) (instant : ℕ) → StandsIndexed field main index since core before t d → TxKeepsIndex field main index t tx
      → get t.state.tickets.instants tx.ticket.id ≡ Some instant → (MeetsSome instant tx.marks (commits (history_of t)) → ⊥)
      → IsIndexed field main index (apply (present t.state) (Write (map item_in (items_of tx.own)))).maps
  kept_at core before t d tx instant all keeps opened apart =
      let items = map item_in (items_of tx.own) in
      let none : Conflicts instant keeps.marks.reads (commits (history_of t)) → ⊥ = λ met. apart (subst (λ (m : Option Marks). MeetsSome instant m (commits (history_of t))) (sym keeps.optimistic) met) in
      let told = latest_told t all.stands.same in
      let seen : KeepsIndex field main index items (λ key. value_at (view (history_of t) instant) main key) =
      subst (λ (s : Store). KeepsIndex field main index items (λ key. value_at s main key)) (sym (view_told t instant all.stands.same)) (keeps.keeps instant opened) in
      subst (λ (s : Store). IsIndexed field main index (apply s (Write items)).maps) told
      (commit_keeps field (history_of t) main index all.stands.checked all.main_alone instant keeps.marks.reads none items (keeps.read instant opened) seen
      (subst (λ (s : Store). IsIndexed field main index s.maps) (sym told) (now_indexed field main index since core before t d all)))

  -- a crash behind a refused change: the disk may have it, where a fault of the disk refused it
  fault_tried : (core : Held) (before : Kept) (t : CoreState) (d : Durable) (tx : Tx) (mid : State) (error : Error) → StandsIndexed field main index since core before t d → (items_of tx.own ≡ [] → ⊥)
      → StepOf t.state (change_of tx) (Refused error) mid → IsIndexed field main index (apply (present t.state) (Write (map item_in (items_of tx.own)))).maps
      → IsIndexedAmid field main index d.base (d.pending ++ attempt t.state (change_of tx) (Refused error))
  fault_tried core before t d tx mid error all some step indexed = by (is_io error) refl
    where
      by : (io : Bool) → is_io error ≡ io → IsIndexedAmid field main index d.base (d.pending ++ (if io then commands_asked t.state (change_of tx) else []))
      by false e = none_tried field main index since core before t d all
      by true e =
          subst (λ (l : List Command). IsIndexedAmid field main index d.base (d.pending ++ l)) (sym (asked_items t.state (items_of tx.own) (ByMode tx.mode) some))
          (one_tried field main index since core before t d (map item_in (items_of tx.own)) all
          (sym all.stands.machine.remembered.poisoned ∙ refused_well t.state mid (items_of tx.own) (ByMode tx.mode) error some e step) indexed)

  pub commit_goes : (old new : Held) (before after : Kept) (t : CoreState) (d : Durable) (tx : Tx) (outcome : CommitOutcome Error) → StandsIndexed field main index since old before t d → TxKeepsIndex field main index t tx
      → CommitGoesOn old t tx outcome new after → (next : CoreState) × (e : Durable) × GoesOnIndexed field main index since (own_where_done outcome tx) t d next e new after
  commit_goes old new before after t d tx outcome all keeps (next, stands, reads, step, led) = let (e, on, passes) = led d all.on in (next, e, by e on passes step)
    where
      closing : (e : Durable) → StandsOn new next.state.parts.entries e → Passes d [] e
          → StepOf t.state (OfTickets (Close tx.ticket.id)) Done next.state → next.accepted ≡ t.accepted → GoesOnIndexed field main index since [] t d next e new after
      closing e on tried closes same =
          rests field main index since old new before after t next d e [] all (closes_quietly t.state next.state tx.ticket.id closes) same
          (OneMove (times t.state) (times next.state) (times next.state) (shape_moves t.state next.state (OfTickets (Close tx.ticket.id)) Done closes) (NoMove (times next.state)))
          stands reads on (none_tried field main index since old before t d all) tried

      by : (e : Durable) → StandsOn new next.state.parts.entries e → CommitPasses t.state d tx outcome e → CommitStep t tx outcome next → GoesOnIndexed field main index since (own_where_done outcome tx) t d next e new after
      by e on passes (IsGone none told same) =
          subst (λ (o : CommitOutcome Error). GoesOnIndexed field main index since (own_where_done o tx) t d next e new after) (sym told)
          (let p : CallPasses t.state d (change_of tx) (Refused SnapshotClosed) e = subst (λ (o : CommitOutcome Error). CommitPasses t.state d tx o e) told passes in
          let still = ap (λ (u : CoreState). u.state) same in
          rests field main index since old new before after t next d e [] all (ap (λ (s : State). s.history) still) (ap (λ (u : CoreState). u.accepted) same)
          (subst (λ (s : State). MovesOn (times t.state) (times s)) (sym still) (NoMove (times t.state))) stands reads on (none_tried field main index since old before t d all) p.0)
      by e on passes (IsIdle instant opened none told closes same) =
          subst (λ (o : CommitOutcome Error). GoesOnIndexed field main index since (own_where_done o tx) t d next e new after) (sym told)
          (let nothing = no_items tx.own none in
          let p : CallPasses t.state d (change_of tx) Done e = subst (λ (o : CommitOutcome Error). CommitPasses t.state d tx o e) told passes in
          let tried : Passes d [] e = subst (λ (l : List Command). Passes d l e) (asked_none t.state (items_of tx.own) (ByMode tx.mode) nothing) p.0 in
          subst (λ (l : List BatchItem). GoesOnIndexed field main index since (map item_in l) t d next e new after) (sym nothing)
          (closing e on tried closes same))
      by e on passes (IsMet instant opened some meets told closes same) =
          subst (λ (o : CommitOutcome Error). GoesOnIndexed field main index since (own_where_done o tx) t d next e new after) (sym told)
          (let p : CallPasses t.state d (OfTickets (Close tx.ticket.id)) Done e = subst (λ (o : CommitOutcome Error). CommitPasses t.state d tx o e) told passes in
          closing e on p.0 closes same)
      by e on passes (IsRefused instant opened some apart error told mid refused closes same) =
          subst (λ (o : CommitOutcome Error). GoesOnIndexed field main index since (own_where_done o tx) t d next e new after) (sym told)
          (let p : CallPasses t.state d (change_of tx) (Refused error) e = subst (λ (o : CommitOutcome Error). CommitPasses t.state d tx o e) told passes in
          let was = refused_history t.state mid (Items (items_of tx.own)) (ByMode tx.mode) error (due t.state (change_of tx)) refused in
          rests field main index since old new before after t next d e (attempt t.state (change_of tx) (Refused error)) all (closes_quietly mid next.state tx.ticket.id closes ∙ was) same
          (OneMove (times t.state) (times mid) (times next.state) (shape_moves t.state mid (change_of tx) (Refused error) refused)
          (OneMove (times mid) (times next.state) (times next.state) (shape_moves mid next.state (OfTickets (Close tx.ticket.id)) Done closes) (NoMove (times next.state))))
          stands reads on (fault_tried old before t d tx mid error all (some_items tx.own some) refused (kept_at old before t d tx instant all keeps opened apart)) p.0)
      by e on passes (IsCommitted instant opened some apart told mid made closes grown_by) =
          subst (λ (o : CommitOutcome Error). GoesOnIndexed field main index since (own_where_done o tx) t d next e new after) (sym told)
          (let p : CallPasses t.state d (change_of tx) Done e = subst (λ (o : CommitOutcome Error). CommitPasses t.state d tx o e) told passes in
          let items = items_of tx.own in
          let there = some_items tx.own some in
          let tried : Passes d (write_of items ∷ []) e = subst (λ (l : List Command). Passes d l e) (asked_items t.state items (ByMode tx.mode) there) p.0 in
          grows field main index since old new before after t next d e (map item_in items) (accepted_of instant tx.marks items) all (marked tx.marks keeps.marks keeps.optimistic instant items)
          (closes_quietly mid next.state tx.ticket.id closes ∙ makes t.state mid items (ByMode tx.mode) there made) grown_by
          (OneMove (times t.state) (times mid) (times next.state) (shape_moves t.state mid (change_of tx) Done made)
          (OneMove (times mid) (times next.state) (times next.state) (shape_moves mid next.state (OfTickets (Close tx.ticket.id)) Done closes) (NoMove (times next.state))))
          stands reads on (sym all.stands.machine.remembered.poisoned ∙ made_well t.state mid items (ByMode tx.mode) there made) (kept_at old before t d tx instant all keeps opened apart) tried)
