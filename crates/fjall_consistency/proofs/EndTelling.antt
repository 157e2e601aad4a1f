-- What the end of a transaction is told in a list, and what is known after it.
use Rattle.std.proofs.lemmas.List.Elements.{All-nil}
use Rattle.std.proofs.Common.{◌≡◌, ◌≢◌, ◌⊎◌, inl, inr, ⊎_elim, ℕ, zero, suc, ◌+◌, ◌==◌, ◌||◌, nat_lt, not, Bool, true, false, if◌then◌else◌, List, [], ◌∷◌, ◌++◌, length, map, All, Option, None, Some, is_none, is_some, unwrap_or, refl, sym, ap, subst, ◌∙◌, arith, append-nil, length-append}
use Rattle.std.proofs.Math.Bool.{or-false}
use Rattle.std.proofs.lemmas.Bool.{and_parts, eqb-true, ltb-true, or_cases, or_parts, true≢false}
use Rattle.std.proofs.lemmas.Bool.Decides.{nat_tests}
use Rattle.std.proofs.lemmas.List.{length-map, length-set}
use Rattle.std.proofs.lemmas.Option.{none-some, same_Some}
use Rattle.std.specs.Prelude.{Contains, flat_map, option_map, option_to_list, slice_get, slice_set}
use Rattle.std.specs.FinMap.{empty, get, remove}
use Rattle.std.specs.List.{list_any}
use Rattle.std.specs.declared.io.ErrorKind.{ErrorKind}
use Rattle.fjall_base.specs.Pairs.{Bytes}
use Rattle.fjall_base.specs.Store.{Item, Store, Write, apply, fold}
use Rattle.fjall_base.specs.declared.error.Error.{Error}
use Rattle.fjall_base.specs.declared.error.Error.TheVariants.{Io, NumbersUsedUp, OutOfMemory, Poisoned, SnapshotClosed, Storage, TooManyItems, ValueTooLong}
use Rattle.fjall_journal.specs.Changes.{Items}
use Rattle.fjall_journal.specs.Ops.{BatchItem, item_in, write_of}
use Rattle.fjall_journal.specs.declared.persist_mode.PersistMode.{PersistMode}
use Rattle.fjall_tx.specs.Marks.{Marks}
use Rattle.fjall_tx.specs.Owns.{Own, items_of}
use Rattle.fjall_tx.specs.declared.outcome.CommitOutcome.{CommitOutcome}
use Rattle.fjall_tx.specs.declared.outcome.CommitOutcome.TheVariants as outcomes
use Rattle.fjall_history.specs.Histories.{Accepted, History, commits, grown, latest, number}
use Rattle.fjall_history.specs.Moves.{Times}
use Rattle.fjall_history.specs.Tickets.{Tickets, is_open}
use Rattle.fjall_history.specs.declared.reply.Reply.{Reply}
use Rattle.fjall_history.specs.declared.reply.Reply.TheVariants.{Done, Flag, Refused}
use Rattle.fjall_history.specs.declared.ticket.Ticket.{Ticket}
use Rattle.fjall_machine.specs.Machine.{Answers, MayFail, Refuses, State, Step, StepOf, due, facts, first_due, items_refusals, present, times}
use Rattle.fjall_machine.specs.Places.{id_opened}
use Rattle.fjall_machine.specs.Shapes.{ByMode, Close, OfChange, OfTickets, Persistence}
use Rattle.fjall_machine.specs.declared.call.Call.TheVariants.{CloseSnapshot}
use Rattle.fjall_calls.specs.declared.call.Kind.{Kind}
use Rattle.fjall_calls.specs.declared.call.Kind.TheVariants.{Optimistic, Single}
use Rattle.fjall_calls.specs.declared.call.TxCall.TheVariants.{Commit, Rollback}
use Rattle.fjall_calls.specs.Hearing.{tx_of}
use Rattle.fjall_calls.specs.Names.{Takes, is_of_kind}
use Rattle.fjall_calls.specs.Steps.{IsRolledBack, gone_with, is_transaction_named, reply_to}
use Rattle.fjall_calls.specs.Worlds.{Going, World, along}
use Rattle.fjall_calls.proofs.Following.{GoesOn, counted_next}
use Rattle.fjall_calls.proofs.KeptWorlds.{IsKept, found_kind, found_open, kept_ended, kept_step, open_at}
use Rattle.fjall_calls.proofs.Lists.{of_others, of_taken}
use Rattle.fjall_calls.specs.Crashes.{commands_asked as core_asked, is_io}
use Rattle.fjall_calls.specs.Commits.{change_of}
use Rattle.fjall_calls.specs.Standing.{CommitStep, CoreState, accepted_of, history_of}
use Rattle.fjall_calls.specs.Standing as standing
use Rattle.fjall_calls.specs.Transactions.{MeetsSome, Tx, marks_of_items}
use Rattle.fjall_calls.proofs.Items.{some_items}
use Rattle.fjall_consistency.specs.Alike.{AreAlike}
use Rattle.fjall_consistency.proofs.Lawful.{change_lawful, own_lawful}
use Rattle.fjall_consistency.specs.Consistency.{AreLawful, HasCause, IsAnswer, IsMet, Known, IsAllowed, Transaction, after, attempted, commits as commits_of, is_fault, items_in, named, one_write, transactions_after}
use Rattle.fjall_consistency.proofs.Alike.{own_alike}
use Rattle.fjall_consistency.proofs.Causes.{contains_map, items_cause}
use Rattle.fjall_consistency.proofs.Going.{IsOfKind, IsSame, is_met, met_is, same_met, same_plain, single_unmet}
use Rattle.fjall_consistency.proofs.Known.{IsWritersOwn, AreTwo, IsGoing, IsKnown, IsShown, Tells, no_id}
use Rattle.fjall_consistency.proofs.Marking.{item_written, known_marked, marks_known}
use Rattle.fjall_consistency.proofs.Steps.{answered_open, answered_present, fault_poisons, poisoned_refuses, refused_times, stays_poisoned, stays_well, turned_history}
use Rattle.fjall_consistency.proofs.Turning.{SameOn, Turns, all_shown, along_same, apart_taken, commit_turns, core_turns, going_on, named_after, never_open, none_shown, one_each_still, real_id, taken_or_left}
use Rattle.fjall_consistency.proofs.Meeting.{met_by}

-- ---- lists

-- one that is set leaves the others
set_aside : {X : Type 0} (xs : List X) (i j : ℕ) (x : X) → (i ≡ j → ⊥) → slice_get (slice_set xs i x) j ≡ slice_get xs j
set_aside [] i j x other = refl
set_aside (y ∷ xs) zero zero x other = absurd (other refl)
set_aside (y ∷ xs) zero (suc j) x other = refl
set_aside (y ∷ xs) (suc i) zero x other = refl
set_aside (y ∷ xs) (suc i) (suc j) x other = set_aside xs i j x (λ same. other (ap suc same))

-- a place that is cleared has none
set_none : {X : Type 0} (xs : List (Option X)) (i : ℕ) → unwrap_or (slice_get (slice_set xs i None) i) None ≡ None
set_none [] i = refl
set_none (x ∷ xs) zero = refl
set_none (x ∷ xs) (suc i) = set_none xs i

-- ---- what is known where a transaction ends

module _ (w v : World) (before : List Reply) (k after : Known) (is : Going → Bool) (g : Going) (reply : Reply) (keys : List (ℕ × Bytes)) (known : IsKnown w before k) (takes : Takes is w.going (Some g) v.going)
    (turns : Turns w.told v.told (Some (tx_of g).ticket.id)) (same : SameOn w.told v.told keys) (none : id_opened (Some reply) ≡ no_id) (next : v.told.state.tickets.next ≡ w.told.state.tickets.next)
    (writes : v.writer ≡ w.writer) (all : after.transactions ≡ map (option_map (met_by keys)) (slice_set k.transactions g.named.place None) ++ None ∷ []) where
  -- the one that ends
  ended_was : IsGoing w before k g
  ended_was = of_taken (IsGoing w before k) is w.going v.going g takes known.going

  -- the others go on
  other_goes_on : (h : Going) → IsGoing w before k h → AreTwo g h → IsGoing v (before ++ reply ∷ []) after h
  other_goes_on h is_h two =
      let real = real_id w before k h known is_h in
      going_on w v before k after reply (Some (tx_of g).ticket.id) keys (slice_set k.transactions g.named.place None) None h turns same all is_h
      (set_aside k.transactions g.named.place h.named.place None two.0 ∙ is_h.at) (λ e. two.1 (same_Some _ _ e)) (λ e. real (sym e ∙ none)) real

  -- so do all that are left
  all_go_on : All (IsGoing v (before ++ reply ∷ []) after) v.going
  all_go_on i d within =
      other_goes_on _ (of_others (IsGoing w before k) is w.going v.going g takes known.going i d within) ((apart_taken is w.going v.going g takes known.apart).1 i d within)

  -- one that is known after it is open
  found_after : (place : ℕ) (tx : Transaction) → named after place ≡ Some tx → (h : Going) × Contains v.going h × (h.named.place ≡ place)
  found_after place tx at = by (named_after k after keys (slice_set k.transactions g.named.place None) None place tx all at)
    where
      left : (h : Going) → (h.named.place ≡ place) → (g.named.place ≡ place → ⊥) → (h ≡ g) ⊎ Contains v.going h → (x : Going) × Contains v.going x × (x.named.place ≡ place)
      left h here other (inl same_one) = absurd (other (ap (λ (x : Going). x.named.place) (sym same_one) ∙ here))
      left h here other (inr has) = (h, has, here)

      there : (b : Bool) → (g.named.place == place) ≡ b → (old : Transaction) → unwrap_or (slice_get (slice_set k.transactions g.named.place None) place) None ≡ Some old
          → (h : Going) × Contains v.going h × (h.named.place ≡ place)
      there true e old is_old =
          let here : unwrap_or (slice_get (slice_set k.transactions g.named.place None) place) None ≡ None =
          subst (λ (i : ℕ). unwrap_or (slice_get (slice_set k.transactions g.named.place None) i) None ≡ None) (eqb-true g.named.place place e) (set_none k.transactions g.named.place) in
          absurd (none-some old (sym here ∙ is_old))
      there false e old is_old =
          let other : (g.named.place ≡ place → ⊥) = λ same_place. (let bad : ⊥ = grind (arith, nat_tests) in bad) in
          let was : named k place ≡ Some old = ap (λ (o : Option (Option Transaction)). unwrap_or o None) (sym (set_aside k.transactions g.named.place place None other)) ∙ is_old in
          let found = known.found place old was in
          left found.0 found.2 other (taken_or_left is w.going v.going g found.0 takes found.1)

      by : ((old : Transaction) × (unwrap_or (slice_get (slice_set k.transactions g.named.place None) place) None ≡ Some old))
          ⊎ ((place ≡ length (slice_set k.transactions g.named.place None)) × (None ≡ Some tx)) → (h : Going) × Contains v.going h × (h.named.place ≡ place)
      by (inl (old, is_old)) = there (g.named.place == place) refl old is_old
      by (inr (last, begins)) = absurd (none-some tx begins)

  -- a ticket that is open was open
  was_open : (id instant : ℕ) → get v.told.state.tickets.instants id ≡ Some instant → get w.told.state.tickets.instants id ≡ Some instant
  was_open id instant there =
      let given = (turns.goes.sound.sound id instant there).0 in
      turns.goes.follows.was_open id instant (omega (arith, given, next)) there

  -- a writer that is open goes on
  writer_after : (ticket : Ticket) → v.writer ≡ Some ticket → is_open v.told.state.tickets ticket.id ≡ true
      → (h : Going) × Contains v.going h × ((tx_of h).ticket ≡ ticket) × ((tx_of h).marks ≡ None)
  writer_after ticket is_writer opened =
      let at = open_at v.told.state.tickets ticket.id opened in
      let found = known.writer ticket (sym writes ∙ is_writer) (ap is_some (was_open ticket.id at.0 at.1)) in
      left found.0 found.2 found.3 at.0 at.1 (taken_or_left is w.going v.going g found.0 takes found.1)
    where
      left : (h : Going) → (tx_of h).ticket ≡ ticket → (tx_of h).marks ≡ None → (instant : ℕ) → get v.told.state.tickets.instants ticket.id ≡ Some instant → (h ≡ g) ⊎ Contains v.going h
          → (x : Going) × Contains v.going x × ((tx_of x).ticket ≡ ticket) × ((tx_of x).marks ≡ None)
      left h has_ticket unmarked instant there (inl same_one) =
          let gone = turns.closes ticket.id (ap (λ (x : Going). Some (tx_of x).ticket.id) (sym same_one) ∙ ap (λ (t : Ticket). Some t.id) has_ticket) in
          absurd (none-some instant (sym gone ∙ there))
      left h has_ticket unmarked instant there (inr has) = (h, has, has_ticket, unmarked)

  -- so what is known after it stands beside the world after it
  ended_known : IsKept v → AreAlike (present v.told.state) after.present → v.told.state.damaged ≡ [] → (v.told.state.poisoned ≡ true → after.failed ≡ true)
      → (after.broken ≡ true → v.told.state.poisoned ≡ true) → after.snapshots ≡ k.snapshots ++ None ∷ [] → IsKnown v (before ++ reply ∷ []) after
  ended_known kept alike undamaged well broken snapshots = record {
    kept = kept;
    alike = alike;
    small = turns.small;
    undamaged = undamaged;
    well = well;
    broken = broken;
    snapshots = ap length snapshots ∙ length-append k.snapshots (None ∷ []) ∙ ap (λ n. n + 1) known.snapshots ∙ sym (length-append before (reply ∷ []));
    transactions =
        ap length all ∙ length-append (map (option_map (met_by keys)) (slice_set k.transactions g.named.place None)) (None ∷ [])
        ∙ ap (λ n. n + 1) (length-map (slice_set k.transactions g.named.place None) (option_map (met_by keys)) ∙ length-set k.transactions g.named.place None ∙ known.transactions)
        ∙ sym (length-append before (reply ∷ []));
    shown = λ place.
        subst (λ (l : List (Option Store)). IsShown v.told.state (id_opened (slice_get (before ++ reply ∷ []) place)) (unwrap_or (slice_get l place) None)) (sym snapshots)
        (all_shown w v before k reply (Some (tx_of g).ticket.id) k.snapshots None known turns refl (λ i other. refl) (λ i closed. absurd (ended_was.unnamed i (same_Some _ _ (sym closed))))
        (none_shown v.told.state reply turns.small (never_open w.told (Some (tx_of g).ticket.id) v.told turns) none) place);
    one_each = one_each_still w before k reply known (inl none);
    going = all_go_on;
    apart = (apart_taken is w.going v.going g takes known.apart).0;
    found = found_after;
    written = λ i d within none_marked. writes ∙ of_others (IsWritersOwn w) is w.going v.going g takes known.written i d within none_marked;
    writer_given = λ ticket e. let given = known.writer_given ticket (sym writes ∙ e) in omega (arith, given, next);
    writer = writer_after;
  }

-- whether something failed, also by this call
failed_on : (failed fault : Bool) → (failed ≡ true) ⊎ (fault ≡ true) → (failed || fault) ≡ true
failed_on true fault either = refl
failed_on false fault (inl is) = absurd (true≢false (sym is))
failed_on false fault (inr is) = is

-- ---- a closing

-- nothing goes wrong in it
close_fails : (s t : State) (id : ℕ) (error : Error) → MayFail (OfTickets (Close id)) error s t → ⊥
close_fails s t id (Io kind) (inl (changes, fault)) = changes
close_fails s t id (Io kind) (inr (inl (reads, same))) = reads
close_fails s t id (Io kind) (inr (inr fails)) = fails
close_fails s t id OutOfMemory (takes, same) = takes
close_fails s t id (Storage told) (is, damaged, same) = damaged
close_fails s t id ValueTooLong (long, same) = long
close_fails s t id Poisoned (late, same) = late
close_fails s t id NumbersUsedUp (used_up, same) = used_up
close_fails s t id TooManyItems (none_left, same) = none_left
close_fails s t id error none = none

-- so no refusal comes of it where none is due
never_refused : (s t : State) (id : ℕ) (error : Error) (first : Option Error) → first ≡ None → Refuses first (OfTickets (Close id)) error s t → ⊥
never_refused s t id error (Some first) none refuses = none-some first (sym none)
never_refused s t id error None none fails = close_fails s t id error fails

-- a ticket that is open is closed
closing_told : (s t : State) (id : ℕ) (reply : Reply) → is_open s.tickets id ≡ true → StepOf s (OfTickets (Close id)) reply t → reply ≡ Done
closing_told s t id (Refused error) opened refuses =
    absurd (never_refused s t id error (due s (OfTickets (Close id))) (ap (λ (b : Bool). if b then None else Some SnapshotClosed) opened) refuses)
closing_told s t id reply opened (none, answers) = answers.0.0

-- no id is given out
closing_next : (s t : State) (id : ℕ) → StepOf s (OfTickets (Close id)) Done t → t.tickets.next ≡ s.tickets.next
closing_next s t id closes =
    ap (λ (k : Tickets). k.next) closes.1.0.1 ∙ counted_next (number s.history) (record s.tickets { instants = remove s.tickets.instants id })

-- ---- a rollback

-- where its ticket was closed
rolled_back : (w : World) (before : List Reply) (k : Known) (name : ℕ) (g : Going) (others : List Going) (s : State) → IsKnown w before k
    → Takes (is_transaction_named w name None) w.going (Some g) others → Step w.told.state (CloseSnapshot (tx_of g).ticket) Done s
    → Tells (record (along w s) { going = others }) before k (Rollback name) Done
rolled_back w before k name g others s known takes step =
    let v : World = record (along w s) { going = others } in
    let turns = core_turns w (CloseSnapshot (tx_of g).ticket) Done s known.kept known.small step in
    let well = stays_well w.told.state s (OfTickets (Close (tx_of g).ticket.id)) Done step in
    let place_is : g.named.place ≡ name = eqb-true g.named.place name (and_parts _ _ takes.0).0 in
    record {
      answer = (refl, All-nil _, λ broken. refl);
      known =
          ended_known w v before k (after k (Rollback name) Done) (is_transaction_named w name None) g Done [] known takes turns (along_same w s known.kept turns.goes) refl
          (closing_next w.told.state s (tx_of g).ticket.id step) refl (ap (λ (i : ℕ). map (option_map (met_by [])) (slice_set k.transactions i None) ++ None ∷ []) (sym place_is))
          (kept_step w v before (Rollback name) Done (CloseSnapshot (tx_of g).ticket ∷ []) (Done ∷ []) known.kept (IsRolledBack name g others takes Done s step))
          (subst (λ (h : History). AreAlike (latest h) k.present) (sym (turned_history w.told.state s (Close (tx_of g).ticket.id) Done step.1)) known.alike)
          (well.0 ∙ known.undamaged) (λ poisoned. failed_on k.failed false (⊎_elim (λ was. inl (known.well was)) (λ none. inr none) (well.1 poisoned)))
          (λ broken. stays_poisoned w.told.state s (OfTickets (Close (tx_of g).ticket.id)) Done step (known.broken (sym (or-false k.broken) ∙ broken))) refl;
    }

pub rolled_back_tells : (w : World) (before : List Reply) (k : Known) (name : ℕ) (g : Going) (others : List Going) (reply : Reply) (s : State) → IsKnown w before k
    → Takes (is_transaction_named w name None) w.going (Some g) others → Step w.told.state (CloseSnapshot (tx_of g).ticket) reply s
    → Tells (record (along w s) { going = others }) before k (Rollback name) reply
rolled_back_tells w before k name g others reply s known takes step =
    let opened = found_open w name None g takes.0 in
    let told : reply ≡ Done = closing_told w.told.state s (tx_of g).ticket.id reply (ap is_some opened.1) step in
    subst (λ (r : Reply). Tells (record (along w s) { going = others }) before k (Rollback name) r) (sym told)
    (rolled_back w before k name g others s known takes (subst (λ (r : Reply). Step w.told.state (CloseSnapshot (tx_of g).ticket) r s) told step))

-- ---- what a commit leaves of what is told

-- the history, with what is accepted
history_as : (old new : CoreState) (accepted : List Accepted) → GoesOn old new → new.accepted ≡ accepted → history_of new ≡ record (history_of old) { accepted = accepted }
history_as old new accepted goes is = ap (λ (h : History). record h { accepted = new.accepted }) goes.follows.grown.1 ∙ ap (λ (l : List Accepted). record old.state.history { accepted = l }) is

-- where nothing is accepted, all others are as they were
same_still : (old new : CoreState) → GoesOn old new → new.accepted ≡ old.accepted → SameOn old new []
same_still old new goes is instant own marks mode tx same =
    subst (λ (h : History). IsSame h instant own marks mode (met_by [] tx)) (sym (history_as old new old.accepted goes is))
    (subst (λ (since : List (ℕ × Bytes)). IsSame (history_of old) instant own marks mode (record tx { since = since })) (sym (append-nil tx.since)) same)

-- the keys that a transaction wrote of this kind, as others are met by them
abbrev wrote_by : Kind → Transaction → List (ℕ × Bytes)
wrote_by Optimistic tx = (if length tx.own == 0 then [] else tx.writes) ++ []
wrote_by Single tx = []

-- these a commit makes others meet
wrote_named : (k : Known) (kind : Kind) (name : ℕ) (tx : Transaction) → named k name ≡ Some tx → commits_of k (Commit kind name) (Flag true) ≡ wrote_by kind tx
wrote_named k Optimistic name tx is = ap (λ (o : Option Transaction). flat_map (λ (t : Transaction). if length t.own == 0 then [] else t.writes) (option_to_list o)) is
wrote_named k Single name tx is = refl

-- none, where it wrote nothing
wrote_none : (kind : Kind) (tx : Transaction) → tx.own ≡ [] → wrote_by kind tx ≡ []
wrote_none Optimistic tx none = ap (λ (own : List Item). (if length own == 0 then [] else tx.writes) ++ []) none
wrote_none Single tx none = refl

-- one that conflicts makes nobody meet anything
conflicts_none : (k : Known) (kind : Kind) (name : ℕ) → commits_of k (Commit kind name) (Flag false) ≡ []
conflicts_none k Optimistic name = refl
conflicts_none k Single name = refl

-- nor does one that is refused
refused_none : (k : Known) (kind : Kind) (name : ℕ) (error : Error) → commits_of k (Commit kind name) (Refused error) ≡ []
refused_none k Optimistic name error = refl
refused_none k Single name error = refl

-- and else its keys
wrote_some : (tx : Transaction) → (tx.own ≡ [] → ⊥) → wrote_by Optimistic tx ≡ tx.writes
wrote_some tx some = by tx.own some ∙ append-nil tx.writes
  where
    by : (own : List Item) → (own ≡ [] → ⊥) → (if length own == 0 then [] else tx.writes) ++ [] ≡ tx.writes ++ []
    by [] some = absurd (some refl)
    by (item ∷ own) some = let no : (length (item ∷ own) == 0) ≡ false = grind (arith, nat_tests) in ap (λ (b : Bool). (if b then [] else tx.writes) ++ []) no

-- where its command is accepted, others are met by its keys
same_committed : (old new : CoreState) (instant : ℕ) (own : Own) (marks : Option Marks) (kind : Kind) (mode : Option PersistMode) (tx : Transaction) → GoesOn old new → IsSame (history_of old) instant own marks mode tx
    → tx.kind ≡ kind → (tx.own ≡ [] → ⊥) → new.accepted ≡ old.accepted ++ accepted_of instant marks (items_of own) ∷ [] → SameOn old new (wrote_by kind tx)
same_committed old new instant own (Some marks) Optimistic mode tx goes is kind some accepted at writes others how other same =
    subst (λ (h : History). IsSame h at writes others how (met_by (wrote_by Optimistic tx) other)) (sym (history_as old new _ goes accepted))
    (subst (λ (keys : List (ℕ × Bytes)). IsSame (grown (history_of old) (accepted_of instant (Some marks) (items_of own))) at writes others how (met_by keys other)) (sym (wrote_some tx some))
    (same_met (history_of old) (write_of (items_of own)) (record { instant = instant; marks = marks_of_items marks (items_of own) }) tx.writes at writes others how other same
    (marks_known marks own tx.writes is.wrote) (known_marked marks own tx.writes is.wrote)))
same_committed old new instant own None Single mode tx goes is kind some accepted at writes others how other same =
    subst (λ (h : History). IsSame h at writes others how (met_by [] other)) (sym (history_as old new _ goes accepted))
    (same_plain (history_of old) (write_of (items_of own) ∷ []) at writes others how other same)
same_committed old new instant own None Optimistic mode tx goes is kind some accepted at writes others how other same = absurd (subst (λ (x : Kind). IsOfKind x None) kind is.kind)
same_committed old new instant own (Some marks) Single mode tx goes is kind some accepted at writes others how other same = absurd (subst (λ (x : Kind). IsOfKind x (Some marks)) kind is.kind)

-- ---- what a commit is told

-- one that marks is optimistic
optimistic : (kind : Kind) (marks : Option Marks) → IsOfKind kind marks → not (is_none marks) ≡ true → kind ≡ Optimistic
optimistic Optimistic marks is of_kind = refl
optimistic Single (Some marks) is of_kind = absurd is
optimistic Single None is of_kind = absurd (true≢false (sym of_kind))

-- so of a single writer's
single : (kind : Kind) (marks : Option Marks) → IsOfKind kind marks → is_none marks ≡ true → kind ≡ Single
single Single marks is of_kind = refl
single Optimistic None is of_kind = absurd is
single Optimistic (Some marks) is of_kind = absurd (true≢false (sym of_kind))

-- a transaction is of the kind that it was found as
same_kind : (found kind : Kind) (tx : Tx) → IsOfKind found tx.marks → is_of_kind (Some kind) tx ≡ true → found ≡ kind
same_kind found Optimistic tx is of_kind = optimistic found tx.marks is of_kind
same_kind found Single tx is of_kind = single found tx.marks is of_kind

-- one whose reads meet a commit is met
met_some : (h : History) (instant : ℕ) (own : Own) (marks : Option Marks) (mode : Option PersistMode) (tx : Transaction) → IsSame h instant own marks mode tx → MeetsSome instant marks (commits h) → IsMet tx
met_some h instant own None mode tx is meets = absurd meets
met_some h instant own (Some marks) mode tx is meets = met_is h instant own marks mode tx is meets

-- and no other
some_met : (h : History) (instant : ℕ) (own : Own) (marks : Option Marks) (mode : Option PersistMode) (tx : Transaction) → IsSame h instant own marks mode tx → IsMet tx → MeetsSome instant marks (commits h)
some_met h instant own None mode tx is met = absurd (single_unmet h instant own mode tx is met)
some_met h instant own (Some marks) mode tx is met = is_met h instant own marks mode tx is met

-- the items of a commit
items_named : (k : Known) (kind : Kind) (name : ℕ) (tx : Transaction) → named k name ≡ Some tx → items_in k (Commit kind name) ≡ tx.own
items_named k kind name tx is = ap (λ (o : Option Transaction). flat_map (λ (t : Transaction). t.own) (option_to_list o)) is ∙ append-nil tx.own

-- stores that are the same are alike the same
alike_as : (s t d e : Store) → t ≡ s → e ≡ d → AreAlike s d → AreAlike t e
alike_as s t d e left right alike = subst (λ (x : Store). AreAlike x e) (sym left) (subst (AreAlike s) (sym right) alike)

-- some items are one command
one_of : (items : List Item) → (items ≡ [] → ⊥) → one_write items ≡ Write items ∷ []
one_of [] some = absurd (some refl)
one_of (item ∷ items) some = refl

-- the transaction is gone behind each refusal but one
gone_refused : (k : Known) (kind : Kind) (name : ℕ) (error : Error) → (error ≡ SnapshotClosed → ⊥) → transactions_after k (Commit kind name) (Refused error) ≡ slice_set k.transactions name None
gone_refused k kind name SnapshotClosed other = absurd (other refl)
gone_refused k kind name error other = refl

-- a change of some items asks for a command
asks_some : (s : State) (items : List BatchItem) (how : Persistence) → (items ≡ [] → ⊥) → core_asked s (OfChange (Items items) how) ≡ [] → ⊥
asks_some s [] how some none = some refl
asks_some s (item ∷ items) how some none = absurd cc

-- where none of these refusals tells of a fault of the disk, none that is due does
never_due : (refusals : List (Bool × Error)) (fault : ErrorKind) → list_any (λ refusal. is_io refusal.1) refusals ≡ false → first_due refusals ≡ Some (Io fault) → ⊥
never_due [] fault none is = none-some _ is
never_due ((true, first) ∷ refusals) fault none is =
    let same : first ≡ Io fault = cc in
    true≢false (sym (ap is_io same) ∙ (or_parts (is_io first) (list_any (λ refusal. is_io refusal.1) refusals) none).0)
never_due ((false, first) ∷ refusals) fault none is = never_due refusals fault (or_parts (is_io first) (list_any (λ refusal. is_io refusal.1) refusals) none).1 is

-- a poisoned engine refuses a change of some items before it meets a fault
never_faulty : (s t : State) (items : List BatchItem) (how : Persistence) (fault : ErrorKind) → (items ≡ [] → ⊥) → s.poisoned ≡ true → StepOf s (OfChange (Items items) how) (Refused (Io fault)) t → ⊥
never_faulty s t [] how fault some poisoned refuses = some refl
never_faulty s t (item ∷ items) how fault some poisoned refuses = by (due s (OfChange (Items (item ∷ items)) how)) refl refuses
  where
    by : (first : Option Error) → due s (OfChange (Items (item ∷ items)) how) ≡ first → Refuses first (OfChange (Items (item ∷ items)) how) (Io fault) s t → ⊥
    by (Some first) is (told, same) = never_due (items_refusals (facts s) (item ∷ items)) fault refl (is ∙ ap Some (sym told))
    by None is fails = asks_some s (item ∷ items) how some (poisoned_refuses s (OfChange (Items (item ∷ items)) how) poisoned is)

-- a refusal attempts nothing but by a fault of the disk
refused_attempts : (k : Known) (kind : Kind) (name : ℕ) (error : Error) → ((fault : ErrorKind) → error ≡ Io fault → ⊥) → attempted k (Commit kind name) (Refused error) ≡ []
refused_attempts k kind name (Io fault) never = absurd (never fault refl)
refused_attempts k kind name error never = refl

-- nothing breaks where as much is accepted as was attempted
broken_before : (broken : Bool) (n : ℕ) → (broken || nat_lt n n) ≡ true → broken ≡ true
broken_before broken n is = ⊎_elim (λ was. was) (λ less. absurd (omega (arith, ltb-true n n less))) (or_cases broken (nat_lt n n) is)

-- a refusal breaks only by a fault of the disk
refused_breaks : (k : Known) (kind : Kind) (name : ℕ) (error : Error) → (after k (Commit kind name) (Refused error)).broken ≡ true → (k.broken ≡ true) ⊎ ((fault : ErrorKind) × (error ≡ Io fault))
refused_breaks k kind name (Io fault) is = inr (fault, refl)
refused_breaks k kind name error is = inl (sym (or-false k.broken) ∙ is)

-- a change of some items leaves what their command makes
made_present : (s t : State) (items : List BatchItem) (how : Persistence) → (items ≡ [] → ⊥) → Answers s (OfChange (Items items) how) Done t → present t ≡ apply (present s) (write_of items)
made_present s t [] how some answers = absurd (some refl)
made_present s t (item ∷ items) how some answers = answered_present s t (OfChange (Items (item ∷ items)) how) Done answers

-- ---- a commit

module _ (w : World) (before : List Reply) (k : Known) (kind : Kind) (name : ℕ) (g : Going) (others : List Going) (new : CoreState) (known : IsKnown w before k)
    (takes : Takes (is_transaction_named w name (Some kind)) w.going (Some g) others) where
  -- it is open
  was : IsGoing w before k g
  was = of_taken (IsGoing w before k) (is_transaction_named w name (Some kind)) w.going others g takes known.going

  -- and known under its name
  place_is : g.named.place ≡ name
  place_is = eqb-true g.named.place name (and_parts _ _ takes.0).0

  named_is : named k name ≡ Some was.tx
  named_is = ap (λ (i : ℕ). named k i) (sym place_is) ∙ ap (λ (o : Option (Option Transaction)). unwrap_or o None) was.at

  -- as of its kind
  kind_is : was.tx.kind ≡ kind
  kind_is = same_kind was.tx.kind kind (tx_of g) was.same.kind (found_kind w name (Some kind) g takes.0)

  -- it reads where its ticket says
  instant_is : (instant : ℕ) → get w.told.state.tickets.instants (tx_of g).ticket.id ≡ Some instant → instant ≡ (tx_of g).ticket.instant
  instant_is instant opened = same_Some instant (tx_of g).ticket.instant (sym opened ∙ was.there)

  -- the world after it
  abbrev world : World
  world = record w { told = new; going = others; gone = gone_with w.gone g w.told new }

  -- what it is told, and what is known then
  commit_tells : (outcome : CommitOutcome Error) → CommitStep w.told (tx_of g) outcome new → IsAnswer k (Commit kind name) (reply_to outcome)
      → SameOn w.told new (commits_of k (Commit kind name) (reply_to outcome)) → new.state.tickets.next ≡ w.told.state.tickets.next
      → transactions_after k (Commit kind name) (reply_to outcome) ≡ slice_set k.transactions name None
      → AreAlike (present new.state) (after k (Commit kind name) (reply_to outcome)).present → new.state.damaged ≡ w.told.state.damaged
      → (new.state.poisoned ≡ true → (w.told.state.poisoned ≡ true) ⊎ (is_fault (reply_to outcome) ≡ true))
      → ((after k (Commit kind name) (reply_to outcome)).broken ≡ true → new.state.poisoned ≡ true) → id_opened (Some (reply_to outcome)) ≡ no_id
      → Tells world before k (Commit kind name) (reply_to outcome)
  commit_tells outcome step answer same next left alike undamaged well broken none =
      let reply : Reply = reply_to outcome in
      let keys : List (ℕ × Bytes) = commits_of k (Commit kind name) reply in
      record {
        answer = answer;
        known =
            ended_known w world before k (after k (Commit kind name) reply) (is_transaction_named w name (Some kind)) g reply keys known takes
            (commit_turns w (tx_of g) outcome new known.kept known.small step) same none next refl
            (ap (λ (l : List (Option Transaction)). map (option_map (met_by keys)) l ++ None ∷ []) (left ∙ ap (λ (i : ℕ). slice_set k.transactions i None) (sym place_is)))
            (kept_ended w kind name g others outcome new known.kept takes step) alike (undamaged ∙ known.undamaged)
            (λ poisoned. failed_on k.failed (is_fault reply) (⊎_elim (λ is. inl (known.well is)) (λ is. inr is) (well poisoned))) broken refl;
      }

  -- it wrote nothing
  idles : (instant : ℕ) → get w.told.state.tickets.instants (tx_of g).ticket.id ≡ Some instant → (tx_of g).own ≡ empty → StepOf w.told.state (OfTickets (Close (tx_of g).ticket.id)) Done new.state
      → new.accepted ≡ w.told.accepted → Tells world before k (Commit kind name) (Flag true)
  idles instant opened none closes same =
      let id = (tx_of g).ticket.id in
      let step : CommitStep w.told (tx_of g) outcomes.Ok new = standing.IsIdle instant opened none refl closes same in
      let goes = (commit_turns w (tx_of g) outcomes.Ok new known.kept known.small step).goes in
      let nothing : was.tx.own ≡ [] = was.same.own.none none in
      let well = stays_well w.told.state new.state (OfTickets (Close id)) Done closes in
      commit_tells outcomes.Ok step (
        (was.tx, named_is, kind_is, (subst (AreLawful k.present) (sym nothing) (All-nil _), inl nothing)),
        tt,
        λ broken. ap one_write (items_named k kind name was.tx named_is ∙ nothing),
      )
      (subst (SameOn w.told new) (sym (wrote_named k kind name was.tx named_is ∙ wrote_none kind was.tx nothing)) (same_still w.told new goes same)) (closing_next w.told.state new.state id closes) refl
      (alike_as (present w.told.state) (present new.state) k.present _ (ap latest (turned_history w.told.state new.state (Close id) Done closes.1))
      (ap (λ (items : List Item). fold k.present (one_write items)) (items_named k kind name was.tx named_is ∙ nothing)) known.alike)
      well.0 well.1 (λ broken. stays_poisoned w.told.state new.state (OfTickets (Close id)) Done closes (known.broken (broken_before k.broken _ broken))) refl

  -- it meets a commit
  conflicts : (instant : ℕ) → get w.told.state.tickets.instants (tx_of g).ticket.id ≡ Some instant → (tx_of g).own ≢ empty → MeetsSome instant (tx_of g).marks (commits (history_of w.told))
      → StepOf w.told.state (OfTickets (Close (tx_of g).ticket.id)) Done new.state → new.accepted ≡ w.told.accepted → Tells world before k (Commit kind name) (Flag false)
  conflicts instant opened some meets closes same =
      let id = (tx_of g).ticket.id in
      let step : CommitStep w.told (tx_of g) outcomes.Conflicted new = standing.IsMet instant opened some meets refl closes same in
      let goes = (commit_turns w (tx_of g) outcomes.Conflicted new known.kept known.small step).goes in
      let well = stays_well w.told.state new.state (OfTickets (Close id)) Done closes in
      let met : IsMet was.tx =
      met_some (history_of w.told) (tx_of g).ticket.instant (tx_of g).own (tx_of g).marks (tx_of g).mode was.tx was.same
      (subst (λ (i : ℕ). MeetsSome i (tx_of g).marks (commits (history_of w.told))) (instant_is instant opened) meets) in
      commit_tells outcomes.Conflicted step ((was.tx, named_is, kind_is, ((λ nothing. some (was.same.own.no_items nothing)), met)), tt, λ broken. refl)
      (subst (SameOn w.told new) (sym (conflicts_none k kind name)) (same_still w.told new goes same)) (closing_next w.told.state new.state id closes) refl
      (alike_as (present w.told.state) (present new.state) k.present _ (ap latest (turned_history w.told.state new.state (Close id) Done closes.1)) refl known.alike)
      well.0 well.1 (λ broken. stays_poisoned w.told.state new.state (OfTickets (Close id)) Done closes (known.broken (sym (or-false k.broken) ∙ broken))) refl

  -- an item of its own writes is among those that are known
  item_known : (item : BatchItem) → Contains (items_of (tx_of g).own) item → Contains (items_in k (Commit kind name)) (item_in item)
  item_known item there =
      subst (λ (items : List Item). Contains items (item_in item)) (sym (items_named k kind name was.tx named_is))
      (was.same.own.listed item.0 item.1 item.2 (item_written (tx_of g).own item there))

  -- where it meets no commit and its items are lawful, it takes place
  takes_place : (instant : ℕ) → get w.told.state.tickets.instants (tx_of g).ticket.id ≡ Some instant → (MeetsSome instant (tx_of g).marks (commits (history_of w.told)) → ⊥)
      → AreLawful k.present (map item_in (items_of (tx_of g).own)) → IsAllowed k (Commit kind name)
  takes_place instant opened apart lawful = (
    was.tx,
    named_is,
    kind_is,
    (
      own_lawful k.present (tx_of g).own was.tx.own was.same.own lawful,
      inr (λ met. apart (subst (λ (i : ℕ). MeetsSome i (tx_of g).marks (commits (history_of w.told))) (sym (instant_is instant opened))
          (some_met (history_of w.told) (tx_of g).ticket.instant (tx_of g).own (tx_of g).marks (tx_of g).mode was.tx was.same met))),
    ),
  )

  -- its command is refused
  refuses : (instant : ℕ) → get w.told.state.tickets.instants (tx_of g).ticket.id ≡ Some instant → (tx_of g).own ≢ empty → (MeetsSome instant (tx_of g).marks (commits (history_of w.told)) → ⊥)
      → (error : Error) (mid : State) → StepOf w.told.state (change_of (tx_of g)) (Refused error) mid → StepOf mid (OfTickets (Close (tx_of g).ticket.id)) Done new.state → new.accepted ≡ w.told.accepted
      → Tells world before k (Commit kind name) (Refused error)
  refuses instant opened some apart error mid refused closes same =
      let id = (tx_of g).ticket.id in
      let step : CommitStep w.told (tx_of g) (outcomes.Aborted error) new = standing.IsRefused instant opened some apart error refl mid refused closes same in
      let goes = (commit_turns w (tx_of g) (outcomes.Aborted error) new known.kept known.small step).goes in
      let first = stays_well w.told.state mid (change_of (tx_of g)) (Refused error) refused in
      let later = stays_well mid new.state (OfTickets (Close id)) Done closes in
      let still : times mid ≡ times w.told.state = refused_times w.told.state mid (change_of (tx_of g)) error refused in
      let cause : HasCause k (Commit kind name) error =
      items_cause w.told.state mid k (Commit kind name) (items_of (tx_of g).own) (ByMode (tx_of g).mode) error known.alike known.well item_known
      (λ item there. contains_map (λ (i : Item). i.id) (items_in k (Commit kind name)) (item_in item) (item_known item there)) (takes_place instant opened apart) refused in
      let quiet : k.broken ≡ true → attempted k (Commit kind name) (Refused error) ≡ [] =
      λ broken. refused_attempts k kind name error (λ fault is. never_faulty w.told.state mid (items_of (tx_of g).own) (ByMode (tx_of g).mode) fault (some_items (tx_of g).own some) (known.broken broken)
      (subst (λ (e : Error). StepOf w.told.state (change_of (tx_of g)) (Refused e) mid) is refused)) in
      let breaks : (after k (Commit kind name) (Refused error)).broken ≡ true → mid.poisoned ≡ true =
      λ broken. ⊎_elim (λ is. stays_poisoned w.told.state mid (change_of (tx_of g)) (Refused error) refused (known.broken is))
      (λ fault. fault_poisons w.told.state mid (change_of (tx_of g)) fault.0 (asks_some w.told.state (items_of (tx_of g).own) (ByMode (tx_of g).mode) (some_items (tx_of g).own some))
      (subst (λ (e : Error). StepOf w.told.state (change_of (tx_of g)) (Refused e) mid) fault.1 refused)) (refused_breaks k kind name error broken) in
      commit_tells (outcomes.Aborted error) step (cause, quiet) (subst (SameOn w.told new) (sym (refused_none k kind name error)) (same_still w.told new goes same))
      (closing_next mid new.state id closes ∙ ap (λ (t : Times). t.tickets.next) still)
      (gone_refused k kind name error (λ e. (subst (HasCause k (Commit kind name)) e cause) was.tx named_is kind_is))
      (alike_as (present w.told.state) (present new.state) k.present _ (ap latest (turned_history mid new.state (Close id) Done closes.1 ∙ ap (λ (t : Times). t.history) still)) refl known.alike)
      (later.0 ∙ first.0) (λ poisoned. ⊎_elim (λ is. first.1 is) (λ none. absurd (true≢false (sym none))) (later.1 poisoned))
      (λ broken. stays_poisoned mid new.state (OfTickets (Close id)) Done closes (breaks broken)) refl

  -- its command is accepted
  succeeds : (instant : ℕ) → get w.told.state.tickets.instants (tx_of g).ticket.id ≡ Some instant → (tx_of g).own ≢ empty → (MeetsSome instant (tx_of g).marks (commits (history_of w.told)) → ⊥)
      → (mid : State) → StepOf w.told.state (change_of (tx_of g)) Done mid → StepOf mid (OfTickets (Close (tx_of g).ticket.id)) Done new.state
      → new.accepted ≡ w.told.accepted ++ accepted_of instant (tx_of g).marks (items_of (tx_of g).own) ∷ [] → Tells world before k (Commit kind name) (Flag true)
  succeeds instant opened some apart mid made closes grows =
      let id = (tx_of g).ticket.id in
      let own = (tx_of g).own in
      let marks = (tx_of g).marks in
      let step : CommitStep w.told (tx_of g) outcomes.Ok new = standing.IsCommitted instant opened some apart refl mid made closes grows in
      let goes = (commit_turns w (tx_of g) outcomes.Ok new known.kept known.small step).goes in
      let first = stays_well w.told.state mid (change_of (tx_of g)) Done made in
      let later = stays_well mid new.state (OfTickets (Close id)) Done closes in
      let something : (was.tx.own ≡ [] → ⊥) = λ nothing. some (was.same.own.no_items nothing) in
      let began : instant ≡ (tx_of g).ticket.instant = instant_is instant opened in
      commit_tells outcomes.Ok step (
        takes_place instant opened apart (change_lawful w.told.state k.present (items_of own) (ByMode (tx_of g).mode) known.alike made.0),
        tt,
        λ broken. absurd (asks_some w.told.state (items_of own) (ByMode (tx_of g).mode) (some_items own some)
            (poisoned_refuses w.told.state (change_of (tx_of g)) (known.broken broken) made.0)),
      )
      (subst (SameOn w.told new) (sym (wrote_named k kind name was.tx named_is))
      (same_committed w.told new (tx_of g).ticket.instant own marks kind (tx_of g).mode was.tx goes was.same kind_is something
      (grows ∙ ap (λ (i : ℕ). w.told.accepted ++ accepted_of i marks (items_of own) ∷ []) began)))
      (closing_next mid new.state id closes ∙ ap (λ (t : Tickets). t.next) (answered_open w.told.state mid (change_of (tx_of g)) Done refl made.1)) refl
      (alike_as (apply (present w.told.state) (write_of (items_of own))) (present new.state) (apply k.present (Write was.tx.own)) _
      (ap latest (turned_history mid new.state (Close id) Done closes.1) ∙ made_present w.told.state mid (items_of own) (ByMode (tx_of g).mode) (some_items own some) made.1)
      (ap (λ (items : List Item). fold k.present (one_write items)) (items_named k kind name was.tx named_is) ∙ ap (fold k.present) (one_of was.tx.own something))
      (own_alike own was.tx.own was.same.own (present w.told.state) k.present known.alike))
      (later.0 ∙ first.0) (λ poisoned. ⊎_elim (λ is. first.1 is) (λ none. absurd (true≢false (sym none))) (later.1 poisoned))
      (λ broken. stays_poisoned mid new.state (OfTickets (Close id)) Done closes
      (stays_poisoned w.told.state mid (change_of (tx_of g)) Done made (known.broken (broken_before k.broken _ broken)))) refl

  -- whatever comes of it
  ends : (outcome : CommitOutcome Error) → CommitStep w.told (tx_of g) outcome new → Tells world before k (Commit kind name) (reply_to outcome)
  ends outcome (standing.IsGone none told same) = absurd (none-some _ (sym none ∙ was.there))
  ends outcome (standing.IsIdle instant opened none told closes same) =
      subst (λ (o : CommitOutcome Error). Tells world before k (Commit kind name) (reply_to o)) (sym told) (idles instant opened none closes same)
  ends outcome (standing.IsMet instant opened some meets told closes same) =
      subst (λ (o : CommitOutcome Error). Tells world before k (Commit kind name) (reply_to o)) (sym told) (conflicts instant opened some meets closes same)
  ends outcome (standing.IsRefused instant opened some apart error told mid refused closes same) =
      subst (λ (o : CommitOutcome Error). Tells world before k (Commit kind name) (reply_to o)) (sym told) (refuses instant opened some apart error mid refused closes same)
  ends outcome (standing.IsCommitted instant opened some apart told mid made closes grows) =
      subst (λ (o : CommitOutcome Error). Tells world before k (Commit kind name) (reply_to o)) (sym told) (succeeds instant opened some apart mid made closes grows)

pub ended_tells : (w : World) (before : List Reply) (k : Known) (kind : Kind) (name : ℕ) (g : Going) (others : List Going) (outcome : CommitOutcome Error) (new : CoreState) → IsKnown w before k
    → Takes (is_transaction_named w name (Some kind)) w.going (Some g) others → CommitStep w.told (tx_of g) outcome new
    → Tells (record w { told = new; going = others; gone = gone_with w.gone g w.told new }) before k (Commit kind name) (reply_to outcome)
ended_tells w before k kind name g others outcome new known takes step = ends w before k kind name g others new known takes outcome step
