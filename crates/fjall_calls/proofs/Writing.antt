-- Where all changes go through the single writer's transactions, the view of each is the present as it commits.
use Rattle.std.proofs.Common.{◌≡◌, ◌⊎◌, ◌≤◌, ⊎_elim, ℕ, true, not, List, [], ◌∷◌, ◌++◌, All, Option, None, Some, unwrap_or, length, refl, sym, ap, subst, ◌∙◌, arith, length-append}
use Rattle.std.proofs.Math.Seq.{take-append_seam}
use Rattle.std.proofs.lemmas.Bool.{true≢false}
use Rattle.std.proofs.lemmas.List.{take-append-le}
use Rattle.std.proofs.lemmas.List.Elements.{All-nil, All-push, All-weaker}
use Rattle.std.proofs.lemmas.Option.{none-some}
use Rattle.std.specs.Prelude.{get_or, is_none, is_some}
use Rattle.std.specs.FinMap.{get}
use Rattle.fjall_base.specs.declared.error.Error.{Error}
use Rattle.fjall_tx.specs.Marks.{Marks}
use Rattle.fjall_tx.specs.declared.outcome.CommitOutcome.{CommitOutcome}
use Rattle.fjall_history.specs.Histories.{Accepted, History, extended, latest, number, view}
use Rattle.fjall_history.specs.declared.reply.Reply.{Reply}
use Rattle.fjall_history.specs.declared.reply.Reply.TheVariants.{Opened}
use Rattle.fjall_history.specs.declared.ticket.Ticket.{Ticket}
use Rattle.fjall_history.proofs.Views.{number_grown, view_grown, view_of_all}
use Rattle.fjall_history.specs.Checked.{before}
use Rattle.fjall_machine.specs.Machine.{State, Step}
use Rattle.fjall_machine.specs.declared.call.Call.{Call}
use Rattle.fjall_machine.specs.declared.call.Call.TheVariants.{Snapshot}
use Rattle.fjall_core.specs.Holding.{Held}
use Rattle.fjall_core.specs.Transactions.{Kept, Tx, transaction_begun, no_marks}
use Rattle.fjall_core.specs.Standing.{CommitStep, StandFor, CoreState, gone_on, history_of}
use Rattle.fjall_calls.specs.declared.call.Kind.{Kind}
use Rattle.fjall_calls.specs.declared.call.Kind.TheVariants.{Optimistic, Single}
use Rattle.fjall_calls.specs.declared.call.TxCall.{TxCall}
use Rattle.fjall_calls.specs.declared.call.TxCall.TheVariants as calls
use Rattle.fjall_calls.specs.declared.call.Within.{Within}
use Rattle.fjall_calls.specs.Steps.{IsBegun, IsEnded, IsHeldBack, IsNotBegun, IsRolledBack, IsUnknown, IsWithin, OfCore, TxStep, first_marks, gone_by, is_transaction_named, is_one_open, is_written, may_begin, writer_after}
use Rattle.fjall_calls.specs.Names.{Takes}
use Rattle.fjall_calls.specs.Worlds.{Going, Gone, World, begins}
use Rattle.fjall_calls.specs.Hearing.{IsByWriter, NoMore, OneMore, WriterRun, tx_of}
use Rattle.fjall_calls.proofs.Commits.{commit_closes}
use Rattle.fjall_calls.proofs.Following.{Follows, GoesOn, told_number}
use Rattle.fjall_calls.proofs.Lists.{of_others, of_taken}
use Rattle.fjall_calls.proofs.Marking.{Keeps, keeps_answered}
use Rattle.fjall_calls.proofs.Standing.{kept_beginning}
use Rattle.fjall_calls.proofs.KeptWorlds.{IsKept, IsKnown, all_gone_with, found_kind, found_open, kept_step, same_ticket, step_goes_on}

-- One of the single writer's whose ticket is open is the one that was begun last, and its view is the present.
abbrev pub ReadsPresent : Option Ticket → CoreState → Going → Type 0
ReadsPresent writer t g = (tx_of g).marks ≡ None → (instant : ℕ) → get t.state.tickets.instants (tx_of g).ticket.id ≡ Some instant
    → (writer ≡ Some (tx_of g).ticket) × (number (history_of t) ≡ (tx_of g).ticket.instant)

-- One of the single writer's that committed read what its command met.
pub record HasReadPresent (t : CoreState) (g : Gone) : Type 0 where
  pub place : g.place ≤ length t.accepted
  pub within : (tx_of g.was).ticket.instant ≤ number (history_of t)
  pub shows : (tx_of g.was).marks ≡ None → view (history_of t) (tx_of g.was).ticket.instant ≡ latest (before (history_of t) g.place)

-- This holds of all transactions of a world in which the rest is kept.
pub record IsPresent (w : World) : Type 0 where
  pub kept : IsKept w
  pub going : All (ReadsPresent w.writer w.told) w.going
  pub gone : All (HasReadPresent w.told) w.gone

some_same : (x y : Ticket) → Some x ≡ Some y → x ≡ y
some_same x y e = ap (λ o. unwrap_or o x) e

-- nothing is accepted by a call that doesn't commit one of the single writer's
unchanged : {Q : Type 0} → ⊥ ⊎ Q → Q
unchanged either = ⊎_elim (λ none. absurd none) (λ q. q) either

-- ---- as what is told goes on

-- while nothing is accepted, the present stays
present_on : (writer : Option Ticket) (old new : CoreState) → Follows old new → number (history_of new) ≡ number (history_of old) → (g : Going) → IsKnown old g → ReadsPresent writer old g → ReadsPresent writer new g
present_on writer old new follows same g known was single instant there =
    let (last, now) = was single instant (follows.was_open (tx_of g).ticket.id instant known.given there) in
    (last, same ∙ now)

all_present_on : (writer : Option Ticket) (old new : CoreState) → Follows old new → number (history_of new) ≡ number (history_of old) → (going : List Going) → All (IsKnown old) going
    → All (ReadsPresent writer old) going → All (ReadsPresent writer new) going
all_present_on writer old new follows same going known all = λ k d lt. present_on writer old new follows same (get_or going k d) (known k d lt) (all k d lt)

-- what stood before a place stays
before_grown : (h : History) (more : List Accepted) (place : ℕ) → place ≤ length h.accepted → before (extended h more) place ≡ before h place
before_grown h more place le = ap (λ (l : List Accepted). record h { accepted = l }) (take-append-le place h.accepted more le)

-- and what comes next has all of it before it
before_last : (h : History) (more : List Accepted) → before (extended h more) (length h.accepted) ≡ h
before_last h more = ap (λ (l : List Accepted). record h { accepted = l }) (take-append_seam h.accepted more)

longer : (old new : CoreState) → Follows old new → length old.accepted ≤ length new.accepted
longer old new follows =
    let (more, grown) = follows.grown in
    let n = ap (λ (h : History). length h.accepted) grown in
    let l = length-append old.accepted more in
    omega (arith, n, l)

read_on : (old new : CoreState) → Follows old new → (g : Gone) → HasReadPresent old g → HasReadPresent new g
read_on old new follows g read =
    let (more, grown) = follows.grown in
    let instant = (tx_of g.was).ticket.instant in
    let place = read.place in
    let le = read.within in
    let a = longer old new follows in
    let b = number_grown (history_of old) (history_of new) follows.grown in
    record {
      place = omega (arith, place, a);
      within = omega (arith, le, b);
      shows = λ single.
          view_grown (history_of old) (history_of new) instant follows.grown read.within
          ∙ read.shows single
          ∙ sym (ap (λ (h : History). latest (before h g.place)) grown ∙ ap latest (before_grown (history_of old) more g.place read.place));
    }

all_read_on : (old new : CoreState) → Follows old new → (gone : List Gone) → All (HasReadPresent old) gone → All (HasReadPresent new) gone
all_read_on old new follows gone all = All-weaker (HasReadPresent old) (HasReadPresent new) (read_on old new follows) gone all

-- ---- beginning

-- where it may begin, no other one of the single writer's is open
no_other : (w : World) (new : CoreState) (ticket : Ticket) → may_begin w Single ≡ true → Follows w.told new → (g : Going) → IsKnown w.told g → ReadsPresent w.writer w.told g → ReadsPresent (Some ticket) new g
no_other w new ticket free follows g known was single instant there =
    let before = follows.was_open (tx_of g).ticket.id instant known.given there in
    let last = (was single instant before).0 in
    let there_is : is_written w ≡ true = ap (is_one_open w.told.state.tickets) last ∙ ap is_some before in
    absurd (true≢false (sym free ∙ ap not there_is))

begun_present : (w : World) (s : State) (kind : Kind) (place : ℕ) (ticket : Ticket) → may_begin w kind ≡ true → IsPresent w → GoesOn w.told (gone_on w.told s)
    → number (history_of (gone_on w.told s)) ≡ number (history_of w.told) → Step w.told.state Snapshot (Opened ticket) s
    → All (ReadsPresent (writer_after kind ticket w.writer) (gone_on w.told s)) (w.going ++ record { named = record { place = place; transaction = transaction_begun (first_marks kind) ticket }; heard = [] } ∷ [])
begun_present w s Optimistic place ticket free was goes same step =
    All-push (ReadsPresent w.writer (gone_on w.told s)) w.going (record { named = record { place = place; transaction = transaction_begun (Some no_marks) ticket }; heard = [] })
    (all_present_on w.writer w.told (gone_on w.told s) goes.follows same w.going was.kept.going was.going)
    (λ single. absurd (none-some no_marks (sym single)))
begun_present w s Single place ticket free was goes same (none, ((told, opens), is)) =
    All-push (ReadsPresent (Some ticket) (gone_on w.told s)) w.going (record { named = record { place = place; transaction = transaction_begun None ticket }; heard = [] })
    (λ k d lt. no_other w (gone_on w.told s) ticket free goes.follows (get_or w.going k d) (was.kept.going k d lt) (was.going k d lt))
    (λ single instant there. (refl, same ∙ told_number w.told was.kept.sound ∙ sym (ap (λ (k : Ticket). k.instant) (same_ticket ticket (record { id = w.told.state.tickets.next; instant = number w.told.state.history }) told))))

-- ---- within

none_of : (marks : Option Marks) → is_none marks ≡ true → marks ≡ None
none_of None e = refl
none_of (Some marks) e = absurd (true≢false (sym e))

none_before : (a b : Option Marks) → is_none a ≡ is_none b → a ≡ None → b ≡ None
none_before a None kind none = refl
none_before a (Some marks) kind none = absurd (true≢false (sym (ap is_none none) ∙ kind))

present_by : (writer : Option Ticket) (t : CoreState) (g : Going) (call : Within) (reply : Reply) (after : Tx) → Keeps (tx_of g) after → ReadsPresent writer t g → ReadsPresent writer t (gone_by g call reply after)
present_by writer t g call reply after keeps was single =
    subst (λ (k : Ticket). (instant : ℕ) → get t.state.tickets.instants k.id ≡ Some instant → (writer ≡ Some k) × (number (history_of t) ≡ k.instant)) (sym keeps.ticket)
    (was (none_before after.marks (tx_of g).marks keeps.kind single))

-- ---- ending

-- no other one of the single writer's is open, once it has committed
none_open : (w : World) (new : CoreState) (g other : Going) (at : ℕ) → Follows w.told new → (tx_of g).marks ≡ None → get w.told.state.tickets.instants (tx_of g).ticket.id ≡ Some at
    → get new.state.tickets.instants (tx_of g).ticket.id ≡ None → ReadsPresent w.writer w.told g → IsKnown w.told other → ReadsPresent w.writer w.told other → ReadsPresent w.writer new other
none_open w new g other at follows single there closed was known others others_single instant there_is =
    let first = (was single at there).0 in
    let second = (others others_single instant (follows.was_open (tx_of other).ticket.id instant known.given there_is)).0 in
    let same : (tx_of g).ticket ≡ (tx_of other).ticket = some_same (tx_of g).ticket (tx_of other).ticket (sym first ∙ second) in
    absurd (none-some instant (sym closed ∙ ap (λ (k : Ticket). get new.state.tickets.instants k.id) same ∙ there_is))

read_here : (w : World) (new : CoreState) (g : Going) (at : ℕ) → Follows w.told new → IsKnown w.told g → get w.told.state.tickets.instants (tx_of g).ticket.id ≡ Some at → ReadsPresent w.writer w.told g
    → HasReadPresent new (record { place = length w.told.accepted; was = g })
read_here w new g at follows known there was =
    let (more, grown) = follows.grown in
    let instant = (tx_of g).ticket.instant in
    let le = known.within in
    let b = number_grown (history_of w.told) (history_of new) follows.grown in
    record {
      place = longer w.told new follows;
      within = omega (arith, le, b);
      shows = λ single.
          let now = (was single at there).1 in
          view_grown (history_of w.told) (history_of new) instant follows.grown known.within
          ∙ view_of_all (history_of w.told) instant (omega (arith, now))
          ∙ sym (ap (λ (h : History). latest (before h (length w.told.accepted))) grown ∙ ap latest (before_last (history_of w.told) more));
    }

-- the transactions that are left
ended_present : (w : World) (kind : Kind) (name : ℕ) (g : Going) (others : List Going) (outcome : CommitOutcome Error) (new : CoreState) → Takes (is_transaction_named w name (Some kind)) w.going (Some g) others
    → IsPresent w → Follows w.told new → IsByWriter (calls.Commit kind name) ⊎ (number (history_of new) ≡ number (history_of w.told)) → CommitStep w.told (tx_of g) outcome new
    → All (ReadsPresent w.writer new) others
ended_present w Optimistic name g others outcome new takes was follows through step =
    of_others (ReadsPresent w.writer new) (is_transaction_named w name (Some Optimistic)) w.going others g takes
    (all_present_on w.writer w.told new follows (unchanged through) w.going was.kept.going was.going)
ended_present w Single name g others outcome new takes was follows through step =
    let (at, there) = found_open w name (Some Single) g takes.0 in
    let single = none_of (tx_of g).marks (found_kind w name (Some Single) g takes.0) in
    let reads = of_taken (ReadsPresent w.writer w.told) (is_transaction_named w name (Some Single)) w.going others g takes was.going in
    of_others (ReadsPresent w.writer new) (is_transaction_named w name (Some Single)) w.going others g takes
    (λ k d lt. none_open w new g (get_or w.going k d) at follows single there (commit_closes w.told new (tx_of g) outcome step) reads (was.kept.going k d lt) (was.going k d lt))

-- ---- steps

present_step : (w v : World) (before : List Reply) (call : TxCall) (reply : Reply) (made : List Call) (told : List Reply) → IsPresent w → TxStep w before call reply made told v
    → IsByWriter call ⊎ (number (history_of v.told) ≡ number (history_of w.told)) → GoesOn w.told v.told → IsKept v → IsPresent v
present_step w v before call reply made told was (OfCore c r s step) through goes kept = record {
  kept = kept;
  going = all_present_on w.writer w.told (gone_on w.told s) goes.follows (unchanged through) w.going was.kept.going was.going;
  gone = all_read_on w.told (gone_on w.told s) goes.follows w.gone was.gone;
}
present_step w v before call reply made told was (IsHeldBack due) through goes kept = was
present_step w v before call reply made told was (IsNotBegun kind free error s step) through goes kept = record {
  kept = kept;
  going = all_present_on w.writer w.told (gone_on w.told s) goes.follows (unchanged through) w.going was.kept.going was.going;
  gone = all_read_on w.told (gone_on w.told s) goes.follows w.gone was.gone;
}
present_step w v before call reply made told was (IsBegun kind free ticket s step) through goes kept = record {
  kept = kept;
  going = begun_present w s kind (length before) ticket free was goes (unchanged through) step;
  gone = all_read_on w.told (gone_on w.told s) goes.follows w.gone was.gone;
}
present_step w v before call reply made told was (IsUnknown c name kind is none) through goes kept = was
present_step w v before call reply made told was (IsWithin name c g others takes r m t s after acts) through goes kept =
    let now = all_present_on w.writer w.told (gone_on w.told s) goes.follows (unchanged through) w.going was.kept.going was.going in
    let mine = of_taken (ReadsPresent w.writer (gone_on w.told s)) (is_transaction_named w name None) w.going others g takes now in
    record {
      kept = kept;
      going = All-push (ReadsPresent w.writer (gone_on w.told s)) others (gone_by g c r after) (of_others (ReadsPresent w.writer (gone_on w.told s)) (is_transaction_named w name None) w.going others g takes now)
          (present_by w.writer (gone_on w.told s) g c r after (keeps_answered w.told.state (tx_of g) after c t r acts.answers) mine);
      gone = all_read_on w.told (gone_on w.told s) goes.follows w.gone was.gone;
    }
present_step w v before call reply made told was (IsEnded kind name g others takes outcome m t commits new step) through goes kept =
    let (at, there) = found_open w name (Some kind) g takes.0 in
    let known = of_taken (IsKnown w.told) (is_transaction_named w name (Some kind)) w.going others g takes was.kept.going in
    let reads = of_taken (ReadsPresent w.writer w.told) (is_transaction_named w name (Some kind)) w.going others g takes was.going in
    record {
      kept = kept;
      going = ended_present w kind name g others outcome new takes was goes.follows through step;
      gone = all_gone_with (HasReadPresent new) w.gone g w.told new (all_read_on w.told new goes.follows w.gone was.gone) (λ more. read_here w new g at goes.follows known there reads);
    }
present_step w v before call reply made told was (IsRolledBack name g others takes r s step) through goes kept = record {
  kept = kept;
  going = of_others (ReadsPresent w.writer (gone_on w.told s)) (is_transaction_named w name None) w.going others g takes
      (all_present_on w.writer w.told (gone_on w.told s) goes.follows (unchanged through) w.going was.kept.going was.going);
  gone = all_read_on w.told (gone_on w.told s) goes.follows w.gone was.gone;
}

present_run : (w v : World) (before : List Reply) (calls : List TxCall) (replies : List Reply) → IsPresent w → WriterRun w before calls replies v → IsPresent v
present_run w v before calls replies was (NoMore u b) = was
present_run w v before calls replies was (OneMore u mid x b call reply m t more r step through rest) =
    present_run mid v (b ++ reply ∷ []) more r
    (present_step w mid b call reply m t was step through (step_goes_on w mid b call reply m t was.kept.sound step) (kept_step w mid b call reply m t was.kept step)) rest

pub all_read_present : (core : Held) (kept : Kept) (t : CoreState) → StandFor core kept t → (calls : List TxCall) (replies : List Reply) (v : World) → WriterRun (begins t kept.writer) [] calls replies v
    → All (λ g. (tx_of g.was).marks ≡ None → view (history_of v.told) (tx_of g.was).ticket.instant ≡ latest (before (history_of v.told) g.place)) v.gone
all_read_present core kept t stands calls replies v run =
    All-weaker (HasReadPresent v.told) (λ g. (tx_of g.was).marks ≡ None → view (history_of v.told) (tx_of g.was).ticket.instant ≡ latest (before (history_of v.told) g.place)) (λ g read. read.shows) v.gone
    (present_run (begins t kept.writer) v [] calls replies (record {
      kept = kept_beginning core kept t kept.writer stands;
      going = All-nil (ReadsPresent kept.writer t);
      gone = All-nil (HasReadPresent t);
    }) run).gone
