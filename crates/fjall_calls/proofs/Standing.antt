-- What transactions of a list heard, as the history tells.
use Rattle.std.proofs.Common.{◌≡◌, ℕ, List, [], All, map, Option, None, Some, unwrap_or, sym, ap, subst, ◌∙◌}
use Rattle.std.proofs.lemmas.List.Elements.{All-nil, All-weaker}
use Rattle.std.proofs.lemmas.Option.{none-some}
use Rattle.std.specs.Prelude.{slice_get}
use Rattle.std.specs.Option.{option_map}
use Rattle.fjall_base.specs.Store.{map_at}
use Rattle.fjall_journal.specs.Ops.{BatchItem, item_in}
use Rattle.fjall_tx.specs.Marks.{Mark, Marks}
use Rattle.fjall_tx.specs.Owns.{items_of, own_written}
use Rattle.fjall_history.specs.Histories.{Accepted, Commit, History, view}
use Rattle.fjall_history.specs.Queries.{Tells}
use Rattle.fjall_history.specs.declared.reply.Reply.{Reply}
use Rattle.fjall_history.specs.declared.ticket.Ticket.{Ticket}
use Rattle.fjall_history.specs.Asks.{IsMarked}
use Rattle.fjall_history.specs.Checked.{IsChecked}
use Rattle.fjall_history.specs.Serial.{ReadsChangeByTransactions}
use Rattle.fjall_history.proofs.Resting.{answered_before}
use Rattle.fjall_machine.specs.declared.call.Call.{Call}
use Rattle.fjall_core.specs.Holding.{Held}
use Rattle.fjall_core.specs.Standing.{StandFor, CoreState, accepted_of, history_of}
use Rattle.fjall_core.specs.Transactions.{Kept, marks_of_items}
use Rattle.fjall_core.proofs.Items.{same_reads}
use Rattle.fjall_calls.specs.declared.call.TxCall.{TxCall}
use Rattle.fjall_calls.specs.Steps.{TxRun}
use Rattle.fjall_calls.specs.Worlds.{Gone, Heard, World, begins}
use Rattle.fjall_calls.specs.Hearing.{IsMarkedBy, IsOfThoseBefore, IsOfView, StandsIn, tx_of}
use Rattle.fjall_calls.proofs.KeptWorlds.{HasCommitted, IsKept, IsKnown, kept_run}

-- as a list begins, nothing of it is there
pub kept_beginning : (core : Held) (kept : Kept) (t : CoreState) (writer : Option Ticket) → StandFor core kept t → IsKept (begins t writer)
kept_beginning core kept t writer stands = record {
  sound = record { same = stands.same; sound = stands.sound };
  going = All-nil (IsKnown t);
  gone = All-nil (HasCommitted t);
}

-- those that committed stand in the history
pub all_stand : (core : Held) (kept : Kept) (t : CoreState) → StandFor core kept t → (calls : List TxCall) (replies : List Reply) (made : List Call) (told : List Reply) (v : World)
    → TxRun (begins t kept.writer) [] calls replies made told v → All (StandsIn (history_of v.told)) v.gone
all_stand core kept t stands calls replies made told v run =
    All-weaker (HasCommitted v.told) (StandsIn (history_of v.told)) (λ g committed. committed.stands) v.gone
    (kept_run (begins t kept.writer) v [] calls replies made told (kept_beginning core kept t kept.writer stands) run).gone

-- ---- those before

-- what a transaction marked, its commit tells
commit_of_marks : (instant : ℕ) (marks : Option Marks) (items : List BatchItem) (c : Commit) → option_map (λ (m : Marks). record { instant = instant; marks = marks_of_items m items }) marks ≡ Some c
    → (c.instant ≡ instant) × ((heard : Heard) → IsMarkedBy marks heard → IsMarked c.marks.reads heard.id heard.query)
commit_of_marks instant None items c is = absurd (none-some c is)
commit_of_marks instant (Some marks) items c is =
    let told : Commit = record { instant = instant; marks = marks_of_items marks items } in
    let same : c ≡ told = ap (λ (o : Option Commit). unwrap_or o c) (sym is) in (
      ap (λ (d : Commit). d.instant) same,
      λ heard marked. subst (λ (reads : List Mark). IsMarked reads heard.id heard.query) (sym (ap (λ (d : Commit). d.marks.reads) same ∙ same_reads items marks)) marked,
    )

heard_before : (h : History) → IsChecked h → ReadsChangeByTransactions h → (g : Gone) → StandsIn h g → (a : Accepted) (c : Commit) → slice_get h.accepted g.place ≡ Some a → a.commit ≡ Some c
    → All (IsOfThoseBefore h g.place) g.was.heard
heard_before h checked premise g stands a c at is =
    let tx = tx_of g.was in
    let one : Accepted = accepted_of tx.ticket.instant tx.marks (items_of tx.own) in
    let same : one ≡ a = ap (λ (o : Option Accepted). unwrap_or o a) (sym stands.here ∙ at) in
    let (instant, marked) = commit_of_marks tx.ticket.instant tx.marks (items_of tx.own) c (ap (λ (b : Accepted). b.commit) same ∙ is) in
    All-weaker (IsOfView h tx) (IsOfThoseBefore h g.place)
    (λ heard of. answered_before h checked premise g.place a c at is heard.id heard.query (marked heard of.marked) (map item_in (items_of heard.own)) heard.reply
    (subst (λ (i : ℕ). Tells heard.query (map_at (own_written (view h i).maps heard.own) heard.id) heard.reply) (sym instant) of.tells))
    g.was.heard stands.heard

pub all_heard_before : (left : Held) (after : Kept) (v : World) → All (StandsIn (history_of v.told)) v.gone → StandFor left after v.told → ReadsChangeByTransactions (history_of v.told)
    → All (λ g. (a : Accepted) (c : Commit) → slice_get v.told.accepted g.place ≡ Some a → a.commit ≡ Some c → All (IsOfThoseBefore (history_of v.told) g.place) g.was.heard) v.gone
all_heard_before left after v all stands premise =
    All-weaker (StandsIn (history_of v.told)) (λ g. (a : Accepted) (c : Commit) → slice_get v.told.accepted g.place ≡ Some a → a.commit ≡ Some c → All (IsOfThoseBefore (history_of v.told) g.place) g.was.heard)
    (heard_before (history_of v.told) stands.checked premise) v.gone all
