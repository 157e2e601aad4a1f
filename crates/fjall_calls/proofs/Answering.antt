-- Each answer that a transaction gets is of its view.
use Rattle.std.proofs.Common.{◌≡◌, ℕ, Bool, All, List, [], ◌∷◌, ◌++◌, Option, None, Some, unwrap_or, refl, sym, ap, subst}
use Rattle.std.specs.FinMap.{FinMap}
use Rattle.std.specs.Ordering.{nat_cmp}
use Rattle.std.specs.Option.{option_map}
use Rattle.std.proofs.lemmas.List.Elements.{All-cons, All-nil, All-same, All-weaker, Contains-push}
use Rattle.std.proofs.lemmas.Option.{none-some}
use Rattle.fjall_base.specs.Pairs.{Bytes, KeyRange, Pairs, lookup}
use Rattle.fjall_base.specs.Store.{map_at}
use Rattle.fjall_base.specs.declared.error.Error.{Error}
use Rattle.fjall_base.specs.declared.error.Error.TheVariants.{OutOfMemory}
use Rattle.fjall_tx.specs.Marks.{Marks, OfKey, OfRange, with_read}
use Rattle.fjall_tx.specs.Owns.{Own, own_written}
use Rattle.fjall_history.specs.Histories.{History, view}
use Rattle.fjall_history.specs.Queries.{Get, Page, Query, Tells}
use Rattle.fjall_history.specs.declared.reply.Reply.{Reply}
use Rattle.fjall_history.specs.declared.reply.Reply.TheVariants.{Pairs as PairsReply, Refused, Value}
use Rattle.fjall_history.specs.declared.ticket.Ticket.{Ticket}
use Rattle.fjall_history.specs.declared.ticket.View.TheVariants.{At}
use Rattle.fjall_history.proofs.Resting.{key_itself, range_itself}
use Rattle.fjall_machine.specs.Machine.{State, maps_in}
use Rattle.fjall_core.specs.Transactions.{Tx, having_read, replacing, with_own}
use Rattle.fjall_calls.specs.declared.call.Within.{Within}
use Rattle.fjall_calls.specs.declared.call.Within.TheVariants as within
use Rattle.fjall_calls.specs.Acting.{AnswersWithin, Gets, IsNotUpdated, IsUnread, IsUnwritable, Pages, Persists, RunsOut, Updates, Writes, heard_by, seen_by, update_of, update_reply}
use Rattle.fjall_calls.specs.Worlds.{Heard}
use Rattle.fjall_calls.specs.Hearing.{IsMarkedBy, IsOfView}
use Rattle.fjall_calls.proofs.Marking.{Keeps, keeps_replacing}

-- ---- what stays of a view

kept_of_view : (h : History) (tx after : Tx) → Keeps tx after → (heard : Heard) → IsOfView h tx heard → IsOfView h after heard
kept_of_view h tx after keeps heard of = record {
  tells = subst (λ (t : Ticket). Tells heard.query (map_at (own_written (view h t.instant).maps heard.own) heard.id) heard.reply) (sym keeps.ticket) of.tells;
  marked = keeps.marked heard of.marked;
}

pub kept_of_views : (h : History) (tx after : Tx) (heard : List Heard) → Keeps tx after → All (IsOfView h tx) heard → All (IsOfView h after) heard
kept_of_views h tx after heard keeps all = All-weaker (IsOfView h tx) (IsOfView h after) (kept_of_view h tx after keeps) heard all

-- ---- what is marked last

key_read : (id : ℕ) (key : Bytes) (own : Own) (reply : Reply) (marks : Option Marks) → IsMarkedBy (option_map (λ marks. with_read marks (OfKey id key)) marks) (record { id = id; query = Get key; own = own; reply = reply })
key_read id key own reply None = tt
key_read id key own reply (Some marks) = key_itself (marks.reads ++ OfKey id key ∷ []) id key (Contains-push marks.reads (OfKey id key))

range_read : (id : ℕ) (range : KeyRange) (back : Bool) (max : ℕ) (own : Own) (reply : Reply) (marks : Option Marks)
    → IsMarkedBy (option_map (λ marks. with_read marks (OfRange id range.0 range.1)) marks) (record { id = id; query = Page range back max; own = own; reply = reply })
range_read id range back max own reply None = tt
range_read id range back max own reply (Some marks) =
    range_itself (marks.reads ++ OfRange id range.0 range.1 ∷ []) id range (Contains-push marks.reads (OfRange id range.0 range.1)) back max

-- ---- what is heard

-- a refusal tells nothing
unheard : (call : Within) (own : Own) (error : Error) → heard_by call own (Refused error) ≡ []
unheard (within.Get id key) own error = refl
unheard (within.Page id range back max) own error = refl
unheard (within.Write id key op) own error = refl
unheard (within.Take id key) own error = refl
unheard (within.FetchUpdate id key new) own error = refl
unheard (within.UpdateFetch id key new) own error = refl
unheard (within.Durability mode) own error = refl

none_heard : (P : Heard → Type 0) (call : Within) (own : Own) (error : Error) → All P (heard_by call own (Refused error))
none_heard P call own error = All-same P (heard_by call own (Refused error)) [] (unheard call own error) (All-nil P)

alone : (P : Heard → Type 0) (heard : Heard) → P heard → All P (heard ∷ [])
alone P heard here = All-cons P heard [] here (All-nil P)

-- of the key of an update, as its call names it
at_call : (P : Heard → Type 0) (own : Own) (found : Option Bytes) (named update : ℕ × Bytes × Option Bytes) → Some named ≡ Some update
    → P (record { id = update.0; query = Get update.1; own = own; reply = Value found }) → P (record { id = named.0; query = Get named.1; own = own; reply = Value found })
at_call P own found named update is here =
    subst (λ (o : Option (ℕ × Bytes × Option Bytes)). P (record { id = (unwrap_or o named).0; query = Get (unwrap_or o named).1; own = own; reply = Value found })) (sym is) here

-- an update tells what it found, or what is new
update_heard : (P : Heard → Type 0) (call : Within) (own : Own) (id : ℕ) (key : Bytes) (new found : Option Bytes) → update_of call ≡ Some (id, key, new)
    → P (record { id = id; query = Get key; own = own; reply = Value found }) → All P (heard_by call own (update_reply call found))
update_heard P (within.Take i k) own id key new found is here = alone P (record { id = i; query = Get k; own = own; reply = Value found }) (at_call P own found (i, k, None) (id, key, new) is here)
update_heard P (within.FetchUpdate i k n) own id key new found is here = alone P (record { id = i; query = Get k; own = own; reply = Value found }) (at_call P own found (i, k, n) (id, key, new) is here)
update_heard P (within.UpdateFetch i k n) own id key new found is here = All-nil P
update_heard P (within.Get i k) own id key new found is here = absurd (none-some (id, key, new) is)
update_heard P (within.Page i range back max) own id key new found is here = absurd (none-some (id, key, new) is)
update_heard P (within.Write i k op) own id key new found is here = absurd (none-some (id, key, new) is)
update_heard P (within.Durability mode) own id key new found is here = absurd (none-some (id, key, new) is)

-- ---- where a history shows what the state does

module _ (h : History) (s : State) (tx : Tx) (shows : (view h tx.ticket.instant).maps ≡ maps_in s (At tx.ticket)) where
  shown : (id : ℕ) (query : Query) (reply : Reply) → Tells query (seen_by s tx id) reply → Tells query (map_at (own_written (view h tx.ticket.instant).maps tx.own) id) reply
  shown id query reply tells = subst (λ (maps : FinMap nat_cmp Pairs). Tells query (map_at (own_written maps tx.own) id) reply) (sym shows) tells

  -- the value of a key
  of_key : (id : ℕ) (key : Bytes) (found : Option Bytes) → found ≡ lookup (seen_by s tx id) key → IsOfView h (having_read tx (OfKey id key)) (record { id = id; query = Get key; own = tx.own; reply = Value found })
  of_key id key found is = record { tells = shown id (Get key) (Value found) (ap Value is); marked = key_read id key tx.own (Value found) tx.marks }

  got : (id : ℕ) (key : Bytes) (reply : Reply) → Tells (Get key) (seen_by s tx id) reply → All (IsOfView h (having_read tx (OfKey id key))) (heard_by (within.Get id key) tx.own reply)
  got id key reply tells =
      let found : Option Bytes = lookup (seen_by s tx id) key in
      subst (λ (r : Reply). All (IsOfView h (having_read tx (OfKey id key))) (heard_by (within.Get id key) tx.own r)) (sym tells)
      (alone (IsOfView h (having_read tx (OfKey id key))) (record { id = id; query = Get key; own = tx.own; reply = Value found }) (of_key id key found refl))

  -- a page
  paged : (id : ℕ) (range : KeyRange) (back : Bool) (max : ℕ) (reply : Reply) → Tells (Page range back max) (seen_by s tx id) reply
      → All (IsOfView h (having_read tx (OfRange id range.0 range.1))) (heard_by (within.Page id range back max) tx.own reply)
  paged id range back max reply (found, told, is) =
      subst (λ (r : Reply). All (IsOfView h (having_read tx (OfRange id range.0 range.1))) (heard_by (within.Page id range back max) tx.own r)) (sym told)
      (alone (IsOfView h (having_read tx (OfRange id range.0 range.1))) (record { id = id; query = Page range back max; own = tx.own; reply = PairsReply found }) (record {
        tells = shown id (Page range back max) (PairsReply found) (found, refl, is);
        marked = range_read id range back max tx.own (PairsReply found) tx.marks;
      }))

  updated : (call : Within) (id : ℕ) (key : Bytes) (new found : Option Bytes) → update_of call ≡ Some (id, key, new) → found ≡ lookup (seen_by s tx id) key
      → All (IsOfView h (replacing (having_read tx (OfKey id key)) id key found new)) (heard_by call tx.own (update_reply call found))
  updated call id key new found is finds =
      let read = having_read tx (OfKey id key) in
      update_heard (IsOfView h (replacing read id key found new)) call tx.own id key new found is
      (kept_of_view h read (replacing read id key found new) (keeps_replacing read id key found new) (record { id = id; query = Get key; own = tx.own; reply = Value found }) (of_key id key found finds))

  pub heard_of_view : (after : Tx) (call : Within) (told : List Reply) (reply : Reply) → AnswersWithin s tx call told reply after → All (IsOfView h after) (heard_by call tx.own reply)
  heard_of_view after call told reply (IsUnread c error) = none_heard (IsOfView h tx) c tx.own error
  heard_of_view after call told reply (RunsOut c t fine may) = none_heard (IsOfView h tx) c tx.own OutOfMemory
  heard_of_view after call told reply (Gets id key below r fine tells) = got id key r tells
  heard_of_view after call told reply (Pages id range back max below r fine tells) = paged id range back max r tells
  heard_of_view after call told reply (Writes id key op fits) = All-nil (IsOfView h (with_own tx id key op))
  heard_of_view after call told reply (IsUnwritable id key op error due) = All-nil (IsOfView h tx)
  heard_of_view after call told reply (Updates c id key new found is below fine finds fits) = updated c id key new found is finds
  heard_of_view after call told reply (IsNotUpdated c id key new found is below fine finds error due) = none_heard (IsOfView h tx) c tx.own error
  heard_of_view after call told reply (Persists mode) = All-nil (IsOfView h (record tx { mode = mode }))
