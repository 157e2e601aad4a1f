-- A put as one transaction.
use Rattle.std.proofs.Common.{◌≡◌, ◌≢◌, ℕ, Bool, true, true≢false, false, List, [], ◌∷◌, ◌++◌, Option, None, Some, if◌then◌else◌, map, unwrap_or, refl, sym, ◌∙◌, ap, subst, arith, IsTrue, OnErr, OnOk, Result, Ok, Err}
use Rattle.std.proofs.lemmas.List.Elements.{All-append, All-cons, All-nil}
use Rattle.std.specs.FinMap.{FinMap, empty}
use Rattle.std.specs.Option.{option_eq}
use Rattle.std.specs.Result.{IsErr}
use Rattle.std.specs.Ordering.{nat_cmp}
use Rattle.std.specs.Str.{bytes_eq}
use Rattle.fjall_base.specs.Pairs.{Bytes, Pairs, lookup}
use Rattle.fjall_base.specs.declared.error.Error.{Error}
use Rattle.fjall_base.specs.Store.{Item, map_at, written}
use Rattle.fjall_journal.specs.Ops.{BatchItem, item_in}
use Rattle.fjall_tx.specs.Marks.{IsCovered, Mark, OfKey, with_read}
use Rattle.fjall_tx.specs.Owns.{Own, items_of, own_written, with_writes}
use Rattle.fjall_history.specs.Histories.{view}
use Rattle.fjall_history.specs.Serial.{value_at}
use Rattle.fjall_history.specs.declared.ticket.Ticket.{Ticket}
use Rattle.fjall_history.specs.declared.ticket.View.TheVariants.{At}
use Rattle.fjall_machine.specs.Machine.{State, instant_of, maps_in, present}
use Rattle.fjall_history.specs.declared.reply.Reply.{Reply}
use Rattle.fjall_history.specs.declared.reply.Reply.TheVariants.{Opened}
use Rattle.fjall_machine.specs.Shapes.{OfTickets, Open}
use Rattle.fjall_core.specs.Durables.{Durable}
use Rattle.fjall_core.specs.Holding.{Held}
use Rattle.fjall_core.specs.Leaving.{LeavesStanding}
use Rattle.fjall_core.specs.Shown.{Shows}
use Rattle.fjall_core.specs.Standing.{GoesOn, CoreState}
use Rattle.fjall_core.specs.Transactions.{Kept, Tx, transaction_begun, no_marks}
use Rattle.fjall_index_entries.specs.Index.{FieldOf, field_in}
use Rattle.fjall_index_entries.specs.Keeping.{AreRead, KeepsIndex}
use Rattle.fjall_index_entries.specs.Putting.{entry_in, entry_item, entry_items, item, put_items}
use Rattle.fjall_index_entries.proofs.Keeps.{one_more_keeps}
use Rattle.fjall_index.specs.Changing.{EndsIndexed, HasWritten, TxKeepsIndex, own_where_answered}
use Rattle.fjall_index.specs.Standing.{GoesOnIndexed, StandsIndexed, putting, where_done}
use Rattle.fjall_index.proofs.Beginning.{opened_shows, ticket_goes}
use Rattle.fjall_index.proofs.Committing.{no_items}
use Rattle.fjall_index.proofs.Going.{goes_then, lent_goes, still_goes, told_as}
use Rattle.fjall_index.proofs.Showing.{shows}

-- ---- laws of own writes

-- own writes keep the index where the items do that make them
abbrev pub OwnKeeps : Type 0
OwnKeeps = (field : FieldOf) (main index : ℕ) (items : List BatchItem) (seen : Bytes → Option Bytes) → KeepsIndex field main index (map item_in items) seen
    → KeepsIndex field main index (map item_in (items_of (with_writes empty items))) seen

-- and are read where these are
abbrev pub OwnReads : Type 0
OwnReads = (items : List BatchItem) (main : ℕ) (reads : List Mark) → AreRead (map item_in items) main reads → AreRead (map item_in (items_of (with_writes empty items))) main reads

-- and make what these make
abbrev pub OwnGrows : Type 0
OwnGrows = (own : Own) (maps : FinMap nat_cmp Pairs) (items : List BatchItem) (j : ℕ) → map_at (own_written maps (with_writes own items)) j ≡ map_at (written (own_written maps own) (map item_in items)) j

pub own_makes : OwnGrows → (maps : FinMap nat_cmp Pairs) (batch : List BatchItem) (items : List Item) → map item_in batch ≡ items → (j : ℕ)
    → map_at (written maps (map item_in (items_of (with_writes empty batch)))) j ≡ map_at (written maps items) j
own_makes grows maps batch items of j =
    grows empty maps batch j
    ∙ ap (λ (l : List BatchItem). map_at (written (written maps (map item_in l)) (map item_in batch)) j) (no_items empty refl)
    ∙ ap (λ (l : List Item). map_at (written maps l) j) of

-- ---- what is read

IsRead : ℕ → List Mark → Item → Type 0
IsRead main reads one = one.id ≡ main → IsCovered reads main one.key

module _ (main index : ℕ) (reads : List Mark) (apart : index ≢ main) where
  entry_read : (entry value : Option Bytes) → AreRead (entry_item index entry value) main reads
  entry_read None value = All-nil (λ (one : Item). one.id ≡ main → IsCovered reads main one.key)
  entry_read (Some bytes) value =
      All-cons (λ (one : Item). one.id ≡ main → IsCovered reads main one.key) (item index bytes value) [] (λ same. absurd (apart same)) (All-nil (λ (one : Item). one.id ≡ main → IsCovered reads main one.key))

  entries_read : (key : Bytes) (was becomes : Option Bytes) → AreRead (entry_items index key was becomes) main reads
  entries_read key was becomes = by (option_eq bytes_eq was becomes)
    where
      by : (same : Bool) → AreRead (if same then [] else (entry_item index (entry_in key was) None ++ entry_item index (entry_in key becomes) (Some []))) main reads
      by true = All-nil (λ (one : Item). one.id ≡ main → IsCovered reads main one.key)
      by false =
          All-append (λ (one : Item). one.id ≡ main → IsCovered reads main one.key) (entry_item index (entry_in key was) None) (entry_item index (entry_in key becomes) (Some []))
          (entry_read (entry_in key was) None) (entry_read (entry_in key becomes) (Some []))

  -- of all that is written for a key of the main keyspace the key alone is read
  pub change_read : (key : Bytes) (new was becomes : Option Bytes) → IsCovered reads main key → AreRead (item main key new ∷ entry_items index key was becomes) main reads
  change_read key new was becomes covered = All-cons (λ (one : Item). one.id ≡ main → IsCovered reads main one.key) (item main key new) (entry_items index key was becomes) (λ _. covered) (entries_read key was becomes)

-- ---- a put

pub put_keeps : (field : FieldOf) (main index : ℕ) (seen : Bytes → Option Bytes) (key : Bytes) (new : Option Bytes) → index ≢ main → KeepsIndex field main index (put_items field main index key (seen key) new) seen
put_keeps field main index seen key new apart = one_more_keeps field main index [] seen key (seen key) new apart (λ maps all same. same) (λ maps all is. is)

marked_here : (main : ℕ) (key : Bytes) → IsCovered (OfKey main key ∷ []) main key
marked_here main key = record { mark = OfKey main key; is_marked = (0, omega arith, refl); covers = (refl, refl) }

-- the transaction of a put keeps the index
pub put_tx : (field : FieldOf) (main index : ℕ) (t : CoreState) (ticket : Ticket) (tx : Tx) (key : Bytes) (new : Option Bytes) → OwnKeeps → OwnReads → index ≢ main
    → HasWritten (transaction_begun (Some no_marks) ticket) main key (put_items field main index key (lookup (map_at (maps_in t.state (At ticket)) main) key) new) tx → TxKeepsIndex field main index t tx
put_tx field main index t ticket tx key new keeps reads apart has = subst (TxKeepsIndex field main index t) (sym has.is) (record {
  marks = with_read no_marks (OfKey main key);
  optimistic = refl;
  read = λ instant there. reads has.batch main (OfKey main key ∷ []) (subst (λ (l : List Item). AreRead l main (OfKey main key ∷ [])) (sym has.of) (change_read main index (OfKey main key ∷ []) apart key new (field_in field key old) (field_in field key new) (marked_here main key)));
  keeps = λ instant there.
      keeps field main index has.batch (λ k. value_at (view t.state.history instant) main k)
      (subst (λ (l : List Item). KeepsIndex field main index l (λ k. value_at (view t.state.history instant) main k)) (sym has.of)
      (subst (λ (n : ℕ). KeepsIndex field main index (put_items field main index key old new) (λ k. value_at (view t.state.history n) main k)) (ap (λ (o : Option ℕ). unwrap_or o 0) there)
      (put_keeps field main index (λ k. value_at (view t.state.history (instant_of t.state.tickets ticket.id)) main k) key new apart)));
})
  where
    old : Option Bytes
    old = lookup (map_at (maps_in t.state (At ticket)) main) key

-- ---- from call to call

put_ends : (field : FieldOf) (main index since : ℕ) (at new : Held) (amid after : Kept) (t u : CoreState) (m : Durable) (ticket : Ticket) (tx : Tx) (key : Bytes) (value : Option Bytes) (answer : Result Unit Error)
    → OwnKeeps → OwnReads → OwnGrows → StandsIndexed field main index since at amid u m → maps_in u.state (At ticket) ≡ (present u.state).maps
    → ((id : ℕ) → map_at (present u.state).maps id ≡ map_at (present t.state).maps id)
    → HasWritten (transaction_begun (Some no_marks) ticket) main key (put_items field main index key (lookup (map_at (maps_in u.state (At ticket)) main) key) value) tx
    → EndsIndexed at amid tx (Ok tt) answer new after
    → (next : CoreState) × (e : Durable) × GoesOnIndexed field main index since (where_done answer (putting field main index key value) t.state) u m next e new after
put_ends field main index since at new amid after t u m ticket tx key value answer keeps reads grows all now same has ends =
    let (next, e, goes) = ends field main index since u m all (put_tx field main index u ticket tx key value keeps reads all.apart has) in
    (next, e, by answer next e goes)
  where
    wrote : (id : ℕ) → map_at (written (present u.state).maps (map item_in (items_of tx.own))) id ≡ map_at (written (present u.state).maps (putting field main index key value t.state)) id
    wrote id =
        ap (λ (x : Tx). map_at (written (present u.state).maps (map item_in (items_of x.own))) id) has.is
        ∙ own_makes grows (present u.state).maps has.batch (put_items field main index key (lookup (map_at (maps_in u.state (At ticket)) main) key) value) has.of id
        ∙ ap (λ (p : Pairs). map_at (written (present u.state).maps (put_items field main index key (lookup p key) value)) id) (ap (λ (maps : FinMap nat_cmp Pairs). map_at maps main) now ∙ same main)

    by : (answer : Result Unit Error) (next : CoreState) (e : Durable) → GoesOnIndexed field main index since (own_where_answered answer tx) u m next e new after
        → GoesOnIndexed field main index since (where_done answer (putting field main index key value) t.state) u m next e new after
    by (Ok done) next e goes = told_as field main index since new after u next m e (map item_in (items_of tx.own)) (putting field main index key value t.state) wrote goes
    by (Err error) next e goes = goes

-- a transaction that began, wrote, and ended
pub change_goes : (field : FieldOf) (main index since : ℕ) (honest : Bool) (old mid lent left at new : Held) (before amid after : Kept) (t : CoreState) (d : Durable) (transaction tx : Tx) (key : Bytes) (value : Option Bytes)
    (done answer : Result Unit Error) → OwnKeeps → OwnReads → OwnGrows → IsTrue honest → StandsIndexed field main index since old before t d
    → GoesOn old t (OfTickets Open) (Opened transaction.ticket) mid amid → transaction ≡ transaction_begun (Some no_marks) transaction.ticket
    → lent ≡ mid → at ≡ left → LeavesStanding honest lent left
    → ((map : Pairs) → Shows honest lent (At transaction.ticket) main map → OnOk done (HasWritten transaction main key (put_items field main index key (lookup map key) value) tx))
    → EndsIndexed at amid tx done answer new after → OnErr done (IsErr answer)
    → (next : CoreState) × (e : Durable) × GoesOnIndexed field main index since (where_done answer (putting field main index key value) t.state) t d next e new after
change_goes field main index since honest old mid lent left at new before amid after t d transaction tx key value done answer keeps reads grows h all goes fresh is given stand has ends refused =
    let (u, m, first, step) = ticket_goes field main index since old mid before amid t d Open (Opened transaction.ticket) all goes in
    let (n, second) = lent_goes field main index since honest mid lent left at amid u m h is given stand first.keeps in
    let shown = shows honest mid lent (At transaction.ticket) u.state main h is first.keeps.stands.machine first.keeps.reads in
    let (next, e, third) = by u n second.keeps (opened_shows t.state u.state transaction.ticket step) first.wrote done (has (map_at (maps_in u.state (At transaction.ticket)) main) shown) ends refused in (
      next,
      e,
      goes_then field main index since mid new amid after t u next d m e (where_done answer (putting field main index key value) t.state) first
          (goes_then field main index since at new amid after u u next m n e (where_done answer (putting field main index key value) t.state) second third),
    )
  where
    failed : (u : CoreState) (n : Durable) → StandsIndexed field main index since at amid u n → (answer : Result Unit Error) → IsErr answer
        → ((next : CoreState) × (e : Durable) × GoesOnIndexed field main index since (own_where_answered answer tx) u n next e new after)
        → (next : CoreState) × (e : Durable) × GoesOnIndexed field main index since (where_done answer (putting field main index key value) t.state) u n next e new after
    failed u n stays (Ok _) fails goes_on = absurd (true≢false (sym fails))
    failed u n stays (Err error) fails goes_on = goes_on

    by : (u : CoreState) (n : Durable) → StandsIndexed field main index since at amid u n → maps_in u.state (At transaction.ticket) ≡ (present u.state).maps
        → ((id : ℕ) → map_at (present u.state).maps id ≡ map_at (present t.state).maps id) → (done : Result Unit Error)
        → OnOk done (HasWritten transaction main key (put_items field main index key (lookup (map_at (maps_in u.state (At transaction.ticket)) main) key) value) tx)
        → EndsIndexed at amid tx done answer new after → OnErr done (IsErr answer)
        → (next : CoreState) × (e : Durable) × GoesOnIndexed field main index since (where_done answer (putting field main index key value) t.state) u n next e new after
    by u n stays now same (Ok _) wrote ended _ =
        put_ends field main index since at new amid after t u n transaction.ticket tx key value answer keeps reads grows stays now same
        (subst (λ (x : Tx). HasWritten x main key (put_items field main index key (lookup (map_at (maps_in u.state (At transaction.ticket)) main) key) value) tx) fresh wrote) ended
    by u n stays now same (Err error) wrote ended fails = failed u n stays answer fails (ended field main index since u n stays tt)

-- a call that is refused before it began
pub refused_goes : {E : Type 0} (field : FieldOf) (main index since : ℕ) (old new : Held) (before after : Kept) (t : CoreState) (d : Durable) (reply : Reply) (answer : Result Unit E) (items : State → List Item) → IsErr answer
    → StandsIndexed field main index since old before t d → GoesOn old t (OfTickets Open) reply new after
    → (next : CoreState) × (e : Durable) × GoesOnIndexed field main index since (where_done answer items t.state) t d next e new after
refused_goes field main index since old new before after t d reply (Ok _) items fails all goes = absurd (true≢false (sym fails))
refused_goes field main index since old new before after t d reply (Err error) items fails all goes =
    let (next, e, gone, step) = ticket_goes field main index since old new before after t d Open reply all goes in
    (next, e, gone)

-- a call that passes on a refusal
pub passed_goes : {T F : Type 0} (field : FieldOf) (main index since : ℕ) (new : Held) (after : Kept) (t : CoreState) (d : Durable) (done : Result T Error) (answer : Result Unit F) (items : State → List Item) → IsErr done → IsErr answer
    → ((next : CoreState) × (e : Durable) × GoesOnIndexed field main index since (where_done done items t.state) t d next e new after)
    → (next : CoreState) × (e : Durable) × GoesOnIndexed field main index since (where_done answer items t.state) t d next e new after
passed_goes field main index since new after t d (Ok _) answer items fails fails_too goes = absurd (true≢false (sym fails))
passed_goes field main index since new after t d (Err error) (Ok _) items fails fails_too goes = absurd (true≢false (sym fails_too))
passed_goes field main index since new after t d (Err error) (Err other) items fails fails_too goes = goes

-- a call that is refused before it asks the core for anything
pub unasked_goes : {T F : Type 0} (field : FieldOf) (main index since : ℕ) (core : Held) (kept : Kept) (t : CoreState) (d : Durable) (answer : Result T F) (items : State → List Item) → IsErr answer
    → StandsIndexed field main index since core kept t d → (next : CoreState) × (e : Durable) × GoesOnIndexed field main index since (where_done answer items t.state) t d next e core kept
unasked_goes field main index since core kept t d (Ok _) items fails all = absurd (true≢false (sym fails))
unasked_goes field main index since core kept t d (Err error) items fails all = (t, d, still_goes field main index since core kept t d all)
