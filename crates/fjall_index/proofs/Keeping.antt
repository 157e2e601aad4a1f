-- What an open transaction of an index keeps.
use Rattle.std.proofs.Common.{true≢false, OnErr, ◌≡◌, ◌≢◌, inl, inr, ◌<◌, ◌≤◌, ℕ, Bool, All, List, [], ◌∷◌, ◌++◌, IfOk, IsTrue, OnOk, Option, Some, Result, Ok, Err, map, unwrap_or, refl, sym, ◌∙◌, ap, subst, arith}
use Rattle.std.proofs.lemmas.List.{map-append}
use Rattle.std.proofs.lemmas.List.Elements.{All-append, All-cons, All-head, All-nil, All-tail, All-weaker}
use Rattle.std.proofs.lemmas.List.Kept.{AllPairs-cons}
use Rattle.std.specs.BTreeMap.{insert_entry}
use Rattle.std.specs.FinMap.{empty, get}
use Rattle.std.specs.List.{AllByRecursion, AllPairs}
use Rattle.std.specs.List.Sorted.{IsStrictlySortedBy}
use Rattle.std.specs.Cmp.Lexicographic.{nat_list_cmp_total}
use Rattle.std.specs.declared.cmp.Ordering.{Ordering}
use Rattle.std.specs.declared.cmp.Ordering.TheVariants.{Less, Equal, Greater}
use Rattle.std.specs.Prelude.{Vec}
use Rattle.std.specs.Cmp.{tied_itself}
use Rattle.std.specs.Option.{option_map}
use Rattle.std.specs.Result.{IsErr}
use Rattle.std.specs.Ordering.{match_ordering}
use Rattle.std.specs.declared.alloc.Global.{Global}
use Rattle.fjall_base.specs.Pairs.{Bytes, Pairs, byte_order, lookup}
use Rattle.fjall_base.specs.Store.{Item, Store, map_at, written}
use Rattle.fjall_journal.specs.Ops.{BatchItem, item_in}
use Rattle.fjall_tx.specs.Marks.{IsCovered, Mark, Marks, OfKey, with_read}
use Rattle.fjall_tx.specs.Owns.{Own, items_of, with_writes}
use Rattle.fjall_base.specs.declared.error.Error.{Error}
use Rattle.fjall_tx.specs.declared.outcome.CommitOutcome.{CommitOutcome}
use Rattle.fjall_tx.specs.declared.outcome.CommitOutcome.TheVariants as outcomes
use Rattle.fjall_tx.proofs.Growing.{reads_add_up}
use Rattle.fjall_tx.proofs.Keys.{byte_tied}
use Rattle.fjall_history.specs.Histories.{view}
use Rattle.fjall_history.specs.Moves.{AreSound, MovesOn, NoMove, OneMove, Times}
use Rattle.fjall_history.specs.Serial.{value_at}
use Rattle.fjall_history.proofs.Moving.{given_up, views_stay, was_open_before}
use Rattle.fjall_history.specs.declared.reply.Reply.{Reply}
use Rattle.fjall_history.specs.declared.reply.Reply.TheVariants.{Opened}
use Rattle.fjall_history.specs.declared.ticket.View.TheVariants.{At}
use Rattle.fjall_machine.specs.Machine.{maps_in, present, times}
use Rattle.fjall_machine.specs.Shapes.{Close, OfTickets, Open}
use Rattle.fjall_core.specs.Durables.{Durable}
use Rattle.fjall_core.specs.Holding.{Held}
use Rattle.fjall_core.specs.Leaving.{LeavesStanding}
use Rattle.fjall_core.specs.Shown.{Shows}
use Rattle.fjall_core.specs.Standing.{CommitGoesOn, GoesOn, CoreState}
use Rattle.fjall_index_entries.specs.declared.error.IndexError.{IndexError}
use Rattle.fjall_core.specs.Transactions.{Kept, Tx, transaction_begun, having_read, no_marks, with_own_items}
use Rattle.fjall_index_entries.specs.Index.{FieldOf, field_in}
use Rattle.fjall_index_entries.specs.Keeping.{AreRead, KeepsIndex}
use Rattle.fjall_index_entries.specs.Putting.{all_items, put_items}
use Rattle.fjall_index_entries.proofs.Keeps.{changes_keep}
use Rattle.fjall_index.specs.declared.indexed_tx.IndexedTx.{IndexedTx}
use Rattle.fjall_index.specs.Changes.{Change, HasKept, IsIndexedTx, IsOutcomeOf, IsPut, IsSameTx, batch_of, items_in, where_committed}
use Rattle.fjall_index.specs.Changing.{TxKeepsIndex, own_where_done}
use Rattle.fjall_index.specs.Standing.{GoesOnIndexed, StandsIndexed}
use Rattle.fjall_index.proofs.Beginning.{opened_given, ticket_goes}
use Rattle.fjall_index.proofs.Going.{lent_goes, still_goes, told_as}
use Rattle.fjall_index.proofs.Putting.{OwnGrows, OwnKeeps, OwnReads, change_read, own_makes}
use Rattle.fjall_index.proofs.Committing.{commit_goes}
use Rattle.fjall_index.proofs.Showing.{shows}

-- ---- one change more

-- what holds of all, and of one more, holds behind it
all_put : (P : Change → Type 0) (key : Bytes) (items : Vec BatchItem Global) (es : List Change) → P (key, items) → All P es → All P (insert_entry byte_order es key items)
all_put P key items [] here all = All-cons P (key, items) [] here (All-nil P)
all_put P key items (e ∷ es) here all = by (byte_order key e.0) refl (all_put P key items es here (All-tail P e es all))
  where
    by : (o : Ordering) → byte_order key e.0 ≡ o → All P (insert_entry byte_order es key items) → All P (match_ordering o ((key, items) ∷ e ∷ es) ((e.0, items) ∷ es) (e ∷ insert_entry byte_order es key items))
    by Less is rest = All-cons P (key, items) (e ∷ es) here all
    by Equal is rest = All-cons P (e.0, items) es (subst (λ (k : Bytes). P (k, items)) (byte_tied key e.0 is) here) (All-tail P e es all)
    by Greater is rest = All-cons P e (insert_entry byte_order es key items) (All-head P e es all) rest

module _ (field : FieldOf) (main index : ℕ) (t : CoreState) where
  -- one that has just begun
  pub begun_tx : (tx : IndexedTx) (transaction : Tx) → tx.transaction ≡ transaction → tx.changes.entries ≡ []
      → transaction ≡ transaction_begun (Some no_marks) transaction.ticket → transaction.ticket.id < t.state.tickets.next → IsIndexedTx field main index t tx
  begun_tx tx transaction is none fresh given = record {
    marks = no_marks;
    optimistic = ap (λ (x : Tx). x.marks) (is ∙ fresh);
    none = ap (λ (x : Tx). x.own) (is ∙ fresh);
    given = subst (λ (x : Tx). x.ticket.id < t.state.tickets.next) (sym is) given;
    read = subst (All (λ (change : Change). IsCovered [] main change.0)) (sym none) (All-nil (λ (change : Change). IsCovered [] main change.0));
    seen = λ instant there. subst (All (IsPut field main index (view t.state.history instant))) (sym none) (All-nil (IsPut field main index (view t.state.history instant)));
  }

  -- one that keeps one change more
  pub kept_tx : (old new : IndexedTx) (key : Bytes) (items : Vec BatchItem Global) → new.transaction ≡ having_read old.transaction (OfKey main key) → new.changes.entries ≡ insert_entry byte_order old.changes.entries key items
      → ((instant : ℕ) → get t.state.tickets.instants old.transaction.ticket.id ≡ Some instant → IsPut field main index (view t.state.history instant) (key, items))
      → IsIndexedTx field main index t old → IsIndexedTx field main index t new
  kept_tx old new key items is entries put all = record {
    marks = marks;
    optimistic = ap (λ (x : Tx). x.marks) is ∙ ap (λ (m : Option Marks). option_map (λ (k : Marks). with_read k (OfKey main key)) m) all.optimistic;
    none = ap (λ (x : Tx). x.own) is ∙ all.none;
    given = subst (λ (x : Tx). x.ticket.id < t.state.tickets.next) (sym is) all.given;
    read = subst (All (λ (change : Change). IsCovered marks.reads main change.0)) (sym entries)
        (all_put (λ change. IsCovered marks.reads main change.0) key items old.changes.entries
        ((reads_add_up all.marks (OfKey main key) main key).1 (inr (refl, refl)))
        (All-weaker (λ (change : Change). IsCovered all.marks.reads main change.0) (λ (change : Change). IsCovered marks.reads main change.0) (λ change covered. (reads_add_up all.marks (OfKey main key) main change.0).1 (inl covered)) old.changes.entries all.read));
    seen = λ instant there.
        let then = subst (λ (x : Tx). get t.state.tickets.instants x.ticket.id ≡ Some instant) is there in
        subst (All (IsPut field main index (view t.state.history instant))) (sym entries)
        (all_put (IsPut field main index (view t.state.history instant)) key items old.changes.entries (put instant then) (all.seen instant then));
  }
    where
      marks : Marks
      marks = with_read all.marks (OfKey main key)

next_grows : (old new : Times) → MovesOn old new → old.tickets.next ≤ new.tickets.next
next_grows old new (NoMove _) = omega arith
next_grows old new (OneMove _ mid _ first rest) = let one = given_up old mid first in let more = next_grows mid new rest in omega (arith, one, more)

same_tx : (tx next : IndexedTx) → IsSameTx tx next → {field : FieldOf} {main index : ℕ} {t : CoreState} → IsIndexedTx field main index t tx → IsIndexedTx field main index t next
same_tx tx next same {field} {main} {index} {t} all = record {
  marks = all.marks;
  optimistic = ap (λ (x : Tx). x.marks) same.transaction ∙ all.optimistic;
  none = ap (λ (x : Tx). x.own) same.transaction ∙ all.none;
  given = subst (λ (x : Tx). x.ticket.id < t.state.tickets.next) (sym same.transaction) all.given;
  read = subst (All (λ (change : Change). IsCovered all.marks.reads main change.0)) (sym same.changes) all.read;
  seen = λ instant there.
      subst (All (IsPut field main index (view t.state.history instant))) (sym same.changes)
      (all.seen instant (subst (λ (x : Tx). get t.state.tickets.instants x.ticket.id ≡ Some instant) same.transaction there));
}

-- it stays so whatever is called meanwhile
pub stays_tx : (field : FieldOf) (main index : ℕ) (old new : CoreState) (tx : IndexedTx) → MovesOn (times old.state) (times new.state) → AreSound (times old.state) → IsIndexedTx field main index old tx → IsIndexedTx field main index new tx
stays_tx field main index old new tx moves sound all = record {
  marks = all.marks;
  optimistic = all.optimistic;
  none = all.none;
  given = let up = next_grows (times old.state) (times new.state) moves in let was = all.given in omega (arith, up, was);
  read = all.read;
  seen = λ instant there.
      let then = was_open_before (times old.state) (times new.state) moves tx.transaction.ticket.id instant all.given there in
      subst (λ (s : Store). All (IsPut field main index s) tx.changes.entries) (sym (views_stay (times old.state) (times new.state) moves instant (sound tx.transaction.ticket.id instant then).2)) (all.seen instant then);
}

-- ---- all that was kept

module _ (field : FieldOf) (main index : ℕ) (s : Store) where
  -- the new values of keys
  news : (es : List Change) → All (IsPut field main index s) es → List (Bytes × Option Bytes)
  news [] all = []
  news (e ∷ es) all = (e.0, (All-head (IsPut field main index s) e es all).new) ∷ news es (All-tail (IsPut field main index s) e es all)

  same_items : (es : List Change) (all : All (IsPut field main index s) es) → items_in es ≡ all_items field main index (λ key. value_at s main key) (news es all)
  unfolding news
  same_items [] all = refl
  same_items (e ∷ es) all =
      let one = All-head (IsPut field main index s) e es all in
      map-append item_in e.1.items (batch_of es)
      ∙ ap (λ (l : List Item). l ++ items_in es) one.is
      ∙ ap (λ (l : List Item). put_items field main index e.0 (value_at s main e.0) one.new ++ l) (same_items es (All-tail (IsPut field main index s) e es all))

  below_apart : (a b : Bytes) → byte_order a b ≡ Less → a ≢ b
  below_apart a b less same =
      let itself : byte_order b b ≡ Less = subst (λ (k : Bytes). byte_order k b ≡ Less) same less in
      let same_order : Equal ≡ Less = sym (tied_itself nat_list_cmp_total b) ∙ itself in
      let bad : ⊥ = cc in absurd bad

  all_apart : (e : Change) (es : List Change) (all : All (IsPut field main index s) es) → AllByRecursion (λ k. byte_order e.0 k ≡ Less) (map (λ (c : Change). c.0) es) → All (λ (c : Bytes × Option Bytes). e.0 ≢ c.0) (news es all)
  unfolding news
  all_apart e [] all below = All-nil (λ (c : Bytes × Option Bytes). e.0 ≢ c.0)
  all_apart e (f ∷ es) all below =
      All-cons (λ (c : Bytes × Option Bytes). e.0 ≢ c.0) (f.0, (All-head (IsPut field main index s) f es all).new) (news es (All-tail (IsPut field main index s) f es all)) (below_apart e.0 f.0 below.0)
      (all_apart e es (All-tail (IsPut field main index s) f es all) below.1)

  each_once : (es : List Change) (all : All (IsPut field main index s) es) → IsStrictlySortedBy byte_order (map (λ (c : Change). c.0) es) → AllPairs (λ (a b : Bytes × Option Bytes). a.0 ≢ b.0) (news es all)
  unfolding news IsStrictlySortedBy
  each_once [] all sorted = λ i j d lt in'. absurd (omega (arith, in'))
  each_once (e ∷ es) all sorted =
      let rest = All-tail (IsPut field main index s) e es all in
      AllPairs-cons (λ (a b : Bytes × Option Bytes). a.0 ≢ b.0) (e.0, (All-head (IsPut field main index s) e es all).new) (news es rest) (all_apart e es rest sorted.0) (each_once es rest sorted.1)

  pub kept_keep : (es : List Change) → All (IsPut field main index s) es → index ≢ main → IsStrictlySortedBy byte_order (map (λ (c : Change). c.0) es) → KeepsIndex field main index (items_in es) (λ key. value_at s main key)
  kept_keep es all apart sorted =
      subst (λ (l : List Item). KeepsIndex field main index l (λ key. value_at s main key)) (sym (same_items es all))
      (changes_keep field main index (λ key. value_at s main key) (news es all) apart (each_once es all sorted))

  pub kept_read : (reads : List Mark) (es : List Change) → All (IsPut field main index s) es → index ≢ main → All (λ (c : Change). IsCovered reads main c.0) es → AreRead (items_in es) main reads
  kept_read reads [] all apart covered = All-nil (λ (one : Item). one.id ≡ main → IsCovered reads main one.key)
  kept_read reads (e ∷ es) all apart covered =
      let one = All-head (IsPut field main index s) e es all in
      subst (λ (l : List Item). AreRead l main reads) (sym (map-append item_in e.1.items (batch_of es)))
      (All-append (λ (one : Item). one.id ≡ main → IsCovered reads main one.key) (map item_in e.1.items) (items_in es)
      (subst (λ (l : List Item). AreRead l main reads) (sym one.is)
      (change_read main index reads apart e.0 one.new (field_in field e.0 (value_at s main e.0)) (field_in field e.0 one.new) (All-head (λ (c : Change). IsCovered reads main c.0) e es covered)))
      (kept_read reads es (All-tail (IsPut field main index s) e es all) apart (All-tail (λ (c : Change). IsCovered reads main c.0) e es covered)))

-- ---- from call to call

module _ (field : FieldOf) (main index since : ℕ) where
  -- a transaction that begins
  pub begin_goes : (old new : Held) (before after : Kept) (t : CoreState) (d : Durable) (transaction : Tx) (tx : IndexedTx) → StandsIndexed field main index since old before t d
      → GoesOn old t (OfTickets Open) (Opened transaction.ticket) new after → transaction ≡ transaction_begun (Some no_marks) transaction.ticket → tx.transaction ≡ transaction → tx.changes.entries ≡ []
      → (next : CoreState) × (e : Durable) × GoesOnIndexed field main index since [] t d next e new after × IsIndexedTx field main index next tx
  begin_goes old new before after t d transaction tx all goes fresh is none =
      let (next, e, gone, step) = ticket_goes field main index since old new before after t d Open (Opened transaction.ticket) all goes in
      (next, e, gone, begun_tx field main index next tx transaction is none fresh (opened_given t.state next.state transaction.ticket step))

  -- a call that is refused before it began
  pub not_begun : {T : Type 0} (old new : Held) (before after : Kept) (t : CoreState) (d : Durable) (reply : Reply) (answer : Result T IndexError) (P : CoreState → T → Type 0) → IsErr answer → StandsIndexed field main index since old before t d
      → GoesOn old t (OfTickets Open) reply new after → (next : CoreState) × (e : Durable) × GoesOnIndexed field main index since [] t d next e new after × IfOk answer (P next)
  not_begun old new before after t d reply (Ok _) P fails all goes = absurd (true≢false (sym fails))
  not_begun old new before after t d reply (Err error) P fails all goes =
      let (next, e, gone, step) = ticket_goes field main index since old new before after t d Open reply all goes in
      (next, e, gone, tt)

  -- what is kept of one key more
  pub keep_goes : (honest : Bool) (old lent left new : Held) (before : Kept) (t : CoreState) (d : Durable) (tx next : IndexedTx) (key : Bytes) (value : Option Bytes) (done : Result Unit IndexError) → IsTrue honest
      → lent ≡ old → new ≡ left → LeavesStanding honest lent left
      → ((map : Pairs) → Shows honest lent (At tx.transaction.ticket) main map → OnOk done (HasKept tx main key (put_items field main index key (lookup map key) value) next)) → OnErr done (IsSameTx tx next)
      → StandsIndexed field main index since old before t d
      → (e : Durable) × GoesOnIndexed field main index since [] t d t e new before × (IsIndexedTx field main index t tx → IsIndexedTx field main index t next)
      × OnOk done (HasKept tx main key (put_items field main index key (lookup (map_at (maps_in t.state (At tx.transaction.ticket)) main) key) value) next)
  keep_goes honest old lent left new before t d tx next key value done h is given stand kept same all =
      let (e, goes) = lent_goes field main index since honest old lent left new before t d h is given stand all in
      let here = kept (map_at (maps_in t.state (At tx.transaction.ticket)) main) (shows honest old lent (At tx.transaction.ticket) t.state main h is all.stands.machine all.reads) in
      (e, goes, by done here same, here)
    where
      by : (done : Result Unit IndexError) → OnOk done (HasKept tx main key (put_items field main index key (lookup (map_at (maps_in t.state (At tx.transaction.ticket)) main) key) value) next) → OnErr done (IsSameTx tx next)
          → IsIndexedTx field main index t tx → IsIndexedTx field main index t next
      by (Ok _) has same was = kept_tx field main index t tx next key has.batch has.is has.kept
          (λ instant there. record { new = value; is = has.of ∙ ap (λ (o : Option ℕ). put_items field main index key (value_at (view t.state.history (unwrap_or o 0)) main key) value) there }) was
      by (Err error) has same was = same_tx tx next same was

  -- all that was kept is written
  pub written_tx : (t : CoreState) (tx : IndexedTx) (transaction : Tx) → OwnKeeps → OwnReads → index ≢ main → transaction ≡ with_own_items tx.transaction (batch_of tx.changes.entries)
      → IsStrictlySortedBy byte_order (map (λ (c : Change). c.0) tx.changes.entries) → IsIndexedTx field main index t tx → TxKeepsIndex field main index t transaction
  written_tx t tx transaction keeps reads apart is sorted all = record {
    marks = all.marks;
    optimistic = ap (λ (x : Tx). x.marks) is ∙ all.optimistic;
    read = λ instant there. subst (λ (own : Own). AreRead (map item_in (items_of own)) main all.marks.reads) (sym own_is)
        (reads (batch_of tx.changes.entries) main all.marks.reads (kept_read field main index (view t.state.history instant) all.marks.reads tx.changes.entries (all.seen instant (before instant there)) apart all.read));
    keeps = λ instant there. subst (λ (own : Own). KeepsIndex field main index (map item_in (items_of own)) (λ key. value_at (view t.state.history instant) main key)) (sym own_is)
        (keeps field main index (batch_of tx.changes.entries) (λ key. value_at (view t.state.history instant) main key)
        (kept_keep field main index (view t.state.history instant) tx.changes.entries (all.seen instant (before instant there)) apart sorted));
  }
    where
      own_is : transaction.own ≡ with_writes empty (batch_of tx.changes.entries)
      own_is = ap (λ (x : Tx). x.own) is ∙ ap (λ (own : Own). with_writes own (batch_of tx.changes.entries)) all.none

      before : (instant : ℕ) → get t.state.tickets.instants transaction.ticket.id ≡ Some instant → get t.state.tickets.instants tx.transaction.ticket.id ≡ Some instant
      before instant there = subst (λ (x : Tx). get t.state.tickets.instants x.ticket.id ≡ Some instant) is there

  told_so : (t : CoreState) (d : Durable) (tx : IndexedTx) (transaction : Tx) (new : Held) (after : Kept) (outcome : CommitOutcome Error) (told : CommitOutcome IndexError)
      → ((id : ℕ) → map_at (written (present t.state).maps (map item_in (items_of transaction.own))) id ≡ map_at (written (present t.state).maps (items_in tx.changes.entries)) id) → IsOutcomeOf outcome told
      → ((next : CoreState) × (e : Durable) × GoesOnIndexed field main index since (own_where_done outcome transaction) t d next e new after)
      → (next : CoreState) × (e : Durable) × GoesOnIndexed field main index since (where_committed told (items_in tx.changes.entries)) t d next e new after
  told_so t d tx transaction new after outcomes.Ok told same is (next, e, goes) =
      subst (λ (o : CommitOutcome IndexError). (next : CoreState) × (e : Durable) × GoesOnIndexed field main index since (where_committed o (items_in tx.changes.entries)) t d next e new after) (sym is)
      (next, e, told_as field main index since new after t next d e (map item_in (items_of transaction.own)) (items_in tx.changes.entries) same goes)
  told_so t d tx transaction new after outcomes.Conflicted told same is goes =
      subst (λ (o : CommitOutcome IndexError). (next : CoreState) × (e : Durable) × GoesOnIndexed field main index since (where_committed o (items_in tx.changes.entries)) t d next e new after) (sym is) goes
  told_so t d tx transaction new after (outcomes.Aborted error) told same is goes =
      subst (λ (o : CommitOutcome IndexError). (next : CoreState) × (e : Durable) × GoesOnIndexed field main index since (where_committed o (items_in tx.changes.entries)) t d next e new after) (sym is) goes

  -- and commits
  pub commits_tx : (old new : Held) (before after : Kept) (t : CoreState) (d : Durable) (tx : IndexedTx) (transaction : Tx) (outcome : CommitOutcome Error) (told : CommitOutcome IndexError) → OwnKeeps → OwnReads → OwnGrows
      → transaction ≡ with_own_items tx.transaction (batch_of tx.changes.entries) → IsStrictlySortedBy byte_order (map (λ (c : Change). c.0) tx.changes.entries)
      → StandsIndexed field main index since old before t d → IsIndexedTx field main index t tx → CommitGoesOn old t transaction outcome new after → IsOutcomeOf outcome told
      → (next : CoreState) × (e : Durable) × GoesOnIndexed field main index since (where_committed told (items_in tx.changes.entries)) t d next e new after
  commits_tx old new before after t d tx transaction outcome told keeps reads grows is sorted all kept goes so =
      told_so t d tx transaction new after outcome told
      (λ id. ap (λ (own : Own). map_at (written (present t.state).maps (map item_in (items_of own))) id) (ap (λ (x : Tx). x.own) is ∙ ap (λ (own : Own). with_writes own (batch_of tx.changes.entries)) kept.none)
      ∙ own_makes grows (present t.state).maps (batch_of tx.changes.entries) (items_in tx.changes.entries) refl id) so
      (commit_goes field main index since old new before after t d transaction outcome all (written_tx t tx transaction keeps reads all.apart is sorted kept) goes)

  -- a ticket that is closed
  pub closes_tx : (old new : Held) (before after : Kept) (t : CoreState) (d : Durable) (id : ℕ) (reply : Reply) → StandsIndexed field main index since old before t d → GoesOn old t (OfTickets (Close id)) reply new after
      → (next : CoreState) × (e : Durable) × GoesOnIndexed field main index since [] t d next e new after
  closes_tx old new before after t d id reply all goes =
      let (next, e, gone, step) = ticket_goes field main index since old new before after t d (Close id) reply all goes in
      (next, e, gone)

  -- a change that is refused before anything is read
  pub unkept : (core : Held) (before : Kept) (t : CoreState) (d : Durable) (tx : IndexedTx) (done : Result Unit IndexError) (P : Type 0) → IsErr done → StandsIndexed field main index since core before t d
      → (e : Durable) × GoesOnIndexed field main index since [] t d t e core before × (IsIndexedTx field main index t tx → IsIndexedTx field main index t tx) × OnOk done P
  unkept core before t d tx (Ok _) P fails all = absurd (true≢false (sym fails))
  unkept core before t d tx (Err error) P fails all = (d, still_goes field main index since core before t d all, (λ is. is), tt)
