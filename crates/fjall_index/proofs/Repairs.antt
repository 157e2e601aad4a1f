-- How an index is made right.
use Rattle.std.proofs.Common.{◌≡◌, ◌≢◌, ◌↔◌, ℕ, Bool, List, [], ◌∷◌, OnErr, OnOk, Some, Result, Ok, Err, IsTrue, true≢false, map, refl, sym, ◌∙◌, ap, subst}
use Rattle.std.proofs.lemmas.List.Elements.{All-nil}
use Rattle.std.specs.FinMap.{FinMap, empty, get}
use Rattle.std.specs.Ordering.{nat_cmp}
use Rattle.std.specs.Result.{IsErr}
use Rattle.fjall_base.specs.Pairs.{Pairs}
use Rattle.fjall_base.specs.Store.{Item, Store, map_at, written}
use Rattle.fjall_base.specs.declared.error.Error.{Error}
use Rattle.fjall_journal.specs.Ops.{BatchItem, item_in}
use Rattle.fjall_tx.specs.Marks.{IsCovered, Marks, with_read}
use Rattle.fjall_tx.specs.Owns.{Own, items_of, with_writes}
use Rattle.fjall_history.specs.Histories.{History, latest, view}
use Rattle.fjall_history.specs.Moves.{NoMove, OneMove}
use Rattle.fjall_history.specs.Serial.{value_at}
use Rattle.fjall_history.specs.declared.reply.Reply.{Reply}
use Rattle.fjall_history.specs.declared.reply.Reply.TheVariants.{Opened}
use Rattle.fjall_history.specs.declared.ticket.View.TheVariants.{At}
use Rattle.fjall_machine.specs.Machine.{State, maps_in, present, times}
use Rattle.fjall_machine.specs.Shapes.{OfTickets, Open}
use Rattle.fjall_machine.proofs.Moving.{shape_moves}
use Rattle.fjall_core.specs.CoreStanding.{ReadsOn}
use Rattle.fjall_core.specs.Durables.{Durable}
use Rattle.fjall_core.specs.Holding.{Held}
use Rattle.fjall_core.specs.Leaving.{LeavesStanding}
use Rattle.fjall_core.specs.Shown.{Shows}
use Rattle.fjall_core.specs.Standing.{GoesOn, StandFor, CoreState, gone_on}
use Rattle.fjall_core.specs.Transactions.{Kept, Tx, transaction_begun, having_read, no_marks}
use Rattle.fjall_index_entries.specs.Index.{FieldOf, index_of}
use Rattle.fjall_index_entries.specs.Keeping.{AreRead, IsIndexed, KeepsIndex}
use Rattle.fjall_index_entries.specs.Repairs.{AreRepairs}
use Rattle.fjall_index.specs.Changing.{EndsAnswered, EndsIndexed, TxKeepsIndex, own_where_answered}
use Rattle.fjall_index.specs.Rebuilding.{HasRepaired, IsRebuilt, Rebuilds, whole}
use Rattle.fjall_index.specs.Standing.{GoesOnIndexed, StandsIndexed}
use Rattle.fjall_index.proofs.Answering.{HasWrittenTo, rests_so}
use Rattle.fjall_index.proofs.Beginning.{opened_shows, ticket_goes, ticket_history}
use Rattle.fjall_index.proofs.Committing.{no_items}
use Rattle.fjall_index.proofs.Going.{goes_then, lent_goes, now_indexed}
use Rattle.fjall_index.proofs.Putting.{OwnGrows, own_makes}
use Rattle.fjall_index.proofs.Showing.{shows}

-- ---- laws of repairs

-- nothing is written where the index is right
abbrev pub LeftAlone : Type 0
LeftAlone = (field : FieldOf) (index : ℕ) (pairs found : Pairs) (items : List Item) → AreRepairs field index pairs found items → (items ≡ []) ↔ (found ≡ index_of field pairs)

-- no other keyspace's map changes
abbrev pub OthersStay : Type 0
OthersStay = (field : FieldOf) (index : ℕ) (pairs found : Pairs) (items : List Item) → AreRepairs field index pairs found items
    → (maps : FinMap nat_cmp Pairs) (id : ℕ) → id ≢ index → map_at (written maps items) id ≡ map_at maps id

-- ---- what is written

-- what a repair makes of the present, seen by a transaction that has just begun
repaired : (field : FieldOf) (main index : ℕ) (maps seen : FinMap nat_cmp Pairs) (next : Store) (tx old : Tx) → OwnGrows → OthersStay → main ≢ index → seen ≡ maps → old.own ≡ empty
    → HasRepaired field main index (map_at seen main) (map_at seen index) old tx → ((id : ℕ) → map_at next.maps id ≡ map_at (written maps (map item_in (items_of tx.own))) id)
    → IsIndexed field main index next.maps × ((id : ℕ) → id ≢ index → map_at next.maps id ≡ map_at maps id)
repaired field main index maps seen next tx old grows stay apart same none has wrote = (
  made index ∙ has.repairs.make maps (sym (ap (λ (m : FinMap nat_cmp Pairs). map_at m index) same))
      ∙ ap (index_of field) (ap (λ (m : FinMap nat_cmp Pairs). map_at m main) same ∙ sym (others main apart)),
  others,
)
  where
    own_is : tx.own ≡ with_writes empty has.batch
    own_is = ap (λ (x : Tx). x.own) has.is ∙ ap (λ (own : Own). with_writes own has.batch) none

    made : (id : ℕ) → map_at next.maps id ≡ map_at (written maps (map item_in has.batch)) id
    made id = wrote id ∙ ap (λ (own : Own). map_at (written maps (map item_in (items_of own))) id) own_is ∙ own_makes grows maps has.batch (map item_in has.batch) refl id

    others : (id : ℕ) → id ≢ index → map_at next.maps id ≡ map_at maps id
    others id other = made id ∙ stay field index (map_at seen main) (map_at seen index) (map item_in has.batch) has.repairs maps id other

-- nothing, where the index is right
idle : (field : FieldOf) (main index : ℕ) (pairs found : Pairs) (tx old : Tx) → LeftAlone → old.own ≡ empty → HasRepaired field main index pairs found old tx → found ≡ index_of field pairs → items_of tx.own ≡ []
idle field main index pairs found tx old alone none has right =
    no_items tx.own (ap (λ (x : Tx). x.own) has.is ∙ ap (λ (own : Own). with_writes own has.batch) none ∙ ap (λ (l : List BatchItem). with_writes empty l) (by has.batch ((alone field index pairs found (map item_in has.batch) has.repairs).1 right)))
  where
    by : (batch : List BatchItem) → map item_in batch ≡ [] → batch ≡ []
    by [] e = refl
    by (item ∷ items) e = let bad : ⊥ = cc in absurd bad

idle_tx : (field : FieldOf) (main index : ℕ) (t : CoreState) (pairs found : Pairs) (tx old : Tx) → old ≡ transaction_begun (Some no_marks) old.ticket → HasRepaired field main index pairs found old tx → items_of tx.own ≡ [] → TxKeepsIndex field main index t tx
idle_tx field main index t pairs found tx old fresh has none = record {
  marks = marks;
  optimistic = ap (λ (x : Tx). x.marks) has.is ∙ ap (λ (x : Tx). (having_read (having_read x (whole main)) (whole index)).marks) fresh;
  read = λ instant there. subst (λ (l : List BatchItem). AreRead (map item_in l) main marks.reads) (sym none) (All-nil (λ (one : Item). one.id ≡ main → IsCovered marks.reads main one.key));
  keeps = λ instant there. subst (λ (l : List BatchItem). KeepsIndex field main index (map item_in l) (λ key. value_at (view t.state.history instant) main key)) (sym none) (λ maps all is. is);
}
  where
    marks : Marks
    marks = with_read (with_read no_marks (whole main)) (whole index)

-- ---- from call to call

-- refused before it began
pub rebuild_rests : {T E : Type 0} (field : FieldOf) (main index : ℕ) (core : Held) (kept : Kept) (answer : Result T E) → IsErr answer → Rebuilds field main index core kept answer core kept
rebuild_rests field main index core kept (Ok _) fails t stands reads = absurd (true≢false (sym fails))
rebuild_rests field main index core kept (Err error) fails t stands reads = (
  t,
  record { stands = stands; reads = reads; moves = NoMove (times t.state); named = λ id name is. is },
  record { indexed = tt; others = λ id other. refl; same = refl },
)

-- or as its ticket was opened
pub rebuild_refused : {T E : Type 0} (field : FieldOf) (main index : ℕ) (old new : Held) (before after : Kept) (reply : Reply) (answer : Result T E)
    → ((t : CoreState) → StandFor old before t → ReadsOn old t.state → GoesOn old t (OfTickets Open) reply new after) → IsErr answer → Rebuilds field main index old before answer new after
rebuild_refused field main index old new before after reply (Ok _) goes fails t stood read = absurd (true≢false (sym fails))
rebuild_refused field main index old new before after reply (Err error) goes fails t stood read =
    let (s, stands, reads, step, led) = goes t stood read in
    let (arrives, wrote) = rests_so new after t (gone_on t s) stands reads (OneMove (times t.state) (times s) (times s) (shape_moves t.state s (OfTickets Open) reply step) (NoMove (times s))) (ticket_history t.state s Open reply step) in
    (gone_on t s, arrives, record { indexed = tt; others = λ id other. wrote id; same = wrote index })

-- a refusal is told as one
pub err_told : {T U E F : Type 0} (A : Type 0) (answer : Result T E) (told : Result U F) → IsErr answer → IsErr told → OnOk told A × OnErr told (IsErr answer)
err_told A answer (Ok x) fails told = absurd (true≢false (sym told))
err_told A answer (Err e) fails told = (tt, fails)

-- what was answered, told otherwise
pub rebuilt_as : {T E F : Type 0} (field : FieldOf) (main index : ℕ) (old new : Held) (before after : Kept) (answer : Result Unit E) (told : Result T F) → OnOk told (answer ≡ Ok tt) → OnErr told (IsErr answer)
    → Rebuilds field main index old before answer new after → Rebuilds field main index old before told new after
rebuilt_as field main index old new before after (Ok _) (Ok x) ok err rebuilds t stands reads =
    let (next, arrives, is) = rebuilds t stands reads in
    (next, arrives, record { indexed = is.indexed; others = is.others; same = tt })
rebuilt_as field main index old new before after (Ok _) (Err e) ok err rebuilds t stands reads = absurd (true≢false (sym err))
rebuilt_as field main index old new before after (Err _) (Ok x) ok err rebuilds t stands reads = let bad : ⊥ = cc in absurd bad
rebuilt_as field main index old new before after (Err _) (Err e) ok err rebuilds t stands reads =
    let (next, arrives, is) = rebuilds t stands reads in
    (next, arrives, record { indexed = tt; others = is.others; same = is.same })

-- a transaction that began, repaired, and ended
pub rebuild_answers : (field : FieldOf) (main index : ℕ) (honest : Bool) (old mid lent left at new : Held) (before amid after : Kept) (transaction tx : Tx) (done answer : Result Unit Error) → OwnGrows → OthersStay → IsTrue honest → main ≢ index
    → ((t : CoreState) → StandFor old before t → ReadsOn old t.state → GoesOn old t (OfTickets Open) (Opened transaction.ticket) mid amid) → transaction ≡ transaction_begun (Some no_marks) transaction.ticket
    → lent ≡ mid → at ≡ left → LeavesStanding honest lent left
    → ((pairs found : Pairs) → Shows honest lent (At transaction.ticket) main pairs → Shows honest lent (At transaction.ticket) index found → OnOk done (HasRepaired field main index pairs found transaction tx))
    → EndsAnswered at amid tx done answer new after → OnErr done (IsErr answer) → Rebuilds field main index old before answer new after
rebuild_answers field main index honest old mid lent left at new before amid after transaction tx done answer grows stay h apart goes fresh is given stand has ends refused t stood read =
    let (s, stands, reads, step, led) = goes t stood read in
    let u = gone_on t s in
    let leaves : LeavesStanding honest mid at = subst (λ (c : Held). LeavesStanding honest c at) is (subst (LeavesStanding honest lent) (sym given) stand) in
    let (next, arrives, wrote) = ends u (still s stands leaves) (leaves.reads h s stands.machine reads) in
    let same = ticket_history t.state s Open (Opened transaction.ticket) step in
    let shown : (id : ℕ) → Shows honest lent (At transaction.ticket) id (map_at (maps_in s (At transaction.ticket)) id) = λ id. shows honest mid lent (At transaction.ticket) s id h is stands.machine reads in (
      next,
      record {
        stands = arrives.stands;
        reads = arrives.reads;
        moves = OneMove (times t.state) (times s) (times next.state) (shape_moves t.state s (OfTickets Open) (Opened transaction.ticket) step) arrives.moves;
        named = λ id name was. arrives.named id name (subst (λ (k : History). get (latest k).names id ≡ Some name) (sym same) was);
      },
      subst (λ (k : History). IsRebuilt field main index answer (latest k) (present next.state)) same
          (outcome s next (opened_shows t.state s transaction.ticket step) done answer (has (map_at (maps_in s (At transaction.ticket)) main) (map_at (maps_in s (At transaction.ticket)) index) (shown main) (shown index)) refused wrote),
    )
  where
    still : (s : State) → StandFor mid amid (gone_on t s) → LeavesStanding honest mid at → StandFor at amid (gone_on t s)
    still s stands leaves = record {
      machine = leaves.stands s stands.machine;
      same = stands.same;
      sound = stands.sound;
      checked = stands.checked;
      upto = stands.upto;
      passed = stands.passed;
      keeps = stands.keeps;
    }

    outcome : (s : State) (next : CoreState) → maps_in s (At transaction.ticket) ≡ (present s).maps → (done answer : Result Unit Error)
        → OnOk done (HasRepaired field main index (map_at (maps_in s (At transaction.ticket)) main) (map_at (maps_in s (At transaction.ticket)) index) transaction tx) → OnErr done (IsErr answer)
        → HasWrittenTo (gone_on t s) (own_where_answered answer tx) next → IsRebuilt field main index answer (present s) (present next.state)
    outcome s next now (Ok _) (Ok _) repairs ok wrote =
        let (indexed, others) = repaired field main index (present s).maps (maps_in s (At transaction.ticket)) (present next.state) tx transaction grows stay apart now (ap (λ (x : Tx). x.own) fresh) repairs wrote in
        record { indexed = indexed; others = others; same = tt }
    outcome s next now (Ok _) (Err error) repairs ok wrote = record { indexed = tt; others = λ id other. wrote id; same = wrote index }
    outcome s next now (Err _) (Ok _) repairs fails wrote = absurd (true≢false (sym fails))
    outcome s next now (Err _) (Err error) repairs fails wrote = record { indexed = tt; others = λ id other. wrote id; same = wrote index }

-- one over which the index is kept already: nothing is written
pub rebuild_keeps : (field : FieldOf) (main index since : ℕ) (honest : Bool) (old mid lent left at new : Held) (before amid after : Kept) (t : CoreState) (d : Durable) (transaction tx : Tx) (done answer : Result Unit Error)
    → LeftAlone → IsTrue honest → StandsIndexed field main index since old before t d → GoesOn old t (OfTickets Open) (Opened transaction.ticket) mid amid → transaction ≡ transaction_begun (Some no_marks) transaction.ticket
    → lent ≡ mid → at ≡ left → LeavesStanding honest lent left
    → ((pairs found : Pairs) → Shows honest lent (At transaction.ticket) main pairs → Shows honest lent (At transaction.ticket) index found → OnOk done (HasRepaired field main index pairs found transaction tx))
    → EndsIndexed at amid tx done answer new after → OnErr done (IsErr answer) → (next : CoreState) × (e : Durable) × GoesOnIndexed field main index since [] t d next e new after
rebuild_keeps field main index since honest old mid lent left at new before amid after t d transaction tx done answer alone h all goes fresh is given stand has ends refused =
    let (u, m, first, step) = ticket_goes field main index since old mid before amid t d Open (Opened transaction.ticket) all goes in
    let (n, second) = lent_goes field main index since honest mid lent left at amid u m h is given stand first.keeps in
    let seen = maps_in u.state (At transaction.ticket) in
    let now : seen ≡ (present u.state).maps = opened_shows t.state u.state transaction.ticket step in
    let right : IsIndexed field main index seen = subst (IsIndexed field main index) (sym now) (now_indexed field main index since mid amid u m first.keeps) in
    let shown : (id : ℕ) → Shows honest lent (At transaction.ticket) id (map_at seen id) = λ id. shows honest mid lent (At transaction.ticket) u.state id h is first.keeps.stands.machine first.keeps.reads in
    let (next, e, third) = by u n second.keeps (map_at seen main) (map_at seen index) right done (has (map_at seen main) (map_at seen index) (shown main) (shown index)) ends refused in
    (next, e, goes_then field main index since mid new amid after t u next d m e [] first (goes_then field main index since at new amid after u u next m n e [] second third))
  where
    none_where : (answer : Result Unit Error) → items_of tx.own ≡ [] → own_where_answered answer tx ≡ []
    none_where (Ok _) none = ap (map item_in) none
    none_where (Err error) none = refl

    refused_none : (answer : Result Unit Error) → IsErr answer → own_where_answered answer tx ≡ []
    refused_none (Ok _) fails = absurd (true≢false (sym fails))
    refused_none (Err error) fails = refl

    as_none : (u : CoreState) (n : Durable) → own_where_answered answer tx ≡ [] → ((next : CoreState) × (e : Durable) × GoesOnIndexed field main index since (own_where_answered answer tx) u n next e new after)
        → (next : CoreState) × (e : Durable) × GoesOnIndexed field main index since [] u n next e new after
    as_none u n none (next, e, goes_on) = (next, e, subst (λ (l : List Item). GoesOnIndexed field main index since l u n next e new after) none goes_on)

    by : (u : CoreState) (n : Durable) → StandsIndexed field main index since at amid u n → (pairs found : Pairs) → found ≡ index_of field pairs → (done : Result Unit Error)
        → OnOk done (HasRepaired field main index pairs found transaction tx) → EndsIndexed at amid tx done answer new after → OnErr done (IsErr answer)
        → (next : CoreState) × (e : Durable) × GoesOnIndexed field main index since [] u n next e new after
    by u n stays pairs found right (Ok _) repairs ended _ =
        let none = idle field main index pairs found tx transaction alone (ap (λ (x : Tx). x.own) fresh) repairs right in
        as_none u n (none_where answer none) (ended field main index since u n stays (idle_tx field main index u pairs found tx transaction fresh repairs none))
    by u n stays pairs found right (Err error) repairs ended fails = as_none u n (refused_none answer fails) (ended field main index since u n stays tt)
