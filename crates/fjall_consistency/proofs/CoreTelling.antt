-- What a call of the core is told in a list, and what is known after it.
use Rattle.std.proofs.Common.{◌≡◌, ◌≢◌, ◌⊎◌, inl, inr, ⊎_elim, ℕ, zero, suc, ◌+◌, ◌<◌, ◌≤◌, ◌==◌, nat_le, ◌||◌, All, Bool, true, false, cond, if◌then◌else◌, List, [], ◌∷◌, ◌++◌, length, map, Option, None, Some, unwrap_or, is_some, refl, sym, ap, subst, ◌∙◌, arith, length-append, length-set}
use Rattle.std.specs.Prelude.{nat_lt, slice_get, slice_set, option_map}
use Rattle.std.specs.FinMap.{FinMap, contains_key, get, insert, values}
use Rattle.std.specs.List.{list_any}
use Rattle.std.specs.Ordering.{nat_cmp}
use Rattle.std.specs.Str.{bytes_eq}
use Rattle.std.proofs.lemmas.Bool.{true≢false, ltb-true, or_cases}
use Rattle.std.proofs.lemmas.Bool.Decides.{nat_tests}
use Rattle.std.proofs.lemmas.List.{length-map}
use Rattle.std.proofs.lemmas.List.Elements.{All-cons, All-map, All-nil, All-weaker}
use Rattle.std.proofs.lemmas.Option.{none-some}
use Rattle.fjall_base.specs.Pairs.{Bytes, Pairs}
use Rattle.fjall_base.specs.Store.{Command, Create, Delete, Item, Options, Store, Write, fold, map_at}
use Rattle.fjall_base.specs.declared.error.Error.{Error}
use Rattle.fjall_base.specs.declared.error.Error.TheVariants.{Io, SnapshotClosed}
use Rattle.fjall_journal.specs.Changes.{Items}
use Rattle.fjall_journal.specs.Ops.{BatchItem, item_in}
use Rattle.fjall_compaction.specs.Ingests.{batch_items}
use Rattle.fjall_reading.specs.Ingestions.{KeyOp}
use Rattle.fjall_meta.specs.Replays.{option_pairs}
use Rattle.fjall_meta.proofs.Slots.{get_put}
use Rattle.fjall_history.specs.declared.reply.Reply.{Reply}
use Rattle.fjall_history.specs.declared.reply.Reply.TheVariants.{Done, Flag, Opened, Refused}
use Rattle.fjall_history.specs.declared.ticket.Ticket.{Ticket}
use Rattle.fjall_history.specs.declared.ticket.View.{View}
use Rattle.fjall_history.specs.declared.ticket.View.TheVariants.{At, Present}
use Rattle.fjall_history.specs.Histories.{History, latest, number, plain, view}
use Rattle.fjall_history.specs.Moves.{AreSound, Times}
use Rattle.fjall_history.specs.Queries.{Get, Page, Query, Tells as Answered}
use Rattle.fjall_history.specs.Tickets.{Tickets, is_open, opened}
use Rattle.fjall_history.proofs.Maps.{found_in}
use Rattle.fjall_history.proofs.Views.{view_of_all}
use Rattle.fjall_machine.specs.Machine.{Answers, CreatesOrFinds, State, Step, clear_refusals, deletion_refusals, due, facts, first_due, handle_refusals, instant_of, maps_in, present, rotation_refusals, times, view_refusals}
use Rattle.fjall_machine.specs.Machine as machine
use Rattle.fjall_machine.proofs.Dues.{below, is_so, neither, none_due}
use Rattle.fjall_machine.proofs.Viewing.{first_or, latest_grown, second_or}
use Rattle.fjall_machine.specs.Places.{id_opened, resolved, view_at}
use Rattle.fjall_machine.specs.Shapes.{ByMode, OfChange, OfIngestion, OfRead, OneMore, Persistence, shape_of}
use Rattle.fjall_machine.specs.declared.call.Call.{Call}
use Rattle.fjall_machine.specs.declared.call.Call.TheVariants as core
use Rattle.fjall_calls.specs.Crashes as crashes
use Rattle.fjall_calls.specs.declared.call.TxCall.TheVariants.{Core}
use Rattle.fjall_calls.specs.Hearing.{tx_of}
use Rattle.fjall_calls.specs.Steps.{OfCore}
use Rattle.fjall_calls.specs.Worlds.{Going, World, along}
use Rattle.fjall_calls.proofs.KeptWorlds.{kept_step}
use Rattle.fjall_consistency.specs.Alike.{AreAlike}
use Rattle.fjall_consistency.specs.Consistency.{AreLawful, IsAnswer, IsMade, IsTold, Known, NamesThere, accepted, after, asked, attempted, has_name, is_fault, is_living, items_in, one_write, opens, shown, snapshots_after}
use Rattle.fjall_consistency.proofs.Alike.{AllAlike, creates_alike, does_alike, fold_alike}
use Rattle.fjall_consistency.proofs.Causes.{Knows, core_cause, ingested_in, lives_there, allowed}
use Rattle.fjall_consistency.proofs.Known.{IsGoing, IsKnown, IsShown, Tells, no_id}
use Rattle.fjall_consistency.proofs.Steps.{answered_present, fault_poisons, no_other, poisoned_faults, poisoned_refuses, refused_times, stays_poisoned, stays_well}
use Rattle.fjall_consistency.proofs.Turning.{Turns, all_shown, along_same, closed_by, core_turns, going_on, named_after, never_open, none_shown, one_each_still, real_id}
use Rattle.fjall_consistency.proofs.Meeting.{met_by}

-- ---- what is asked

-- commands are alike themselves
all_themselves : (cs : List Command) → AllAlike cs cs
all_themselves [] = tt
all_themselves (c ∷ cs) = (does_alike c, all_themselves cs)

-- a creation, where none of the name is there
creation_alike : (name : Bytes) (options : Options) (a b : Bool) → b ≡ a → AllAlike (if a then [] else (Create name options ∷ [])) (if b then [] else (Create name [] ∷ []))
creation_alike name options true true same = tt
creation_alike name options true false same = absurd (true≢false (sym same))
creation_alike name options false true same = absurd (true≢false same)
creation_alike name options false false same = (creates_alike name options [], tt)

-- a deletion, where the keyspace lives
deletion_alike : (id : ℕ) (a b : Bool) → b ≡ a → AllAlike (if a then (Delete id ∷ []) else []) (if b then (Delete id ∷ []) else [])
deletion_alike id true true same = (does_alike (Delete id), tt)
deletion_alike id true false same = absurd (true≢false (sym same))
deletion_alike id false true same = absurd (true≢false same)
deletion_alike id false false same = tt

-- a batch
batch_alike : (s : State) (how : Persistence) (items : List BatchItem) → AllAlike (crashes.commands_asked s (OfChange (Items items) how)) (one_write (map item_in items))
batch_alike s how [] = tt
batch_alike s how (item ∷ items) = all_themselves (Write (map item_in (item ∷ items)) ∷ [])

-- its items are those of its batch
ingested_items : (id : ℕ) (items : List KeyOp) → map item_in (batch_items id items) ≡ map (ingested_in id) items
ingested_items id [] = refl
ingested_items id (item ∷ items) = ap (λ (l : List Item). ingested_in id item ∷ l) (ingested_items id items)

-- an ingestion
ingestion_alike : (s : State) (id : ℕ) (items : List KeyOp) → AllAlike (crashes.commands_asked s (OfIngestion id items)) (one_write (map (ingested_in id) items))
ingestion_alike s id [] = tt
ingestion_alike s id (item ∷ items) =
    subst (λ (l : List Item). AllAlike (Write (map item_in (batch_items id (item ∷ items))) ∷ []) (Write l ∷ [])) (ingested_items id (item ∷ items))
    (all_themselves (Write (map item_in (batch_items id (item ∷ items))) ∷ []))

-- of alike stores a call asks for alike commands
asks_alike : (s : State) (before : List Reply) (k : Known) (c : Call) → AreAlike (present s) k.present → AllAlike (crashes.commands_asked s (shape_of (resolved before c))) (asked k (Core c))
asks_alike s before k (core.Keyspace name options) alike =
    creation_alike name (option_pairs options) (machine.names_one (present s) name) (has_name k.present name)
    (ap (λ (names : FinMap nat_cmp Bytes). list_any (λ other. bytes_eq other name) (values names)) alike.names)
asks_alike s before k (core.DeleteKeyspace id) alike =
    deletion_alike id (machine.is_living (present s) id) (is_living k.present id) (ap (λ (names : FinMap nat_cmp Bytes). contains_key names id) alike.names)
asks_alike s before k (core.Insert id key value) alike = all_themselves (asked k (Core (core.Insert id key value)))
asks_alike s before k (core.Remove id key) alike = all_themselves (asked k (Core (core.Remove id key)))
asks_alike s before k (core.RemoveWeak id key) alike = all_themselves (asked k (Core (core.RemoveWeak id key)))
asks_alike s before k (core.Clear id) alike = all_themselves (asked k (Core (core.Clear id)))
asks_alike s before k (core.CommitBatch items mode) alike = batch_alike s (ByMode mode) items.items
asks_alike s before k (core.Ingest id items) alike = ingestion_alike s id items.items
asks_alike s before k c alike = tt

-- what is alike to nothing is nothing
nothing_alike : (cs ds : List Command) → AllAlike cs ds → cs ≡ [] → ds ≡ []
nothing_alike [] [] alike none = refl
nothing_alike [] (d ∷ ds) alike none = absurd alike
nothing_alike (c ∷ cs) ds alike none = absurd cc

-- a poisoned engine refuses a call that asks for something
none_asked : (s : State) (before : List Reply) (k : Known) (c : Call) → AreAlike (present s) k.present → s.poisoned ≡ true → due s (shape_of (resolved before c)) ≡ None → asked k (Core c) ≡ []
none_asked s before k c alike poisoned none =
    nothing_alike (crashes.commands_asked s (shape_of (resolved before c))) (asked k (Core c)) (asks_alike s before k c alike) (poisoned_refuses s (shape_of (resolved before c)) poisoned none)

-- and none that asks for something meets a fault in it
none_attempted : (s t : State) (before : List Reply) (k : Known) (c : Call) (error : Error) → AreAlike (present s) k.present → s.poisoned ≡ true → Step s (resolved before c) (Refused error) t
    → attempted k (Core c) (Refused error) ≡ []
none_attempted s t before k c (Io kind) alike poisoned step =
    nothing_alike (crashes.commands_asked s (shape_of (resolved before c))) (asked k (Core c)) (asks_alike s before k c alike) (poisoned_faults s t (shape_of (resolved before c)) kind poisoned step)
none_attempted s t before k c error alike poisoned step = refl

-- nothing is more than itself
never_more : (n : ℕ) → nat_lt n n ≡ true → ⊥
never_more n more = let less : n < n = ltb-true n n more in omega (arith, less)

-- a call that attempted more than was accepted met a fault, which poisons the engine
breaks : (s t : State) (before : List Reply) (k : Known) (c : Call) (reply : Reply) → AreAlike (present s) k.present → Step s (resolved before c) reply t
    → nat_lt (length (accepted k (Core c) reply)) (length (attempted k (Core c) reply)) ≡ true → t.poisoned ≡ true
breaks s t before k c (Refused (Io kind)) alike step more =
    fault_poisons s t (shape_of (resolved before c)) kind
    (λ none. never_more 0 (ap (λ (cs : List Command). nat_lt 0 (length cs)) (sym (nothing_alike (crashes.commands_asked s (shape_of (resolved before c))) (asked k (Core c)) (asks_alike s before k c alike) none)) ∙ more)) step
breaks s t before k c reply alike step more = absurd (never_more (length (accepted k (Core c) reply)) more)

-- ---- the store afterwards

-- a call that is answered leaves alike stores
answered_alike : (s t : State) (before : List Reply) (k : Known) (c : Call) (reply : Reply) → AreAlike (present s) k.present → Answers s (shape_of (resolved before c)) reply t
    → AreAlike (present t) (fold k.present (asked k (Core c)))
answered_alike s t before k c reply alike answers =
    subst (λ (st : Store). AreAlike st (fold k.present (asked k (Core c)))) (sym (answered_present s t (shape_of (resolved before c)) reply answers))
    (fold_alike (crashes.commands_asked s (shape_of (resolved before c))) (asked k (Core c)) (present s) k.present (asks_alike s before k c alike) alike)

-- and so does each call
stays_alike : (s t : State) (before : List Reply) (k : Known) (c : Call) (reply : Reply) → AreAlike (present s) k.present → Step s (resolved before c) reply t
    → AreAlike (present t) (fold k.present (accepted k (Core c) reply))
stays_alike s t before k c (Refused error) alike refuses =
    subst (λ (st : Store). AreAlike st k.present) (sym (ap (λ (x : Times). latest x.history) (refused_times s t (shape_of (resolved before c)) error refuses))) alike
stays_alike s t before k c reply alike (none, answers) = answered_alike s t before k c reply alike answers

-- ---- what is told

-- an open ticket reads at some instant
open_at : (s : State) (id : ℕ) → is_open s.tickets id ≡ true → get s.tickets.instants id ≡ Some (instant_of s.tickets id)
open_at s id found = by (get s.tickets.instants id) refl
  where
    by : (o : Option ℕ) → get s.tickets.instants id ≡ o → get s.tickets.instants id ≡ Some (instant_of s.tickets id)
    by (Some instant) is = is ∙ ap (λ (o : Option ℕ). Some (unwrap_or o 0)) (sym is)
    by None is = absurd (true≢false (sym found ∙ ap is_some is))

-- one that isn't open reads at none
none_at : (s : State) (id : ℕ) → is_open s.tickets id ≡ false → get s.tickets.instants id ≡ None
none_at s id shut = by (get s.tickets.instants id) refl
  where
    by : (o : Option ℕ) → get s.tickets.instants id ≡ o → o ≡ None
    by (Some instant) is = absurd (true≢false (sym (ap is_some is) ∙ shut))
    by None is = refl

-- each place shows what its ticket does
abbrev AreShown : State → List Reply → Known → Type 0
AreShown s before k = (place : ℕ) → IsShown s (id_opened (slice_get before place)) (unwrap_or (slice_get k.snapshots place) None)

-- what is put in is found
put_there : {X : Type 0} (m : FinMap nat_cmp X) (k : ℕ) (x : X) → get (insert m k x) k ≡ Some x
put_there m k x = let same : (k == k) ≡ true = grind (arith, nat_tests) in get_put m k x k ∙ ap (λ (b : Bool). cond b (Some x) (get m k)) same

-- what is found is one thing
some_same : {X : Type 0} (x y : X) → Some x ≡ Some y → x ≡ y
some_same x y e = cc

-- a view that is read shows a store with the same maps
view_shown : (s : State) (before : List Reply) (k : Known) (v : View) (id : ℕ) (query : Query) → AreAlike (present s) k.present → AreShown s before k → due s (OfRead (view_at before v) id query) ≡ None
    → (seen : Store) × (shown k v ≡ Some seen) × (map_at (maps_in s (view_at before v)) id ≡ map_at seen.maps id)
view_shown s before k Present id query alike all none = (k.present, refl, sym (alike.maps id))
view_shown s before k (At ticket) id query alike all none =
    let named_id = id_opened (slice_get before ticket.id) in
    let found = is_so (is_open s.tickets named_id) (none_due (view_refusals (facts s) (view_at before (At ticket)) id) none).0 in
    let is = (all ticket.id).there (instant_of s.tickets named_id) (open_at s named_id found) in
    (is.0, is.1, sym (is.2.maps id))

-- the name of a keyspace that was made or found
name_there : (s t : State) (name : Bytes) (options : List Bytes) (id : ℕ) → CreatesOrFinds s name options id t → get (present t).names id ≡ Some name
name_there s t name options id (inl (had, found, same)) = ap (λ (x : State). get (present x).names id) same ∙ found
name_there s t name options id (inr (fresh, is, made)) =
    ap (λ (x : State). get (present x).names id) made
    ∙ ap (λ (st : Store). get st.names id) (latest_grown s.history (plain (Create name (option_pairs options))))
    ∙ ap (get (insert (present s).names (present s).next name)) is
    ∙ put_there (present s).names (present s).next name

-- ---- the keyspaces that are named are there

-- one that isn't unknown was made
made_there : (s : State) (k : Known) (id : ℕ) → AreAlike (present s) k.present → machine.is_unknown (present s) id ≡ false → IsMade k.present id
made_there s k id alike is =
    let apart = neither (id == 0) (nat_le (present s).next id) is in
    let some : 0 < id = grind (arith, nat_tests, apart.0) in
    let under = below id (present s).next apart.1 in
    let same = alike.next in
    (some, omega (arith, under, same))

-- that of a read that nothing refuses
read_made : (s : State) (k : Known) (v : View) (id : ℕ) → AreAlike (present s) k.present → first_due (view_refusals (facts s) v id) ≡ None → IsMade k.present id
read_made s k Present id alike none = made_there s k id alike (none_due (view_refusals (facts s) Present id) none).0
read_made s k (At ticket) id alike none = made_there s k id alike (none_due (view_refusals (facts s) (At ticket) id) none).1.0

-- a keyspace lives
abbrev Lives : Known → ℕ → Type 0
Lives k id = is_living k.present id ≡ true

-- one alone
one_lives : (s : State) (k : Known) (id : ℕ) → AreAlike (present s) k.present → machine.is_deleted (present s) id ≡ false → All (Lives k) (id ∷ [])
one_lives s k id alike stays = All-cons (Lives k) id [] (lives_there (present s) k.present id alike stays) (All-nil (Lives k))

-- those of lawful items
items_live : (k : Known) (items : List Item) → AreLawful k.present items → All (Lives k) (map (λ (item : Item). item.id) items)
items_live k items lawful = All-map (Lives k) (λ (item : Item). item.id) items (λ i d within. (lawful i d within).0)

-- those of any call of the core
names_there : (s : State) (before : List Reply) (k : Known) (c : Call) → AreAlike (present s) k.present → due s (shape_of (resolved before c)) ≡ None → NamesThere k (Core c)
names_there s before k (core.DeleteKeyspace id) alike none = made_there s k id alike (none_due (deletion_refusals (facts s) id) none).0
names_there s before k (core.Retain id) alike none = made_there s k id alike (none_due (handle_refusals (facts s) OneMore id) none).0
names_there s before k (core.Clear id) alike none = one_lives s k id alike (none_due (clear_refusals (facts s) id) none).1.0
names_there s before k (core.RotateMemtable id) alike none = one_lives s k id alike (none_due (rotation_refusals (facts s) id) none).1.0
names_there s before k (core.FlushBegin id) alike none = one_lives s k id alike (none_due (rotation_refusals (facts s) id) none).1.0
names_there s before k (core.MergeBegin id) alike none = one_lives s k id alike (none_due (rotation_refusals (facts s) id) none).1.0
names_there s before k (core.MajorBegin id) alike none = one_lives s k id alike (none_due (rotation_refusals (facts s) id) none).1.0
names_there s before k (core.GetAt v id key) alike none = read_made s k (view_at before v) id alike none
names_there s before k (core.PageAt v id range back max) alike none = read_made s k (view_at before v) id alike none
names_there s before k (core.Keyspace name options) alike none = All-nil (Lives k)
names_there s before k (core.Ingest id items) alike none = items_live k (items_in k (Core (core.Ingest id items))) (allowed s before k (core.Ingest id items) alike none).0
names_there s before k c alike none = items_live k (items_in k (Core c)) (allowed s before k c alike none)

-- ---- an answer

-- an answer is what callers may rely on
told : (s t : State) (before : List Reply) (k : Known) (c : Call) (reply : Reply) → AreAlike (present s) k.present → AreShown s before k → due s (shape_of (resolved before c)) ≡ None
    → Answers s (shape_of (resolved before c)) reply t → IsTold k (Core c) reply
told s t before k (core.GetAt v id key) reply alike all none answers =
    let is = view_shown s before k v id (Get key) alike all none in
    (is.0, is.1, subst (λ (pairs : Pairs). Answered (Get key) pairs reply) is.2 answers.0)
told s t before k (core.PageAt v id range back max) reply alike all none answers =
    let is = view_shown s before k v id (Page range back max) alike all none in
    (is.0, is.1, subst (λ (pairs : Pairs). Answered (Page range back max) pairs reply) is.2 answers.0)
told s t before k (core.Keyspace name options) reply alike all none answers =
    let named = allowed s before k (core.Keyspace name options) alike none in (
      answers.0,
      answers.1,
      named.0,
      named.1,
      ap (λ (names : FinMap nat_cmp Bytes). get names answers.0) (answered_alike s t before k (core.Keyspace name options) reply alike answers).names
          ∙ name_there s t name options answers.0 answers.2,
    )
told s t before k (core.KeyspaceExists name) reply alike all none answers =
    answers.0 ∙ ap (λ (names : FinMap nat_cmp Bytes). Flag (list_any (λ other. bytes_eq other name) (values names))) (sym alike.names)
told s t before k c reply alike all none answers = allowed s before k c alike none

-- what is known where a call is refused
knows : (w : World) (before : List Reply) (k : Known) → IsKnown w before k → Knows w.told.state before k
knows w before k known = record {
  alike = known.alike;
  undamaged = known.undamaged;
  well = known.well;
  closed = λ place shut. (known.shown place).closed (none_at w.told.state (id_opened (slice_get before place)) shut);
}

-- a call of the core is told what callers may rely on
answer : (w : World) (before : List Reply) (k : Known) (c : Call) (reply : Reply) (s : State) → IsKnown w before k → Step w.told.state (resolved before c) reply s → IsAnswer k (Core c) reply
answer w before k c (Refused error) s known refuses =
    (core_cause w.told.state s before k c error (knows w before k known) refuses, λ broken. none_attempted w.told.state s before k c error known.alike (known.broken broken) refuses)
answer w before k c reply s known (none, answers) = (
  told w.told.state s before k c reply known.alike known.shown none answers,
  names_there w.told.state before k c known.alike none,
  λ broken. none_asked w.told.state before k c known.alike (known.broken broken) none,
)

-- ---- tickets that are opened

-- the next one shows the store of its instant
next_shown : (s t : State) (shows : Option Store) (store : Store) (instant id : ℕ) → AreSound (times s) → shows ≡ Some store → AreAlike (view s.history instant) store
    → t.history ≡ s.history → t.tickets ≡ opened instant s.tickets → id ≡ s.tickets.next → IsShown t id shows
next_shown s t shows store instant id sound is alike history tickets named = record {
  given = inl (let n = ap (λ (x : Tickets). x.next) tickets in omega (arith, n, named));
  there = λ at found. (
    store,
    is,
    ⊎_elim
        (λ e. subst (λ (st : Store). AreAlike st store) (ap (λ (h : History). view h instant) (sym history) ∙ ap (view t.history) (sym e.1)) alike)
        (λ e. let lt = (sound id at e).0 in absurd (omega (arith, lt, named)))
        (found_in s.tickets.instants s.tickets.next instant id at (ap (λ (x : Tickets). get x.instants id) (sym tickets) ∙ found)),
  );
  closed = λ none. absurd (none-some instant
      (sym none ∙ ap (λ (x : Tickets). get x.instants id) tickets ∙ ap (get (insert s.tickets.instants s.tickets.next instant)) named ∙ put_there s.tickets.instants s.tickets.next instant));
}

-- the view of now
latest_alike : (s : State) (store : Store) → AreAlike (present s) store → AreAlike (view s.history (number s.history)) store
latest_alike s store alike = subst (λ (st : Store). AreAlike st store) (sym (view_of_all s.history (number s.history) (omega arith))) alike

-- the id that is told
id_there : (ticket other : Ticket) → Opened ticket ≡ Opened other → ticket.id ≡ other.id
id_there ticket other same = let is : ticket ≡ other = cc in ap (λ (x : Ticket). x.id) is

-- what a call opens is a snapshot or a clone
opens_next : (s t : State) (before : List Reply) (k : Known) (c : Call) (ticket : Ticket) → AreSound (times s) → AreAlike (present s) k.present → AreShown s before k
    → Answers s (shape_of (resolved before c)) (Opened ticket) t → IsShown t ticket.id (opens k (Core c) (Opened ticket)) × (ticket.id ≡ s.tickets.next)
opens_next s t before k core.Snapshot ticket sound alike all ((told, is), same) =
    let id = id_there ticket _ told in
    (next_shown s t (Some k.present) k.present (number s.history) ticket.id sound refl (latest_alike s k.present alike) (ap (λ (x : State). x.history) same) is id, id)
opens_next s t before k (core.CloneSnapshot model) ticket sound alike all ((instant, there, told, is), same) =
    let id = id_there ticket _ told in
    let at = (all model.id).there instant there in
    (next_shown s t (shown k (At model)) at.0 instant ticket.id sound at.1 at.2 (ap (λ (x : State). x.history) same) is id, id)
opens_next s t before k (core.CloseSnapshot closed) ticket sound alike all ((told, is), same) = absurd cc
opens_next s t before k core.Gc ticket sound alike all ((told, is), same) = absurd cc
opens_next s t before k c ticket sound alike all answers = absurd (no_other s t (shape_of (resolved before c)) ticket refl answers)

-- any other reply opens none
abbrev is_opened : Reply → Bool
is_opened (Opened ticket) = true
is_opened reply = false

opens_none : (k : Known) (c : Call) (reply : Reply) → is_opened reply ≡ false → opens k (Core c) reply ≡ None
opens_none k core.Snapshot (Opened ticket) other = absurd (true≢false other)
opens_none k (core.CloneSnapshot model) (Opened ticket) other = absurd (true≢false other)
opens_none k c reply other = refl

-- so a call opens the next ticket or none, which shows what it opens
opening : (s t : State) (before : List Reply) (k : Known) (c : Call) (reply : Reply) → AreSound (times s) → AreAlike (present s) k.present → AreShown s before k → t.tickets.next ≤ no_id
    → ((instant : ℕ) → get t.tickets.instants no_id ≡ Some instant → ⊥) → Step s (resolved before c) reply t
    → IsShown t (id_opened (Some reply)) (opens k (Core c) reply) × ((id_opened (Some reply) ≡ no_id) ⊎ (id_opened (Some reply) ≡ s.tickets.next))
opening s t before k c (Opened ticket) sound alike all small never (none, answers) = let is = opens_next s t before k c ticket sound alike all answers in (is.0, inr is.1)
opening s t before k c reply sound alike all small never step =
    (subst (λ (o : Option Store). IsShown t (id_opened (Some reply)) o) (sym (opens_none k c reply refl)) (none_shown t reply small never refl), inl refl)

-- ---- snapshots that are closed

-- the other places of a list stay as they are
put_other : {X : Type 0} (xs : List X) (i k : ℕ) (x : X) → k ≢ i → slice_get (slice_set xs i x) k ≡ slice_get xs k
put_other [] i k x other = refl
put_other (y ∷ xs) zero zero x other = absurd (other refl)
put_other (y ∷ xs) zero (suc k) x other = refl
put_other (y ∷ xs) (suc i) zero x other = refl
put_other (y ∷ xs) (suc i) (suc k) x other = put_other xs i k x (λ e. other (ap suc e))

-- and nothing stands at this one any more
put_none : {X : Type 0} (xs : List (Option X)) (i : ℕ) → unwrap_or (slice_get (slice_set xs i None) i) None ≡ None
put_none [] i = refl
put_none (y ∷ xs) zero = refl
put_none (y ∷ xs) (suc i) = put_none xs i

-- as many places are left
left_length : (k : Known) (c : Call) (reply : Reply) → length (snapshots_after k (Core c) reply) ≡ length k.snapshots
left_length k (core.CloseSnapshot ticket) Done = length-set k.snapshots ticket.id None
left_length k c reply = refl

-- the others show what they showed
left_others : (before : List Reply) (k : Known) (c : Call) (reply : Reply) (place : ℕ) → (closed_by (resolved before c) reply ≡ Some (id_opened (slice_get before place)) → ⊥)
    → slice_get (snapshots_after k (Core c) reply) place ≡ slice_get k.snapshots place
left_others before k (core.CloseSnapshot ticket) Done place other =
    put_other k.snapshots ticket.id place None (λ same. other (ap (λ (p : ℕ). Some (id_opened (slice_get before p))) (sym same)))
left_others before k c reply place other = refl

-- a closing is refused where the ticket isn't open
only_open : (b : Bool) → (if b then None else Some SnapshotClosed) ≡ None → b ≡ true
only_open true none = refl
only_open false none = absurd (none-some SnapshotClosed (sym none))

-- so a ticket that is closed was open
was_open : (s t : State) (c : Call) (reply : Reply) (id : ℕ) → closed_by c reply ≡ Some id → Step s c reply t → is_open s.tickets id ≡ true
was_open s t (core.CloseSnapshot ticket) Done id is (none, answers) = subst (λ (i : ℕ). is_open s.tickets i ≡ true) (some_same ticket.id id is) (only_open (is_open s.tickets ticket.id) none)
was_open s t c reply id is step = absurd (none-some id is)

-- and the one that is closed shows none
left_closed : (before : List Reply) (k : Known) (c : Call) (reply : Reply) (place : ℕ)
    → ((other : ℕ) → id_opened (slice_get before other) ≡ id_opened (slice_get before place) → other ≡ place) → closed_by (resolved before c) reply ≡ Some (id_opened (slice_get before place))
    → unwrap_or (slice_get (snapshots_after k (Core c) reply) place) None ≡ None
left_closed before k (core.CloseSnapshot ticket) Done place one is =
    let same = one ticket.id (some_same _ _ is) in
    subst (λ (p : ℕ). unwrap_or (slice_get (slice_set k.snapshots p None) place) None ≡ None) (sym same) (put_none k.snapshots place)
left_closed before k c reply place one is = absurd (none-some _ is)

-- ---- transactions

-- a call of the core commits none, ends none and begins none
transactions_stay : (k : Known) (c : Call) (reply : Reply) → (after k (Core c) reply).transactions ≡ map (option_map (met_by [])) k.transactions ++ None ∷ []
transactions_stay k c (Refused SnapshotClosed) = refl
transactions_stay k c reply = refl

-- nor does it close a ticket that no call named
never_ended : (before : List Reply) (c : Call) (reply : Reply) (id : ℕ) → ((place : ℕ) → id_opened (slice_get before place) ≡ id → ⊥) → closed_by (resolved before c) reply ≡ Some id → ⊥
never_ended before (core.CloseSnapshot ticket) Done id unnamed is = unnamed ticket.id (some_same _ id is)
never_ended before c reply id unnamed is = none-some id is

-- ---- what is known afterwards

-- one more place on both sides
one_longer : {X Y : Type 0} (xs : List X) (ys : List Y) (x : X) (y : Y) → length xs ≡ length ys → length (xs ++ x ∷ []) ≡ length (ys ++ y ∷ [])
one_longer xs ys x y same = length-append xs (x ∷ []) ∙ ap (λ n. n + 1) same ∙ sym (length-append ys (y ∷ []))

-- the disk failed before or now
fails : (a b : Bool) → (a ≡ true) ⊎ (b ≡ true) → (a || b) ≡ true
fails a b either = ⊎_elim (first_or a b) (second_or a b) either

-- what is known after a call of the core stands beside the world after it
still_known : (w : World) (before : List Reply) (k : Known) (c : Call) (reply : Reply) (s : State) → IsKnown w before k → Step w.told.state (resolved before c) reply s
    → IsKnown (along w s) (before ++ reply ∷ []) (after k (Core c) reply)
still_known w before k c reply s known step = record {
  kept = kept_step w v before (Core c) reply (resolved before c ∷ []) (reply ∷ []) known.kept (OfCore c reply s step);
  alike = stays_alike old s before k c reply known.alike step;
  small = turns.small;
  undamaged = well.0 ∙ known.undamaged;
  well = λ poisoned. fails k.failed (is_fault reply) (⊎_elim (λ was. inl (known.well was)) inr (well.1 poisoned));
  broken = λ is. ⊎_elim
      (λ was. stays_poisoned old s (shape_of (resolved before c)) reply step (known.broken was))
      (breaks old s before k c reply known.alike step)
      (or_cases k.broken (nat_lt (length (accepted k (Core c) reply)) (length (attempted k (Core c) reply))) is);
  snapshots = one_longer (snapshots_after k (Core c) reply) before (opens k (Core c) reply) reply (left_length k c reply ∙ known.snapshots);
  transactions = ap length (transactions_stay k c reply)
      ∙ one_longer (map (option_map (met_by [])) k.transactions) before None reply (length-map k.transactions (option_map (met_by [])) ∙ known.transactions);
  shown = all_shown w v before k reply gone (snapshots_after k (Core c) reply) (opens k (Core c) reply) known turns (left_length k c reply) (left_others before k c reply)
      (λ place is. left_closed before k c reply place (λ other same. known.one_each other place (λ none. real place is (sym same ∙ none)) same) is) here.0;
  one_each = one_each_still w before k reply known here.1;
  going = All-weaker (IsGoing w before k) (IsGoing v (before ++ reply ∷ []) (after k (Core c) reply)) goes_on w.going known.going;
  apart = known.apart;
  found = λ place tx is. ⊎_elim
      (λ stood. known.found place stood.0 stood.1)
      (λ new. absurd (none-some tx new.1))
      (named_after k (after k (Core c) reply) [] k.transactions None place tx (transactions_stay k c reply) is);
  written = known.written;
  writer_given = λ ticket is. let lt = known.writer_given ticket is in let up = turns.goes.follows.given in omega (arith, lt, up);
  writer = λ ticket is found. let was = turns.goes.follows.was_open ticket.id (instant_of s.tickets ticket.id) (known.writer_given ticket is) (open_at s ticket.id found) in known.writer ticket is (ap is_some was);
}
  where
    old : State
    old = w.told.state

    v : World
    v = along w s

    gone : Option ℕ
    gone = closed_by (resolved before c) reply

    turns : Turns w.told v.told gone
    turns = core_turns w (resolved before c) reply s known.kept known.small step

    well : (s.damaged ≡ old.damaged) × (s.poisoned ≡ true → (old.poisoned ≡ true) ⊎ (is_fault reply ≡ true))
    well = stays_well old s (shape_of (resolved before c)) reply step

    sound : AreSound (times old)
    sound = known.kept.sound.sound

    here : IsShown s (id_opened (Some reply)) (opens k (Core c) reply) × ((id_opened (Some reply) ≡ no_id) ⊎ (id_opened (Some reply) ≡ old.tickets.next))
    here = opening old s before k c reply sound known.alike known.shown turns.small (never_open w.told gone v.told turns) step

    -- the ticket that is closed was open, so its id isn't the greatest
    real : (place : ℕ) → gone ≡ Some (id_opened (slice_get before place)) → id_opened (slice_get before place) ≡ no_id → ⊥
    real place is none =
        let id = id_opened (slice_get before place) in
        let lt = (sound id (instant_of old.tickets id) (open_at old id (was_open old s (resolved before c) reply id is step))).0 in
        let less = known.small in
        omega (arith, lt, less, none)

    goes_on : (g : Going) → IsGoing w before k g → IsGoing v (before ++ reply ∷ []) (after k (Core c) reply) g
    goes_on g is =
        let lt = (sound (tx_of g).ticket.id (tx_of g).ticket.instant is.there).0 in
        let less = known.small in
        going_on w v before k (after k (Core c) reply) reply gone [] k.transactions None g turns (along_same w s known.kept turns.goes) (transactions_stay k c reply) is is.at
        (never_ended before c reply (tx_of g).ticket.id is.unnamed)
        (λ same. ⊎_elim (λ none. omega (arith, lt, less, same, none)) (λ next. omega (arith, lt, same, next)) here.1)
        (real_id w before k g known is)

-- so a call of the core tells
pub core_tells : (w : World) (before : List Reply) (k : Known) (c : Call) (reply : Reply) (s : State) → IsKnown w before k → Step w.told.state (resolved before c) reply s → Tells (along w s) before k (Core c) reply
core_tells w before k c reply s known step = record { answer = answer w before k c reply s known step; known = still_known w before k c reply s known step }
