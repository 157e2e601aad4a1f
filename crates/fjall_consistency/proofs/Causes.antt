-- Why a call of the machine is refused, as its callers see it.
use Rattle.std.proofs.Common.{◌≡◌, ◌≢◌, ◌⊎◌, inl, inr, ℕ, suc, ◌<◌, ◌≤◌, ◌^◌, ◌==◌, nat_le, not, All, Bool, true, false, if◌then◌else◌, List, [], ◌∷◌, length, map, slice_get, unwrap_or, Option, None, Some, Any, AllPairs, Contains, Less, refl, sym, ap, subst, ◌∙◌, arith}
use Rattle.std.proofs.lemmas.Bool.{true≢false, and_cases, and_from, and_parts, eqb-true, leb-false, leb-true, not-false, not-true, or_cases, or_parts}
use Rattle.std.proofs.lemmas.List.{get_or-map, length-map}
use Rattle.std.proofs.lemmas.List.Elements.{All-cons, All-map, All-nil}
use Rattle.std.proofs.lemmas.List.Folds.{Any-from_list_any}
use Rattle.std.proofs.lemmas.List.Kept.{AllPairs-cons}
use Rattle.std.proofs.lemmas.Option.{none-some}
use Rattle.std.specs.Prelude.{IsSomeAnd}
use Rattle.std.specs.FinMap.{contains_key}
use Rattle.std.specs.List.{list_any}
use Rattle.std.specs.Ordering.{is_lt}
use Rattle.fjall_base.specs.Pairs.{Bytes, byte_order}
use Rattle.fjall_base.specs.Store.{Item, Store}
use Rattle.fjall_base.specs.Limits.{item_refusal}
use Rattle.fjall_base.specs.declared.error.Error.{Error}
use Rattle.fjall_base.specs.declared.error.Error.TheVariants.{Io, KeyEmpty, KeyOrder, KeyTooLong, KeyspaceDeleted, NumbersUsedUp, OutOfMemory, Poisoned, SnapshotClosed, Storage, TooManyItems, UnknownKeyspace, ValueTooLong}
use Rattle.fjall_journal.specs.Changes.{Change, Items}
use Rattle.fjall_journal.specs.declared.op.Op.{Op}
use Rattle.fjall_journal.specs.Ops.{BatchItem, bytes_in, item_in, value_in}
use Rattle.fjall_journal.specs.declared.op.Op.TheVariants.{Put, Remove, RemoveWeak}
use Rattle.fjall_reading.specs.Ingestions.{KeyOp}
use Rattle.fjall_meta.specs.Keyspaces.{is_name}
use Rattle.fjall_history.specs.Queries.{Query}
use Rattle.fjall_history.specs.Tickets.{Tickets, ids_used_up, is_open, opening_refusal}
use Rattle.fjall_history.specs.declared.reply.Reply.{Reply}
use Rattle.fjall_history.specs.declared.reply.Reply.TheVariants.{Refused}
use Rattle.fjall_history.specs.declared.ticket.View.{View}
use Rattle.fjall_history.specs.declared.ticket.View.TheVariants.{At, Present}
use Rattle.fjall_machine.specs.declared.call.Call.{Call}
use Rattle.fjall_machine.specs.declared.call.Call.TheVariants as core
use Rattle.fjall_machine.specs.Places.{id_opened, resolved, view_at}
use Rattle.fjall_machine.specs.Shapes.{AsKeyspace, ByMode, CallShape, OfChange, OfFlushFinish, OfIngestion, OfMergeBegin, OfMergeFinish, OfRead, OneLess, OneMore, Persistence, shape_of}
use Rattle.fjall_machine.specs.Machine.{FinishesLate, MayFail, ReadsDamaged, Refuses, State, Step, StepOf, TooLong, clear_refusals, creation_refusals, deletion_refusals, do_ascend, due, facts, first_due, handle_refusals, ingestion_refusals, is_among, is_deleted, is_unknown, items_refusals, journal_refusals, present, read_refusals, rotation_refusals, view_refusals}
use Rattle.fjall_machine.specs.Machine as machine
use Rattle.fjall_machine.proofs.Ascending.{may_ingest}
use Rattle.fjall_machine.proofs.Dues.{is_so, none_due}
use Rattle.fjall_calls.specs.declared.call.TxCall.{TxCall}
use Rattle.fjall_calls.specs.declared.call.TxCall.TheVariants.{Core}
use Rattle.fjall_consistency.specs.Alike.{AreAlike}
use Rattle.fjall_consistency.specs.Consistency.{AreLawful, ChangesKeyspaces, HasCause, IsMade, Known, IsAllowed, NamesNone, ids_in, is_living, items_in, shown}

-- What is known of the state where a call is refused.
pub record Knows (s : State) (before : List Reply) (k : Known) : Type 0 where
  pub alike : AreAlike (present s) k.present
  pub undamaged : s.damaged ≡ []
  pub well : s.poisoned ≡ true → k.failed ≡ true
  pub closed : (place : ℕ) → is_open s.tickets (id_opened (slice_get before place)) ≡ false → unwrap_or (slice_get k.snapshots place) None ≡ None

-- ---- refusals in general

-- each refusal of these whose cause holds is one of these errors
abbrev AreCaused : (Error → Type 0) → List (Bool × Error) → Type 0
AreCaused P [] = Unit {0}
AreCaused P (refusal ∷ refusals) = (refusal.0 ≡ true → P refusal.1) × AreCaused P refusals

-- then the first that is due is one
first_caused : (P : Error → Type 0) (refusals : List (Bool × Error)) (error : Error) → AreCaused P refusals → first_due refusals ≡ Some error → P error
first_caused P [] error caused is = absurd (none-some _ is)
first_caused P ((true, first) ∷ refusals) error caused is = let same : first ≡ error = cc in subst P same (caused.0 refl)
first_caused P ((false, first) ∷ refusals) error caused is = first_caused P refusals error caused.1 is

-- a refusal is the one that is due or, where none is, one that may come
refused : (P : Error → Type 0) (s t : State) (shape : CallShape) (error : Error) (first : Option Error)
    → ((e : Error) → first ≡ Some e → P e) → (first ≡ None → MayFail shape error s t → P error) → Refuses first shape error s t → P error
refused P s t shape error (Some first) caused may (is, same) = subst P (sym is) (caused first refl)
refused P s t shape error None caused may fails = may refl fails

-- what may go wrong is a fault of the disk where the call may begin, no damage, or a setting that is too long, or the engine was poisoned, or something runs out
failing : (s t : State) (k : Known) (call : TxCall) (shape : CallShape) (error : Error)
    → IsAllowed k call → (ReadsDamaged s shape → ⊥) → (TooLong (present s) shape → ChangesKeyspaces call) → (FinishesLate s shape → k.failed ≡ true) → MayFail shape error s t → HasCause k call error
failing s t k call shape (Io kind) begins whole long late fails = begins
failing s t k call shape OutOfMemory begins whole long late fails = tt
failing s t k call shape (Storage told) begins whole long late (is, damaged, same) = absurd (whole damaged)
failing s t k call shape ValueTooLong begins whole long late (is, same) = inl (long is)
failing s t k call shape Poisoned begins whole long late (is, same) = late is
failing s t k call shape NumbersUsedUp begins whole long late fails = tt
failing s t k call shape TooManyItems begins whole long late fails = tt
failing s t k call shape error begins whole long late none = absurd none

-- no id is among none
none_among : (ids : List ℕ) (id : ℕ) → ids ≡ [] → is_among ids id ≡ true → ⊥
none_among ids id none among = true≢false (sym among ∙ ap (λ (others : List ℕ). is_among others id) none)

-- where no keyspace is damaged, none is met
reads_whole : (s : State) (shape : CallShape) → s.damaged ≡ [] → ReadsDamaged s shape → ⊥
reads_whole s (OfMergeBegin kind id) none (begins, among) = none_among s.damaged id none among
reads_whole s (OfRead view id query) none (has, among) = none_among s.damaged id none among
reads_whole s shape none damaged = absurd damaged

-- only in an engine that is poisoned a job is finished late
finishes_late : (s : State) (shape : CallShape) → FinishesLate s shape → s.poisoned ≡ true
finishes_late s (OfFlushFinish job) (due, poisoned) = poisoned
finishes_late s (OfMergeFinish job) (due, poisoned) = poisoned
finishes_late s shape late = absurd late

-- ---- lists

-- an element alone is in its list
alone : {X : Type 0} (x : X) → Contains (x ∷ []) x
alone x = (0, omega arith, refl)

-- of an element of a list, what comes of it is in the list of all that comes
pub contains_map : {X Y : Type 0} (f : X → Y) (xs : List X) (x : X) → Contains xs x → Contains (map f xs) (f x)
contains_map f xs x there = (there.0, omega (arith, length-map xs f, there.1), get_or-map f xs there.0 x (f x) there.1 ∙ ap f there.2)

-- an element that these have, and of which this holds
some_there : {X : Type 0} (P : X → Type 0) (xs : List X) (x : X) → Contains xs x → P x → Any P xs
some_there P xs x there holds = (there.0, x, there.1, there.2, holds)

-- an element of a list passes a test: then this holds of some element of another list, which has what comes of each
some_passes : {X Y : Type 0} (P : Y → Type 0) (ys : List Y) (f : X → Y) (test : X → Bool) (xs : List X)
    → ((x : X) → Contains xs x → Contains ys (f x)) → ((x : X) → test x ≡ true → P (f x)) → list_any test xs ≡ true → Any P ys
some_passes P ys f test xs within means some =
    let found = Any-from_list_any test xs some in
    some_there P ys (f found.1) (within found.1 (found.0, found.2, found.3)) (means found.1 found.4)

-- what is shorter than a byte has none
short_is : (bytes : Bytes) → length bytes < 1 → bytes ≡ []
short_is [] short = refl
short_is (byte ∷ bytes) short = absurd (omega arith)

empty_is : (bytes : Bytes) → (length bytes == 0) ≡ true → bytes ≡ []
empty_is bytes empty = short_is bytes (omega (arith, eqb-true (length bytes) 0 empty))

-- ---- keyspaces

-- no keyspace was made under the id, by the store that callers know; or it lives there no more
abbrev IsNone : Known → ℕ → Type 0
IsNone k id = IsMade k.present id → ⊥

abbrev IsGone : Known → ℕ → Type 0
IsGone k id = is_living k.present id ≡ false

-- the same of the store of a state that is alike
unknown_there : (s : State) (k : Known) (id : ℕ) → AreAlike (present s) k.present → is_unknown (present s) id ≡ true → IsNone k id
unknown_there s k id alike is = by (or_cases (id == 0) (nat_le (present s).next id) is)
  where
    by : ((id == 0) ≡ true) ⊎ (nat_le (present s).next id ≡ true) → IsNone k id
    by (inl none) made = let zero : id ≡ 0 = eqb-true id 0 none in let up = made.0 in omega (arith, zero, up)
    by (inr above) made = let most = leb-true (present s).next id above in let same = alike.next in let up = made.1 in omega (arith, most, same, up)

deleted_there : (s : State) (k : Known) (id : ℕ) → AreAlike (present s) k.present → machine.is_living (present s) id ≡ false → IsGone k id
deleted_there s k id alike gone = ap (λ names. contains_key names id) alike.names ∙ gone

-- of a keyspace that a call names
unknown : (s : State) (k : Known) (call : TxCall) (id : ℕ) → AreAlike (present s) k.present → Contains (ids_in k call) id → is_unknown (present s) id ≡ true → HasCause k call UnknownKeyspace
unknown s k call id alike named is = inl (some_there (IsNone k) (ids_in k call) id named (unknown_there s k id alike is))

deleted : (s : State) (k : Known) (call : TxCall) (id : ℕ) → AreAlike (present s) k.present → Contains (ids_in k call) id → machine.is_living (present s) id ≡ false → HasCause k call KeyspaceDeleted
deleted s k call id alike named gone = some_there (IsGone k) (ids_in k call) id named (deleted_there s k id alike gone)

-- the refusals of calls on one keyspace that the call names
rotation_caused : (s : State) (k : Known) (call : TxCall) (id : ℕ) → AreAlike (present s) k.present → (s.poisoned ≡ true → k.failed ≡ true) → Contains (ids_in k call) id
    → AreCaused (HasCause k call) (rotation_refusals (facts s) id)
rotation_caused s k call id alike well named = (unknown s k call id alike named, (λ gone. deleted s k call id alike named (not-true _ gone), (well, tt)))

clear_caused : (s : State) (k : Known) (call : TxCall) (id : ℕ) → AreAlike (present s) k.present → (s.poisoned ≡ true → k.failed ≡ true) → Contains (ids_in k call) id
    → AreCaused (HasCause k call) (clear_refusals (facts s) id)
clear_caused s k call id alike well named = (unknown s k call id alike named, (λ gone. deleted s k call id alike named (not-true _ gone), (well, (λ full. tt, tt))))

deletion_caused : (s : State) (k : Known) (call : TxCall) (id : ℕ) → AreAlike (present s) k.present → (s.poisoned ≡ true → k.failed ≡ true) → Contains (ids_in k call) id
    → AreCaused (HasCause k call) (deletion_refusals (facts s) id)
deletion_caused s k call id alike well named = (unknown s k call id alike named, (λ late. well (and_parts _ _ late).1, (λ full. tt, tt)))

read_caused : (s : State) (k : Known) (call : TxCall) (id : ℕ) → AreAlike (present s) k.present → Contains (ids_in k call) id → AreCaused (HasCause k call) (read_refusals (facts s) id)
read_caused s k call id alike named = (unknown s k call id alike named, (λ gone. deleted s k call id alike named (or_parts _ _ (not-true _ gone)).0, tt))

retain_caused : (s : State) (k : Known) (call : TxCall) (id : ℕ) → AreAlike (present s) k.present → Contains (ids_in k call) id → AreCaused (HasCause k call) (handle_refusals (facts s) OneMore id)
retain_caused s k call id alike named = (unknown s k call id alike named, (λ gone. deleted s k call id alike named (or_parts _ _ (not-true _ gone)).0, (λ full. tt, tt)))

-- what is no name
invalid_is : (name : Bytes) → (nat_le 1 (length name) ≡ false) ⊎ (nat_le (length name) 255 ≡ false) → (name ≡ []) ⊎ (255 < length name)
invalid_is name (inl none) = inl (short_is name (leb-false 1 (length name) none))
invalid_is name (inr long) = inr (leb-false (length name) 255 long)

-- and what is one
is_named : (name : Bytes) → not (is_name name) ≡ false → (name ≢ []) × (length name ≤ 255)
is_named name is =
    let named = is_so (is_name name) is in
    (λ none. true≢false (sym (ap is_name (sym none) ∙ named)), leb-true (length name) 255 (and_parts (nat_le 1 (length name)) (nat_le (length name) 255) named).1)

-- ---- items

-- an item with no key, with a key that is too long, or with such a value
abbrev HasNoKey : Item → Type 0
HasNoKey item = item.key ≡ []

abbrev HasLongKey : Item → Type 0
HasLongKey item = 2 ^ 16 ≤ length item.key

abbrev HasLongValue : Item → Type 0
HasLongValue item = IsSomeAnd item.value (λ value. 2 ^ 32 ≤ length value)

-- what is too long is a value
long_value : (op : Op) → nat_le (2 ^ 32) (length (bytes_in op)) ≡ true → IsSomeAnd (value_in op) (λ (value : Bytes). 2 ^ 32 ≤ length value)
long_value (Put value) long = leb-true (2 ^ 32) (length value) long
long_value Remove long = absurd (true≢false (sym long))
long_value RemoveWeak long = absurd (true≢false (sym long))

-- an item that a call writes, whose key or value has no spelling
pub item_cause : (k : Known) (call : TxCall) (id : ℕ) (key : Bytes) (op : Op) (error : Error) → Contains (items_in k call) (record { id = id; key = key; value = value_in op })
    → item_refusal key (bytes_in op) ≡ Some error → HasCause k call error
item_cause k call id key op error there is =
    let item : Item = record { id = id; key = key; value = value_in op } in
    first_caused (HasCause k call) ((length key == 0, KeyEmpty) ∷ (nat_le (2 ^ 16) (length key), KeyTooLong) ∷ (nat_le (2 ^ 32) (length (bytes_in op)), ValueTooLong) ∷ []) error (
      λ empty. some_there HasNoKey (items_in k call) item there (empty_is key empty),
      (
        λ long. some_there HasLongKey (items_in k call) item there (leb-true (2 ^ 16) (length key) long),
        (λ long. inr (some_there HasLongValue (items_in k call) item there (long_value op long)), tt),
      ),
    )
    is

-- the item that an ingestion into a keyspace writes
abbrev pub ingested_in : ℕ → KeyOp → Item
ingested_in id item = record { id = id; key = item.0; value = value_in item.1 }

-- an item of this keyspace and key is lawful
abbrev IsLawfulAt : Store → ℕ → Bytes → Type 0
IsLawfulAt e id key = (is_living e id ≡ true) × (key ≢ []) × (length key < 2 ^ 16)

abbrev IsLawful : Store → Item → Type 0
IsLawful e item = IsLawfulAt e item.id item.key

-- a test that no element of a list passes is false of each
none_passes : {X : Type 0} (test : X → Bool) (xs : List X) → list_any test xs ≡ false → All (λ x. test x ≡ false) xs
none_passes {X} test [] none = All-nil (λ (x : X). test x ≡ false)
none_passes {X} test (x ∷ xs) none = let each = or_parts (test x) (list_any test xs) none in All-cons (λ (y : X). test y ≡ false) x xs each.0 (none_passes test xs each.1)

-- a key that has some length isn't empty
some_key : (key : Bytes) → (length key == 0) ≡ false → key ≢ []
some_key key some none = true≢false (sym (ap (λ (bytes : Bytes). length bytes == 0) none) ∙ some)

-- a keyspace that isn't deleted lives, in each store that is alike
pub lives_there : (s e : Store) (id : ℕ) → AreAlike s e → is_deleted s id ≡ false → is_living e id ≡ true
lives_there s e id alike stays = ap (λ names. contains_key names id) alike.names ∙ not-false (machine.is_living s id) stays

-- an item that no test refuses is lawful
lawful_there : (s e : Store) (id : ℕ) (key : Bytes) → AreAlike s e → (length key == 0) ≡ false → nat_le (2 ^ 16) (length key) ≡ false → is_deleted s id ≡ false → IsLawfulAt e id key
lawful_there s e id key alike some short stays = (lives_there s e id alike stays, some_key key some, leb-false (2 ^ 16) (length key) short)

-- where nothing refuses a change, its items are lawful
pub change_lawful : (s : State) (e : Store) (items : List BatchItem) (how : Persistence) → AreAlike (present s) e → due s (OfChange (Items items) how) ≡ None → AreLawful e (map item_in items)
change_lawful s e [] how alike none = All-nil (IsLawful e)
change_lawful s e (first ∷ rest) how alike none =
    let items : List BatchItem = first ∷ rest in
    let causes = none_due (items_refusals (facts s) items) none in
    let empty = none_passes (λ (item : BatchItem). length item.1 == 0) items causes.0 in
    let long = none_passes (λ (item : BatchItem). nat_le (2 ^ 16) (length item.1)) items causes.1.0 in
    let gone = none_passes (λ (item : BatchItem). is_deleted (present s) item.0) items causes.1.1.1.1.0 in
    All-map (IsLawful e) item_in items (λ k d within. lawful_there (present s) e _ _ alike (empty k d within) (long k d within) (gone k d within))

-- and so are those of an ingestion
pub ingestion_lawful : (s : State) (e : Store) (id : ℕ) (items : List KeyOp) → AreAlike (present s) e → due s (OfIngestion id items) ≡ None → AreLawful e (map (ingested_in id) items)
ingestion_lawful s e id [] alike none = All-nil (IsLawful e)
ingestion_lawful s e id (first ∷ rest) alike none =
    let items : List KeyOp = first ∷ rest in
    let causes = none_due (ingestion_refusals (facts s) id items) none in
    let empty = none_passes (λ (item : KeyOp). length item.0 == 0) items causes.0 in
    let long = none_passes (λ (item : KeyOp). nat_le (2 ^ 16) (length item.0)) items causes.1.0 in
    All-map (IsLawful e) (ingested_in id) items (λ k d within. lawful_there (present s) e id _ alike (empty k d within) (long k d within) causes.1.1.1.1.1.0)

-- a change of these items by a call has a cause where one is due
change_due : (s : State) (k : Known) (call : TxCall) (items : List BatchItem) (how : Persistence) (error : Error)
    → AreAlike (present s) k.present → (s.poisoned ≡ true → k.failed ≡ true)
    → ((item : BatchItem) → Contains items item → Contains (items_in k call) (item_in item)) → ((item : BatchItem) → Contains items item → Contains (ids_in k call) item.0)
    → due s (OfChange (Items items) how) ≡ Some error → HasCause k call error
change_due s k call [] how error alike well within named is = absurd (none-some _ is)
change_due s k call (first ∷ rest) how error alike well within named is =
    let items : List BatchItem = first ∷ rest in
    first_caused (HasCause k call) (items_refusals (facts s) items) error (
      some_passes HasNoKey (items_in k call) item_in (λ item. length item.1 == 0) items within (λ item. empty_is item.1),
      (
        some_passes HasLongKey (items_in k call) item_in (λ item. nat_le (2 ^ 16) (length item.1)) items within (λ item. leb-true (2 ^ 16) (length item.1)),
        (
          λ some. inr (some_passes HasLongValue (items_in k call) item_in (λ item. nat_le (2 ^ 32) (length (bytes_in item.2))) items within (λ item. long_value item.2) some),
          (
            λ some. inl (some_passes (IsNone k) (ids_in k call) (λ (item : BatchItem). item.0) (λ item. is_unknown (present s) item.0) items named (λ item. unknown_there s k item.0 alike) some),
            (
              some_passes (IsGone k) (ids_in k call) (λ (item : BatchItem). item.0) (λ item. is_deleted (present s) item.0) items named (λ item gone. deleted_there s k item.0 alike (not-true _ gone)),
              (well, (λ many. tt, (λ full. tt, tt))),
            ),
          ),
        ),
      ),
    )
    is

-- and where none is due, memory or the disk may fail
change_fails : (s t : State) (k : Known) (call : TxCall) (change : Change) (how : Persistence) (error : Error) → IsAllowed k call → MayFail (OfChange change how) error s t → HasCause k call error
change_fails s t k call change how error begins fails = failing s t k call (OfChange change how) error begins (λ none. none) (λ none. absurd none) (λ none. absurd none) fails

-- a change of these items by some call is refused for a cause: each of them is among those of the call
pub items_cause : (s t : State) (k : Known) (call : TxCall) (items : List BatchItem) (how : Persistence) (error : Error)
    → AreAlike (present s) k.present → (s.poisoned ≡ true → k.failed ≡ true)
    → ((item : BatchItem) → Contains items item → Contains (items_in k call) (item_in item))
    → ((item : BatchItem) → Contains items item → Contains (ids_in k call) item.0)
    → (AreLawful k.present (map item_in items) → IsAllowed k call)
    → StepOf s (OfChange (Items items) how) (Refused error) t → HasCause k call error
items_cause s t k call items how error alike well within named begins refuses =
    refused (HasCause k call) s t (OfChange (Items items) how) error (due s (OfChange (Items items) how))
    (λ e is. change_due s k call items how e alike well within named is)
    (λ none. change_fails s t k call (Items items) how error (begins (change_lawful s k.present items how alike none))) refuses

-- ---- ingestions

-- each key is below all that follow
abbrev KeysAscend : List Item → Type 0
KeysAscend items = AllPairs (λ a b. byte_order a.key b.key ≡ Less) items

-- then each is below the next one
ascends : (id : ℕ) (items : List KeyOp) → KeysAscend (map (ingested_in id) items) → do_ascend items ≡ true
ascends id [] all = refl
ascends id (item ∷ []) all = refl
ascends id (item ∷ next ∷ items) all =
    and_from (is_lt (byte_order item.0 next.0)) (do_ascend (next ∷ items)) (ap is_lt (all 0 1 (ingested_in id item) (omega arith) (omega arith)))
    (ascends id (next ∷ items) (λ i j d below within. all (suc i) (suc j) d (omega (arith, below)) (omega (arith, within))))

-- an ingestion of these by a call has a cause where one is due
ingestion_due : (s : State) (k : Known) (call : TxCall) (id : ℕ) (items : List KeyOp) (error : Error)
    → AreAlike (present s) k.present → (s.poisoned ≡ true → k.failed ≡ true)
    → ((item : KeyOp) → Contains items item → Contains (items_in k call) (ingested_in id item)) → ((item : KeyOp) → Contains items item → Contains (ids_in k call) id)
    → (do_ascend items ≡ false → HasCause k call KeyOrder) → due s (OfIngestion id items) ≡ Some error → HasCause k call error
ingestion_due s k call id [] error alike well within named order is = absurd (none-some _ is)
ingestion_due s k call id (first ∷ rest) error alike well within named order is =
    let items : List KeyOp = first ∷ rest in
    let there : Contains (ids_in k call) id = named first (0, omega arith, refl) in
    first_caused (HasCause k call) (ingestion_refusals (facts s) id items) error (
      some_passes HasNoKey (items_in k call) (ingested_in id) (λ item. length item.0 == 0) items within (λ item. empty_is item.0),
      (
        some_passes HasLongKey (items_in k call) (ingested_in id) (λ item. nat_le (2 ^ 16) (length item.0)) items within (λ item. leb-true (2 ^ 16) (length item.0)),
        (
          λ some. inr (some_passes HasLongValue (items_in k call) (ingested_in id) (λ item. nat_le (2 ^ 32) (length (bytes_in item.1))) items within (λ item. long_value item.1) some),
          (
            λ back. order (not-true _ back),
            (
              unknown s k call id alike there,
              (
                λ gone. deleted s k call id alike there (not-true _ gone),
                (well, (λ many. tt, (λ full. tt, tt))),
              ),
            ),
          ),
        ),
      ),
    )
    is

-- ---- reads

-- whether a view is open
abbrev is_shown : State → View → Bool
is_shown s Present = true
is_shown s (At ticket) = is_open s.tickets ticket.id

-- a view is open: that of now, or that of an open ticket
abbrev pub IsOpenView : State → View → Type 0
IsOpenView s Present = Unit {0}
IsOpenView s (At ticket) = is_open s.tickets ticket.id ≡ true

-- what is due for a read of a keyspace that a call names: where the view is shut, the call names none that is open
view_caused : (s : State) (k : Known) (call : TxCall) (view : View) (id : ℕ) → AreAlike (present s) k.present → Contains (ids_in k call) id → (is_shown s view ≡ false → NamesNone k call)
    → AreCaused (HasCause k call) (view_refusals (facts s) view id)
view_caused s k call Present id alike named closed = read_caused s k call id alike named
view_caused s k call (At ticket) id alike named closed = (λ shut. closed (not-true _ shut), read_caused s k call id alike named)

-- an open view isn't shut
never_shut : (s : State) (view : View) → IsOpenView s view → is_shown s view ≡ false → ⊥
never_shut s Present stands shut = true≢false shut
never_shut s (At ticket) stands shut = true≢false (sym stands ∙ shut)

-- a read of a keyspace by some call, within an open view, is refused for a cause
pub read_cause : (s t : State) (k : Known) (call : TxCall) (view : View) (id : ℕ) (query : Query) (error : Error)
    → AreAlike (present s) k.present → s.damaged ≡ [] → IsOpenView s view → Contains (ids_in k call) id → IsAllowed k call
    → StepOf s (OfRead view id query) (Refused error) t → HasCause k call error
read_cause s t k call view id query error alike undamaged stands named begins refuses =
    refused (HasCause k call) s t (OfRead view id query) error (due s (OfRead view id query))
    (λ e is. first_caused (HasCause k call) (view_refusals (facts s) view id) e (view_caused s k call view id alike named (λ shut. absurd (never_shut s view stands shut))) is)
    (λ none. failing s t k call (OfRead view id query) error begins (reads_whole s (OfRead view id query) undamaged) (λ none. absurd none) (λ none. absurd none)) refuses

-- ---- tickets

-- no ticket is opened only where no id is left
opening_due : (k : Known) (call : TxCall) (t : Tickets) (error : Error) → opening_refusal t ≡ Some error → HasCause k call error
opening_due k call t error is = first_caused (HasCause k call) ((ids_used_up t, NumbersUsedUp) ∷ []) error (λ full. tt, tt) is

-- what is due where a ticket is open, and that it isn't
if_open : (P : Error → Type 0) (b : Bool) (further : Option Error) (error : Error) → (b ≡ false → P SnapshotClosed) → (further ≡ Some error → P error)
    → (if b then further else Some SnapshotClosed) ≡ Some error → P error
if_open P true further error closed later is = later is
if_open P false further error closed later is = let same : SnapshotClosed ≡ error = cc in subst P same (closed refl)

-- where the ticket that a place names isn't open, it shows nothing
nothing_shown : (s : State) (before : List Reply) (k : Known) (view : View) → Knows s before k → is_shown s (view_at before view) ≡ false → shown k view ≡ None
nothing_shown s before k Present knows shut = absurd (true≢false shut)
nothing_shown s before k (At ticket) knows shut = knows.closed ticket.id shut

-- ---- calls of the core

-- only a creation or a deletion meets a setting that is too long
changes_keyspaces : (s : Store) (before : List Reply) (c : Call) → TooLong s (shape_of (resolved before c)) → ChangesKeyspaces (Core c)
changes_keyspaces s before (core.Keyspace name options) long = tt
changes_keyspaces s before (core.DeleteKeyspace id) long = tt
changes_keyspaces s before c long = absurd long

-- what is due for a call of the core has a cause
core_due : (s : State) (before : List Reply) (k : Known) (c : Call) (error : Error) → Knows s before k → due s (shape_of (resolved before c)) ≡ Some error → HasCause k (Core c) error
core_due s before k (core.Keyspace name options) error knows is =
    first_caused (HasCause k (Core (core.Keyspace name options))) (creation_refusals (facts s) name) error
    (λ bad. (name, options, refl, invalid_is name (and_cases _ _ (not-true _ bad))), (λ late. knows.well (and_parts _ _ late).1, (λ full. tt, tt))) is
core_due s before k (core.DeleteKeyspace id) error knows is =
    let call = Core (core.DeleteKeyspace id) in first_caused (HasCause k call) (deletion_refusals (facts s) id) error (deletion_caused s k call id knows.alike knows.well (alone id)) is
core_due s before k (core.Retain id) error knows is =
    let call = Core (core.Retain id) in first_caused (HasCause k call) (handle_refusals (facts s) OneMore id) error (retain_caused s k call id knows.alike (alone id)) is
core_due s before k (core.Release id) error knows is = first_caused (HasCause k (Core (core.Release id))) (handle_refusals (facts s) OneLess id) error (λ none. inr (id, refl), (λ none. inr (id, refl), tt)) is
core_due s before k (core.Insert id key value) error knows is =
    let items : List BatchItem = (id, key, Put value) ∷ [] in
    change_due s k (Core (core.Insert id key value)) items (AsKeyspace id) error knows.alike knows.well
    (λ item there. contains_map item_in items item there) (λ item there. contains_map (λ (i : BatchItem). i.0) items item there) is
core_due s before k (core.Remove id key) error knows is =
    let items : List BatchItem = (id, key, Remove) ∷ [] in
    change_due s k (Core (core.Remove id key)) items (AsKeyspace id) error knows.alike knows.well
    (λ item there. contains_map item_in items item there) (λ item there. contains_map (λ (i : BatchItem). i.0) items item there) is
core_due s before k (core.RemoveWeak id key) error knows is =
    let items : List BatchItem = (id, key, RemoveWeak) ∷ [] in
    change_due s k (Core (core.RemoveWeak id key)) items (AsKeyspace id) error knows.alike knows.well
    (λ item there. contains_map item_in items item there) (λ item there. contains_map (λ (i : BatchItem). i.0) items item there) is
core_due s before k (core.Clear id) error knows is =
    let call = Core (core.Clear id) in first_caused (HasCause k call) (clear_refusals (facts s) id) error (clear_caused s k call id knows.alike knows.well (alone id)) is
core_due s before k (core.CommitBatch items mode) error knows is =
    change_due s k (Core (core.CommitBatch items mode)) items.items (ByMode mode) error knows.alike knows.well
    (λ item there. contains_map item_in items.items item there)
    (λ item there. contains_map (λ (i : Item). i.id) (map item_in items.items) (item_in item) (contains_map item_in items.items item there)) is
core_due s before k (core.Ingest id items) error knows is =
    ingestion_due s k (Core (core.Ingest id items)) id items.items error knows.alike knows.well
    (λ item there. contains_map (ingested_in id) items.items item there)
    (λ item there. contains_map (λ (i : Item). i.id) (map (ingested_in id) items.items) (ingested_in id item) (contains_map (ingested_in id) items.items item there))
    (λ back. (id, items, refl, λ all. true≢false (sym (ascends id items.items all) ∙ back))) is
core_due s before k (core.RotateMemtable id) error knows is =
    let call = Core (core.RotateMemtable id) in first_caused (HasCause k call) (rotation_refusals (facts s) id) error (rotation_caused s k call id knows.alike knows.well (alone id)) is
core_due s before k core.RotateJournal error knows is = first_caused (HasCause k (Core core.RotateJournal)) (journal_refusals (facts s)) error (knows.well, (λ full. tt, tt)) is
core_due s before k (core.FlushBegin id) error knows is =
    let call = Core (core.FlushBegin id) in first_caused (HasCause k call) (rotation_refusals (facts s) id) error (rotation_caused s k call id knows.alike knows.well (alone id)) is
core_due s before k (core.MergeBegin id) error knows is =
    let call = Core (core.MergeBegin id) in first_caused (HasCause k call) (rotation_refusals (facts s) id) error (rotation_caused s k call id knows.alike knows.well (alone id)) is
core_due s before k (core.MajorBegin id) error knows is =
    let call = Core (core.MajorBegin id) in first_caused (HasCause k call) (rotation_refusals (facts s) id) error (rotation_caused s k call id knows.alike knows.well (alone id)) is
core_due s before k core.Maintenance error knows is = first_caused (HasCause k (Core core.Maintenance)) ((s.poisoned, Poisoned) ∷ []) error (knows.well, tt) is
core_due s before k (core.GetAt view id key) error knows is =
    let call = Core (core.GetAt view id key) in
    first_caused (HasCause k call) (view_refusals (facts s) (view_at before view) id) error (view_caused s k call (view_at before view) id knows.alike (alone id) (nothing_shown s before k view knows)) is
core_due s before k (core.PageAt view id range back max) error knows is =
    let call = Core (core.PageAt view id range back max) in
    first_caused (HasCause k call) (view_refusals (facts s) (view_at before view) id) error (view_caused s k call (view_at before view) id knows.alike (alone id) (nothing_shown s before k view knows)) is
core_due s before k core.Snapshot error knows is = opening_due k (Core core.Snapshot) s.tickets error is
core_due s before k (core.CloneSnapshot ticket) error knows is =
    let call = Core (core.CloneSnapshot ticket) in
    if_open (HasCause k call) (is_open s.tickets (id_opened (slice_get before ticket.id))) (opening_refusal s.tickets) error (knows.closed ticket.id) (opening_due k call s.tickets error) is
core_due s before k (core.CloseSnapshot ticket) error knows is =
    if_open (HasCause k (Core (core.CloseSnapshot ticket))) (is_open s.tickets (id_opened (slice_get before ticket.id))) None error (knows.closed ticket.id) (λ none. absurd (none-some _ none)) is
core_due s before k (core.Persist mode) error knows is = first_caused (HasCause k (Core (core.Persist mode))) ((s.poisoned, Poisoned) ∷ []) error (knows.well, tt) is
core_due s before k c error knows is = absurd (none-some _ is)

-- ---- what is allowed

-- what holds of each two elements in order holds of what comes of them
pairs_map : {X Y : Type 0} (f : X → Y) (R : Y → Y → Type 0) (xs : List X) → AllPairs (λ a b. R (f a) (f b)) xs → AllPairs R (map f xs)
pairs_map f R [] all = λ i j d below within. absurd (omega (arith, within))
pairs_map f R (x ∷ xs) all =
    AllPairs-cons R (f x) (map f xs) (All-map (R (f x)) f xs (λ i d within. all 0 (suc i) d (omega arith) (omega (arith, within))))
    (pairs_map f R xs (λ i j d below within. all (suc i) (suc j) d (omega (arith, below)) (omega (arith, within))))

-- so it is of the items of an ingestion that nothing refuses
ingestion_ascends : (s : State) (id : ℕ) (items : List KeyOp) → due s (OfIngestion id items) ≡ None → AllPairs (λ a b. byte_order a.key b.key ≡ Less) (map (ingested_in id) items)
ingestion_ascends s id [] none = λ i j d below within. absurd (omega (arith, within))
ingestion_ascends s id (item ∷ items) none =
    pairs_map (ingested_in id) (λ a b. byte_order a.key b.key ≡ Less) (item ∷ items) (may_ingest (facts s) id (item ∷ items) none).ascend

-- where nothing is due for a call of the core, it is allowed
pub allowed : (s : State) (before : List Reply) (k : Known) (c : Call) → AreAlike (present s) k.present → due s (shape_of (resolved before c)) ≡ None → IsAllowed k (Core c)
allowed s before k (core.Keyspace name options) alike none = is_named name (none_due (creation_refusals (facts s) name) none).0
allowed s before k (core.Insert id key value) alike none = change_lawful s k.present ((id, key, Put value) ∷ []) (AsKeyspace id) alike none
allowed s before k (core.Remove id key) alike none = change_lawful s k.present ((id, key, Remove) ∷ []) (AsKeyspace id) alike none
allowed s before k (core.RemoveWeak id key) alike none = change_lawful s k.present ((id, key, RemoveWeak) ∷ []) (AsKeyspace id) alike none
allowed s before k (core.CommitBatch items mode) alike none = change_lawful s k.present items.items (ByMode mode) alike none
allowed s before k (core.Clear id) alike none = lives_there (present s) k.present id alike (none_due (clear_refusals (facts s) id) none).1.0
allowed s before k (core.Ingest id items) alike none = (ingestion_lawful s k.present id items.items alike none, ingestion_ascends s id items.items none)
allowed s before k c alike none = All-nil (IsLawful k.present)

-- a call of the core is refused for a cause
pub core_cause : (s t : State) (before : List Reply) (k : Known) (c : Call) (error : Error) → Knows s before k → Step s (resolved before c) (Refused error) t → HasCause k (Core c) error
core_cause s t before k c error knows refuses =
    let shape : CallShape = shape_of (resolved before c) in
    refused (HasCause k (Core c)) s t shape error (due s shape) (λ e is. core_due s before k c e knows is)
    (λ none. failing s t k (Core c) shape error (allowed s before k c knows.alike none) (reads_whole s shape knows.undamaged) (changes_keyspaces (present s) before c)
    (λ late. knows.well (finishes_late s shape late)))
    refuses
