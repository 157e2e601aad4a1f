-- Optimistic transactions act one after another.
use Rattle.std.proofs.Common.{◌≡◌, ◌⊎◌, inl, inr, ⊎_elim, unwrap_or, ℕ, zero, suc, Bool, true, false, cond, ◌&&◌, ◌++◌, List, [], ◌∷◌, All, map, Option, None, Some, refl, sym, ap, subst, ◌∙◌, arith}
use Rattle.std.proofs.lemmas.Bool.{true≢false}
use Rattle.std.proofs.lemmas.Bool.Decides.{nat_tests}
use Rattle.std.proofs.lemmas.List.Elements.{All-append, All-head, All-map, All-nil, All-push, All-set, All-tail, All-weaker, Contains-append_left, Contains-append_right, Contains-push}
use Rattle.std.proofs.lemmas.Option.{same_Some}
use Rattle.std.specs.Prelude.{◌≢◌, IfSome, option_map, option_to_list, slice_get, length, ◌==◌, if◌then◌else◌, flat_map, Contains}
use Rattle.std.specs.Option.{option_eq}
use Rattle.std.specs.Str.{bytes_eq}
use Rattle.std.specs.Ordering.{nat_cmp, eq_by_cmp, is_eq}
use Rattle.std.specs.declared.cmp.Ordering.{Ordering}
use Rattle.std.specs.declared.cmp.Ordering.TheVariants.{Less, Equal, Greater}
use Rattle.std.specs.Cmp.{nat_cmp_total}
use Rattle.std.specs.Cmp.Lexicographic.{nat_list_cmp_total}
use Rattle.std.specs.FinMap.{FinMap, empty, get, insert, get-insert, get-remove, nat_cmp-IsAntisymmetric, slice_cmp-IsAntisymmetric}
use Rattle.fjall_base.specs.Pairs.{Bytes, Pairs, altered, byte_order, lookup}
use Rattle.fjall_base.specs.Store.{Item, Store, fold, map_at, written}
use Rattle.fjall_base.specs.declared.error.Error.TheVariants.{SnapshotClosed}
use Rattle.fjall_journal.specs.Ops.{value_in}
use Rattle.fjall_tx.specs.Marks.{IsCovered}
use Rattle.fjall_history.specs.declared.reply.Reply.{Reply}
use Rattle.fjall_history.specs.declared.reply.Reply.TheVariants.{Done, Flag, Refused}
use Rattle.fjall_calls.specs.declared.call.Kind.TheVariants.{Optimistic}
use Rattle.fjall_calls.specs.declared.call.TxCall.{TxCall}
use Rattle.fjall_calls.specs.declared.call.TxCall.TheVariants.{Begin, Commit, Rollback, Within}
use Rattle.fjall_calls.specs.declared.call.Within.{Within as Inner}
use Rattle.fjall_calls.specs.declared.call.Within.TheVariants as inner
use Rattle.fjall_consistency.specs.Consistency.{AreAnswers, IsAnswer, IsMet, Known, Transaction, after, after_within, begins, begun, commits, named, one, one_write, seen, transactions_after, updating, value_at}
use Rattle.fjall_consistency.specs.Serial.{ActInOrder, ActsNow, ChangesByCommits, IsOptimistic}
use Rattle.fjall_consistency.proofs.Meeting.{met_by}

-- ---- what a write leaves at one key

-- the item is on the key
abbrev is_on : ℕ → Bytes → Item → Bool
is_on id key item = eq_by_cmp nat_cmp id item.id && eq_by_cmp byte_order key item.key

-- the value of a key of a keyspace
abbrev value_of : FinMap nat_cmp Pairs → ℕ → Bytes → Option Bytes
value_of maps id key = lookup (map_at maps id) key

-- the maps with one item more
abbrev with_item : FinMap nat_cmp Pairs → Item → FinMap nat_cmp Pairs
with_item maps item = insert maps item.id (altered (map_at maps item.id) item.key item.value)

-- what a map has at a key after one was given a value, or none
get_altered : (pairs : Pairs) (k : Bytes) (value : Option Bytes) (key : Bytes) → lookup (altered pairs k value) key ≡ cond (eq_by_cmp byte_order key k) value (lookup pairs key)
get_altered pairs k None key = get-remove nat_list_cmp_total pairs k key
get_altered pairs k (Some value) key = get-insert nat_list_cmp_total pairs k value key

-- an item changes the key that it is on alone
one_item : (maps : FinMap nat_cmp Pairs) (item : Item) (id : ℕ) (key : Bytes) → value_of (with_item maps item) id key ≡ cond (is_on id key item) item.value (value_of maps id key)
one_item maps item id key = ap (λ o. get (unwrap_or o empty) key) (get-insert nat_cmp_total maps item.id new id) ∙ either (eq_by_cmp nat_cmp id item.id) refl
  where
    new : Pairs
    new = altered (map_at maps item.id) item.key item.value

    either : (b : Bool) → eq_by_cmp nat_cmp id item.id ≡ b
        → get (unwrap_or (cond (eq_by_cmp nat_cmp id item.id) (Some new) (get maps id)) empty) key ≡ cond (is_on id key item) item.value (get (map_at maps id) key)
    either true e =
        let same : id ≡ item.id = grind (arith, nat_tests) in
        ap (λ b. get (unwrap_or (cond b (Some new) (get maps id)) empty) key) e
        ∙ get_altered (map_at maps item.id) item.key item.value key
        ∙ ap (λ n. cond (eq_by_cmp byte_order key item.key) item.value (get (map_at maps n) key)) (sym same)
        ∙ ap (λ b. cond (b && eq_by_cmp byte_order key item.key) item.value (get (map_at maps id) key)) (sym e)
    either false e =
        ap (λ b. get (unwrap_or (cond b (Some new) (get maps id)) empty) key) e
        ∙ ap (λ b. cond (b && eq_by_cmp byte_order key item.key) item.value (get (map_at maps id) key)) (sym e)

-- keys and ids that compare equal are equal
tied : (o : Ordering) → is_eq o ≡ true → o ≡ Equal
tied Less e = absurd (true≢false (sym e))
tied Equal e = refl
tied Greater e = absurd (true≢false (sym e))

same_id : (i j : ℕ) → eq_by_cmp nat_cmp i j ≡ true → i ≡ j
same_id i j e = grind (arith, nat_tests)

same_key : (k l : Bytes) → eq_by_cmp byte_order k l ≡ true → k ≡ l
same_key k l e = slice_cmp-IsAntisymmetric nat_cmp-IsAntisymmetric k l (tied (byte_order k l) e)

-- an item that is on the key has its place
same_place : (id other : ℕ) (key another : Bytes) → (eq_by_cmp nat_cmp id other && eq_by_cmp byte_order key another) ≡ true → ◌≡◌ {A = ℕ × Bytes} (other, another) (id, key)
same_place id other key another on = by (eq_by_cmp nat_cmp id other) (eq_by_cmp byte_order key another) refl refl on
  where
    by : (a b : Bool) → eq_by_cmp nat_cmp id other ≡ a → eq_by_cmp byte_order key another ≡ b → (a && b) ≡ true → ◌≡◌ {A = ℕ × Bytes} (other, another) (id, key)
    by true true e f is = λ i. (sym (same_id id other e) i, sym (same_key key another f) i)
    by true false e f is = absurd (true≢false (sym is))
    by false b e f is = absurd (true≢false (sym is))

-- the item is on one of these keys
abbrev IsMarked : List (ℕ × Bytes) → Item → Type 0
IsMarked keys item = Contains keys (item.id, item.key)

-- so is each of these
abbrev AreMarked : List (ℕ × Bytes) → List Item → Type 0
AreMarked keys items = All (IsMarked keys) items

-- a key that items change is one of theirs
unwritten : (items : List Item) (keys : List (ℕ × Bytes)) → AreMarked keys items → (maps : FinMap nat_cmp Pairs) (id : ℕ) (key : Bytes)
    → Contains keys (id, key) ⊎ (value_of (written maps items) id key ≡ value_of maps id key)
unwritten [] keys marked maps id key = inr refl
unwritten (item ∷ items) keys marked maps id key =
    by (is_on id key item) refl (unwritten items keys (All-tail (IsMarked keys) item items marked) (with_item maps item) id key)
  where
    by : (b : Bool) → is_on id key item ≡ b → Contains keys (id, key) ⊎ (value_of (written (with_item maps item) items) id key ≡ value_of (with_item maps item) id key)
        → Contains keys (id, key) ⊎ (value_of (written (with_item maps item) items) id key ≡ value_of maps id key)
    by b e (inl has) = inl has
    by true e (inr same) =
        inl (subst (Contains keys) (same_place id item.id key item.key e) (All-head (IsMarked keys) item items marked))
    by false e (inr same) = inr (same ∙ one_item maps item id key ∙ ap (λ (b : Bool). cond b item.value (value_of maps id key)) e)

-- ---- what holds of a transaction that is open

-- It began with the values of this store, but at keys that others wrote since; and it marked what it wrote.
record Stands (id : ℕ) (s : Store) (tx : Transaction) : Type 0 where
  stands : (key : Bytes) → Contains tx.since (id, key) ⊎ (value_at tx.view id key ≡ value_at s id key)
  marked : AreMarked tx.writes tx.own

-- so it is of one that may be open
abbrev MayStand : ℕ → Store → Option Transaction → Type 0
MayStand id s going = IfSome going (Stands id s)

-- so it is of each of these
abbrev AllStand : ℕ → Store → List (Option Transaction) → Type 0
AllStand id s all = All (MayStand id s) all

-- marks grow
marked_more : (keys more : List (ℕ × Bytes)) (items : List Item) → AreMarked keys items → AreMarked (keys ++ more) items
marked_more keys more items marked =
    All-weaker (IsMarked keys) (IsMarked (keys ++ more)) (λ x has. Contains-append_left keys more (x.id, x.key) has) items marked

-- one more item with its mark
marked_one : (keys : List (ℕ × Bytes)) (items : List Item) (id : ℕ) (key : Bytes) (value : Option Bytes) → AreMarked keys items
    → AreMarked (keys ++ (id, key) ∷ []) (items ++ one id key value)
marked_one keys items id key value marked =
    All-push (IsMarked (keys ++ (id, key) ∷ [])) items (record { id = id; key = key; value = value })
    (marked_more keys ((id, key) ∷ []) items marked) (Contains-push keys (id, key))

-- one more item, or none
marked_some : (b : Bool) (keys : List (ℕ × Bytes)) (items : List Item) (id : ℕ) (key : Bytes) (value : Option Bytes) → AreMarked keys items
    → AreMarked (keys ++ (id, key) ∷ []) (items ++ (if b then [] else one id key value))
marked_some true keys items id key value marked =
    All-append (IsMarked (keys ++ (id, key) ∷ [])) items [] (marked_more keys ((id, key) ∷ []) items marked) (All-nil (IsMarked (keys ++ (id, key) ∷ [])))
marked_some false keys items id key value marked = marked_one keys items id key value marked

-- an update keeps this
updating_stands : (id : ℕ) (s : Store) (tx : Transaction) (i : ℕ) (key : Bytes) (new : Option Bytes) → Stands id s tx → Stands id s (updating tx i key new)
updating_stands id s tx i key new is = record {
  stands = is.stands;
  marked = marked_some (option_eq bytes_eq (value_at (seen tx) i key) new) tx.writes tx.own i key new is.marked;
}

-- a call within it keeps this
within_stands : (id : ℕ) (s : Store) (tx : Transaction) (call : Inner) → Stands id s tx → Stands id s (after_within tx call)
within_stands id s tx (inner.Get i key) is = record { stands = is.stands; marked = is.marked }
within_stands id s tx (inner.Page i range back max) is = record { stands = is.stands; marked = is.marked }
within_stands id s tx (inner.Write i key op) is = record { stands = is.stands; marked = marked_one tx.writes tx.own i key (value_in op) is.marked }
within_stands id s tx (inner.Take i key) is = updating_stands id s tx i key None is
within_stands id s tx (inner.FetchUpdate i key new) is = updating_stands id s tx i key new is
within_stands id s tx (inner.UpdateFetch i key new) is = updating_stands id s tx i key new is
within_stands id s tx (inner.Durability mode) is = record { stands = is.stands; marked = is.marked }

-- so of one that may be open
option_within_stands : (id : ℕ) (s : Store) (one : Option Transaction) (call : Inner) → IfSome one (Stands id s) → IfSome (option_map (λ tx. after_within tx call) one) (Stands id s)
option_within_stands id s None call is = tt
option_within_stands id s (Some tx) call is = within_stands id s tx call is

-- what holds of all holds of the one at a place
at_place : (P : Transaction → Type 0) (going : List (Option Transaction)) (place : ℕ) → All (λ (one : Option Transaction). IfSome one P) going → IfSome (unwrap_or (slice_get going place) None) P
at_place P [] place all = tt
at_place P (one ∷ going) zero all = All-head (λ (one : Option Transaction). IfSome one P) one going all
at_place P (one ∷ going) (suc place) all = at_place P going place (All-tail (λ (one : Option Transaction). IfSome one P) one going all)

-- so of the one that a call names
of_named : (id : ℕ) (k : Known) (place : ℕ) (tx : Transaction) → AllStand id k.present k.transactions → named k place ≡ Some tx → Stands id k.present tx
of_named id k place tx all is = subst (λ (o : Option Transaction). IfSome o (Stands id k.present)) is (at_place (Stands id k.present) k.transactions place all)

-- ---- a call

-- the calls within transactions, and their ends
all_go_on : (id : ℕ) (k : Known) (call : TxCall) (reply : Reply) → AllStand id k.present k.transactions → AllStand id k.present (transactions_after k call reply)
all_go_on id k call (Refused SnapshotClosed) all = all
all_go_on id k (Within place call) (Refused error) all = all
all_go_on id k (Within place call) reply all =
    All-set (MayStand id k.present) k.transactions place (option_map (λ tx. after_within tx call) (named k place))
    (option_within_stands id k.present (named k place) call (at_place (Stands id k.present) k.transactions place all)) all
all_go_on id k (Commit kind place) reply all = All-set (MayStand id k.present) k.transactions place None tt all
all_go_on id k (Rollback place) reply all = All-set (MayStand id k.present) k.transactions place None tt all
all_go_on id k call reply all = all

-- a list of one and more isn't empty
not_none : (n : ℕ) → (suc n == 0) ≡ false
not_none n = grind (arith, nat_tests)

-- what a commit changes is marked
committed : (id : ℕ) (s : Store) (own : List Item) (writes : List (ℕ × Bytes)) (key : Bytes) → AreMarked writes own
    → Contains ((if length own == 0 then [] else writes) ++ []) (id, key) ⊎ (value_at (fold s (one_write (own ++ []))) id key ≡ value_at s id key)
committed id s [] writes key marked = inr refl
committed id s (item ∷ own) writes key marked =
    subst (λ (b : Bool). Contains ((if b then [] else writes) ++ []) (id, key) ⊎ (value_at (fold s (one_write ((item ∷ own) ++ []))) id key ≡ value_at s id key)) (sym (not_none (length own)))
    (⊎_elim (λ has. inl (Contains-append_left writes [] (id, key) has)) (λ same. inr same)
    (unwritten ((item ∷ own) ++ []) writes (All-append (IsMarked writes) (item ∷ own) [] marked (All-nil (IsMarked writes))) s.maps id key))

-- a key of the keyspace that a call changes is among those that a commit writes
moved : (id : ℕ) (k : Known) (call : TxCall) (reply : Reply) (key : Bytes) → AllStand id k.present k.transactions → IsAnswer k call reply
    → IsOptimistic call ⊎ (map_at (after k call reply).present.maps id ≡ map_at k.present.maps id)
    → Contains (commits k call reply) (id, key) ⊎ (value_at (after k call reply).present id key ≡ value_at k.present id key)
moved id k call reply key all is (inr same) = inr (ap (λ (m : Pairs). lookup m key) same)
moved id k (Commit Optimistic place) (Flag true) key all is (inl optimistic) =
    subst (λ (o : Option Transaction). Contains (flat_map (λ (t : Transaction). if length t.own == 0 then [] else t.writes) (option_to_list o)) (id, key)
    ⊎ (value_at (fold k.present (one_write (flat_map (λ (t : Transaction). t.own) (option_to_list o)))) id key ≡ value_at k.present id key)) (sym is.0.1)
    (committed id k.present is.0.0.own is.0.0.writes key (of_named id k place is.0.0 all is.0.1).marked)
moved id k (Commit Optimistic place) (Flag false) key all is (inl optimistic) = inr refl
moved id k (Commit Optimistic place) (Refused error) key all is (inl optimistic) = inr refl
moved id k (Commit Optimistic place) reply key all is (inl optimistic) = absurd is.0.3
moved id k call reply key all is (inl optimistic) = absurd optimistic

-- one that goes on beside the call
beside : (id : ℕ) (old new : Store) (keys : List (ℕ × Bytes)) → ((key : Bytes) → Contains keys (id, key) ⊎ (value_at new id key ≡ value_at old id key))
    → (one : Option Transaction) → IfSome one (Stands id old) → IfSome (option_map (met_by keys) one) (Stands id new)
beside id old new keys moves None is = tt
beside id old new keys moves (Some tx) is = record { stands = λ key. by key (is.stands key) (moves key); marked = is.marked }
  where
    by : (key : Bytes) → Contains tx.since (id, key) ⊎ (value_at tx.view id key ≡ value_at old id key) → Contains keys (id, key) ⊎ (value_at new id key ≡ value_at old id key)
        → Contains (tx.since ++ keys) (id, key) ⊎ (value_at tx.view id key ≡ value_at new id key)
    by key (inl has) moved = inl (Contains-append_left tx.since keys (id, key) has)
    by key (inr same) (inl has) = inl (Contains-append_right tx.since keys (id, key) has)
    by key (inr same) (inr kept) = inr (same ∙ sym kept)

-- one that begins
new_stands : (id : ℕ) (k : Known) (call : TxCall) (reply : Reply) → IfSome (begun k call reply) (Stands id (after k call reply).present)
new_stands id k (Begin kind) Done = record { stands = λ key. inr refl; marked = All-nil (IsMarked []) }
new_stands id k call reply = tt

-- all stand after a call
all_stand : (id : ℕ) (k : Known) (call : TxCall) (reply : Reply) → AllStand id k.present k.transactions → IsAnswer k call reply
    → IsOptimistic call ⊎ (map_at (after k call reply).present.maps id ≡ map_at k.present.maps id) → AllStand id (after k call reply).present (after k call reply).transactions
all_stand id k call reply all is changes =
    All-push (MayStand id (after k call reply).present) (map (option_map (met_by (commits k call reply))) (transactions_after k call reply)) (begun k call reply)
    (All-map (MayStand id (after k call reply).present) (option_map (met_by (commits k call reply))) (transactions_after k call reply)
    (All-weaker (MayStand id k.present) (λ going. MayStand id (after k call reply).present (option_map (met_by (commits k call reply)) going))
    (beside id k.present (after k call reply).present (commits k call reply) (λ key. moved id k call reply key all is changes))
    (transactions_after k call reply) (all_go_on id k call reply all)))
    (new_stands id k call reply)

-- a key that was read is not among those that others wrote since, where nothing is met
acts : (id : ℕ) (k : Known) (tx : Transaction) (key : Bytes) → Stands id k.present tx → (IsMet tx → ⊥) → tx.kind ≡ Optimistic → IsCovered tx.reads id key → value_at tx.view id key ≡ value_at k.present id key
acts id k tx key is apart kind covered = by (is.stands key)
  where
    by : Contains tx.since (id, key) ⊎ (value_at tx.view id key ≡ value_at k.present id key) → value_at tx.view id key ≡ value_at k.present id key
    by (inl has) = absurd (apart (kind, (has.0, (id, key), has.1, has.2, covered)))
    by (inr same) = same

-- so it acts now, where it commits
acts_now : (id : ℕ) (k : Known) (call : TxCall) (reply : Reply) → AllStand id k.present k.transactions → IsAnswer k call reply → ActsNow id k call reply
acts_now id k (Commit Optimistic place) (Flag true) all ((tx, at, kind, outcome), made, nothing) =
    subst (λ (o : Option Transaction). (t : Transaction) → o ≡ Some t → t.own ≢ [] → (key : Bytes) → IsCovered t.reads id key → value_at t.view id key ≡ value_at k.present id key) (sym at)
    (λ t is. subst (λ (t : Transaction). t.own ≢ [] → (key : Bytes) → IsCovered t.reads id key → value_at t.view id key ≡ value_at k.present id key) (same_Some tx t is)
    (λ some key covered. acts id k tx key (of_named id k place tx all at) (⊎_elim (λ none. absurd (some none)) (λ apart. apart) outcome.1) kind covered))
acts_now id k call reply all is = tt

-- from any store on
all_act : (id : ℕ) (k : Known) (calls : List TxCall) (replies : List Reply) → AllStand id k.present k.transactions → AreAnswers k calls replies
    → ChangesByCommits id k calls replies → ActInOrder id k calls replies
all_act id k [] replies all are changes = tt
all_act id k (call ∷ calls) [] all are changes = tt
all_act id k (call ∷ calls) (reply ∷ replies) all are changes =
    (acts_now id k call reply all are.0, all_act id (after k call reply) calls replies (all_stand id k call reply all are.0 changes.0) are.1 changes.1)

-- where a keyspace's map changes through optimistic transactions alone, each that commits reads there what those before it made
pub act_in_order : (id : ℕ) (s : Store) (calls : List TxCall) (replies : List Reply) → AreAnswers (begins s) calls replies
    → ChangesByCommits id (begins s) calls replies → ActInOrder id (begins s) calls replies
act_in_order id s calls replies = all_act id (begins s) calls replies (All-nil (MayStand id s))
