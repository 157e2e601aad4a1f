-- Why no wrong story is told.
use Rattle.std.proofs.Common.{◌≡◌, ◌≢◌, ◌⊎◌, ℕ, zero, suc, ◌<◌, Bool, true, false, List, [], ◌∷◌, ◌++◌, if◌then◌else◌, true≢false, length, slice_index_or, map, Option, Some, None, is_some, Vec, Global, Result, Err, IsTrue, refl, sym, ap, subst, ◌∙◌, inl, inr, arith}
use Rattle.std.specs.FinMap.{get}
use Rattle.fjall_base.specs.Pairs.{Bytes}
use Rattle.fjall_base.specs.Store.{Store, Command, Write, Delete, apply, fold, kept}
use Rattle.fjall_base.specs.declared.error.Error.{Error}
use Rattle.fjall_base.specs.declared.error.Error.TheVariants.{Io, UnknownKeyspace}
use Rattle.fjall_journal.specs.Ops.{BatchItem, item_in}
use Rattle.fjall_journal.specs.declared.op.Op.TheVariants.{Put}
use Rattle.fjall_journal.specs.declared.persist_mode.PersistMode.{PersistMode}
use Rattle.fjall_journal.specs.declared.persist_mode.PersistMode.TheVariants.{Buffer}
use Rattle.fjall_tx.specs.Marks.{IsCovered, OfKey}
use Rattle.fjall_history.specs.declared.reply.Reply.{Reply}
use Rattle.fjall_history.specs.declared.reply.Reply.TheVariants.{Done, Flag, Number, Opened, Refused, Value}
use Rattle.fjall_history.specs.declared.ticket.Ticket.{Ticket}
use Rattle.fjall_calls.specs.declared.call.Kind.TheVariants.{Optimistic}
use Rattle.fjall_calls.specs.declared.call.TxCall.{TxCall}
use Rattle.fjall_calls.specs.declared.call.TxCall.TheVariants.{Begin, Commit, Within}
use Rattle.fjall_calls.specs.declared.call.Within.TheVariants as inner
use Rattle.fjall_consistency.specs.Consistency.{AreLives, HasCause, IsBeginning, IsLife, IsMade, IsMet, IsSync, Known, OneLife, RunsOut, Transaction, after, attempted, is_fault, one, one_write, no_store, value_at, is_living}
use Rattle.fjall_consistency.specs.declared.life.Life.{Life}
use Rattle.fjall_consistency.specs.declared.life.Told.{Told}
use Rattle.fjall_wrong_stories.specs.Stories as stories
use Rattle.fjall_wrong_stories.specs.Stories.{Never, NeverTame, Chapter, Ended, Closed, IsGranted, Step, Went, commit_batch, keyspace, insert, persist}
use Rattle.fjall_wrong_stories.proofs.Values.{made, made_value, made_id, wrote_it, wrote_another, wrote_some, kept_value, kept_none, deleted}
use Rattle.fjall_wrong_stories.proofs.Fronts.{of_none, of_more, both_ways}
use Rattle.fjall_wrong_stories.proofs.Chapters.{Served, goes}
use Rattle.fjall_wrong_stories.proofs.Reading.{Holds, first_made, found_is, kept_holds, no_wrong_read, only, reads, told_value}
use Rattle.fjall_wrong_stories.proofs.Founding.{Founds, ahead, founded, founds}

value_of : {v w : Bytes} → Some v ≡ Some w → v ≡ w
value_of e = cc

no_value : {v : Bytes} → Some v ≡ None → ⊥
no_value e = cc

-- ---- lives

-- one life that makes a keyspace
one_life : (wild : Bool) (name : Bytes) (options : List Bytes) (id : ℕ) (first : Chapter) (lives : List Life) (told : List (Result Told Error)) (end : Store)
    → AreLives wild no_store lives told end → Went lives told (ahead (keyspace name options, Number id) first ∷ []) → (next : Store) × Founds name id first next
one_life wild name options id first lives told end are went =
    let one = goes wild no_store end lives told (ahead (keyspace name options, Number id) first) [] are went in
    (one.next, founds name options id first one.next one.served)

-- and a second one behind it
two_lives : (wild : Bool) (name : Bytes) (options : List Bytes) (id : ℕ) (first second : Chapter) (lives : List Life) (told : List (Result Told Error)) (end : Store)
    → AreLives wild no_store lives told end → Went lives told (ahead (keyspace name options, Number id) first ∷ second ∷ [])
    → (next last : Store) × Founds name id first next × Served next second last
two_lives wild name options id first second lives told end are went =
    let one = goes wild no_store end lives told (ahead (keyspace name options, Number id) first) (second ∷ []) are went in
    let two = goes wild one.next one.end one.lives one.told second [] one.are one.went in
    (one.next, two.next, founds name options id first one.next one.served, two.served)

-- and a third one
three_lives : (wild : Bool) (name : Bytes) (options : List Bytes) (id : ℕ) (first second third : Chapter) (lives : List Life) (told : List (Result Told Error)) (end : Store)
    → AreLives wild no_store lives told end → Went lives told (ahead (keyspace name options, Number id) first ∷ second ∷ third ∷ [])
    → (next more last : Store) × Founds name id first next × Served next second more × Served more third last
three_lives wild name options id first second third lives told end are went =
    let one = goes wild no_store end lives told (ahead (keyspace name options, Number id) first) (second ∷ third ∷ []) are went in
    let two = goes wild one.next one.end one.lives one.told second (third ∷ []) one.are one.went in
    let three = goes wild two.next two.end two.lives two.told third [] two.are two.went in
    (one.next, two.next, three.next, founds name options id first one.next one.served, two.served, three.served)

-- ---- what lives leave

-- what a key has in a new keyspace, and once a value was inserted
made_holds : (name : Bytes) (id : ℕ) (key : Bytes) → get (made name).names id ≡ Some name → Holds (made name) id key None
made_holds name id key named = record { is_first = made_id name id named; below = omega arith; living = ap is_some named; has = made_value name id key }

-- the store with one value
abbrev with_value : Bytes → ℕ → Bytes → Bytes → Store
with_value name id key value = apply (made name) (Write (one id key (Some value)))

value_holds : (name : Bytes) (id : ℕ) (key value : Bytes) → get (made name).names id ≡ Some name → Holds (with_value name id key value) id key (Some value)
value_holds name id key value named =
    record { is_first = made_id name id named; below = omega arith; living = ap is_some named; has = wrote_it (made name) id key (Some value) }

-- the next life begins with what these commands made
leaves : (name : Bytes) (id : ℕ) (chapter : Chapter) (next : Store) (f : Founds name id chapter next) (front : List Command) → f.front ≡ front → next ≡ kept (fold (made name) front)
leaves name id chapter next f front e = f.is ∙ ap (λ (commands : List Command). kept (fold (made name) commands)) e

-- which is that value, where the insert is all that was left
leaves_value : (name : Bytes) (id : ℕ) (key value : Bytes) (chapter : Chapter) (next : Store) (f : Founds name id chapter next)
    → f.front ≡ Write (one id key (Some value)) ∷ [] → Holds next id key (Some value)
leaves_value name id key value chapter next f e =
    subst (λ (s : Store). Holds s id key (Some value)) (sym (leaves name id chapter next f _ e)) (kept_holds _ id key (Some value) (value_holds name id key value f.named))

-- and nothing, where nothing was
leaves_none : (name : Bytes) (id : ℕ) (key : Bytes) (chapter : Chapter) (next : Store) (f : Founds name id chapter next) → f.front ≡ [] → Holds next id key None
leaves_none name id key chapter next f e =
    subst (λ (s : Store). Holds s id key None) (sym (leaves name id chapter next f [] e)) (kept_holds _ id key None (made_holds name id key f.named))

-- a beginning of one command is that or none
of_one : (front : List Command) (command : Command) → IsBeginning front (command ∷ []) → (front ≡ []) ⊎ (front ≡ command ∷ [])
of_one front command h = by (of_more front command [] h)
  where
    by : (front ≡ []) ⊎ ((rest : List Command) × (front ≡ command ∷ rest) × IsBeginning rest []) → (front ≡ []) ⊎ (front ≡ command ∷ [])
    by (inl none) = inl none
    by (inr all) = inr (all.1 ∙ ap (◌∷◌ command) (of_none all.0 all.2))

-- ---- a sync

abbrev synced : ℕ → Bytes → Bytes → PersistMode → Reply → Chapter
synced id key value mode told = Ended ((insert id key value, Done) ∷ (persist mode, told) ∷ [])

-- a persist that isn't refused is a sync
is_sync : (k : Known) (mode : PersistMode) (told : Reply) → mode ≢ Buffer → IsGranted told → IsSync k (persist mode) told
is_sync k mode (Refused error) syncs granted = granted
is_sync k mode told syncs granted = ((λ e. cc), (λ e. syncs (mode_is e)))
  where
    mode_is : {m n : PersistMode} → Some m ≡ Some n → m ≡ n
    mode_is e = cc

-- and changes nothing
persists : (k : Known) (mode : PersistMode) (told : Reply) → attempted k (persist mode) told ≡ []
persists k mode (Refused (Io kind)) = refl
persists k mode (Refused error) = refl
persists k mode told = refl

pub no_sync_is_lost : Never stories.AnAcknowledgedSyncIsLost
no_sync_is_lost wild lives told end are story =
    let (name, options, id, key, value, mode, syncs, told_so, granted, reply, wrong, went) = story in
    let (next, last, f, s) = two_lives wild name options id (synced id key value mode told_so) (reads id key reply) lives told end are went in
    let inserted = after (founded name) (insert id key value) Done in
    let all = both_ways f.front _ f.within (f.holds 1 (is_sync inserted mode told_so syncs granted)) in
    let is = all ∙ ap (λ (more : List Command). Write (one id key (Some value)) ∷ (more ++ [])) (persists inserted mode told_so) in
    no_wrong_read next last id key (Some value) reply (leaves_value name id key value _ next f is) s wrong

-- ---- two keys

abbrev batched : Vec BatchItem Global → Option PersistMode → Chapter
batched items mode = Ended ((commit_batch items mode, Done) ∷ [])

abbrev reads_two : ℕ → Bytes → Bytes → Option Bytes → Option Bytes → Chapter
reads_two id a b v w = Ended ((stories.get id a, Value v) ∷ (stories.get id b, Value w) ∷ [])

first_is : (start next : Store) (id : ℕ) (a b : Bytes) (v w : Option Bytes) → Served start (reads_two id a b v w) next → v ≡ value_at start id a
first_is start next id a b v w s = told_value start id a v s.answers.0.0

second_is : (start next : Store) (id : ℕ) (a b : Bytes) (v w : Option Bytes) → Served start (reads_two id a b v w) next → w ≡ value_at start id b
second_is start next id a b v w s = told_value start id b w s.answers.1.0.0

-- the store with two values
abbrev with_two : Bytes → ℕ → Bytes → Bytes → Bytes → Bytes → Store
with_two name id a b x y = apply (with_value name id a x) (Write (one id b (Some y)))

-- both keys have values in what is kept of it
first_of_two : (name : Bytes) (id : ℕ) (a b x y : Bytes) → get (made name).names id ≡ Some name → is_some (value_at (kept (with_two name id a b x y)) id a) ≡ true
first_of_two name id a b x y named =
    ap is_some (kept_value (with_two name id a b x y) id a (ap is_some named))
    ∙ wrote_some (with_value name id a x) id b y a (ap is_some (wrote_it (made name) id a (Some x)))

second_of_two : (name : Bytes) (id : ℕ) (a b x y : Bytes) → get (made name).names id ≡ Some name → is_some (value_at (kept (with_two name id a b x y)) id b) ≡ true
second_of_two name id a b x y named =
    ap is_some (kept_value (with_two name id a b x y) id b (ap is_some named) ∙ wrote_it (with_value name id a x) id b (Some y))

-- the next life finds both keys of a batch, or neither
behind_a_batch : (name : Bytes) (id : ℕ) (a b x y : Bytes) (mode : Option PersistMode) (items : Vec BatchItem Global) (v w : Option Bytes) (next last : Store)
    → items.items ≡ (id, a, Put x) ∷ (id, b, Put y) ∷ [] → Founds name id (batched items mode) next → Served next (reads_two id a b v w) last → is_some v ≡ is_some w
behind_a_batch name id a b x y mode items v w next last e f s =
    by (of_one f.front _ (subst (λ (all : List BatchItem). IsBeginning f.front (one_write (map item_in all) ++ [])) e f.within))
  where
    v_is : v ≡ value_at next id a
    v_is = first_is next last id a b v w s

    w_is : w ≡ value_at next id b
    w_is = second_is next last id a b v w s

    by : (f.front ≡ []) ⊎ (f.front ≡ Write (one id a (Some x) ++ one id b (Some y)) ∷ []) → is_some v ≡ is_some w
    by (inl none) =
        let no_a = (leaves_none name id a _ next f none).has in
        let no_b = (leaves_none name id b _ next f none).has in
        ap is_some (v_is ∙ no_a ∙ sym (w_is ∙ no_b))
    by (inr all) =
        let is = leaves name id _ next f _ all in
        ap is_some (v_is ∙ ap (λ (n : Store). value_at n id a) is) ∙ first_of_two name id a b x y f.named
        ∙ sym (ap is_some (w_is ∙ ap (λ (n : Store). value_at n id b) is) ∙ second_of_two name id a b x y f.named)

pub no_half_batch : Never stories.HalfABatch
no_half_batch wild lives told end are story =
    let (name, options, id, a, b, x, y, mode, items, both, v, w, other, went) = story in
    let (next, last, f, s) = two_lives wild name options id (batched items mode) (reads_two id a b v w) lives told end are went in
    other (behind_a_batch name id a b x y mode items v w next last both f s)

abbrev inserting_two : ℕ → Bytes → Bytes → Bytes → Bytes → Chapter
inserting_two id a b x y = Ended ((insert id a x, Done) ∷ (insert id b y, Done) ∷ [])

-- where the later insert is found, the earlier one is
behind_two : (name : Bytes) (id : ℕ) (a b x y : Bytes) (v : Option Bytes) (next last : Store)
    → Founds name id (inserting_two id a b x y) next → Served next (reads_two id b a (Some y) v) last → is_some v ≡ true
behind_two name id a b x y v next last f s = by (of_more f.front _ _ f.within)
  where
    v_is : v ≡ value_at next id a
    v_is = second_is next last id b a (Some y) v s

    more : (rest : List Command) → f.front ≡ Write (one id a (Some x)) ∷ rest → (rest ≡ []) ⊎ (rest ≡ Write (one id b (Some y)) ∷ []) → is_some v ≡ true
    more rest e (inl none) = ap is_some (v_is ∙ (leaves_value name id a x _ next f (e ∙ ap (◌∷◌ (Write (one id a (Some x)))) none)).has)
    more rest e (inr all) =
        let is = leaves name id _ next f _ (e ∙ ap (◌∷◌ (Write (one id a (Some x)))) all) in
        ap is_some (v_is ∙ ap (λ (n : Store). value_at n id a) is) ∙ first_of_two name id a b x y f.named

    by : (f.front ≡ []) ⊎ ((rest : List Command) × (f.front ≡ Write (one id a (Some x)) ∷ rest) × IsBeginning rest (Write (one id b (Some y)) ∷ [])) → is_some v ≡ true
    by (inl none) = absurd (no_value (first_is next last id b a (Some y) v s ∙ (leaves_none name id b _ next f none).has))
    by (inr some) = more some.0 some.1 (of_one some.0 _ some.2)

pub no_later_call_alone : Never stories.ALaterCallWithoutAnEarlierOne
no_later_call_alone wild lives told end are story =
    let (name, options, id, a, b, x, y, went) = story in
    let (next, last, f, s) = two_lives wild name options id (inserting_two id a b x y) (reads_two id b a (Some y) None) lives told end are went in
    true≢false (sym (behind_two name id a b x y None next last f s))

-- ---- one life

moves : ℕ → Bytes → Bytes → Bytes → Ticket → Chapter
moves id key before later ticket =
    Ended ((insert id key before, Done) ∷ (stories.snapshot, Opened ticket) ∷ (insert id key later, Done) ∷ (stories.get_at 2 id key, Value (Some later)) ∷ [])

pub no_snapshot_moves : Never stories.ASnapshotMoves
unfolding moves
no_snapshot_moves wild lives told end are story =
    let (name, options, id, key, before, later, ticket, other, went) = story in
    let life = one_life wild name options id (moves id key before later ticket) lives told end are went in
    let found = told_value (apply (made name) (Write (one id key (Some before)))) id key (Some later) life.1.answers.1.1.1.0.0 in
    other (value_of (found ∙ wrote_it (made name) id key (Some before)))

pub no_other_value : Never stories.AValueThatNobodyWrote
no_other_value wild lives told end are story =
    let (name, options, id, key, value, found, other, went) = story in
    let life = one_life wild name options id (Ended ((insert id key value, Done) ∷ (stories.get id key, Value (Some found)) ∷ [])) lives told end are went in
    let is = told_value (apply (made name) (Write (one id key (Some value)))) id key (Some found) life.1.answers.1.0.0 in
    other (value_of (is ∙ wrote_it (made name) id key (Some value)))

pub no_value_of_another_key : Never stories.AValueFromAnotherKey
no_value_of_another_key wild lives told end are story =
    let (name, options, id, key, other, value, found, apart, went) = story in
    let life = one_life wild name options id (Ended ((insert id other value, Done) ∷ (stories.get id key, Value (Some found)) ∷ [])) lives told end are went in
    let is = told_value (apply (made name) (Write (one id other (Some value)))) id key (Some found) life.1.answers.1.0.0 in
    no_value (is ∙ wrote_another (made name) id other (Some value) key (λ e. apart (sym e)) ∙ made_value name id key)

pub no_value_from_nowhere : Never stories.AValueFromNowhere
no_value_from_nowhere wild lives told end are story =
    let (name, options, id, key, found, went) = story in
    let life = one_life wild name options id (reads id key (Value (Some found))) lives told end are went in
    no_value (told_value (made name) id key (Some found) life.1.answers.0.0 ∙ made_value name id key)

pub no_refused_call_is_seen : Never stories.ARefusedCallTakesEffect
no_refused_call_is_seen wild lives told end are story =
    let (name, options, id, key, value, found, error, went) = story in
    let life = one_life wild name options id (Ended ((insert id key value, Refused error) ∷ (stories.get id key, Value (Some found)) ∷ [])) lives told end are went in
    no_value (told_value (made name) id key (Some found) life.1.answers.1.0.0 ∙ made_value name id key)

pub no_living_keyspace_is_unknown : Never stories.AnUnknownKeyspaceThatLives
no_living_keyspace_is_unknown wild lives told end are story =
    let (name, options, id, key, value, went) = story in
    let life = one_life wild name options id (Ended ((insert id key value, Refused UnknownKeyspace) ∷ [])) lives told end are went in
    by name id key value (made_id name id life.1.named) life.1.answers.0.0
  where
    by : (name : Bytes) (id : ℕ) (key value : Bytes) → id ≡ 1 → HasCause (founded name) (insert id key value) UnknownKeyspace → ⊥
    by name id key value e (inl unmade) = only id (λ other. IsMade (made name) other → ⊥) unmade (first_made (made name) id e (omega arith))
    by name id key value e (inr release) = cc (release.1)

skewed : ℕ → Bytes → Bytes → Bytes → Bytes → Chapter
skewed id a b x y =
    Ended ((Begin Optimistic, Done) ∷ (Begin Optimistic, Done)
    ∷ (Within 1 (inner.Get id a), Value None) ∷ (Within 2 (inner.Get id b), Value None)
    ∷ (Within 1 (inner.Write id b (Put x)), Done) ∷ (Within 2 (inner.Write id a (Put y)), Done)
    ∷ (Commit Optimistic 1, Flag true) ∷ (Commit Optimistic 2, Flag true) ∷ [])

-- a transaction that read a key which another one wrote meanwhile
abbrev second : Store → ℕ → Bytes → Bytes → Bytes → Transaction
second view id a b y = record {
  kind = Optimistic;
  view = view;
  own = one id a (Some y);
  reads = OfKey id b ∷ [];
  writes = (id, a) ∷ [];
  since = (id, b) ∷ [];
  mode = Some Buffer;
}

-- doesn't commit
conflicts : (view : Store) (id : ℕ) (a b y : Bytes) (tx : Transaction) → Some (second view id a b y) ≡ Some tx → (tx.own ≡ []) ⊎ (IsMet tx → ⊥) → ⊥
conflicts view id a b y tx is outcome = by (subst (λ (t : Transaction). (t.own ≡ []) ⊎ (IsMet t → ⊥)) (sym (tx_is is)) outcome)
  where
    tx_is : {t u : Transaction} → Some t ≡ Some u → t ≡ u
    tx_is e = cc

    covered : IsCovered (OfKey id b ∷ []) id b
    covered = record { mark = OfKey id b; is_marked = (0, omega arith, refl); covers = (refl, refl) }

    by : (one id a (Some y) ≡ []) ⊎ (IsMet (second view id a b y) → ⊥) → ⊥
    by (inl none) = cc
    by (inr apart) = apart (refl, (0, (id, b), omega arith, refl, covered))

pub no_write_skew : Never stories.AWriteSkew
unfolding skewed
no_write_skew wild lives told end are story =
    let (name, options, id, a, b, x, y, went) = story in
    let life = one_life wild name options id (skewed id a b x y) lives told end are went in
    let last = life.1.answers.1.1.1.1.1.1.1.0.0 in
    conflicts (made name) id a b y last.0 last.1 last.3.1

-- ---- one insert

abbrev inserting : ℕ → Bytes → Bytes → List Step
inserting id key value = (insert id key value, Done) ∷ []

pub no_closed_life_loses : Never stories.AClosedLifeLostSomething
no_closed_life_loses wild lives told end are story =
    let (name, options, id, key, value, reply, wrong, went) = story in
    let (next, last, f, s) = two_lives wild name options id (Closed (inserting id key value)) (reads id key reply) lives told end are went in
    no_wrong_read next last id key (Some value) reply (leaves_value name id key value _ next f (f.closes tt)) s wrong

-- a life that only reads leaves what it began with
reads_keep : (start next : Store) (id : ℕ) (key : Bytes) (found : Option Bytes) → Served start (reads id key (Value found)) next → next ≡ kept start
reads_keep start next id key found s = s.is ∙ ap (λ (front : List Command). kept (fold start front)) (of_none s.front s.left.within)

-- the insert was left where its value is found
was_left : (name : Bytes) (id : ℕ) (key value : Bytes) (next more : Store)
    → Founds name id (Ended (inserting id key value)) next → Served next (reads id key (Value (Some value))) more → Holds next id key (Some value)
was_left name id key value next more f s = by (of_one f.front _ f.within)
  where
    by : (f.front ≡ []) ⊎ (f.front ≡ Write (one id key (Some value)) ∷ []) → Holds next id key (Some value)
    by (inl none) = absurd (no_value (found_is next more id key (Some value) s ∙ (leaves_none name id key _ next f none).has))
    by (inr all) = leaves_value name id key value _ next f all

pub no_opening_forgets : Never stories.AnOpeningForgets
no_opening_forgets wild lives told end are story =
    let (name, options, id, key, value, reply, wrong, went) = story in
    let (next, more, last, f, s, t) = three_lives wild name options id (Ended (inserting id key value)) (reads id key (Value (Some value))) (reads id key reply) lives told end are went in
    let here = kept_holds next id key (Some value) (was_left name id key value next more f s) in
    let there = subst (λ (n : Store). Holds n id key (Some value)) (sym (reads_keep next more id key (Some value) s)) here in
    no_wrong_read more last id key (Some value) reply there t wrong

-- ---- a refusal

-- nothing was attempted by a call that was refused for another reason than a fault
none_attempted : (k : Known) (call : TxCall) (error : Error) → is_fault (Refused error) ≡ false → attempted k call (Refused error) ≡ []
none_attempted k call (Io kind) e = cc
none_attempted k call error e = refl

pub no_refused_call_is_found : Never stories.ARefusedCallTakesEffectLater
no_refused_call_is_found wild lives told end are story =
    let (name, options, id, key, value, found, error, no_fault, went) = story in
    let (next, last, f, s) = two_lives wild name options id (Ended ((insert id key value, Refused error) ∷ [])) (reads id key (Value (Some found))) lives told end are went in
    let none = ap (λ (commands : List Command). commands ++ []) (none_attempted (founded name) (insert id key value) error no_fault) in
    let front = of_none f.front (subst (IsBeginning f.front) none f.within) in
    no_value (found_is next last id key (Some found) s ∙ (leaves_none name id key _ next f front).has)

-- ---- a deletion

abbrev deleting : ℕ → Bytes → Bytes → Chapter
deleting id key value = Ended ((insert id key value, Done) ∷ (stories.delete_keyspace id, Done) ∷ [])

-- it was left
deletion_left : (name : Bytes) (id : ℕ) (key value : Bytes) (next : Store) (f : Founds name id (deleting id key value) next) → f.front ≡ Write (one id key (Some value)) ∷ Delete id ∷ []
deletion_left name id key value next f = all ∙ ap (λ (b : Bool). Write (one id key (Some value)) ∷ ((if b then (Delete id ∷ []) else []) ++ [])) living
  where
    living : is_living (with_value name id key value) id ≡ true
    living = ap is_some f.named

    all : f.front ≡ Write (one id key (Some value)) ∷ ((if is_living (with_value name id key value) id then (Delete id ∷ []) else []) ++ [])
    all = both_ways f.front _ f.within (f.holds 1 living)

pub no_deleted_keyspace_returns : Never stories.ADeletedKeyspaceComesBack
no_deleted_keyspace_returns wild lives told end are story =
    let (name, options, id, key, value, found, went) = story in
    let (next, last, f, s) = two_lives wild name options id (deleting id key value) (reads id key (Value (Some found))) lives told end are went in
    let is = leaves name id _ next f _ (deletion_left name id key value next f) in
    let gone = kept_none (apply (with_value name id key value) (Delete id)) id key (deleted (with_value name id key value) id) in
    no_value (found_is next last id key (Some found) s ∙ ap (λ (n : Store). value_at n id key) is ∙ gone)

-- ---- openings

-- where crashes aren't wild an opening is refused only since something ran out
runs_out : (error : Error) → IsTrue false ⊎ RunsOut error → RunsOut error
runs_out error (inl wild) = absurd (true≢false (sym wild))
runs_out error (inr runs) = runs

refused_for : (start end : Store) (lives : List Life) (told : List (Result Told Error)) (error : Error) (k : ℕ)
    → AreLives false start lives told end → k < length told → slice_index_or told k (Err error) ≡ Err error → RunsOut error
refused_for start end [] [] error k are below is = absurd (omega (arith, below))
refused_for start end [] (t ∷ told) error k are below is = elim are [ ]
refused_for start end (life ∷ lives) [] error k are below is = elim are [ ]
refused_for start end (life ∷ lives) (t ∷ told) error zero (OneLife _ next _ _ _ _ _ l more) below is = runs_out error (subst (λ (r : Result Told Error). IsLife false start life r next) is l).0
refused_for start end (life ∷ lives) (t ∷ told) error (suc k) (OneLife _ next _ _ _ _ _ l more) below is = refused_for next end lives told error k more (omega (arith, below)) is

pub no_opening_is_refused : (error : Error) → (RunsOut error → ⊥) → NeverTame (stories.AnOpeningIsRefused error)
no_opening_is_refused error never lives told end are (k, below, is) = never (refused_for no_store end lives told error k are below is)
