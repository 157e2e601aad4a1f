-- Why no wrong story of any life is told.
use Rattle.std.proofs.Common.{◌≡◌, ◌≢◌, ℕ, ◌<◌, Bool, true, false, true≢false, List, [], ◌∷◌, ◌++◌, length, map, All, AllPairs, Less, Some, is_some, Result, refl, sym, ap, subst, ◌∙◌, arith}
use Rattle.std.specs.FinMap.{get, get-empty}
use Rattle.std.specs.Ordering.{nat_cmp}
use Rattle.fjall_base.specs.Pairs.{Bytes, byte_order}
use Rattle.fjall_base.specs.Store.{Store, fold}
use Rattle.fjall_base.specs.declared.error.Error.{Error}
use Rattle.fjall_base.specs.declared.error.Error.TheVariants.{Io}
use Rattle.fjall_journal.specs.declared.op.Op.{Op}
use Rattle.fjall_history.specs.declared.reply.Reply.TheVariants.{Done, Number, Refused, Value}
use Rattle.fjall_machine.specs.declared.call.Call.TheVariants as core
use Rattle.fjall_calls.specs.declared.call.Kind.TheVariants.{Single}
use Rattle.fjall_calls.specs.declared.call.TxCall.TheVariants.{Begin, Core}
use Rattle.fjall_consistency.specs.declared.life.Life.{Life}
use Rattle.fjall_consistency.specs.declared.life.Told.{Told}
use Rattle.fjall_consistency.specs.Consistency.{AreLives, IsMade, Known, accepted, after, asked, begins, is_living, no_store}
use Rattle.fjall_consistency.proofs.Causes.{ingested_in}
use Rattle.fjall_wrong_stories.specs.Stories as stories
use Rattle.fjall_wrong_stories.specs.Stories.{Ended, LeavesOpen, Never, SomeLife, Step, delete_keyspace, insert, keyspace}
use Rattle.fjall_wrong_stories.proofs.Chapters.{goes}
use Rattle.fjall_wrong_stories.proofs.Along.{AreTold, Found, along, known_after, life_told, some_life, told_behind}
use Rattle.fjall_wrong_stories.proofs.Ids.{AreBelow, IsGone, below_fold, deletion_leaves, given_fold, gone_fold, unmade, untold}
use Rattle.fjall_wrong_stories.proofs.Writers.{HasWriter, begun_writer, is_writing, places, writer_stays}

-- ---- lives

-- no keyspace lives in the first store
none_lives : (id : ℕ) → is_living no_store id ≡ false
none_lives id = ap is_some (get-empty nat_cmp id)

-- some life is found, and the ids of its first store are below the next one
found : (wild : Bool) (P : Life → Told → Type 0) (lives : List Life) (told : List (Result Told Error)) (end : Store) → AreLives wild no_store lives told end → SomeLife P lives told → Found wild AreBelow P
found wild P lives told end are some =
    some_life wild AreBelow P below_fold no_store end lives told (λ id living. absurd (true≢false (sym living ∙ none_lives id))) are some

pub no_let_go_life_closes : Never stories.ALifeThatWasLetGoClosed
no_let_go_life_closes wild lives told end are story =
    let life = found wild _ lives told end are story in
    true≢false (sym (life.is.0 life.so.1) ∙ life.so.0)

-- ---- single writers

-- while one is open none begins
begin_alone : (k : Known) (before between behind : List Step) → k.transactions ≡ [] → All (λ step. LeavesOpen (length before) step.0) between
    → AreTold k (before ++ ((Begin Single, Done) ∷ between ++ (Begin Single, Done) ∷ behind)) → ⊥
begin_alone k before between behind none leaves are = last.0.0.1 (is_writing (length before) (known_after begun between) still)
  where
    rest : List Step
    rest = (Begin Single, Done) ∷ behind

    begins_one : AreTold (known_after k before) ((Begin Single, Done) ∷ between ++ rest)
    begins_one = told_behind k before ((Begin Single, Done) ∷ between ++ rest) are

    begun : Known
    begun = after (known_after k before) (Begin Single) Done

    still : HasWriter (length before) (known_after begun between).transactions
    still = along (λ known. HasWriter (length before) known.transactions) (λ step. LeavesOpen (length before) step.0) (writer_stays (length before)) begun between rest begins_one.1 leaves
        (begun_writer (known_after k before) (length before) (omega (arith, places k before, ap length none)))

    last : AreTold (known_after begun between) rest
    last = told_behind begun between rest begins_one.1

pub no_two_writers : Never stories.TwoSingleWriters
no_two_writers wild lives told end are story =
    let life = found wild _ lives told end are story in
    let (before, between, behind, leaves, had) = life.so in
    begin_alone (begins life.start) before between behind refl leaves (life_told wild life.start life.next life.life life.told _ life.is had)

-- ---- keyspaces

-- what is known after steps has ids below the next one, where it had
below_after : (k : Known) (steps : List Step) → AreBelow k.present → AreBelow (known_after k steps).present
below_after k [] below = below
below_after k (step ∷ steps) below = below_after (after k step.0 step.1) steps (below_fold k.present (accepted k step.0 step.1) below)

given_after : (id : ℕ) (k : Known) (steps : List Step) → id < k.present.next → id < (known_after k steps).present.next
given_after id k [] given = given
given_after id k (step ∷ steps) given = given_after id (after k step.0 step.1) steps (given_fold id k.present (accepted k step.0 step.1) given)

gone_after : (id : ℕ) (k : Known) (steps : List Step) → IsGone id k.present → IsGone id (known_after k steps).present
gone_after id k [] is = is
gone_after id k (step ∷ steps) is = gone_after id (after k step.0 step.1) steps (gone_fold id k.present (accepted k step.0 step.1) is)

-- an insert that is done is into a keyspace that lives
insert_lives : (k : Known) (id : ℕ) (key value : Bytes) (behind : List Step) → AreTold k ((insert id key value, Done) ∷ behind) → is_living k.present id ≡ true
insert_lives k id key value behind are = (are.0.0 0 (record { id = id; key = key; value = Some value }) (omega arith)).0

-- a creation gives the id that it tells
given : (k : Known) (name : Bytes) (options : List Bytes) (id : ℕ) (behind : List Step) → AreBelow k.present → AreTold k ((keyspace name options, Number id) ∷ behind)
    → id < (after k (keyspace name options) (Number id)).present.next
given k name options id behind below are = below_fold k.present (asked k (keyspace name options)) below id (ap is_some (told_name are.0.0.0 are.0.0.1 are.0.0.4))
  where
    made : Store
    made = fold k.present (asked k (keyspace name options))

    told_name : (told : ℕ) → Number id ≡ Number told → get made.names told ≡ Some name → get made.names id ≡ Some name
    told_name told e named = subst (λ (n : ℕ). get made.names n ≡ Some name) (number_is e) named
      where
        number_is : Number id ≡ Number told → told ≡ id
        number_is e = cc

-- of a deleted one that was given nothing is told that asks for one that lives
never_again : (k : Known) (name : Bytes) (options : List Bytes) (id : ℕ) (before between more last : List Step) → AreBelow k.present
    → ((known : Known) → AreTold known last → is_living known.present id ≡ true)
    → AreTold k (before ++ ((keyspace name options, Number id) ∷ between ++ ((delete_keyspace id, Done) ∷ more ++ last))) → ⊥
never_again k name options id before between more last below asks are = true≢false (sym lives ∙ gone.gone)
  where
    then_deleted : List Step
    then_deleted = (delete_keyspace id, Done) ∷ more ++ last

    makes : AreTold (known_after k before) ((keyspace name options, Number id) ∷ between ++ then_deleted)
    makes = told_behind k before ((keyspace name options, Number id) ∷ between ++ then_deleted) are

    made : Known
    made = after (known_after k before) (keyspace name options) (Number id)

    deletes : AreTold (known_after made between) then_deleted
    deletes = told_behind made between then_deleted makes.1

    deleted : Known
    deleted = after (known_after made between) (delete_keyspace id) Done

    gone : IsGone id (known_after deleted more).present
    gone = gone_after id deleted more (deletion_leaves id (known_after made between).present
        (given_after id made between (given (known_after k before) name options id (between ++ then_deleted) (below_after k before below) makes)))

    lives : is_living (known_after deleted more).present id ≡ true
    lives = asks (known_after deleted more) (told_behind deleted more last deletes.1)

pub no_deleted_keyspace_is_written : Never stories.ADeletedKeyspaceTakesWrites
no_deleted_keyspace_is_written wild lives told end are story =
    let life = found wild _ lives told end are story in
    let (name, options, id, key, value, before, between, more, behind, had) = life.so in
    never_again (begins life.start) name options id before between more ((insert id key value, Done) ∷ behind) life.sound
    (λ k told. insert_lives k id key value behind told) (life_told wild life.start life.next life.life life.told _ life.is had)

-- nor is it cleared, where a fault is told
pub no_fault_clears_a_deleted_keyspace : Never stories.AFaultClearsADeletedKeyspace
no_fault_clears_a_deleted_keyspace wild lives told end are story =
    let life = found wild _ lives told end are story in
    let (name, options, id, fault, before, between, more, behind, had) = life.so in
    never_again (begins life.start) name options id before between more ((Core (core.Clear id), Refused (Io fault)) ∷ behind) life.sound
    (λ k told. told.0.0) (life_told wild life.start life.next life.life life.told _ life.is had)

-- ---- keys

pub no_write_without_a_key : Never stories.AWriteWithoutAKey
no_write_without_a_key wild lives told end are story =
    let life = found wild _ lives told end are story in
    let (id, value, before, behind, had) = life.so in
    let k = begins life.start in
    let last = told_behind k before ((insert id [] value, Done) ∷ behind) (life_told wild life.start life.next life.life life.told _ life.is had) in
    (last.0.0 0 (record { id = id; key = []; value = Some value }) (omega arith)).1 refl

pub no_write_into_no_keyspace : Never stories.AWriteIntoNoKeyspace
no_write_into_no_keyspace wild lives told end are story =
    let (id, key, value, before, behind, untold_before, went) = story in
    let last = (insert id key value, Done) ∷ behind in
    let life = goes wild no_store end lives told (Ended (before ++ last)) [] are went in
    let gone = along (λ k. is_living k.present id ≡ false) (λ step. (name : Bytes) (options : List Bytes) → step ≢ (keyspace name options, Number id)) (untold id)
    (begins no_store) before last life.served.answers untold_before (none_lives id) in
    true≢false (sym (insert_lives (known_after (begins no_store) before) id key value behind (told_behind (begins no_store) before last life.served.answers)) ∙ gone)

-- two items whose keys ascend
two_ascend : (id : ℕ) (items : List (Bytes × Op)) (first second : Bytes × Op) → items ≡ first ∷ second ∷ [] → AllPairs (λ a b. byte_order a.key b.key ≡ Less) (map (ingested_in id) items)
    → byte_order first.0 second.0 ≡ Less
two_ascend id items first second are all =
    let two = subst (λ (those : List (Bytes × Op)). AllPairs (λ a b. byte_order a.key b.key ≡ Less) (map (ingested_in id) those)) are all in
    two 0 1 (ingested_in id first) (omega arith) (omega arith)

pub no_fault_ingests_out_of_order : Never stories.AFaultIngestsOutOfOrder
no_fault_ingests_out_of_order wild lives told end are story =
    let life = found wild _ lives told end are story in
    let (id, items, first, second, items_are, back, fault, before, behind, had) = life.so in
    let k = begins life.start in
    let last = told_behind k before ((Core (core.Ingest id items), Refused (Io fault)) ∷ behind) (life_told wild life.start life.next life.life life.told _ life.is had) in
    back (two_ascend id items.items first second items_are last.0.0.1)

-- ---- reads

pub no_unknown_keyspace_is_read : Never stories.AnUnknownKeyspaceIsRead
no_unknown_keyspace_is_read wild lives told end are story =
    let (view, id, key, found, before, behind, untold_before, went) = story in
    let last = (Core (core.GetAt view id key), Value found) ∷ behind in
    let life = goes wild no_store end lives told (Ended (before ++ last)) [] are went in
    let unknown = along (λ k. IsMade k.present id → ⊥) (λ step. (name : Bytes) (options : List Bytes) → step ≢ (keyspace name options, Number id)) (unmade id)
    (begins no_store) before last life.served.answers untold_before (λ made. omega (arith, made.0, made.1)) in
    unknown (told_behind (begins no_store) before last life.served.answers).0.1
