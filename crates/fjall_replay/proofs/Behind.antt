-- What the batches of one journal are to trees over tables, behind those of the journals before it.
use Rattle.std.proofs.Common.{◌≡◌, ◌≢◌, ℕ, ◌+◌, ◌<◌, ◌≤◌, ◌^◌, ◌&&◌, ◌==◌, not, max, nat_le, Bool, true, false, cond, List, [], ◌∷◌, ◌++◌, get_or, filter, length, map, take, All, Option, None, Some, refl, sym, ◌∙◌, ap, subst, append_assoc, arith}
use Rattle.std.specs.List.{list_any}
use Rattle.std.specs.Option.{option_map}
use Rattle.std.proofs.lemmas.Bool.{and_parts}
use Rattle.std.proofs.lemmas.Bool.Decides.{nat_tests}
use Rattle.std.proofs.lemmas.List.{append-nil}
use Rattle.std.proofs.lemmas.List.Elements.{All-append, All-cons, All-head, All-nil, All-tail, All-weaker}
use Rattle.fjall_journal.specs.declared.batch.Batch.{Batch}
use Rattle.fjall_journal.specs.Batches.{Shown, view}
use Rattle.fjall_meta.specs.declared.living.LivingKeyspace.{LivingKeyspace}
use Rattle.fjall_meta.specs.Keyspaces.{Keyspaces}
use Rattle.fjall_memtable.specs.Entries.{IsAbsent, stamp_of}
use Rattle.fjall_memtable.specs.Stamps.{Stamp}
use Rattle.fjall_table.specs.Blocks.{Entry, IsEntry}
use Rattle.fjall_meta.specs.declared.recovery.Persisted.{Persisted}
use Rattle.fjall_meta.specs.Replays.{counts, counts_unpersisted, fault_of, first_fault, persisted_at, reaches}
use Rattle.fjall_meta.specs.Views.{clear_in, entries_in, entry_of}
use Rattle.fjall_meta.proofs.Viewing.{no_fault, number_fits}
use Rattle.fjall_memtable.specs.Jobs.{AreBelow}
use Rattle.fjall_memtable.specs.Views.{value_at}
use Rattle.fjall_memtable.proofs.Shown.{same_views}
use Rattle.fjall_memtable.specs.Sorted.{flat}
use Rattle.fjall_meta.specs.Contents.{AreWithin, IsWithin, Stored, clears_held, is_beyond, map_held, store_held, versions_held}
use Rattle.fjall_meta.proofs.Beyond.{clear_beyond, clear_where, clears_are_below, clears_more, entries_beyond, entries_where, versions_are_below, versions_more}
use Rattle.fjall_tree.specs.Puts.{emptied_once, put_all}
use Rattle.fjall_tree.specs.Trees.{Shape, clears_of, emptied, floor_of, versions_of}
use Rattle.fjall_tree.proofs.Changes.{emptied_clears, emptied_versions}
use Rattle.fjall_trees.specs.Forests.{Forest, IsForest, IsTree, tree_at}
use Rattle.fjall_trees.proofs.Changing.{tree_under}
use Rattle.fjall_trees.proofs.Places.{tree_has}
use Rattle.fjall_trees.specs.MapTables.{map_with, pairs_with, store_with}
use Rattle.fjall_trees.proofs.Puts.{shows}
use Rattle.fjall_trees.proofs.Stores.{same_by}
use Rattle.fjall_replay.specs.Beside.{AreReplayedWith, BeginBy, MayFollow, ShowsWith, at_rest}
use Rattle.fjall_replay.specs.Replayed.{AreTold, MayReplay, past}
use Rattle.fjall_replay.specs.Steps.{with_batch, with_batches}
use Rattle.fjall_replay.proofs.Adding.{same_added}
use Rattle.fjall_replay.proofs.Batches.{at_batch}
use Rattle.fjall_replay.proofs.Putting.{MayPut, put_all_from}
use Rattle.fjall_replay.proofs.Resting.{batches_begin, emptied_rests, put_rests, same_floor}
use Rattle.fjall_replay.proofs.Stepping.{clears_below, cleared_by, cleared_from, cleared_held, emptied_new, entries_have, floor_low, last_held, numbered, put_tree, same_clear, stepped, stepped_until, versions_below}
use Rattle.fjall_replay.proofs.ReplayedStores.{all_before, told}

-- ---- one tree

put_all_rests : (vs : List Entry) (shape : Shape) → at_rest (put_all vs shape) ≡ at_rest shape
put_all_rests [] shape = refl
put_all_rests (v ∷ vs) shape = put_rests v (put_all vs shape) ∙ put_all_rests vs shape

put_all_tree : (vs : List Entry) (shape : Shape) → All (λ v. MayPut v shape) vs → IsTree shape → IsTree (put_all vs shape)
put_all_tree [] shape may is = is
put_all_tree (v ∷ vs) shape may is =
    let here = All-head (λ (w : Entry). MayPut w shape) v vs may in
    put_tree v (put_all vs shape) (record { is = here.is; from = subst (λ n. n ≤ v.number) (sym (put_all_from vs shape)) here.from; small = here.small })
    (put_all_tree vs shape (All-tail (λ (w : Entry). MayPut w shape) v vs may) is)

cleared_rests : (t : Bool) (n : ℕ) (shape : Shape) → at_rest (cond t (emptied_once n shape) shape) ≡ at_rest shape
cleared_rests true n shape = emptied_rests n shape
cleared_rests false n shape = refl

stepped_rests : (counted : Bool) (id : ℕ) (b : Shown) (shape : Shape) → at_rest (stepped counted id b shape) ≡ at_rest shape
stepped_rests counted id b shape =
    put_all_rests (entries_where counted id b) (cleared_by counted id b shape) ∙ cleared_rests (counted && list_any (λ k. k == id) b.clears) b.number shape

cleared_versions : (t : Bool) (n : ℕ) (shape : Shape) → (cond t (emptied_once n shape) shape).memory.active.versions ≡ shape.memory.active.versions
unfolding emptied_once
cleared_versions true n shape = by (list_any (λ m. nat_le n m) shape.memory.active.clears)
  where
    by : (b : Bool) → (cond b shape (emptied n shape)).memory.active.versions ≡ shape.memory.active.versions
    by true = refl
    by false = refl
cleared_versions false n shape = refl

-- its clear is one clear more, behind all others
cleared_beside : (t : Bool) (n : ℕ) (shape : Shape) (entries : List (List Entry)) → All (λ m. m < n) shape.memory.active.clears
    → (clears_of (cond t (emptied_once n shape) shape) ≡ clears_of shape ++ cond t (n ∷ []) []) × (versions_of (cond t (emptied_once n shape) shape) entries ≡ versions_of shape entries)
cleared_beside true n shape entries low = (
  ap clears_of (emptied_new n shape low) ∙ emptied_clears shape n,
  ap (λ (s : Shape). versions_of s entries) (emptied_new n shape low) ∙ emptied_versions shape entries n,
)
cleared_beside false n shape entries low = (sym (append-nil (clears_of shape)), refl)

-- what the tables hold is below each number that memory ends at or before
entries_below : (shape : Shape) → IsTree shape → (entries : List (List Entry)) → AreBelow (floor_of shape.memory) (flat entries) → (n : ℕ) → shape.memory.active.until ≤ n
    → AreBelow n (versions_of shape entries)
entries_below shape is entries below n le =
    let floor = floor_low shape.memory.sealed shape.memory.active is.held is.apart in
    let bounds = (last_held shape is).bounds in
    All-append (λ (v : Entry). v.number < n) (flat entries) (versions_of shape [])
    (All-weaker (λ (v : Entry). v.number < floor_of shape.memory) (λ (v : Entry). v.number < n) (λ v low. omega arith) (flat entries) below)
    (versions_below shape is n le)

-- a version under a number that all in the active memtable are below is none of these
absent_from : (v : Entry) (n : ℕ) (xs : List Entry) → v.number ≡ n → All (λ w. w.number < n) xs → IsAbsent v.key v.number xs
absent_from v n xs is low =
    All-weaker (λ (w : Entry). w.number < n) (λ (w : Entry). stamp_of w ≢ record { key = v.key; number = v.number })
    (λ w less e. let same : w.number ≡ v.number = ap (λ (s : Stamp). s.number) e in omega (arith, less, same, is)) xs low

-- To each view the batch's clear and its versions come behind all others, where it counts for the tree.
pub stepped_beside : (counted : Bool) (id : ℕ) (b : Shown) (shape : Shape) (entries : List (List Entry)) (clears : List ℕ) (versions : List Entry) → MayReplay b → IsTree shape
    → (counted ≡ true → shape.memory.active.until ≤ b.number) → (counted ≡ true → All (λ n. n < b.number) clears) → (counted ≡ true → AreBelow b.number versions)
    → ShowsWith entries clears versions shape → ShowsWith entries (clears ++ clear_where counted id b) (versions ++ entries_where counted id b) (stepped counted id b shape)
stepped_beside false id b shape entries clears versions may is until low below with = record {
  below = with.below;
  shows = λ key instant. with.shows key instant ∙ (λ i. value_at key instant (sym (append-nil clears) i) (sym (append-nil versions) i));
}
stepped_beside true id b shape entries clears versions may is until low below with = record {
  below = subst (λ n. AreBelow n (flat entries)) (sym (same_floor shape (stepped true id b shape) (stepped_rests true id b shape))) with.below;
  shows = λ key instant.
      shows more one (last_held one tree).ordered absent key instant entries
      ∙ (λ i. value_at key instant (made.0 i) (made.1 i ++ more))
      ∙ same_added key instant n (clears_of shape) clears (clear_where true id b) (versions_of shape entries) versions more (clears_below shape is n (until refl)) (low refl)
      (entries_below shape is entries with.below n (until refl)) (below refl) (same_clear true id b) (numbered true id b) (with.shows key instant);
}
  where
    n : ℕ
    n = b.number

    t : Bool
    t = list_any (λ k. k == id) b.clears

    more : List Entry
    more = entries_where true id b

    one : Shape
    one = cleared_by true id b shape

    begun : shape.memory.active.from ≤ n
    begun = let le = until refl in let bounds = (last_held shape is).bounds in omega (arith, le, bounds)

    tree : IsTree one
    tree = cleared_held t n shape begun may.small is

    made : (clears_of one ≡ clears_of shape ++ clear_where true id b) × (versions_of one entries ≡ versions_of shape entries)
    made =
        cleared_beside t n shape entries (All-weaker (λ m. m < shape.memory.active.until) (λ m. m < n) (λ m h. let le = until refl in omega (arith, le, h)) shape.memory.active.clears
        (last_held shape is).high_clears)

    low_versions : All (λ w. w.number < n) one.memory.active.versions
    low_versions = subst (All (λ (w : Entry). w.number < n)) (sym (cleared_versions t n shape))
        (All-weaker (λ (w : Entry). w.number < shape.memory.active.until) (λ (w : Entry). w.number < n) (λ w h. let le = until refl in omega (arith, le, h))
        shape.memory.active.versions (last_held shape is).high)

    absent : All (λ v. IsAbsent v.key v.number one.memory.active.versions) more
    absent = All-weaker (λ v. v.number ≡ n) (λ v. IsAbsent v.key v.number one.memory.active.versions) (λ v e. absent_from v n one.memory.active.versions e low_versions) more (numbered true id b)

stepped_tree : (counted : Bool) (id : ℕ) (b : Shown) (shape : Shape) → MayReplay b → IsTree shape → (counted ≡ true → shape.memory.active.until ≤ b.number) → IsTree (stepped counted id b shape)
stepped_tree false id b shape may is until = is
stepped_tree true id b shape may is until = put_all_tree (entries_where true id b) one fits (cleared_held t n shape begun may.small is)
  where
    n : ℕ
    n = b.number

    t : Bool
    t = list_any (λ k. k == id) b.clears

    one : Shape
    one = cleared_by true id b shape

    begun : shape.memory.active.from ≤ n
    begun = let le = until refl in let bounds = (last_held shape is).bounds in omega (arith, le, bounds)

    fits : All (λ v. MayPut v one) (entries_where true id b)
    fits = entries_have (λ v. MayPut v one) true id b
        (All-weaker (λ item. IsEntry (entry_of n item)) (λ item. MayPut (entry_of n item) one)
        (λ item e. record { is = e; from = subst (λ m. m ≤ n) (sym (cleared_from t n shape)) begun; small = may.small }) b.items may.items)

-- ---- one keyspace

-- what is held of it behind one batch more
clears_behind : (s : Keyspaces) (h : Stored) (id : ℕ) (front : List Shown) (b : Shown)
    → clears_held s h id (front ++ b ∷ []) ≡ clears_held s h id front ++ clear_where (counts s b.number id && is_beyond h.persisted b.number) id b
clears_behind s h id front b =
    clears_more s h id front (b ∷ [])
    ∙ ap (λ l. clears_held s h id front ++ l) (ap (filter (is_beyond h.persisted)) (append-nil (clear_in s id b)) ∙ clear_beyond (is_beyond h.persisted) s id b)

versions_behind : (s : Keyspaces) (h : Stored) (id : ℕ) (front : List Shown) (b : Shown)
    → versions_held s h id (front ++ b ∷ []) ≡ versions_held s h id front ++ entries_where (counts s b.number id && is_beyond h.persisted b.number) id b
versions_behind s h id front b =
    versions_more s h id front (b ∷ [])
    ∙ ap (λ l. versions_held s h id front ++ l) (ap (filter (λ v. is_beyond h.persisted v.number)) (append-nil (entries_in s id b)) ∙ entries_beyond (is_beyond h.persisted) s id b)

-- its tree shows that once it took the batch, as far as it counts
pub batch_beside : (s : Keyspaces) (h : Stored) (id : ℕ) (entries : List (List Entry)) (front : List Shown) (b : Shown) (shape : Shape) → IsWithin h → All (λ c. c.number < b.number) front
    → MayReplay b → IsTree shape → ((counts s b.number id && is_beyond h.persisted b.number) ≡ true → shape.memory.active.until ≤ b.number)
    → ShowsWith entries (clears_held s h id front) (versions_held s h id front) shape
    → ShowsWith entries (clears_held s h id (front ++ b ∷ [])) (versions_held s h id (front ++ b ∷ [])) (stepped (counts s b.number id && is_beyond h.persisted b.number) id b shape)
batch_beside s h id entries front b shape within before may tree until shown =
    subst (λ (ms : List ℕ). ShowsWith entries ms (versions_held s h id (front ++ b ∷ [])) (stepped c id b shape)) (sym (clears_behind s h id front b))
    (subst (λ (vs : List Entry). ShowsWith entries (clears_held s h id front ++ clear_where c id b) vs (stepped c id b shape)) (sym (versions_behind s h id front b))
    (stepped_beside c id b shape entries (clears_held s h id front) (versions_held s h id front) may tree until
    (λ e. clears_are_below s h id front b.number within (beyond e) before) (λ e. versions_are_below s h id front b.number within (beyond e) before) shown))
  where
    c : Bool
    c = counts s b.number id && is_beyond h.persisted b.number

    beyond : c ≡ true → is_beyond h.persisted b.number ≡ true
    beyond e = (and_parts (counts s b.number id) (is_beyond h.persisted b.number) e).1

-- Behind these batches the keyspace's tree shows what is held of it, and ends where nothing is beyond its persisted number or
-- below the least that may come.
record IsStage (s : Keyspaces) (h : Stored) (id : ℕ) (entries : List (List Entry)) (least : ℕ) (front : List Shown) (trees : Forest) : Type 0 where
  shape : Shape
  at : tree_at id trees ≡ Some shape
  tree : IsTree shape
  shown : ShowsWith entries (clears_held s h id front) (versions_held s h id front) shape
  low : shape.memory.active.until ≤ max (past h.persisted) least

-- a number beyond the persisted one is one past it or above
beyond_past : (persisted : Option ℕ) (n : ℕ) → is_beyond persisted n ≡ true → past persisted ≤ n
beyond_past None n out = omega arith
beyond_past (Some m) n out = let more : m < n = grind (arith, nat_tests) in omega (arith, more)

one_more : (s : Keyspaces) (h : Stored) (id : ℕ) (entries : List (List Entry)) (least : ℕ) (front : List Shown) (b : Shown) (trees : Forest) (counted : ℕ → Bool)
    → counted id ≡ (counts s b.number id && is_beyond h.persisted b.number) → IsWithin h → All (λ c. c.number < b.number) front → MayReplay b → least ≤ b.number
    → IsStage s h id entries least front trees → IsStage s h id entries (b.number + 1) (front ++ b ∷ []) (with_batch counted b trees)
one_more s h id entries least front b trees counted is within before may from stage = record {
  shape = stepped c id b stage.shape;
  at = at_batch counted b id trees ∙ ap (option_map (stepped (counted id) id b)) stage.at ∙ ap (λ t. Some (stepped t id b stage.shape)) is;
  tree = stepped_tree c id b stage.shape may stage.tree until;
  shown = batch_beside s h id entries front b stage.shape within before may stage.tree until stage.shown;
  low = stepped_until c id b stage.shape (max (past h.persisted) (b.number + 1)) (λ e. omega arith) (let le = stage.low in omega (arith, le));
}
  where
    c : Bool
    c = counts s b.number id && is_beyond h.persisted b.number

    beyond : c ≡ true → is_beyond h.persisted b.number ≡ true
    beyond e = (and_parts (counts s b.number id) (is_beyond h.persisted b.number) e).1

    until : c ≡ true → stage.shape.memory.active.until ≤ b.number
    until e = let le = stage.low in let out = beyond_past h.persisted b.number (beyond e) in omega (arith, le, out)

-- Behind these batches too.
abbrev IsShown : Keyspaces → Stored → ℕ → List (List Entry) → List Shown → Forest → Type 0
IsShown s h id entries batches trees = (shape : Shape) × (tree_at id trees ≡ Some shape) × ShowsWith entries (clears_held s h id batches) (versions_held s h id batches) shape

replay_on : (s : Keyspaces) (h : Stored) (id : ℕ) (entries : List (List Entry)) (counted : ℕ → ℕ → Bool) → ((n : ℕ) → counted n id ≡ (counts s n id && is_beyond h.persisted n)) → IsWithin h
    → (first least : ℕ) (front behind : List Shown) (trees : Forest) → first_fault first (front ++ behind) ≡ None → first_fault least behind ≡ None → All MayReplay behind
    → IsStage s h id entries least front trees → IsShown s h id entries (front ++ behind) (with_batches counted behind trees)
replay_on s h id entries counted is within first least front [] trees sound going may stage =
    subst (λ (l : List Shown). IsShown s h id entries l trees) (sym (append-nil front)) (stage.shape, stage.at, stage.shown)
replay_on s h id entries counted is within first least front (b ∷ behind) trees sound going may stage =
    let parts = no_fault (fault_of least b) (first_fault (b.number + 1) behind) going in
    let same = append_assoc front (b ∷ []) behind in
    subst (λ (l : List Shown). IsShown s h id entries l (with_batches counted behind (with_batch (counted b.number) b trees))) same
    (replay_on s h id entries counted is within first (b.number + 1) (front ++ b ∷ []) behind (with_batch (counted b.number) b trees) (ap (first_fault first) same ∙ sound) parts.1
    (All-tail MayReplay b behind may)
    (one_more s h id entries least front b trees (counted b.number) (is b.number) within (all_before first front behind b sound) (All-head MayReplay b behind may)
    (number_fits least b parts.0).0 stage))

-- ---- all keyspaces

pub replay_beside : (s : Keyspaces) (stored : ℕ → Stored) (persisted : List Persisted) (entries : ℕ → List (List Entry)) (first : ℕ) (front batches : List Shown) (trees : Forest)
    → AreTold s stored persisted → AreWithin s stored → first_fault first (front ++ batches) ≡ None → AreReplayedWith entries s stored front trees → MayFollow persisted batches trees
    → All MayReplay batches → IsForest trees → AreReplayedWith entries s stored (front ++ batches) (with_batches (counts_unpersisted s persisted) batches trees)
replay_beside s stored persisted entries first front batches trees are within sound shown on may lawful = λ i d lt.
    let k : LivingKeyspace = get_or s.living i d in
    let h = stored k.id in
    let one = shown i d lt in
    let ended : one.0.memory.active.until ≤ max (past (persisted_at k.id persisted)) on.least =
    tree_under (λ j. j.shape.memory.active.until ≤ max (past (persisted_at j.id persisted)) on.least) trees k.id one.0 on.ended one.1 in
    replay_on s h k.id (entries k.id) (counts_unpersisted s persisted) (λ n. told s stored persisted are n k.id) (within i d lt) first on.least front batches trees sound on.sound may
    (record {
      shape = one.0;
      at = one.1;
      tree = tree_has IsTree trees k.id one.0 lawful.each one.1;
      shown = one.2;
      low = subst (λ (p : Option ℕ). one.0.memory.active.until ≤ max (past p) on.least) (are i d lt) ended;
    })

-- ---- what may be taken at each step

pub un_map : {X Y : Type 0} (P : Y → Type 0) (f : X → Y) (xs : List X) → All P (map f xs) → All (λ x. P (f x)) xs
un_map P f [] all = All-nil (λ x. P (f x))
un_map P f (x ∷ xs) all = All-cons (λ y. P (f y)) x xs (All-head P (f x) (map f xs) all) (un_map P f xs (All-tail P (f x) (map f xs) all))

-- the batches are numbered from the least number on
pub numbers_from : (least : ℕ) (batches : List Shown) → first_fault least batches ≡ None → All (λ b. least ≤ b.number) batches
numbers_from least [] sound = All-nil (λ (b : Shown). least ≤ b.number)
numbers_from least (b ∷ batches) sound =
    let parts = no_fault (fault_of least b) (first_fault (b.number + 1) batches) sound in
    let from = (number_fits least b parts.0).0 in
    All-cons (λ (c : Shown). least ≤ c.number) b batches from
    (All-weaker (λ (c : Shown). b.number + 1 ≤ c.number) (λ (c : Shown). least ≤ c.number) (λ c le. omega (arith, le, from)) batches (numbers_from (b.number + 1) batches parts.1))

unpersisted_past : (persisted : Option ℕ) (n : ℕ) → not (reaches persisted n) ≡ true → past persisted ≤ n
unpersisted_past None n out = omega arith
unpersisted_past (Some m) n out = let more : m < n = grind (arith, nat_tests) in omega (arith, more)

-- whatever counts of them is numbered where memory begins or beyond
pub goes_on : (s : Keyspaces) (persisted : List Persisted) (batches : List Shown) (trees : Forest) → MayFollow persisted batches trees → IsForest trees
    → All (λ b. BeginBy (counts_unpersisted s persisted b.number) b.number trees) batches
goes_on s persisted batches trees on lawful i d lt j e less counted =
    let b = get_or batches i d in
    let k = get_or trees j e in
    let from : on.least ≤ b.number = numbers_from on.least batches on.sound i d lt in
    let ended : k.shape.memory.active.until ≤ max (past (persisted_at k.id persisted)) on.least = on.ended j e less in
    let bounds = (last_held k.shape (lawful.each j e less)).bounds in
    let out = unpersisted_past (persisted_at k.id persisted) b.number (and_parts (counts s b.number k.id) (not (reaches (persisted_at k.id persisted) b.number)) counted).1 in
    omega (arith, from, ended, bounds, out)

-- so the next one is, behind those before it
pub next_begins : (s : Keyspaces) (persisted : List Persisted) (batches : List Batch) (trees now : Forest) → MayFollow persisted (map view batches) trees → IsForest trees
    → (i : ℕ) (b : Batch) → i < length batches → b ≡ get_or batches i b → now ≡ with_batches (counts_unpersisted s persisted) (map view (take i batches)) trees
    → BeginBy (counts_unpersisted s persisted b.seqno) b.seqno now
next_begins s persisted batches trees now on lawful i b lt at is =
    let counted = counts_unpersisted s persisted in
    let here : BeginBy (counted (get_or batches i b).seqno) (get_or batches i b).seqno trees =
    un_map (λ (a : Shown). BeginBy (counted a.number) a.number trees) view batches (goes_on s persisted (map view batches) trees on lawful) i b lt in
    subst (BeginBy (counted b.seqno) b.seqno) (sym is)
    (batches_begin (counted b.seqno) b.seqno counted (map view (take i batches)) trees (subst (λ (a : Batch). BeginBy (counted a.seqno) a.seqno trees) (sym at) here))

-- ---- the store

pub replayed_store_beside : (entries : ℕ → List (List Entry)) (s : Keyspaces) (stored : ℕ → Stored) (batches : List Shown) (trees : Forest) → AreReplayedWith entries s stored batches trees
    → store_with entries s trees ≡ store_held s stored batches
unfolding map_with
replayed_store_beside entries s stored batches trees are =
    same_by (λ id. pairs_with entries id (2 ^ 63) trees) (λ id. map_held s (stored id) id batches) s (λ i d lt. one (get_or s.living i d) (are i d lt))
  where
    one : (k : LivingKeyspace) → IsShown s (stored k.id) k.id (entries k.id) batches trees → pairs_with entries k.id (2 ^ 63) trees ≡ map_held s (stored k.id) k.id batches
    one k (shape, at, with) =
        ap (map_with (entries k.id) (2 ^ 63)) at
        ∙ same_views (2 ^ 63) (clears_of shape) (clears_held s (stored k.id) k.id batches) (versions_of shape (entries k.id)) (versions_held s (stored k.id) k.id batches)
        (λ key. with.shows key (2 ^ 63))
