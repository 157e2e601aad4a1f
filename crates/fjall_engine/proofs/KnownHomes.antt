-- What is known of the homes of keyspaces stays while trees change in memory, keyspaces come and go, and their folders stay in sight.
use Rattle.std.proofs.Common.{◌≡◌, ◌≢◌, ℕ, ◌<◌, ◌≤◌, ◌==◌, not, Bool, true, false, cond, unwrap_or, List, [], get_or, map, All, Option, None, Some, refl, sym, ◌∙◌, ap, subst, arith}
use Rattle.std.specs.FinMap.{get, insert, remove}
use Rattle.std.specs.Option.{option_map, option_or}
use Rattle.std.proofs.lemmas.Bool.{cond-true, eq-eqb, eqb-false, eqb-true}
use Rattle.std.proofs.lemmas.Bool.Decides.{nat_tests}
use Rattle.std.proofs.lemmas.List.Elements.{All-filter, All-nil, All-push, filter_passes}
use Rattle.fjall_base.specs.Pairs.{Bytes}
use Rattle.fjall_table_reader.specs.Readers.{Reader}
use Rattle.fjall_manifest.specs.Catalog.{fields, first_of}
use Rattle.fjall_changes.specs.Changes.{first_home}
use Rattle.fjall_manifest.specs.Reading.{AreRight}
use Rattle.fjall_journal.specs.Ops.{BatchItem}
use Rattle.fjall_replay.specs.Known.{GoesOnFrom, IsKnown, LastFields}
use Rattle.fjall_tree.specs.Puts.{bare_tree, put_all}
use Rattle.fjall_tree.specs.Trees.{IsSameShape, Shape, emptied, first_from, floor_of, sealed_off}
use Rattle.fjall_tree.proofs.Changes.{first_same, first_sealed}
use Rattle.fjall_trees.proofs.Changed.{tree_with}
use Rattle.fjall_trees.proofs.Planted.{no_tree}
use Rattle.fjall_trees.proofs.Pushed.{put_all_clears, put_all_from, put_all_sealed, put_all_tables, pushed_at}
use Rattle.fjall_meta.specs.declared.living.LivingKeyspace.{LivingKeyspace}
use Rattle.fjall_meta.specs.Keyspaces.{AreKeyspaces, Keyspaces, with_keyspace, without_keyspace}
use Rattle.fjall_memtable.specs.Parts.{HeldPart, Memory, empty_from, holds_nothing, with_clear}
use Rattle.fjall_recovery.specs.Homes.{Homes, Versions}
use Rattle.fjall_recovery.proofs.Storing.{get_removed}
use Rattle.fjall_replay.specs.Replayed.{past}
use Rattle.fjall_replay.proofs.Staying.{same_at}
use Rattle.fjall_memtable.specs.Sorted.{flat}
use Rattle.fjall_machine.proofs.SameTrees.{infos_same}
use Rattle.fjall_table.specs.Blocks.{Entry}
use Rattle.fjall_manifest.specs.Records.{Fields}
use Rattle.fjall_trees.specs.Forests.{Forest, altered_at, tree_at, without}
use Rattle.fjall_trees.specs.Tables.{AreSameTrees}
use Rattle.fjall_trees.specs.Writes.{pushed, versions_of_items, with_tree}
use Rattle.fjall_trees.proofs.Others.{altered_here, altered_other, kept_others}
use Rattle.fjall_meta.proofs.Slots.{get_put}

-- ---- one tree

-- a tree goes on from each record from which the other one does
abbrev pub GoesOnToo : Shape → Shape → Type 0
GoesOnToo old new = (last : Fields) → GoesOnFrom last old → GoesOnFrom last new

put_goes_on : (vs : List Entry) (shape : Shape) → GoesOnToo shape (put_all vs shape)
put_goes_on vs shape last on =
    let floor : floor_of (put_all vs shape).memory ≡ floor_of shape.memory =
    ap (λ (parts : List HeldPart). first_from parts (put_all vs shape).memory.active) (put_all_sealed vs shape)
    ∙ first_same shape.memory.sealed shape.memory.active (put_all vs shape).memory.active (put_all_from vs shape) in
    record {
      tables = ap (map (λ (r : Reader). r.info)) (put_all_tables vs shape) ∙ on.tables;
      clears = put_all_clears vs shape ∙ on.clears;
      beyond = subst (λ (n : ℕ). past last.persisted ≤ n) (sym floor) on.beyond;
      some = subst (λ (parts : List HeldPart). All (λ h. holds_nothing h ≡ false) parts) (sym (put_all_sealed vs shape)) on.some;
    }

emptied_goes_on : (n : ℕ) (shape : Shape) → GoesOnToo shape (emptied n shape)
emptied_goes_on n shape last on = record {
  tables = on.tables;
  clears = on.clears;
  beyond = subst (λ (m : ℕ). past last.persisted ≤ m) (sym (first_same shape.memory.sealed shape.memory.active (with_clear n shape.memory.active) refl)) on.beyond;
  some = on.some;
}

-- a sealed memtable holds something
sealed_goes_on : (shape : Shape) → holds_nothing shape.memory.active ≡ false → GoesOnToo shape (sealed_off shape)
sealed_goes_on shape holds last on = record {
  tables = on.tables;
  clears = on.clears;
  beyond = subst (λ (n : ℕ). past last.persisted ≤ n) (sym (first_sealed shape.memory.sealed shape.memory.active (empty_from shape.memory.active.until))) on.beyond;
  some = All-push (λ (h : HeldPart). holds_nothing h ≡ false) shape.memory.sealed shape.memory.active on.some holds;
}

same_goes_on : (old new : Shape) → IsSameShape old new → GoesOnToo old new
same_goes_on old new same last on = record {
  tables = infos_same old.tables new.tables same.tables ∙ on.tables;
  clears = same.clears ∙ on.clears;
  beyond = subst (λ (m : Memory). past last.persisted ≤ floor_of m) (sym same.memory) on.beyond;
  some = subst (λ (m : Memory). All (λ h. holds_nothing h ≡ false) m.sealed) (sym same.memory) on.some;
}

-- ---- all trees

-- the tree of this id is among the others too, and goes on where its own did
abbrev pub GoesOnAt : ℕ → Forest → Forest → Type 0
GoesOnAt id old new = (shape : Shape) → tree_at id old ≡ Some shape → (other : Shape) × (tree_at id new ≡ Some other) × GoesOnToo shape other

still_on : (id : ℕ) (trees : Forest) → GoesOnAt id trees trees
still_on id trees shape at = (shape, at, λ last on. on)

pub pushed_on : (n : ℕ) (items : List BatchItem) (trees : Forest) (id : ℕ) → GoesOnAt id trees (pushed n items trees)
pushed_on n items trees id shape at =
    (put_all (versions_of_items id n items) shape, pushed_at n items trees id ∙ ap (option_map (put_all (versions_of_items id n items))) at, put_goes_on (versions_of_items id n items) shape)

altered_on : (id : ℕ) (change : Shape → Shape) (trees : Forest) → ((shape : Shape) → tree_at id trees ≡ Some shape → GoesOnToo shape (change shape)) → (other : ℕ)
    → GoesOnAt other trees (altered_at id change trees)
altered_on id change trees keeps other shape at = by (id == other) refl
  where
    by : (is : Bool) → (id == other) ≡ is → (new : Shape) × (tree_at other (altered_at id change trees) ≡ Some new) × GoesOnToo shape new
    by true e =
        let same = sym (eqb-true id other e) in (
          change shape,
          subst (λ (k : ℕ). tree_at other (altered_at k change trees) ≡ Some (change shape)) same (altered_here other change trees ∙ ap (option_map change) at),
          keeps shape (subst (λ (k : ℕ). tree_at k trees ≡ Some shape) same at),
        )
    by false e = (shape, altered_other id other change trees (λ same. eqb-false id other e (sym same)) ∙ at, λ last on. on)

pub emptied_on : (n id : ℕ) (trees : Forest) (other : ℕ) → GoesOnAt other trees (altered_at id (emptied n) trees)
emptied_on n id trees = altered_on id (emptied n) trees (λ shape at. emptied_goes_on n shape)

pub sealed_on : (id : ℕ) (trees : Forest) → ((shape : Shape) → tree_at id trees ≡ Some shape → holds_nothing shape.memory.active ≡ false) → (other : ℕ)
    → GoesOnAt other trees (altered_at id sealed_off trees)
sealed_on id trees holds = altered_on id sealed_off trees (λ shape at. sealed_goes_on shape (holds shape at))

pub same_on : (old new : Forest) → AreSameTrees old new → (id : ℕ) → GoesOnAt id old new
same_on old new same id shape at = let other = same_at old new same id shape at in (other.0, other.1, same_goes_on shape other.0 other.2)

pub planted_on : (id from : ℕ) (trees : Forest) (other : ℕ) → GoesOnAt other trees (with_tree id from trees)
planted_on id from trees other shape at =
    (shape, tree_with other trees (record { id = id; shape = bare_tree from }) ∙ ap (λ (o : Option Shape). option_or o (cond (id == other) (Some (bare_tree from)) None)) at, λ last on. on)

pub dropped_on : (id : ℕ) (trees : Forest) (other : ℕ) → other ≢ id → GoesOnAt other trees (without id trees)
dropped_on id trees other differ shape at = (shape, kept_others id other trees differ ∙ at, λ last on. on)

-- ---- homes that are known

-- of these keyspaces
abbrev pub AreAllKnown : LastFields → Forest → (ℕ → List (List Entry)) → Homes → Versions → List LivingKeyspace → Type 0
AreAllKnown records trees entries homes versions living = All (IsKnown records trees entries homes versions) living

-- where the last record of each is kept as it was, its tree goes on, and its home is the same
record StaysKnown (old new : LastFields) (trees others : Forest) (homes : Homes) (versions : Versions) (homes_then : Homes) (versions_then : Versions) (k : LivingKeyspace) : Type 0 where
  record_is : get new k.id ≡ get old k.id
  goes_on : GoesOnAt k.id trees others
  home : get homes_then k.id ≡ get homes k.id
  stored : get versions_then k.id ≡ get versions k.id

stays_known : (old new : LastFields) (trees others : Forest) (entries : ℕ → List (List Entry)) (homes : Homes) (versions : Versions) (homes_then : Homes) (versions_then : Versions) (k : LivingKeyspace)
    → StaysKnown old new trees others homes versions homes_then versions_then k → IsKnown old trees entries homes versions k → IsKnown new others entries homes_then versions_then k
stays_known old new trees others entries homes versions homes_then versions_then k stays is =
    let there = stays.goes_on is.shape is.tree in
    record {
      h = is.h;
      home = stays.home ∙ is.home;
      right = is.right;
      stored = stays.stored ∙ is.stored;
      last = ap (λ (o : Option Fields). unwrap_or o (fields (first_of k.number))) stays.record_is ∙ is.last;
      shape = there.0;
      tree = there.1;
      goes_on = there.2 is.h.last is.goes_on;
    }

-- trees that change in memory
pub known_trees : (records : LastFields) (old new : Forest) (entries : ℕ → List (List Entry)) (homes : Homes) (versions : Versions) (living : List LivingKeyspace) → ((id : ℕ) → GoesOnAt id old new)
    → AreAllKnown records old entries homes versions living → AreAllKnown records new entries homes versions living
known_trees records old new entries homes versions living on known = λ i d lt.
    let k = get_or living i d in
    stays_known records records old new entries homes versions homes versions k (record { record_is = refl; goes_on = on k.id; home = refl; stored = refl }) (known i d lt)

-- the tree and the last record of a keyspace that is deleted are dropped
pub known_dropped : (id : ℕ) (records : LastFields) (trees : Forest) (entries : ℕ → List (List Entry)) (homes : Homes) (versions : Versions) (living : List LivingKeyspace) → All (λ k. k.id ≢ id) living
    → AreAllKnown records trees entries homes versions living → AreAllKnown (remove records id) (without id trees) entries homes versions living
known_dropped id records trees entries homes versions living differ known = λ i d lt.
    let k = get_or living i d in
    let apart = differ i d lt in
    let other : (k.id == id) ≡ false = grind (arith, nat_tests, apart) in
    stays_known records (remove records id) trees (without id trees) entries homes versions homes versions k
    (record { record_is = get_removed records id k.id ∙ ap (λ b. cond b None (get records k.id)) other; goes_on = dropped_on id trees k.id apart; home = refl; stored = refl }) (known i d lt)

-- a keyspace is deleted
pub known_deleted : (id : ℕ) (records : LastFields) (trees : Forest) (entries : ℕ → List (List Entry)) (homes : Homes) (versions : Versions) (s : Keyspaces)
    → AreAllKnown records trees entries homes versions s.living → AreAllKnown records trees entries (remove homes id) (remove versions id) (without_keyspace id s).living
known_deleted id records trees entries homes versions s known = λ i d lt.
    let k : LivingKeyspace = get_or (without_keyspace id s).living i d in
    let kept = filter_passes (λ (j : LivingKeyspace). not (j.id == id)) s.living i d lt in
    let other : (k.id == id) ≡ false = grind (arith, nat_tests) in
    stays_known records records trees trees entries homes versions (remove homes id) (remove versions id) k (record {
      record_is = refl;
      goes_on = still_on k.id trees;
      home = get_removed homes id k.id ∙ ap (λ b. cond b None (get homes k.id)) other;
      stored = get_removed versions id k.id ∙ ap (λ b. cond b None (get versions k.id)) other;
    }) (All-filter (λ (j : LivingKeyspace). not (j.id == id)) (IsKnown records trees entries homes versions) s.living known i d lt)

-- a keyspace is made under the next id
module _ (name : Bytes) (options : List Bytes) (number : ℕ) (s : Keyspaces) (are : AreKeyspaces s) (records : LastFields) (trees : Forest) (entries : ℕ → List (List Entry)) (homes : Homes) (versions : Versions) where
  abbrev records_made : LastFields
  records_made = insert records s.next (fields (first_of number))

  abbrev homes_made : Homes
  homes_made = insert homes s.next (first_home number)

  abbrev versions_made : Versions
  versions_made = insert versions s.next []

  itself : (s.next == s.next) ≡ true
  itself = eq-eqb s.next s.next refl

  others_known : AreAllKnown records trees entries homes versions s.living → AreAllKnown records_made (with_tree s.next number trees) entries homes_made versions_made s.living
  others_known known = λ i d lt.
      let k = get_or s.living i d in
      let given : k.id < s.next = are.given i d lt in
      let other : (k.id == s.next) ≡ false = grind (arith, nat_tests) in
      stays_known records records_made trees (with_tree s.next number trees) entries homes versions homes_made versions_made k (record {
        record_is = get_put records s.next (fields (first_of number)) k.id ∙ ap (λ b. cond b (Some (fields (first_of number))) (get records k.id)) other;
        goes_on = planted_on s.next number trees k.id;
        home = get_put homes s.next (first_home number) k.id ∙ ap (λ b. cond b (Some (first_home number)) (get homes k.id)) other;
        stored = get_put versions s.next [] k.id ∙ ap (λ b. cond b (Some []) (get versions k.id)) other;
      }) (known i d lt)

  new_known : All (λ k. k.id < s.next) trees → entries s.next ≡ []
      → IsKnown records_made (with_tree s.next number trees) entries homes_made versions_made (record { id = s.next; number = number; name = name; options = options })
  new_known given none = record {
    h = first_home number;
    home = get_put homes s.next (first_home number) s.next ∙ ap (λ b. cond b (Some (first_home number)) (get homes s.next)) itself;
    right = subst (λ (es : List (List Entry)). AreRight [] [] es) (sym none) tt;
    stored = get_put versions s.next [] s.next ∙ ap (λ b. cond b (Some []) (get versions s.next)) itself ∙ ap (λ (es : List (List Entry)). Some (flat es)) (sym none);
    last = ap (λ (o : Option Fields). unwrap_or o (fields (first_of number)))
        (get_put records s.next (fields (first_of number)) s.next ∙ ap (λ b. cond b (Some (fields (first_of number))) (get records s.next)) itself);
    shape = bare_tree number;
    tree = tree_with s.next trees (record { id = s.next; shape = bare_tree number })
        ∙ ap (λ (o : Option Shape). option_or o (cond (s.next == s.next) (Some (bare_tree number)) None)) (no_tree s.next trees given)
        ∙ cond-true (s.next == s.next) (Some (bare_tree number)) None itself;
    goes_on = record { tables = refl; clears = refl; beyond = omega arith; some = All-nil (λ (h : HeldPart). holds_nothing h ≡ false) };
  }

  pub known_created : All (λ k. k.id < s.next) trees → entries s.next ≡ [] → AreAllKnown records trees entries homes versions s.living
      → AreAllKnown records_made (with_tree s.next number trees) entries homes_made versions_made (with_keyspace name options number s).living
  known_created given none known =
      All-push (IsKnown records_made (with_tree s.next number trees) entries homes_made versions_made) s.living (record { id = s.next; number = number; name = name; options = options })
      (others_known known) (new_known given none)
