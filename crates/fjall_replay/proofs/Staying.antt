-- What trees show stays while memtables are sealed, tables are read, and keyspaces come and go.
use Rattle.std.proofs.Common.{◌≡◌, ◌≢◌, ℕ, ◌<◌, ◌==◌, ◌&&◌, not, Bool, true, false, cond, List, [], ◌∷◌, ◌++◌, filter, get_or, All, Option, None, Some, refl, sym, ◌∙◌, ap, subst, arith}
use Rattle.std.specs.List.{flat_map}
use Rattle.std.specs.Option.{is_some, option_map, option_or}
use Rattle.std.proofs.lemmas.Bool.{cond-true, eq-eqb, eqb-false, eqb-true, true≢false}
use Rattle.std.proofs.lemmas.Bool.Decides.{nat_tests}
use Rattle.std.proofs.lemmas.List.Elements.{All-filter, All-nil, All-push, All-weaker, filter_passes}
use Rattle.fjall_base.specs.Pairs.{Bytes}
use Rattle.fjall_base.proofs.Codecs.{some_is}
use Rattle.fjall_journal.specs.Batches.{Shown}
use Rattle.fjall_meta.specs.declared.living.LivingKeyspace.{LivingKeyspace}
use Rattle.fjall_meta.specs.Keyspaces.{AreKeyspaces, Keyspaces, keyspace_at, with_keyspace, without_keyspace}
use Rattle.fjall_table.specs.Blocks.{Entry}
use Rattle.fjall_meta.specs.Replays.{counts}
use Rattle.fjall_meta.proofs.Creating as Creating
use Rattle.fjall_meta.proofs.Ids.{each_lives}
use Rattle.fjall_meta.proofs.Keeping as Keeping
use Rattle.fjall_memtable.specs.Jobs.{AreBelow}
use Rattle.fjall_memtable.specs.Views.{value_at}
use Rattle.fjall_memtable.specs.Sorted.{flat}
use Rattle.fjall_meta.specs.Contents.{Stored, clears_held, is_beyond, versions_held}
use Rattle.fjall_meta.proofs.Beyond.{clear_where, entries_where, no_clears, no_versions}
use Rattle.fjall_memtable.specs.Parts.{Memory, clears_in, empty_from, parts_of, versions_in}
use Rattle.fjall_tree.specs.Puts.{bare_tree}
use Rattle.fjall_tree.specs.Trees.{IsSameShape, Shape, floor_of, sealed_off}
use Rattle.fjall_tree.proofs.Changes.{first_sealed, sealed_clears, sealed_versions}
use Rattle.fjall_trees.specs.Forests.{Forest, altered_at, tree_at, without}
use Rattle.fjall_trees.specs.Tables.{AreSameTrees}
use Rattle.fjall_trees.specs.Writes.{with_tree}
use Rattle.fjall_trees.proofs.Others.{altered_here, altered_other, kept_others}
use Rattle.fjall_trees.proofs.Changed.{tree_with}
use Rattle.fjall_trees.proofs.Planted.{no_tree}
use Rattle.fjall_replay.specs.Beside.{AreReplayedWith, IsUnstored, ShowsWith}

-- ---- other trees

-- what a tree shows the other one shows too
abbrev pub KeepsShown : Shape → Shape → Type 0
KeepsShown old new = (entries : List (List Entry)) (clears : List ℕ) (versions : List Entry) → ShowsWith entries clears versions old → ShowsWith entries clears versions new

-- where each tree of the ones is among the others, or one is that shows the same
trees_stay : (old new : Forest) → ((id : ℕ) (shape : Shape) → tree_at id old ≡ Some shape → (other : Shape) × (tree_at id new ≡ Some other) × KeepsShown shape other)
    → (entries : ℕ → List (List Entry)) (s : Keyspaces) (stored : ℕ → Stored) (batches : List Shown) → AreReplayedWith entries s stored batches old → AreReplayedWith entries s stored batches new
trees_stay old new keeps entries s stored batches are = λ i d lt.
    let id = (get_or s.living i d).id in
    let one = are i d lt in
    let there = keeps id one.0 one.1 in
    (there.0, there.1, there.2 (entries id) (clears_held s (stored id) id batches) (versions_held s (stored id) id batches) one.2)

-- ---- a sealed memtable

pub sealed_shows : (shape : Shape) → KeepsShown shape (sealed_off shape)
sealed_shows shape entries clears versions with = record {
  below = subst (λ n. AreBelow n (flat entries)) (sym (first_sealed shape.memory.sealed shape.memory.active (empty_from shape.memory.active.until))) with.below;
  shows = λ key instant. (λ i. value_at key instant (sealed_clears shape i) (sealed_versions shape entries i)) ∙ with.shows key instant;
}

pub sealed_stay : (id : ℕ) (trees : Forest) (entries : ℕ → List (List Entry)) (s : Keyspaces) (stored : ℕ → Stored) (batches : List Shown) → AreReplayedWith entries s stored batches trees
    → AreReplayedWith entries s stored batches (altered_at id sealed_off trees)
sealed_stay id trees = trees_stay trees (altered_at id sealed_off trees) (λ other shape at. by other shape at (id == other) refl)
  where
    by : (other : ℕ) (shape : Shape) → tree_at other trees ≡ Some shape → (is : Bool) → (id == other) ≡ is
        → (new : Shape) × (tree_at other (altered_at id sealed_off trees) ≡ Some new) × KeepsShown shape new
    by other shape at true e = (
      sealed_off shape,
      subst (λ (k : ℕ). tree_at other (altered_at k sealed_off trees) ≡ Some (sealed_off shape)) (sym (eqb-true id other e)) (altered_here other sealed_off trees ∙ ap (option_map sealed_off) at),
      sealed_shows shape,
    )
    by other shape at false e = (shape, altered_other id other sealed_off trees (λ same. eqb-false id other e (sym same)) ∙ at, λ entries clears versions with. with)

-- ---- the same trees, whatever is kept of their tables

pub same_shows : (old new : Shape) → IsSameShape old new → KeepsShown old new
same_shows old new same entries clears versions with = record {
  below = subst (λ (m : Memory). AreBelow (floor_of m) (flat entries)) (sym same.memory) with.below;
  shows = λ key instant. (λ i. value_at key instant (same.clears i ++ clears_in (parts_of (same.memory i))) (flat entries ++ versions_in (parts_of (same.memory i)))) ∙ with.shows key instant;
}

-- the tree of a keyspace among them, which is the same as this one
abbrev pub SameAt : Forest → ℕ → Shape → Type 0
SameAt trees id shape = (other : Shape) × (tree_at id trees ≡ Some other) × IsSameShape shape other

pub same_at : (old new : Forest) → AreSameTrees old new → (id : ℕ) (shape : Shape) → tree_at id old ≡ Some shape → SameAt new id shape
same_at [] new same id shape at = absurd cc
same_at (j ∷ old) [] same id shape at = absurd same
same_at (j ∷ old) (k ∷ new) same id shape at = by (j.id == id) refl at (same_at old new same.2 id shape)
  where
    by : (is : Bool) → (j.id == id) ≡ is → cond is (Some j.shape) (tree_at id old) ≡ Some shape → (tree_at id old ≡ Some shape → SameAt new id shape)
        → (other : Shape) × (cond (k.id == id) (Some k.shape) (tree_at id new) ≡ Some other) × IsSameShape shape other
    by true e at behind = (
      k.shape,
      ap (λ (n : ℕ). cond (n == id) (Some k.shape) (tree_at id new)) same.0 ∙ ap (λ b. cond b (Some k.shape) (tree_at id new)) e,
      subst (λ (t : Shape). IsSameShape t k.shape) (some_is j.shape shape at) same.1,
    )
    by false e at behind =
        let more = behind at in
        (more.0, ap (λ (n : ℕ). cond (n == id) (Some k.shape) (tree_at id new)) same.0 ∙ ap (λ b. cond b (Some k.shape) (tree_at id new)) e ∙ more.1, more.2)

pub same_stay : (old new : Forest) → AreSameTrees old new → (entries : ℕ → List (List Entry)) (s : Keyspaces) (stored : ℕ → Stored) (batches : List Shown) → AreReplayedWith entries s stored batches old
    → AreReplayedWith entries s stored batches new
same_stay old new same = trees_stay old new (λ id shape at. let other = same_at old new same id shape at in (other.0, other.1, same_shows shape other.0 other.2))

-- ---- a tree that is dropped

-- an id that no keyspace has is none of theirs
not_living : (id : ℕ) (living : List LivingKeyspace) → keyspace_at id living ≡ None → All (λ k. k.id ≢ id) living
not_living id living none =
    All-weaker (λ (k : LivingKeyspace). is_some (keyspace_at k.id living) ≡ true) (λ (k : LivingKeyspace). k.id ≢ id)
    (λ k lives same. true≢false (sym lives ∙ ap (λ (n : ℕ). is_some (keyspace_at n living)) same ∙ ap is_some none)) living (each_lives living)

pub dropped_stay : (id : ℕ) (trees : Forest) (entries : ℕ → List (List Entry)) (s : Keyspaces) (stored : ℕ → Stored) (batches : List Shown) → keyspace_at id s.living ≡ None
    → AreReplayedWith entries s stored batches trees → AreReplayedWith entries s stored batches (without id trees)
dropped_stay id trees entries s stored batches none are = λ i d lt.
    let one = are i d lt in
    (one.0, kept_others id (get_or s.living i d).id trees (not_living id s.living none i d lt) ∙ one.1, one.2)

-- ---- where the same is stored, and the same counts

pub stored_stay : (entries : ℕ → List (List Entry)) (s : Keyspaces) (stored other : ℕ → Stored) (batches : List Shown) (trees : Forest) → All (λ k. other k.id ≡ stored k.id) s.living
    → AreReplayedWith entries s stored batches trees → AreReplayedWith entries s other batches trees
stored_stay entries s stored other batches trees same are = λ i d lt.
    let id = (get_or s.living i d).id in
    let one = are i d lt in
    (one.0, one.1, subst (λ (h : Stored). ShowsWith (entries id) (clears_held s h id batches) (versions_held s h id batches) one.0) (sym (same i d lt)) one.2)

counted_shows : (s t : Keyspaces) (h : Stored) (id : ℕ) (batches : List Shown) (entries : List (List Entry)) (shape : Shape) → ((number : ℕ) → counts t number id ≡ counts s number id)
    → ShowsWith entries (clears_held s h id batches) (versions_held s h id batches) shape → ShowsWith entries (clears_held t h id batches) (versions_held t h id batches) shape
counted_shows s t h id batches entries shape same with = record {
  below = with.below;
  shows = λ key instant.
      with.shows key instant
      ∙ (λ i. value_at key instant (h.clears ++ filter (is_beyond h.persisted) (flat_map (λ b. clear_where (sym (same b.number) i) id b) batches))
      (h.versions ++ filter (λ v. is_beyond h.persisted v.number) (flat_map (λ b. entries_where (sym (same b.number) i) id b) batches)));
}

-- ---- a keyspace that is deleted

pub deleted_stay : (id : ℕ) (entries : ℕ → List (List Entry)) (s : Keyspaces) (stored : ℕ → Stored) (batches : List Shown) (trees : Forest) → AreReplayedWith entries s stored batches trees
    → AreReplayedWith entries (without_keyspace id s) stored batches trees
deleted_stay id entries s stored batches trees are = λ i d lt.
    let k : LivingKeyspace = get_or less.living i d in
    let one = All-filter (λ (j : LivingKeyspace). not (j.id == id)) (λ (j : LivingKeyspace). Is j) s.living are i d lt in
    let kept = filter_passes (λ (j : LivingKeyspace). not (j.id == id)) s.living i d lt in
    let other : (k.id == id) ≡ false = grind (arith, nat_tests) in
    (one.0, one.1, counted_shows s less (stored k.id) k.id batches (entries k.id) one.0 (λ n. Keeping.others_count id s n k.id other) one.2)
  where
    less : Keyspaces
    less = without_keyspace id s

    Is : LivingKeyspace → Type 0
    Is k = (shape : Shape) × (tree_at k.id trees ≡ Some shape) × ShowsWith (entries k.id) (clears_held s (stored k.id) k.id batches) (versions_held s (stored k.id) k.id batches) shape

-- ---- a keyspace that is made

module _ (name : Bytes) (options : List Bytes) (number : ℕ) (s : Keyspaces) (all : AreKeyspaces s) (entries : ℕ → List (List Entry)) (stored : ℕ → Stored) (batches : List Shown) (trees : Forest) where
  abbrev more : Keyspaces
  more = with_keyspace name options number s

  abbrev planted : Forest
  planted = with_tree s.next number trees

  abbrev Is : LivingKeyspace → Type 0
  Is k =
      (shape : Shape) × (tree_at k.id planted ≡ Some shape) × ShowsWith (entries k.id) (clears_held more (stored k.id) k.id batches) (versions_held more (stored k.id) k.id batches) shape

  -- the others have what they had
  others_stay : AreReplayedWith entries s stored batches trees → All Is s.living
  others_stay are = λ i d lt.
      let k : LivingKeyspace = get_or s.living i d in
      let one = are i d lt in
      let given : k.id < s.next = all.given i d lt in
      let other : (k.id == s.next) ≡ false = grind (arith, nat_tests) in (
        one.0,
        tree_with k.id trees (record { id = s.next; shape = bare_tree number }) ∙ ap (λ (o : Option Shape). option_or o (cond (s.next == k.id) (Some (bare_tree number)) None)) one.1,
        counted_shows s more (stored k.id) k.id batches (entries k.id) one.0 (λ n. Creating.others_count name options number s all n k.id other) one.2,
      )

  -- nothing of the batches counts for the new one
  none_count : All (λ b. b.number < number) batches → All (λ b. (counts more b.number s.next && is_beyond (stored s.next).persisted b.number) ≡ false) batches
  none_count older =
      All-weaker (λ b. b.number < number) (λ b. (counts more b.number s.next && is_beyond (stored s.next).persisted b.number) ≡ false)
      (λ b before. ap (λ c. c && is_beyond (stored s.next).persisted b.number) (Creating.older_is_out name options number s all b.number before)) batches older

  new_shown : All (λ k. k.id < s.next) trees → All (λ b. b.number < number) batches → IsUnstored entries stored s.next → Is (record { id = s.next; number = number; name = name; options = options })
  new_shown given older new =
      let h = stored s.next in
      let p = is_beyond h.persisted in
      let clears : clears_held more h s.next batches ≡ [] = λ i. new.clears i ++ no_clears p more s.next batches (none_count older) i in
      let versions : versions_held more h s.next batches ≡ [] = λ i. new.versions i ++ no_versions p more s.next batches (none_count older) i in (
        bare_tree number,
        tree_with s.next trees (record { id = s.next; shape = bare_tree number })
            ∙ ap (λ (o : Option Shape). option_or o (cond (s.next == s.next) (Some (bare_tree number)) None)) (no_tree s.next trees given)
            ∙ cond-true (s.next == s.next) (Some (bare_tree number)) None (eq-eqb s.next s.next refl),
        record {
          below = subst (λ (es : List (List Entry)). AreBelow number (flat es)) (sym new.tables) (All-nil (λ (v : Entry). v.number < number));
          shows = λ key instant. (λ i. value_at key instant [] (flat (new.tables i) ++ [])) ∙ (λ i. value_at key instant (sym clears i) (sym versions i));
        },
      )

  pub created_stay : All (λ k. k.id < s.next) trees → All (λ b. b.number < number) batches → IsUnstored entries stored s.next → AreReplayedWith entries s stored batches trees → AreReplayedWith entries more stored batches planted
  created_stay given older new are = All-push Is s.living (record { id = s.next; number = number; name = name; options = options }) (others_stay are) (new_shown given older new)
