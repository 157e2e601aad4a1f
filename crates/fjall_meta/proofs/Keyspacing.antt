-- Keyspaces made and deleted, and batches that no longer count.
use Rattle.std.proofs.Common.{◌≡◌, ℕ, ◌<◌, ◌^◌, ◌&&◌, false, cond, List, [], ◌++◌, filter, All, None, Some, refl, sym, ◌∙◌, ap}
use Rattle.std.proofs.lemmas.List.{append-nil}
use Rattle.std.proofs.lemmas.List.Elements.{All-weaker}
use Rattle.std.specs.List.{flat_map}
use Rattle.std.specs.Option.{option_map}
use Rattle.std.specs.FinMap.{empty}
use Rattle.fjall_base.specs.Store.{Create, Delete, apply, kept}
use Rattle.fjall_journal.specs.Batches.{Shown}
use Rattle.fjall_meta.specs.declared.living.LivingKeyspace.{LivingKeyspace}
use Rattle.fjall_meta.specs.Keyspaces.{AreKeyspaces, Keyspaces, keyspace_at, with_keyspace, without_keyspace}
use Rattle.fjall_table.specs.Blocks.{Entry}
use Rattle.fjall_meta.specs.Replays.{counts, option_pairs}
use Rattle.fjall_meta.specs.Views.{clears_of, versions_of}
use Rattle.fjall_meta.proofs.Creating as Creating
use Rattle.fjall_meta.proofs.Keeping as Keeping
use Rattle.fjall_meta.proofs.Kept.{all_are_kept}
use Rattle.fjall_meta.proofs.LivingContents.{found_new, found_other, found_without}
use Rattle.fjall_memtable.specs.Views.{view_of}
use Rattle.fjall_meta.specs.Contents.{Stored, clears_held, counts_beyond, is_beyond, map_held, store_held, versions_held}
use Rattle.fjall_meta.proofs.Beyond.{clear_where, clears_more, entries_where, no_clears, no_versions, versions_more}
use Rattle.fjall_meta.proofs.Held.{held_at, same_stores}

-- where the same counts the map is the same
same_counts : (s t : Keyspaces) (h : Stored) (id : ℕ) (batches : List Shown) → ((number : ℕ) → counts s number id ≡ counts t number id)
    → map_held s h id batches ≡ map_held t h id batches
same_counts s t h id batches same =
    λ i. view_of (2 ^ 63) (h.clears ++ filter (is_beyond h.persisted) (flat_map (λ b. clear_where (same b.number i) id b) batches))
    (h.versions ++ filter (λ v. is_beyond h.persisted v.number) (flat_map (λ b. entries_where (same b.number i) id b) batches))

-- ---- what is kept

pub nothing_to_keep : (s : Keyspaces) (stored : ℕ → Stored) (batches : List Shown) → kept (store_held s stored batches) ≡ store_held s stored batches
nothing_to_keep s stored batches =
    all_are_kept (store_held s stored batches) (λ id none. Keeping.nothing_at (λ k. map_held s (stored k.id) k.id batches) s id none)
    (λ id none. Keeping.nothing_at (λ k. option_pairs k.options) s id none)

-- ---- one keyspace more

pub creation : (name : List ℕ) (options : List (List ℕ)) (number : ℕ) (s : Keyspaces) → AreKeyspaces s → (stored : ℕ → Stored) (batches : List Shown)
    → (stored s.next).versions ≡ [] → All (λ b. b.number < number) batches
    → store_held (with_keyspace name options number s) stored batches ≡ apply (store_held s stored batches) (Create name (option_pairs options))
creation name options number s all stored batches nothing older =
    Creating.created name options number s all (store_held more stored batches) (store_held s stored batches) refl refl refl refl refl refl
    (held_at more stored batches s.next ∙ ap (option_map (λ (k : LivingKeyspace). map_held more (stored s.next) s.next batches)) (found_new s.living new fresh) ∙ ap Some begun)
    (λ id other.
    held_at more stored batches id
    ∙ ap (option_map (λ (k : LivingKeyspace). map_held more (stored id) id batches)) (found_other s.living new id (Creating.turned name options number s all id other))
    ∙ ap (λ pairs. option_map (λ (k : LivingKeyspace). pairs) (keyspace_at id s.living))
    (same_counts more s (stored id) id batches (λ n. Creating.others_count name options number s all n id other))
    ∙ sym (held_at s stored batches id))
  where
    more : Keyspaces
    more = with_keyspace name options number s

    new : LivingKeyspace
    new = record { id = s.next; number = number; name = name; options = options }

    fresh : keyspace_at s.next s.living ≡ None
    fresh = Creating.fresh name options number s all

    none : filter (λ v. is_beyond (stored s.next).persisted v.number) (versions_of more s.next batches) ≡ []
    none =
        no_versions (is_beyond (stored s.next).persisted) more s.next batches
        (All-weaker (λ b. b.number < number) (λ b. (counts more b.number s.next && is_beyond (stored s.next).persisted b.number) ≡ false)
        (λ b older_here. ap (λ c. c && is_beyond (stored s.next).persisted b.number) (Creating.older_is_out name options number s all b.number older_here)) batches older)

    begun : map_held more (stored s.next) s.next batches ≡ empty
    begun = ap (view_of (2 ^ 63) (clears_held more (stored s.next) s.next batches)) (λ i. nothing i ++ none i)

-- ---- one keyspace less

pub deletion : (id : ℕ) (s : Keyspaces) (stored : ℕ → Stored) (batches : List Shown)
    → store_held (without_keyspace id s) stored batches ≡ kept (apply (store_held s stored batches) (Delete id))
deletion id s stored batches =
    sym (nothing_to_keep less stored batches)
    ∙ Keeping.deleted id s (store_held less stored batches) (store_held s stored batches) refl refl refl refl refl refl
    (λ q other.
    held_at less stored batches q
    ∙ ap (option_map (λ (k : LivingKeyspace). map_held less (stored q) q batches)) (found_without s.living id q ∙ ap (λ b. cond b None (keyspace_at q s.living)) other)
    ∙ ap (λ pairs. option_map (λ (k : LivingKeyspace). pairs) (keyspace_at q s.living))
    (same_counts less s (stored q) q batches (λ n. Keeping.others_count id s n q other))
    ∙ sym (held_at s stored batches q))
  where
    less : Keyspaces
    less = without_keyspace id s

-- ---- batches that may go

same_map_behind : (s : Keyspaces) (h : Stored) (id : ℕ) (front behind : List Shown)
    → All (λ b. (counts s b.number id && is_beyond h.persisted b.number) ≡ false) front → map_held s h id (front ++ behind) ≡ map_held s h id behind
same_map_behind s h id front behind none = λ i. view_of (2 ^ 63) (clears i) (versions i)
  where
    clears : clears_held s h id (front ++ behind) ≡ clears_held s h id behind
    clears =
        let rest = filter (is_beyond h.persisted) (clears_of s id behind) in
        clears_more s h id front behind ∙ ap (λ l. (h.clears ++ l) ++ rest) (no_clears (is_beyond h.persisted) s id front none)
        ∙ ap (λ l. l ++ rest) (append-nil h.clears)

    versions : versions_held s h id (front ++ behind) ≡ versions_held s h id behind
    versions =
        let rest = filter (λ (v : Entry). is_beyond h.persisted v.number) (versions_of s id behind) in
        versions_more s h id front behind ∙ ap (λ l. (h.versions ++ l) ++ rest) (no_versions (is_beyond h.persisted) s id front none)
        ∙ ap (λ l. l ++ rest) (append-nil h.versions)

pub stored_batches_may_go : (s : Keyspaces) (stored : ℕ → Stored) (front behind : List Shown)
    → All (λ b. All (λ k. counts_beyond s stored b.number k.id ≡ false) s.living) front
    → store_held s stored (front ++ behind) ≡ store_held s stored behind
stored_batches_may_go s stored front behind none =
    same_stores s stored stored (front ++ behind) behind
    (All-weaker (λ k. All (λ b. counts_beyond s stored b.number k.id ≡ false) front)
    (λ k. map_held s (stored k.id) k.id (front ++ behind) ≡ map_held s (stored k.id) k.id behind)
    (λ k each. same_map_behind s (stored k.id) k.id front behind each) s.living (λ j k here i b there. none i b there j k here))
