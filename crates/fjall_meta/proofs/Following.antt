-- Batches behind others are their commands more.
use Rattle.std.proofs.Common.{◌≡◌, ℕ, ◌+◌, ◌<◌, ◌≤◌, ◌^◌, ◌==◌, ◌&&◌, Bool, true, false, cond, List, [], ◌∷◌, ◌++◌, map, filter, All, Option, None, Some, refl, sym, ◌∙◌, ap, subst, append_assoc, arith}
use Rattle.std.proofs.lemmas.Bool.{and_parts}
use Rattle.std.proofs.lemmas.List.{append-nil}
use Rattle.std.proofs.lemmas.List.Elements.{All-cons, All-head, All-nil, All-tail, All-weaker}
use Rattle.std.specs.List.{list_any}
use Rattle.std.specs.Option.{option_map}
use Rattle.std.specs.FinMap.{empty, get}
use Rattle.fjall_base.specs.Pairs.{Pairs, altered}
use Rattle.fjall_base.specs.Store.{Store, fold}
use Rattle.fjall_journal.specs.Batches.{Shown}
use Rattle.fjall_meta.specs.declared.living.LivingKeyspace.{LivingKeyspace}
use Rattle.fjall_meta.specs.Keyspaces.{Keyspaces, keyspace_at}
use Rattle.fjall_meta.specs.Replays.{bare, commands_of, counts, fault_of, first_fault, journal_commands, least_after, store_in}
use Rattle.fjall_meta.specs.Versions.{Version, version_of}
use Rattle.fjall_meta.specs.Views.{clear_in, entries_in}
use Rattle.fjall_meta.proofs.Behind.{slot_step}
use Rattle.fjall_meta.proofs.ContentFaults.{first_fault-append}
use Rattle.fjall_meta.proofs.LivingContents.{counts_of, get_by_id, no_pairs}
use Rattle.fjall_meta.proofs.Slots.{fold-append, same_store, slot_after}
use Rattle.fjall_meta.proofs.Viewing.{as_view, held, no_fault, number_fits, step_view}
use Rattle.fjall_memtable.specs.Views.{view_of}
use Rattle.fjall_memtable.proofs.Shown.{is_view, one_view}
use Rattle.fjall_memtable.proofs.Tests.{all_of}
use Rattle.fjall_meta.specs.Contents.{AreWithin, IsWithin, Stored, clears_held, commands_beyond, counts_beyond, is_beyond, journal_beyond, map_held, nothing_stored, store_held, versions_held}
use Rattle.fjall_meta.proofs.Beyond.{clear_beyond, clear_where, clears_are_below, clears_more, entries_beyond, entries_where, versions_are_below, versions_more}
use Rattle.fjall_meta.proofs.Commanding.{commands_at, commands_change_maps, commands_where}
use Rattle.fjall_meta.proofs.Ids.{living_has}
use Rattle.fjall_meta.proofs.Held.{held_at, others_have_none}

-- ---- numbers

-- batches without a fault are numbered below what may follow them
pub before_least : (least : ℕ) (batches : List Shown) → first_fault least batches ≡ None
    → (least ≤ least_after least batches) × All (λ b. b.number < least_after least batches) batches
before_least least [] sound = (omega arith, All-nil (λ b. b.number < least))
before_least least (b ∷ batches) sound =
    let parts = no_fault (fault_of least b) (first_fault (b.number + 1) batches) sound in
    let from : least ≤ b.number = (number_fits least b parts.0).0 in
    let rest = before_least (b.number + 1) batches parts.1 in
    let up_to : b.number + 1 ≤ least_after (b.number + 1) batches = rest.0 in
    (omega arith, All-cons (λ c. c.number < least_after (b.number + 1) batches) b batches (omega arith) rest.1)

-- so the last one has the greatest number, and that is below 2^63
last_number : (least : ℕ) (batches : List Shown) (b : Shown) → first_fault least (batches ++ b ∷ []) ≡ None
    → All (λ c. c.number < b.number) batches × (b.number < 2 ^ 63)
last_number least batches b sound =
    let parts = no_fault (first_fault least batches) (first_fault (least_after least batches) (b ∷ [])) (sym (first_fault-append least batches (b ∷ [])) ∙ sound) in
    let fits = number_fits (least_after least batches) b (no_fault (fault_of (least_after least batches) b) None parts.1).0 in
    let from : least_after least batches ≤ b.number = fits.0 in
    (All-weaker (λ c. c.number < least_after least batches) (λ c. c.number < b.number) (λ c h. omega arith) batches (before_least least batches parts.0).1, fits.1)

-- ---- one map

-- where there was a map there is one
pub some_after : (pairs : Pairs) (id : ℕ) (versions : List Version) → Some (held (slot_after (Some pairs) id versions)) ≡ slot_after (Some pairs) id versions
some_after pairs id [] = refl
some_after pairs id (v ∷ versions) = by (id == v.keyspace_id) (some_after pairs id versions) (some_after (altered pairs v.key v.value) id versions)
  where
    by : (b : Bool) → Some (held (slot_after (Some pairs) id versions)) ≡ slot_after (Some pairs) id versions
        → Some (held (slot_after (Some (altered pairs v.key v.value)) id versions)) ≡ slot_after (Some (altered pairs v.key v.value)) id versions
        → Some (held (slot_after (cond b (Some (altered pairs v.key v.value)) (Some pairs)) id versions))
        ≡ slot_after (cond b (Some (altered pairs v.key v.value)) (Some pairs)) id versions
    by true without with = with
    by false without with = without

one_more_map : (s : Keyspaces) (h : Stored) (id : ℕ) (batches : List Shown) (b : Shown) → IsWithin h → All (λ c. c.number < b.number) batches → b.number < 2 ^ 63
    → Some (map_held s h id (batches ++ b ∷ []))
    ≡ slot_step (counts s b.number id && is_beyond h.persisted b.number) (list_any (λ k. k == id) b.clears) (Some empty) id (map (version_of b.number) b.items)
    (Some (map_held s h id batches))
one_more_map s h id batches b within before low = by (counts s b.number id && is_beyond h.persisted b.number) (list_any (λ k. k == id) b.clears) refl refl
  where
    pairs : Pairs
    pairs = map_held s h id batches

    clears : (c : Bool) → (counts s b.number id && is_beyond h.persisted b.number) ≡ c → clears_held s h id (batches ++ b ∷ []) ≡ clears_held s h id batches ++ clear_where c id b
    clears c e =
        clears_more s h id batches (b ∷ [])
        ∙ ap (λ l. clears_held s h id batches ++ l)
        (ap (filter (is_beyond h.persisted)) (append-nil (clear_in s id b)) ∙ clear_beyond (is_beyond h.persisted) s id b ∙ ap (λ x. clear_where x id b) e)

    versions : (c : Bool) → (counts s b.number id && is_beyond h.persisted b.number) ≡ c
        → versions_held s h id (batches ++ b ∷ []) ≡ versions_held s h id batches ++ entries_where c id b
    versions c e =
        versions_more s h id batches (b ∷ [])
        ∙ ap (λ l. versions_held s h id batches ++ l)
        (ap (filter (λ v. is_beyond h.persisted v.number)) (append-nil (entries_in s id b)) ∙ entries_beyond (is_beyond h.persisted) s id b ∙ ap (λ x. entries_where x id b) e)

    -- a batch that counts
    stepped : (is_cleared : Bool) → (counts s b.number id && is_beyond h.persisted b.number) ≡ true → list_any (λ k. k == id) b.clears ≡ is_cleared
        → map_held s h id (batches ++ b ∷ []) ≡ held (slot_step true is_cleared (Some empty) id (map (version_of b.number) b.items) (Some pairs))
    stepped is_cleared e f =
        let beyond = (and_parts (counts s b.number id) (is_beyond h.persisted b.number) e).1 in
        one_view (2 ^ 63) (clears_held s h id batches ++ cond is_cleared (b.number ∷ []) []) (versions_held s h id batches ++ entries_where true id b)
        (map_held s h id (batches ++ b ∷ [])) (held (slot_step true is_cleared (Some empty) id (map (version_of b.number) b.items) (Some pairs)))
        (as_view (2 ^ 63) (clears true e ∙ ap (λ x. clears_held s h id batches ++ cond x (b.number ∷ []) []) f) (versions true e) (map_held s h id (batches ++ b ∷ []))
        (is_view (2 ^ 63) (clears_held s h id (batches ++ b ∷ [])) (versions_held s h id (batches ++ b ∷ []))))
        (step_view id (2 ^ 63) b (Some empty) (Some pairs) (clears_held s h id batches) (versions_held s h id batches) refl low
        (clears_are_below s h id batches b.number within beyond before) (versions_are_below s h id batches b.number within beyond before)
        (is_view (2 ^ 63) (clears_held s h id batches) (versions_held s h id batches)) true is_cleared)

    by : (c is_cleared : Bool) → (counts s b.number id && is_beyond h.persisted b.number) ≡ c → list_any (λ k. k == id) b.clears ≡ is_cleared
        → Some (map_held s h id (batches ++ b ∷ [])) ≡ slot_step c is_cleared (Some empty) id (map (version_of b.number) b.items) (Some pairs)
    by true true e f = ap Some (stepped true e f) ∙ some_after empty id (map (version_of b.number) b.items)
    by true false e f = ap Some (stepped false e f) ∙ some_after pairs id (map (version_of b.number) b.items)
    by false is_cleared e f =
        let same_clears = clears false e ∙ append-nil (clears_held s h id batches) in
        let same_versions = versions false e ∙ append-nil (versions_held s h id batches) in
        λ i. Some (view_of (2 ^ 63) (same_clears i) (same_versions i))

-- ---- one batch

pub one_more_batch : (s : Keyspaces) (stored : ℕ → Stored) → AreWithin s stored → (least : ℕ) (batches : List Shown) (b : Shown)
    → first_fault least (batches ++ b ∷ []) ≡ None
    → store_held s stored (batches ++ b ∷ []) ≡ fold (store_held s stored batches) (commands_beyond s stored b)
one_more_batch s stored within least batches b sound =
    let rest = commands_change_maps before (counts_beyond s stored b.number) b in
    same_store (store_held s stored (batches ++ b ∷ [])) (fold before (commands_beyond s stored b)) (sym rest.0)
    (λ id. held_at s stored (batches ++ b ∷ []) id ∙ by id (keyspace_at id s.living) refl ∙ sym (commands_at before (counts_beyond s stored b.number) b id))
    (sym rest.1) (sym rest.2)
  where
    before : Store
    before = store_held s stored batches

    after : ℕ → Option Pairs → Option Pairs
    after id slot = slot_step (counts_beyond s stored b.number id) (list_any (λ k. k == id) b.clears) (Some empty) id (map (version_of b.number) b.items) slot

    by : (id : ℕ) (found : Option LivingKeyspace) → keyspace_at id s.living ≡ found
        → option_map (λ (k : LivingKeyspace). map_held s (stored id) id (batches ++ b ∷ [])) found ≡ after id (get before.maps id)
    by id None e =
        sym (others_have_none s stored batches id e)
        ∙ sym (ap (λ (f : Option LivingKeyspace). slot_step (counts_of b.number f && is_beyond (stored id).persisted b.number)
        (list_any (λ k. k == id) b.clears) (Some empty) id (map (version_of b.number) b.items) (get before.maps id)) e)
    by id (Some k) e =
        let numbers = last_number least batches b sound in
        one_more_map s (stored id) id batches b (living_has (λ j. IsWithin (stored j)) s.living id k e within) numbers.0 numbers.1
        ∙ ap (after id) (sym (held_at s stored batches id ∙ ap (option_map (λ (j : LivingKeyspace). map_held s (stored id) id batches)) e))

with_true : (a b : Bool) → b ≡ true → (a && b) ≡ a
with_true true b e = e
with_true false b e = refl

-- beyond all that is stored it is all that it commands
pub beyond_all : (s : Keyspaces) (stored : ℕ → Stored) (b : Shown) → All (λ k. is_beyond (stored k.id).persisted b.number ≡ true) s.living
    → commands_beyond s stored b ≡ commands_of s b
beyond_all s stored b beyond = λ i. commands_where (λ id. each id (keyspace_at id s.living) refl i) b
  where
    each : (id : ℕ) (found : Option LivingKeyspace) → keyspace_at id s.living ≡ found → counts_beyond s stored b.number id ≡ counts s b.number id
    each id None e =
        ap (λ (f : Option LivingKeyspace). counts_of b.number f && is_beyond (stored id).persisted b.number) e ∙ sym (ap (counts_of b.number) e)
    each id (Some k) e =
        with_true (counts s b.number id) (is_beyond (stored id).persisted b.number)
        (living_has (λ j. is_beyond (stored j).persisted b.number ≡ true) s.living id k e beyond)

pub batches_beyond_all : (s : Keyspaces) (stored : ℕ → Stored) (batches : List Shown)
    → All (λ b. All (λ k. is_beyond (stored k.id).persisted b.number ≡ true) s.living) batches
    → journal_beyond s stored batches ≡ journal_commands s batches
batches_beyond_all s stored [] beyond = refl
batches_beyond_all s stored (b ∷ batches) beyond =
    let first = beyond_all s stored b (All-head (λ c. All (λ k. is_beyond (stored k.id).persisted c.number ≡ true) s.living) b batches beyond) in
    let rest = batches_beyond_all s stored batches (All-tail (λ c. All (λ k. is_beyond (stored k.id).persisted c.number ≡ true) s.living) b batches beyond) in
    λ i. first i ++ rest i

-- ---- more batches

pub batches_follow : (s : Keyspaces) (stored : ℕ → Stored) → AreWithin s stored → (least : ℕ) (front behind : List Shown)
    → first_fault least (front ++ behind) ≡ None
    → store_held s stored (front ++ behind) ≡ fold (store_held s stored front) (journal_beyond s stored behind)
batches_follow s stored within least front [] sound = ap (store_held s stored) (append-nil front)
batches_follow s stored within least front (b ∷ behind) sound =
    let same = append_assoc front (b ∷ []) behind in
    let whole = ap (first_fault least) same ∙ sound in
    let first = (no_fault (first_fault least (front ++ b ∷ [])) (first_fault (least_after least (front ++ b ∷ [])) behind)
    (sym (first_fault-append least (front ++ b ∷ []) behind) ∙ whole)).0 in
    ap (store_held s stored) (sym same) ∙ batches_follow s stored within least (front ++ b ∷ []) behind whole
    ∙ ap (λ t. fold t (journal_beyond s stored behind)) (one_more_batch s stored within least front b first)
    ∙ sym (fold-append (store_held s stored front) (commands_beyond s stored b) (journal_beyond s stored behind))

-- ---- nothing stored

nothing_held : (s : Keyspaces) (stored : ℕ → Stored) → All (λ k. stored k.id ≡ nothing_stored) s.living → store_held s stored [] ≡ bare s
nothing_held s stored none =
    same_store (store_held s stored []) (bare s) refl
    (λ id. held_at s stored [] id ∙ by id (keyspace_at id s.living) refl ∙ sym (get_by_id no_pairs s.living id)) refl refl
  where
    by : (id : ℕ) (found : Option LivingKeyspace) → keyspace_at id s.living ≡ found
        → option_map (λ (k : LivingKeyspace). map_held s (stored id) id []) found ≡ option_map no_pairs found
    by id None e = refl
    by id (Some k) e = ap (λ h. Some (map_held s h id [])) (living_has (λ j. stored j ≡ nothing_stored) s.living id k e none)

-- the journals tell all
pub without_tables : (s : Keyspaces) (stored : ℕ → Stored) → All (λ k. stored k.id ≡ nothing_stored) s.living → (least : ℕ) (batches : List Shown)
    → first_fault least batches ≡ None → store_held s stored batches ≡ store_in s batches
without_tables s stored none least batches sound =
    batches_follow s stored within least [] batches sound
    ∙ ap (λ t. fold t (journal_beyond s stored batches)) (nothing_held s stored none)
    ∙ ap (fold (bare s)) (batches_beyond_all s stored batches (all_of (λ b. All (λ k. is_beyond (stored k.id).persisted b.number ≡ true) s.living) batches beyond))
  where
    within : AreWithin s stored
    within =
        All-weaker (λ k. stored k.id ≡ nothing_stored) (λ k. IsWithin (stored k.id))
        (λ k e. subst IsWithin (sym e) (All-nil (λ v. is_beyond None v.number ≡ false), All-nil (λ n. is_beyond None n ≡ false))) s.living none

    beyond : (b : Shown) → All (λ k. is_beyond (stored k.id).persisted b.number ≡ true) s.living
    beyond b =
        All-weaker (λ k. stored k.id ≡ nothing_stored) (λ k. is_beyond (stored k.id).persisted b.number ≡ true)
        (λ k e. ap (λ h. is_beyond h.persisted b.number) e) s.living none
