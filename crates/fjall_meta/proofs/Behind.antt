-- What batches leave at one id, by what counts there.
use Rattle.std.proofs.Common.{◌≡◌, ℕ, ◌==◌, ◌&&◌, Bool, true, false, cond, not, List, [], ◌∷◌, map, filter, All, Option, refl, sym, ◌∙◌, ap}
use Rattle.std.proofs.lemmas.List.Elements.{All-head, All-tail}
use Rattle.std.specs.List.{list_any}
use Rattle.std.specs.FinMap.{get}
use Rattle.fjall_base.specs.Pairs.{Pairs}
use Rattle.fjall_base.specs.Store.{Store}
use Rattle.fjall_journal.specs.Batches.{Shown}
use Rattle.fjall_meta.specs.Keyspaces.{Keyspaces}
use Rattle.fjall_meta.specs.Replays.{bare, counts, store_in}
use Rattle.fjall_meta.specs.Versions.{Version, version_of, versions_after, versions_behind, versions_in}
use Rattle.fjall_meta.proofs.Slots.{SameButMaps, writes_maps, slot_after, slot_at, slot-append, slot-filter}
use Rattle.fjall_meta.proofs.Replaying.{among, replay_makes_the_store}

-- what a batch leaves at an id, where its word counts and where not
abbrev pub slot_step : Bool → Bool → Option Pairs → ℕ → List Version → Option Pairs → Option Pairs
slot_step counted is_cleared none id made slot = cond counted (slot_after (cond is_cleared none slot) id made) slot

by_what_counts : (counted is_cleared : Bool) (nothing : Option Pairs) (id : ℕ) (made : List Version) (slot : Option Pairs)
    → cond counted (slot_after (cond (not (counted && is_cleared)) slot nothing) id made) (cond (not (counted && is_cleared)) slot nothing) ≡ slot_step counted is_cleared nothing id made slot
by_what_counts true true nothing id made slot = refl
by_what_counts true false nothing id made slot = refl
by_what_counts false is_cleared nothing id made slot = refl

-- after a batch
pub after_at : (s : Keyspaces) (versions : List Version) (batch : Shown) (nothing : Option Pairs) (id : ℕ)
    → slot_after nothing id (versions_after s versions batch)
    ≡ slot_step (counts s batch.number id) (list_any (λ k. k == id) batch.clears) nothing id (map (version_of batch.number) batch.items) (slot_after nothing id versions)
after_at s versions batch nothing id =
    let counted = counts s batch.number in
    let ids = filter counted batch.clears in
    let made = map (version_of batch.number) batch.items in
    let slot = slot_after nothing id versions in
    let left = λ (b : Bool). cond (not b) slot nothing in
    let rest = filter (λ (v : Version). not (list_any (λ (q : ℕ). q == v.keyspace_id) ids)) versions in
    slot-append nothing id rest (versions_in s batch.number batch.items)
    ∙ slot-filter made counted (slot_after nothing id rest) id
    ∙ ap (λ before. cond (counted id) (slot_after before id made) before) (slot-filter versions (λ q. not (list_any (λ k. k == q) ids)) nothing id ∙ ap left (among counted batch.clears id))
    ∙ by_what_counts (counted id) (list_any (λ k. k == id) batch.clears) nothing id made slot

-- where the same counts, the same is left
pub same_behind : (s t : Keyspaces) (nothing : Option Pairs) (id : ℕ) (batches : List Shown) → All (λ b. counts s b.number id ≡ counts t b.number id) batches → (versions others : List Version)
    → slot_after nothing id versions ≡ slot_after nothing id others → slot_after nothing id (versions_behind s versions batches) ≡ slot_after nothing id (versions_behind t others batches)
same_behind s t nothing id [] alike versions others same = same
same_behind s t nothing id (batch ∷ batches) alike versions others same =
    let is_cleared = list_any (λ (k : ℕ). k == id) batch.clears in
    let made = map (version_of batch.number) batch.items in
    let slot = slot_after nothing id versions in
    same_behind s t nothing id batches (All-tail (λ b. counts s b.number id ≡ counts t b.number id) batch batches alike) (versions_after s versions batch) (versions_after t others batch)
    (after_at s versions batch nothing id
    ∙ ap (λ c. slot_step c is_cleared nothing id made slot) (All-head (λ b. counts s b.number id ≡ counts t b.number id) batch batches alike)
    ∙ ap (λ o. slot_step (counts t batch.number id) is_cleared nothing id made o) same
    ∙ sym (after_at t others batch nothing id))

-- where nothing counts, nothing changes
pub none_behind : (s : Keyspaces) (nothing : Option Pairs) (id : ℕ) (batches : List Shown) → All (λ b. counts s b.number id ≡ false) batches → (versions : List Version)
    → slot_after nothing id versions ≡ nothing → slot_after nothing id (versions_behind s versions batches) ≡ nothing
none_behind s nothing id [] never versions same = same
none_behind s nothing id (batch ∷ batches) never versions same =
    let is_cleared = list_any (λ (k : ℕ). k == id) batch.clears in
    let made = map (version_of batch.number) batch.items in
    none_behind s nothing id batches (All-tail (λ b. counts s b.number id ≡ false) batch batches never) (versions_after s versions batch)
    (after_at s versions batch nothing id ∙ ap (λ c. slot_step c is_cleared nothing id made (slot_after nothing id versions)) (All-head (λ b. counts s b.number id ≡ false) batch batches never) ∙ same)

-- what the store of batches has at an id
pub stored_at : (s : Keyspaces) (batches : List Shown) (id : ℕ) → get (store_in s batches).maps id ≡ slot_after (get (bare s).maps id) id (versions_behind s [] batches)
stored_at s batches id = ap (λ (t : Store). get t.maps id) (replay_makes_the_store s batches) ∙ slot_at (versions_behind s [] batches) (bare s) id

-- batches change maps alone
pub batches_change_maps : (s : Keyspaces) (batches : List Shown) → SameButMaps (store_in s batches) (bare s)
batches_change_maps s batches =
    let is = replay_makes_the_store s batches in
    let rest = writes_maps (versions_behind s [] batches) (bare s) in
    (ap (λ (t : Store). t.names) is ∙ rest.0, ap (λ (t : Store). t.options) is ∙ rest.1, ap (λ (t : Store). t.next) is ∙ rest.2)
