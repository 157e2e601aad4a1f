-- What clears and writes of some ids do to a store.
use Rattle.std.proofs.Common.{◌≡◌, ℕ, ◌==◌, ◌&&◌, Bool, true, false, cond, List, ◌++◌, map, filter, Option, Some, refl, ◌∙◌, ap}
use Rattle.std.specs.List.{list_any}
use Rattle.std.specs.FinMap.{empty, get}
use Rattle.fjall_base.specs.Pairs.{Pairs}
use Rattle.fjall_base.specs.Store.{Clear, Command, Store, fold}
use Rattle.fjall_journal.specs.Batches.{Shown}
use Rattle.fjall_meta.specs.Replays.{item_of, writing}
use Rattle.fjall_meta.specs.Versions.{Version, command_of, version_of}
use Rattle.fjall_meta.proofs.Behind.{slot_step}
use Rattle.fjall_meta.proofs.Replaying.{among, clears_at, items_make}
use Rattle.fjall_meta.proofs.Slots.{SameButMaps, clears_maps, fold-append, slot_after, slot_at, slot-filter, writes_maps}

-- the clears of a batch, and then its items as one write, of the ids that pass a test
abbrev pub commands_where : (ℕ → Bool) → Shown → List Command
commands_where counted b = map Clear (filter counted b.clears) ++ writing (map item_of (filter (λ item. counted item.keyspace_id) b.items))

-- its versions of these ids
made_where : (ℕ → Bool) → Shown → List Version
made_where counted b = filter (λ v. counted v.keyspace_id) (map (version_of b.number) b.items)

-- version upon version
one_by_one : (t : Store) (counted : ℕ → Bool) (b : Shown)
    → fold t (commands_where counted b) ≡ fold (fold t (map Clear (filter counted b.clears))) (map command_of (made_where counted b))
unfolding made_where
one_by_one t counted b =
    fold-append t (map Clear (filter counted b.clears)) (writing (map item_of (filter (λ item. counted item.keyspace_id) b.items)))
    ∙ items_make counted b.number b.items (fold t (map Clear (filter counted b.clears)))

-- at each id
pub commands_at : (t : Store) (counted : ℕ → Bool) (b : Shown) (id : ℕ)
    → get (fold t (commands_where counted b)).maps id
    ≡ slot_step (counted id) (list_any (λ k. k == id) b.clears) (Some empty) id (map (version_of b.number) b.items) (get t.maps id)
unfolding made_where
commands_at t counted b id =
    ap (λ (u : Store). get u.maps id) (one_by_one t counted b)
    ∙ slot_at (made_where counted b) cleared id
    ∙ slot-filter made counted (get cleared.maps id) id
    ∙ ap (λ slot. cond (counted id) (slot_after slot id made) slot)
    (clears_at (filter counted b.clears) t id ∙ ap (λ c. cond c (Some empty) (get t.maps id)) (among counted b.clears id))
    ∙ by (counted id) (list_any (λ k. k == id) b.clears)
  where
    cleared : Store
    cleared = fold t (map Clear (filter counted b.clears))

    made : List Version
    made = map (version_of b.number) b.items

    left : Bool → Bool → Option Pairs
    left counts is_cleared = cond (counts && is_cleared) (Some empty) (get t.maps id)

    by : (counts is_cleared : Bool)
        → cond counts (slot_after (left counts is_cleared) id made) (left counts is_cleared) ≡ slot_step counts is_cleared (Some empty) id made (get t.maps id)
    by true is_cleared = refl
    by false is_cleared = refl

-- they change maps alone
pub commands_change_maps : (t : Store) (counted : ℕ → Bool) (b : Shown) → SameButMaps (fold t (commands_where counted b)) t
commands_change_maps t counted b =
    let is = one_by_one t counted b in
    let clears = clears_maps (filter counted b.clears) t in
    let writes = writes_maps (made_where counted b) (fold t (map Clear (filter counted b.clears))) in (
      ap (λ (u : Store). u.names) is ∙ writes.0 ∙ clears.0,
      ap (λ (u : Store). u.options) is ∙ writes.1 ∙ clears.1,
      ap (λ (u : Store). u.next) is ∙ writes.2 ∙ clears.2,
    )
