-- What was made of a flush that is out, and the room that it takes.
use Rattle.std.proofs.Common.{◌≡◌, ℕ, true, List, length, Option, Some, None, refl, sym, ap, subst, ◌∙◌}
use Rattle.std.proofs.lemmas.Bool.{true≢false}
use Rattle.fjall_jobs.specs.declared.flush_made.FlushMade.{FlushMade}
use Rattle.fjall_jobs.specs.Made.{flush_clears, flushed_task}
use Rattle.fjall_tree.specs.Jobs.{IsFlushing, is_flush_out}
use Rattle.fjall_tree.specs.Trees.{Flushing}
use Rattle.fjall_trees.specs.Forests.{Forest}
use Rattle.fjall_trees.specs.Tables.{HasRoomAt, shape_in}
use Rattle.fjall_trees.specs.Views.{forest_of}
use Rattle.fjall_trees.specs.declared.trees.Trees.{Trees}
use Rattle.fjall_machine.specs.Finishing.{keyspace_of}
use Rattle.fjall_machine.specs.Remembered.{Remembered}
use Rattle.fjall_machine.proofs.Finishing.{made_clears}
use Rattle.fjall_state.specs.Flushes.{IsOfFlush}

-- one that is out is there
pub flush_there : (job : ℕ) (flush : Option Flushing) → is_flush_out job flush ≡ true → (out : Flushing) × (flush ≡ Some out)
flush_there job None out = absurd (true≢false (sym out))
flush_there job (Some out) is = (out, refl)

-- Room for what was made is room for the flush that is out, where that was begun with its task.
pub room_suffices : (m : Remembered) (made : FlushMade) (trees : Trees) (id tables clears readers : ℕ) (Taken : Type 0) → id ≡ keyspace_of made → tables ≡ readers → clears ≡ length (flush_clears made)
    → forest_of trees ≡ m.trees → HasRoomAt id trees tables clears
    → (HasRoomAt (keyspace_of made) trees readers (length (flushed_task made).clears) → IsFlushing (shape_in (keyspace_of made) (forest_of trees)) (flushed_task made) → Taken) → IsOfFlush m made → Taken
room_suffices m made trees id tables clears readers Taken at many more same room takes of =
    takes
    (subst (λ (x : ℕ × ℕ × ℕ). HasRoomAt x.0 trees x.1 x.2) (λ i. (at i, many i, (more ∙ ap (λ (l : List ℕ). length l) (made_clears made)) i)) room)
    (subst (λ (f : Forest). IsFlushing (shape_in (keyspace_of made) f) (flushed_task made)) (sym same) of)
