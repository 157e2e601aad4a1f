-- Refusals are steps of the machine.
use Rattle.std.proofs.Common.{◌≡◌, ◌≢◌, inl, inr, ℕ, true, List, [], ◌∷◌, Option, Some, None, refl, sym, subst, ◌∙◌}
use Rattle.fjall_base.specs.Disk.{Meaning}
use Rattle.fjall_base.specs.declared.error.Error.{Error}
use Rattle.fjall_base.specs.declared.error.Error.TheVariants.{Io, OutOfMemory, Storage}
use Rattle.fjall_table_reader.specs.Readers.{Reader}
use Rattle.fjall_trees.specs.Tables.{shape_in}
use Rattle.fjall_history.specs.declared.ticket.View.{View}
use Rattle.fjall_history.specs.Queries.{Query}
use Rattle.fjall_history.specs.declared.reply.Reply.TheVariants.{Refused}
use Rattle.fjall_machine.specs.Shapes.{CallShape, OfRead}
use Rattle.fjall_machine.specs.Machine.{HasTables, MayFail, Refuses, State, StepOf, AsksMemory, due_in, first_due, is_among, view_refusals}
use Rattle.fjall_machine.specs.Reads.{IsReadRefusal}
use Rattle.fjall_machine.specs.Remembered.{IsDueOrMemory, MemoryStandsFor, Remembered, facts_of}
use Rattle.fjall_machine.proofs.Sizes.{tables_agree}
use Rattle.fjall_machine.proofs.Standing.{facts_agree}

pub due_steps : (m : Remembered) (table : ℕ) (s : State) → MemoryStandsFor m table s → (shape : CallShape) (error : Error) → due_in (facts_of m table) shape ≡ Some error → StepOf s shape (Refused error) s
due_steps m table s stands shape error is = subst (λ first. Refuses first shape error s s) (sym (facts_agree m table s stands shape ∙ is)) (refl, refl)

refuses : (first : Option Error) (shape : CallShape) (error : Error) (s : State) → AsksMemory s shape → IsDueOrMemory first error → Refuses first shape error s s
refuses (Some first) shape error s takes is = (is, refl)
refuses None shape error s takes is = subst (λ e. Refuses None shape e s s) (sym is) (takes, refl)

pub memory_steps : (m : Remembered) (table : ℕ) (s : State) → MemoryStandsFor m table s → (shape : CallShape) (error : Error) → AsksMemory s shape → IsDueOrMemory (due_in (facts_of m table) shape) error → StepOf s shape (Refused error) s
memory_steps m table s stands shape error takes is =
    subst (λ first. Refuses first shape error s s) (sym (facts_agree m table s stands shape)) (refuses (due_in (facts_of m table) shape) shape error s takes is)

-- ---- a read's

read_refuses : (first : Option Error) (s : State) (view : View) (id : ℕ) (query : Query) (tables : List Reader) (old new : Meaning) (error : Error) → (tables ≢ [] → HasTables id s.parts.trees)
    → IsReadRefusal first (is_among s.damaged id ≡ true) tables old new error → Refuses first (OfRead view id query) error s s
read_refuses (Some first) s view id query tables old new error has is = (is, refl)
read_refuses None s view id query [] old new error has is = subst (λ e. MayFail (OfRead view id query) e s s) (sym is) (tt, refl)
read_refuses None s view id query (t ∷ tables) old new (Io kind) has is = inr (inl (has (λ none. let bad : ⊥ = cc in bad), refl))
read_refuses None s view id query (t ∷ tables) old new OutOfMemory has is = (tt, refl)
read_refuses None s view id query (t ∷ tables) old new (Storage told) has (same, wrong) = (same, (has (λ none. let bad : ⊥ = cc in bad), wrong), refl)
read_refuses None s view id query (t ∷ tables) old new error has is = absurd is

pub read_steps : (m : Remembered) (table : ℕ) (s : State) → MemoryStandsFor m table s → (view : View) (id : ℕ) (query : Query) (old new : Meaning) (error : Error)
    → IsReadRefusal (first_due (view_refusals (facts_of m table) view id)) (is_among s.damaged id ≡ true) (shape_in id m.trees).tables old new error
    → StepOf s (OfRead view id query) (Refused error) s
read_steps m table s stands view id query old new error is =
    subst (λ first. Refuses first (OfRead view id query) error s s) (sym (facts_agree m table s stands (OfRead view id query)))
    (read_refuses (first_due (view_refusals (facts_of m table) view id)) s view id query (shape_in id m.trees).tables old new error ((tables_agree m table s stands id).1) is)
