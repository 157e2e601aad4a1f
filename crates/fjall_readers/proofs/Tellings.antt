-- What answers tell.
use Rattle.std.proofs.Common.{◌≡◌, ℕ, List, length, map, inr, refl, sym, ◌∙◌, ap}
use Rattle.std.proofs.lemmas.List.{length-map}
use Rattle.fjall_base.specs.declared.error.Error.{Error}
use Rattle.fjall_base.specs.declared.error.Error.TheVariants.{OutOfMemory, Storage}
use Rattle.fjall_base.specs.declared.error.StorageError.{StorageError}
use Rattle.fjall_table.specs.Reading.{DamagedWhere}
use Rattle.fjall_readers.specs.Answers.{refusal, Tells}

-- lists that look alike have one length
pub as_many : {A B C : Type 0} (f : A → C) (g : B → C) (xs : List A) (ys : List B) → map f xs ≡ map g ys → length ys ≡ length xs
as_many f g xs ys same = sym (length-map ys g) ∙ sym (ap length same) ∙ length-map xs f

-- where nothing is damaged, memory ran out
pub only_memory : (damage : StorageError) (P : Type 0) (e : Error) (n : ℕ) → DamagedWhere damage P e → (P → ⊥) → Tells (refusal e) n
only_memory damage P OutOfMemory n is none = inr refl
only_memory damage P (Storage told) n is none = absurd (none is.1)
only_memory damage P _ n is none = absurd is
