use Rattle.std.proofs.Common.{refl, inl, inr}
use Rattle.fjall_base.specs.declared.error.Error.TheVariants.{Unrecoverable}
use Rattle.fjall_files.proofs.Refusing.{any_as}
use Rattle.fjall_files.specs.Lists.{IsStrayFolder}
use Rattle.fjall_files.specs.Sought.{RefusesList}
use Rattle.fjall_files.specs.declared.lists.Sought.TheVariants.{Keyspaces}
use Rattle.fjall_files.proofs.lists.keyspaces.Goals as goal

pub returns-clause-refused : goal.returns-clause-refused
returns-clause-refused c = (
  λ e. elim (rw e at c.ids_of.ensures.only) [
    | inl full ↦ absurd (cc full)
    | inr some ↦ any_as (λ entry. RefusesList Keyspaces entry Unrecoverable) IsStrayFolder c.args.listed.now (λ entry h. h.0) some
  ],
  λ some. c.ids_of.ensures.all_refused Unrecoverable (any_as IsStrayFolder (λ entry. RefusesList Keyspaces entry Unrecoverable) c.args.listed.now (λ entry h. (h, refl)) some),
)
