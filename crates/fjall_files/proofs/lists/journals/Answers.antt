use Rattle.std.proofs.Common.{refl, inl, inr}
use Rattle.fjall_base.specs.declared.error.Error.TheVariants.{JournalRecovery}
use Rattle.fjall_base.specs.declared.error.JournalRecoveryError.TheVariants.{InvalidFileName}
use Rattle.fjall_files.proofs.Refusing.{any_as}
use Rattle.fjall_files.specs.Lists.{IsMisnamedFile}
use Rattle.fjall_files.specs.Sought.{RefusesList}
use Rattle.fjall_files.specs.declared.lists.Sought.TheVariants.{Journals}
use Rattle.fjall_files.proofs.lists.journals.Goals as goal

pub returns-clause-refused : goal.returns-clause-refused
returns-clause-refused c = (
  λ e. elim (rw e at c.ids_of.ensures.only) [
    | inl full ↦ absurd (cc full)
    | inr some ↦ any_as (λ entry. RefusesList Journals entry (JournalRecovery InvalidFileName)) IsMisnamedFile c.args.listed.now (λ entry h. h.0) some
  ],
  λ some. c.ids_of.ensures.all_refused (JournalRecovery InvalidFileName) (any_as IsMisnamedFile (λ entry. RefusesList Journals entry (JournalRecovery InvalidFileName)) c.args.listed.now (λ entry h. (h, refl)) some),
)
