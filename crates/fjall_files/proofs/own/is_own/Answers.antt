use Rattle.std.proofs.Common.{subst, sym, rules}
use Rattle.fjall_base.specs.Disk.{Name}
use Rattle.fjall_files.specs.Own.{IsOwnIn}
use Rattle.fjall_files.proofs.OwnEntries.{if_own, no_slash, own_if}
use Rattle.fjall_files.proofs.own.is_own.Goals as goal

pub returns-then-not-entry : goal.returns-then-not-entry
returns-then-not-entry c = (
  (λ own. (
    search rules,
    subst (λ (n : Name). IsOwnIn c.args.folder.now n) c.deref.ensures
        (own_if c.args.folder.now c.deref.result.now c.in-Some.inside.now c.in-Some.ensures.cases c.in-Some-strip_prefix.file.now c.in-Some-strip_prefix.ensures.cases (c.is_own_name.ensures.0 own)),
  )),
  (λ own. c.is_own_name.ensures.1
      (if_own c.args.folder.now c.deref.result.now c.in-Some.inside.now c.in-Some.ensures.cases c.in-Some-strip_prefix.file.now c.in-Some-strip_prefix.ensures.cases
      (subst (λ (n : Name). IsOwnIn c.args.folder.now n) (sym c.deref.ensures) own.1))),
)

pub returns-in-None : goal.returns-in-None
returns-in-None c = (
  (λ bad. search rules),
  (λ own. absurd (no_slash c.args.folder.now c.deref.result.now c.in-Some.inside.now c.in-Some.ensures.cases c.in-None.ensures.cases
      (subst (λ (n : Name). IsOwnIn c.args.folder.now n) (sym c.deref.ensures) own.1))),
)
