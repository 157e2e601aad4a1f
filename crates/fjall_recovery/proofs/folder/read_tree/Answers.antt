use Rattle.std.proofs.Common.{inl, inr, ◌<◌, All, List, refl, subst, sym}
use Rattle.std.proofs.lemmas.Bool.{true≢false}
use Rattle.std.proofs.lemmas.Result.{err_from_is_err_and}
use Rattle.fjall_meta.specs.Keyspaces.{Keyspaces}
use Rattle.fjall_meta.specs.declared.living.LivingKeyspace.{LivingKeyspace}
use Rattle.fjall_manifest.specs.declared.catalog.Catalog.{Catalog}
use Rattle.fjall_manifest.specs.Catalog.{fields}
use Rattle.fjall_recovery.specs.Folders.{AreMade, past_record}
use Rattle.fjall_recovery.proofs.Homing.{same_id}
use Rattle.fjall_recovery.proofs.Finishing.{catalog_refuses}
use Rattle.fjall_recovery.proofs.Kept.{fault_spared}
use Rattle.fjall_recovery.proofs.folder.read_tree.Goals as goal

pub returns-then-not-are_made-clause-cause : goal.returns-then-not-are_made-clause-cause
returns-then-not-are_made-clause-cause g c honest folders =
    let says = c.in_ok-found.ensures.says honest in
    let has = c.if-not-contains.ensures.cases in
    let there = (folders.each 0).0 (has.0, has.1, same_id _ _ (has.2 0)) in
    let last = c.in_ok-found.found.catalog in
    inr (
      there.1,
      inr (
        says.0,
        _,
        _,
        says.1,
        inl (
          refl,
          λ made. true≢false (sym (c.if-not-are_made.ensures.1 (subst (λ (l : List LivingKeyspace). All (λ k. k.number < past_record (fields last)) l) (sym c.living.ensures) made))),
        ),
      ),
    )

pub returns-in_err-found-clause-cause : goal.returns-in_err-found-clause-cause
returns-in_err-found-clause-cause g c honest folders =
    let p = err_from_is_err_and c.from_residual.result c.from_residual.ensures.1 in
    let has = c.if-not-contains.ensures.cases in
    let there = (folders.each 0).0 (has.0, has.1, same_id _ _ (has.2 0)) in
    let failed = c.in_err-found.ensures in
    rw (p.1, p.2) (catalog_refuses _ _ _ c.in_err-found.field-0.0 there.1 (failed.refused honest) (failed.all honest))

pub returns-in_err-found-clause-sound : goal.returns-in_err-found-clause-sound
returns-in_err-found-clause-sound g c honest folders records last s says made folder =
    let p = err_from_is_err_and c.from_residual.result c.from_residual.ensures.1 in
    rw (p.1, p.2) (fault_spared _ _ c.in_err-found.field-0.0 (c.in_err-found.ensures.all honest records last s says))

pub returns-then-not-are_made-clause-sound : goal.returns-then-not-are_made-clause-sound
returns-then-not-are_made-clause-sound g c honest folders records last s says made folder =
    let found = c.in_ok-found.found in
    let same = c.in_ok-found.ensures.all honest records last s says in
    let here : AreMade found.catalog found.keyspaces = subst (λ (t : Keyspaces). AreMade found.catalog t) (sym same.1) (subst (λ (d : Catalog). AreMade d s) (sym same.0) made) in
    true≢false (sym (c.if-not-are_made.ensures.1 (subst (λ (l : List LivingKeyspace). All (λ k. k.number < past_record (fields found.catalog)) l) (sym c.living.ensures) here)))
