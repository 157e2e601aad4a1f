use Rattle.std.proofs.Common.{ℕ, List, ◌∙◌, ap, sym, take}
use Rattle.std.proofs.lemmas.Bool.{true≢false}
use Rattle.fjall_base.specs.Disk.{Image, Name, standing, state_in}
use Rattle.fjall_files.specs.Texts.{text_in}
use Rattle.fjall_recovery.proofs.Beginnings.{none_begun, first_begun, not_begun, not_contradicted}
use Rattle.fjall_recovery.proofs.unfinished.check_tree.Goals as goal

pub returns-then-end-eq0-clause-begun : goal.returns-then-end-eq0-clause-begun
returns-then-end-eq0-clause-begun g c honest =
    let image : Image = standing (state_in (g.D.Disk.meaning c.args.disk.now)) in
    let text = c.deref-2.ensures.value ∙ c.in_ok-text.ensures.text honest ∙ ap (λ (n : Name). text_in (image n)) (c.deref.ensures ∙ c.in_ok-name.ensures.name) in
    let whole = c.in_ok-end.ensures.whole in
    none_begun _ _ whole.0 _ text whole.1 c.if-end-eq0.true

pub returns-then-not-are_equal-clause-cause : goal.returns-then-not-are_equal-clause-cause
returns-then-not-are_equal-clause-cause g c honest =
    let image : Image = standing (state_in (g.D.Disk.meaning c.args.disk.now)) in
    let text = c.deref-2.ensures.value ∙ c.in_ok-text.ensures.text honest ∙ ap (λ (n : Name). text_in (image n)) (c.deref.ensures ∙ c.in_ok-name.ensures.name) in
    let whole = c.in_ok-end.ensures.whole in (
      not_contradicted _ _ whole.0 _ text whole.1,
      not_begun _ _ c.in_ok-end.field-0.end text (λ rs n reads. (c.in_ok-end.ensures.only rs n reads).1) c.if-end-eq0.false
          (λ is. true≢false
          (sym (c.are_equal.ensures.1 (ap (λ (l : List ℕ). take c.in_ok-end.field-0.end l) (c.deref-3.ensures.value ∙ sym c.deref-2.ensures.value) ∙ is ∙ sym c.in_ok-first.ensures.text ∙ sym c.deref-4.ensures.value)) ∙ c.if-not-are_equal.true)),
    )

pub returns-clause-begun : goal.returns-clause-begun
returns-clause-begun g c honest =
    let image : Image = standing (state_in (g.D.Disk.meaning c.args.disk.now)) in
    let text = c.deref-2.ensures.value ∙ c.in_ok-text.ensures.text honest ∙ ap (λ (n : Name). text_in (image n)) (c.deref.ensures ∙ c.in_ok-name.ensures.name) in
    let whole = c.in_ok-end.ensures.whole in
    first_begun _ _ whole.0 _ text whole.1 c.in_ok-first.ensures.is
    (ap (λ (l : List ℕ). take c.in_ok-end.field-0.end l) (c.deref-2.ensures.value ∙ sym c.deref-3.ensures.value) ∙ c.are_equal.ensures.0 c.if-not-are_equal.false ∙ c.deref-4.ensures.value ∙ c.in_ok-first.ensures.text)
