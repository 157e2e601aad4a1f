use Rattle.std.proofs.Common.{map, refl, sym, ap, ◌∙◌, arith}
use Rattle.std.specs.Option.{option_copied}
use Rattle.std.specs.Prelude.{slice_get}
use Rattle.std.specs.Cmp.Lexicographic.{same_text, other_text}
use Rattle.fjall_table.specs.Blocks.{seen}
use Rattle.fjall_table.proofs.TableReading.{other_key, first_seen, none_seen}
use Rattle.fjall_table.proofs.index.BlockHandle.read.Goals as goal
use Rattle.fjall_table.proofs.index.BlockHandle.read.Goals.{in_default-via-in-Some+else-eq, in_default-via-in_default}

pub returns-in-Some-clause-block : goal.returns-in-Some-clause-block
returns-in-Some-clause-block c =
    let first = first_seen c.in_ok-versions.versions.items c.in-Some.first.now (sym (ap option_copied c.in-Some.is) ∙ c.first.ensures.value ∙ ap (λ vs. slice_get vs 0) c.deref.ensures.value) in
    let b = c.in_ok-versions.ensures.block in
    record { is = b.0; text = b.1; key_is = first ∙ same_text c.in-Some.first.now.key.now c.args.self.now.first_key.now (sym c.if-eq.true ∙ c.eq.ensures) }

pub returns-clause-damaged : goal.returns-clause-damaged
returns-clause-damaged c = elim c.in_default.branch [
  | in_default-via-in-Some+else-eq w ↦
      let first = first_seen c.in_ok-versions.versions.items w.in-Some.first.now (sym (ap option_copied w.in-Some.is) ∙ c.first.ensures.value ∙ ap (λ vs. slice_get vs 0) c.deref.ensures.value) in
      let b = c.in_ok-versions.ensures.block in
      (refl, other_key c.args.self.now.first_key.now c.args.framed.now (map seen c.in_ok-versions.versions.items) (omega arith) b.0 b.1 (λ e. other_text w.in-Some.first.now.key.now c.args.self.now.first_key.now (sym w.if-eq.false ∙ w.eq.ensures) (sym first ∙ e)))
  | in_default-via-in_default w ↦
      let b = c.in_ok-versions.ensures.block in
      absurd (none_seen c.in_ok-versions.versions.items (sym (ap option_copied w.in_default.is) ∙ c.first.ensures.value ∙ ap (λ vs. slice_get vs 0) c.deref.ensures.value) b.0)
]
