use Rattle.std.proofs.Common.{inl, inr, refl, sym}
use Rattle.fjall_machine.specs.Shapes.{OfRead}
use Rattle.fjall_machine.proofs.Standing.{bare_agree, facts_agree}
use Rattle.fjall_core.proofs.reader_laws.readers_show_the_state.Goals as goal

pub returns : goal.returns
returns c = record {
  due = λ core s stands view id query. facts_agree core.memory core.catalog.next_table_id s stands.remembered (OfRead view id query);
  shown = λ honest core s stands view id none there. elim there [
    | inl bare ↦ inl (bare, sym (bare_agree core.memory core.catalog.next_table_id s stands.remembered view id none bare))
    | inr on ↦ inr (on.0, (s, stands, on.1, refl))
  ];
}
