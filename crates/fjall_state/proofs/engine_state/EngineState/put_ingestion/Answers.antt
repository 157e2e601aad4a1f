use Rattle.std.proofs.Common.{ℕ, ◌<◌, ◌≤◌, ◌^◌, ap, sym, ◌∙◌, refl, subst}
use Rattle.fjall_history.specs.Tickets.{Tracked}
use Rattle.fjall_tree.specs.Ingestions.{ingested}
use Rattle.fjall_trees.specs.Forests.{altered_at}
use Rattle.fjall_trees.specs.Tables.{shape_in}
use Rattle.fjall_machine.specs.Ingesting.{with_tables}
use Rattle.fjall_machine.specs.Remembered.{Remembered}
use Rattle.fjall_state.proofs.Inside.{memory_in}
use Rattle.fjall_machine.proofs.Lawful.{alike}
use Rattle.fjall_machine.proofs.TakenIngestions.{ends_before, tables_are_lawful}
use Rattle.fjall_state.proofs.engine_state.EngineState.put_ingestion.Goals as goal

pub put_ingestion-requires-clause-until : goal.put_ingestion-requires-clause-until
put_ingestion-requires-clause-until c =
    let a = c.self.inside in
    let m = memory_in a in
    let number = c.seqno-number.ensures ∙ ap (λ (x : Remembered). x.next) (sym c.self.view_is) in
    subst (λ (n : ℕ). (shape_in c.args.planned.id m.trees).memory.active.until ≤ n) (sym number) (ends_before c.args.planned.id m.next m.trees c.self.invariant.below)

pub invariant_of-self : goal.invariant_of-self
invariant_of-self c =
    let a = c.self.inside in
    let m = memory_in a in
    let p = c.args.planned in
    let small = subst (λ (n : ℕ). n < 2 ^ 63) (ap (λ (x : Remembered). x.next) (sym c.self.view_is)) c.requires.numbered in
    let number = c.seqno-number.ensures ∙ ap (λ (x : Remembered). x.next) (sym c.self.view_is) in
    alike (with_tables p.id p.readers.items m) _ (tables_are_lawful p.id p.readers.items m c.self.invariant small) refl
    (c.put_ingestion.ensures ∙ ap (λ (n : ℕ). altered_at p.id (ingested n p.readers.items) m.trees) number)
    (ap (λ (t : Tracked). t.visible) c.publish.ensures) (ap (λ (t : Tracked). t.tickets) c.publish.ensures) refl refl
