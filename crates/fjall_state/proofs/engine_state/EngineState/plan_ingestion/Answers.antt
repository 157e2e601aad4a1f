use Rattle.std.proofs.Common.{ℕ, ◌<◌, ◌^◌, ap, sym, ◌∙◌, subst, IfErr, IfOk}
use Rattle.std.specs.FinMap.{get}
use Rattle.fjall_compaction.specs.Planned.{IsIngestionPlan, IsIngestionRefusal}
use Rattle.fjall_tree.specs.Shapes.{shape_of}
use Rattle.fjall_tree.specs.Trees.{Shape}
use Rattle.fjall_manifest.specs.Records.{Fields, view}
use Rattle.fjall_trees.specs.Forests.{tree_at}
use Rattle.fjall_machine.specs.Remembered.{IsLawful, Remembered}
use Rattle.fjall_machine.proofs.Finishing.{none_missing}
use Rattle.fjall_machine.proofs.TakenIngestions.{last_found, low, no_tree, shape_found}
use Rattle.fjall_state.proofs.engine_state.EngineState.plan_ingestion.Goals as goal

pub unreachable-requires : goal.unreachable-requires
unreachable-requires c =
    let is = subst IsLawful c.self.view_is c.self.invariant in
    no_tree c.args.self.now is c.args.id c.requires.living (c.in_default.ensures.tree ∙ ap (λ (m : Remembered). tree_at c.args.id m.trees) c.self.view_is)

pub unreachable-requires-in_default-get : goal.unreachable-requires-in_default-get
unreachable-requires-in_default-get c =
    let is = subst IsLawful c.self.view_is c.self.invariant in
    none_missing c.args.self.now is c.args.id c.requires.living (c.in_default-get.ensures ∙ ap (λ (m : Remembered). get m.records c.args.id) c.self.view_is)

pub plan_ingestion-requires-clause-low : goal.plan_ingestion-requires-clause-low
plan_ingestion-requires-clause-low c =
    let is = subst IsLawful c.self.view_is c.self.invariant in
    let watermark = c.watermark-watermark.ensures.value ∙ ap (λ (m : Remembered). m.tickets.watermark) c.self.view_is in
    subst (λ (w : ℕ). w < 2 ^ 63) (sym watermark) (low c.args.self.now is c.args.id)

pub returns-clause-planned : goal.returns-clause-planned
returns-clause-planned c = λ k at.
    let now = c.args.self.now in
    let id = c.args.id in
    let items = c.args.items.now in
    let is = subst IsLawful c.self.view_is c.self.invariant in
    let shape = shape_found now is id (shape_of c.in-Some.tree.now) (c.in-Some.ensures.tree ∙ ap (λ (m : Remembered). tree_at id m.trees) c.self.view_is) in
    let last = last_found now is id (view c.in-Some-get.last.now) (c.in-Some-get.ensures ∙ ap (λ (m : Remembered). get m.records id) c.self.view_is) k at in
    let watermark = c.watermark-watermark.ensures.value ∙ ap (λ (m : Remembered). m.tickets.watermark) c.self.view_is in
    subst (λ (x : Shape × ℕ × ℕ × Fields). IfOk c.plan_ingestion.result (IsIngestionPlan x.0 id x.1 x.2 items x.3)) (λ i. (shape i, watermark i, c.seqno.ensures i, last i)) c.plan_ingestion.ensures.planned

pub returns-clause-cause : goal.returns-clause-cause
returns-clause-cause c = λ k at.
    let now = c.args.self.now in
    let id = c.args.id in
    let items = c.args.items.now in
    let is = subst IsLawful c.self.view_is c.self.invariant in
    let shape = shape_found now is id (shape_of c.in-Some.tree.now) (c.in-Some.ensures.tree ∙ ap (λ (m : Remembered). tree_at id m.trees) c.self.view_is) in
    let last = last_found now is id (view c.in-Some-get.last.now) (c.in-Some-get.ensures ∙ ap (λ (m : Remembered). get m.records id) c.self.view_is) k at in
    let watermark = c.watermark-watermark.ensures.value ∙ ap (λ (m : Remembered). m.tickets.watermark) c.self.view_is in
    subst (λ (x : Shape × ℕ × ℕ × Fields). IfErr c.plan_ingestion.result (IsIngestionRefusal x.0 id x.1 x.2 items x.3)) (λ i. (shape i, watermark i, c.seqno.ensures i, last i)) c.plan_ingestion.ensures.cause
