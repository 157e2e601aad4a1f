use Rattle.std.proofs.Common.{rules, ◌≡◌, IsTrue, Err, Result, false, true, nat_lt, refl, sym, ◌∙◌, subst}
use Rattle.fjall_base.specs.declared.error.Error.{Error}
use Rattle.fjall_machine.specs.Remembered.{IsLawful}
use Rattle.fjall_machine.specs.Shapes.{OfIngestion}
use Rattle.fjall_reading.specs.Ingestions.{AreWritable, KeysAscend}
use Rattle.fjall_engine.specs.Holding.{Held}
use Rattle.fjall_engine.specs.Standing.{Owes, Serves, reply_of}
use Rattle.fjall_engine.proofs.FlushBegins.{told_long}
use Rattle.fjall_engine.proofs.IngestionRefusals.{may_go_on, may_put, no_journal_owes, no_journal_serves, no_plan_owes, no_plan_serves, nothing_owes, nothing_serves, planned_owes, planned_serves, seen_due, seen_plan, seen_refusal, told_empty, told_journals}
use Rattle.fjall_engine.proofs.ServedCalls.{due_owes, due_serves}
use Rattle.fjall_engine.proofs.engine.Engine.ingest.Goals as goal

pub returns-then-is_empty-clause-serves : goal.returns-then-is_empty-clause-serves
returns-then-is_empty-clause-serves g c = λ h.
    nothing_serves c.args.self.now c.args.id c.args.items.items (told_empty c.args.items.items c.args.items.len c.is_empty.result true c.args.items.ok.0 c.is_empty.ensures c.if-is_empty.true)

pub returns-then-is_empty-clause-owes : goal.returns-then-is_empty-clause-owes
returns-then-is_empty-clause-owes g c =
    nothing_owes c.args.self.now c.args.id c.args.items.items (told_empty c.args.items.items c.args.items.len c.is_empty.result true c.args.items.ok.0 c.is_empty.ensures c.if-is_empty.true)

pub returns-in-Some-clause-serves : goal.returns-in-Some-clause-serves
returns-in-Some-clause-serves g c = λ h.
    let some = told_empty c.args.items.items c.args.items.len c.is_empty.result false c.args.items.ok.0 c.is_empty.ensures c.if-is_empty.false in
    due_serves c.args.self.now (OfIngestion c.args.id c.args.items.items) c.in-Some.error
    (seen_due _ c.args.self.now c.self.view_is c.args.id c.args.items.items c.deref.result.now c.deref.ensures.value some c.ingestion_refusal.result c.ingestion_refusal.ensures ∙ c.in-Some.is)

pub returns-in-Some-clause-owes : goal.returns-in-Some-clause-owes
returns-in-Some-clause-owes g c =
    let some = told_empty c.args.items.items c.args.items.len c.is_empty.result false c.args.items.ok.0 c.is_empty.ensures c.if-is_empty.false in
    due_owes c.args.self.now (OfIngestion c.args.id c.args.items.items) c.in-Some.error
    (seen_due _ c.args.self.now c.self.view_is c.args.id c.args.items.items c.deref.result.now c.deref.ensures.value some c.ingestion_refusal.result c.ingestion_refusal.ensures ∙ c.in-Some.is)

pub returns-then-are_journals_used_up-clause-serves : goal.returns-then-are_journals_used_up-clause-serves
returns-then-are_journals_used_up-clause-serves g c = λ h.
    let old : Held = record { disk = g.D.Disk.meaning c.self.inside.disk; journal = c.self.inside.journal; catalog = c.self.inside.catalog; memory = c.self.inside.memory } in
    let some = told_empty c.args.items.items c.args.items.len c.is_empty.result false c.args.items.ok.0 c.is_empty.ensures c.if-is_empty.false in
    let none = seen_due _ c.args.self.now c.self.view_is c.args.id c.args.items.items c.deref.result.now c.deref.ensures.value some c.ingestion_refusal.result c.ingestion_refusal.ensures ∙ c.in_default.is in
    let long = nat_lt 64000000 c.pos-is_long.result in
    let told = told_long old.journal long c.pos-is_long.result c.pos-is_long.ensures refl in
    let used = told_journals old c.args.self.now long c.are_journals_used_up.result true c.self.view_is told c.are_journals_used_up.ensures.value c.if-are_journals_used_up.true in
    no_journal_serves c.args.self.now c.args.id c.args.items.items some none used

pub returns-then-are_journals_used_up-clause-owes : goal.returns-then-are_journals_used_up-clause-owes
returns-then-are_journals_used_up-clause-owes g c =
    let old : Held = record { disk = g.D.Disk.meaning c.self.inside.disk; journal = c.self.inside.journal; catalog = c.self.inside.catalog; memory = c.self.inside.memory } in
    let some = told_empty c.args.items.items c.args.items.len c.is_empty.result false c.args.items.ok.0 c.is_empty.ensures c.if-is_empty.false in
    let none = seen_due _ c.args.self.now c.self.view_is c.args.id c.args.items.items c.deref.result.now c.deref.ensures.value some c.ingestion_refusal.result c.ingestion_refusal.ensures ∙ c.in_default.is in
    let long = nat_lt 64000000 c.pos-is_long.result in
    let told = told_long old.journal long c.pos-is_long.result c.pos-is_long.ensures refl in
    let used = told_journals old c.args.self.now long c.are_journals_used_up.result true c.self.view_is told c.are_journals_used_up.ensures.value c.if-are_journals_used_up.true in
    no_journal_owes c.args.self.now c.args.id c.args.items.items some none used

pub plan_ingestion-requires-clause-ascend : goal.plan_ingestion-requires-clause-ascend
plan_ingestion-requires-clause-ascend g c =
    let some = told_empty c.args.items.items c.args.items.len c.is_empty.result false c.args.items.ok.0 c.is_empty.ensures c.if-is_empty.false in
    let none = seen_due _ c.args.self.now c.self.view_is c.args.id c.args.items.items c.deref.result.now c.deref.ensures.value some c.ingestion_refusal.result c.ingestion_refusal.ensures ∙ c.in_default.is in
    subst KeysAscend (sym c.deref-2.ensures.value) (may_go_on c.args.self.now c.args.id c.args.items.items some none).ascend

pub plan_ingestion-requires-clause-writable : goal.plan_ingestion-requires-clause-writable
plan_ingestion-requires-clause-writable g c =
    let some = told_empty c.args.items.items c.args.items.len c.is_empty.result false c.args.items.ok.0 c.is_empty.ensures c.if-is_empty.false in
    let none = seen_due _ c.args.self.now c.self.view_is c.args.id c.args.items.items c.deref.result.now c.deref.ensures.value some c.ingestion_refusal.result c.ingestion_refusal.ensures ∙ c.in_default.is in
    subst AreWritable (sym c.deref-2.ensures.value) (may_go_on c.args.self.now c.args.id c.args.items.items some none).writable

pub returns-in_err-planned-clause-serves : goal.returns-in_err-planned-clause-serves
returns-in_err-planned-clause-serves g c = λ h.
    let old : Held = record { disk = g.D.Disk.meaning c.self.inside.disk; journal = c.self.inside.journal; catalog = c.self.inside.catalog; memory = c.self.inside.memory } in
    let some = told_empty c.args.items.items c.args.items.len c.is_empty.result false c.args.items.ok.0 c.is_empty.ensures c.if-is_empty.false in
    let none = seen_due _ c.args.self.now c.self.view_is c.args.id c.args.items.items c.deref.result.now c.deref.ensures.value some c.ingestion_refusal.result c.ingestion_refusal.ensures ∙ c.in_default.is in
    let error = c.in_err-planned.field-0.0 in
    let is : c.from_residual.result ≡ Err error = search rules in
    let why = seen_refusal old c.args.self.now c.self.view_is c.args.id c.args.items.items c.deref-2.result.now c.deref-2.ensures.value error c.in_err-planned.ensures.cause in
    subst (λ (r : Result Unit Error). Serves c.args.self.now (OfIngestion c.args.id c.args.items.items) (reply_of r) c.args.self.now) (sym is) (no_plan_serves c.args.self.now c.args.id c.args.items.items some none error why)

pub returns-in_err-planned-clause-owes : goal.returns-in_err-planned-clause-owes
returns-in_err-planned-clause-owes g c =
    let old : Held = record { disk = g.D.Disk.meaning c.self.inside.disk; journal = c.self.inside.journal; catalog = c.self.inside.catalog; memory = c.self.inside.memory } in
    let some = told_empty c.args.items.items c.args.items.len c.is_empty.result false c.args.items.ok.0 c.is_empty.ensures c.if-is_empty.false in
    let none = seen_due _ c.args.self.now c.self.view_is c.args.id c.args.items.items c.deref.result.now c.deref.ensures.value some c.ingestion_refusal.result c.ingestion_refusal.ensures ∙ c.in_default.is in
    let error = c.in_err-planned.field-0.0 in
    let is : c.from_residual.result ≡ Err error = search rules in
    let why = seen_refusal old c.args.self.now c.self.view_is c.args.id c.args.items.items c.deref-2.result.now c.deref-2.ensures.value error c.in_err-planned.ensures.cause in
    subst (λ (r : Result Unit Error). Owes c.args.self.now (OfIngestion c.args.id c.args.items.items) (reply_of r) c.args.self.now) (sym is) (no_plan_owes c.args.self.now c.args.id c.args.items.items some none error why)

pub put_ingestion-requires-clause-numbered : goal.put_ingestion-requires-clause-numbered
put_ingestion-requires-clause-numbered g c =
    let old : Held = record { disk = g.D.Disk.meaning c.self.inside.disk; journal = c.self.inside.journal; catalog = c.self.inside.catalog; memory = c.self.inside.memory } in
    let some = told_empty c.args.items.items c.args.items.len c.is_empty.result false c.args.items.ok.0 c.is_empty.ensures c.if-is_empty.false in
    let none = seen_due _ c.args.self.now c.self.view_is c.args.id c.args.items.items c.deref.result.now c.deref.ensures.value some c.ingestion_refusal.result c.ingestion_refusal.ensures ∙ c.in_default.is in
    let planned = seen_plan old c.args.self.now c.self.view_is c.args.id c.args.items.items c.deref-2.result.now c.deref-2.ensures.value c.in_ok-planned.planned c.in_ok-planned.ensures.planned in
    let lawful = subst (λ (h : Held). IsLawful h.memory) c.self.view_is c.in_ok-planned.ensures.lawful in
    (may_put c.args.self.now c.args.id c.args.items.items c.in_ok-planned.planned some none lawful planned).numbered

pub put_ingestion-requires-clause-kept : goal.put_ingestion-requires-clause-kept
put_ingestion-requires-clause-kept g c =
    let old : Held = record { disk = g.D.Disk.meaning c.self.inside.disk; journal = c.self.inside.journal; catalog = c.self.inside.catalog; memory = c.self.inside.memory } in
    let some = told_empty c.args.items.items c.args.items.len c.is_empty.result false c.args.items.ok.0 c.is_empty.ensures c.if-is_empty.false in
    let none = seen_due _ c.args.self.now c.self.view_is c.args.id c.args.items.items c.deref.result.now c.deref.ensures.value some c.ingestion_refusal.result c.ingestion_refusal.ensures ∙ c.in_default.is in
    let planned = seen_plan old c.args.self.now c.self.view_is c.args.id c.args.items.items c.deref-2.result.now c.deref-2.ensures.value c.in_ok-planned.planned c.in_ok-planned.ensures.planned in
    let lawful = subst (λ (h : Held). IsLawful h.memory) c.self.view_is c.in_ok-planned.ensures.lawful in
    (may_put c.args.self.now c.args.id c.args.items.items c.in_ok-planned.planned some none lawful planned).kept

pub put_ingestion-requires-clause-planned : goal.put_ingestion-requires-clause-planned
put_ingestion-requires-clause-planned g c =
    let old : Held = record { disk = g.D.Disk.meaning c.self.inside.disk; journal = c.self.inside.journal; catalog = c.self.inside.catalog; memory = c.self.inside.memory } in
    let some = told_empty c.args.items.items c.args.items.len c.is_empty.result false c.args.items.ok.0 c.is_empty.ensures c.if-is_empty.false in
    let none = seen_due _ c.args.self.now c.self.view_is c.args.id c.args.items.items c.deref.result.now c.deref.ensures.value some c.ingestion_refusal.result c.ingestion_refusal.ensures ∙ c.in_default.is in
    let planned = seen_plan old c.args.self.now c.self.view_is c.args.id c.args.items.items c.deref-2.result.now c.deref-2.ensures.value c.in_ok-planned.planned c.in_ok-planned.ensures.planned in
    let lawful = subst (λ (h : Held). IsLawful h.memory) c.self.view_is c.in_ok-planned.ensures.lawful in
    (may_put c.args.self.now c.args.id c.args.items.items c.in_ok-planned.planned some none lawful planned).planned

pub returns-clause-serves : goal.returns-clause-serves
returns-clause-serves g c = λ h.
    let old : Held = record { disk = g.D.Disk.meaning c.self.inside.disk; journal = c.self.inside.journal; catalog = c.self.inside.catalog; memory = c.self.inside.memory } in
    let some = told_empty c.args.items.items c.args.items.len c.is_empty.result false c.args.items.ok.0 c.is_empty.ensures c.if-is_empty.false in
    let none = seen_due _ c.args.self.now c.self.view_is c.args.id c.args.items.items c.deref.result.now c.deref.ensures.value some c.ingestion_refusal.result c.ingestion_refusal.ensures ∙ c.in_default.is in
    let long = nat_lt 64000000 c.pos-is_long.result in
    let told = told_long old.journal long c.pos-is_long.result c.pos-is_long.ensures refl in
    let used = told_journals old c.args.self.now long c.are_journals_used_up.result false c.self.view_is told c.are_journals_used_up.ensures.value c.if-are_journals_used_up.false in
    let planned = seen_plan old c.args.self.now c.self.view_is c.args.id c.args.items.items c.deref-2.result.now c.deref-2.ensures.value c.in_ok-planned.planned c.in_ok-planned.ensures.planned in
    planned_serves c.args.self.now c.args.id (IsTrue g.D.Disk.honest) c.put_ingestion.new.self c.in_ok-planned.planned used c.args.items.items some none planned c.put_ingestion.result c.put_ingestion.ensures.puts h

pub returns-clause-owes : goal.returns-clause-owes
returns-clause-owes g c =
    let old : Held = record { disk = g.D.Disk.meaning c.self.inside.disk; journal = c.self.inside.journal; catalog = c.self.inside.catalog; memory = c.self.inside.memory } in
    let some = told_empty c.args.items.items c.args.items.len c.is_empty.result false c.args.items.ok.0 c.is_empty.ensures c.if-is_empty.false in
    let none = seen_due _ c.args.self.now c.self.view_is c.args.id c.args.items.items c.deref.result.now c.deref.ensures.value some c.ingestion_refusal.result c.ingestion_refusal.ensures ∙ c.in_default.is in
    let long = nat_lt 64000000 c.pos-is_long.result in
    let told = told_long old.journal long c.pos-is_long.result c.pos-is_long.ensures refl in
    let used = told_journals old c.args.self.now long c.are_journals_used_up.result false c.self.view_is told c.are_journals_used_up.ensures.value c.if-are_journals_used_up.false in
    let planned = seen_plan old c.args.self.now c.self.view_is c.args.id c.args.items.items c.deref-2.result.now c.deref-2.ensures.value c.in_ok-planned.planned c.in_ok-planned.ensures.planned in
    planned_owes c.args.self.now c.args.id (IsTrue g.D.Disk.honest) c.put_ingestion.new.self c.in_ok-planned.planned used c.args.items.items some none planned c.put_ingestion.result c.put_ingestion.ensures.puts
