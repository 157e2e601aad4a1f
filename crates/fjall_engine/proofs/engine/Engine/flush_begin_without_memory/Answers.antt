use Rattle.std.proofs.Common.{◌≡◌, IsTrue, false, nat_lt, true, Bool, Err, refl, sym, ◌∙◌, ap, subst}
use Rattle.fjall_base.specs.declared.error.Error.TheVariants.{NumbersUsedUp, OutOfMemory}
use Rattle.fjall_machine.specs.Machine.{begins_flush}
use Rattle.fjall_machine.specs.Shapes.{OfFlushBegin}
use Rattle.fjall_engine.specs.Holding.{Held}
use Rattle.fjall_engine.specs.Standing.{are_jobs_used_up_in}
use Rattle.fjall_engine.proofs.FlushBegins.{begin_due, begun_owes, begun_serves, idle_owes, idle_serves, told_long, told_used}
use Rattle.fjall_engine.proofs.ServedCalls.{due_owes, due_serves}
use Rattle.fjall_engine.proofs.engine.Engine.flush_begin_without_memory.Goals as goal

pub returns-in-Some-clause-serves : goal.returns-in-Some-clause-serves
returns-in-Some-clause-serves g c = λ h. due_serves c.args.self.now (OfFlushBegin c.args.id) c.in-Some.error (begin_due _ c.args.self.now c.args.id c.self.view_is c.rotation_refusal.result c.rotation_refusal.ensures ∙ c.in-Some.is)

pub returns-in-Some-clause-owes : goal.returns-in-Some-clause-owes
returns-in-Some-clause-owes g c = due_owes c.args.self.now (OfFlushBegin c.args.id) c.in-Some.error (begin_due _ c.args.self.now c.args.id c.self.view_is c.rotation_refusal.result c.rotation_refusal.ensures ∙ c.in-Some.is)

pub returns-then-not-begins_flush-clause-serves : goal.returns-then-not-begins_flush-clause-serves
returns-then-not-begins_flush-clause-serves g c = λ h.
    idle_serves c.args.self.now c.args.self.now c.args.id
    (begin_due _ c.args.self.now c.args.id c.self.view_is c.rotation_refusal.result c.rotation_refusal.ensures ∙ c.in_default.is)
    (ap (λ (core : Held). begins_flush core.memory.trees c.args.id) (sym c.self.view_is) ∙ sym c.begins_flush.ensures ∙ c.if-not-begins_flush.true) refl

pub returns-then-not-begins_flush-clause-owes : goal.returns-then-not-begins_flush-clause-owes
returns-then-not-begins_flush-clause-owes g c =
    idle_owes c.args.self.now c.args.self.now c.args.id
    (begin_due _ c.args.self.now c.args.id c.self.view_is c.rotation_refusal.result c.rotation_refusal.ensures ∙ c.in_default.is)
    (ap (λ (core : Held). begins_flush core.memory.trees c.args.id) (sym c.self.view_is) ∙ sym c.begins_flush.ensures ∙ c.if-not-begins_flush.true) refl

pub returns-then-are_jobs_used_up-clause-serves : goal.returns-then-are_jobs_used_up-clause-serves
returns-then-are_jobs_used_up-clause-serves g c =
    let m = g.D.Disk.meaning in
    let old : Held = record { disk = m c.self.inside.disk; journal = c.self.inside.journal; catalog = c.self.inside.catalog; memory = c.self.inside.memory } in
    let long = nat_lt 64000000 c.pos-is_long.result in
    let is_told = told_long old.journal long c.pos-is_long.result c.pos-is_long.ensures refl in
    let used : are_jobs_used_up_in old ≡ true = sym (told_used old long c.are_jobs_used_up.result is_told c.are_jobs_used_up.ensures.value) ∙ c.if-are_jobs_used_up.true in
    let at : are_jobs_used_up_in c.args.self.now ≡ true = ap are_jobs_used_up_in (sym c.self.view_is) ∙ used in
    begun_serves (IsTrue g.D.Disk.honest) c.args.self.now c.args.self.now c.args.id
    (begin_due _ c.args.self.now c.args.id c.self.view_is c.rotation_refusal.result c.rotation_refusal.ensures ∙ c.in_default.is)
    (ap (λ (core : Held). begins_flush core.memory.trees c.args.id) (sym c.self.view_is) ∙ sym c.begins_flush.ensures ∙ c.if-not-begins_flush.false) (Err NumbersUsedUp) (refl, at)

pub returns-then-are_jobs_used_up-clause-owes : goal.returns-then-are_jobs_used_up-clause-owes
returns-then-are_jobs_used_up-clause-owes g c =
    let m = g.D.Disk.meaning in
    let old : Held = record { disk = m c.self.inside.disk; journal = c.self.inside.journal; catalog = c.self.inside.catalog; memory = c.self.inside.memory } in
    let long = nat_lt 64000000 c.pos-is_long.result in
    let is_told = told_long old.journal long c.pos-is_long.result c.pos-is_long.ensures refl in
    let used : are_jobs_used_up_in old ≡ true = sym (told_used old long c.are_jobs_used_up.result is_told c.are_jobs_used_up.ensures.value) ∙ c.if-are_jobs_used_up.true in
    let at : are_jobs_used_up_in c.args.self.now ≡ true = ap are_jobs_used_up_in (sym c.self.view_is) ∙ used in
    begun_owes (IsTrue g.D.Disk.honest) c.args.self.now c.args.self.now c.args.id
    (begin_due _ c.args.self.now c.args.id c.self.view_is c.rotation_refusal.result c.rotation_refusal.ensures ∙ c.in_default.is)
    (ap (λ (core : Held). begins_flush core.memory.trees c.args.id) (sym c.self.view_is) ∙ sym c.begins_flush.ensures ∙ c.if-not-begins_flush.false) (Err NumbersUsedUp) (refl, at)

pub returns-clause-serves : goal.returns-clause-serves
returns-clause-serves g c =
    let m = g.D.Disk.meaning in
    let old : Held = record { disk = m c.self.inside.disk; journal = c.self.inside.journal; catalog = c.self.inside.catalog; memory = c.self.inside.memory } in
    let long = nat_lt 64000000 c.pos-is_long.result in
    let is_told = told_long old.journal long c.pos-is_long.result c.pos-is_long.ensures refl in
    let free : are_jobs_used_up_in old ≡ false = sym (told_used old long c.are_jobs_used_up.result is_told c.are_jobs_used_up.ensures.value) ∙ c.if-are_jobs_used_up.false in
    let at : are_jobs_used_up_in c.args.self.now ≡ false = ap are_jobs_used_up_in (sym c.self.view_is) ∙ free in
    begun_serves (IsTrue g.D.Disk.honest) c.args.self.now c.args.self.now c.args.id
    (begin_due _ c.args.self.now c.args.id c.self.view_is c.rotation_refusal.result c.rotation_refusal.ensures ∙ c.in_default.is)
    (ap (λ (core : Held). begins_flush core.memory.trees c.args.id) (sym c.self.view_is) ∙ sym c.begins_flush.ensures ∙ c.if-not-begins_flush.false) (Err OutOfMemory) (refl, refl, at)

pub returns-clause-owes : goal.returns-clause-owes
returns-clause-owes g c =
    let m = g.D.Disk.meaning in
    let old : Held = record { disk = m c.self.inside.disk; journal = c.self.inside.journal; catalog = c.self.inside.catalog; memory = c.self.inside.memory } in
    let long = nat_lt 64000000 c.pos-is_long.result in
    let is_told = told_long old.journal long c.pos-is_long.result c.pos-is_long.ensures refl in
    let free : are_jobs_used_up_in old ≡ false = sym (told_used old long c.are_jobs_used_up.result is_told c.are_jobs_used_up.ensures.value) ∙ c.if-are_jobs_used_up.false in
    let at : are_jobs_used_up_in c.args.self.now ≡ false = ap are_jobs_used_up_in (sym c.self.view_is) ∙ free in
    begun_owes (IsTrue g.D.Disk.honest) c.args.self.now c.args.self.now c.args.id
    (begin_due _ c.args.self.now c.args.id c.self.view_is c.rotation_refusal.result c.rotation_refusal.ensures ∙ c.in_default.is)
    (ap (λ (core : Held). begins_flush core.memory.trees c.args.id) (sym c.self.view_is) ∙ sym c.begins_flush.ensures ∙ c.if-not-begins_flush.false) (Err OutOfMemory) (refl, refl, at)
