use Rattle.std.proofs.Common.{IsTrue, None, sym, ◌∙◌}
use Rattle.fjall_journal.specs.Changes.{Items}
use Rattle.fjall_machine.specs.Shapes.{ByMode, OfChange}
use Rattle.fjall_engine.proofs.ServedCalls.{due_owes, due_serves}
use Rattle.fjall_engine.proofs.WriteCalls.{all_live, change_owes, change_serves, found_due, no_items_owe, no_items_serve}
use Rattle.fjall_engine.proofs.engine.Engine.change.Goals as goal

pub returns-then-is_empty-clause-serves : goal.returns-then-is_empty-clause-serves
returns-then-is_empty-clause-serves g c = λ h how same. no_items_serve c.args.self.now c.args.items.now how (sym c.is_empty.ensures ∙ c.if-is_empty.true)

pub returns-then-is_empty-clause-owes : goal.returns-then-is_empty-clause-owes
returns-then-is_empty-clause-owes g c = λ how same. no_items_owe c.args.self.now c.args.items.now how (sym c.is_empty.ensures ∙ c.if-is_empty.true)

pub returns-in-Some-clause-serves : goal.returns-in-Some-clause-serves
returns-in-Some-clause-serves g c = λ h how same.
    due_serves c.args.self.now (OfChange (Items c.args.items.now) how) c.in-Some.error
    (found_due _ c.args.self.now c.args.items.now how c.self.view_is (sym c.is_empty.ensures ∙ c.if-is_empty.false) c.change_refusal.result c.change_refusal.ensures ∙ c.in-Some.is)

pub returns-in-Some-clause-owes : goal.returns-in-Some-clause-owes
returns-in-Some-clause-owes g c = λ how same.
    due_owes c.args.self.now (OfChange (Items c.args.items.now) how) c.in-Some.error
    (found_due _ c.args.self.now c.args.items.now how c.self.view_is (sym c.is_empty.ensures ∙ c.if-is_empty.false) c.change_refusal.result c.change_refusal.ensures ∙ c.in-Some.is)

pub write-requires-clause-living : goal.write-requires-clause-living
write-requires-clause-living g c =
    let some = sym c.is_empty.ensures ∙ c.if-is_empty.false in
    all_live c.args.self.now c.args.items.now (ByMode None) some (found_due _ c.args.self.now c.args.items.now (ByMode None) c.self.view_is some c.change_refusal.result c.change_refusal.ensures ∙ c.in_default.is)

pub returns-clause-serves : goal.returns-clause-serves
returns-clause-serves g c = λ h how same.
    let some = sym c.is_empty.ensures ∙ c.if-is_empty.false in
    change_serves (IsTrue g.D.Disk.honest) c.args.self.now c.write.new.self c.args.items.now how c.args.mode c.write.result some
    (found_due _ c.args.self.now c.args.items.now how c.self.view_is some c.change_refusal.result c.change_refusal.ensures ∙ c.in_default.is) same c.write.ensures.writes h

pub returns-clause-owes : goal.returns-clause-owes
returns-clause-owes g c = λ how same.
    let some = sym c.is_empty.ensures ∙ c.if-is_empty.false in
    change_owes (IsTrue g.D.Disk.honest) c.args.self.now c.write.new.self c.args.items.now how c.args.mode c.write.result some
    (found_due _ c.args.self.now c.args.items.now how c.self.view_is some c.change_refusal.result c.change_refusal.ensures ∙ c.in_default.is) same c.write.ensures.writes
