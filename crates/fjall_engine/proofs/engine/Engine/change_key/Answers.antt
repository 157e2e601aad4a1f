use Rattle.std.proofs.Common.{IsTrue, List, [], ◌∷◌, ◌∙◌, refl, sym}
use Rattle.fjall_journal.specs.Ops.{BatchItem, op_of}
use Rattle.fjall_journal.specs.Changes.{Items}
use Rattle.fjall_machine.specs.Shapes.{AsKeyspace, OfChange}
use Rattle.fjall_engine.proofs.ServedCalls.{due_owes, due_serves}
use Rattle.fjall_engine.proofs.WriteCalls.{all_live, change_owes, change_serves, found_due}
use Rattle.fjall_engine.proofs.engine.Engine.change_key.Goals as goal

pub returns-in-Some-clause-serves : goal.returns-in-Some-clause-serves
returns-in-Some-clause-serves g c = λ h.
    let items : List BatchItem = (c.args.id, c.args.key.now, op_of c.args.op) ∷ [] in
    due_serves c.args.self.now (OfChange (Items items) (AsKeyspace c.args.id)) c.in-Some.error
    (found_due _ c.args.self.now items (AsKeyspace c.args.id) c.self.view_is refl c.key_refusal.result c.key_refusal.ensures ∙ c.in-Some.is)

pub returns-in-Some-clause-owes : goal.returns-in-Some-clause-owes
returns-in-Some-clause-owes g c =
    let items : List BatchItem = (c.args.id, c.args.key.now, op_of c.args.op) ∷ [] in
    due_owes c.args.self.now (OfChange (Items items) (AsKeyspace c.args.id)) c.in-Some.error
    (found_due _ c.args.self.now items (AsKeyspace c.args.id) c.self.view_is refl c.key_refusal.result c.key_refusal.ensures ∙ c.in-Some.is)

pub write-requires-clause-living : goal.write-requires-clause-living
write-requires-clause-living g c =
    let items : List BatchItem = (c.args.id, c.args.key.now, op_of c.args.op) ∷ [] in
    all_live c.args.self.now items (AsKeyspace c.args.id) refl (found_due _ c.args.self.now items (AsKeyspace c.args.id) c.self.view_is refl c.key_refusal.result c.key_refusal.ensures ∙ c.in_default.is)

pub returns-clause-serves : goal.returns-clause-serves
returns-clause-serves g c = λ h.
    let items : List BatchItem = (c.args.id, c.args.key.now, op_of c.args.op) ∷ [] in
    change_serves (IsTrue g.D.Disk.honest) c.args.self.now c.write.new.self items (AsKeyspace c.args.id) c.mode_of-mode.result c.write.result refl
    (found_due _ c.args.self.now items (AsKeyspace c.args.id) c.self.view_is refl c.key_refusal.result c.key_refusal.ensures ∙ c.in_default.is) (sym c.mode_of-mode.ensures) c.write.ensures.writes h

pub returns-clause-owes : goal.returns-clause-owes
returns-clause-owes g c =
    let items : List BatchItem = (c.args.id, c.args.key.now, op_of c.args.op) ∷ [] in
    change_owes (IsTrue g.D.Disk.honest) c.args.self.now c.write.new.self items (AsKeyspace c.args.id) c.mode_of-mode.result c.write.result refl
    (found_due _ c.args.self.now items (AsKeyspace c.args.id) c.self.view_is refl c.key_refusal.result c.key_refusal.ensures ∙ c.in_default.is) (sym c.mode_of-mode.ensures) c.write.ensures.writes
