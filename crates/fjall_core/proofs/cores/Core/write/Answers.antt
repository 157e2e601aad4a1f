use Rattle.std.proofs.Common.{None, Some}
use Rattle.fjall_journal.specs.Changes.{Items}
use Rattle.fjall_machine.specs.Shapes.{ByMode, OfChange}
use Rattle.fjall_engine.specs.Standing.{Owes, Serves}
use Rattle.fjall_core.proofs.Asking.{due_told, look_found}
use Rattle.fjall_core.proofs.cores.Core.write.Goals as goal

pub returns-in-Some-clause-serves : goal.returns-in-Some-clause-serves
returns-in-Some-clause-serves g c = λ h.
    due_told Serves c.args.self.now.engine (OfChange (Items c.args.items.items) (ByMode c.args.mode)) c.in-Some.error
    (look_found c.args.self.now.engine c.args.items.items c.deref.result.now c.args.mode c.batch_refusal.result (Some c.in-Some.error) c.deref.ensures.value c.batch_refusal.ensures.due c.in-Some.is)

pub returns-in-Some-clause-owes : goal.returns-in-Some-clause-owes
returns-in-Some-clause-owes g c =
    due_told Owes c.args.self.now.engine (OfChange (Items c.args.items.items) (ByMode c.args.mode)) c.in-Some.error
    (look_found c.args.self.now.engine c.args.items.items c.deref.result.now c.args.mode c.batch_refusal.result (Some c.in-Some.error) c.deref.ensures.value c.batch_refusal.ensures.due c.in-Some.is)

pub write_marked-requires-clause-free : goal.write_marked-requires-clause-free
write_marked-requires-clause-free g c =
    look_found c.args.self.now.engine c.args.items.items c.deref.result.now c.args.mode c.batch_refusal.result None c.deref.ensures.value c.batch_refusal.ensures.due c.in_default.is
