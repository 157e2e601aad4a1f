use Rattle.std.proofs.Common.{rules, ◌≡◌, List, refl, subst}
use Rattle.fjall_journal.specs.Ops.{BatchItem}
use Rattle.fjall_journal.specs.Changes.{Items}
use Rattle.fjall_machine.specs.Shapes.{ByMode, OfChange}
use Rattle.fjall_engine.specs.Standing.{Serves, reply_of}
use Rattle.fjall_engine.proofs.engine.Engine.commit_batch.Goals as goal

pub returns-clause-serves : goal.returns-clause-serves
returns-clause-serves g c = λ h.
    let same : c.deref.result.now ≡ c.args.items.items = search rules in
    subst (λ (l : List BatchItem). Serves c.args.self.now (OfChange (Items l) (ByMode c.args.mode)) (reply_of c.change.result) c.change.new.self) same (c.change.ensures.serves h (ByMode c.args.mode) refl)
