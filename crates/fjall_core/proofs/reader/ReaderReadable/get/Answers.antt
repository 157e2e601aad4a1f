use Rattle.std.proofs.Common.{◌≡◌, ℕ, IfErr, IfOk, IfSome, IsTrue, refl, subst}
use Rattle.std.specs.Result.{result_err}
use Rattle.fjall_base.specs.Pairs.{Pairs, lookup}
use Rattle.fjall_history.specs.Queries.{Get}
use Rattle.fjall_machine.specs.Shapes.{OfRead}
use Rattle.fjall_engine.specs.Standing.{Owes, Serves, value_reply}
use Rattle.fjall_core.specs.Shown.{IsReaderRefusal, IsRefusedFor, Shows}
use Rattle.fjall_core.proofs.Reading.{read_cause, shows_on, value_cause, value_looks, value_shown, value_stands}
use Rattle.fjall_core.proofs.reader.ReaderReadable.get.Goals as goal

pub returns-clause-ok : goal.returns-clause-ok
returns-clause-ok g c =
    let self = c.args.self.now in
    let shown = value_shown g.D.Disk.honest self.core.now c.get_at.new.self self.view c.id.result c.args.key.now c.get_at.result c.get_at.ensures.owes c.get_at.ensures.serves in
    subst (λ (id : ℕ). (map : Pairs) → Shows g.D.Disk.honest self.core.now self.view id map → IfOk c.get_at.result (λ found. found ≡ lookup map c.args.key.now)) c.id.ensures shown

pub returns-clause-same : goal.returns-clause-same
returns-clause-same g c =
    let self = c.args.self.now in
    let looks = value_looks self.core.now c.get_at.new.self self.view c.id.result c.args.key.now c.get_at.result c.get_at.ensures.owes in
    let stand = value_stands g.D.Disk.honest self.core.now c.get_at.new.self self.view c.id.result c.args.key.now c.get_at.result c.get_at.ensures.owes c.get_at.ensures.serves in
    shows_on g.D.Disk.honest self.core.now c.get_at.new.self self.view looks stand

pub returns-clause-reads : goal.returns-clause-reads
returns-clause-reads g c =
    let self = c.args.self.now in
    let cause = value_cause self.core.now c.get_at.new.self self.view c.id.result c.args.key.now c.get_at.result c.get_at.ensures.owes in record {
      looks = value_looks self.core.now c.get_at.new.self self.view c.id.result c.args.key.now c.get_at.result c.get_at.ensures.owes;
      stand = value_stands g.D.Disk.honest self.core.now c.get_at.new.self self.view c.id.result c.args.key.now c.get_at.result c.get_at.ensures.owes c.get_at.ensures.serves;
      lent = refl;
      same = refl;
      cause = subst (λ (id : ℕ). IfSome (result_err c.get_at.result) (IsReaderRefusal self.core.now self.view id c.get_at.new.self)) c.id.ensures
          (read_cause self.core.now c.get_at.new.self self.view c.id.result c.get_at.result cause);
    }

pub returns-clause-cause : goal.returns-clause-cause
returns-clause-cause g c =
    let self = c.args.self.now in
    let cause = value_cause self.core.now c.get_at.new.self self.view c.id.result c.args.key.now c.get_at.result c.get_at.ensures.owes in
    subst (λ (id : ℕ). IfErr c.get_at.result (IsRefusedFor self.core.now self.view id c.get_at.new.self)) c.id.ensures cause

pub returns-clause-owes : goal.returns-clause-owes
returns-clause-owes g c =
    let self = c.args.self.now in
    subst (λ (id : ℕ). Owes self.core.now (OfRead self.view id (Get c.args.key.now)) (value_reply c.get_at.result) c.get_at.new.self) c.id.ensures c.get_at.ensures.owes

pub returns-clause-serves : goal.returns-clause-serves
returns-clause-serves g c =
    let self = c.args.self.now in
    subst (λ (id : ℕ). IsTrue g.D.Disk.honest → Serves self.core.now (OfRead self.view id (Get c.args.key.now)) (value_reply c.get_at.result) c.get_at.new.self) c.id.ensures c.get_at.ensures.serves
