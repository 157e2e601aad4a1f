use Rattle.std.proofs.Common.{subst}
use Rattle.fjall_history.specs.Queries.{Get}
use Rattle.fjall_machine.specs.Shapes.{OfRead}
use Rattle.fjall_engine.specs.Holding.{Held}
use Rattle.fjall_engine.specs.Standing.{Owes, Serves, value_reply}
use Rattle.fjall_engine.proofs.ReadCalls.{Came, value_owes, value_serves}
use Rattle.fjall_engine.proofs.engine.Engine.get_at.Goals as goal

pub returns : goal.returns
returns g c =
    let m = g.D.Disk.meaning in
    let old : Held = record { disk = m c.self.inside.disk; journal = c.self.inside.journal; catalog = c.self.inside.catalog; memory = c.self.inside.memory } in
    let new : Held = record { disk = m c.get.new.disk; journal = c.self.inside.journal; catalog = c.self.inside.catalog; memory = c.get.new.self } in
    let on = c.get.ensures in
    let came : Came g.D.Disk.honest old new c.args.view c.args.id = record {
      held = λ i. record { disk = new.disk; journal = old.journal; catalog = old.catalog; memory = on.held i };
      trees = on.trees;
      bare = λ no i. record { disk = (on.bare no).1 i; journal = old.journal; catalog = old.catalog; memory = (on.bare no).0 i };
      waits = λ error is i. record { disk = (on.waits error is).1 i; journal = old.journal; catalog = old.catalog; memory = (on.waits error is).0 i };
      reads = λ h entries are. on.reads h entries are;
      disk = on.disk;
    } in
    record {
      serves = λ h. subst (λ (o : Held). Serves o (OfRead c.args.view c.args.id (Get c.args.key.now)) (value_reply c.get.result) new) c.self.view_is
          (value_serves g.D.Disk.honest old new c.args.view c.args.id c.args.key.now c.get.result came on.due (λ no. (on.bare no).2) on.cause (λ h. on.found h) (λ h. on.refused h) h);
      owes = subst (λ (o : Held). Owes o (OfRead c.args.view c.args.id (Get c.args.key.now)) (value_reply c.get.result) new) c.self.view_is
          (value_owes g.D.Disk.honest old new c.args.view c.args.id c.args.key.now c.get.result came on.due (λ no. (on.bare no).2) on.cause);
    }
