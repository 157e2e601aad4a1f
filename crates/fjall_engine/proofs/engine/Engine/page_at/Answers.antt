use Rattle.std.proofs.Common.{subst}
use Rattle.fjall_history.specs.Queries.{Page}
use Rattle.fjall_machine.specs.Shapes.{OfRead}
use Rattle.fjall_engine.specs.Holding.{Held}
use Rattle.fjall_engine.specs.Standing.{Owes, Serves, pairs_reply}
use Rattle.fjall_engine.proofs.ReadCalls.{Came, pairs_owes, pairs_serves}
use Rattle.fjall_engine.proofs.engine.Engine.page_at.Goals as goal

pub returns : goal.returns
returns g c =
    let m = g.D.Disk.meaning in
    let old : Held = record { disk = m c.self.inside.disk; journal = c.self.inside.journal; catalog = c.self.inside.catalog; memory = c.self.inside.memory } in
    let new : Held = record { disk = m c.page.new.disk; journal = c.self.inside.journal; catalog = c.self.inside.catalog; memory = c.page.new.self } in
    let on = c.page.ensures in
    let came : Came g.D.Disk.honest old new c.args.view c.args.id = record {
      held = λ i. record { disk = new.disk; journal = old.journal; catalog = old.catalog; memory = on.held i };
      trees = on.trees;
      bare = λ no i. record { disk = (on.bare no).1 i; journal = old.journal; catalog = old.catalog; memory = (on.bare no).0 i };
      waits = λ error is i. record { disk = (on.waits error is).1 i; journal = old.journal; catalog = old.catalog; memory = (on.waits error is).0 i };
      reads = λ h entries are. on.reads h entries are;
      disk = on.disk;
    } in
    record {
      serves = λ h. subst (λ (o : Held). Serves o (OfRead c.args.view c.args.id (Page c.args.range.now c.args.back c.args.max)) (pairs_reply c.page.result) new) c.self.view_is
          (pairs_serves g.D.Disk.honest old new c.args.view c.args.id c.args.range.now c.args.back c.args.max c.page.result came on.due (λ no. (on.bare no).2) on.cause (λ h. on.found h) (λ h. on.refused h) h);
      owes = subst (λ (o : Held). Owes o (OfRead c.args.view c.args.id (Page c.args.range.now c.args.back c.args.max)) (pairs_reply c.page.result) new) c.self.view_is
          (pairs_owes g.D.Disk.honest old new c.args.view c.args.id c.args.range.now c.args.back c.args.max c.page.result came on.due (λ no. (on.bare no).2) on.cause);
    }
