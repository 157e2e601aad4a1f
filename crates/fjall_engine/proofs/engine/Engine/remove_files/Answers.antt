use Rattle.std.proofs.Common.{IsTrue, refl, subst}
use Rattle.fjall_engine.specs.Holding.{Held}
use Rattle.fjall_engine.specs.CallParts.{Removes}
use Rattle.fjall_engine.proofs.PartOutcomes.{removal_comes}
use Rattle.fjall_engine.proofs.engine.Engine.remove_files.Goals as goal

pub returns : goal.returns
returns g c =
    let m = g.D.Disk.meaning in
    let old : Held = record { disk = m c.self.inside.disk; journal = c.self.inside.journal; catalog = c.self.inside.catalog; memory = c.self.inside.memory } in
    let new : Held = record { disk = m c.remove_keyspace.new.disk; journal = c.self.inside.journal; catalog = c.self.inside.catalog; memory = c.self.inside.memory } in
    let on = c.remove_keyspace.ensures in
    record {
      removed = subst (λ (h : Held). Removes (IsTrue g.D.Disk.honest) h c.args.id c.remove_keyspace.result new) c.self.view_is
          (removal_comes (IsTrue g.D.Disk.honest) old new c.args.id c.remove_keyspace.result refl on.cause (λ h. record {
            within = on.within h;
            others = on.others h;
            leaves = λ records t unused lies. on.any_moment h records t unused lies;
            lies = λ records t unused lies. on.lies h records t unused lies;
            served = λ records t lies kind. on.served h records t lies kind;
            kinds = on.kinds h;
          }) (λ h. on.removed h) (λ h is. on.memory h is));
    }
