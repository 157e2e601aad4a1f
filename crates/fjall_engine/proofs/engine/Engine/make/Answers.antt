use Rattle.std.proofs.Common.{IsTrue, Result, Ok, Err, refl, subst, sym, ◌∙◌, ap}
use Rattle.std.proofs.lemmas.Result.{err_from_is_err_and}
use Rattle.fjall_base.specs.declared.error.Error.{Error}
use Rattle.fjall_engine.specs.Holding.{Held}
use Rattle.fjall_engine.specs.CallParts.{Makes}
use Rattle.fjall_engine.proofs.PartOutcomes.{make_done, make_failed}
use Rattle.fjall_engine.proofs.engine.Engine.make.Goals as goal

pub returns-in_err-sync_and_create_keyspace : goal.returns-in_err-sync_and_create_keyspace
returns-in_err-sync_and_create_keyspace g c =
    let m = g.D.Disk.meaning in
    let old : Held = record { disk = m c.self.inside.disk; journal = c.self.inside.journal; catalog = c.self.inside.catalog; memory = c.self.inside.memory } in
    let new : Held = record { disk = m c.sync_and_create_keyspace.new.disk; journal = c.sync_and_create_keyspace.new.journal; catalog = c.self.inside.catalog; memory = c.self.inside.memory } in
    let p = err_from_is_err_and c.from_residual-in_err-sync_and_create_keyspace.result c.from_residual-in_err-sync_and_create_keyspace.ensures.1 in
    let error = c.in_err-sync_and_create_keyspace.field-0.0 in
    record {
      made = subst (λ (h : Held). Makes (IsTrue g.D.Disk.honest) h c.args.id c.args.number c.from_residual-in_err-sync_and_create_keyspace.result new) c.self.view_is
          (subst (λ (r : Result Unit Error). Makes (IsTrue g.D.Disk.honest) old c.args.id c.args.number r new) (sym (p.1 ∙ ap Err p.2))
          (make_failed (IsTrue g.D.Disk.honest) old new c.args.id c.args.number c.keyspaces-keyspaces.result.now c.keyspaces-keyspaces.ensures.value c.in_ok-creation.creation c.in_ok-creation.ensures.ok error refl refl
          c.in_err-sync_and_create_keyspace.ensures.cause.cause (λ h. c.in_err-sync_and_create_keyspace.ensures.turns h old.catalog c.keyspaces-keyspaces.result.now c.args.id c.args.number c.in_ok-creation.ensures.ok)));
    }

pub returns : goal.returns
returns g c =
    let m = g.D.Disk.meaning in
    let old : Held = record { disk = m c.self.inside.disk; journal = c.self.inside.journal; catalog = c.self.inside.catalog; memory = c.self.inside.memory } in
    let creation = c.in_ok-creation.creation in
    let new : Held = record { disk = m c.sync_and_create_keyspace.new.disk; journal = c.sync_and_create_keyspace.new.journal; catalog = creation.update.catalog; memory = c.self.inside.memory } in
    record {
      made = subst (λ (h : Held). Makes (IsTrue g.D.Disk.honest) h c.args.id c.args.number (Ok tt) new) c.self.view_is
          (make_done (IsTrue g.D.Disk.honest) old new c.args.id c.args.number c.keyspaces-keyspaces.result.now c.keyspaces-keyspaces.ensures.value creation c.in_ok-creation.ensures.ok
          (λ i. record { disk = new.disk; journal = c.in_ok-sync_and_create_keyspace.ensures.ok i; catalog = creation.update.catalog; memory = old.memory }) c.in_ok-sync_and_create_keyspace.ensures.cause.later
          (λ h. c.in_ok-sync_and_create_keyspace.ensures.turns h old.catalog c.keyspaces-keyspaces.result.now c.args.id c.args.number c.in_ok-creation.ensures.ok));
    }
