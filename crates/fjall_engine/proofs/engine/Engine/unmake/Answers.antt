use Rattle.std.proofs.Common.{IsTrue, Result, Ok, Err, refl, subst, sym, ◌∙◌, ap}
use Rattle.std.proofs.lemmas.Result.{err_from_is_err_and}
use Rattle.fjall_base.specs.declared.error.Error.{Error}
use Rattle.fjall_meta.specs.Keyspaces.{without_keyspace}
use Rattle.fjall_machine.specs.Remembered.{IsLawful}
use Rattle.fjall_engine.specs.Holding.{Held}
use Rattle.fjall_engine.specs.CallParts.{Unmakes}
use Rattle.fjall_engine.proofs.PartOutcomes.{unmake_done, unmake_failed}
use Rattle.fjall_engine.proofs.engine.Engine.unmake.Goals as goal

pub returns-in_err-sync_and_delete_keyspace : goal.returns-in_err-sync_and_delete_keyspace
returns-in_err-sync_and_delete_keyspace g c =
    let m = g.D.Disk.meaning in
    let old : Held = record { disk = m c.self.inside.disk; journal = c.self.inside.journal; catalog = c.self.inside.catalog; memory = c.self.inside.memory } in
    let new : Held = record { disk = m c.sync_and_delete_keyspace.new.disk; journal = c.sync_and_delete_keyspace.new.journal; catalog = c.self.inside.catalog; memory = c.self.inside.memory } in
    let p = err_from_is_err_and c.from_residual-in_err-sync_and_delete_keyspace.result c.from_residual-in_err-sync_and_delete_keyspace.ensures.1 in
    let error = c.in_err-sync_and_delete_keyspace.field-0.0 in
    record {
      lawful = subst (λ (h : Held). IsLawful h.memory) c.self.view_is c.keyspaces-keyspaces.ensures.lawful;
      unmade = subst (λ (h : Held). Unmakes (IsTrue g.D.Disk.honest) h c.args.id c.from_residual-in_err-sync_and_delete_keyspace.result new) c.self.view_is
          (subst (λ (r : Result Unit Error). Unmakes (IsTrue g.D.Disk.honest) old c.args.id r new) (sym (p.1 ∙ ap Err p.2))
          (unmake_failed (IsTrue g.D.Disk.honest) old new c.args.id c.seqno-number.result c.keyspaces-keyspaces.result.now c.keyspaces-keyspaces.ensures.value c.seqno-number.ensures c.in_ok-update.update c.in_ok-update.ensures.ok error refl refl
          c.in_err-sync_and_delete_keyspace.ensures.cause.cause (λ h. c.in_err-sync_and_delete_keyspace.ensures.turns h old.catalog (without_keyspace c.args.id c.keyspaces-keyspaces.result.now) c.seqno-number.result c.in_ok-update.ensures.ok)));
    }

pub returns : goal.returns
returns g c =
    let m = g.D.Disk.meaning in
    let old : Held = record { disk = m c.self.inside.disk; journal = c.self.inside.journal; catalog = c.self.inside.catalog; memory = c.self.inside.memory } in
    let update = c.in_ok-update.update in
    let new : Held = record { disk = m c.sync_and_delete_keyspace.new.disk; journal = c.sync_and_delete_keyspace.new.journal; catalog = update.catalog; memory = c.self.inside.memory } in
    record {
      lawful = subst (λ (h : Held). IsLawful h.memory) c.self.view_is c.keyspaces-keyspaces.ensures.lawful;
      unmade = subst (λ (h : Held). Unmakes (IsTrue g.D.Disk.honest) h c.args.id (Ok tt) new) c.self.view_is
          (unmake_done (IsTrue g.D.Disk.honest) old new c.args.id c.seqno-number.result c.keyspaces-keyspaces.result.now c.keyspaces-keyspaces.ensures.value c.seqno-number.ensures update c.in_ok-update.ensures.ok
          (λ i. record { disk = new.disk; journal = c.in_ok-sync_and_delete_keyspace.ensures.ok i; catalog = update.catalog; memory = old.memory }) c.in_ok-sync_and_delete_keyspace.ensures.cause.later
          (λ h. c.in_ok-sync_and_delete_keyspace.ensures.turns h old.catalog (without_keyspace c.args.id c.keyspaces-keyspaces.result.now) c.seqno-number.result c.in_ok-update.ensures.ok));
    }
