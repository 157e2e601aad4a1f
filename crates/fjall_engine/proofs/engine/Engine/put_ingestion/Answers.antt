use Rattle.std.proofs.Common.{rules, ◌≡◌, IsTrue, Err, Result, inl, inr, sym, subst}
use Rattle.fjall_base.specs.declared.error.Error.{Error}
use Rattle.fjall_replay.specs.Known.{last_known}
use Rattle.fjall_engine.specs.CallParts.{PutsIngestion}
use Rattle.fjall_engine.proofs.PutIngestions.{may_settle, put_by}
use Rattle.fjall_engine.proofs.engine.Engine.put_ingestion.Goals as goal

pub returns-in-Err : goal.returns-in-Err
returns-in-Err g c = record { puts = inl (c.sync_for_flush.new.self, c.in-Err.ensures.synced, c.poison_by.ensures) }

pub returns-in_err-write_ingestion : goal.returns-in_err-write_ingestion
returns-in_err-write_ingestion g c =
    let is : c.from_residual.result ≡ Err c.in_err-write_ingestion.field-0.0 = search rules in
    record {
      puts = subst (λ (r : Result Unit Error). PutsIngestion (IsTrue g.D.Disk.honest) c.args.self.now c.args.planned r c.write_ingestion.new.self) (sym is)
          (inr (inl (c.sync_for_flush.new.self, c.in_default.ensures.synced, c.in_err-write_ingestion.ensures.writes)));
    }

pub settle_ingestion-requires : goal.settle_ingestion-requires
settle_ingestion-requires g c =
    let planned = c.requires.planned in
    let may = may_settle (IsTrue g.D.Disk.honest) c.args.self.now c.sync_for_flush.new.self c.write_ingestion.new.self c.args.planned planned.0 planned.1
    (last_known c.args.self.now.memory.records planned.2) c.in_default.ensures.synced.0 c.in_ok-write_ingestion.ensures.writes c.requires.kept c.requires.numbered planned.4 in
    record { kept = may.kept; numbered = may.numbered; clears = may.clears; empty = may.empty; room = may.room }

pub returns : goal.returns
returns g c = record {
  puts = put_by (IsTrue g.D.Disk.honest) c.args.self.now c.sync_for_flush.new.self c.write_ingestion.new.self c.settle_ingestion.new.self c.args.planned c.settle_ingestion.result
      c.in_default.ensures.synced c.in_ok-write_ingestion.ensures.writes c.settle_ingestion.ensures.settles;
}
