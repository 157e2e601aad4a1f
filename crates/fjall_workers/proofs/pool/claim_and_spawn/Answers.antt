use Rattle.std.proofs.Common.{rules, arith, of_calls}
use Rattle.fjall_workers.proofs.Starting.{one_more}
use Rattle.fjall_workers.proofs.pool.claim_and_spawn.Goals as goal

pub loop-index-preserved : goal.loop-index-preserved
loop-index-preserved g c = record {
  callable = search of_calls;
  len = omega arith;
  room = omega arith;
  starts = search (rules, one_more);
}
