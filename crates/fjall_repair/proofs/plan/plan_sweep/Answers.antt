use Rattle.std.proofs.Common.{All, subst}
use Rattle.fjall_base.specs.Disk.{DiskState}
use Rattle.fjall_repair.specs.Sweeps.{FindsHomes, HasAll, IsOwnHome}
use Rattle.fjall_repair.proofs.plan.plan_sweep.Goals as goal

pub returns-clause-right : goal.returns-clause-right
returns-clause-right g c honest are = record { tables = c.in_ok-tables.ensures.unnamed honest c.args.living.now are; homes = c.in_ok-homes.ensures.unnamed honest }

pub returns-clause-whole : goal.returns-clause-whole
returns-clause-whole g c honest are = record {
  tables = c.in_ok-tables.ensures.tree honest;
  tables_of = c.in_ok-tables.ensures.others honest c.args.living.now are;
  homes = subst (λ (s : DiskState). FindsHomes s c.args.living.now c.args.folder_ids.now c.in_ok-homes.homes.items) (c.in_ok-tables.ensures.same honest).state (c.in_ok-homes.ensures.found honest);
  each = subst (λ (s : DiskState). All (HasAll s) c.in_ok-homes.homes.items) (c.in_ok-tables.ensures.same honest).state (c.in_ok-homes.ensures.each honest);
  spares = subst (λ (s : DiskState). All (IsOwnHome s) c.in_ok-homes.homes.items) (c.in_ok-tables.ensures.same honest).state (c.in_ok-homes.ensures.spares honest);
}
