use Rattle.std.proofs.Common.{sym, subst, ap, rules}
use Rattle.fjall_base.specs.Disk.{Place}
use Rattle.fjall_disk_memory.specs.Memory.{IsKind}
use Rattle.fjall_disk_memory.proofs.Names.{found_at, none_at}
use Rattle.fjall_disk_memory.proofs.node.kind_at.Goals as goal

pub returns-in-Some : goal.returns-in-Some
returns-in-Some c = subst (λ (p : Place). IsKind c.kind.result p.now) (sym (found_at c.args.names.now c.args.name.now c.in-Some.at c.index-names-at.result (search rules))) c.kind.ensures

pub returns-in-None : goal.returns-in-None
returns-in-None c = ap (λ (p : Place). p.now) (none_at c.args.names.now c.args.name.now (search rules))
