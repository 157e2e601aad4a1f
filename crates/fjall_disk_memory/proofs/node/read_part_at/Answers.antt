use Rattle.std.proofs.Common.{sym, subst, rules}
use Rattle.fjall_base.specs.Disk.{Place, ReadsAt}
use Rattle.fjall_disk_memory.proofs.Names.{found_at, none_at}
use Rattle.fjall_disk_memory.proofs.node.read_part_at.Goals as goal

pub returns-in_default : goal.returns-in_default
returns-in_default c = rw (none_at c.args.names.now c.args.name.now (search rules)) (search rules)

pub returns : goal.returns
returns c = subst (λ (p : Place). ReadsAt c.args.at c.args.len p.now c.in_ok-found.found) (sym (found_at c.args.names.now c.args.name.now c.in-Some.place c.index-names-place.result (search rules))) c.in_ok-found.ensures
