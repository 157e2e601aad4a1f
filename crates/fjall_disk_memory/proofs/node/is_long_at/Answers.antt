use Rattle.std.proofs.Common.{IsTrue, sym, subst, ap, rules}
use Rattle.std.proofs.lemmas.Bool.{true≢false}
use Rattle.fjall_base.specs.Disk.{DiskEntry, Place, IsLong}
use Rattle.fjall_disk_memory.proofs.Names.{found_at, none_at}
use Rattle.fjall_disk_memory.proofs.node.is_long_at.Goals as goal

pub returns-in-Some : goal.returns-in-Some
returns-in-Some c =
    subst (λ (p : Place). (IsTrue c.is_long.result → IsLong c.args.len p.now) × (IsLong c.args.len p.now → IsTrue c.is_long.result))
    (sym (found_at c.args.names.now c.args.name.now c.in-Some.at c.index-names-at.result (search rules))) c.is_long.ensures

pub returns-in-None : goal.returns-in-None
returns-in-None c =
    let none = ap (λ (p : Place). p.now) (none_at c.args.names.now c.args.name.now (search rules)) in
    (λ no. absurd (true≢false (sym no)), λ long. absurd (subst (λ (e : DiskEntry). IsLong c.args.len e) none long))
