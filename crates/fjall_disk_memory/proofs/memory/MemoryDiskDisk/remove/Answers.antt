use Rattle.std.proofs.Common.{◌≡◌, sym, ◌∙◌}
use Rattle.fjall_base.specs.Disk.{Missing, File, Folder}
use Rattle.fjall_disk_memory.proofs.Housed.{housed_removed}
use Rattle.fjall_base.proofs.Results.{ok_at, took_removing}
use Rattle.fjall_disk_memory.proofs.memory.MemoryDiskDisk.remove.Goals as goal

pub put-requires : goal.put-requires
put-requires c =
    let file = c.in-File.ensures in
    record { housed = housed_removed _ c.args.name.now (λ folder. let both : File file.0 file.1 ≡ Folder = sym file.2 ∙ folder in let bad : ⊥ = cc in absurd bad) c.args.self.now.files.housed }

pub returns-else-is_err-clause-ok : goal.returns-else-is_err-clause-ok
returns-else-is_err-clause-ok c =
    let took = ok_at c.put.result _ c.if-is_err.ensures.negation c.put.ensures.ok in
    took_removing _ _ c.args.name.now _ (λ none. let both : Missing ≡ File c.in-File.ensures.0 c.in-File.ensures.1 = sym none ∙ c.in-File.ensures.2 in cc) (record { state = took.state; steps = took.steps })
