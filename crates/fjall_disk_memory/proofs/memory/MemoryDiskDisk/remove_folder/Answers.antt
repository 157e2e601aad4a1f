use Rattle.std.proofs.Common.{◌≡◌, sym, ◌∙◌, subst, List}
use Rattle.std.proofs.lemmas.Bool.{OnFalse_at}
use Rattle.fjall_base.specs.Disk.{Missing, Folder, IsEmpty}
use Rattle.fjall_disk_memory.specs.Memory.{state_of}
use Rattle.fjall_disk_memory.specs.declared.node.Named.{Named}
use Rattle.fjall_disk_memory.proofs.Housed.{housed_removed}
use Rattle.fjall_base.proofs.Results.{ok_at, took_removing}
use Rattle.fjall_disk_memory.proofs.memory.MemoryDiskDisk.remove_folder.Goals as goal

pub put-requires : goal.put-requires
put-requires c =
    let empty = OnFalse_at c.if-holds_any.false c.holds_any.ensures.none in
    record { housed = housed_removed _ c.args.name.now (λ folder. subst (λ (names : List Named). IsEmpty (state_of names) c.args.name.now) c.as_slice.ensures.value empty) c.args.self.now.files.housed }

pub returns-else-is_err-clause-ok : goal.returns-else-is_err-clause-ok
returns-else-is_err-clause-ok c =
    let took = ok_at c.put.result _ c.if-is_err.ensures.negation c.put.ensures.ok in
    took_removing _ _ c.args.name.now _ (λ none. let both : Missing ≡ Folder = sym none ∙ c.in-Folder.ensures in cc) (record { state = took.state; steps = took.steps })
