use Rattle.std.proofs.Common.{List, subst}
use Rattle.std.specs.Bool.{OnTrue, OnFalse}
use Rattle.fjall_base.specs.Disk.{IsEmpty}
use Rattle.fjall_disk_memory.specs.Memory.{state_of}
use Rattle.fjall_disk_memory.specs.declared.node.Named.{Named}
use Rattle.fjall_base.proofs.Served.{removable}
use Rattle.fjall_disk_memory.proofs.files.Files.can_remove_folder.Goals as goal

pub returns-in-Folder : goal.returns-in-Folder
returns-in-Folder c =
    removable c.holds_any.result _ c.args.name.now c.in-Folder.ensures
    (subst (λ (names : List Named). OnTrue c.holds_any.result (IsEmpty (state_of names) c.args.name.now → ⊥)) c.as_slice.ensures.value c.holds_any.ensures.some)
    (subst (λ (names : List Named). OnFalse c.holds_any.result (IsEmpty (state_of names) c.args.name.now)) c.as_slice.ensures.value c.holds_any.ensures.none)
