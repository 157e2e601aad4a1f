use Rattle.std.proofs.Common.{◌≡◌, ◌+◌, ◌++◌, [], ◌∷◌, take, get_or, refl, ◌∙◌, arith, rules, if◌then◌else◌, true, false, suc, add-one}
use Rattle.std.proofs.Math.Seq.{take-suc}
use Rattle.fjall_base.specs.Disk.{folder_of}
use Rattle.fjall_disk_memory.proofs.Folders.{folder_of-push, slash}
use Rattle.fjall_disk_memory.proofs.node.folder_name.Goals as goal
use Rattle.fjall_disk_memory.proofs.node.folder_name.Goals.{then-b-eq47, else-b-eq47}

pub loop-i-preserved : goal.loop-i-preserved
loop-i-preserved c =
    let bytes = c.as_bytes-bytes.result.now in
    let i = c.loop-i.i in
    let b = get_or bytes i 0 in
    let more : take (suc i) bytes ≡ take i bytes ++ b ∷ [] = take-suc bytes i 0 (omega arith) in
    let front : folder_of (take (i + 1) bytes) ≡ (if slash b then take i bytes else folder_of (take i bytes)) = rw (add-one, more) (folder_of-push (take i bytes) b) in
    elim c.if-b-eq47.branch [
      | then-b-eq47 w ↦
          let is : slash b ≡ true = search rules in
          record { within = omega arith; front = front ∙ rw (is, w.end-is) refl }
      | else-b-eq47 w ↦
          let not : slash b ≡ false = search rules in
          record { within = omega arith; front = front ∙ rw (not, w.end-is) c.loop-i.invariant.front }
    ]
