use Rattle.std.proofs.Common.{rules, ◌≡◌, true, string_bytes}
use Rattle.std.proofs.lemmas.List.Elements.{All-push}
use Rattle.fjall_disk_folder.specs.Names.{IsEntryOf, is_usable}
use Rattle.fjall_disk_folder.proofs.folder.Folder.list.Goals as goal
use Rattle.fjall_disk_folder.proofs.folder.Folder.list.Goals.{then-is_usable+in_ok-file_type+in_ok-push, else-is_usable}

pub loop-entry-preserved : goal.loop-entry-preserved
loop-entry-preserved c =
    elim c.if-is_usable.branch [
      | then-is_usable+in_ok-file_type+in_ok-push w ↦
          let usable : is_usable (string_bytes c.in_ok-full.full) ≡ true = search rules in
          rw w.listed-is (rw w.in_ok-push.ensures.items (All-push (IsEntryOf c.args.name.now) c.loop-entry.listed.items _ c.loop-entry.invariant (usable, (c.file_name.result.now, c.in_ok-full.ensures))))
      | else-is_usable w ↦ rw w.listed-is c.loop-entry.invariant
    ]
