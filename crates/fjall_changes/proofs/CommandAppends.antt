-- The batch of a command was written, and then all that waits went out where the mode asks for it.
use Rattle.std.proofs.Common.{◌≡◌, ◌∙◌, ◌++◌, ◌∷◌, [], false, nat_le, ℕ, List, Option, None, Some, Result, OnErr, OnOk, ap, arith, is_none, length, refl, subst, sym}
use Rattle.std.proofs.lemmas.Bool.Decides.{nat_tests}
use Rattle.std.proofs.lemmas.List.{append-nil}
use Rattle.std.specs.List.{list_any}
use Rattle.fjall_base.specs.Disk.{IsFile, LeavesOnly, Meaning, Took, TookOrNot, state_in}
use Rattle.fjall_base.specs.declared.error.Error.{Error}
use Rattle.fjall_files.specs.Tidy.{StaysTidy}
use Rattle.fjall_files.proofs.Tidying.{stays_part}
use Rattle.fjall_journal.specs.declared.persist_mode.PersistMode.{PersistMode}
use Rattle.fjall_journal.specs.Batches.{Written, IsWritten, batch_text, items_of}
use Rattle.fjall_journal.specs.Changes.{Change, Items, Emptied, entries_of_change}
use Rattle.fjall_journal.specs.Writer.{BatchTook, IsIo, Journal, Waits, WriteTook, after_command, after_write, batch_steps, syncing_mode, write_steps}
use Rattle.fjall_meta.specs.Replays.{is_indirect}
use Rattle.fjall_changes.specs.Journaling.{ForFollowing, ForWriting, IsWriting, KeepsKeyspaces, LeavesRoot, TookIn, after_mode, is_out, out_in, steps_in, with_batch}
use Rattle.fjall_changes.proofs.AppendsAndSyncs.{took_on, write_part}
use Rattle.fjall_changes.proofs.BatchAppends.{after_name, half_written, mode_on, no_mode_took, refused_apart, refused_leaves, refused_stays, took_apart, took_leaves, took_stays, twice_out, whole_written, write_leaves}
use Rattle.fjall_changes.proofs.Batches.{batch_sound, items_direct}
use Rattle.fjall_changes.proofs.CrashesInWrites.{part_apart}
use Rattle.fjall_changes.proofs.JournalFile.{writing_file, written_file}
use Rattle.fjall_changes.proofs.Results.{either_way, on_both, on_err, on_ok}

-- no item of the batch stands for a value elsewhere
abbrev pub IsDirect : Written → Type 0
IsDirect batch = list_any is_indirect (items_of batch.changes) ≡ false

-- so it is of all that a command does
pub change_direct : (change : Change) → list_any is_indirect (items_of (entries_of_change change)) ≡ false
change_direct (Items items) = items_direct items
change_direct (Emptied id) = refl

-- a batch that doesn't go out has no mode, and waits
pub stays_in : (mode : Option PersistMode) (writer : Journal) (batch : Written) → is_out mode writer batch ≡ false → (mode ≡ None) × Waits writer (batch_text batch)
stays_in None writer batch test = (refl, grind (arith, nat_tests))
stays_in (Some mode) writer batch test = absurd cc

-- ---- the write was refused

module _ (error : Error) (writer : Journal) (batch : Written) (old new : Meaning) (part : WriteTook error old new writer.name (writer.buffer ++ batch_text batch)) where
  pub unwritten_leaves : (IsIo error → IsWritten batch) → IsDirect batch → ForFollowing old writer batch.number (λ j. LeavesOnly old new (LeavesRoot (state_in old) j (j.later ++ batch ∷ [])))
  unwritten_leaves tried direct j writing can = write_leaves error old new writer j batch writing tried (batch_sound j batch can direct writing.root.sound) part

  pub unwritten_apart : ForWriting old writer (λ j. KeepsKeyspaces old new)
  unwritten_apart j writing = part_apart old new writer j writing (writer.buffer ++ batch_text batch) (write_part error old new writer.name (writer.buffer ++ batch_text batch) part)

  pub unwritten_stays : StaysTidy old new
  unwritten_stays = stays_part old new writer.name (writer.buffer ++ batch_text batch) (write_part error old new writer.name (writer.buffer ++ batch_text batch) part)

-- ---- it was done

-- all that the mode asks for was done
all_took : (mode : Option PersistMode) (writer : Journal) (text : List ℕ) (old mid new : Meaning) → Took old mid (write_steps writer text)
    → Took mid new (steps_in mode (after_write writer text)) → Took old new (batch_steps mode writer text)
all_took None writer text old mid new wrote took =
    no_mode_took writer text old new (subst (Took old new) (append-nil (write_steps writer text)) (took_on old mid new (write_steps writer text) [] wrote took))
all_took (Some mode) writer text old mid new wrote took = whole_written mode writer text old mid new wrote took

-- or some beginning of it
some_took : (mode : Option PersistMode) (writer now : Journal) (text : List ℕ) (old mid new : Meaning) → Took old mid (write_steps writer text)
    → ((after_write writer text).buffer ≡ [] → TookOrNot mid new (syncing_mode (after_write writer text).name mode)) → TookIn mode (after_write writer text) now mid new → BatchTook mode old new writer text
some_took None writer now text old mid new wrote nothing left = absurd left
some_took (Some mode) writer now text old mid new wrote nothing left = half_written mode writer now text old mid new wrote nothing left

out_is : (mode : Option PersistMode) (writer : Journal) (text : List ℕ) → out_in mode (after_write writer text) ≡ after_command (is_none mode) writer text
out_is None writer text = refl
out_is (Some mode) writer text = twice_out writer text

-- what the disk had taken of it before the mode's part, and what it took then
module _ {T : Type 0} (r : Result T Error) (mode : Option PersistMode) (writer behind now : Journal) (text : List ℕ) (is : behind ≡ after_write writer text) where
  pub command_done : OnOk r (now ≡ out_in mode behind) → OnOk r (now ≡ after_command (is_none mode) writer text)
  command_done done = on_ok r (now ≡ after_command (is_none mode) writer text) done (λ out. out ∙ ap (out_in mode) is ∙ out_is mode writer text)

  module _ (old mid new : Meaning) (wrote : Took old mid (write_steps writer text)) where
    pub command_took : OnOk r (Took mid new (steps_in mode behind)) → OnOk r (Took old new (batch_steps mode writer text))
    command_took done = on_ok r (Took old new (batch_steps mode writer text)) done (λ took. all_took mode writer text old mid new wrote (subst (λ (w : Journal). Took mid new (steps_in mode w)) is took))

    pub command_left : (behind.buffer ≡ [] → OnErr r (TookOrNot mid new (syncing_mode behind.name mode))) → OnErr r (TookIn mode behind now mid new) → OnErr r (BatchTook mode old new writer text)
    command_left nothing left =
        on_err r (BatchTook mode old new writer text) nothing left
        (λ none part. some_took mode writer now text old mid new wrote (subst (λ (w : Journal). w.buffer ≡ [] → TookOrNot mid new (syncing_mode w.name mode)) is none)
        (subst (λ (w : Journal). TookIn mode w now mid new) is part))

    -- the journal's file is still there
    pub command_file : ForWriting old writer (λ j. IsFile (state_in mid behind.name).now)
    command_file j writing =
        let full = nat_le 8192 (length (writer.buffer ++ text)) in
        subst (λ (n : List ℕ). IsFile (state_in mid n).now) (sym (ap (λ (w : Journal). w.name) is ∙ after_name full writer text))
        (written_file full writer text old mid wrote (writing_file (state_in old) writer j writing))

-- ---- what follows of all that was taken

module _ {T : Type 0} (r : Result T Error) (mode : Option PersistMode) (writer now : Journal) (batch : Written) (old new : Meaning) (all : OnOk r (Took old new (batch_steps mode writer (batch_text batch)))) where
  pub command_on : IsWritten batch → IsDirect batch → OnOk r (now ≡ after_command (is_none mode) writer (batch_text batch))
      → ForFollowing old writer batch.number (λ j. OnOk r (IsWriting (state_in new) now (after_mode mode (with_batch (is_out mode writer batch) j batch))))
  command_on written direct done j writing can =
      on_both r (IsWriting (state_in new) now (after_mode mode (with_batch (is_out mode writer batch) j batch))) done all
      (λ is took. mode_on old new writer j batch writing written (batch_sound j batch can direct writing.root.sound) mode now took is)

  module _ (part : OnErr r (BatchTook mode old new writer (batch_text batch))) where
    pub command_leaves : IsWritten batch → IsDirect batch → ForFollowing old writer batch.number (λ j. LeavesOnly old new (LeavesRoot (state_in old) j (j.later ++ batch ∷ [])))
    command_leaves written direct j writing can =
        let sound = batch_sound j batch can direct writing.root.sound in
        either_way r (LeavesOnly old new (LeavesRoot (state_in old) j (j.later ++ batch ∷ []))) all part
        (took_leaves old new writer j batch writing written sound mode) (refused_leaves old new writer j batch writing written sound mode)

    pub command_apart : ForWriting old writer (λ j. KeepsKeyspaces old new)
    command_apart j writing = either_way r (KeepsKeyspaces old new) all part (took_apart mode writer (batch_text batch) old new j writing) (refused_apart mode writer (batch_text batch) old new j writing)

    pub command_stays : StaysTidy old new
    command_stays = either_way r (StaysTidy old new) all part (took_stays mode writer (batch_text batch) old new) (refused_stays mode writer (batch_text batch) old new)
