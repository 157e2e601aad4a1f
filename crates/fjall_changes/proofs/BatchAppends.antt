-- One batch more goes out, behind what waits.
use Rattle.std.proofs.Common.{◌≡◌, ◌≢◌, inl, inr, nat_le, ℕ, ◌+◌, ◌<◌, Bool, true, false, cond, List, [], ◌∷◌, ◌++◌, length, Option, None, Some, is_none, refl, sym, ◌∙◌, ap, subst, arith}
use Rattle.std.proofs.lemmas.List.{append-nil}
use Rattle.std.proofs.lemmas.Bool.Decides.{nat_tests}
use Rattle.std.specs.List.{AllByRecursion}
use Rattle.fjall_base.specs.Disk.{Append, Meaning, Name, DiskState, DiskStep, Took, TookOrNot, TookPart, LeavesOnly, state_in}
use Rattle.fjall_base.specs.declared.error.Error.{Error}
use Rattle.fjall_base.specs.declared.error.Error.TheVariants.{Io}
use Rattle.fjall_files.specs.Tidy.{StaysTidy}
use Rattle.fjall_files.proofs.Tidying.{stays_part}
use Rattle.fjall_journal.specs.declared.persist_mode.PersistMode.{PersistMode}
use Rattle.fjall_journal.specs.declared.persist_mode.PersistMode.TheVariants.{Buffer, SyncData, SyncAll}
use Rattle.fjall_journal.specs.Batches.{Written, IsWritten, batch_text}
use Rattle.fjall_journal.specs.Writer.{BatchTook, IsIo, Journal, PersistTook, WriteTook, after_command, after_write, appending, batch_steps, command_steps, counted, filled, goes_out, persist_steps, syncing, write_steps, written_out}
use Rattle.fjall_files.specs.Names.{journal_name}
use Rattle.fjall_recovery.specs.Places.{Journaling, texts_of}
use Rattle.fjall_changes.specs.Journaling.{IsWriting, KeepsKeyspaces, LeavesRoot, after_mode, after_persist, is_out, with_batch}
use Rattle.fjall_changes.proofs.Batches.{AreSound}
use Rattle.fjall_changes.proofs.AppendsAndSyncs.{SameBut, appending_is, mode_but, part_but, took_on, whole_part}
use Rattle.fjall_changes.proofs.CrashesInWrites.{apart, appended_all, leaves_part, nothing_leaves, persist_leaves, persist_out}
use Rattle.fjall_changes.proofs.RootAfterWrites.{waiting_goes_on}
use Rattle.fjall_changes.proofs.TidyWrites.{persist_stays}

-- ---- a write and the persist behind it

pub after_name : (full : Bool) (writer : Journal) (text : List ℕ) → (cond full (written_out (filled writer text)) (filled writer text)).name ≡ writer.name
after_name true writer text = refl
after_name false writer text = refl

long : (n : ℕ) → nat_le 8192 n ≡ true → 0 < n
long n test = grind (arith, nat_tests)

whole_by : (full : Bool) (mode : PersistMode) (writer : Journal) (text : List ℕ) (old mid new : Meaning) → (full ≡ true → 0 < length (writer.buffer ++ text)) → Took old mid (cond full (Append writer.name (writer.buffer ++ text) ∷ []) [])
    → Took mid new (persist_steps (cond full (written_out (filled writer text)) (filled writer text)) mode) → Took old new (persist_steps (filled writer text) mode)
whole_by true mode writer text old mid new some first next =
    subst (λ (steps : List DiskStep). Took old new (steps ++ syncing writer.name mode)) (appending_is writer.name (writer.buffer ++ text) (some refl))
    (took_on old mid new (Append writer.name (writer.buffer ++ text) ∷ []) (syncing writer.name mode) first next)
whole_by false mode writer text old mid new some first next = took_on old mid new [] (persist_steps (filled writer text) mode) first next

-- all went out
pub whole_written : (mode : PersistMode) (writer : Journal) (text : List ℕ) (old mid new : Meaning) → Took old mid (write_steps writer text) → Took mid new (persist_steps (after_write writer text) mode) → Took old new (batch_steps (Some mode) writer text)
whole_written mode writer text old mid new = whole_by (nat_le 8192 (length (writer.buffer ++ text))) mode writer text old mid new (long (length (writer.buffer ++ text)))

-- the bytes went out before, and the sync may have been done
sync_failed : (mode : PersistMode) (writer : Journal) (text : List ℕ) (old mid new : Meaning) → Took old mid (appending writer.name (writer.buffer ++ text)) → TookOrNot mid new (syncing writer.name mode) → BatchTook (Some mode) old new writer text
sync_failed mode writer text old mid new first (inl none) =
    let bytes = writer.buffer ++ text in
    inl (whole_part old new writer.name bytes (subst (Took old new) (append-nil (appending writer.name bytes)) (took_on old mid new (appending writer.name bytes) [] first none)))
sync_failed Buffer writer text old mid new first (inr none) =
    let bytes = writer.buffer ++ text in
    inl (whole_part old new writer.name bytes (subst (Took old new) (append-nil (appending writer.name bytes)) (took_on old mid new (appending writer.name bytes) [] first none)))
sync_failed SyncData writer text old mid new first (inr done) = inr ((λ e. cc), took_on old mid new (appending writer.name (writer.buffer ++ text)) (syncing writer.name SyncData) first done)
sync_failed SyncAll writer text old mid new first (inr done) = inr ((λ e. cc), took_on old mid new (appending writer.name (writer.buffer ++ text)) (syncing writer.name SyncAll) first done)

syncs : (name : Name) (mode : PersistMode) → mode ≢ Buffer → syncing name mode ≢ []
syncs name Buffer other = absurd (other refl)
syncs name SyncData other = λ e. cc
syncs name SyncAll other = λ e. cc

part_by : (full : Bool) (mode : PersistMode) (writer now : Journal) (text : List ℕ) (old mid new : Meaning) → (full ≡ true → 0 < length (writer.buffer ++ text)) → Took old mid (cond full (Append writer.name (writer.buffer ++ text) ∷ []) [])
    → ((cond full (written_out (filled writer text)) (filled writer text)).buffer ≡ [] → TookOrNot mid new (syncing (cond full (written_out (filled writer text)) (filled writer text)).name mode))
    → PersistTook (cond full (written_out (filled writer text)) (filled writer text)) now mode mid new → BatchTook (Some mode) old new writer text
part_by true mode writer now text old mid new some first nothing failed =
    sync_failed mode writer text old mid new (subst (Took old mid) (appending_is writer.name (writer.buffer ++ text) (some refl)) first) (nothing refl)
part_by false mode writer now text old mid new some first nothing (inl (same, inl none)) = inl (inl (took_on old mid new [] [] first none))
part_by false mode writer now text old mid new some first nothing (inl (same, inr (n, took))) = inl (inr (n, took_on old mid new [] _ first took))
part_by false mode writer now text old mid new some first nothing (inr (out, other, inl took)) = inl (whole_part old new writer.name (writer.buffer ++ text) (took_on old mid new [] _ first took))
part_by false mode writer now text old mid new some first nothing (inr (out, other, inr took)) = inr (syncs writer.name mode other, took_on old mid new [] _ first took)

-- where the second half failed, some beginning went out, or all of it and the sync
pub half_written : (mode : PersistMode) (writer now : Journal) (text : List ℕ) (old mid new : Meaning) → Took old mid (write_steps writer text)
    → ((after_write writer text).buffer ≡ [] → TookOrNot mid new (syncing (after_write writer text).name mode)) → PersistTook (after_write writer text) now mode mid new → BatchTook (Some mode) old new writer text
half_written mode writer now text old mid new = part_by (nat_le 8192 (length (writer.buffer ++ text))) mode writer now text old mid new (long (length (writer.buffer ++ text)))

out_by : (full : Bool) (writer : Journal) (text : List ℕ) → written_out (cond full (written_out (filled writer text)) (filled writer text)) ≡ written_out (filled writer text)
out_by true writer text = let same : counted (counted (writer.len + length (writer.buffer ++ text)) + 0) ≡ counted (writer.len + length (writer.buffer ++ text)) = omega arith in λ i. record { name = writer.name; buffer = []; len = same i }
out_by false writer text = refl

-- what went out already is written out
pub twice_out : (writer : Journal) (text : List ℕ) → written_out (after_write writer text) ≡ written_out (filled writer text)
twice_out writer text = out_by (nat_le 8192 (length (writer.buffer ++ text))) writer text

-- ---- a write without a mode

steps_by : (full : Bool) (writer : Journal) (text : List ℕ) → (full ≡ true → 0 < length (writer.buffer ++ text)) → cond full (Append writer.name (writer.buffer ++ text) ∷ []) [] ≡ cond full (appending writer.name (writer.buffer ++ text)) []
steps_by true writer text some = appending_is writer.name (writer.buffer ++ text) (some refl)
steps_by false writer text some = refl

-- it does what the write does alone
pub by_hand_steps : (writer : Journal) (text : List ℕ) → write_steps writer text ≡ command_steps true writer text
by_hand_steps writer text = steps_by (nat_le 8192 (length (writer.buffer ++ text))) writer text (long (length (writer.buffer ++ text)))

-- and so does a batch without a mode
pub no_mode_took : (writer : Journal) (text : List ℕ) (old new : Meaning) → Took old new (write_steps writer text) → Took old new (batch_steps None writer text)
no_mode_took writer text old new took = subst (Took old new) (by_hand_steps writer text ∙ sym (append-nil (command_steps true writer text))) took

part_of : (out : Bool) (old new : Meaning) (name bytes : List ℕ) → Took old new (cond out (appending name bytes) []) → TookPart old new name bytes
part_of true old new name bytes took = whole_part old new name bytes took
part_of false old new name bytes took = inl took

-- all went out, or nothing
pub command_part : (by_hand : Bool) (writer : Journal) (text : List ℕ) (old new : Meaning) → Took old new (command_steps by_hand writer text) → TookPart old new writer.name (writer.buffer ++ text)
command_part by_hand writer text old new = part_of (goes_out by_hand (length (writer.buffer ++ text))) old new writer.name (writer.buffer ++ text)

-- the same of a batch
pub no_mode_part : (writer : Journal) (text : List ℕ) (old new : Meaning) → Took old new (batch_steps None writer text) → TookPart old new writer.name (writer.buffer ++ text)
no_mode_part writer text old new took = command_part true writer text old new (subst (Took old new) (append-nil (command_steps true writer text)) took)

-- ---- what a batch changes on the disk

pub took_but : (mode : Option PersistMode) (writer : Journal) (text : List ℕ) (old new : Meaning) → Took old new (batch_steps mode writer text) → SameBut writer.name (state_in old) (state_in new)
took_but None writer text old new took = part_but old new writer.name (writer.buffer ++ text) (no_mode_part writer text old new took)
took_but (Some mode) writer text old new took = mode_but old new writer.name (writer.buffer ++ text) mode took

pub part_but_one : (mode : Option PersistMode) (writer : Journal) (text : List ℕ) (old new : Meaning) → BatchTook mode old new writer text → SameBut writer.name (state_in old) (state_in new)
part_but_one mode writer text old new (inl part) = part_but old new writer.name (writer.buffer ++ text) part
part_but_one mode writer text old new (inr (other, took)) = took_but mode writer text old new took

-- nothing in `keyspaces`
pub took_apart : (mode : Option PersistMode) (writer : Journal) (text : List ℕ) (old new : Meaning) (j : Journaling) → IsWriting (state_in old) writer j → Took old new (batch_steps mode writer text) → KeepsKeyspaces old new
took_apart mode writer text old new j writing took = apart old new writer j writing (took_but mode writer text old new took)

pub refused_apart : (mode : Option PersistMode) (writer : Journal) (text : List ℕ) (old new : Meaning) (j : Journaling) → IsWriting (state_in old) writer j → BatchTook mode old new writer text → KeepsKeyspaces old new
refused_apart mode writer text old new j writing part = apart old new writer j writing (part_but_one mode writer text old new part)

-- and no kind
pub took_stays : (mode : Option PersistMode) (writer : Journal) (text : List ℕ) (old new : Meaning) → Took old new (batch_steps mode writer text) → StaysTidy old new
took_stays None writer text old new took = stays_part old new writer.name (writer.buffer ++ text) (no_mode_part writer text old new took)
took_stays (Some mode) writer text old new took = persist_stays old new (filled writer text) mode took

pub refused_stays : (mode : Option PersistMode) (writer : Journal) (text : List ℕ) (old new : Meaning) → BatchTook mode old new writer text → StaysTidy old new
refused_stays mode writer text old new (inl part) = stays_part old new writer.name (writer.buffer ++ text) part
refused_stays mode writer text old new (inr (other, took)) = took_stays mode writer text old new took

-- ---- what a crash leaves

-- of some beginning of its text
pub batch_leaves : (old new : Meaning) (writer : Journal) (j : Journaling) (batch : Written) → IsWriting (state_in old) writer j → IsWritten batch → AreSound j (j.later ++ batch ∷ [])
    → TookPart old new writer.name (writer.buffer ++ batch_text batch) → LeavesOnly old new (LeavesRoot (state_in old) j (j.later ++ batch ∷ []))
batch_leaves old new writer j batch writing written sound part =
    leaves_part old new writer j (batch ∷ []) writing (written, tt) sound (subst (λ (l : List ℕ). TookPart old new writer.name (writer.buffer ++ l)) (sym (append-nil (batch_text batch))) part)

-- of a write that was refused
pub write_leaves : (error : Error) (old new : Meaning) (writer : Journal) (j : Journaling) (batch : Written) → IsWriting (state_in old) writer j → (IsIo error → IsWritten batch) → AreSound j (j.later ++ batch ∷ [])
    → WriteTook error old new writer.name (writer.buffer ++ batch_text batch) → LeavesOnly old new (LeavesRoot (state_in old) j (j.later ++ batch ∷ []))
write_leaves (Io kind) old new writer j batch writing tried sound part = batch_leaves old new writer j batch writing (tried tt) sound part
write_leaves error old new writer j batch writing tried sound none = nothing_leaves old new j (batch ∷ []) writing.root none

module _ (old new : Meaning) (writer : Journal) (j : Journaling) (batch : Written) (writing : IsWriting (state_in old) writer j) (written : IsWritten batch) (sound : AreSound j (j.later ++ batch ∷ [])) where
  abbrev text : List ℕ
  text = batch_text batch

  each : AllByRecursion IsWritten (batch ∷ [])
  each = (written, tt)

  one_text : texts_of (batch ∷ []) ≡ text
  one_text = append-nil text

  batch_out : (now : Journal) → Took old new (appending writer.name (writer.buffer ++ text)) → now.name ≡ writer.name → now.buffer ≡ [] → IsWriting (state_in new) now (with_batch true j batch)
  batch_out now took = appended_all old new writer j (batch ∷ []) writing each sound now (subst (λ (l : List ℕ). Took old new (appending writer.name (writer.buffer ++ l))) (sym one_text) took)

  batch_waits : (now : Journal) → Took old new [] → now.name ≡ writer.name → now.buffer ≡ writer.buffer ++ text → IsWriting (state_in new) now (with_batch false j batch)
  batch_waits now took named behind =
      waiting_goes_on (state_in old) (state_in new) writer j (batch ∷ []) writing each sound (λ q other. ap (λ (s : DiskState). s q) took.state) now
      (ap (λ (s : DiskState). s (journal_name j.active)) took.state) named (behind ∙ ap (λ (l : List ℕ). writer.buffer ++ l) (sym one_text))

  batch_on : (out : Bool) (now : Journal) → Took old new (cond out (appending writer.name (writer.buffer ++ text)) []) → now ≡ cond out (written_out (filled writer text)) (filled writer text)
      → IsWriting (state_in new) now (with_batch out j batch)
  batch_on true now took is = batch_out now took (ap (λ (w : Journal). w.name) is) (ap (λ (w : Journal). w.buffer) is)
  batch_on false now took is = batch_waits now took (ap (λ (w : Journal). w.name) is) (ap (λ (w : Journal). w.buffer) is)

  -- ---- with a mode all that waits goes out, and the batch waits behind it first

  waiting : IsWriting (state_in old) (filled writer text) (with_batch false j batch)
  waiting =
      waiting_goes_on (state_in old) (state_in old) writer j (batch ∷ []) writing each sound (λ q other. refl) (filled writer text) refl refl
      (ap (λ (l : List ℕ). writer.buffer ++ l) (sym one_text))

  mode_leaves : (mode : PersistMode) → Took old new (persist_steps (filled writer text) mode) → LeavesOnly old new (LeavesRoot (state_in old) j (j.later ++ batch ∷ []))
  mode_leaves mode took =
      let left = persist_leaves old new (filled writer text) (with_batch false j batch) waiting mode took in
      record { added = left.added; took = left.took; each = λ image is. let root = left.each image is in record { some = root.some; elsewhere = root.elsewhere } }

  mode_out : (mode : PersistMode) (now : Journal) → Took old new (persist_steps (filled writer text) mode) → now ≡ written_out (filled writer text) → IsWriting (state_in new) now (after_persist mode (with_batch false j batch))
  mode_out mode now took is = persist_out old new (filled writer text) (with_batch false j batch) waiting mode now took (ap (λ (w : Journal). w.name) is) (ap (λ (w : Journal). w.buffer) is)

  -- ---- in each mode

  pub took_leaves : (mode : Option PersistMode) → Took old new (batch_steps mode writer text) → LeavesOnly old new (LeavesRoot (state_in old) j (j.later ++ batch ∷ []))
  took_leaves None took = batch_leaves old new writer j batch writing written sound (no_mode_part writer text old new took)
  took_leaves (Some mode) took = mode_leaves mode took

  pub refused_leaves : (mode : Option PersistMode) → BatchTook mode old new writer text → LeavesOnly old new (LeavesRoot (state_in old) j (j.later ++ batch ∷ []))
  refused_leaves mode (inl part) = batch_leaves old new writer j batch writing written sound part
  refused_leaves mode (inr (other, took)) = took_leaves mode took

  -- the writer goes on, whether it went out or waits
  pub mode_on : (mode : Option PersistMode) (now : Journal) → Took old new (batch_steps mode writer text) → now ≡ after_command (is_none mode) writer text → IsWriting (state_in new) now (after_mode mode (with_batch (is_out mode writer batch) j batch))
  mode_on None now took is = batch_on (goes_out true (length (writer.buffer ++ text))) now (subst (Took old new) (append-nil (command_steps true writer text)) took) is
  mode_on (Some Buffer) now took is = mode_out Buffer now took is
  mode_on (Some SyncData) now took is = mode_out SyncData now took is
  mode_on (Some SyncAll) now took is = mode_out SyncAll now took is
