-- The active journal of a database as it is written: batches go out behind those that stand, and are synced.
use Rattle.std.specs.Prelude.{◌≡◌, ◌≢◌, ℕ, ◌<◌, ◌≤◌, ◌^◌, Bool, if◌then◌else◌, List, [], ◌∷◌, ◌++◌, length, map, take, true, Option, None, Some, is_none}
use Rattle.fjall_base.specs.Disk.{DiskState, Image, DiskStep, Survives, Meaning, Name, state_in}
use Rattle.fjall_files.specs.Regions.{IsImageIn, is_under}
use Rattle.fjall_journal.specs.declared.persist_mode.PersistMode.{PersistMode}
use Rattle.fjall_journal.specs.declared.persist_mode.PersistMode.TheVariants.{Buffer, SyncData, SyncAll}
use Rattle.fjall_journal.specs.Batches.{Written, shown, batch_text}
use Rattle.fjall_journal.specs.Writer.{Journal, PersistTook, goes_out, persist_steps, written_out}
use Rattle.fjall_files.specs.Names.{journal_name, keyspace_folder}
use Rattle.fjall_meta.specs.Replays.{least_after}
use Rattle.fjall_recovery.specs.Journals.{batches_in}
use Rattle.fjall_recovery.specs.Halves.{HasRoot, is_of_keyspaces}
use Rattle.fjall_recovery.specs.Places.{Journaling, LiesInRoot, journals_with, texts_of}

-- The writer goes on where the active journal ends: what waits in its buffer follows what stands in the file.
pub record IsWriting (state : DiskState) (writer : Journal) (j : Journaling) : Type 0 where
  pub root : LiesInRoot state j
  pub name : writer.name ≡ journal_name j.active
  pub exact : take j.cut (texts_of j.later) ++ writer.buffer ≡ texts_of j.later

-- all of the texts are in the file
abbrev pub handed : Journaling → Journaling
handed j = record j { cut = length (texts_of j.later) }

-- one batch more: where it went out, all of the texts are in the file, and else it waits behind the bytes that are there
abbrev pub with_batch : Bool → Journaling → Written → Journaling
with_batch out j batch = record j {
  later = j.later ++ batch ∷ [];
  cut = if out then length (texts_of (j.later ++ batch ∷ [])) else length (take j.cut (texts_of j.later));
}

-- all of the batches are synced
abbrev pub synced : Journaling → Journaling
synced j = record j { whole = j.whole ++ j.later; later = []; cut = 0 }

-- the journals once all was handed over in that mode
abbrev pub after_persist : PersistMode → Journaling → Journaling
after_persist Buffer j = handed j
after_persist SyncData j = synced j
after_persist SyncAll j = synced j

-- the journals once a batch of that mode was written
abbrev pub after_mode : Option PersistMode → Journaling → Journaling
after_mode None j = j
after_mode (Some mode) j = after_persist mode j

-- the writer once all that waits went out, where there is a mode
abbrev pub out_in : Option PersistMode → Journal → Journal
out_in None writer = writer
out_in (Some mode) writer = written_out writer

-- what that does to the disk
abbrev pub steps_in : Option PersistMode → Journal → List DiskStep
steps_in None writer = []
steps_in (Some mode) writer = persist_steps writer mode

-- and what it took where it was refused, which it never is without a mode
abbrev pub TookIn : Option PersistMode → Journal → Journal → Meaning → Meaning → Type 0
TookIn None writer now old new = ⊥
TookIn (Some mode) writer now old new = PersistTook writer now mode old new

-- the least number that a batch behind all of these may have
abbrev pub next_number : Journaling → ℕ
next_number j = least_after 0 (map shown (batches_in (journals_with j j.later)))

-- A batch of this number may follow: it is above all others' and below 2^63.
pub record CanFollow (j : Journaling) (seqno : ℕ) : Type 0 where
  pub above : next_number j ≤ seqno
  pub room : seqno < 2 ^ 63

-- The image's root is sound, and holds the synced batches and a beginning of these.
abbrev pub HasSome : Journaling → List Written → Image → Type 0
HasSome j batches image = (behind rest : List Written) × (behind ++ rest ≡ batches) × HasRoot image (journals_with j behind)

-- The same, and in `keyspaces` the image has what a crash of that state may leave there.
pub record LeavesRoot (state : DiskState) (j : Journaling) (batches : List Written) (image : Image) : Type 0 where
  pub some : HasSome j batches image
  pub elsewhere : IsImageIn Survives is_of_keyspaces state image

-- the batch goes out, and doesn't wait in the buffer: with a mode always, and else from 8,192 bytes on
abbrev pub is_out : Option PersistMode → Journal → Written → Bool
is_out mode writer batch = goes_out (is_none mode) (length (writer.buffer ++ batch_text batch))

-- for whichever journals the writer goes on behind on this disk
abbrev pub ForWriting : Meaning → Journal → (Journaling → Type 0) → Type 0
ForWriting disk writer Holds = (j : Journaling) → IsWriting (state_in disk) writer j → Holds j

-- the same, where a batch of this number may follow
abbrev pub ForFollowing : Meaning → Journal → ℕ → (Journaling → Type 0) → Type 0
ForFollowing disk writer seqno Holds = (j : Journaling) → IsWriting (state_in disk) writer j → CanFollow j seqno → Holds j

-- what stands in `keyspaces` stayed
abbrev pub KeepsKeyspaces : Meaning → Meaning → Type 0
KeepsKeyspaces old new = (q : Name) → is_of_keyspaces q ≡ true → state_in new q ≡ state_in old q

-- ---- keyspaces' homes

-- what stands in sight in the keyspace's folder stayed, and so did the folder
abbrev pub KeepsHome : Meaning → Meaning → ℕ → Type 0
KeepsHome old new id = (q : Name) → is_under (keyspace_folder id) q ≡ true → (state_in new q).now ≡ (state_in old q).now

-- so it is of each id
abbrev pub KeepsHomes : Meaning → Meaning → Type 0
KeepsHomes old new = (id : ℕ) → KeepsHome old new id

-- so it is of each keyspace but this one, tree 0 aside
abbrev pub KeepsOtherHomes : ℕ → Meaning → Meaning → Type 0
KeepsOtherHomes id old new = (other : ℕ) → 0 < other → other < 2 ^ 64 → other ≢ id → KeepsHome old new other
