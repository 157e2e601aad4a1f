-- The sync of the journal before an ingestion: where it leads a core and its disk, and which state the core stands for then.
use Rattle.std.proofs.Common.{◌≡◌, ℕ, ◌+◌, ◌<◌, ◌-◌, ◌^◌, arith, Bool, true, false, if◌then◌else◌, List, [], ◌∷◌, ◌++◌, length, MatchBool, ◌⊎◌, inr, refl, sym, ◌∙◌, ap, subst}
use Rattle.std.proofs.lemmas.List.{append-nil}
use Rattle.fjall_base.specs.Store.{Store, Command, fold, kept}
use Rattle.fjall_base.specs.Disk.{LeavesOnly, Meaning, Took, TookPart, state_in}
use Rattle.fjall_base.proofs.Moments.{at_end, weaken}
use Rattle.fjall_changes.proofs.KeepingKeyspaces.{journal_apart}
use Rattle.fjall_changes.proofs.KeptHomes.{rotated_homes, unrotated_homes}
use Rattle.fjall_changes.specs.Journaling.{KeepsHomes}
use Rattle.fjall_files.specs.Tidy.{IsTidy, StaysTidy}
use Rattle.fjall_journal.specs.Writer.{Journal, persist_steps, written_out}
use Rattle.fjall_journal.specs.declared.persist_mode.PersistMode.TheVariants.{SyncAll}
use Rattle.fjall_journal.specs.Rotations.{RotationTook, empty_journal, rotating}
use Rattle.fjall_recovery.specs.Halves.{is_of_keyspaces}
use Rattle.fjall_machine.specs.Machine.{State}
use Rattle.fjall_machine.specs.Machine as machine
use Rattle.fjall_machine.specs.Remembered.{Remembered, journal_rotated_in_memory}
use Rattle.fjall_machine.specs.Remembered as memory
use Rattle.fjall_table.specs.Blocks.{Entry}
use Rattle.fjall_engine.specs.Holding.{Held}
use Rattle.fjall_engine.specs.CallParts.{SyncedAll, WentSynced}
use Rattle.fjall_engine.specs.Durables.{CrashLeavesPending, Durable, Knows, Lies, Passes, StandsAmid, StaysFinished}
use Rattle.fjall_engine.specs.Standing.{HandsOver, Poisons, ReadsOn, RotatesJournal, StandsFor, StandsOn, SyncFailed, SyncTook, is_journal_long, journal_synced_in, next_name, store_with_tables}
use Rattle.fjall_engine.proofs.CrashImages.{leaves_finished, lies_rest}
use Rattle.fjall_engine.proofs.CrashesInRuns.{amid_more}
use Rattle.fjall_engine.proofs.DeviceFaults.{served_on}
use Rattle.fjall_engine.proofs.JournalRotations.{turn_empty, turn_finished, turn_knows, turn_leaves, turn_lies, turn_served}
use Rattle.fjall_engine.proofs.JournalWrites.{Leads, held_on, present_of, stands_ill}
use Rattle.fjall_engine.proofs.OwedWork.{long_agrees, synced_buffer, synced_len, synced_stands}
use Rattle.fjall_engine.proofs.Syncs.{hand_leaves, same_of, sync_empty, sync_knows, sync_lies, synced_passes}
use Rattle.fjall_engine.proofs.TablesAtHome.{KeepsReads, all_stay, carry_all, keeps_homes, outside_ill}

-- ---- one command more

-- what a crash left of others it leaves of them with one more
one_more : (old new : Meaning) (base : Store) (pending : List Command) (command : Command) → LeavesOnly old new (StandsAmid base [] (pending ++ [])) → LeavesOnly old new (StandsAmid base [] (pending ++ command ∷ []))
one_more old new base pending command leaves =
    weaken old new _ _ leaves
    (λ image s. amid_more base [] pending (command ∷ []) image (subst (λ (l : List Command). StandsAmid base [] l image) (append-nil pending) s))

-- A fault left what was pending, with a command behind it that memory doesn't know of.
pub pends : (entries : ℕ → List (List Entry)) (new : Held) (d : Durable) (command : Command) → new.memory.poisoned ≡ true → StaysFinished (state_in new.disk)
    → LeavesOnly d.meaning new.disk (StandsAmid d.base [] (d.pending ++ command ∷ [])) → kept (fold d.base d.pending) ≡ kept (store_with_tables entries new)
    → Leads entries new d (command ∷ [])
pends entries new d command ill finished leaves was =
    let all = d.pending ++ command ∷ [] in
    let rests : CrashLeavesPending (held_on new d.base all) = at_end d.meaning new.disk _ leaves in (
      held_on new d.base all,
      stands_ill entries new d.base all ill rests finished (inr (d.pending, command, refl, was)),
      record { leaves = leaves; safe = []; base = refl; rest = refl; rests = rests },
    )

-- ---- where the sync leads

-- This base lies on the disk of a core, where its tables have these entries, and nothing waits in its journal.
pub record StandsSynced (core : Held) (entries : ℕ → List (List Entry)) (base : Store) : Type 0 where
  pub lies : Lies core (held_on core base [])
  pub none : lies.journals.later ≡ []
  pub knows : Knows core entries lies.journals lies.tree
  pub present : kept base ≡ kept (store_with_tables entries core)

-- it lies there, and all that was pending is in it
abbrev pub LeadsSynced : (ℕ → List (List Entry)) → Held → Durable → Type 0
LeadsSynced entries synced d = (base : Store) × StandsSynced synced entries base × Passes d [] (held_on synced base [])

module _ (entries : ℕ → List (List Entry)) (old new : Held) (d : Durable) (well : old.memory.poisoned ≡ false) (on : StandsOn old entries d) where
  abbrev here : d ≡ held_on old d.base d.pending
  here = λ i. record { meaning = on.same i; base = d.base; pending = d.pending }

  abbrev stands : StandsOn old entries (held_on old d.base d.pending)
  stands = subst (λ (x : Durable). StandsOn old entries x) here on

  abbrev lies : Lies old (held_on old d.base d.pending)
  lies = stands.lies well

  -- what stands in memory is the same, but for the journals
  same_store : SyncedAll old new → kept (store_with_tables entries old) ≡ kept (store_with_tables entries new)
  same_store at = by (is_journal_long old.journal) ∙ ap (λ (m : Remembered). kept (store_with_tables entries (record new { memory = m }))) (sym at.memory_is)
    where
      by : (b : Bool) → kept (store_with_tables entries old) ≡ kept (store_with_tables entries (record new { memory = if b then journal_rotated_in_memory (written_out old.journal).len old.memory else old.memory }))
      by true = refl
      by false = refl

  was_present : kept (fold d.base d.pending) ≡ kept (store_with_tables entries old)
  was_present = present_of entries old (held_on old d.base d.pending) false well stands

  pub sync_leads : (long : Bool) → is_journal_long old.journal ≡ long → SyncedAll old new → WentSynced long true old new → LeadsSynced entries new d
  sync_leads true is at went =
      let turns : RotatesJournal old new = record {
        memory_is = at.memory_is ∙ ap (λ (b : Bool). if b then journal_rotated_in_memory (written_out old.journal).len old.memory else old.memory) is;
        catalog = at.catalog;
        journal = at.journal ∙ ap (λ (b : Bool). if b then empty_journal (next_name old) else written_out old.journal) is;
        faults = at.faults;
      } in
      let there = turn_lies old new d.base d.pending lies turns went in (
        fold d.base d.pending,
        record {
          lies = there;
          none = turn_empty old new d.base d.pending lies turns went;
          knows = turn_knows old new d.base d.pending lies entries turns went (stands.knows well);
          present = was_present ∙ same_store at;
        },
        subst (λ (x : Durable). Passes x [] (held_on new (fold d.base d.pending) [])) (sym here)
            (synced_passes old new d.base d.pending (turn_leaves old new d.base d.pending lies true went) (lies_rest new (held_on new (fold d.base d.pending) []) there)),
      )
  sync_leads false is at went =
      let hands : HandsOver old new = record {
        memory_is = at.memory_is ∙ ap (λ (b : Bool). if b then journal_rotated_in_memory (written_out old.journal).len old.memory else old.memory) is;
        catalog = at.catalog;
        journal = at.journal ∙ ap (λ (b : Bool). if b then empty_journal (next_name old) else written_out old.journal) is;
        faults = at.faults;
      } in
      let same = same_of old new hands in
      let there = sync_lies old new d.base d.pending same lies went in (
        fold d.base d.pending,
        record {
          lies = there;
          none = sync_empty old new d.base d.pending same lies went;
          knows = sync_knows entries old new d.base d.pending same lies went (stands.knows well);
          present = was_present ∙ same_store at;
        },
        subst (λ (x : Durable). Passes x [] (held_on new (fold d.base d.pending) [])) (sym here)
            (synced_passes old new d.base d.pending (hand_leaves old new SyncAll true d.base d.pending lies went) (lies_rest new (held_on new (fold d.base d.pending) []) there)),
      )

  -- ---- where it failed

  left_whole : Poisons old.memory old new → kept (fold d.base d.pending) ≡ kept (store_with_tables entries new)
  left_whole fault = was_present ∙ ap (λ (m : Remembered). kept (store_with_tables entries (record new { memory = m }))) (sym fault.memory_is)

  pends_here : Poisons old.memory old new → (command : Command) → StaysFinished (state_in new.disk) → LeavesOnly old.disk new.disk (StandsAmid d.base [] (d.pending ++ [])) → Leads entries new d (command ∷ [])
  pends_here fault command finished leaves =
      subst (λ (x : Durable). Leads entries new x (command ∷ [])) (sym here)
      (pends entries new (held_on old d.base d.pending) command (ap (λ (m : Remembered). m.poisoned) fault.memory_is) finished (one_more old.disk new.disk d.base d.pending command leaves)
      (left_whole fault))

  pub unsynced_leads : (long : Bool) → Poisons old.memory old new → WentSynced long false old new → (command : Command) → Leads entries new d (command ∷ [])
  unsynced_leads true fault went command =
      pends_here fault command (turn_finished old new d.base d.pending lies false went) (turn_leaves old new d.base d.pending lies false went)
  unsynced_leads false fault went command =
      pends_here fault command (leaves_finished old.disk new.disk (state_in old.disk) lies.journals _ (went.leaves lies.journals lies.writing))
      (hand_leaves old new SyncAll false d.base d.pending lies went)

-- ---- what the disk was asked

-- what the disk took of a sync that was done, and of one that failed, by whether the journal is long
abbrev DoneBy : (long : Bool) → Held → Held → Type 0
DoneBy long old new =
    MatchBool long (Took old.disk new.disk (rotating old.disk old.journal (next_name old))) (Took old.disk new.disk (persist_steps old.journal SyncAll))

abbrev FailedBy : (long : Bool) → Held → Held → Type 0
FailedBy long old new =
    MatchBool long (RotationTook old.disk new.disk old.journal new.journal (next_name old))
    (TookPart old.disk new.disk old.journal.name old.journal.buffer ⊎ Took old.disk new.disk (persist_steps old.journal SyncAll))

module _ (old new : Held) (well : old.memory.poisoned ≡ false) (numbered : is_journal_long old.journal ≡ true → old.memory.journals.active < 2 ^ 64 - 2) where
  next_apart : is_journal_long old.journal ≡ true → is_of_keyspaces (next_name old) ≡ false
  next_apart long = let small = numbered long in journal_apart (old.memory.journals.active + 1) (omega (arith, small))

  pub went_kinds : (long done : Bool) → WentSynced long done old new → StaysTidy old.disk new.disk
  went_kinds true done went = went.kinds
  went_kinds false done went = went.kinds

  -- no call was one that no disk can serve, where nothing stands in the way
  pub went_served : (long done : Bool) → is_journal_long old.journal ≡ long → WentSynced long done old new → (entries : ℕ → List (List Entry)) (d : Durable) → StandsOn old entries d
      → IsTidy (state_in old.disk) → new.disk.misuses ≡ old.disk.misuses
  went_served true done is went entries d on tidy = turn_served entries old new d done well (numbered is) went on tidy
  went_served false done is went entries d on tidy = served_on entries old new.disk d well went.served on

  -- the homes stay
  homes_synced : (long : Bool) → is_journal_long old.journal ≡ long → DoneBy long old new → WentSynced long true old new → is_of_keyspaces old.journal.name ≡ false → KeepsHomes old.disk new.disk
  homes_synced true is took went out = rotated_homes old.disk new.disk old.journal (next_name old) out (next_apart is) took
  homes_synced false is took went out = went.homes out

  homes_unsynced : (long : Bool) → is_journal_long old.journal ≡ long → FailedBy long old new → WentSynced long false old new → is_of_keyspaces old.journal.name ≡ false → KeepsHomes old.disk new.disk
  homes_unsynced true is took went out = unrotated_homes old.disk new.disk old.journal (next_name old) out (next_apart is) new.journal took
  homes_unsynced false is took went out = went.homes out

  -- the writer goes on outside of keyspaces' folders
  outside_synced : SyncedAll old new → is_of_keyspaces old.journal.name ≡ false → is_of_keyspaces new.journal.name ≡ false
  outside_synced at out = ap (λ (j : Journal). is_of_keyspaces j.name) at.journal ∙ by (is_journal_long old.journal) refl
    where
      by : (b : Bool) → is_journal_long old.journal ≡ b → is_of_keyspaces (if b then empty_journal (next_name old) else written_out old.journal).name ≡ false
      by true long = next_apart long
      by false short = out

  same_trees : SyncedAll old new → new.memory.trees ≡ old.memory.trees
  same_trees at = ap (λ (m : Remembered). m.trees) at.memory_is ∙ by (is_journal_long old.journal)
    where
      by : (b : Bool) → (if b then journal_rotated_in_memory (written_out old.journal).len old.memory else old.memory).trees ≡ old.memory.trees
      by true = refl
      by false = refl

  -- its disk keeps the tables
  pub sync_keeps : SyncedAll old new → SyncTook old new → WentSynced (is_journal_long old.journal) true old new → KeepsReads old new
  sync_keeps at took went =
      keeps_homes old new (carry_all old.memory.trees new.memory.trees (same_trees at))
      (λ s stands reads. all_stay old.disk new.disk new.memory.trees (homes_synced (is_journal_long old.journal) refl took went (reads.writer well))) (λ out still. outside_synced at (out well))

  pub unsynced_keeps : Poisons old.memory old new → SyncFailed old new → WentSynced (is_journal_long old.journal) false old new → KeepsReads old new
  unsynced_keeps fault took went =
      keeps_homes old new (carry_all old.memory.trees new.memory.trees (ap (λ (m : Remembered). m.trees) fault.memory_is))
      (λ s stands reads. all_stay old.disk new.disk new.memory.trees (homes_unsynced (is_journal_long old.journal) refl took went (reads.writer well)))
      (outside_ill old new (ap (λ (m : Remembered). m.poisoned) fault.memory_is))

-- ---- states

-- what holds of a state with its long journal sealed, and of one with all that waited written out, holds once the journal is synced
pub state_synced : (P : State → Type 0) (s : State) → P (machine.journal_rotated s) → P (record s { parts = machine.parts_written_out s.parts 0 }) → P (machine.journal_synced s)
state_synced P s long short = by (machine.is_long s.parts)
  where
    by : (b : Bool) → P (if b then machine.journal_rotated s else record s { parts = machine.parts_written_out s.parts 0 })
    by true = long
    by false = short

-- the same of what is in memory
pub memory_synced : (P : Remembered → Type 0) (core : Held) → P (journal_rotated_in_memory (written_out core.journal).len core.memory) → P core.memory → P (journal_synced_in core)
memory_synced P core long short = by (is_journal_long core.journal)
  where
    by : (b : Bool) → P (if b then journal_rotated_in_memory (written_out core.journal).len core.memory else core.memory)
    by true = long
    by false = short

-- the core stands for the state with its journal synced
pub sync_stands : (old new : Held) (s : State) → StandsFor old s → SyncedAll old new → StandsFor new (machine.journal_synced s)
sync_stands old new s stands at =
    let long = is_journal_long old.journal in
    let t = if long then machine.journal_rotated s else record s { parts = machine.parts_written_out s.parts 0 } in
    subst (λ (b : Bool). StandsFor new (if b then machine.journal_rotated s else record s { parts = machine.parts_written_out s.parts 0 })) (sym (long_agrees old new s stands)) (record {
      remembered = subst (λ (m : Remembered). memory.MemoryStandsFor m new.catalog.next_table_id t) (sym at.memory_is)
          (subst (λ (n : ℕ). memory.MemoryStandsFor (journal_synced_in old) n t) (ap (λ c. c.next_table_id) (sym at.catalog)) (synced_stands old new s stands long));
      journal = synced_len old new s stands long ∙ ap (λ (j : Journal). j.len) (sym at.journal);
      buffer = synced_buffer old new s stands long ∙ ap (λ (j : Journal). length j.buffer) (sym at.journal);
    })

-- which says the same of tables
pub synced_reads : (core : Held) (s : State) → ReadsOn core s → ReadsOn core (machine.journal_synced s)
synced_reads core s reads =
    state_synced (λ t. ReadsOn core t) s (record { tables = reads.tables; writer = reads.writer; recorded = reads.recorded }) (record { tables = reads.tables; writer = reads.writer; recorded = reads.recorded })

pub synced_entries : (s : State) → (machine.journal_synced s).parts.entries ≡ s.parts.entries
synced_entries s = state_synced (λ t. t.parts.entries ≡ s.parts.entries) s refl refl
