-- What a deletion makes of a core.
use Rattle.std.proofs.Common.{◌≡◌, ◌⊎◌, codes, inl, inr, ⊎_elim, MatchBool, ℕ, ◌<◌, ◌≤◌, ◌^◌, Bool, true, false, if◌then◌else◌, List, [], ◌∷◌, None, Ok, Err, refl, sym, ◌∙◌, ap, subst, arith}
use Rattle.fjall_base.specs.Store.{Delete, apply, fold, kept}
use Rattle.fjall_base.specs.Disk.{Meaning}
use Rattle.fjall_base.specs.Errors.{Rose}
use Rattle.fjall_base.specs.declared.error.Error.{Error}
use Rattle.fjall_base.specs.declared.error.Error.TheVariants.{Io, NumbersUsedUp, OutOfMemory, ValueTooLong}
use Rattle.fjall_journal.specs.declared.persist_mode.PersistMode.TheVariants.{SyncAll}
use Rattle.fjall_meta.specs.Keyspaces.{without_keyspace}
use Rattle.fjall_manifest.specs.declared.update.Update.{Update}
use Rattle.fjall_manifest.specs.Updates.{IsPreparingRefusal, IsUpdate}
use Rattle.fjall_table.specs.Blocks.{Entry}
use Rattle.fjall_trees.specs.MapTables.{pairs_with}
use Rattle.fjall_trees.proofs.Commands.{deleted_by}
use Rattle.fjall_trees.proofs.Planted.{deletion_of_trees}
use Rattle.fjall_changes.specs.Journaling.{KeepsHomes, KeepsOtherHomes}
use Rattle.fjall_changes.proofs.KeptHomes.{others_both}
use Rattle.fjall_machine.specs.Shapes.{OfDeletion}
use Rattle.fjall_history.specs.declared.reply.Reply.TheVariants.{Done, Refused}
use Rattle.fjall_machine.specs.Allowed.{HasNumber}
use Rattle.fjall_machine.specs.Machine.{HasLongOption, State, is_living, present}
use Rattle.fjall_machine.specs.Remembered.{IsLawful, Remembered, facts_of, poisoned, with_deletion}
use Rattle.fjall_machine.proofs.Dues.{may_delete}
use Rattle.fjall_machine.proofs.Lawful.{deletion_is_lawful}
use Rattle.fjall_files.specs.Tidy.{StaysTidy}
use Rattle.fjall_files.proofs.Tidying.{stays_both, stays_start}
use Rattle.fjall_files.specs.Regions.{Within}
use Rattle.fjall_journal.specs.Writer.{PersistTook}
use Rattle.fjall_engine.specs.Holding.{Held}
use Rattle.fjall_engine.specs.Durables.{Durable, Passes}
use Rattle.fjall_engine.specs.Crashes.{SafeSince, is_io}
use Rattle.fjall_engine.specs.Standing.{ChangeStopped, Deletes, Owes, OwesRefusal, PersistFailed, Poisons, ReadsOn, ReplacesTable, Serves, StandsFor, StandsOn, held_due, store_in, store_with_tables}
use Rattle.fjall_changes.specs.SyncedChanges.{SyncedThenChanged}
use Rattle.fjall_engine.specs.CallParts.{Unmakes}
use Rattle.fjall_changes.specs.SyncedChanges as on_disk
use Rattle.fjall_engine.proofs.CatalogOnDisk.{Becomes, deletion_changed, deletion_served}
use Rattle.fjall_engine.proofs.DeviceFaults.{served_on}
use Rattle.fjall_machine.proofs.Standing.{living_agree}
use Rattle.fjall_engine.proofs.Creations.{between, given_fit, stays}
use Rattle.fjall_engine.proofs.TablesAtHome.{HomesStay, KeepsReads, all_stay, carry_all, keeps_homes, keeps_same, others_there, outside_ill, outside_same}
use Rattle.fjall_engine.proofs.ServedCalls.{LeadsFrom, led_by, long_owes, long_serves, memory_owes, memory_serves, replaces_table, serves_by, still_led}
use Rattle.std.proofs.lemmas.Bool.{true≢false}
use Rattle.fjall_engine.proofs.Syncs.{Persisted, sync_empty, sync_lies}
use Rattle.fjall_engine.proofs.JournalWrites.{held_on}
use Rattle.fjall_engine.proofs.CatalogTables.{deleted_table, long_option, some_left}
use Rattle.fjall_changes.proofs.ChangesAfterSync.{not_done}
use Rattle.fjall_engine.proofs.KeyspaceCalls.{ChangesTo, alter_settles, unaltered_keeps, unaltered_leads, unsynced_leads}
use Rattle.fjall_engine.proofs.Persists.{part_of}

-- a core in its parts, from whose memory the keyspace went that was in it before
pub deleted_whole : {view made : Held} → view ≡ made → (old : Held) → made.memory ≡ old.memory → (id : ℕ) → {new : Remembered} → new ≡ with_deletion id view.memory
    → (record view { memory = new }) ≡ record made { memory = with_deletion id old.memory }
deleted_whole {view} is old held id same =
    (λ i. record view { memory = same i }) ∙ ap (λ (r : Remembered). record view { memory = with_deletion id r }) (ap (λ (h : Held). h.memory) is ∙ held)
    ∙ ap (λ (h : Held). record h { memory = with_deletion id old.memory }) is

module _ (old : Held) (id : ℕ) (none : held_due old (OfDeletion id) ≡ None) (living : is_living (store_in old) id ≡ true) where
  room : HasNumber (facts_of old.memory old.catalog.next_table_id)
  room = (may_delete (facts_of old.memory old.catalog.next_table_id) id none).number living

  pub room_left : old.memory.next < 2 ^ 63
  room_left = room.numbered

  changes_by : (made new : Held) (mid : Meaning) (update : Update) (done : Bool) → IsLawful old.memory → IsUpdate old.catalog (without_keyspace id old.memory.keyspaces) old.memory.next update
      → on_disk.DeletedKeyspace mid new.disk update done → Becomes (between old made mid) new (with_deletion id old.memory) update.catalog done → ChangesTo (between old made mid) new (Delete id) done
  changes_by made new mid update done lawful is disk core base lies empty = deletion_changed (between old made mid) new base id update done lies empty is lawful.keyspaces disk core

  -- wherever the core stood, no call was one that no disk can serve
  served_by : (made new : Held) (mid : Meaning) (update : Update) (done : Bool) → IsUpdate old.catalog (without_keyspace id old.memory.keyspaces) old.memory.next update
      → on_disk.DeletedKeyspace mid new.disk update done → Persisted old (between old made mid) SyncAll true → (entries : ℕ → List (List Entry)) (d : Durable) → StandsOn old entries d → new.disk.misuses ≡ old.disk.misuses
  served_by made new mid update done is disk out entries d on =
      let here : d ≡ held_on old d.base d.pending = λ i. record { meaning = on.same i; base = d.base; pending = d.pending } in
      let lies = (subst (λ (x : Durable). StandsOn old entries x) here on).lies room.well in
      let same = stays old made mid in
      let after = sync_lies old (between old made mid) d.base d.pending same lies out in
      let none = sync_empty old (between old made mid) d.base d.pending same lies out in
      deletion_served (between old made mid) new (fold d.base d.pending) id update done after none is disk ∙ out.served lies.journals lies.writing

  -- memory after it
  abbrev pub Deleted : Held → Held → Type 0
  Deleted made new = new ≡ record made { memory = with_deletion id old.memory }

  pub deletes_of : (honest : Type 0) (made new : Held) → IsLawful old.memory → Unmakes honest old id (Ok tt) made → Deleted made new → Deletes old id new
  deletes_of honest made new lawful all is = record {
    memory_is = ap (λ (h : Held). h.memory) is;
    lawful = deletion_is_lawful id old.memory lawful room_left;
    next_table = ap (λ (h : Held). h.catalog.next_table_id) is ∙ ap (λ (h : Held). h.catalog.next_table_id) all.2
        ∙ deleted_table old.memory.keyspaces lawful.keyspaces old.memory.trees id living old.catalog.next_table_id _ _ _ all.1.table;
    journal = ap (λ (h : Held). h.journal) is ∙ ap (λ (h : Held). h.journal) all.2;
    faults = subst (λ (h : Held). old.disk.faults ≤ h.disk.faults) (sym is) all.3;
  }

  pub deleted_owes : (honest : Type 0) (made new : Held) → IsLawful old.memory → Unmakes honest old id (Ok tt) made → Deleted made new → Owes old (OfDeletion id) Done new
  deleted_owes honest made new lawful all is = (none, (refl, inr (living, deletes_of honest made new lawful all is)))

  asks_one : (s : State) → StandsFor old s → (if is_living (present s) id then (Delete id ∷ []) else []) ≡ Delete id ∷ []
  asks_one s stands = ap (λ b. if b then (Delete id ∷ []) else []) (living_agree old.memory old.catalog.next_table_id s stands.remembered id ∙ living)

  -- the homes of all trees stay, tree 0 being none of them
  homes_by : (new : Meaning) (s : State) → StandsFor old s → ReadsOn old s → KeepsOtherHomes 0 old.disk new → HomesStay old.disk new old.memory.trees
  homes_by new s stands reads others =
      others_there 0 old.disk new s old.memory.trees others reads.tables (given_fit old stands.remembered.lawful)
      (λ i d lt same. let some = (reads.tables i d lt).positive in let bad : ⊥ = omega (arith, some, same) in bad)

  others_by : (made mid : Meaning) (update : Update) (done : Bool) → IsUpdate old.catalog (without_keyspace id old.memory.keyspaces) old.memory.next update → KeepsHomes old.disk mid → on_disk.DeletedKeyspace mid made update done → KeepsOtherHomes 0 old.disk made
  others_by made mid update done is first disk =
      others_both 0 old.disk mid made (λ other some fits differ. first other) (disk.others old.catalog (without_keyspace id old.memory.keyspaces) old.memory.next is)

  -- its disk keeps the tables
  deleted_keeps : (honest : Type 0) (made new : Held) → Unmakes honest old id (Ok tt) made → Deleted made new → honest → KeepsReads old new
  deleted_keeps honest made new all is true_ =
      let turned = all.4 true_ in
      let trees : new.memory.trees ≡ old.memory.trees = ap (λ (h : Held). h.memory.trees) is in
      keeps_homes old new (carry_all old.memory.trees new.memory.trees trees) (λ s stands reads.
      subst (HomesStay old.disk new.disk) (sym trees) (subst (λ (m : Meaning). HomesStay old.disk m old.memory.trees) (sym (ap (λ (h : Held). h.disk) is))
      (homes_by made.disk s stands reads (others_by made.disk turned.mid all.0 true all.1 (turned.synced.homes (reads.writer room.well)) turned.changed))))
      (outside_same old new (ap (λ (h : Held). h.memory.poisoned) is) (ap (λ (h : Held). h.journal.name) is ∙ ap (λ (h : Held). h.journal.name) all.2))

  pub deleted_serves : (honest : Type 0) (made new : Held) → IsLawful old.memory → Unmakes honest old id (Ok tt) made → Deleted made new → honest → Serves old (OfDeletion id) Done new
  deleted_serves honest made new lawful all is true_ =
      let turned = all.4 true_ in
      let disk : new.disk ≡ made.disk = ap (λ (h : Held). h.disk) is in
      let changed = subst (λ m. on_disk.DeletedKeyspace turned.mid m all.0 true) (sym disk) turned.changed in
      let well = ap (λ (h : Held). h.memory.poisoned) is ∙ room.well in
      let led : LeadsFrom old (OfDeletion id) Done new = λ s d stands on.
      let core : Becomes (between old made turned.mid) new (with_deletion id old.memory) all.0.catalog true =
      record { memory_is = λ _. ap (λ (h : Held). h.memory) is; catalog_is = λ _. ap (λ (h : Held). h.catalog) is ∙ ap (λ (h : Held). h.catalog) all.2; journal_is = λ _. ap (λ (h : Held). h.journal) is } in
      let settled = alter_settles s.parts.entries old (between old made turned.mid) new d (Delete id) room.well (stays old made turned.mid) turned.synced
      (changes_by made new turned.mid all.0 true lawful all.1 changed core)
      well stands.remembered.beside.unused
      (sym (deleted_by (λ q. pairs_with s.parts.entries q (2 ^ 63) old.memory.trees) id old.memory.keyspaces) ∙ ap (λ (h : Held). kept (store_with_tables s.parts.entries h)) (sym is)) on in
      (settled.0, settled.1, (subst (λ l. Passes d l settled.0) (sym (asks_one s stands)) settled.2, λ sync. settled.3)) in
      serves_by old new (OfDeletion id) Done (deleted_owes honest made new lawful all is) (λ reads. reads)
      (subst (λ (b : Bool). MatchBool b (ReplacesTable old new) (new.disk ≡ old.disk)) (sym living)
      (replaces_table old new (OfDeletion id) Done (changed.gone refl old.catalog _ old.memory.next all.1) well led))
      (subst (λ (m : Meaning). StaysTidy old.disk m) (sym disk) (stays_both old.disk turned.mid made.disk turned.synced.kinds turned.changed.kinds))
      (deleted_keeps honest made new all is true_)
      (λ s d stands on tidy. served_by made new turned.mid all.0 true all.1 changed turned.synced s.parts.entries d on) led

  -- ---- refused

  abbrev pub Back : Held → Held → Error → Type 0
  Back made new error = new ≡ (if is_io error then record made { memory = poisoned made.memory } else made)

  poisons_of : (honest : Type 0) (made new : Held) (kind : _) → Unmakes honest old id (Err (Io kind)) made → Back made new (Io kind) → Poisons old.memory old new
  poisons_of honest made new kind all back = record {
    memory_is = ap (λ (h : Held). h.memory) back ∙ ap poisoned all.2;
    faults = subst (λ (h : Held). Rose old.disk.faults h.disk.faults) (sym back) all.4;
  }

  too_long : IsLawful old.memory → IsPreparingRefusal old.catalog (without_keyspace id old.memory.keyspaces) old.memory.next ValueTooLong → HasLongOption (kept (apply (store_in old) (Delete id)))
  too_long lawful long = subst HasLongOption (deletion_of_trees id old.memory.keyspaces old.memory.trees)
      (long_option (without_keyspace id old.memory.keyspaces) (deletion_is_lawful id old.memory lawful room_left).keyspaces old.memory.trees long)

  no_number : {A : Type 0} → IsLawful old.memory → IsPreparingRefusal old.catalog (without_keyspace id old.memory.keyspaces) old.memory.next NumbersUsedUp → A
  no_number lawful (inl high) = let low = room.numbered in absurd (let bad : ⊥ = omega (arith, high, low) in bad)
  no_number lawful (inr table) = absurd (room.table (some_left old.memory.keyspaces lawful.keyspaces old.memory.trees id living table.0) table.1)

  pub undeleted_owes : (honest : Type 0) (made new : Held) (error : Error) → IsLawful old.memory → Unmakes honest old id (Err error) made → Back made new error → Owes old (OfDeletion id) (Refused error) new
  undeleted_owes honest made new (Io kind) lawful all back = subst (λ first. OwesRefusal first old (OfDeletion id) (Io kind) new) (sym none) (inl (tt, poisons_of honest made new kind all back))
  undeleted_owes honest made new OutOfMemory lawful all back = subst (λ (h : Held). Owes old (OfDeletion id) (Refused OutOfMemory) h) (sym (back ∙ all.0)) (memory_owes old (OfDeletion id) tt none)
  undeleted_owes honest made new ValueTooLong lawful all back = subst (λ (h : Held). Owes old (OfDeletion id) (Refused ValueTooLong) h) (sym (back ∙ all.0)) (long_owes old (OfDeletion id) (too_long lawful all.1) none)
  undeleted_owes honest made new NumbersUsedUp lawful all back = no_number lawful all.1
  undeleted_owes honest made new error lawful all back = absurd all.1

  -- its disk keeps the tables, wherever it failed
  undeleted_keeps : (honest : Type 0) (made new : Held) (kind : _) → Unmakes honest old id (Err (Io kind)) made → Back made new (Io kind) → honest → KeepsReads old new
  undeleted_keeps honest made new kind all back true_ =
      let trees : new.memory.trees ≡ old.memory.trees = ap (λ (h : Held). h.memory.trees) back ∙ ap (λ (m : Remembered). m.trees) all.2 in
      keeps_homes old new (carry_all old.memory.trees new.memory.trees trees) (λ s stands reads.
      subst (HomesStay old.disk new.disk) (sym trees) (subst (λ (m : Meaning). HomesStay old.disk m old.memory.trees) (sym (ap (λ (h : Held). h.disk) back))
      (⊎_elim (λ unsynced. all_stay old.disk made.disk old.memory.trees (unsynced.homes (reads.writer room.well)))
      (λ turned. homes_by made.disk s stands reads (others_by made.disk turned.mid all.0 false all.1 (turned.synced.homes (reads.writer room.well)) turned.changed)) (all.5 true_))))
      (outside_ill old new (ap (λ (h : Held). h.memory.poisoned) back))

  -- what the disk took of it
  undeleted_disk : (honest : Type 0) (made new : Held) (kind : _) → IsLawful old.memory → Unmakes honest old id (Err (Io kind)) made → Back made new (Io kind) → honest → PersistFailed old SyncAll new ⊎ ChangeStopped old (OfDeletion id) new
  undeleted_disk honest made new kind lawful all back true_ =
      let disk : new.disk ≡ made.disk = ap (λ (h : Held). h.disk) back in
      ⊎_elim
      (λ unsynced. inl (part_of old new new.journal SyncAll (subst (λ (h : Held). PersistTook old.journal h.journal SyncAll old.disk h.disk) (sym back) (unsynced.left refl))))
      (λ turned. inr (record {
        synced = turned.mid;
        sync = turned.synced.took refl;
        within = subst (λ (m : Meaning). Within (codes "keyspaces") turned.mid m) (sym disk) turned.changed.within;
        pending = λ s d stands on.
            subst (λ l. SafeSince d [] l new.disk) (sym (asks_one s stands))
            (unaltered_keeps s.parts.entries old (between old made turned.mid) new d (Delete id) room.well (stays old made turned.mid) turned.synced
            (changes_by made new turned.mid all.0 false lawful all.1 (subst (λ m. on_disk.DeletedKeyspace turned.mid m all.0 false) (sym disk) turned.changed)
            (record { memory_is = λ e. not_done e; catalog_is = λ e. not_done e; journal_is = λ e. not_done e })) on);
      }))
      (all.5 true_)

  pub undeleted_serves : (honest : Type 0) (made new : Held) (error : Error) → IsLawful old.memory → Unmakes honest old id (Err error) made → Back made new error → honest → Serves old (OfDeletion id) (Refused error) new
  undeleted_serves honest made new (Io kind) lawful all back true_ =
      let fault = poisons_of honest made new kind all back in
      let disk : new.disk ≡ made.disk = ap (λ (h : Held). h.disk) back in
      serves_by old new (OfDeletion id) (Refused (Io kind)) (undeleted_owes honest made new (Io kind) lawful all back) (λ reads. reads)
      (undeleted_disk honest made new kind lawful all back true_)
      (subst (λ (m : Meaning). StaysTidy old.disk m) (sym disk) (⊎_elim (λ unsynced. unsynced.kinds) (λ turned. stays_both old.disk turned.mid made.disk turned.synced.kinds turned.changed.kinds) (all.5 true_)))
      (undeleted_keeps honest made new kind all back true_)
      (λ s d stands on tidy. record {
        rose = fault.faults;
        served = ⊎_elim
            (λ unsynced. served_on s.parts.entries old new.disk d room.well (subst (λ (h : Held). on_disk.Persisted old.disk h.disk old.journal h.journal SyncAll false) (sym back) unsynced).served on)
            (λ turned. served_by made new turned.mid all.0 false all.1 (subst (λ m. on_disk.DeletedKeyspace turned.mid m all.0 false) (sym disk) turned.changed) turned.synced s.parts.entries d on)
            (all.5 true_);
      }) (λ s d stands on.
      led_by new s d (OfDeletion id) (Refused (Io kind)) (Delete id ∷ []) (asks_one s stands) (λ sync. sync)
      (⊎_elim
      (λ unsynced. unsynced_leads s.parts.entries old new d (Delete id) room.well fault (subst (λ (h : Held). on_disk.Persisted old.disk h.disk old.journal h.journal SyncAll false) (sym back) unsynced) on)
      (λ turned. unaltered_leads s.parts.entries old (between old made turned.mid) new d (Delete id) room.well (stays old made turned.mid) turned.synced
      (changes_by made new turned.mid all.0 false lawful all.1 (subst (λ m. on_disk.DeletedKeyspace turned.mid m all.0 false) (sym disk) turned.changed)
      (record { memory_is = λ e. not_done e; catalog_is = λ e. not_done e; journal_is = λ e. not_done e })) fault on)
      (all.5 true_)))
  undeleted_serves honest made new OutOfMemory lawful all back true_ = subst (λ (h : Held). Serves old (OfDeletion id) (Refused OutOfMemory) h) (sym (back ∙ all.0)) (memory_serves old (OfDeletion id) tt none)
  undeleted_serves honest made new ValueTooLong lawful all back true_ = subst (λ (h : Held). Serves old (OfDeletion id) (Refused ValueTooLong) h) (sym (back ∙ all.0)) (long_serves old (OfDeletion id) (λ reads. reads) (too_long lawful all.1) none)
  undeleted_serves honest made new NumbersUsedUp lawful all back true_ = no_number lawful all.1
  undeleted_serves honest made new error lawful all back true_ = absurd all.1

-- a keyspace that is deleted already
pub gone_serves : (core : Held) (id : ℕ) → held_due core (OfDeletion id) ≡ None → is_living (store_in core) id ≡ false → Serves core (OfDeletion id) Done core
gone_serves core id none gone = serves_by core core (OfDeletion id) Done (none, (refl, inl (gone, refl)))
    (λ reads. reads)
    (subst (λ (b : Bool). MatchBool b (ReplacesTable core core) (core.disk ≡ core.disk)) (sym gone) refl) (stays_start core.disk) (keeps_same core core refl) (λ _ _ _ _ _. refl) (λ s d stands on.
    let here : is_living (present s) id ≡ false = living_agree core.memory core.catalog.next_table_id s stands.remembered id ∙ gone in
    still_led core core s d (OfDeletion id) Done (ap (λ b. if b then (Delete id ∷ []) else []) here) (λ sync. true≢false (sym sync ∙ here)) refl on)
