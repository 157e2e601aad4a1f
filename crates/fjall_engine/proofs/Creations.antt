-- What a creation makes of a core.
use Rattle.std.proofs.Common.{◌≡◌, ◌≢◌, ◌⊎◌, All, codes, inl, inr, ⊎_elim, MatchOption, Option, ℕ, ◌<◌, ◌-◌, ◌^◌, Bool, true, false, if◌then◌else◌, List, [], ◌∷◌, None, Some, Result, Ok, Err, refl, sym, ◌∙◌, ap, subst, arith}
use Rattle.std.proofs.lemmas.Bool.{true≢false}
use Rattle.fjall_base.specs.Pairs.{Bytes}
use Rattle.fjall_base.specs.Store.{Create, apply, fold, kept}
use Rattle.fjall_base.specs.Disk.{Meaning, state_in}
use Rattle.fjall_base.specs.declared.error.Error.{Error}
use Rattle.fjall_base.specs.declared.error.Error.TheVariants.{Io, NumbersUsedUp, OutOfMemory, ValueTooLong}
use Rattle.fjall_meta.specs.Keyspaces.{id_of, with_keyspace}
use Rattle.fjall_manifest.specs.Updates.{IsPreparingRefusal}
use Rattle.fjall_meta.specs.Replays.{option_pairs}
use Rattle.fjall_trees.specs.Maps.{store_of}
use Rattle.fjall_trees.specs.Writes.{with_tree}
use Rattle.fjall_table.specs.Blocks.{Entry}
use Rattle.fjall_trees.specs.Forests.{Planted}
use Rattle.fjall_trees.specs.MapTables.{store_with}
use Rattle.fjall_trees.proofs.Planted.{creation_of_trees, creation_with}
use Rattle.fjall_changes.specs.Journaling.{KeepsHomes, KeepsOtherHomes}
use Rattle.fjall_changes.proofs.KeptHomes.{others_both}
use Rattle.fjall_changes.specs.declared.creation.Creation.{Creation}
use Rattle.fjall_changes.specs.Changes.{IsCreation}
use Rattle.fjall_machine.specs.Shapes.{OfCreation}
use Rattle.fjall_history.specs.declared.reply.Reply.TheVariants.{Number, Refused}
use Rattle.fjall_machine.specs.Allowed.{HasRoomForChange}
use Rattle.fjall_machine.specs.Machine.{HasLongOption, State, names_one, present}
use Rattle.fjall_machine.specs.Remembered.{AreBeside, IsLawful, Remembered, facts_of, poisoned, with_creation}
use Rattle.std.proofs.lemmas.List.Elements.{All-weaker}
use Rattle.std.specs.Option.{is_some}
use Rattle.fjall_options.specs.Options.{AreOptions}
use Rattle.fjall_machine.proofs.Dues.{may_create}
use Rattle.fjall_machine.proofs.Facts.{named_is}
use Rattle.fjall_machine.proofs.Lawful.{creation_is_lawful}
use Rattle.fjall_base.specs.Errors.{Rose}
use Rattle.fjall_journal.specs.declared.persist_mode.PersistMode.TheVariants.{SyncAll}
use Rattle.fjall_journal.specs.Writer.{PersistTook}
use Rattle.fjall_files.specs.Regions.{Within}
use Rattle.fjall_files.specs.Tidy.{IsTidy, StaysTidy}
use Rattle.fjall_files.proofs.Tidying.{stays_both, stays_start}
use Rattle.fjall_engine.specs.Holding.{Held}
use Rattle.fjall_engine.specs.Durables.{Durable, Passes}
use Rattle.fjall_engine.specs.Crashes.{SafeSince, attempt, is_io}
use Rattle.fjall_engine.specs.Standing.{ChangeStopped, Creates, Owes, OwesRefusal, PersistFailed, Poisons, ReadsOn, ReplacesTable, Serves, StandsFor, StandsOn, held_due, store_in, store_with_tables}
use Rattle.fjall_changes.specs.SyncedChanges.{SyncedThenChanged}
use Rattle.fjall_engine.specs.CallParts.{Makes}
use Rattle.fjall_changes.specs.SyncedChanges as on_disk
use Rattle.fjall_engine.proofs.CatalogOnDisk.{Becomes, creation_changed, creation_served}
use Rattle.fjall_engine.proofs.DeviceFaults.{served_on, room_on}
use Rattle.fjall_engine.proofs.JournalWrites.{held_on}
use Rattle.fjall_machine.proofs.Standing.{a_name_agrees, a_name_there}
use Rattle.fjall_engine.proofs.ServedCalls.{LeadsFrom, still_led, led_by, long_owes, long_serves, memory_owes, memory_serves, replaces_table, serves_by}
use Rattle.fjall_engine.proofs.TablesAtHome.{HomesStay, KeepsReads, LieThere, all_stay, carry_all, homes_stay, keeps_homes, keeps_same, others_there, outside_ill, outside_same, planted_there}
use Rattle.fjall_engine.proofs.Syncs.{Persisted, StaysSame, sync_empty, sync_lies}
use Rattle.fjall_engine.proofs.CatalogTables.{created_table, long_option}
use Rattle.fjall_changes.proofs.ChangesAfterSync.{not_done}
use Rattle.fjall_engine.proofs.KeyspaceCalls.{ChangesTo, alter_settles, unaltered_keeps, unaltered_leads, unsynced_leads}
use Rattle.fjall_engine.proofs.Persists.{part_of}

-- a core that has the new keyspace in memory already
abbrev pub raised : Bytes → List Bytes → Held → Held
raised name options core = record core { memory = with_creation name options core.memory }

-- a core whose journal was synced, on the disk between
abbrev pub between : Held → Held → Meaning → Held
between old made mid = record old { disk = mid; journal = made.journal }

pub stays : (old made : Held) (mid : Meaning) → StaysSame old (between old made mid)
stays old made mid = record { keyspaces = refl; trees = refl; records = refl; next = refl; catalog = refl; journals = refl }

-- the store with the keyspace
created_held : (old : Held) (name : Bytes) (options : List Bytes) → IsLawful old.memory
    → store_of (with_keyspace name options old.memory.next old.memory.keyspaces) (with_tree old.memory.keyspaces.next old.memory.next old.memory.trees) ≡ apply (store_in old) (Create name (option_pairs options))
created_held old name options lawful = creation_of_trees name options old.memory.next old.memory.keyspaces lawful.keyspaces old.memory.next old.memory.trees lawful.given

-- the same with tables, of which a new id has none
created_shown : (entries : ℕ → List (List Entry)) (old : Held) (name : Bytes) (options : List Bytes) → IsLawful old.memory → AreBeside old.memory entries
    → store_with entries (with_keyspace name options old.memory.next old.memory.keyspaces) (with_tree old.memory.keyspaces.next old.memory.next old.memory.trees) ≡ apply (store_with_tables entries old) (Create name (option_pairs options))
created_shown entries old name options lawful beside =
    creation_with entries name options old.memory.next old.memory.keyspaces lawful.keyspaces old.memory.next old.memory.trees lawful.given (beside.unused old.memory.keyspaces.next (omega arith))

-- the trees of a core have ids that were given out
pub given_fit : (old : Held) → IsLawful old.memory → All (λ k. k.id < 2 ^ 64) old.memory.trees
given_fit old lawful = All-weaker (λ (k : Planted). k.id < old.memory.keyspaces.next) (λ k. k.id < 2 ^ 64) (λ k less. let small = lawful.keyspaces.fits in omega (arith, less, small)) old.memory.trees lawful.given

-- ---- what the disk tells of it

module _ (old : Held) (name : Bytes) (options : List Bytes) (id number : ℕ) (id_is : id ≡ old.memory.keyspaces.next) (number_is : number ≡ old.memory.next) (after : IsLawful (with_creation name options old.memory)) where
  of_creation : (creation : Creation) → IsCreation old.catalog (with_keyspace name options old.memory.next old.memory.keyspaces) id number creation
      → IsCreation old.catalog (with_keyspace name options old.memory.next old.memory.keyspaces) old.memory.keyspaces.next old.memory.next creation
  of_creation creation is = subst (λ n. IsCreation old.catalog (with_keyspace name options old.memory.next old.memory.keyspaces) old.memory.keyspaces.next n creation) number_is
      (subst (λ i. IsCreation old.catalog (with_keyspace name options old.memory.next old.memory.keyspaces) i number creation) id_is is)

  changes_by : (made new : Held) (mid : Meaning) (creation : Creation) (done : Bool) → IsLawful old.memory → IsCreation old.catalog (with_keyspace name options old.memory.next old.memory.keyspaces) id number creation
      → on_disk.CreatedKeyspace mid new.disk creation done → Becomes (between old made mid) new (with_creation name options old.memory) creation.update.catalog done → ChangesTo (between old made mid) new (Create name (option_pairs options)) done
  changes_by made new mid creation done lawful is disk core base lies none =
      creation_changed (between old made mid) new base name options creation done lies none (of_creation creation is) lawful.keyspaces after.keyspaces lawful.given disk core

  -- the homes of the trees that stood before stay
  homes_by : (new : Meaning) (s : State) → StandsFor old s → ReadsOn old s → KeepsOtherHomes id old.disk new → HomesStay old.disk new old.memory.trees
  homes_by new s stands reads others =
      let lawful = stands.remembered.lawful in
      others_there id old.disk new s old.memory.trees others reads.tables (given_fit old lawful)
      (All-weaker (λ (k : Planted). k.id < old.memory.keyspaces.next) (λ k. k.id ≢ id) (λ k less same. let is = id_is in let bad : ⊥ = omega (arith, less, same, is) in bad) old.memory.trees lawful.given)

  others_by : (made mid : Meaning) (creation : Creation) (done : Bool) → IsLawful old.memory → IsCreation old.catalog (with_keyspace name options old.memory.next old.memory.keyspaces) id number creation → KeepsHomes old.disk mid
      → on_disk.CreatedKeyspace mid made creation done → KeepsOtherHomes id old.disk made
  others_by made mid creation done lawful is first disk =
      others_both id old.disk mid made (λ other some fits differ. first other)
      (disk.others old.catalog (with_keyspace name options old.memory.next old.memory.keyspaces) id number (let small = lawful.keyspaces.fits in omega (arith, small, id_is)) is)

  -- ---- done

  pub creates_of : (honest : Type 0) (made : Held) → Makes honest (raised name options old) id number (Ok tt) made → Creates old name options made
  creates_of honest made all = record {
    memory_is = ap (λ (h : Held). h.memory) all.2;
    lawful = after;
    next_table = ap (λ (h : Held). h.catalog.next_table_id) all.2 ∙ created_table old.catalog.next_table_id _ _ _ old.memory.keyspaces name options old.memory.next all.1.update.table;
    journal = ap (λ (h : Held). h.journal) all.2;
    faults = all.3;
  }

  module _ (none : held_due old (OfCreation name options) ≡ None) (fresh : names_one (store_in old) name ≡ false) where
    room : HasRoomForChange (facts_of old.memory old.catalog.next_table_id)
    room = (may_create (facts_of old.memory old.catalog.next_table_id) name none).room fresh

    pub created_owes : (honest : Type 0) (made : Held) → Makes honest (raised name options old) id number (Ok tt) made → Owes old (OfCreation name options) (Number id) made
    created_owes honest made all = (none, (id, refl, inr (fresh, id_is, creates_of honest made all)))

    -- wherever the core stood, no call was one that no disk can serve
    served_by : (made new : Held) (mid : Meaning) (creation : Creation) (done : Bool) → IsLawful old.memory → IsCreation old.catalog (with_keyspace name options old.memory.next old.memory.keyspaces) id number creation
        → on_disk.CreatedKeyspace mid new.disk creation done → Persisted old (between old made mid) SyncAll true → (entries : ℕ → List (List Entry)) (d : Durable) → StandsOn old entries d → IsTidy (state_in old.disk) → new.disk.misuses ≡ old.disk.misuses
    served_by made new mid creation done lawful is disk out entries d on tidy =
        let here : d ≡ held_on old d.base d.pending = λ i. record { meaning = on.same i; base = d.base; pending = d.pending } in
        let lies = (subst (λ (x : Durable). StandsOn old entries x) here on).lies room.well in
        let same = stays old made mid in
        let synced = sync_lies old (between old made mid) d.base d.pending same lies out in
        let nothing = sync_empty old (between old made mid) d.base d.pending same lies out in
        creation_served (between old made mid) new (fold d.base d.pending) name options creation done synced nothing (of_creation creation is) lawful.keyspaces after.keyspaces disk
        (room_on old.disk mid old.memory.keyspaces.next lawful.keyspaces.fits tidy (out.elsewhere lies.journals lies.writing))
        ∙ out.served lies.journals lies.writing

    -- what was put at names
    kinds_by : (made : Held) (mid : Meaning) (creation : Creation) (done : Bool) → IsCreation old.catalog (with_keyspace name options old.memory.next old.memory.keyspaces) id number creation
        → on_disk.CreatedKeyspace mid made.disk creation done → StaysTidy old.disk mid → StaysTidy old.disk made.disk
    kinds_by made mid creation done is disk first =
        stays_both old.disk mid made.disk first (disk.kinds old.catalog (with_keyspace name options old.memory.next old.memory.keyspaces) id number (let more = after.keyspaces.fits in omega (arith, more, id_is)) is)

    asks_one : (s : State) → StandsFor old s → (if names_one (present s) name then [] else (Create name (option_pairs options) ∷ [])) ≡ Create name (option_pairs options) ∷ []
    asks_one s stands = ap (λ b. if b then [] else (Create name (option_pairs options) ∷ [])) (a_name_agrees old.memory old.catalog.next_table_id s stands.remembered name ∙ fresh)

    -- its disk keeps the tables, and the new keyspace has none
    created_keeps : (honest : Type 0) (made : Held) → Makes honest (raised name options old) id number (Ok tt) made → honest → KeepsReads old made
    created_keeps honest made all true_ s stands reads =
        let turned = all.4 true_ in
        let lawful = stands.remembered.lawful in
        let next = old.memory.keyspaces.next in
        let homes = homes_by made.disk s stands reads (others_by made.disk turned.mid all.0 true lawful all.1 (turned.synced.homes (reads.writer room.well)) turned.changed) in
        record {
          tables = subst (LieThere made.disk s) (sym (ap (λ (h : Held). h.memory.trees) all.2))
              (planted_there made.disk s next old.memory.next old.memory.trees lawful.keyspaces.begun (stands.remembered.beside.unused next (omega arith)) (homes_stay old.disk made.disk s old.memory.trees homes reads.tables));
          writer = outside_same old made (ap (λ (h : Held). h.memory.poisoned) all.2) (ap (λ (h : Held). h.journal.name) all.2) reads.writer;
          recorded = reads.recorded;
        }

    pub created_serves : (honest : Type 0) (made : Held) → id_of name old.memory.keyspaces.living ≡ None → Makes honest (raised name options old) id number (Ok tt) made → honest → Serves old (OfCreation name options) (Number id) made
    created_serves honest made unnamed all true_ =
        let turned = all.4 true_ in
        let well = ap (λ (h : Held). h.memory.poisoned) all.2 ∙ room.well in
        let led : LeadsFrom old (OfCreation name options) (Number id) made = λ s d stands on.
        let lawful = stands.remembered.lawful in
        let core : Becomes (between old made turned.mid) made (with_creation name options old.memory) all.0.update.catalog true =
        record { memory_is = λ _. ap (λ (h : Held). h.memory) all.2; catalog_is = λ _. ap (λ (h : Held). h.catalog) all.2; journal_is = λ _. refl } in
        let settled = alter_settles s.parts.entries old (between old made turned.mid) made d (Create name (option_pairs options)) room.well (stays old made turned.mid) turned.synced
        (changes_by made made turned.mid all.0 true lawful all.1 turned.changed core)
        well stands.remembered.beside.unused
        (ap kept (sym (created_shown s.parts.entries old name options lawful stands.remembered.beside)) ∙ ap (λ (h : Held). kept (store_with_tables s.parts.entries h)) (sym all.2)) on in
        (settled.0, settled.1, (subst (λ l. Passes d l settled.0) (sym (asks_one s stands)) settled.2, λ sync. settled.3)) in
        serves_by old made (OfCreation name options) (Number id) (created_owes honest made all) (λ reads. reads)
        (subst (λ (o : Option ℕ). MatchOption o (ReplacesTable old made) (λ found. made.disk ≡ old.disk)) (sym unnamed)
        (replaces_table old made (OfCreation name options) (Number id) (turned.changed.gone refl old.catalog _ id number all.1) well led))
        (kinds_by made turned.mid all.0 true all.1 turned.changed turned.synced.kinds) (created_keeps honest made all true_)
        (λ s d stands on tidy. served_by made made turned.mid all.0 true stands.remembered.lawful all.1 turned.changed turned.synced s.parts.entries d on tidy) led

    -- ---- refused

    -- memory as it was, poisoned where a fault of the disk is told
    abbrev pub Back : Held → Held → Error → Type 0
    Back made new error = new ≡ (if is_io error then record made { memory = poisoned old.memory } else record made { memory = old.memory })

    poisons_of : (honest : Type 0) (made new : Held) (kind : _) → Makes honest (raised name options old) id number (Err (Io kind)) made → Back made new (Io kind) → Poisons old.memory old new
    poisons_of honest made new kind all back = record { memory_is = ap (λ (h : Held). h.memory) back; faults = subst (λ (h : Held). Rose old.disk.faults h.disk.faults) (sym back) all.4 }

    whole_again : (made new : Held) → made ≡ raised name options old → new ≡ record made { memory = old.memory } → new ≡ old
    whole_again made new is back = back ∙ ap (λ (h : Held). record h { memory = old.memory }) is

    too_long : IsLawful old.memory → IsPreparingRefusal old.catalog (with_keyspace name options old.memory.next old.memory.keyspaces) number ValueTooLong → HasLongOption (kept (apply (store_in old) (Create name (option_pairs options))))
    too_long lawful long = subst (λ st. HasLongOption (kept st)) (created_held old name options lawful) (long_option (with_keyspace name options old.memory.next old.memory.keyspaces) after.keyspaces (with_tree old.memory.keyspaces.next old.memory.next old.memory.trees) long)

    no_number : {A : Type 0} → IsPreparingRefusal old.catalog (with_keyspace name options old.memory.next old.memory.keyspaces) number NumbersUsedUp → A
    no_number (inl high) = let low = room.numbered in let same = number_is in absurd (let bad : ⊥ = omega (arith, high, low, same) in bad)
    no_number (inr table) = absurd (room.table table.1)

    pub uncreated_owes : (honest : Type 0) (made new : Held) (error : Error) → IsLawful old.memory → Makes honest (raised name options old) id number (Err error) made → Back made new error → Owes old (OfCreation name options) (Refused error) new
    uncreated_owes honest made new (Io kind) lawful all back = subst (λ first. OwesRefusal first old (OfCreation name options) (Io kind) new) (sym none) (inl (tt, poisons_of honest made new kind all back))
    uncreated_owes honest made new OutOfMemory lawful all back = subst (λ (h : Held). Owes old (OfCreation name options) (Refused OutOfMemory) h) (sym (whole_again made new all.0 back)) (memory_owes old (OfCreation name options) tt none)
    uncreated_owes honest made new ValueTooLong lawful all back = subst (λ (h : Held). Owes old (OfCreation name options) (Refused ValueTooLong) h) (sym (whole_again made new all.0 back)) (long_owes old (OfCreation name options) (too_long lawful all.1) none)
    uncreated_owes honest made new NumbersUsedUp lawful all back = no_number all.1
    uncreated_owes honest made new error lawful all back = absurd all.1

    -- its disk keeps the tables, wherever it failed
    uncreated_keeps : (honest : Type 0) (made new : Held) (kind : _) → Makes honest (raised name options old) id number (Err (Io kind)) made → Back made new (Io kind) → honest → KeepsReads old new
    uncreated_keeps honest made new kind all back true_ =
        let disk : new.disk ≡ made.disk = ap (λ (h : Held). h.disk) back in
        keeps_homes old new (carry_all old.memory.trees new.memory.trees (ap (λ (h : Held). h.memory.trees) back)) (λ s stands reads.
        subst (HomesStay old.disk new.disk) (sym (ap (λ (h : Held). h.memory.trees) back)) (subst (λ (m : Meaning). HomesStay old.disk m old.memory.trees) (sym disk)
        (⊎_elim (λ unsynced. all_stay old.disk made.disk old.memory.trees (unsynced.homes (reads.writer room.well)))
        (λ turned. homes_by made.disk s stands reads (others_by made.disk turned.mid all.0 false stands.remembered.lawful all.1 (turned.synced.homes (reads.writer room.well)) turned.changed)) (all.5 true_))))
        (outside_ill old new (ap (λ (h : Held). h.memory.poisoned) back))

    asked_one : (s : State) (kind : _) → StandsFor old s → attempt s (OfCreation name options) (Refused (Io kind)) ≡ Create name (option_pairs options) ∷ []
    asked_one s kind stands = asks_one s stands

    -- what the disk took of it
    uncreated_disk : (honest : Type 0) (made new : Held) (kind : _) → IsLawful old.memory → Makes honest (raised name options old) id number (Err (Io kind)) made → Back made new (Io kind) → honest
        → PersistFailed old SyncAll new ⊎ ChangeStopped old (OfCreation name options) new
    uncreated_disk honest made new kind lawful all back true_ =
        let disk : new.disk ≡ made.disk = ap (λ (h : Held). h.disk) back in
        ⊎_elim
        (λ unsynced. inl (part_of old new new.journal SyncAll (subst (λ (h : Held). PersistTook old.journal h.journal SyncAll old.disk h.disk) (sym back) (unsynced.left refl))))
        (λ turned. inr (record {
          synced = turned.mid;
          sync = turned.synced.took refl;
          within = subst (λ (m : Meaning). Within (codes "keyspaces") turned.mid m) (sym disk) turned.changed.within;
          pending = λ s d stands on.
              subst (λ l. SafeSince d [] l new.disk) (sym (asks_one s stands))
              (unaltered_keeps s.parts.entries old (between old made turned.mid) new d (Create name (option_pairs options)) room.well (stays old made turned.mid) turned.synced
              (changes_by made new turned.mid all.0 false lawful all.1 (subst (λ m. on_disk.CreatedKeyspace turned.mid m all.0 false) (sym disk) turned.changed)
              (record { memory_is = λ e. not_done e; catalog_is = λ e. not_done e; journal_is = λ e. not_done e })) on);
        }))
        (all.5 true_)

    pub uncreated_serves : (honest : Type 0) (made new : Held) (error : Error) → IsLawful old.memory → Makes honest (raised name options old) id number (Err error) made → Back made new error → honest → Serves old (OfCreation name options) (Refused error) new
    uncreated_serves honest made new (Io kind) lawful all back true_ =
        let fault = poisons_of honest made new kind all back in
        let disk : new.disk ≡ made.disk = ap (λ (h : Held). h.disk) back in
        let journal : new.journal ≡ made.journal = ap (λ (h : Held). h.journal) back in
        serves_by old new (OfCreation name options) (Refused (Io kind)) (uncreated_owes honest made new (Io kind) lawful all back) (λ reads. reads)
        (uncreated_disk honest made new kind lawful all back true_)
        (subst (λ (m : Meaning). StaysTidy old.disk m) (sym disk) (⊎_elim (λ unsynced. unsynced.kinds) (λ turned. kinds_by made turned.mid all.0 false all.1 turned.changed turned.synced.kinds) (all.5 true_)))
        (uncreated_keeps honest made new kind all back true_)
        (λ s d stands on tidy. record {
          rose = fault.faults;
          served = ⊎_elim
              (λ unsynced. served_on s.parts.entries old new.disk d room.well (subst (λ (h : Held). on_disk.Persisted old.disk h.disk old.journal h.journal SyncAll false) (sym back) unsynced).served on)
              (λ turned. served_by made new turned.mid all.0 false lawful all.1 (subst (λ m. on_disk.CreatedKeyspace turned.mid m all.0 false) (sym disk) turned.changed) turned.synced s.parts.entries d on tidy)
              (all.5 true_);
        }) (λ s d stands on.
        led_by new s d (OfCreation name options) (Refused (Io kind)) (Create name (option_pairs options) ∷ []) (asked_one s kind stands) (λ sync. sync)
        (⊎_elim
        (λ unsynced. unsynced_leads s.parts.entries old new d (Create name (option_pairs options)) room.well fault (subst (λ (h : Held). on_disk.Persisted old.disk h.disk old.journal h.journal SyncAll false) (sym back) unsynced) on)
        (λ turned. unaltered_leads s.parts.entries old (between old made turned.mid) new d (Create name (option_pairs options)) room.well (stays old made turned.mid) turned.synced
        (changes_by made new turned.mid all.0 false lawful all.1 (subst (λ m. on_disk.CreatedKeyspace turned.mid m all.0 false) (sym disk) turned.changed)
        (record { memory_is = λ e. not_done e; catalog_is = λ e. not_done e; journal_is = λ e. not_done e })) fault on)
        (all.5 true_)))
    uncreated_serves honest made new OutOfMemory lawful all back true_ = subst (λ (h : Held). Serves old (OfCreation name options) (Refused OutOfMemory) h) (sym (whole_again made new all.0 back)) (memory_serves old (OfCreation name options) tt none)
    uncreated_serves honest made new ValueTooLong lawful all back true_ =
        subst (λ (h : Held). Serves old (OfCreation name options) (Refused ValueTooLong) h) (sym (whole_again made new all.0 back)) (long_serves old (OfCreation name options) (λ reads. reads) (too_long lawful all.1) none)
    uncreated_serves honest made new NumbersUsedUp lawful all back true_ = no_number all.1
    uncreated_serves honest made new error lawful all back true_ = absurd all.1

-- ---- as the code finds it out

-- a creation that nothing refuses, of a name that none has
pub record IsFresh (old : Held) (name : Bytes) (options : List Bytes) : Type 0 where
  pub lawful : IsLawful old.memory
  pub none : held_due old (OfCreation name options) ≡ None
  pub fresh : names_one (store_in old) name ≡ false
  pub after : IsLawful (with_creation name options old.memory)

pub is_fresh : (old : Held) (name : Bytes) (options : List Bytes) → IsLawful old.memory → held_due old (OfCreation name options) ≡ None → id_of name old.memory.keyspaces.living ≡ None → AreOptions options → IsFresh old name options
is_fresh old name options lawful none unnamed are =
    let fresh = named_is old.memory.keyspaces lawful.keyspaces old.memory.trees name ∙ ap is_some unnamed in
    let allowed = may_create (facts_of old.memory old.catalog.next_table_id) name none in
    record {
      lawful = lawful;
      none = none;
      fresh = fresh;
      after = creation_is_lawful name options old.memory lawful allowed.named unnamed are (λ same. (allowed.room fresh).free same) (allowed.room fresh).numbered;
    }

pub to_raised : (honest : Type 0) (old made : Held) (name : Bytes) (options : List Bytes) (m : Remembered) (id number : ℕ) (result : Result Unit Error) → m ≡ with_creation name options old.memory → Makes honest (record old { memory = m }) id number result made
    → Makes honest (raised name options old) id number result made
to_raised honest old made name options m id number result is all = subst (λ x. Makes honest (record old { memory = x }) id number result made) is all

-- what a keyspace that was not made leaves in memory
pub made_memory : (honest : Type 0) (old made : Held) (name : Bytes) (options : List Bytes) (id number : ℕ) (error : Error) → Makes honest (raised name options old) id number (Err error) made → made.memory ≡ with_creation name options old.memory
made_memory honest old made name options id number (Io kind) all = all.2
made_memory honest old made name options id number error all = ap (λ (h : Held). h.memory) all.0

-- where a number and an id are left
pub numbered_of : (core : Held) (name : Bytes) (options : List Bytes) → held_due core (OfCreation name options) ≡ None → names_one (store_in core) name ≡ false → core.memory.next < 2 ^ 63
numbered_of core name options none fresh = ((may_create (facts_of core.memory core.catalog.next_table_id) name none).room fresh).numbered

pub id_left : (core : Held) (name : Bytes) (options : List Bytes) → held_due core (OfCreation name options) ≡ None → names_one (store_in core) name ≡ false → core.memory.keyspaces.next ≢ 2 ^ 64 - 1
id_left core name options none fresh same = ((may_create (facts_of core.memory core.catalog.next_table_id) name none).room fresh).free same

-- a name that a keyspace has
pub found_serves : (core : Held) (name : Bytes) (options : List Bytes) (id : ℕ) → held_due core (OfCreation name options) ≡ None → id_of name core.memory.keyspaces.living ≡ Some id → Serves core (OfCreation name options) (Number id) core
found_serves core name options id none found = serves_by core core (OfCreation name options) (Number id) (none, (id, refl, inl (found, refl)))
    (λ reads. reads)
    (subst (λ (o : Option ℕ). MatchOption o (ReplacesTable core core) (λ found. core.disk ≡ core.disk)) (sym found) refl) (stays_start core.disk) (keeps_same core core refl) (λ _ _ _ _ _. refl) (λ s d stands on.
    let here : names_one (present s) name ≡ true = a_name_there core.memory core.catalog.next_table_id s stands.remembered name ∙ ap is_some found in
    still_led core core s d (OfCreation name options) (Number id) (ap (λ b. if b then [] else (Create name (option_pairs options) ∷ [])) here) (λ sync. true≢false (sym here ∙ sync)) refl on)
