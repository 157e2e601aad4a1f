-- What came of an ingestion is what the call owes, and a crash leaves what it may.
use Rattle.std.proofs.Common.{◌≡◌, inl, inr, ℕ, ◌≤◌, ◌-◌, ◌^◌, ◌&&◌, nat_le, Bool, true, false, List, [], ◌∷◌, length, Result, Ok, Err, refl, sym, ◌∙◌, ap, subst, arith}
use Rattle.std.specs.declared.io.ErrorKind.{ErrorKind}
use Rattle.fjall_base.specs.Store.{Command, Store, kept}
use Rattle.fjall_base.specs.Disk.{LeavesOnly, Meaning, state_in}
use Rattle.fjall_base.specs.Errors.{Rose}
use Rattle.fjall_base.specs.declared.error.Error.{Error}
use Rattle.fjall_base.specs.declared.error.Error.TheVariants.{Io}
use Rattle.fjall_files.specs.Names.{keyspace_folder}
use Rattle.fjall_files.specs.Regions.{Within}
use Rattle.fjall_files.specs.Tidy.{IsTidy, StaysTidy}
use Rattle.fjall_files.proofs.Tidying.{stays_both, tidy_on}
use Rattle.fjall_history.specs.declared.reply.Reply.TheVariants.{Done, Refused}
use Rattle.fjall_compaction.specs.declared.ingestion.whole.PlannedIngestion.{PlannedIngestion}
use Rattle.fjall_compaction.specs.Ingests.{ingestion}
use Rattle.fjall_journal.specs.Writer.{Journal}
use Rattle.fjall_replay.specs.Known.{last_known}
use Rattle.fjall_files.specs.Journals.{Sealed}
use Rattle.fjall_meta.specs.declared.living.LivingKeyspace.{LivingKeyspace}
use Rattle.fjall_machine.specs.Ingesting.{with_ingestion, with_tables}
use Rattle.fjall_machine.specs.Machine.{IngestionFails, Refuses, State, StepOf}
use Rattle.fjall_machine.specs.Machine as machine
use Rattle.fjall_machine.specs.Remembered.{Remembered, poisoned, with_sealed_in_memory}
use Rattle.fjall_machine.specs.Remembered as memory
use Rattle.fjall_machine.specs.Shapes.{CallShape, OfIngestion}
use Rattle.fjall_machine.proofs.Flushing.{an_eviction_stands, some_evicted, with_sealed_stands}
use Rattle.fjall_manifest.specs.Records.{Fields, view}
use Rattle.fjall_trees.specs.Tables.{shape_in}
use Rattle.fjall_reading.specs.Ingestions.{KeyOp}
use Rattle.fjall_engine.specs.Holding.{Held}
use Rattle.fjall_engine.specs.CallParts.{Evicts, PutsIngestion, SettlesIngestion, SyncedAll, SyncsAll, WentAway, WentSynced, WritesIngestion, WroteIngestion}
use Rattle.fjall_engine.specs.Durables.{Durable, StandsAmid, StaysFinished}
use Rattle.fjall_engine.specs.Standing.{Becomes, EvictionTook, EvictsInMemory, IngestedInMemory, IngestionPoisons, Owes, OwesRefusal, Poisons, Serves, StandsFor, StandsOn, SyncFailed, SyncTook, evicted_in_memory, is_journal_long, journal_synced_in, reply_of, store_with_tables}
use Rattle.fjall_engine.proofs.CrashesInRuns.{passes_on, safe_now}
use Rattle.fjall_engine.proofs.Evictions.{evicted_keeps, evicted_leads, evicted_served, unevicted_leads}
use Rattle.fjall_engine.proofs.FinishedFlushes.{rose_later}
use Rattle.fjall_engine.proofs.IngestionSettles.{away_too, evicted_too, evicts_too, ingested_on, recorded_on, settled, unsettled}
use Rattle.fjall_engine.proofs.IngestionSteps.{IsDue, ingests, leads_by, leads_synced, leads_taken, left_there, may_synced, next_left, none_after, reads_synced, reads_taken, stands_synced, stands_taken, state_synced, state_taken}
use Rattle.fjall_engine.proofs.IngestionSyncs.{StandsSynced, unsynced_keeps, unsynced_leads, went_kinds, went_served}
use Rattle.fjall_engine.proofs.IngestionTables.{all_lie}
use Rattle.fjall_engine.proofs.IngestionWrites.{MayWrite, record_planned, unwritten_leads, write_finished, write_leaves, write_served}
use Rattle.fjall_engine.proofs.JournalWrites.{held_on}
use Rattle.fjall_engine.proofs.OwedWork.{long_agrees}
use Rattle.fjall_engine.proofs.OwedStates.{poisoned_stands, poisoned_state, same_due}
use Rattle.fjall_engine.proofs.ServedCalls.{memory_owes, memory_serves}
use Rattle.fjall_engine.proofs.TablesAtHome.{LieThere, all_stay, homes_stay, outside_ill}

-- what the disk was asked for is said whatever is in memory
went_with : (long done : Bool) (old new : Held) (m : Remembered) → WentSynced long done old new → WentSynced long done old (record new { memory = m })
went_with true done old new m went = went
went_with false done old new m went = went

module _ (honest : Type 0) (old new : Held) (k : LivingKeyspace) (item : KeyOp) (rest : List KeyOp) (p : PlannedIngestion) (due : IsDue old k (item ∷ rest) p) where
  abbrev items : List KeyOp
  items = item ∷ rest

  abbrev command : Command
  command = ingestion k.id (item ∷ rest)

  abbrev call : CallShape
  call = OfIngestion k.id (item ∷ rest)

  -- a fault in it is a step of the machine
  fails : (kind : ErrorKind) (s t : State) → StandsFor old s → machine.are_journals_used_up s ≡ false → IngestionFails s k.id items t → StepOf s call (Refused (Io kind)) t
  fails kind s t stands left how = subst (λ first. Refuses first call (Io kind) s t) (sym (same_due old s call stands ∙ due.none)) (inr (inr (left, how)))

  owes_fault : (kind : ErrorKind) → IngestionPoisons old k.id items new → Owes old call (Refused (Io kind)) new
  owes_fault kind how = subst (λ first. OwesRefusal first old call (Io kind) new) (sym due.none) (inr (inr (due.left, how)))

  -- a journal has its number in the state too
  stays_left : (s : State) → StandsFor old s → machine.are_journals_used_up s ≡ false
  stays_left s stands = (λ i. long_agrees old new s stands i && nat_le (2 ^ 64 - 2) (stands.remembered.journals i).active) ∙ due.left

  -- ---- the sync failed

  module _ (failed : Held) (kind : ErrorKind) (synced : SyncsAll honest old (Err (Io kind)) failed) (is : new ≡ record failed { memory = poisoned failed.memory }) where
    unsynced_fault : Poisons old.memory old new
    unsynced_fault = record {
      memory_is = ap (λ (h : Held). h.memory) is ∙ ap poisoned synced.0;
      faults = subst (λ (h : Held). Rose old.disk.faults h.disk.faults) (sym is) synced.2;
    }

    unsynced_serves : honest → Serves old call (Refused (Io kind)) new
    unsynced_serves h =
        let fault = unsynced_fault in
        let took = subst (λ (c : Held). SyncFailed old c) (sym is) (synced.3 h) in
        let went = subst (λ (c : Held). WentSynced (is_journal_long old.journal) false old c) (sym is) (went_with (is_journal_long old.journal) false old failed (poisoned failed.memory) (synced.4 h)) in
        let numbered = next_left old due.left in
        record {
          disk = inl took;
          goes_on = λ s stands reads.
              let kept_reads = unsynced_keeps old new due.may.well numbered fault took went s stands reads in (
                poisoned_state new s,
                poisoned_stands old.memory old new old.catalog.next_table_id s fault stands.remembered,
                record { tables = kept_reads.tables; writer = kept_reads.writer; recorded = kept_reads.recorded },
                fails kind s (poisoned_state new s) stands (stays_left s stands) (inl (record { is = refl; trees = refl; entries = refl; records = refl; journals = refl })),
                leads_by old new s (poisoned_state new s) call (Refused (Io kind)) (command ∷ []) refl (went_kinds old new due.may.well numbered (is_journal_long old.journal) false went)
                    (λ d on tidy. record {
                      rose = fault.faults;
                      served = went_served old new due.may.well numbered (is_journal_long old.journal) false refl went s.parts.entries d on tidy;
                    }) (λ d on.
                    let led = unsynced_leads s.parts.entries old new d due.may.well on (is_journal_long old.journal) fault went command in
                    (led.0, led.1, led.2, λ sync. absurd sync)),
              );
        }

  -- ---- the sync was done

  module _ (synced : Held) (at : SyncedAll old synced) where
    abbrev may : MayWrite synced k items p
    may = may_synced old synced k items p at due.may

    -- what is in memory with the ingestion
    abbrev m_taken : Remembered
    m_taken = with_ingestion k.id p.readers.items (view p.own.writes.record) synced.memory

    in_memory : IngestedInMemory (journal_synced_in old) k.id items m_taken
    in_memory = subst (λ (m : Remembered). IngestedInMemory m k.id items m_taken) at.memory_is (record {
      k = k;
      lives = may.living;
      flushes = p.memory.tables.items;
      made = p.own.tables.items;
      readers = p.readers.items;
      makes = may.planned.makes;
      is = ap (λ (l : Fields). with_ingestion k.id p.readers.items l synced.memory) (record_planned synced k items p may);
    })

    -- what was put at names, and that no call was one that no disk can serve
    module _ (disk : Meaning) (done : Bool) (went : WentSynced (is_journal_long old.journal) true old synced) (wrote : WroteIngestion p synced.disk disk done) where
      sync_kinds : StaysTidy old.disk synced.disk
      sync_kinds = went_kinds old synced due.may.well (next_left old due.left) (is_journal_long old.journal) true went

      write_kinds : StaysTidy old.disk disk
      write_kinds =
          stays_both old.disk synced.disk disk sync_kinds
          (wrote.kinds (shape_in k.id synced.memory.trees) k.id synced.memory.tickets.watermark synced.memory.next items (last_known synced.memory.records k) may.planned)

      write_misuses : (s : State) (d : Durable) → StandsFor old s → StandsOn old s.parts.entries d → IsTidy (state_in old.disk) → disk.misuses ≡ old.disk.misuses
      write_misuses s d stands on tidy =
          let led = leads_synced old synced k item rest p due at s stands d went on in
          let held = stands_synced old synced k item rest p due at s stands in
          write_served synced k items p may held.remembered.lawful (state_synced old synced k item rest p due at s stands).parts.entries led.0 led.1 disk done wrote
          (tidy_on old.disk synced.disk sync_kinds tidy)
          ∙ went_served old synced due.may.well (next_left old due.left) (is_journal_long old.journal) true refl went s.parts.entries d on tidy

    -- what was written stands within the keyspace's folder
    written_within : (disk : Meaning) (done : Bool) → WroteIngestion p synced.disk disk done → Within (keyspace_folder k.id) synced.disk disk
    written_within disk done wrote = wrote.within (shape_in k.id synced.memory.trees) k.id synced.memory.tickets.watermark synced.memory.next items (last_known synced.memory.records k) may.planned

    -- ---- a fault stopped the writing

    module _ (kind : ErrorKind) (writes : WritesIngestion honest synced p (Err (Io kind)) new) where
      unwritten_memory : new.memory ≡ poisoned synced.memory
      unwritten_memory = ap (λ (h : Held). h.memory) writes.0

      unwritten_fault : Poisons synced.memory synced new
      unwritten_fault = record { memory_is = unwritten_memory; faults = writes.1 }

      unwritten_rose : Rose old.disk.faults new.disk.faults
      unwritten_rose = rose_later old.disk.faults synced.disk.faults new.disk.faults at.faults writes.3 writes.1

      unwritten_owes : Owes old call (Refused (Io kind)) new
      unwritten_owes = owes_fault kind (inr (inl (record { memory_is = unwritten_memory ∙ ap poisoned at.memory_is; faults = unwritten_rose })))

      unwritten_serves : SyncTook old synced → WentSynced (is_journal_long old.journal) true old synced → honest → Serves old call (Refused (Io kind)) new
      unwritten_serves took went h = record {
        disk = inr (record {
          synced = synced;
          sync = took;
          mid = new.disk;
          within = written_within new.disk false (writes.2 h);
          evicted = inl refl;
          pending = λ s d stands on.
              let held = stands_synced old synced k item rest p due at s stands in
              let s1 = state_synced old synced k item rest p due at s stands in
              let first = leads_synced old synced k item rest p due at s stands d went on in
              safe_now d (held_on synced first.0 []) new.disk [] (command ∷ []) first.2 refl
              (write_leaves synced k items p may held.remembered.lawful s1.parts.entries first.0 first.1 new.disk false (writes.2 h));
        });
        goes_on = λ s stands reads.
            let fault = unwritten_fault in
            let wrote = writes.2 h in
            let held = stands_synced old synced k item rest p due at s stands in
            let there = reads_synced old synced k item rest p due at s stands took went reads in
            let s1 = state_synced old synced k item rest p due at s stands in
            let ill : new.memory.poisoned ≡ true = ap (λ (x : Remembered). x.poisoned) fault.memory_is in (
              poisoned_state new s1,
              poisoned_stands synced.memory synced new synced.catalog.next_table_id s1 fault held.remembered,
              record {
                tables = subst (λ (x : Remembered). LieThere new.disk s1 x.trees) (sym fault.memory_is) (all_lie synced k items p may new.disk false s1 held there wrote);
                writer = outside_ill synced new ill there.writer;
                recorded = there.recorded;
              },
              fails kind s (poisoned_state new s1) stands (left_there old synced k item rest p due at s stands)
                  (inr (inl (record { is = refl; trees = refl; entries = refl; records = refl; journals = refl }))),
              leads_by old new s (poisoned_state new s1) call (Refused (Io kind)) (command ∷ []) refl (write_kinds new.disk false went wrote)
                  (λ d on tidy. record { rose = unwritten_rose; served = write_misuses new.disk false went wrote s d stands on tidy }) (λ d on.
                  let first = leads_synced old synced k item rest p due at s stands d went on in
                  let led = unwritten_leads synced k items p may held.remembered.lawful s1.parts.entries first.0 first.1 new ill
                  (write_finished synced k items p may held.remembered.lawful s1.parts.entries first.0 first.1 new.disk false wrote)
                  (write_leaves synced k items p may held.remembered.lawful s1.parts.entries first.0 first.1 new.disk false wrote)
                  (ap (λ (m : Remembered). kept (store_with_tables s1.parts.entries (record new { memory = m }))) (sym fault.memory_is)) in
                  (led.0, led.1, passes_on d (held_on synced first.0 []) led.0 [] (command ∷ []) first.2 led.2, λ sync. absurd sync)),
            );
      }

    -- ---- it was written

    module _ (mid : Held) (writes : WritesIngestion honest synced p (Ok tt) mid) where
      abbrev on_disk : Held
      on_disk = ingested_on synced mid.disk k.id p

      -- ---- and journals are gone that nobody wants any more

      module _ (settles : SettlesIngestion honest mid p (Ok tt) new) where
        abbrev way : (after : Held) × Evicts honest (recorded_on synced mid.disk k.id p) (Ok tt) after × (new ≡ record after { memory = with_tables k.id p.readers.items after.memory })
        way = settled honest synced mid new k.id p writes.0 may.planned.keyspace settles

        becomes : Becomes on_disk (evicted_in_memory on_disk.memory) new
        becomes = evicted_too synced mid.disk k.id p way.0 new way.1.0 way.2

        same_disk : new.disk ≡ way.0.disk
        same_disk = ap (λ (h : Held). h.disk) way.2

        away : honest → WentAway on_disk.memory mid.disk new.disk true
        away h = away_too synced mid.disk k.id p new.disk true (subst (λ (m : Meaning). WentAway (recorded_on synced mid.disk k.id p).memory mid.disk m true) (sym same_disk) (way.1.2 h))

        evicted : honest → EvictionTook m_taken mid.disk new.disk
        evicted h = subst (λ (m : Meaning). EvictionTook m_taken mid.disk m) (sym same_disk) (way.1.1 h)

        done_owes : Owes old call Done new
        done_owes =
            let one = at.faults in
            let two = writes.1 in
            let three = becomes.faults in (
              due.none,
              (
                refl,
                due.left,
                record {
                  mid = m_taken;
                  ingested = in_memory;
                  memory_is = becomes.memory_is;
                  catalog = becomes.catalog ∙ at.catalog;
                  journal = becomes.journal ∙ at.journal;
                  faults = omega (arith, one, two, three);
                },
              ),
            )

        done_serves : SyncTook old synced → WentSynced (is_journal_long old.journal) true old synced → honest → Serves old call Done new
        done_serves took went h = record {
          disk = record {
            synced = synced;
            sync = took;
            mid = mid.disk;
            within = written_within mid.disk true (writes.2 h);
            left = m_taken;
            ingested = in_memory;
            evicted = evicted h;
          };
          goes_on = λ s stands reads.
              let wrote = writes.2 h in
              let gone = away h in
              let s1 = state_synced old synced k item rest p due at s stands in
              let t1 = state_taken old synced k item rest p due at s stands in
              let held = stands_taken old synced k item rest p due at s stands mid.disk in
              let there = reads_taken old synced k item rest p due at s stands mid.disk (reads_synced old synced k item rest p due at s stands took went reads) wrote in
              let kept_reads = evicted_keeps on_disk new becomes gone t1 held there in
              let t = machine.evicted t1 in (
                t,
                record {
                  remembered = subst (λ (x : Remembered). memory.MemoryStandsFor x new.catalog.next_table_id t) (sym becomes.memory_is)
                      (subst (λ (n : ℕ). memory.MemoryStandsFor (evicted_in_memory m_taken) n t) (ap (λ c. c.next_table_id) (sym becomes.catalog))
                      (an_eviction_stands m_taken synced.catalog.next_table_id t1 held.remembered));
                  journal = held.journal ∙ ap (λ (j : Journal). j.len) (sym becomes.journal);
                  buffer = held.buffer ∙ ap (λ (j : Journal). length j.buffer) (sym becomes.journal);
                },
                record { tables = kept_reads.tables; writer = kept_reads.writer; recorded = kept_reads.recorded },
                (
                  same_due old s call stands ∙ due.none,
                  (refl, left_there old synced k item rest p due at s stands, t1, ingests old synced k item rest p due at s stands, refl),
                ),
                leads_by old new s t call Done (command ∷ []) refl (stays_both old.disk mid.disk new.disk (write_kinds mid.disk true went wrote) gone.kinds)
                    (λ d on tidy.
                    let first = leads_synced old synced k item rest p due at s stands d went on in
                    let second = leads_taken old synced k item rest p due at s stands mid.disk first.0 first.1 wrote in
                    evicted_served t1.parts.entries on_disk new second.0 true may.well gone second.1 ∙ write_misuses mid.disk true went wrote s d stands on tidy) (λ d on.
                    let first = leads_synced old synced k item rest p due at s stands d went on in
                    let second = leads_taken old synced k item rest p due at s stands mid.disk first.0 first.1 wrote in
                    let third = evicted_leads t1.parts.entries on_disk new second.0 may.well becomes gone second.1 in
                    let later = passes_on (held_on synced first.0 []) second.0 third.0 (command ∷ []) [] second.2 third.2 in
                    (third.0, third.1, passes_on d (held_on synced first.0 []) third.0 [] (command ∷ []) first.2 later, λ sync. none_after second.0 third.0 second.3 third.2)),
              );
        }

      -- ---- or a fault stopped the eviction

      module _ (kind : ErrorKind) (after : Held) (left : Remembered) (evicts : EvictsInMemory (recorded_on synced mid.disk k.id p).memory left) (fault : Poisons left (recorded_on synced mid.disk k.id p) after)
          (later : mid.disk.faults ≤ after.disk.faults) (is : new ≡ record after { memory = poisoned (with_sealed_in_memory after.memory.journals.sealed synced.memory) }) where
        abbrev rest_sealed : List Sealed
        rest_sealed = evicts.1

        abbrev left_taken : Remembered
        left_taken = with_tables k.id p.readers.items left

        -- the same core, where memory knew of the ingestion
        abbrev knowing : Held
        knowing = record new { memory = poisoned left_taken }

        evicts_taken : EvictsInMemory m_taken left_taken
        evicts_taken = evicts_too synced mid.disk k.id p left evicts

        same_sealed : after.memory.journals.sealed ≡ rest_sealed
        same_sealed = ap (λ (m : Remembered). m.journals.sealed) fault.memory_is ∙ ap (λ (m : Remembered). m.journals.sealed) evicts.3

        left_memory : new.memory ≡ poisoned (with_sealed_in_memory rest_sealed synced.memory)
        left_memory = ap (λ (h : Held). h.memory) is ∙ ap (λ (l : List Sealed). poisoned (with_sealed_in_memory l synced.memory)) same_sealed

        left_disk : new.disk ≡ after.disk
        left_disk = ap (λ (h : Held). h.disk) is

        rose_mid : Rose mid.disk.faults new.disk.faults
        rose_mid = subst (λ (m : Meaning). Rose mid.disk.faults m.faults) (sym left_disk) fault.faults

        later_mid : mid.disk.faults ≤ new.disk.faults
        later_mid = subst (λ (m : Meaning). mid.disk.faults ≤ m.faults) (sym left_disk) later

        rose_synced : Rose synced.disk.faults new.disk.faults
        rose_synced = rose_later synced.disk.faults mid.disk.faults new.disk.faults writes.1 later_mid rose_mid

        rose_old : Rose old.disk.faults new.disk.faults
        rose_old =
            let on = writes.1 in
            let off = later_mid in
            rose_later old.disk.faults synced.disk.faults new.disk.faults at.faults (omega (arith, on, off)) rose_synced

        unevicted_owes : Owes old call (Refused (Io kind)) new
        unevicted_owes =
            owes_fault kind (inr (inr (
              m_taken,
              left_taken,
              in_memory,
              evicts_taken,
              record {
                memory_is = left_memory ∙ (λ i. poisoned (with_sealed_in_memory (sym (ap (λ (m : Remembered). m.journals.sealed) evicts.3) i) (at.memory_is i)));
                faults = rose_old;
              },
            )))

        left_fault : Poisons (with_sealed_in_memory rest_sealed synced.memory) synced new
        left_fault = record { memory_is = left_memory; faults = rose_synced }

        knowing_fault : Poisons left_taken on_disk knowing
        knowing_fault = record { memory_is = refl; faults = rose_mid }

        gone_of : WentAway (recorded_on synced mid.disk k.id p).memory mid.disk after.disk false → WentAway m_taken mid.disk new.disk false
        gone_of away = away_too synced mid.disk k.id p new.disk false (subst (λ (m : Meaning). WentAway (recorded_on synced mid.disk k.id p).memory mid.disk m false) (sym left_disk) away)

        -- what a crash leaves from the sync on
        unevicted_leaves : WroteIngestion p synced.disk mid.disk true → WentAway (recorded_on synced mid.disk k.id p).memory mid.disk after.disk false → (s : State) (stands : StandsFor old s) (base : Store)
            → StandsSynced synced (state_synced old synced k item rest p due at s stands).parts.entries base → LeavesOnly synced.disk new.disk (StandsAmid base [] (command ∷ []))
        unevicted_leaves wrote away s stands base lies =
            let t1 = state_taken old synced k item rest p due at s stands in
            let second = leads_taken old synced k item rest p due at s stands mid.disk base lies wrote in
            let third = unevicted_leads t1.parts.entries on_disk knowing left_taken second.0 may.well evicts_taken knowing_fault (gone_of away) second.1 in
            let later = passes_on (held_on synced base []) second.0 third.0 (command ∷ []) [] second.2 third.2 in
            subst (λ (m : Meaning). LeavesOnly synced.disk m (StandsAmid base [] (command ∷ []))) third.1.same later.leaves

        unevicted_serves : SyncTook old synced → WentSynced (is_journal_long old.journal) true old synced → WroteIngestion p synced.disk mid.disk true
            → WentAway (recorded_on synced mid.disk k.id p).memory mid.disk after.disk false → Serves old call (Refused (Io kind)) new
        unevicted_serves took went wrote away = record {
          disk = inr (record {
            synced = synced;
            sync = took;
            mid = mid.disk;
            within = written_within mid.disk true wrote;
            evicted = inr (m_taken, in_memory, (gone_of away).stopped refl);
            pending = λ s d stands on.
                let first = leads_synced old synced k item rest p due at s stands d went on in
                safe_now d (held_on synced first.0 []) new.disk [] (command ∷ []) first.2 refl (unevicted_leaves wrote away s stands first.0 first.1);
          });
          goes_on = λ s stands reads.
              let gone = gone_of away in
              let s1 = state_synced old synced k item rest p due at s stands in
              let t1 = state_taken old synced k item rest p due at s stands in
              let held_synced = stands_synced old synced k item rest p due at s stands in
              let held = stands_taken old synced k item rest p due at s stands mid.disk in
              let there = reads_synced old synced k item rest p due at s stands took went reads in
              let some_left = machine.with_sealed rest_sealed s1 in
              let ill : new.memory.poisoned ≡ true = ap (λ (x : Remembered). x.poisoned) left_memory in
              let lie = homes_stay mid.disk new.disk s1 synced.memory.trees (all_stay mid.disk new.disk synced.memory.trees gone.homes)
              (all_lie synced k items p may mid.disk true s1 held_synced there wrote) in (
                poisoned_state new some_left,
                poisoned_stands (with_sealed_in_memory rest_sealed synced.memory) synced new synced.catalog.next_table_id some_left left_fault
                    (with_sealed_stands synced.memory synced.catalog.next_table_id s1 held_synced.remembered rest_sealed),
                record {
                  tables = subst (λ (x : Remembered). LieThere new.disk s1 x.trees) (sym left_memory) lie;
                  writer = outside_ill synced new ill there.writer;
                  recorded = there.recorded;
                },
                fails kind s (poisoned_state new some_left) stands (left_there old synced k item rest p due at s stands)
                    (inr (inr (
                      t1,
                      machine.with_sealed rest_sealed t1,
                      ingests old synced k item rest p due at s stands,
                      some_evicted m_taken synced.catalog.next_table_id t1 held.remembered evicts.0 rest_sealed evicts.2,
                      record { is = refl; trees = refl; entries = refl; records = refl; journals = refl },
                    ))),
                leads_by old new s (poisoned_state new some_left) call (Refused (Io kind)) (command ∷ []) refl
                    (stays_both old.disk mid.disk new.disk (write_kinds mid.disk true went wrote) gone.kinds)
                    (λ d on tidy.
                    let first = leads_synced old synced k item rest p due at s stands d went on in
                    let second = leads_taken old synced k item rest p due at s stands mid.disk first.0 first.1 wrote in
                    record {
                      rose = rose_old;
                      served = evicted_served t1.parts.entries on_disk knowing second.0 false may.well gone second.1 ∙ write_misuses mid.disk true went wrote s d stands on tidy;
                    }) (λ d on.
                    let first = leads_synced old synced k item rest p due at s stands d went on in
                    let second = leads_taken old synced k item rest p due at s stands mid.disk first.0 first.1 wrote in
                    let third = unevicted_leads t1.parts.entries on_disk knowing left_taken second.0 may.well evicts_taken knowing_fault gone second.1 in
                    let led = unwritten_leads synced k items p may held_synced.remembered.lawful s1.parts.entries first.0 first.1 new ill
                    (subst (λ (m : Meaning). StaysFinished (state_in m)) third.1.same third.1.finished)
                    (unevicted_leaves wrote away s stands first.0 first.1)
                    (ap (λ (m : Remembered). kept (store_with_tables s1.parts.entries (record new { memory = m }))) (sym left_memory)) in
                    (led.0, led.1, passes_on d (held_on synced first.0 []) led.0 [] (command ∷ []) first.2 led.2, λ sync. absurd sync)),
              );
        }

  -- ---- whatever came of it

  put_fails : (error : Error) → PutsIngestion honest old p (Err error) new → Owes old call (Refused error) new × (honest → Serves old call (Refused error) new)
  put_fails (Io kind) (inl (failed, unsynced, is)) = (owes_fault kind (inl (unsynced_fault failed kind unsynced is)), unsynced_serves failed kind unsynced is)
  put_fails (Io kind) (inr (inl (synced, syncs, writes))) = (unwritten_owes synced syncs.0 kind writes, λ h. unwritten_serves synced syncs.0 kind writes (syncs.1 h) (syncs.2 h) h)
  put_fails (Io kind) (inr (inr (synced, mid, syncs, writes, settles))) =
      let way = unsettled honest synced mid new k.id p writes.0 (may_synced old synced k items p syncs.0 due.may).planned.keyspace (Io kind) settles in (
        unevicted_owes synced syncs.0 mid writes kind way.0 way.1.0 way.1.1 way.1.2 way.1.4 way.2,
        λ h. unevicted_serves synced syncs.0 mid writes kind way.0 way.1.0 way.1.1 way.1.2 way.1.4 way.2 (syncs.1 h) (syncs.2 h) (writes.2 h) (way.1.3 h),
      )
  put_fails error (inl (failed, unsynced, is)) =
      let same : new ≡ old = is ∙ unsynced.0 in (
        subst (λ (c : Held). Owes old call (Refused error) c) (sym same) (subst (λ (e : Error). Owes old call (Refused e) old) (sym unsynced.1) (memory_owes old call tt due.none)),
        λ h. subst (λ (c : Held). Serves old call (Refused error) c) (sym same)
            (subst (λ (e : Error). Serves old call (Refused e) old) (sym unsynced.1) (memory_serves old call tt due.none)),
      )
  put_fails error (inr (inl (synced, syncs, writes))) = absurd writes
  put_fails error (inr (inr (synced, mid, syncs, writes, settles))) =
      absurd (unsettled honest synced mid new k.id p writes.0 (may_synced old synced k items p syncs.0 due.may).planned.keyspace error settles).1

  pub put_owes : (result : Result Unit Error) → PutsIngestion honest old p result new → Owes old call (reply_of result) new
  put_owes (Ok _) (synced, mid, syncs, writes, settles) = done_owes synced syncs.0 mid writes settles
  put_owes (Err error) puts = (put_fails error puts).0

  pub put_serves : (result : Result Unit Error) → PutsIngestion honest old p result new → honest → Serves old call (reply_of result) new
  put_serves (Ok _) (synced, mid, syncs, writes, settles) h = done_serves synced syncs.0 mid writes settles (syncs.1 h) (syncs.2 h) h
  put_serves (Err error) puts h = (put_fails error puts).1 h
