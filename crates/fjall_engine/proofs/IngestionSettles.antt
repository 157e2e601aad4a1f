-- The eviction behind an ingestion: it does the same to a core that has taken the ingestion as to one that has its record alone.
use Rattle.std.proofs.Common.{◌≡◌, ℕ, ◌≤◌, ◌==◌, cond, Bool, true, false, Option, Some, Err, Ok, refl, sym, ◌∙◌, ap, subst}
use Rattle.std.proofs.lemmas.Bool.{eq-eqb}
use Rattle.std.specs.FinMap.{contains_key, get, insert}
use Rattle.std.specs.Option.{is_some}
use Rattle.fjall_base.specs.Disk.{Meaning}
use Rattle.fjall_base.specs.declared.error.Error.{Error}
use Rattle.fjall_base.specs.declared.error.Error.TheVariants.{Io}
use Rattle.fjall_compaction.specs.declared.ingestion.whole.PlannedIngestion.{PlannedIngestion}
use Rattle.fjall_machine.specs.Ingesting.{with_ingestion, with_record, with_tables}
use Rattle.fjall_machine.specs.Remembered.{Remembered, poisoned, with_sealed_in_memory}
use Rattle.fjall_manifest.specs.Records.{Fields, view}
use Rattle.fjall_meta.proofs.Slots.{get_put, same_id, same_maps}
use Rattle.fjall_engine.specs.Holding.{Held}
use Rattle.fjall_engine.specs.CallParts.{Evicts, SettlesIngestion, WentAway, recorded}
use Rattle.fjall_engine.specs.Standing.{Becomes, EvictsInMemory, evicted_in_memory}

module _ (core : Held) (disk : Meaning) (id : ℕ) (p : PlannedIngestion) where
  -- the core on this disk with the record that was planned, and with all of the ingestion
  abbrev pub recorded_on : Held
  recorded_on = record core { disk = disk; memory = with_record id (view p.own.writes.record) core.memory }

  abbrev pub ingested_on : Held
  ingested_on = record core { disk = disk; memory = with_ingestion id p.readers.items (view p.own.writes.record) core.memory }

  pub away_too : (new : Meaning) (done : Bool) → WentAway recorded_on.memory disk new done → WentAway ingested_on.memory disk new done
  away_too new done away = record { leaves = away.leaves; lies = away.lies; elsewhere = away.elsewhere; homes = away.homes; served = away.served; kinds = away.kinds; stopped = away.stopped }

  pub evicted_too : (after new : Held) → Becomes recorded_on (evicted_in_memory recorded_on.memory) after → new ≡ record after { memory = with_tables id p.readers.items after.memory }
      → Becomes ingested_on (evicted_in_memory ingested_on.memory) new
  evicted_too after new becomes is = record {
    memory_is = ap (λ (h : Held). h.memory) is ∙ ap (with_tables id p.readers.items) becomes.memory_is;
    catalog = ap (λ (h : Held). h.catalog) is ∙ becomes.catalog;
    journal = ap (λ (h : Held). h.journal) is ∙ becomes.journal;
    faults = subst (λ (m : Meaning). disk.faults ≤ m.faults) (sym (ap (λ (h : Held). h.disk) is)) becomes.faults;
  }

  pub evicts_too : (left : Remembered) → EvictsInMemory recorded_on.memory left → EvictsInMemory ingested_on.memory (with_tables id p.readers.items left)
  evicts_too left (gone, rest, stopped, is) = (gone, rest, stopped, ap (with_tables id p.readers.items) is)

-- ---- what came of it, as it is said of a core that was written on

module _ (honest : Type 0) (core mid new : Held) (id : ℕ) (p : PlannedIngestion) (mid_is : mid ≡ record core { disk = mid.disk }) (same : p.id ≡ id) where
  recorded_is : recorded p mid ≡ recorded_on core mid.disk id p
  recorded_is = λ i. record (mid_is i) { memory = with_record (same i) (view p.own.writes.record) (mid_is i).memory }

  pub settled : SettlesIngestion honest mid p (Ok tt) new
      → (after : Held) × Evicts honest (recorded_on core mid.disk id p) (Ok tt) after × (new ≡ record after { memory = with_tables id p.readers.items after.memory })
  settled (after, evicts, is) = (
    after,
    subst (λ (h : Held). Evicts honest h (Ok tt) after) recorded_is evicts,
    is ∙ (λ i. record after { memory = with_tables (same i) p.readers.items after.memory }),
  )

  pub unsettled : (error : Error) → SettlesIngestion honest mid p (Err error) new
      → (after : Held) × Evicts honest (recorded_on core mid.disk id p) (Err error) after × (new ≡ record after { memory = poisoned (with_sealed_in_memory after.memory.journals.sealed core.memory) })
  unsettled error (after, evicts, is) = (
    after,
    subst (λ (h : Held). Evicts honest h (Err error) after) recorded_is evicts,
    is ∙ (λ i. record after { memory = poisoned (with_sealed_in_memory after.memory.journals.sealed (mid_is i).memory) }),
  )

-- ---- memory as it was

-- A record that was swapped is swapped back.
pub swapped_back : (m : Remembered) (id : ℕ) (x r : Fields) → get m.records id ≡ Some r → insert (insert m.records id x) id r ≡ m.records
swapped_back m id x r had = same_maps (insert (insert m.records id x) id r) m.records (λ q. get_put (insert m.records id x) id r q ∙ by q (q == id) refl)
  where
    by : (q : ℕ) (b : Bool) → (q == id) ≡ b → cond b (Some r) (get (insert m.records id x) q) ≡ get m.records q
    by q true e = sym had ∙ ap (get m.records) (sym (same_id q id e))
    by q false e = get_put m.records id x q ∙ ap (λ (b : Bool). cond b (Some x) (get m.records q)) e

-- what memory is where an eviction failed
unevicted_memory : (honest : Type 0) (old after : Held) (error : Error) → Evicts honest old (Err error) after → after.memory ≡ poisoned (with_sealed_in_memory after.memory.journals.sealed old.memory)
unevicted_memory honest old after (Io kind) (left, (gone, rest, stopped, is), fault, away, later) =
    let memory = fault.memory_is ∙ ap poisoned is in
    let sealed = ap (λ (m : Remembered). m.journals.sealed) memory in
    memory ∙ (λ i. poisoned (with_sealed_in_memory (sym sealed i) old.memory))
unevicted_memory honest old after error bad = absurd bad

module _ (honest : Type 0) (old after : Held) (p : PlannedIngestion) (error : Error) (evicts : Evicts honest (recorded p old) (Err error) after) (id : ℕ) (same : id ≡ p.id) (left : Remembered) (at : left ≡ after.memory) where
  left_memory : left ≡ poisoned (with_sealed_in_memory after.memory.journals.sealed (with_record p.id (view p.own.writes.record) old.memory))
  left_memory = at ∙ unevicted_memory honest (recorded p old) after error evicts

  -- the record that was planned is there
  pub record_there : contains_key left.records id ≡ true
  record_there =
      (λ i. is_some (get (left_memory i).records (same i)))
      ∙ ap (λ (o : Option Fields). is_some o)
      (get_put old.memory.records p.id (view p.own.writes.record) p.id ∙ ap (λ (b : Bool). cond b (Some (view p.own.writes.record)) (get old.memory.records p.id)) (eq-eqb p.id p.id refl))

  -- and with the one of before in its place, memory is as it was
  pub back_in_memory : (r : Fields) (now : Remembered) → get old.memory.records p.id ≡ Some r → now ≡ with_record id r left → now ≡ poisoned (with_sealed_in_memory after.memory.journals.sealed old.memory)
  back_in_memory r now had is =
      is ∙ (λ i. with_record (same i) r (left_memory i))
      ∙ (λ i. record (poisoned (with_sealed_in_memory after.memory.journals.sealed old.memory)) { records = swapped_back old.memory p.id (view p.own.writes.record) r had i })
