-- What came of the work of finishing a flush on the disk and in memory.
use Rattle.std.proofs.Common.{◌≡◌, ◌⊎◌, ◌≤◌, ◌∙◌, inl, inr, Bool, true, false, if◌then◌else◌, OnErr, Some, Result, Ok, Err, sym, ap, subst}
use Rattle.fjall_base.specs.declared.error.Error.{Error}
use Rattle.fjall_base.specs.declared.error.Error.TheVariants.{Io}
use Rattle.fjall_jobs.specs.declared.flush_made.FlushMade.{FlushMade}
use Rattle.fjall_jobs.specs.Made.{flush_tables}
use Rattle.fjall_jobs.specs.Tasks.{Task}
use Rattle.fjall_journal.specs.Writer.{IsIo}
use Rattle.fjall_files.specs.Journals.{staying}
use Rattle.fjall_replay.specs.Known.{last_known}
use Rattle.fjall_meta.specs.declared.living.LivingKeyspace.{LivingKeyspace}
use Rattle.fjall_meta.specs.Keyspaces.{keyspace_at}
use Rattle.fjall_trees.specs.Tables.{shape_in}
use Rattle.fjall_machine.specs.Finishing.{ForFlush, IsFinishRefusal, keyspace_of}
use Rattle.fjall_machine.specs.Machine.{flush_with, is_living}
use Rattle.fjall_machine.specs.Remembered.{KnowsTask, Remembered, flushed_by, poisoned}
use Rattle.fjall_machine.proofs.Facts.{living_names, some_there}
use Rattle.fjall_machine.proofs.Knowing.{after_evicted, after_fault}
use Rattle.fjall_state.specs.Flushes.{IsOfFlush}
use Rattle.fjall_engine.specs.Holding.{Held}
use Rattle.fjall_engine.specs.CallParts.{Evicts, Finishes, Puts, WroteFlush}
use Rattle.fjall_engine.specs.Crashes.{is_io}
use Rattle.fjall_engine.specs.Standing.{store_in}

-- the keyspace that lives
there : (old : Held) (made : FlushMade) → is_living (store_in old) (keyspace_of made) ≡ true → (k : LivingKeyspace) × (keyspace_at (keyspace_of made) old.memory.keyspaces.living ≡ Some k)
there old made lives =
    some_there (keyspace_at (keyspace_of made) old.memory.keyspaces.living) (sym (living_names old.memory.keyspaces old.memory.trees (keyspace_of made)) ∙ lives)

-- it failed, or was refused
pub put_failed : (honest : Type 0) (old mid new : Held) (made : FlushMade) (error : Error) → mid ≡ record old { disk = mid.disk } → new ≡ (if is_io error then record mid { memory = poisoned mid.memory } else mid)
    → is_living (store_in old) (keyspace_of made) ≡ true → IsOfFlush old.memory made
    → ForFlush old.memory (keyspace_of made)
    (λ k out. IsFinishRefusal (last_known old.memory.records k) (flush_with (shape_in (keyspace_of made) old.memory.trees) out (flush_tables made)) old.disk.faults mid.disk.faults error)
    → ((IsIo error → ⊥) → mid.disk ≡ old.disk) → (honest → WroteFlush old.memory made old.disk mid.disk false) → Puts honest old made (Err error) new
put_failed honest old mid new made (Io kind) same is lives out cause untouched wrote =
    let k = there old made lives in
    subst (λ (h : Held). Puts honest old made (Err (Io kind)) h) (sym is)
    (record { memory_is = ap (λ (h : Held). poisoned h.memory) same; faults = cause k.0 out.out k.1 out.is }, wrote)
put_failed honest old mid new made error same is lives out cause untouched wrote = (is ∙ same ∙ (λ i. record old { disk = untouched (λ io. io) i }), cause)

-- ---- whatever was brought

-- a poison leaves the disk as it is, and what is known of flushes
pub poison_keeps : (mid new : Held) (error : Error) → new ≡ (if is_io error then record mid { memory = poisoned mid.memory } else mid)
    → (new.disk ≡ mid.disk) × ((task : Task) → KnowsTask mid.memory task → KnowsTask new.memory task)
poison_keeps mid new error is = by (is_io error) is
  where
    by : (fault : Bool) → new ≡ (if fault then record mid { memory = poisoned mid.memory } else mid) → (new.disk ≡ mid.disk) × ((task : Task) → KnowsTask mid.memory task → KnowsTask new.memory task)
    by true is = (ap (λ (h : Held). h.disk) is, λ task known. subst (λ (h : Held). KnowsTask h.memory task) (sym is) (after_fault mid.memory task known))
    by false is = (ap (λ (h : Held). h.disk) is, λ task known. subst (λ (h : Held). KnowsTask h.memory task) (sym is) known)

-- A refusal that came behind a change of the disk is of the disk, and poisons, or did so before.
pub refusal_poisons : (old mid new : Held) (error : Error) → new ≡ (if is_io error then record mid { memory = poisoned mid.memory } else mid)
    → ((IsIo error → ⊥) → (mid.disk ≡ old.disk) ⊎ (mid.memory.poisoned ≡ true)) → (new.disk ≡ old.disk) ⊎ (new.memory.poisoned ≡ true)
refusal_poisons old mid new (Io kind) is left = inr (ap (λ (h : Held). h.memory.poisoned) is)
refusal_poisons old mid new error is left = by (left (λ io. io))
  where
    by : (mid.disk ≡ old.disk) ⊎ (mid.memory.poisoned ≡ true) → (new.disk ≡ old.disk) ⊎ (new.memory.poisoned ≡ true)
    by (inl same) = inl (ap (λ (h : Held). h.disk) is ∙ same)
    by (inr ill) = inr (ap (λ (h : Held). h.memory.poisoned) is ∙ ill)

pub eviction_poisons : (honest : Type 0) (old mid new : Held) (result : Result Unit Error) → Evicts honest mid result new → OnErr result ((new.disk ≡ old.disk) ⊎ (new.memory.poisoned ≡ true))
eviction_poisons honest old mid new (Ok _) evicts = tt
eviction_poisons honest old mid new (Err (Io kind)) (left, evicts, fault, away, later) = inr (ap (λ (m : Remembered). m.poisoned) fault.memory_is)
eviction_poisons honest old mid new (Err error) bad = absurd bad

-- an eviction, done or not, keeps it too, and no fault is forgotten
pub evicted_later : (honest : Type 0) (old new : Held) (result : Result Unit Error) → Evicts honest old result new → old.disk.faults ≤ new.disk.faults
evicted_later honest old new (Ok _) (becomes, took, away) = becomes.faults
evicted_later honest old new (Err (Io kind)) (left, evicts, fault, away, later) = later
evicted_later honest old new (Err error) bad = absurd bad

pub evicted_knows : (honest : Type 0) (old new : Held) (result : Result Unit Error) → Evicts honest old result new → (task : Task) → KnowsTask old.memory task → KnowsTask new.memory task
evicted_knows honest old new (Ok _) (becomes, took, away) task known =
    subst (λ (m : Remembered). KnowsTask m task) (sym becomes.memory_is) (after_evicted old.memory task (staying (flushed_by old.memory.keyspaces old.memory.records) old.memory.journals.sealed) known)
evicted_knows honest old new (Err (Io kind)) (left, evicts, fault, away, later) task known =
    subst (λ (m : Remembered). KnowsTask m task) (sym fault.memory_is)
    (after_fault left task (subst (λ (m : Remembered). KnowsTask m task) (sym evicts.3) (after_evicted old.memory task evicts.1 known)))
evicted_knows honest old new (Err error) bad task known = absurd bad

-- ---- where it is of the flush

-- it was done, and an eviction followed
pub finished_by : (honest : Type 0) (old mid new : Held) (made : FlushMade) (result : Result Unit Error) → Puts honest old made (Ok tt) mid → Evicts honest mid result new → Finishes honest old made result new
finished_by honest old mid new made (Ok _) put evicts = (mid, put, evicts)
finished_by honest old mid new made (Err error) put evicts = inr (mid, put, evicts)
