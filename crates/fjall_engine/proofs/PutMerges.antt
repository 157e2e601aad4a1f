-- What came of the work of finishing a merge on the disk and in memory.
use Rattle.std.proofs.Common.{◌≡◌, ◌≤◌, ◌∙◌, inr, true, false, if◌then◌else◌, List, String, Vec, Ok, Err, sym, ap, subst}
use Rattle.std.specs.declared.alloc.Global.{Global}
use Rattle.fjall_base.specs.declared.error.Error.{Error}
use Rattle.fjall_base.specs.declared.error.Error.TheVariants.{Io}
use Rattle.fjall_base.specs.Errors.{IsFault}
use Rattle.fjall_jobs.specs.declared.merge_made.MergeMade.{MergeMade}
use Rattle.fjall_jobs.specs.Made.{merged_task}
use Rattle.fjall_journal.specs.Writer.{IsIo}
use Rattle.fjall_replay.specs.Known.{last_known}
use Rattle.fjall_tree.specs.Jobs.{is_merge_out}
use Rattle.fjall_trees.specs.Tables.{shape_in}
use Rattle.fjall_machine.specs.Machine.{is_living}
use Rattle.fjall_machine.specs.Merging.{ForMerge, IsMergeRefusal, counted_as, keyspace_of}
use Rattle.fjall_machine.specs.Remembered.{poisoned, with_merge_done}
use Rattle.fjall_machine.proofs.MergeFinishing.{merge_there}
use Rattle.fjall_engine.specs.Holding.{Held}
use Rattle.fjall_engine.specs.CallParts.{Merges, PutsMerge, TakesAway, TookAway, WroteMerge}
use Rattle.fjall_engine.specs.Crashes.{is_io}
use Rattle.fjall_engine.specs.Standing.{store_in}
use Rattle.fjall_engine.proofs.MergesOnDisk.{living_keyspace, lives_so}

-- the writing failed, or was refused
pub put_failed : (honest : Type 0) (old mid new : Held) (made : MergeMade) (error : Error) → mid ≡ record old { disk = mid.disk } → new ≡ (if is_io error then record mid { memory = poisoned mid.memory } else mid)
    → is_living (store_in old) (keyspace_of made) ≡ true → is_merge_out (merged_task made).id (shape_in (keyspace_of made) old.memory.trees).merge ≡ true
    → ForMerge old.memory (keyspace_of made) (λ k out. IsMergeRefusal (last_known old.memory.records k) (counted_as out made) old.disk.faults mid.disk.faults error)
    → ((IsIo error → ⊥) → mid.disk ≡ old.disk) → (honest → WroteMerge old.memory made old.disk mid.disk false) → PutsMerge honest old made (Err error) new
put_failed honest old mid new made (Io kind) same is lives out cause untouched wrote =
    let there = merge_there (merged_task made).id (shape_in (keyspace_of made) old.memory.trees).merge out in
    let fault = cause (living_keyspace old (keyspace_of made) lives) there.0 (lives_so old (keyspace_of made) lives) there.1 in
    subst (λ (h : Held). PutsMerge honest old made (Err (Io kind)) h) (sym is) (record { memory_is = ap (λ (h : Held). poisoned h.memory) same; faults = fault }, wrote)
put_failed honest old mid new made error same is lives out cause untouched wrote = (is ∙ same ∙ (λ i. record old { disk = untouched (λ io. io) i }), cause)

-- the removal failed
pub take_failed : (honest : Type 0) (old new : Held) (taken : List (String Global)) (error : Error) → new ≡ record old { disk = new.disk; memory = poisoned old.memory } → IsFault old.disk.faults new.disk.faults error
    → (honest → TookAway taken old.disk new.disk false) → old.disk.faults ≤ new.disk.faults → TakesAway honest old taken (Err error) new
take_failed honest old new taken (Io kind) same fault took later = (same, fault, took, later)
take_failed honest old new taken error same fault took later = absurd fault

-- all of it was done
pub merged_by : (honest : Type 0) (old mid after new : Held) (made : MergeMade) (taken : Vec (String Global) Global) → PutsMerge honest old made (Ok taken) mid → TakesAway honest mid taken.items (Ok tt) after
    → new ≡ record after { memory = with_merge_done after.memory } → Merges honest old made (Ok tt) new
merged_by honest old mid after new made taken put away counted = (taken, mid, after, put, away, counted)

-- the tables that it took stand still
pub kept_by : (honest : Type 0) (old mid new : Held) (made : MergeMade) (taken : Vec (String Global) Global) (error : Error) → PutsMerge honest old made (Ok taken) mid → TakesAway honest mid taken.items (Err error) new
    → Merges honest old made (Err error) new
kept_by honest old mid new made taken error put away = inr (taken, mid, put, away)
