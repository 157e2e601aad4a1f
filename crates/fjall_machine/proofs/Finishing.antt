-- A flush that is finished, on the disk and in memory.
use Rattle.std.proofs.Common.{◌≡◌, ℕ, ◌-◌, ◌==◌, true, List, take, Option, Some, None, unwrap_or, sym, ap, subst, ◌∙◌}
use Rattle.std.proofs.Math.Logic.{∥∥₁_elim}
use Rattle.std.proofs.lemmas.Bool.{true≢false}
use Rattle.std.specs.Coded.{Coded-set, coded_list, coded_ℕ}
use Rattle.std.specs.FinMap.{get}
use Rattle.std.specs.Option.{is_some}
use Rattle.fjall_base.specs.Disk.{Meaning}
use Rattle.fjall_base.specs.declared.error.Error.{Error}
use Rattle.fjall_base.specs.declared.error.Error.TheVariants.{Io}
use Rattle.fjall_table_reader.specs.Readers.{Reader}
use Rattle.fjall_manifest.specs.Catalog.{fields, first_of}
use Rattle.fjall_compaction.specs.declared.flush.plan.FlushPlan.{FlushPlan}
use Rattle.fjall_compaction.specs.Flushes.{Flush, Follows, flush_of, record_after_flush, tree_after}
use Rattle.fjall_compaction.specs.FlushPlans.{ForFlushOn, IsFlushPlan, IsFlushPlanRefusal}
use Rattle.fjall_manifest.specs.Homes.{Home}
use Rattle.fjall_jobs.specs.declared.flush_made.FlushMade.{FlushMade}
use Rattle.fjall_jobs.specs.Made.{flush_clears, flush_tables, flushed_task}
use Rattle.fjall_jobs.proofs.Made.{was_flushed}
use Rattle.fjall_replay.specs.Known.{last_known}
use Rattle.fjall_tree.specs.Jobs.{IsFlushing, flush_end}
use Rattle.fjall_tree.specs.Trees.{Flushing, Shape}
use Rattle.fjall_trees.specs.Maps.{store_of}
use Rattle.fjall_meta.specs.declared.living.LivingKeyspace.{LivingKeyspace}
use Rattle.fjall_meta.specs.Keyspaces.{keyspace_at}
use Rattle.fjall_memtable.specs.Parts.{clears_in}
use Rattle.fjall_recovery.specs.Halves.{Tree}
use Rattle.fjall_manifest.specs.Records.{Fields}
use Rattle.fjall_trees.specs.Tables.{shape_in}
use Rattle.fjall_meta.proofs.Found.{found_has, found_passes}
use Rattle.fjall_meta.proofs.Slots.{same_id}
use Rattle.fjall_machine.specs.Finishing.{AreReadersOf, ForFinishing, IsFinishRefusal, IsFlushFinished, keyspace_of}
use Rattle.fjall_machine.specs.Machine.{flush_with, is_living}
use Rattle.fjall_machine.specs.Remembered.{IsLawful, Remembered, with_flush}
use Rattle.fjall_machine.proofs.Facts.{living_names, some_there}

-- ---- the record that is kept

-- a keyspace that lives has one
pub record_kept : (m : Remembered) → IsLawful m → (id : ℕ) → is_living (store_of m.keyspaces m.trees) id ≡ true → is_some (get m.records id) ≡ true
record_kept m is id lives =
    let there = some_there (keyspace_at id m.keyspaces.living) (sym (living_names m.keyspaces m.trees id) ∙ lives) in
    let k = there.0 in
    subst (λ (i : ℕ). is_some (get m.records i) ≡ true) (same_id k.id id (found_passes (λ j. j.id == id) m.keyspaces.living k there.1))
    (found_has (λ j. j.id == id) (λ j. is_some (get m.records j.id) ≡ true) m.keyspaces.living k there.1 is.recorded)

pub none_missing : (m : Remembered) → IsLawful m → (id : ℕ) → is_living (store_of m.keyspaces m.trees) id ≡ true → None ≡ get m.records id → ⊥
none_missing m is id lives none = true≢false (sym (record_kept m is id lives) ∙ ap (λ (o : Option Fields). is_some o) (sym none))

-- ---- what is known of it

-- Its keyspace has this last record, its number ends where the memtables begin that stay, and it is out.
pub record MayFinish (m : Remembered) (made : FlushMade) (last : Fields) (number : ℕ) : Type 0 where
  pub known : Some last ≡ get m.records (keyspace_of made)
  pub ends : number ≡ flush_end (shape_in (keyspace_of made) m.trees) - 1
  pub out : IsFlushing (shape_in (keyspace_of made) m.trees) (flushed_task made)

pub may_finish : (a m : Remembered) (made : FlushMade) (last : Fields) (id end number : ℕ) → a ≡ m → id ≡ keyspace_of made → Some last ≡ get a.records id → end ≡ flush_end (shape_in id a.trees) → number ≡ end - 1
    → IsFlushing (shape_in (keyspace_of made) m.trees) (flushed_task made) → MayFinish m made last number
may_finish a m made last id end number same at known ends is out = record {
  known = known ∙ (λ i. get (same i).records (at i));
  ends = is ∙ ap (λ (n : ℕ). n - 1) (ends ∙ (λ i. flush_end (shape_in (at i) (same i).trees)));
  out = out;
}

-- the clears of what was made are those of its task
pub made_clears : (made : FlushMade) → flush_clears made ≡ (flushed_task made).clears
made_clears made = ∥∥₁_elim (was_flushed made) (Coded-set (coded_list coded_ℕ) (flush_clears made) (flushed_task made).clears) (λ is. is.clears_are)

some_same : {X : Type 0} (x y : X) (o : Option X) → o ≡ Some x → o ≡ Some y → x ≡ y
some_same x y o one two = let both : Some x ≡ Some y = sym one ∙ two in cc

module _ (m : Remembered) (made : FlushMade) (last : Fields) (number : ℕ) (may : MayFinish m made last number) where
  abbrev id : ℕ
  id = keyspace_of made

  abbrev tree : Shape
  tree = shape_in id m.trees

  pub last_is : (k : LivingKeyspace) → keyspace_at id m.keyspaces.living ≡ Some k → last ≡ last_known m.records k
  last_is k at =
      let same = same_id k.id id (found_passes (λ j. j.id == id) m.keyspaces.living k at) in
      ap (λ (o : Option Fields). unwrap_or o (fields (first_of k.number))) (may.known ∙ ap (get m.records) (sym same))

  pub flush_is : (out : Flushing) → tree.flush ≡ Some out → flush_of number made ≡ flush_with tree out (flush_tables made)
  flush_is out was =
      let same : may.out.out ≡ out = some_same may.out.out out tree.flush may.out.is was in
      let clears = made_clears made ∙ may.out.clears ∙ ap (λ (o : Flushing). clears_in (take o.count tree.memory.sealed)) same in
      λ i. record { number = may.ends i; tables = flush_tables made; clears = clears i }

  -- ---- refusals

  refused_as : (f : Flush) (before after : ℕ) (error : Error) → IsFlushPlanRefusal last f error → IsFinishRefusal last f before after error
  refused_as f before after (Io kind) is = absurd is
  refused_as f before after error is = is

  pub refused : (k : LivingKeyspace) (out : Flushing) → keyspace_at id m.keyspaces.living ≡ Some k → tree.flush ≡ Some out → (before after : ℕ) (error : Error) → IsFlushPlanRefusal last (flush_of number made) error
      → IsFinishRefusal (last_known m.records k) (flush_with tree out (flush_tables made)) before after error
  refused k out at was before after error is =
      subst (λ (f : Flush). IsFinishRefusal (last_known m.records k) f before after error) (flush_is out was)
      (subst (λ (l : Fields). IsFinishRefusal l (flush_of number made) before after error) (last_is k at) (refused_as (flush_of number made) before after error is))

  -- ---- the disk

  -- what is so of a flush as it was planned
  pub on_disk : (disk : Meaning) (plan : FlushPlan) → IsFlushPlan id last (flush_of number made) plan → (Holds : ℕ → List Fields → Tree → Home → Tree → Type 0)
      → ForFlushOn disk plan made (λ records t other h next. Holds other records t h next) → ForFinishing disk m made Holds
  on_disk disk plan planned Holds so k out at was records t h versions lists lies has same follows =
      let f = flush_is out was in
      subst (λ (g : Flush). Holds id records t h (tree_after id g lists h versions t)) f
      (so records t id number h versions lists lies has (subst (λ (l : Fields). IsFlushPlan id l (flush_of number made) plan) (last_is k at ∙ sym same) planned)
      (subst (λ (g : Flush). Follows g lists h.last) (sym f) follows))

  -- ---- memory

  pub finished : (k : LivingKeyspace) (out : Flushing) → keyspace_at id m.keyspaces.living ≡ Some k → tree.flush ≡ Some out → (a new : Remembered) (readers : List Reader) (written : Fields) → a ≡ m
      → AreReadersOf id last.next_table_id (flush_tables made) readers → written ≡ record_after_flush (flush_of number made) last → new ≡ with_flush id out readers written a
      → IsFlushFinished m id (last_known m.records k) out (flush_tables made) new
  finished k out at was a new readers written same are says is = record {
    readers = readers;
    are = subst (λ (l : Fields). AreReadersOf id l.next_table_id (flush_tables made) readers) (last_is k at) are;
    is = is ∙ (λ i. with_flush id out readers ((says ∙ (λ j. record_after_flush (flush_is out was j) (last_is k at j))) i) (same i));
  }
