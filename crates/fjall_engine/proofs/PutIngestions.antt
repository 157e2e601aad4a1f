-- What came of the parts of an ingestion, one behind the other.
use Rattle.std.proofs.Common.{◌≡◌, inr, ℕ, ◌+◌, ◌<◌, ◌≤◌, ◌^◌, true, List, [], length, vec_capacity, Result, Ok, Err, sym, ◌∙◌, ap, subst}
use Rattle.std.specs.FinMap.{contains_key}
use Rattle.fjall_base.specs.declared.error.Error.{Error}
use Rattle.fjall_compaction.specs.declared.ingestion.whole.PlannedIngestion.{PlannedIngestion}
use Rattle.fjall_tree.specs.Trees.{clears_of}
use Rattle.fjall_machine.specs.Ingesting.{IsPlanned}
use Rattle.fjall_machine.specs.Remembered.{Remembered}
use Rattle.fjall_manifest.specs.Records.{Fields}
use Rattle.fjall_trees.specs.Tables.{shape_in}
use Rattle.fjall_reading.specs.Ingestions.{KeyOp}
use Rattle.fjall_engine.specs.Holding.{Held}
use Rattle.fjall_engine.specs.CallParts.{PutsIngestion, SettlesIngestion, SyncedAll, SyncsAll, WritesIngestion}
use Rattle.fjall_engine.proofs.IngestionSyncs.{memory_synced}

-- What memory has to have for an ingestion that is on the disk: a record of its keyspace, a number, and the clears and tables that it
-- was planned for.
pub record MaySettle (m : Remembered) (p : PlannedIngestion) : Type 0 where
  pub kept : contains_key m.records p.id ≡ true
  pub numbered : m.next < 2 ^ 63
  pub clears : p.clears.items ≡ clears_of (shape_in p.id m.trees)
  pub empty : p.room.items ≡ []
  pub room : length (shape_in p.id m.trees).tables + length p.readers.items ≤ vec_capacity p.room

-- so it has behind the sync and the writing, where it had it before
pub may_settle : (honest : Type 0) (old synced mid : Held) (p : PlannedIngestion) (id : ℕ) (items : List KeyOp) (last : Fields) → SyncedAll old synced → WritesIngestion honest synced p (Ok tt) mid
    → contains_key old.memory.records p.id ≡ true → old.memory.next < 2 ^ 63 → IsPlanned old.memory id items last p → MaySettle mid.memory p
may_settle honest old synced mid p id items last at writes kept numbered planned =
    let clears = subst (λ (i : ℕ). p.clears.items ≡ clears_of (shape_in i old.memory.trees)) (sym planned.keyspace) planned.clears in
    let room = subst (λ (i : ℕ). length (shape_in i old.memory.trees).tables + length p.readers.items ≤ vec_capacity p.room) (sym planned.keyspace) planned.room in
    subst (λ (m : Remembered). MaySettle m p) (sym (ap (λ (h : Held). h.memory) writes.0 ∙ at.memory_is))
    (memory_synced (λ (m : Remembered). MaySettle m p) old
    (record { kept = kept; numbered = numbered; clears = clears; empty = planned.empty; room = room })
    (record { kept = kept; numbered = numbered; clears = clears; empty = planned.empty; room = room }))

-- all was done but the last part, which came to this
pub put_by : (honest : Type 0) (old synced mid new : Held) (p : PlannedIngestion) (result : Result Unit Error) → SyncsAll honest old (Ok tt) synced → WritesIngestion honest synced p (Ok tt) mid
    → SettlesIngestion honest mid p result new → PutsIngestion honest old p result new
put_by honest old synced mid new p (Ok _) syncs writes settles = (synced, mid, syncs, writes, settles)
put_by honest old synced mid new p (Err error) syncs writes settles = inr (inr (synced, mid, syncs, writes, settles))
