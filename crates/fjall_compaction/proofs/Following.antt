-- An ingestion behind a flush of all that memory had of its keyspace.
use Rattle.std.proofs.Common.{◌≡◌, ℕ, ◌<◌, ◌≤◌, ◌^◌, cond, List, [], ◌++◌, map, None, Some, true, ◌∙◌, ap, arith, subst}
use Rattle.std.specs.FinMap.{FinMap, get, insert}
use Rattle.std.specs.Ordering.{nat_cmp}
use Rattle.fjall_compaction.specs.Covering.{MayCount, ShowsBatches}
use Rattle.fjall_compaction.specs.Flushes.{Flush, Follows, home_after, tree_after}
use Rattle.fjall_compaction.proofs.FlushAfterHomes.{have_versions}
use Rattle.fjall_compaction.proofs.SameNumber.{between_numbers}
use Rattle.fjall_compaction.proofs.FlushSameStore as SameStore
use Rattle.fjall_manifest.specs.Homes.{Home}
use Rattle.fjall_journal.specs.Batches.{shown}
use Rattle.fjall_recovery.specs.Folders.{number_of_contents}
use Rattle.fjall_recovery.specs.Halves.{Tree}
use Rattle.fjall_recovery.specs.Homes.{stored_of}
use Rattle.fjall_recovery.specs.Journals.{batches_in}
use Rattle.fjall_recovery.specs.Places.{Journaling, contents_with, journals_with}
use Rattle.fjall_memtable.specs.Sorted.{flat}
use Rattle.fjall_table.specs.Blocks.{Entry}
use Rattle.fjall_meta.specs.Replays.{counts, first_fault}
use Rattle.fjall_meta.proofs.Slots.{get_put}
use Rattle.fjall_compaction.specs.Commands.{MayIngestSynced}
use Rattle.fjall_compaction.proofs.Silence.{itself}

-- what is put somewhere is there
pub there : {X : Type 0} (m : FinMap nat_cmp X) (id : ℕ) (x : X) → get (insert m id x) id ≡ Some x
there {X} m id x = get_put m id x id ∙ ap (λ b. cond b (Some x) (get m id)) (itself id)

module _ (j : Journaling) (t : Tree) (id : ℕ) (f : Flush) (lists : List (List Entry)) (h : Home) (versions : List Entry) (may : MayCount j t id f lists h versions) where
  -- nothing is left in memory
  nothing_left : may.rest_clears ≡ [] → may.rest ≡ []
      → ShowsBatches t.keyspaces (stored_of (home_after f h) (versions ++ flat lists)) id (map shown (batches_in (journals_with j j.later))) [] []
  nothing_left clears none =
      subst (λ (l : List Entry). ShowsBatches t.keyspaces (stored_of (home_after f h) (versions ++ flat lists)) id (map shown (batches_in (journals_with j j.later))) [] l) none
      (subst (λ (l : List ℕ). ShowsBatches t.keyspaces (stored_of (home_after f h) (versions ++ flat lists)) id (map shown (batches_in (journals_with j j.later))) l may.rest) clears
      (SameStore.same_memory j t id f lists h versions may))

  pub may_follow : (number : ℕ) → Follows f lists h.last → may.rest_clears ≡ [] → may.rest ≡ [] → j.later ≡ []
      → first_fault 0 (map shown (batches_in (journals_with j j.later))) ≡ None → counts t.keyspaces number id ≡ true → number < 2 ^ 63 → f.number < number → number_of_contents (contents_with j t j.later) ≤ number
      → MayIngestSynced j (tree_after id f lists h versions t) id number (home_after f h) (versions ++ flat lists)
  may_follow number follows clears none synced sound lives small later above = record {
    come = record {
      at = record { home = there t.homes id (home_after f h); stored = there t.versions id (versions ++ flat lists) };
      have = have_versions t id f lists h versions may.at follows may.have;
      lives = lives;
      small = small;
      above = let most = between_numbers j t id f lists h versions may j.later in omega (arith, most, later, above);
      sound = sound;
    };
    synced = synced;
    memory = nothing_left clears none;
  }
