-- A flush that begins in memory: what is shown stays, and so does what is known of homes where nothing waits to be synced.
use Rattle.std.proofs.Common.{◌≡◌, ℕ, ◌==◌, Bool, true, false, List, [], get_or, Some, refl, sym, ◌∙◌, ap, subst}
use Rattle.std.specs.Option.{option_map}
use Rattle.std.proofs.lemmas.Bool.{eqb-false, eqb-true}
use Rattle.fjall_base.specs.Store.{kept}
use Rattle.fjall_journal.specs.Batches.{Written}
use Rattle.fjall_tree.specs.Jobs.{flush_begun}
use Rattle.fjall_tree.specs.Trees.{Shape}
use Rattle.fjall_replay.specs.Known.{GoesOnFrom}
use Rattle.fjall_trees.specs.MapTables.{store_with}
use Rattle.fjall_trees.proofs.Alike.{changed_alike_store, flush_leaves}
use Rattle.fjall_meta.specs.declared.living.LivingKeyspace.{LivingKeyspace}
use Rattle.fjall_meta.specs.Keyspaces.{Keyspaces}
use Rattle.fjall_recovery.specs.Halves.{Tree}
use Rattle.fjall_recovery.specs.Homes.{stored_in}
use Rattle.fjall_recovery.specs.Places.{Journaling}
use Rattle.fjall_meta.specs.Contents.{clears_held, versions_held}
use Rattle.fjall_replay.specs.Beside.{ShowsWith}
use Rattle.fjall_machine.specs.Machine.{is_among}
use Rattle.fjall_machine.specs.Remembered.{flush_out_in_memory}
use Rattle.fjall_machine.proofs.SameTrees.{altered_tables}
use Rattle.fjall_table.specs.Blocks.{Entry}
use Rattle.fjall_table_reader.specs.Readers.{Reader}
use Rattle.fjall_manifest.specs.Records.{Fields}
use Rattle.fjall_trees.specs.Forests.{Forest, altered_at, tree_at}
use Rattle.fjall_trees.proofs.Others.{altered_here, altered_other}
use Rattle.fjall_engine.specs.Holding.{Held}
use Rattle.fjall_engine.specs.Durables.{Knows}
use Rattle.fjall_engine.specs.Standing.{LieAtHome}
use Rattle.fjall_engine.proofs.KnownBatches.{all_shown}
use Rattle.fjall_engine.proofs.KnownFlushes.{AreCovered, covered_begun}
use Rattle.fjall_engine.proofs.KnownHomes.{GoesOnToo, known_trees}
use Rattle.fjall_engine.proofs.TablesAtHome.{CarryTables}

-- ---- one tree

-- each tree is among the others still, and what holds of it holds still where a change of one tree keeps it
pub one_at : (id : ℕ) (change : Shape → Shape) (trees : Forest) (P : Shape → Type 0) → ((shape : Shape) → P shape → P (change shape)) → (other : ℕ) (shape : Shape)
    → tree_at other trees ≡ Some shape → P shape → (new : Shape) × (tree_at other (altered_at id change trees) ≡ Some new) × P new
one_at id change trees P keeps other shape at holds = by (id == other) refl
  where
    by : (is : Bool) → (id == other) ≡ is → (new : Shape) × (tree_at other (altered_at id change trees) ≡ Some new) × P new
    by true e = (
      change shape,
      subst (λ (k : ℕ). tree_at other (altered_at k change trees) ≡ Some (change shape)) (sym (eqb-true id other e))
          (altered_here other change trees ∙ ap (option_map change) at),
      keeps shape holds,
    )
    by false e = (shape, altered_other id other change trees (λ same. eqb-false id other e (sym same)) ∙ at, holds)

-- it shows the same, and goes on from the same records
begun_shows : (job watermark : ℕ) (entries : List (List Entry)) (clears : List ℕ) (versions : List Entry) (shape : Shape) → ShowsWith entries clears versions shape
    → ShowsWith entries clears versions (flush_begun job watermark shape)
begun_shows job watermark entries clears versions shape is = record { below = is.below; shows = is.shows }

begun_goes_on : (job watermark : ℕ) (last : Fields) (shape : Shape) → GoesOnFrom last shape → GoesOnFrom last (flush_begun job watermark shape)
begun_goes_on job watermark last shape on = record { tables = on.tables; clears = on.clears; beyond = on.beyond; some = on.some }

-- ---- all trees

-- they show the same store
pub begun_store : (entries : ℕ → List (List Entry)) (s : Keyspaces) (id job watermark : ℕ) (trees : Forest)
    → kept (store_with entries s trees) ≡ kept (store_with entries s (altered_at id (flush_begun job watermark) trees))
begun_store entries s id job watermark trees = ap kept (sym (changed_alike_store (flush_begun job watermark) (flush_leaves job watermark) id trees entries s))

-- and have the same tables
pub carry_begun : (id job watermark : ℕ) (trees : Forest) → CarryTables trees (altered_at id (flush_begun job watermark) trees)
carry_begun id job watermark trees disk s lie =
    altered_tables (λ (k : ℕ) (tables : List Reader). LieAtHome disk k (s.parts.records k).next_table_id (s.parts.entries k) (is_among s.damaged k) tables) trees lie id (flush_begun job watermark)
    (λ shape. refl)

-- what is known stays
pub begun_knows : (entries : ℕ → List (List Entry)) (core : Held) (id : ℕ) (j : Journaling) (t : Tree) → j.later ≡ [] → Knows core entries j t
    → Knows (record core { memory = flush_out_in_memory id core.memory }) entries j t
begun_knows entries core id j t none knows =
    let trees = core.memory.trees in
    let job = core.memory.next_job in
    let watermark = core.memory.tickets.watermark in
    record {
      shown = λ i d lt.
          let k : LivingKeyspace = get_or t.keyspaces.living i d in
          let one = knows.shown i d lt in
          let stored = stored_in t.homes t.versions k.id in
          let clears = clears_held t.keyspaces stored k.id (all_shown j) in
          let versions = versions_held t.keyspaces stored k.id (all_shown j) in
          one_at id (flush_begun job watermark) trees (ShowsWith (entries k.id) clears versions) (begun_shows job watermark (entries k.id) clears versions) k.id one.0 one.1 one.2;
      homes = known_trees core.memory.records trees (altered_at id (flush_begun job watermark) trees) entries t.homes t.versions t.keyspaces.living
          (λ other shape at. one_at id (flush_begun job watermark) trees (GoesOnToo shape) (λ s keeps last on. begun_goes_on job watermark last s (keeps last on)) other shape at (λ last on. on)) knows.homes;
      covered = subst (λ (l : List Written). AreCovered l (altered_at id (flush_begun job watermark) trees)) (sym none)
          (covered_begun id job watermark trees (subst (λ (l : List Written). AreCovered l trees) none knows.covered));
    }
