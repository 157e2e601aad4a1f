-- Trees of which a merge is out, or is out no more: what is shown stays, and so does what is known of homes, and which tables they have.
use Rattle.std.proofs.Common.{◌≡◌, ℕ, List, get_or, refl, sym, ap, subst}
use Rattle.fjall_base.specs.Store.{kept}
use Rattle.fjall_meta.specs.Contents.{clears_held, versions_held}
use Rattle.fjall_journal.specs.Batches.{Written}
use Rattle.fjall_replay.specs.Known.{GoesOnFrom}
use Rattle.fjall_tree.specs.Trees.{Shape}
use Rattle.fjall_trees.proofs.Alike.{changed_alike_store}
use Rattle.fjall_meta.specs.declared.living.LivingKeyspace.{LivingKeyspace}
use Rattle.fjall_recovery.specs.Halves.{Tree}
use Rattle.fjall_recovery.specs.Homes.{stored_in}
use Rattle.fjall_recovery.specs.Places.{Journaling}
use Rattle.fjall_replay.specs.Beside.{ShowsWith}
use Rattle.fjall_machine.proofs.SameTrees.{altered_tables}
use Rattle.fjall_table.specs.Blocks.{Entry}
use Rattle.fjall_trees.specs.Forests.{Forest, altered_at}
use Rattle.fjall_engine.specs.Durables.{CoversSynced, Knows}
use Rattle.fjall_engine.specs.Holding.{Held}
use Rattle.fjall_engine.proofs.BegunFlushes.{one_at}
use Rattle.fjall_engine.proofs.KeyspaceCalls.{Recounts}
use Rattle.fjall_engine.proofs.KnownBatches.{all_shown}
use Rattle.fjall_engine.proofs.KnownFlushes.{covered_altered}
use Rattle.fjall_engine.proofs.KnownHomes.{GoesOnToo, known_trees}
use Rattle.fjall_engine.proofs.TablesAtHome.{CarryTables, Lies}

-- a change of nothing but the merge that is out
abbrev pub ChangesMerge : (Shape → Shape) → Type 0
ChangesMerge change = (shape : Shape) → change shape ≡ record shape { merge = (change shape).merge }

module _ (change : Shape → Shape) (only : ChangesMerge change) (id : ℕ) where
  -- ---- one tree

  shows_on : (entries : List (List Entry)) (clears : List ℕ) (versions : List Entry) (shape : Shape) → ShowsWith entries clears versions shape → ShowsWith entries clears versions (change shape)
  shows_on entries clears versions shape is = subst (ShowsWith entries clears versions) (sym (only shape)) (record { below = is.below; shows = is.shows })

  goes_on : (shape : Shape) → GoesOnToo shape (change shape)
  goes_on shape last on = subst (GoesOnFrom last) (sym (only shape)) (record { tables = on.tables; clears = on.clears; beyond = on.beyond; some = on.some })

  covers_on : (later : List Written) (i : ℕ) (shape : Shape) → CoversSynced later (record { id = i; shape = shape }) → CoversSynced later (record { id = i; shape = change shape })
  covers_on later i shape covers = subst (λ (x : Shape). CoversSynced later (record { id = i; shape = x })) (sym (only shape)) (λ out is. covers out is)

  -- ---- all trees

  pub carry_merge : (trees : Forest) → CarryTables trees (altered_at id change trees)
  carry_merge trees disk s lie = altered_tables (Lies disk s) trees lie id change (λ shape. ap (λ (x : Shape). x.tables) (only shape))

  -- ---- a core with trees that changed so, and with whatever number the next job gets

  abbrev pub merge_changed : Held → ℕ → Held
  merge_changed core n = record core { memory = record core.memory { trees = altered_at id change core.memory.trees; next_job = n } }

  merge_knows : (entries : ℕ → List (List Entry)) (core : Held) (n : ℕ) (j : Journaling) (t : Tree) → Knows core entries j t → Knows (merge_changed core n) entries j t
  merge_knows entries core n j t knows =
      let trees = core.memory.trees in
      record {
        shown = λ i d lt.
            let k : LivingKeyspace = get_or t.keyspaces.living i d in
            let one = knows.shown i d lt in
            let stored = stored_in t.homes t.versions k.id in
            let clears = clears_held t.keyspaces stored k.id (all_shown j) in
            let versions = versions_held t.keyspaces stored k.id (all_shown j) in
            one_at id change trees (ShowsWith (entries k.id) clears versions) (shows_on (entries k.id) clears versions) k.id one.0 one.1 one.2;
        homes = known_trees core.memory.records trees (altered_at id change trees) entries t.homes t.versions t.keyspaces.living
            (λ other shape at. one_at id change trees (GoesOnToo shape) (λ s keeps last on. goes_on s last (keeps last on)) other shape at (λ last on. on)) knows.homes;
        covered = covered_altered j.later id change (covers_on j.later) trees knows.covered;
      }

  pub merge_recounts : (entries : ℕ → List (List Entry)) (core : Held) (n : ℕ) → Recounts entries core (merge_changed core n)
  merge_recounts entries core n = record {
    keyspaces = refl;
    next = refl;
    poisoned = refl;
    store = ap kept (sym (changed_alike_store change (λ shape. (ap (λ (x : Shape). x.clears) (only shape), ap (λ (x : Shape). x.memory) (only shape))) id core.memory.trees entries core.memory.keyspaces));
    catalog = refl;
    journal = refl;
    journals = refl;
    known = λ j t same. merge_knows entries core n j t;
  }
