-- A core that looked at its disk, of whose tables others may be kept now: where it stands on, and what its tables tell of.
use Rattle.std.proofs.Common.{◌≡◌, ◌≤◌, ◌==◌, All, inl, inr, ℕ, Bool, true, false, if◌then◌else◌, unwrap_or, List, [], ◌∷◌, Some, refl, sym, ◌∙◌, ap, subst}
use Rattle.std.proofs.lemmas.Bool.{eqb-true}
use Rattle.std.proofs.lemmas.List.{append-nil}
use Rattle.std.proofs.lemmas.List.Elements.{All-head, All-tail}
use Rattle.fjall_base.specs.Disk as disk
use Rattle.fjall_base.specs.Disk.{IsImage, Meaning, Took, state_in}
use Rattle.fjall_base.specs.Store.{Command, Store, kept}
use Rattle.fjall_base.proofs.Moments as Moments
use Rattle.fjall_table_reader.specs.Readers.{Reader, SomeTableIsWrong}
use Rattle.fjall_changes.specs.Journaling.{IsWriting}
use Rattle.fjall_tree.specs.Puts.{bare_tree}
use Rattle.fjall_trees.specs.MapTables.{store_with}
use Rattle.fjall_trees.proofs.Alike.{same_store_with}
use Rattle.fjall_recovery.specs.Folders.{number_of_contents}
use Rattle.fjall_recovery.specs.Places.{LiesInTree, contents_with}
use Rattle.fjall_table.specs.Blocks.{Entry}
use Rattle.fjall_trees.specs.Forests.{Forest, Planted, tree_at}
use Rattle.fjall_trees.specs.Tables.{AreSameTrees, shape_in}
use Rattle.fjall_machine.specs.Machine.{State, is_among}
use Rattle.fjall_machine.specs.Remembered.{with_trees}
use Rattle.fjall_engine.specs.Holding.{Held}
use Rattle.fjall_engine.specs.Durables.{AreKnown, Durable, MakesPresent, StaysFinished}
use Rattle.fjall_engine.specs.Standing.{ReadsOn, StandsOn, store_with_tables, tables_of}
use Rattle.fjall_engine.proofs.CrashesInRuns.{passes_still}
use Rattle.fjall_engine.proofs.JournalWrites.{Leads, held_on, leads_on}
use Rattle.fjall_engine.proofs.KnownCores.{knows_looked}

-- ---- where it stands

along : (flag : Bool) (m n : Meaning) (base : Store) (pending : List Command) (a b : Store) → kept a ≡ kept b → MakesPresent flag (record { meaning = m; base = base; pending = pending }) a → MakesPresent flag (record { meaning = n; base = base; pending = pending }) b
along false m n base pending a b same is = is ∙ same
along true m n base pending a b same (inl is) = inl (is ∙ same)
along true m n base pending a b same (inr (front, last, all, is)) = inr (front, last, all, is ∙ same)

-- it stands on as before, and nothing was tried
pub looked_on : (entries : ℕ → List (List Entry)) (old new : Held) (d : Durable) → new ≡ record old { disk = new.disk; memory = with_trees new.memory.trees old.memory }
    → AreSameTrees old.memory.trees new.memory.trees → Took old.disk new.disk [] → StandsOn old entries d → Leads entries new d []
looked_on entries old new d held trees took = leads_on entries old new d [] (λ base pending on.
    let flag : new.memory.poisoned ≡ old.memory.poisoned = ap (λ (c : Held). c.memory.poisoned) held in
    let here = held_on old base pending in
    let there = held_on new base pending in
    let shown : kept (store_with_tables entries old) ≡ kept (store_with_tables entries new) =
    ap kept (sym (same_store_with entries old.memory.keyspaces old.memory.trees new.memory.trees trees))
    ∙ ap (λ k. kept (store_with entries k new.memory.trees)) (sym (ap (λ (c : Held). c.memory.keyspaces) held)) in
    let still : StandsOn new entries there = record {
      same = refl;
      rests = λ image is. on.rests image (subst (λ (st : disk.DiskState). IsImage st image) took.state is);
      finished = subst StaysFinished (sym took.state) on.finished;
      lies = λ well.
          let lies = on.lies (sym flag ∙ well) in
          record {
            journals = lies.journals;
            records = lies.records;
            tree = lies.tree;
            writing = subst (λ (w : _). IsWriting (state_in new.disk) w lies.journals) (sym (ap (λ (c : Held). c.journal) held)) (subst (λ (st : disk.DiskState). IsWriting st old.journal lies.journals) (sym took.state) lies.writing);
            in_tree = subst (λ (st : disk.DiskState). LiesInTree st lies.records lies.tree) (sym took.state) lies.in_tree;
            told = subst (AreKnown lies.journals) (sym (ap (λ (c : Held). c.memory.journals) held)) lies.told;
            last = lies.last ∙ sym (ap (λ (c : Held). c.catalog) held);
            keyspaces = lies.keyspaces ∙ sym (ap (λ (c : Held). c.memory.keyspaces) held);
            made = lies.made;
            waits = lies.waits;
            next = subst (λ (n : ℕ). number_of_contents (contents_with lies.journals lies.tree lies.journals.later) ≤ n) (sym (ap (λ (c : Held). c.memory.next) held)) lies.next;
          };
      knows = λ well.
          let lies = on.lies (sym flag ∙ well) in
          knows_looked entries old new lies.journals lies.tree (ap (λ (c : Held). c.memory.records) held) trees (on.knows (sym flag ∙ well));
      present = along new.memory.poisoned old.disk new.disk base pending (store_with_tables entries old) (store_with_tables entries new) shown (subst (λ b. MakesPresent b here (store_with_tables entries old)) (sym flag) on.present);
    } in
    let passes = passes_still here on.rests in (
      there,
      still,
      record { leaves = Moments.stays old.disk old.disk new.disk _ passes.leaves took; safe = []; base = refl; rest = sym (append-nil pending); rests = still.rests },
    ))

-- ---- what its tables tell of

-- what is so of no tables, and of those of each tree, is so of those of an id
in_trees : (P : ℕ → List Reader → Type 0) (id : ℕ) (trees : Forest) → P id [] → All (λ k. P k.id k.shape.tables) trees → P id (shape_in id trees).tables
in_trees P id [] none all = none
in_trees P id (k ∷ trees) none all = by (k.id == id) (eqb-true k.id id) (All-head (λ (x : Planted). P x.id x.shape.tables) k trees all) (in_trees P id trees none (All-tail (λ (x : Planted). P x.id x.shape.tables) k trees all))
  where
    by : (b : Bool) → (b ≡ true → k.id ≡ id) → P k.id k.shape.tables → P id (shape_in id trees).tables → P id (unwrap_or (if b then Some k.shape else tree_at id trees) (bare_tree 0)).tables
    by true same here rest = subst (λ n. P n k.shape.tables) (same refl) here
    by false same here rest = rest

-- where a table of a keyspace is wrong, the keyspace is damaged
pub damaged_there : (core : Held) (s : State) (id : ℕ) → ReadsOn core s → SomeTableIsWrong core.disk (tables_of core id) → is_among s.damaged id ≡ true
damaged_there core s id reads =
    in_trees (λ n tables. SomeTableIsWrong core.disk tables → is_among s.damaged n ≡ true) id core.memory.trees (λ (at, t, has, wrong). let bad : ⊥ = cc in absurd bad) (λ i d lt. (reads.tables i d lt).damage)
