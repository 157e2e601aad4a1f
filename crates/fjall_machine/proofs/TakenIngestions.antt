-- What memory takes of an ingestion, one part after another, leaves it lawful.
use Rattle.std.proofs.Common.{◌≡◌, ℕ, zero, suc, unwrap_or, ◌==◌, ◌<◌, ◌≤◌, ◌^◌, true, List, Option, None, Some, refl, sym, ap, ◌∙◌, arith}
use Rattle.std.proofs.lemmas.Bool.{true≢false}
use Rattle.std.proofs.lemmas.List.Elements.{All-weaker}
use Rattle.std.specs.FinMap.{contains_key, get, insert}
use Rattle.std.specs.Option.{is_some}
use Rattle.fjall_table_reader.specs.Readers.{Reader}
use Rattle.fjall_manifest.specs.Catalog.{fields, first_of}
use Rattle.fjall_replay.specs.Known.{last_known}
use Rattle.fjall_tree.specs.Ingestions.{ingested}
use Rattle.fjall_tree.specs.Puts.{bare_tree}
use Rattle.fjall_tree.specs.Trees.{Shape}
use Rattle.fjall_trees.specs.Maps.{store_of}
use Rattle.fjall_trees.proofs.Changed.{altered_some}
use Rattle.fjall_trees.proofs.IngestedMaps.{ingested_before, ingested_forest}
use Rattle.fjall_meta.specs.declared.living.LivingKeyspace.{LivingKeyspace}
use Rattle.fjall_meta.specs.Keyspaces.{keyspace_at}
use Rattle.fjall_manifest.specs.Records.{Fields}
use Rattle.fjall_trees.specs.Forests.{AreBefore, Forest, tree_at}
use Rattle.fjall_trees.specs.Tables.{shape_in}
use Rattle.fjall_trees.proofs.Changing.{tree_under}
use Rattle.fjall_meta.proofs.Found.{found_passes}
use Rattle.fjall_meta.proofs.Slots.{same_id}
use Rattle.fjall_machine.specs.Ingesting.{with_record, with_tables}
use Rattle.fjall_machine.specs.Machine.{is_living}
use Rattle.fjall_machine.specs.Remembered.{IsLawful, IsMergeBegun, Remembered}
use Rattle.fjall_machine.proofs.Facts.{living_names}
use Rattle.fjall_machine.proofs.Flushing.{ids_stay, still_planted}
use Rattle.fjall_machine.proofs.Ingesting.{begun_still}
use Rattle.fjall_machine.proofs.Lawful.{clear_is_lawful, other_kept, still_kept, tree_there}
use Rattle.fjall_machine.proofs.SameTrees.{altered_merges}

-- another record of a keyspace of which one is kept
pub record_is_lawful : (id : ℕ) (last : Fields) (m : Remembered) → IsLawful m → contains_key m.records id ≡ true → IsLawful (with_record id last m)
record_is_lawful id last m is there = record {
  keyspaces = is.keyspaces;
  made = is.made;
  forest = is.forest;
  planted = is.planted;
  given = is.given;
  below = is.below;
  small = is.small;
  reached = is.reached;
  spared = is.spared;
  above = is.above;
  recorded = All-weaker (λ (j : LivingKeyspace). is_some (get m.records j.id) ≡ true) (λ j. is_some (get (insert m.records id last) j.id) ≡ true) (λ j h. still_kept m.records id last j.id h) m.keyspaces.living is.recorded;
  kept = λ other le.
      let none = is.kept other le in
      other_kept m.records id last other (λ same. true≢false (sym there ∙ ap (λ (k : ℕ). is_some (get m.records k)) (sym same) ∙ ap (λ (o : Option Fields). is_some o) none)) ∙ none;
  begun = is.begun;
  merging = is.merging;
  jobs = is.jobs;
}

-- the tables and the number
pub tables_are_lawful : (id : ℕ) (readers : List Reader) (m : Remembered) → IsLawful m → m.next < 2 ^ 63 → IsLawful (with_tables id readers m)
tables_are_lawful id readers m is small =
    let later = clear_is_lawful id m is small in
    record {
      keyspaces = is.keyspaces;
      made = later.made;
      forest = ingested_forest m.next readers id m.trees small is.forest is.below;
      planted = still_planted m (with_tables id readers m).trees (λ other. altered_some id (ingested m.next readers) other m.trees) is.planted;
      given = ids_stay m.keyspaces.next id (ingested m.next readers) m.trees is.given;
      below = ingested_before m.next readers id m.trees is.below;
      small = later.small;
      reached = later.reached;
      spared = later.spared;
      above = is.above;
      recorded = is.recorded;
      kept = is.kept;
      begun = begun_still m.next_job m.tickets.watermark id m.next readers m.trees is.begun;
      merging = altered_merges (IsMergeBegun m.next_job m.tickets.watermark) m.trees is.merging id (ingested m.next readers) (λ shape. refl);
      jobs = is.jobs;
    }

-- memory ends at the next number, or before
pub ends_before : (id next : ℕ) (trees : Forest) → AreBefore next trees → (shape_in id trees).memory.active.until ≤ next
ends_before id next trees before = by (tree_at id trees) refl
  where
    Ends : Option Shape → Type 0
    Ends o = (unwrap_or o (bare_tree 0)).memory.active.until ≤ next

    by : (o : Option Shape) → tree_at id trees ≡ o → Ends o
    by None none = omega arith
    by (Some shape) has = tree_under (λ k. k.shape.memory.active.until ≤ next) trees id shape before has

-- ---- what is looked up for a plan

module _ (m : Remembered) (is : IsLawful m) (id : ℕ) where
  -- a keyspace that lives has a tree
  pub no_tree : is_living (store_of m.keyspaces m.trees) id ≡ true → None ≡ tree_at id m.trees → ⊥
  no_tree lives none =
      let there = tree_there m.keyspaces m.trees is.planted id (sym (living_names m.keyspaces m.trees id) ∙ lives) in
      true≢false (sym there ∙ ap (λ (o : Option Shape). is_some o) (sym none))

  -- the watermark is low
  pub low : m.tickets.watermark < 2 ^ 63
  low = by m.tickets.watermark is.spared
    where
      by : (watermark : ℕ) → (0 < watermark → watermark < m.next) → watermark < 2 ^ 63
      by zero spared = omega arith
      by (suc w) spared = let most = is.small in let under = spared (omega arith) in omega (arith, most, under)

  pub shape_found : (shape : Shape) → Some shape ≡ tree_at id m.trees → shape ≡ shape_in id m.trees
  shape_found shape found = ap (λ (o : Option Shape). unwrap_or o (bare_tree 0)) found

  pub last_found : (last : Fields) → Some last ≡ get m.records id → (k : LivingKeyspace) → keyspace_at id m.keyspaces.living ≡ Some k → last ≡ last_known m.records k
  last_found last found k at =
      let same = same_id k.id id (found_passes (λ j. j.id == id) m.keyspaces.living k at) in
      ap (λ (o : Option Fields). unwrap_or o (fields (first_of k.number))) (found ∙ ap (get m.records) (sym same))
