-- What merges make of what is held stands for what they make of states.
use Rattle.std.proofs.Common.{◌≡◌, ℕ, zero, suc, ◌+◌, ◌-◌, ◌<◌, ◌≤◌, ◌^◌, ◌==◌, ◌++◌, Bool, true, false, cond, List, [], length, map, take, drop, All, Option, Some, unwrap_or, refl, sym, ap, subst, ◌∙◌, arith}
use Rattle.std.proofs.lemmas.List.Elements.{All-weaker}
use Rattle.std.specs.FinMap.{get, insert}
use Rattle.fjall_base.specs.Store.{kept}
use Rattle.fjall_table_reader.specs.Readers.{Reader}
use Rattle.fjall_manifest.specs.Catalog.{fields, first_of}
use Rattle.fjall_jobs.specs.declared.made_table.MadeTable.{MadeTable}
use Rattle.fjall_jobs.specs.Merges.{IsMerged}
use Rattle.fjall_jobs.specs.Tasks.{Task}
use Rattle.fjall_journal.specs.Writer.{counted}
use Rattle.fjall_replay.specs.Known.{last_known}
use Rattle.fjall_tree.specs.Jobs.{IsMerging, merge_begun, merge_dropped, merge_finished}
use Rattle.fjall_tree.specs.Trees.{IsSameShape, Merging}
use Rattle.fjall_trees.proofs.Alike.{changed_alike_older, changed_alike_pairs, changed_alike_store, merge_leaves}
use Rattle.fjall_trees.proofs.Finished.{merged_store, merged_with}
use Rattle.fjall_compaction.specs.MergeFinishing as counting
use Rattle.fjall_compaction.specs.Merges.{merged_infos, record_after_merge}
use Rattle.fjall_meta.specs.declared.living.LivingKeyspace.{LivingKeyspace}
use Rattle.fjall_meta.specs.Keyspaces.{keyspace_at}
use Rattle.fjall_memtable.specs.Sorted.{flat}
use Rattle.fjall_table.specs.Blocks.{Entry}
use Rattle.fjall_manifest.specs.Records.{Fields}
use Rattle.fjall_trees.specs.Forests.{Forest, Planted, altered_at}
use Rattle.fjall_trees.specs.Tables.{AreSameTrees, shape_in}
use Rattle.fjall_trees.proofs.Changing.{tree_under}
use Rattle.fjall_trees.proofs.Outstanding.{merging_tree}
use Rattle.fjall_meta.proofs.Slots.{get_put}
use Rattle.fjall_memtable.specs.Jobs.{Same}
use Rattle.fjall_memtable.specs.Jobs as jobs
use Rattle.fjall_machine.specs.Machine as machine
use Rattle.fjall_machine.specs.Machine.{Merged, MergesIn, Parts, State, merge_task_of, options_in, present, target_size}
use Rattle.fjall_machine.specs.Remembered.{IsMergeBegun, MemoryStandsFor, Remembered, merge_gone_in_memory, merge_out_in_memory, with_merge, with_merge_done, with_trees}
use Rattle.fjall_machine.proofs.Flushing.{above_begun, id_given, known_record}
use Rattle.fjall_machine.proofs.Lawful.{others, read_above}
use Rattle.fjall_machine.proofs.MergedTables.{begun_same, merged_none, merged_older, merged_same}
use Rattle.fjall_machine.proofs.MergesLawful.{dropped_leaves, merge_done_is_lawful, merge_gone_is_lawful, merge_out_is_lawful, merged_is_lawful}
use Rattle.fjall_machine.proofs.SameTrees.{altered_tables, same_altered, same_altered_by, same_in}
use Rattle.fjall_machine.proofs.Standing.{a_read_stands}

-- ---- a merge that is begun, or forgotten, or counted

pub begun_stands : (m : Remembered) (table : ℕ) (s : State) → MemoryStandsFor m table s → (id : ℕ) → m.next_job < 2 ^ 64 - 1 → MemoryStandsFor (merge_out_in_memory id m) table (machine.merge_out s id)
begun_stands m table s stands id small =
    let change = merge_begun m.next_job m.tickets.watermark in
    let leaves = merge_leaves m.next_job m.tickets.watermark in
    record {
      present = stands.present ∙ ap kept (sym (changed_alike_store change leaves id m.trees s.parts.entries m.keyspaces));
      views = λ instant at other held. stands.views instant at other held ∙ sym (changed_alike_pairs change leaves id m.trees s.parts.entries other instant);
      number = stands.number;
      poisoned = stands.poisoned;
      handles = stands.handles;
      lasting = stands.lasting;
      tickets = stands.tickets;
      next_job = ap (λ n. n + 1) stands.next_job;
      merges_done = stands.merges_done;
      records = stands.records;
      next_table = stands.next_table;
      trees = subst (λ (at : ℕ × ℕ). AreSameTrees (altered_at id (merge_begun at.0 at.1) s.parts.trees) (altered_at id change m.trees)) (sym (λ i. (stands.next_job i, (stands.tickets i).watermark)))
          (same_altered_by id change (begun_same m.next_job m.tickets.watermark) s.parts.trees m.trees stands.trees);
      beside = record {
        older = changed_alike_older change leaves id m.trees s.parts.entries stands.beside.older;
        none = altered_tables (λ q tables. tables ≡ [] → s.parts.entries q ≡ []) m.trees stands.beside.none id change (λ shape. refl);
        unused = stands.beside.unused;
      };
      journals = stands.journals;
      lawful = merge_out_is_lawful id m stands.lawful small;
    }

-- whatever is kept of the tables that it read
pub a_begun_merge_stands : (m : Remembered) (table : ℕ) (s : State) → MemoryStandsFor m table s → (id : ℕ) → m.next_job < 2 ^ 64 - 1 → (trees : Forest) → AreSameTrees (merge_out_in_memory id m).trees trees
    → MemoryStandsFor (with_trees trees (merge_out_in_memory id m)) table (machine.merge_out s id)
a_begun_merge_stands m table s stands id small trees same = a_read_stands (merge_out_in_memory id m) table (machine.merge_out s id) (begun_stands m table s stands id small) trees same

pub a_dropped_merge_stands : (m : Remembered) (table : ℕ) (s : State) → MemoryStandsFor m table s → (id : ℕ) → MemoryStandsFor (merge_gone_in_memory id m) table (machine.merge_gone s id)
a_dropped_merge_stands m table s stands id = record {
  present = stands.present ∙ ap kept (sym (changed_alike_store merge_dropped dropped_leaves id m.trees s.parts.entries m.keyspaces));
  views = λ instant at other held. stands.views instant at other held ∙ sym (changed_alike_pairs merge_dropped dropped_leaves id m.trees s.parts.entries other instant);
  number = stands.number;
  poisoned = stands.poisoned;
  handles = stands.handles;
  lasting = stands.lasting;
  tickets = stands.tickets;
  next_job = stands.next_job;
  merges_done = stands.merges_done;
  records = stands.records;
  next_table = stands.next_table;
  trees = same_altered id merge_dropped (λ tables shape. refl) s.parts.trees m.trees stands.trees;
  beside = record {
    older = changed_alike_older merge_dropped dropped_leaves id m.trees s.parts.entries stands.beside.older;
    none = altered_tables (λ q tables. tables ≡ [] → s.parts.entries q ≡ []) m.trees stands.beside.none id merge_dropped (λ shape. refl);
    unused = stands.beside.unused;
  };
  journals = stands.journals;
  lawful = merge_gone_is_lawful id m stands.lawful;
}

pub a_counted_merge_stands : (m : Remembered) (table : ℕ) (s : State) → MemoryStandsFor m table s → MemoryStandsFor (with_merge_done m) table (record s { merges_done = counted (s.merges_done + 1) })
a_counted_merge_stands m table s stands = record {
  present = stands.present;
  views = stands.views;
  number = stands.number;
  poisoned = stands.poisoned;
  handles = stands.handles;
  lasting = stands.lasting;
  tickets = stands.tickets;
  next_job = stands.next_job;
  merges_done = ap (λ n. counted (n + 1)) stands.merges_done;
  records = stands.records;
  next_table = stands.next_table;
  trees = stands.trees;
  beside = record { older = stands.beside.older; none = stands.beside.none; unused = stands.beside.unused };
  journals = stands.journals;
  lawful = merge_done_is_lawful m stands.lawful;
}

-- ---- a merge that is finished

module _ (m : Remembered) (table : ℕ) (s : State) (stands : MemoryStandsFor m table s) (id target : ℕ) (task : Task) (is : IsMerging (shape_in id m.trees) (s.parts.entries id) task)
    (tables : List MadeTable) (clears : List ℕ) (made : IsMerged target task tables clears) where
  alike_there : IsSameShape (shape_in id s.parts.trees) (shape_in id m.trees)
  alike_there = same_in id s.parts.trees m.trees stands.trees

  -- the state's tree has the merge out
  pub out_there : (shape_in id s.parts.trees).merge ≡ Some is.out
  out_there = sym alike_there.merge ∙ is.is

  -- what the merge made of its task, it made of what the state's tree was begun with
  pub made_there : IsMerged target (merge_task_of id (shape_in id s.parts.trees) (s.parts.entries id) is.out) tables clears
  made_there =
      let told : task.clears ≡ take is.out.clears (shape_in id s.parts.trees).clears = is.clears ∙ ap (take is.out.clears) alike_there.clears in
      record {
        lists = made.lists;
        made = made.made;
        parted = made.parted;
        ordered = made.ordered;
        kept = subst (λ (x : ℕ × List ℕ × List (List Entry)). Same (flat made.lists) (jobs.merged x.0 x.1 (flat x.2))) (λ i. (is.watermark i, told i, is.runs i)) made.kept;
        clears_are = made.clears_are ∙ (λ i. jobs.merged_clears (is.watermark i) (told i));
      }

  -- its watermark was reached
  reached : task.watermark ≤ m.tickets.watermark
  reached =
      let begun = tree_under (λ (j : Planted). IsMergeBegun m.next_job m.tickets.watermark j.shape.merge) m.trees id (shape_in id m.trees) stands.lawful.merging (merging_tree id m.trees (s.parts.entries id) task is) in
      let out = subst (IsMergeBegun m.next_job m.tickets.watermark) is.is begun in
      let low = out.1 in
      let same = is.watermark in
      omega (arith, low, same)

  low : task.watermark < 2 ^ 63
  low = by m.tickets.watermark reached stands.lawful.spared
    where
      by : (w : ℕ) → task.watermark ≤ w → (0 < w → w < m.next) → task.watermark < 2 ^ 63
      by zero le spared = omega (arith, le)
      by (suc w) le spared = let lt = spared (omega arith) in let small = stands.lawful.small in omega (arith, le, lt, small)

  module _ (k : LivingKeyspace) (at : keyspace_at id m.keyspaces.living ≡ Some k) (readers : List Reader) (infos : map (λ t. t.info) readers ≡ merged_infos (last_known m.records k).next_table_id tables) where
    -- the parts of the state once it is finished
    abbrev parts : Parts
    parts = machine.parts_merged id is.out tables clears made.lists readers s.parts

    abbrev last : Fields
    last = record_after_merge (counting.merge_out is.out tables clears) (last_known m.records k)

    pub merged_there : target ≡ target_size (options_in (present s) id) → Merged s id parts
    unfolding made_there
    merged_there sized =
        subst (λ (x : Option Merging × ℕ). MergesIn x.0 x.1 s.parts id parts) (λ i. (sym out_there i, sized i))
        (record { tables = tables; clears = clears; made = made_there; readers = readers; infos = infos ∙ ap (λ (r : Fields). merged_infos r.next_table_id tables) (sym (known_record m table s stands id k at)); is = refl })

    records_then : All (λ j. parts.records j.id ≡ last_known (insert m.records id last) j) m.keyspaces.living
    records_then =
        All-weaker (λ (j : LivingKeyspace). s.parts.records j.id ≡ last_known m.records j) (λ j. parts.records j.id ≡ last_known (insert m.records id last) j)
        (λ j known. by j (j.id == id) known ∙ ap (λ (o : Option Fields). unwrap_or o (fields (first_of j.number))) (sym (get_put m.records id last j.id))) m.keyspaces.living stands.records
      where
        by : (j : LivingKeyspace) (b : Bool) → s.parts.records j.id ≡ last_known m.records j
            → cond b (record_after_merge (counting.merge_out is.out tables clears) (s.parts.records id)) (s.parts.records j.id) ≡ unwrap_or (cond b (Some last) (get m.records j.id)) (fields (first_of j.number))
        by j true known = ap (record_after_merge (counting.merge_out is.out tables clears)) (known_record m table s stands id k at)
        by j false known = known

    -- where each table had its entries
    pub finished_stands : length (s.parts.entries id) ≡ length (shape_in id m.trees).tables → MemoryStandsFor (with_merge id is.out readers last m) table (record s { parts = parts })
    finished_stands each =
        let lawful = stands.lawful in
        let given = id_given m id k lawful at in
        let older = stands.beside.older in
        record {
          present = stands.present ∙ ap kept (sym (merged_store s.parts.entries m.trees lawful.forest older id task is target tables clears made readers low m.keyspaces));
          views = λ instant read other held.
              stands.views instant read other held
              ∙ sym (merged_with s.parts.entries m.trees lawful.forest older id task is target tables clears made readers other instant (above_begun task.watermark m.tickets.watermark instant reached (read_above m lawful instant read)));
          number = stands.number;
          poisoned = stands.poisoned;
          handles = stands.handles;
          lasting = stands.lasting;
          tickets = stands.tickets;
          next_job = stands.next_job;
          merges_done = stands.merges_done;
          records = records_then;
          next_table = stands.next_table;
          trees = same_altered_by id (merge_finished readers is.out) (merged_same readers is.out) s.parts.trees m.trees stands.trees;
          beside = record {
            older = merged_older s.parts.entries m.trees lawful.forest id task is target tables clears made readers older;
            none = merged_none s.parts.entries m.trees lawful.forest id task is target tables clears made readers (last_known m.records k).next_table_id infos each stands.beside.none;
            unused = λ other le.
                ap (λ (b : Bool). cond b (made.lists ++ drop is.out.tables (s.parts.entries id)) (s.parts.entries other)) (others other id (λ same. absurd (omega (arith, given, le, same)))) ∙ stands.beside.unused other le;
          };
          journals = stands.journals;
          lawful = merged_is_lawful id is.out readers last m lawful given;
        }
