-- Sizes of memtables, and the settings that they are held against.
use Rattle.std.proofs.Common.{◌≡◌, ◌↔◌, ℕ, ◌+◌, ◌==◌, ◌&&◌, not, nat_lt, is_none, length, Bool, true, false, cond, codes, List, [], ◌∷◌, map, Option, None, Some, unwrap_or, refl, sym, ap, ◌∙◌}
use Rattle.std.specs.FinMap.{contains_key, entries, get, get-retain_keys, nat_cmp-IsAntisymmetric}
use Rattle.std.specs.List.{count_by, fold, sum_by}
use Rattle.std.specs.Option.{is_some, option_map}
use Rattle.byteorder.specs.Endian.{little_number}
use Rattle.fjall_base.specs.Pairs.{Bytes}
use Rattle.fjall_base.specs.Store.{Options, Store, kept}
use Rattle.fjall_journal.specs.Writer.{counted}
use Rattle.fjall_meta.specs.declared.living.LivingKeyspace.{LivingKeyspace}
use Rattle.fjall_meta.specs.Keyspaces.{AreKeyspaces, Keyspaces, keyspace_at}
use Rattle.fjall_options.specs.declared.options.stored_option.StoredOption.TheVariants.{MaxMemtableSize}
use Rattle.fjall_options.specs.Options.{effective_settings, value_at, value_of}
use Rattle.fjall_meta.specs.Replays.{option_pairs}
use Rattle.fjall_meta.proofs.Naming.{named_in_order, settings}
use Rattle.fjall_memtable.specs.Entries.{size_of}
use Rattle.fjall_table_reader.specs.Readers.{AreSameTables, Reader}
use Rattle.fjall_history.specs.declared.job.JobId.{JobId}
use Rattle.fjall_tree.specs.Jobs.{count_out, is_flush_out}
use Rattle.fjall_tree.specs.Trees.{IsSameShape, is_l0}
use Rattle.fjall_tree.proofs.Outstanding.{same_count}
use Rattle.fjall_files.specs.Journals.{waited_for}
use Rattle.fjall_table.specs.declared.table_info.TableInfo.{TableInfo}
use Rattle.fjall_memtable.specs.Parts.{Memory, holds_nothing, parts_of, versions_in}
use Rattle.fjall_trees.specs.Forests.{Forest, tree_at}
use Rattle.fjall_trees.specs.Tables.{AreSameTrees, shape_in}
use Rattle.fjall_trees.specs.Maps.{store_of}
use Rattle.fjall_trees.specs.MapTables.{store_with}
use Rattle.fjall_machine.specs.Machine.{HasTables, State, active_size, begins_flush, buffer_size, flush_count, holds_some, is_flushed, is_flushing, is_living, max_memtable_size, memtable_size, present, rotates, table_space, tables_space, version_count, waits_for_flush, wants_rotation}
use Rattle.fjall_machine.specs.Remembered.{MemoryStandsFor, Remembered, flushed_by}
use Rattle.fjall_machine.proofs.Facts.{living_names}
use Rattle.fjall_machine.proofs.Flushing.{flushed_agree}
use Rattle.fjall_machine.proofs.SameTrees.{counts_same, infos_same, memory_in, none_before, none_same, same_in}

-- ---- all memtables

fold_map : {X Y : Type 0} (f : Y → ℕ) (g : X → Y) (sum : ℕ) (xs : List X) → fold (λ a y. a + f y) sum (map g xs) ≡ fold (λ a x. a + f (g x)) sum xs
fold_map f g sum [] = refl
fold_map f g sum (x ∷ xs) = fold_map f g (sum + f (g x)) xs

pub sum_map : {X Y : Type 0} (f : Y → ℕ) (g : X → Y) (xs : List X) → sum_by f (map g xs) ≡ sum_by (λ x. f (g x)) xs
sum_map f g xs = fold_map f g 0 xs

-- what a keyspace's memtables count for, where the sum stops at the greatest number
abbrev pub size_in : Forest → LivingKeyspace → ℕ
size_in trees k = counted (memtable_size (shape_in k.id trees))

-- the keyspaces that live are those of the store
pub buffer_of_living : (s : Keyspaces) → AreKeyspaces s → (trees others : Forest) → buffer_size (store_of s trees) others ≡ sum_by (size_in others) s.living
buffer_of_living s all trees others =
    ap (sum_by (λ (e : ℕ × Bytes). counted (memtable_size (shape_in e.0 others)))) (named_in_order s all)
    ∙ sum_map (λ (e : ℕ × Bytes). counted (memtable_size (shape_in e.0 others))) (λ (k : LivingKeyspace). (k.id, k.name)) s.living

pub buffers_agree : (m : Remembered) (table : ℕ) (s : State) → MemoryStandsFor m table s → buffer_size (present s) s.parts.trees ≡ buffer_size (store_of m.keyspaces m.trees) m.trees
buffers_agree m table s stands = λ i. sum_by (λ e. counted (sum_by size_of (versions_in (parts_of (sym (memory_in e.0 s.parts.trees m.trees stands.trees) i))))) (entries ((stands.present i).names))

-- ---- the size of an active memtable

pair_found : (values : List Bytes) → value_of (codes "max_memtable_size") (option_pairs values) ≡ Some (value_at MaxMemtableSize values)
unfolding option_pairs
pair_found values = refl

-- the settings of a store say what the options do
settings_allow : (values : List Bytes) → max_memtable_size (option_pairs values) ≡ (effective_settings values).max_memtable_size
unfolding effective_settings
settings_allow values = ap (λ (o : Option Bytes). little_number 8 (unwrap_or o [])) (pair_found values)

-- the options of a keyspace, where it is there, say that a memtable of this size is too large
abbrev pub says_too_large : ℕ → Option (List Bytes) → Bool
says_too_large size None = false
says_too_large size (Some values) = nat_lt (effective_settings values).max_memtable_size size

found_says : (size : ℕ) (found : Option LivingKeyspace)
    → (is_some found && nat_lt (max_memtable_size (unwrap_or (option_map (λ (k : LivingKeyspace). option_pairs k.options) found) [])) size) ≡ says_too_large size (option_map (λ (k : LivingKeyspace). k.options) found)
found_says size None = refl
found_says size (Some k) = ap (λ n. nat_lt n size) (settings_allow k.options)

pub held_wants : (s : Keyspaces) (trees others : Forest) (id : ℕ) → wants_rotation (store_of s trees) others id ≡ says_too_large (counted (active_size (shape_in id others))) (option_map (λ k. k.options) (keyspace_at id s.living))
held_wants s trees others id =
    let size = counted (active_size (shape_in id others)) in
    ap (λ b. b && nat_lt (max_memtable_size (unwrap_or (get (store_of s trees).options id) [])) size) (living_names s trees id)
    ∙ ap (λ (o : Option Options). is_some (keyspace_at id s.living) && nat_lt (max_memtable_size (unwrap_or o [])) size) (settings s [] id)
    ∙ found_says size (keyspace_at id s.living)

both_times : (size : ℕ) (b : Bool) (o : Option Options) → (b && nat_lt (max_memtable_size (unwrap_or (cond b o None) [])) size) ≡ (b && nat_lt (max_memtable_size (unwrap_or o [])) size)
both_times size true o = refl
both_times size false o = refl

kept_wants : (s : Store) (trees : Forest) (id : ℕ) → wants_rotation (kept s) trees id ≡ wants_rotation s trees id
kept_wants s trees id =
    let p = contains_key s.names in
    let size = counted (active_size (shape_in id trees)) in
    ap (λ (o : Option Options). p id && nat_lt (max_memtable_size (unwrap_or o [])) size) (get-retain_keys s.options p id (λ x e. ap p (sym (nat_cmp-IsAntisymmetric id x e))))
    ∙ both_times size (p id) (get s.options id)

pub wants_agree : (m : Remembered) (table : ℕ) (s : State) → MemoryStandsFor m table s → (id : ℕ) → wants_rotation (present s) s.parts.trees id ≡ wants_rotation (store_of m.keyspaces m.trees) m.trees id
wants_agree m table s stands id =
    let b = store_with s.parts.entries m.keyspaces m.trees in
    sym (kept_wants (present s) s.parts.trees id)
    ∙ (λ i. wants_rotation (stands.present i) s.parts.trees id)
    ∙ kept_wants b s.parts.trees id
    ∙ ap (λ (memory : Memory). is_living b id && nat_lt (max_memtable_size (unwrap_or (get b.options id) [])) (counted (sum_by size_of memory.active.versions))) (sym (memory_in id s.parts.trees m.trees stands.trees))

-- ---- what else is counted

pub versions_agree : (m : Remembered) (table : ℕ) (s : State) → MemoryStandsFor m table s → (id : ℕ) → version_count (shape_in id s.parts.trees) ≡ version_count (shape_in id m.trees)
versions_agree m table s stands id =
    let same = same_in id s.parts.trees m.trees stands.trees in
    let sums = sum_map (λ (n : ℕ). n) (λ (t : Reader). t.info.entry_count) (shape_in id s.parts.trees).tables in
    let others = sum_map (λ (n : ℕ). n) (λ (t : Reader). t.info.entry_count) (shape_in id m.trees).tables in
    let counts = ap (sum_by (λ (n : ℕ). n)) (counts_same (shape_in id s.parts.trees).tables (shape_in id m.trees).tables same.tables) in
    λ i. (sym sums ∙ sym counts ∙ others) i + length (versions_in (parts_of (sym same.memory i)))

pub sealed_agree : (m : Remembered) (table : ℕ) (s : State) → MemoryStandsFor m table s → (id : ℕ) → length (shape_in id s.parts.trees).memory.sealed ≡ length (shape_in id m.trees).memory.sealed
sealed_agree m table s stands id = ap (λ (memory : Memory). length memory.sealed) (sym (memory_in id s.parts.trees m.trees stands.trees))

pub tables_agree : (m : Remembered) (table : ℕ) (s : State) → MemoryStandsFor m table s → (id : ℕ) → HasTables id s.parts.trees ↔ HasTables id m.trees
tables_agree m table s stands id =
    let same = (same_in id s.parts.trees m.trees stands.trees).tables in
    (λ some none. some (none_before (shape_in id s.parts.trees).tables (shape_in id m.trees).tables same none), λ some none. some (none_same (shape_in id s.parts.trees).tables (shape_in id m.trees).tables same none))

-- a rotation seals something where the state's does
rotates_by : (old new : Forest) (id : ℕ) → AreSameTrees old new → rotates old id ≡ rotates new id
rotates_by [] [] id same = refl
rotates_by [] (k ∷ new) id same = absurd same
rotates_by (j ∷ old) [] id same = absurd same
rotates_by (j ∷ old) (k ∷ new) id same = by (j.id == id) (k.id == id) (ap (λ (n : ℕ). n == id) same.0) (rotates_by old new id same.2)
  where
    by : (x y : Bool) → y ≡ x → rotates old id ≡ rotates new id → holds_some (cond x (Some j.shape) (tree_at id old)) ≡ holds_some (cond y (Some k.shape) (tree_at id new))
    by true true e rest = ap (λ (memory : Memory). not (holds_nothing memory.active)) (sym same.1.memory)
    by false false e rest = rest
    by true false e rest = let bad : ⊥ = cc in absurd bad
    by false true e rest = let bad : ⊥ = cc in absurd bad

pub rotations_agree : (m : Remembered) (table : ℕ) (s : State) → MemoryStandsFor m table s → (id : ℕ) → rotates s.parts.trees id ≡ rotates m.trees id
rotations_agree m table s stands id = rotates_by s.parts.trees m.trees id stands.trees

-- ---- tables

-- what is added up of the infos of tables is so of the same tables
infos_sum : (f : TableInfo → ℕ) (a b : List Reader) → AreSameTables a b → sum_by (λ t. f t.info) a ≡ sum_by (λ t. f t.info) b
infos_sum f a b same = sym (sum_map f (λ (t : Reader). t.info) a) ∙ ap (sum_by f) (sym (infos_same a b same)) ∙ sum_map f (λ (t : Reader). t.info) b

module _ (m : Remembered) (table : ℕ) (s : State) (stands : MemoryStandsFor m table s) where
  pub same_at : (id : ℕ) → IsSameShape (shape_in id s.parts.trees) (shape_in id m.trees)
  same_at id = same_in id s.parts.trees m.trees stands.trees

  pub table_counts_agree : (id : ℕ) → length (shape_in id s.parts.trees).tables ≡ length (shape_in id m.trees).tables
  table_counts_agree id = same_count (shape_in id s.parts.trees).tables (shape_in id m.trees).tables (same_at id).tables

  pub l0_counts_agree : (id : ℕ) → count_by (λ t. is_l0 t.info.level) (shape_in id s.parts.trees).tables ≡ count_by (λ t. is_l0 t.info.level) (shape_in id m.trees).tables
  l0_counts_agree id = infos_sum (λ (t : TableInfo). cond (is_l0 t.level) 1 0) (shape_in id s.parts.trees).tables (shape_in id m.trees).tables (same_at id).tables

  pub space_agrees : (id : ℕ) → table_space (shape_in id s.parts.trees) ≡ table_space (shape_in id m.trees)
  space_agrees id = ap counted (infos_sum (λ (t : TableInfo). t.file_len) (shape_in id s.parts.trees).tables (shape_in id m.trees).tables (same_at id).tables)

  pub spaces_agree : tables_space (present s) s.parts.trees ≡ tables_space (store_of m.keyspaces m.trees) m.trees
  spaces_agree = λ i. sum_by (λ e. space_agrees e.0 i) (entries ((stands.present i).names))

  -- ---- flushes

  pub wait_agrees : (id : ℕ) → waits_for_flush (shape_in id s.parts.trees) ≡ waits_for_flush (shape_in id m.trees)
  wait_agrees id = λ i. nat_lt (count_out (sym (same_at id).flush i)) (length (sym (same_at id).memory i).sealed)

  pub waits_agree : flush_count (present s) s.parts.trees ≡ flush_count (store_of m.keyspaces m.trees) m.trees
  waits_agree = λ i. sum_by (λ e. cond (wait_agrees e.0 i) 1 0) (entries ((stands.present i).names))

  pub beginning_agrees : (id : ℕ) → begins_flush s.parts.trees id ≡ begins_flush m.trees id
  beginning_agrees id = λ i. nat_lt 0 (length (sym (same_at id).memory i).sealed) && is_none (sym (same_at id).flush i)

  pub out_agrees : (job : JobId) → is_flushing s.parts.trees job ≡ is_flushing m.trees job
  out_agrees job = λ i. is_flush_out job.number (sym (same_at job.keyspace_id).flush i)

  pub awaited_agree : waited_for (is_flushed s) s.parts.journals.sealed ≡ waited_for (flushed_by m.keyspaces m.records) m.journals.sealed
  awaited_agree = λ i. waited_for (λ id lsn. flushed_agree m table s stands id lsn i) (stands.journals i).sealed

-- the tables of the keyspaces that live are those of the store's
abbrev pub space_in : Forest → LivingKeyspace → ℕ
space_in trees k = table_space (shape_in k.id trees)

pub spaces_of_living : (s : Keyspaces) → AreKeyspaces s → (trees others : Forest) → tables_space (store_of s trees) others ≡ sum_by (space_in others) s.living
spaces_of_living s all trees others =
    ap (sum_by (λ (e : ℕ × Bytes). table_space (shape_in e.0 others))) (named_in_order s all)
    ∙ sum_map (λ (e : ℕ × Bytes). table_space (shape_in e.0 others)) (λ (k : LivingKeyspace). (k.id, k.name)) s.living

-- the keyspaces that live and wait for a flush are those of the store's
abbrev pub waits_in : Forest → LivingKeyspace → Bool
waits_in trees k = waits_for_flush (shape_in k.id trees)

pub waits_of_living : (s : Keyspaces) → AreKeyspaces s → (trees others : Forest) → flush_count (store_of s trees) others ≡ count_by (waits_in others) s.living
waits_of_living s all trees others =
    ap (count_by (λ (e : ℕ × Bytes). waits_for_flush (shape_in e.0 others))) (named_in_order s all)
    ∙ sum_map (λ (e : ℕ × Bytes). cond (waits_for_flush (shape_in e.0 others)) 1 0) (λ (k : LivingKeyspace). (k.id, k.name)) s.living
