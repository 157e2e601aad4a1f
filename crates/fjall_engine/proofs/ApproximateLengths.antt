-- No view of a keyspace has more pairs than versions are counted of it.
use Rattle.std.proofs.Common.{◌≡◌, ℕ, ◌+◌, ◌-◌, ◌≤◌, Bool, true, false, cond, List, [], ◌∷◌, ◌++◌, length, Option, None, Some, unwrap_or, refl, sym, ◌∙◌, ap, subst, arith}
use Rattle.std.specs.Cmp.Lexicographic.{nat_list_cmp_total}
use Rattle.std.specs.FinMap.{contains_key, insert, len, len-empty, len-insert, len-remove, remove}
use Rattle.std.specs.List.{sum_by}
use Rattle.std.proofs.lemmas.List.{length-append}
use Rattle.std.proofs.lemmas.List.Sums.{sum_by-cons}
use Rattle.fjall_base.specs.Disk.{Meaning}
use Rattle.fjall_base.specs.Pairs.{Bytes, Pairs, altered, byte_order}
use Rattle.fjall_base.specs.Store.{map_at}
use Rattle.fjall_table.specs.Blocks.{Entry}
use Rattle.fjall_table_reader.specs.Readers.{AreRead, Reader}
use Rattle.fjall_memtable.specs.Views.{given, value_at}
use Rattle.fjall_memtable.specs.Sorted.{flat}
use Rattle.fjall_memtable.specs.Parts.{parts_of, versions_in}
use Rattle.fjall_tree.specs.Puts.{bare_tree}
use Rattle.fjall_tree.specs.Trees.{Shape, clears_of, versions_of}
use Rattle.fjall_trees.specs.Forests.{tree_at}
use Rattle.fjall_trees.specs.Tables.{shape_in}
use Rattle.fjall_trees.proofs.Changing.{tree_under}
use Rattle.fjall_trees.specs.MapTables.{map_with}
use Rattle.fjall_history.specs.declared.ticket.View.{View}
use Rattle.fjall_history.specs.Queries.{Query}
use Rattle.fjall_machine.specs.Shapes.{OfRead}
use Rattle.fjall_machine.specs.Machine.{State, due, maps_in, version_count}
use Rattle.fjall_machine.specs.Remembered.{instant_in}
use Rattle.fjall_machine.proofs.Sizes.{versions_agree}
use Rattle.fjall_machine.proofs.Standing.{pairs_agree}
use Rattle.fjall_engine.specs.Holding.{Held}
use Rattle.fjall_engine.specs.Standing.{ReadsOn, StandsFor}
use Rattle.fjall_engine.proofs.OwedStates.{same_due}
use Rattle.fjall_engine.proofs.TablesAtHome.{trees_read}

-- a map that is altered has one key more at most
altered_fits : (pairs : Pairs) (key : Bytes) (value : Option Bytes) → len (altered pairs key value) ≤ len pairs + 1
altered_fits pairs key (Some value) = by (contains_key pairs key) (len-insert nat_list_cmp_total pairs key value)
  where
    by : (b : Bool) → len (insert pairs key value) ≡ cond b (len pairs) (len pairs + 1) → len (insert pairs key value) ≤ len pairs + 1
    by true is = omega (arith, is)
    by false is = omega (arith, is)
altered_fits pairs key None = by (contains_key pairs key) (len-remove nat_list_cmp_total pairs key)
  where
    by : (b : Bool) → len (remove pairs key) ≡ cond b (len pairs - 1) (len pairs) → len (remove pairs key) ≤ len pairs + 1
    by true is = omega (arith, is)
    by false is = omega (arith, is)

-- a map of the keys of versions has one key a version at most
given_fits : (value : Bytes → Option Bytes) (versions : List Entry) → len (given value versions) ≤ length versions
given_fits value [] = let none = len-empty byte_order Bytes in omega (arith, none)
given_fits value (v ∷ versions) =
    let one = altered_fits (given value versions) v.key (value v.key) in
    let others = given_fits value versions in
    omega (arith, one, others)

-- tables that are read count their entries
counted_entries : (disk : Meaning) (tables : List Reader) (entries : List (List Entry)) → AreRead disk tables entries → length (flat entries) ≡ sum_by (λ t. t.info.entry_count) tables
counted_entries disk [] [] are = refl
counted_entries disk [] (es ∷ entries) are = absurd are
counted_entries disk (t ∷ tables) [] are = absurd are
counted_entries disk (t ∷ tables) (es ∷ entries) (reads, are) =
    let one : length es ≡ t.info.entry_count = ap length reads.all ∙ sym reads.reads.table.count in
    let others = counted_entries disk tables entries are in
    let both : length (flat (es ∷ entries)) ≡ length es + length (flat entries) = length-append es (flat entries) in
    let sums : sum_by (λ (t : Reader). t.info.entry_count) (t ∷ tables) ≡ t.info.entry_count + sum_by (λ (t : Reader). t.info.entry_count) tables = sum_by-cons (λ (t : Reader). t.info.entry_count) t tables in
    omega (arith, one, others, both, sums)

tree_fits : (disk : Meaning) (shape : Shape) (entries : List (List Entry)) (instant : ℕ) → AreRead disk shape.tables entries → len (map_with entries instant (Some shape)) ≤ version_count shape
unfolding map_with
tree_fits disk shape entries instant read =
    let map = given_fits (λ key. value_at key instant (clears_of shape) (versions_of shape entries)) (versions_of shape entries) in
    let tables = counted_entries disk shape.tables entries read in
    let all = length-append (flat entries) (versions_in (parts_of shape.memory)) in
    omega (arith, map, tables, all)

nothing_fits : (entries : List (List Entry)) (instant n : ℕ) → len (map_with entries instant None) ≤ n
unfolding map_with
nothing_fits entries instant n = let none = len-empty byte_order Bytes in omega (arith, none)

pub a_view_fits : (core : Held) (s : State) → StandsFor core s → ReadsOn core s → (view : View) (id : ℕ) (query : Query) → due s (OfRead view id query) ≡ None
    → len (map_at (maps_in s view) id) ≤ version_count (shape_in id s.parts.trees)
a_view_fits core s stands reads view id query none =
    subst (λ n. len (map_at (maps_in s view) id) ≤ n) (sym (versions_agree core.memory core.catalog.next_table_id s stands.remembered id))
    (subst (λ (pairs : Pairs). len pairs ≤ version_count (shape_in id core.memory.trees)) (pairs_agree core.memory core.catalog.next_table_id s stands.remembered view id (sym (same_due core s (OfRead view id query) stands) ∙ none))
    (by (tree_at id core.memory.trees) refl))
  where
    by : (found : Option Shape) → tree_at id core.memory.trees ≡ found → len (map_with (s.parts.entries id) (instant_in core.memory view) (tree_at id core.memory.trees)) ≤ version_count (unwrap_or (tree_at id core.memory.trees) (bare_tree 0))
    by None is = subst (λ (o : Option Shape). len (map_with (s.parts.entries id) (instant_in core.memory view) o) ≤ version_count (unwrap_or o (bare_tree 0))) (sym is) (nothing_fits (s.parts.entries id) (instant_in core.memory view) (version_count (bare_tree 0)))
    by (Some shape) is =
        subst (λ (o : Option Shape). len (map_with (s.parts.entries id) (instant_in core.memory view) o) ≤ version_count (unwrap_or o (bare_tree 0))) (sym is)
        (tree_fits core.disk shape (s.parts.entries id) (instant_in core.memory view) (tree_under (λ k. AreRead core.disk k.shape.tables (s.parts.entries k.id)) core.memory.trees id shape (λ i d lt. (trees_read core s stands reads i d lt).tables) is))
