-- The versions of items stand in a table's order, and none is refused for its length.
use Rattle.std.proofs.Common.{◌≡◌, ℕ, zero, suc, ◌<◌, List, [], ◌∷◌, ◌++◌, get_or, length, map, min, take, None, IfNone, refl, sym, ap, subst, arith, ◌∙◌, ◌+◌}
use Rattle.std.specs.declared.cmp.Ordering.{Ordering}
use Rattle.std.specs.declared.cmp.Ordering.TheVariants.{Less}
use Rattle.fjall_base.specs.Limits.{item_refusal}
use Rattle.fjall_base.specs.Pairs.{Bytes, byte_order}
use Rattle.fjall_journal.specs.Ops.{bytes_in, value_in}
use Rattle.fjall_journal.specs.declared.op.Op.{Op}
use Rattle.fjall_journal.specs.declared.op.Op.TheVariants.{Put, Remove, RemoveWeak}
use Rattle.std.specs.List.{AllByRecursion}
use Rattle.std.proofs.lemmas.List.{append-nil, length-map, map_more}
use Rattle.fjall_jobs.specs.declared.made_table.MadeTable.{MadeTable}
use Rattle.fjall_jobs.specs.Sequences.{AreMadeTables, AreParted}
use Rattle.fjall_memtable.specs.Sorted.{flat}
use Rattle.fjall_table.specs.Blocks.{Entry, IsBlock, StandsBefore, refusal, value_bytes}
use Rattle.fjall_table.specs.Tables.{IsTable, entries_of}
use Rattle.fjall_table.specs.Writing.{FollowsEntries}
use Rattle.fjall_reading.specs.Ingestions.{AreWritable, KeyOp, KeysAscend}
use Rattle.fjall_compaction.specs.Ingests.{version_of, versions_made}
use Rattle.fjall_compaction.specs.IngestionPlans.{AreIngestionTables}

rest_ascend : (a : KeyOp) (items : List KeyOp) → KeysAscend (a ∷ items) → KeysAscend items
rest_ascend a items up i j d lt within = up (suc i) (suc j) d (omega (arith, lt)) (omega (arith, within))

-- each version stands behind those of the items before its own
pub each_follows : (number : ℕ) (items : List KeyOp) (i : ℕ) (d : KeyOp) → i < length items → KeysAscend items
    → FollowsEntries (map (version_of number) (take i items)) (version_of number (get_or items i d))
each_follows number items zero d lt up = tt
each_follows number [] (suc i) d lt up = absurd (omega (arith, lt))
each_follows number (a ∷ []) (suc i) d lt up = absurd (omega (arith, lt))
each_follows number (a ∷ b ∷ items) (suc zero) d lt up =
    let less : byte_order a.0 b.0 ≡ Less = up 0 1 d (omega arith) (omega arith) in
    subst (λ (o : Ordering). StandsBefore o number number) (sym less) tt
each_follows number (a ∷ b ∷ items) (suc (suc i)) d lt up = each_follows number (b ∷ items) (suc i) d (omega (arith, lt)) (rest_ascend a (b ∷ items) up)

same_bytes : (op : Op) → value_bytes (value_in op) ≡ bytes_in op
same_bytes (Put value) = refl
same_bytes Remove = refl
same_bytes RemoveWeak = refl

-- no version is refused for its length
pub none_refused : (number : ℕ) (items : List KeyOp) (i : ℕ) (d : KeyOp) → i < length items → AreWritable items → refusal (version_of number (get_or items i d)) ≡ None
none_refused number items i d lt writable = ap (λ (bytes : Bytes). item_refusal (get_or items i d).0 bytes) (same_bytes (get_or items i d).1) ∙ writable i d lt

-- so a version that is written next is refused for want of memory alone
pub write_only : (number : ℕ) (items : List KeyOp) (i : ℕ) (item : KeyOp) (writer : List Entry) (v : Entry) (Only : Type 0) → i < length items → item ≡ get_or items i item
    → writer ≡ map (version_of number) (take i items) → v ≡ version_of number item → KeysAscend items → AreWritable items → IfNone (refusal v) (FollowsEntries writer v → Only) → Only
write_only number items i item writer v Only lt is so_far made up writable only =
    let e : v ≡ version_of number (get_or items i item) = made ∙ ap (version_of number) is in
    let none : refusal v ≡ None = ap refusal e ∙ none_refused number items i item lt writable in
    let behind : FollowsEntries writer v = subst (λ (w : Entry). FollowsEntries writer w) (sym e) (subst (λ (l : List Entry). FollowsEntries l (version_of number (get_or items i item))) (sym so_far)
    (each_follows number items i item lt up)) in
    subst (λ o. IfNone o (FollowsEntries writer v → Only)) none only behind

pub one_more : (number : ℕ) (items : List KeyOp) (i : ℕ) (item : KeyOp) (writer new : List Entry) (v : Entry) → i < length items → item ≡ get_or items i item
    → writer ≡ map (version_of number) (take i items) → v ≡ version_of number item → new ≡ writer ++ v ∷ [] → new ≡ map (version_of number) (take (i + 1) items)
one_more number items i item writer new v lt is so_far made next =
    next ∙ (λ d. so_far d ++ (made ∙ ap (version_of number) is) d ∷ []) ∙ sym (map_more (version_of number) items i item lt)

-- ---- tables

no_blocks : (blocks : List (List Entry)) → 0 < length blocks → AllByRecursion IsBlock blocks → entries_of blocks ≡ [] → ⊥
no_blocks [] some each none = omega (arith, some)
no_blocks ([] ∷ blocks) some each none = let first = each.0.some in omega (arith, first)
no_blocks ((v ∷ vs) ∷ blocks) some each none = cc

-- a table has an entry
pub some_entry : (bytes : List ℕ) (entries : List Entry) → IsTable bytes entries → entries ≡ [] → ⊥
some_entry bytes entries is none = no_blocks is.blocks is.are.some is.are.each (sym is.all ∙ none)

-- a table that was made has an item's version
pub some_item : (tables : List MadeTable) (lists : List (List Entry)) (number : ℕ) (items : List KeyOp) → AreMadeTables tables lists → AreParted None lists
    → flat lists ≡ versions_made number items
    → 0 < length tables → items ≡ [] → ⊥
some_item [] lists number items made parted all some none = omega (arith, some)
some_item (t ∷ tables) [] number items made parted all some none = made
some_item (t ∷ tables) (l ∷ []) number items made parted all some none = parted (sym (append-nil l) ∙ all ∙ ap (versions_made number) none)
some_item (t ∷ tables) (l ∷ k ∷ lists) number items made parted all some none = parted

-- so there is one where there is an item, and else none
one_at_most : (items : List KeyOp) → (items ≡ [] → ⊥) → min (length items) 1 ≡ 1
one_at_most [] some = absurd (some refl)
one_at_most (item ∷ items) some = omega arith

pub table_count : (tables : List MadeTable) (lists : List (List Entry)) (number : ℕ) (items : List KeyOp) → AreMadeTables tables lists → AreParted None lists
    → flat lists ≡ versions_made number items → length tables ≡ min (length items) 1
table_count [] [] number items made parted all =
    let none : 0 ≡ length (map (version_of number) items) = ap (λ (l : List Entry). length l) all in
    let same = length-map items (version_of number) in
    omega (arith, none, same)
table_count [] (l ∷ lists) number items made parted all = absurd made
table_count (t ∷ tables) [] number items made parted all = absurd made
table_count (t ∷ []) (l ∷ []) number items made parted all = sym (one_at_most items (some_item (t ∷ []) (l ∷ []) number items made parted all (omega arith)))
table_count (t ∷ []) (l ∷ k ∷ lists) number items made parted all = absurd made.1
table_count (t ∷ u ∷ tables) (l ∷ []) number items made parted all = absurd made.1
table_count (t ∷ u ∷ tables) (l ∷ k ∷ lists) number items made parted all = absurd parted

-- what was made of a writer with all versions
pub one_table : (tables : List MadeTable) (table : MadeTable) (number : ℕ) (items : List KeyOp) (writer : List Entry) → tables ≡ table ∷ [] → IsTable table.bytes.items writer
    → table.entry_count ≡ length writer → writer ≡ versions_made number items → AreIngestionTables number items tables
one_table tables table number items writer is right count made = (
  writer ∷ [],
  subst (λ (l : List MadeTable). AreMadeTables l (writer ∷ [])) (sym is) (record { table = right; count = count }, tt),
  some_entry table.bytes.items writer right,
  append-nil writer ∙ made,
)

pub no_table : (tables : List MadeTable) (number : ℕ) (items : List KeyOp) (writer : List Entry) → tables ≡ [] → writer ≡ [] → writer ≡ versions_made number items → AreIngestionTables number items tables
no_table tables number items writer is none made = subst (λ (l : List MadeTable). AreIngestionTables number items l) (sym is) ([], tt, tt, sym none ∙ made)
