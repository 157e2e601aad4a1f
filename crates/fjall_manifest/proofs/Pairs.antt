-- Pairs of the meta keyspace as entries of a table.
use Rattle.std.proofs.Common.{◌≡◌, ℕ, zero, suc, ◌<◌, List, [], ◌∷◌, length, map, get_or, sym, ◌∙◌, ap, subst, arith, length-append}
use Rattle.std.specs.List.{AllByRecursion}
use Rattle.std.proofs.lemmas.List.Concat.{flat_map-cons}
use Rattle.fjall_table.specs.declared.table_entry.TableEntry.{TableEntry}
use Rattle.fjall_table.specs.Blocks as blocks
use Rattle.fjall_table.specs.Blocks.{seen}
use Rattle.fjall_table.specs.Tables as tables
use Rattle.fjall_table.specs.Tables.{IsTable}
use Rattle.fjall_table.specs.declared.level.Level.TheVariants.{L1}
use Rattle.fjall_table.specs.declared.table_info.TableInfo.{TableInfo}
use Rattle.fjall_table.specs.TableReading.{HasNoIndex, IsNoTable}
use Rattle.fjall_table.proofs.TableBlocks.{one_index}
use Rattle.fjall_table.proofs.TableLaws.{one_list_of_entries, tables_have_an_index}
use Rattle.fjall_meta.specs.declared.entry.MetaEntry.{MetaEntry}
use Rattle.fjall_manifest.specs.Catalog.{IsCatalogTable, table_entry}

-- ---- read

-- where an entry is no pair's, the entries are those of no pairs
pub no_pairs : (vs : List TableEntry) (i : ℕ) (d : TableEntry) → i < length vs → ((e : MetaEntry) → table_entry e ≡ seen (get_or vs i d) → ⊥) → (es : List MetaEntry) → map table_entry es ≡ map seen vs → ⊥
no_pairs [] i d lt none es same = omega (arith, lt)
no_pairs (v ∷ vs) i d lt none [] same = let no : [] ≡ seen v ∷ map seen vs = same in cc
no_pairs (v ∷ vs) zero d lt none (e ∷ es) same = none e cc
no_pairs (v ∷ vs) (suc i) d lt none (e ∷ es) same = let tail : map table_entry es ≡ map seen vs = cc in no_pairs vs i d (omega (arith, lt)) none es tail

-- ---- how many

-- a table has an entry
pub table_some : (bytes : List ℕ) (es : List blocks.Entry) → IsTable bytes es → 0 < length es
table_some bytes es is = omega (arith, ap length is.all, some is.blocks is.are.some is.are.each)
  where
    some : (bs : List (List blocks.Entry)) → 0 < length bs → AllByRecursion blocks.IsBlock bs → 0 < length (tables.entries_of bs)
    some [] none each = absurd (omega (arith, none))
    some (b ∷ bs) many each =
        let first = each.0.some in
        omega (arith, first, ap length (flat_map-cons (λ (block : List blocks.Entry). block) b bs), length-append b (tables.entries_of bs))

pub pairs_some : (bytes : List ℕ) (es : List MetaEntry) → IsTable bytes (map table_entry es) → 0 < length es
pairs_some bytes [] is = absurd (omega (arith, table_some bytes [] is))
pairs_some bytes (e ∷ es) is = omega arith

-- ---- which table

pub table_of : (t : TableInfo) (bytes : List ℕ) (handles : List tables.Handle) (es : List blocks.Entry) (entries : List MetaEntry) → t.level ≡ L1 → length bytes ≡ t.file_len → tables.HasIndex bytes handles t.entry_count → IsTable bytes es → map table_entry entries ≡ es → IsCatalogTable t bytes entries
table_of t bytes handles es entries level len index is same =
    let own = tables_have_an_index bytes es is in
    let count : t.entry_count ≡ length es = (one_index bytes handles (tables.handles_of 0 own.0) t.entry_count (length es) index own.3).1 in
    record {
      level = level;
      is = record { len = len; table = subst (λ (l : List blocks.Entry). IsTable bytes l) (sym same) is; count = count ∙ ap length (sym same) };
    }

pub no_index_of : (t : TableInfo) (bytes : List ℕ) → HasNoIndex bytes t → (entries : List MetaEntry) → IsCatalogTable t bytes entries → ⊥
no_index_of t bytes none entries is =
    let own = tables_have_an_index bytes (map table_entry entries) is.is.table in
    let count : length (map table_entry entries) ≡ t.entry_count = sym is.is.count in
    none (tables.handles_of 0 own.0) is.is.len (subst (λ (n : ℕ). tables.HasIndex bytes (tables.handles_of 0 own.0) n) count own.3)

pub no_table_of : (t : TableInfo) (bytes : List ℕ) → IsNoTable bytes → (entries : List MetaEntry) → IsCatalogTable t bytes entries → ⊥
no_table_of t bytes none entries is = none (map table_entry entries) is.is.table

pub no_pairs_of : (t : TableInfo) (bytes : List ℕ) (es : List blocks.Entry) → IsTable bytes es → ((entries : List MetaEntry) → map table_entry entries ≡ es → ⊥) → (entries : List MetaEntry) → IsCatalogTable t bytes entries → ⊥
no_pairs_of t bytes es table none entries is = none entries (one_list_of_entries bytes (map table_entry entries) es is.is.table table)
