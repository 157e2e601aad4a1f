-- Homes whose tables have the same counts of bytes.
use Rattle.std.proofs.Common.{◌≡◌, List, [], ◌∷◌, length, map, Option, None, Some, refl, sym, ◌∙◌, ap, subst, ℕ}
use Rattle.fjall_base.specs.Disk.{Folder, Image}
use Rattle.fjall_files.specs.Names.{keyspace_folder}
use Rattle.fjall_table.specs.declared.table_info.TableInfo.{TableInfo}
use Rattle.fjall_table.specs.Tables.{Handle}
use Rattle.fjall_manifest.specs.Homes.{HoldTables, Home}
use Rattle.fjall_manifest.specs.Reading.{AreIndexed}
use Rattle.fjall_meta.specs.declared.entry.MetaEntry.{MetaEntry}
use Rattle.fjall_meta.specs.Keyspaces.{Keyspaces}
use Rattle.fjall_manifest.specs.declared.catalog.Catalog.{Catalog}
use Rattle.fjall_manifest.specs.Catalog.{ArePairs, Says, home_of}
use Rattle.fjall_manifest.specs.Records.{Fields}
use Rattle.fjall_recovery.specs.Homes.{HasOpenableHome}

-- the folder is there, with as many bytes in each of the home's tables
pub record HasCounts (image : Image) (id : ℕ) (h : Home) : Type 0 where
  pub folder : image (keyspace_folder id) ≡ Folder
  pub texts : List (List ℕ)
  pub tables : HoldTables image id h.last.tables texts
  pub counts : map length texts ≡ map length h.texts

-- ---- the home of a keyspace that lives

-- tables that are right at their ends have the counts that their infos tell
indexed_count : (tables : List TableInfo) (texts others : List (List ℕ)) (indexes more : List (List Handle)) → AreIndexed tables texts indexes → AreIndexed tables others more → map length others ≡ map length texts
indexed_count [] [] [] indexes more one two = refl
indexed_count [] [] (bytes ∷ others) indexes more one two = absurd two
indexed_count [] (bytes ∷ texts) others indexes more one two = absurd one
indexed_count (t ∷ tables) [] others indexes more one two = absurd one
indexed_count (t ∷ tables) (bytes ∷ texts) [] indexes more one two = absurd two
indexed_count (t ∷ tables) (bytes ∷ texts) (other ∷ others) [] more one two = absurd one
indexed_count (t ∷ tables) (bytes ∷ texts) (other ∷ others) (handles ∷ indexes) [] one two = absurd two
indexed_count (t ∷ tables) (bytes ∷ texts) (other ∷ others) (handles ∷ indexes) (index ∷ more) one two =
    λ j. (two.0.len ∙ sym one.0.len) j ∷ indexed_count tables texts others indexes more one.1 two.1 j

-- where the last records are the same
pub open_counts : (image other : Image) (id : ℕ) (h i : Home) → HasOpenableHome image id h → i.last ≡ h.last → HasOpenableHome other id i → HasCounts other id h
open_counts image other id h i has same also = record {
  folder = also.home.folder;
  texts = i.texts;
  tables = subst (λ (last : Fields). HoldTables other id last.tables i.texts) same also.home.files.tables;
  counts = indexed_count h.last.tables h.texts i.texts has.indexes also.indexes has.indexed (subst (λ (last : Fields). AreIndexed last.tables i.texts also.indexes) same also.indexed);
}

-- ---- tree 0

pairs_count : (table : Option TableInfo) (texts others : List (List ℕ)) (entries more : List MetaEntry) → ArePairs table texts entries → ArePairs table others more → map length others ≡ map length texts
pairs_count None [] [] entries more one two = refl
pairs_count None [] (bytes ∷ others) entries more one two = absurd two
pairs_count None (bytes ∷ texts) others entries more one two = absurd one
pairs_count (Some t) [] others entries more one two = absurd one
pairs_count (Some t) (bytes ∷ []) [] entries more one two = absurd two
pairs_count (Some t) (bytes ∷ []) (other ∷ []) entries more one two = ap (λ n. n ∷ []) (two.is.len ∙ sym one.is.len)
pairs_count (Some t) (bytes ∷ []) (other ∷ third ∷ others) entries more one two = absurd two
pairs_count (Some t) (bytes ∷ second ∷ texts) others entries more one two = absurd one

-- where the last records are the same
pub catalog_counts : (image other : Image) (records others : List Fields) (last next : Catalog) (s t : Keyspaces) (says : Says image records last s) → last ≡ next → Says other others next t → other (keyspace_folder 0) ≡ Folder → HasCounts other 0 (home_of last says.texts)
catalog_counts image other records others last next s t says same also folder =
    let told = subst (λ (c : Catalog). Says other others c t) (sym same) also in
    record { folder = folder; texts = told.texts; tables = told.files.tables; counts = pairs_count last.table says.texts told.texts _ _ says.pairs told.pairs }
