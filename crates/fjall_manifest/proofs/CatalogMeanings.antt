-- What an image says: by which names, and that it is one thing.
use Rattle.std.proofs.Common.{◌≡◌, ℕ, Bool, true, List, [], ◌∷◌, map, Option, Some, None, refl, sym, ◌∙◌, ap, subst, arith}
use Rattle.fjall_base.specs.Disk.{Name, DiskState, Image, Survives}
use Rattle.fjall_base.specs.Lists.{last_of}
use Rattle.fjall_files.specs.Names.{keyspace_folder}
use Rattle.fjall_files.specs.Regions.{IsImageIn, is_under}
use Rattle.fjall_table.specs.declared.table_info.TableInfo.{TableInfo}
use Rattle.fjall_table.specs.Blocks as blocks
use Rattle.fjall_table.proofs.TableLaws.{one_list_of_entries}
use Rattle.fjall_manifest.specs.Records.{Fields, IsRecords}
use Rattle.fjall_manifest.specs.Homes.{Home, is_counted}
use Rattle.fjall_manifest.proofs.Meanings as homes
use Rattle.fjall_manifest.proofs.Meanings.{files_alike, one_home, texts_one}
use Rattle.fjall_manifest.proofs.Resting.{region_home}
use Rattle.fjall_manifest.proofs.Views.{usual_region}
use Rattle.fjall_meta.specs.declared.entry.MetaEntry.{MetaEntry}
use Rattle.fjall_meta.specs.Keyspaces.{Keyspaces}
use Rattle.fjall_meta.specs.Entries.{entries_of}
use Rattle.fjall_meta.proofs.Alike.{one_list}
use Rattle.fjall_manifest.specs.declared.catalog.Catalog.{Catalog}
use Rattle.fjall_manifest.specs.Catalog.{ArePairs, CatalogRests, HoldsEntries, Says, fields, home_of, listed, table_entry}
use Rattle.fjall_manifest.proofs.CatalogResting.{files_say}
use Rattle.fjall_manifest.proofs.Shapes.{fields_one}

-- ---- by which names

pub regions_say : (region : Name → Bool) (state : DiskState) (image : Image) (records : List Fields) (last : Catalog) (s : Keyspaces) → ((q : Name) → is_counted 0 q ≡ true → region q ≡ true)
    → CatalogRests state records last s → IsImageIn Survives region state image → Says image records last s
regions_say region state image records last s more rests is =
    files_say state image records last s rests (region_home region state image 0 records (home_of last rests.texts) (omega arith) more rests.home (usual_region region state image is)).files

pub alike : (image other : Image) (records : List Fields) (last : Catalog) (s : Keyspaces) → ((q : Name) → is_under (keyspace_folder 0) q ≡ true → other q ≡ image q) → Says image records last s → Says other records last s
alike image other records last s agree says =
    record { texts = says.texts; files = files_alike image other 0 agree records (home_of last says.texts) says.files; pairs = says.pairs; next = says.next; are = says.are }

-- ---- one thing

table_entry_one : (a b : MetaEntry) → table_entry a ≡ table_entry b → a ≡ b
table_entry_one a b e =
    let value_some : Some a.value ≡ Some b.value = ap (λ (v : blocks.Entry). v.value) e in
    let value : a.value ≡ b.value = cc in
    λ j. record { key = (e j).key; value = value j; number = (e j).number }

pub entries_one : (xs ys : List MetaEntry) → map table_entry xs ≡ map table_entry ys → xs ≡ ys
entries_one [] [] e = refl
entries_one [] (y ∷ ys) e = cc
entries_one (x ∷ xs) [] e = cc
entries_one (x ∷ xs) (y ∷ ys) e =
    let head : table_entry x ≡ table_entry y = cc in
    let tail : map table_entry xs ≡ map table_entry ys = cc in
    ap (λ (v : MetaEntry). v ∷ xs) (table_entry_one x y head) ∙ ap (λ (l : List MetaEntry). y ∷ l) (entries_one xs ys tail)

-- bytes have one list of pairs
pub pairs_one : (table : Option TableInfo) (texts : List (List ℕ)) (xs ys : List MetaEntry) → ArePairs table texts xs → ArePairs table texts ys → xs ≡ ys
pairs_one None [] xs ys one two = one ∙ sym two
pairs_one None (bytes ∷ texts) xs ys one two = absurd one
pairs_one (Some t) [] xs ys one two = absurd one
pairs_one (Some t) (bytes ∷ []) xs ys one two = entries_one xs ys (one_list_of_entries bytes (map table_entry xs) (map table_entry ys) one.is.table two.is.table)
pairs_one (Some t) (bytes ∷ more ∷ texts) xs ys one two = absurd one

pub held_one : (image : Image) (table : Option TableInfo) (xs ys : List MetaEntry) → HoldsEntries image table xs → HoldsEntries image table ys → xs ≡ ys
held_one image table xs ys one two =
    let same = texts_one image 0 (listed table) one.0 two.0 one.1 two.1 in
    pairs_one table one.0 xs ys one.2 (subst (λ (texts : List (List ℕ)). ArePairs table texts ys) (sym same) two.2)

-- bytes have one last record
pub last_one : (bytes : List ℕ) (records others : List Fields) (m n : ℕ) (last other : Catalog) → IsRecords bytes records m → IsRecords bytes others n → last_of records ≡ Some (fields last) → last_of others ≡ Some (fields other) → last ≡ other
last_one bytes records others m n last other one two is is' = fields_one last other (homes.last_one bytes records others m n (fields last) (fields other) one two is is')

pub one_catalog : (image : Image) (records others : List Fields) (last other : Catalog) (s t : Keyspaces) → Says image records last s → Says image others other t → (records ≡ others) × (last ≡ other) × (s ≡ t)
one_catalog image records others last other s t one two =
    let both = one_home image 0 records others (home_of last one.texts) (home_of other two.texts) one.files two.files in
    let same : last ≡ other = fields_one last other (ap (λ (h : Home). h.last) both.1) in
    let texts : one.texts ≡ two.texts = ap (λ (h : Home). h.texts) both.1 in
    let theirs : ArePairs last.table one.texts (entries_of t.living) =
    subst (λ (c : Catalog). ArePairs c.table one.texts (entries_of t.living)) (sym same) (subst (λ (l : List (List ℕ)). ArePairs other.table l (entries_of t.living)) (sym texts) two.pairs) in
    let pairs = pairs_one last.table one.texts (entries_of s.living) (entries_of t.living) one.pairs theirs in
    (both.0, same, one_list s t one.are two.are (one.next ∙ ap (λ (c : Catalog). c.next_keyspace_id) same ∙ sym two.next) pairs)
