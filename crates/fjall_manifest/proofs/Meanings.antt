-- What an image holds: by which names, and that it is one home.
use Rattle.std.proofs.Common.{◌≡◌, ℕ, true, List, [], ◌∷◌, Some, refl, sym, ◌∙◌, ap, subst}
use Rattle.fjall_base.specs.Disk.{Name, DiskEntry, Image, IsFile}
use Rattle.fjall_base.specs.Lists.{last_of}
use Rattle.fjall_files.specs.Names.{keyspace_folder, current_name, table_name}
use Rattle.fjall_files.specs.Regions.{is_under}
use Rattle.fjall_files.specs.Texts.{text_in}
use Rattle.fjall_files.proofs.Under.{under_self}
use Rattle.fjall_table.specs.declared.table_info.TableInfo.{TableInfo}
use Rattle.fjall_manifest.specs.Records.{Fields, IsRecords}
use Rattle.fjall_manifest.proofs.Currents.{one_reading}
use Rattle.fjall_manifest.specs.Homes.{HasFiles, HasHome, HoldTables, Home, records_text}
use Rattle.fjall_manifest.proofs.Naming.{current_under, table_under}

-- ---- by which names

module _ (image other : Image) (id : ℕ) (agree : (q : Name) → is_under (keyspace_folder id) q ≡ true → other q ≡ image q) where
  tables_alike : (tables : List TableInfo) (texts : List (List ℕ)) → HoldTables image id tables texts → HoldTables other id tables texts
  tables_alike [] [] hold = tt
  tables_alike [] (bytes ∷ texts) hold = absurd hold
  tables_alike (t ∷ tables) [] hold = absurd hold
  tables_alike (t ∷ tables) (bytes ∷ texts) hold =
      let at = agree (table_name id t.id) (table_under id t.id) in
      ((subst IsFile (sym at) hold.0.0, ap (λ (e : DiskEntry). text_in e) at ∙ hold.0.1), tables_alike tables texts hold.1)

  pub files_alike : (records : List Fields) (h : Home) → HasFiles image id records h → HasFiles other id records h
  files_alike records h has =
      let current = agree (current_name id) (current_under id) in
      record {
        current = subst IsFile (sym current) has.current;
        end = has.end;
        whole = subst (λ (e : DiskEntry). IsRecords (text_in e) records has.end) (sym current) has.whole;
        last_is = has.last_is;
        tables = tables_alike h.last.tables h.texts has.tables;
      }

  pub home_alike : (records : List Fields) (h : Home) → HasHome image id records h → HasHome other id records h
  home_alike records h has = record {
    folder = agree (keyspace_folder id) (under_self (keyspace_folder id)) ∙ has.folder;
    files = files_alike records h has.files;
  }

-- ---- one home

pub texts_one : (image : Image) (id : ℕ) (tables : List TableInfo) (texts others : List (List ℕ)) → HoldTables image id tables texts → HoldTables image id tables others → texts ≡ others
texts_one image id [] [] [] one two = refl
texts_one image id [] [] (y ∷ others) one two = absurd two
texts_one image id [] (x ∷ texts) others one two = absurd one
texts_one image id (t ∷ tables) [] others one two = absurd one
texts_one image id (t ∷ tables) (x ∷ texts) [] one two = absurd two
texts_one image id (t ∷ tables) (x ∷ texts) (y ∷ others) one two =
    ap (λ (l : List ℕ). l ∷ texts) (sym one.0.1 ∙ two.0.1) ∙ ap (λ (l : List (List ℕ)). y ∷ l) (texts_one image id tables texts others one.1 two.1)

-- bytes have one last record
pub last_one : (bytes : List ℕ) (records others : List Fields) (m n : ℕ) (last other : Fields) → IsRecords bytes records m → IsRecords bytes others n → last_of records ≡ Some last → last_of others ≡ Some other → last ≡ other
last_one bytes records others m n last other one two is is' =
    let same = (one_reading bytes records others m n one two).0 in
    let some : Some last ≡ Some other = sym is ∙ ap (λ (l : List Fields). last_of l) same ∙ is' in
    cc

pub one_home : (image : Image) (id : ℕ) (records others : List Fields) (h other : Home) → HasFiles image id records h → HasFiles image id others other → (records ≡ others) × (h ≡ other)
one_home image id records others h other one two =
    let last = last_one (records_text image id) records others one.end two.end h.last other.last one.whole two.whole one.last_is two.last_is in
    let texts = texts_one image id h.last.tables h.texts other.texts one.tables (subst (λ (r : Fields). HoldTables image id r.tables other.texts) (sym last) two.tables) in
    ((one_reading (records_text image id) records others one.end two.end one.whole two.whole).0, λ j. record { last = last j; texts = texts j })
