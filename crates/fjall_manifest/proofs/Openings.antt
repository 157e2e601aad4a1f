-- What is read of a home: its records, and the ends of its tables.
use Rattle.std.proofs.Common.{◌≡◌, ℕ, zero, suc, ◌+◌, ◌<◌, List, [], ◌∷◌, ◌++◌, length, take, map, get_or, Any, Option, Some, None, Vec, Global, add-one, refl, sym, ◌∙◌, ap, subst, arith}
use Rattle.std.specs.Option.{option_map}
use Rattle.std.proofs.lemmas.List.{get_or_default}
use Rattle.std.proofs.Math.Seq.{take-suc}
use Rattle.fjall_base.specs.declared.error.Error.{Error}
use Rattle.fjall_base.specs.declared.error.Error.TheVariants.{Io, OutOfMemory, Storage}
use Rattle.fjall_base.specs.declared.error.StorageError.{StorageError}
use Rattle.fjall_base.specs.declared.error.StorageError.TheVariants.{RecordDamaged, TableDamaged}
use Rattle.fjall_base.specs.Disk.{DiskEntry, Missing, File, Folder, Image, IsFile, Name, ReadsFile}
use Rattle.fjall_base.specs.Lists.{last_of}
use Rattle.fjall_files.specs.Names.{current_name, table_name}
use Rattle.fjall_files.specs.Texts.{text_in}
use Rattle.fjall_files.proofs.FilesRead.{ReadFile, read_none, read_some}
use Rattle.fjall_table_reader.specs.declared.table_file.TableFile.{TableFile}
use Rattle.fjall_table.specs.declared.table_info.TableInfo.{TableInfo}
use Rattle.fjall_table.specs.Blocks as table_entry
use Rattle.fjall_table_reader.specs.Files.{HoldsNoTable, HoldsTable, IsIndexed, IsRefused, bytes_in, handles_in, name_of}
use Rattle.fjall_table.specs.Reading.{DamagedWhere}
use Rattle.fjall_table.specs.Tables.{Handle}
use Rattle.fjall_table_reader.proofs.TableFiles.{has_an_index, one_index_of}
use Rattle.fjall_manifest.specs.declared.record.Record.{Record}
use Rattle.fjall_manifest.specs.Records.{Fields, HasContradiction, IsRecords, view}
use Rattle.fjall_manifest.proofs.Currents.{contradiction_has_no_reading, one_reading, texts_are_records}
use Rattle.fjall_manifest.specs.declared.reading.Last.{Last}
use Rattle.fjall_manifest.specs.declared.reading.LoadedHome.{LoadedHome}
use Rattle.fjall_manifest.specs.Homes.{HoldTables, Home, records_text}
use Rattle.fjall_manifest.specs.Reading.{AreHeld, AreIndexed, AreOpened, AreRight, HasNoRecord, IsDamage, IsHeldTable, IsHomeOpenable, IsLast, IsLoaded, IsRefusal, LacksTable}
use Rattle.fjall_manifest.proofs.Meanings.{last_one, one_home}

-- ---- no record

none_last : (records : List Fields) → last_of records ≡ None → records ≡ []
none_last [] is = refl
none_last (r ∷ []) is = cc
none_last (r ∷ next ∷ records) is = let no : next ∷ records ≡ [] = none_last (next ∷ records) is in cc

empty_has_none : HasNoRecord []
empty_has_none records end whole = (one_reading [] records [] end 0 whole (texts_are_records [] tt)).0

pub no_file : (image : Image) (id : ℕ) (found : Option (Vec ℕ Global)) (name : Name) → name ≡ current_name id → ((text : Vec ℕ Global) → found ≡ Some text → ⊥) → ReadsFile (image name) found → HasNoRecord (records_text image id)
no_file image id None name at none is = of (image (current_name id)) (read_none (image (current_name id)) (subst (λ (n : Name). ReadsFile (image n) None) at is))
  where
    of : (entry : DiskEntry) → (IsFile entry → ⊥) → HasNoRecord (text_in entry)
    of (File synced unsynced) none = absurd (none tt)
    of Missing none = empty_has_none
    of Folder none = empty_has_none
no_file image id (Some text) name at none is = absurd (none text refl)

pub current_read : (image : Image) (id : ℕ) (found : Option (Vec ℕ Global)) (text : Vec ℕ Global) (name : Name) → name ≡ current_name id → found ≡ Some text → ReadsFile (image name) found → ReadFile (image (current_name id)) text.items
current_read image id found text name at some is =
    read_some (image (current_name id)) text (subst (λ (n : Name). ReadsFile (image n) (Some text)) at (subst (λ (f : Option (Vec ℕ Global)). ReadsFile (image name) f) some is))

pub contradicted : (image : Image) (id before after : ℕ) (text : List ℕ) (e : Error) → text ≡ records_text image id → DamagedWhere RecordDamaged (HasContradiction text) e → IsRefusal image id before after e
contradicted image id before after text OutOfMemory at is = tt
contradicted image id before after text (Storage cause) at is =
    let none : HasNoRecord (records_text image id) = λ records end whole. absurd (contradiction_has_no_reading (records_text image id) records end (subst HasContradiction at is.1) whole) in
    subst (λ (c : StorageError). IsDamage image id c) (sym is.0) none
contradicted image id before after text _ at is = absurd is

-- what the bytes that were read say, and no others
module _ (image : Image) (id : ℕ) (text : List ℕ) (at : text ≡ records_text image id) (record_read : Option Record) (end_read : ℕ) where
  pub no_last : ((r : Record) → record_read ≡ Some r → ⊥) → ((records : List Fields) (end : ℕ) → IsRecords text records end → (last_of records ≡ option_map view record_read) × (end ≡ end_read)) → HasNoRecord (records_text image id)
  no_last none only records end whole = of record_read none (only records end (subst (λ (b : List ℕ). IsRecords b records end) (sym at) whole)).0
    where
      of : (found : Option Record) → ((r : Record) → found ≡ Some r → ⊥) → last_of records ≡ option_map view found → records ≡ []
      of None none is = none_last records is
      of (Some r) none is = absurd (none r refl)

-- ---- tables

held_more : (image : Image) (id : ℕ) (front : List TableInfo) (files : List TableFile) (t : TableInfo) (file : TableFile) → AreHeld image id front files → IsHeldTable image id t file → AreHeld image id (front ++ t ∷ []) (files ++ file ∷ [])
held_more image id [] [] t file held one = (one, tt)
held_more image id [] (f ∷ files) t file held one = absurd held
held_more image id (x ∷ front) [] t file held one = absurd held
held_more image id (x ∷ front) (f ∷ files) t file held one = (held.0, held_more image id front files t file held.1 one)

module _ (image mid : Image) (id : ℕ) (tables : List TableInfo) (n : ℕ) (d t : TableInfo) (at : t ≡ get_or tables n d) (lt : n < length tables) (same : mid ≡ image) (name : Name) (named : name ≡ table_name id t.id) where
  -- one more was opened
  pub table_held : (files : List TableFile) (file : TableFile) → AreHeld image id (take n tables) files → HoldsTable (mid name) t (handles_in file) → name_of file ≡ name → file.info ≡ t → AreHeld image id (take (n + 1) tables) (files ++ file ∷ [])
  table_held files file held holds name_is info_is =
      let one : IsHeldTable image id t file = record {
        opened = record { name = name_is ∙ named; info = info_is; index = refl };
        holds = subst (λ (q : Name). HoldsTable (image q) t (handles_in file)) named (subst (λ (i : Image). HoldsTable (i name) t (handles_in file)) same holds);
      } in
      subst (λ (l : List TableInfo). AreHeld image id l (files ++ file ∷ [])) (sym (ap (λ (m : ℕ). take m tables) (add-one n) ∙ take-suc tables n d lt ∙ ap (λ (x : TableInfo). take n tables ++ x ∷ []) (sym at)))
      (held_more image id (take n tables) files t file held one)

  -- one isn't there
  pub table_lacks : HoldsNoTable (mid name) t → Any (LacksTable image id) tables
  table_lacks none = (
    n,
    t,
    lt,
    get_or_default tables n t d lt ∙ sym at,
    subst (λ (q : Name). HoldsNoTable (image q) t) named (subst (λ (i : Image). HoldsNoTable (i name) t) same none),
  )

-- ---- a home

same_bytes : (entry : DiskEntry) → bytes_in entry ≡ text_in entry
same_bytes Missing = refl
same_bytes (File synced unsynced) = refl
same_bytes Folder = refl

-- what stands under the names of tables
texts_at : Image → ℕ → List TableInfo → List (List ℕ)
texts_at image id tables = map (λ t. text_in (image (table_name id t.id))) tables

hold_at : (image : Image) (id : ℕ) (tables : List TableInfo) (files : List TableFile) → AreHeld image id tables files → HoldTables image id tables (texts_at image id tables)
unfolding texts_at
hold_at image id [] [] held = tt
hold_at image id [] (f ∷ files) held = absurd held
hold_at image id (t ∷ tables) [] held = absurd held
hold_at image id (t ∷ tables) (f ∷ files) held = ((held.0.holds.file, refl), hold_at image id tables files held.1)

indexed_at : (image : Image) (id : ℕ) (tables : List TableInfo) (files : List TableFile) → AreHeld image id tables files → AreIndexed tables (texts_at image id tables) (map handles_in files)
unfolding texts_at
indexed_at image id [] [] held = tt
indexed_at image id [] (f ∷ files) held = absurd held
indexed_at image id (t ∷ tables) [] held = absurd held
indexed_at image id (t ∷ tables) (f ∷ files) held =
    (subst (λ (b : List ℕ). IsIndexed t b (handles_in f)) (same_bytes (image (table_name id t.id))) held.0.holds.is, indexed_at image id tables files held.1)

opened_at : (image : Image) (id : ℕ) (tables : List TableInfo) (files : List TableFile) → AreHeld image id tables files → AreOpened id tables (map handles_in files) files
opened_at image id [] [] held = tt
opened_at image id [] (f ∷ files) held = absurd held
opened_at image id (t ∷ tables) [] held = absurd held
opened_at image id (t ∷ tables) (f ∷ files) held = (held.0.opened, opened_at image id tables files held.1)

pub home_loaded : (image : Image) (id : ℕ) (last : Last) (home : LoadedHome) → IsLast image id last → home.id ≡ id → home.record ≡ last.record → home.end ≡ last.end → home.len ≡ last.len → AreHeld image id (view last.record).tables home.tables.items → IsLoaded image id home
home_loaded image id last home is named record_is end_is len_is held =
    let tables = (view last.record).tables in
    let files = home.tables.items in
    record {
      named = named;
      records = is.records;
      h = record { last = view last.record; texts = texts_at image id tables };
      indexes = map handles_in files;
      openable = record {
        files = record { current = is.file; end = last.end; whole = is.whole; last_is = is.last_is; tables = hold_at image id tables files held };
        indexed = indexed_at image id tables files held;
      };
      record_is = ap view record_is;
      end_is = end_is;
      len_is = len_is ∙ is.len_is;
      tables = opened_at image id tables files held;
    }

pub tables_refuse : (image : Image) (id before after : ℕ) (last : Last) (e : Error) → IsLast image id last → IsRefused (Any (LacksTable image id) (view last.record).tables) before after e → IsRefusal image id before after e
tables_refuse image id before after last (Io kind) is refused = refused
tables_refuse image id before after last OutOfMemory is refused = tt
tables_refuse image id before after last (Storage cause) is refused =
    subst (λ (c : StorageError). IsDamage image id c) (sym refused.0) (record { records = is.records; end = last.end; whole = is.whole; last = view last.record; last_is = is.last_is; lacks = refused.1 })
tables_refuse image id before after last _ is refused = absurd refused

-- ---- laws

none_lacking : (image : Image) (id : ℕ) (tables : List TableInfo) (texts : List (List ℕ)) (indexes : List (List Handle)) → HoldTables image id tables texts → AreIndexed tables texts indexes
    → (k : ℕ) (x : TableInfo) → k < length tables → get_or tables k x ≡ x → LacksTable image id x → ⊥
none_lacking image id [] texts indexes hold are k x lt at lacks = absurd (omega arith)
none_lacking image id (t ∷ tables) [] indexes hold are k x lt at lacks = absurd hold
none_lacking image id (t ∷ tables) (bytes ∷ texts) [] hold are k x lt at lacks = absurd are
none_lacking image id (t ∷ tables) (bytes ∷ texts) (handles ∷ indexes) hold are zero x lt at lacks =
    let none : LacksTable image id t = subst (LacksTable image id) (sym at) lacks in
    none handles (record { file = hold.0.0; is = subst (λ (b : List ℕ). IsIndexed t b handles) (sym (same_bytes (image (table_name id t.id)) ∙ hold.0.1)) are.0 })
none_lacking image id (t ∷ tables) (bytes ∷ texts) (handles ∷ indexes) hold are (suc k) x lt at lacks = none_lacking image id tables texts indexes hold.1 are.1 k x (omega arith) at lacks

pub openable_no_damage : (image : Image) (id : ℕ) (records : List Fields) (h : Home) (indexes : List (List Handle)) (cause : StorageError) → IsHomeOpenable image id records h indexes → IsDamage image id cause → ⊥
openable_no_damage image id records h indexes RecordDamaged is none =
    let no : None ≡ Some h.last = sym (ap (λ (l : List Fields). last_of l) (none records is.files.end is.files.whole)) ∙ is.files.last_is in cc
openable_no_damage image id records h indexes TableDamaged is bad =
    let last = last_one (records_text image id) bad.records records bad.end is.files.end bad.last h.last bad.whole is.files.whole bad.last_is is.files.last_is in
    let any = subst (λ (r : Fields). Any (LacksTable image id) r.tables) last bad.lacks in
    none_lacking image id h.last.tables h.texts indexes is.files.tables is.indexed any.0 any.1 any.2 any.3 any.4
openable_no_damage image id records h indexes _ is bad = absurd bad

pub right_is_indexed : (tables : List TableInfo) (texts : List (List ℕ)) (lists : List (List table_entry.Entry)) → AreRight tables texts lists → (indexes : List (List Handle)) × AreIndexed tables texts indexes
right_is_indexed [] [] [] are = ([], tt)
right_is_indexed [] [] (es ∷ lists) are = absurd are
right_is_indexed [] (bytes ∷ texts) lists are = absurd are
right_is_indexed (t ∷ tables) [] lists are = absurd are
right_is_indexed (t ∷ tables) (bytes ∷ texts) [] are = absurd are
right_is_indexed (t ∷ tables) (bytes ∷ texts) (es ∷ lists) are =
    let here = has_an_index t bytes es are.0 in
    let others = right_is_indexed tables texts lists are.1 in
    (here.0 ∷ others.0, (here.1, others.1))

-- tables have one list of indexes
indexes_one : (tables : List TableInfo) (texts : List (List ℕ)) (indexes others : List (List Handle)) → AreIndexed tables texts indexes → AreIndexed tables texts others → indexes ≡ others
indexes_one [] [] [] [] one two = refl
indexes_one [] [] [] (y ∷ others) one two = absurd two
indexes_one [] [] (x ∷ indexes) others one two = absurd one
indexes_one [] (bytes ∷ texts) indexes others one two = absurd one
indexes_one (t ∷ tables) [] indexes others one two = absurd one
indexes_one (t ∷ tables) (bytes ∷ texts) [] others one two = absurd one
indexes_one (t ∷ tables) (bytes ∷ texts) (x ∷ indexes) [] one two = absurd two
indexes_one (t ∷ tables) (bytes ∷ texts) (x ∷ indexes) (y ∷ others) one two =
    ap (λ (l : List Handle). l ∷ indexes) (one_index_of t bytes x y one.0 two.0) ∙ ap (λ (l : List (List Handle)). y ∷ l) (indexes_one tables texts indexes others one.1 two.1)

-- what is read of an image's home is that home
pub one_loading : (image : Image) (id : ℕ) (records : List Fields) (h : Home) (indexes : List (List Handle)) (home : LoadedHome) → (is : IsHomeOpenable image id records h indexes) → IsLoaded image id home
    → (view home.record ≡ h.last) × (home.end ≡ is.files.end) × AreOpened id h.last.tables indexes home.tables.items
one_loading image id records h indexes home is loaded =
    let same = (one_home image id loaded.records records loaded.h h loaded.openable.files is.files).1 in
    let one = subst (λ (x : Home). AreIndexed x.last.tables x.texts loaded.indexes) same loaded.openable.indexed in
    let all = indexes_one h.last.tables h.texts loaded.indexes indexes one is.indexed in (
      loaded.record_is ∙ ap (λ (x : Home). x.last) same,
      loaded.end_is ∙ (one_reading (records_text image id) loaded.records records loaded.openable.files.end is.files.end loaded.openable.files.whole is.files.whole).1,
      subst (λ (l : List (List Handle)). AreOpened id h.last.tables l home.tables.items) all (subst (λ (x : Home). AreOpened id x.last.tables loaded.indexes home.tables.items) same loaded.tables),
    )
