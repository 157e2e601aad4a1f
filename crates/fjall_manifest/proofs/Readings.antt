-- What is read of the catalog, or why it isn't.
use Rattle.std.proofs.Common.{◌≡◌, ℕ, inl, inr, ◌⊎◌, ◌≤◌, List, [], ◌∷◌, Option, Some, None, Result, Ok, Err, Vec, Global, arith, refl, sym, ◌∙◌, ap, subst}
use Rattle.std.specs.Prelude.{unwrap_or}
use Rattle.std.proofs.lemmas.Bool.{cases_lt}
use Rattle.fjall_base.specs.declared.error.Error.{Error}
use Rattle.fjall_base.specs.declared.error.Error.TheVariants.{Io, Storage, OutOfMemory}
use Rattle.fjall_base.specs.declared.error.StorageError.{StorageError}
use Rattle.fjall_base.specs.declared.error.StorageError.TheVariants.{RecordDamaged, TableDamaged, OptionMissing, OptionInvalid}
use Rattle.fjall_base.specs.Disk.{Name, DiskEntry, Missing, File, Folder, Image, IsFile, ReadsFile}
use Rattle.fjall_base.specs.Errors.{IsFaultOrMemory, Rose}
use Rattle.fjall_table.specs.declared.table_info.TableInfo.{TableInfo}
use Rattle.fjall_table.specs.Reading.{DamagedWhere}
use Rattle.fjall_manifest.specs.Records.{Fields}
use Rattle.fjall_base.specs.Lists.{last_of}
use Rattle.fjall_files.specs.Texts.{text_in}
use Rattle.fjall_files.specs.Names.{current_name, table_name}
use Rattle.fjall_meta.specs.declared.entry.MetaEntry.{MetaEntry}
use Rattle.fjall_meta.specs.Keyspaces.{Keyspaces, AreKeyspaces, is_name}
use Rattle.fjall_meta.specs.Entries.{entries_of}
use Rattle.fjall_options.specs.declared.options.stored_option.StoredOption.{StoredOption}
use Rattle.fjall_options.specs.Options.{config_key, is_value, name_key, option_name, stored_options, stored_value, stored_values, valid_value, value_of}
use Rattle.fjall_base.specs.Results.{◌>>=◌}
use Rattle.fjall_meta.specs.Reading.{IsReadingRefusal, first_fault, or_else, pairs_of, stored_keyspace, stored_name, valid_name}
use Rattle.fjall_manifest.proofs.Currents.{one_reading, texts_are_records}
use Rattle.fjall_base.proofs.Names.{bool_cases}
use Rattle.fjall_files.proofs.FilesRead.{ReadFile, read_none, read_some}
use Rattle.fjall_manifest.proofs.CatalogMeanings.{held_one, last_one}
use Rattle.fjall_manifest.specs.declared.catalog.Catalog.{Catalog}
use Rattle.fjall_manifest.specs.Catalog.{ArePairs, fields, records_in, IsAtLevel1, IsCatalogTable, HoldsEntries, Says}
use Rattle.fjall_manifest.specs.Refusals.{HasLast, HasNoLast, IsCatalogDamage, IsTableRefused, IsRefusal}

-- ---- refusals passed on

-- a table that was read and is right is held
pub holds_table : (image : Image) (t : TableInfo) (entries : List MetaEntry) (bytes : List ℕ) → ReadFile (image (table_name 0 t.id)) bytes → IsCatalogTable t bytes entries → HoldsEntries image (Some t) entries
holds_table image t entries bytes read is = (bytes ∷ [], ((read.file, sym read.is), tt), is)

-- no file has no last record
empty : (last : Catalog) → HasLast [] last → ⊥
empty last has =
    let none : has.records ≡ [] = (one_reading [] has.records [] has.end 0 has.whole (texts_are_records [] tt)).0 in
    let no : None ≡ Some (fields last) = sym (ap (λ (l : List Fields). last_of l) none) ∙ has.last_is in cc

pub nothing_there : (image : Image) → (IsFile (image (current_name 0)) → ⊥) → HasNoLast (records_in image)
nothing_there image none last has = of (image (current_name 0)) none has
  where
    of : (entry : DiskEntry) → (IsFile entry → ⊥) → HasLast (text_in entry) last → ⊥
    of (File synced unsynced) none has = none tt
    of Missing none has = empty last has
    of Folder none has = empty last has

pub records_refused : (image : Image) (before after : ℕ) (bytes : List ℕ) (e : Error) → bytes ≡ records_in image → DamagedWhere RecordDamaged (HasNoLast bytes) e → IsRefusal image before after e
records_refused image before after bytes OutOfMemory at is = tt
records_refused image before after bytes (Storage cause) at is =
    let none : HasNoLast (records_in image) = subst (λ (l : List ℕ). HasNoLast l) at is.1 in
    subst (λ (c : StorageError). IsCatalogDamage image c) (sym is.0) none
records_refused image before after bytes _ at is = absurd is

-- a fault behind others
rose_from : (before mid after : ℕ) → before ≤ mid → mid ≤ after → Rose mid after → Rose before after
rose_from before mid after le more (inl rose) = inl (omega (arith, le, rose))
rose_from before mid after le more (inr full) = elim (cases_lt before mid) [
  | inl less ↦ inl (omega (arith, less, more))
  | inr same ↦ inr (omega (arith, same, le, full))
]

pub table_refuses : (image : Image) (last : Catalog) (before mid after : ℕ) (e : Error) → HasLast (records_in image) last → before ≤ mid → mid ≤ after → IsTableRefused image last.table mid after e → IsRefusal image before after e
table_refuses image last before mid after (Io kind) has le more is = rose_from before mid after le more is
table_refuses image last before mid after OutOfMemory has le more is = tt
table_refuses image last before mid after (Storage cause) has le more is = subst (λ (c : StorageError). IsCatalogDamage image c) (sym is.0) (record { last = last; has = has; none = is.1 })
table_refuses image last before mid after _ has le more is = absurd is

-- ---- pairs that store no keyspaces

abbrev IsOptionFault : StorageError → Type 0
IsOptionFault OptionMissing = Unit {0}
IsOptionFault OptionInvalid = Unit {0}
IsOptionFault cause = ⊥

name_fault : (found : Option (List ℕ)) (e : StorageError) → valid_name found ≡ Err e → IsOptionFault e
name_fault None e is = let same : OptionMissing ≡ e = cc in subst IsOptionFault same tt
name_fault (Some name) e is = elim (bool_cases (is_name name)) [
  | inl valid ↦ let no = rw valid at is in cc
  | inr invalid ↦ let bad = rw invalid at is in let same : OptionInvalid ≡ e = cc in subst IsOptionFault same tt
]

value_fault : (option : StoredOption) (found : Option (List ℕ)) (e : StorageError) → valid_value option found ≡ Err e → IsOptionFault e
value_fault option None e is = let same : OptionMissing ≡ e = cc in subst IsOptionFault same tt
value_fault option (Some value) e is = elim (bool_cases (is_value option value)) [
  | inl valid ↦ let no = rw valid at is in cc
  | inr invalid ↦ let bad = rw invalid at is in let same : OptionInvalid ≡ e = cc in subst IsOptionFault same tt
]

-- what fails in two steps fails in the first or in the second
binds : {A B : Type 0} (r : Result A StorageError) (f : A → Result B StorageError) (e : StorageError) → r >>= f ≡ Err e → (r ≡ Err e) ⊎ ((a : A) × (f a ≡ Err e))
binds (Ok a) f e is = inr (a, is)
binds {A} (Err d) f e is = let same : d ≡ e = cc in let fail : StorageError → Result A StorageError = λ x. Err x in inl (ap fail same)

values_fault : (id : ℕ) (pairs : List (List ℕ × List ℕ)) (options : List StoredOption) (e : StorageError) → stored_values id pairs options ≡ Err e → IsOptionFault e
unfolding stored_values
values_fault id pairs [] e is = cc
values_fault id pairs (option ∷ options) e is = elim (binds (stored_value id pairs option) (λ value. stored_values id pairs options >>= λ others. Ok (value ∷ others)) e is) [
  | inl first ↦ value_fault option (value_of (config_key id (option_name option)) pairs) e first
  | inr later ↦ elim (binds (stored_values id pairs options) (λ others. Ok (later.0 ∷ others)) e later.1) [
    | inl others ↦ values_fault id pairs options e others
    | inr none ↦ let no = none.1 in cc
  ]
]

keyspace_fault : (id : ℕ) (pairs : List (List ℕ × List ℕ)) (e : StorageError) → stored_keyspace id pairs ≡ Err e → IsOptionFault e
keyspace_fault id pairs e is = elim (binds (stored_name id pairs) (λ name. stored_values id pairs stored_options >>= λ options. Ok (name, options)) e is) [
  | inl name ↦ name_fault (value_of (name_key id) pairs) e name
  | inr later ↦ elim (binds (stored_values id pairs stored_options) (λ options. Ok (later.0, options)) e later.1) [
    | inl options ↦ values_fault id pairs stored_options e options
    | inr none ↦ let no = none.1 in cc
  ]
]

-- what is wrong with a keyspace is a fault of its options
first_is : (ids : List ℕ) (pairs : List (List ℕ × List ℕ)) → IsOptionFault (unwrap_or (first_fault ids pairs) OptionInvalid)
first_is [] pairs = tt
first_is (id ∷ ids) pairs = of (first_is ids pairs) (stored_keyspace id pairs) (λ e is. keyspace_fault id pairs e is)
  where
    of : IsOptionFault (unwrap_or (first_fault ids pairs) OptionInvalid) → (r : Result (List ℕ × List (List ℕ)) StorageError) → ((e : StorageError) → r ≡ Err e → IsOptionFault e) → IsOptionFault (unwrap_or (or_else r (first_fault ids pairs)) OptionInvalid)
    of later (Ok found) faults = later
    of later (Err e) faults = faults e refl

pub pairs_refused : (image : Image) (last : Catalog) (entries : List MetaEntry) (before after : ℕ) (e : Error) → HasLast (records_in image) last → HoldsEntries image last.table entries → IsReadingRefusal entries e → IsRefusal image before after e
pairs_refused image last entries before after OutOfMemory has holds is = tt
pairs_refused image last entries before after (Storage OptionMissing) has holds is = record { last = last; has = has; entries = entries; holds = holds; refused = is }
pairs_refused image last entries before after (Storage OptionInvalid) has holds is = record { last = last; has = has; entries = entries; holds = holds; refused = is }
pairs_refused image last entries before after (Storage RecordDamaged) has holds is = absurd (subst IsOptionFault (sym is.2) (first_is is.0 (pairs_of entries)))
pairs_refused image last entries before after (Storage TableDamaged) has holds is = absurd (subst IsOptionFault (sym is.2) (first_is is.0 (pairs_of entries)))
pairs_refused image last entries before after _ has holds is = absurd is

-- ---- what is said

pub said : (image : Image) (last : Catalog) (s : Keyspaces) → IsFile (image (current_name 0)) → (has : HasLast (records_in image) last) → HoldsEntries image last.table (entries_of s.living) → s.next ≡ last.next_keyspace_id → AreKeyspaces s → Says image has.records last s
said image last s file has holds next are = record {
  texts = holds.0;
  files = record { current = file; end = has.end; whole = has.whole; last_is = has.last_is; tables = holds.1 };
  pairs = holds.2;
  next = next;
  are = are;
}

-- what an image says has its record and its pairs
pub says_last : (image : Image) (records : List Fields) (last : Catalog) (s : Keyspaces) → Says image records last s → HasLast (records_in image) last
says_last image records last s says =
    record { records = records; end = says.files.end; whole = says.files.whole; last_is = says.files.last_is; level = of last.table says.texts says.pairs }
  where
    of : (table : Option TableInfo) (texts : List (List ℕ)) → ArePairs table texts (entries_of s.living) → IsAtLevel1 table
    of None texts pairs = tt
    of (Some t) [] pairs = absurd pairs
    of (Some t) (bytes ∷ []) pairs = pairs.level
    of (Some t) (bytes ∷ more ∷ texts) pairs = absurd pairs

-- and its table
pub says_entries : (image : Image) (records : List Fields) (last : Catalog) (s : Keyspaces) → Says image records last s → HoldsEntries image last.table (entries_of s.living)
says_entries image records last s says = (says.texts, says.files.tables, says.pairs)

-- ---- at the exits

pub current_none : (image : Image) (found : Option (Vec ℕ Global)) (name : Name) → name ≡ current_name 0 → ((bytes : Vec ℕ Global) → found ≡ Some bytes → ⊥) → ReadsFile (image name) found → HasNoLast (records_in image)
current_none image None name at none is = nothing_there image (read_none (image (current_name 0)) (subst (λ (n : Name). ReadsFile (image n) None) at is))
current_none image (Some bytes) name at none is = absurd (none bytes refl)

pub file_some : (image : Image) (found : Option (Vec ℕ Global)) (bytes : Vec ℕ Global) (name q : Name) → name ≡ q → found ≡ Some bytes → ReadsFile (image name) found → ReadFile (image q) bytes.items
file_some image found bytes name q at some is =
    read_some (image q) bytes (subst (λ (n : Name). ReadsFile (image n) (Some bytes)) at (subst (λ (f : Option (Vec ℕ Global)). ReadsFile (image name) f) some is))

pub current_some : (image : Image) (found : Option (Vec ℕ Global)) (bytes : Vec ℕ Global) (name : Name) → name ≡ current_name 0 → found ≡ Some bytes → ReadsFile (image name) found → ReadFile (image (current_name 0)) bytes.items
current_some image found bytes name at some is = file_some image found bytes name (current_name 0) at some is

pub record_is_read : (image : Image) (last : Catalog) (before after : ℕ) (bytes : List ℕ) (e : Error) → HasLast (records_in image) last → bytes ≡ records_in image → DamagedWhere RecordDamaged (HasNoLast bytes) e → IsFaultOrMemory before after e
record_is_read image last before after bytes OutOfMemory has at is = tt
record_is_read image last before after bytes (Storage cause) has at is = absurd (subst (λ (l : List ℕ). HasNoLast l) at is.1 last has)
record_is_read image last before after bytes _ has at is = absurd is

pub table_is_read : (image : Image) (table : Option TableInfo) (entries : List MetaEntry) (before mid after : ℕ) (e : Error) → HoldsEntries image table entries → before ≤ mid → mid ≤ after → IsTableRefused image table mid after e → IsFaultOrMemory before after e
table_is_read image table entries before mid after (Io kind) holds le more is = rose_from before mid after le more is
table_is_read image table entries before mid after OutOfMemory holds le more is = tt
table_is_read image table entries before mid after (Storage cause) holds le more is = absurd (is.1 entries holds)
table_is_read image table entries before mid after _ holds le more is = absurd is

pub memory_alone : (before after : ℕ) (e : Error) → e ≡ OutOfMemory → IsFaultOrMemory before after e
memory_alone before after e is = subst (λ (d : Error). IsFaultOrMemory before after d) (sym is) tt

-- the catalog that was read is the one that is said
pub same_catalog : (image : Image) (records : List Fields) (c last : Catalog) (s : Keyspaces) → HasLast (records_in image) c → Says image records last s → c ≡ last
same_catalog image records c last s has says = last_one (records_in image) has.records records has.end says.files.end c last has.whole says.files.whole has.last_is says.files.last_is

-- and so are its pairs
pub same_pairs : (image : Image) (records : List Fields) (c last : Catalog) (s : Keyspaces) (entries : List MetaEntry) → c ≡ last → HoldsEntries image c.table entries → Says image records last s → entries_of s.living ≡ entries
same_pairs image records c last s entries same holds says = held_one image last.table (entries_of s.living) entries (says_entries image records last s says) (subst (λ (d : Catalog). HoldsEntries image d.table entries) same holds)
