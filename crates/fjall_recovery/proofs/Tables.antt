-- Homes and tree 0 of an image, and of one in which each file is a beginning of that one's: their tables are the same, since they
-- have the lengths that the same records tell.
use Rattle.std.proofs.Common.{◌≡◌, ℕ, List, [], ◌∷◌, ◌++◌, length, Option, None, Some, refl, sym, ◌∙◌, ap, subst, arith}
use Rattle.std.proofs.lemmas.List.{append-nil, nil_from_length, length-append}
use Rattle.std.specs.FinMap.{get}
use Rattle.fjall_base.specs.Disk.{Name, Image}
use Rattle.fjall_files.specs.Names.{current_name, table_name}
use Rattle.fjall_table.specs.declared.table_info.TableInfo.{TableInfo}
use Rattle.fjall_table.specs.Tables.{Handle}
use Rattle.fjall_manifest.specs.Records.{Fields, IsRecord, IsRecords, record_text}
use Rattle.fjall_manifest.proofs.Currents.{one_reading}
use Rattle.fjall_manifest.specs.Homes.{HasFiles, HoldTables, Home, records_text}
use Rattle.fjall_manifest.specs.Reading.{AreIndexed}
use Rattle.fjall_manifest.proofs.Meanings.{last_one}
use Rattle.fjall_meta.specs.declared.living.LivingKeyspace.{LivingKeyspace}
use Rattle.fjall_meta.specs.declared.entry.MetaEntry.{MetaEntry}
use Rattle.fjall_meta.specs.Keyspaces.{Keyspaces, keyspace_at}
use Rattle.fjall_manifest.specs.declared.catalog.Catalog.{Catalog}
use Rattle.fjall_manifest.specs.Catalog.{ArePairs, Says, home_of, listed}
use Rattle.fjall_recovery.specs.Homes.{HasHomeAt, HasOpenableHome, HaveHomes, Homes}
use Rattle.fjall_recovery.specs.Wild.{IsCutFrom, NoneForged}
use Rattle.fjall_recovery.proofs.Texts.{records_front}

-- the bytes of these tables have the lengths that the record tells
abbrev AreSized : List TableInfo → List (List ℕ) → Type 0
AreSized [] [] = Unit {0}
AreSized (t ∷ tables) (bytes ∷ texts) = (length bytes ≡ t.file_len) × AreSized tables texts
AreSized tables texts = ⊥

sized_by : (tables : List TableInfo) (texts : List (List ℕ)) (indexes : List (List Handle)) → AreIndexed tables texts indexes → AreSized tables texts
sized_by [] [] indexes is = tt
sized_by [] (bytes ∷ texts) indexes is = absurd is
sized_by (t ∷ tables) [] indexes is = absurd is
sized_by (t ∷ tables) (bytes ∷ texts) [] is = absurd is
sized_by (t ∷ tables) (bytes ∷ texts) (handles ∷ indexes) is = (is.0.len, sized_by tables texts indexes is.1)

sized_pairs : (table : Option TableInfo) (texts : List (List ℕ)) (entries : List MetaEntry) → ArePairs table texts entries → AreSized (listed table) texts
sized_pairs None [] entries is = tt
sized_pairs None (bytes ∷ texts) entries is = absurd is
sized_pairs (Some t) [] entries is = absurd is
sized_pairs (Some t) (bytes ∷ []) entries is = (is.is.len, tt)
sized_pairs (Some t) (bytes ∷ more ∷ texts) entries is = absurd is

same_text : (whole text rest : List ℕ) (len : ℕ) → whole ≡ text ++ rest → length whole ≡ len → length text ≡ len → whole ≡ text
same_text whole text rest len parts all part =
    let none : rest ≡ [] = nil_from_length rest (let l0 = ap length parts in let l1 = length-append text rest in omega (arith, l0, l1, all, part)) in
    parts ∙ ap (λ (v : List ℕ). text ++ v) none ∙ append-nil text

module _ (wild cut : Image) (fronts : (q : Name) → IsCutFrom (wild q) (cut q)) where
  same_tables : (id : ℕ) (tables : List TableInfo) (texts others : List (List ℕ)) → HoldTables wild id tables texts → HoldTables cut id tables others → AreSized tables texts → AreSized tables others → texts ≡ others
  same_tables id [] [] [] hold held all sized = refl
  same_tables id [] [] (y ∷ others) hold held all sized = absurd held
  same_tables id [] (x ∷ texts) others hold held all sized = absurd hold
  same_tables id (t ∷ tables) [] others hold held all sized = absurd hold
  same_tables id (t ∷ tables) (x ∷ texts) [] hold held all sized = absurd held
  same_tables id (t ∷ tables) (x ∷ texts) (y ∷ others) hold held all sized =
      let at = fronts (table_name id t.id) in
      let here : x ≡ y = same_text x y at.rest t.file_len (sym hold.0.1 ∙ at.text ∙ ap (λ (v : List ℕ). v ++ at.rest) held.0.1) all.0 sized.0 in
      ap (λ (l : List ℕ). l ∷ texts) here ∙ ap (λ (l : List (List ℕ)). y ∷ l) (same_tables id tables texts others hold.1 held.1 all.1 sized.1)

  -- the same records are whole in both
  pub records_alike : (id : ℕ) (records : List Fields) (end : ℕ) → IsRecords (records_text wild id) records end → IsRecords (records_text cut id) records end
  records_alike id records end whole =
      let at = fronts (current_name id) in
      let none : NoneForged record_text IsRecord (records_text cut id) (records_text cut id ++ at.rest) = subst (NoneForged record_text IsRecord (records_text cut id)) at.text at.unforged.records in
      records_front (records_text cut id) at.rest none records end (subst (λ (v : List ℕ). IsRecords v records end) at.text whole)

  files_front : (id : ℕ) (records others : List Fields) (h other : Home) → HasFiles wild id records h → HasFiles cut id others other → AreSized h.last.tables h.texts → AreSized other.last.tables other.texts → HasFiles wild id others other
  files_front id records others h other has had all sized =
      let read = records_alike id records has.end has.whole in
      let same = (one_reading (records_text cut id) records others has.end had.end read had.whole).0 in
      let last = last_one (records_text cut id) records others has.end had.end h.last other.last read had.whole has.last_is had.last_is in
      let tables : HoldTables wild id other.last.tables h.texts = subst (λ (r : Fields). HoldTables wild id r.tables h.texts) last has.tables in
      let whole : AreSized other.last.tables h.texts = subst (λ (r : Fields). AreSized r.tables h.texts) last all in
      let texts = same_tables id other.last.tables h.texts other.texts tables had.tables whole sized in
      record {
        current = has.current;
        end = has.end;
        whole = subst (λ (rs : List Fields). IsRecords (records_text wild id) rs has.end) same has.whole;
        last_is = had.last_is;
        tables = subst (λ (l : List (List ℕ)). HoldTables wild id other.last.tables l) texts tables;
      }

  home_front : (id : ℕ) (h other : Home) → HasOpenableHome wild id h → HasOpenableHome cut id other → HasOpenableHome wild id other
  home_front id h other has had = record {
    records = had.records;
    home = record {
      folder = has.home.folder;
      files = files_front id has.records had.records h other has.home.files had.home.files (sized_by h.last.tables h.texts has.indexes has.indexed) (sized_by other.last.tables other.texts had.indexes had.indexed);
    };
    indexes = had.indexes;
    indexed = had.indexed;
    clears = had.clears;
  }

  home_at : (id : ℕ) (k : Option LivingKeyspace) (h other : Option Home) → HasHomeAt wild id k h → HasHomeAt cut id k other → HasHomeAt wild id k other
  home_at id (Some k) (Some h) (Some other) has had = home_front id h other has had
  home_at id (Some k) (Some h) None has had = absurd had
  home_at id (Some k) None other has had = absurd has
  home_at id None (Some h) other has had = absurd has
  home_at id None None (Some other) has had = absurd had
  home_at id None None None has had = tt

  pub homes_front : (living : List LivingKeyspace) (homes others : Homes) → HaveHomes wild living homes → HaveHomes cut living others → HaveHomes wild living others
  homes_front living homes others have had id = home_at id (keyspace_at id living) (get homes id) (get others id) (have id) (had id)

  pub catalog_front : (records others : List Fields) (last other : Catalog) (s t : Keyspaces) → Says wild records last s → Says cut others other t → Says wild others other t
  catalog_front records others last other s t says said = record {
    texts = said.texts;
    files = files_front 0 records others (home_of last says.texts) (home_of other said.texts) says.files said.files (sized_pairs last.table says.texts _ says.pairs) (sized_pairs other.table said.texts _ said.pairs);
    pairs = said.pairs;
    next = said.next;
    are = said.are;
  }
