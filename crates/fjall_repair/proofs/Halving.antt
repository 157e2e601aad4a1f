-- What a folder in which an opening finds nothing wrong says of its root and of its keyspaces, and images in which these stand alike.
use Rattle.std.proofs.Common.{◌≡◌, inl, inr, ℕ, List, [], ◌∷◌, codes, refl, sym, ◌∙◌, ap, subst}
use Rattle.fjall_base.specs.Disk.{Name, DiskEntry, Folder, Image, IsFile}
use Rattle.fjall_journal.specs.declared.batch.Tail.TheVariants.{Clean, Torn}
use Rattle.fjall_table.specs.declared.table_info.TableInfo.{TableInfo}
use Rattle.fjall_manifest.specs.Records.{Fields, IsRecords}
use Rattle.fjall_files.specs.Texts.{text_in}
use Rattle.fjall_files.specs.Marker.{marker_tells}
use Rattle.fjall_files.specs.Names.{journal_name, keyspace_folder, current_name, table_name}
use Rattle.fjall_manifest.specs.Homes.{HasFiles, HoldTables, Home, records_text}
use Rattle.fjall_manifest.specs.Catalog.{Says, home_of}
use Rattle.fjall_recovery.specs.Folders.{AreMade, Contents, IsOpenable, file_bytes}
use Rattle.fjall_recovery.specs.Homes.{HasOpenableHome, HaveHomes}
use Rattle.fjall_recovery.specs.Journals.{WholeJournal, ReadsAs, AreJournalsRead, journal_text}
use Rattle.fjall_recovery.specs.Halves.{HasRoot, Tree}
use Rattle.fjall_recovery.specs.Naming.{KeyspacesAreNamed}
use Rattle.fjall_repair.proofs.Cutting.{Lasts}
use Rattle.fjall_repair.proofs.Living.{have_along}
pub use Rattle.fjall_recovery.proofs.Holding.{tree_of, root_of}

-- ---- the keyspaces

-- the keyspaces of an image in which an opening finds nothing wrong
pub record HasOpenTree (image : Image) (t : Tree) : Type 0 where
  pub named : KeyspacesAreNamed image
  pub folder : image (keyspace_folder 0) ≡ Folder
  pub records : List Fields
  pub catalog : Says image records t.last t.keyspaces
  pub made : AreMade t.last t.keyspaces
  pub homes : HaveHomes image t.keyspaces.living t.homes

pub open_tree_in : (image : Image) (c : Contents) → IsOpenable image c → HasOpenTree image (tree_of c)
open_tree_in image c sound = record {
  named = sound.keyspaces_named;
  folder = sound.folder;
  records = sound.records;
  catalog = sound.catalog;
  made = sound.made;
  homes = sound.homes;
}

-- both halves make a folder
pub open_of : (image : Image) (c : Contents) → HasRoot image c.journals → HasOpenTree image (tree_of c) → IsOpenable image c
open_of image c root tree = record {
  marker = root.marker;
  journals_named = root.named;
  journals = root.holds;
  keyspaces_named = tree.named;
  folder = tree.folder;
  records = tree.records;
  catalog = tree.catalog;
  made = tree.made;
  homes = tree.homes;
}

-- ---- kinds of entries

pub file_is : (e d : DiskEntry) → e ≡ d → IsFile e → IsFile d
file_is e d is file = subst IsFile is file

pub no_folder : (e : DiskEntry) → IsFile e → e ≡ Folder → ⊥
no_folder e file is = subst IsFile is file

module _ (image other : Image) where
  -- ---- a root in which all stands alike but files that are gone

  read_along : (journals : List WholeJournal) → ((id : ℕ) → other (journal_name id) ≡ image (journal_name id)) → AreJournalsRead image journals → AreJournalsRead other journals
  read_along [] alike read = tt
  read_along (j ∷ []) alike read =
      let text : journal_text image j.id ≡ journal_text other j.id = ap text_in (sym (alike j.id)) in
      elim read [ inl clean ↦ inl (subst (λ t. ReadsAs t j.batches Clean) text clean) | inr torn ↦ inr (subst (λ t. ReadsAs t j.batches Torn) text torn) ]
  read_along (j ∷ k ∷ journals) alike read =
      let text : journal_text image j.id ≡ journal_text other j.id = ap text_in (sym (alike j.id)) in
      (subst (λ t. ReadsAs t j.batches Clean) text read.0, read_along (k ∷ journals) alike read.1)

  pub root_along : (journals : List WholeJournal) → other (codes "version") ≡ image (codes "version") → ((id : ℕ) → other (journal_name id) ≡ image (journal_name id))
      → ((q : Name) → IsFile (other q) → IsFile (image q)) → HasRoot image journals → HasRoot other journals
  root_along journals marker alike back root = record {
    marker = ap (λ (e : DiskEntry). marker_tells (file_bytes e)) marker ∙ root.marker;
    named = λ name in_root file. root.named name in_root (back name file);
    holds = record {
      ids = record {
        ascending = root.holds.ids.ascending;
        each = λ id. (
          (λ has. let at = (root.holds.ids.each id).0 has in (at.0, file_is _ _ (sym (alike id)) at.1)),
          (λ at. (root.holds.ids.each id).1 (at.0, file_is _ _ (alike id) at.1)),
        );
      };
      read = read_along journals alike root.holds.read;
      sound = root.holds.sound;
    };
  }

  -- ---- keyspaces in which all that counts says the same

  tables_along : (id : ℕ) → ((n : ℕ) → other (table_name id n) ≡ image (table_name id n)) → (tables : List TableInfo) (texts : List (List ℕ)) → HoldTables image id tables texts → HoldTables other id tables texts
  tables_along id alike [] [] holds = tt
  tables_along id alike [] (bytes ∷ texts) holds = absurd holds
  tables_along id alike (t ∷ tables) [] holds = absurd holds
  tables_along id alike (t ∷ tables) (bytes ∷ texts) holds =
      (subst (λ (e : DiskEntry). IsFile e × (text_in e ≡ bytes)) (sym (alike t.id)) holds.0, tables_along id alike tables texts holds.1)

  -- the same folders and tables are there, and the records may have changed, where they say the same
  pub record SaysSame : Type 0 where
    pub back : (q : Name) → other q ≡ Folder → image q ≡ Folder
    pub stays : (q : Name) → image q ≡ Folder → other q ≡ Folder
    pub files : (id : ℕ) → IsFile (image (current_name id)) → IsFile (other (current_name id))
    pub lasts : (id : ℕ) (records : List Fields) (end : ℕ) → IsRecords (records_text image id) records end → Lasts (records_text other id) records
    pub tables : (id n : ℕ) → other (table_name id n) ≡ image (table_name id n)

  files_along : SaysSame → (id : ℕ) (records : List Fields) (h : Home) → HasFiles image id records h → (others : List Fields) × HasFiles other id others h
  files_along same id records h has =
      let l = same.lasts id records has.end has.whole in (
        l.records,
        record {
          current = same.files id has.current;
          end = l.end;
          whole = l.whole;
          last_is = l.is ∙ has.last_is;
          tables = tables_along id (same.tables id) h.last.tables h.texts has.tables;
        },
      )

  home_along : SaysSame → (id : ℕ) (h : Home) → HasOpenableHome image id h → HasOpenableHome other id h
  home_along same id h has =
      let files = files_along same id has.records h has.home.files in
      record {
        records = files.0;
        home = record { folder = same.stays (keyspace_folder id) has.home.folder; files = files.1 };
        indexes = has.indexes;
        indexed = has.indexed;
        clears = has.clears;
      }

  pub tree_with : (t : Tree) → SaysSame → HasOpenTree image t → HasOpenTree other t
  tree_with t same tree =
      let files = files_along same 0 tree.records (home_of t.last tree.catalog.texts) tree.catalog.files in
      record {
        named = λ name inside folder none. tree.named name inside (same.back name folder) none;
        folder = same.stays (keyspace_folder 0) tree.folder;
        records = files.0;
        catalog = record { texts = tree.catalog.texts; files = files.1; pairs = tree.catalog.pairs; next = tree.catalog.next; are = tree.catalog.are };
        made = tree.made;
        homes = have_along image t.keyspaces.living t.homes other (λ id h lives has. home_along same id h has) tree.homes;
      }

  pub tree_along : (t : Tree) → ((q : Name) → other q ≡ Folder → image q ≡ Folder) → ((q : Name) → image q ≡ Folder → other q ≡ Folder)
      → ((id : ℕ) → other (current_name id) ≡ image (current_name id)) → ((id n : ℕ) → other (table_name id n) ≡ image (table_name id n)) → HasOpenTree image t → HasOpenTree other t
  tree_along t back stays currents tables = tree_with t (record {
    back = back;
    stays = stays;
    files = λ id. file_is _ _ (sym (currents id));
    lasts = λ id records end whole. record { records = records; end = end; whole = subst (λ (e : DiskEntry). IsRecords (text_in e) records end) (sym (currents id)) whole; is = refl };
    tables = tables;
  })
