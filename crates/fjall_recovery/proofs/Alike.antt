-- Images in which all that counts reads alike.
use Rattle.std.proofs.Common.{◌≡◌, inl, inr, ℕ, ◌<◌, ◌^◌, List, [], ◌∷◌, ◌++◌, codes, Some, refl, sym, ◌∙◌, ap, subst}
use Rattle.std.proofs.lemmas.List.{append-nil}
use Rattle.std.specs.Prelude.{◌↔◌}
use Rattle.std.specs.List.{AllByRecursion}
use Rattle.fjall_base.specs.Store.{Store, Command}
use Rattle.fjall_base.specs.Disk.{Name, DiskEntry, Missing, File, Folder, DiskState, Image, IsFile, IsImage, all_synced, standing}
use Rattle.fjall_base.specs.Crash.{IsHoused}
use Rattle.fjall_base.proofs.Wholes.{all_kept, all_kept-is, all_kept_is_left}
use Rattle.fjall_files.specs.Texts.{text_in}
use Rattle.fjall_journal.specs.declared.batch.Tail.TheVariants.{Clean, Torn}
use Rattle.fjall_journal.specs.Batches.{NoneAt}
use Rattle.fjall_table.specs.declared.table_info.TableInfo.{TableInfo}
use Rattle.fjall_manifest.specs.Records.{IsRecords}
use Rattle.fjall_files.specs.Marker.{marker_tells}
use Rattle.fjall_files.specs.Names.{journal_name, keyspace_folder, current_name, table_name}
use Rattle.fjall_meta.specs.declared.living.LivingKeyspace.{LivingKeyspace}
use Rattle.fjall_meta.specs.Entries.{entries_of}
use Rattle.fjall_manifest.specs.Homes.{HoldTables, Home}
use Rattle.fjall_manifest.specs.Catalog.{HoldsEntries, listed}
use Rattle.fjall_manifest.specs.Catalog as catalog
use Rattle.fjall_recovery.specs.Folders.{Contents, ImageStandsFor, IsBegun, IsOpenable, IsUnfinished, file_bytes}
use Rattle.fjall_recovery.specs.Homes.{HasOpenableHome, HaveHomes, Homes}
use Rattle.fjall_recovery.proofs.Housing.{homes_alike}
use Rattle.fjall_recovery.specs.Journals.{WholeJournal, ReadsAs, AreJournalsRead, journal_text}
use Rattle.fjall_recovery.specs.Naming.{JournalsAreNamed, KeyspacesAreNamed}
use Rattle.fjall_recovery.specs.Amid.{StandsAmid}

-- ---- by what counts

-- these journals read alike
pub read_by : (image other : Image) (journals : List WholeJournal) → AllByRecursion (λ (j : WholeJournal). journal_text other j.id ≡ journal_text image j.id) journals → AreJournalsRead image journals → AreJournalsRead other journals
read_by image other [] texts read = tt
read_by image other (j ∷ []) texts read =
    elim read [ inl clean ↦ inl (subst (λ t. ReadsAs t j.batches Clean) (sym texts.0) clean) | inr torn ↦ inr (subst (λ t. ReadsAs t j.batches Torn) (sym texts.0) torn) ]
read_by image other (j ∷ k ∷ journals) texts read = (subst (λ t. ReadsAs t j.batches Clean) (sym texts.0) read.0, read_by image other (k ∷ journals) texts.1 read.1)

-- An opening finds nothing wrong in an image where its marker, its journals and its records are those of another one that it finds right, and its table and its homes say the same.
pub sound_by : (image other : Image) (c : Contents) → IsOpenable image c → file_bytes (other (codes "version")) ≡ file_bytes (image (codes "version")) → JournalsAreNamed other
    → ((id : ℕ) → id < 2 ^ 64 → IsFile (other (journal_name id)) ↔ IsFile (image (journal_name id))) → AllByRecursion (λ (j : WholeJournal). journal_text other j.id ≡ journal_text image j.id) c.journals
    → KeyspacesAreNamed other → other (keyspace_folder 0) ≡ Folder → IsFile (other (current_name 0)) → catalog.records_in other ≡ catalog.records_in image
    → HoldsEntries other c.last.table (entries_of c.keyspaces.living) → HaveHomes other c.keyspaces.living c.homes → IsOpenable other c
sound_by image other c sound marker named files texts keyspaces folder file records entries homes = record {
  marker = ap marker_tells marker ∙ sound.marker;
  journals_named = named;
  journals = record {
    ids = record {
      ascending = sound.journals.ids.ascending;
      each = λ id. (
        (λ has. let at = (sound.journals.ids.each id).0 has in (at.0, (files id at.0).1 at.1)),
        (λ at. (sound.journals.ids.each id).1 (at.0, (files id at.0).0 at.1)),
      );
    };
    read = read_by image other c.journals texts sound.journals.read;
    sound = sound.journals.sound;
  };
  keyspaces_named = keyspaces;
  folder = folder;
  records = sound.records;
  catalog = record {
    texts = entries.0;
    files = record {
      current = file;
      end = sound.catalog.files.end;
      whole = subst (λ t. IsRecords t sound.records sound.catalog.files.end) (sym records) sound.catalog.files.whole;
      last_is = sound.catalog.files.last_is;
      tables = entries.1;
    };
    pairs = entries.2;
    next = sound.catalog.next;
    are = sound.catalog.are;
  };
  made = sound.made;
  homes = homes;
}

-- ---- everywhere

-- the two entries read alike
pub record Alike (e d : DiskEntry) : Type 0 where
  pub bytes : file_bytes d ≡ file_bytes e
  pub text : text_in d ≡ text_in e
  pub counted : text_in d ≡ text_in e
  pub file : IsFile e ↔ IsFile d
  pub folder : (e ≡ Folder) ↔ (d ≡ Folder)

-- an entry, and all its bytes synced
pub alike_synced : (e : DiskEntry) → Alike (all_synced e) e
alike_synced Missing = record { bytes = refl; text = refl; counted = refl; file = ((λ f. f), (λ f. f)); folder = ((λ f. f), (λ f. f)) }
alike_synced Folder = record { bytes = refl; text = refl; counted = refl; file = ((λ f. f), (λ f. f)); folder = ((λ f. f), (λ f. f)) }
alike_synced (File synced unsynced) = record {
  bytes = ap (λ l. Some l) (sym (append-nil (synced ++ unsynced)));
  text = sym (append-nil (synced ++ unsynced));
  counted = sym (append-nil (synced ++ unsynced));
  file = ((λ f. f), (λ f. f));
  folder = ((λ f. let no : ⊥ = cc in absurd no), (λ f. let no : ⊥ = cc in absurd no));
}

module _ (image other : Image) (alike : (q : Name) → Alike (image q) (other q)) where
  texts_all : (journals : List WholeJournal) → AllByRecursion (λ (j : WholeJournal). journal_text other j.id ≡ journal_text image j.id) journals
  texts_all [] = tt
  texts_all (j ∷ journals) = ((alike (journal_name j.id)).text, texts_all journals)

  tables_all : (id : ℕ) (tables : List TableInfo) (texts : List (List ℕ)) → HoldTables image id tables texts → HoldTables other id tables texts
  tables_all id [] [] hold = tt
  tables_all id [] (bytes ∷ texts) hold = absurd hold
  tables_all id (t ∷ tables) [] hold = absurd hold
  tables_all id (t ∷ tables) (bytes ∷ texts) hold =
      let at = alike (table_name id t.id) in
      ((at.file.0 hold.0.0, at.text ∙ hold.0.1), tables_all id tables texts hold.1)

  home_all : (id : ℕ) (h : Home) → HasOpenableHome image id h → HasOpenableHome other id h
  home_all id h has = record {
    records = has.records;
    home = record {
      folder = (alike (keyspace_folder id)).folder.0 has.home.folder;
      files = record {
        current = (alike (current_name id)).file.0 has.home.files.current;
        end = has.home.files.end;
        whole = subst (λ text. IsRecords text has.records has.home.files.end) (sym (alike (current_name id)).text) has.home.files.whole;
        last_is = has.home.files.last_is;
        tables = tables_all id h.last.tables h.texts has.home.files.tables;
      };
    };
    indexes = has.indexes;
    indexed = has.indexed;
    clears = has.clears;
  }

  homes_all : (living : List LivingKeyspace) (homes : Homes) → HaveHomes image living homes → HaveHomes other living homes
  homes_all living homes have = homes_alike (λ id. Unit {0}) living homes (λ k d lt. tt) image other (λ id h any has. home_all id h has) have

  named_all : JournalsAreNamed image → JournalsAreNamed other
  named_all named name in_root file = named name in_root ((alike name).file.1 file)

  keyspaces_all : KeyspacesAreNamed image → KeyspacesAreNamed other
  keyspaces_all named name inside folder = named name inside ((alike name).folder.1 folder)

  pub alike_sound : (c : Contents) → IsOpenable image c → IsOpenable other c
  alike_sound c sound = sound_by image other c sound (alike (codes "version")).bytes (named_all sound.journals_named) (λ id small. ((alike (journal_name id)).file.1, (alike (journal_name id)).file.0)) (texts_all c.journals)
      (keyspaces_all sound.keyspaces_named) ((alike (keyspace_folder 0)).folder.0 sound.folder) ((alike (current_name 0)).file.0 sound.catalog.files.current) (alike (current_name 0)).counted
      (sound.catalog.texts, tables_all 0 (listed c.last.table) sound.catalog.texts sound.catalog.files.tables, sound.catalog.pairs) (homes_all c.keyspaces.living c.homes sound.homes)

  pub alike_unfinished : IsUnfinished image → IsUnfinished other
  alike_unfinished begun = record {
    marker = ap marker_tells (alike (codes "version")).bytes ∙ begun.marker;
    journals_named = named_all begun.journals_named;
    journals = λ id small. subst NoneAt (sym (alike (journal_name id)).text) (begun.journals id small);
    keyspaces_named = keyspaces_all begun.keyspaces_named;
    catalog = subst IsBegun (sym (alike (current_name 0)).counted) begun.catalog;
  }

  pub alike_stands : (store : Store) → ImageStandsFor image store → ImageStandsFor other store
  alike_stands store (inl (c, sound, is)) = inl (c, record { openable = alike_sound c sound.openable; versions = sound.versions }, is)
  alike_stands store (inr (begun, is)) = inr (alike_unfinished begun, is)

-- ---- what stands

pub kept_alike : (state : DiskState) (q : Name) → Alike (all_kept state q) (standing state q)
kept_alike state q = subst (λ (e : DiskEntry). Alike e (state q).now) (sym (all_kept-is state q)) (alike_synced (state q).now)

-- Where whatever a crash leaves stands for the base and a beginning of the commands, what stands does.
pub standing_amid : (state : DiskState) (base : Store) (least all : List Command) → IsHoused state → ((image : Image) → IsImage state image → StandsAmid base least all image) → StandsAmid base least all (standing state)
standing_amid state base least all housed crash =
    let whole = crash (all_kept state) (all_kept_is_left state housed) in
    record { front = whole.front; holds = whole.holds; within = whole.within; stands = alike_stands (all_kept state) (standing state) (kept_alike state) _ whole.stands }
