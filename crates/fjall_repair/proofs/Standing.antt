-- What may stand at a name, and what a crash leaves of it.
use Rattle.std.proofs.Common.{◌≡◌, inl, inr, ⊎_elim, ℕ, Bool, true, false, List, [], ◌∷◌, ◌++◌, length, take, drop, codes, Some, Ok, refl, sym, ◌∙◌, ap, subst, arith, append_assoc, take-append-drop}
use Rattle.std.proofs.lemmas.List.{append-nil, take_all}
use Rattle.std.specs.List.{AllByRecursion}
use Rattle.fjall_base.specs.Disk.{Name, DiskEntry, Missing, File, Folder, DiskState, Image, IsImage, Survives, SomeSurvives, all_synced, appended, cut_to, loosened, folder_of}
use Rattle.fjall_files.specs.Texts.{text_in}
use Rattle.fjall_journal.specs.Batches.{NoneAt}
use Rattle.fjall_journal.proofs.Cuts.{none_at_nil}
use Rattle.fjall_manifest.proofs.Currents.{texts_are_records}
use Rattle.fjall_files.specs.declared.marker.Marker.TheVariants.{Unfinished}
use Rattle.fjall_files.specs.Marker.{marker_tells}
use Rattle.fjall_files.specs.Names.{IsNameOf, journal_name, keyspace_folder, current_name}
use Rattle.fjall_recovery.specs.Folders.{IsBegun, IsUnfinished, file_bytes}
use Rattle.fjall_recovery.proofs.Holding.{there_or_not}
use Rattle.fjall_repair.specs.Making.{CanHold, IsKept, IsMaking, MayMark, MayStand}
use Rattle.fjall_repair.proofs.Fronts.{begun_front, mark_front, marks_more, no_file_marks, none_front}

-- ---- entries

-- a file with a beginning of the bytes
pub stands_front : (marking : Bool) (name : Name) (a b c d more : List ℕ) → (c ++ d) ++ more ≡ a ++ b → MayStand marking name (File a b) → MayStand marking name (File c d)
stands_front marking name a b c d more at stands = record {
  marker = λ is. mark_front marking (c ++ d) more (subst (λ (l : List ℕ). MayMark marking (Some l)) (sym at) (stands.marker is));
  named = λ root file. stands.named root tt;
  journal = λ id small is. none_front (c ++ d) more (subst NoneAt (sym at) (stands.journal id small is));
  folder = λ inside is. (let no : File c d ≡ Folder = is in cc);
  records = λ is. begun_front (c ++ d) more (subst IsBegun (sym at) (stands.records is));
}

-- the same bytes, synced or not
pub stands_same : (marking : Bool) (name : Name) (a b c d : List ℕ) → c ++ d ≡ a ++ b → MayStand marking name (File a b) → MayStand marking name (File c d)
stands_same marking name a b c d at stands = stands_front marking name a b c d [] (append-nil (c ++ d) ∙ at) stands

nothing_begun : IsBegun []
nothing_begun = record {
  records = [];
  end = 0;
  whole = texts_are_records [] tt;
  first = inl refl;
}

pub missing_stands : (marking : Bool) (name : Name) → MayStand marking name Missing
missing_stands marking name = record {
  marker = λ is. no_file_marks marking;
  named = λ root file. absurd file;
  journal = λ id small is. none_at_nil;
  folder = λ inside is. (let no : Missing ≡ Folder = is in cc);
  records = λ is. nothing_begun;
}

pub folder_stands : (marking : Bool) (name : Name) → (folder_of name ≡ codes "keyspaces" → (id : ℕ) × IsNameOf keyspace_folder name id) → MayStand marking name Folder
folder_stands marking name named = record {
  marker = λ is. no_file_marks marking;
  named = λ root file. absurd file;
  journal = λ id small is. none_at_nil;
  folder = λ inside is not. (let of = named inside in not of.0 of.1);
  records = λ is. nothing_begun;
}

-- what a crash leaves of an entry
pub stands_left : (marking : Bool) (name : Name) (entry left : DiskEntry) → MayStand marking name entry → Survives entry left → MayStand marking name left
stands_left marking name Missing left stands is = subst (MayStand marking name) (sym is) stands
stands_left marking name Folder left stands is = subst (MayStand marking name) (sym is) stands
stands_left marking name (File synced unsynced) left stands (n, is) =
    let front = synced ++ take n unsynced in
    let at : (front ++ []) ++ drop n unsynced ≡ synced ++ unsynced =
    ap (λ (l : List ℕ). l ++ drop n unsynced) (append-nil front) ∙ append_assoc synced (take n unsynced) (drop n unsynced) ∙ ap (λ (l : List ℕ). synced ++ l) (take-append-drop n unsynced) in
    subst (MayStand marking name) (sym is) (stands_front marking name synced unsynced front [] (drop n unsynced) at stands)

pub some_left : (marking : Bool) (name : Name) (entries : List DiskEntry) (left : DiskEntry) → AllByRecursion (MayStand marking name) entries → SomeSurvives entries left → MayStand marking name left
some_left marking name [] left all none = absurd none
some_left marking name (entry ∷ entries) left all (inl here) = stands_left marking name entry left all.0 here
some_left marking name (entry ∷ entries) left all (inr later) = some_left marking name entries left all.1 later

pub stands_more : (name : Name) (entry : DiskEntry) → MayStand false name entry → MayStand true name entry
stands_more name entry stands = record {
  marker = λ is. marks_more (file_bytes entry) (stands.marker is);
  named = stands.named;
  journal = stands.journal;
  folder = stands.folder;
  records = stands.records;
}

-- ---- entries that a step changed

pub synced_stands : (marking : Bool) (name : Name) (entry : DiskEntry) → MayStand marking name entry → MayStand marking name (all_synced entry)
synced_stands marking name Missing stands = stands
synced_stands marking name Folder stands = stands
synced_stands marking name (File synced unsynced) stands = stands_same marking name synced unsynced (synced ++ unsynced) [] (append-nil (synced ++ unsynced)) stands

pub loosened_stands : (marking : Bool) (name : Name) (len : ℕ) (entry : DiskEntry) → MayStand marking name entry → MayStand marking name (loosened len entry)
loosened_stands marking name len Missing stands = stands
loosened_stands marking name len Folder stands = stands
loosened_stands marking name len (File synced unsynced) stands =
    stands_same marking name synced unsynced (take len synced) (drop len synced ++ unsynced)
    (sym (append_assoc (take len synced) (drop len synced) unsynced) ∙ ap (λ (l : List ℕ). l ++ unsynced) (take-append-drop len synced)) stands

pub cut_stands : (marking : Bool) (name : Name) (len : ℕ) (entry : DiskEntry) → MayStand marking name entry → MayStand marking name (cut_to len entry)
cut_stands marking name len Missing stands = stands
cut_stands marking name len Folder stands = stands
cut_stands marking name len (File synced unsynced) stands =
    let all = synced ++ unsynced in
    stands_front marking name synced unsynced (take len all) [] (drop len all) (ap (λ (l : List ℕ). l ++ drop len all) (append-nil (take len all)) ∙ take-append-drop len all) stands

-- bytes that it can hold, in a file that was empty
pub appended_stands : (marking : Bool) (name : Name) (bytes : List ℕ) (n : ℕ) (entry : DiskEntry) → CanHold marking name bytes → text_in entry ≡ [] → MayStand marking name entry → MayStand marking name (appended (take n bytes) entry)
appended_stands marking name bytes n Missing can none stands = stands
appended_stands marking name bytes n Folder can none stands = stands
appended_stands marking name bytes n (File synced unsynced) can none stands =
    stands_same marking name (take n bytes) [] synced (unsynced ++ take n bytes)
    (sym (append_assoc synced unsynced (take n bytes)) ∙ ap (λ (l : List ℕ). l ++ take n bytes) none ∙ sym (append-nil (take n bytes))) (can.each n)

pub all_appended_stands : (marking : Bool) (name : Name) (bytes : List ℕ) (entry : DiskEntry) → CanHold marking name bytes → text_in entry ≡ [] → MayStand marking name entry → MayStand marking name (appended bytes entry)
all_appended_stands marking name bytes entry can none stands =
    subst (λ (l : List ℕ). MayStand marking name (appended l entry)) (take_all (length bytes) bytes (omega arith)) (appended_stands marking name bytes (length bytes) entry can none stands)

-- an empty file
pub empty_stands : (marking : Bool) (name : Name) (bytes : List ℕ) → CanHold marking name bytes → MayStand marking name (File [] [])
empty_stands marking name bytes can = can.each 0

-- ---- images

pub unfinished_of : (image : Image) → IsMaking false image → IsUnfinished image
unfinished_of image making = record {
  marker = (making (codes "version")).marker refl;
  journals_named = λ name root file misnamed. (making name).named root file misnamed;
  journals = λ id small. (making (journal_name id)).journal id small refl;
  keyspaces_named = λ name inside is not. (making name).folder inside is not;
  catalog = (making (current_name 0)).records refl;
}

pub making_of : (image : Image) → IsUnfinished image → IsMaking false image
making_of image u name = record {
  marker = λ is. subst (λ (n : Name). marker_tells (file_bytes (image n)) ≡ Ok Unfinished) (sym is) u.marker;
  named = λ root file misnamed. u.journals_named name root file misnamed;
  journal = λ id small is. subst (λ (n : Name). NoneAt (text_in (image n))) (sym is) (u.journals id small);
  folder = λ inside is not. u.keyspaces_named name inside is not;
  records = λ is. subst (λ (n : Name). IsBegun (text_in (image n))) (sym is) u.catalog;
}

-- whatever a crash leaves of a state that is kept
pub kept_image : (marking : Bool) (state : DiskState) (image : Image) → IsKept marking state → IsImage state image → IsMaking marking image
kept_image marking state image kept is name = ⊎_elim
    (λ there. some_left marking name ((state name).now ∷ (state name).older) (image name) (kept.now name, kept.older name) (is.kept name there))
    (λ gone. subst (MayStand marking name) (sym (is.lost name gone)) (missing_stands marking name))
    (there_or_not image (folder_of name))

pub kept_more : (state : DiskState) → IsKept false state → IsKept true state
kept_more state kept = record {
  now = λ name. stands_more name (state name).now (kept.now name);
  older = λ name. all_more name (state name).older (kept.older name);
}
  where
    all_more : (name : Name) (entries : List DiskEntry) → AllByRecursion (MayStand false name) entries → AllByRecursion (MayStand true name) entries
    all_more name [] all = tt
    all_more name (entry ∷ entries) all = (stands_more name entry all.0, all_more name entries all.1)
