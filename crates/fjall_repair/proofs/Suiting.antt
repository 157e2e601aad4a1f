-- The plan for a folder that was read suits it.
use Rattle.std.proofs.Common.{◌≡◌, inl, inr, ⊎_elim, ℕ, ◌≤◌, Bool, true, false, List, [], ◌∷◌, ◌++◌, length, drop, map, Some, nat_lt, string_bytes, refl, sym, ◌∙◌, ap, subst, arith}
use Rattle.std.specs.List.{AllByRecursion}
use Rattle.std.proofs.lemmas.List.{length-drop}
use Rattle.std.proofs.lemmas.Bool.Decides.{nat_tests}
use Rattle.fjall_base.specs.Disk.{Name, DiskEntry, Image, IsFile}
use Rattle.fjall_journal.specs.Batches.{IsWhole, IsTail}
use Rattle.fjall_manifest.specs.Records.{Fields, IsRecords}
use Rattle.fjall_base.specs.Lists.{last_of}
use Rattle.fjall_manifest.proofs.Currents.{one_reading}
use Rattle.fjall_files.specs.Names.{journal_name, current_name}
use Rattle.fjall_meta.specs.Keyspaces.{Keyspaces}
use Rattle.fjall_meta.specs.declared.living.LivingKeyspace.{LivingKeyspace}
use Rattle.fjall_recovery.specs.declared.folder.RecoveredFolder.{RecoveredFolder}
use Rattle.fjall_manifest.specs.declared.reading.LoadedHome.{LoadedHome}
use Rattle.fjall_recovery.specs.Folders.{Contents, IsFinished, IsOpenable, ShowsContents}
use Rattle.fjall_recovery.specs.Homes.{AreHomesRead}
use Rattle.fjall_recovery.specs.Journals.{WholeJournal, AreJournalIds, EndsAt, HoldsJournals, journal_text, tail_of}
use Rattle.fjall_recovery.proofs.Alone.{one_list_of_journals}
use Rattle.fjall_recovery.specs.Places.{texts_of}
use Rattle.fjall_repair.specs.declared.mending.plan.FileEnd.{FileEnd}
use Rattle.fjall_repair.specs.declared.mending.plan.MendPlan.{MendPlan}
use Rattle.fjall_repair.specs.Steps.{End, IsMendPlan, IsOpened, IsRightEnd, IsTreeEnd, Suits, active_of, end_of, ended_names, folder_names, home_end, opened, tree_end, whole_names, with_active}
use Rattle.fjall_repair.specs.Mended.{IsMendingOf}
use Rattle.fjall_base.specs.declared.error.Error.{Error}
use Rattle.fjall_manifest.specs.Catalog.{records_in}
use Rattle.std.specs.Prelude.{◌↔◌, ◌<◌, IfOk, IsTrue, Result, Ok, Err}
use Rattle.fjall_files.specs.Texts.{text_in}
use Rattle.fjall_repair.proofs.Naming.{journal_current}
use Rattle.fjall_repair.proofs.Cutting.{whole_length}
use Rattle.fjall_repair.proofs.MendOpened.{active_there, ids_of}
use Rattle.fjall_repair.proofs.Rested.{active_parted, last_parted, parted}
use Rattle.fjall_repair.proofs.Carrying.{name_of_end}

-- ---- journals

-- the journals that were read are those of the folder, and they end there
pub ends_found : (image : Image) (f : RecoveredFolder) (c : Contents) → IsOpenable image c → IsFinished image f → EndsAt image c.journals f.journals.end f.journals.torn
ends_found image f c sound finished =
    let found = finished.journals in
    let holds : HoldsJournals image found.journals = record { ids = subst (AreJournalIds image) (sym found.named) finished.journal_ids; read = found.read; sound = found.gathers.sound } in
    subst (λ (js : List WholeJournal). EndsAt image js f.journals.end f.journals.torn) (one_list_of_journals image found.journals c.journals holds sound.journals) found.ends

pub ends_last : (image : Image) (front : List WholeJournal) (a : WholeJournal) (end : ℕ) (torn : Bool) → EndsAt image (front ++ a ∷ []) end torn → IsWhole (journal_text image a.id) a.batches end × IsTail (drop end (journal_text image a.id)) (tail_of torn)
ends_last image [] a end torn ends = ends
ends_last image (j ∷ []) a end torn ends = ends
ends_last image (j ∷ k ∷ front) a end torn ends = ends_last image (k ∷ front) a end torn ends

-- where the last journal's whole batches end, their texts do
pub ends_length : (image : Image) (js : List WholeJournal) (end : ℕ) (torn : Bool) → EndsAt image js end torn → (journal : WholeJournal) → last_of (opened js) ≡ Some journal → length (texts_of journal.batches) ≡ end
ends_length image [] end torn ends journal last =
    let first : WholeJournal = record { id = 1; batches = [] } in
    let one : Some journal ≡ Some first = sym last in
    let same : journal ≡ first = cc in
    ap (λ (j : WholeJournal). length (texts_of j.batches)) same ∙ sym ends.0
ends_length image (j ∷ js) end torn ends journal last =
    let p = parted j js in
    let one : Some journal ≡ Some p.active = sym last ∙ last_parted (j ∷ js) p in
    let same : journal ≡ p.active = cc in
    let whole = (ends_last image p.sealed p.active end torn (subst (λ (l : List WholeJournal). EndsAt image l end torn) p.is ends)).0 in
    ap (λ (k : WholeJournal). length (texts_of k.batches)) same ∙ sym (whole_length (journal_text image p.active.id) p.active.batches end whole)

untorn : (text : List ℕ) (end : ℕ) (torn : Bool) → IsTail (drop end text) (tail_of torn) → torn ≡ false → length text ≤ end
untorn text end true tail is = let bad : ⊥ = cc in absurd bad
untorn text end false tail is = let none = ap length tail in let l = length-drop end text in omega (arith, none, l)

module _ (image made : Image) (active : Name) (is : IsOpened image made active) where
  journal_right : (c : Contents) (js : List WholeJournal) (end : ℕ) (torn : Bool) → c.journals ≡ opened js → active ≡ journal_name (active_of (ids_of js)) → AreJournalIds image (ids_of js) → EndsAt image js end torn
      → IsRightEnd made c (record { name = active; cut = torn; len = end })
  journal_right c [] end torn journals named ids ends = ⊎_elim
      (λ was. let none = (ids.each 1).1 (omega arith, subst (λ (n : Name). IsFile (image n)) named was.0) in let lt = none.1 in absurd (omega (arith, lt)))
      (λ new.
      let first : WholeJournal = record { id = 1; batches = [] } in
      let count = ap (λ (e : DiskEntry). length (text_in e)) new.1 in
      record {
        file = subst IsFile (sym new.1) tt;
        kind = inl (record { journal = first; last = ap last_of journals; named = named; is = ends.0 });
        uncut = λ not. omega (arith, count);
        long = (let none = ends.0 in omega (arith, none));
      }) is.here
  journal_right c (j ∷ js) end torn journals named ids ends = ⊎_elim
      (λ was.
      let p = parted j js in
      let at : active ≡ journal_name p.active.id = named ∙ ap journal_name (active_parted (j ∷ js) p) in
      let here = ends_last image p.sealed p.active end torn (subst (λ (l : List WholeJournal). EndsAt image l end torn) p.is ends) in
      let text : text_in (made active) ≡ journal_text image p.active.id = ap text_in (was.1 ∙ ap image at) in
      let count = ap length text in
      record {
        file = subst IsFile (sym was.1) was.0;
        kind = inl (record { journal = p.active; last = ap last_of journals ∙ last_parted (j ∷ js) p; named = at; is = whole_length (journal_text image p.active.id) p.active.batches end here.0 });
        uncut = λ not. (let le = untorn (journal_text image p.active.id) end torn here.1 not in omega (arith, le, count));
        long = (let le = here.0.within in omega (arith, le, count));
      })
      (λ new. absurd (subst IsFile new.0 (subst (λ (n : Name). IsFile (image n)) (sym named) (active_there image j.id (ids_of js) ids)))) is.here

  -- ---- records

  module _ (active_id : ℕ) (named : active ≡ journal_name active_id) where
    current_same : (id : ℕ) → made (current_name id) ≡ image (current_name id)
    current_same id = is.elsewhere (current_name id) (λ same. journal_current active_id id (sym named ∙ sym same))

    -- an end of the records of this keyspace
    records_right : (c : Contents) (id : ℕ) (e : End) (records : List Fields) → e.name ≡ current_name id → IsFile (image (current_name id)) → IsRecords (text_in (image (current_name id))) records e.len
        → (e.cut ≡ false → length (text_in (image (current_name id))) ≤ e.len) → IsRightEnd made c e
    records_right c id e records at file whole uncut =
        let same : image (current_name id) ≡ made e.name = sym (current_same id) ∙ ap made (sym at) in
        let count = ap (λ (d : DiskEntry). length (text_in d)) same in
        record {
          file = subst IsFile same file;
          kind = inr (record { id = id; named = at; records = records; whole = subst (λ (d : DiskEntry). IsRecords (text_in d) records e.len) same whole });
          uncut = λ not. (let le = uncut not in omega (arith, le, count));
          long = (let le = whole.within in omega (arith, le, count));
        }

    tree_right : (c d : Contents) (e : End) → IsOpenable image d → IsTreeEnd image e → IsRightEnd made c e
    tree_right c d e sound tree =
        let files = sound.catalog.files in
        records_right c 0 e sound.records tree.named files.current (subst (λ n. IsRecords (text_in (image (current_name 0))) sound.records n) (tree.is sound.records files.end files.whole) files.whole) tree.uncut

    not_less : (n m : ℕ) → nat_lt n m ≡ false → m ≤ n
    not_less n m is = grind (arith, nat_tests)

    homes_right : (c : Contents) (living : List LivingKeyspace) (homes : List LoadedHome) → AreHomesRead image living homes → AllByRecursion (IsRightEnd made c) (map home_end homes)
    homes_right c [] [] all = tt
    homes_right c [] (h ∷ homes) all = absurd all
    homes_right c (k ∷ living) [] all = absurd all
    homes_right c (k ∷ living) (h ∷ homes) all =
        let read = all.0.loaded in
        let at : home_end h ≡ record { name = current_name k.id; cut = nat_lt h.end h.len; len = h.end } = ap (λ id. let e : End = record { name = current_name id; cut = nat_lt h.end h.len; len = h.end } in e) read.named in
        let files = read.openable.files in
        let len = read.len_is in (
          records_right c k.id (home_end h) read.records (ap current_name read.named) files.current
              (subst (λ n. IsRecords (text_in (image (current_name k.id))) read.records n) (sym read.end_is) files.whole)
              (λ not. (let le = not_less h.end h.len not in omega (arith, le, len))),
          homes_right c living homes all.1,
        )

-- ---- names

pub same_ids : (image : Image) (living : List LivingKeyspace) (homes : List LoadedHome) → AreHomesRead image living homes → map (λ (h : LoadedHome). h.id) homes ≡ map (λ (k : LivingKeyspace). k.id) living
same_ids image [] [] all = refl
same_ids image [] (h ∷ homes) all = absurd all
same_ids image (k ∷ living) [] all = absurd all
same_ids image (k ∷ living) (h ∷ homes) all = ap (λ id. id ∷ map (λ (g : LoadedHome). g.id) homes) all.0.loaded.named ∙ ap (λ ids. k.id ∷ ids) (same_ids image living homes all.1)

names_of : (ends : List FileEnd) → map name_of_end ends ≡ map (λ (e : End). e.name) (map end_of ends)
names_of [] = refl
names_of (e ∷ ends) = ap (λ ns. string_bytes e.name ∷ ns) (names_of ends)

home_names : (homes : List LoadedHome) → map (λ (e : End). e.name) (map home_end homes) ≡ map current_name (map (λ (h : LoadedHome). h.id) homes)
home_names [] = refl
home_names (h ∷ homes) = ap (λ ns. current_name h.id ∷ ns) (home_names homes)

-- the names of all files that are ended
pub planned_names : (f : RecoveredFolder) (tree : End) (p : MendPlan) → tree.name ≡ current_name 0 → IsMendPlan f tree p → map name_of_end p.ends.items ≡ ended_names (active_of f.journal_ids.items) (map (λ (h : LoadedHome). h.id) f.homes.items)
planned_names f tree p named plan =
    names_of p.ends.items ∙ ap (map (λ (e : End). e.name)) plan.ends
    ∙ ap (λ (n : Name). journal_name (active_of f.journal_ids.items) ∷ n ∷ map (λ (e : End). e.name) (map home_end f.homes.items)) named
    ∙ ap (λ ns. journal_name (active_of f.journal_ids.items) ∷ current_name 0 ∷ ns) (home_names f.homes.items)

-- ---- the plan

-- where no bytes stand behind the end, there are no more than up to it
not_torn : (torn : Bool) (end len : ℕ) → torn ≡ false → (IsTrue torn ↔ (end < len)) → len ≤ end
not_torn torn end len not is = grind (arith, nat_tests)

-- the end of tree 0's records that was read is right
tree_ends : (image : Image) (f : RecoveredFolder) → IsFinished image f → IsTreeEnd image (tree_end f.catalog)
tree_ends image f read = record {
  named = refl;
  is = λ records end whole. (one_reading (records_in image) records read.end.records end f.catalog.end whole read.end.whole).1;
  uncut = λ not. not_torn f.catalog.is_torn f.catalog.end (length (records_in image)) not read.end.torn;
}

-- so a plan for the folder that was read is one of the image
pub plan_is : (image : Image) (f : RecoveredFolder) (result : Result MendPlan Error) → IsFinished image f → IfOk result (IsMendPlan f (tree_end f.catalog)) → IfOk result (IsMendingOf image f)
plan_is image f (Ok p) read is = (tree_end f.catalog, tree_ends image f read, is)
plan_is image f (Err e) read is = tt

pub suits : (image : Image) (f : RecoveredFolder) (c : Contents) (tree : End) (p : MendPlan) → IsOpenable image c → IsFinished image f → ShowsContents f c → IsTreeEnd image tree → IsMendPlan f tree p → Suits image c p
suits image f c tree p sound finished shows tree_end plan =
    let ids : f.journal_ids.items ≡ ids_of c.journals = shows.ids in
    let living : map (λ (h : LoadedHome). h.id) f.homes.items ≡ map (λ (k : LivingKeyspace). k.id) c.keyspaces.living =
    same_ids image f.catalog.keyspaces.living f.homes.items finished.homes ∙ ap (λ (s : Keyspaces). map (λ (k : LivingKeyspace). k.id) s.living) shows.keyspaces in
    let active : string_bytes p.active ≡ journal_name (active_of (ids_of c.journals)) = plan.active ∙ ap (λ l. journal_name (active_of l)) ids in
    record {
      active = active;
      folders = plan.folders ∙ ap folder_names living;
      whole = plan.whole ∙ ap whole_names ids;
      ended = planned_names f tree p tree_end.named plan ∙ ap (λ l. ended_names (active_of l) (map (λ (h : LoadedHome). h.id) f.homes.items)) ids ∙ ap (λ l. ended_names (active_of (ids_of c.journals)) l) living;
      right = λ made is. subst (AllByRecursion (IsRightEnd made (with_active c))) (sym plan.ends) (
        subst (λ (n : Name). IsRightEnd made (with_active c) (let e : End = record { name = n; cut = f.journals.torn; len = f.journals.end } in e)) plan.active
            (journal_right image made (string_bytes p.active) is (with_active c) c.journals f.journals.end f.journals.torn refl active sound.journals.ids (ends_found image f c sound finished)),
        (
          tree_right image made (string_bytes p.active) is (active_of (ids_of c.journals)) active (with_active c) c tree sound tree_end,
          homes_right image made (string_bytes p.active) is (active_of (ids_of c.journals)) active (with_active c) f.catalog.keyspaces.living f.homes.items finished.homes,
        ),
      );
    }
