-- The steps of a plan, one after another.
use Rattle.std.proofs.Common.{◌≡◌, inl, inr, ⊎_elim, ℕ, zero, suc, ◌+◌, ◌<◌, ◌≤◌, ◌^◌, List, [], ◌∷◌, ◌++◌, length, take, map, All, Some, Result, Ok, Err, String, Global, string_bytes, refl, sym, ◌∙◌, ap, subst, arith}
use Rattle.std.specs.Prelude.{Contains, OnOk}
use Rattle.std.specs.List.{AllByRecursion}
use Rattle.std.proofs.lemmas.List.{append-nil, length-take}
use Rattle.std.proofs.Math.Seq.{take-append-add}
use Rattle.fjall_base.specs.declared.error.Error.{Error}
use Rattle.fjall_base.specs.Disk.{Name, DiskEntry, Missing, File, Folder, Place, DiskState, Image, IsImage, IsFile, LeavesOnly, Meaning, Survives, SomeSurvives, all_synced, folder_of, standing, state_in}
use Rattle.fjall_base.proofs.Moments.{at_end, runs_on, weaken}
use Rattle.fjall_manifest.specs.Records.{IsRecords}
use Rattle.fjall_base.specs.Lists.{last_of}
use Rattle.fjall_files.specs.Texts.{text_in}
use Rattle.fjall_manifest.proofs.Currents as Currents
use Rattle.fjall_files.proofs.Tidying.{there_or_not}
use Rattle.fjall_files.specs.Names.{journal_name, keyspace_folder, current_name}
use Rattle.fjall_recovery.specs.Folders.{Contents, ImageStandsFor, IsOpenable, store_of_contents}
use Rattle.fjall_recovery.specs.Homes.{HaveVersions}
use Rattle.fjall_recovery.specs.Journals.{WholeJournal}
use Rattle.fjall_recovery.specs.Held.{Holds}
use Rattle.fjall_recovery.specs.Places.{texts_of}
use Rattle.fjall_repair.specs.declared.mending.plan.FileEnd.{FileEnd}
use Rattle.fjall_repair.specs.declared.mending.plan.MendPlan.{MendPlan}
use Rattle.fjall_repair.specs.Steps.{End, EndsWithRecords, IsEnded, IsOpened, IsRested, IsRightEnd, IsSame, IsSynced, Stays, Suits, active_of, end_of, ended_names, folder_names, opened, whole_names, with_active}
use Rattle.fjall_repair.proofs.Naming.{folder_of-current, folder_of-journal, journal_current}
use Rattle.fjall_repair.proofs.Cutting.{begin_records}
use Rattle.fjall_repair.proofs.Items.{along_map, back_map, contains_map}
use Rattle.fjall_repair.proofs.MendOpened.{active_small, ids_of, same_store}
use Rattle.fjall_repair.proofs.Mended.{last_named, same_active}
use Rattle.fjall_repair.proofs.Turns.{AreRight, AreSettled}

-- ---- whatever a crash leaves has beginnings of what stands

pub survived_text : (now left : DiskEntry) → Survives now left → (n : ℕ) × (text_in left ≡ take n (text_in now))
survived_text Missing left is = (0, ap text_in is)
survived_text Folder left is = (0, ap text_in is)
survived_text (File synced unsynced) left some = (length synced + some.0, ap text_in some.1 ∙ append-nil (synced ++ take some.0 unsynced) ∙ sym (take-append-add synced unsynced some.0))

pub images_stay : (s : DiskState) (c : Contents) → ((image : Image) → IsImage s image → IsOpenable image c) → (image : Image) → IsImage s image → Stays s c image
images_stay s c sound image is = record {
  sound = sound image is;
  parts = λ q older. ⊎_elim
      (λ there. let some = subst (λ (es : List DiskEntry). SomeSurvives ((s q).now ∷ es) (image q)) older (is.kept q there) in ⊎_elim (survived_text (s q).now (image q)) (λ none. absurd none) some)
      (λ gone. (0, ap text_in (is.lost q gone))) (there_or_not image (folder_of q));
}

-- ---- files that were synced

pub record Alike (e d : DiskEntry) : Type 0 where
  pub text : text_in d ≡ text_in e
  pub file : IsFile e → IsFile d

alike_equal : (e d : DiskEntry) → d ≡ e → Alike e d
alike_equal e d is = record { text = ap text_in is; file = subst IsFile (sym is) }

alike_synced : (e : DiskEntry) → Alike e (all_synced e)
alike_synced Missing = record { text = refl; file = λ file. file }
alike_synced Folder = record { text = refl; file = λ file. file }
alike_synced (File synced unsynced) = record { text = append-nil (synced ++ unsynced); file = λ file. file }

pub alike_same : (old new : Place) (before : DiskEntry) → old.now ≡ before → IsSame old new → Alike before new.now
alike_same old new before was same = ⊎_elim
    (λ e. alike_equal before new.now (e ∙ was))
    (λ e. subst (Alike before) (sym (e ∙ ap all_synced was)) (alike_synced before)) same.now

pub right_along : (image other : Image) → ((q : Name) → Alike (image q) (other q)) → (c : Contents) (e : End) → IsRightEnd image c e → IsRightEnd other c e
right_along image other alike c e right =
    let text = (alike e.name).text in
    record {
      file = (alike e.name).file right.file;
      kind = ⊎_elim (λ batches. inl batches) (λ r. inr (record { id = r.id; named = r.named; records = r.records; whole = subst (λ t. IsRecords t r.records e.len) (sym text) r.whole })) right.kind;
      uncut = λ not. (let le = right.uncut not in let count = ap length text in omega (arith, le, count));
      long = (let le = right.long in let count = ap length text in omega (arith, le, count));
    }

-- ---- lists by their names

pub each_to : {A : Type 0} (P Q : A → Type 0) (xs : List A) → ((x : A) → P x → Q x) → AllByRecursion P xs → AllByRecursion Q xs
each_to P Q [] to all = tt
each_to P Q (x ∷ xs) to all = (to x all.0, each_to P Q xs to all.1)

abbrev pub name_of_end : FileEnd → Name
name_of_end e = string_bytes e.name

-- the first of ends with these names, and the second
first_named : (P : FileEnd → Type 0) (ends : List FileEnd) (n : Name) (ns : List Name) → map name_of_end ends ≡ n ∷ ns → All P ends → (e : FileEnd) × (string_bytes e.name ≡ n) × P e
first_named P [] n ns is all = let bad : ⊥ = cc in absurd bad
first_named P (e ∷ ends) n ns is all = (e, (let same : name_of_end e ≡ n = cc in same), all 0 e (omega arith))

-- one of ends with these names
one_named : (P : FileEnd → Type 0) (ends : List FileEnd) (ns : List Name) (n : Name) → map name_of_end ends ≡ ns → Contains ns n → All P ends → (e : FileEnd) × (string_bytes e.name ≡ n) × P e
one_named P ends [] n is has all = let lt = has.1 in absurd (omega (arith, lt))
one_named P [] (m ∷ ns) n is has all = let bad : ⊥ = cc in absurd bad
one_named P (e ∷ ends) (m ∷ ns) n is (zero, lt, at) all = (e, (let same : name_of_end e ≡ m = cc in same ∙ at), all 0 e (omega arith))
one_named P (e ∷ ends) (m ∷ ns) n is (suc k, lt, at) all =
    let rest : map name_of_end ends ≡ ns = cc in one_named P ends ns n rest (k, omega (arith, lt), at) (λ i d less. all (suc i) d (omega (arith, less)))

currents_settled : (s : DiskState) (ids : List ℕ) → AllByRecursion (λ f. (q : Name) → folder_of q ≡ f → (s q).older ≡ []) (map keyspace_folder ids) → AllByRecursion (λ n. (s n).older ≡ []) (map current_name ids)
currents_settled s [] folders = tt
currents_settled s (id ∷ ids) folders = (folders.0 (current_name id) (folder_of-current id), currents_settled s ids folders.1)

-- ---- before the files are ended

-- all but the ends is as it is to be, and each image is so
pub record IsPreparedBy (P : Image → Type 0) (s : DiskState) (c : Contents) (p : MendPlan) : Type 0 where
  pub images : (image : Image) → IsImage s image → P image
  pub root : (q : Name) → folder_of q ≡ [] → (s q).older ≡ []
  pub folders : AllByRecursion (λ f. (q : Name) → folder_of q ≡ f → (s q).older ≡ []) (folder_names (map (λ k. k.id) c.keyspaces.living))
  pub whole : AllByRecursion (λ f. IsSynced (s f).now) (whole_names (ids_of c.journals))
  pub ended : map name_of_end p.ends.items ≡ ended_names (active_of (ids_of c.journals)) (map (λ k. k.id) c.keyspaces.living)
  pub right : AreRight s c p.ends.items
  pub settled : AreSettled s p.ends.items

-- the same, where each image holds these contents
abbrev pub IsPrepared : DiskState → Contents → MendPlan → Type 0
IsPrepared s c p = IsPreparedBy (λ image. IsOpenable image c) s c p

pub same_whole_names : (js : List WholeJournal) → whole_names (ids_of (opened js)) ≡ whole_names (ids_of js)
same_whole_names [] = refl
same_whole_names (j ∷ js) = refl

module _ (P : Image → Type 0) (m0 m1 m2 m3 : Meaning) (c : Contents) (p : MendPlan) (suits : Suits (standing (state_in m0)) c p) (small : active_of (ids_of c.journals) < 2 ^ 64)
    (sound : (image : Image) → IsImage (state_in m1) image → P image)
    (made : IsOpened (standing (state_in m0)) (standing (state_in m1)) (string_bytes p.active))
    (root : (q : Name) → folder_of q ≡ [] → (state_in m1 q).older ≡ [])
    (names : LeavesOnly m1 m2 (IsImage (state_in m1))) (same : (q : Name) → (state_in m2 q).now ≡ (state_in m1 q).now) (still : (q : Name) → (state_in m1 q).older ≡ [] → (state_in m2 q).older ≡ [])
    (empty : All (λ folder. (q : Name) → folder_of q ≡ string_bytes folder → (state_in m2 q).older ≡ []) p.folders.items)
    (files : LeavesOnly m2 m3 (IsImage (state_in m2))) (synced : (q : Name) → IsSame (state_in m2 q) (state_in m3 q)) (whole : All (λ file. IsSynced (state_in m3 (string_bytes file)).now) p.whole.items) where
  older_along : (q : Name) → (state_in m2 q).older ≡ [] → (state_in m3 q).older ≡ []
  older_along q is = (synced q).older ∙ is

  alike : (q : Name) → Alike (state_in m1 q).now (state_in m3 q).now
  alike q = alike_same (state_in m2 q) (state_in m3 q) (state_in m1 q).now (same q) (synced q)

  root_left : (q : Name) → folder_of q ≡ [] → (state_in m3 q).older ≡ []
  root_left q is = older_along q (still q (root q is))

  folders_left : AllByRecursion (λ f. (q : Name) → folder_of q ≡ f → (state_in m3 q).older ≡ []) (folder_names (map (λ k. k.id) c.keyspaces.living))
  folders_left =
      subst (AllByRecursion (λ f. (q : Name) → folder_of q ≡ f → (state_in m3 q).older ≡ [])) suits.folders
      (each_to (λ f. (q : Name) → folder_of q ≡ f → (state_in m2 q).older ≡ []) (λ f. (q : Name) → folder_of q ≡ f → (state_in m3 q).older ≡ []) (map string_bytes p.folders.items) (λ f was q is. older_along q (was q is))
      (along_map (λ f. (q : Name) → folder_of q ≡ f → (state_in m2 q).older ≡ []) string_bytes p.folders.items empty))

  ends_settled : AllByRecursion (λ n. (state_in m3 n).older ≡ []) (ended_names (active_of (ids_of c.journals)) (map (λ k. k.id) c.keyspaces.living))
  ends_settled = (
    root_left (journal_name (active_of (ids_of c.journals))) (folder_of-journal (active_of (ids_of c.journals)) small),
    (folders_left.1.0 (current_name 0) (folder_of-current 0), currents_settled (state_in m3) (map (λ k. k.id) c.keyspaces.living) folders_left.1.1),
  )

  pub prepared : IsPreparedBy P (state_in m3) (with_active c) p
  prepared = record {
    images = λ image is. sound image (at_end m1 m2 (IsImage (state_in m1)) names image (at_end m2 m3 (IsImage (state_in m2)) files image is));
    root = root_left;
    folders = folders_left;
    whole = subst (AllByRecursion (λ f. IsSynced (state_in m3 f).now)) (suits.whole ∙ sym (same_whole_names c.journals)) (along_map (λ f. IsSynced (state_in m3 f).now) string_bytes p.whole.items whole);
    ended = suits.ended ∙ ap (λ id. ended_names id (map (λ k. k.id) c.keyspaces.living)) (sym (same_active c.journals));
    right = back_map (IsRightEnd (standing (state_in m3)) (with_active c)) end_of p.ends.items
        (each_to (IsRightEnd (standing (state_in m1)) (with_active c)) (IsRightEnd (standing (state_in m3)) (with_active c)) (map end_of p.ends.items)
        (λ e right. right_along (standing (state_in m1)) (standing (state_in m3)) alike (with_active c) e right) (suits.right (standing (state_in m1)) made));
    settled = back_map (λ n. (state_in m3 n).older ≡ []) name_of_end p.ends.items (subst (AllByRecursion (λ n. (state_in m3 n).older ≡ [])) (sym suits.ended) ends_settled);
  }

-- ---- after the files are ended

module _ (P : Image → Type 0) (m3 m4 : Meaning) (c : Contents) (p : MendPlan) (before : IsPreparedBy P (state_in m3) c p) (sound : (image : Image) → IsImage (state_in m4) image → IsOpenable image c)
    (ended : All (λ e. IsEnded (state_in m3) (state_in m4) (end_of e)) p.ends.items) (synced : (q : Name) → IsSynced (state_in m3 q).now → IsSynced (state_in m4 q).now)
    (older : (q : Name) → (state_in m4 q).older ≡ (state_in m3 q).older) where
  -- a right end that was ended
  abbrev EndedRight : FileEnd → Type 0
  EndedRight e = IsRightEnd (standing (state_in m3)) c (end_of e) × IsEnded (state_in m3) (state_in m4) (end_of e)

  both : All EndedRight p.ends.items
  both k d lt = (before.right k d lt, ended k d lt)

  text_left : (e : FileEnd) → IsEnded (state_in m3) (state_in m4) (end_of e) → text_in (state_in m4 (string_bytes e.name)).now ≡ take e.len (text_in (state_in m3 (string_bytes e.name)).now)
  text_left e is = ap text_in is ∙ append-nil (take e.len (text_in (state_in m3 (string_bytes e.name)).now))

  active_short : (journal : WholeJournal) → last_of c.journals ≡ Some journal → journal_name journal.id ≡ journal_name (active_of (ids_of c.journals)) → length (text_in (state_in m4 (journal_name journal.id)).now) ≤ length (texts_of journal.batches)
  active_short journal last named =
      let first = first_named EndedRight p.ends.items _ _ before.ended both in
      let at : string_bytes first.0.name ≡ journal_name journal.id = first.1 ∙ sym named in
      let count = ap length (ap (λ (n : Name). text_in (state_in m4 n).now) (sym at) ∙ text_left first.0 first.2.1) in
      let l = length-take first.0.len (text_in (state_in m3 (string_bytes first.0.name)).now) in
      ⊎_elim
      (λ batches.
      let equal : Some batches.journal ≡ Some journal = sym batches.last ∙ last in
      let one : batches.journal ≡ journal = cc in
      let len = ap (λ (j : WholeJournal). length (texts_of j.batches)) one in
      let is = batches.is in
      omega (arith, count, l, len, is))
      (λ records. absurd (journal_current journal.id records.id (sym at ∙ records.named))) first.2.0.kind

  -- the file of these records was ended
  ended_current : (id : ℕ) → Contains (0 ∷ map (λ k. k.id) c.keyspaces.living) id → (e : FileEnd) × (string_bytes e.name ≡ current_name id) × EndedRight e
  ended_current id has =
      let names = contains_map current_name (0 ∷ map (λ k. k.id) c.keyspaces.living) id has in
      one_named EndedRight p.ends.items (ended_names (active_of (ids_of c.journals)) (map (λ k. k.id) c.keyspaces.living)) (current_name id) before.ended
      (suc names.0, (let lt = names.1 in omega (arith, lt)), names.2) both

  records_short : (id : ℕ) → Contains (0 ∷ map (λ k. k.id) c.keyspaces.living) id → EndsWithRecords (text_in (state_in m4 (current_name id)).now)
  records_short id has records end reads =
      let one = ended_current id has in
      let text = text_in (state_in m3 (string_bytes one.0.name)).now in
      let left : text_in (state_in m4 (current_name id)).now ≡ take one.0.len text = ap (λ (n : Name). text_in (state_in m4 n).now) (sym one.1) ∙ text_left one.0 one.2.1 in
      let count = ap length left in
      let l = length-take one.0.len text in
      ⊎_elim
      (λ batches. absurd (journal_current batches.journal.id id (sym batches.named ∙ one.1)))
      (λ rs.
      let here = begin_records text rs.records one.0.len one.0.len rs.whole (omega arith) in
      let same = (Currents.one_reading (take one.0.len text) rs.records records one.0.len end here (subst (λ t. IsRecords t records end) left reads)).1 in
      omega (arith, count, l, same)) one.2.0.kind

  pub rested : ((journal : WholeJournal) → last_of c.journals ≡ Some journal → journal_name journal.id ≡ journal_name (active_of (ids_of c.journals))) → IsRested (state_in m4) c
  rested named = record {
    images = sound;
    root = λ q is. older q ∙ before.root q is;
    folders = each_to (λ f. (q : Name) → folder_of q ≡ f → (state_in m3 q).older ≡ []) (λ f. (q : Name) → folder_of q ≡ f → (state_in m4 q).older ≡ []) (folder_names (map (λ k. k.id) c.keyspaces.living)) (λ f was q is. older q ∙ was q is) before.folders;
    whole = each_to (λ f. IsSynced (state_in m3 f).now) (λ f. IsSynced (state_in m4 f).now) (whole_names (ids_of c.journals)) (λ f was. synced f was) before.whole;
    ended = subst (AllByRecursion (λ f. IsSynced (state_in m4 f).now)) before.ended
        (along_map (λ f. IsSynced (state_in m4 f).now) name_of_end p.ends.items (λ k d lt. (_, ended k d lt)));
    active = λ journal last. active_short journal last (named journal last);
    records = records_short;
  }

-- ---- the call

module _ (m0 : Meaning) (c : Contents) (have : HaveVersions c.homes c.versions) where
  abbrev pub Stood : Image → Type 0
  Stood image = ImageStandsFor image (store_of_contents c)

  sound_stands : (image : Image) → IsOpenable image (with_active c) → Stood image
  sound_stands image sound = inl (with_active c, record { openable = sound; versions = have }, same_store c)

  pub then_images : (m1 m2 : Meaning) → LeavesOnly m0 m1 Stood → ((image : Image) → IsImage (state_in m1) image → IsOpenable image (with_active c)) → LeavesOnly m1 m2 (IsImage (state_in m1)) → LeavesOnly m0 m2 Stood
  then_images m1 m2 so_far sound run = runs_on m0 m1 m2 Stood so_far (weaken m1 m2 (IsImage (state_in m1)) Stood run (λ image is. sound_stands image (sound image is)))

  pub sound_then : (m1 m2 : Meaning) → ((image : Image) → IsImage (state_in m1) image → IsOpenable image (with_active c)) → LeavesOnly m1 m2 (IsImage (state_in m1)) → (image : Image) → IsImage (state_in m2) image → IsOpenable image (with_active c)
  sound_then m1 m2 sound run image is = sound image (at_end m1 m2 (IsImage (state_in m1)) run image is)

  pub then_stays : (m3 m4 : Meaning) → LeavesOnly m0 m3 Stood → LeavesOnly m3 m4 (Stays (state_in m3) (with_active c)) → LeavesOnly m0 m4 Stood
  then_stays m3 m4 so_far run = runs_on m0 m3 m4 Stood so_far (weaken m3 m4 (Stays (state_in m3) (with_active c)) Stood run (λ image stays. sound_stands image stays.sound))

-- the facts under the names of the call
pub prepared_by : (m0 m1 m2 m3 : Meaning) (c : Contents) (p : MendPlan) → Holds (state_in m0) (Some c) → Suits (standing (state_in m0)) c p → ((image : Image) → IsImage (state_in m1) image → IsOpenable image (with_active c))
    → (active : Name) → active ≡ string_bytes p.active → IsOpened (standing (state_in m0)) (standing (state_in m1)) active → ((q : Name) → folder_of q ≡ [] → (state_in m1 q).older ≡ [])
    → LeavesOnly m1 m2 (IsImage (state_in m1)) → ((q : Name) → (state_in m2 q).now ≡ (state_in m1 q).now) → ((q : Name) → (state_in m1 q).older ≡ [] → (state_in m2 q).older ≡ [])
    → (folders : List (String Global)) → folders ≡ p.folders.items → All (λ folder. (q : Name) → folder_of q ≡ string_bytes folder → (state_in m2 q).older ≡ []) folders
    → LeavesOnly m2 m3 (IsImage (state_in m2)) → ((q : Name) → IsSame (state_in m2 q) (state_in m3 q)) → (files : List (String Global)) → files ≡ p.whole.items → All (λ file. IsSynced (state_in m3 (string_bytes file)).now) files
    → IsPrepared (state_in m3) (with_active c) p
prepared_by m0 m1 m2 m3 c p holds suits sound active active_is made root names same still folders folders_is empty run synced files files_is whole =
    prepared (λ image. IsOpenable image (with_active c)) m0 m1 m2 m3 c p suits (active_small (standing (state_in m0)) (ids_of c.journals) holds.now.openable.journals.ids) sound (subst (IsOpened (standing (state_in m0)) (standing (state_in m1))) active_is made) root names same still
    (subst (All (λ folder. (q : Name) → folder_of q ≡ string_bytes folder → (state_in m2 q).older ≡ [])) folders_is empty) run synced (subst (All (λ file. IsSynced (state_in m3 (string_bytes file)).now)) files_is whole)

-- the result of the last step
pub rested_ok : (m3 m4 : Meaning) (c : Contents) (p : MendPlan) (result : Result Unit Error) → IsPrepared (state_in m3) (with_active c) p → LeavesOnly m3 m4 (Stays (state_in m3) (with_active c))
    → OnOk result (All (λ e. IsEnded (state_in m3) (state_in m4) (end_of e)) p.ends.items) → OnOk result ((q : Name) → IsSynced (state_in m3 q).now → IsSynced (state_in m4 q).now)
    → OnOk result ((q : Name) → (state_in m4 q).older ≡ (state_in m3 q).older) → OnOk result (IsRested (state_in m4) (with_active c))
rested_ok m3 m4 c p (Ok done) before moments ended synced older = rested (λ image. IsOpenable image (with_active c)) m3 m4 (with_active c) p before (λ image is. (at_end m3 m4 (Stays (state_in m3) (with_active c)) moments image is).sound) ended synced older (last_named c.journals)
rested_ok m3 m4 c p (Err e) before moments ended synced older = tt

pub right_by : (s : DiskState) (c : Contents) (p : MendPlan) (ends : List FileEnd) → ends ≡ p.ends.items → IsPrepared s c p → AreRight s c ends
right_by s c p ends is before = subst (AreRight s c) (sym is) before.right

pub settled_by : (s : DiskState) (c : Contents) (p : MendPlan) (ends : List FileEnd) → ends ≡ p.ends.items → IsPrepared s c p → AreSettled s ends
settled_by s c p ends is before = subst (AreSettled s) (sym is) before.settled

pub ended_by : (s t : DiskState) (ends others : List FileEnd) → ends ≡ others → (result : Result Unit Error) → OnOk result (All (λ e. IsEnded s t (end_of e)) ends) → OnOk result (All (λ e. IsEnded s t (end_of e)) others)
ended_by s t ends others is (Ok done) all = subst (All (λ e. IsEnded s t (end_of e))) is all
ended_by s t ends others is (Err e) all = tt
