-- The active journal is made where it is missing, and the names in the root are synced.
use Rattle.std.proofs.Common.{◌≡◌, ◌≢◌, ◌⊎◌, inl, inr, ⊎_elim, ℕ, zero, suc, ◌-◌, ◌<◌, ◌^◌, Bool, true, List, [], ◌∷◌, ◌++◌, length, map, codes, Some, Result, Ok, Err, refl, sym, ◌∙◌, ap, subst, arith}
use Rattle.std.specs.Prelude.{Contains, OnOk, OnErr}
use Rattle.fjall_base.specs.declared.error.Error.{Error}
use Rattle.std.specs.List.Sorted.{IsStrictlyIncreasing}
use Rattle.std.proofs.lemmas.List.{take_all, get_or_default}
use Rattle.fjall_base.specs.Disk.{Name, DiskEntry, Missing, File, Folder, Place, DiskState, Image, IsImage, IsFile, Survives, SomeSurvives, LeavesOnly, Meaning, Took, Put, SyncFolder, making, put, folder_of, standing, state_in}
use Rattle.fjall_base.proofs.Frames.{replaced, replaced-same, replaced-other}
use Rattle.fjall_base.proofs.Moments.{at_end, started, stays, steps_on, weaken}
use Rattle.fjall_base.proofs.States.{differs, put-same, put-other}
use Rattle.fjall_files.specs.Texts.{text_in}
use Rattle.fjall_files.proofs.Changes.{settle-now, may_be_missing}
use Rattle.fjall_files.proofs.Parts.{in_region, region_put_back}
use Rattle.fjall_journal.specs.declared.batch.Tail.TheVariants.{Clean}
use Rattle.fjall_journal.specs.Batches.{Written, shown}
use Rattle.fjall_journal.proofs.Cuts.{none_at_nil}
use Rattle.fjall_files.specs.Marker.{marker_tells}
use Rattle.fjall_files.specs.Names.{journal_name, current_name, table_name}
use Rattle.fjall_meta.specs.Contents.{store_held}
use Rattle.fjall_recovery.specs.Homes.{HaveVersions, stored_in}
use Rattle.fjall_recovery.specs.Folders.{Contents, IsOpenable, ImageStandsFor, store_of_contents, file_bytes}
use Rattle.fjall_recovery.specs.Journals.{WholeJournal, ReadsAs, AreJournalIds, batches_in}
use Rattle.fjall_recovery.specs.Halves.{HasRoot}
use Rattle.fjall_recovery.specs.Held.{Holds}
use Rattle.fjall_repair.specs.Steps.{IsOpened, active_of, opened, with_active}
use Rattle.fjall_repair.proofs.Naming.{same_or_not, folder_of-journal, journal_current, journal_table, journals_apart, marker_journal}
use Rattle.fjall_repair.proofs.Halving.{no_folder, root_of, open_tree_in, tree_of, tree_along, open_of}
use Rattle.fjall_repair.proofs.Narrowing.{settle-empty, settled_image}

abbrev pub ids_of : List WholeJournal → List ℕ
ids_of journals = map (λ (j : WholeJournal). j.id) journals

-- ---- the active journal's id

last_is_in : (x : ℕ) (xs : List ℕ) → Contains (x ∷ xs) (active_of (x ∷ xs))
last_is_in x xs = (length (x ∷ xs) - 1, omega arith, get_or_default (x ∷ xs) (length (x ∷ xs) - 1) _ 1 (omega arith))

pub active_small : (image : Image) (ids : List ℕ) → AreJournalIds image ids → active_of ids < 2 ^ 64
active_small image [] are = omega arith
active_small image (x ∷ xs) are = ((are.each (active_of (x ∷ xs))).0 (last_is_in x xs)).0

pub active_there : (image : Image) (x : ℕ) (xs : List ℕ) → AreJournalIds image (x ∷ xs) → IsFile (image (journal_name (active_of (x ∷ xs))))
active_there image x xs are = ((are.each (active_of (x ∷ xs))).0 (last_is_in x xs)).1

-- ---- a folder whose active journal was made

module _ (image made : Image) (active : Name) (is : IsOpened image made active) where
  opened_back : (q : Name) → made q ≡ Folder → image q ≡ Folder
  opened_back q folder = ⊎_elim
      (λ same. ⊎_elim (λ alike. ap image same ∙ sym alike.1 ∙ ap made (sym same) ∙ folder) (λ new. let no : File [] [] ≡ Folder = sym new.1 ∙ ap made (sym same) ∙ folder in let bad : ⊥ = cc in absurd bad) is.here)
      (λ not. sym (is.elsewhere q not) ∙ folder) (same_or_not q active)

  opened_stays : (q : Name) → image q ≡ Folder → made q ≡ Folder
  opened_stays q folder = ⊎_elim
      (λ same. ⊎_elim (λ alike. ap made same ∙ alike.1 ∙ ap image (sym same) ∙ folder) (λ new. let no : Missing ≡ Folder = sym new.0 ∙ ap image (sym same) ∙ folder in let bad : ⊥ = cc in absurd bad) is.here)
      (λ not. is.elsewhere q not ∙ folder) (same_or_not q active)

  -- nothing was made
  same_image : made active ≡ image active → made ≡ image
  same_image alike = let each : (q : Name) → made q ≡ image q = λ q. ⊎_elim (λ same. ap made same ∙ alike ∙ ap image (sym same)) (λ not. is.elsewhere q not) (same_or_not q active) in λ j q. each q j

  new_back : active ≡ journal_name 1 → made active ≡ File [] [] → (q : Name) → IsFile (made q) → (q ≡ active) ⊎ IsFile (image q)
  new_back named new q file = ⊎_elim (λ same. inl same) (λ not. inr (subst IsFile (is.elsewhere q not) file)) (same_or_not q active)

  new_root : active ≡ journal_name 1 → image active ≡ Missing → made active ≡ File [] [] → HasRoot image [] → HasRoot made (record { id = 1; batches = [] } ∷ [])
  new_root named gone new root = record {
    marker = ap (λ (e : DiskEntry). marker_tells (file_bytes e)) (is.elsewhere (codes "version") (λ same. marker_journal 1 (same ∙ named))) ∙ root.marker;
    named = λ name in_root file misnamed. ⊎_elim (λ same. misnamed.1 1 (omega arith, same ∙ named)) (λ was. root.named name in_root was misnamed) (new_back named new name file);
    holds = record {
      ids = record { ascending = one_ascends; each = λ id. (has id, back id) };
      read = inl (subst (λ t. ReadsAs t [] Clean) (sym (ap (λ (n : Name). text_in (made n)) (sym named) ∙ ap text_in new)) nothing);
      sound = refl;
    };
  }
    where
      one_ascends : IsStrictlyIncreasing (1 ∷ [])
      one_ascends i within = absurd (omega (arith, within))

      has : (id : ℕ) → Contains (1 ∷ []) id → (id < 2 ^ 64) × IsFile (made (journal_name id))
      has id (zero, lt, at) = (omega (arith, at), subst (λ (n : ℕ). IsFile (made (journal_name n))) at (subst (λ (n : Name). IsFile (made n)) named (subst IsFile (sym new) tt)))
      has id (suc k, lt, at) = absurd (omega (arith, lt))

      back : (id : ℕ) → (id < 2 ^ 64) × IsFile (made (journal_name id)) → Contains (1 ∷ []) id
      back id (small, file) = ⊎_elim
          (λ same. let one = journals_apart id 1 small (omega arith) (same ∙ named) in (0, omega arith, sym one))
          (λ was. let none = (root.holds.ids.each id).1 (small, was) in let lt = none.1 in absurd (omega (arith, lt)))
          (new_back named new (journal_name id) file)

      nothing : ReadsAs [] [] Clean
      nothing = record { end = 0; whole = record { within = omega arith; texts = refl; each = tt; last = none_at_nil }; behind = refl }

  root_opened : (js : List WholeJournal) → active ≡ journal_name (active_of (ids_of js)) → HasRoot image js → HasRoot made (opened js)
  root_opened [] named root = ⊎_elim
      (λ alike. let none = (root.holds.ids.each 1).1 (omega arith, subst (λ (n : Name). IsFile (image n)) named alike.0) in let lt = none.1 in absurd (omega (arith, lt)))
      (λ new. new_root named new.0 new.1 root) is.here
  root_opened (j ∷ js) named root = ⊎_elim
      (λ alike. subst (λ (i : Image). HasRoot i (j ∷ js)) (sym (same_image alike.1)) root)
      (λ new. absurd (subst IsFile new.0 (subst (λ (n : Name). IsFile (image n)) (sym named) (active_there image j.id (ids_of js) root.holds.ids)))) is.here

  pub opened_sound : (c : Contents) → active ≡ journal_name (active_of (ids_of c.journals)) → IsOpenable image c → IsOpenable made (with_active c)
  opened_sound c named sound =
      let id = active_of (ids_of c.journals) in
      open_of made (with_active c) (root_opened c.journals named (root_of image c sound))
      (tree_along image made (tree_of c) opened_back opened_stays (λ k. is.elsewhere (current_name k) (λ same. journal_current id k (sym named ∙ sym same)))
      (λ k n. is.elsewhere (table_name k n) (λ same. journal_table id k n (sym named ∙ sym same))) (open_tree_in image c sound))

-- ---- what a crash leaves of it

abbrev pub SoundEither : Contents → Image → Type 0
SoundEither c image = IsOpenable image c ⊎ IsOpenable image (with_active c)

pub same_batches : (js : List WholeJournal) → batches_in (opened js) ≡ batches_in js
same_batches [] = refl
same_batches (j ∷ js) = refl

pub same_store : (c : Contents) → store_of_contents c ≡ store_of_contents (with_active c)
same_store c = ap (λ (bs : List Written). store_held c.keyspaces (stored_in c.homes c.versions) (map shown bs)) (sym (same_batches c.journals))

pub either_stands : (c : Contents) → HaveVersions c.homes c.versions → (image : Image) → SoundEither c image → ImageStandsFor image (store_of_contents c)
either_stands c have image (inl sound) = inl (c, record { openable = sound; versions = have }, refl)
either_stands c have image (inr sound) = inl (with_active c, record { openable = sound; versions = have }, same_store c)

no_other : (image : Image) (js : List WholeJournal) → HasRoot image js → IsFile (image (journal_name (active_of (ids_of js)))) → opened js ≡ js
no_other image [] root file = let none = (root.holds.ids.each 1).1 (omega arith, file) in let lt = none.1 in absurd (omega (arith, lt))
no_other image (j ∷ js) root file = refl

-- where the active journal is there, it is one of the journals
pub sound_open : (c : Contents) (image : Image) → IsFile (image (journal_name (active_of (ids_of c.journals)))) → SoundEither c image → IsOpenable image (with_active c)
sound_open c image file (inr sound) = sound
sound_open c image file (inl sound) =
    subst (λ (js : List WholeJournal). IsOpenable image (let r : Contents = record { journals = js; keyspaces = c.keyspaces; last = c.last; homes = c.homes; versions = c.versions } in r)) (sym (no_other image c.journals (root_of image c sound) file)) sound

pub some_swap : (older : List DiskEntry) (entry left : DiskEntry) → SomeSurvives (older ++ entry ∷ []) left → SomeSurvives (entry ∷ older) left
some_swap [] entry left some = some
some_swap (e ∷ older) entry left (inl here) = inr (inl here)
some_swap (e ∷ older) entry left (inr later) = ⊎_elim (λ now. inl now) (λ was. inr (inr was)) (some_swap older entry left later)

-- an image in which the file isn't made yet
pub older_image : (old : DiskState) (active : Name) (image : Image) → IsImage (put old active (File [] [])) image → SomeSurvives ((old active).older ++ (old active).now ∷ []) (image active) → IsImage old image
older_image old active image is some = record {
  kept = λ q there. ⊎_elim
      (λ same. subst (λ (n : Name). SomeSurvives ((old n).now ∷ (old n).older) (image n)) (sym same) (some_swap (old active).older (old active).now (image active) some))
      (λ not. subst (λ (p : Place). SomeSurvives (p.now ∷ p.older) (image q)) (put-other old active (File [] []) q (differs q active not)) (is.kept q there)) (same_or_not q active);
  lost = is.lost;
}

module _ (old : DiskState) (active : Name) (c : Contents) (holds : Holds old (Some c)) (named : active ≡ journal_name (active_of (ids_of c.journals))) where
  in_root : folder_of active ≡ []
  in_root = ap (λ (n : Name). folder_of n) named ∙ folder_of-journal (active_of (ids_of c.journals)) (active_small (standing old) (ids_of c.journals) holds.now.openable.journals.ids)

  abbrev everywhere : Name → Bool
  everywhere q = true

  -- an image in which it is made
  made_image : (image : Image) → (old active).now ≡ Missing → IsImage (put old active (File [] [])) image → image active ≡ File [] [] → IsOpenable image (with_active c)
  made_image image gone is new =
      let whole = replaced image active Missing in
      let wide = region_put_back {crash = Survives} everywhere old (put old active (File [] [])) image active Missing (λ q out. put-other old active (File [] []) q out)
      (λ folder. let no : File [] [] ≡ Folder = sym new ∙ folder in let bad : ⊥ = cc in bad) (λ folder. let bad : ⊥ = cc in bad) (λ there. may_be_missing old active gone) (λ lost. refl)
      (in_region everywhere (put old active (File [] [])) image is) in
      let is_image : IsImage old whole = record { kept = λ q there. wide.kept q refl there; lost = λ q lost. wide.lost q refl lost } in
      opened_sound whole image active
      (record { elsewhere = λ q not. sym (replaced-other image active Missing q (differs q active not)); here = inr (replaced-same image active Missing, new) })
      c named (holds.crash whole is_image).openable

  pub made_either : (image : Image) → (old active).now ≡ Missing → IsImage (put old active (File [] [])) image → SoundEither c image
  made_either image gone is =
      let some = subst (λ (p : Place). SomeSurvives (p.now ∷ p.older) (image active)) (put-same old active (File [] [])) (is.kept active (inl in_root)) in
      ⊎_elim (λ new. inr (made_image image gone is (new.1 ∙ ap (λ l. File l []) (take_all new.0 [] (omega arith))))) (λ was. inl (holds.crash image (older_image old active image is was)).openable) some

-- ---- the moments

module _ (old : Meaning) (active : Name) (c : Contents) (holds : Holds (state_in old) (Some c)) (named : active ≡ journal_name (active_of (ids_of c.journals))) where
  begun : LeavesOnly old old (SoundEither c)
  begun = started old (SoundEither c) (λ image is. inl (holds.crash image is).openable)

  -- nothing was done
  pub still : (new : Meaning) → Took old new [] → LeavesOnly old new (SoundEither c)
  still new took = stays old old new (SoundEither c) begun took

  made_at : (mid : Meaning) (entry : DiskEntry) → (state_in old active).now ≡ entry → Took old mid (making active (File [] []) entry) → LeavesOnly old mid (SoundEither c)
  made_at mid Missing gone took = steps_on old old mid (SoundEither c) (Put active (File [] [])) begun took (λ image is. made_either (state_in old) active c holds named image gone is)
  made_at mid (File synced unsynced) there took = stays old old mid (SoundEither c) begun took
  made_at mid Folder there took = stays old old mid (SoundEither c) begun took

  pub made_moment : (mid : Meaning) → Took old mid (making active (File [] []) (state_in old active).now) → LeavesOnly old mid (SoundEither c)
  made_moment mid took = made_at mid (state_in old active).now refl took

  pub settled_moment : (mid new : Meaning) → LeavesOnly old mid (SoundEither c) → Took mid new (SyncFolder [] ∷ []) → LeavesOnly old new (SoundEither c)
  settled_moment mid new so_far took = steps_on old mid new (SoundEither c) (SyncFolder []) so_far took (λ image is. at_end old mid (SoundEither c) so_far image (settled_image (state_in mid) [] image is))

  -- afterwards the journal is there in whatever a crash leaves
  file_left : (entry left : DiskEntry) → IsFile entry → Survives entry left → IsFile left
  file_left Missing left file some = absurd file
  file_left Folder left file some = absurd file
  file_left (File synced unsynced) left file some = subst IsFile (sym some.1) tt

  pub settled_sound : (mid new : Meaning) → LeavesOnly old new (SoundEither c) → Took mid new (SyncFolder [] ∷ []) → IsFile (state_in mid active).now → (image : Image) → IsImage (state_in new) image → IsOpenable image (with_active c)
  settled_sound mid new run took file image is =
      let root = in_root (state_in old) active c holds named in
      let now : (state_in new active).now ≡ (state_in mid active).now = ap (λ (s : DiskState). (s active).now) took.state ∙ settle-now (state_in mid) [] active in
      let older : (state_in new active).older ≡ [] = ap (λ (s : DiskState). (s active).older) took.state ∙ settle-empty (state_in mid) [] active root in
      let some = subst (λ (es : List DiskEntry). SomeSurvives ((state_in new active).now ∷ es) (image active)) older (is.kept active (inl root)) in
      let there : IsFile (image active) = ⊎_elim (λ here. file_left (state_in new active).now (image active) (subst IsFile (sym now) file) here) (λ none. absurd none) some in
      sound_open c image (subst (λ (n : Name). IsFile (image n)) named there) (at_end old new (SoundEither c) run image is)

-- ---- what stands

module _ (old mid : Meaning) (active : Name) where
  made_elsewhere_at : (entry : DiskEntry) → Took old mid (making active (File [] []) entry) → (q : Name) → q ≢ active → (state_in mid q).now ≡ (state_in old q).now
  made_elsewhere_at Missing took q not = ap (λ (s : DiskState). (s q).now) took.state ∙ ap (λ (p : Place). p.now) (put-other (state_in old) active (File [] []) q (differs q active not))
  made_elsewhere_at (File synced unsynced) took q not = ap (λ (s : DiskState). (s q).now) took.state
  made_elsewhere_at Folder took q not = ap (λ (s : DiskState). (s q).now) took.state

  pub made_elsewhere : Took old mid (making active (File [] []) (state_in old active).now) → (q : Name) → q ≢ active → (state_in mid q).now ≡ (state_in old q).now
  made_elsewhere took = made_elsewhere_at (state_in old active).now took

  made_here_at : (entry : DiskEntry) → (state_in old active).now ≡ entry → Took old mid (making active (File [] []) entry) → IsFile (state_in mid active).now
      → (IsFile (state_in old active).now × ((state_in mid active).now ≡ (state_in old active).now)) ⊎ (((state_in old active).now ≡ Missing) × ((state_in mid active).now ≡ File [] []))
  made_here_at Missing is took file = inr (is, ap (λ (s : DiskState). (s active).now) took.state ∙ ap (λ (p : Place). p.now) (put-same (state_in old) active (File [] [])))
  made_here_at (File synced unsynced) is took file = inl (subst IsFile (sym is) tt, ap (λ (s : DiskState). (s active).now) took.state)
  made_here_at Folder is took file = absurd (no_folder (state_in mid active).now file (ap (λ (s : DiskState). (s active).now) took.state ∙ is))

  pub made_opened : Took old mid (making active (File [] []) (state_in old active).now) → IsFile (state_in mid active).now → IsOpened (standing (state_in old)) (standing (state_in mid)) active
  made_opened took file = record { elsewhere = made_elsewhere took; here = made_here_at (state_in old active).now refl took file }

-- ---- the call

module _ (mid new : Meaning) where
  settled_same : Took mid new (SyncFolder [] ∷ []) → (q : Name) → (state_in new q).now ≡ (state_in mid q).now
  settled_same took q = ap (λ (s : DiskState). (s q).now) took.state ∙ settle-now (state_in mid) [] q

  pub settle_settled : (result : Result Unit Error) → OnOk result (Took mid new (SyncFolder [] ∷ [])) → OnOk result ((q : Name) → folder_of q ≡ [] → (state_in new q).older ≡ [])
  settle_settled (Ok done) took = λ q root. ap (λ (s : DiskState). (s q).older) took.state ∙ settle-empty (state_in mid) [] q root
  settle_settled (Err e) took = tt

pub still_stands : (old new : Meaning) (c : Contents) → Holds (state_in old) (Some c) → (active : Name) → active ≡ journal_name (active_of (ids_of c.journals)) → Took old new [] → LeavesOnly old new (λ image. ImageStandsFor image (store_of_contents c))
still_stands old new c holds active named took = weaken old new (SoundEither c) (λ image. ImageStandsFor image (store_of_contents c)) (still old active c holds named new took) (either_stands c holds.now.versions)

module _ (old mid new : Meaning) (active : Name) (made : Took old mid (making active (File [] []) (state_in old active).now)) where
  settled_run : (c : Contents) (holds : Holds (state_in old) (Some c)) (named : active ≡ journal_name (active_of (ids_of c.journals))) → Took mid new (SyncFolder [] ∷ []) → LeavesOnly old new (SoundEither c)
  settled_run c holds named took = settled_moment old active c holds named mid new (made_moment old active c holds named mid made) took

  pub settle_moment : (result : Result Unit Error) → OnOk result (Took mid new (SyncFolder [] ∷ [])) → OnErr result (Took mid new []) → (c : Contents) → Holds (state_in old) (Some c) → active ≡ journal_name (active_of (ids_of c.journals))
      → LeavesOnly old new (λ image. ImageStandsFor image (store_of_contents c))
  settle_moment (Ok done) ok err c holds named = weaken old new (SoundEither c) (λ image. ImageStandsFor image (store_of_contents c)) (settled_run c holds named ok) (either_stands c holds.now.versions)
  settle_moment (Err e) ok err c holds named =
      weaken old new (SoundEither c) (λ image. ImageStandsFor image (store_of_contents c)) (stays old mid new (SoundEither c) (made_moment old active c holds named mid made) err) (either_stands c holds.now.versions)

  pub settle_sound : (result : Result Unit Error) → OnOk result (Took mid new (SyncFolder [] ∷ [])) → IsFile (state_in mid active).now → (c : Contents) → Holds (state_in old) (Some c) → active ≡ journal_name (active_of (ids_of c.journals))
      → OnOk result ((image : Image) → IsImage (state_in new) image → IsOpenable image (with_active c))
  settle_sound (Ok done) ok file c holds named = settled_sound old active c holds named mid new (settled_run c holds named ok) ok file
  settle_sound (Err e) ok file c holds named = tt

  pub settle_opened : (result : Result Unit Error) → OnOk result (Took mid new (SyncFolder [] ∷ [])) → IsFile (state_in mid active).now → OnOk result (IsOpened (standing (state_in old)) (standing (state_in new)) active)
  settle_opened (Ok done) ok file =
      let is = made_opened old mid active made file in
      record {
        elsewhere = λ q not. settled_same mid new ok q ∙ is.elsewhere q not;
        here = ⊎_elim (λ was. inl (was.0, settled_same mid new ok active ∙ was.1)) (λ none. inr (none.0, settled_same mid new ok active ∙ none.1)) is.here;
      }
  settle_opened (Err e) ok file = tt

  pub settle_elsewhere : (result : Result Unit Error) → OnOk result (Took mid new (SyncFolder [] ∷ [])) → OnErr result (Took mid new []) → (q : Name) → q ≢ active → (state_in new q).now ≡ (state_in old q).now
  settle_elsewhere (Ok done) ok err q not = settled_same mid new ok q ∙ made_elsewhere old mid active made q not
  settle_elsewhere (Err e) ok err q not = ap (λ (s : DiskState). (s q).now) err.state ∙ made_elsewhere old mid active made q not
