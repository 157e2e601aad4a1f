-- What a rotation of the journals leaves on the disk, at its end and at each moment of it.
use Rattle.std.proofs.Common.{◌≡◌, ◌⊎◌, inl, inr, ⊎_elim, ℕ, ◌+◌, ◌-◌, ◌^◌, ◌<◌, ◌≤◌, List, [], ◌∷◌, ◌++◌, take, drop, map, refl, sym, ◌∙◌, ap, subst, arith, append_assoc, take-append-drop}
use Rattle.std.specs.Prelude.{Result, Ok, Err, IfErr, OnErr, OnOk}
use Rattle.std.proofs.lemmas.Bool.{cases_lt}
use Rattle.std.proofs.lemmas.List.{append-nil, map-append}
use Rattle.std.specs.List.{AllByRecursion}
use Rattle.fjall_base.specs.Disk.{Name, DiskEntry, File, Folder, Missing, DiskState, Image, IsImage, IsNoFile, IsNoFolder, Leaves, LeavesOnly, Meaning, DiskStep, Sync, SyncFolder, Took, TookPart, after, all_synced, alter, making, put, state_in, Survives}
use Rattle.fjall_base.specs.declared.error.Error.{Error}
use Rattle.fjall_base.specs.declared.error.Error.TheVariants.{NumbersUsedUp}
use Rattle.fjall_base.proofs.Moments.{Leaves-append, after-append, weaken}
use Rattle.fjall_files.specs.Names.{journal_name}
use Rattle.fjall_files.specs.Tidy.{IsTidyStep, StaysTidy}
use Rattle.fjall_files.proofs.Fitting.{fits_journal, folder_of-journal}
use Rattle.fjall_files.proofs.Tidying as tidying
use Rattle.fjall_journal.specs.Batches.{Written}
use Rattle.fjall_journal.specs.Writer.{IsIo, Journal, appending, making_file, making_synced}
use Rattle.fjall_journal.specs.declared.persist_mode.PersistMode.TheVariants.{SyncAll}
use Rattle.fjall_files.specs.Journals.{Sealed}
use Rattle.fjall_files.specs.Marks.{JournalMarks}
use Rattle.fjall_journal.specs.Rotations.{RotationTook, empty_journal, making_safe, rotating}
use Rattle.fjall_files.specs.Rotations.{sealed_of}
use Rattle.fjall_recovery.specs.Halves.{HasRoot}
use Rattle.fjall_recovery.specs.Journals as recovered
use Rattle.fjall_recovery.specs.Places.{Journaling, LiesInRoot, journals_with}
use Rattle.fjall_recovery.proofs.Roots.{all_both, all_front}
use Rattle.fjall_changes.specs.Journaling.{HasSome, IsWriting, LeavesRoot, synced}
use Rattle.fjall_changes.specs.Rotations.{KeepsSyncedKeyspaces, LeavesRotation, ListsSealed, rotated}
use Rattle.fjall_changes.proofs.AppendsAndSyncs.{syncing_all}
use Rattle.fjall_changes.proofs.ComingAndGoing.{came, free_next}
use Rattle.fjall_changes.proofs.CrashesInWrites.{all_left, all_out_leaves, all_out_lies, buffer_leaves, no_more, part_apart, some_left}
use Rattle.fjall_changes.proofs.KeepingKeyspaces.{IsApart, apart_keeps, apart_left, journal_apart}
use Rattle.fjall_changes.proofs.RootAfterWrites.{active_fits}
use Rattle.fjall_changes.proofs.SyncedNames.{fixed, fixed_but, fixed-same, front_left, made_at, made_but, put_left, settle_left, sync_left}
use Rattle.fjall_changes.proofs.Results.{on_both, on_ok}
use Rattle.fjall_changes.proofs.TidyWrites.{persist_tidy}

-- an empty journal is made, where nothing stands in its place, and it and its name are synced
abbrev pub beginning : Name → DiskEntry → List DiskStep
beginning next entry = (making next (File [] []) entry ++ Sync next ∷ []) ++ SyncFolder [] ∷ []

nothing_there : (entry : DiskEntry) → IsNoFile entry → IsNoFolder entry → entry ≡ Missing
nothing_there Missing no_file no_folder = refl
nothing_there (File synced unsynced) no_file no_folder = absurd no_file
nothing_there Folder no_file no_folder = absurd no_folder

-- ---- the empty journal

module _ (mid : DiskState) (j : Journaling) (lies : LiesInRoot mid (synced j)) (room : j.active + 1 < 2 ^ 64) where
  abbrev next : Name
  next = journal_name (j.active + 1)

  -- it was made and synced
  pub begun_lies : LiesInRoot (after mid (beginning next Missing)) (rotated j)
  begun_lies =
      came mid j.sealed j.active (j.whole ++ j.later) lies room (after mid (beginning next Missing)) (made_but mid next (File [] [])) (made_at mid next (folder_of-journal (j.active + 1) room))

  fixed_left : (image : Image) → IsImage (fixed mid next (File [] [])) image → HasRoot image (journals_with (rotated j) [])
  fixed_left image is =
      let on = came mid j.sealed j.active (j.whole ++ j.later) lies room (fixed mid next (File [] [])) (fixed_but mid next (File [] [])) (fixed-same mid next (File [] [])) in
      let left = some_left (fixed mid next (File [] [])) (rotated j) [] 0 image on is in
      subst (λ (l : List Written). HasRoot image (journals_with (rotated j) l)) (no_more left.0 left.1 left.2) left.3

  made_left : (image : Image) → IsImage (put mid next (File [] [])) image → HasSome j j.later image ⊎ HasRoot image (journals_with (rotated j) [])
  made_left image is =
      put_left mid next (File [] []) image (HasSome j j.later image ⊎ HasRoot image (journals_with (rotated j) [])) (folder_of-journal (j.active + 1) room)
      (λ before. inl (all_left mid j image lies before)) (λ behind. inr (fixed_left image behind)) is

  -- what stands there is left, and synced
  stood_left : (image : Image) → Leaves mid (Sync next ∷ SyncFolder [] ∷ []) image → HasSome j j.later image ⊎ HasRoot image (journals_with (rotated j) [])
  stood_left image (inl before) = inl (all_left mid j image lies before)
  stood_left image (inr (inl synced)) = inl (all_left mid j image lies (sync_left mid next image synced))
  stood_left image (inr (inr settled)) = inl (all_left mid j image lies (sync_left mid next image (settle_left (alter mid next all_synced) [] image settled)))

  pub begun_left : (entry : DiskEntry) (image : Image) → Leaves mid (beginning next entry) image → HasSome j j.later image ⊎ HasRoot image (journals_with (rotated j) [])
  begun_left Missing image (inl before) = inl (all_left mid j image lies before)
  begun_left Missing image (inr (inl put)) = made_left image put
  begun_left Missing image (inr (inr (inl synced))) = made_left image (sync_left (put mid next (File [] [])) next image synced)
  begun_left Missing image (inr (inr (inr settled))) =
      made_left image (sync_left (put mid next (File [] [])) next image (settle_left (alter (put mid next (File [] [])) next all_synced) [] image settled))
  begun_left (File synced unsynced) image left = stood_left image left
  begun_left Folder image left = stood_left image left

-- ---- all of it

-- the steps of a rotation
abbrev pub rotation_steps : DiskState → Journaling → List ℕ → List DiskStep
rotation_steps state j buffer = syncing_all (journal_name j.active) buffer ++ beginning (journal_name (j.active + 1)) (state (journal_name (j.active + 1))).now

module _ (from : DiskState) (writer : Journal) (j : Journaling) (writing : IsWriting from writer j) (room : j.active + 1 < 2 ^ 64) where
  abbrev file : Name
  file = journal_name j.active

  abbrev last : Name
  last = journal_name (j.active + 1)

  abbrev mid : DiskState
  mid = after from (syncing_all file writer.buffer)

  abbrev all_steps : List DiskStep
  all_steps = rotation_steps from j writer.buffer

  pub rotated_lies : IsNoFolder (from last).now → LiesInRoot (after from all_steps) (rotated j)
  rotated_lies free =
      let none = nothing_there (from last).now (free_next from j writing.root room).0 free in
      subst (λ (s : DiskState). LiesInRoot s (rotated j))
      (sym (after-append from (syncing_all file writer.buffer) (beginning last (from last).now) ∙ ap (λ (e : DiskEntry). after mid (beginning last e)) none))
      (begun_lies mid j (all_out_lies from writer j writing) room)

  making_apart : (entry : DiskEntry) → IsApart (Sync last) → AllByRecursion IsApart (beginning last entry)
  making_apart Missing out = (out, (out, (refl, tt)))
  making_apart (File synced unsynced) out = (out, (refl, tt))
  making_apart Folder out = (out, (refl, tt))

  appended_apart : (bytes : List ℕ) → IsApart (Sync file) → AllByRecursion IsApart (appending file bytes)
  appended_apart [] out = tt
  appended_apart (b ∷ bytes) out = (out, tt)

  all_apart : AllByRecursion IsApart all_steps
  all_apart =
      let out = journal_apart j.active (active_fits from j writing.root) in
      all_both IsApart (syncing_all file writer.buffer) (beginning last (from last).now) (all_both IsApart (appending file writer.buffer) (Sync file ∷ []) (appended_apart writer.buffer out) (out, tt))
      (making_apart (from last).now (journal_apart (j.active + 1) room))

  root_left : (image : Image) → Leaves from all_steps image → HasSome j j.later image ⊎ HasRoot image (journals_with (rotated j) [])
  root_left image left = ⊎_elim
      (λ early. inl (all_out_leaves from writer j writing image early).some)
      (λ late. begun_left mid j (all_out_lies from writer j writing) room (from last).now image late)
      (Leaves-append Survives from (syncing_all file writer.buffer) (beginning last (from last).now) image left)

  pub rotation_left : (image : Image) → Leaves from all_steps image → LeavesRotation from j image
  rotation_left image left = record { root = root_left image left; elsewhere = apart_left all_steps from image all_apart left }

-- ---- a beginning of it

-- a beginning of these steps was taken, or all of them
pub record TookFront (old new : Meaning) (steps : List DiskStep) : Type 0 where
  pub front : List DiskStep
  pub rest : List DiskStep
  pub all : front ++ rest ≡ steps
  pub took : Took old new front

-- all of them were
pub took_all : (old new : Meaning) (steps : List DiskStep) → Took old new steps → TookFront old new steps
took_all old new steps took = record { front = steps; rest = []; all = append-nil steps; took = took }

-- some of the later steps, and then the rest of them
cut_short : (first then last : List DiskStep) (n : ℕ) → (first ++ take n then) ++ (drop n then ++ last) ≡ first ++ (then ++ last)
cut_short first then last n =
    append_assoc first (take n then) (drop n then ++ last)
    ∙ ap (λ (l : List DiskStep). first ++ l) (sym (append_assoc (take n then) (drop n then) last) ∙ ap (λ (l : List DiskStep). l ++ last) (take-append-drop n then))

-- what a rotation that was done or refused took: some beginning of the buffer, or a beginning of its steps
abbrev pub TookRotation : Meaning → Meaning → Journal → Journaling → Type 0
TookRotation old new writer j = TookPart old new writer.name writer.buffer ⊎ ((j.active + 1 < 2 ^ 64) × TookFront old new (rotation_steps (state_in old) j writer.buffer))

module _ (old new : Meaning) (writer : Journal) (j : Journaling) (writing : IsWriting (state_in old) writer j) where
  abbrev state : DiskState
  state = state_in old

  abbrev steps : List DiskStep
  steps = rotation_steps state j writer.buffer

  pub rotation_leaves : TookRotation old new writer j → LeavesOnly old new (LeavesRotation state j)
  rotation_leaves (inl part) =
      weaken old new (LeavesRoot state j j.later) (LeavesRotation state j) (buffer_leaves old new writer j writing part) (λ image left. record { root = inl left.some; elsewhere = left.elsewhere })
  rotation_leaves (inr (room, some)) = record {
    added = some.front;
    took = some.took;
    each = λ image left. rotation_left state writer j writing room image (subst (λ (l : List DiskStep). Leaves state l image) some.all (front_left state some.front some.rest image left));
  }

  pub rotation_keeps : TookRotation old new writer j → KeepsSyncedKeyspaces old new
  rotation_keeps (inl part) = λ older. part_apart old new writer j writing writer.buffer part
  rotation_keeps (inr (room, some)) =
      apart_keeps old new some.front some.took (all_front IsApart some.front some.rest (subst (AllByRecursion IsApart) (sym some.all) (all_apart state writer j writing room)))

-- ---- the manager's steps

module _ (old new : Meaning) (writer : Journal) (j : Journaling) (writing : IsWriting (state_in old) writer j) (room : j.active + 1 < 2 ^ 64) where
  abbrev next_name : Name
  next_name = journal_name (j.active + 1)

  pub rotating_is : rotating old writer next_name ≡ rotation_steps (state_in old) j writer.buffer
  rotating_is =
      ap (λ (n : Name). appending n writer.buffer ++ Sync n ∷ making_safe old next_name) writing.name
      ∙ sym (append_assoc (appending (journal_name j.active) writer.buffer) (Sync (journal_name j.active) ∷ []) (beginning next_name (state_in old next_name).now))

  -- so far the call may have come
  pub took_rotation : (r : Result Unit Error) (now : Journal) → OnOk r (Took old new (rotating old writer next_name)) → OnErr r (RotationTook old new writer now next_name) → TookRotation old new writer j
  took_rotation (Ok x) now took left = inr (room, took_all old new (rotation_steps (state_in old) j writer.buffer) (subst (λ (l : List DiskStep). Took old new l) rotating_is took))
  took_rotation (Err e) now took (inl (same, part)) = inl part
  took_rotation (Err e) now took (inr (out, (n, some))) = inr (room, front_rotation n some)
    where
      front_rotation : (n : ℕ) → Took old new (appending writer.name writer.buffer ++ take n (Sync writer.name ∷ making_synced old next_name)) → TookFront old new (rotation_steps (state_in old) j writer.buffer)
      front_rotation n some =
          let out = appending writer.name writer.buffer in
          let then = Sync writer.name ∷ making_synced old next_name in
          record {
            front = out ++ take n then;
            rest = drop n then ++ SyncFolder [] ∷ [];
            all = cut_short out then (SyncFolder [] ∷ []) n ∙ rotating_is;
            took = some;
          }

  -- it was done, and the writer goes on in the empty journal
  pub rotated_on : IsNoFolder (state_in old next_name).now → (now : Journal) → Took old new (rotating old writer next_name) → now ≡ empty_journal next_name → IsWriting (state_in new) now (rotated j)
  rotated_on free now took is = record {
    root = subst (λ (s : DiskState). LiesInRoot s (rotated j)) (sym (took.state ∙ ap (after (state_in old)) rotating_is)) (rotated_lies (state_in old) writer j writing room free);
    name = ap (λ (w : Journal). w.name) is;
    exact = ap (λ (w : Journal). w.buffer) is;
  }

-- ---- by the number

-- the number is used up, or there is room for the next one
pub room_or_not : (id : ℕ) → (id + 1 < 2 ^ 64) × (id < 2 ^ 64 - 2) ⊎ (2 ^ 64 - 2 ≤ id)
room_or_not id = ⊎_elim (λ lt. inl (omega (arith, lt), lt)) inr (cases_lt id (2 ^ 64 - 2))

module _ (r : Result Unit Error) (old new : Meaning) (writer now : Journal) (id : ℕ) (used_up : 2 ^ 64 - 2 ≤ id → r ≡ Err NumbersUsedUp)
    (untouched : IfErr r (λ e. (IsIo e → ⊥) → (now ≡ writer) × (new ≡ old))) (took : OnOk r (Took old new (rotating old writer (journal_name (id + 1)))))
    (part : OnErr r (RotationTook old new writer now (journal_name (id + 1)))) where
  -- a refusal of a number that is used up takes nothing
  took_nothing : 2 ^ 64 - 2 ≤ id → Took old new []
  took_nothing much =
      let same = (subst (λ (q : Result Unit Error). IfErr q (λ e. (IsIo e → ⊥) → (now ≡ writer) × (new ≡ old))) (used_up much) untouched (λ io. io)).1 in
      subst (λ (m : Meaning). Took old m []) (sym same) (record { state = refl; steps = sym (append-nil old.steps) })

  pub came_so_far : (j : Journaling) → IsWriting (state_in old) writer j → j.active ≡ id → TookRotation old new writer j
  came_so_far j writing at = ⊎_elim
      (λ room. took_rotation old new writer j writing (subst (λ n. n + 1 < 2 ^ 64) (sym at) room.0) r now
      (subst (λ n. OnOk r (Took old new (rotating old writer (journal_name (n + 1))))) (sym at) took)
      (subst (λ n. OnErr r (RotationTook old new writer now (journal_name (n + 1)))) (sym at) part))
      (λ much. inl (inl (took_nothing much)))
      (room_or_not id)

  pub lies_rotated : OnOk r (now ≡ empty_journal (journal_name (id + 1))) → OnOk r (IsNoFolder (state_in old (journal_name (id + 1))).now) → (j : Journaling) → IsWriting (state_in old) writer j
      → j.active ≡ id → OnOk r (IsWriting (state_in new) now (rotated j))
  lies_rotated begun free j writing at =
      let Begun : ℕ → Type 0 = λ n. now ≡ empty_journal (journal_name (n + 1)) in
      let Free : ℕ → Type 0 = λ n. IsNoFolder (state_in old (journal_name (n + 1))).now in
      let Did : ℕ → Type 0 = λ n. Took old new (rotating old writer (journal_name (n + 1))) in
      ⊎_elim
      (λ room. on_both r (IsWriting (state_in new) now (rotated j)) (subst (λ n. OnOk r (Begun n)) (sym at) begun)
      (on_both r (Free j.active × Did j.active) (subst (λ n. OnOk r (Free n)) (sym at) free) (subst (λ n. OnOk r (Did n)) (sym at) took) (λ none did. (none, did)))
      (λ is both. rotated_on old new writer j writing (subst (λ n. n + 1 < 2 ^ 64) (sym at) room.0) both.0 now both.1 is))
      (λ much. subst (λ (q : Result Unit Error). OnOk q (IsWriting (state_in new) now (rotated j))) (sym (used_up much)) tt)
      (room_or_not id)

  -- ---- nothing is put where it may not stand

  all_tidy : id + 1 < 2 ^ 64 → AllByRecursion IsTidyStep (rotating old writer (journal_name (id + 1)))
  all_tidy room =
      let next = journal_name (id + 1) in
      let made = tidying.making_tidy next (File [] []) (state_in old next).now (fits_journal (id + 1) room [] []) in
      subst (AllByRecursion IsTidyStep) (append_assoc (appending writer.name writer.buffer) (Sync writer.name ∷ []) (making_safe old next))
      (tidying.all_both (syncing_all writer.name writer.buffer) (making_safe old next) (persist_tidy writer SyncAll)
      (tidying.all_both (making_synced old next) (SyncFolder [] ∷ []) (tidying.all_both (making_file old next) (Sync next ∷ []) made (tt, tt)) (tt, tt)))

  kinds_by : id + 1 < 2 ^ 64 → (q : Result Unit Error) → OnOk q (Took old new (rotating old writer (journal_name (id + 1)))) → OnErr q (RotationTook old new writer now (journal_name (id + 1))) → StaysTidy old new
  kinds_by room (Ok x) did left = tidying.stays_by old new (rotating old writer (journal_name (id + 1))) did (all_tidy room)
  kinds_by room (Err e) did (inl (same, some)) = tidying.stays_part old new writer.name writer.buffer some
  kinds_by room (Err e) did (inr (out, (n, some))) =
      let first = appending writer.name writer.buffer in
      let then = Sync writer.name ∷ making_synced old (journal_name (id + 1)) in
      tidying.stays_by old new (first ++ take n then) some
      (all_front IsTidyStep (first ++ take n then) (drop n then ++ SyncFolder [] ∷ []) (subst (AllByRecursion IsTidyStep) (sym (cut_short first then (SyncFolder [] ∷ []) n)) (all_tidy room)))

  pub stays_rotated : StaysTidy old new
  stays_rotated = ⊎_elim (λ room. kinds_by room.0 r took part) (λ much. tidying.stays_none old new (took_nothing much)) (room_or_not id)

-- the list tells of the journal that was sealed
pub told_rotated : (r : Result Unit Error) (journals new : List Sealed) (id : ℕ) (writer : Journal) (marks : JournalMarks) → OnOk r (new ≡ journals ++ sealed_of id writer marks ∷ [])
    → (j : Journaling) → j.active ≡ id → ListsSealed journals j → OnOk r (ListsSealed new (rotated j))
told_rotated r journals new id writer marks sealed j at tells =
    on_ok r (ListsSealed new (rotated j)) sealed (λ is.
    ap (map (λ (s : Sealed). s.id)) is ∙ map-append (λ (s : Sealed). s.id) journals (sealed_of id writer marks ∷ [])
    ∙ ap (λ (l : List ℕ). l ++ id ∷ []) tells ∙ ap (λ n. map (λ (k : recovered.WholeJournal). k.id) j.sealed ++ n ∷ []) (sym at)
    ∙ sym (map-append (λ (k : recovered.WholeJournal). k.id) j.sealed (record { id = j.active; batches = j.whole ++ j.later } ∷ [])))
