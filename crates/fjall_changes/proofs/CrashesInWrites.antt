-- What a crash leaves while batches go out.
use Rattle.std.proofs.Common.{◌≡◌, inl, inr, ⊎_elim, ℕ, ◌+◌, true, not, List, [], ◌∷◌, ◌++◌, length, take, map, None, refl, sym, ◌∙◌, ap, subst, append_assoc}
use Rattle.std.proofs.lemmas.List.{append-nil}
use Rattle.std.proofs.lemmas.Bool.{true≢false}
use Rattle.std.specs.List.{AllByRecursion}
use Rattle.fjall_base.specs.Disk.{Name, DiskState, Image, Survives, IsImage, DiskStep, Append, Sync, Meaning, Took, TookPart, Leaves, LeavesOnly, after, appended, change, state_in}
use Rattle.fjall_base.proofs.Moments.{Leaves-append, after-append}
use Rattle.fjall_files.specs.Regions.{IsImageIn}
use Rattle.fjall_files.proofs.Parts.{in_region, region_along}
use Rattle.fjall_journal.specs.declared.persist_mode.PersistMode.{PersistMode}
use Rattle.fjall_journal.specs.declared.persist_mode.PersistMode.TheVariants.{Buffer, SyncData, SyncAll}
use Rattle.fjall_journal.specs.Batches.{Written, IsWritten, shown}
use Rattle.fjall_journal.specs.Writer.{Journal, PersistTook, appending, persist_steps, written_out}
use Rattle.fjall_files.specs.Names.{journal_name}
use Rattle.fjall_meta.specs.Replays.{first_fault}
use Rattle.fjall_recovery.specs.Journals.{batches_in}
use Rattle.fjall_recovery.specs.Halves.{HasRoot, is_of_keyspaces, is_of_root}
use Rattle.fjall_recovery.specs.Places.{Journaling, LiesInRoot, journals_with, texts_of}
use Rattle.fjall_recovery.proofs.Named.{journal_within}
use Rattle.fjall_recovery.proofs.Roots.{crashes_leave_the_root}
use Rattle.fjall_changes.specs.Journaling.{IsWriting, HasSome, LeavesRoot, after_persist, handed, synced}
use Rattle.fjall_changes.proofs.AppendsAndSyncs.{SameBut, alter_but, appended_at, appending_at, appending_but, all_out_at, all_out_but, mode_but, part_but, place_of, syncing_all, whole_part}
use Rattle.fjall_changes.proofs.RootAfterWrites.{active_fits, part_lies, synced_lies, whole_goes_on, with_active}

-- ---- one image

-- the root of an image of such a state
pub some_left : (new : DiskState) (j : Journaling) (later : List Written) (cut : ℕ) (image : Image) → LiesInRoot new (with_active j j.whole later cut) → IsImage new image → HasSome j later image
some_left new j later cut image lies is = crashes_leave_the_root new image (with_active j j.whole later cut) lies (in_region is_of_root new image is)

-- more may come behind
some_more : (j : Journaling) (batches more : List Written) (image : Image) → HasSome j batches image → HasSome j (batches ++ more) image
some_more j batches more image (behind, rest, is, has) = (behind, rest ++ more, sym (append_assoc behind rest more) ∙ ap (λ (l : List Written). l ++ more) is, has)

pub no_more : (behind rest : List Written) → behind ++ rest ≡ [] → behind ≡ []
no_more [] rest e = refl
no_more (b ∷ behind) rest e = cc

-- once all are synced, all are there
pub all_left : (new : DiskState) (j : Journaling) (image : Image) → LiesInRoot new (synced j) → IsImage new image → HasSome j j.later image
all_left new j image lies is =
    let left = crashes_leave_the_root new image (synced j) lies (in_region is_of_root new image is) in
    let batches : (j.whole ++ j.later) ++ left.0 ≡ j.whole ++ j.later = ap (λ (l : List Written). (j.whole ++ j.later) ++ l) (no_more left.0 left.1 left.2) ∙ append-nil (j.whole ++ j.later) in
    (j.later, [], append-nil j.later, subst (λ (l : List Written). HasRoot image (j.sealed ++ record { id = j.active; batches = l } ∷ [])) batches left.3)

-- the active journal isn't in `keyspaces`
pub keyspaces_stay : (state new : DiskState) (j : Journaling) → LiesInRoot state j → SameBut (journal_name j.active) state new → (q : Name) → is_of_keyspaces q ≡ true → new q ≡ state q
keyspaces_stay state new j lies same q in_it =
    same q (λ e. true≢false (sym (journal_within j.active (active_fits state j lies)) ∙ ap not (ap is_of_keyspaces (sym e) ∙ in_it)))

keyspaces_left : (state new : DiskState) (j : Journaling) (image : Image) → LiesInRoot state j → SameBut (journal_name j.active) state new → IsImage new image → IsImageIn Survives is_of_keyspaces state image
keyspaces_left state new j image lies same is = region_along is_of_keyspaces state new image (keyspaces_stay state new j lies same) (in_region is_of_keyspaces new image is)

pub root_left : (state : DiskState) (j : Journaling) (image : Image) → LiesInRoot state j → IsImage state image → LeavesRoot state j j.later image
root_left state j image lies is = record { some = some_left state j j.later j.cut image lies is; elsewhere = in_region is_of_keyspaces state image is }

pub whole_left : (state : DiskState) (j : Journaling) (image : Image) → LiesInRoot state j → j.later ≡ [] → IsImage state image → HasRoot image (journals_with j [])
whole_left state j image lies none is =
    let left = some_left state j j.later j.cut image lies is in
    subst (λ (l : List Written). HasRoot image (journals_with j l)) (no_more left.0 left.1 (left.2 ∙ none)) left.3

-- where nothing was taken, more may come behind
more_left : (state : DiskState) (j : Journaling) (more : List Written) (image : Image) → LiesInRoot state j → IsImage state image → LeavesRoot state j (j.later ++ more) image
more_left state j more image lies is =
    let left = root_left state j image lies is in
    record { some = some_more j j.later more image left.some; elsewhere = left.elsewhere }

pub nothing_leaves : (old new : Meaning) (j : Journaling) (more : List Written) → LiesInRoot (state_in old) j → Took old new [] → LeavesOnly old new (LeavesRoot (state_in old) j (j.later ++ more))
nothing_leaves old new j more lies none = record { added = []; took = none; each = λ image is. more_left (state_in old) j more image lies is }

-- ---- an append, in whole or in part

module _ (old new : Meaning) (writer : Journal) (j : Journaling) (more : List Written) (writing : IsWriting (state_in old) writer j) (each : AllByRecursion IsWritten more)
    (sound : first_fault 0 (map shown (batches_in (journals_with j (j.later ++ more)))) ≡ None) where
  abbrev state : DiskState
  state = state_in old

  abbrev name : Name
  name = journal_name j.active

  abbrev bytes : List ℕ
  bytes = writer.buffer ++ texts_of more

  behind : (n : ℕ) (image : Image) → IsImage (change (Append name (take n bytes)) state) image → LeavesRoot state j (j.later ++ more) image
  behind n image is =
      let on = change (Append name (take n bytes)) state in
      let same = alter_but state name (appended (take n bytes)) in
      let part = take j.cut (texts_of j.later) in
      record {
        some = some_left on j (j.later ++ more) (length part + n) image (part_lies state on writer j more writing each sound same n (appended_at state name (texts_of j.whole) part (take n bytes) writing.root.active)) is;
        elsewhere = keyspaces_left state on j image writing.root same is;
      }

  here_in_part : TookPart old new name bytes → LeavesOnly old new (LeavesRoot state j (j.later ++ more))
  here_in_part (inl none) = nothing_leaves old new j more writing.root none
  here_in_part (inr (n, took)) = record { added = Append name (take n bytes) ∷ []; took = took; each = λ image left. ⊎_elim (λ is. more_left state j more image writing.root is) (behind n image) left }

  pub leaves_part : TookPart old new writer.name bytes → LeavesOnly old new (LeavesRoot state j (j.later ++ more))
  leaves_part part = here_in_part (subst (λ (n : Name). TookPart old new n bytes) writing.name part)

  -- all of it is out
  pub appended_all : (now : Journal) → Took old new (appending writer.name bytes) → now.name ≡ writer.name → now.buffer ≡ [] → IsWriting (state_in new) now (handed (record j { later = j.later ++ more }))
  appended_all now done named empty =
      let took : Took old new (appending name bytes) = subst (λ (n : Name). Took old new (appending n bytes)) writing.name done in
      let part = take j.cut (texts_of j.later) in
      whole_goes_on state (state_in new) writer j more writing each sound (part_but old new name bytes (whole_part old new name bytes took)) now
      (ap (λ (s : DiskState). s name) took.state ∙ appending_at state name (texts_of j.whole) part bytes writing.root.active) named empty

-- ---- what waits goes out and is synced

module _ (from : DiskState) (writer : Journal) (j : Journaling) (writing : IsWriting from writer j) where
  abbrev file : Name
  file = journal_name j.active

  abbrev in_file : List ℕ
  in_file = take j.cut (texts_of j.later)

  none_more : first_fault 0 (map shown (batches_in (journals_with j (j.later ++ [])))) ≡ None
  none_more = ap (λ (l : List Written). first_fault 0 (map shown (batches_in (journals_with j l)))) (append-nil j.later) ∙ writing.root.sound

  -- the root once the append is done
  out_lies : LiesInRoot (after from (appending file writer.buffer)) (handed j)
  out_lies =
      let on = after from (appending file writer.buffer) in
      let bytes = writer.buffer ++ [] in
      let place : on file ≡ place_of (texts_of j.whole) (in_file ++ bytes) =
      appending_at from file (texts_of j.whole) in_file writer.buffer writing.root.active ∙ ap (λ (l : List ℕ). place_of (texts_of j.whole) (in_file ++ l)) (sym (append-nil writer.buffer)) in
      subst (λ (l : List Written). LiesInRoot on (handed (record j { later = l }))) (append-nil j.later)
      (whole_goes_on from on writer j [] writing tt none_more (appending_but from file writer.buffer) (written_out writer) place refl refl).root

  amid : (image : Image) → IsImage (after from (appending file writer.buffer)) image → LeavesRoot from j j.later image
  amid image is = record {
    some = some_left (after from (appending file writer.buffer)) j j.later (length (texts_of j.later)) image out_lies is;
    elsewhere = keyspaces_left from (after from (appending file writer.buffer)) j image writing.root (appending_but from file writer.buffer) is;
  }

  -- the images of an append are those before it and those after it
  going : (text : List ℕ) (image : Image) (P : Type 0) → (IsImage from image → P) → (IsImage (after from (appending file text)) image → P) → Leaves from (appending file text) image → P
  going [] image P first then left = first left
  going (b ∷ text) image P first then left = ⊎_elim first then left

  -- the root once it is synced
  pub all_out_lies : LiesInRoot (after from (syncing_all file writer.buffer)) (synced j)
  all_out_lies =
      synced_lies from (after from (syncing_all file writer.buffer)) j writing.root (all_out_but from file writer.buffer)
      (all_out_at from file (texts_of j.whole) in_file writer.buffer writing.root.active ∙ ap (λ (l : List ℕ). place_of (texts_of j.whole ++ l) []) writing.exact)

  ended : (image : Image) → IsImage (after from (syncing_all file writer.buffer)) image → LeavesRoot from j j.later image
  ended image is = record {
    some = all_left (after from (syncing_all file writer.buffer)) j image all_out_lies is;
    elsewhere = keyspaces_left from (after from (syncing_all file writer.buffer)) j image writing.root (all_out_but from file writer.buffer) is;
  }

  pub all_out_leaves : (image : Image) → Leaves from (syncing_all file writer.buffer) image → LeavesRoot from j j.later image
  all_out_leaves image left = ⊎_elim
      (λ early. going writer.buffer image (LeavesRoot from j j.later image) (root_left from j image writing.root) (amid image) early)
      (λ late. ⊎_elim (amid image) (λ now. ended image (subst (λ (s : DiskState). IsImage s image) (sym (after-append from (appending file writer.buffer) (Sync file ∷ []))) now)) late)
      (Leaves-append Survives from (appending file writer.buffer) (Sync file ∷ []) image left)

module _ (old new : Meaning) (writer : Journal) (j : Journaling) (writing : IsWriting (state_in old) writer j) where
  abbrev from : DiskState
  from = state_in old

  no_fault_more : first_fault 0 (map shown (batches_in (journals_with j (j.later ++ [])))) ≡ None
  no_fault_more = none_more from writer j writing

  pub buffer_leaves : TookPart old new writer.name writer.buffer → LeavesOnly old new (LeavesRoot from j j.later)
  buffer_leaves took =
      subst (λ (l : List Written). LeavesOnly old new (LeavesRoot from j l)) (append-nil j.later)
      (leaves_part old new writer j [] writing tt no_fault_more (subst (TookPart old new writer.name) (sym (append-nil writer.buffer)) took))

  pub buffer_out : (now : Journal) → Took old new (appending writer.name writer.buffer) → now.name ≡ writer.name → now.buffer ≡ [] → IsWriting (state_in new) now (handed j)
  buffer_out now took named empty =
      subst (λ (l : List Written). IsWriting (state_in new) now (handed (record j { later = l }))) (append-nil j.later)
      (appended_all old new writer j [] writing tt no_fault_more now (subst (λ (l : List ℕ). Took old new (appending writer.name l)) (sym (append-nil writer.buffer)) took) named empty)

  -- ---- and is synced

  at_file : (steps : Name → List DiskStep) → Took old new (steps writer.name) → Took old new (steps (journal_name j.active))
  at_file steps took = subst (λ (n : Name). Took old new (steps n)) writing.name took

  pub sync_leaves : Took old new (syncing_all writer.name writer.buffer) → LeavesOnly old new (LeavesRoot from j j.later)
  sync_leaves took = record { added = syncing_all (journal_name j.active) writer.buffer; took = at_file (λ n. syncing_all n writer.buffer) took; each = all_out_leaves from writer j writing }

  pub sync_out : (now : Journal) → Took old new (syncing_all writer.name writer.buffer) → now.name ≡ writer.name → now.buffer ≡ [] → IsWriting (state_in new) now (synced j)
  sync_out now took named empty = record {
    root = subst (λ (s : DiskState). LiesInRoot s (synced j)) (sym (at_file (λ n. syncing_all n writer.buffer) took).state) (all_out_lies from writer j writing);
    name = named ∙ writing.name;
    exact = empty;
  }

  -- ---- a persist, by its mode

  whole_buffer : Took old new (persist_steps writer Buffer) → Took old new (appending writer.name writer.buffer)
  whole_buffer took = subst (Took old new) (append-nil (appending writer.name writer.buffer)) took

  pub persist_leaves : (mode : PersistMode) → Took old new (persist_steps writer mode) → LeavesOnly old new (LeavesRoot from j j.later)
  persist_leaves Buffer took = buffer_leaves (whole_part old new writer.name writer.buffer (whole_buffer took))
  persist_leaves SyncData took = sync_leaves took
  persist_leaves SyncAll took = sync_leaves took

  pub persist_out : (mode : PersistMode) (now : Journal) → Took old new (persist_steps writer mode) → now.name ≡ writer.name → now.buffer ≡ [] → IsWriting (state_in new) now (after_persist mode j)
  persist_out Buffer now took named empty = buffer_out now (whole_buffer took) named empty
  persist_out SyncData now took named empty = sync_out now took named empty
  persist_out SyncAll now took named empty = sync_out now took named empty

  pub failed_leaves : (now : Journal) (mode : PersistMode) → PersistTook writer now mode old new → LeavesOnly old new (LeavesRoot from j j.later)
  failed_leaves now mode (inl (same, took)) = buffer_leaves took
  failed_leaves now mode (inr (out, other, inl took)) = buffer_leaves (whole_part old new writer.name writer.buffer took)
  failed_leaves now mode (inr (out, other, inr took)) = persist_leaves mode took

  persist_but : (mode : PersistMode) → Took old new (persist_steps writer mode) → SameBut writer.name from (state_in new)
  persist_but mode took = mode_but old new writer.name writer.buffer mode took

  failed_but : (now : Journal) (mode : PersistMode) → PersistTook writer now mode old new → SameBut writer.name from (state_in new)
  failed_but now mode (inl (same, took)) = part_but old new writer.name writer.buffer took
  failed_but now mode (inr (out, other, inl took)) = part_but old new writer.name writer.buffer (whole_part old new writer.name writer.buffer took)
  failed_but now mode (inr (out, other, inr took)) = persist_but mode took

  pub apart : SameBut writer.name from (state_in new) → (q : Name) → is_of_keyspaces q ≡ true → state_in new q ≡ from q
  apart same = keyspaces_stay from (state_in new) j writing.root (subst (λ (n : Name). SameBut n from (state_in new)) writing.name same)

  pub persist_apart : (mode : PersistMode) → Took old new (persist_steps writer mode) → (q : Name) → is_of_keyspaces q ≡ true → state_in new q ≡ from q
  persist_apart mode took = apart (persist_but mode took)

  pub failed_apart : (now : Journal) (mode : PersistMode) → PersistTook writer now mode old new → (q : Name) → is_of_keyspaces q ≡ true → state_in new q ≡ from q
  failed_apart now mode took = apart (failed_but now mode took)

  pub part_apart : (bytes : List ℕ) → TookPart old new writer.name bytes → (q : Name) → is_of_keyspaces q ≡ true → state_in new q ≡ from q
  part_apart bytes took = apart (part_but old new writer.name bytes took)
