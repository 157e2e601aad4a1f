-- What an eviction of journals leaves on the disk, at its end and at each moment of it.
use Rattle.std.proofs.Common.{◌≡◌, ◌⊎◌, inl, inr, ℕ, suc, ◌+◌, ◌^◌, ◌<◌, ◌≤◌, Bool, true, false, cond, List, [], ◌∷◌, ◌++◌, drop, length, map, refl, sym, ◌∙◌, ap, subst, arith, append_assoc, length-append}
use Rattle.std.specs.Prelude.{Result, Ok, Err, OnErr, OnOk}
use Rattle.std.specs.List.{AllByRecursion}
use Rattle.std.proofs.lemmas.List.{append-nil, map-append}
use Rattle.std.proofs.lemmas.List.Elements.{All-head}
use Rattle.fjall_base.specs.declared.error.Error.{Error}
use Rattle.fjall_base.specs.Disk.{Name, DiskEntry, File, Folder, Missing, Place, DiskState, Image, IsImage, IsNoFolder, Leaves, LeavesOnly, Meaning, DiskStep, Put, SyncFolder, Took, after, folder_of, put, removing, settle, state_in}
use Rattle.fjall_base.proofs.Moments.{after-append}
use Rattle.fjall_files.specs.Names.{journal_name}
use Rattle.fjall_files.specs.Tidy.{IsTidyStep, StaysTidy}
use Rattle.fjall_files.proofs.Fitting.{folder_of-journal}
use Rattle.fjall_files.proofs.Tidying as tidying
use Rattle.fjall_journal.specs.Writer as writers
use Rattle.fjall_files.specs.Evictions.{HasNoFolders, StoppedBehind, TookEvictions, evicting, evicting_one}
use Rattle.fjall_files.specs.Journals.{Sealed, going, may_go, names_of, staying}
use Rattle.fjall_files.proofs.Evicting.{evicting-append}
use Rattle.fjall_files.proofs.Going.{going_on}
use Rattle.fjall_recovery.specs.Halves.{is_of_keyspaces}
use Rattle.fjall_recovery.specs.Journals.{WholeJournal}
use Rattle.fjall_recovery.specs.Places.{Journaling, LiesInRoot, journal_ids, texts_of}
use Rattle.fjall_recovery.proofs.Roots.{all_both, all_front}
use Rattle.fjall_changes.specs.Evictions.{StoppedEvicting, LeavesEviction, evicted}
use Rattle.fjall_changes.specs.Journaling.{HasSome, IsWriting}
use Rattle.fjall_changes.specs.Rotations.{KeepsSyncedKeyspaces, ListsSealed}
use Rattle.fjall_changes.proofs.ComingAndGoing.{Fits, went, with_sealed}
use Rattle.fjall_changes.proofs.CrashesInRotations.{TookFront, took_all}
use Rattle.fjall_changes.proofs.CrashesInWrites.{root_left}
use Rattle.fjall_changes.proofs.KeepingKeyspaces.{IsApart, apart_keeps, apart_left, each_apart}
use Rattle.fjall_changes.proofs.Results.{on_ok}
use Rattle.fjall_changes.proofs.RootAfterWrites.{ids_of}
use Rattle.fjall_changes.proofs.SyncedNames.{NarrowsBut, fixed, fixed_but, fixed-same, front_left, put_at, put_but, put_left}

-- ---- ids

abbrev told_ids : List Sealed → List ℕ
told_ids journals = map (λ (s : Sealed). s.id) journals

first_id : (x k : ℕ) (xs ks : List ℕ) → x ∷ xs ≡ k ∷ ks → x ≡ k
first_id x k xs ks e = cc

later_ids : (x k : ℕ) (xs ks : List ℕ) → x ∷ xs ≡ k ∷ ks → xs ≡ ks
later_ids x k xs ks e = cc

no_ids : (x : ℕ) (xs : List ℕ) → x ∷ xs ≡ [] → ⊥
no_ids x xs e = cc

-- ---- one of them

-- a journal's file is there, and goes
one_goes : (state : DiskState) (name : Name) (bytes : List ℕ) → (state name).now ≡ File bytes [] → evicting_one state name ≡ Put name Missing ∷ SyncFolder [] ∷ []
one_goes state name bytes there = ap (λ (e : DiskEntry). removing name e ++ SyncFolder [] ∷ []) there

-- so many at most are gone
abbrev pub HasFewer : List WholeJournal → Journaling → ℕ → Image → Type 0
HasFewer sealed j most image = (n : ℕ) × (n ≤ most) × HasSome (with_sealed (drop n sealed) j) j.later image

all_there : (state : DiskState) (sealed : List WholeJournal) (j : Journaling) (most : ℕ) (image : Image) → LiesInRoot state (with_sealed sealed j) → IsImage state image → HasFewer sealed j most image
all_there state sealed j most image lies is = (0, omega arith, (root_left state (with_sealed sealed j) image lies is).some)

one_more_gone : (k : WholeJournal) (sealed : List WholeJournal) (j : Journaling) (most : ℕ) (image : Image) → HasFewer sealed j most image → HasFewer (k ∷ sealed) j (suc most) image
one_more_gone k sealed j most image (n, le, has) = (suc n, omega (arith, le), has)

module _ (state : DiskState) (x : Sealed) (k : WholeJournal) (sealed : List WholeJournal) (j : Journaling) (lies : LiesInRoot state (with_sealed (k ∷ sealed) j)) (same : x.id ≡ k.id) where
  abbrev file : Name
  file = journal_name x.id

  abbrev next : DiskState
  next = settle (put state file Missing) []

  root : folder_of file ≡ []
  root = folder_of-journal x.id (subst (λ n. n < 2 ^ 64) (sym same) (All-head Fits k.id (journal_ids (with_sealed sealed j)) lies.fit))

  there : (state file).now ≡ File (texts_of k.batches) []
  there = ap (λ n. (state (journal_name n)).now) same ∙ ap (λ (p : Place). p.now) lies.sealed.0

  goes : evicting_one state file ≡ Put file Missing ∷ SyncFolder [] ∷ []
  goes = one_goes state file (texts_of k.batches) there

  next_lies : LiesInRoot next (with_sealed sealed j)
  next_lies =
      went state next k sealed j lies (subst (λ n. NarrowsBut (journal_name n) state next) same (put_but state file Missing)) (ap (λ n. next (journal_name n)) (sym same) ∙ put_at state file Missing root)

  fixed_lies : LiesInRoot (fixed state file Missing) (with_sealed sealed j)
  fixed_lies =
      let on = fixed state file Missing in
      went state on k sealed j lies (subst (λ n. NarrowsBut (journal_name n) state on) same (fixed_but state file Missing)) (ap (λ n. on (journal_name n)) (sym same) ∙ fixed-same state file Missing)

  -- what a crash leaves of it and of the steps behind
  one_left : (names : List Name) (count : ℕ) (image : Image) → (Leaves next (evicting next names) image → HasFewer sealed j count image) → Leaves state (evicting state (file ∷ names)) image
      → HasFewer (k ∷ sealed) j (suc count) image
  one_left names count image behind left = by_moment (subst (λ (l : List DiskStep). Leaves state (l ++ evicting (after state l) names) image) goes left)
    where
      by_moment : Leaves state (Put file Missing ∷ SyncFolder [] ∷ evicting next names) image → HasFewer (k ∷ sealed) j (suc count) image
      by_moment (inl now) = all_there state (k ∷ sealed) j (suc count) image lies now
      by_moment (inr (inl put)) =
          put_left state file Missing image (HasFewer (k ∷ sealed) j (suc count) image) root (all_there state (k ∷ sealed) j (suc count) image lies)
          (λ is. one_more_gone k sealed j count image (all_there (fixed state file Missing) sealed j count image fixed_lies is)) put
      by_moment (inr (inr later)) = one_more_gone k sealed j count image (behind later)

-- ---- one after another

pub evicted_lies : (gone more : List Sealed) (state : DiskState) (sealed : List WholeJournal) (j : Journaling) → LiesInRoot state (with_sealed sealed j) → told_ids (gone ++ more) ≡ ids_of sealed
    → LiesInRoot (after state (evicting state (names_of gone))) (with_sealed (drop (length gone) sealed) j)
evicted_lies [] more state sealed j lies tells = lies
evicted_lies (x ∷ gone) more state [] j lies tells = absurd (no_ids x.id (told_ids (gone ++ more)) tells)
evicted_lies (x ∷ gone) more state (k ∷ sealed) j lies tells =
    let same = first_id x.id k.id (told_ids (gone ++ more)) (ids_of sealed) tells in
    let later =
    evicted_lies gone more (next state x k sealed j lies same) sealed j (next_lies state x k sealed j lies same) (later_ids x.id k.id (told_ids (gone ++ more)) (ids_of sealed) tells) in
    subst (λ (l : List DiskStep). LiesInRoot (after state (l ++ evicting (after state l) (names_of gone))) (with_sealed (drop (length gone) sealed) j)) (sym (goes state x k sealed j lies same)) later

pub evicted_left : (gone more : List Sealed) (state : DiskState) (sealed : List WholeJournal) (j : Journaling) → LiesInRoot state (with_sealed sealed j) → told_ids (gone ++ more) ≡ ids_of sealed
    → (image : Image) → Leaves state (evicting state (names_of gone)) image → HasFewer sealed j (length gone) image
evicted_left [] more state sealed j lies tells image is = all_there state sealed j 0 image lies is
evicted_left (x ∷ gone) more state [] j lies tells image left = absurd (no_ids x.id (told_ids (gone ++ more)) tells)
evicted_left (x ∷ gone) more state (k ∷ sealed) j lies tells image left =
    let same = first_id x.id k.id (told_ids (gone ++ more)) (ids_of sealed) tells in
    one_left state x k sealed j lies same (names_of gone) (length gone) image
    (evicted_left gone more (next state x k sealed j lies same) sealed j (next_lies state x k sealed j lies same) (later_ids x.id k.id (told_ids (gone ++ more)) (ids_of sealed) tells) image) left

-- ---- what the steps are

removing_apart : (name : Name) (entry : DiskEntry) → is_of_keyspaces name ≡ false → AllByRecursion IsApart (removing name entry)
removing_apart name Missing out = tt
removing_apart name (File synced unsynced) out = (out, tt)
removing_apart name Folder out = (out, tt)

evicting_apart : (state : DiskState) (names : List Name) → AllByRecursion (λ name. is_of_keyspaces name ≡ false) names → AllByRecursion IsApart (evicting state names)
evicting_apart state [] out = tt
evicting_apart state (name ∷ names) out =
    all_both IsApart (evicting_one state name) (evicting (after state (evicting_one state name)) names)
    (all_both IsApart (removing name (state name).now) (SyncFolder [] ∷ []) (removing_apart name (state name).now out.0) (refl, tt))
    (evicting_apart (after state (evicting_one state name)) names out.1)

evicting_tidy : (state : DiskState) (names : List Name) → AllByRecursion IsTidyStep (evicting state names)
evicting_tidy state [] = tt
evicting_tidy state (name ∷ names) =
    all_both IsTidyStep (evicting_one state name) (evicting (after state (evicting_one state name)) names)
    (all_both IsTidyStep (removing name (state name).now) (SyncFolder [] ∷ []) (tidying.removing_tidy name (state name).now) (tt, tt))
    (evicting_tidy (after state (evicting_one state name)) names)

names_apart : (gone : List Sealed) → AllByRecursion (λ name. is_of_keyspaces name ≡ false) (names_of gone)
names_apart [] = tt
names_apart (x ∷ gone) = (each_apart x.id, names_apart gone)

-- all of them are in the root
pub gone_apart : (state : DiskState) (gone : List Sealed) → AllByRecursion IsApart (evicting state (names_of gone))
gone_apart state gone = evicting_apart state (names_of gone) (names_apart gone)

no_folders : (state : DiskState) (journals : List Sealed) (sealed : List WholeJournal) → AllByRecursion (λ k. (state (journal_name k.id)) ≡ record { now = File (texts_of k.batches) []; older = [] }) sealed
    → told_ids journals ≡ ids_of sealed → HasNoFolders state (names_of journals)
no_folders state [] sealed safe tells = tt
no_folders state (x ∷ journals) [] safe tells = absurd (no_ids x.id (told_ids journals) tells)
no_folders state (x ∷ journals) (k ∷ sealed) safe tells = (
  subst (λ n. IsNoFolder (state (journal_name n)).now) (sym (first_id x.id k.id (told_ids journals) (ids_of sealed) tells)) (subst (λ (p : Place). IsNoFolder p.now) (sym safe.0) tt),
  no_folders state journals sealed safe.1 (later_ids x.id k.id (told_ids journals) (ids_of sealed) tells),
)

-- ---- which go

split_by : (may : Bool) (x : Sealed) (journals first rest : List Sealed) → journals ≡ first ++ rest → x ∷ journals ≡ cond may (x ∷ first) [] ++ cond may rest (x ∷ journals)
split_by true x journals first rest all = ap (λ (l : List Sealed). x ∷ l) all
split_by false x journals first rest all = refl

-- some go, and the others stay
pub going_and_staying : (flushed : ℕ → ℕ → Bool) (journals : List Sealed) → journals ≡ going flushed journals ++ staying flushed journals
going_and_staying flushed [] = refl
going_and_staying flushed (x ∷ journals) = split_by (may_go flushed x) x journals (going flushed journals) (staying flushed journals) (going_and_staying flushed journals)

-- what an eviction that was done or refused took: a beginning of the steps by which these journals go
pub record TookEviction (old new : Meaning) (journals : List Sealed) (most : ℕ) : Type 0 where
  pub gone : List Sealed
  pub more : List Sealed
  pub all : journals ≡ gone ++ more
  pub few : length gone ≤ most
  pub took : TookFront old new (evicting (state_in old) (names_of gone))

-- the next one too
evicting_next : (state : DiskState) (gone : List Sealed) (next : Sealed)
    → evicting state (names_of (gone ++ next ∷ [])) ≡ evicting state (names_of gone) ++ evicting_one (after state (evicting state (names_of gone))) (journal_name next.id)
evicting_next state gone next =
    ap (evicting state) (map-append (λ (s : Sealed). journal_name s.id) gone (next ∷ [])) ∙ evicting-append state (names_of gone) (journal_name next.id ∷ [])
    ∙ ap (λ (l : List DiskStep). evicting state (names_of gone) ++ l) (append-nil (evicting_one (after state (evicting state (names_of gone))) (journal_name next.id)))

module _ (flushed : ℕ → ℕ → Bool) (journals : List Sealed) where
  abbrev may_all : ℕ
  may_all = length (going flushed journals)

  -- those that are gone and the next one are no more than may go
  few_gone : (now gone : List Sealed) (stopped : StoppedBehind flushed journals now gone) → length (gone ++ stopped.next ∷ []) ≤ may_all
  few_gone now gone stopped =
      let first = gone ++ stopped.next ∷ [] in
      let parts : going flushed journals ≡ first ++ going flushed stopped.later =
      ap (going flushed) (stopped.all ∙ sym (append_assoc gone (stopped.next ∷ []) stopped.later)) ∙ going_on flushed first stopped.later stopped.each in
      let counts = ap (λ (l : List Sealed). length l) parts ∙ length-append first (going flushed stopped.later) in
      omega (arith, counts)

  in_part : (old new : Meaning) (gone : List Sealed) (next : Sealed) → TookEvictions old new gone next → TookFront old new (evicting (state_in old) (names_of (gone ++ next ∷ [])))
  in_part old new gone next (inl took) = record {
    front = evicting (state_in old) (names_of gone);
    rest = evicting_one (after (state_in old) (evicting (state_in old) (names_of gone))) (journal_name next.id);
    all = sym (evicting_next (state_in old) gone next);
    took = took;
  }
  in_part old new gone next (inr took) =
      let steps = evicting (state_in old) (names_of gone) in
      let last = removing (journal_name next.id) (after (state_in old) steps (journal_name next.id)).now in
      record { front = steps ++ last; rest = SyncFolder [] ∷ []; all = append_assoc steps last (SyncFolder [] ∷ []) ∙ sym (evicting_next (state_in old) gone next); took = took }

  pub took_eviction : (r : Result Unit Error) (old new : Meaning) (now : List Sealed) → OnOk r (Took old new (evicting (state_in old) (names_of (going flushed journals))))
      → OnErr r ((gone : List Sealed) × (stopped : StoppedBehind flushed journals now gone) × TookEvictions old new gone stopped.next) → TookEviction old new journals may_all
  took_eviction (Ok x) old new now took left = record {
    gone = going flushed journals;
    more = staying flushed journals;
    all = going_and_staying flushed journals;
    few = omega arith;
    took = took_all old new (evicting (state_in old) (names_of (going flushed journals))) took;
  }
  took_eviction (Err e) old new now took (gone, stopped, some) = record {
    gone = gone ++ stopped.next ∷ [];
    more = stopped.later;
    all = stopped.all ∙ sym (append_assoc gone (stopped.next ∷ []) stopped.later);
    few = few_gone now gone stopped;
    took = in_part old new gone stopped.next some;
  }

-- the ids of those that stay
dropped : (gone more : List Sealed) (sealed : List WholeJournal) → told_ids (gone ++ more) ≡ ids_of sealed → told_ids more ≡ ids_of (drop (length gone) sealed)
dropped [] more sealed tells = tells
dropped (x ∷ gone) more [] tells = absurd (no_ids x.id (told_ids (gone ++ more)) tells)
dropped (x ∷ gone) more (k ∷ sealed) tells = dropped gone more sealed (later_ids x.id k.id (told_ids (gone ++ more)) (ids_of sealed) tells)

-- ---- on a disk

module _ (old new : Meaning) (writer : writers.Journal) (j : Journaling) (writing : IsWriting (state_in old) writer j) (journals : List Sealed) (tells : ListsSealed journals j) where
  abbrev state : DiskState
  state = state_in old

  tells_all : (gone more : List Sealed) → journals ≡ gone ++ more → told_ids (gone ++ more) ≡ ids_of j.sealed
  tells_all gone more all = ap (λ (l : List Sealed). told_ids l) (sym all) ∙ tells

  pub eviction_kinds : HasNoFolders state (names_of journals)
  eviction_kinds = no_folders state journals j.sealed writing.root.sealed tells

  moment : (gone more : List Sealed) (most : ℕ) → journals ≡ gone ++ more → length gone ≤ most → (image : Image) → Leaves state (evicting state (names_of gone)) image → LeavesEviction state j most image
  moment gone more most all few image left =
      let some = evicted_left gone more state j.sealed j writing.root (tells_all gone more all) image left in
      let le = some.1 in
      record { gone = some.0; few = omega (arith, le, few); some = some.2; elsewhere = apart_left (evicting state (names_of gone)) state image (gone_apart state gone) left }

  pub eviction_leaves : (most : ℕ) → TookEviction old new journals most → LeavesOnly old new (LeavesEviction state j most)
  eviction_leaves most run = record {
    added = run.took.front;
    took = run.took.took;
    each = λ image left. moment run.gone run.more most run.all run.few image
        (subst (λ (l : List DiskStep). Leaves state l image) run.took.all (front_left state run.took.front run.took.rest image left));
  }

  pub eviction_keeps : (most : ℕ) → TookEviction old new journals most → KeepsSyncedKeyspaces old new
  eviction_keeps most run =
      apart_keeps old new run.took.front run.took.took (all_front IsApart run.took.front run.took.rest (subst (AllByRecursion IsApart) (sym run.took.all) (gone_apart state run.gone)))

  writing_on : (gone more : List Sealed) → journals ≡ gone ++ more → IsWriting (after state (evicting state (names_of gone))) writer (evicted (length gone) j)
  writing_on gone more all = record { root = evicted_lies gone more state j.sealed j writing.root (tells_all gone more all); name = writing.name; exact = writing.exact }

  pub evicted_on : (flushed : ℕ → ℕ → Bool) → Took old new (evicting state (names_of (going flushed journals))) → IsWriting (state_in new) writer (evicted (length (going flushed journals)) j)
  evicted_on flushed took =
      subst (λ (s : DiskState). IsWriting s writer (evicted (length (going flushed journals)) j)) (sym took.state) (writing_on (going flushed journals) (staying flushed journals) (going_and_staying flushed journals))

  -- where it was refused
  pub evicted_some : (flushed : ℕ → ℕ → Bool) (now gone : List Sealed) (stopped : StoppedBehind flushed journals now gone) → TookEvictions old new gone stopped.next
      → StoppedEvicting (state_in new) writer j now (length (going flushed journals))
  evicted_some flushed now gone stopped took =
      let count = length-append gone (stopped.next ∷ []) in
      let few = few_gone flushed journals now gone stopped in
      record {
        gone = length gone;
        few = omega (arith, few, count);
        tells = ap (λ (l : List Sealed). told_ids l) stopped.left ∙ dropped gone (stopped.next ∷ stopped.later) j.sealed (tells_all gone (stopped.next ∷ stopped.later) stopped.all);
        lies = by_removal took;
      }
    where
      by_removal : TookEvictions old new gone stopped.next → IsWriting (state_in new) writer (evicted (length gone) j) ⊎ IsWriting (settle (state_in new) []) writer (evicted (length gone + 1) j)
      by_removal (inl stood) = inl (subst (λ (s : DiskState). IsWriting s writer (evicted (length gone) j)) (sym stood.state) (writing_on gone (stopped.next ∷ stopped.later) stopped.all))
      by_removal (inr removed) =
          let first = gone ++ stopped.next ∷ [] in
          let steps = evicting state (names_of gone) in
          let last = removing (journal_name stopped.next.id) (after state steps (journal_name stopped.next.id)).now in
          let at_end : after state (evicting state (names_of first)) ≡ settle (state_in new) [] =
          ap (after state) (evicting_next state gone stopped.next ∙ sym (append_assoc steps last (SyncFolder [] ∷ []))) ∙ after-append state (steps ++ last) (SyncFolder [] ∷ [])
          ∙ ap (λ (s : DiskState). settle s []) (sym removed.state) in
          let all = stopped.all ∙ sym (append_assoc gone (stopped.next ∷ []) stopped.later) in
          inr (subst (λ (s : DiskState). IsWriting s writer (evicted (length gone + 1) j)) at_end
          (subst (λ n. IsWriting (after state (evicting state (names_of first))) writer (evicted n j)) (length-append gone (stopped.next ∷ [])) (writing_on first stopped.later all)))

pub some_evicted : (r : Result Unit Error) (old new : Meaning) (writer : writers.Journal) (j : Journaling) → IsWriting (state_in old) writer j → (flushed : ℕ → ℕ → Bool) (journals now : List Sealed) → ListsSealed journals j
    → OnErr r ((gone : List Sealed) × (stopped : StoppedBehind flushed journals now gone) × TookEvictions old new gone stopped.next)
    → OnErr r (StoppedEvicting (state_in new) writer j now (length (going flushed journals)))
some_evicted (Ok x) old new writer j writing flushed journals now tells left = tt
some_evicted (Err e) old new writer j writing flushed journals now tells (gone, stopped, some) = evicted_some old new writer j writing journals tells flushed now gone stopped some

-- nothing is put where it may not stand
pub stays_evicted : (old new : Meaning) (journals : List Sealed) (most : ℕ) → TookEviction old new journals most → StaysTidy old new
stays_evicted old new journals most run =
    tidying.stays_by old new run.took.front run.took.took
    (all_front IsTidyStep run.took.front run.took.rest (subst (AllByRecursion IsTidyStep) (sym run.took.all) (evicting_tidy (state_in old) (names_of run.gone))))

-- ---- the list

pub told_evicted : (r : Result Unit Error) (flushed : ℕ → ℕ → Bool) (journals new : List Sealed) → OnOk r (new ≡ staying flushed journals) → (j : Journaling) → ListsSealed journals j
    → OnOk r (ListsSealed new (evicted (length (going flushed journals)) j))
told_evicted r flushed journals new ok j tells =
    on_ok r (ListsSealed new (evicted (length (going flushed journals)) j)) ok (λ is.
    ap (λ (l : List Sealed). told_ids l) is
    ∙ dropped (going flushed journals) (staying flushed journals) j.sealed (ap (λ (l : List Sealed). told_ids l) (sym (going_and_staying flushed journals)) ∙ tells))
