-- From one life to the next, where crashes may be wild.
use Rattle.std.proofs.Common.{◌≡◌, ◌⊎◌, inl, inr, ⊎_elim, ℕ, Bool, true, false, IsTrue, List, [], ◌∷◌, ◌++◌, Option, Result, Ok, Err, refl, sym, ◌∙◌, ap, subst, append_assoc}
use Rattle.std.proofs.lemmas.Bool.{true≢false}
use Rattle.std.proofs.lemmas.List.{append-nil}
use Rattle.fjall_base.specs.Disk.{DiskEntry, DiskState, DiskStep, File, Folder, Image, IsImage, IsImageBy, IsThere, LeavesBy, Meaning, Missing, Name, SomeSurvivesBy, Took, change, disk_of, folder_of, standing, state_in}
use Rattle.fjall_base.specs.Store.{Command, Store, fold, kept}
use Rattle.fjall_base.specs.declared.error.Error.{Error}
use Rattle.fjall_base.specs.declared.error.Error.TheVariants as error
use Rattle.fjall_meta.proofs.Kept.{kept_twice}
use Rattle.fjall_journal.specs.declared.recovery_mode.RecoveryMode.{RecoveryMode}
use Rattle.fjall_recovery.specs.Folders.{Contents}
use Rattle.fjall_recovery.specs.Amid.{HoldsAmid, StandsAmid}
use Rattle.fjall_recovery.specs.Held.{IsOpenFolder}
use Rattle.fjall_recovery.specs.Wild.{IsUnforged, SurvivesUnforged}
use Rattle.fjall_calls.specs.Holding.{Held}
use Rattle.fjall_calls.specs.Openings.{ForHeld, IsDueTo, IsLeftWildly, OpensAfterCrash, OpensBetween, StaysAmid}
use Rattle.fjall_calls.proofs.CrashedDisks.{crash_holds}
use Rattle.fjall_calls.proofs.CrashesInRuns.{no_more}
use Rattle.fjall_calls.proofs.Reopening.{holds_store_amid}
use Rattle.fjall_calls.proofs.LivedDisks.{a_wild_crash_amid_holds}
use Rattle.fjall_calls.specs.Transactions.{Kept, none_kept}
use Rattle.fjall_consistency.specs.Alike.{AreAlike}
use Rattle.fjall_consistency.specs.Consistency.{RunsOut}
use Rattle.fjall_consistency.specs.Links.{GoesOn, Holds, IsTurned, LivesOn, PassesOn, ServesOn, view}
use Rattle.fjall_consistency.specs.declared.life.Life.{Life}
use Rattle.fjall_consistency.specs.declared.life.Told.{Told}
use Rattle.fjall_consistency.proofs.Lasting.{HasCome}

-- ---- one wild crash after another

-- what a wild crash leaves of what another one left it may leave of what was there
survives_twice : (entry left later : DiskEntry) → SurvivesUnforged entry left → SurvivesUnforged left later → SurvivesUnforged entry later
survives_twice Missing left later is more = subst (λ (e : DiskEntry). SurvivesUnforged e later) is more
survives_twice Folder left later is more = subst (λ (e : DiskEntry). SurvivesUnforged e later) is more
survives_twice (File synced unsynced) left later (bytes, is, unforged) more =
    let (others, is_so, none) = subst (λ (e : DiskEntry). SurvivesUnforged e later) is more in
    let held = synced ++ unsynced in
    let shows = synced ++ bytes in
    let all : shows ++ others ≡ synced ++ (bytes ++ others) = append_assoc synced bytes others in (
      bytes ++ others,
      is_so ∙ ap (λ (l : List ℕ). File l []) all,
      subst (IsUnforged held) all (record {
        batches = λ some each begins. let stood = none.batches some each begins in unforged.batches some each (stood.0, sym (append-nil shows) ∙ stood.1);
        records = λ some each begins. let stood = none.records some each begins in unforged.records some each (stood.0, sym (append-nil shows) ∙ stood.1);
      }),
    )

-- so it is of one of these entries
some_twice : (entries : List DiskEntry) (left later : DiskEntry) → SomeSurvivesBy SurvivesUnforged entries left → SurvivesUnforged left later → SomeSurvivesBy SurvivesUnforged entries later
some_twice [] left later none more = absurd none
some_twice (entry ∷ entries) left later (inl here) more = inl (survives_twice entry left later here more)
some_twice (entry ∷ entries) left later (inr other) more = inr (some_twice entries left later other more)

-- an image has one entry at a name
only_this : (left later : DiskEntry) → SomeSurvivesBy SurvivesUnforged (left ∷ []) later → SurvivesUnforged left later
only_this left later (inl is) = is
only_this left later (inr none) = absurd none

-- a folder is there, or none
is_folder : (entry : DiskEntry) → (entry ≡ Folder) ⊎ (entry ≡ Folder → ⊥)
is_folder Missing = inr (λ is. cc)
is_folder (File synced unsynced) = inr (λ is. cc)
is_folder Folder = inl refl

-- the folder is there, or it isn't
there_or_not : (image : Image) (folder : Name) → IsThere image folder ⊎ (IsThere image folder → ⊥)
there_or_not image [] = inl (inl refl)
there_or_not image (c ∷ cs) = by (is_folder (image (c ∷ cs)))
  where
    by : (image (c ∷ cs) ≡ Folder) ⊎ (image (c ∷ cs) ≡ Folder → ⊥) → IsThere image (c ∷ cs) ⊎ (IsThere image (c ∷ cs) → ⊥)
    by (inl is) = inl (inr is)
    by (inr never) = inr (⊎_elim (λ root. cc) never)

-- a folder that a wild crash leaves was there
was_folder : (entry : DiskEntry) → SurvivesUnforged entry Folder → entry ≡ Folder
was_folder Missing is = cc
was_folder (File synced unsynced) (bytes, is, unforged) = cc
was_folder Folder is = refl

-- the same by its name
was_there : (image later : Image) → IsImageBy SurvivesUnforged (disk_of image) later → (folder : Name) → IsThere later folder → IsThere image folder
was_there image later is folder (inl root) = inl root
was_there image later is folder (inr there) = by (there_or_not later (folder_of folder))
  where
    by : IsThere later (folder_of folder) ⊎ (IsThere later (folder_of folder) → ⊥) → IsThere image folder
    by (inl within) = inr (was_folder (image folder) (subst (SurvivesUnforged (image folder)) there (only_this (image folder) (later folder) (is.kept folder within))))
    by (inr gone) = let missing = is.lost folder gone in let no : ⊥ = cc in absurd no

-- what a wild crash leaves of an image that another one left
image_twice : (state : DiskState) (image later : Image) → IsImageBy SurvivesUnforged state image → IsImageBy SurvivesUnforged (disk_of image) later → IsImageBy SurvivesUnforged state later
image_twice state image later is more = record {
  kept = λ name there. some_twice ((state name).now ∷ (state name).older) (image name) (later name)
      (is.kept name (was_there image later more (folder_of name) there)) (only_this (image name) (later name) (more.kept name there));
  lost = more.lost;
}

-- the same where that one came at some moment of these steps
left_twice : (old : DiskState) (steps : List DiskStep) (image later : Image) → LeavesBy SurvivesUnforged old steps image → IsImageBy SurvivesUnforged (disk_of image) later → LeavesBy SurvivesUnforged old steps later
left_twice old [] image later is more = image_twice old image later is more
left_twice old (step ∷ steps) image later (inl is) more = inl (image_twice old image later is more)
left_twice old (step ∷ steps) image later (inr is) more = inr (left_twice (change step old) steps image later is more)

-- so what one wild crash after another leaves was left wildly
wildly_twice : (state : DiskState) (IsSo : Image → Type 0) (later : Image) → IsLeftWildly state IsSo → IsImageBy SurvivesUnforged state later → IsLeftWildly (disk_of later) IsSo
wildly_twice state IsSo later is more = record {
  old = is.old;
  steps = is.steps;
  usual = is.usual;
  image = later;
  left = left_twice is.old is.steps is.image later is.left (subst (λ (s : DiskState). IsImageBy SurvivesUnforged s later) is.put more);
  put = refl;
}

-- ---- a life

-- where no crash is wild, a life goes on as where one may be
wilder : (wild : Bool) (from : Store) (life : Life) (told : Result Told Error) (to : Store) → LivesOn false from life told to → LivesOn wild from life told to
wilder wild from life (Ok told) to on = on
wilder wild from life (Err error) to on = λ start alike. let (end, is, alike_so) = on start alike in (end, (by is.0, is.1), alike_so)
  where
    by : IsTrue false ⊎ RunsOut error → IsTrue wild ⊎ RunsOut error
    by (inl never) = absurd (true≢false (sym never))
    by (inr out) = inr out

-- a life that was refused as a whole changed nothing
refused_so : (wild : Bool) (store : Store) (life : Life) (error : Error) (next : Store) → IsTrue wild ⊎ RunsOut error → next ≡ store → LivesOn wild store life (Err error) next
refused_so wild store life error next out is start alike = (start, (out, refl), subst (λ (s : Store). AreAlike s start) (sym is) alike)

-- an opening that was refused changed nothing
stays_passes : (wild : Bool) (base : Store) (pending : List Command) (life : Life) (error : Error) (new : Meaning) → IsTrue wild ⊎ RunsOut error
    → Holds wild (state_in new) base pending → GoesOn wild base pending life (Err error) new
stays_passes wild base pending life error new out holds = record {
  next = base;
  waits = pending;
  holds = holds;
  each = λ front waits. (front, waits, refused_so wild (kept (fold base front)) life error (kept (fold base front)) out refl);
}

-- the lists of a life were refused before an opening
pub unopened_passes : (disk : Meaning) (life : Life) (error : Error) → RunsOut error → PassesOn disk life (Err error) disk
unopened_passes disk life error out wild base pending holds = stays_passes wild base pending life error disk (inr out) holds

-- an engine that opened within commands went on from one of their beginnings
within_passes : (wild : Bool) (base : Store) (pending : List Command) (core : Held) (beside : Kept) (life : Life) (told : Result Told Error) (new : Meaning) → OpensBetween core base [] pending → beside ≡ none_kept
    → ServesOn core beside life told new → GoesOn wild base pending life told new
within_passes wild base pending core beside life told new opened none serves =
    let leaves = serves none (kept (fold base opened.front)) (kept_twice (fold base opened.front)) opened.opens in
    record {
      next = leaves.next;
      waits = leaves.waits;
      holds = inl leaves.holds;
      each = λ front waits. (opened.front, opened.within, wilder wild (kept (fold base opened.front)) life told (kept (fold leaves.next front)) (leaves.each front waits));
    }

-- so did an engine that opened on whatever stood there
pub opened_passes : (old : Meaning) (core : Held) (beside : Kept) (life : Life) (told : Result Told Error) (new : Meaning)
    → ForHeld old (OpensAfterCrash old core)
    → ((base : Store) (least all : List Command) → IsLeftWildly (state_in old) (StandsAmid base least all) → OpensBetween core base least all)
    → beside ≡ none_kept → ServesOn core beside life told new → PassesOn old life told new
opened_passes old core beside life told new amid any none serves wild base pending (inl holds) =
    let opened = amid base pending holds in
    within_passes wild base pending core beside life told new (record { front = opened.front; holds = (opened.front, refl); within = opened.within; opens = opened.opens }) none serves
opened_passes old core beside life told new amid any none serves wild base pending (inr (is, left)) = within_passes wild base pending core beside life told new (any base [] pending left) none serves

-- a refusal left the disk as it was
same_passes : (wild : Bool) (base : Store) (pending : List Command) (life : Life) (error : Error) (old new : Meaning) → IsTrue wild
    → IsLeftWildly (state_in old) (StandsAmid base [] pending) → Took old new [] → GoesOn wild base pending life (Err error) new
same_passes wild base pending life error old new is left took =
    stays_passes wild base pending life error new (inl is) (inr (is, subst (λ (s : DiskState). IsLeftWildly s (StandsAmid base [] pending)) (sym took.state) left))

-- or a folder that opens stood there: one of the stores, and it stays
opens_passes : (wild : Bool) (base : Store) (pending : List Command) (life : Life) (error : Error) (old new : Meaning) → IsTrue wild
    → IsLeftWildly (state_in old) (StandsAmid base [] pending) → (folder : Option Contents) × IsOpenFolder (standing (state_in old)) folder
    → ForHeld old (StaysAmid old new) → GoesOn wild base pending life (Err error) new
opens_passes wild base pending life error old new is left some stays =
    let (folder, opens) = subst (λ (s : DiskState). (folder : Option Contents) × IsOpenFolder (standing s) folder) left.put some in
    let (begun, least, within, holds) = a_wild_crash_amid_holds left.old left.steps left.image folder base [] pending left.usual left.left opens in
    let store = kept (fold base begun) in
    let amid = subst (λ (s : DiskState). HoldsAmid s store []) (sym left.put) (holds_store_amid (disk_of left.image) store holds) in
    record {
      next = store;
      waits = [];
      holds = inl (stays store [] amid).holds;
      each = λ front waits. (
        begun,
        within,
        refused_so wild store life error (kept (fold store front)) (inl is) (ap (λ (l : List Command). kept (fold store l)) (no_more front waits.0 waits.1) ∙ kept_twice (fold base begun)),
      );
    }

-- an opening on what a wild crash left was refused
wild_passes : (mode : RecoveryMode) (wild : Bool) (base : Store) (pending : List Command) (life : Life) (e : Error) (old new : Meaning) → IsTrue wild
    → IsLeftWildly (state_in old) (StandsAmid base [] pending) → IsDueTo mode old new e
    → ForHeld old (StaysAmid old new) → GoesOn wild base pending life (Err e) new
wild_passes mode wild base pending life (error.Io kind) old new is left (inl took) stays = same_passes wild base pending life (error.Io kind) old new is left took
wild_passes mode wild base pending life (error.Io kind) old new is left (inr some) stays = opens_passes wild base pending life (error.Io kind) old new is left some stays
wild_passes mode wild base pending life e old new is left due stays = same_passes wild base pending life e old new is left due.1

-- an opening that was refused changed no store
pub refused_passes : (mode : RecoveryMode) (life : Life) (e : Error) (old new : Meaning) → IsDueTo mode old new e → ForHeld old (λ base pending. RunsOut e × StaysAmid old new base pending)
    → PassesOn old life (Err e) new
refused_passes mode life e old new due stays wild base pending (inl holds) = let (out, stay) = stays base pending holds in stays_passes wild base pending life e new (inr out) (inl stay.holds)
refused_passes mode life e old new due stays wild base pending (inr (is, left)) = wild_passes mode wild base pending life e old new is left due (λ other commands holds. (stays other commands holds).1)

-- ---- between two lives

-- a usual crash picks one of the stores
picked : (some : List Life) (tells : List (Result Told Error)) (old new : Meaning) (come : HasCome false some tells old)
    → HoldsAmid (state_in old) come.base come.pending → (image : Image) → IsImage (state_in old) image → state_in new ≡ disk_of image
    → HasCome false some tells new
picked some tells old new come amid image is put =
    let stood = amid.crash image is in
    let store = kept (fold come.base stood.front) in
    record {
      base = store;
      pending = [];
      holds = inl (subst (λ (s : DiskState). HoldsAmid s store []) (sym put) (holds_store_amid (disk_of image) store (crash_holds (state_in old) [] image store is stood.stands)));
      each = λ front waits.
          let (end, are, alike) = come.each stood.front stood.within in
          (end, are, subst (λ (s : Store). AreAlike s end) (sym (ap (λ (l : List Command). kept (fold store l)) (no_more front waits.0 waits.1) ∙ kept_twice (fold come.base stood.front))) alike);
    }

-- a wild one leaves all of them to the next opening
left_open : (state : DiskState) (base : Store) (pending : List Command) (image : Image) → Holds true state base pending → IsImageBy SurvivesUnforged state image → Holds true (disk_of image) base pending
left_open state base pending image (inl amid) is = inr (refl, record { old = state; steps = []; usual = amid.crash; image = image; left = is; put = refl })
left_open state base pending image (inr (wild, left)) is = inr (wild, wildly_twice state (StandsAmid base [] pending) image left is)

-- where the disk holds the same, the lives led there
come_along : (wild : Bool) (some : List Life) (tells : List (Result Told Error)) (old new : Meaning) (come : HasCome wild some tells old) → Holds wild (state_in new) come.base come.pending → HasCome wild some tells new
come_along wild some tells old new come holds = record { base = come.base; pending = come.pending; holds = holds; each = come.each }

-- the power went
crashed : (wild : Bool) (some : List Life) (tells : List (Result Told Error)) (old new : Meaning) (come : HasCome wild some tells old)
    → Holds wild (state_in old) come.base come.pending → (image : Image) → IsImageBy (view wild) (state_in old) image
    → state_in new ≡ disk_of image → HasCome wild some tells new
crashed false some tells old new come (inl amid) image is put = picked some tells old new come amid image is put
crashed false some tells old new come (inr (never, left)) image is put = absurd (true≢false (sym never))
crashed true some tells old new come holds image is put =
    come_along true some tells old new come (subst (λ (s : DiskState). Holds true s come.base come.pending) (sym put) (left_open (state_in old) come.base come.pending image holds is))

-- the lives led to what is there between two of them, whether or not the power went
pub turned : (wild : Bool) (some : List Life) (tells : List (Result Told Error)) (old new : Meaning) → HasCome wild some tells old → IsTurned wild old new → HasCome wild some tells new
turned wild some tells old new come (inl same) = come_along wild some tells old new come (subst (λ (s : DiskState). Holds wild s come.base come.pending) (sym same) come.holds)
turned wild some tells old new come (inr (image, is, put)) = crashed wild some tells old new come come.holds image is put
