-- Keyspaces' homes stay in sight while the journal is written, and while another keyspace comes or goes.
use Rattle.std.proofs.Common.{◌≡◌, inl, inr, ℕ, zero, suc, ◌<◌, ◌^◌, true, false, List, [], ◌∷◌, ◌++◌, take, Option, Result, OnOk, OnErr, refl, sym, ◌∙◌, ap, subst, arith}
use Rattle.std.proofs.lemmas.Bool.{true≢false}
use Rattle.std.specs.List.{AllByRecursion}
use Rattle.std.specs.Str.{bytes_eq}
use Rattle.fjall_base.specs.declared.error.Error.{Error}
use Rattle.fjall_base.specs.Disk.{Append, Cut, DiskEntry, DiskState, DiskStep, File, Folder, Loosen, Meaning, Missing, Name, Place, Put, Sync, SyncFolder, Took, after, all_synced, appended, change, cut_to, loosened, making, state_in}
use Rattle.fjall_base.proofs.States.{alter-other, differs, put-other}
use Rattle.fjall_files.specs.Names.{keyspace_folder}
use Rattle.fjall_files.specs.Regions.{Within, is_under}
use Rattle.fjall_files.proofs.Changes.{settle-now}
use Rattle.fjall_journal.specs.declared.persist_mode.PersistMode.{PersistMode}
use Rattle.fjall_journal.specs.Writer.{BatchTook, Journal, PersistTook, appending, batch_steps, making_file, making_synced, persist_steps}
use Rattle.fjall_manifest.proofs.Naming.{other_folder}
use Rattle.fjall_files.specs.Journals.{Sealed}
use Rattle.fjall_journal.specs.Rotations.{RotationTook, making_safe, rotating}
use Rattle.fjall_recovery.specs.Halves.{is_of_keyspaces}
use Rattle.fjall_recovery.proofs.Named.{under_within}
use Rattle.fjall_recovery.proofs.Roots.{all_front}
use Rattle.fjall_changes.specs.Journaling.{KeepsHomes, KeepsOtherHomes}
use Rattle.fjall_changes.proofs.AppendsAndSyncs.{SameBut, mode_but, part_but, whole_part}
use Rattle.fjall_changes.proofs.BatchAppends.{part_but_one, took_but}
use Rattle.fjall_changes.proofs.CrashesInEvictions.{TookEviction, gone_apart}
use Rattle.fjall_changes.proofs.KeepingKeyspaces.{IsApart}
use Rattle.fjall_changes.proofs.UnnamedHomes.{others_stay, settled_now}

-- ---- one after another

pub others_both : (id : ℕ) (old mid new : Meaning) → KeepsOtherHomes id old mid → KeepsOtherHomes id mid new → KeepsOtherHomes id old new
others_both id old mid new first second other some fits differ q under = second other some fits differ q under ∙ first other some fits differ q under

-- nothing was done
pub homes_none : (old new : Meaning) → Took old new [] → KeepsHomes old new
homes_none old new took id q under = ap (λ (s : DiskState). (s q).now) took.state

-- ---- the journal

-- one file changed that is elsewhere
pub homes_but : (name : Name) (old new : Meaning) → is_of_keyspaces name ≡ false → SameBut name (state_in old) (state_in new) → KeepsHomes old new
homes_but name old new out same id q under =
    ap (λ (p : Place). p.now) (same q (λ e. true≢false (sym (under_within id q under) ∙ ap is_of_keyspaces e ∙ out)))

module _ (writer : Journal) (old new : Meaning) (out : is_of_keyspaces writer.name ≡ false) where
  pub wrote_homes : (mode : Option PersistMode) (text : List ℕ) → Took old new (batch_steps mode writer text) → KeepsHomes old new
  wrote_homes mode text took = homes_but writer.name old new out (took_but mode writer text old new took)

  pub unwritten_homes : (mode : Option PersistMode) (text : List ℕ) → BatchTook mode old new writer text → KeepsHomes old new
  unwritten_homes mode text part = homes_but writer.name old new out (part_but_one mode writer text old new part)

  pub persisted_homes : (mode : PersistMode) → Took old new (persist_steps writer mode) → KeepsHomes old new
  persisted_homes mode took = homes_but writer.name old new out (mode_but old new writer.name writer.buffer mode took)

  pub unpersisted_homes : (now : Journal) (mode : PersistMode) → PersistTook writer now mode old new → KeepsHomes old new
  unpersisted_homes now mode (inl (same, part)) = homes_but writer.name old new out (part_but old new writer.name writer.buffer part)
  unpersisted_homes now mode (inr (is, other, inl took)) = homes_but writer.name old new out (part_but old new writer.name writer.buffer (whole_part old new writer.name writer.buffer took))
  unpersisted_homes now mode (inr (is, other, inr took)) = persisted_homes mode took

-- ---- a rotation

-- steps elsewhere, and syncs of names
elsewhere : (name q : Name) → is_of_keyspaces name ≡ false → is_of_keyspaces q ≡ true → bytes_eq q name ≡ false
elsewhere name q out in_it = differs q name (λ e. true≢false (sym in_it ∙ ap is_of_keyspaces e ∙ out))

step_sight : (step : DiskStep) (state : DiskState) (q : Name) → IsApart step → is_of_keyspaces q ≡ true → (change step state q).now ≡ (state q).now
step_sight (Put name entry) state q out in_it = ap (λ (p : Place). p.now) (put-other state name entry q (elsewhere name q out in_it))
step_sight (Append name bytes) state q out in_it = ap (λ (p : Place). p.now) (alter-other state name (appended bytes) q (elsewhere name q out in_it))
step_sight (Sync name) state q out in_it = ap (λ (p : Place). p.now) (alter-other state name all_synced q (elsewhere name q out in_it))
step_sight (Loosen name len) state q out in_it = ap (λ (p : Place). p.now) (alter-other state name (loosened len) q (elsewhere name q out in_it))
step_sight (Cut name len) state q out in_it = ap (λ (p : Place). p.now) (alter-other state name (cut_to len) q (elsewhere name q out in_it))
step_sight (SyncFolder folder) state q out in_it = settle-now state folder q

steps_sight : (steps : List DiskStep) (state : DiskState) (q : Name) → AllByRecursion IsApart steps → is_of_keyspaces q ≡ true → (after state steps q).now ≡ (state q).now
steps_sight [] state q apart in_it = refl
steps_sight (step ∷ steps) state q apart in_it = steps_sight steps (change step state) q apart.1 in_it ∙ step_sight step state q apart.0 in_it

apart_homes : (old new : Meaning) (steps : List DiskStep) → Took old new steps → AllByRecursion IsApart steps → KeepsHomes old new
apart_homes old new steps took apart id q under = ap (λ (s : DiskState). (s q).now) took.state ∙ steps_sight steps (state_in old) q apart (under_within id q under)

all_both : (first then : List DiskStep) → AllByRecursion IsApart first → AllByRecursion IsApart then → AllByRecursion IsApart (first ++ then)
all_both [] then a b = b
all_both (step ∷ first) then a b = (a.0, all_both first then a.1 b)

all_taken : (n : ℕ) (steps : List DiskStep) → AllByRecursion IsApart steps → AllByRecursion IsApart (take n steps)
all_taken zero steps all = tt
all_taken (suc n) [] all = tt
all_taken (suc n) (step ∷ steps) all = (all.0, all_taken n steps all.1)

appending_apart : (name : Name) (bytes : List ℕ) → is_of_keyspaces name ≡ false → AllByRecursion IsApart (appending name bytes)
appending_apart name [] out = tt
appending_apart name (b ∷ bytes) out = (out, tt)

making_apart : (name : Name) (entry there : DiskEntry) → is_of_keyspaces name ≡ false → AllByRecursion IsApart (making name entry there)
making_apart name entry Missing out = (out, tt)
making_apart name entry (File synced unsynced) out = tt
making_apart name entry Folder out = tt

module _ (old new : Meaning) (writer : Journal) (next : Name) (out : is_of_keyspaces writer.name ≡ false) (out_next : is_of_keyspaces next ≡ false) where
  synced_apart : AllByRecursion IsApart (making_synced old next)
  synced_apart = all_both (making_file old next) (Sync next ∷ []) (making_apart next (File [] []) (state_in old next).now out_next) (out_next, tt)

  pub rotated_homes : Took old new (rotating old writer next) → KeepsHomes old new
  rotated_homes took =
      apart_homes old new (rotating old writer next) took
      (all_both (appending writer.name writer.buffer) (Sync writer.name ∷ making_safe old next) (appending_apart writer.name writer.buffer out)
      (out, all_both (making_synced old next) (SyncFolder [] ∷ []) synced_apart (refl, tt)))

  pub unrotated_homes : (now : Journal) → RotationTook old new writer now next → KeepsHomes old new
  unrotated_homes now (inl (same, part)) = homes_but writer.name old new out (part_but old new writer.name writer.buffer part)
  unrotated_homes now (inr (is, (n, took))) =
      apart_homes old new (appending writer.name writer.buffer ++ take n (Sync writer.name ∷ making_synced old next)) took
      (all_both (appending writer.name writer.buffer) (take n (Sync writer.name ∷ making_synced old next)) (appending_apart writer.name writer.buffer out)
      (all_taken n (Sync writer.name ∷ making_synced old next) (out, synced_apart)))

-- ---- an eviction

pub evicted_homes : (old new : Meaning) (journals : List Sealed) (most : ℕ) → TookEviction old new journals most → KeepsHomes old new
evicted_homes old new journals most run =
    apart_homes old new run.took.front run.took.took (all_front IsApart run.took.front run.took.rest (subst (AllByRecursion IsApart) (sym run.took.all) (gone_apart (state_in old) run.gone)))

-- ---- another keyspace

-- changes within one keyspace's folder
pub within_others : (id : ℕ) (old new : Meaning) → id < 2 ^ 64 → Within (keyspace_folder id) old new → KeepsOtherHomes id old new
within_others id old new small run other some fits differ q under = others_stay id old new run q (other_folder id other q small fits differ under)

-- a sync of names behind them, or none
pub settled_others : (id : ℕ) (folder : Name) (old mid new : Meaning) (r : Result Unit Error) → KeepsOtherHomes id old mid → OnOk r (Took mid new (SyncFolder folder ∷ [])) → OnErr r (Took mid new []) → KeepsOtherHomes id old new
settled_others id folder old mid new r first ok err other some fits differ q under = settled_now folder mid new r ok err q ∙ first other some fits differ q under

pub still_others : (id : ℕ) (old mid new : Meaning) → KeepsOtherHomes id old mid → Took mid new [] → KeepsOtherHomes id old new
still_others id old mid new first took other some fits differ q under = homes_none mid new took other q under ∙ first other some fits differ q under

-- tree 0's folder is none of theirs
pub tree_others : (id : ℕ) (old new : Meaning) → Within (keyspace_folder 0) old new → KeepsOtherHomes id old new
tree_others id old new run other some fits differ = within_others 0 old new (omega arith) run other some fits (λ same. absurd (omega (arith, same, some)))

-- a removal of one keyspace's folder
pub removal_others : (id : ℕ) (old new : Meaning) → id < 2 ^ 64 → ((q : Name) → is_under (keyspace_folder id) q ≡ false → (state_in new q).now ≡ (state_in old q).now) → KeepsOtherHomes id old new
removal_others id old new small others other some fits differ q under = others q (other_folder id other q small fits differ under)
