-- The root lies as it did where only keyspaces changed.
use Rattle.std.proofs.Common.{◌≡◌, inl, inr, ℕ, ◌<◌, ◌^◌, true, false, not, List, [], ◌∷◌, ◌++◌, map, codes, All, refl, sym, ◌∙◌, ap, subst}
use Rattle.std.proofs.lemmas.List.Elements.{All-head, All-tail}
use Rattle.std.proofs.lemmas.List.{append_cancel_left}
use Rattle.std.proofs.lemmas.Bool.{true≢false}
use Rattle.std.specs.List.{AllByRecursion}
use Rattle.fjall_base.specs.Disk.{Image, LeavesOnly, Leaves, Meaning, Name, DiskState, DiskStep, Survives, folder_of, state_in}
use Rattle.fjall_files.specs.Regions.{IsImageIn, IsSafe, Within, is_under}
use Rattle.fjall_files.proofs.Changes.{within_state}
use Rattle.fjall_files.proofs.Parts.{region_run}
use Rattle.fjall_journal.specs.Writer as writer
use Rattle.fjall_files.specs.Names.{IsMisnamed, journal_name}
use Rattle.fjall_recovery.specs.Journals.{WholeJournal}
use Rattle.fjall_recovery.specs.Halves.{is_of_root}
use Rattle.fjall_recovery.specs.Places.{IsNeverFile, Journaling, LiesInRoot, texts_of}
use Rattle.fjall_recovery.proofs.Named.{journal_within, keyspaces_not_misnamed, root_cases}
use Rattle.fjall_changes.specs.Journaling.{IsWriting}
use Rattle.fjall_changes.proofs.RootAfterWrites.{active_fits}
use Rattle.fjall_engine.specs.Durables.{StaysFinished}
use Rattle.fjall_base.proofs.Names.{bool_cases}
use Rattle.fjall_engine.proofs.CrashImages.{root_finished}

-- what stands outside `keyspaces` is the same
abbrev pub SameRoot : DiskState → DiskState → Type 0
SameRoot old new = (q : Name) → is_of_root q ≡ true → new q ≡ old q

named_along : (old new : DiskState) → SameRoot old new → (name : Name) → folder_of name ≡ [] → IsMisnamed name → IsNeverFile (old name) → IsNeverFile (new name)
named_along old new same name at misnamed never = elim (root_cases name at) [
  | inl of_root ↦ subst IsNeverFile (sym (same name of_root)) never
  | inr keyspaces ↦ absurd (keyspaces_not_misnamed (subst IsMisnamed keyspaces misnamed))
]

sealed_along : (old new : DiskState) → SameRoot old new → (sealed : List WholeJournal) (rest : List ℕ) → All (λ id. id < 2 ^ 64) (map (λ journal. journal.id) sealed ++ rest)
    → AllByRecursion (λ journal. IsSafe old (journal_name journal.id) (texts_of journal.batches)) sealed → AllByRecursion (λ journal. IsSafe new (journal_name journal.id) (texts_of journal.batches)) sealed
sealed_along old new same [] rest fit safe = tt
sealed_along old new same (k ∷ sealed) rest fit safe = (
  same (journal_name k.id) (journal_within k.id (All-head (λ (id : ℕ). id < 2 ^ 64) k.id (map (λ (journal : WholeJournal). journal.id) sealed ++ rest) fit)) ∙ safe.0,
  sealed_along old new same sealed rest (All-tail (λ (id : ℕ). id < 2 ^ 64) k.id (map (λ (journal : WholeJournal). journal.id) sealed ++ rest) fit) safe.1,
)

ids_parted : (sealed : List WholeJournal) (last : WholeJournal) → map (λ journal. journal.id) (sealed ++ last ∷ []) ≡ map (λ journal. journal.id) sealed ++ last.id ∷ []
ids_parted [] last = refl
ids_parted (k ∷ sealed) last = ap (λ (l : List ℕ). k.id ∷ l) (ids_parted sealed last)

pub root_along : (old new : DiskState) (j : Journaling) → SameRoot old new → LiesInRoot old j → LiesInRoot new j
root_along old new j same lies = record {
  marker_text = lies.marker_text;
  marker = same (codes "version") refl ∙ lies.marker;
  marker_is = lies.marker_is;
  named = λ name at misnamed. named_along old new same name at misnamed (lies.named name at misnamed);
  ascending = lies.ascending;
  fit = lies.fit;
  others = λ id small none. subst IsNeverFile (sym (same (journal_name id) (journal_within id small))) (lies.others id small none);
  sealed = sealed_along old new same j.sealed (j.active ∷ []) (subst (λ (l : List ℕ). All (λ id. id < 2 ^ 64) l) (ids_parted j.sealed (record { id = j.active; batches = j.whole ++ [] })) lies.fit) lies.sealed;
  active = same (journal_name j.active) (journal_within j.active (active_fits old j lies)) ∙ lies.active;
  written = lies.written;
  sound = lies.sound;
}

pub writing_along : (old new : DiskState) (w : writer.Journal) (j : Journaling) → SameRoot old new → IsWriting old w j → IsWriting new w j
writing_along old new w j same writing = record { root = root_along old new j same writing.root; name = writing.name; exact = writing.exact }

-- ---- a change within `keyspaces`

some_keyspaces : codes "keyspaces" ≡ [] → ⊥
some_keyspaces e = cc

apart : (q : Name) → is_of_root q ≡ true → is_under (codes "keyspaces") q ≡ false
apart q root = elim (bool_cases (is_under (codes "keyspaces") q)) [
  | inl under ↦ absurd (true≢false (sym root ∙ ap not under))
  | inr out ↦ out
]

pub within_root : (old new : Meaning) → Within (codes "keyspaces") old new → SameRoot (state_in old) (state_in new)
within_root old new run q root = within_state (codes "keyspaces") some_keyspaces old new run q (apart q root)

-- what a crash leaves is a finished folder still
pub within_finished : (old new : Meaning) (j : Journaling) → LiesInRoot (state_in old) j → Within (codes "keyspaces") old new → StaysFinished (state_in new)
within_finished old new j lies run = root_finished (state_in new) j (root_along (state_in old) (state_in new) j (within_root old new run) lies)

-- what a crash leaves of the root, beside what it leaves else
pub leaves_beside : (old new : Meaning) (P : Image → Type 0) → Within (codes "keyspaces") old new → LeavesOnly old new P → LeavesOnly old new (λ image. P image × IsImageIn Survives is_of_root (state_in old) image)
leaves_beside old new P run leaves =
    let same : leaves.added ≡ run.added = append_cancel_left old.steps leaves.added run.added (sym leaves.took.steps ∙ run.took.steps) in
    record {
      added = leaves.added;
      took = leaves.took;
      each = λ image left. (
        leaves.each image left,
        region_run is_of_root (codes "keyspaces") some_keyspaces apart (state_in old) (state_in old) run.added image run.under (λ q out. refl) (subst (λ (l : List DiskStep). Leaves (state_in old) l image) same left),
      );
    }
