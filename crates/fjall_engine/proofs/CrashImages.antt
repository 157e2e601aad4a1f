-- What a crash leaves of a folder stands for the base with a beginning of what is pending.
use Rattle.std.proofs.Common.{◌≡◌, inl, suc, arith, List, [], ◌∷◌, ◌++◌, map, refl, sym, ◌∙◌, ap, subst}
use Rattle.std.specs.Prelude.{Contains}
use Rattle.std.proofs.lemmas.List.{append-nil}
use Rattle.fjall_base.specs.Store.{Store, Command, kept}
use Rattle.fjall_base.specs.Disk.{Image, Meaning, LeavesOnly, DiskState, state_in}
use Rattle.fjall_base.proofs.Moments.{at_end, weaken}
use Rattle.fjall_journal.specs.Batches.{Written}
use Rattle.fjall_manifest.specs.Records.{Fields}
use Rattle.fjall_recovery.specs.Folders.{store_of_contents}
use Rattle.fjall_recovery.specs.Journals.{WholeJournal}
use Rattle.fjall_recovery.specs.Halves.{HasRoot, HasTree, Tree}
use Rattle.fjall_recovery.specs.Places.{Journaling, LiesInRoot, LiesInTree, contents_with, journals_with}
use Rattle.fjall_recovery.proofs.Trees.{crashes_leave_the_tree}
use Rattle.fjall_recovery.proofs.Holding.{made}
use Rattle.fjall_changes.specs.Journaling.{LeavesRoot}
use Rattle.fjall_changes.proofs.CrashesInWrites.{root_left}
use Rattle.fjall_changes.proofs.CrashedJournals.{commanded, commands_more, kept_with}
use Rattle.fjall_engine.specs.Holding.{Held}
use Rattle.fjall_engine.specs.Durables.{CrashLeavesPending, Durable, IsFinishedImage, Lies, StandsAmid, StaysFinished}

-- ---- a finished folder

last_named : (sealed : List WholeJournal) (last : WholeJournal) → Contains (map (λ (j : WholeJournal). j.id) (sealed ++ last ∷ [])) last.id
last_named [] last = (0, omega arith, refl)
last_named (j ∷ sealed) last = let at = last_named sealed last in let lt = at.1 in (suc at.0, omega (arith, lt), at.2)

-- the root of an image with an active journal
pub has_finished : (image : Image) (j : Journaling) (behind : List Written) → HasRoot image (journals_with j behind) → IsFinishedImage image
has_finished image j behind root =
    let last : WholeJournal = record { id = j.active; batches = j.whole ++ behind } in
    let at = (root.holds.ids.each j.active).0 (last_named j.sealed last) in
    record { marker = root.marker; id = j.active; fits = at.0; journal = at.1 }

-- so is what a crash leaves of a root that lies exactly
pub root_finished : (s : DiskState) (j : Journaling) → LiesInRoot s j → StaysFinished s
root_finished s j lies image is = let left = root_left s j image lies is in has_finished image j left.some.0 left.some.3

-- and what it leaves while batches go out
pub leaves_finished : (old new : Meaning) (s : DiskState) (j : Journaling) (batches : List Written) → LeavesOnly old new (LeavesRoot s j batches) → StaysFinished (state_in new)
leaves_finished old new s j batches leaves image is = let left = at_end old new (LeavesRoot s j batches) leaves image is in has_finished image j left.some.0 left.some.3

-- ---- what is pending

-- an image with some of the later batches
pub folder_amid : (base : Store) (pending : List Command) (j : Journaling) (t : Tree) (image : Image) (behind rest more : List Written) → kept base ≡ store_of_contents (contents_with j t []) → pending ≡ commanded t j.later
    → behind ++ rest ≡ j.later ++ more → HasRoot image (journals_with j behind) → HasTree image t → StandsAmid base [] (pending ++ commanded t more) image
folder_amid base pending j t image behind rest more is waits all root tree =
    let front = commanded t behind in
    record {
      front = front;
      holds = (front, refl);
      within = (
        commanded t rest,
        sym (commands_more t behind rest) ∙ ap (commanded t) all ∙ commands_more t j.later more ∙ ap (λ (l : List Command). l ++ commanded t more) (sym waits),
      );
      stands = inl (contents_with j t behind, made image (contents_with j t behind) root tree, kept_with t tree.versions base j behind is root.holds.sound);
    }

-- the images of the root as it is written, and of keyspaces that lie so
pub root_amid : (base : Store) (pending : List Command) (old new : Meaning) (j : Journaling) (records : List Fields) (t : Tree) (more : List Written) → kept base ≡ store_of_contents (contents_with j t []) → pending ≡ commanded t j.later
    → LiesInTree (state_in old) records t → LeavesOnly old new (LeavesRoot (state_in old) j (j.later ++ more)) → LeavesOnly old new (StandsAmid base [] (pending ++ commanded t more))
root_amid base pending old new j records t more is waits lies leaves =
    weaken old new _ _ leaves (λ image left.
    folder_amid base pending j t image left.some.0 left.some.1 more is waits left.some.2 left.some.3 (crashes_leave_the_tree (state_in old) image records t lies.rests left.elsewhere))

-- a core whose base and pending lie on the disk rests on them
pub lies_rest : (core : Held) (d : Durable) → Lies core d → CrashLeavesPending d
lies_rest core d lies image is =
    let left = root_left (state_in d.meaning) lies.journals image lies.writing.root is in
    subst (λ (l : List Command). StandsAmid d.base [] l image) (append-nil d.pending)
    (folder_amid d.base d.pending lies.journals lies.tree image left.some.0 left.some.1 [] lies.made lies.waits (left.some.2 ∙ sym (append-nil lies.journals.later)) left.some.3
    (crashes_leave_the_tree (state_in d.meaning) image lies.records lies.tree lies.in_tree.rests left.elsewhere))
