-- What a crash leaves of an ingestion is all of it or nothing.
use Rattle.std.proofs.Common.{◌≡◌, ◌⊎◌, inl, inr, ℕ, List, [], ◌∷◌, ◌++◌, refl, sym, ◌∙◌, ap, subst, codes}
use Rattle.fjall_base.specs.Disk.{Image, LeavesOnly, Meaning, state_in}
use Rattle.fjall_base.specs.Store.{Command, Store, apply, kept}
use Rattle.fjall_changes.proofs.CrashedJournals.{commanded, commands_more, kept_with, store_is_kept}
use Rattle.fjall_files.specs.Names.{keyspace_folder}
use Rattle.fjall_files.specs.Regions.{Within}
use Rattle.fjall_compaction.proofs.Composed.{seen}
use Rattle.fjall_compaction.proofs.SameNumber.{apart}
use Rattle.fjall_manifest.specs.Homes.{Home}
use Rattle.fjall_manifest.proofs.Outside.{within_keyspaces}
use Rattle.fjall_jobs.specs.declared.made_table.MadeTable.{MadeTable}
use Rattle.fjall_journal.specs.Batches.{Written}
use Rattle.fjall_recovery.specs.Amid.{StandsAmid}
use Rattle.fjall_recovery.specs.Folders.{store_of_contents}
use Rattle.fjall_recovery.specs.Halves.{HasRoot, HasTree, Tree, is_of_root}
use Rattle.fjall_recovery.specs.Places.{Journaling, LiesInRoot, contents_with, journals_with}
use Rattle.fjall_recovery.proofs.Holding.{made}
use Rattle.fjall_recovery.proofs.Roots.{crashes_leave_the_root}
use Rattle.fjall_table.specs.Blocks.{Entry}
use Rattle.fjall_meta.proofs.Kept.{kept_along}
use Rattle.fjall_reading.specs.Ingestions.{KeyOp}
use Rattle.fjall_compaction.specs.Commands.{MayIngest, MayIngestSynced}
use Rattle.fjall_compaction.specs.Ingests.{ingestion, tree_with}
use Rattle.fjall_compaction.proofs.Storing as Storing

-- an image of a tree, with a beginning of the later batches, stands for the base and what the beginning commands
with_tree : (j : Journaling) (t : Tree) (base : Store) (image : Image) (behind rest : List Written) → kept base ≡ store_of_contents (contents_with j t []) → behind ++ rest ≡ j.later
    → HasRoot image (journals_with j behind) → HasTree image t → StandsAmid base [] (commanded t j.later) image
with_tree j t base image behind rest is all root tree = record {
  front = commanded t behind;
  holds = (commanded t behind, refl);
  within = (commanded t rest, sym (commands_more t behind rest) ∙ ap (commanded t) all);
  stands = inl (contents_with j t behind, made image (contents_with j t behind) root tree, kept_with t tree.versions base j behind is root.holds.sound);
}

-- the base with the command keeps the store after it
base_after : (j : Journaling) (t next : Tree) (base : Store) (command : Command) → kept base ≡ store_of_contents (contents_with j t [])
    → store_of_contents (contents_with j next []) ≡ apply (store_of_contents (contents_with j t [])) command
    → kept (apply base command) ≡ store_of_contents (contents_with j next [])
base_after j t next base command is one =
    kept_along base (store_of_contents (contents_with j t [])) (command ∷ []) (is ∙ sym (store_is_kept (contents_with j t []))) ∙ ap kept (sym one) ∙ store_is_kept (contents_with j next [])

-- ---- whatever is pending

module _ (j : Journaling) (t : Tree) (id number : ℕ) (items : List KeyOp) (tables : List MadeTable) (h : Home) (versions : List Entry) (base : Store) (may : MayIngest j t id number h versions)
    (is : kept base ≡ store_of_contents (contents_with j t [])) where
  abbrev next : Tree
  next = tree_with id number items tables h versions t

  with_command : kept (apply base (ingestion id items)) ≡ store_of_contents (contents_with j next [])
  with_command =
      base_after j t next base (ingestion id items) is (Storing.one_command j t id number items tables h versions may.come [] j.later refl may.persisted)

  abbrev Either : Image → Type 0
  Either image = StandsAmid base [] (commanded t j.later) image ⊎ StandsAmid (apply base (ingestion id items)) [] (commanded t j.later) image

  pub image_stands : (image : Image) (behind rest : List Written) → behind ++ rest ≡ j.later → HasRoot image (journals_with j behind) → HasTree image t ⊎ HasTree image next → Either image
  image_stands image behind rest all root (inl old) = inl (with_tree j t base image behind rest is all root old)
  image_stands image behind rest all root (inr new) =
      inr (subst (λ commands. StandsAmid (apply base (ingestion id items)) [] commands image) (Storing.same_pending j t id number items tables h versions may.come may.persisted)
      (with_tree j next (apply base (ingestion id items)) image behind rest with_command all root new))

  -- ---- at each moment of a run in the keyspace's folder

  abbrev Trees : Image → Type 0
  Trees image = HasTree image t ⊎ HasTree image next

  pub run_stands : (old new : Meaning) → LiesInRoot (state_in old) j → Within (keyspace_folder id) old new → LeavesOnly old new Trees → LeavesOnly old new Either
  run_stands old new lies run leaves =
      seen is_of_root (codes "keyspaces") (λ e. cc) apart old new Trees Either (within_keyspaces id old new run) leaves
      (λ image trees here.
      let root = crashes_leave_the_root (state_in old) image j lies here in
      image_stands image root.0 root.1 root.2 root.3 trees)

-- ---- nothing is pending

-- no later batch is there where there is none
pub none_behind : (j : Journaling) (behind rest : List Written) → behind ++ rest ≡ j.later → j.later ≡ [] → behind ≡ []
none_behind j [] rest all none = refl
none_behind j (b ∷ behind) rest all none = absurd (let never : b ∷ (behind ++ rest) ≡ [] = all ∙ none in cc)

module _ (j : Journaling) (t : Tree) (id number : ℕ) (items : List KeyOp) (tables : List MadeTable) (h : Home) (versions : List Entry) (base : Store)
    (may : MayIngestSynced j t id number h versions) (is : kept base ≡ store_of_contents (contents_with j t [])) where
  abbrev later_tree : Tree
  later_tree = tree_with id number items tables h versions t

  -- the base with the command behind it says all
  pub synced_stands : (image : Image) → HasRoot image (journals_with j []) → HasTree image t ⊎ HasTree image later_tree → StandsAmid base [] (ingestion id items ∷ []) image
  synced_stands image root (inl old) = record {
    front = [];
    holds = ([], refl);
    within = (ingestion id items ∷ [], refl);
    stands = inl (contents_with j t [], made image (contents_with j t []) root old, is);
  }
  synced_stands image root (inr new) = record {
    front = ingestion id items ∷ [];
    holds = (ingestion id items ∷ [], refl);
    within = ([], refl);
    stands = inl (
      contents_with j later_tree [],
      made image (contents_with j later_tree []) root new,
      base_after j t later_tree base (ingestion id items) is (Storing.synced_store j t id number items tables h versions may),
    );
  }

  pub synced_run : (old new : Meaning) → LiesInRoot (state_in old) j → Within (keyspace_folder id) old new → LeavesOnly old new (λ image. HasTree image t ⊎ HasTree image later_tree)
      → LeavesOnly old new (StandsAmid base [] (ingestion id items ∷ []))
  synced_run old new lies run leaves =
      seen is_of_root (codes "keyspaces") (λ e. cc) apart old new (λ image. HasTree image t ⊎ HasTree image later_tree) (StandsAmid base [] (ingestion id items ∷ [])) (within_keyspaces id
      old new run) leaves
      (λ image trees here.
      let root = crashes_leave_the_root (state_in old) image j lies here in
      synced_stands image (subst (λ (l : List Written). HasRoot image (journals_with j l)) (none_behind j root.0 root.1 root.2 may.synced) root.3) trees)

-- ---- the base behind it

pub base_kept : (j : Journaling) (t : Tree) (id number : ℕ) (items : List KeyOp) (tables : List MadeTable) (h : Home) (versions : List Entry) (base : Store)
    → MayIngest j t id number h versions ⊎ MayIngestSynced j t id number h versions → kept base ≡ store_of_contents (contents_with j t [])
    → kept (apply base (ingestion id items)) ≡ store_of_contents (contents_with j (tree_with id number items tables h versions t) [])
base_kept j t id number items tables h versions base (inl may) is = with_command j t id number items tables h versions base may is
base_kept j t id number items tables h versions base (inr may) is =
    base_after j t (tree_with id number items tables h versions t) base (ingestion id items) is (Storing.synced_store j t id number items tables h versions may)
