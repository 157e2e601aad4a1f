-- A merge keeps the store, what is pending, and the greatest number of the folder; and what a crash leaves of it stands for what was
-- synced.
use Rattle.std.proofs.Common.{◌≡◌, ◌⊎◌, inl, inr, ℕ, ◌^◌, ◌==◌, ◌&&◌, Bool, true, false, cond, List, [], ◌∷◌, ◌++◌, get_or, map, filter, Option, Some, refl, sym, ◌∙◌, ap, subst, arith, codes}
use Rattle.std.specs.FinMap.{get}
use Rattle.std.proofs.lemmas.List.Elements.{filter_passes}
use Rattle.fjall_base.specs.Pairs.{Bytes}
use Rattle.fjall_base.specs.Disk.{Image, LeavesOnly, Meaning, state_in}
use Rattle.fjall_base.specs.Store.{Clear, Store, kept}
use Rattle.fjall_changes.proofs.CrashedJournals.{commanded, commands_more, kept_with}
use Rattle.fjall_meta.specs.Contents.{Stored, clears_held, commands_beyond, counts_beyond, is_beyond, journal_beyond, store_held, versions_held}
use Rattle.fjall_meta.proofs.Held.{views_alone_matter}
use Rattle.fjall_files.specs.Names.{keyspace_folder}
use Rattle.fjall_files.specs.Regions.{Within}
use Rattle.fjall_compaction.specs.Flushes.{HasAt}
use Rattle.fjall_compaction.proofs.FlushAfterHomes.{versions_at}
use Rattle.fjall_compaction.proofs.Composed.{seen}
use Rattle.fjall_compaction.proofs.SameNumber.{apart}
use Rattle.fjall_manifest.specs.Homes.{Home}
use Rattle.fjall_manifest.proofs.Outside.{within_keyspaces}
use Rattle.fjall_journal.specs.Batches.{Shown, Written, shown}
use Rattle.fjall_meta.specs.declared.living.LivingKeyspace.{LivingKeyspace}
use Rattle.fjall_meta.specs.Keyspaces.{Keyspaces}
use Rattle.fjall_recovery.specs.Amid.{StandsAmid}
use Rattle.fjall_recovery.specs.Folders.{number_of_contents, past_record, past_records, store_of_contents}
use Rattle.fjall_recovery.specs.Halves.{HasRoot, HasTree, Tree, is_of_root}
use Rattle.fjall_recovery.specs.Homes.{HasVersions, HaveVersions, last_in, lasts, stored_at, stored_in, stored_of}
use Rattle.fjall_recovery.specs.Journals.{batches_in}
use Rattle.fjall_recovery.specs.Places.{Journaling, LiesInRoot, contents_with, journals_with}
use Rattle.fjall_recovery.proofs.Holding.{made}
use Rattle.fjall_recovery.proofs.Roots.{crashes_leave_the_root}
use Rattle.fjall_recovery.proofs.Storing.{stored_inserted}
use Rattle.fjall_memtable.specs.Sorted.{flat}
use Rattle.fjall_table.specs.Blocks.{Entry}
use Rattle.fjall_meta.specs.Replays.{counts, item_of, writing}
use Rattle.fjall_meta.specs.Views.{clears_of, versions_of}
use Rattle.fjall_meta.proofs.Slots.{get_put, same_id}
use Rattle.fjall_memtable.specs.Views.{value_at}
use Rattle.fjall_memtable.proofs.Tests.{filters_same}
use Rattle.fjall_compaction.specs.Merges.{Merge, MergesTables, entries_after, home_after, tree_after}
use Rattle.fjall_compaction.proofs.Shows.{shows_same}

module _ (t : Tree) (id : ℕ) (m : Merge) (lists : List (List Entry)) (h : Home) (entries : List (List Entry)) (at : HasAt t id h (flat entries)) (have : HaveVersions t.homes t.versions)
    (is : MergesTables m lists entries h.last) where
  abbrev s : Keyspaces
  s = t.keyspaces

  abbrev next : Tree
  next = tree_after id m lists h entries t

  has : HasVersions h (flat entries)
  has = versions_at t id h (flat entries) at have

  -- ---- the store

  module _ (batches : List Shown) (key : Bytes) where
    abbrev value_of : Stored → ℕ → Option Bytes
    value_of stored other = value_at key (2 ^ 63) (clears_held s stored other batches) (versions_held s stored other batches)

    merged_one : value_of (stored_of (home_after m h) (flat (entries_after m lists entries))) id ≡ value_of (stored_of h (flat entries)) id
    merged_one =
        shows_same m lists entries h.last is has.once has.within key (filter (is_beyond h.last.persisted) (clears_of s id batches))
        (filter (λ v. is_beyond h.last.persisted v.number) (versions_of s id batches)) (filter_passes (is_beyond h.last.persisted) (clears_of s id batches))
        (filter_passes (λ (v : Entry). is_beyond h.last.persisted v.number) (versions_of s id batches))

    each_one : (other : ℕ) → value_of (stored_in next.homes next.versions other) other ≡ value_of (stored_in t.homes t.versions other) other
    each_one other =
        ap (λ (h : Stored). value_of h other) (stored_inserted t.homes t.versions id (home_after m h) (flat (entries_after m lists entries)) other) ∙ by (other == id) refl
      where
        by : (b : Bool) → (other == id) ≡ b
            → value_of (cond b (stored_of (home_after m h) (flat (entries_after m lists entries))) (stored_in t.homes t.versions other)) other ≡ value_of (stored_in t.homes t.versions other) other
        by true same =
            subst (λ i. value_of (stored_of (home_after m h) (flat (entries_after m lists entries))) i ≡ value_of (stored_in t.homes t.versions i) i) (sym (same_id other id same))
            (merged_one ∙ sym (λ i. value_of (stored_at (at.home i) (at.stored i)) id))
        by false differ = refl

  pub same_held : (batches : List Shown) → store_held s (stored_in next.homes next.versions) batches ≡ store_held s (stored_in t.homes t.versions) batches
  same_held batches = views_alone_matter s (stored_in next.homes next.versions) (stored_in t.homes t.versions) batches batches (λ i d lt key. each_one batches key (get_or s.living i d).id)

  pub same_store : (j : Journaling) (behind : List Written) → store_of_contents (contents_with j next behind) ≡ store_of_contents (contents_with j t behind)
  same_store j behind = same_held (map shown (batches_in (journals_with j behind)))

  -- ---- what is pending

  counts_alike : (number other : ℕ) → counts_beyond s (stored_in next.homes next.versions) number other ≡ counts_beyond s (stored_in t.homes t.versions) number other
  counts_alike number other =
      ap (λ b. counts s number other && b)
      (ap (λ (h : Stored). is_beyond h.persisted number) (stored_inserted t.homes t.versions id (home_after m h) (flat (entries_after m lists entries)) other) ∙ by (other == id) refl)
    where
      by : (b : Bool) → (other == id) ≡ b
          → is_beyond (cond b (stored_of (home_after m h) (flat (entries_after m lists entries))) (stored_in t.homes t.versions other)).persisted number
          ≡ is_beyond (stored_in t.homes t.versions other).persisted number
      by true same =
          subst (λ i. is_beyond h.last.persisted number ≡ is_beyond (stored_in t.homes t.versions i).persisted number) (sym (same_id other id same))
          (sym (λ i. is_beyond (stored_at (at.home i) (at.stored i)).persisted number))
      by false differ = refl

  commands_alike : (b : Shown) → commands_beyond s (stored_in next.homes next.versions) b ≡ commands_beyond s (stored_in t.homes t.versions) b
  commands_alike b =
      let clears = filters_same (counts_beyond s (stored_in next.homes next.versions) b.number) (counts_beyond s (stored_in t.homes t.versions) b.number) b.clears (λ other. counts_alike b.number other) in
      let items = filters_same (λ item. counts_beyond s (stored_in next.homes next.versions) b.number item.keyspace_id)
      (λ item. counts_beyond s (stored_in t.homes t.versions) b.number item.keyspace_id) b.items (λ item. counts_alike b.number item.keyspace_id) in
      λ i. map Clear (clears i) ++ writing (map item_of (items i))

  pub same_pending : (batches : List Shown) → journal_beyond s (stored_in next.homes next.versions) batches ≡ journal_beyond s (stored_in t.homes t.versions) batches
  same_pending [] = refl
  same_pending (b ∷ batches) =
      let here = commands_alike b in
      let rest = same_pending batches in
      λ i. here i ++ rest i

  -- ---- the greatest number

  one_record : (other : ℕ) → past_record (last_in (get next.homes other)) ≡ past_record (last_in (get t.homes other))
  one_record other = ap (λ (o : Option Home). past_record (last_in o)) (get_put t.homes id (home_after m h) other) ∙ by (other == id) refl
    where
      by : (b : Bool) → (other == id) ≡ b → past_record (last_in (cond b (Some (home_after m h)) (get t.homes other))) ≡ past_record (last_in (get t.homes other))
      by true same =
          subst (λ i. past_record h.last ≡ past_record (last_in (get t.homes i))) (sym (same_id other id same)) (sym (ap (λ (o : Option Home). past_record (last_in o)) at.home))
      by false differ = refl

  all_records : (living : List LivingKeyspace) → past_records (lasts living next.homes) ≡ past_records (lasts living t.homes)
  all_records [] = refl
  all_records (k ∷ living) = let one = one_record k.id in let rest = all_records living in omega (arith, one, rest)

  pub same_number : (j : Journaling) (behind : List Written) → number_of_contents (contents_with j next behind) ≡ number_of_contents (contents_with j t behind)
  same_number j behind = let all = all_records t.keyspaces.living in omega (arith, all)

  -- ---- a crash

  module _ (j : Journaling) (base : Store) (synced : kept base ≡ store_of_contents (contents_with j t [])) where
    pub crash_stands : (image : Image) (behind rest : List Written) → behind ++ rest ≡ j.later → HasRoot image (journals_with j behind) → HasTree image t ⊎ HasTree image next
        → StandsAmid base [] (commanded t j.later) image
    crash_stands image behind rest all root tree =
        let same = kept_with t have base j behind synced root.holds.sound in
        record {
          front = commanded t behind;
          holds = (commanded t behind, refl);
          within = (commanded t rest, sym (commands_more t behind rest) ∙ ap (commanded t) all);
          stands = elim tree [
            | inl old ↦ inl (contents_with j t behind, made image (contents_with j t behind) root old, same)
            | inr new ↦ inl (contents_with j next behind, made image (contents_with j next behind) root new, same ∙ sym (same_store j behind))
          ];
        }

    -- at each moment of a run in the keyspace's folder that leaves the tree before or after the merge
    pub run_stands : (old new : Meaning) → LiesInRoot (state_in old) j → Within (keyspace_folder id) old new → LeavesOnly old new (λ image. HasTree image t ⊎ HasTree image next)
        → LeavesOnly old new (StandsAmid base [] (commanded t j.later))
    run_stands old new lies run leaves =
        seen is_of_root (codes "keyspaces") (λ e. cc) apart old new (λ image. HasTree image t ⊎ HasTree image next) (StandsAmid base [] (commanded t j.later)) (within_keyspaces id old new run) leaves
        (λ image tree here.
        let root = crashes_leave_the_root (state_in old) image j lies here in
        crash_stands image root.0 root.1 root.2 root.3 tree)
