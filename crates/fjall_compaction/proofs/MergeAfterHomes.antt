-- The home after a merge: its tables have what the merge made, and what came since.
use Rattle.std.proofs.Common.{◌≡◌, ℕ, zero, suc, ◌+◌, ◌<◌, false, List, [], ◌∷◌, ◌++◌, drop, take, refl, sym, subst}
use Rattle.std.proofs.lemmas.List.Elements.{All-filter}
use Rattle.fjall_base.specs.Disk.{DiskState}
use Rattle.fjall_meta.specs.Contents.{is_beyond}
use Rattle.fjall_compaction.specs.Flushes.{HasAt, texts_of}
use Rattle.fjall_compaction.proofs.FlushAfterHomes.{both_right, versions_at}
use Rattle.fjall_manifest.specs.Homes.{AreSafe, Home}
use Rattle.fjall_manifest.specs.Reading.{AreRight}
use Rattle.fjall_jobs.specs.declared.made_table.MadeTable.{MadeTable}
use Rattle.fjall_jobs.specs.Sequences.{AreMadeTables}
use Rattle.fjall_tree.proofs.Merged.{once_of}
use Rattle.fjall_tree.proofs.Several.{all_same, flat_both, ordered_once}
use Rattle.fjall_recovery.specs.Halves.{Tree}
use Rattle.fjall_recovery.specs.Homes.{ClearsAreWithin, HasVersions, HaveVersions}
use Rattle.fjall_recovery.proofs.Storing.{versions_inserted}
use Rattle.fjall_memtable.specs.Sorted.{flat}
use Rattle.fjall_table.specs.Blocks.{Entry}
use Rattle.fjall_table.specs.declared.table_info.TableInfo.{TableInfo}
use Rattle.fjall_memtable.specs.Jobs.{OnceEach, merged}
use Rattle.fjall_memtable.proofs.Once.{parts_once}
use Rattle.fjall_compaction.specs.Merges.{Merge, MergesTables, entries_after, home_after, merged_infos, tree_after}
use Rattle.fjall_compaction.proofs.Shows.{each_new, each_new_clear}

-- ---- tables that are left

pub right_left : (n : ℕ) (tables : List TableInfo) (texts : List (List ℕ)) (entries : List (List Entry)) → AreRight tables texts entries → AreRight (drop n tables) (drop n texts) (drop n entries)
right_left zero tables texts entries right = right
right_left (suc n) [] [] [] right = tt
right_left (suc n) [] [] (e ∷ entries) right = absurd right
right_left (suc n) [] (b ∷ texts) entries right = absurd right
right_left (suc n) (t ∷ tables) [] entries right = absurd right
right_left (suc n) (t ∷ tables) (b ∷ texts) [] right = absurd right
right_left (suc n) (t ∷ tables) (b ∷ texts) (e ∷ entries) right = right_left n tables texts entries right.1

new_right : (next : ℕ) (tables : List MadeTable) (lists : List (List Entry)) → AreMadeTables tables lists → AreRight (merged_infos next tables) (texts_of tables) lists
new_right next [] [] made = tt
new_right next [] (l ∷ lists) made = absurd made
new_right next (t ∷ tables) [] made = absurd made
new_right next (t ∷ tables) (l ∷ lists) made = (record { len = refl; table = made.0.table; count = made.0.count }, new_right (next + 1) tables lists made.1)

-- ---- what they hold

module _ (m : Merge) (lists entries : List (List Entry)) (h : Home) (is : MergesTables m lists entries h.last) (right : AreRight h.last.tables h.texts entries) where
  pub right_after : AreRight (home_after m h).last.tables (home_after m h).texts (entries_after m lists entries)
  right_after =
      both_right (merged_infos h.last.next_table_id m.tables) (drop m.table_count h.last.tables) (texts_of m.tables) (drop m.table_count h.texts) lists (drop m.table_count entries)
      (new_right h.last.next_table_id m.tables lists is.made) (right_left m.table_count h.last.tables h.texts entries right)

  pub once_after : OnceEach (flat entries) → OnceEach (flat (entries_after m lists entries))
  once_after once =
      let taken = flat (take m.table_count entries) in
      let below = all_same (λ (v : Entry). v.number < is.bound) (flat lists) (merged is.watermark (take m.clear_count h.last.clears) taken) is.kept
      (All-filter _ (λ (v : Entry). v.number < is.bound) taken is.below) in
      subst OnceEach (sym (flat_both lists (drop m.table_count entries)))
      (parts_once is.bound (flat lists) (flat (drop m.table_count entries)) below is.from (ordered_once (flat lists) is.ordered) (once_of entries m.table_count once).1)

  pub clears_within : OnceEach (flat entries) → ClearsAreWithin h.last → ClearsAreWithin (home_after m h).last
  clears_within once within = each_new_clear m lists entries h.last is once (λ c. is_beyond h.last.persisted c ≡ false) within

  pub has_versions : HasVersions h (flat entries) → HasVersions (home_after m h) (flat (entries_after m lists entries))
  has_versions has = record {
    lists = entries_after m lists entries;
    right = right_after;
    all = refl;
    within = (each_new m lists entries h.last is has.once (λ v. is_beyond h.last.persisted v.number ≡ false) has.within.0, clears_within has.once has.within.1);
    once = once_after has.once;
  }

  pub have_versions : (t : Tree) (id : ℕ) → HasAt t id h (flat entries) → HaveVersions t.homes t.versions
      → HaveVersions (tree_after id m lists h entries t).homes (tree_after id m lists h entries t).versions
  have_versions t id at have =
      versions_inserted t.homes t.versions id (home_after m h) (flat (entries_after m lists entries)) (has_versions (versions_at t id h (flat entries) at have)) have
