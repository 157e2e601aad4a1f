-- What a flush makes of the greatest number of the folder; and what a crash leaves of it stands for what was synced.
use Rattle.std.proofs.Common.{◌≡◌, ◌⊎◌, inl, inr, ℕ, ◌+◌, ◌≤◌, ◌==◌, max, Bool, true, false, cond, List, [], ◌∷◌, ◌++◌, All, Option, Some, None, is_some, refl, sym, ◌∙◌, ap, subst, arith, codes, not}
use Rattle.std.specs.FinMap.{get}
use Rattle.std.proofs.lemmas.Bool.{cond-true, eq-eqb}
use Rattle.std.proofs.lemmas.List.Elements.{All-cons, All-nil, All-weaker}
use Rattle.fjall_base.specs.Disk.{Image, LeavesOnly, Meaning, Name, state_in}
use Rattle.fjall_base.specs.Store.{Store, kept}
use Rattle.fjall_files.specs.Names.{keyspace_folder}
use Rattle.fjall_files.specs.Regions.{Within, is_under}
use Rattle.fjall_manifest.specs.Homes.{Home}
use Rattle.fjall_manifest.proofs.Outside.{within_keyspaces}
use Rattle.fjall_journal.specs.Batches.{Written}
use Rattle.fjall_meta.specs.declared.living.LivingKeyspace.{LivingKeyspace}
use Rattle.fjall_meta.specs.Keyspaces.{keyspace_at}
use Rattle.fjall_recovery.specs.Amid.{StandsAmid}
use Rattle.fjall_recovery.specs.Folders.{number_of_contents, past, past_record, past_records, store_of_contents}
use Rattle.fjall_recovery.specs.Halves.{HasRoot, HasTree, Tree, is_of_root}
use Rattle.fjall_recovery.specs.Homes.{Homes, last_in, lasts}
use Rattle.fjall_recovery.specs.Places.{Journaling, LiesInRoot, contents_with, journals_with}
use Rattle.fjall_recovery.proofs.Holding.{made}
use Rattle.fjall_recovery.proofs.Roots.{crashes_leave_the_root}
use Rattle.fjall_table.specs.Blocks.{Entry}
use Rattle.fjall_meta.proofs.Ids.{living_has}
use Rattle.fjall_meta.proofs.Slots.{get_put, same_id}
use Rattle.fjall_changes.proofs.CrashedJournals.{commanded, commands_more, kept_with}
use Rattle.fjall_compaction.specs.Covering.{MayCount}
use Rattle.fjall_compaction.specs.Flushes.{Flush, home_after, raised, record_after_flush, tree_after}
use Rattle.fjall_compaction.proofs.Composed.{seen}
use Rattle.fjall_compaction.proofs.FlushSameStore.{same_store}

-- ---- the greatest number

past_raised : (other : Option ℕ) (number : ℕ) → past (Some (raised other number)) ≡ max (past other) (number + 1)
past_raised None number = omega arith
past_raised (Some n) number = omega arith

pub past_after : (f : Flush) (h : Home) → past_record (record_after_flush f h.last) ≡ max (past_record h.last) (f.number + 1)
past_after f h =
    let one = past_raised h.last.persisted f.number in
    let two = past_raised h.last.highest f.number in
    omega (arith, one, two)

-- the last record of each keyspace is among all
pub each_counts : (homes : Homes) (living : List LivingKeyspace) → All (λ k. past_record (last_in (get homes k.id)) ≤ past_records (lasts living homes)) living
each_counts homes [] = All-nil (λ (k : LivingKeyspace). past_record (last_in (get homes k.id)) ≤ 0)
each_counts homes (k ∷ living) =
    All-cons (λ (i : LivingKeyspace). past_record (last_in (get homes i.id)) ≤ past_records (lasts (k ∷ living) homes)) k living (omega arith)
    (All-weaker (λ (i : LivingKeyspace). past_record (last_in (get homes i.id)) ≤ past_records (lasts living homes))
    (λ i. past_record (last_in (get homes i.id)) ≤ past_records (lasts (k ∷ living) homes)) (λ i le. omega (arith, le)) living (each_counts homes living))

-- the root is outside the folder of all keyspaces
pub apart : (q : Name) → is_of_root q ≡ true → is_under (codes "keyspaces") q ≡ false
apart q root = by (is_under (codes "keyspaces") q) root
  where
    by : (b : Bool) → not b ≡ true → b ≡ false
    by true root = let no : false ≡ true = root in cc
    by false root = refl

module _ (j : Journaling) (t : Tree) (id : ℕ) (f : Flush) (lists : List (List Entry)) (h : Home) (versions : List Entry) (may : MayCount j t id f lists h versions) where
  abbrev next : Tree
  next = tree_after id f lists h versions t

  -- no record is missed, and none tells more than it did or than the flush's number
  one_record : (other : ℕ) → (past_record (last_in (get t.homes other)) ≤ past_record (last_in (get next.homes other)))
      × (past_record (last_in (get next.homes other)) ≤ max (past_record (last_in (get t.homes other))) (f.number + 1))
  one_record other = subst between (sym (get_put t.homes id (home_after f h) other)) (by (other == id) refl)
    where
      between : Option Home → Type 0
      between o = (past_record (last_in (get t.homes other)) ≤ past_record (last_in o)) × (past_record (last_in o) ≤ max (past_record (last_in (get t.homes other))) (f.number + 1))

      by : (b : Bool) → (other == id) ≡ b → between (cond b (Some (home_after f h)) (get t.homes other))
      by true is =
          let e = past_after f h in
          let here : past_record (last_in (get t.homes other)) ≡ past_record h.last =
          ap (λ i. past_record (last_in (get t.homes i))) (same_id other id is) ∙ ap (λ (o : Option Home). past_record (last_in o)) may.at.home in
          omega (arith, e, here)
      by false is = omega arith

  all_records : (living : List LivingKeyspace) → (past_records (lasts living t.homes) ≤ past_records (lasts living next.homes))
      × (past_records (lasts living next.homes) ≤ max (past_records (lasts living t.homes)) (f.number + 1))
  all_records [] = omega arith
  all_records (k ∷ living) =
      let one = one_record k.id in
      let rest = all_records living in
      omega (arith, one, rest)

  pub between_numbers : (behind : List Written) → (number_of_contents (contents_with j t behind) ≤ number_of_contents (contents_with j next behind))
      × (number_of_contents (contents_with j next behind) ≤ max (f.number + 1) (number_of_contents (contents_with j t behind)))
  between_numbers behind = let all = all_records t.keyspaces.living in omega (arith, all)

  -- the record of a keyspace that lives tells the flush's number
  told : (o : Option LivingKeyspace) → keyspace_at id t.keyspaces.living ≡ o → is_some o ≡ true → f.number + 1 ≤ past_records (lasts t.keyspaces.living next.homes)
  told None found some = absurd cc
  told (Some k) found some =
      let own : last_in (get next.homes id) ≡ record_after_flush f h.last =
      ap last_in (get_put t.homes id (home_after f h) id ∙ cond-true (id == id) (Some (home_after f h)) (get t.homes id) (eq-eqb id id refl)) in
      let counted = living_has (λ i. past_record (last_in (get next.homes i)) ≤ past_records (lasts t.keyspaces.living next.homes)) t.keyspaces.living id k found
      (each_counts next.homes t.keyspaces.living) in
      let here = subst (λ r. past_record r ≤ past_records (lasts t.keyspaces.living next.homes)) own counted in
      let e = past_after f h in
      omega (arith, here, e)

  pub number_after : (behind : List Written) → is_some (keyspace_at id t.keyspaces.living) ≡ true
      → number_of_contents (contents_with j next behind) ≡ max (f.number + 1) (number_of_contents (contents_with j t behind))
  number_after behind lives =
      let own = told (keyspace_at id t.keyspaces.living) refl lives in
      let all = all_records t.keyspaces.living in
      omega (arith, own, all)

  -- ---- a crash

  pub crash_stands : (base : Store) (image : Image) (behind rest : List Written) → kept base ≡ store_of_contents (contents_with j t []) → behind ++ rest ≡ j.later → HasRoot image (journals_with j behind)
      → HasTree image t ⊎ HasTree image next → StandsAmid base [] (commanded t j.later) image
  crash_stands base image behind rest is all root tree =
      let same = kept_with t may.have base j behind is root.holds.sound in
      record {
        front = commanded t behind;
        holds = (commanded t behind, refl);
        within = (commanded t rest, sym (commands_more t behind rest) ∙ ap (commanded t) all);
        stands = elim tree [
          | inl old ↦ inl (contents_with j t behind, made image (contents_with j t behind) root old, same)
          | inr new ↦ inl (contents_with j next behind, made image (contents_with j next behind) root new, same ∙ sym (same_store j t id f lists h versions may behind rest all))
        ];
      }

  -- at each moment of a run in the keyspace's folder that leaves the tree before or after the flush
  pub run_stands : (base : Store) (old new : Meaning) → kept base ≡ store_of_contents (contents_with j t []) → LiesInRoot (state_in old) j → Within (keyspace_folder id) old new
      → LeavesOnly old new (λ image. HasTree image t ⊎ HasTree image next) → LeavesOnly old new (StandsAmid base [] (commanded t j.later))
  run_stands base old new is lies run leaves =
      seen is_of_root (codes "keyspaces") (λ e. cc) apart old new (λ image. HasTree image t ⊎ HasTree image next) (StandsAmid base [] (commanded t j.later)) (within_keyspaces id old new run) leaves
      (λ image tree here.
      let root = crashes_leave_the_root (state_in old) image j lies here in
      crash_stands base image root.0 root.1 is root.2 root.3 tree)
