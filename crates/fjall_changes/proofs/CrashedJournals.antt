-- What a crash leaves of a rotation and of an eviction stands for the synced batches and a beginning of what is pending.
use Rattle.std.proofs.Common.{◌≡◌, inl, inr, ℕ, zero, suc, ◌≤◌, List, [], ◌∷◌, ◌++◌, map, take, None, refl, sym, ◌∙◌, ap, subst, arith, append_assoc}
use Rattle.std.proofs.lemmas.List.{append-nil, map-append}
use Rattle.std.proofs.lemmas.Grind.{flat_map-append}
use Rattle.std.specs.List.{AllByRecursion}
use Rattle.fjall_base.specs.Store.{Store, Command, fold, kept}
use Rattle.fjall_base.specs.Disk.{DiskState, Image}
use Rattle.fjall_meta.specs.Contents.{commands_beyond, journal_beyond, store_held}
use Rattle.fjall_meta.proofs.Following.{batches_follow}
use Rattle.fjall_meta.proofs.Keyspacing.{nothing_to_keep}
use Rattle.fjall_journal.specs.Batches.{Written, shown}
use Rattle.fjall_recovery.specs.Amid.{StandsAmid}
use Rattle.fjall_recovery.specs.Folders.{Contents, store_of_contents}
use Rattle.fjall_recovery.specs.Halves.{HasRoot, HasTree, Tree}
use Rattle.fjall_recovery.specs.Homes.{HaveVersions, stored_in}
use Rattle.fjall_recovery.specs.Journals.{WholeJournal, batches_in}
use Rattle.fjall_recovery.specs.Places.{Journaling, RestsInTree, contents_with, journals_with}
use Rattle.fjall_recovery.proofs.Holding.{made}
use Rattle.fjall_recovery.proofs.Roots.{all_behind, all_both, all_front, batches_are}
use Rattle.fjall_recovery.proofs.Storing.{are_within}
use Rattle.fjall_recovery.proofs.Trees.{crashes_leave_the_tree}
use Rattle.fjall_manifest.specs.Records.{Fields}
use Rattle.fjall_meta.specs.Replays.{first_fault}
use Rattle.fjall_meta.proofs.Kept.{kept_along}
use Rattle.fjall_changes.specs.Evictions.{LeavesEviction, evicted}
use Rattle.fjall_changes.specs.Journaling.{HasSome}
use Rattle.fjall_changes.specs.Rotations.{LeavesRotation, rotated}
use Rattle.fjall_changes.specs.Watermarks.{AreStored, IsStored}
use Rattle.fjall_changes.proofs.StoredJournals.{evicted_store, rotated_batches, rotated_store}

-- what these batches command beyond what the tree's files hold
abbrev pub commanded : Tree → List Written → List Command
commanded t batches = journal_beyond t.keyspaces (stored_in t.homes t.versions) (map shown batches)

pub commands_more : (t : Tree) (front behind : List Written) → commanded t (front ++ behind) ≡ commanded t front ++ commanded t behind
commands_more t front behind =
    let stored = stored_in t.homes t.versions in
    ap (journal_beyond t.keyspaces stored) (map-append shown front behind) ∙ flat_map-append (commands_beyond t.keyspaces stored) (map shown front) (map shown behind)

pub store_is_kept : (c : Contents) → kept (store_of_contents c) ≡ store_of_contents c
store_is_kept c = nothing_to_keep c.keyspaces (stored_in c.homes c.versions) (map shown (batches_in c.journals))

-- ---- the store with the later batches is that of the synced ones, and what the later ones command

module _ (t : Tree) (has : HaveVersions t.homes t.versions) where
  store_with : (j : Journaling) (behind : List Written) → first_fault 0 (map shown (batches_in (journals_with j behind))) ≡ None → store_of_contents (contents_with j t behind) ≡ fold (store_of_contents (contents_with j t [])) (commanded t behind)
  store_with j behind sound =
      let stored = stored_in t.homes t.versions in
      let front = batches_in j.sealed ++ (j.whole ++ []) in
      let split : map shown (batches_in (journals_with j behind)) ≡ map shown front ++ map shown behind =
      ap (map shown) (batches_are j behind ∙ ap (λ (l : List Written). batches_in j.sealed ++ (l ++ behind)) (sym (append-nil j.whole)) ∙ sym (append_assoc (batches_in j.sealed) (j.whole ++ []) behind))
      ∙ map-append shown front behind in
      ap (store_held t.keyspaces stored) split
      ∙ batches_follow t.keyspaces stored (are_within t.homes t.versions has t.keyspaces) 0 (map shown front) (map shown behind) (sym (ap (first_fault 0) split) ∙ sound)
      ∙ ap (λ (l : List Written). fold (store_held t.keyspaces stored (map shown l)) (commanded t behind)) (sym (batches_are j []))

  -- a base that keeps the synced batches' store, with what later ones command
  pub kept_with : (base : Store) (j : Journaling) (behind : List Written) → kept base ≡ store_of_contents (contents_with j t []) → first_fault 0 (map shown (batches_in (journals_with j behind))) ≡ None
      → kept (fold base (commanded t behind)) ≡ store_of_contents (contents_with j t behind)
  kept_with base j behind is sound =
      kept_along base (store_of_contents (contents_with j t [])) (commanded t behind) (is ∙ sym (store_is_kept (contents_with j t [])))
      ∙ ap kept (sym (store_with j behind sound)) ∙ store_is_kept (contents_with j t behind)

  -- once the journals are rotated all of it is in the base
  pub rotated_base : (base : Store) (j : Journaling) → kept base ≡ store_of_contents (contents_with j t []) → first_fault 0 (map shown (batches_in (journals_with j j.later))) ≡ None
      → kept (fold base (commanded t j.later)) ≡ store_of_contents (contents_with (rotated j) t [])
  rotated_base base j is sound = kept_with base j j.later is sound ∙ sym (rotated_store j t)

-- ---- images

module _ (image : Image) (t : Tree) (tree : HasTree image t) (base : Store) (j : Journaling) (is : kept base ≡ store_of_contents (contents_with j t [])) where
  -- an image of these journals, whose store is that of the base and of a beginning of what is pending
  stands : (shows : Journaling) (behind rest held : List Written) → behind ++ rest ≡ j.later → HasRoot image (journals_with shows held)
      → kept (fold base (commanded t behind)) ≡ store_of_contents (contents_with shows t held) → StandsAmid base [] (commanded t j.later) image
  stands shows behind rest held all root same = record {
    front = commanded t behind;
    holds = (commanded t behind, refl);
    within = (commanded t rest, sym (commands_more t behind rest) ∙ ap (commanded t) all);
    stands = inl (contents_with shows t held, made image (contents_with shows t held) root tree, same);
  }

  some_stand : HasSome j j.later image → StandsAmid base [] (commanded t j.later) image
  some_stand (behind, rest, all, root) = stands j behind rest behind all root (kept_with t tree.versions base j behind is root.holds.sound)

  rotated_stand : HasRoot image (journals_with (rotated j) []) → StandsAmid base [] (commanded t j.later) image
  rotated_stand root =
      let sound : first_fault 0 (map shown (batches_in (journals_with j j.later))) ≡ None = ap (λ (l : List Written). first_fault 0 (map shown l)) (sym (rotated_batches j)) ∙ root.holds.sound in
      stands (rotated j) j.later [] [] (append-nil j.later) root (rotated_base t tree.versions base j is sound)

  evicted_stand : (n : ℕ) → AreStored t (batches_in (take n j.sealed)) → HasSome (evicted n j) j.later image → StandsAmid base [] (commanded t j.later) image
  evicted_stand n are (behind, rest, all, root) =
      stands (evicted n j) behind rest behind all root (kept_with t tree.versions base (evicted n j) behind (is ∙ sym (evicted_store j t n [] are)) root.holds.sound)

pub rotation_stands : (state : DiskState) (j : Journaling) (records : List Fields) (t : Tree) (base : Store) (image : Image) → RestsInTree state records t → kept base ≡ store_of_contents (contents_with j t [])
    → LeavesRotation state j image → StandsAmid base [] (commanded t j.later) image
rotation_stands state j records t base image rests is left =
    let tree = crashes_leave_the_tree state image records t rests left.elsewhere in
    elim left.root [ inl some ↦ some_stand image t tree base j is some | inr all ↦ rotated_stand image t tree base j is all ]

-- of fewer journals that may go nothing counts either
fewer_stored : (t : Tree) (journals : List WholeJournal) (n most : ℕ) → n ≤ most → AreStored t (batches_in (take most journals)) → AreStored t (batches_in (take n journals))
fewer_stored t journals zero most le are = tt
fewer_stored t [] (suc n) most le are = tt
fewer_stored t (j ∷ journals) (suc n) zero le are = absurd (omega (arith, le))
fewer_stored t (j ∷ journals) (suc n) (suc most) le are =
    let P = IsStored t.keyspaces (stored_in t.homes t.versions) in
    let both = subst (AllByRecursion P) (map-append shown j.batches (batches_in (take most journals))) are in
    subst (AllByRecursion P) (sym (map-append shown j.batches (batches_in (take n journals))))
    (all_both P (map shown j.batches) (map shown (batches_in (take n journals))) (all_front P (map shown j.batches) (map shown (batches_in (take most journals))) both)
    (fewer_stored t journals n most (omega (arith, le)) (all_behind P (map shown j.batches) (map shown (batches_in (take most journals))) both)))

pub eviction_stands : (state : DiskState) (j : Journaling) (most : ℕ) (records : List Fields) (t : Tree) (base : Store) (image : Image) → RestsInTree state records t → kept base ≡ store_of_contents (contents_with j t [])
    → AreStored t (batches_in (take most j.sealed)) → LeavesEviction state j most image → StandsAmid base [] (commanded t j.later) image
eviction_stands state j most records t base image rests is are left =
    evicted_stand image t (crashes_leave_the_tree state image records t rests left.elsewhere) base j is left.gone (fewer_stored t j.sealed left.gone most left.few are) left.some
