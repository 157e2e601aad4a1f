-- What trees show stays what all batches make beyond what files hold, while journals are written and keyspaces come and go.
use Rattle.std.proofs.Common.{◌≡◌, ◌⊎◌, inl, inr, None, Some, ℕ, ◌<◌, ◌==◌, not, Bool, false, cond, List, [], ◌∷◌, ◌++◌, map, get_or, All, refl, ◌∙◌, ap, arith, Option}
use Rattle.std.specs.FinMap.{insert, remove}
use Rattle.std.proofs.lemmas.Bool.{eq-eqb}
use Rattle.std.proofs.lemmas.Bool.Decides.{nat_tests}
use Rattle.std.proofs.lemmas.List.{map-append}
use Rattle.std.proofs.lemmas.List.Elements.{All-weaker, filter_passes}
use Rattle.fjall_base.specs.Pairs.{Bytes}
use Rattle.fjall_manifest.specs.declared.catalog.Catalog.{Catalog}
use Rattle.fjall_changes.specs.Changes.{first_home, with_home, without_home}
use Rattle.fjall_changes.specs.Journaling.{after_mode, after_persist, with_batch}
use Rattle.fjall_changes.specs.Rotations.{rotated}
use Rattle.fjall_changes.proofs.Batches.{batches-more, kept-mode, kept-persist}
use Rattle.fjall_changes.proofs.StoredJournals.{rotated_batches}
use Rattle.fjall_meta.specs.Contents.{Stored, nothing_stored}
use Rattle.fjall_journal.specs.declared.persist_mode.PersistMode.{PersistMode}
use Rattle.fjall_journal.specs.declared.persist_mode.PersistMode.TheVariants.{Buffer, SyncAll, SyncData}
use Rattle.fjall_journal.specs.Batches.{Shown, Written, shown}
use Rattle.fjall_meta.specs.declared.living.LivingKeyspace.{LivingKeyspace}
use Rattle.fjall_meta.specs.Keyspaces.{AreKeyspaces, without_keyspace}
use Rattle.fjall_recovery.specs.Halves.{Tree}
use Rattle.fjall_recovery.specs.Homes.{stored_in, stored_of}
use Rattle.fjall_recovery.specs.Journals.{WholeJournal, batches_in}
use Rattle.fjall_recovery.specs.Places.{Journaling, journals_with}
use Rattle.fjall_recovery.proofs.Storing.{stored_inserted, stored_removed}
use Rattle.fjall_replay.specs.Beside.{AreReplayedWith}
use Rattle.fjall_replay.proofs.Staying.{created_stay, deleted_stay, stored_stay}
use Rattle.fjall_table.specs.Blocks.{Entry}
use Rattle.fjall_trees.specs.Forests.{Forest}
use Rattle.fjall_trees.specs.Writes.{with_tree}

-- ---- all batches

-- those of all journals, in order
abbrev pub all_shown : Journaling → List Shown
all_shown j = map shown (batches_in (journals_with j j.later))

of_journals : (a b : List WholeJournal) → a ≡ b → map shown (batches_in a) ≡ map shown (batches_in b)
of_journals a b same = ap (λ (l : List WholeJournal). map shown (batches_in l)) same

-- a persist and a rotation leave them
pub persisted_same : (mode : PersistMode) (j : Journaling) → all_shown (after_persist mode j) ≡ all_shown j
persisted_same mode j = of_journals (journals_with (after_persist mode j) (after_persist mode j).later) (journals_with j j.later) (kept-persist mode j)

pub rotated_same : (j : Journaling) → all_shown (rotated j) ≡ all_shown j
rotated_same j = ap (map shown) (rotated_batches j)

-- those that wait stay, or none does any more
pub persisted_later : (mode : PersistMode) (j : Journaling) → ((after_persist mode j).later ≡ j.later) ⊎ ((after_persist mode j).later ≡ [])
persisted_later Buffer j = inl refl
persisted_later SyncData j = inr refl
persisted_later SyncAll j = inr refl

-- so with a batch more
pub written_later : (mode : Option PersistMode) (out : Bool) (j : Journaling) (batch : Written)
    → ((after_mode mode (with_batch out j batch)).later ≡ j.later ++ batch ∷ []) ⊎ ((after_mode mode (with_batch out j batch)).later ≡ [])
written_later None out j batch = inl refl
written_later (Some mode) out j batch = persisted_later mode (with_batch out j batch)

-- a batch that is written is one more
pub written_more : (mode : Option PersistMode) (out : Bool) (j : Journaling) (batch : Written) → all_shown (after_mode mode (with_batch out j batch)) ≡ all_shown j ++ shown batch ∷ []
written_more mode out j batch =
    let after = after_mode mode (with_batch out j batch) in
    of_journals (journals_with after after.later) (journals_with j (j.later ++ batch ∷ [])) (kept-mode mode (with_batch out j batch))
    ∙ ap (map shown) (batches-more j (batch ∷ [])) ∙ map-append shown (batches_in (journals_with j j.later)) (batch ∷ [])

-- ---- keyspaces

-- a keyspace more, of which nothing is stored
pub shown_created : (name : Bytes) (options : List Bytes) (number : ℕ) (c : Catalog) (t : Tree) → AreKeyspaces t.keyspaces → (entries : ℕ → List (List Entry)) → entries t.keyspaces.next ≡ [] → (batches : List Shown)
    → All (λ b. b.number < number) batches → (trees : Forest) → All (λ k. k.id < t.keyspaces.next) trees → AreReplayedWith entries t.keyspaces (stored_in t.homes t.versions) batches trees
    → AreReplayedWith entries (with_home name options number c t).keyspaces (stored_in (with_home name options number c t).homes (with_home name options number c t).versions) batches (with_tree t.keyspaces.next number trees)
shown_created name options number c t are entries none batches older trees given shown_so =
    created_stay name options number t.keyspaces are entries stored batches trees given older
    (record { tables = none; versions = ap (λ (h : Stored). h.versions) new; clears = ap (λ (h : Stored). h.clears) new })
    (stored_stay entries t.keyspaces (stored_in t.homes t.versions) stored batches trees others shown_so)
  where
    stored : ℕ → Stored
    stored = stored_in (insert t.homes t.keyspaces.next (first_home number)) (insert t.versions t.keyspaces.next [])

    new : stored t.keyspaces.next ≡ stored_of (first_home number) []
    new =
        stored_inserted t.homes t.versions t.keyspaces.next (first_home number) [] t.keyspaces.next
        ∙ ap (λ b. cond b (stored_of (first_home number) []) (stored_in t.homes t.versions t.keyspaces.next)) (eq-eqb t.keyspaces.next t.keyspaces.next refl)

    others : All (λ k. stored k.id ≡ stored_in t.homes t.versions k.id) t.keyspaces.living
    others = All-weaker (λ (k : LivingKeyspace). k.id < t.keyspaces.next) (λ (k : LivingKeyspace). stored k.id ≡ stored_in t.homes t.versions k.id) (λ k lt.
        let other : (k.id == t.keyspaces.next) ≡ false = grind (arith, nat_tests) in
        stored_inserted t.homes t.versions t.keyspaces.next (first_home number) [] k.id
        ∙ ap (λ b. cond b (stored_of (first_home number) []) (stored_in t.homes t.versions k.id)) other) t.keyspaces.living are.given

-- and one less
pub shown_deleted : (id : ℕ) (c : Catalog) (t : Tree) (entries : ℕ → List (List Entry)) (batches : List Shown) (trees : Forest) → AreReplayedWith entries t.keyspaces (stored_in t.homes t.versions) batches trees
    → AreReplayedWith entries (without_home id c t).keyspaces (stored_in (without_home id c t).homes (without_home id c t).versions) batches trees
shown_deleted id c t entries batches trees shown_so =
    stored_stay entries (without_keyspace id t.keyspaces) (stored_in t.homes t.versions) (stored_in (remove t.homes id) (remove t.versions id)) batches trees others
    (deleted_stay id entries t.keyspaces (stored_in t.homes t.versions) batches trees shown_so)
  where
    others : All (λ k. stored_in (remove t.homes id) (remove t.versions id) k.id ≡ stored_in t.homes t.versions k.id) (without_keyspace id t.keyspaces).living
    others = λ i d lt.
        let k : LivingKeyspace = get_or (without_keyspace id t.keyspaces).living i d in
        let kept = filter_passes (λ (j : LivingKeyspace). not (j.id == id)) t.keyspaces.living i d lt in
        let other : (k.id == id) ≡ false = grind (arith, nat_tests) in
        stored_removed t.homes t.versions id k.id ∙ ap (λ b. cond b nothing_stored (stored_in t.homes t.versions k.id)) other
