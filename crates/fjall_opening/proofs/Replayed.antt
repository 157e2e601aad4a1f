-- The trees of the keyspaces that live, and the persisted numbers that their records tell, as journals are replayed at an opening.
use Rattle.std.proofs.Common.{◌≡◌, ℕ, zero, suc, ◌<◌, ◌==◌, Bool, true, false, cond, List, [], ◌∷◌, length, get_or, map, find, All, Option, None, Some, unwrap_or, is_some, refl, sym, ◌∙◌, ap, subst, arith}
use Rattle.std.proofs.lemmas.Bool.{true≢false}
use Rattle.std.proofs.lemmas.Bool.Decides.{nat_tests}
use Rattle.std.proofs.lemmas.List.{get_or-map, length-map}
use Rattle.std.proofs.lemmas.List.Elements.{All-cons, All-map, All-nil, All-weaker}
use Rattle.std.specs.Option.{option_map}
use Rattle.std.specs.FinMap.{get}
use Rattle.fjall_base.specs.Disk.{Image}
use Rattle.fjall_manifest.specs.Records.{Fields}
use Rattle.fjall_manifest.specs.Records as records
use Rattle.fjall_meta.specs.declared.living.LivingKeyspace.{LivingKeyspace}
use Rattle.fjall_meta.specs.Keyspaces.{AreKeyspaces, Keyspaces}
use Rattle.fjall_meta.specs.declared.recovery.Persisted.{Persisted}
use Rattle.fjall_meta.specs.Replays.{persisted_at}
use Rattle.fjall_meta.proofs.Slots.{same_id}
use Rattle.fjall_replay.specs.Replayed.{AreTold, ids_of}
use Rattle.fjall_tree.specs.Trees.{Shape}
use Rattle.fjall_trees.specs.Forests.{Forest, Planted, tree_at}
use Rattle.fjall_recovery.specs.declared.folder.RecoveredFolder.{RecoveredFolder}
use Rattle.fjall_manifest.specs.declared.reading.LoadedHome.{LoadedHome}
use Rattle.fjall_recovery.specs.Folders.{Contents, IsFinished, ShowsContents}
use Rattle.fjall_recovery.specs.Homes.{AreHomesRead, HaveVersions, Homes, Versions, last_in, lasts, stored_in}
use Rattle.fjall_recovery.proofs.Shown.{persisted_told}
use Rattle.fjall_manifest.specs.Homes.{Home}
use Rattle.fjall_table.specs.Blocks.{Entry}
use Rattle.fjall_replay.specs.Opening.{stored_entries, stored_with, told_by}
use Rattle.fjall_table_reader.specs.Readers.{Reader}
use Rattle.fjall_replay.specs.Parted.{all_unwritten, unwritten}
use Rattle.fjall_opening.specs.Readings.{persisted_of}

-- ---- the trees of the keyspaces that live

-- what is so of each image is so of each element
unmapped : {X Y : Type 0} (P : Y → Type 0) (f : X → Y) (xs : List X) → All P (map f xs) → All (λ x. P (f x)) xs
unmapped P f xs all i d lt = subst P (get_or-map f xs i d (f d) lt) (all i (f d) (subst (λ (n : ℕ). i < n) (sym (length-map xs f)) lt))

-- the tree of an id, where that has one
HasTree : Forest → ℕ → Type 0
HasTree trees id = is_some (tree_at id trees) ≡ true

first_has : (b : Bool) (shape : Shape) (rest : Option Shape) → b ≡ true → is_some (cond b (Some shape) rest) ≡ true
first_has true shape rest is = refl
first_has false shape rest is = absurd (true≢false (sym is))

later_has : (b : Bool) (shape : Shape) (rest : Option Shape) → is_some rest ≡ true → is_some (cond b (Some shape) rest) ≡ true
later_has true shape rest is = refl
later_has false shape rest is = is

own_trees : (trees : Forest) → All (HasTree trees) (ids_of trees)
unfolding HasTree
own_trees [] = All-nil (HasTree [])
own_trees (k ∷ trees) =
    All-cons (HasTree (k ∷ trees)) k.id (ids_of trees) (first_has (k.id == k.id) k.shape (tree_at k.id trees) (grind (arith, nat_tests)))
    (All-weaker (HasTree trees) (HasTree (k ∷ trees)) (λ id has. later_has (k.id == id) k.shape (tree_at id trees) has) (ids_of trees) (own_trees trees))

module _ (s : Keyspaces) (trees : Forest) (ids : ids_of trees ≡ map (λ (k : LivingKeyspace). k.id) s.living) where
  -- each keyspace that lives has one
  pub all_planted : All (λ k. is_some (tree_at k.id trees) ≡ true) s.living
  unfolding HasTree
  all_planted = unmapped (HasTree trees) (λ (k : LivingKeyspace). k.id) s.living (subst (All (HasTree trees)) ids (own_trees trees))

  -- they are of ids that were given out
  pub all_given : AreKeyspaces s → All (λ k. k.id < s.next) trees
  all_given are =
      unmapped (λ (id : ℕ). id < s.next) (λ (k : Planted). k.id) trees
      (subst (All (λ (id : ℕ). id < s.next)) (sym ids) (All-map (λ (id : ℕ). id < s.next) (λ (k : LivingKeyspace). k.id) s.living are.given))

  -- each has an id
  pub all_positive : AreKeyspaces s → All (λ k. 0 < k.id) trees
  all_positive are =
      unmapped (λ (id : ℕ). 0 < id) (λ (k : Planted). k.id) trees
      (subst (All (λ (id : ℕ). 0 < id)) (sym ids) (All-map (λ (id : ℕ). 0 < id) (λ (k : LivingKeyspace). k.id) s.living are.ids))

-- a tree with nothing in its memory
abbrev resting : Planted → Planted
resting k = record { id = k.id; shape = unwritten k.shape }

-- no flush and no merge is out of the tree
abbrev pub IsStill : Planted → Type 0
IsStill k = (k.shape.flush ≡ None) × (k.shape.merge ≡ None)

-- trees that differ in memory alone have the same flushes and merges out
pub rest_still : (old new : Forest) → all_unwritten new ≡ all_unwritten old → All IsStill old → All IsStill new
rest_still old new same all = unmapped IsStill resting new (subst (All IsStill) (sym same) (All-map IsStill resting old all))

-- and the same tables
pub rest_tables : (Q : ℕ → List Reader → Type 0) (old new : Forest) → all_unwritten new ≡ all_unwritten old → All (λ k. Q k.id k.shape.tables) old → All (λ k. Q k.id k.shape.tables) new
rest_tables Q old new same all =
    unmapped (λ (k : Planted). Q k.id k.shape.tables) resting new
    (subst (All (λ (k : Planted). Q k.id k.shape.tables)) (sym same) (All-map (λ (k : Planted). Q k.id k.shape.tables) resting old all))

-- ---- the persisted numbers that were read

-- the number of an id is that of the first home of it
first_told : (b : Bool) (h : LoadedHome) (others : Option Persisted) → b ≡ true → unwrap_or (option_map (λ (p : Persisted). p.number) (cond b (Some (told_by h)) others)) None ≡ h.record.persisted
first_told true h others is = refl
first_told false h others is = absurd (true≢false (sym is))

later_told : (b : Bool) (h : LoadedHome) (others : Option Persisted) (n : Option ℕ) → (b ≡ true → h.record.persisted ≡ n) → unwrap_or (option_map (λ (p : Persisted). p.number) others) None ≡ n
    → unwrap_or (option_map (λ (p : Persisted). p.number) (cond b (Some (told_by h)) others)) None ≡ n
later_told true h others n here there = here refl
later_told false h others n here there = there

told_at : (homes : Homes) (image : Image) (living : List LivingKeyspace) (read : List LoadedHome) → AreHomesRead image living read → map (λ h. records.view h.record) read ≡ lasts living homes
    → (i : ℕ) (d : LivingKeyspace) → i < length living → persisted_at (get_or living i d).id (map told_by read) ≡ (last_in (get homes (get_or living i d).id)).persisted
told_at homes image [] read are same i d lt = absurd (omega (arith, lt))
told_at homes image (k ∷ living) [] are same i d lt = absurd are
told_at homes image (k ∷ living) (h ∷ read) are same zero d lt =
    let named : h.id ≡ k.id = are.0.loaded.named in
    let here : records.view h.record ≡ last_in (get homes k.id) = cc in
    first_told (h.id == k.id) h (find (λ (p : Persisted). p.id == k.id) (map told_by read)) (grind (arith, nat_tests)) ∙ ap (λ (f : Fields). f.persisted) here
told_at homes image (k ∷ living) (h ∷ read) are same (suc i) d lt =
    let id = (get_or living i d).id in
    let named : h.id ≡ k.id = are.0.loaded.named in
    let here : records.view h.record ≡ last_in (get homes k.id) = cc in
    let rest : map (λ h. records.view h.record) read ≡ lasts living homes = cc in
    later_told (h.id == id) h (find (λ (p : Persisted). p.id == id) (map told_by read)) (last_in (get homes id)).persisted
    (λ is. ap (λ (f : Fields). f.persisted) here ∙ ap (λ n. (last_in (get homes n)).persisted) (sym named ∙ same_id h.id id is))
    (told_at homes image living read are.1 rest i d (omega (arith, lt)))

-- of each keyspace that lives its last record tells the number
pub told_last : (image : Image) (found : RecoveredFolder) (c : Contents) → IsFinished image found → ShowsContents found c → (i : ℕ) (d : LivingKeyspace) → i < length c.keyspaces.living
    → persisted_at (get_or c.keyspaces.living i d).id (persisted_of found) ≡ (last_in (get c.homes (get_or c.keyspaces.living i d).id)).persisted
told_last image found c read shows i d lt =
    told_at c.homes image c.keyspaces.living found.homes.items (subst (λ (s : Keyspaces). AreHomesRead image s.living found.homes.items) shows.keyspaces read.homes) shows.homes i d lt

persisted_entries : (h : Option Home) (lists : List (List Entry)) → (stored_entries h lists).persisted ≡ (last_in h).persisted
persisted_entries None lists = refl
persisted_entries (Some h) lists = refl

-- it is told of whatever entries the tables have
pub told_with : (image : Image) (found : RecoveredFolder) (c : Contents) (entries : ℕ → List (List Entry)) → IsFinished image found → ShowsContents found c
    → AreTold c.keyspaces (stored_with c.homes entries) (persisted_of found)
told_with image found c entries read shows i d lt =
    let id = (get_or c.keyspaces.living i d).id in
    told_last image found c read shows i d lt ∙ sym (persisted_entries (get c.homes id) (entries id))

-- and of the versions of a sound folder
pub told_sound : (image : Image) (found : RecoveredFolder) (c : Contents) (versions : Versions) → IsFinished image found → ShowsContents found c → HaveVersions c.homes versions
    → AreTold c.keyspaces (stored_in c.homes versions) (persisted_of found)
told_sound image found c versions read shows have i d lt =
    told_last image found c read shows i d lt ∙ sym (persisted_told c.homes versions have (get_or c.keyspaces.living i d).id)
