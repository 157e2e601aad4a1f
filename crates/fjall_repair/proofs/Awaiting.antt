-- All that lies on the disk when only the marker is still to be written.
use Rattle.std.proofs.Common.{◌≡◌, ◌≢◌, ℕ, ◌<◌, ◌^◌, Bool, true, false, not, List, [], ◌∷◌, ◌++◌, length, map, get_or, codes, All, Option, None, refl, sym, ◌∙◌, ap, subst, arith, lit<}
use Rattle.std.specs.Prelude.{Contains}
use Rattle.std.proofs.lemmas.Bool.{true≢false}
use Rattle.std.proofs.lemmas.List.{append-nil, get_or_default}
use Rattle.std.proofs.lemmas.List.Elements.{All-cons, All-head, All-nil, All-tail}
use Rattle.std.specs.List.{AllByRecursion}
use Rattle.std.specs.FinMap.{get, get-empty}
use Rattle.std.specs.Ordering.{nat_cmp}
use Rattle.std.specs.List.Sorted.{IsStrictlyIncreasing}
use Rattle.fjall_base.specs.declared.error.FormatVersion.TheVariants.{V3}
use Rattle.fjall_base.specs.Disk.{Name, DiskEntry, Missing, File, Folder, Place, DiskState, SyncFolder, Meaning, Took, IsFile, IsNoFile, IsNoFolder, folder_of, standing, state_in}
use Rattle.fjall_base.proofs.States.{differs, settle-in, settle-out}
use Rattle.fjall_files.specs.Regions.{IsSafe, Within, is_under}
use Rattle.fjall_files.proofs.Changes.{settle-now, within_state}
use Rattle.fjall_journal.specs.Batches.{Written, IsWritten, shown}
use Rattle.fjall_files.specs.Marker.{header}
use Rattle.fjall_files.specs.Names.{IsMisnamed, IsNameOf, journal_name, keyspace_folder, current_name}
use Rattle.fjall_meta.specs.Keyspaces.{AreKeyspaces, keyspace_at, no_keyspaces}
use Rattle.fjall_files.proofs.Fitting.{folder_of-folder, folder_of-journal as in_root}
use Rattle.fjall_manifest.specs.Homes.{Home, only}
use Rattle.fjall_manifest.specs.Catalog.{fields, first_catalog}
use Rattle.fjall_meta.specs.Replays.{first_fault}
use Rattle.fjall_recovery.specs.Journals.{WholeJournal, batches_in}
use Rattle.fjall_recovery.specs.Places.{HasSafeHomeAt, IsNeverFile, IsNeverFolder, LiesInRoot, RestsInTree, journal_ids, journals_with, texts_of}
use Rattle.fjall_recovery.proofs.Named.{journal_within}
use Rattle.fjall_recovery.proofs.Storing.{no_versions}
use Rattle.fjall_repair.specs.Making.{IsMaking}
use Rattle.fjall_repair.specs.Plans.{AreToBe, AwaitsMarker, HasFirstTree, empty_journals, first_text, first_tree, marked}
use Rattle.fjall_repair.proofs.Emptying.{AreEmptied}
use Rattle.fjall_repair.proofs.Named.{current_inside, current_no_journal, folder_no_journal, keyspaces_no_journal, marker_no_journal, marker_no_misnomer}
use Rattle.fjall_repair.proofs.Naming.{journals_apart}
use Rattle.fjall_repair.proofs.Trees.{first_record_is}

-- ---- the journals

pub ids_are : (sealed : List ℕ) (active : ℕ) → journal_ids (empty_journals sealed active) ≡ sealed ++ active ∷ []
ids_are [] active = refl
ids_are (id ∷ sealed) active = ap (λ (l : List ℕ). id ∷ l) (ids_are sealed active)

pub batches_none : (sealed : List ℕ) (active : ℕ) → batches_in (journals_with (empty_journals sealed active) []) ≡ []
batches_none [] active = refl
batches_none (id ∷ sealed) active = batches_none sealed active

-- each of these ids' journals is empty and synced
abbrev EachRests : DiskState → List ℕ → Type 0
EachRests state ids = All (λ id. state (journal_name id) ≡ only (File [] [])) ids

sealed_rest : (state : DiskState) (sealed : List ℕ) (active : ℕ) → EachRests state (sealed ++ active ∷ []) → AllByRecursion (λ (j : WholeJournal). IsSafe state (journal_name j.id) (texts_of j.batches)) (empty_journals sealed active).sealed
sealed_rest state [] active each = tt
sealed_rest state (id ∷ sealed) active each =
    let P : ℕ → Type 0 = λ n. state (journal_name n) ≡ only (File [] []) in
    (All-head P id (sealed ++ active ∷ []) each, sealed_rest state sealed active (All-tail P id (sealed ++ active ∷ []) each))

active_rests : (state : DiskState) (sealed : List ℕ) (active : ℕ) → EachRests state (sealed ++ active ∷ []) → state (journal_name active) ≡ only (File [] [])
active_rests state [] active each = All-head (λ n. state (journal_name n) ≡ only (File [] [])) active [] each
active_rests state (id ∷ sealed) active each = active_rests state sealed active (All-tail (λ n. state (journal_name n) ≡ only (File [] [])) id (sealed ++ active ∷ []) each)

module _ {X : Type 0} (text : X → Name) where
  head_is : (a b : Name) (xs ys : List Name) → a ∷ xs ≡ b ∷ ys → a ≡ b
  head_is a b xs ys e = cc

  tail_is : (a b : Name) (xs ys : List Name) → a ∷ xs ≡ b ∷ ys → xs ≡ ys
  tail_is a b xs ys e = cc

  emptied_ids : (state : DiskState) (xs : List X) (ids : List ℕ) → map text xs ≡ map journal_name ids → AreEmptied text state xs → All (λ id. (state (journal_name id)).now ≡ File [] []) ids
  emptied_ids state xs [] is each = All-nil (λ id. (state (journal_name id)).now ≡ File [] [])
  emptied_ids state [] (id ∷ ids) is each = let no : [] ≡ journal_name id ∷ map journal_name ids = is in cc
  emptied_ids state (x ∷ xs) (id ∷ ids) is each =
      let P : X → Type 0 = λ y. (state (text y)).now ≡ File [] [] in
      let named = head_is (text x) (journal_name id) (map text xs) (map journal_name ids) is in
      All-cons (λ n. (state (journal_name n)).now ≡ File [] []) id ids (ap (λ (n : Name). (state n).now) (sym named) ∙ All-head P x xs each)
      (emptied_ids state xs ids (tail_is (text x) (journal_name id) (map text xs) (map journal_name ids) is) (All-tail P x xs each))

  pub others_all : (q : Name) (xs : List X) (ids : List ℕ) → map text xs ≡ map journal_name ids → All (λ id. q ≢ journal_name id) ids → All (λ x. q ≢ text x) xs
  others_all q [] ids is each = All-nil (λ x. q ≢ text x)
  others_all q (x ∷ xs) [] is each = let no : text x ∷ map text xs ≡ [] = is in cc
  others_all q (x ∷ xs) (id ∷ ids) is each =
      let named = head_is (text x) (journal_name id) (map text xs) (map journal_name ids) is in
      All-cons (λ y. q ≢ text y) x xs (λ e. All-head (λ n. q ≢ journal_name n) id ids each (e ∙ named))
      (others_all q xs ids (tail_is (text x) (journal_name id) (map text xs) (map journal_name ids) is) (All-tail (λ n. q ≢ journal_name n) id ids each))

no_file : (entry : DiskEntry) → (IsFile entry → ⊥) → IsNoFile entry
no_file Missing none = tt
no_file (File synced unsynced) none = none tt
no_file Folder none = tt

no_folder : (entry : DiskEntry) → (entry ≡ Folder → ⊥) → IsNoFolder entry
no_folder Missing none = tt
no_folder (File synced unsynced) none = tt
no_folder Folder none = none refl

pub marked_other : (state : DiskState) (name : Name) → name ≢ codes "version" → marked state name ≡ state name
marked_other state name not = let test = differs name (codes "version") not in rw test refl

lawful : AreKeyspaces no_keyspaces
lawful = record {
  begun = omega arith;
  fits = lit< tt;
  ids = All-nil _;
  given = All-nil _;
  ascending = λ i j d lt below. absurd (omega (arith, below));
  names = All-nil _;
  distinct = λ i j d lt below. absurd (omega (arith, below));
  options = All-nil _;
}

outside : (b : Bool) → not b ≡ true → b ≡ false
outside true is = absurd (true≢false (sym is))
outside false is = refl

-- where no keyspace lives there is no home
no_home : (state : DiskState) (id : ℕ) → HasSafeHomeAt state id (keyspace_at id no_keyspaces.living) (get first_tree.homes id)
no_home state id = subst (λ (h : Option Home). HasSafeHomeAt state id None h) (sym (get-empty nat_cmp id)) tt

-- ---- what is made, one after another

module _ {X : Type 0} (text : X → Name) (old one two new : Meaning) (xs : List X) (sealed : List ℕ) (active : ℕ) (names : map text xs ≡ map journal_name (sealed ++ active ∷ [])) (to_be : AreToBe (standing (state_in old)) (sealed ++ active ∷ []))
    (making : IsMaking false (λ name. (state_in new name).now)) (tree : HasFirstTree (state_in one)) (within : Within (codes "keyspaces") old one)
    (elsewhere : (q : Name) → All (λ x. q ≢ text x) xs → state_in two q ≡ state_in one q) (emptied : AreEmptied text (state_in two) xs) (settled : Took two new (SyncFolder [] ∷ [])) where
  root_place : (q : Name) → folder_of q ≡ [] → state_in new q ≡ only (state_in two q).now
  root_place q root = ap (λ (s : DiskState). s q) settled.state ∙ settle-in (state_in two) [] q root

  inner_place : (q : Name) → (folder_of q ≡ [] → ⊥) → state_in new q ≡ state_in two q
  inner_place q inner = ap (λ (s : DiskState). s q) settled.state ∙ settle-out (state_in two) [] q (differs (folder_of q) [] inner)

  still : (q : Name) → (state_in new q).now ≡ (state_in two q).now
  still q = ap (λ (s : DiskState). (s q).now) settled.state ∙ settle-now (state_in two) [] q

  no_journal : (q : Name) → ((id : ℕ) → q ≢ journal_name id) → state_in two q ≡ state_in one q
  no_journal q other = elsewhere q (others_all text q xs (sealed ++ active ∷ []) names (λ k d lt is. other (get_or (sealed ++ active ∷ []) k d) is))

  each_rests : EachRests (marked (state_in new)) (sealed ++ active ∷ [])
  each_rests k d lt =
      let id = get_or (sealed ++ active ∷ []) k d in
      marked_other (state_in new) (journal_name id) (λ e. marker_no_journal id (sym e))
      ∙ root_place (journal_name id) (in_root id (to_be.fit k d lt)) ∙ ap (λ (e : DiskEntry). only e) (emptied_ids text (state_in two) xs (sealed ++ active ∷ []) names emptied k d lt)

  -- no other journal is there
  no_other : (id : ℕ) → id < 2 ^ 64 → (Contains (sealed ++ active ∷ []) id → ⊥) → IsFile (state_in new (journal_name id)).now → ⊥
  no_other id small none file =
      let apart : All (λ n. journal_name id ≢ journal_name n) (sealed ++ active ∷ []) =
      λ k d lt is. none (k, lt, at k d lt (journals_apart id (get_or (sealed ++ active ∷ []) k d) small (to_be.fit k d lt) is)) in
      let kept = elsewhere (journal_name id) (others_all text (journal_name id) xs (sealed ++ active ∷ []) names apart) in
      let was = within_state (codes "keyspaces") (λ e. (let no : codes "keyspaces" ≡ [] = e in cc)) old one within (journal_name id) (outside (is_under (codes "keyspaces") (journal_name id)) (journal_within id small)) in
      none (to_be.all id small (subst IsFile (still (journal_name id) ∙ ap (λ (p : Place). p.now) (kept ∙ was)) file))
    where
      at : (k d : ℕ) → k < length (sealed ++ active ∷ []) → id ≡ get_or (sealed ++ active ∷ []) k d → get_or (sealed ++ active ∷ []) k id ≡ id
      at k d lt is = get_or_default (sealed ++ active ∷ []) k id d lt ∙ sym is

  -- a name of the root that isn't the marker's
  never_file : (name : Name) → folder_of name ≡ [] → name ≢ codes "version" → (IsFile (state_in new name).now → ⊥) → IsNeverFile (marked (state_in new) name)
  never_file name root other none =
      let place = marked_other (state_in new) name other ∙ root_place name root in
      subst IsNeverFile (sym place) (no_file (state_in two name).now (λ file. none (subst IsFile (sym (still name)) file)), tt)

  lies : LiesInRoot (marked (state_in new)) (empty_journals sealed active)
  lies = record {
    marker_text = header V3;
    marker = refl;
    marker_is = refl;
    named = λ name root misnamed. never_file name root (λ e. marker_no_misnomer (subst IsMisnamed e misnamed)) (λ file. (making name).named root file misnamed);
    ascending = subst IsStrictlyIncreasing (sym (ids_are sealed active)) to_be.ascending;
    fit = subst (λ (l : List ℕ). All (λ id. id < 2 ^ 64) l) (sym (ids_are sealed active)) to_be.fit;
    others = λ id small none. never_file (journal_name id) (in_root id small) (λ e. marker_no_journal id (sym e)) (no_other id small (λ has. none (subst (λ (l : List ℕ). Contains l id) (sym (ids_are sealed active)) has)));
    sealed = sealed_rest (marked (state_in new)) sealed active each_rests;
    active = active_rests (marked (state_in new)) sealed active each_rests;
    written = subst (λ (l : List Written). AllByRecursion IsWritten l) (sym (batches_none sealed active)) tt;
    sound = ap (λ (l : List Written). first_fault 0 (map shown l)) (batches_none sealed active);
  }

  -- what is made of tree 0 is as it was
  inner : (q : Name) → (folder_of q ≡ [] → ⊥) → ((id : ℕ) → id < 2 ^ 64 → q ≢ journal_name id) → marked (state_in new) q ≡ state_in one q
  inner q deep other =
      marked_other (state_in new) q (λ e. deep (ap (λ (n : Name). folder_of n) e)) ∙ inner_place q deep
      ∙ elsewhere q (others_all text q xs (sealed ++ active ∷ []) names (λ k d lt is. other (get_or (sealed ++ active ∷ []) k d) (to_be.fit k d lt) is))

  outer : marked (state_in new) (codes "keyspaces") ≡ only Folder
  outer =
      marked_other (state_in new) (codes "keyspaces") (λ e. (let no : codes "keyspaces" ≡ codes "version" = e in cc)) ∙ root_place (codes "keyspaces") refl
      ∙ ap (λ (e : DiskEntry). only e) (ap (λ (p : Place). p.now) (no_journal (codes "keyspaces") keyspaces_no_journal) ∙ tree.keyspaces)

  in_keyspaces : (name : Name) → folder_of name ≡ codes "keyspaces" → folder_of name ≡ [] → ⊥
  in_keyspaces name at root = let no : codes "keyspaces" ≡ [] = sym at ∙ root in cc

  no_stray : (name : Name) → folder_of name ≡ codes "keyspaces" → ((id : ℕ) → IsNameOf keyspace_folder name id → ⊥) → IsNeverFolder (marked (state_in new) name)
  no_stray name at stray =
      let deep = in_keyspaces name at in
      let place = inner name deep (λ id small e. deep (ap (λ (n : Name). folder_of n) e ∙ in_root id small)) in
      let now : (state_in one name).now ≡ (state_in new name).now = ap (λ (p : Place). p.now) (sym place ∙ marked_other (state_in new) name (λ e. deep (ap (λ (n : Name). folder_of n) e))) in
      subst IsNeverFolder (sym place)
      (no_folder (state_in one name).now (λ is. (making name).folder at (sym now ∙ is) stray), subst (λ (l : List DiskEntry). AllByRecursion IsNoFolder l) (sym (tree.settled name at)) tt)

  rests : RestsInTree (marked (state_in new)) (fields first_catalog ∷ []) first_tree
  rests = record {
    named = no_stray;
    catalog = record {
      texts = [];
      home = record {
        keyspaces_folder = outer;
        folder = inner (keyspace_folder 0) (in_keyspaces (keyspace_folder 0) (folder_of-folder 0 (omega arith))) (λ id small. folder_no_journal id) ∙ tree.folder;
        current = inner (current_name 0) current_inside (λ id small. current_no_journal id) ∙ tree.current ∙ ap (λ (l : List ℕ). only (File l [])) (sym (append-nil first_text));
        each = (first_record_is, tt);
        last_is = refl;
        tables = tt;
      };
      pairs = refl;
      next = refl;
      are = lawful;
    };
    made = All-nil _;
    homes = λ id. no_home (marked (state_in new)) id;
    versions = no_versions;
  }

  pub awaits : AwaitsMarker (state_in new) sealed active
  awaits = record { root = lies; tree = rests; settled = λ name root. ap (λ (p : Place). p.older) (root_place name root) }

-- the marker is as it was
pub marker_stays : {X : Type 0} (text : X → Name) (old one two new : Meaning) (xs : List X) (ids : List ℕ) → map text xs ≡ map journal_name ids → Within (codes "keyspaces") old one
    → ((q : Name) → All (λ x. q ≢ text x) xs → state_in two q ≡ state_in one q) → Took two new (SyncFolder [] ∷ []) → (state_in new (codes "version")).now ≡ (state_in old (codes "version")).now
marker_stays text old one two new xs ids names within elsewhere settled =
    ap (λ (s : DiskState). (s (codes "version")).now) settled.state ∙ settle-now (state_in two) [] (codes "version")
    ∙ ap (λ (p : Place). p.now) (elsewhere (codes "version") (others_all text (codes "version") xs ids names (λ k d lt. marker_no_journal (get_or ids k d)))
    ∙ within_state (codes "keyspaces") (λ e. (let no : codes "keyspaces" ≡ [] = e in cc)) old one within (codes "version") refl)
