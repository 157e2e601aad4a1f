-- The keyspaces after a creation and after a deletion: they are keyspaces, made in time, and have their homes.
use Rattle.std.proofs.Common.{◌≡◌, ℕ, ◌+◌, ◌<◌, ◌≤◌, ◌^◌, ◌==◌, Bool, true, false, cond, not, List, [], ◌∷◌, ◌++◌, filter, Option, None, Some, refl, sym, ◌∙◌, ap, subst, arith}
use Rattle.std.specs.Cmp.{nat_cmp_total}
use Rattle.std.specs.FinMap.{get, insert, remove, get-remove}
use Rattle.std.proofs.lemmas.Bool.Decides.{nat_tests}
use Rattle.std.proofs.lemmas.List.Elements.{All-filter, All-nil, All-push, All-weaker}
use Rattle.fjall_base.specs.Disk.{DiskState}
use Rattle.fjall_manifest.specs.Records.{Fields}
use Rattle.fjall_meta.specs.declared.living.LivingKeyspace.{LivingKeyspace}
use Rattle.fjall_meta.specs.Keyspaces.{AreKeyspaces, Keyspaces, keyspace_at, with_keyspace, without_keyspace}
use Rattle.fjall_meta.proofs.Changes.{some_are}
use Rattle.fjall_manifest.specs.declared.catalog.Catalog.{Catalog}
use Rattle.fjall_manifest.specs.declared.update.Update.{Update}
use Rattle.fjall_manifest.specs.Catalog.{fields, first_of}
use Rattle.fjall_manifest.specs.Updates.{IsUpdate}
use Rattle.fjall_recovery.specs.Folders.{AreMade, past, past_record}
use Rattle.fjall_manifest.specs.Homes.{Home}
use Rattle.fjall_meta.specs.Contents.{is_beyond}
use Rattle.fjall_meta.proofs.LivingContents.{found_new, found_other, found_without, none_found}
use Rattle.fjall_meta.proofs.Slots.{get_put, same_id, ties}
use Rattle.fjall_recovery.specs.Halves.{Tree}
use Rattle.fjall_recovery.specs.Homes.{Homes, ClearsAreWithin}
use Rattle.fjall_recovery.specs.Places.{HasSafeHome, HasSafeHomeAt, HaveSafeHomes, LiesInTree}
use Rattle.fjall_recovery.proofs.Storing.{plain_versions, versions_inserted, versions_removed}
use Rattle.fjall_changes.specs.Changes.{AreHoused, first_home, with_home, without_home}
use Rattle.fjall_changes.specs.Removals.{IsUnused}

-- ---- homes by id

module _ (state : DiskState) (living : List LivingKeyspace) (homes : Homes) (safe : HaveSafeHomes state living homes) where
  -- what stands at an id, by what is found there
  home_as : (id : ℕ) (j k : Option LivingKeyspace) (g h : Option Home) → j ≡ k → g ≡ h → HasSafeHomeAt state id k h → HasSafeHomeAt state id j g
  home_as id j k g h at at_home has =
      subst (λ (found : Option LivingKeyspace). HasSafeHomeAt state id found g) (sym at) (subst (λ (found : Option Home). HasSafeHomeAt state id k found) (sym at_home) has)

  -- one keyspace more, under an id of its own, with its home
  pub homes_more : (k : LivingKeyspace) (h : Home) → keyspace_at k.id living ≡ None → HasSafeHome state k.id h → HaveSafeHomes state (living ++ k ∷ []) (insert homes k.id h)
  homes_more k h fresh home id = at (id == k.id) refl
    where
      put : (b : Bool) → (id == k.id) ≡ b → get (insert homes k.id h) id ≡ cond b (Some h) (get homes id)
      put b is = get_put homes k.id h id ∙ ap (λ b. cond b (Some h) (get homes id)) is

      at : (b : Bool) → (id == k.id) ≡ b → HasSafeHomeAt state id (keyspace_at id (living ++ k ∷ [])) (get (insert homes k.id h) id)
      at true is =
          let same = same_id id k.id is in
          let found : keyspace_at id (living ++ k ∷ []) ≡ Some k = ap (λ (i : ℕ). keyspace_at i (living ++ k ∷ [])) same ∙ found_new living k fresh in
          home_as id _ (Some k) _ (Some h) found (put true is) (subst (λ (i : ℕ). HasSafeHome state i h) (sym same) home)
      at false is =
          let other : (k.id == id) ≡ false = grind (arith, nat_tests) in
          home_as id _ (keyspace_at id living) _ (get homes id) (found_other living k id other) (put false is) (safe id)

  -- the keyspaces but that of this id
  pub homes_but : (gone : ℕ) → HaveSafeHomes state (filter (λ k. not (k.id == gone)) living) (remove homes gone)
  homes_but gone id =
      home_as id _ (cond (id == gone) None (keyspace_at id living)) _ (cond (id == gone) None (get homes id)) (found_without living gone id)
      (get-remove nat_cmp_total homes gone id ∙ ap (λ b. cond b None (get homes id)) (ties id gone)) (at (id == gone))
    where
      at : (b : Bool) → HasSafeHomeAt state id (cond b None (keyspace_at id living)) (cond b None (get homes id))
      at true = tt
      at false = safe id

-- ---- the keyspaces after a change

-- the first record of a keyspace tells of no clear
pub first_clears : (number : ℕ) → ClearsAreWithin (fields (first_of number))
first_clears number = All-nil (λ n. is_beyond None n ≡ false)

-- the new record knows the number of its change
past_next : (old : Catalog) (s : Keyspaces) (number : ℕ) (u : Update) → IsUpdate old s number u → number < past_record (fields u.catalog)
past_next old s number u is =
    let one : past u.catalog.persisted ≡ number + 1 = ap (λ (n : Option ℕ). past n) is.persisted in
    let two : past u.catalog.highest ≡ number + 1 = ap (λ (n : Option ℕ). past n) is.highest in
    omega (arith, one, two)

-- what was made before was made in time
made_still : (last next : Catalog) (s : Keyspaces) (number : ℕ) → AreMade last s → past_record (fields last) ≤ number → number < past_record (fields next) → AreMade next s
made_still last next s number made below above = All-weaker (λ (k : LivingKeyspace). k.number < past_record (fields last)) (λ (k : LivingKeyspace). k.number < past_record (fields next)) (λ k is. omega (arith, is, below, above)) s.living made

module _ (state : DiskState) (records : List Fields) (t : Tree) (lies : LiesInTree state records t) (number : ℕ) (later : past_record (fields t.last) ≤ number) where
  pub without_housed : (id : ℕ) (u : Update) → IsUpdate t.last (without_keyspace id t.keyspaces) number u → AreHoused state (without_home id u.catalog t)
  without_housed id u is = record {
    are = some_are t.keyspaces.living t.keyspaces.next (λ k. not (k.id == id)) lies.rests.catalog.are;
    made = All-filter (λ k. not (k.id == id)) (λ k. k.number < past_record (fields u.catalog)) t.keyspaces.living (made_still t.last u.catalog t.keyspaces number lies.rests.made later (past_next t.last (without_keyspace id t.keyspaces) number u is));
    homes = homes_but state t.keyspaces.living t.homes lies.rests.homes id;
    versions = versions_removed t.homes t.versions id lies.rests.versions;
  }

  pub with_housed : (name : List ℕ) (options : List (List ℕ)) (u : Update) → IsUpdate t.last (with_keyspace name options number t.keyspaces) number u → AreKeyspaces (with_keyspace name options number t.keyspaces)
      → HasSafeHome state t.keyspaces.next (first_home number) → AreHoused state (with_home name options number u.catalog t)
  with_housed name options u is are home =
      let above = past_next t.last (with_keyspace name options number t.keyspaces) number u is in
      let fresh = none_found t.keyspaces.living t.keyspaces.next t.keyspaces.next lies.rests.catalog.are.given (omega arith) in
      record {
        are = are;
        made = All-push (λ k. k.number < past_record (fields u.catalog)) t.keyspaces.living _ (made_still t.last u.catalog t.keyspaces number lies.rests.made later above) above;
        homes = homes_more state t.keyspaces.living t.homes lies.rests.homes _ (first_home number) fresh home;
        versions = versions_inserted t.homes t.versions t.keyspaces.next (first_home number) [] (plain_versions (fields (first_of number)) refl (first_clears number)) lies.rests.versions;
      }

-- the next id is no living keyspace's
pub next_unused : (state : DiskState) (records : List Fields) (t : Tree) → LiesInTree state records t → t.keyspaces.next < 2 ^ 64 → IsUnused t.keyspaces.next t.keyspaces
next_unused state records t lies fits =
    let are = lies.rests.catalog.are in
    record { positive = are.begun; fits = fits; unused = λ k d lt e. let given = are.given k d lt in omega (arith, given, e) }
