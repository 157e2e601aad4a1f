-- What is kept of stores of living keyspaces: a deletion, and that there is nothing to drop.
use Rattle.std.proofs.Common.{◌≡◌, ℕ, ◌==◌, Bool, true, false, cond, List, [], get_or, Option, None, Some, refl, sym, ◌∙◌, ap}
use Rattle.std.proofs.lemmas.Bool.{true≢false}
use Rattle.std.specs.Option.{option_map, is_some}
use Rattle.std.specs.Cmp.{nat_cmp_total}
use Rattle.std.specs.FinMap.{empty, get, remove, contains_key, get-remove}
use Rattle.fjall_base.specs.Store.{Store, Delete, apply, kept}
use Rattle.fjall_journal.specs.Batches.{Shown}
use Rattle.fjall_meta.specs.declared.living.LivingKeyspace.{LivingKeyspace}
use Rattle.fjall_meta.specs.Keyspaces.{Keyspaces, keyspace_at, without_keyspace}
use Rattle.fjall_meta.specs.Replays.{option_pairs, by_id, bare, counts, store_in}
use Rattle.fjall_meta.specs.Versions.{versions_behind}
use Rattle.fjall_meta.proofs.Slots.{ties, same_maps, slot_after}
use Rattle.fjall_meta.proofs.Kept.{same_kept, all_are_kept}
use Rattle.fjall_meta.proofs.LivingContents.{get_by_id, counts_of, found_without}
use Rattle.fjall_meta.proofs.Behind.{same_behind, none_behind, stored_at, batches_change_maps}

-- ---- what lives

some_of : {X : Type 0} (has : LivingKeyspace → X) (found : Option LivingKeyspace) → is_some (option_map has found) ≡ is_some found
some_of has None = refl
some_of has (Some k) = refl

none_of : {X : Type 0} (has : LivingKeyspace → X) (found : Option LivingKeyspace) → is_some found ≡ false → option_map has found ≡ None
none_of has None none = refl
none_of has (Some k) none = absurd (true≢false none)

-- a name stands where a keyspace lives
pub lives : (s : Keyspaces) (id : ℕ) → contains_key (bare s).names id ≡ is_some (keyspace_at id s.living)
lives s id = ap is_some (get_by_id (λ k. k.name) s.living id) ∙ some_of (λ k. k.name) (keyspace_at id s.living)

pub nothing_at : {X : Type 0} (has : LivingKeyspace → X) (s : Keyspaces) (id : ℕ) → contains_key (bare s).names id ≡ false → get (by_id has s.living) id ≡ None
nothing_at has s id none = get_by_id has s.living id ∙ none_of has (keyspace_at id s.living) (sym (lives s id) ∙ none)

never_counts : (n : ℕ) (found : Option LivingKeyspace) → is_some found ≡ false → counts_of n found ≡ false
never_counts n None none = refl
never_counts n (Some k) none = absurd (true≢false none)

-- the store of batches has nothing that isn't a living keyspace's
pub nothing_to_keep : (s : Keyspaces) (batches : List Shown) → kept (store_in s batches) ≡ store_in s batches
nothing_to_keep s batches =
    let rest = batches_change_maps s batches in
    let dead = λ (q : ℕ) (none : contains_key (store_in s batches).names q ≡ false). ap (λ n. contains_key n q) (sym rest.0) ∙ none in
    all_are_kept (store_in s batches)
    (λ q none.
    let start : get (bare s).maps q ≡ None = nothing_at (λ k. empty) s q (dead q none) in
    stored_at s batches q
    ∙ none_behind s (get (bare s).maps q) q batches (λ i d within. never_counts (get_or batches i d).number (keyspace_at q s.living) (sym (lives s q) ∙ dead q none)) [] refl ∙ start)
    (λ q none. ap (λ o. get o q) rest.1 ∙ nothing_at (λ k. option_pairs k.options) s q (dead q none))

-- ---- one keyspace less

module _ (id : ℕ) (s : Keyspaces) where
  abbrev less : Keyspaces
  less = without_keyspace id s

  by_id_without : {X : Type 0} (has : LivingKeyspace → X) (q : ℕ) → get (by_id has less.living) q ≡ cond (q == id) None (get (by_id has s.living) q)
  by_id_without has q =
      get_by_id has less.living q ∙ ap (option_map has) (found_without s.living id q) ∙ inside (q == id) (keyspace_at q s.living) ∙ ap (λ o. cond (q == id) None o) (sym (get_by_id has s.living q))
    where
      inside : (b : Bool) (found : Option LivingKeyspace) → option_map has (cond b None found) ≡ cond b None (option_map has found)
      inside true found = refl
      inside false found = refl

  -- its name is removed
  names_without : (bare less).names ≡ remove (bare s).names id
  names_without =
      same_maps _ _ (λ q. by_id_without (λ k. k.name) q ∙ ap (λ b. cond b None (get (bare s).names q)) (sym (ties q id)) ∙ sym (get-remove nat_cmp_total (bare s).names id q))

  -- whoever still lives is another
  another : (q : ℕ) → contains_key (remove (bare s).names id) q ≡ true → (q == id) ≡ false
  another q alive = either (q == id) refl
    where
      either : (b : Bool) → (q == id) ≡ b → (q == id) ≡ false
      either true e = absurd (true≢false (sym alive ∙ ap is_some (get-remove nat_cmp_total (bare s).names id q ∙ ap (λ b. cond b None (get (bare s).names q)) (ties q id ∙ e))))
      either false e = e

  -- stores of these keyspaces that agree at each other keyspace
  pub deleted : (a b : Store) → a.names ≡ (bare less).names → a.options ≡ (bare less).options → a.next ≡ s.next → b.names ≡ (bare s).names → b.options ≡ (bare s).options → b.next ≡ s.next
      → ((q : ℕ) → (q == id) ≡ false → get a.maps q ≡ get b.maps q) → kept a ≡ kept (apply b (Delete id))
  deleted a b a_names a_options a_next b_names b_options b_next maps =
      let names : a.names ≡ remove b.names id = a_names ∙ names_without ∙ ap (λ n. remove n id) (sym b_names) in
      let other = λ (q : ℕ) (alive : contains_key (remove b.names id) q ≡ true). another q (ap (λ n. contains_key (remove n id) q) (sym b_names) ∙ alive) in
      same_kept a (apply b (Delete id)) names (λ q alive. maps q (other q alive))
      (λ q alive.
      ap (λ o. get o q) a_options ∙ by_id_without (λ k. option_pairs k.options) q ∙ ap (λ c. cond c None (get (bare s).options q)) (other q alive) ∙ ap (λ o. get o q) (sym b_options))
      (a_next ∙ sym b_next)

  map_left : (q : ℕ) → (q == id) ≡ false → get (bare less).maps q ≡ get (bare s).maps q
  map_left q other = by_id_without (λ k. empty) q ∙ ap (λ b. cond b None (get (bare s).maps q)) other

  pub others_count : (n q : ℕ) → (q == id) ≡ false → counts less n q ≡ counts s n q
  others_count n q other = ap (counts_of n) (found_without s.living id q ∙ ap (λ b. cond b None (keyspace_at q s.living)) other)

  pub deletion_of_batches : (batches : List Shown) → store_in less batches ≡ kept (apply (store_in s batches) (Delete id))
  deletion_of_batches batches =
      let was = batches_change_maps s batches in
      let is = batches_change_maps less batches in
      sym (nothing_to_keep less batches)
      ∙ deleted (store_in less batches) (store_in s batches) is.0 is.1 is.2 was.0 was.1 was.2
      (λ q other.
      stored_at less batches q ∙ same_behind less s (get (bare less).maps q) q batches (λ i d within. others_count (get_or batches i d).number q other) [] [] refl
      ∙ ap (λ slot. slot_after slot q (versions_behind s [] batches)) (map_left q other) ∙ sym (stored_at s batches q))
