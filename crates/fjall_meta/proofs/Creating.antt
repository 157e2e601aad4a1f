-- A keyspace more is a creation of the store.
use Rattle.std.proofs.Common.{◌≡◌, ℕ, ◌+◌, ◌<◌, ◌==◌, Bool, true, false, cond, List, [], All, get_or, None, Some, nat_lt, refl, sym, ◌∙◌, ap, arith}
use Rattle.std.proofs.lemmas.Bool.Decides.{nat_tests}
use Rattle.std.specs.FinMap.{empty, get, insert}
use Rattle.fjall_base.specs.Store.{Store, Create, apply}
use Rattle.fjall_journal.specs.Batches.{Shown}
use Rattle.fjall_meta.specs.declared.living.LivingKeyspace.{LivingKeyspace}
use Rattle.fjall_meta.specs.Keyspaces.{Keyspaces, AreKeyspaces, keyspace_at, with_keyspace}
use Rattle.fjall_meta.specs.Replays.{option_pairs, bare, counts, store_in}
use Rattle.fjall_meta.specs.Versions.{versions_behind}
use Rattle.fjall_meta.proofs.Slots.{same_id, get_put, same_store, slot_after}
use Rattle.fjall_meta.proofs.LivingContents.{none_found, no_pairs, counts_of, by_id-push, found_other, found_new}
use Rattle.fjall_meta.proofs.Behind.{same_behind, none_behind, stored_at, batches_change_maps}

module _ (name : List ℕ) (options : List (List ℕ)) (number : ℕ) (s : Keyspaces) (all : AreKeyspaces s) where
  abbrev new : LivingKeyspace
  new = record { id = s.next; number = number; name = name; options = options }

  abbrev more : Keyspaces
  more = with_keyspace name options number s

  pub fresh : keyspace_at s.next s.living ≡ None
  fresh = none_found s.living s.next s.next all.given (omega arith)

  -- with nothing in it
  bare_created : bare more ≡ apply (bare s) (Create name (option_pairs options))
  bare_created =
      let names = by_id-push (λ k. k.name) s.living new fresh in
      let maps = by_id-push no_pairs s.living new fresh in
      let settings = by_id-push (λ k. option_pairs k.options) s.living new fresh in
      λ i. record { names = names i; maps = maps i; options = settings i; next = s.next + 1 }

  map_created : (q : ℕ) → get (bare more).maps q ≡ cond (q == s.next) (Some empty) (get (bare s).maps q)
  map_created q = ap (λ (t : Store). get t.maps q) bare_created ∙ get_put (bare s).maps s.next empty q

  pub turned : (q : ℕ) → (q == s.next) ≡ false → (s.next == q) ≡ false
  turned q e = grind (arith, nat_tests)

  -- what counts for other ids is as it was
  pub others_count : (n q : ℕ) → (q == s.next) ≡ false → counts more n q ≡ counts s n q
  others_count n q other = ap (counts_of n) (found_other s.living new q (turned q other))

  -- and for its own nothing of what came before
  pub older_is_out : (n : ℕ) → n < number → counts more n s.next ≡ false
  older_is_out n older = ap (counts_of n) (found_new s.living new fresh) ∙ (let out : nat_lt number n ≡ false = grind (arith, nat_tests) in out)

  -- stores whose maps agree at old ids, and have nothing at the new one
  pub created : (a b : Store) → a.names ≡ (bare more).names → a.options ≡ (bare more).options → a.next ≡ s.next + 1 → b.names ≡ (bare s).names → b.options ≡ (bare s).options → b.next ≡ s.next
      → get a.maps s.next ≡ Some empty → ((q : ℕ) → (q == s.next) ≡ false → get a.maps q ≡ get b.maps q) → a ≡ apply b (Create name (option_pairs options))
  created a b a_names a_options a_next b_names b_options b_next here there =
      same_store a (apply b (Create name (option_pairs options)))
      (a_names ∙ ap (λ (t : Store). t.names) bare_created ∙ ap (λ n. insert n s.next name) (sym b_names) ∙ ap (λ k. insert b.names k name) (sym b_next))
      (λ q. either q (q == s.next) refl ∙ sym (get_put b.maps s.next empty q) ∙ ap (λ k. get (insert b.maps k empty) q) (sym b_next))
      (a_options ∙ ap (λ (t : Store). t.options) bare_created ∙ ap (λ o. insert o s.next (option_pairs options)) (sym b_options) ∙ ap (λ k. insert b.options k (option_pairs options)) (sym b_next))
      (a_next ∙ ap (λ n. n + 1) (sym b_next))
    where
      either : (q : ℕ) (is : Bool) → (q == s.next) ≡ is → get a.maps q ≡ cond (q == s.next) (Some empty) (get b.maps q)
      either q true e = ap (get a.maps) (same_id q s.next e) ∙ here ∙ ap (λ x. cond x (Some empty) (get b.maps q)) (sym e)
      either q false e = there q e ∙ ap (λ x. cond x (Some empty) (get b.maps q)) (sym e)

  itself : (s.next == s.next) ≡ true
  itself = grind (arith, nat_tests)

  -- of batches under lesser numbers
  pub creation_of_batches : (batches : List Shown) → All (λ b. b.number < number) batches → store_in more batches ≡ apply (store_in s batches) (Create name (option_pairs options))
  creation_of_batches batches older =
      let was = batches_change_maps s batches in
      let is = batches_change_maps more batches in
      let start : get (bare more).maps s.next ≡ Some empty = map_created s.next ∙ ap (λ b. cond b (Some empty) (get (bare s).maps s.next)) itself in
      created (store_in more batches) (store_in s batches) is.0 is.1 is.2 was.0 was.1 was.2
      (stored_at more batches s.next ∙ none_behind more (get (bare more).maps s.next) s.next batches (λ i d within. older_is_out (get_or batches i d).number (older i d within)) [] refl ∙ start)
      (λ q other.
      let same : get (bare more).maps q ≡ get (bare s).maps q = map_created q ∙ ap (λ b. cond b (Some empty) (get (bare s).maps q)) other in
      stored_at more batches q ∙ same_behind more s (get (bare more).maps q) q batches (λ i d within. others_count (get_or batches i d).number q other) [] [] refl
      ∙ ap (λ slot. slot_after slot q (versions_behind s [] batches)) same ∙ sym (stored_at s batches q))
