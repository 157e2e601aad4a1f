-- What a creation and a removal leave are keyspaces.
use Rattle.std.proofs.Common.{◌≡◌, ◌≢◌, ℕ, ◌+◌, ◌<◌, ◌^◌, Bool, true, false, cond, List, [], ◌∷◌, ◌++◌, length, take, get_or, All, AllPairs, Option, None, Some, find, filter, refl, sym, ap, ◌∙◌, subst, arith}
use Rattle.std.proofs.Math.Seq.{get_or-append_seam}
use Rattle.std.proofs.lemmas.List.{get_or_append_left, length_push, take-append-le, take_all}
use Rattle.std.specs.Option.{option_map}
use Rattle.std.specs.Str.{bytes_eq}
use Rattle.std.proofs.lemmas.Slice.Eq.{bytes_eq-Decides}
use Rattle.std.proofs.lemmas.List.Elements.{All-nil, All-cons, All-filter, All-push, All-weaker}
use Rattle.std.proofs.lemmas.List.Kept.{AllPairs-filter}
use Rattle.std.proofs.lemmas.List.Quantifiers.{all_pairs_push}
use Rattle.fjall_options.specs.Options.{AreOptions}
use Rattle.fjall_meta.specs.declared.living.LivingKeyspace.{LivingKeyspace}
use Rattle.fjall_meta.specs.Keyspaces.{Keyspaces, AreKeyspaces, is_name, id_of, with_keyspace}

-- some of them are keyspaces too
pub some_are : (living : List LivingKeyspace) (next : ℕ) (p : LivingKeyspace → Bool) → AreKeyspaces (record { living = living; next = next }) → AreKeyspaces (record { living = filter p living; next = next })
some_are living next p all = record {
  begun = all.begun;
  fits = all.fits;
  ids = All-filter p (λ k. 0 < k.id) living all.ids;
  given = All-filter p (λ k. k.id < next) living all.given;
  ascending = AllPairs-filter (λ j k. j.id < k.id) p living all.ascending;
  names = All-filter p (λ k. is_name k.name ≡ true) living all.names;
  distinct = AllPairs-filter (λ j k. j.name ≢ k.name) p living all.distinct;
  options = All-filter p (λ k. AreOptions k.options) living all.options;
}

-- so are they with one more, which gets the next id and another name
pub one_more_are : (living : List LivingKeyspace) (k : LivingKeyspace) → AreKeyspaces (record { living = living; next = k.id }) → k.id + 1 < 2 ^ 64 → is_name k.name ≡ true → All (λ j. j.name ≢ k.name) living → AreOptions k.options
    → AreKeyspaces (record { living = living ++ k ∷ []; next = k.id + 1 })
one_more_are living k all fits named fresh options = record {
  begun = omega arith;
  fits = fits;
  ids = All-push (λ j. 0 < j.id) living k all.ids all.begun;
  given = All-push (λ j. j.id < k.id + 1) living k (All-weaker (λ j. j.id < k.id) (λ j. j.id < k.id + 1) (λ j h. omega arith) living all.given) (omega arith);
  ascending = all_pairs_push (λ i j. i.id < j.id) living k all.ascending all.given;
  names = All-push (λ j. is_name j.name ≡ true) living k all.names named;
  distinct = all_pairs_push (λ i j. i.name ≢ j.name) living k all.distinct fresh;
  options = All-push (λ j. AreOptions j.options) living k all.options options;
}

passed : (b : Bool) (k : LivingKeyspace) (found : Option LivingKeyspace) → option_map (λ (j : LivingKeyspace). j.id) (cond b (Some k) found) ≡ None → (b ≡ false) × (option_map (λ (j : LivingKeyspace). j.id) found ≡ None)
passed true k found e = absurd cc
passed false k found e = (refl, e)

other : (a b : List ℕ) → bytes_eq a b ≡ false → a ≢ b
other a b differ same = let test : bytes_eq a b ≡ true = (bytes_eq-Decides a b).1 same in absurd (cc (test, differ))

-- where no id is found, the name is that of none
pub none_named : (name : List ℕ) (living : List LivingKeyspace) → id_of name living ≡ None → All (λ k. k.name ≢ name) living
none_named name [] e = All-nil (λ k. k.name ≢ name)
none_named name (k ∷ living) e =
    let h = passed (bytes_eq k.name name) k (find (λ (j : LivingKeyspace). bytes_eq j.name name) living) e in
    All-cons (λ j. j.name ≢ name) k living (other k.name name h.0) (none_named name living h.1)

-- without the one that was made last, whose id is free again, they are keyspaces too
pub one_less_are : (living : List LivingKeyspace) (k : LivingKeyspace) (next : ℕ) → AreKeyspaces (record { living = living ++ k ∷ []; next = next }) → AreKeyspaces (record { living = living; next = k.id })
one_less_are living k next all =
    let last : get_or (living ++ k ∷ []) (length living) k ≡ k = get_or-append_seam living k [] k in
    let behind : length living < length (living ++ k ∷ []) = omega (arith, length_push living k) in
    let given : k.id < next = subst (λ j. j.id < next) last (all.given (length living) k behind) in
    record {
      begun = subst (λ j. 0 < j.id) last (all.ids (length living) k behind);
      fits = (let fits = all.fits in omega arith);
      ids = All-front (λ j. 0 < j.id) living k all.ids;
      given = λ i d within. subst (λ j. (get_or living i d).id < j.id) (get_or-append_seam living k [] d) (subst (λ j. j.id < (get_or (living ++ k ∷ []) (length living) d).id) (get_or_append_left living (k ∷ []) d i within) (all.ascending i (length living) d within behind));
      ascending = AllPairs-front (λ i j. i.id < j.id) living k all.ascending;
      names = All-front (λ j. is_name j.name ≡ true) living k all.names;
      distinct = AllPairs-front (λ i j. i.name ≢ j.name) living k all.distinct;
      options = All-front (λ j. AreOptions j.options) living k all.options;
    }
  where
    All-front : (P : LivingKeyspace → Type 0) (js : List LivingKeyspace) (k : LivingKeyspace) → All P (js ++ k ∷ []) → All P js
    All-front P js k each = λ i d within. subst P (get_or_append_left js (k ∷ []) d i within) (each i d (omega (arith, length_push js k)))

    AllPairs-front : (R : LivingKeyspace → LivingKeyspace → Type 0) (js : List LivingKeyspace) (k : LivingKeyspace) → AllPairs R (js ++ k ∷ []) → AllPairs R js
    AllPairs-front R js k each = λ i j d below within.
        subst (λ x. R x (get_or js j d)) (get_or_append_left js (k ∷ []) d i (omega arith))
        (subst (λ y. R (get_or (js ++ k ∷ []) i d) y) (get_or_append_left js (k ∷ []) d j within) (each i j d below (omega (arith, length_push js k))))

-- the last of a list, and those before it
pub same_last : {X : Type 0} (xs ys : List X) (x y : X) → xs ++ x ∷ [] ≡ ys ++ y ∷ [] → (xs ≡ ys) × (x ≡ y)
same_last xs ys x y same =
    let long : length xs ≡ length ys = omega (arith, length_push xs x, length_push ys y, ap length same) in
    let front : xs ≡ ys = sym (take_front xs x) ∙ ap (λ n. take n (xs ++ x ∷ [])) long ∙ ap (take (length ys)) same ∙ take_front ys y in
    let last : x ≡ y = sym (get_or-append_seam xs x [] x) ∙ ap (λ n. get_or (xs ++ x ∷ []) n x) long ∙ ap (λ l. get_or l (length ys) x) same ∙ get_or-append_seam ys y [] x in
    (front, last)
  where
    take_front : {X : Type 0} (xs : List X) (x : X) → take (length xs) (xs ++ x ∷ []) ≡ xs
    take_front xs x = take-append-le (length xs) xs (x ∷ []) (omega arith) ∙ take_all (length xs) xs (omega arith)

-- where there is none, none was made
pub none_taken : (name : List ℕ) (options : List (List ℕ)) (number : ℕ) (s : Keyspaces) (old : Keyspaces) → length old.living ≡ 0 → old ≡ with_keyspace name options number s → ⊥
none_taken name options number s old none made =
    let k : LivingKeyspace = record { id = s.next; number = number; name = name; options = options } in
    omega (arith, length_push s.living k, ap (λ (t : Keyspaces). length t.living) made)

-- keyspaces of which the last one is taken back
pub taken_back : (living : List LivingKeyspace) (k : LivingKeyspace) (name : List ℕ) (options : List (List ℕ)) (number : ℕ) (s : Keyspaces) (old : Keyspaces) → old.living ≡ living ++ k ∷ []
    → old ≡ with_keyspace name options number s → record { living = living; next = k.id } ≡ s
taken_back living k name options number s old is made =
    let made_last : LivingKeyspace = record { id = s.next; number = number; name = name; options = options } in
    let same = same_last living s.living k made_last (sym is ∙ ap (λ (t : Keyspaces). t.living) made) in
    λ i. record { living = same.0 i; next = (same.1 i).id }
