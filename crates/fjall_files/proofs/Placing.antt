-- Watermarks with places: what an entry more and a value more make of the watermarks that stand there.
use Rattle.std.proofs.Common.{◌≡◌, ℕ, ◌<◌, true, false, cond, max, List, [], ◌∷◌, ◌++◌, map, unwrap_or, refl, sym, ap, ◌∙◌, subst, arith}
use Rattle.std.proofs.lemmas.List.Elements.{filter_map-append}
use Rattle.std.specs.Prelude.{Bool, Option, Some, None, IsSome, is_some}
use Rattle.std.specs.declared.cmp.Ordering.TheVariants.{Less, Equal, Greater}
use Rattle.std.specs.BTreeMap.{insert_entry, is_at}
use Rattle.std.specs.Cmp.{ranked}
use Rattle.std.specs.List.{AllByRecursion, cons_option}
use Rattle.std.specs.List.Sorted.{IsStrictlySortedBy}
use Rattle.std.specs.Map.{keys_of, lookup, set_value}
use Rattle.std.specs.Option.{option_map}
use Rattle.std.specs.Ordering.{is_eq, match_ordering, nat_cmp}
use Rattle.fjall_files.specs.Marks.{JournalMarks}
use Rattle.fjall_files.specs.Places.{HasPlace, JournalPlaces, raising, told}
use Rattle.fjall_files.proofs.Raising.{by_order, lsn_of-lookup}

-- ---- the order of numbers

is_less : (x y : ℕ) → x < y → nat_cmp x y ≡ Less
is_less x y l = by_order x y (λ r. r ≡ Less) (λ _. refl) (λ e. absurd (omega (arith, l, e))) (λ g. absurd (omega (arith, l, g)))

is_greater : (x y : ℕ) → y < x → nat_cmp x y ≡ Greater
is_greater x y g = by_order x y (λ r. r ≡ Greater) (λ l. absurd (omega (arith, l, g))) (λ e. absurd (omega (arith, e, g))) (λ _. refl)

-- ---- entries below and above a key

abbrev IsBelow : {X : Type 0} → ℕ → List (ℕ × X) → Type 0
IsBelow k es = AllByRecursion (λ x. nat_cmp x k ≡ Less) (keys_of es)

abbrev IsAbove : {X : Type 0} → ℕ → List (ℕ × X) → Type 0
IsAbove k es = AllByRecursion (λ x. nat_cmp k x ≡ Less) (keys_of es)

insert_last : {X : Type 0} (k : ℕ) (v : X) (es : List (ℕ × X)) → IsBelow k es → insert_entry nat_cmp es k v ≡ es ++ (k, v) ∷ []
insert_last k v [] below = refl
insert_last k v (e ∷ es) below =
    ap (λ r. match_ordering r ((k, v) ∷ e ∷ es) ((e.0, v) ∷ es) (e ∷ insert_entry nat_cmp es k v)) (is_greater k e.0 (ranked e.0 k Less (sym below.0)))
    ∙ ap (λ l. e ∷ l) (insert_last k v es below.1)

insert_first : {X : Type 0} (k : ℕ) (v : X) (es : List (ℕ × X)) → IsAbove k es → insert_entry nat_cmp es k v ≡ (k, v) ∷ es
insert_first k v [] above = refl
insert_first k v (e ∷ es) above = ap (λ r. match_ordering r ((k, v) ∷ e ∷ es) ((e.0, v) ∷ es) (e ∷ insert_entry nat_cmp es k v)) above.0

not_above : {X : Type 0} (k : ℕ) (es : List (ℕ × X)) → IsAbove k es → lookup (is_at (nat_cmp k)) es ≡ None
not_above k [] above = refl
not_above k (e ∷ es) above = ap (λ r. cond (is_eq r) (Some e.1) (lookup (is_at (nat_cmp k)) es)) above.0 ∙ not_above k es above.1

higher : {X : Type 0} (j k : ℕ) → j < k → (es : List (ℕ × X)) → IsAbove k es → IsAbove j es
higher j k l [] above = tt
higher j k l (e ∷ es) above =
    let more = ranked k e.0 Less (sym above.0) in
    (is_less j e.0 (omega (arith, l, more)), higher j k l es above.1)

all_at : {X : Type 0} (P : ℕ → Type 0) (front : List (ℕ × X)) (e : ℕ × X) (rest : List (ℕ × X)) → AllByRecursion P (keys_of (front ++ e ∷ rest)) → P e.0
all_at P [] e rest all = all.0
all_at P (d ∷ front) e rest all = all_at P front e rest all.1

-- in ascending entries those in front are below
pub before : {X : Type 0} (front : List (ℕ × X)) (e : ℕ × X) (rest : List (ℕ × X)) → IsStrictlySortedBy nat_cmp (keys_of (front ++ e ∷ rest)) → IsBelow e.0 front
unfolding IsStrictlySortedBy
before [] e rest sorted = tt
before (d ∷ front) e rest sorted = (all_at (λ y. nat_cmp d.0 y ≡ Less) front e rest sorted.0, before front e rest sorted.1)

-- ---- what is told

told_all : (P : ℕ → Type 0) (es : JournalPlaces) → AllByRecursion P (keys_of es) → AllByRecursion P (keys_of (told es))
told_all P [] all = tt
told_all P ((k, None) ∷ es) all = told_all P es all.1
told_all P ((k, Some n) ∷ es) all = (all.0, told_all P es all.1)

-- a watermark in its place
abbrev pub place_of : ℕ × ℕ → ℕ × Option ℕ
place_of mark = (mark.0, Some mark.1)

pub told_places : (marks : JournalMarks) → told (map place_of marks) ≡ marks
told_places [] = refl
told_places (mark ∷ marks) = ap (λ (l : JournalMarks). mark ∷ l) (told_places marks)

placed_below : (k : ℕ) (marks : JournalMarks) → IsBelow k marks → IsBelow k (map place_of marks)
placed_below k [] below = tt
placed_below k (mark ∷ marks) below = (below.0, placed_below k marks below.1)

map_last : (marks : JournalMarks) (mark : ℕ × ℕ) → map place_of (marks ++ mark ∷ []) ≡ map place_of marks ++ place_of mark ∷ []
map_last [] mark = refl
map_last (m ∷ marks) mark = ap (λ (l : JournalPlaces). place_of m ∷ l) (map_last marks mark)

-- one watermark more is put into its place
pub placed_last : (front : JournalMarks) (mark : ℕ × ℕ) (rest : JournalMarks) → IsStrictlySortedBy nat_cmp (keys_of (front ++ mark ∷ rest))
    → insert_entry nat_cmp (map place_of front) mark.0 (Some mark.1) ≡ map place_of (front ++ mark ∷ [])
placed_last front mark rest sorted =
    insert_last mark.0 (Some mark.1) (map place_of front) (placed_below mark.0 front (before front mark rest sorted)) ∙ sym (map_last front mark)

-- one more is told
pub told_last : (front : JournalPlaces) (place : ℕ × Option ℕ) (rest : JournalPlaces) (n : ℕ) → place.1 ≡ Some n → IsStrictlySortedBy nat_cmp (keys_of (front ++ place ∷ rest))
    → insert_entry nat_cmp (told front) place.0 n ≡ told (front ++ place ∷ [])
told_last front place rest n is sorted =
    insert_last place.0 n (told front) (told_all (λ x. nat_cmp x place.0 ≡ Less) front (before front place rest sorted))
    ∙ ap (λ o. told front ++ cons_option (option_map (λ lsn. (place.0, lsn)) o) []) (sym is)
    ∙ sym (filter_map-append (λ (p : ℕ × Option ℕ). option_map (λ lsn. (p.0, lsn)) p.1) front (place ∷ []))

append_none : (marks : JournalMarks) → marks ++ [] ≡ marks
append_none [] = refl
append_none (m ∷ marks) = ap (λ (l : JournalMarks). m ∷ l) (append_none marks)

pub told_none : (front : JournalPlaces) (place : ℕ × Option ℕ) → place.1 ≡ None → told (front ++ place ∷ []) ≡ told front
told_none front place is =
    filter_map-append (λ (p : ℕ × Option ℕ). option_map (λ lsn. (p.0, lsn)) p.1) front (place ∷ [])
    ∙ ap (λ o. told front ++ cons_option (option_map (λ lsn. (place.0, lsn)) o) []) is
    ∙ append_none (told front)

-- ---- a place more

found_is : {A : Type 0} (o : Option ℕ) → Some o ≡ None → A
found_is o e = let bad : ⊥ = cc in absurd bad

-- a place without a watermark tells nothing
told_placed : (id : ℕ) (es : JournalPlaces) → lookup (is_at (nat_cmp id)) es ≡ None → told (insert_entry nat_cmp es id None) ≡ told es
told_placed id [] none = refl
told_placed id ((k, o) ∷ es) none =
    (elim (nat_cmp id k) as (λ r. cond (is_eq r) (Some o) (lookup (is_at (nat_cmp id)) es) ≡ None
    → told (match_ordering r ((id, None) ∷ (k, o) ∷ es) ((k, None) ∷ es) ((k, o) ∷ insert_entry nat_cmp es id None)) ≡ told ((k, o) ∷ es)) [
      | Less ↦ λ _. refl
      | Equal ↦ λ e. found_is o e
      | Greater ↦ λ e. ap (cons_option (option_map (λ lsn. (k, lsn)) o)) (told_placed id es e)
    ]) none

is_none : (o : Option (Option ℕ)) (b : Bool) → b ≡ is_some o → b ≡ false → o ≡ None
is_none None b is isnt = refl
is_none (Some o) b is isnt = let bad : true ≡ false = sym is ∙ isnt in let none : ⊥ = cc in absurd none

pub told_made : (id : ℕ) (es after : JournalPlaces) (has : Bool) → has ≡ is_some (lookup (is_at (nat_cmp id)) es) → has ≡ false → after ≡ insert_entry nat_cmp es id None → told after ≡ told es
told_made id es after has is isnt after_is = ap told after_is ∙ told_placed id es (is_none (lookup (is_at (nat_cmp id)) es) has is isnt)

-- ---- a watermark raised

absent : {A : Type 0} (o : Option (Option ℕ)) → o ≡ None → IsSome o → A
absent None is some = let bad : ⊥ = cc in absurd bad
absent (Some x) is some = let bad : ⊥ = cc in absurd bad

set_here : (id k v : ℕ) (o : Option ℕ) (es : JournalPlaces) → Equal ≡ nat_cmp id k → IsAbove k es → (k, v) ∷ told es ≡ insert_entry nat_cmp (told ((k, o) ∷ es)) id v
set_here id k v None es q above =
    let same : id ≡ k = ranked id k Equal q in
    ap (λ (n : ℕ). (n, v) ∷ told es) (sym same) ∙ sym (insert_first id v (told es) (subst (λ n. IsAbove n (told es)) (sym same) (told_all (λ x. nat_cmp k x ≡ Less) es above)))
set_here id k v (Some old) es q above = ap (λ r. match_ordering r ((id, v) ∷ (k, old) ∷ told es) ((k, v) ∷ told es) ((k, old) ∷ insert_entry nat_cmp (told es) id v)) q

set_behind : (id k v : ℕ) (o : Option ℕ) (es after : JournalPlaces) → Greater ≡ nat_cmp id k → told after ≡ insert_entry nat_cmp (told es) id v
    → told ((k, o) ∷ after) ≡ insert_entry nat_cmp (told ((k, o) ∷ es)) id v
set_behind id k v None es after q is = is
set_behind id k v (Some old) es after q is =
    ap (λ (l : JournalMarks). (k, old) ∷ l) is
    ∙ ap (λ r. match_ordering r ((id, v) ∷ (k, old) ∷ told es) ((k, v) ∷ told es) ((k, old) ∷ insert_entry nat_cmp (told es) id v)) q

told_set : (id v : ℕ) (es : JournalPlaces) → IsStrictlySortedBy nat_cmp (keys_of es) → HasPlace es id
    → told (set_value (is_at (nat_cmp id)) es (Some v)) ≡ insert_entry nat_cmp (told es) id v
unfolding IsStrictlySortedBy
told_set id v [] sorted place = let bad : ⊥ = cc in absurd bad
told_set id v ((k, o) ∷ es) sorted place =
    (elim (nat_cmp id k) as (λ r. r ≡ nat_cmp id k → IsSome (cond (is_eq r) (Some o) (lookup (is_at (nat_cmp id)) es))
    → told (cond (is_eq r) ((k, Some v) ∷ es) ((k, o) ∷ set_value (is_at (nat_cmp id)) es (Some v))) ≡ insert_entry nat_cmp (told ((k, o) ∷ es)) id v) [
      | Less ↦ λ q there. absent (lookup (is_at (nat_cmp id)) es) (not_above id es (higher id k (ranked id k Less q) es sorted.0)) there
      | Equal ↦ λ q there. set_here id k v o es q sorted.0
      | Greater ↦ λ q there. set_behind id k v o es (set_value (is_at (nat_cmp id)) es (Some v)) q (told_set id v es sorted.1 there)
    ]) refl place

found_here : (id k : ℕ) (o : Option ℕ) (es : JournalPlaces) → Equal ≡ nat_cmp id k → IsAbove k es → lookup (is_at (nat_cmp id)) (told ((k, o) ∷ es)) ≡ o
found_here id k None es q above =
    let same : id ≡ k = ranked id k Equal q in
    not_above id (told es) (subst (λ n. IsAbove n (told es)) (sym same) (told_all (λ x. nat_cmp k x ≡ Less) es above))
found_here id k (Some n) es q above = ap (λ r. cond (is_eq r) (Some n) (lookup (is_at (nat_cmp id)) (told es))) (sym q)

found_behind : (id k : ℕ) (o : Option ℕ) (es : JournalPlaces) → Greater ≡ nat_cmp id k → lookup (is_at (nat_cmp id)) (told ((k, o) ∷ es)) ≡ lookup (is_at (nat_cmp id)) (told es)
found_behind id k None es q = refl
found_behind id k (Some n) es q = ap (λ r. cond (is_eq r) (Some n) (lookup (is_at (nat_cmp id)) (told es))) (sym q)

one_found : (a b : Option ℕ) → Some a ≡ Some b → a ≡ b
one_found a b e = ap (λ (o : Option (Option ℕ)). unwrap_or o a) e

told_found : (id : ℕ) (o : Option ℕ) (es : JournalPlaces) → IsStrictlySortedBy nat_cmp (keys_of es) → lookup (is_at (nat_cmp id)) es ≡ Some o → lookup (is_at (nat_cmp id)) (told es) ≡ o
unfolding IsStrictlySortedBy
told_found id o [] sorted found = found_is o (sym found)
told_found id o ((k, p) ∷ es) sorted found =
    (elim (nat_cmp id k) as (λ r. r ≡ nat_cmp id k → cond (is_eq r) (Some p) (lookup (is_at (nat_cmp id)) es) ≡ Some o → lookup (is_at (nat_cmp id)) (told ((k, p) ∷ es)) ≡ o) [
      | Less ↦ λ q there. found_is o (sym there ∙ not_above id es (higher id k (ranked id k Less q) es sorted.0))
      | Equal ↦ λ q there. found_here id k p es q sorted.0 ∙ one_found p o there
      | Greater ↦ λ q there. found_behind id k p es q ∙ told_found id o es sorted.1 there
    ]) refl found

-- a value in its place raises the watermark
pub lacking : {A : Type 0} (o : Option (Option ℕ)) → None ≡ o → IsSome o → A
lacking o none some = absent o (sym none) some

pub told_raised : (id lsn : ℕ) (o : Option ℕ) (es : JournalPlaces) → IsStrictlySortedBy nat_cmp (keys_of es) → lookup (is_at (nat_cmp id)) es ≡ Some o
    → told (set_value (is_at (nat_cmp id)) es (Some (max (unwrap_or o 0) lsn))) ≡ raising lsn id (told es)
told_raised id lsn o es sorted found =
    told_set id (max (unwrap_or o 0) lsn) es sorted (subst IsSome (sym found) refl)
    ∙ ap (λ p. insert_entry nat_cmp (told es) id (max (unwrap_or p 0) lsn)) (sym (told_found id o es sorted found) ∙ lsn_of-lookup id (told es))
