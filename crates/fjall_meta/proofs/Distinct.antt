-- A set of names, as large as the list that it was made of.
use Rattle.std.proofs.Common.{◌≡◌, ◌≢◌, ℕ, ◌<◌, ◌||◌, Bool, true, false, cond, List, [], ◌∷◌, ◌++◌, length, map, AllPairs, IsTrue, ◌↔◌, refl, sym, ap, subst, ◌∙◌, eqb, arith, get_or}
use Rattle.std.specs.BTreeSet.{BTreeSet, contains, btree_set_len, IsFromIterResult}
use Rattle.std.specs.BTreeMap.{is_at}
use Rattle.std.specs.Bool.{Decides}
use Rattle.std.specs.Ordering.{eq_by_cmp, is_eq}
use Rattle.std.specs.Set.{is_member, distinct_count}
use Rattle.std.specs.declared.cmp.Ordering.{Ordering}
use Rattle.std.specs.declared.cmp.Ordering.TheVariants.{Less, Equal, Greater}
use Rattle.std.proofs.lemmas.Bool.Decides.{Decides-eqb}
use Rattle.std.proofs.lemmas.Cmp.{nat_list_cmp_total, eq_by_cmp_equiv}
use Rattle.std.proofs.lemmas.List.{get_or-map, length-map}
use Rattle.std.proofs.lemmas.List.Folds.{list_any-append}
use Rattle.std.proofs.lemmas.Map.Lookups.{exact_bytes}
use Rattle.std.proofs.lemmas.Map.Made.{AllPairs-from_IsDistinct, IsDistinct-from_AllPairs, IsDistinct-from_count, distinct_count-from_IsDistinct}
use Rattle.std.proofs.lemmas.Map.Views.{btree_set_len-from_list}
use Rattle.fjall_base.specs.Pairs.{byte_order}
use Rattle.fjall_meta.specs.declared.living.LivingKeyspace.{LivingKeyspace}

abbrev is_same : List ℕ → List ℕ → Bool
is_same = eq_by_cmp byte_order

joined : (a b : Bool) → cond a true b ≡ (b || (a || false))
joined true true = refl
joined true false = refl
joined false true = refl
joined false false = refl

-- one more name in the set, and at the list's end
pub one_more_name : (names new : BTreeSet (List ℕ)) (listed : List (List ℕ)) (name : List ℕ) → ((q : List ℕ) → contains byte_order new q ≡ cond (is_at (byte_order name) q) true (contains byte_order names q))
    → ((q : List ℕ) → contains byte_order names q ≡ is_member (eq_by_cmp byte_order) listed q) → (q : List ℕ) → contains byte_order new q ≡ is_member (eq_by_cmp byte_order) (listed ++ name ∷ []) q
one_more_name names new listed name step so_far q =
    let turned : is_same name q ≡ is_same q name = (eq_by_cmp_equiv nat_list_cmp_total).symm name q in
    step q ∙ ap (λ (b : Bool). cond (is_same name q) true b) (so_far q) ∙ joined (is_same name q) (is_member is_same listed q) ∙ ap (λ (b : Bool). is_member is_same listed q || (b || false)) turned
    ∙ sym (list_any-append (is_same q) listed (name ∷ []))

equal : (o : Ordering) → is_eq o ≡ true → o ≡ Equal
equal Less is = absurd cc
equal Equal is = refl
equal Greater is = absurd cc

same_decides : (a b : List ℕ) → Decides (is_same a b) (a ≡ b)
same_decides a b = (
  λ is. exact_bytes a b (equal (byte_order a b) is),
  λ same. subst (λ (x : List ℕ). is_same a x ≡ true) same ((eq_by_cmp_equiv nat_list_cmp_total).refl a),
)

name_there : (living : List LivingKeyspace) (i : ℕ) (k : LivingKeyspace) (d : List ℕ) → i < length living → get_or (map (λ k. k.name) living) i d ≡ (get_or living i k).name
name_there living i k d within = get_or-map (λ (k : LivingKeyspace). k.name) living i k d within

theirs : (living : List LivingKeyspace) → AllPairs (λ j k. j.name ≢ k.name) living → AllPairs (λ x y. x ≢ y) (map (λ k. k.name) living)
theirs living all = λ i j d below within same.
    let second : j < length living = omega (arith, length-map living (λ (k : LivingKeyspace). k.name)) in
    let k : LivingKeyspace = record { id = 0; number = 0; name = d; options = [] } in
    all i j k below second (sym (name_there living i k d (omega arith)) ∙ same ∙ name_there living j k d second)

ours : (living : List LivingKeyspace) → AllPairs (λ x y. x ≢ y) (map (λ k. k.name) living) → AllPairs (λ j k. j.name ≢ k.name) living
ours living all = λ i j d below within same.
    let second : j < length (map (λ (k : LivingKeyspace). k.name) living) = omega (arith, length-map living (λ (k : LivingKeyspace). k.name)) in
    all i j d.name below second (name_there living i d d.name (omega arith) ∙ same ∙ sym (name_there living j d d.name within))

-- as many names in the set as keyspaces: no two have one name
pub names_apart : (living : List LivingKeyspace) (names : BTreeSet (List ℕ)) → IsFromIterResult byte_order (map (λ k. k.name) living) names → IsTrue (eqb (btree_set_len names) (length living)) ↔ AllPairs (λ j k. j.name ≢ k.name) living
names_apart living names made =
    let listed : List (List ℕ) = map (λ k. k.name) living in
    let laws = eq_by_cmp_equiv nat_list_cmp_total in
    let count : btree_set_len names ≡ distinct_count is_same listed = btree_set_len-from_list nat_list_cmp_total listed names made in
    let long : length listed ≡ length living = length-map living (λ (k : LivingKeyspace). k.name) in
    let test = Decides-eqb (btree_set_len names) (length living) in (
      λ is. (let same : distinct_count is_same listed ≡ length listed = sym count ∙ test.0 is ∙ sym long in ours living (AllPairs-from_IsDistinct same_decides listed (IsDistinct-from_count laws listed same))),
      λ all. test.1 (count ∙ distinct_count-from_IsDistinct laws listed (IsDistinct-from_AllPairs same_decides listed (theirs living all)) ∙ long),
    )
