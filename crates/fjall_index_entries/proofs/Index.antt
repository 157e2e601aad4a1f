-- What the index of a map has, and what a key that becomes something else does to it.
use Rattle.std.proofs.Common.{◌≡◌, Bool, true, false, cond, ◌||◌, List, [], ◌∷◌, Option, None, Some, unwrap_or, refl, sym, ◌∙◌, ap}
use Rattle.std.proofs.Math.Bool.{or-true}
use Rattle.std.proofs.lemmas.Bool.{true≢false}
use Rattle.std.proofs.lemmas.Option.{none-some}
use Rattle.std.specs.List.{list_any}
use Rattle.std.specs.Ordering.{eq_by_cmp, is_eq, ordering_then}
use Rattle.std.specs.Cmp.{tied_itself}
use Rattle.std.specs.Cmp.Lexicographic.{nat_list_cmp_total}
use Rattle.std.specs.declared.cmp.Ordering.{Ordering}
use Rattle.std.specs.declared.cmp.Ordering.TheVariants.{Less, Equal, Greater}
use Rattle.std.specs.FinMap.Entries.{by_order}
use Rattle.std.specs.FinMap.{empty, entries, entries-insert, find, get, get-empty, get-entries, get-insert, get-remove, len-empty, len-entries, put, remove, same_map}
use Rattle.fjall_base.specs.Pairs.{Bytes, Pairs, altered, byte_order, lookup}
use Rattle.std.proofs.lemmas.List.{nil_from_length}
use Rattle.fjall_index_entries.specs.Entries.{entry}
use Rattle.fjall_index_entries.specs.Index.{FieldOf, IsEntry, field_in, index_of, index_of_pairs, with_entry, without_entry}
use Rattle.fjall_index_entries.proofs.Entries.{entries_order}
use Rattle.fjall_index_entries.proofs.Standing.{AreOf, all_stand, eq_itself, eq_same, same_bytes}

-- ---- the entry of a pair

-- whether these bytes are the entry of the key with this field
abbrev pub is_entry : Bytes → Bytes → Option Bytes → Bool
is_entry e key None = false
is_entry e key (Some field) = eq_by_cmp byte_order e (entry field key)

abbrev pub has_entry : FieldOf → Bytes → Bytes × Bytes → Bool
has_entry field e pair = is_entry e pair.0 (field pair.0 pair.1)

second_tied : (a b : Ordering) → ordering_then a b ≡ Equal → b ≡ Equal
second_tied Less b e = absurd (true≢false (sym (ap is_eq e)))
second_tied Equal b e = e
second_tied Greater b e = absurd (true≢false (sym (ap is_eq e)))

-- no two keys have the same entry
pub one_key : (e : Bytes) (k q : Bytes) (f g : Option Bytes) → is_entry e k f ≡ true → is_entry e q g ≡ true → eq_by_cmp byte_order k q ≡ true
one_key e k q None g a b = absurd (true≢false (sym a))
one_key e k q (Some f) None a b = absurd (true≢false (sym b))
one_key e k q (Some f) (Some g) a b =
    let same : entry f k ≡ entry g q = sym (eq_same e (entry f k) a) ∙ eq_same e (entry g q) b in
    let tie : byte_order (entry f k) (entry g q) ≡ Equal = ap (byte_order (entry f k)) (sym same) ∙ tied_itself nat_list_cmp_total (entry f k) in
    ap is_eq (second_tied (byte_order f g) (byte_order k q) (sym (entries_order f g k q) ∙ tie))

-- ---- what the index has

lookup_with : (key : Bytes) (f : Option Bytes) (index : Pairs) (e : Bytes) → lookup (with_entry key f index) e ≡ cond (is_entry e key f) (Some []) (lookup index e)
lookup_with key None index e = refl
lookup_with key (Some f) index e = get-insert nat_list_cmp_total index (entry f key) [] e

lookup_without : (key : Bytes) (f : Option Bytes) (index : Pairs) (e : Bytes) → lookup (without_entry key f index) e ≡ cond (is_entry e key f) None (lookup index e)
lookup_without key None index e = refl
lookup_without key (Some f) index e = get-remove nat_list_cmp_total index (entry f key) e

or_cond : {X : Type 0} (b c : Bool) (x y : X) → cond b x (cond c x y) ≡ cond (b || c) x y
or_cond true c x y = refl
or_cond false c x y = refl

-- a base with the entries of these pairs
abbrev pub built : FieldOf → Pairs → List (Bytes × Bytes) → Pairs
built field base [] = base
built field base (p ∷ ps) = with_entry p.0 (field p.0 p.1) (built field base ps)

-- bytes stand in it where they are the entry of some pair, or stand in the base
pub built_at : (field : FieldOf) (base : Pairs) (ps : List (Bytes × Bytes)) (e : Bytes) → lookup (built field base ps) e ≡ cond (list_any (has_entry field e) ps) (Some []) (lookup base e)
built_at field base [] e = refl
built_at field base (p ∷ ps) e =
    lookup_with p.0 (field p.0 p.1) (built field base ps) e
    ∙ ap (cond (has_entry field e p) (Some [])) (built_at field base ps e)
    ∙ or_cond (has_entry field e p) (list_any (has_entry field e) ps) (Some []) (lookup base e)

pub same_built : (field : FieldOf) (ps : List (Bytes × Bytes)) → built field empty ps ≡ index_of_pairs field ps
same_built field [] = refl
same_built field (p ∷ ps) = ap (with_entry p.0 (field p.0 p.1)) (same_built field ps)

pub index_at : (field : FieldOf) (ps : List (Bytes × Bytes)) (e : Bytes) → lookup (index_of_pairs field ps) e ≡ cond (list_any (has_entry field e) ps) (Some []) None
index_at field ps e =
    sym (ap (λ (x : Pairs). lookup x e) (same_built field ps))
    ∙ built_at field empty ps e
    ∙ ap (cond (list_any (has_entry field e) ps) (Some [])) (get-empty byte_order e)

-- ---- the same in the words of pairs

-- a pair that passes the test
pub from_any : (field : FieldOf) (e : Bytes) (m : Pairs) (ps : List (Bytes × Bytes)) → AreOf m ps → list_any (has_entry field e) ps ≡ true → IsEntry field m e
from_any field e m [] are any = absurd (true≢false (sym any))
from_any field e m (p ∷ ps) are any = by (has_entry field e p) refl (from_any field e m ps are.1)
  where
    here : (o : Option Bytes) → field p.0 p.1 ≡ o → is_entry e p.0 o ≡ true → IsEntry field m e
    here None has is = absurd (true≢false (sym is))
    here (Some f) has is = record { key = p.0; value = p.1; its_field = f; stands = are.0; has = has; spelled = eq_same e (entry f p.0) is }

    by : (b : Bool) → has_entry field e p ≡ b → (list_any (has_entry field e) ps ≡ true → IsEntry field m e) → IsEntry field m e
    by true is rest = here (field p.0 p.1) refl is
    by false is rest = rest (sym (ap (λ b. b || list_any (has_entry field e) ps) is) ∙ any)

-- what the index has is the entry of some pair, with an empty value
pub is_entry_of : (field : FieldOf) (m : Pairs) (e v : Bytes) → lookup (index_of field m) e ≡ Some v → (v ≡ []) × IsEntry field m e
is_entry_of field m e v found = by (list_any (has_entry field e) (entries m)) refl
  where
    by : (b : Bool) → list_any (has_entry field e) (entries m) ≡ b → (v ≡ []) × IsEntry field m e
    by true any =
        let is : Some [] ≡ Some v = sym (index_at field (entries m) e ∙ ap (λ b. cond b (Some []) None) any) ∙ found in
        (ap (λ o. unwrap_or o []) (sym is), from_any field e m (entries m) (all_stand m) any)
    by false any = absurd (none-some v (sym (index_at field (entries m) e ∙ ap (λ b. cond b (Some []) None) any) ∙ found))

-- and it has that of each pair
pub entry_stands : (field : FieldOf) (m : Pairs) (e : Bytes) → IsEntry field m e → lookup (index_of field m) e ≡ Some []
entry_stands field m e is = index_at field (entries m) e ∙ ap (λ b. cond b (Some []) None) (any_at (entries m) (sym (get-entries m is.key) ∙ is.stands))
  where
    has_it : (p : Bytes × Bytes) → is.key ≡ p.0 → p.1 ≡ is.value → has_entry field e p ≡ true
    has_it p key value =
        ap (is_entry e p.0) ((λ i. field (sym key i) (value i)) ∙ is.has)
        ∙ ap (λ k. eq_by_cmp byte_order e (entry is.its_field k)) (sym key)
        ∙ ap (eq_by_cmp byte_order e) (sym is.spelled)
        ∙ eq_itself e

    any_at : (es : List (Bytes × Bytes)) → find byte_order is.key es ≡ Some is.value → list_any (has_entry field e) es ≡ true
    any_at [] found = absurd (none-some is.value found)
    any_at (p ∷ es) found = by (eq_by_cmp byte_order is.key p.0) refl (any_at es)
      where
        by : (b : Bool) → eq_by_cmp byte_order is.key p.0 ≡ b → (find byte_order is.key es ≡ Some is.value → list_any (has_entry field e) es ≡ true) → list_any (has_entry field e) (p ∷ es) ≡ true
        by true same rest =
            let value : Some p.1 ≡ Some is.value = sym (ap (λ b. cond b (Some p.1) (find byte_order is.key es)) same) ∙ found in
            ap (λ b. b || list_any (has_entry field e) es) (has_it p (eq_same is.key p.0 same) (ap (λ o. unwrap_or o []) value))
        by false same rest =
            ap (λ b. has_entry field e p || b) (rest (sym (ap (λ b. cond b (Some p.1) (find byte_order is.key es)) same) ∙ found))
            ∙ or-true (has_entry field e p)

-- a map that has just these is the index
pub one_index : (field : FieldOf) (m x : Pairs) → ((e v : Bytes) → lookup x e ≡ Some v → (v ≡ []) × IsEntry field m e) → ((e : Bytes) → IsEntry field m e → lookup x e ≡ Some []) → x ≡ index_of field m
one_index field m x only all = same_map nat_list_cmp_total same_bytes x (index_of field m) (λ e. by e (lookup x e) refl)
  where
    none : (e : Bytes) → lookup x e ≡ None → (o : Option Bytes) → lookup (index_of field m) e ≡ o → lookup (index_of field m) e ≡ None
    none e off None is = is
    none e off (Some v) is = absurd (none-some [] (sym off ∙ all e (is_entry_of field m e v is).1))

    by : (e : Bytes) (o : Option Bytes) → lookup x e ≡ o → lookup x e ≡ lookup (index_of field m) e
    by e (Some v) is = let it = only e v is in is ∙ ap (λ w. Some w) it.0 ∙ sym (entry_stands field m e it.1)
    by e None is = is ∙ sym (none e is (lookup (index_of field m) e) refl)

-- a map of no pair has none
pub none_of_empty : (field : FieldOf) → index_of field empty ≡ empty
none_of_empty field = ap (index_of_pairs field) (nil_from_length (entries (empty {X = Bytes} {R = byte_order})) (sym (len-entries (empty {X = Bytes} {R = byte_order})) ∙ len-empty byte_order Bytes))

-- ---- a key apart from the others

-- whether the pair of a key with this value, where it has one, passes a test
abbrev at : (Bytes × Bytes → Bool) → Bytes → Option Bytes → Bool
at p k None = false
at p k (Some v) = p (k, v)

no_value : (b : Bool) (v : Bytes) (o : Option Bytes) → cond b (Some v) o ≡ None → (b ≡ false) × (o ≡ None)
no_value true v o e = absurd (none-some v (sym e))
no_value false v o e = (refl, e)

swap_or : (a b c : Bool) → (a || (b || c)) ≡ (b || (a || c))
swap_or true true c = refl
swap_or true false c = refl
swap_or false true c = refl
swap_or false false c = refl

-- a new key among others
any_put : (p : Bytes × Bytes → Bool) (k v : Bytes) (es : List (Bytes × Bytes)) → find byte_order k es ≡ None → list_any p (put byte_order k v es) ≡ (p (k, v) || list_any p es)
any_put p k v [] none = refl
any_put p k v (e ∷ es) none = by (byte_order k e.0) refl (no_value (eq_by_cmp byte_order k e.0) e.1 (find byte_order k es) none) (any_put p k v es)
  where
    by : (o : Ordering) → byte_order k e.0 ≡ o → (eq_by_cmp byte_order k e.0 ≡ false) × (find byte_order k es ≡ None) → (find byte_order k es ≡ None → list_any p (put byte_order k v es) ≡ (p (k, v) || list_any p es))
        → list_any p (put byte_order k v (e ∷ es)) ≡ (p (k, v) || list_any p (e ∷ es))
    by Less is off rest = ap (λ o. list_any p (by_order o ((k, v) ∷ e ∷ es) ((e.0, v) ∷ es) (e ∷ put byte_order k v es))) is
    by Equal is off rest = absurd (true≢false (sym (ap is_eq is) ∙ off.0))
    by Greater is off rest =
        ap (λ o. list_any p (by_order o ((k, v) ∷ e ∷ es) ((e.0, v) ∷ es) (e ∷ put byte_order k v es))) is
        ∙ ap (λ b. p e || b) (rest off.1)
        ∙ swap_or (p e) (p (k, v)) (list_any p es)

any_altered : (p : Bytes × Bytes → Bool) (m : Pairs) (k : Bytes) (o : Option Bytes) → get m k ≡ None → list_any p (entries (altered m k o)) ≡ (at p k o || list_any p (entries m))
any_altered p m k (Some v) none = ap (list_any p) (entries-insert nat_list_cmp_total m k v) ∙ any_put p k v (entries m) (sym (get-entries m k) ∙ none)
any_altered p m k None none = ap (λ n. list_any p (entries n)) same
  where
    kept : (q : Bytes) (b : Bool) → eq_by_cmp byte_order q k ≡ b → cond b None (get m q) ≡ get m q
    kept q true e = sym (ap (get m) (eq_same q k e) ∙ none)
    kept q false e = refl

    same : remove m k ≡ m
    same = same_map nat_list_cmp_total same_bytes (remove m k) m (λ q. get-remove nat_list_cmp_total m k q ∙ kept q (eq_by_cmp byte_order q k) refl)

-- ---- the map without a key

pub get_altered : (pairs : Pairs) (k : Bytes) (value : Option Bytes) (key : Bytes) → lookup (altered pairs k value) key ≡ cond (eq_by_cmp byte_order key k) value (lookup pairs key)
get_altered pairs k None key = get-remove nat_list_cmp_total pairs k key
get_altered pairs k (Some value) key = get-insert nat_list_cmp_total pairs k value key

cond_twice : {X : Type 0} (b : Bool) (x y z : X) → cond b x (cond b y z) ≡ cond b x z
cond_twice true x y z = refl
cond_twice false x y z = refl

-- to give a key something is to give it that once it has nothing
altered_apart : (m : Pairs) (k : Bytes) (o : Option Bytes) → altered (remove m k) k o ≡ altered m k o
altered_apart m k o = same_map nat_list_cmp_total same_bytes _ _ (λ q.
    get_altered (remove m k) k o q
    ∙ ap (cond (eq_by_cmp byte_order q k) o) (get-remove nat_list_cmp_total m k q)
    ∙ cond_twice (eq_by_cmp byte_order q k) o None (get m q)
    ∙ sym (get_altered m k o q))

altered_same : (m : Pairs) (k : Bytes) → altered (remove m k) k (lookup m k) ≡ m
altered_same m k = same_map nat_list_cmp_total same_bytes _ _ (λ q.
    get_altered (remove m k) k (lookup m k) q
    ∙ ap (cond (eq_by_cmp byte_order q k) (lookup m k)) (get-remove nat_list_cmp_total m k q)
    ∙ cond_twice (eq_by_cmp byte_order q k) (lookup m k) None (get m q)
    ∙ kept q (eq_by_cmp byte_order q k) refl)
  where
    kept : (q : Bytes) (b : Bool) → eq_by_cmp byte_order q k ≡ b → cond b (lookup m k) (get m q) ≡ get m q
    kept q true e = ap (get m) (sym (eq_same q k e))
    kept q false e = refl

gone : (m : Pairs) (k : Bytes) → get (remove m k) k ≡ None
gone m k = get-remove nat_list_cmp_total m k k ∙ ap (λ b. cond b None (get m k)) (eq_itself k)

-- where bytes are the entry of a key, they are that of no other one
pub none_other : (field : FieldOf) (e k : Bytes) (f : Option Bytes) → is_entry e k f ≡ true → (es : List (Bytes × Bytes)) → find byte_order k es ≡ None → list_any (has_entry field e) es ≡ false
none_other field e k f is [] none = refl
none_other field e k f is (p ∷ es) none =
    let off = no_value (eq_by_cmp byte_order k p.0) p.1 (find byte_order k es) none in
    by (has_entry field e p) refl ∙ none_other field e k f is es off.1
  where
    by : (b : Bool) → has_entry field e p ≡ b → (has_entry field e p || list_any (has_entry field e) es) ≡ list_any (has_entry field e) es
    by true has =
        let off = no_value (eq_by_cmp byte_order k p.0) p.1 (find byte_order k es) none in
        absurd (true≢false (sym (one_key e k p.0 f (field p.0 p.1) is has) ∙ off.0))
    by false has = ap (λ b. b || list_any (has_entry field e) es) has

at_entry : (field : FieldOf) (e k : Bytes) (o : Option Bytes) → at (has_entry field e) k o ≡ is_entry e k (field_in field k o)
at_entry field e k None = refl
at_entry field e k (Some v) = refl

-- what a key becomes changes at most two entries of the index
two_entries : {X : Type 0} (new old rest : Bool) (x y : X) → (old ≡ true → rest ≡ false) → cond (new || rest) x y ≡ cond new x (cond old y (cond (old || rest) x y))
two_entries true old rest x y apart = refl
two_entries false true rest x y apart = ap (λ b. cond b x y) (apart refl)
two_entries false false rest x y apart = refl

pub index_altered : (field : FieldOf) (m : Pairs) (k : Bytes) (new : Option Bytes) → index_of field (altered m k new) ≡ with_entry k (field_in field k new) (without_entry k (field_in field k (lookup m k)) (index_of field m))
index_altered field m k new = same_map nat_list_cmp_total same_bytes _ _ (λ e.
    let P = has_entry field e in
    let rest = list_any P (entries (remove m k)) in
    let now = field_in field k new in
    let was = field_in field k (lookup m k) in
    let any_new : list_any P (entries (altered m k new)) ≡ (is_entry e k now || rest) = ap (λ n. list_any P (entries n)) (sym (altered_apart m k new)) ∙ any_altered P (remove m k) k new (gone m k) ∙ ap (λ b. b || rest) (at_entry field e k new) in
    let any_old : list_any P (entries m) ≡ (is_entry e k was || rest) = ap (λ n. list_any P (entries n)) (sym (altered_same m k)) ∙ any_altered P (remove m k) k (lookup m k) (gone m k) ∙ ap (λ b. b || rest) (at_entry field e k (lookup m k)) in
    index_at field (entries (altered m k new)) e
    ∙ ap (λ b. cond b (Some []) None) any_new
    ∙ two_entries (is_entry e k now) (is_entry e k was) rest (Some []) None (λ is. none_other field e k was is (entries (remove m k)) (sym (get-entries (remove m k) k) ∙ gone m k))
    ∙ sym (lookup_with k now (without_entry k was (index_of field m)) e
    ∙ ap (cond (is_entry e k now) (Some [])) (lookup_without k was (index_of field m) e
    ∙ ap (cond (is_entry e k was) None) (index_at field (entries m) e ∙ ap (λ b. cond b (Some []) None) any_old))))

altered_by_itself : (m : Pairs) (k : Bytes) → altered m k (lookup m k) ≡ m
altered_by_itself m k = sym (altered_apart m k (lookup m k)) ∙ altered_same m k

-- where its field stays the same, no entry changes
pub index_stays : (field : FieldOf) (m : Pairs) (k : Bytes) (new : Option Bytes) → field_in field k new ≡ field_in field k (lookup m k) → index_of field (altered m k new) ≡ index_of field m
index_stays field m k new same =
    index_altered field m k new
    ∙ ap (λ f. with_entry k f (without_entry k (field_in field k (lookup m k)) (index_of field m))) same
    ∙ sym (index_altered field m k (lookup m k))
    ∙ ap (index_of field) (altered_by_itself m k)
