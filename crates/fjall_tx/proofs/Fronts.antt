-- The own writes of a part of one keyspace, read from where it begins to where it ends.
use Rattle.std.proofs.Common.{◌≡◌, ◌≢◌, ℕ, ◌<◌, ◌≤◌, ◌⊎◌, Bool, true, false, cond, not, ◌&&◌, List, [], ◌∷◌, filter, eqb, refl, sym, ap, ◌∙◌, arith, inl, inr}
use Rattle.std.specs.Prelude.{T}
use Rattle.std.specs.BTreeMap.Comparable.{le_lt_trans}
use Rattle.std.specs.BTreeMap.Range.{entries_between, is_from_start, is_past_end}
use Rattle.std.specs.Cmp.{ranked}
use Rattle.std.specs.Cmp.Lexicographic.{nat_list_cmp_total}
use Rattle.std.specs.FinMap.{is_sorted}
use Rattle.std.specs.FinMap.Entries.{below_all}
use Rattle.std.specs.Ordering.{MatchOrdering, nat_cmp, ordering_then, is_le, is_lt}
use Rattle.std.specs.declared.cmp.Ordering.{Ordering}
use Rattle.std.specs.declared.cmp.Ordering.TheVariants.{Less, Equal, Greater}
use Rattle.std.specs.declared.ops.Bound.{Bound}
use Rattle.std.specs.declared.ops.Bound.TheVariants.{Included, Excluded, Unbounded}
use Rattle.std.proofs.lemmas.Bool.{cases_eq, cases_lt, eqb-true, eq-eqb}
use Rattle.fjall_base.specs.Pairs.{Bytes, KeyRange, byte_order}
use Rattle.fjall_journal.specs.declared.op.Op.{Op}
use Rattle.fjall_tx.specs.declared.key.Key.{Key}
use Rattle.fjall_tx.specs.Owns.{is_of, key_of, key_order, start_at}
use Rattle.fjall_tx.proofs.Layers.{order_within, within}
use Rattle.fjall_tx.proofs.Merges.{first, less, second}

-- whether a key is of the keyspace and not past the end
abbrev pub is_up_to : ℕ → Bound Bytes → Key → Bool
is_up_to id end key = (eqb key.keyspace_id id) && not (is_past_end byte_order end key.key)

-- the first of them that are
abbrev pub front : ℕ → Bound Bytes → List (Key × Op) → List (Key × Op)
front id end [] = []
front id end (e ∷ es) = cond (is_up_to id end e.0) (e ∷ front id end es) []

-- ---- the start

empty_first : (key : Bytes) → is_le (byte_order [] key) ≡ true
empty_first [] = refl
empty_first (x ∷ xs) = refl

-- of this keyspace the start takes what the range's takes
start_within : (id : ℕ) (start : Bound Bytes) (key : Key) → id ≡ key.keyspace_id → is_from_start key_order (start_at id start) key ≡ is_from_start byte_order start key.key
start_within id (Included k) key e = ap is_le (order_within (key_of id k) key e)
start_within id (Excluded k) key e = ap is_lt (order_within (key_of id k) key e)
start_within id Unbounded key e = ap is_le (order_within (key_of id []) key e) ∙ empty_first key.key

then_le : (n m : ℕ) (o : Ordering) → is_le (ordering_then (nat_cmp n m) o) ≡ true → n ≤ m
then_le n m o h = by (nat_cmp n m) (ranked n m (nat_cmp n m) refl) h
  where
    by : (r : Ordering) → MatchOrdering r (n < m) (n ≡ m) (m < n) → is_le (ordering_then r o) ≡ true → n ≤ m
    by Less l h = omega (arith, l)
    by Equal e h = omega (arith, e)
    by Greater g h = absurd cc

le_of : (o : Ordering) → is_lt o ≡ true → is_le o ≡ true
le_of Less h = refl
le_of Equal h = refl
le_of Greater h = h

-- what it takes is of no keyspace before
start_above : (id : ℕ) (start : Bound Bytes) (key : Key) → is_from_start key_order (start_at id start) key ≡ true → id ≤ key.keyspace_id
start_above id (Included k) key h = then_le id key.keyspace_id (byte_order k key.key) h
start_above id (Excluded k) key h = then_le id key.keyspace_id (byte_order k key.key) (le_of (key_order (key_of id k) key) h)
start_above id Unbounded key h = then_le id key.keyspace_id (byte_order [] key.key) h

-- ---- the end

past_next : (end : Bound Bytes) (a b : Bytes) → is_past_end byte_order end a ≡ true → byte_order a b ≡ Less → is_past_end byte_order end b ≡ true
past_next (Included k) a b p l = ap is_lt (le_lt_trans nat_list_cmp_total k a b (le_of (byte_order k a) p) l)
past_next (Excluded k) a b p l = ap is_le (le_lt_trans nat_list_cmp_total k a b p l)
past_next Unbounded a b p l = p

-- a key that is of a later keyspace, or past the end
Over : ℕ → Bound Bytes → Key → Type 0
Over id end key = (id < key.keyspace_id) ⊎ ((key.keyspace_id ≡ id) × (is_past_end byte_order end key.key ≡ true))

not_false : (b : Bool) → not b ≡ false → b ≡ true
not_false true h = refl
not_false false h = sym h

and_false : (b : Bool) → (b && false) ≡ false
and_false true = refl
and_false false = refl

over_from : (id : ℕ) (end : Bound Bytes) (key : Key) → id ≤ key.keyspace_id → is_up_to id end key ≡ false → Over id end key
unfolding Over
over_from id end key from out =
    elim (cases_eq key.keyspace_id id) [
      | inl e ↦ inr (e, not_false (is_past_end byte_order end key.key) (ap (λ (b : Bool). b && not (is_past_end byte_order end key.key)) (sym (eq-eqb key.keyspace_id id e)) ∙ out))
      | inr n ↦ inl (above n)
    ]
  where
    above : key.keyspace_id ≢ id → id < key.keyspace_id
    above n = elim (cases_lt id key.keyspace_id) [ inl l ↦ l | inr g ↦ absurd (n (omega (arith, g, from))) ]

over_out : (id : ℕ) (end : Bound Bytes) (key : Key) → Over id end key → is_up_to id end key ≡ false
unfolding Over
over_out id end key (inl l) = by (eqb key.keyspace_id id) refl
  where
    by : (b : Bool) → eqb key.keyspace_id id ≡ b → (b && not (is_past_end byte_order end key.key)) ≡ false
    by true e = let same = eqb-true key.keyspace_id id e in absurd (omega (arith, same, l))
    by false e = refl
over_out id end key (inr p) = ap (λ (b : Bool). (eqb key.keyspace_id id) && not b) p.1 ∙ and_false (eqb key.keyspace_id id)

over_next : (id : ℕ) (end : Bound Bytes) (p q : Key) → Over id end p → key_order p q ≡ Less → Over id end q
unfolding Over
over_next id end p q (inl l) less = let rise = then_le p.keyspace_id q.keyspace_id (byte_order p.key q.key) (ap is_le less) in inl (omega (arith, l, rise))
over_next id end p q (inr o) less =
    elim (cases_lt p.keyspace_id q.keyspace_id) [
      | inl l ↦ inl (let same = o.0 in omega (arith, l, same))
      | inr g ↦ inr (at g)
    ]
  where
    at : q.keyspace_id ≤ p.keyspace_id → (q.keyspace_id ≡ id) × (is_past_end byte_order end q.key ≡ true)
    at g =
        let rise = then_le p.keyspace_id q.keyspace_id (byte_order p.key q.key) (ap is_le less) in
        let same : p.keyspace_id ≡ q.keyspace_id = omega (arith, g, rise) in
        (sym same ∙ o.0, past_next end p.key q.key o.1 (sym (order_within p q same) ∙ less))

-- ---- both

of_parts : (of from take within : Bool) → (of ≡ true → within ≡ from) → (of && (from && take)) ≡ (within && (of && take))
of_parts true from take within same = ap (λ (b : Bool). b && take) (sym (same refl))
of_parts false from take within same = sym (and_false within)

of_is : (id : ℕ) (range : KeyRange) (e : Key × Op) → is_of id range e ≡ (is_from_start key_order (start_at id range.0) e.0 && is_up_to id range.1 e.0)
of_is id range e =
    of_parts (eqb e.0.keyspace_id id) (is_from_start byte_order range.0 e.0.key) (not (is_past_end byte_order range.1 e.0.key)) (is_from_start key_order (start_at id range.0) e.0)
    (λ of. start_within id range.0 e.0 (sym (eqb-true e.0.keyspace_id id of)))

none_left : (id : ℕ) (range : KeyRange) (x : Key) → Over id range.1 x → (es : List (Key × Op)) → T (below_all key_order x es) → filter (is_of id range) es ≡ []
none_left id range x over [] h = refl
none_left id range x over (e ∷ es) h =
    let out : is_up_to id range.1 e.0 ≡ false = over_out id range.1 e.0 (over_next id range.1 x e.0 over (less _ (first _ _ h))) in
    let of : is_of id range e ≡ false = of_is id range e ∙ ap (λ (b : Bool). is_from_start key_order (start_at id range.0) e.0 && b) out ∙ and_false (is_from_start key_order (start_at id range.0) e.0) in
    ap (λ (b : Bool). cond b (e ∷ filter (is_of id range) es) (filter (is_of id range) es)) of ∙ none_left id range x over es (second _ _ h)

-- what is read is the part
pub front_is : (id : ℕ) (range : KeyRange) (es : List (Key × Op)) → T (is_sorted key_order es) → front id range.1 (entries_between key_order (start_at id range.0) Unbounded es) ≡ filter (is_of id range) es
front_is id range [] s = refl
front_is id range (e ∷ es) s = by (front_is id range es (second _ _ s)) (is_from_start key_order (start_at id range.0) e.0) refl
  where
    L : List (Key × Op)
    L = entries_between key_order (start_at id range.0) Unbounded es

    F : List (Key × Op)
    F = filter (is_of id range) es

    -- where it begins before
    up : front id range.1 L ≡ F → is_from_start key_order (start_at id range.0) e.0 ≡ true → (b : Bool) → is_up_to id range.1 e.0 ≡ b → cond b (e ∷ front id range.1 L) [] ≡ cond (is_of id range e) (e ∷ F) F
    up more from true is =
        let of : is_of id range e ≡ true = of_is id range e ∙ (λ i. from i && is i) in
        ap (λ (l : List (Key × Op)). e ∷ l) more ∙ ap (λ (b : Bool). cond b (e ∷ F) F) (sym of)
    up more from false is =
        let of : is_of id range e ≡ false = of_is id range e ∙ (λ i. from i && is i) in
        let over : Over id range.1 e.0 = over_from id range.1 e.0 (start_above id range.0 e.0 from) is in
        sym (none_left id range e.0 over es (first _ _ s)) ∙ ap (λ (b : Bool). cond b (e ∷ F) F) (sym of)

    by : front id range.1 L ≡ F → (b : Bool) → is_from_start key_order (start_at id range.0) e.0 ≡ b → front id range.1 (cond (b && true) (e ∷ L) L) ≡ cond (is_of id range e) (e ∷ F) F
    by more true from = up more from (is_up_to id range.1 e.0) refl
    by more false from =
        let of : is_of id range e ≡ false = of_is id range e ∙ ap (λ (b : Bool). b && is_up_to id range.1 e.0) from in
        more ∙ ap (λ (b : Bool). cond b (e ∷ F) F) (sym of)
