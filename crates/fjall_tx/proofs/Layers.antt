-- What maps are with own writes over them, and a part of one.
use Rattle.std.proofs.Common.{◌≡◌, ℕ, suc, ◌+◌, ◌-◌, ◌<◌, ◌≤◌, ◌^◌, ◌⊎◌, Bool, true, false, cond, not, ◌&&◌, List, [], ◌∷◌, map, filter, length, take, Option, Some, None, is_some, eqb, refl, sym, ap, subst, ◌∙◌, arith, inl, inr}
use Rattle.std.specs.Prelude.{T, count_by}
use Rattle.std.specs.FinMap.{FinMap, empty, entries, entries_sorted, find, get, get-entries, get-insert, get-remove, get-retain_keys, insert, is_sorted, nat_cmp-IsAntisymmetric, retain_keys}
use Rattle.std.specs.FinMap.Entries.{below_all}
use Rattle.std.specs.FinMap.Entries as fin
use Rattle.std.specs.Cmp.{nat_cmp_total}
use Rattle.std.specs.Cmp.Lexicographic.{nat_list_cmp_total}
use Rattle.std.specs.Option.{unwrap_or}
use Rattle.std.specs.Ordering.{nat_cmp, ordering_then, eq_by_cmp, is_eq}
use Rattle.std.specs.declared.cmp.Ordering.{Ordering}
use Rattle.std.specs.declared.cmp.Ordering.TheVariants.{Less, Equal, Greater}
use Rattle.std.proofs.lemmas.Bool.{cases_lt, eqb-true, eq-eqb}
use Rattle.std.proofs.lemmas.Cmp.{tied_itself}
use Rattle.std.proofs.lemmas.List.{length-take, length-drop, take_all}
use Rattle.std.proofs.lemmas.List.Sums.{sum_by-cons}
use Rattle.std.proofs.Math.Nat.{min-eq_left, min-eq_right}
use Rattle.fjall_base.specs.Pairs.{Bytes, KeyRange, Pairs, altered, byte_order, is_within, page, pairs_between}
use Rattle.fjall_base.specs.Store.{map_at, written}
use Rattle.fjall_journal.specs.Ops.{item_in, value_in}
use Rattle.fjall_journal.specs.declared.op.Op.{Op}
use Rattle.fjall_tx.specs.declared.key.Key.{Key}
use Rattle.fjall_tx.specs.Owns.{Own, is_of, is_removal, item_of, key_of, key_order, own_written, removals, wanted}
use Rattle.fjall_tx.proofs.Keys.{byte_tied, key_tied, key_total}
use Rattle.fjall_tx.proofs.Merges.{both, chosen, finds, first, is_less, is_tied, last, last_all, less, merge, not_found, pages, removed, second, sorted, tied, tied_all}

-- ---- one key

-- a map after a write of one key
altered_get : (pairs : Pairs) (k : Bytes) (v : Option Bytes) (key : Bytes) → get (altered pairs k v) key ≡ cond (eq_by_cmp byte_order key k) v (get pairs key)
altered_get pairs k (Some v) key = get-insert nat_list_cmp_total pairs k v key
altered_get pairs k None key = get-remove nat_list_cmp_total pairs k key

-- the maps after a write of one key of a keyspace
pub one_get : (maps : FinMap nat_cmp Pairs) (i : ℕ) (k : Bytes) (v : Option Bytes) (id : ℕ) (key : Bytes)
    → get (map_at (insert maps i (altered (map_at maps i) k v)) id) key ≡ cond (eq_by_cmp key_order (key_of id key) (key_of i k)) v (get (map_at maps id) key)
one_get maps i k v id key = ap (λ (p : Option Pairs). get (unwrap_or p empty) key) (get-insert nat_cmp_total maps i (altered (map_at maps i) k v) id) ∙ by (nat_cmp id i) refl
  where
    by : (r : Ordering) → nat_cmp id i ≡ r
        → get (unwrap_or (cond (is_eq r) (Some (altered (map_at maps i) k v)) (get maps id)) empty) key ≡ cond (is_eq (ordering_then r (byte_order key k))) v (get (map_at maps id) key)
    by Less e = refl
    by Equal e =
        let same : i ≡ id = sym (nat_cmp-IsAntisymmetric id i e) in
        altered_get (map_at maps i) k v key ∙ ap (λ (n : ℕ). cond (eq_by_cmp byte_order key k) v (get (map_at maps n) key)) same
    by Greater e = refl

-- what maps have after writes of sorted keys
pub written_get : (es : List (Key × Op)) (maps : FinMap nat_cmp Pairs) (id : ℕ) (key : Bytes) → T (is_sorted key_order es)
    → get (map_at (written maps (map item_in (map item_of es))) id) key ≡ chosen value_in (find key_order (key_of id key) es) (get (map_at maps id) key)
written_get [] maps id key s = refl
written_get (e ∷ es) maps id key s =
    let q = key_of id key in
    let i = e.0.keyspace_id in
    let x = get (map_at maps id) key in
    written_get es (insert maps i (altered (map_at maps i) e.0.key (value_in e.1))) id key (second _ _ s)
    ∙ ap (chosen value_in (find key_order q es)) (one_get maps i e.0.key (value_in e.1) id key)
    ∙ by (eq_by_cmp key_order q e.0) refl
  where
    by : (t : Bool) → eq_by_cmp key_order (key_of id key) e.0 ≡ t
        → chosen value_in (find key_order (key_of id key) es) (cond t (value_in e.1) (get (map_at maps id) key)) ≡ chosen value_in (cond t (Some e.1) (find key_order (key_of id key) es)) (get (map_at maps id) key)
    by true t =
        let none = not_found key_order key_total (key_of id key) es (tied_all key_order key_total (key_of id key) e.0 es (tied key_order key_total (key_of id key) e.0 (is_tied _ t)) (first _ _ s)) in
        ap (λ (f : Option Op). chosen value_in f (value_in e.1)) none
    by false t = refl

-- a key has what was written there last, or what it had
pub own_get : (own : Own) (maps : FinMap nat_cmp Pairs) (id : ℕ) (key : Bytes) → get (map_at (own_written maps own) id) key ≡ chosen value_in (get own (key_of id key)) (get (map_at maps id) key)
own_get own maps id key =
    written_get (entries own) maps id key (entries_sorted own) ∙ ap (λ (f : Option Op). chosen value_in f (get (map_at maps id) key)) (sym (get-entries own (key_of id key)))

-- ---- the own writes of a part of one keyspace, by key

abbrev pub keyed : Key × Op → Bytes × Op
keyed e = (e.0.key, e.1)

abbrev pub within : ℕ → KeyRange → List (Key × Op) → List (Bytes × Op)
within id range es = map keyed (filter (is_of id range) es)

id_of : (id : ℕ) (range : KeyRange) (e : Key × Op) → is_of id range e ≡ true → e.0.keyspace_id ≡ id
id_of id range e is = eqb-true e.0.keyspace_id id (by (eqb e.0.keyspace_id id) is)
  where
    by : (b : Bool) → (b && is_within range e.0.key) ≡ true → b ≡ true
    by true h = refl
    by false h = h

-- in one keyspace the keys are in the order of their bytes
pub order_within : (p q : Key) → p.keyspace_id ≡ q.keyspace_id → key_order p q ≡ byte_order p.key q.key
order_within p q e =
    let same : nat_cmp p.keyspace_id q.keyspace_id ≡ Equal = subst (λ (n : ℕ). nat_cmp p.keyspace_id n ≡ Equal) e (tied_itself nat_cmp_total p.keyspace_id) in
    ap (λ (r : Ordering). ordering_then r (byte_order p.key q.key)) same

within_below : (id : ℕ) (range : KeyRange) (x : Key) → x.keyspace_id ≡ id → (es : List (Key × Op)) → T (below_all key_order x es) → T (below_all byte_order x.key (within id range es))
within_below id range x is [] h = tt
within_below id range x is (e ∷ es) h = by (within_below id range x is es (second _ _ h)) (is_of id range e) refl
  where
    by : T (below_all byte_order x.key (within id range es)) → (b : Bool) → is_of id range e ≡ b → T (below_all byte_order x.key (map keyed (cond b (e ∷ filter (is_of id range) es) (filter (is_of id range) es))))
    by more true of =
        let same : x.keyspace_id ≡ e.0.keyspace_id = is ∙ sym (id_of id range e of) in
        both _ _ (is_less _ (sym (order_within x e.0 same) ∙ less _ (first _ _ h))) more
    by more false of = more

pub within_sorted : (id : ℕ) (range : KeyRange) (es : List (Key × Op)) → T (is_sorted key_order es) → T (is_sorted byte_order (within id range es))
within_sorted id range [] s = tt
within_sorted id range (e ∷ es) s = by (within_sorted id range es (second _ _ s)) (is_of id range e) refl
  where
    by : T (is_sorted byte_order (within id range es)) → (b : Bool) → is_of id range e ≡ b → T (is_sorted byte_order (map keyed (cond b (e ∷ filter (is_of id range) es) (filter (is_of id range) es))))
    by more true of = both _ _ (within_below id range e.0 (id_of id range e of) es (first _ _ s)) more
    by more false of = more

none_of : (b : Bool) → ◌≡◌ {A = Option Op} None (cond b None None)
none_of true = refl
none_of false = refl

pub within_found : (id : ℕ) (range : KeyRange) (key : Bytes) (es : List (Key × Op)) → find byte_order key (within id range es) ≡ cond (is_within range key) (find key_order (key_of id key) es) None
within_found id range key [] = none_of (is_within range key)
within_found id range key (e ∷ es) = by (within_found id range key es) (eq_by_cmp key_order (key_of id key) e.0) refl
  where
    F : List (Key × Op)
    F = filter (is_of id range) es

    found : Option Op
    found = find key_order (key_of id key) es

    -- at the key
    here : find byte_order key (map keyed F) ≡ cond (is_within range key) found None → key_of id key ≡ e.0 → (b : Bool) → is_within range key ≡ b
        → find byte_order key (map keyed (cond (is_of id range e) (e ∷ F) F)) ≡ cond b (Some e.1) None
    here more same b is =
        let of : is_of id range e ≡ b = ap (λ (k : Key). (eqb k.keyspace_id id) && is_within range k.key) (sym same) ∙ ap (λ (t : Bool). t && is_within range key) (eq-eqb id id refl) ∙ is in
        ap (λ (t : Bool). find byte_order key (map keyed (cond t (e ∷ F) F))) of ∙ at b is
      where
        at : (b : Bool) → is_within range key ≡ b → find byte_order key (map keyed (cond b (e ∷ F) F)) ≡ cond b (Some e.1) None
        at true is =
            let tie : byte_order key e.0.key ≡ Equal = subst (λ (k : Key). byte_order key k.key ≡ Equal) same (tied_itself nat_list_cmp_total key) in
            ap (λ (r : Ordering). cond (is_eq r) (Some e.1) (find byte_order key (map keyed F))) tie
        at false is = more ∙ ap (λ (t : Bool). cond t found None) is

    -- at another one
    there : find byte_order key (map keyed F) ≡ cond (is_within range key) found None → eq_by_cmp key_order (key_of id key) e.0 ≡ false → (b : Bool) → is_of id range e ≡ b
        → find byte_order key (map keyed (cond b (e ∷ F) F)) ≡ cond (is_within range key) found None
    there more other true of =
        let apart : eq_by_cmp byte_order key e.0.key ≡ false = ap is_eq (sym (order_within (key_of id key) e.0 (sym (id_of id range e of)))) ∙ other in
        ap (λ (t : Bool). cond t (Some e.1) (find byte_order key (map keyed F))) apart ∙ more
    there more other false of = more

    by : find byte_order key (map keyed F) ≡ cond (is_within range key) found None → (t : Bool) → eq_by_cmp key_order (key_of id key) e.0 ≡ t
        → find byte_order key (map keyed (cond (is_of id range e) (e ∷ F) F)) ≡ cond (is_within range key) (cond t (Some e.1) found) None
    by more true t = here more (key_tied (key_of id key) e.0 (is_tied _ t)) (is_within range key) refl
    by more false t = there more t (is_of id range e) refl

-- as many of them take their keys away
pub removed_is : (es : List (Key × Op)) → removed byte_order value_in (map keyed es) ≡ count_by (λ e. is_removal e.1) es
removed_is [] = refl
removed_is (e ∷ es) = by (removed_is es) (is_some (value_in e.1)) ∙ sym (sum_by-cons (λ (x : Key × Op). cond (is_removal x.1) 1 0) e es)
  where
    by : removed byte_order value_in (map keyed es) ≡ count_by (λ x. is_removal x.1) es → (b : Bool)
        → cond b (removed byte_order value_in (map keyed es)) (suc (removed byte_order value_in (map keyed es))) ≡ cond (not b) 1 0 + count_by (λ x. is_removal x.1) es
    by more true = omega (arith, more)
    by more false = omega (arith, more)

-- ---- a part of a map, with writes over it

part_found : (range : KeyRange) (pairs : Pairs) (key : Bytes) → find byte_order key (pairs_between range pairs) ≡ cond (is_within range key) (get pairs key) None
part_found range pairs key =
    sym (get-entries (retain_keys pairs (is_within range)) key)
    ∙ get-retain_keys pairs (is_within range) key (λ x e. ap (is_within range) (sym (byte_tied key x e)))

part_sorted : (range : KeyRange) (pairs : Pairs) → T (is_sorted byte_order (pairs_between range pairs))
part_sorted range pairs = entries_sorted (retain_keys pairs (is_within range))

chosen_within : (b : Bool) (f : Option Op) (x : Option Bytes) → chosen value_in (cond b f None) (cond b x None) ≡ cond b (chosen value_in f x) None
chosen_within true f x = refl
chosen_within false f x = refl

-- the merge of its pairs and the writes of its keys is the part of the map that has them
pub merged : (own : Own) (maps : FinMap nat_cmp Pairs) (id : ℕ) (range : KeyRange)
    → merge byte_order value_in (within id range (entries own)) (pairs_between range (map_at maps id)) ≡ pairs_between range (map_at (own_written maps own) id)
merged own maps id range =
    let ws = within id range (entries own) in
    let ordered = within_sorted id range (entries own) (entries_sorted own) in
    let bs = pairs_between range (map_at maps id) in
    let sorted_bs = part_sorted range (map_at maps id) in
    fin.same_entries byte_order nat_list_cmp_total byte_tied (merge byte_order value_in ws bs) (pairs_between range (map_at (own_written maps own) id))
    (sorted byte_order nat_list_cmp_total value_in ws ordered bs sorted_bs)
    (part_sorted range (map_at (own_written maps own) id))
    (λ key.
    finds byte_order nat_list_cmp_total value_in key ws ordered bs sorted_bs
    ∙ (λ i. chosen value_in (within_found id range key (entries own) i) (part_found range (map_at maps id) key i))
    ∙ ap (λ (f : Option Op). chosen value_in (cond (is_within range key) f None) (cond (is_within range key) (get (map_at maps id) key) None)) (sym (get-entries own (key_of id key)))
    ∙ chosen_within (is_within range key) (get own (key_of id key)) (get (map_at maps id) key)
    ∙ ap (λ (x : Option Bytes). cond (is_within range key) x None) (sym (own_get own maps id key))
    ∙ sym (part_found range (map_at (own_written maps own) id) key))

-- ---- pages of it

page_length : {X : Type 0} (back : Bool) (n : ℕ) (xs : List X) → n ≤ length xs → length (cond back (last n xs) (take n xs)) ≡ n
page_length true n xs h = let l = length-drop (length xs - n) xs in omega (arith, l, h)
page_length false n xs h = length-take n xs ∙ min-eq_left h

page_all : {X : Type 0} (back : Bool) (n : ℕ) (xs : List X) → length xs ≤ n → cond back (last n xs) (take n xs) ≡ xs
page_all true n xs h = last_all n xs h
page_all false n xs h = take_all n xs h

-- a page of what is wanted gives a page with the own writes
pub laid_over : (own : Own) (maps : FinMap nat_cmp Pairs) (id : ℕ) (range : KeyRange) (back : Bool) (max : ℕ) (found : List (Bytes × Bytes))
    → length found < 2 ^ 63 → found ≡ page back (wanted own id range max) (pairs_between range (map_at maps id))
    → page back max (merge byte_order value_in (within id range (entries own)) found) ≡ page back max (pairs_between range (map_at (own_written maps own) id))
laid_over own maps id range back max found short is =
    by (cases_lt (2 ^ 64 - 1) (max + removals own id range)) ∙ ap (page back max) (merged own maps id range)
  where
    ws : List (Bytes × Op)
    ws = within id range (entries own)

    bs : List (Bytes × Bytes)
    bs = pairs_between range (map_at maps id)

    gone : removed byte_order value_in ws ≡ removals own id range
    gone = removed_is (filter (is_of id range) (entries own))

    fewer : 2 ^ 64 - 1 < max + removals own id range → wanted own id range max ≡ 2 ^ 64 - 1 → length bs ≤ wanted own id range max
    fewer over n =
        elim (cases_lt (wanted own id range max) (length bs)) [
          | inl l ↦ (let len : length (page back (wanted own id range max) bs) ≡ wanted own id range max = page_length back (wanted own id range max) bs (omega (arith, l)) in let f = ap length is in absurd (omega (arith, f, len, short, n)))
          | inr g ↦ g
        ]

    by : ((2 ^ 64 - 1 < max + removals own id range) ⊎ (max + removals own id range ≤ 2 ^ 64 - 1)) → page back max (merge byte_order value_in ws found) ≡ page back max (merge byte_order value_in ws bs)
    by (inl over) =
        let n : wanted own id range max ≡ 2 ^ 64 - 1 = min-eq_right (omega (arith, over)) in
        let few : length bs ≤ wanted own id range max = fewer over n in
        ap (λ (l : List (Bytes × Bytes)). page back max (merge byte_order value_in ws l)) (is ∙ page_all back (wanted own id range max) bs few)
    by (inr fits) =
        let n : wanted own id range max ≡ max + removals own id range = min-eq_left fits in
        ap (λ (l : List (Bytes × Bytes)). page back max (merge byte_order value_in ws l)) is
        ∙ pages byte_order nat_list_cmp_total value_in back ws bs (part_sorted range (map_at maps id)) (wanted own id range max) max (omega (arith, n, gone))
