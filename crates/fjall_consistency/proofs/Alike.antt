-- Stores that callers can't tell apart, and commands that make such stores of such stores.
use Rattle.std.proofs.Common.{◌≡◌, ℕ, ◌+◌, ◌≤◌, Bool, true, false, cond, List, [], ◌∷◌, ◌++◌, length, map, Option, None, Some, unwrap_or, refl, sym, ap, subst, ◌∙◌, ⊎_elim, arith, length-append, append-nil}
use Rattle.std.specs.Prelude.{Contains}
use Rattle.std.specs.FinMap.{FinMap, contains_key, empty, entries, get, get-empty, get-insert, get-retain_keys, insert, len-empty, len-entries, nat_cmp-IsAntisymmetric, remove, retain_keys, same_map}
use Rattle.std.specs.Cmp.{nat_cmp_total}
use Rattle.std.specs.Cmp.Lexicographic.{nat_list_cmp_total}
use Rattle.std.specs.Ordering.{eq_by_cmp, is_eq, nat_cmp}
use Rattle.std.proofs.lemmas.Cmp.{tied_itself}
use Rattle.std.proofs.lemmas.List.{map-append}
use Rattle.std.proofs.lemmas.List.Elements.{Contains-append_left, Contains-push, Contains-push_cases}
use Rattle.fjall_base.specs.Pairs.{Bytes, Pairs, altered}
use Rattle.fjall_base.specs.Store.{Clear, Command, Create, Delete, Item, Options, Store, Write, apply, fold, kept, map_at, written}
use Rattle.fjall_journal.specs.Ops.{item_in, value_in, write_of}
use Rattle.fjall_journal.specs.declared.op.Op.{Op}
use Rattle.fjall_tx.specs.declared.key.Key.{Key}
use Rattle.fjall_tx.specs.Owns.{Own, item_of, items_of, key_of, key_order, own_written}
use Rattle.fjall_tx.proofs.Keys.{byte_tied, key_tied, key_total, no_entries}
use Rattle.fjall_tx.proofs.Layers.{one_get, own_get}
use Rattle.fjall_tx.proofs.Merges.{chosen, chosen_first, is_tied}
use Rattle.fjall_consistency.specs.Alike.{AreAlike}
use Rattle.fjall_consistency.specs.Consistency.{IsBeginning, one}

-- of alike stores these commands make alike ones
abbrev pub DoAlike : Command → Command → Type 0
DoAlike c d = (s e : Store) → AreAlike s e → AreAlike (apply s c) (apply e d)

-- so it is of commands one by one
abbrev pub AllAlike : List Command → List Command → Type 0
AllAlike [] [] = Unit {0}
AllAlike (c ∷ cs) (d ∷ ds) = DoAlike c d × AllAlike cs ds
AllAlike cs ds = ⊥

pub alike_itself : (s : Store) → AreAlike s s
alike_itself s = record { names = refl; next = refl; maps = λ id. refl }

-- what an insertion leaves under each id
put_at : (maps : FinMap nat_cmp Pairs) (k : ℕ) (pairs : Pairs) (id : ℕ) → map_at (insert maps k pairs) id ≡ cond (eq_by_cmp nat_cmp id k) pairs (map_at maps id)
put_at maps k pairs id = ap (λ (o : Option Pairs). unwrap_or o empty) (get-insert nat_cmp_total maps k pairs id) ∙ by (eq_by_cmp nat_cmp id k)
  where
    by : (b : Bool) → unwrap_or (cond b (Some pairs) (get maps id)) empty ≡ cond b pairs (map_at maps id)
    by true = refl
    by false = refl

-- maps with the same under each id have so after the same insertion
put_alike : (m n : FinMap nat_cmp Pairs) (k l : ℕ) (p q : Pairs) → k ≡ l → p ≡ q → ((id : ℕ) → map_at m id ≡ map_at n id) → (id : ℕ) → map_at (insert m k p) id ≡ map_at (insert n l q) id
put_alike m n k l p q keys pairs same id = put_at m k p id ∙ (λ i. cond (eq_by_cmp nat_cmp id (keys i)) (pairs i) (same id i)) ∙ sym (put_at n l q id)

-- and after the same items
written_alike : (items : List Item) (m n : FinMap nat_cmp Pairs) → ((id : ℕ) → map_at m id ≡ map_at n id) → (id : ℕ) → map_at (written m items) id ≡ map_at (written n items) id
written_alike [] m n same = same
written_alike (item ∷ items) m n same = written_alike items _ _ (put_alike m n item.id item.id _ _ refl (ap (λ (p : Pairs). altered p item.key item.value) (same item.id)) same)

-- a command does what it does
pub does_alike : (c : Command) → DoAlike c c
does_alike (Write items) s e alike = record { names = alike.names; next = alike.next; maps = written_alike items e.maps s.maps alike.maps }
does_alike (Clear id) s e alike = record { names = alike.names; next = alike.next; maps = put_alike e.maps s.maps id id empty empty refl refl alike.maps }
does_alike (Create name options) s e alike = record {
  names = λ i. insert (alike.names i) (alike.next i) name;
  next = λ i. alike.next i + 1;
  maps = put_alike e.maps s.maps e.next s.next empty empty alike.next refl alike.maps;
}
does_alike (Delete id) s e alike = record { names = ap (λ (names : FinMap nat_cmp Bytes). remove names id) alike.names; next = alike.next; maps = alike.maps }

-- settings aside
pub creates_alike : (name : Bytes) (a b : Options) → DoAlike (Create name a) (Create name b)
creates_alike name a b s e alike = record {
  names = λ i. insert (alike.names i) (alike.next i) name;
  next = λ i. alike.next i + 1;
  maps = put_alike e.maps s.maps e.next s.next empty empty alike.next refl alike.maps;
}

pub fold_alike : (cs ds : List Command) (s e : Store) → AllAlike cs ds → AreAlike s e → AreAlike (fold s cs) (fold e ds)
fold_alike [] [] s e each alike = alike
fold_alike [] (d ∷ ds) s e each alike = absurd each
fold_alike (c ∷ cs) [] s e each alike = absurd each
fold_alike (c ∷ cs) (d ∷ ds) s e each alike = fold_alike cs ds (apply s c) (apply e d) each.1 (each.0 s e alike)

-- what is kept under each id
kept_at : (maps : FinMap nat_cmp Pairs) (p : ℕ → Bool) (id : ℕ) → map_at (retain_keys maps p) id ≡ cond (p id) (map_at maps id) empty
kept_at maps p id = ap (λ (o : Option Pairs). unwrap_or o empty) (get-retain_keys maps p id (λ x e. ap p (sym (nat_cmp-IsAntisymmetric id x e)))) ∙ by (p id)
  where
    by : (b : Bool) → unwrap_or (cond b (get maps id) None) empty ≡ cond b (map_at maps id) empty
    by true = refl
    by false = refl

pub kept_alike : (s e : Store) → AreAlike s e → AreAlike (kept s) (kept e)
kept_alike s e alike = record {
  names = alike.names;
  next = alike.next;
  maps = λ id. kept_at e.maps (contains_key e.names) id ∙ (λ i. cond (contains_key (alike.names i) id) (alike.maps id i) empty) ∙ sym (kept_at s.maps (contains_key s.names) id);
}

-- ---- lists of commands

pub alike_append : (cs ds more others : List Command) → AllAlike cs ds → AllAlike more others → AllAlike (cs ++ more) (ds ++ others)
alike_append [] [] more others one two = two
alike_append [] (d ∷ ds) more others one two = absurd one
alike_append (c ∷ cs) [] more others one two = absurd one
alike_append (c ∷ cs) (d ∷ ds) more others one two = (one.0, alike_append cs ds more others one.1 two)

pub alike_length : (cs ds : List Command) → AllAlike cs ds → length ds ≡ length cs
alike_length [] [] each = refl
alike_length [] (d ∷ ds) each = absurd each
alike_length (c ∷ cs) [] each = absurd each
alike_length (c ∷ cs) (d ∷ ds) each = let same = alike_length cs ds each.1 in cc

-- a beginning of the one list is alike a beginning of the other
pub alike_front : (front cs ds : List Command) → AllAlike cs ds → IsBeginning front cs → (other : List Command) × AllAlike front other × IsBeginning other ds
alike_front [] cs ds each begins = ([], tt, (ds, refl))
alike_front (c ∷ front) [] ds each begins = let e = begins.1 in absurd cc
alike_front (c ∷ front) (b ∷ cs) [] each begins = absurd each
alike_front (c ∷ front) (b ∷ cs) (d ∷ ds) each begins =
    let e = begins.1 in
    let same : b ≡ c = cc in
    let rest : front ++ begins.0 ≡ cs = cc in
    let more = alike_front front cs ds each.1 (begins.0, rest) in
    (d ∷ more.0, (subst (λ (a : Command). DoAlike a d) same each.0, more.1), (more.2.0, ap (λ (l : List Command). d ∷ l) more.2.1))

-- of two beginnings of one list the shorter one begins the longer one
pub begins_longer : (a b ds : List Command) → IsBeginning a ds → IsBeginning b ds → length a ≤ length b → IsBeginning a b
begins_longer [] b ds one two shorter = (b, refl)
begins_longer (x ∷ a) [] ds one two shorter = absurd (omega arith)
begins_longer (x ∷ a) (y ∷ b) [] one two shorter = let e = one.1 in absurd cc
begins_longer (x ∷ a) (y ∷ b) (d ∷ ds) one two shorter =
    let e = one.1 in
    let g = two.1 in
    let left : a ++ one.0 ≡ ds = cc in
    let right : b ++ two.0 ≡ ds = cc in
    let more = begins_longer a b ds (one.0, left) (two.0, right) (omega arith) in
    let rest = more.1 in
    (more.0, cc)

-- and where they have the same length, they are the same
pub same_front : (a b ds : List Command) → IsBeginning a ds → IsBeginning b ds → length a ≡ length b → a ≡ b
same_front a b ds one two same =
    let more = begins_longer a b ds one two (omega arith) in
    let none : more.0 ≡ [] = no_entries more.0 (omega (arith, length-append a more.0, ap length more.1)) in
    sym (append-nil a) ∙ ap (λ (l : List Command). a ++ l) (sym none) ∙ more.1

-- the length of a beginning
pub shorter : (a ds : List Command) → IsBeginning a ds → length a ≤ length ds
shorter a ds begins = omega (arith, length-append a begins.0, ap length begins.1)

-- ---- what a transaction wrote

-- the keys of items
abbrev pub keys_of : List Item → List (ℕ × Bytes)
keys_of items = map (λ item. (item.id, item.key)) items

-- The own writes, kept as a map, are these items, written one after another.
pub record IsOwn (own : Own) (items : List Item) : Type 0 where
  pub sees : (maps : FinMap nat_cmp Pairs) (id : ℕ) → map_at (own_written maps own) id ≡ map_at (written maps items) id
  pub none : own ≡ empty → items ≡ []
  pub no_items : items ≡ [] → own ≡ empty
  pub keyed : (id : ℕ) (key : Bytes) (op : Op) → get own (key_of id key) ≡ Some op → Contains {X = ℕ × Bytes} (keys_of items) (id, key)
  pub found : (id : ℕ) (key : Bytes) → Contains {X = ℕ × Bytes} (keys_of items) (id, key) → (op : Op) × (get own (key_of id key) ≡ Some op)
  -- and each write that it has is among the items
  pub listed : (id : ℕ) (key : Bytes) (op : Op) → get own (key_of id key) ≡ Some op → Contains items (record { id = id; key = key; value = value_in op })

pub owns_none : IsOwn empty []
owns_none = record {
  sees = λ maps id. ap (λ (es : List (Key × Op)). map_at (written maps (map item_in (map item_of es))) id) no_entry;
  none = λ _. refl;
  no_items = λ _. refl;
  keyed = λ id key op e. let is : get (empty {X = Op} {R = key_order}) (key_of id key) ≡ None = get-empty key_order (key_of id key) in absurd cc;
  found = λ id key has. let lt = has.1 in absurd (omega arith);
  listed = λ id key op e. let is : get (empty {X = Op} {R = key_order}) (key_of id key) ≡ None = get-empty key_order (key_of id key) in absurd cc;
}
  where
    no_entry : ◌≡◌ {A = List (Key × Op)} (entries (empty {R = key_order})) []
    no_entry = no_entries (entries (empty {R = key_order})) (sym (len-entries (empty {R = key_order})) ∙ len-empty key_order Op)

-- items written behind others
written_append : (maps : FinMap nat_cmp Pairs) (xs ys : List Item) → written maps (xs ++ ys) ≡ written (written maps xs) ys
written_append maps [] ys = refl
written_append maps (x ∷ xs) ys = written_append (insert maps x.id (altered (map_at maps x.id) x.key x.value)) xs ys

-- the keys with one more item
pub keys_more : (items : List Item) (id : ℕ) (key : Bytes) (value : Option Bytes) → keys_of (items ++ one id key value) ≡ keys_of items ++ (id, key) ∷ []
keys_more items id key value = map-append (λ (item : Item). (item.id, item.key)) items (one id key value)

-- the key of an own write has it
own_itself : (own : Own) (k : Key) (op : Op) → get (insert own k op) k ≡ Some op
own_itself own k op = get-insert key_total own k op k ∙ ap (λ o. cond (is_eq o) (Some op) (get own k)) (tied_itself key_total k)

-- one more own write is seen as its item behind the others
sees_more : (own : Own) (items : List Item) (id : ℕ) (key : Bytes) (op : Op) → IsOwn own items → (maps : FinMap nat_cmp Pairs) (j : ℕ)
    → map_at (own_written maps (insert own (key_of id key) op)) j ≡ map_at (written maps (items ++ one id key (value_in op))) j
sees_more own items id key op is maps j =
    same_map nat_list_cmp_total byte_tied _ _ (λ q.
    own_get (insert own (key_of id key) op) maps j q
    ∙ ap (λ (f : Option Op). chosen value_in f (get (map_at maps j) q)) (get-insert key_total own (key_of id key) op (key_of j q))
    ∙ sym (chosen_first value_in (eq_by_cmp key_order (key_of j q) (key_of id key)) op (get own (key_of j q)) (get (map_at maps j) q))
    ∙ ap (cond (eq_by_cmp key_order (key_of j q) (key_of id key)) (value_in op)) (sym (own_get own maps j q) ∙ ap (λ (p : Pairs). get p q) (is.sees maps j))
    ∙ sym (one_get (written maps items) id key (value_in op) j q))
    ∙ sym (ap (λ (m : FinMap nat_cmp Pairs). map_at m j) (written_append maps items (one id key (value_in op))))

-- what has an own write after one more is a key of the items with that item behind them
keyed_more : (own : Own) (items : List Item) (id : ℕ) (key : Bytes) (op : Op) → IsOwn own items → (j : ℕ) (q : Bytes) (other : Op) → get (insert own (key_of id key) op) (key_of j q) ≡ Some other
    → Contains {X = ℕ × Bytes} (keys_of (items ++ one id key (value_in op))) (j, q)
keyed_more own items id key op is j q other e =
    subst (λ (keys : List (ℕ × Bytes)). Contains {X = ℕ × Bytes} keys (j, q)) (sym (keys_more items id key (value_in op)))
    (by (eq_by_cmp key_order (key_of j q) (key_of id key)) refl (sym (get-insert key_total own (key_of id key) op (key_of j q)) ∙ e))
  where
    by : (b : Bool) → eq_by_cmp key_order (key_of j q) (key_of id key) ≡ b → cond b (Some op) (get own (key_of j q)) ≡ Some other → Contains {X = ℕ × Bytes} (keys_of items ++ (id, key) ∷ []) (j, q)
    by true t has =
        let same : ◌≡◌ {A = Key} (key_of j q) (key_of id key) = key_tied (key_of j q) (key_of id key) (is_tied _ t) in
        subst (λ (k : Key). Contains {X = ℕ × Bytes} (keys_of items ++ (id, key) ∷ []) (k.keyspace_id, k.key)) (sym same) (Contains-push (keys_of items) (id, key))
    by false t has = Contains-append_left (keys_of items) ((id, key) ∷ []) (j, q) (is.keyed j q other has)

-- and each key of those items has an own write
found_more : (own : Own) (items : List Item) (id : ℕ) (key : Bytes) (op : Op) → IsOwn own items → (j : ℕ) (q : Bytes) → Contains {X = ℕ × Bytes} (keys_of (items ++ one id key (value_in op))) (j, q)
    → (other : Op) × (get (insert own (key_of id key) op) (key_of j q) ≡ Some other)
found_more own items id key op is j q has =
    ⊎_elim (λ before. let was = is.found j q before in by (eq_by_cmp key_order (key_of j q) (key_of id key)) was.0 was.1)
    (λ same. (op, subst (λ (p : ℕ × Bytes). get (insert own (key_of id key) op) (key_of p.0 p.1) ≡ Some op) same (own_itself own (key_of id key) op)))
    (Contains-push_cases (keys_of items) (id, key) (j, q) (subst (λ (keys : List (ℕ × Bytes)). Contains {X = ℕ × Bytes} keys (j, q)) (keys_more items id key (value_in op)) has))
  where
    at : get (insert own (key_of id key) op) (key_of j q) ≡ cond (eq_by_cmp key_order (key_of j q) (key_of id key)) (Some op) (get own (key_of j q))
    at = get-insert key_total own (key_of id key) op (key_of j q)

    either : (b : Bool) (was : Op) → (other : Op) × (cond b (Some op) (Some was) ≡ Some other)
    either true was = (op, refl)
    either false was = (was, refl)

    by : (b : Bool) (was : Op) → get own (key_of j q) ≡ Some was → (other : Op) × (get (insert own (key_of id key) op) (key_of j q) ≡ Some other)
    by b was e =
        let some = either (eq_by_cmp key_order (key_of j q) (key_of id key)) was in
        (some.0, at ∙ ap (cond (eq_by_cmp key_order (key_of j q) (key_of id key)) (Some op)) e ∙ some.1)

-- and each own write is among those items
listed_more : (own : Own) (items : List Item) (id : ℕ) (key : Bytes) (op : Op) → IsOwn own items → (j : ℕ) (q : Bytes) (other : Op) → get (insert own (key_of id key) op) (key_of j q) ≡ Some other
    → Contains (items ++ one id key (value_in op)) (record { id = j; key = q; value = value_in other })
listed_more own items id key op is j q other e = by (eq_by_cmp key_order (key_of j q) (key_of id key)) refl (sym (get-insert key_total own (key_of id key) op (key_of j q)) ∙ e)
  where
    by : (b : Bool) → eq_by_cmp key_order (key_of j q) (key_of id key) ≡ b → cond b (Some op) (get own (key_of j q)) ≡ Some other
        → Contains (items ++ one id key (value_in op)) (record { id = j; key = q; value = value_in other })
    by true t has =
        let same : ◌≡◌ {A = Key} (key_of j q) (key_of id key) = key_tied (key_of j q) (key_of id key) (is_tied _ t) in
        let that : op ≡ other = cc in
        subst (λ (o : Op). Contains (items ++ one id key (value_in op)) (record { id = j; key = q; value = value_in o })) that
        (subst (λ (k : Key). Contains (items ++ one id key (value_in op)) (record { id = k.keyspace_id; key = k.key; value = value_in op })) (sym same)
        (Contains-push items (record { id = id; key = key; value = value_in op })))
    by false t has = Contains-append_left items (one id key (value_in op)) (record { id = j; key = q; value = value_in other }) (is.listed j q other has)

pub owns_more : (own : Own) (items : List Item) (id : ℕ) (key : Bytes) (op : Op) → IsOwn own items → IsOwn (insert own (key_of id key) op) (items ++ one id key (value_in op))
owns_more own items id key op is = record {
  sees = sees_more own items id key op is;
  none = λ e.
      let there = own_itself own (key_of id key) op in
      let gone : get (empty {X = Op} {R = key_order}) (key_of id key) ≡ None = get-empty key_order (key_of id key) in
      absurd cc;
  no_items = λ e. absurd (omega (arith, length-append items (one id key (value_in op)), ap length e));
  keyed = keyed_more own items id key op is;
  found = found_more own items id key op is;
  listed = listed_more own items id key op is;
}

-- what a transaction sees is alike, where its views are
pub own_alike : (own : Own) (items : List Item) → IsOwn own items → DoAlike (write_of (items_of own)) (Write items)
own_alike own items is s e alike = record {
  names = alike.names;
  next = alike.next;
  maps = λ id. written_alike items e.maps s.maps alike.maps id ∙ sym (is.sees s.maps id);
}
