-- The entries of keyspaces store these keyspaces, and no others.
use Rattle.std.proofs.Common.{◌≡◌, ℕ, zero, suc, ◌+◌, ◌<◌, ◌^◌, Bool, true, false, List, [], ◌∷◌, ◌++◌, length, get_or, filter_map, map, All, AllPairs, refl, sym, ap, ◌∙◌, subst, append_assoc, arith, Option, Some, None, Result, Ok, inl, inr, ◌⊎◌}
use Rattle.std.proofs.lemmas.Bool.{cases_lt, cases_Bool}
use Rattle.std.proofs.lemmas.Bool.Decides.{Decides-eqb}
use Rattle.std.proofs.lemmas.Cmp.{nat_list_cmp_total}
use Rattle.std.proofs.lemmas.List.{get_or-map, get_or_append_left, get_or-append-add, get_or_default, length-append, length-map}
use Rattle.std.proofs.lemmas.List.Elements.{All-nil, All-cons, All-head, All-tail, All-append, All-map, All-contains, All-filter, filter_passes, filter_map-append, Contains-append_right, All-weaker}
use Rattle.std.proofs.lemmas.List.Kept.{AllPairs-from_increasing}
use Rattle.std.proofs.lemmas.Slice.Eq.{bytes_eq-Decides}
use Rattle.std.specs.List.{flat_map, cons_option, Contains}
use Rattle.std.specs.Str.{bytes_eq}
use Rattle.std.specs.declared.cmp.Ordering.TheVariants.{Less}
use Rattle.fjall_base.specs.Pairs.{byte_order}
use Rattle.fjall_options.specs.declared.options.stored_option.StoredOption.{StoredOption}
use Rattle.fjall_options.specs.Options.{options_by_name, name_key, config_key, option_name, value_of, value_at, AreOptions, stored_options, stored_values}
use Rattle.fjall_meta.specs.declared.living.LivingKeyspace.{LivingKeyspace}
use Rattle.fjall_meta.specs.declared.entry.MetaEntry.{MetaEntry}
use Rattle.fjall_meta.specs.Entries.{option_entry, option_entries, name_entry, entries_of}
use Rattle.fjall_meta.specs.Keyspaces.{Keyspaces, AreKeyspaces, is_name}
use Rattle.fjall_meta.specs.Reading.{key_id, is_that, own_entries, number_in, pairs_of, stored_keyspace, first_fault, AreIds, IsStored}
use Rattle.fjall_options.proofs.StoredPairs.{all_values}
use Rattle.fjall_meta.proofs.Alike.{is_by_name, entry_by_name, low_ids, many_options, same_parts}
use Rattle.fjall_meta.proofs.Grouping.{own_value}
use Rattle.fjall_meta.proofs.Keys.{id_of_config_key, id_of_name_key}
use Rattle.fjall_meta.proofs.Orders.{entries_ascend}
use Rattle.fjall_meta.proofs.Rising.{Rises, from_pairs, mapped}

-- ---- each key is that of one pair

not_below_itself : (key : List ℕ) → byte_order key key ≡ Less → ⊥
not_below_itself key h = let other = nat_list_cmp_total.antisymm key key in absurd cc

below_differs : (a b : List ℕ) → byte_order a b ≡ Less → bytes_eq a b ≡ false
below_differs a b h = elim (cases_Bool (bytes_eq a b)) [
  | inl is ↦
      let same : a ≡ b = (bytes_eq-Decides a b).0 is in
      absurd (not_below_itself b (subst (λ (k : List ℕ). byte_order k b ≡ Less) same h))
  | inr other ↦ other
]

-- the pairs give this entry's value to its key
abbrev Gives : List MetaEntry → MetaEntry → Type 0
Gives entries e = value_of e.key (pairs_of entries) ≡ Some e.value

all_given : (entries : List MetaEntry) → Rises (λ a b. byte_order a.key b.key ≡ Less) entries → All (Gives entries) entries
all_given [] rise = All-nil (Gives [])
all_given (e ∷ entries) rise =
    let same : bytes_eq e.key e.key ≡ true = (bytes_eq-Decides e.key e.key).1 refl in
    All-cons (Gives (e ∷ entries)) e entries (rw same refl)
    (λ i d within. let other = below_differs e.key (get_or entries i d).key (rise.0 i d within) in rw other (all_given entries rise.1 i d within))

-- ---- from the entries to the keyspaces

behind : {X : Type 0} (P : X → Type 0) (front rest : List X) → All P (front ++ rest) → All P rest
behind P front rest all = λ i d within.
    let long = length-append front rest in
    subst P (get_or-append-add front rest i d) (all (length front + i) d (omega arith))

of_each : {X Y : Type 0} (P : Y → Type 0) (f : X → Y) (xs : List X) → All P (map f xs) → All (λ x. P (f x)) xs
of_each P f xs all = λ i d within.
    let long = length-map xs f in
    subst P (get_or-map f xs i d (f d) within) (all i (f d) (omega arith))

option_there : (k : LivingKeyspace) (o : StoredOption) (e : MetaEntry) → get_or (option_entries k) (is_by_name o).0 e ≡ option_entry k o
unfolding option_entries
option_there k o e = entry_by_name k o e

each_option : (P : MetaEntry → Type 0) (k : LivingKeyspace) (rest : List MetaEntry) → All P (option_entries k ++ rest) → (o : StoredOption) → P (option_entry k o)
each_option P k rest all o =
    let i = (is_by_name o).0 in
    let d = option_entry k o in
    let short : i < 20 = (is_by_name o).1 in
    let lt : i < length (option_entries k) = omega (arith, many_options k) in
    let within : i < length (option_entries k ++ rest) = omega (arith, length-append (option_entries k) rest) in
    subst P (get_or_append_left (option_entries k) rest d i lt ∙ option_there k o d) (all i d within)

of_options : (P : MetaEntry → Type 0) (living : List LivingKeyspace) (rest : List MetaEntry) → All P (flat_map option_entries living ++ rest) → All (λ k. (o : StoredOption) → P (option_entry k o)) living
of_options P [] rest all = All-nil (λ k. (o : StoredOption) → P (option_entry k o))
of_options P (k ∷ living) rest all =
    let others = flat_map option_entries living ++ rest in
    let moved : All P (option_entries k ++ others) = subst (All P) (append_assoc (option_entries k) (flat_map option_entries living) rest) all in
    All-cons (λ j. (o : StoredOption) → P (option_entry j o)) k living (each_option P k others moved) (of_options P living rest (behind P (option_entries k) others moved))

-- ---- what they store

values_given : (id : ℕ) (options : List (List ℕ)) (pairs : List (List ℕ × List ℕ)) (those : List StoredOption) → AreOptions options → ((o : StoredOption) → value_of (config_key id (option_name o)) pairs ≡ Some (value_at o options)) → stored_values id pairs those ≡ Ok (map (λ o. value_at o options) those)
unfolding stored_values
values_given id options pairs [] all given = refl
values_given id options pairs (o ∷ those) all given = rw (given o, all.valid o, values_given id options pairs those all given) refl

keyspace_given : (k : LivingKeyspace) (pairs : List (List ℕ × List ℕ)) → is_name k.name ≡ true → AreOptions k.options → value_of (name_key k.id) pairs ≡ Some k.name → ((o : StoredOption) → value_of (config_key k.id (option_name o)) pairs ≡ Some (value_at o k.options))
    → stored_keyspace k.id pairs ≡ Ok (k.name, k.options)
keyspace_given k pairs named all name options =
    let values : stored_values k.id pairs stored_options ≡ Ok k.options = values_given k.id k.options pairs stored_options all options ∙ ap (λ (vs : List (List ℕ)). Ok vs) (all_values k.options all.complete) in
    rw (name, named, values) refl

-- an entry of one of these keyspaces
record IsOf (living : List LivingKeyspace) (e : MetaEntry) : Type 0 where
  place : ℕ
  within : place < length living
  id : (d : LivingKeyspace) → key_id e.key ≡ Some (get_or living place d).id
  number : (d : LivingKeyspace) → e.number ≡ (get_or living place d).number

later : (k : LivingKeyspace) (living : List LivingKeyspace) (e : MetaEntry) → IsOf living e → IsOf (k ∷ living) e
later k living e h = record { place = suc h.place; within = (let lt = h.within in omega arith); id = h.id; number = h.number }

own_options : (k : LivingKeyspace) (living : List LivingKeyspace) → k.id < 2 ^ 64 → All (IsOf (k ∷ living)) (option_entries k)
unfolding option_entries
own_options k living bound =
    let one : All (λ o. IsOf (k ∷ living) (option_entry k o)) options_by_name =
    λ i o within. record { place = 0; within = omega arith; id = (λ d. id_of_config_key k.id (option_name (get_or options_by_name i o)) bound); number = λ d. refl } in
    All-map (IsOf (k ∷ living)) (option_entry k) options_by_name one

all_options : (living : List LivingKeyspace) → All (λ k. k.id < 2 ^ 64) living → All (IsOf living) (flat_map option_entries living)
all_options [] low = All-nil (IsOf [])
all_options (k ∷ living) low =
    let Low : LivingKeyspace → Type 0 = λ j. j.id < 2 ^ 64 in
    let others = All-weaker (IsOf living) (IsOf (k ∷ living)) (later k living) (flat_map option_entries living) (all_options living (All-tail Low k living low)) in
    All-append (IsOf (k ∷ living)) (option_entries k) (flat_map option_entries living) (own_options k living (All-head Low k living low)) others

all_names : (living : List LivingKeyspace) → All (λ k. k.id < 2 ^ 64) living → All (IsOf living) (map name_entry living)
all_names living low =
    let one : All (λ k. IsOf living (name_entry k)) living =
    λ i d within. record {
      place = i;
      within = within;
      id = (λ e. id_of_name_key (get_or living i d).id (low i d within) ∙ ap (λ (k : LivingKeyspace). Some k.id) (get_or_default living i d e within));
      number = (λ e. ap (λ (k : LivingKeyspace). k.number) (get_or_default living i d e within));
    } in
    All-map (IsOf living) name_entry living one

all_of : (living : List LivingKeyspace) → All (λ k. k.id < 2 ^ 64) living → All (IsOf living) (entries_of living)
all_of living low = All-append (IsOf living) (flat_map option_entries living) (map name_entry living) (all_options living low) (all_names living low)

one_place : (living : List LivingKeyspace) (i j : ℕ) (d : LivingKeyspace) → AllPairs (λ j k. j.id < k.id) living → i < length living → j < length living → (get_or living i d).id ≡ (get_or living j d).id → i ≡ j
one_place living i j d rise first second same = elim (cases_lt i j) [
  | inl lt ↦ (let below : (get_or living i d).id < (get_or living j d).id = rise i j d lt second in absurd (omega arith))
  | inr ge ↦ elim (cases_lt j i) [
    | inl lt ↦ (let below : (get_or living j d).id < (get_or living i d).id = rise j i d lt first in absurd (omega arith))
    | inr le ↦ omega arith
  ]
]

that_is : (id : ℕ) (found : Option ℕ) (other : ℕ) → is_that id found ≡ true → found ≡ Some other → other ≡ id
that_is id None other h e = absurd cc
that_is id (Some n) other h e = let same : n ≡ id = (Decides-eqb n id).0 h in cc

first_number : (n : ℕ) (own : List MetaEntry) (key value : List ℕ) → value_of key (pairs_of own) ≡ Some value → All (λ e. e.number ≡ n) own → n ≡ number_in own
first_number n [] key value given all = absurd cc
first_number n (e ∷ own) key value given all = sym (All-head (λ (e : MetaEntry). e.number ≡ n) e own all)

own_number : (living : List LivingKeyspace) (entries : List MetaEntry) (i : ℕ) (d : LivingKeyspace) → AllPairs (λ j k. j.id < k.id) living → i < length living → (get_or living i d).id < 2 ^ 64 → All (IsOf living) entries
    → Gives entries (name_entry (get_or living i d)) → (get_or living i d).number ≡ number_in (own_entries (get_or living i d).id entries)
own_number living entries i d rise within bound all given =
    let k : LivingKeyspace = get_or living i d in
    let test : MetaEntry → Bool = λ e. is_that k.id (key_id e.key) in
    let own : List MetaEntry = own_entries k.id entries in
    let those : All (IsOf living) own = All-filter test (IsOf living) entries all in
    let passed : All (λ e. test e ≡ true) own = filter_passes test entries in
    let numbers : All (λ e. e.number ≡ k.number) own =
    λ n e lt. (
    let of = those n e lt in
    let same : (get_or living of.place d).id ≡ (get_or living i d).id = that_is k.id (key_id (get_or own n e).key) (get_or living of.place d).id (passed n e lt) (of.id d) in
    let here : of.place ≡ i = one_place living of.place i d rise of.within within same in
    of.number d ∙ ap (λ (p : ℕ). (get_or living p d).number) here
    ) in
    let there : value_of (name_key k.id) (pairs_of own) ≡ Some k.name = own_value k.id (name_key k.id) entries (id_of_name_key k.id bound) ∙ given in
    first_number k.number own (name_key k.id) k.name there numbers

-- every keyspace is stored
pub all_stored : (s : Keyspaces) → AreKeyspaces s → All (IsStored (entries_of s.living)) s.living
all_stored s are =
    let entries : List MetaEntry = entries_of s.living in
    let low : All (λ k. k.id < 2 ^ 64) s.living = low_ids s are in
    let given : All (Gives entries) entries = all_given entries (from_pairs (λ (a : MetaEntry) (b : MetaEntry). byte_order a.key b.key ≡ Less) entries (entries_ascend s.living are.ascending low)) in
    let names : All (λ k. Gives entries (name_entry k)) s.living = of_each (Gives entries) name_entry s.living (behind (Gives entries) (flat_map option_entries s.living) (map name_entry s.living) given) in
    let options : All (λ k. (o : StoredOption) → Gives entries (option_entry k o)) s.living = of_options (Gives entries) s.living (map name_entry s.living) given in
    λ i d within. record {
      given = keyspace_given (get_or s.living i d) (pairs_of entries) (are.names i d within) (are.options i d within) (names i d within) (options i d within);
      number = own_number s.living entries i d are.ascending within (low i d within) (all_of s.living low) (names i d within);
    }

-- ---- and no others

one_ids : (a b : ℕ) → Some a ≡ Some b → a ≡ b
one_ids a b h = cc

in_rest : {X : Type 0} (x : X) (xs : List X) (y : X) → Contains (x ∷ xs) y → (x ≡ y) ⊎ Contains xs y
in_rest x xs y (zero, lt, e) = inl e
in_rest x xs y (suc i, lt, e) = inr (i, omega arith, e)

abbrev Above : ℕ → List ℕ → Type 0
Above x ys = All (λ y. x < y) ys

above_each : (x : ℕ) (ys : List ℕ) (y : ℕ) → Above x ys → Contains ys y → x < y
above_each x ys y above has = All-contains (λ z. x < z) ys y above has

abbrev Within : List ℕ → List ℕ → Type 0
Within xs ys = (x : ℕ) → Contains xs x → Contains ys x

least : (x y : ℕ) (xs ys : List ℕ) → Above x xs → Above y ys → Contains (y ∷ ys) x → Contains (x ∷ xs) y → x ≡ y
least x y xs ys low below first second = elim (in_rest y ys x first) [
  | inl same ↦ sym same
  | inr later ↦ elim (in_rest x xs y second) [
    | inl same ↦ same
    | inr after ↦ (let up = above_each x xs y low after in let down = above_each y ys x below later in absurd (omega arith))
  ]
]

rest_within : (x y : ℕ) (xs ys : List ℕ) → Above x xs → x ≡ y → Within (x ∷ xs) (y ∷ ys) → Within xs ys
rest_within x y xs ys low same h z has = elim (in_rest y ys z (h z (suc has.0, (let lt = has.1 in omega arith), has.2))) [
  | inl is ↦ (let up = above_each x xs z low has in absurd (omega arith))
  | inr later ↦ later
]

first_of : (x : ℕ) (xs : List ℕ) → Contains (x ∷ xs) x
first_of x xs = (0, omega arith, refl)

-- ascending lists of the same numbers are one
same_members : (xs ys : List ℕ) → Rises (λ a b. a < b) xs → Rises (λ a b. a < b) ys → Within xs ys → Within ys xs → xs ≡ ys
same_members [] [] a b to from = refl
same_members [] (y ∷ ys) a b to from = (let none = from y (first_of y ys) in let lt = none.1 in absurd (omega arith))
same_members (x ∷ xs) [] a b to from = (let none = to x (first_of x xs) in let lt = none.1 in absurd (omega arith))
same_members (x ∷ xs) (y ∷ ys) a b to from =
    let same : x ≡ y = least x y xs ys a.0 b.0 (to x (first_of x xs)) (from y (first_of y ys)) in
    let rest : xs ≡ ys = same_members xs ys a.1 b.1 (rest_within x y xs ys a.0 same to) (rest_within y x ys xs b.0 (sym same) from) in
    rw (same, rest) refl

one_found : {Y : Type 0} (P : Y → Type 0) (o : Option Y) (ys : List Y) → ((y : Y) → o ≡ Some y → P y) → All P ys → All P (cons_option o ys)
one_found P None ys h all = all
one_found P (Some y) ys h all = All-cons P y ys (h y refl) all

all_found : {X Y : Type 0} (P : Y → Type 0) (h : X → Option Y) (xs : List X) → All (λ x. (y : Y) → h x ≡ Some y → P y) xs → All P (filter_map h xs)
all_found P h [] all = All-nil P
all_found P h (x ∷ xs) all =
    one_found P (h x) (filter_map h xs) (All-head (λ z. (y : _) → h z ≡ Some y → P y) x xs all) (all_found P h xs (All-tail (λ z. (y : _) → h z ≡ Some y → P y) x xs all))

abbrev ids_in : List MetaEntry → List ℕ
ids_in entries = filter_map (λ (e : MetaEntry). key_id e.key) entries

abbrev ids : List LivingKeyspace → List ℕ
ids living = map (λ (k : LivingKeyspace). k.id) living

ids_theirs : (living : List LivingKeyspace) → All (λ k. k.id < 2 ^ 64) living → All (Contains (ids living)) (ids_in (entries_of living))
ids_theirs living low =
    let each : All (λ e. (y : ℕ) → key_id e.key ≡ Some y → Contains (ids living) y) (entries_of living) =
    λ i d within. (λ y e. (
    let of = all_of living low i d within in
    let k : LivingKeyspace = record { id = y; number = 0; name = []; options = [] } in
    let lt : of.place < length (ids living) = (let inside = of.within in omega (arith, length-map living (λ (j : LivingKeyspace). j.id))) in
    let same : (get_or living of.place k).id ≡ y = one_ids (get_or living of.place k).id y (sym (of.id k) ∙ e) in
    (of.place, lt, get_or-map (λ (j : LivingKeyspace). j.id) living of.place k y of.within ∙ same)
    )) in
    all_found (Contains (ids living)) (λ (e : MetaEntry). key_id e.key) (entries_of living) each

each_found : {X Y Z : Type 0} (h : Y → Option Z) (f : X → Y) (g : X → Z) (xs : List X) → All (λ x. h (f x) ≡ Some (g x)) xs → filter_map h (map f xs) ≡ map g xs
each_found h f g [] all = refl
each_found h f g (x ∷ xs) all =
    let first : h (f x) ≡ Some (g x) = All-head (λ z. h (f z) ≡ Some (g z)) x xs all in
    rw (first, each_found h f g xs (All-tail (λ z. h (f z) ≡ Some (g z)) x xs all)) refl

ids_named : (living : List LivingKeyspace) → All (λ k. k.id < 2 ^ 64) living → ids_in (map name_entry living) ≡ ids living
ids_named living low = each_found (λ (e : MetaEntry). key_id e.key) name_entry (λ (k : LivingKeyspace). k.id) living (λ i d within. id_of_name_key (get_or living i d).id (low i d within))

pub all_ids : (s : Keyspaces) (found : List ℕ) → AreKeyspaces s → AreIds found (entries_of s.living) → found ≡ map (λ k. k.id) s.living
all_ids s found are those =
    let low = low_ids s are in
    let rise = from_pairs (λ (a : ℕ) (b : ℕ). a < b) found (AllPairs-from_increasing found those.ascending) in
    let theirs = mapped (λ (a : ℕ) (b : ℕ). a < b) (λ (k : LivingKeyspace). k.id) s.living (from_pairs (λ (j : LivingKeyspace) (k : LivingKeyspace). j.id < k.id) s.living are.ascending) in
    let parts : ids_in (entries_of s.living) ≡ ids_in (flat_map option_entries s.living) ++ ids s.living =
    filter_map-append (λ (e : MetaEntry). key_id e.key) (flat_map option_entries s.living) (map name_entry s.living) ∙ ap (λ (ns : List ℕ). ids_in (flat_map option_entries s.living) ++ ns) (ids_named s.living low) in
    let to : Within found (ids s.living) = λ x has. All-contains (Contains (ids s.living)) (ids_in (entries_of s.living)) x (ids_theirs s.living low) ((those.each x).0 has) in
    let from : Within (ids s.living) found =
    λ x has. (those.each x).1 (subst (λ (ns : List ℕ). Contains ns x) (sym parts) (Contains-append_right (ids_in (flat_map option_entries s.living)) (ids s.living) x has)) in
    same_members found (ids s.living) rise theirs to from

ok_same : {A E : Type 0} (x y : A) (r : Result A E) → r ≡ Ok x → r ≡ Ok y → x ≡ y
ok_same x y r a b = cc

one_stored : (entries : List MetaEntry) (j k : LivingKeyspace) → j.id ≡ k.id → IsStored entries j → IsStored entries k → j ≡ k
one_stored entries j k same a b =
    let parts = ok_same (j.name, j.options) (k.name, k.options) (stored_keyspace j.id (pairs_of entries)) a.given (ap (λ (n : ℕ). stored_keyspace n (pairs_of entries)) same ∙ b.given) in
    let numbers : j.number ≡ k.number = a.number ∙ ap (λ (n : ℕ). number_in (own_entries n entries)) same ∙ sym b.number in
    same_parts j.id k.id j.number k.number j.name k.name j.options k.options same numbers (ap (λ (p : List ℕ × List (List ℕ)). p.0) parts) (ap (λ (p : List ℕ × List (List ℕ)). p.1) parts)

-- keyspaces of the same ids, stored by the same entries, are the same
same_stored : (entries : List MetaEntry) (js ks : List LivingKeyspace) → ids js ≡ ids ks → All (IsStored entries) js → All (IsStored entries) ks → js ≡ ks
same_stored entries [] [] same a b = refl
same_stored entries [] (k ∷ ks) same a b = absurd cc
same_stored entries (j ∷ js) [] same a b = absurd cc
same_stored entries (j ∷ js) (k ∷ ks) same a b =
    let first : j.id ≡ k.id = cc in
    let others : ids js ≡ ids ks = cc in
    let head : j ≡ k = one_stored entries j k first (All-head (IsStored entries) j js a) (All-head (IsStored entries) k ks b) in
    let tail : js ≡ ks = same_stored entries js ks others (All-tail (IsStored entries) j js a) (All-tail (IsStored entries) k ks b) in
    rw (head, tail) refl

pub read_again : (s : Keyspaces) (found : List ℕ) (living : List LivingKeyspace) → AreKeyspaces s → AreIds found (entries_of s.living) → map (λ k. k.id) living ≡ found → All (IsStored (entries_of s.living)) living → living ≡ s.living
read_again s found living are those same stored = same_stored (entries_of s.living) living s.living (same ∙ all_ids s found are those) stored (all_stored s are)

no_fault_in : (entries : List MetaEntry) (living : List LivingKeyspace) → All (IsStored entries) living → first_fault (ids living) (pairs_of entries) ≡ None
no_fault_in entries [] all = refl
no_fault_in entries (k ∷ living) all =
    let first = All-head (IsStored entries) k living all in
    rw (first.given, no_fault_in entries living (All-tail (IsStored entries) k living all)) refl

pub no_fault : (s : Keyspaces) (found : List ℕ) → AreKeyspaces s → AreIds found (entries_of s.living) → first_fault found (pairs_of (entries_of s.living)) ≡ None
no_fault s found are those = ap (λ (ns : List ℕ). first_fault ns (pairs_of (entries_of s.living))) (all_ids s found are those) ∙ no_fault_in (entries_of s.living) s.living (all_stored s are)
