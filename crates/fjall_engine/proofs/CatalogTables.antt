-- When a change of the keyspaces writes a table, and that what has no room in it is an option's value.
use Rattle.std.proofs.Common.{◌≡◌, ℕ, zero, suc, ◌+◌, ◌<◌, ◌≤◌, ◌^◌, ◌==◌, ◌⊎◌, inl, inr, true, false, cond, not, nat_le, if◌then◌else◌, List, [], ◌∷◌, ◌++◌, length, map, filter, get_or, All, Any, Option, Some, None, refl, sym, ◌∙◌, ap, subst, arith, length-append}
use Rattle.std.proofs.lemmas.Bool.{true≢false}
use Rattle.std.proofs.lemmas.Bool.Decides.{nat_tests}
use Rattle.std.proofs.lemmas.List.{get_or-map, length-map}
use Rattle.std.proofs.lemmas.List.Elements.{All-head, All-tail}
use Rattle.std.proofs.lemmas.Option.{get_or_from_slice_get}
use Rattle.std.specs.FinMap.{contains_key, get, len, get-retain_keys, nat_cmp-IsAntisymmetric}
use Rattle.std.specs.List.{flat_map}
use Rattle.std.specs.Option.{is_some, option_map}
use Rattle.fjall_base.specs.Pairs.{Bytes}
use Rattle.fjall_base.specs.Store.{Options, Store, kept}
use Rattle.fjall_table.specs.declared.table_info.TableInfo.{TableInfo}
use Rattle.fjall_options.specs.Options.{options_by_name, option_name, place, stored_options, value_at}
use Rattle.fjall_options.specs.declared.options.stored_option.StoredOption.{StoredOption}
use Rattle.fjall_options.proofs.OptionTables.{place_below, placed}
use Rattle.fjall_meta.specs.declared.entry.MetaEntry.{MetaEntry}
use Rattle.fjall_meta.specs.declared.living.LivingKeyspace.{LivingKeyspace}
use Rattle.fjall_meta.specs.Entries.{entries_of, name_entry, option_entries, option_entry}
use Rattle.fjall_meta.specs.Keyspaces.{AreKeyspaces, Keyspaces, is_name, keyspace_at, with_keyspace, without_keyspace}
use Rattle.fjall_meta.proofs.Rising.{Rises, from_pairs}
use Rattle.fjall_manifest.specs.declared.writing.TableFile.{TableFile}
use Rattle.fjall_manifest.specs.Updates.{IsNewTable, IsTooLong}
use Rattle.fjall_manifest.proofs.Pairs.{pairs_some}
use Rattle.fjall_trees.specs.Forests.{Forest}
use Rattle.fjall_meta.specs.Replays.{option_pairs}
use Rattle.fjall_trees.specs.Maps.{store_of}
use Rattle.fjall_meta.proofs.Found.{found_has}
use Rattle.fjall_meta.proofs.Naming.{living_names, settings}
use Rattle.fjall_meta.proofs.Slots.{same_id}
use Rattle.fjall_machine.specs.Machine.{HasLongOption, is_living}
use Rattle.fjall_machine.proofs.Facts.{counted_is}
use Rattle.fjall_base.proofs.Names.{bool_cases}

-- ---- whether a table is written

written : (next after : ℕ) (entries : List MetaEntry) (info : Option TableInfo) (file : Option TableFile) → 0 < length entries → IsNewTable next after entries info file → after ≡ next + 1
written next after entries None None some new = let none = ap length new.0 in absurd (omega (arith, some, none))
written next after entries None (Some file) some new = absurd new
written next after entries (Some t) None some new = absurd new
written next after entries (Some t) (Some file) some new = new.0

unwritten : (next after : ℕ) (entries : List MetaEntry) (info : Option TableInfo) (file : Option TableFile) → length entries ≡ 0 → IsNewTable next after entries info file → after ≡ next
unwritten next after entries None None none new = new.1
unwritten next after entries None (Some file) none new = absurd new
unwritten next after entries (Some t) None none new = absurd new
unwritten next after entries (Some t) (Some file) none new = let some = pairs_some file.bytes.items entries new.1.is.is.table in absurd (omega (arith, some, none))

-- each keyspace has a pair
pairs_of : (living : List LivingKeyspace) → length living ≤ length (entries_of living)
pairs_of living = omega (arith, length-append (flat_map option_entries living) (map name_entry living), length-map living name_entry)

none_of : (living : List LivingKeyspace) → length living ≡ 0 → length (entries_of living) ≡ 0
none_of [] none = refl
none_of (k ∷ living) none = absurd (omega (arith, none))

pub created_table : (next after : ℕ) (info : Option TableInfo) (file : Option TableFile) (s : Keyspaces) (name : List ℕ) (options : List (List ℕ)) (number : ℕ)
    → IsNewTable next after (entries_of (with_keyspace name options number s).living) info file → after ≡ next + 1
created_table next after info file s name options number new =
    let more = with_keyspace name options number s in
    let k : LivingKeyspace = record { id = s.next; number = number; name = name; options = options } in
    written next after (entries_of more.living) info file (omega (arith, pairs_of more.living, length-append s.living (k ∷ []))) new

-- ---- one keyspace less

apart : (a b : ℕ) → a < b → ((a == b) ≡ false) × ((b == a) ≡ false)
apart a b lt = (grind (arith, nat_tests), grind (arith, nat_tests))

-- none of them has this id
all_stay : (living : List LivingKeyspace) (id : ℕ) → All (λ k. id < k.id) living → length (filter (λ k. not (k.id == id)) living) ≡ length living
all_stay [] id above = refl
all_stay (k ∷ living) id above =
    let Above : LivingKeyspace → Type 0 = λ j. id < j.id in
    rw (apart id k.id (All-head Above k living above)).1 (ap suc (all_stay living id (All-tail Above k living above)))

-- one has it
one_goes : (living : List LivingKeyspace) (id : ℕ) → Rises (λ j k. j.id < k.id) living → is_some (keyspace_at id living) ≡ true → suc (length (filter (λ k. not (k.id == id)) living)) ≡ length living
one_goes [] id rise lives = absurd (true≢false (sym lives))
one_goes (k ∷ living) id rise lives = elim (bool_cases (k.id == id)) [
  | inl is ↦ rw is (ap suc (all_stay living id (subst (λ i. All (λ j. i < j.id) living) (same_id k.id id is) rise.0)))
  | inr other ↦ rw other (ap suc (one_goes living id rise.1 (rw other at lives)))
]

pub deleted_table : (s : Keyspaces) → AreKeyspaces s → (trees : Forest) (id : ℕ) → is_living (store_of s trees) id ≡ true
    → (next after : ℕ) (info : Option TableInfo) (file : Option TableFile) → IsNewTable next after (entries_of (without_keyspace id s).living) info file
    → after ≡ (if nat_le 2 (len (store_of s trees).names) then next + 1 else next)
deleted_table s all trees id lives next after info file new = elim (bool_cases (nat_le 2 (len (store_of s trees).names))) [
  | inl many ↦ rw many (written next after (entries_of left) info file (let some : 2 ≤ length s.living = grind (arith, nat_tests, count, many) in omega (arith, pairs_of left, gone, some)) new)
  | inr few ↦ rw few (unwritten next after (entries_of left) info file (none_of left (let one : length s.living < 2 = grind (arith, nat_tests, count, few) in omega (arith, gone, one))) new)
]
  where
    left : List LivingKeyspace
    left = (without_keyspace id s).living

    count : len (store_of s trees).names ≡ length s.living
    count = counted_is s all trees

    gone : suc (length left) ≡ length s.living
    gone = one_goes s.living id (from_pairs (λ (j : LivingKeyspace) (k : LivingKeyspace). j.id < k.id) s.living all.ascending) (sym (living_names s [] id) ∙ lives)

-- where pairs are left, more than one keyspace lived
pub some_left : (s : Keyspaces) → AreKeyspaces s → (trees : Forest) (id : ℕ) → is_living (store_of s trees) id ≡ true → 0 < length (entries_of (without_keyspace id s).living) → nat_le 2 (len (store_of s trees).names) ≡ true
some_left s all trees id lives some = elim (bool_cases (nat_le 2 (len (store_of s trees).names))) [
  | inl many ↦ many
  | inr few ↦
      let none = none_of left (let one : length s.living < 2 = grind (arith, nat_tests, count, few) in omega (arith, gone, one)) in
      absurd (let bad : ⊥ = omega (arith, none, some) in bad)
]
  where
    left : List LivingKeyspace
    left = (without_keyspace id s).living

    count : len (store_of s trees).names ≡ length s.living
    count = counted_is s all trees

    gone : suc (length left) ≡ length s.living
    gone = one_goes s.living id (from_pairs (λ (j : LivingKeyspace) (k : LivingKeyspace). j.id < k.id) s.living all.ascending) (sym (living_names s [] id) ∙ lives)

-- ---- what has no room in a table

-- one more in front
later : {X : Type 0} (P : X → Type 0) (y : X) (xs : List X) → Any P xs → Any P (y ∷ xs)
later P y xs any = (suc any.0, any.1, omega (arith, any.2), any.3, any.4)

in_append : {X : Type 0} (P : X → Type 0) (xs ys : List X) (k : ℕ) (x : X) → k < length (xs ++ ys) → get_or (xs ++ ys) k x ≡ x → P x → Any P xs ⊎ Any P ys
in_append P [] ys k x lt is p = inr (k, x, lt, is, p)
in_append P (y ∷ xs) ys zero x lt is p = inl (0, x, omega arith, is, p)
in_append P (y ∷ xs) ys (suc k) x lt is p = elim (in_append P xs ys k x (omega (arith, lt)) is p) [
  | inl any ↦ inl (later P y xs any)
  | inr any ↦ inr any
]

in_map : {X Y : Type 0} (P : Y → Type 0) (f : X → Y) (xs : List X) (k : ℕ) (y : Y) → k < length (map f xs) → get_or (map f xs) k y ≡ y → P y → Any (λ x. P (f x)) xs
in_map P f [] k y lt is p = absurd (omega (arith, lt))
in_map P f (x ∷ xs) zero y lt is p = (0, x, omega arith, refl, subst P (sym is) p)
in_map P f (x ∷ xs) (suc k) y lt is p = later (λ z. P (f z)) x xs (in_map P f xs k y (omega (arith, lt)) is p)

in_flat_map : {X Y : Type 0} (P : Y → Type 0) (f : X → List Y) (xs : List X) (k : ℕ) (y : Y) → k < length (flat_map f xs) → get_or (flat_map f xs) k y ≡ y → P y → Any (λ x. Any P (f x)) xs
in_flat_map P f [] k y lt is p = absurd (omega (arith, lt))
in_flat_map P f (x ∷ xs) k y lt is p = elim (in_append P (f x) (flat_map f xs) k y lt is p) [
  | inl any ↦ (0, x, omega arith, refl, any)
  | inr any ↦ later (λ z. Any P (f z)) x xs (in_flat_map P f xs any.0 any.1 any.2 any.3 any.4)
]

itself : (id : ℕ) → (id == id) ≡ true
itself id = grind (arith, nat_tests)

-- a keyspace that has this is found by its id
found_with : (P : LivingKeyspace → Type 0) (living : List LivingKeyspace) → Rises (λ j k. j.id < k.id) living → (i : ℕ) (k : LivingKeyspace) → i < length living → get_or living i k ≡ k → P k
    → (j : LivingKeyspace) × (keyspace_at j.id living ≡ Some j) × P j
found_with P [] rise i k lt is p = absurd (omega (arith, lt))
found_with P (j ∷ living) rise zero k lt is p = (j, rw (itself j.id) refl, subst P (sym is) p)
found_with P (j ∷ living) rise (suc i) k lt is p =
    let found = found_with P living rise.1 i k (omega (arith, lt)) is p in
    let above : j.id < found.0.id = found_has (λ l. l.id == found.0.id) (λ l. j.id < l.id) living found.0 found.1 rise.0 in
    (found.0, rw (apart j.id found.0.id above).0 found.1, found.2)

-- names are short
short_name : (name : List ℕ) → is_name name ≡ true → 2 ^ 32 ≤ length name → ⊥
short_name name is long = grind (arith, nat_tests)

no_long_name : (living : List LivingKeyspace) → All (λ k. is_name k.name ≡ true) living → Any IsTooLong (map name_entry living) → ⊥
no_long_name living names any =
    let long = in_map IsTooLong name_entry living any.0 any.1 any.2 any.3 any.4 in
    let k = long.1 in
    short_name k.name (ap (λ (j : LivingKeyspace). is_name j.name) (sym long.3) ∙ names long.0 k long.2) long.4

option_at : (option : StoredOption) → get_or stored_options (place option) option ≡ option
option_at option = get_or_from_slice_get stored_options (place option) option option (placed option)

long_pair : (k : LivingKeyspace) → Any IsTooLong (option_entries k) → Any (λ pair. 2 ^ 32 ≤ length pair.1) (option_pairs k.options)
unfolding option_entries option_pairs
long_pair k any =
    let long = in_map IsTooLong (option_entry k) options_by_name any.0 any.1 any.2 any.3 any.4 in
    let option = long.1 in
    let pair : StoredOption → Bytes × Bytes = λ o. (option_name o, value_at o k.options) in
    (place option, pair option, place_below option, get_or-map pair stored_options (place option) option (pair option) (place_below option) ∙ ap pair (option_at option), long.4)

-- the settings of a living keyspace are kept
still_there : (store : Store) (id : ℕ) (options : Options) → contains_key store.names id ≡ true → get store.options id ≡ Some options → get (kept store).options id ≡ Some options
still_there store id options lives there =
    get-retain_keys store.options (contains_key store.names) id (λ x e. ap (contains_key store.names) (sym (nat_cmp-IsAntisymmetric id x e)))
    ∙ ap (λ b. cond b (get store.options id) None) lives ∙ there

pub long_option : (s : Keyspaces) → AreKeyspaces s → (trees : Forest) → Any IsTooLong (entries_of s.living) → HasLongOption (kept (store_of s trees))
long_option s all trees any = elim (in_append IsTooLong (flat_map option_entries s.living) (map name_entry s.living) any.0 any.1 any.2 any.3 any.4) [
  | inl options ↦
      let with_long = in_flat_map IsTooLong option_entries s.living options.0 options.1 options.2 options.3 options.4 in
      let rise = from_pairs (λ (j : LivingKeyspace) (k : LivingKeyspace). j.id < k.id) s.living all.ascending in
      let found = found_with (λ k. Any IsTooLong (option_entries k)) s.living rise with_long.0 with_long.1 with_long.2 with_long.3 with_long.4 in
      let k = found.0 in
      let lives : contains_key store.names k.id ≡ true = living_names s [] k.id ∙ ap is_some found.1 in
      let there : get store.options k.id ≡ Some (option_pairs k.options) = settings s [] k.id ∙ ap (option_map (λ (j : LivingKeyspace). option_pairs j.options)) found.1 in
      (k.id, option_pairs k.options, still_there store k.id (option_pairs k.options) lives there, long_pair k found.2)
  | inr names ↦ absurd (no_long_name s.living all.names names)
]
  where
    store : Store
    store = store_of s trees
