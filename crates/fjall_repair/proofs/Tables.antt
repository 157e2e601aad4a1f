-- The tables that lists tell.
use Rattle.std.proofs.Common.{◌≡◌, ◌≢◌, ◌⊎◌, inl, inr, ⊎_elim, ℕ, ◌+◌, ◌<◌, ◌^◌, ◌==◌, Bool, true, false, not, cond, List, [], ◌∷◌, ◌++◌, map, filter, length, take, drop, get_or, All, Any, Result, Ok, Err, refl, sym, ◌∙◌, ap, subst, take-append-drop}
use Rattle.std.specs.Prelude.{IfOk, String, Vec, string_bytes}
use Rattle.std.specs.List.{Contains, list_any}
use Rattle.std.proofs.lemmas.List.{append-nil, map-append, length-map}
use Rattle.std.proofs.Math.ListN as ListN
use Rattle.std.proofs.lemmas.List.Elements.{All-contains, All-contains_itself, All-filter, All-map, Contains-append_left, Contains-push, filter-append, filter_more, filter_passes}
use Rattle.std.specs.declared.alloc.Global.{Global}
use Rattle.fjall_base.specs.declared.error.Error.{Error}
use Rattle.fjall_base.specs.declared.disk.DirEntry.{DirEntry}
use Rattle.fjall_base.specs.Disk.{Name, Missing, DiskState, Lists}
use Rattle.fjall_base.proofs.Names.{bool_cases}
use Rattle.fjall_files.specs.Names.{keyspace_folder, table_name}
use Rattle.fjall_files.specs.Lists.{AreIds, IsTableIn}
use Rattle.fjall_table.specs.declared.table_info.TableInfo.{TableInfo}
use Rattle.fjall_repair.specs.Listing.{AreTables, as_file, is_other, other_tables}
use Rattle.fjall_repair.proofs.Apart as Apart
use Rattle.fjall_repair.proofs.Items.{contained_if, contains_map, if_contained}

-- ---- ids but those that are named

abbrev ids_of : List TableInfo → List ℕ
ids_of tables = map (λ table. table.id) tables

other_not : (named : List TableInfo) (n : ℕ) → is_other named n ≡ true → Contains (ids_of named) n → ⊥
other_not named n is has =
    let no : false ≡ true = sym (ap not (if_contained (λ table. table.id) named n has)) ∙ is in cc

other_cases : (named : List TableInfo) (n : ℕ) → (is_other named n ≡ true) ⊎ Contains (ids_of named) n
other_cases named n = elim (bool_cases (list_any (λ table. table.id == n) named)) [
  | inl at ↦ inr (contained_if (λ table. table.id) named n at)
  | inr differ ↦ inl (ap not differ)
]

more_tables : (id : ℕ) (named : List TableInfo) (ids : List ℕ) (i d : ℕ) → i < length ids
    → other_tables id named (take (i + 1) ids) ≡ other_tables id named (take i ids) ++ map (table_name id) (cond (is_other named (get_or ids i d)) (get_or ids i d ∷ []) [])
more_tables id named ids i d lt =
    ap (λ (l : List ℕ). map (table_name id) l) (filter_more (is_other named) ids i d lt) ∙ map-append (table_name id) (filter (is_other named) (take i ids)) (cond (is_other named (get_or ids i d)) (get_or ids i d ∷ []) [])

module _ (id : ℕ) (named : List TableInfo) (ids : List ℕ) (i d : ℕ) (lt : i < length ids) where
  -- one more that isn't named
  pub one_other : (names new : List Name) (name : Name) → names ≡ other_tables id named (take i ids) → new ≡ names ++ name ∷ [] → name ≡ table_name id (get_or ids i d) → list_any (λ table. table.id == get_or ids i d) named ≡ false
      → new ≡ other_tables id named (take (i + 1) ids)
  one_other names new name so_far is at other =
      is ∙ ap (λ (l : List Name). l ++ name ∷ []) so_far ∙ ap (λ (n : Name). other_tables id named (take i ids) ++ n ∷ []) at
      ∙ sym (more_tables id named ids i d lt ∙ ap (λ (b : Bool). other_tables id named (take i ids) ++ map (table_name id) (cond (not b) (get_or ids i d ∷ []) [])) other)

  -- one that is
  pub the_named : (names : List Name) → names ≡ other_tables id named (take i ids) → list_any (λ table. table.id == get_or ids i d) named ≡ true → names ≡ other_tables id named (take (i + 1) ids)
  the_named names so_far same =
      so_far ∙ sym (append-nil (other_tables id named (take i ids)))
      ∙ sym (more_tables id named ids i d lt ∙ ap (λ (b : Bool). other_tables id named (take i ids) ++ map (table_name id) (cond (not b) (get_or ids i d ∷ []) [])) same)

-- ---- lists

any_map : {A B : Type 0} (P : B → Type 0) (f : A → B) (xs : List A) → Any (λ x. P (f x)) xs → Any P (map f xs)
any_map P f xs (k, x, lt, at, is) = (k, f x, subst (λ n. k < n) (sym (length-map xs f)) lt, ListN.get_or-map f xs k x ∙ ap (λ y. f y) at, is)

-- an element that passes is kept
contains_filter : {A : Type 0} (p : A → Bool) (xs : List A) (x : A) → Contains xs x → p x ≡ true → Contains (filter p xs) x
contains_filter p xs x (k, lt, at) passes =
    let front : filter p (take (k + 1) xs) ≡ filter p (take k xs) ++ x ∷ [] = filter_more p xs k x lt ∙ ap (λ y. filter p (take k xs) ++ cond (p y) (y ∷ []) []) at ∙ ap (λ (b : Bool). filter p (take k xs) ++ cond b (x ∷ []) []) passes in
    let parts : filter p xs ≡ filter p (take (k + 1) xs) ++ filter p (drop (k + 1) xs) = ap (λ l. filter p l) (sym (take-append-drop (k + 1) xs)) ∙ filter-append p (take (k + 1) xs) (drop (k + 1) xs) in
    subst (λ l. Contains l x) (sym parts) (Contains-append_left (filter p (take (k + 1) xs)) (filter p (drop (k + 1) xs)) x (subst (λ l. Contains l x) (sym front) (Contains-push (filter p (take k xs)) x)))

-- ---- what a folder's list tells of tables

module _ (state : DiskState) (id : ℕ) (listed files : List DirEntry) (lists : Lists state (keyspace_folder id) listed) (files_are : files ≡ map as_file listed) (ids : List ℕ) (are : AreIds (IsTableIn (keyspace_folder id)) files ids) where
  small : All (λ n. n < 2 ^ 64) ids
  small k d lt = let (i, entry, less, at, is) = (are.each (get_or ids k d)).0 (All-contains_itself ids k d lt) in is.1.0

  -- the id of a table that stands there
  listed_id : (n : ℕ) → n < 2 ^ 64 → (state (table_name id n)).now ≢ Missing → Contains ids n
  listed_id n fits some =
      let (k, entry, lt, at, name_is) = lists.whole (table_name id n) (Apart.in_folder id n fits) some in
      let told : Any (λ e. IsTableIn (keyspace_folder id) (as_file e) n) listed = (k, entry, lt, at, (refl, (fits, name_is))) in
      (are.each n).1 (subst (Any (λ e. IsTableIn (keyspace_folder id) e n)) (sym files_are) (any_map (λ e. IsTableIn (keyspace_folder id) e n) as_file listed told))

  pub are_tables : (named : List TableInfo) (names : List Name) → names ≡ other_tables id named ids → AreTables state id named names
  are_tables named names is = subst (AreTables state id named) (sym is) (record {
    each = λ name has. All-contains (λ m. (n : ℕ) × (n < 2 ^ 64) × (m ≡ table_name id n) × (Contains (ids_of named) n → ⊥)) (other_tables id named ids) name
        (All-map (λ m. (n : ℕ) × (n < 2 ^ 64) × (m ≡ table_name id n) × (Contains (ids_of named) n → ⊥)) (table_name id) (filter (is_other named) ids)
        (λ k d lt. (get_or (filter (is_other named) ids) k d, All-filter (is_other named) (λ n. n < 2 ^ 64) ids small k d lt, refl, other_not named (get_or (filter (is_other named) ids) k d) (filter_passes (is_other named) ids k d lt)))) has;
    whole = λ n fits some. ⊎_elim
        (λ other. inr (contains_map (table_name id) (filter (is_other named) ids) n (contains_filter (is_other named) ids n (listed_id n fits some) other)))
        (λ same. inl same) (other_cases named n);
  })

pub tables_ok : (state : DiskState) (id : ℕ) (named : List TableInfo) (listed files : List DirEntry) (ids : List ℕ) (folder : Name) (result : Result (Vec (String Global) Global) Error) → Lists state folder listed → folder ≡ keyspace_folder id
    → files ≡ map as_file listed → AreIds (IsTableIn (keyspace_folder id)) files ids
    → IfOk result (λ names. map string_bytes names.items ≡ other_tables id named ids) → IfOk result (λ names. AreTables state id named (map string_bytes names.items))
tables_ok state id named listed files ids folder (Ok names) lists at files_are are is =
    are_tables state id listed files (subst (λ (f : Name). Lists state f listed) at lists) files_are ids are named (map string_bytes names.items) is
tables_ok state id named listed files ids folder (Err e) lists at files_are are is = tt
