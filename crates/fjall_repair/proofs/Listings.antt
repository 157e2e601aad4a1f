-- What is found of folders, one after another.
use Rattle.std.proofs.Common.{◌≡◌, ◌⊎◌, inl, inr, ⊎_elim, ℕ, ◌+◌, ◌-◌, ◌<◌, ◌≤◌, ◌^◌, ◌==◌, Bool, true, false, if◌then◌else◌, List, [], ◌∷◌, ◌++◌, map, find, length, take, get_or, All, AllPairs, Any, Option, Some, unwrap_or, sym, ◌∙◌, ap, subst, add-one, arith, length-append}
use Rattle.std.specs.Prelude.{IsTrue, String, string_bytes, ◌↔◌}
use Rattle.std.specs.List.{Contains, list_any}
use Rattle.std.specs.Option.{option_map}
use Rattle.std.proofs.lemmas.List.Kept.{AllPairs-from_increasing}
use Rattle.std.proofs.lemmas.Bool.Decides.{nat_tests}
use Rattle.std.proofs.lemmas.List.{map-append, map_more, length-map, get_or-map, take_all}
use Rattle.std.proofs.lemmas.List.Elements.{All-append, All-contains, All-map, All-push, Contains-append_left, Contains-append_right, Contains-get_or, Contains-push_cases}
use Rattle.std.proofs.Math.Seq.{get_or-append_right, take-suc}
use Rattle.std.specs.declared.alloc.Global.{Global}
use Rattle.fjall_base.specs.Disk.{Name, DiskState}
use Rattle.fjall_base.proofs.Lists.{Any-more}
use Rattle.fjall_files.specs.Names.{table_name}
use Rattle.fjall_manifest.specs.declared.reading.LoadedHome.{LoadedHome}
use Rattle.fjall_table.specs.declared.table_info.TableInfo.{TableInfo}
use Rattle.fjall_manifest.specs.Records as records
use Rattle.fjall_meta.specs.declared.living.LivingKeyspace.{LivingKeyspace}
use Rattle.fjall_files.specs.declared.own.OwnFiles.{OwnFiles}
use Rattle.fjall_repair.specs.Listing.{AreTables}
use Rattle.fjall_files.specs.Own.{AreOwnFiles, HoldsOnlyOwn}
use Rattle.fjall_repair.specs.Sweeps.{AreHomesOf, FindsHomes, FindsTables, FindsTablesAt, FindsTablesOf, IsUnnamedHome, IsUnnamedTable, KeyspaceLives, TablesNamed, names_of, tables_at}
use Rattle.fjall_files.proofs.OwnEntries.{contains_map}
use Rattle.fjall_repair.proofs.Items.{contained_if, found_at, if_contained}

abbrev Text : Type 0
Text = String Global

-- ---- tables

all_unmap : (P : Name → Type 0) (texts : List Text) → All P (map string_bytes texts) → All (λ text. P (string_bytes text)) texts
all_unmap P texts all k d lt =
    subst P (get_or-map string_bytes texts k d (string_bytes d) lt) (all k (string_bytes d) (subst (λ n. k < n) (sym (length-map texts string_bytes)) lt))

-- what is found in one folder is unnamed
pub unnamed_tables : (state : DiskState) (id : ℕ) (named : List TableInfo) (names : TablesNamed) (living : List LivingKeyspace) (texts : List Text) → id < 2 ^ 64 → (id ≡ 0) ⊎ KeyspaceLives living id → names id ≡ map (λ table. table.id) named
    → AreTables state id named (map string_bytes texts) → All (λ text. IsUnnamedTable names living (string_bytes text)) texts
unnamed_tables state id named names living texts fits counts at found = all_unmap (IsUnnamedTable names living) texts (λ k d lt.
    let one = found.each (get_or (map string_bytes texts) k d) (Contains-get_or (map string_bytes texts) k d lt) in
    record { id = id; table = one.0; id_fits = fits; table_fits = one.1; name_is = one.2; counts = counts; unnamed = λ has. one.3 (subst (λ (l : List ℕ). Contains l one.0) at has) })

-- each table in the folders of these homes is named, or is in this list
abbrev pub FindsTablesIn : DiskState → TablesNamed → List LoadedHome → List Name → Type 0
FindsTablesIn state names homes list = (id : ℕ) → Contains (map (λ h. h.id) homes) id → FindsTablesAt state names list id

pub finds_none : (state : DiskState) (names : TablesNamed) (list : List Name) → FindsTablesIn state names [] list
finds_none state names list id has = absurd (omega (arith, has.1))

-- a longer list has them too
finds_more : (state : DiskState) (names : TablesNamed) (list more : List Name) (id : ℕ) → FindsTablesAt state names list id → FindsTablesAt state names (list ++ more) id
finds_more state names list more id finds n small some = ⊎_elim (λ is. inl is) (λ has. inr (Contains-append_left list more (table_name id n) has)) (finds n small some)

module _ (living : List LivingKeyspace) (homes : List LoadedHome) (tree : List TableInfo) (i : ℕ) (d home : LoadedHome) (at : home ≡ get_or homes i d) (lt : i < length homes) where
  -- a home among one more
  id_cases : (id : ℕ) → Contains (map (λ (h : LoadedHome). h.id) (take (i + 1) homes)) id → Contains (map (λ (h : LoadedHome). h.id) (take i homes)) id ⊎ (home.id ≡ id)
  id_cases id has =
      let more = Contains-push_cases (map (λ (h : LoadedHome). h.id) (take i homes)) (get_or homes i d).id id
      (subst (λ (l : List ℕ). Contains l id) (map_more (λ (h : LoadedHome). h.id) homes i d lt) has) in
      ⊎_elim (λ before. inl before) (λ same. inr (ap (λ (h : LoadedHome). h.id) at ∙ same)) more

  module _ (are : AreHomesOf living homes) where
    pub home_lives : KeyspaceLives living home.id
    home_lives = subst (λ (l : List ℕ). Contains l home.id) are.same (subst (λ (h : LoadedHome). Contains (map (λ (h : LoadedHome). h.id) homes) h.id) (sym at) (contains_map (λ (h : LoadedHome). h.id) homes i d lt))

    -- what its record names
    pub home_names : names_of tree homes home.id ≡ map (λ table. table.id) home.record.tables.items
    home_names =
        let some : 0 < home.id = All-contains (λ n. 0 < n) (map (λ (k : LivingKeyspace). k.id) living) home.id (All-map (λ n. 0 < n) (λ (k : LivingKeyspace). k.id) living are.some) home_lives in
        let test : (home.id == 0) ≡ false = grind (arith, nat_tests) in
        let rise : AllPairs (λ x y. x < y) (map (λ (h : LoadedHome). h.id) homes) = subst (AllPairs (λ x y. x < y)) (sym are.same) (AllPairs-from_increasing (map (λ (k : LivingKeyspace). k.id) living) are.ascending) in
        let found : find (λ h. h.id == home.id) homes ≡ Some home =
        subst (λ (h : LoadedHome). find (λ x. x.id == h.id) homes ≡ Some h) (sym at) (found_at (λ (h : LoadedHome). h.id) homes i d rise lt) in
        ap (λ (b : Bool). map (λ (t : TableInfo). t.id) (if b then tree else tables_at home.id homes)) test
        ∙ ap (λ (h : Option LoadedHome). map (λ (t : TableInfo). t.id) (unwrap_or (option_map (λ (x : LoadedHome). (records.view x.record).tables) h) [])) found

  module _ (state now : DiskState) (same : now ≡ state) (named : List TableInfo) (texts more new : List Text) (fits : home.id < 2 ^ 64) (named_is : named ≡ home.record.tables.items) (found : AreTables now home.id named (map string_bytes more)) (new_is : new ≡ texts ++ more) where
    names : map string_bytes new ≡ map string_bytes texts ++ map string_bytes more
    names = ap (λ l. map string_bytes l) new_is ∙ map-append string_bytes texts more

    here : AreTables state home.id home.record.tables.items (map string_bytes more)
    here = subst (λ (l : List TableInfo). AreTables state home.id l (map string_bytes more)) named_is (subst (λ (s : DiskState). AreTables s home.id named (map string_bytes more)) same found)

    pub more_unnamed : AreHomesOf living homes → All (λ text. IsUnnamedTable (names_of tree homes) living (string_bytes text)) texts → All (λ text. IsUnnamedTable (names_of tree homes) living (string_bytes text)) new
    more_unnamed are so_far =
        subst (All (λ text. IsUnnamedTable (names_of tree homes) living (string_bytes text))) (sym new_is) (All-append (λ text. IsUnnamedTable (names_of tree homes) living (string_bytes text)) texts more so_far
        (unnamed_tables state home.id home.record.tables.items (names_of tree homes) living more fits (inr (home_lives are)) (home_names are) here))

    pub more_found : FindsTables state (names_of tree homes) (map string_bytes texts) → FindsTables state (names_of tree homes) (map string_bytes new)
    more_found so_far = subst (λ (l : List Name). FindsTables state (names_of tree homes) l) (sym names) (finds_more state (names_of tree homes) (map string_bytes texts) (map string_bytes more) 0 so_far)

    pub more_of : AreHomesOf living homes → FindsTablesIn state (names_of tree homes) (take i homes) (map string_bytes texts) → FindsTablesIn state (names_of tree homes) (take (i + 1) homes) (map string_bytes new)
    more_of are so_far id has = subst (λ (l : List Name). FindsTablesAt state (names_of tree homes) l id) (sym names) (⊎_elim
        (λ before. finds_more state (names_of tree homes) (map string_bytes texts) (map string_bytes more) id (so_far id before))
        (λ (is : home.id ≡ id). subst (λ (m : ℕ). FindsTablesAt state (names_of tree homes) (map string_bytes texts ++ map string_bytes more) m) is last) (id_cases id has))
      where
        last : FindsTablesAt state (names_of tree homes) (map string_bytes texts ++ map string_bytes more) home.id
        last n small some = ⊎_elim
            (λ named. inl (subst (λ (l : List ℕ). Contains l n) (sym (home_names are)) named))
            (λ has. inr (Contains-append_right (map string_bytes texts) (map string_bytes more) (table_name home.id n) has)) (here.whole n small some)

pub finds_all : (state : DiskState) (names : TablesNamed) (living : List LivingKeyspace) (homes : List LoadedHome) (i : ℕ) (list : List Name) → AreHomesOf living homes → length homes ≤ i → FindsTablesIn state names (take i homes) list → FindsTablesOf state names living list
finds_all state names living homes i list are le found id lives =
    subst (λ (l : List LoadedHome). FindsTablesIn state names l list) (take_all i homes le) found id (subst (λ (l : List ℕ). Contains l id) (sym are.same) lives)

-- ---- what lives

pub lives_if : (living : List LivingKeyspace) (id : ℕ) → list_any (λ k. k.id == id) living ≡ true → KeyspaceLives living id
lives_if living id is = contained_if (λ k. k.id) living id is

pub if_lives : (living : List LivingKeyspace) (id : ℕ) → KeyspaceLives living id → list_any (λ k. k.id == id) living ≡ true
if_lives living id lives = if_contained (λ k. k.id) living id lives

pub is_named : (living : List LivingKeyspace) (id : ℕ) (result : Bool) → (id ≡ 0 → ⊥) → result ≡ list_any (λ k. k.id == id) living → IsTrue result ↔ ((id ≡ 0) ⊎ KeyspaceLives living id)
is_named living id result some is = (
  (λ yes_it. inr (lives_if living id (sym is ∙ yes_it))),
  (λ either. ⊎_elim (λ none. absurd (some none)) (λ lives. is ∙ if_lives living id lives) either),
)

-- ---- homes

any_last : {X : Type 0} (P : X → Type 0) (xs : List X) (x : X) → P x → Any P (xs ++ x ∷ [])
any_last P xs x is =
    let place = length-append xs (x ∷ []) in
    (length xs, x, omega (arith, place), get_or-append_right xs (x ∷ []) (length xs) x (omega arith) ∙ ap (λ i. get_or (x ∷ []) i x) (let none : length xs - length xs ≡ 0 = omega arith in none), is)

module _ (state now : DiskState) (same : now ≡ state) (living : List LivingKeyspace) (ids : List ℕ) (i d id : ℕ) (at : id ≡ get_or ids i d) (lt : i < length ids) where
  some_cases : (x : ℕ) → Contains (take (i + 1) ids) x → Contains (take i ids) x ⊎ (id ≡ x)
  some_cases x has =
      let split : take (i + 1) ids ≡ take i ids ++ id ∷ [] = rw add-one (take-suc ids i d lt ∙ ap (λ (y : ℕ). take i ids ++ y ∷ []) (sym at)) in
      Contains-push_cases (take i ids) id x (subst (λ (l : List ℕ). Contains l x) split has)

  -- a folder that is named
  pub named_passed : (homes : List OwnFiles) → (id ≡ 0) ⊎ KeyspaceLives living id → FindsHomes state living (take i ids) homes → FindsHomes state living (take (i + 1) ids) homes
  named_passed homes named so_far x has some dead holds = ⊎_elim (λ before. so_far x before some dead holds)
      (λ is. ⊎_elim (λ none. absurd (some (sym is ∙ none))) (λ lives. absurd (dead (subst (KeyspaceLives living) is lives))) named) (some_cases x has)

  -- a folder that holds something else
  pub foreign_passed : (homes : List OwnFiles) → (HoldsOnlyOwn now id → ⊥) → FindsHomes state living (take i ids) homes → FindsHomes state living (take (i + 1) ids) homes
  foreign_passed homes foreign so_far x has some dead holds = ⊎_elim (λ before. so_far x before some dead holds)
      (λ is. absurd (foreign (subst (λ (s : DiskState). HoldsOnlyOwn s id) (sym same) (subst (λ (n : ℕ). HoldsOnlyOwn state n) (sym is) holds)))) (some_cases x has)

  module _ (homes new : List OwnFiles) (home : OwnFiles) (new_is : new ≡ homes ++ home ∷ []) (unnamed : (id ≡ 0) ⊎ KeyspaceLives living id → ⊥) where
    pub home_found : AreOwnFiles now id home → FindsHomes state living (take i ids) homes → FindsHomes state living (take (i + 1) ids) new
    home_found found so_far x has some dead holds = subst (Any (AreOwnFiles state x)) (sym new_is) (⊎_elim (λ before. Any-more (AreOwnFiles state x) homes (home ∷ []) (so_far x before some dead holds))
        (λ is. any_last (AreOwnFiles state x) homes home (subst (λ (s : DiskState). AreOwnFiles s x home) same (subst (λ (n : ℕ). AreOwnFiles now n home) is found))) (some_cases x has))

    pub home_unnamed : id < 2 ^ 64 → AreOwnFiles now id home → All (IsUnnamedHome living) homes → All (IsUnnamedHome living) new
    home_unnamed fits found so_far = subst (All (IsUnnamedHome living)) (sym new_is) (All-push (IsUnnamedHome living) homes home so_far (record {
      id = id;
      fits = fits;
      some = λ none. unnamed (inl none);
      dead = λ lives. unnamed (inr lives);
      folder_is = found.folder_is;
      inside = found.inside;
      own = found.named;
    }))

pub homes_all : (state : DiskState) (living : List LivingKeyspace) (ids : List ℕ) (i : ℕ) (homes : List OwnFiles) → length ids ≤ i → FindsHomes state living (take i ids) homes → FindsHomes state living ids homes
homes_all state living ids i homes le found = subst (λ (l : List ℕ). FindsHomes state living l homes) (take_all i ids le) found
