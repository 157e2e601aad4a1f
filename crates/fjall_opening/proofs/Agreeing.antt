-- The tables that last records name: as they were read, and as the folder holds them.
use Rattle.std.proofs.Common.{◌≡◌, ◌⊎◌, inl, inr, zero, suc, ℕ, ◌+◌, ◌<◌, ◌==◌, Bool, true, false, cond, if◌then◌else◌, List, [], ◌∷◌, map, find, length, get_or, AllPairs, Option, None, Some, unwrap_or, refl, sym, ◌∙◌, ap, subst, arith}
use Rattle.std.specs.List.{Contains}
use Rattle.std.specs.List.Sorted.{IsStrictlyIncreasing}
use Rattle.std.specs.FinMap.{get}
use Rattle.std.specs.Option.{option_map}
use Rattle.std.proofs.lemmas.Bool.Decides.{nat_tests}
use Rattle.std.proofs.lemmas.List.{get_or-map, length-map}
use Rattle.std.proofs.lemmas.List.Elements.{All-contains, All-map, All-nil}
use Rattle.fjall_base.specs.Disk.{Image}
use Rattle.fjall_base.proofs.Names.{bool_cases}
use Rattle.fjall_table.specs.declared.table_info.TableInfo.{TableInfo}
use Rattle.fjall_manifest.specs.Records.{Fields, view}
use Rattle.fjall_manifest.specs.declared.reading.LoadedHome.{LoadedHome}
use Rattle.fjall_meta.specs.declared.living.LivingKeyspace.{LivingKeyspace}
use Rattle.fjall_manifest.specs.declared.catalog.Catalog.{Catalog}
use Rattle.fjall_manifest.specs.Catalog.{listed}
use Rattle.fjall_recovery.specs.declared.folder.RecoveredFolder.{RecoveredFolder}
use Rattle.fjall_recovery.specs.Folders.{Contents, IsFinished, ShowsContents}
use Rattle.fjall_recovery.specs.Homes.{AreHomesRead, IsHomeRead, last_in}
use Rattle.fjall_recovery.proofs.Holding.{tree_of}
use Rattle.fjall_opening.specs.Readings.{names_read}
use Rattle.fjall_repair.specs.Sweeps.{AreHomesOf, KeyspaceLives, NamesTable, names_in, tables_at}

-- ---- homes by the ids of their keyspaces

-- this is so of each keyspace's id and its home
abbrev Each : (ℕ → LoadedHome → Type 0) → List LivingKeyspace → List LoadedHome → Type 0
Each P [] [] = Unit {0}
Each P (k ∷ living) (home ∷ homes) = P k.id home × Each P living homes
Each P living homes = ⊥

lives_cases : (k : LivingKeyspace) (living : List LivingKeyspace) (id : ℕ) → KeyspaceLives (k ∷ living) id → (k.id ≡ id) ⊎ KeyspaceLives living id
lives_cases k living id (zero, lt, at) = inl at
lives_cases k living id (suc i, lt, at) = inr (i, omega (arith, lt), at)

-- the home that is found by the id of a keyspace that lives is that keyspace's
home_at : (P : ℕ → LoadedHome → Type 0) → ((id : ℕ) (home : LoadedHome) → P id home → home.id ≡ id) → (living : List LivingKeyspace) (homes : List LoadedHome) (id : ℕ) → Each P living homes → KeyspaceLives living id
    → (home : LoadedHome) × (find (λ h. h.id == id) homes ≡ Some home) × P id home
home_at P named [] homes id each lives = absurd (omega (arith, lives.1))
home_at P named (k ∷ living) [] id each lives = absurd each
home_at P named (k ∷ living) (home ∷ homes) id each lives = elim (bool_cases (home.id == id)) [
  | inl at ↦
      let here : home.id ≡ id = grind (arith, nat_tests) in
      (home, ap (λ (b : Bool). cond b (Some home) (find (λ h. h.id == id) homes)) at, subst (λ (n : ℕ). P n home) (sym (named k.id home each.0) ∙ here) each.0)
  | inr not ↦
      let (other, found, is) = home_at P named living homes id each.1 (rest not) in
      (other, ap (λ (b : Bool). cond b (Some home) (find (λ h. h.id == id) homes)) not ∙ found, is)
]
  where
    rest : (home.id == id) ≡ false → KeyspaceLives living id
    rest not = elim (lives_cases k living id lives) [
      | inl is ↦
          let same : home.id ≡ id = named k.id home each.0 ∙ is in
          let at : (home.id == id) ≡ true = grind (arith, nat_tests) in
          let no : true ≡ false = sym at ∙ not in cc
      | inr later ↦ later
    ]

tables_found : (id : ℕ) (homes : List LoadedHome) (home : LoadedHome) → find (λ h. h.id == id) homes ≡ Some home → tables_at id homes ≡ (view home.record).tables
tables_found id homes home is = ap (λ (o : Option LoadedHome). unwrap_or (option_map (λ (h : LoadedHome). (view h.record).tables) o) []) is

-- ---- as they were read

each_read : (image : Image) (living : List LivingKeyspace) (homes : List LoadedHome) → AreHomesRead image living homes → Each (IsHomeRead image) living homes
each_read image [] [] read = tt
each_read image [] (home ∷ homes) read = absurd read
each_read image (k ∷ living) [] read = absurd read
each_read image (k ∷ living) (home ∷ homes) read = (read.0, each_read image living homes read.1)

is_named : (image : Image) (id : ℕ) (home : LoadedHome) → IsHomeRead image id home → home.id ≡ id
is_named image id home read = read.loaded.named

-- a home whose record is this one
abbrev Tells : Image → (ℕ → Fields) → ℕ → LoadedHome → Type 0
Tells image last id home = IsHomeRead image id home × (view home.record ≡ last id)

each_tells : (image : Image) (last : ℕ → Fields) (living : List LivingKeyspace) (homes : List LoadedHome) → AreHomesRead image living homes → map (λ h. view h.record) homes ≡ map (λ k. last k.id) living
    → Each (Tells image last) living homes
each_tells image last [] [] read same = tt
each_tells image last [] (home ∷ homes) read same = absurd read
each_tells image last (k ∷ living) [] read same = absurd read
each_tells image last (k ∷ living) (home ∷ homes) read same =
    let both : view home.record ∷ map (λ (h : LoadedHome). view h.record) homes ≡ last k.id ∷ map (λ (j : LivingKeyspace). last j.id) living = same in
    let here : view home.record ≡ last k.id = cc in
    let rest : map (λ (h : LoadedHome). view h.record) homes ≡ map (λ (j : LivingKeyspace). last j.id) living = cc in
    ((read.0, here), each_tells image last living homes read.1 rest)

rising_ids : (living : List LivingKeyspace) → AllPairs (λ j k. j.id < k.id) living → IsStrictlyIncreasing (map (λ k. k.id) living)
rising_ids [] rise i lt = absurd (omega (arith, lt))
rising_ids (k ∷ living) rise i lt =
    let key : LivingKeyspace → ℕ = λ j. j.id in
    let all : List LivingKeyspace = k ∷ living in
    let next : i + 1 < length all = subst (λ n. i + 1 < n) (length-map all key) lt in
    let here : i < length all = omega (arith, next) in
    let one : get_or (map key all) i 0 ≡ (get_or all i k).id = get_or-map key all i k 0 here in
    let two : get_or (map key all) (i + 1) 0 ≡ (get_or all (i + 1) k).id = get_or-map key all (i + 1) k 0 next in
    let less : (get_or all i k).id < (get_or all (i + 1) k).id = rise i (i + 1) k (omega arith) next in
    omega (arith, one, two, less)

same_ids : (image : Image) (living : List LivingKeyspace) (homes : List LoadedHome) → AreHomesRead image living homes → map (λ h. h.id) homes ≡ map (λ k. k.id) living
same_ids image [] [] read = refl
same_ids image [] (home ∷ homes) read = absurd read
same_ids image (k ∷ living) [] read = absurd read
same_ids image (k ∷ living) (home ∷ homes) read =
    ap (λ (i : ℕ). i ∷ map (λ (h : LoadedHome). h.id) homes) (is_named image k.id home read.0) ∙ ap (λ (l : List ℕ). k.id ∷ l) (same_ids image living homes read.1)

-- where no keyspace lives
pub no_homes : AreHomesOf [] []
no_homes = record { same = refl; some = All-nil (λ (k : LivingKeyspace). 0 < k.id); ascending = λ i lt. absurd (omega (arith, lt)) }

-- ---- as the folder holds them

id_test : (id : ℕ) → (id ≡ 0) ⊎ ((id == 0) ≡ false)
id_test id = elim (bool_cases (id == 0)) [
  | inl is ↦ let none : id ≡ 0 = grind (arith, nat_tests) in inl none
  | inr not ↦ inr not
]

module _ (image : Image) (found : RecoveredFolder) (read : IsFinished image found) where
  abbrev homes : List LoadedHome
  homes = found.homes.items

  pub homes_are : AreHomesOf found.catalog.keyspaces.living homes
  homes_are =
      let are = read.catalog.are in
      record { same = same_ids image found.catalog.keyspaces.living homes read.homes; some = are.ids; ascending = rising_ids found.catalog.keyspaces.living are.ascending }

  -- of tree 0
  pub tree_named : (n : ℕ) → Contains (names_read found 0) n → option_map (λ table. table.id) found.catalog.catalog.table ≡ Some n
  tree_named n has = of found.catalog.catalog.table has
    where
      of : (table : Option TableInfo) → Contains (map (λ (t : TableInfo). t.id) (listed table)) n → option_map (λ t. t.id) table ≡ Some n
      of None has = absurd (omega (arith, has.1))
      of (Some t) (zero, lt, at) = ap Some at
      of (Some t) (suc i, lt, at) = absurd (omega (arith, lt))

  -- of a keyspace that lives
  pub home_named : (id n : ℕ) → KeyspaceLives found.catalog.keyspaces.living id → Contains (names_read found id) n → NamesTable image id n
  home_named id n lives has =
      let living = found.catalog.keyspaces.living in
      let some : 0 < id = All-contains (λ i. 0 < i) (map (λ (k : LivingKeyspace). k.id) living) id (All-map (λ i. 0 < i) (λ (k : LivingKeyspace). k.id) living read.catalog.are.ids) lives in
      let (home, at, is) = home_at (IsHomeRead image) (is_named image) found.catalog.keyspaces.living homes id (each_read image found.catalog.keyspaces.living homes read.homes) lives in
      let test : (id == 0) ≡ false = grind (arith, nat_tests) in
      let names : names_read found id ≡ map (λ (t : TableInfo). t.id) is.loaded.h.last.tables =
      ap (λ (b : Bool). map (λ (t : TableInfo). t.id) (if b then listed found.catalog.catalog.table else tables_at id homes)) test
      ∙ ap (λ (l : List TableInfo). map (λ (t : TableInfo). t.id) l) (tables_found id homes home at ∙ ap (λ (r : Fields). r.tables) is.loaded.record_is) in
      (is.loaded.records, is.loaded.h, record { folder = is.folder; files = is.loaded.openable.files }, subst (λ (l : List ℕ). Contains l n) names has)

  -- What was read names the tables that the folder's records name.
  module _ (c : Contents) (shows : ShowsContents found c) where
    pub names_agree : (id : ℕ) → (id ≡ 0) ⊎ KeyspaceLives c.keyspaces.living id → names_read found id ≡ names_in (tree_of c) id
    names_agree id counts = elim (id_test id) [
      | inl none ↦ subst (λ (i : ℕ). names_read found i ≡ names_in (tree_of c) i) (sym none) (ap (λ (last : Catalog). map (λ (t : TableInfo). t.id) (listed last.table)) shows.last)
      | inr test ↦
          ap (λ (b : Bool). map (λ (t : TableInfo). t.id) (if b then listed found.catalog.catalog.table else tables_at id homes)) test
          ∙ ap (λ (l : List TableInfo). map (λ (t : TableInfo). t.id) l) (tables_agree (lives test))
          ∙ sym (ap (λ (b : Bool). map (λ (t : TableInfo). t.id) (if b then listed c.last.table else (last_in (get c.homes id)).tables)) test)
    ]
      where
        lives : (id == 0) ≡ false → KeyspaceLives c.keyspaces.living id
        lives test = elim counts [
          | inl none ↦
              let yes : (id == 0) ≡ true = grind (arith, nat_tests) in
              let no : true ≡ false = sym yes ∙ test in cc
          | inr is ↦ is
        ]

        tables_agree : KeyspaceLives c.keyspaces.living id → tables_at id homes ≡ (last_in (get c.homes id)).tables
        tables_agree lives =
            let last : ℕ → Fields = λ i. last_in (get c.homes i) in
            let same = subst (λ s. AreHomesRead image s.living homes) shows.keyspaces read.homes in
            let (home, at, is) = home_at (Tells image last) (λ i h tells. is_named image i h tells.0) c.keyspaces.living homes id (each_tells image last c.keyspaces.living homes same shows.homes) lives in
            tables_found id homes home at ∙ ap (λ (r : Fields). r.tables) is.1
