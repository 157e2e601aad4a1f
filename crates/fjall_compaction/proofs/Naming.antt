-- The names that are planned for tables that were made.
use Rattle.std.proofs.Common.{◌≡◌, ℕ, zero, suc, ◌+◌, ◌-◌, ◌<◌, ◌^◌, List, [], ◌∷◌, ◌++◌, get_or, length, take, false, String, string_bytes, nat_lt, lt-ltb, refl, sym, ap, subst, ◌∙◌, arith}
use Rattle.std.specs.declared.alloc.Global.{Global}
use Rattle.fjall_files.specs.Names.{IsNameOf, keyspace_folder, table_name}
use Rattle.fjall_jobs.specs.declared.made_table.MadeTable.{MadeTable}
use Rattle.fjall_table.specs.declared.level.Level.TheVariants.{L1}
use Rattle.fjall_table.specs.declared.table_info.TableInfo.{TableInfo}
use Rattle.fjall_base.specs.Disk.{Meaning, Name}
use Rattle.fjall_manifest.specs.Records.{Fields}
use Rattle.fjall_compaction.specs.declared.merge.plan.MergePlan.{MergePlan}
use Rattle.fjall_compaction.specs.Merges.{Merge, merged_infos}
use Rattle.fjall_compaction.specs.MergePlans.{AreNamed, HasNoTableFolder, IsMergePlan}
use Rattle.fjall_compaction.specs.Putting.{AreNewFiles, HaveNoFolders}

-- there are as many as tables
pub as_many : (id next : ℕ) (tables : List MadeTable) (names : List (String Global)) → AreNamed id next tables names → length names ≡ length tables
as_many id next [] [] named = refl
as_many id next [] (name ∷ names) named = absurd named
as_many id next (t ∷ tables) [] named = absurd named
as_many id next (t ∷ tables) (name ∷ names) named = let rest = as_many id (next + 1) tables names named.2 in omega (arith, rest)

-- the one at a place is that of the id which is so far behind the first one, and which isn't the greatest
pub record IsNamedAs (id n : ℕ) (name : String Global) : Type 0 where
  pub below : n < 2 ^ 64 - 1
  pub named : string_bytes name ≡ table_name id n

pub named_at : (id next : ℕ) (tables : List MadeTable) (names : List (String Global)) (i : ℕ) (d : String Global) → AreNamed id next tables names → i < length names
    → IsNamedAs id (next + i) (get_or names i d)
named_at id next [] [] i d named lt = absurd (omega (arith, lt))
named_at id next [] (name ∷ names) i d named lt = absurd named
named_at id next (t ∷ tables) [] i d named lt = absurd named
named_at id next (t ∷ tables) (name ∷ names) zero d named lt =
    let here : next + 0 ≡ next = omega arith in
    subst (λ (n : ℕ). IsNamedAs id n name) (sym here) (record { below = named.0; named = named.1 })
named_at id next (t ∷ tables) (name ∷ names) (suc i) d named lt =
    let later : next + 1 + i ≡ next + suc i = omega arith in
    subst (λ (n : ℕ). IsNamedAs id n (get_or names i d)) later (named_at id (next + 1) tables names i d named.2 (omega (arith, lt)))

-- one name more
named_suc : (id next : ℕ) (tables : List MadeTable) (names : List (String Global)) (i : ℕ) (name : String Global) → AreNamed id next (take i tables) names → i < length tables
    → next + i < 2 ^ 64 - 1 → string_bytes name ≡ table_name id (next + i) → AreNamed id next (take (suc i) tables) (names ++ name ∷ [])
named_suc id next [] names i name named lt below is = absurd (omega (arith, lt))
named_suc id next (t ∷ tables) [] zero name named lt below is =
    let here : next + 0 ≡ next = omega arith in (omega (arith, below), is ∙ ap (λ (n : ℕ). table_name id n) here, tt)
named_suc id next (t ∷ tables) (other ∷ names) zero name named lt below is = absurd named
named_suc id next (t ∷ tables) [] (suc i) name named lt below is = absurd named
named_suc id next (t ∷ tables) (other ∷ names) (suc i) name named lt below is =
    let later : next + suc i ≡ next + 1 + i = omega arith in
    (named.0, named.1, named_suc id (next + 1) tables names i name named.2 (omega (arith, lt)) (omega (arith, below)) (is ∙ ap (λ (n : ℕ). table_name id n) later))

pub named_more : (id next : ℕ) (tables : List MadeTable) (names : List (String Global)) (i : ℕ) (name : String Global) → AreNamed id next (take i tables) names → i < length tables
    → next + length tables < 2 ^ 64 → string_bytes name ≡ table_name id (next + i) → AreNamed id next (take (i + 1) tables) (names ++ name ∷ [])
named_more id next tables names i name named lt room is =
    let on : suc i ≡ i + 1 = omega arith in
    subst (λ (n : ℕ). AreNamed id next (take n tables) (names ++ name ∷ [])) on (named_suc id next tables names i name named lt (omega (arith, lt, room)) is)

-- what a record says of a table that a merge made
abbrev pub info_of : ℕ → MadeTable → TableInfo
info_of n t = record { id = n; level = L1; file_len = length t.bytes.items; entry_count = t.entry_count }

-- and of one more
infos_suc : (next : ℕ) (tables : List MadeTable) (i : ℕ) (d : MadeTable) → i < length tables
    → merged_infos next (take (suc i) tables) ≡ merged_infos next (take i tables) ++ info_of (next + i) (get_or tables i d) ∷ []
infos_suc next [] i d lt = absurd (omega (arith, lt))
infos_suc next (t ∷ tables) zero d lt = let here : next ≡ next + 0 = omega arith in ap (λ (n : ℕ). info_of n t ∷ []) here
infos_suc next (t ∷ tables) (suc i) d lt =
    let later : next + 1 + i ≡ next + suc i = omega arith in
    ap (λ (l : List TableInfo). info_of next t ∷ l) (infos_suc (next + 1) tables i d (omega (arith, lt)) ∙ ap (λ (n : ℕ). merged_infos (next + 1) (take i tables) ++ info_of n (get_or tables i d) ∷ []) later)

pub infos_more : (next : ℕ) (tables : List MadeTable) (i : ℕ) (t : MadeTable) → t ≡ get_or tables i t → i < length tables
    → merged_infos next (take (i + 1) tables) ≡ merged_infos next (take i tables) ++ info_of (next + i) t ∷ []
infos_more next tables i t at lt =
    let on : i + 1 ≡ suc i = omega arith in
    ap (λ (n : ℕ). merged_infos next (take n tables)) on ∙ infos_suc next tables i t lt ∙ ap (λ (x : MadeTable). merged_infos next (take i tables) ++ info_of (next + i) x ∷ []) (sym at)

-- the name at a place
pub found : (id next : ℕ) (tables : List MadeTable) (names : List (String Global)) → AreNamed id next tables names → (i : ℕ) → i < length names → (file : String Global) → file ≡ get_or names i file
    → (name : Name) → name ≡ string_bytes file → name ≡ table_name id (next + i)
found id next tables names named i lt file at name called = called ∙ ap (λ (f : String Global). string_bytes f) at ∙ (named_at id next tables names i file named lt).named

-- all of their ids have their place
pub room : (id next : ℕ) (tables : List MadeTable) (names : List (String Global)) → AreNamed id next tables names → (i : ℕ) → i < length tables → next + length tables < 2 ^ 64
room id next [] names named i lt = absurd (omega (arith, lt))
room id next (t ∷ tables) [] named i lt = absurd named
room id next (t ∷ []) (name ∷ names) named i lt = let below = named.0 in omega (arith, below)
room id next (t ∷ u ∷ tables) (name ∷ names) named i lt = let later = room id (next + 1) (u ∷ tables) names named.2 0 (omega arith) in omega (arith, later)

-- and there is one for each table
pub one_for_each : (id next : ℕ) (tables : List MadeTable) (names : List (String Global)) (i : ℕ) → AreNamed id next tables names → i < length tables → false ≡ nat_lt i (length names) → ⊥
one_for_each id next tables names i named lt none =
    let many = as_many id next tables names named in
    let there = lt-ltb i (length names) (omega (arith, lt, many)) in
    let bad : ⊥ = cc in bad

-- ---- of a plan

pub files_at : (id next : ℕ) (tables : List MadeTable) (folder : Name) (files : List (String Global)) → IsNameOf keyspace_folder folder id → AreNamed id next tables files
    → AreNewFiles id next tables folder files
files_at id next tables folder files home named = record { home = home; named = named }

module _ (id : ℕ) (last : Fields) (m : Merge) (plan : MergePlan) (tables : List MadeTable) (made : m.tables ≡ tables) (is : IsMergePlan id last m plan) where
  pub merge_files : (folder : Name) → folder ≡ string_bytes plan.folder → (files : List (String Global)) → files ≡ plan.files.items → AreNewFiles id last.next_table_id tables folder files
  merge_files folder at files read = record {
    home = (is.folder.0, at ∙ is.folder.1);
    named = subst (λ (l : List (String Global)). AreNamed id last.next_table_id tables l) (sym read) (subst (λ (l : List MadeTable). AreNamed id last.next_table_id l plan.files.items) made is.files);
  }

  pub merge_room : last.next_table_id + length tables < 2 ^ 64
  merge_room = subst (λ (l : List MadeTable). last.next_table_id + length l < 2 ^ 64) made is.fits.room.next_table_id

-- no new table's name is a folder's, where no table's is
pub none_given : (disk : Meaning) (id next count : ℕ) → next + count < 2 ^ 64 → HasNoTableFolder disk id → HaveNoFolders disk id next count
none_given disk id next count fits none n from until = none n (omega (arith, until, fits))
