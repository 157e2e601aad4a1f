-- The readers of tables that were made, while they are had and then.
use Rattle.std.proofs.Common.{◌≡◌, ℕ, zero, suc, ◌+◌, ◌<◌, ◌^◌, ◌%◌, List, [], ◌∷◌, ◌++◌, get_or, length, map, mod-eq_of_lt, take, String, string_bytes, refl, ap, subst, ◌∙◌, arith}
use Rattle.std.specs.declared.alloc.Global.{Global}
use Rattle.fjall_base.specs.Disk.{IsFile, Meaning, Name}
use Rattle.fjall_table_reader.specs.Readers.{AreRead, Reader, Reads}
use Rattle.fjall_files.specs.Names.{table_name}
use Rattle.fjall_compaction.specs.FlushPlans.{HaveFiles}
use Rattle.fjall_jobs.specs.declared.made_table.MadeTable.{MadeTable}
use Rattle.fjall_jobs.specs.Sequences.{AreMadeTables, IsMadeTable}
use Rattle.fjall_table.specs.declared.table_info.TableInfo.{TableInfo}
use Rattle.fjall_table.specs.Blocks.{Entry}
use Rattle.fjall_table_reader.specs.Files.{bytes_in, entry_at}
use Rattle.fjall_compaction.specs.Merges.{merged_infos}
use Rattle.fjall_compaction.specs.MergePlans.{AreMergeReaders}
use Rattle.fjall_compaction.proofs.Naming.{IsNamedAs, info_of}

-- the reader of this table, under this id
pub record IsReaderOf (id n : ℕ) (t : MadeTable) (reader : Reader) : Type 0 where
  pub name : reader.name ≡ table_name id n
  pub info : reader.info ≡ info_of n t
  pub reads : (disk : Meaning) (entries : List Entry) → IsMadeTable t entries → IsFile (entry_at disk (table_name id n)) → bytes_in (entry_at disk (table_name id n)) ≡ t.bytes.items → Reads disk reader entries

pub is_reader : (id next i : ℕ) (file : String Global) (names : List (String Global)) → file ≡ get_or names i file → IsNamedAs id (next + i) (get_or names i file) → (name : Name) → name ≡ string_bytes file
    → (t : MadeTable) (n : ℕ) → n ≡ (next + i) % 2 ^ 64 → (reader : Reader) → reader.name ≡ name → reader.info ≡ info_of n t
    → ((disk : Meaning) (entries : List Entry) → IsMadeTable t entries → IsFile (entry_at disk name) → bytes_in (entry_at disk name) ≡ t.bytes.items → Reads disk reader entries)
    → IsReaderOf id (next + i) t reader
is_reader id next i file names at one name called t n n_is reader named info reads =
    let is : name ≡ table_name id (next + i) = called ∙ ap (λ (f : String Global). string_bytes f) at ∙ one.named in
    let same : n ≡ next + i = n_is ∙ mod-eq_of_lt (let below = one.below in let fits : next + i < 2 ^ 64 = omega (arith, below) in fits) in
    record {
      name = named ∙ is;
      info = info ∙ ap (λ (k : ℕ). info_of k t) same;
      reads = subst (λ (q : Name). (disk : Meaning) (entries : List Entry) → IsMadeTable t entries → IsFile (entry_at disk q) → bytes_in (entry_at disk q) ≡ t.bytes.items → Reads disk reader entries) is reads;
    }

-- the same of several, one by one, under ids that follow one another
abbrev pub AreEach : (id next : ℕ) → List MadeTable → List Reader → Type 0
AreEach id next [] [] = Unit {0}
AreEach id next (t ∷ tables) (reader ∷ readers) = IsReaderOf id next t reader × AreEach id (next + 1) tables readers
AreEach id next tables readers = ⊥

-- one more
each_suc : (id next : ℕ) (tables : List MadeTable) (readers : List Reader) (i : ℕ) (d : MadeTable) (reader : Reader) → AreEach id next (take i tables) readers → i < length tables
    → IsReaderOf id (next + i) (get_or tables i d) reader → AreEach id next (take (suc i) tables) (readers ++ reader ∷ [])
each_suc id next [] readers i d reader each lt is = absurd (omega (arith, lt))
each_suc id next (t ∷ tables) [] zero d reader each lt is =
    let here : next + 0 ≡ next = omega arith in (subst (λ (n : ℕ). IsReaderOf id n t reader) here is, tt)
each_suc id next (t ∷ tables) (other ∷ readers) zero d reader each lt is = absurd each
each_suc id next (t ∷ tables) [] (suc i) d reader each lt is = absurd each
each_suc id next (t ∷ tables) (other ∷ readers) (suc i) d reader each lt is =
    let later : next + suc i ≡ next + 1 + i = omega arith in
    (each.0, each_suc id (next + 1) tables readers i d reader each.1 (omega (arith, lt)) (subst (λ (n : ℕ). IsReaderOf id n (get_or tables i d) reader) later is))

pub each_more : (id next : ℕ) (tables : List MadeTable) (readers : List Reader) (i : ℕ) (t : MadeTable) (reader : Reader) → AreEach id next (take i tables) readers → t ≡ get_or tables i t
    → i < length tables → IsReaderOf id (next + i) t reader → AreEach id next (take (i + 1) tables) (readers ++ reader ∷ [])
each_more id next tables readers i t reader each at lt is =
    let on : suc i ≡ i + 1 = omega arith in
    subst (λ (n : ℕ). AreEach id next (take n tables) (readers ++ reader ∷ [])) on
    (each_suc id next tables readers i t reader each lt (subst (λ (x : MadeTable). IsReaderOf id (next + i) x reader) at is))

-- all of them
each_reads : (id next : ℕ) (tables : List MadeTable) (readers : List Reader) → AreEach id next tables readers → (disk : Meaning) (lists : List (List Entry)) → AreMadeTables tables lists
    → HaveFiles disk id next tables → AreRead disk readers lists
each_reads id next [] [] each disk [] made files = tt
each_reads id next [] [] each disk (l ∷ lists) made files = absurd made
each_reads id next [] (r ∷ readers) each disk lists made files = absurd each
each_reads id next (t ∷ tables) [] each disk lists made files = absurd each
each_reads id next (t ∷ tables) (r ∷ readers) each disk [] made files = absurd made
each_reads id next (t ∷ tables) (r ∷ readers) each disk (l ∷ lists) made files =
    (each.0.reads disk l made.0 files.0 files.1, each_reads id (next + 1) tables readers each.1 disk lists made.1 files.2)

each_names : (id next : ℕ) (tables : List MadeTable) (readers : List Reader) → AreEach id next tables readers
    → map (λ (r : Reader). r.name) readers ≡ map (λ (t : TableInfo). table_name id t.id) (merged_infos next tables)
each_names id next [] [] each = refl
each_names id next [] (r ∷ readers) each = absurd each
each_names id next (t ∷ tables) [] each = absurd each
each_names id next (t ∷ tables) (r ∷ readers) each = λ k. each.0.name k ∷ each_names id (next + 1) tables readers each.1 k

each_infos : (id next : ℕ) (tables : List MadeTable) (readers : List Reader) → AreEach id next tables readers → map (λ (r : Reader). r.info) readers ≡ merged_infos next tables
each_infos id next [] [] each = refl
each_infos id next [] (r ∷ readers) each = absurd each
each_infos id next (t ∷ tables) [] each = absurd each
each_infos id next (t ∷ tables) (r ∷ readers) each = λ k. each.0.info k ∷ each_infos id (next + 1) tables readers each.1 k

pub readers_of : (id next : ℕ) (tables : List MadeTable) (readers : List Reader) → AreEach id next tables readers → AreMergeReaders id next tables readers
readers_of id next tables readers each = record {
  names = each_names id next tables readers each;
  infos = each_infos id next tables readers each;
  read = each_reads id next tables readers each;
}

-- ---- the table at a place

pub made_at : (tables : List MadeTable) (lists : List (List Entry)) (i : ℕ) (d : MadeTable) → AreMadeTables tables lists → i < length tables → (entries : List Entry) × IsMadeTable (get_or tables i d) entries
made_at [] lists i d made lt = absurd (omega (arith, lt))
made_at (t ∷ tables) [] i d made lt = absurd made
made_at (t ∷ tables) (l ∷ lists) zero d made lt = (l, made.0)
made_at (t ∷ tables) (l ∷ lists) (suc i) d made lt = made_at tables lists i d made.1 (omega (arith, lt))
