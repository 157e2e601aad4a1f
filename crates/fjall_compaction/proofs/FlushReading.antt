-- The readers of tables that were made, as they are planned.
use Rattle.std.proofs.Common.{◌≡◌, ℕ, ◌+◌, List, [], ◌∷◌, ◌++◌, length, map, Some, String, string_bytes, refl, sym, ap, subst, ◌∙◌, arith}
use Rattle.std.specs.Prelude.{slice_get}
use Rattle.std.proofs.lemmas.List.{map-append}
use Rattle.std.specs.declared.alloc.Global.{Global}
use Rattle.fjall_base.specs.Disk.{IsFile, Meaning}
use Rattle.fjall_table_reader.specs.Readers.{AreRead, Reader, Reads}
use Rattle.fjall_files.specs.Names.{table_name}
use Rattle.fjall_jobs.specs.declared.made_table.MadeTable.{MadeTable}
use Rattle.fjall_jobs.specs.Sequences.{AreMadeTables, IsMadeTable}
use Rattle.fjall_tree.proofs.Several.{read_both}
use Rattle.fjall_table.specs.declared.level.Level.TheVariants.{L0}
use Rattle.fjall_table.specs.declared.table_info.TableInfo.{TableInfo}
use Rattle.fjall_table.specs.Blocks.{Entry}
use Rattle.fjall_table_reader.specs.Files.{bytes_in, entry_at}
use Rattle.fjall_compaction.specs.Flushes.{flushed_infos}
use Rattle.fjall_compaction.specs.FlushPlans.{AreReadersOf, HaveFiles, IsNamed}

-- ---- the table that was made

pub first_made : (tables : List MadeTable) (lists : List (List Entry)) (t : MadeTable) → AreMadeTables tables lists → Some t ≡ slice_get tables 0 → (entries : List Entry) × IsMadeTable t entries
first_made [] lists t made first = let bad : ⊥ = cc in absurd bad
first_made (u ∷ tables) [] t made first = absurd made
first_made (u ∷ tables) (l ∷ lists) t made first = let same : u ≡ t = cc in (l, subst (λ (x : MadeTable). IsMadeTable x l) same made.0)

-- ---- its reader

pub no_reader : (id next : ℕ) (tables : List MadeTable) → tables ≡ [] → AreReadersOf id next tables []
no_reader id next [] none = record { names = refl; infos = refl; read = λ disk lists made files. by disk lists made }
  where
    by : (disk : Meaning) (lists : List (List Entry)) → AreMadeTables [] lists → AreRead disk [] lists
    by disk [] made = tt
    by disk (l ∷ lists) made = absurd made
no_reader id next (t ∷ tables) none = let bad : ⊥ = cc in absurd bad

-- what a record says of a table that a flush made
abbrev pub info_of : ℕ → MadeTable → TableInfo
info_of next t = record { id = next; level = L0; file_len = length t.bytes.items; entry_count = t.entry_count }

pub one_reader : (id next : ℕ) (tables : List MadeTable) (name : String Global) (t : MadeTable) (reader : Reader) → IsNamed id next tables (Some name) → Some t ≡ slice_get tables 0
    → reader.name ≡ string_bytes name
    → reader.info ≡ info_of next t
    → ((disk : Meaning) (entries : List Entry) → IsMadeTable t entries → IsFile (entry_at disk (string_bytes name)) → bytes_in (entry_at disk (string_bytes name)) ≡ t.bytes.items → Reads disk reader entries)
    → AreReadersOf id next tables (reader ∷ [])
one_reader id next [] name t reader named first called info reads = absurd named
one_reader id next (u ∷ v ∷ tables) name t reader named first called info reads = absurd named
one_reader id next (u ∷ []) name t reader named first called info reads =
    let same : t ≡ u = cc in record {
      names = ap (λ (n : List ℕ). n ∷ []) (called ∙ named.1);
      infos = ap (λ (x : TableInfo). x ∷ []) (info ∙ ap (λ (x : MadeTable). info_of next x) same);
      read = λ disk lists made files. by same disk lists made files;
    }
  where
    by : t ≡ u → (disk : Meaning) (lists : List (List Entry)) → AreMadeTables (u ∷ []) lists → HaveFiles disk id next (u ∷ []) → AreRead disk (reader ∷ []) lists
    by same disk [] made files = absurd made
    by same disk (l ∷ k ∷ lists) made files = absurd made.1
    by same disk (l ∷ []) made files =
        let entry = sym named.1 in (
          reads disk l (subst (λ (x : MadeTable). IsMadeTable x l) (sym same) made.0) (subst (λ (n : List ℕ). IsFile (entry_at disk n)) entry files.0)
              (ap (λ (n : List ℕ). bytes_in (entry_at disk n)) named.1 ∙ files.1 ∙ ap (λ (x : MadeTable). x.bytes.items) (sym same)),
          tt,
        )

-- ---- some tables, and those behind them

pub infos_both : (next : ℕ) (xs ys : List MadeTable) → flushed_infos next (xs ++ ys) ≡ flushed_infos next xs ++ flushed_infos (next + length xs) ys
infos_both next [] ys = ap (λ (n : ℕ). flushed_infos n ys) (omega arith)
infos_both next (x ∷ xs) ys =
    ap (λ (l : List TableInfo). record { id = next; level = L0; file_len = length x.bytes.items; entry_count = x.entry_count } ∷ l)
    (infos_both (next + 1) xs ys ∙ ap (λ (n : ℕ). flushed_infos (next + 1) xs ++ flushed_infos n ys) (omega arith))

pub files_both : (disk : Meaning) (id next : ℕ) (xs ys : List MadeTable) → HaveFiles disk id next (xs ++ ys) → HaveFiles disk id next xs × HaveFiles disk id (next + length xs) ys
files_both disk id next [] ys files = (tt, subst (λ (n : ℕ). HaveFiles disk id n ys) (omega arith) files)
files_both disk id next (x ∷ xs) ys files =
    let more = files_both disk id (next + 1) xs ys files.2 in
    let at : next + 1 + length xs ≡ next + length (x ∷ xs) = omega arith in
    ((files.0, files.1, more.0), subst (λ (n : ℕ). HaveFiles disk id n ys) at more.1)

pub files_joined : (disk : Meaning) (id next : ℕ) (xs ys : List MadeTable) → HaveFiles disk id next xs → HaveFiles disk id (next + length xs) ys → HaveFiles disk id next (xs ++ ys)
files_joined disk id next [] ys one two = subst (λ (n : ℕ). HaveFiles disk id n ys) (omega arith) two
files_joined disk id next (x ∷ xs) ys one two =
    let at : next + length (x ∷ xs) ≡ next + 1 + length xs = omega arith in
    (one.0, one.1, files_joined disk id (next + 1) xs ys one.2 (subst (λ (n : ℕ). HaveFiles disk id n ys) at two))

made_both : (xs ys : List MadeTable) (lists : List (List Entry)) → AreMadeTables (xs ++ ys) lists
    → (ls : List (List Entry)) × (ms : List (List Entry)) × (lists ≡ ls ++ ms) × AreMadeTables xs ls × AreMadeTables ys ms
made_both [] ys lists made = ([], lists, refl, tt, made)
made_both (x ∷ xs) ys [] made = absurd made
made_both (x ∷ xs) ys (l ∷ lists) made = let more = made_both xs ys lists made.1 in (l ∷ more.0, more.1, ap (λ (r : List (List Entry)). l ∷ r) more.2, (made.0, more.3), more.4)

-- readers of some tables and of those behind them are readers of all
pub readers_both : (id next : ℕ) (xs ys : List MadeTable) (rs ss : List Reader) → AreReadersOf id next xs rs → AreReadersOf id (next + length xs) ys ss
    → AreReadersOf id next (xs ++ ys) (rs ++ ss)
readers_both id next xs ys rs ss one two = record {
  names = map-append (λ (t : Reader). t.name) rs ss ∙ (λ i. one.names i ++ two.names i)
      ∙ sym (ap (map (λ (t : TableInfo). table_name id t.id)) (infos_both next xs ys)
      ∙ map-append (λ (t : TableInfo). table_name id t.id) (flushed_infos next xs) (flushed_infos (next + length xs) ys));
  infos = map-append (λ (t : Reader). t.info) rs ss ∙ (λ i. one.infos i ++ two.infos i) ∙ sym (infos_both next xs ys);
  read = λ disk lists made files.
      let parts = made_both xs ys lists made in
      let there = files_both disk id next xs ys files in
      subst (AreRead disk (rs ++ ss)) (sym parts.2) (read_both disk rs ss parts.0 parts.1 (one.read disk parts.0 parts.3 there.0) (two.read disk parts.1 parts.4 there.1));
}
