-- All blocks of tables, read one after another.
use Rattle.std.proofs.Common.{◌≡◌, ℕ, ◌+◌, ◌≤◌, Bool, IsTrue, List, [], ◌∷◌, ◌++◌, Vec, Global, length, take, set, slice_get, Some, refl, sym, ap, ◌∙◌, arith}
use Rattle.std.specs.declared.sync.Arc.{Arc}
use Rattle.std.proofs.lemmas.List.{take_all}
use Rattle.fjall_base.specs.Disk.{Meaning}
use Rattle.fjall_table.specs.Blocks.{Entry, block_text}
use Rattle.fjall_table.specs.Tables.{handles_of}
use Rattle.fjall_table.proofs.TableBlocks.{more_taken}
use Rattle.fjall_table_reader.specs.Readers.{AreRead, AreSameTables, IsSameTable, LooksOn, Reader, Reads, ReadsBlocks}
use Rattle.fjall_table_reader.proofs.Readers.{looks_again, looks_none, same_again}
use Rattle.fjall_table_reader.proofs.Several.{all_read_on, all_same_none, length_read, read_at, read_set, same_set}
use Rattle.fjall_memtable.specs.Sorted.{flat}
use Rattle.fjall_jobs.specs.Blocks.{entries_in}
use Rattle.fjall_jobs.specs.MergeInputs.{table_runs}

-- ---- one table

-- The blocks before some place were read: the reader reads what it read at first, and these are its blocks up to there.
pub record Gathering (honest : Bool) (old new : Meaning) (before after : Reader) (at : ℕ) (got : List (Arc (List Entry) Global)) : Type 0 where
  pub table : IsSameTable before after
  pub disk : LooksOn honest old new
  pub reads : IsTrue honest → (blocks : List (List Entry)) → ReadsBlocks old before blocks → ReadsBlocks new after blocks
  pub all : IsTrue honest → (blocks : List (List Entry)) → ReadsBlocks old before blocks → entries_in got ≡ take at blocks

entries_behind : (got : List (Arc (List Entry) Global)) (b : Arc (List Entry) Global) → entries_in (got ++ b ∷ []) ≡ entries_in got ++ b.value ∷ []
entries_behind [] b = refl
entries_behind (c ∷ got) b = ap (λ (l : List (List Entry)). c.value ∷ l) (entries_behind got b)

pub gathering_more : (honest : Bool) (old mid new : Meaning) (before mid_reader after : Reader) (at : ℕ) (got all : List (Arc (List Entry) Global)) (b : Arc (List Entry) Global)
    → Gathering honest old mid before mid_reader at got → IsSameTable mid_reader after → LooksOn honest mid new
    → (IsTrue honest → (blocks : List (List Entry)) → ReadsBlocks mid mid_reader blocks → ReadsBlocks new after blocks)
    → (IsTrue honest → (blocks : List (List Entry)) → ReadsBlocks mid mid_reader blocks → slice_get blocks at ≡ Some b.value)
    → all ≡ got ++ b ∷ [] → Gathering honest old new before after (at + 1) all
gathering_more honest old mid new before mid_reader after at got all b g same looks reads here is = record {
  table = same_again before mid_reader after g.table same;
  disk = looks_again honest old mid new g.disk looks;
  reads = λ h blocks r. reads h blocks (g.reads h blocks r);
  all = λ h blocks r.
      ap entries_in is ∙ entries_behind got b ∙ ap (λ (l : List (List Entry)). l ++ b.value ∷ []) (g.all h blocks r)
      ∙ sym (more_taken blocks at b.value (here h blocks (g.reads h blocks r)));
}

count_of : (at : ℕ) (blocks : List (List Entry)) → length (handles_of at blocks) ≡ length blocks
count_of at [] = refl
count_of at (b ∷ blocks) = let n = count_of (at + length (block_text b)) blocks in omega (arith, n)

-- all of them
pub gathered : (honest : Bool) (old new : Meaning) (before after : Reader) (at : ℕ) (got : List (Arc (List Entry) Global)) (entries : List Entry)
    → Gathering honest old new before after at got → length after.handles ≤ at → IsTrue honest → Reads old before entries → flat (entries_in got) ≡ entries
gathered honest old new before after at got entries g le h r =
    let handles = ap length g.table.handles in
    let index = ap length r.reads.index in
    let n = count_of 0 r.blocks in
    ap flat (g.all h r.blocks r.reads ∙ take_all at r.blocks (omega (arith, le, handles, index, n))) ∙ sym r.all

-- ---- several tables

-- The tables before some place were read so.
pub record Collecting (honest : Bool) (old new : Meaning) (before after : List Reader) (at : ℕ) (got : List (Vec (Arc (List Entry) Global) Global)) : Type 0 where
  pub same : AreSameTables before after
  pub disk : LooksOn honest old new
  pub reads : IsTrue honest → (entries : List (List Entry)) → AreRead old before entries → AreRead new after entries
  pub all : IsTrue honest → (entries : List (List Entry)) → AreRead old before entries → table_runs got ≡ take at entries

pub collecting_none : (honest : Bool) (old : Meaning) (ts : List Reader) → Collecting honest old old ts ts 0 []
collecting_none honest old ts = record { same = all_same_none ts; disk = looks_none honest old; reads = λ h entries r. r; all = λ h entries r. refl }

runs_behind : (got : List (Vec (Arc (List Entry) Global) Global)) (b : Vec (Arc (List Entry) Global) Global) → table_runs (got ++ b ∷ []) ≡ table_runs got ++ flat (entries_in b.items) ∷ []
runs_behind [] b = refl
runs_behind (c ∷ got) b = ap (λ (l : List (List Entry)). flat (entries_in c.items) ∷ l) (runs_behind got b)

-- one of several readers went on
pub reads_set : (honest : Bool) (old mid new : Meaning) (before mid_readers : List Reader) (at : ℕ) (t u : Reader)
    → (IsTrue honest → (entries : List (List Entry)) → AreRead old before entries → AreRead mid mid_readers entries) → slice_get mid_readers at ≡ Some t → LooksOn honest mid new
    → (IsTrue honest → (es : List Entry) → Reads mid t es → Reads new u es)
    → IsTrue honest → (entries : List (List Entry)) → AreRead old before entries → AreRead new (set mid_readers at u) entries
reads_set honest old mid new before mid_readers at t u so_far here looks reads h entries r =
    let now = so_far h entries r in
    let one = read_at mid mid_readers entries at t now here in
    read_set new mid_readers entries at u one.0 (all_read_on honest mid new mid_readers entries looks h now) one.1 (reads h one.0 one.2)

pub collecting_more : (honest : Bool) (old mid new : Meaning) (before mid_readers : List Reader) (at : ℕ) (t u : Reader) (got all : List (Vec (Arc (List Entry) Global) Global)) (b : Vec (Arc (List Entry) Global) Global)
    → Collecting honest old mid before mid_readers at got → slice_get mid_readers at ≡ Some t → IsSameTable t u → LooksOn honest mid new
    → (IsTrue honest → (es : List Entry) → Reads mid t es → Reads new u es)
    → (IsTrue honest → (es : List Entry) → Reads mid t es → flat (entries_in b.items) ≡ es)
    → all ≡ got ++ b ∷ [] → Collecting honest old new before (set mid_readers at u) (at + 1) all
collecting_more honest old mid new before mid_readers at t u got all b g here same looks reads has is = record {
  same = same_set before mid_readers at t u g.same here same;
  disk = looks_again honest old mid new g.disk looks;
  reads = λ h entries r. reads_set honest old mid new before mid_readers at t u g.reads here looks reads h entries r;
  all = λ h entries r.
      let one = read_at mid mid_readers entries at t (g.reads h entries r) here in
      ap table_runs is ∙ runs_behind got b ∙ ap (λ (l : List (List Entry)). l ++ flat (entries_in b.items) ∷ []) (g.all h entries r)
      ∙ ap (λ (es : List Entry). take at entries ++ es ∷ []) (has h one.0 one.2) ∙ sym (more_taken entries at one.0 one.1);
}

pub collected : (honest : Bool) (old new : Meaning) (before after : List Reader) (at : ℕ) (got : List (Vec (Arc (List Entry) Global) Global)) (entries : List (List Entry))
    → Collecting honest old new before after at got → length before ≤ at → IsTrue honest → AreRead old before entries → table_runs got ≡ entries
collected honest old new before after at got entries g le h r =
    let n = length_read old before entries r in
    g.all h entries r ∙ take_all at entries (omega (arith, le, n))
