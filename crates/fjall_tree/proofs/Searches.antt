-- Look-ups in several tables.
use Rattle.std.proofs.Common.{◌≡◌, ℕ, ◌+◌, ◌≤◌, Bool, IsTrue, List, [], ◌∷◌, ◌++◌, length, take, set, slice_get, Option, Some, None, refl, sym, ap, subst, ◌∙◌, arith}
use Rattle.std.specs.Option.{option_map}
use Rattle.std.proofs.lemmas.List.{append-nil, take_all}
use Rattle.std.proofs.lemmas.List.Concat.{flat_map-append}
use Rattle.fjall_base.specs.Disk as disk
use Rattle.fjall_base.specs.Disk.{DiskState, Meaning, state_in}
use Rattle.fjall_table.specs.Blocks.{Entry}
use Rattle.fjall_table.specs.Tables.{Handle, versions_at}
use Rattle.fjall_table_reader.specs.Files.{entry_at}
use Rattle.fjall_table.proofs.TableBlocks.{more_taken}
use Rattle.fjall_memtable.specs.Views.{is_seen, later, newest}
use Rattle.fjall_memtable.proofs.NewestSeen.{newest-append}
use Rattle.fjall_memtable.specs.Sorted.{flat}
use Rattle.fjall_memtable.proofs.SortedRanges.{newest_first}
use Rattle.fjall_table_reader.specs.declared.found.Found.{Found}
use Rattle.fjall_table_reader.specs.Finds.{IsFound, entry_found}
use Rattle.fjall_table_reader.specs.Readers.{AreRead, AreSameTables, IsSameTable, LooksOn, Reader, Reads}
use Rattle.fjall_table_reader.proofs.Readers.{looks_again, looks_none}
use Rattle.fjall_table_reader.proofs.Several.{all_read_on, all_same_none, length_read, read_at, read_ordered, read_set, same_at, same_set}

-- The tables before some place were asked: the readers read what they read at first, and what was found is the newest of these.
pub record Searching (honest : Bool) (old new : Meaning) (before after : List Reader) (key : List ℕ) (instant at : ℕ) (found : Option Found) : Type 0 where
  pub same : AreSameTables before after
  pub disk : LooksOn honest old new
  pub reads : IsTrue honest → (entries : List (List Entry)) → AreRead old before entries → AreRead new after entries
  pub newest : IsTrue honest → (entries : List (List Entry)) → AreRead old before entries → option_map (entry_found key) found ≡ newest key instant (flat (take at entries))

pub searching_none : (honest : Bool) (old : Meaning) (ts : List Reader) (key : List ℕ) (instant : ℕ) → Searching honest old old ts ts key instant 0 None
searching_none honest old ts key instant = record {
  same = all_same_none ts;
  disk = looks_none honest old;
  reads = λ h entries r. r;
  newest = λ h entries r. refl;
}

-- the newest of some tables and one more
newest_more : (key : List ℕ) (instant at : ℕ) (entries : List (List Entry)) (es : List Entry) → slice_get entries at ≡ Some es
    → newest key instant (flat (take (at + 1) entries)) ≡ later (newest key instant (flat (take at entries))) (newest key instant es)
newest_more key instant at entries es here =
    ap (λ (ess : List (List Entry)). newest key instant (flat ess)) (more_taken entries at es here)
    ∙ ap (newest key instant) (flat_map-append (λ (run : List Entry). run) (take at entries) (es ∷ []) ∙ ap (λ (xs : List Entry). flat (take at entries) ++ xs) (append-nil es))
    ∙ newest-append (is_seen key instant) (flat (take at entries)) es

-- the next table was asked
pub searching_more : (honest : Bool) (old mid new : Meaning) (before mid_readers : List Reader) (key : List ℕ) (instant at : ℕ) (best found next : Option Found) (t u : Reader)
    → Searching honest old mid before mid_readers key instant at best
    → slice_get mid_readers at ≡ Some t → IsSameTable t u → LooksOn honest mid new
    → (IsTrue honest → (es : List Entry) → Reads mid t es → Reads new u es)
    → (IsTrue honest → (es : List Entry) → Reads mid t es → IsFound key found (slice_get (versions_at key instant es) 0))
    → option_map (entry_found key) next ≡ later (option_map (entry_found key) best) (option_map (entry_found key) found)
    → Searching honest old new before (set mid_readers at u) key instant (at + 1) next
searching_more honest old mid new before mid_readers key instant at best found next t u s here same looks reads finds is = record {
  same = same_set before mid_readers at t u s.same here same;
  disk = looks_again honest old mid new s.disk looks;
  reads = λ h entries r.
      let now = s.reads h entries r in
      let one = read_at mid mid_readers entries at t now here in
      read_set new mid_readers entries at u one.0 (all_read_on honest mid new mid_readers entries looks h now) one.1 (reads h one.0 one.2);
  newest = λ h entries r.
      let one = read_at mid mid_readers entries at t (s.reads h entries r) here in
      is ∙ (λ i. later (s.newest h entries r i) (finds h one.0 one.2 i))
      ∙ ap (λ (o : Option Entry). later (newest key instant (flat (take at entries))) o) (sym (newest_first key instant one.0 (read_ordered mid t one.0 one.2)))
      ∙ sym (newest_more key instant at entries one.0 one.1);
}

-- a call that gave up in one table
pub stopped : (honest : Bool) (old mid new : Meaning) (before mid_readers : List Reader) (key : List ℕ) (instant at : ℕ) (best : Option Found) (t u : Reader)
    → Searching honest old mid before mid_readers key instant at best
    → slice_get mid_readers at ≡ Some t → IsSameTable t u → LooksOn honest mid new
    → (IsTrue honest → (es : List Entry) → Reads mid t es → Reads new u es)
    → IsTrue honest → (entries : List (List Entry)) → AreRead old before entries → AreRead new (set mid_readers at u) entries
stopped honest old mid new before mid_readers key instant at best t u s here same looks reads h entries r =
    let now = s.reads h entries r in
    let one = read_at mid mid_readers entries at t now here in
    read_set new mid_readers entries at u one.0 (all_read_on honest mid new mid_readers entries looks h now) one.1 (reads h one.0 one.2)

-- all tables were asked
pub found_in_all : (honest : Bool) (old new : Meaning) (before after : List Reader) (key : List ℕ) (instant at : ℕ) (found : Option Found) (entries : List (List Entry))
    → Searching honest old new before after key instant at found → IsTrue honest → AreRead old before entries → length before ≤ at
    → option_map (entry_found key) found ≡ newest key instant (flat entries)
found_in_all honest old new before after key instant at found entries s h r le =
    let e = length_read old before entries r in
    s.newest h entries r ∙ ap (λ (ess : List (List Entry)). newest key instant (flat ess)) (take_all at entries (omega arith))

-- a table of which something holds, as that it has a wrong block, is one of those that were there at first
pub table_before : (Holds : disk.DiskEntry → List Handle → Type 0) (old mid : Meaning) (before mid_readers : List Reader) (at : ℕ) (u : Reader) → state_in mid ≡ state_in old
    → AreSameTables before mid_readers → slice_get mid_readers at ≡ Some u → Holds (entry_at mid u.name) u.handles
    → (at : ℕ) × (t : Reader) × (slice_get before at ≡ Some t) × Holds (entry_at old t.name) t.handles
table_before Holds old mid before mid_readers at u same tables here is =
    let t = same_at before mid_readers at u tables here in
    let there : entry_at mid u.name ≡ entry_at old t.0.name = ap (λ (s : DiskState). (s u.name).now) same ∙ ap (λ (n : disk.Name). entry_at old n) t.2.name in
    (at, t.0, t.1, subst (λ (hs : List Handle). Holds (entry_at old t.0.name) hs) t.2.handles (subst (λ (e : disk.DiskEntry). Holds e u.handles) there is))
