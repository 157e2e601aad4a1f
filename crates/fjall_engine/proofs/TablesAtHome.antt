-- A core's disk has the tables of its trees still, where the keyspaces' homes stay and trees change in memory alone.
use Rattle.std.proofs.Common.{◌≡◌, ◌≢◌, ◌⊎◌, inl, inr, ℕ, zero, suc, ◌<◌, ◌≤◌, ◌^◌, ◌==◌, Bool, true, false, not, List, [], ◌∷◌, All, AllPairs, Some, map, slice_get, get_or, refl, sym, ◌∙◌, ap, subst}
use Rattle.std.proofs.lemmas.List.Elements.{All-cons, All-filter, All-head, All-push, All-tail, All-weaker}
use Rattle.std.proofs.lemmas.Bool.{true≢false}
use Rattle.fjall_base.specs.Disk as disk
use Rattle.fjall_base.specs.Disk.{Meaning, Name, Place, state_in}
use Rattle.fjall_files.specs.Regions.{is_under}
use Rattle.fjall_files.specs.Names.{keyspace_folder, table_name}
use Rattle.fjall_journal.specs.Changes.{Change}
use Rattle.fjall_recovery.specs.Halves.{is_of_keyspaces}
use Rattle.fjall_table.specs.declared.table_info.TableInfo.{TableInfo}
use Rattle.fjall_table.specs.Blocks.{Entry}
use Rattle.fjall_table_reader.specs.Files.{entry_at}
use Rattle.fjall_table_reader.specs.Readers.{AreRead, AreSameTables, HoldsAWrongBlock, IsTableBut, Reader, SomeTableIsWrong}
use Rattle.fjall_table_reader.proofs.Several.{same_at}
use Rattle.fjall_manifest.proofs.Naming.{table_under}
use Rattle.fjall_replay.specs.Known.{AreListed, IsGiven}
use Rattle.fjall_replay.proofs.ListedTables.{listed_later, none_listed}
use Rattle.fjall_tree.specs.Puts.{bare_tree}
use Rattle.fjall_tree.specs.Trees.{sealed_off}
use Rattle.fjall_trees.specs.Forests.{Forest, Planted, altered_at, without}
use Rattle.fjall_trees.specs.Tables.{AreReadOn, AreSameTrees}
use Rattle.fjall_trees.specs.Writes.{with_tree}
use Rattle.fjall_changes.specs.Journaling.{KeepsHome, KeepsHomes, KeepsOtherHomes}
use Rattle.fjall_machine.specs.Machine.{State, changed, is_among}
use Rattle.fjall_machine.proofs.SameTrees.{all_same, altered_tables, changed_tables}
use Rattle.fjall_engine.specs.Holding.{Held}
use Rattle.fjall_engine.specs.Standing.{LieAtHome, ReadsOn, StandsFor}

-- ---- tables on a disk

-- the tables' files are as they were
abbrev pub HaveFiles : Meaning → Meaning → List Reader → Type 0
HaveFiles old new tables = All (λ t. entry_at new t.name ≡ entry_at old t.name) tables

-- a keyspace's own tables are in its folder
pub under_home : (id next : ℕ) (tables : List Reader) → AreListed id next tables → All (λ t. is_under (keyspace_folder id) t.name ≡ true) tables
under_home id next tables listed =
    All-weaker (IsGiven id next) (λ (t : Reader). is_under (keyspace_folder id) t.name ≡ true) (λ t given. ap (is_under (keyspace_folder id)) given.2 ∙ table_under id t.info.id) tables listed.given

-- so they are where the keyspace's home is
pub kept_files : (old new : Meaning) (id : ℕ) (tables : List Reader) → KeepsHome old new id → All (λ t. is_under (keyspace_folder id) t.name ≡ true) tables → HaveFiles old new tables
kept_files old new id tables home named =
    All-weaker (λ (t : Reader). is_under (keyspace_folder id) t.name ≡ true) (λ t. entry_at new t.name ≡ entry_at old t.name) (λ t is. home t.name is) tables named

pub files_read : (old new : Meaning) (tables : List Reader) (entries : List (List Entry)) → HaveFiles old new tables → AreRead old tables entries → AreRead new tables entries
files_read old new [] [] same r = tt
files_read old new [] (es ∷ entries) same r = r
files_read old new (t ∷ tables) [] same r = r
files_read old new (t ∷ tables) (es ∷ entries) same r =
    let file = All-head (λ (u : Reader). entry_at new u.name ≡ entry_at old u.name) t tables same in
    let reads = r.0.reads in (
      record {
        blocks = r.0.blocks;
        all = r.0.all;
        reads = record { table = subst (λ (e : disk.DiskEntry). IsTableBut e t.info r.0.blocks) (sym file) reads.table; index = reads.index; kept = reads.kept };
      },
      files_read old new tables entries (All-tail (λ (u : Reader). entry_at new u.name ≡ entry_at old u.name) t tables same) r.1,
    )

-- what holds of each table holds of the one at a place
at_place : (P : Reader → Type 0) (tables : List Reader) (at : ℕ) (t : Reader) → All P tables → slice_get tables at ≡ Some t → P t
at_place P [] at t all has = absurd cc
at_place P (u ∷ tables) zero t all has = subst P (some_in u t has) (All-head P u tables all)
  where
    some_in : (a b : Reader) → Some a ≡ Some b → a ≡ b
    some_in a b same = cc
at_place P (u ∷ tables) (suc at) t all has = at_place P tables at t (All-tail P u tables all) has

pub files_wrong : (old new : Meaning) (tables : List Reader) → HaveFiles old new tables → SomeTableIsWrong new tables → SomeTableIsWrong old tables
files_wrong old new tables same (at, t, has, wrong) =
    (at, t, has, subst (λ (e : disk.DiskEntry). HoldsAWrongBlock e t.handles) (at_place (λ u. entry_at new u.name ≡ entry_at old u.name) tables at t same has) wrong)

-- where the home stays all of it does
pub home_stays : (old new : Meaning) (id next : ℕ) (entries : List (List Entry)) (is_damaged : Bool) (tables : List Reader) → KeepsHome old new id → LieAtHome old id next entries is_damaged tables
    → LieAtHome new id next entries is_damaged tables
home_stays old new id next entries is_damaged tables home lie =
    let files = kept_files old new id tables home (under_home id next tables lie.named) in
    record { positive = lie.positive; read = files_read old new tables entries files lie.read; named = lie.named; damage = λ wrong. lie.damage (files_wrong old new tables files wrong) }

-- a keyspace without tables has none anywhere
pub no_tables : (disk : Meaning) (id next : ℕ) (entries : List (List Entry)) (is_damaged : Bool) → 0 < id → entries ≡ [] → LieAtHome disk id next entries is_damaged []
no_tables disk id next entries is_damaged some none = record {
  positive = some;
  read = subst (AreRead disk []) (sym none) tt;
  named = none_listed id next;
  damage = λ (at, t, has, wrong). let bad : ⊥ = cc in absurd bad;
}

-- ---- those of all trees

-- the tables of these trees, as a state says
abbrev pub LieThere : Meaning → State → Forest → Type 0
LieThere disk s trees = All (λ k. LieAtHome disk k.id (s.parts.records k.id).next_table_id (s.parts.entries k.id) (is_among s.damaged k.id) k.shape.tables) trees

-- the homes of the keyspaces that have these trees stay
abbrev pub HomesStay : Meaning → Meaning → Forest → Type 0
HomesStay old new trees = All (λ k. KeepsHome old new k.id) trees

pub homes_stay : (old new : Meaning) (s : State) (trees : Forest) → HomesStay old new trees → LieThere old s trees → LieThere new s trees
homes_stay old new s trees homes lie = λ i d lt.
    let k = get_or trees i d in
    home_stays old new k.id (s.parts.records k.id).next_table_id (s.parts.entries k.id) (is_among s.damaged k.id) k.shape.tables (homes i d lt) (lie i d lt)

pub all_stay : (old new : Meaning) (trees : Forest) → KeepsHomes old new → HomesStay old new trees
all_stay old new trees homes = λ i d lt. homes (get_or trees i d).id

-- tables that read no entries are none
none_given : (disk : Meaning) (id next : ℕ) (tables : List Reader) (entries : List (List Entry)) → AreRead disk tables entries → entries ≡ [] → AreListed id next tables
none_given disk id next [] entries are none = none_listed id next
none_given disk id next (t ∷ tables) [] are none = absurd are
none_given disk id next (t ∷ tables) (es ∷ entries) are none = absurd cc

-- a state that says the same of tables, and has given out more of their ids, if any
pub said_same : (disk : Meaning) (s t : State) (trees : Forest) → t.parts.entries ≡ s.parts.entries → t.damaged ≡ s.damaged
    → ((id : ℕ) → ((s.parts.records id).next_table_id ≤ (t.parts.records id).next_table_id) ⊎ (s.parts.entries id ≡ [])) → LieThere disk s trees → LieThere disk t trees
said_same disk s t trees entries damaged given lie = λ i d lt.
    let k = get_or trees i d in
    let was = lie i d lt in
    let read = subst (λ (e : ℕ → List (List Entry)). AreRead disk k.shape.tables (e k.id)) (sym entries) was.read in
    record {
      positive = was.positive;
      read = read;
      named = elim (given k.id) [
        | inl le ↦ listed_later k.id (s.parts.records k.id).next_table_id k.shape.tables was.named (t.parts.records k.id).next_table_id le
        | inr none ↦ none_given disk k.id (t.parts.records k.id).next_table_id k.shape.tables (s.parts.entries k.id) was.read none
      ];
      damage = λ wrong. ap (λ (l : List ℕ). is_among l k.id) damaged ∙ was.damage wrong;
    }

-- ---- trees that change in memory

-- the trees have the tables that others have, if any
abbrev pub CarryTables : Forest → Forest → Type 0
CarryTables old new = (disk : Meaning) (s : State) → LieThere disk s old → LieThere disk s new

-- what is said of the tables of one tree
abbrev pub Lies : Meaning → State → ℕ → List Reader → Type 0
Lies disk s id tables = LieAtHome disk id (s.parts.records id).next_table_id (s.parts.entries id) (is_among s.damaged id) tables

pub carry_all : (old new : Forest) → new ≡ old → CarryTables old new
carry_all old new same disk s lie = subst (LieThere disk s) (sym same) lie

pub carry_along : (a b c : Forest) → c ≡ b → CarryTables a b → CarryTables a c
carry_along a b c same carry disk s lie = subst (LieThere disk s) (sym same) (carry disk s lie)

pub carry_changed : (n : ℕ) (change : Change) (trees : Forest) → CarryTables trees (changed n change trees)
carry_changed n change trees disk s lie = changed_tables (Lies disk s) trees lie n change

pub carry_sealed : (id : ℕ) (trees : Forest) → CarryTables trees (altered_at id sealed_off trees)
carry_sealed id trees disk s lie = altered_tables (Lies disk s) trees lie id sealed_off (λ shape. refl)

pub carry_dropped : (id : ℕ) (trees : Forest) → CarryTables trees (without id trees)
carry_dropped id trees disk s lie = All-filter (λ k. not (k.id == id)) (λ (k : Planted). Lies disk s k.id k.shape.tables) trees lie

-- with a tree more, of a keyspace that has no table
pub planted_there : (disk : Meaning) (s : State) (id from : ℕ) (trees : Forest) → 0 < id → s.parts.entries id ≡ [] → LieThere disk s trees → LieThere disk s (with_tree id from trees)
planted_there disk s id from trees some none lie =
    All-push (λ (k : Planted). Lies disk s k.id k.shape.tables) trees (record { id = id; shape = bare_tree from }) lie (no_tables disk id (s.parts.records id).next_table_id (s.parts.entries id) (is_among s.damaged id) some none)

-- ---- a core's

-- what its trees read
pub trees_read : (core : Held) (s : State) → StandsFor core s → ReadsOn core s → AreReadOn core.disk core.memory.trees s.parts.entries
trees_read core s stands reads = λ i d lt.
    let older = stands.remembered.beside.older i d lt in
    record { tables = (reads.tables i d lt).read; below = older.below; once = older.once }

-- where its writer goes on, while no fault has poisoned it
abbrev pub IsOutside : Held → Type 0
IsOutside core = core.memory.poisoned ≡ false → is_of_keyspaces core.journal.name ≡ false

-- whatever state the core stood for, its disk has the tables still
abbrev pub KeepsReads : Held → Held → Type 0
KeepsReads old new = (s : State) → StandsFor old s → ReadsOn old s → ReadsOn new s

pub keeps_same : (old new : Held) → new ≡ old → KeepsReads old new
keeps_same old new same s stands reads = subst (λ (core : Held). ReadsOn core s) (sym same) reads

-- the homes stay, and the trees have the tables that they had
pub keeps_homes : (old new : Held) → CarryTables old.memory.trees new.memory.trees → ((s : State) → StandsFor old s → ReadsOn old s → HomesStay old.disk new.disk new.memory.trees) → (IsOutside old → IsOutside new) → KeepsReads old new
keeps_homes old new carry homes outside s stands reads = record {
  tables = homes_stay old.disk new.disk s new.memory.trees (homes s stands reads) (carry old.disk s reads.tables);
  writer = outside reads.writer;
  recorded = reads.recorded;
}

-- the disk stays as it is
pub keeps_disk : (old new : Held) → new.disk ≡ old.disk → CarryTables old.memory.trees new.memory.trees → (IsOutside old → IsOutside new) → KeepsReads old new
keeps_disk old new same carry outside s stands reads = record {
  tables = subst (λ (m : Meaning). LieThere m s new.memory.trees) (sym same) (carry old.disk s reads.tables);
  writer = outside reads.writer;
  recorded = reads.recorded;
}

-- a core that was poisoned, or whose writer goes on in the same file
pub outside_ill : (old new : Held) → new.memory.poisoned ≡ true → IsOutside old → IsOutside new
outside_ill old new ill out well = absurd (true≢false (sym ill ∙ well))

pub outside_same : (old new : Held) → new.memory.poisoned ≡ old.memory.poisoned → new.journal.name ≡ old.journal.name → IsOutside old → IsOutside new
outside_same old new flag name out well = ap is_of_keyspaces name ∙ out (sym flag ∙ well)

-- what stays of others' homes: trees of other ids, which were given out
pub others_there : (id : ℕ) (old new : Meaning) (s : State) (trees : Forest) → KeepsOtherHomes id old new → LieThere old s trees → All (λ k. k.id < 2 ^ 64) trees → All (λ k. k.id ≢ id) trees → HomesStay old new trees
others_there id old new s trees others lie fits differ = λ i d lt. others (get_or trees i d).id (lie i d lt).positive (fits i d lt) (differ i d lt)

-- ---- a read

-- what stays of a keyspace's tables, whatever is kept of them
record StaysSaid (old new : Meaning) (s : State) (id : ℕ) (tables : List Reader) : Type 0 where
  positive : 0 < id
  named : AreListed id (s.parts.records id).next_table_id tables
  damage : SomeTableIsWrong new tables → is_among s.damaged id ≡ true

given_same : (id next : ℕ) (old new : List Reader) → AreSameTables old new → All (IsGiven id next) old → All (IsGiven id next) new
given_same id next [] [] same given = given
given_same id next [] (u ∷ new) same given = absurd same
given_same id next (t ∷ old) [] same given = absurd same
given_same id next (t ∷ old) (u ∷ new) same given =
    All-cons (IsGiven id next) u new
    (subst (λ (x : Name × TableInfo). (x.1.id < next) × (x.1.id < 2 ^ 64) × (x.0 ≡ table_name id x.1.id)) (λ i. (sym same.0.name i, sym same.0.info i))
    (All-head (IsGiven id next) t old given)) (given_same id next old new same.1 (All-tail (IsGiven id next) t old given))

ids_same : (old new : List Reader) → AreSameTables old new → map (λ t. t.info.id) new ≡ map (λ t. t.info.id) old
ids_same [] [] same = refl
ids_same [] (u ∷ new) same = absurd same
ids_same (t ∷ old) [] same = absurd same
ids_same (t ∷ old) (u ∷ new) same = λ i. (same.0.info i).id ∷ ids_same old new same.1 i

named_same : (id next : ℕ) (old new : List Reader) → AreSameTables old new → AreListed id next old → AreListed id next new
named_same id next old new same named = record {
  given = given_same id next old new same named.given;
  once = subst (AllPairs (λ (a b : ℕ). a ≢ b)) (sym (ids_same old new same)) named.once;
}

wrong_before : (disk : Meaning) (old new : List Reader) → AreSameTables old new → SomeTableIsWrong disk new → SomeTableIsWrong disk old
wrong_before disk old new same (at, u, has, wrong) =
    let found = same_at old new at u same has in
    (at, found.0, found.1, subst (HoldsAWrongBlock (entry_at disk found.0.name)) found.2.handles (subst (λ (n : Name). HoldsAWrongBlock (entry_at disk n) u.handles) found.2.name wrong))

said_again : (old new : Meaning) (s : State) (id : ℕ) (a b : List Reader) → AreSameTables a b → StaysSaid old new s id a → StaysSaid old new s id b
said_again old new s id a b same said = record { positive = said.positive; named = named_same id (s.parts.records id).next_table_id a b same said.named; damage = λ wrong. said.damage (wrong_before new a b same wrong) }

-- the same tables, of which others may be kept, lie on a disk that was looked at
pub looked_lie : (old new : Meaning) (s : State) (a b : Forest) → AreSameTrees a b → AreReadOn new b s.parts.entries → KeepsHomes old new → LieThere old s a → LieThere new s b
looked_lie old new s a b same are homes lie =
    let first : All (λ k. StaysSaid old new s k.id k.shape.tables) a = λ i d lt.
    let k = get_or a i d in
    let still = home_stays old new k.id (s.parts.records k.id).next_table_id (s.parts.entries k.id) (is_among s.damaged k.id) k.shape.tables (homes k.id) (lie i d lt) in
    record { positive = still.positive; named = still.named; damage = still.damage } in
    let all = all_same (StaysSaid old new s) (said_again old new s) a b same first in
    λ i d lt. record { positive = (all i d lt).positive; read = (are i d lt).tables; named = (all i d lt).named; damage = (all i d lt).damage }

pub keeps_looked : (old new : Held) → AreSameTrees old.memory.trees new.memory.trees
    → ((s : State) → StandsFor old s → ReadsOn old s → AreReadOn new.disk new.memory.trees s.parts.entries) → KeepsHomes old.disk new.disk → (IsOutside old → IsOutside new) → KeepsReads old new
keeps_looked old new same are homes outside s stands reads = record {
  tables = looked_lie old.disk new.disk s old.memory.trees new.memory.trees same (are s stands reads) homes reads.tables;
  writer = outside reads.writer;
  recorded = reads.recorded;
}
