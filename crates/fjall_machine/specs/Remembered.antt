-- What an engine holds in memory, and the states that it stands for.
use Rattle.std.specs.Prelude.{◌≡◌, ◌≢◌, ◌⊎◌, ℕ, ◌+◌, ◌≤◌, ◌<◌, ◌^◌, ◌||◌, not, Bool, IfSome, None, Option, true, false, nat_le, Some, ◌==◌, ◌&&◌, if◌then◌else◌, List, [], ◌∷◌, ◌++◌, All, is_some}
use Rattle.std.specs.Ordering.{nat_cmp}
use Rattle.std.specs.Coded.{Coded, coded_ℕ}
use Rattle.std.specs.FinMap.{FinMap, code, empty, get, insert, remove, values}
use Rattle.fjall_base.specs.Pairs.{Bytes}
use Rattle.fjall_base.specs.Store.{kept, map_at}
use Rattle.fjall_journal.specs.Changes.{Change}
use Rattle.fjall_journal.specs.Writer.{counted}
use Rattle.fjall_files.specs.Journals.{Journals, Sealed, next_journal}
use Rattle.fjall_files.specs.Places.{JournalPlaces, told}
use Rattle.fjall_meta.specs.declared.living.LivingKeyspace.{LivingKeyspace}
use Rattle.fjall_meta.specs.Keyspaces.{AreKeyspaces, Keyspaces, keyspace_at, with_keyspace, without_keyspace}
use Rattle.fjall_table.specs.Blocks.{Entry}
use Rattle.fjall_table_reader.specs.Readers.{Reader}
use Rattle.fjall_manifest.specs.Catalog.{fields, first_of}
use Rattle.fjall_meta.specs.Contents.{is_beyond}
use Rattle.fjall_replay.specs.Known.{LastFields, last_known}
use Rattle.fjall_tree.specs.Ingestions.{is_flush_due}
use Rattle.fjall_tree.specs.Jobs.{flush_begun, flush_dropped, flush_finished, merge_begun, merge_dropped, merge_finished}
use Rattle.fjall_tree.specs.Jobs as lsm
use Rattle.fjall_tree.specs.Trees.{Flushing, Merging, sealed_off}
use Rattle.fjall_jobs.specs.Tasks.{Task}
use Rattle.fjall_manifest.specs.Records.{Fields}
use Rattle.fjall_trees.specs.Forests.{AreBefore, Forest, IsForest, altered_at, tree_at}
use Rattle.fjall_trees.specs.Forests as forests
use Rattle.fjall_trees.specs.Tables.{AreSameTrees, shape_in}
use Rattle.fjall_trees.specs.Writes.{with_tree}
use Rattle.fjall_trees.specs.Maps.{store_of}
use Rattle.fjall_trees.specs.MapTables.{AreOlder, pairs_with, store_with}
use Rattle.fjall_history.specs.declared.ticket.View.{View}
use Rattle.fjall_history.specs.declared.ticket.View.TheVariants.{Present, At}
use Rattle.fjall_history.specs.Histories.{number, view}
use Rattle.fjall_history.specs.Tickets.{Tickets, collected, no_tickets}
pub use Rattle.fjall_history.specs.Tickets.{IsDueOrMemory}
use Rattle.fjall_machine.specs.Machine.{Facts, State, changed, handles_of, instant_of, is_among, is_deleted, one_less, one_more, present, with_marks, without_id}

-- The keyspaces that live, the trees of keyspaces, the next number, whether a fault has poisoned the engine, how many
-- handles of each keyspace are counted, the deleted keyspaces whose last maps are still read, the tickets, the journals, the last
-- records of keyspaces that are kept, the number that the next job gets, and how many merges were finished and took effect.
pub record Remembered : Type 0 where
  pub keyspaces : Keyspaces
  pub trees : Forest
  pub next : ℕ
  pub poisoned : Bool
  pub handles : FinMap nat_cmp ℕ
  pub lasting : List ℕ
  pub tickets : Tickets
  pub journals : Journals
  pub records : LastFields
  pub next_job : ℕ
  pub merges_done : ℕ

-- A flush that is out has a number that was given out, and a watermark that was reached.
abbrev pub IsFlushBegun : ℕ → ℕ → Option Flushing → Type 0
IsFlushBegun next_job watermark flush = IfSome flush (λ out. (out.id < next_job) × (out.watermark ≤ watermark))

-- so has a merge
abbrev pub IsMergeBegun : ℕ → ℕ → Option Merging → Type 0
IsMergeBegun next_job watermark merge = IfSome merge (λ out. (out.id < next_job) × (out.watermark ≤ watermark))

-- Keyspaces and what trees hold were made under lesser numbers than the next one, which is at most 2^63. Each keyspace that
-- lives has a tree and a record, and both are of ids that were given out. Tickets read at numbers up to the next one, above the
-- watermark. Flushes and merges that are out were begun. Numbers of jobs are those of 64 bits.
pub record IsLawful (m : Remembered) : Type 0 where
  pub keyspaces : AreKeyspaces m.keyspaces
  pub made : All (λ k. k.number < m.next) m.keyspaces.living
  pub forest : IsForest m.trees
  pub planted : All (λ k. is_some (tree_at k.id m.trees) ≡ true) m.keyspaces.living
  pub given : All (λ k. k.id < m.keyspaces.next) m.trees
  pub below : AreBefore m.next m.trees
  pub small : m.next ≤ 2 ^ 63
  pub reached : All (λ instant. instant ≤ m.next) (values m.tickets.instants)
  pub spared : 0 < m.tickets.watermark → m.tickets.watermark < m.next
  pub above : All (λ instant. 0 < m.tickets.watermark → m.tickets.watermark < instant) (values m.tickets.instants)
  pub recorded : All (λ k. is_some (get m.records k.id) ≡ true) m.keyspaces.living
  pub kept : (id : ℕ) → m.keyspaces.next ≤ id → get m.records id ≡ None
  pub begun : All (λ k. IsFlushBegun m.next_job m.tickets.watermark k.shape.flush) m.trees
  pub merging : All (λ k. IsMergeBegun m.next_job m.tickets.watermark k.shape.merge) m.trees
  pub jobs : m.next_job < 2 ^ 64

-- how counts of handles are told apart
abbrev pub handles_code : Coded (FinMap nat_cmp ℕ)
handles_code = code coded_ℕ coded_ℕ

-- what is known of the journals, whose active one has these watermarks with places
abbrev pub journals_of : List Sealed → ℕ → JournalPlaces → Journals
journals_of sealed active places = record { sealed = sealed; active = active; watermarks = told places }

-- What refusals look at, the id of tree 0's next table being this one: of the store its names and options and the next id, so that
-- what tables hold doesn't matter.
abbrev pub facts_of : Remembered → ℕ → Facts
facts_of m table = record { store = store_of m.keyspaces m.trees; next = m.next; poisoned = m.poisoned; lasting = m.lasting; handles = m.handles; tickets = m.tickets; table = table; active = m.journals.active }

-- the instant at which a view reads: the next number, or where its ticket does
abbrev pub instant_in : Remembered → View → ℕ
instant_in m Present = m.next
instant_in m (At ticket) = instant_of m.tickets ticket.id

-- an instant at which something reads: the present's, or an open ticket's
abbrev pub IsReadAt : Remembered → ℕ → Type 0
IsReadAt m instant = (instant ≡ m.next) ⊎ ((ticket : ℕ) × (get m.tickets.instants ticket ≡ Some instant))

-- what was held of the keyspace is still there: it lives, is deleted and still read, or was never made
abbrev pub is_held : Remembered → ℕ → Bool
is_held m id = is_some (keyspace_at id m.keyspaces.living) || (is_among m.lasting id || nat_le m.keyspaces.next id)

-- What tables hold is older than what is in memory; a keyspace without a table has nothing there, nor has an id that wasn't given out
-- yet.
pub record AreBeside (m : Remembered) (entries : ℕ → List (List Entry)) : Type 0 where
  pub older : AreOlder m.trees entries
  pub none : All (λ k. k.shape.tables ≡ [] → entries k.id ≡ []) m.trees
  pub unused : (id : ℕ) → m.keyspaces.next ≤ id → entries id ≡ []

-- The state is one that an engine may be in that holds this in memory, where tables hold what the state says: its present is what
-- the trees and their tables show of the keyspaces, but for deleted ones; at each instant at which something reads, the view's
-- maps are what they show then; and the tickets, what is known of the journals, the last records of keyspaces that live, and the
-- trees are the same, whatever is kept of tables.
pub record MemoryStandsFor (m : Remembered) (table : ℕ) (s : State) : Type 0 where
  pub present : kept (present s) ≡ kept (store_with s.parts.entries m.keyspaces m.trees)
  pub views : (instant : ℕ) → IsReadAt m instant → (id : ℕ) → is_held m id ≡ true → map_at (view s.history instant).maps id ≡ pairs_with s.parts.entries id instant m.trees
  pub number : number s.history ≡ m.next
  pub poisoned : s.poisoned ≡ m.poisoned
  pub handles : s.handles ≡ m.handles
  pub lasting : s.lasting ≡ m.lasting
  pub tickets : s.tickets ≡ m.tickets
  pub next_job : s.next_job ≡ m.next_job
  pub merges_done : s.merges_done ≡ m.merges_done
  pub records : All (λ k. s.parts.records k.id ≡ last_known m.records k) m.keyspaces.living
  pub next_table : s.parts.table ≡ table
  pub trees : AreSameTrees s.parts.trees m.trees
  pub beside : AreBeside m s.parts.entries
  pub journals : s.parts.journals ≡ m.journals
  pub lawful : IsLawful m

-- just opened, with the watermark of no ticket
abbrev pub remembered : Keyspaces → Forest → ℕ → Journals → LastFields → Remembered
remembered keyspaces trees next journals records = record {
  keyspaces = keyspaces;
  trees = trees;
  next = next;
  poisoned = false;
  handles = empty;
  lasting = [];
  tickets = collected next no_tickets;
  journals = journals;
  records = records;
  next_job = 0;
  merges_done = 0;
}

-- ---- what calls make of it

-- with a change more, which took the next number
abbrev pub with_change : Change → Remembered → Remembered
with_change change m = record m { trees = changed m.next change m.trees; next = m.next + 1; journals = with_marks m.next change m.journals }

-- with a keyspace more, made under the next number, its tree, which holds nothing, and its first record
abbrev pub with_creation : Bytes → List Bytes → Remembered → Remembered
with_creation name options m = record m {
  keyspaces = with_keyspace name options m.next m.keyspaces;
  trees = with_tree m.keyspaces.next m.next m.trees;
  next = m.next + 1;
  records = insert m.records m.keyspaces.next (fields (first_of m.next));
}

-- with a keyspace less, which took the next number; its tree stays, since its last map is still read
abbrev pub with_deletion : ℕ → Remembered → Remembered
with_deletion id m = record m { keyspaces = without_keyspace id m.keyspaces; next = m.next + 1; lasting = m.lasting ++ id ∷ [] }

-- a handle more is counted
abbrev pub retained : ℕ → Remembered → Remembered
retained id m = record m { handles = one_more m.handles id }

-- the tree of a deleted keyspace is dropped, and its last record
abbrev pub let_go : ℕ → Remembered → Remembered
let_go id m = record m { lasting = without_id m.lasting id; trees = forests.without id m.trees; records = remove m.records id }

-- the last handle of a deleted keyspace is counted
abbrev pub is_last_in_memory : Remembered → ℕ → Bool
is_last_in_memory m id = is_deleted (store_of m.keyspaces m.trees) id && (handles_of m.handles id == 1)

-- A handle less is counted. With the last one of a deleted keyspace go its tree and its last record.
abbrev pub released_in_memory : ℕ → Remembered → Remembered
released_in_memory id m = record m {
  handles = one_less m.handles id;
  lasting = if is_last_in_memory m id then without_id m.lasting id else m.lasting;
  trees = if is_last_in_memory m id then forests.without id m.trees else m.trees;
  records = if is_last_in_memory m id then remove m.records id else m.records;
}

-- with the active memtable of a keyspace sealed, and the watermark raised
abbrev pub rotated_in_memory : ℕ → Remembered → Remembered
rotated_in_memory id m = record m { trees = altered_at id sealed_off m.trees; tickets = collected m.next m.tickets }

-- with the active journal, whose file has so many bytes, sealed, and an empty one of the next number
abbrev pub journal_rotated_in_memory : ℕ → Remembered → Remembered
journal_rotated_in_memory len m = record m { journals = next_journal len m.journals }

-- with these trees, which a read may leave more of in memory
abbrev pub with_trees : Forest → Remembered → Remembered
with_trees trees m = record m { trees = trees }

-- with these tickets
abbrev pub with_tickets : Tickets → Remembered → Remembered
with_tickets tickets m = record m { tickets = tickets }

-- poisoned
abbrev pub poisoned : Remembered → Remembered
poisoned m = record m { poisoned = true }

-- ---- flushes

-- with a flush of all sealed memtables of a keyspace out, under the next number of a job and the watermark of now
abbrev pub flush_out_in_memory : ℕ → Remembered → Remembered
flush_out_in_memory id m = record m { trees = altered_at id (flush_begun m.next_job m.tickets.watermark) m.trees; next_job = m.next_job + 1 }

-- with no flush of a keyspace out
abbrev pub flush_gone_in_memory : ℕ → Remembered → Remembered
flush_gone_in_memory id m = record m { trees = altered_at id flush_dropped m.trees }

-- With the flush of a keyspace finished that was out, with the readers of its tables, and with the keyspace's record after it.
abbrev pub with_flush : ℕ → Flushing → List Reader → Fields → Remembered → Remembered
with_flush id out readers last m = record m { trees = altered_at id (flush_finished readers out) m.trees; records = insert m.records id last }

-- A flush was begun with this task, of some memtables, under a number that was given out; where it is still out, and no ingestion has made it
-- stale, its tree was begun with it.
abbrev pub KnowsTask : Remembered → Task → Type 0
KnowsTask m task =
    (task.id < m.next_job) × (is_flush_due task.id (shape_in task.keyspace m.trees).flush ≡ true → lsm.IsFlushing (shape_in task.keyspace m.trees) task)
    × (task.runs ≢ [])

-- ---- merges

-- with a merge of all tables of a keyspace out, under the next number of a job and the watermark of now
abbrev pub merge_out_in_memory : ℕ → Remembered → Remembered
merge_out_in_memory id m = record m { trees = altered_at id (merge_begun m.next_job m.tickets.watermark) m.trees; next_job = m.next_job + 1 }

-- with no merge of a keyspace out
abbrev pub merge_gone_in_memory : ℕ → Remembered → Remembered
merge_gone_in_memory id m = record m { trees = altered_at id merge_dropped m.trees }

-- With the merge of a keyspace finished that was out, with the readers of its tables, and with the keyspace's record after it.
abbrev pub with_merge : ℕ → Merging → List Reader → Fields → Remembered → Remembered
with_merge id out readers last m = record m { trees = altered_at id (merge_finished readers out) m.trees; records = insert m.records id last }

-- with a merge more that took effect, up to the greatest u64
abbrev pub with_merge_done : Remembered → Remembered
with_merge_done m = record m { merges_done = counted (m.merges_done + 1) }

-- whether no journal is wanted for the changes of a keyspace up to a number, as its last record tells where it lives
abbrev pub flushed_of : LastFields → Option LivingKeyspace → ℕ → Bool
flushed_of records None lsn = true
flushed_of records (Some k) lsn = not (is_beyond (last_known records k).persisted lsn)

-- the same of the keyspace of an id
abbrev pub flushed_by : Keyspaces → LastFields → ℕ → ℕ → Bool
flushed_by s records id lsn = flushed_of records (keyspace_at id s.living) lsn

-- with these sealed journals
abbrev pub with_sealed_in_memory : List Sealed → Remembered → Remembered
with_sealed_in_memory sealed m = record m { journals = record m.journals { sealed = sealed } }
