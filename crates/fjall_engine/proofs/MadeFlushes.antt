-- What a flush made is known whole: a table's bytes have one list of entries.
use Rattle.std.proofs.Common.{◌≡◌, ◌<◌, ◌^◌, ℕ, List, [], ◌∷◌, None, length, refl, sym, ◌∙◌, ap, subst}
use Rattle.std.proofs.Math.Logic.{∥∥₁_elim}
use Rattle.std.proofs.Props.{props}
use Rattle.std.specs.Coded.{Coded, Coded-set, codes, coded_list, coded_ℕ}
use Rattle.std.specs.List.{AllByRecursion}
use Rattle.std.specs.declared.cmp.Ordering.{Ordering}
use Rattle.std.specs.declared.cmp.Ordering.TheVariants.{Less, Equal, Greater}
use Rattle.fjall_base.specs.Pairs.{byte_order}
use Rattle.fjall_jobs.specs.declared.flush_made.FlushMade.{FlushMade}
use Rattle.fjall_jobs.specs.declared.made_table.MadeTable.{MadeTable}
use Rattle.fjall_jobs.specs.Made.{flush_clears, flush_tables, flushed_task}
use Rattle.fjall_jobs.specs.Sequences.{AreMadeTables, AreParted, IsMadeTable}
use Rattle.fjall_jobs.specs.Tasks.{IsFlushed, Task}
use Rattle.fjall_jobs.proofs.Made.{was_flushed}
use Rattle.fjall_memtable.specs.Sorted.{flat}
use Rattle.fjall_table.specs.Blocks.{Entry, IsBlock, IsEntry, IsOrdered, StandsBefore}
use Rattle.fjall_table.specs.Tables.{AreBlocks, AreFull, IsTable, entries_of, table_text}
use Rattle.fjall_table.proofs.TableLaws.{one_list_of_entries, one_parting}
use Rattle.fjall_memtable.specs.Jobs.{Same, flushed}

-- ---- a table is one in one way

entry_prop : (v : Entry) → IsProp (IsEntry v)
entry_prop v = hlevel props

entries_prop : (vs : List Entry) → IsProp (AllByRecursion IsEntry vs)
entries_prop [] = hlevel props
entries_prop (v ∷ vs) = hlevel (props, entry_prop v, entries_prop vs)

before_prop : (o : Ordering) (n m : ℕ) → IsProp (StandsBefore o n m)
before_prop Less n m = hlevel props
before_prop Equal n m = hlevel props
before_prop Greater n m = hlevel props

pub ordered_prop : (vs : List Entry) → IsProp (IsOrdered vs)
ordered_prop [] = hlevel props
ordered_prop (v ∷ []) = hlevel props
ordered_prop (v ∷ w ∷ vs) = hlevel (props, before_prop (byte_order v.key w.key) v.number w.number, ordered_prop (w ∷ vs))

block_prop : (vs : List Entry) → IsProp (IsBlock vs)
block_prop vs = hlevel (props, entries_prop vs, ordered_prop vs)

each_prop : (blocks : List (List Entry)) → IsProp (AllByRecursion IsBlock blocks)
each_prop [] = hlevel props
each_prop (b ∷ blocks) = hlevel (props, block_prop b, each_prop blocks)

full_prop : (blocks : List (List Entry)) → IsProp (AreFull blocks)
full_prop [] = hlevel props
full_prop (b ∷ []) = hlevel props
full_prop (b ∷ next ∷ blocks) = hlevel (props, full_prop (next ∷ blocks))

blocks_prop : (blocks : List (List Entry)) → IsProp (AreBlocks blocks)
blocks_prop blocks = hlevel (props, each_prop blocks, full_prop blocks, ordered_prop (entries_of blocks))

pub coded_entry : Coded Entry
coded_entry = hlevel codes

-- what is said of a table's blocks
abbrev IsOfBlocks : List ℕ → List Entry → List (List Entry) → Type 0
IsOfBlocks bytes entries blocks = AreBlocks blocks × (entries ≡ entries_of blocks) × (bytes ≡ table_text blocks) × (length bytes < 2 ^ 64)

of_blocks_prop : (bytes : List ℕ) (entries : List Entry) (blocks : List (List Entry)) → IsProp (IsOfBlocks bytes entries blocks)
of_blocks_prop bytes entries blocks =
    hlevel (props, blocks_prop blocks, Coded-set (coded_list coded_entry) entries (entries_of blocks), Coded-set (coded_list coded_ℕ) bytes (table_text blocks))

abbrev of_blocks : (bytes : List ℕ) (entries : List Entry) (blocks : List (List Entry)) → IsOfBlocks bytes entries blocks → IsTable bytes entries
of_blocks bytes entries blocks is = record { blocks = blocks; are = is.0; all = is.1; text = is.2; fits = is.3 }

table_prop : (bytes : List ℕ) (entries : List Entry) → IsProp (IsTable bytes entries)
table_prop bytes entries x y =
    subst (λ (blocks : List (List Entry)). (is : IsOfBlocks bytes entries blocks) → x ≡ of_blocks bytes entries blocks is)
    (one_parting x.blocks y.blocks x.are.each y.are.each x.are.full y.are.full (sym x.all ∙ y.all))
    (λ is. ap (of_blocks bytes entries x.blocks) (of_blocks_prop bytes entries x.blocks (x.are, x.all, x.text, x.fits) is)) (y.are, y.all, y.text, y.fits)

-- ---- several

made_prop : (t : MadeTable) (entries : List Entry) → IsProp (IsMadeTable t entries)
made_prop t entries = hlevel (props, table_prop t.bytes.items entries)

pub all_made_prop : (tables : List MadeTable) (lists : List (List Entry)) → IsProp (AreMadeTables tables lists)
all_made_prop [] [] = hlevel props
all_made_prop [] (l ∷ lists) = hlevel props
all_made_prop (t ∷ tables) [] = hlevel props
all_made_prop (t ∷ tables) (l ∷ lists) = hlevel (props, made_prop t l, all_made_prop tables lists)

pub one_lists : (tables : List MadeTable) (a b : List (List Entry)) → AreMadeTables tables a → AreMadeTables tables b → a ≡ b
one_lists [] [] [] one two = refl
one_lists [] [] (l ∷ b) one two = absurd two
one_lists [] (k ∷ a) b one two = absurd one
one_lists (t ∷ tables) [] b one two = absurd one
one_lists (t ∷ tables) (k ∷ a) [] one two = absurd two
one_lists (t ∷ tables) (k ∷ a) (l ∷ b) one two =
    λ i. one_list_of_entries t.bytes.items k l one.0.table two.0.table i ∷ one_lists tables a b one.1 two.1 i

-- ---- what a flush made

parted_prop : (lists : List (List Entry)) → IsProp (AreParted None lists)
parted_prop [] = hlevel props
parted_prop (l ∷ []) = hlevel props
parted_prop (l ∷ k ∷ lists) = hlevel props

pub same_prop : (xs ys : List Entry) → IsProp (Same xs ys)
same_prop xs ys = hlevel props

abbrev IsFlushedIn : Task → List MadeTable → List ℕ → List (List Entry) → Type 0
IsFlushedIn task tables clears lists =
    AreMadeTables tables lists × AreParted None lists × IsOrdered (flat lists) × Same (flat lists) (flushed task.watermark task.clears (flat task.runs)) × (clears ≡ task.clears)

flushed_in_prop : (task : Task) (tables : List MadeTable) (clears : List ℕ) (lists : List (List Entry)) → IsProp (IsFlushedIn task tables clears lists)
flushed_in_prop task tables clears lists =
    hlevel (
      props,
      all_made_prop tables lists,
      parted_prop lists,
      ordered_prop (flat lists),
      same_prop (flat lists) (flushed task.watermark task.clears (flat task.runs)),
      Coded-set (coded_list coded_ℕ) clears task.clears,
    )

abbrev flushed_in : (task : Task) (tables : List MadeTable) (clears : List ℕ) (lists : List (List Entry)) → IsFlushedIn task tables clears lists → IsFlushed task tables clears
flushed_in task tables clears lists is = record { lists = lists; made = is.0; parted = is.1; ordered = is.2; kept = is.3; clears_are = is.4 }

flushed_prop : (task : Task) (tables : List MadeTable) (clears : List ℕ) → IsProp (IsFlushed task tables clears)
flushed_prop task tables clears x y =
    subst (λ (lists : List (List Entry)). (is : IsFlushedIn task tables clears lists) → x ≡ flushed_in task tables clears lists is) (one_lists tables x.lists y.lists x.made y.made)
    (λ is. ap (flushed_in task tables clears x.lists) (flushed_in_prop task tables clears x.lists (x.made, x.parted, x.ordered, x.kept, x.clears_are) is))
    (y.made, y.parted, y.ordered, y.kept, y.clears_are)

-- what was made of a task is so
pub flushed_of : (made : FlushMade) → IsFlushed (flushed_task made) (flush_tables made) (flush_clears made)
flushed_of made = ∥∥₁_elim (was_flushed made) (flushed_prop (flushed_task made) (flush_tables made) (flush_clears made)) (λ is. is)
