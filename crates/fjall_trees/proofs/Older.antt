-- What tables hold is older than what is in memory, and stays so.
use Rattle.std.proofs.Common.{◌≡◌, ℕ, ◌<◌, ◌==◌, not, List, [], refl, sym, subst}
use Rattle.std.proofs.lemmas.List.Elements.{All-filter, All-nil, All-push, All-weaker}
use Rattle.fjall_base.specs.Disk.{Meaning}
use Rattle.fjall_journal.specs.Ops.{BatchItem}
use Rattle.fjall_table.specs.Blocks.{Entry}
use Rattle.fjall_memtable.specs.Jobs.{AreBelow}
use Rattle.fjall_memtable.proofs.Tests.{all_of}
use Rattle.fjall_memtable.specs.Sorted.{flat}
use Rattle.fjall_memtable.specs.Parts.{empty_from, with_clear, with_version}
use Rattle.fjall_tree.specs.Puts.{bare_tree}
use Rattle.fjall_tree.specs.Trees.{ReadsAll, Shape, emptied, floor_of, sealed_off, written}
use Rattle.fjall_tree.proofs.Changes.{first_same, first_sealed}
use Rattle.fjall_trees.specs.Forests.{Forest, altered_at, without}
use Rattle.fjall_trees.specs.Tables.{AreReadOn}
use Rattle.fjall_trees.specs.Writes.{pushed, with_tree}
use Rattle.fjall_trees.proofs.Changing.{one_keeps, pushed_keeps}
use Rattle.fjall_trees.specs.MapTables.{AreOlder, IsOlder, no_entries}

-- ---- one tree

older_still : (old new : Shape) (entries : List (List Entry)) → floor_of new.memory ≡ floor_of old.memory → IsOlder old entries → IsOlder new entries
older_still old new entries same is = record { below = subst (λ (n : ℕ). AreBelow n (flat entries)) (sym same) is.below; once = is.once }

nothing_older : (shape : Shape) → IsOlder shape []
nothing_older shape = record { below = All-nil (λ (v : Entry). v.number < floor_of shape.memory); once = tt }

-- ---- all trees

pub none_older : (trees : Forest) → AreOlder trees no_entries
none_older trees = all_of (λ k. IsOlder k.shape []) trees (λ k. nothing_older k.shape)

pub read_older : (disk : Meaning) (trees : Forest) (entries : ℕ → List (List Entry)) → AreReadOn disk trees entries → AreOlder trees entries
read_older disk trees entries r = All-weaker (λ k. ReadsAll disk k.shape (entries k.id)) (λ k. IsOlder k.shape (entries k.id)) (λ k is. record { below = is.below; once = is.once }) trees r

pub pushed_older : (n : ℕ) (items : List BatchItem) (trees : Forest) (entries : ℕ → List (List Entry)) → AreOlder trees entries → AreOlder (pushed n items trees) entries
pushed_older n items trees entries older =
    pushed_keeps IsOlder trees entries older
    (λ v shape es is. older_still shape (written v shape) es (first_same shape.memory.sealed shape.memory.active (with_version v shape.memory.active) refl) is) n items

pub emptied_older : (n id : ℕ) (trees : Forest) (entries : ℕ → List (List Entry)) → AreOlder trees entries → AreOlder (altered_at id (emptied n) trees) entries
emptied_older n id trees entries older =
    one_keeps IsOlder trees entries older (emptied n)
    (λ shape es is. older_still shape (emptied n shape) es (first_same shape.memory.sealed shape.memory.active (with_clear n shape.memory.active) refl) is) id

pub rotated_older : (id : ℕ) (trees : Forest) (entries : ℕ → List (List Entry)) → AreOlder trees entries → AreOlder (altered_at id sealed_off trees) entries
rotated_older id trees entries older =
    one_keeps IsOlder trees entries older sealed_off
    (λ shape es is. older_still shape (sealed_off shape) es (first_sealed shape.memory.sealed shape.memory.active (empty_from shape.memory.active.until)) is) id

pub planted_older : (id from : ℕ) (trees : Forest) (entries : ℕ → List (List Entry)) → AreOlder trees entries → entries id ≡ [] → AreOlder (with_tree id from trees) entries
planted_older id from trees entries older none =
    All-push (λ k. IsOlder k.shape (entries k.id)) trees (record { id = id; shape = bare_tree from }) older (subst (IsOlder (bare_tree from)) (sym none) (nothing_older (bare_tree from)))

pub dropped_older : (id : ℕ) (trees : Forest) (entries : ℕ → List (List Entry)) → AreOlder trees entries → AreOlder (without id trees) entries
dropped_older id trees entries older = All-filter (λ k. not (k.id == id)) (λ k. IsOlder k.shape (entries k.id)) trees older
