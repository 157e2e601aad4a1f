-- What was read of journals has sizes that trees take, and the numbers of a folder are below 2^63.
use Rattle.std.proofs.Common.{◌≡◌, inl, inr, ℕ, ◌+◌, ◌<◌, ◌≤◌, ◌^◌, List, [], ◌∷◌, ◌++◌, map, All, Option, None, Some, arith}
use Rattle.std.proofs.lemmas.List.Elements.{All-from_recursion, All-head, All-tail}
use Rattle.std.specs.List.{AllByRecursion}
use Rattle.std.specs.Prelude.{IfSome}
use Rattle.fjall_base.specs.Disk.{Image}
use Rattle.fjall_journal.specs.declared.entry.Entry.{Entry}
use Rattle.fjall_journal.specs.declared.entry.Entry.TheVariants.{Start, Item, End, Clear}
use Rattle.fjall_journal.specs.Batches.{IsChange, IsWritten, Shown, Written, items_of, shown}
use Rattle.fjall_manifest.specs.Records.{Fields}
use Rattle.fjall_meta.specs.Replays.{fault_of, first_fault, least_after}
use Rattle.fjall_meta.proofs.Viewing.{no_fault, number_fits}
use Rattle.fjall_recovery.specs.Folders.{past, past_records}
use Rattle.fjall_recovery.specs.Journals.{AreJournalsRead, WholeJournal, batches_in}
use Rattle.fjall_opening.specs.Opened.{HasNumbers, HasSizes, IsFit}

-- ---- what was read

-- the items of changes that have a spelling have such sizes
item_sizes : (changes : List Entry) → AllByRecursion IsChange changes → AllByRecursion HasSizes (items_of changes)
item_sizes [] are = tt
item_sizes (Start count number ∷ changes) are = absurd are.0
item_sizes (Item id key value kind compression ∷ changes) are = (record { some = are.0.1; key = are.0.2; value = are.0.3 }, item_sizes changes are.1)
item_sizes (End found ∷ changes) are = absurd are.0
item_sizes (Clear id ∷ changes) are = item_sizes changes are.1

both : (first bs : List Written) → AllByRecursion IsWritten first → AllByRecursion IsWritten bs → AllByRecursion IsWritten (first ++ bs)
both [] bs each more = more
both (b ∷ first) bs each more = (each.0, both first bs each.1 more)

-- what is read of journals was written
read_written : (image : Image) (journals : List WholeJournal) → AreJournalsRead image journals → AllByRecursion IsWritten (batches_in journals)
read_written image [] read = tt
read_written image (j ∷ []) (inl read) = both j.batches [] read.whole.each tt
read_written image (j ∷ []) (inr read) = both j.batches [] read.whole.each tt
read_written image (j ∷ k ∷ journals) read = both j.batches (batches_in (k ∷ journals)) read.0.whole.each (read_written image (k ∷ journals) read.1)

-- the items of each batch have such sizes
fit : (bs : List Written) → AllByRecursion IsWritten bs → AllByRecursion IsFit (map shown bs)
fit [] are = tt
fit (b ∷ bs) are = (All-from_recursion HasSizes (items_of b.changes) (item_sizes b.changes are.0.each), fit bs are.1)

-- so each batch of journals that were read is one that trees take
pub written_fit : (image : Image) (journals : List WholeJournal) → AreJournalsRead image journals → All IsFit (map shown (batches_in journals))
written_fit image journals read = All-from_recursion IsFit (map shown (batches_in journals)) (fit (batches_in journals) (read_written image journals read))

-- ---- numbers

pub least_small : (least : ℕ) (batches : List Shown) → first_fault least batches ≡ None → least ≤ 2 ^ 63 → least_after least batches ≤ 2 ^ 63
least_small least [] sound small = small
least_small least (b ∷ batches) sound small =
    let parts = no_fault (fault_of least b) (first_fault (b.number + 1) batches) sound in
    let low : b.number < 2 ^ 63 = (number_fits least b parts.0).1 in
    least_small (b.number + 1) batches parts.1 (omega (arith, low))

past_small : (number : Option ℕ) → IfSome number (λ n. n < 2 ^ 63) → past number ≤ 2 ^ 63
past_small None small = omega arith
past_small (Some n) small = omega (arith, small)

pub records_small : (records : List Fields) → All HasNumbers records → past_records records ≤ 2 ^ 63
records_small [] have = omega arith
records_small (r ∷ records) have =
    let first = All-head HasNumbers r records have in
    let persisted = past_small r.persisted first.0 in
    let highest = past_small r.highest first.1 in
    let rest = records_small records (All-tail HasNumbers r records have) in
    omega (arith, persisted, highest, rest)
