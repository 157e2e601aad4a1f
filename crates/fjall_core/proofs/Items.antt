-- The items of own writes, and what they mark.
use Rattle.std.proofs.Common.{◌≡◌, inl, inr, ℕ, true, false, List, [], ◌∷◌, ◌++◌, All, map, length, take, get_or, suc, ◌==◌, ◌+◌, ◌<◌, refl, sym, ap, ◌∙◌, arith}
use Rattle.std.proofs.lemmas.List.Elements.{All-cons, All-nil}
use Rattle.std.proofs.Math.Seq.{take-suc}
use Rattle.std.proofs.lemmas.Bool.Decides.{nat_tests}
use Rattle.std.proofs.lemmas.List.{length-map, nil_from_length}
use Rattle.std.specs.FinMap.{empty, entries, find, get-empty, get-entries, same_map}
use Rattle.std.specs.FinSet as set
use Rattle.fjall_base.specs.Pairs.{Bytes}
use Rattle.fjall_base.specs.Store.{Item}
use Rattle.fjall_journal.specs.Ops.{BatchItem, item_in, write_of}
use Rattle.fjall_tx.specs.Marks.{Marks, with_write}
use Rattle.fjall_tx.specs.Places.{place}
use Rattle.fjall_tx.proofs.Growing.{writes_add_up}
use Rattle.fjall_tx.specs.Owns.{Own, item_of, items_of, key_order}
use Rattle.fjall_tx.proofs.Keys.{key_tied, key_total}
use Rattle.fjall_history.specs.Checked.{WritesWithin}
use Rattle.fjall_core.specs.Transactions.{marks_of_items}

-- what is marked stays marked as more is
marked_on : (items : List BatchItem) (marks : Marks) (id : ℕ) (key : Bytes) → set.contains marks.writes (place id key) ≡ true
    → set.contains (marks_of_items marks items).writes (place id key) ≡ true
marked_on [] marks id key is = is
marked_on (item ∷ items) marks id key is = marked_on items (with_write marks item.0 item.1) id key ((writes_add_up marks item.0 id item.1 key).1 (inl is))

-- each item's key is marked behind it
all_marked : (items : List BatchItem) (marks : Marks) → All (λ (item : Item). set.contains (marks_of_items marks items).writes (place item.id item.key) ≡ true) (map item_in items)
all_marked [] marks = All-nil (λ (x : Item). set.contains marks.writes (place x.id x.key) ≡ true)
all_marked (item ∷ items) marks =
    All-cons (λ (x : Item). set.contains (marks_of_items (with_write marks item.0 item.1) items).writes (place x.id x.key) ≡ true) (item_in item) (map item_in items)
    (marked_on items (with_write marks item.0 item.1) item.0 item.1 ((writes_add_up marks item.0 item.0 item.1 item.1).1 (inr (refl, refl))))
    (all_marked items (with_write marks item.0 item.1))

-- one item more is marked last
pub mark_last : (items : List BatchItem) (item : BatchItem) (marks : Marks) → marks_of_items marks (items ++ item ∷ []) ≡ with_write (marks_of_items marks items) item.0 item.1
mark_last [] item marks = refl
mark_last (first ∷ items) item marks = mark_last items item (with_write marks first.0 first.1)

pub mark_next : (items : List BatchItem) (item : BatchItem) (marks : Marks) (i : ℕ) → i < length items → get_or items i item ≡ item
    → marks_of_items marks (take (i + 1) items) ≡ with_write (marks_of_items marks (take i items)) item.0 item.1
mark_next items item marks i within at =
    let next : i + 1 ≡ suc i = omega arith in
    ap (λ n. marks_of_items marks (take n items)) next
    ∙ ap (marks_of_items marks) (take-suc items i item within ∙ ap (λ (x : BatchItem). take i items ++ x ∷ []) at)
    ∙ mark_last (take i items) item marks

-- the command of the items writes nothing else
pub items_within : (items : List BatchItem) (marks : Marks) → WritesWithin (write_of items) (marks_of_items marks items).writes
items_within items marks = all_marked items marks

-- reads stay as they are
pub same_reads : (items : List BatchItem) (marks : Marks) → (marks_of_items marks items).reads ≡ marks.reads
same_reads [] marks = refl
same_reads (item ∷ items) marks = same_reads items (with_write marks item.0 item.1)

-- own writes that are some are some items
pub some_items : (own : Own) → (own ≡ empty → ⊥) → items_of own ≡ [] → ⊥
some_items own some none =
    let bare : entries own ≡ [] = nil_from_length (entries own) (sym (length-map (entries own) item_of) ∙ ap length none) in
    some (same_map key_total key_tied own empty (λ q. get-entries own q ∙ ap (λ es. find key_order q es) bare ∙ sym (get-empty key_order q)))

-- and their count isn't 0
pub some_count : (own : Own) → (own ≡ empty → ⊥) → (items : List BatchItem) → items ≡ items_of own → (length items == 0) ≡ false
some_count own some [] is = absurd (some_items own some (sym is))
some_count own some (item ∷ items) is = let no : (length (item ∷ items) == 0) ≡ false = grind (arith, nat_tests) in no
