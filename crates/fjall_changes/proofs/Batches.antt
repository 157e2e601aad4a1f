-- The batches of a database's journals, and one more behind them.
use Rattle.std.proofs.Common.{◌≡◌, ◌||◌, nat_lt, nat_le, ℕ, ◌+◌, ◌^◌, ◌<◌, ◌≤◌, Bool, false, if◌then◌else◌, List, [], ◌∷◌, ◌++◌, map, Option, None, Some, refl, sym, ◌∙◌, ap, arith, append_assoc}
use Rattle.std.proofs.lemmas.List.{append-nil, map-append}
use Rattle.std.proofs.lemmas.Bool.Decides.{nat_tests}
use Rattle.std.proofs.lemmas.Grind.{flat_map-append}
use Rattle.std.specs.List.{list_any}
use Rattle.std.specs.Option.{option_or}
use Rattle.fjall_journal.specs.declared.op.Op.{Op}
use Rattle.fjall_journal.specs.declared.op.Op.TheVariants.{Put, Remove, RemoveWeak}
use Rattle.fjall_journal.specs.declared.persist_mode.PersistMode.{PersistMode}
use Rattle.fjall_journal.specs.declared.persist_mode.PersistMode.TheVariants.{Buffer, SyncData, SyncAll}
use Rattle.fjall_journal.specs.Batches.{Written, batch_text, items_of, shown}
use Rattle.fjall_journal.specs.Ops.{BatchItem, entry_of_item, kind_of}
use Rattle.fjall_meta.specs.Replays.{JournalFault, Unordered, Indirect, fault_of, first_fault, is_indirect, is_indirection, least_after}
use Rattle.fjall_recovery.specs.Journals.{WholeJournal, batches_in}
use Rattle.fjall_meta.proofs.ContentFaults.{first_fault-append, least_after-append}
use Rattle.fjall_recovery.specs.Places.{Journaling, journals_with, texts_of}
use Rattle.fjall_recovery.proofs.Roots.{batches_are}
use Rattle.fjall_changes.specs.Journaling.{CanFollow, after_mode, after_persist, next_number, synced, with_batch}

pub texts-append : (front behind : List Written) → texts_of (front ++ behind) ≡ texts_of front ++ texts_of behind
texts-append front behind = flat_map-append batch_text front behind

-- those of all journals, the active one with more behind
pub batches-more : (j : Journaling) (more : List Written) → batches_in (journals_with j (j.later ++ more)) ≡ batches_in (journals_with j j.later) ++ more
batches-more j more =
    let front = batches_in j.sealed in
    batches_are j (j.later ++ more)
    ∙ ap (λ (l : List Written). front ++ l) (sym (append_assoc j.whole j.later more)) ∙ sym (append_assoc front (j.whole ++ j.later) more)
    ∙ ap (λ (l : List Written). l ++ more) (sym (batches_are j j.later))

-- ---- one batch more

-- the least number behind it
pub next-batch : (out : Bool) (j : Journaling) (batch : Written) → next_number (with_batch out j batch) ≡ batch.number + 1
next-batch out j batch =
    let before = batches_in (journals_with j j.later) in
    ap (λ (l : List Written). least_after 0 (map shown l)) (batches-more j (batch ∷ []))
    ∙ ap (least_after 0) (map-append shown before (batch ∷ [])) ∙ least_after-append 0 (map shown before) (shown batch ∷ [])

in_order : (least next : ℕ) → least ≤ next → next < 2 ^ 63 → (nat_lt next least || nat_le (2 ^ 63) next) ≡ false
in_order least next le room = grind (arith, nat_tests)

no_fault : (a b : Option JournalFault) → a ≡ None → b ≡ None → option_or a (option_or b None) ≡ None
no_fault a b none other = ap (λ x. option_or x (option_or b None)) none ∙ ap (λ x. option_or x None) other

-- all of these batches have no fault
abbrev pub AreSound : Journaling → List Written → Type 0
AreSound j batches = first_fault 0 (map shown (batches_in (journals_with j batches))) ≡ None

-- it has no fault, nor have all with it
pub batch_sound : (j : Journaling) (batch : Written) → CanFollow j batch.number → list_any is_indirect (items_of batch.changes) ≡ false → AreSound j j.later → AreSound j (j.later ++ batch ∷ [])
batch_sound j batch can direct sound =
    let before = batches_in (journals_with j j.later) in
    let none : fault_of (next_number j) (shown batch) ≡ None =
    ap (λ b. if b then Some Unordered else (if list_any is_indirect (items_of batch.changes) then Some Indirect else None)) (in_order (next_number j) batch.number can.above can.room)
    ∙ ap (λ b. if b then Some Indirect else None) direct in
    ap (λ (l : List Written). first_fault 0 (map shown l)) (batches-more j (batch ∷ []))
    ∙ ap (first_fault 0) (map-append shown before (batch ∷ [])) ∙ first_fault-append 0 (map shown before) (shown batch ∷ [])
    ∙ no_fault (first_fault 0 (map shown before)) (fault_of (next_number j) (shown batch)) sound none

direct_kind : (op : Op) → is_indirection (kind_of op) ≡ false
direct_kind (Put value) = refl
direct_kind Remove = refl
direct_kind RemoveWeak = refl

-- the value of an item stands in the journal itself
pub items_direct : (items : List BatchItem) → list_any is_indirect (items_of (map entry_of_item items)) ≡ false
items_direct [] = refl
items_direct (item ∷ items) = ap (λ b. b || list_any is_indirect (items_of (map entry_of_item items))) (direct_kind item.2) ∙ items_direct items

-- ---- none more

synced_same : (j : Journaling) → journals_with (synced j) [] ≡ journals_with j j.later
synced_same j = ap (λ (l : List Written). j.sealed ++ record { id = j.active; batches = l } ∷ []) (append-nil (j.whole ++ j.later))

-- a persist changes none of them
pub kept-persist : (mode : PersistMode) (j : Journaling) → journals_with (after_persist mode j) (after_persist mode j).later ≡ journals_with j j.later
kept-persist Buffer j = refl
kept-persist SyncData j = synced_same j
kept-persist SyncAll j = synced_same j

-- nor does a batch of any mode, once it is there
pub kept-mode : (mode : Option PersistMode) (j : Journaling) → journals_with (after_mode mode j) (after_mode mode j).later ≡ journals_with j j.later
kept-mode None j = refl
kept-mode (Some mode) j = kept-persist mode j

-- the least number behind a batch of any mode
pub next-mode : (mode : Option PersistMode) (out : Bool) (j : Journaling) (batch : Written) → next_number (after_mode mode (with_batch out j batch)) ≡ batch.number + 1
next-mode mode out j batch = ap (λ (l : List WholeJournal). least_after 0 (map shown (batches_in l))) (kept-mode mode (with_batch out j batch)) ∙ next-batch out j batch
