-- Which blocks of a table may hold some keys.
use Rattle.std.proofs.Common.{◌≡◌, ◌≢◌, ℕ, zero, suc, ◌+◌, ◌-◌, ◌≤◌, Bool, true, false, not, ◌&&◌, nat_lt, List, [], ◌∷◌, ◌++◌, length, take, drop, filter, slice_get, Some, refl, sym, ap, subst, ◌∙◌, arith, inl, inr}
use Rattle.std.specs.Str.{bytes_eq}
use Rattle.std.specs.Ordering.{is_lt, is_le, ordering_reverse}
use Rattle.std.specs.declared.cmp.Ordering.{Ordering}
use Rattle.std.specs.declared.cmp.Ordering.TheVariants.{Less, Equal, Greater}
use Rattle.std.specs.declared.ops.Bound.{Bound}
use Rattle.std.specs.declared.ops.Bound.TheVariants.{Included, Excluded, Unbounded}
use Rattle.std.specs.BTreeMap.Range.{is_from_start, is_past_end}
use Rattle.std.proofs.lemmas.Bool.{cases_Bool, cases_lt}
use Rattle.std.proofs.lemmas.Cmp.{nat_list_cmp_total, tied_itself}
use Rattle.std.proofs.lemmas.List.{append-nil, drop-drop, drop_all}
use Rattle.std.proofs.lemmas.List.Concat.{flat_map-cons}
use Rattle.std.proofs.lemmas.List.Elements.{filter-append}
use Rattle.std.proofs.lemmas.Slice.Eq.{bytes_eq-Decides}
use Rattle.fjall_base.specs.Pairs.{Bytes, KeyRange, byte_order, is_within}
use Rattle.fjall_base.proofs.Codecs.{some_is}
use Rattle.fjall_table.specs.Blocks.{Entry, block_text, IsBlock, IsOrdered}
use Rattle.fjall_table.specs.Tables.{Handle, AreBlocks, Ascend, entries_of, entries_within, first_key, handles_of, versions_at}
use Rattle.fjall_table.specs.TableReading.{blocks_below, blocks_up_to}
use Rattle.fjall_table.proofs.Lookups.{AllNot, Falls, fails, falls_entries, filter_len, never_both, falls_up_to, up_to, wanted}
use Rattle.fjall_table.proofs.Lookups as Lookups
use Rattle.fjall_table.proofs.TableBlocks.{drop_got, handles_len, is_at, ordered_back, parts_of, some_at}
use Rattle.fjall_table_reader.specs.Spans.{first_block, last_block}
use Rattle.fjall_table_reader.proofs.Searches.{falls_below, fails_from, passes_below}

-- ---- a block under its handle

pub record BlockOf (blocks : List (List Entry)) (at : ℕ) (h : Handle) : Type 0 where
  pub block : List Entry
  pub here : slice_get blocks at ≡ Some block
  pub key : first_key block ≡ h.first_key

pub block_of : (from : ℕ) (blocks : List (List Entry)) (at : ℕ) (h : Handle) → slice_get (handles_of from blocks) at ≡ Some h → BlockOf blocks at h
block_of from [] at h e = absurd cc
block_of from (b ∷ bs) zero h e = record { block = b; here = refl; key = ap (λ (x : Handle). x.first_key) (some_is _ h e) }
block_of from (b ∷ bs) (suc at) h e = let m = block_of (from + length (block_text b)) bs at h e in record { block = m.block; here = m.here; key = m.key }

-- the entries from a block on begin with the first key of its handle
record From (blocks : List (List Entry)) (at : ℕ) (key : List ℕ) : Type 0 where
  entry : Entry
  more : List Entry
  is : entries_of (drop at blocks) ≡ entry ∷ more
  key_is : entry.key ≡ key

from_block : (blocks : List (List Entry)) (at : ℕ) (b : List Entry) → IsBlock b → slice_get blocks at ≡ Some b → From blocks at (first_key b)
from_block blocks at [] is e = let s = is.some in absurd (omega arith)
from_block blocks at (x ∷ b) is e = record {
  entry = x;
  more = b ++ entries_of (drop (suc at) blocks);
  is = ap entries_of (drop_got blocks at (x ∷ b) e) ∙ flat_map-cons (λ (v : List Entry). v) (x ∷ b) (drop (suc at) blocks);
  key_is = refl;
}

begins_with : (hs : List Handle) (blocks : List (List Entry)) (at : ℕ) (h : Handle) → AreBlocks blocks → hs ≡ handles_of 0 blocks → slice_get hs at ≡ Some h → From blocks at h.first_key
begins_with hs blocks at h are same e =
    let b = block_of 0 blocks at h (ap (λ (ks : List Handle). slice_get ks at) (sym same) ∙ e) in
    subst (λ (k : List ℕ). From blocks at k) b.key (from_block blocks at b.block (is_at IsBlock blocks at b.block are.each b.here) b.here)

-- ---- a test that only some keys pass

-- what stands before an entry whose key is below a key
before_below : (r : Entry → Bool) (key : List ℕ) → ((e : Entry) → is_lt (byte_order e.key key) ≡ true → r e ≡ false) → (front : List Entry) (e : Entry) (more : List Entry) → Falls (λ x. is_lt (byte_order x.key key)) (front ++ e ∷ more) → is_lt (byte_order e.key key) ≡ true → filter r front ≡ []
before_below r key out [] e more f t = refl
before_below r key out (x ∷ front) e more f t =
    elim (cases_Bool (is_lt (byte_order x.key key))) [
      | inl lt ↦ fails r x front (out x lt) ∙ before_below r key out front e more f.1 t
      | inr ge ↦ absurd (never_both (is_lt (byte_order e.key key)) t (in_middle front (f.0 ge)))
    ]
  where
    in_middle : (front : List Entry) → AllNot (λ x. is_lt (byte_order x.key key)) (front ++ e ∷ more) → is_lt (byte_order e.key key) ≡ false
    in_middle [] all = all.0
    in_middle (y ∷ front) all = in_middle front all.1

none_past : (r : Entry → Bool) (key : List ℕ) → ((e : Entry) → is_le (byte_order e.key key) ≡ false → r e ≡ false) → (es : List Entry) → AllNot (up_to key) es → filter r es ≡ []
none_past r key out [] all = refl
none_past r key out (e ∷ es) all = fails r e es (out e all.0) ∙ none_past r key out es all.1

-- the blocks before those that may hold a key from a start on
pub front_nothing : (r : Entry → Bool) (key : List ℕ) → ((e : Entry) → is_lt (byte_order e.key key) ≡ true → r e ≡ false) → (hs : List Handle) (at : ℕ) (blocks : List (List Entry)) → AreBlocks blocks → hs ≡ handles_of 0 blocks → Ascend hs → at ≤ blocks_below key hs - 1 → filter r (entries_of (take at blocks)) ≡ []
front_nothing r key out hs zero blocks are same up le = refl
front_nothing r key out hs (suc k) blocks are same up le =
    let l = filter_len (λ (h : Handle). is_lt (byte_order h.first_key key)) hs in
    let g = some_at hs (suc k) (omega arith) in
    let f = begins_with hs blocks (suc k) g.0 are same g.1 in
    let less : is_lt (byte_order g.0.first_key key) ≡ true = elim (cases_Bool (is_lt (byte_order g.0.first_key key))) [
      | inl t ↦ t
      | inr n ↦ absurd (let m = fails_from (λ (h : Handle). is_lt (byte_order h.first_key key)) hs (suc k) g.0 (Lookups.falls_below key hs up) g.1 n in omega arith)
    ] in
    let all : IsOrdered (entries_of (take (suc k) blocks) ++ f.entry ∷ f.more) = subst IsOrdered (parts_of blocks (suc k) ∙ ap (λ (v : List Entry). entries_of (take (suc k) blocks) ++ v) f.is) are.ordered in
    before_below r key out (entries_of (take (suc k) blocks)) f.entry f.more (falls_below key (entries_of (take (suc k) blocks) ++ f.entry ∷ f.more) all) (ap (λ (v : List ℕ). is_lt (byte_order v key)) f.key_is ∙ less)

-- and the blocks behind those that may hold a key up to an end
pub tail_nothing : (r : Entry → Bool) (key : List ℕ) → ((e : Entry) → is_le (byte_order e.key key) ≡ false → r e ≡ false) → (hs : List Handle) (at : ℕ) (blocks : List (List Entry)) → AreBlocks blocks → hs ≡ handles_of 0 blocks → Ascend hs → blocks_up_to key hs ≤ at → filter r (entries_of (drop at blocks)) ≡ []
tail_nothing r key out hs at blocks are same up le =
    elim (cases_lt at (length hs)) [
      | inl lt ↦
          let g = some_at hs at lt in
          let f = begins_with hs blocks at g.0 are same g.1 in
          let above : is_le (byte_order g.0.first_key key) ≡ false = elim (cases_Bool (is_le (byte_order g.0.first_key key))) [
            | inr n ↦ n
            | inl t ↦ absurd (let m = passes_below (λ (h : Handle). is_le (byte_order h.first_key key)) hs at g.0 (falls_up_to key hs up) g.1 t in omega arith)
          ] in
          let all : IsOrdered (f.entry ∷ f.more) = subst IsOrdered f.is (ordered_back (entries_of (take at blocks)) (entries_of (drop at blocks)) (subst IsOrdered (parts_of blocks at) are.ordered)) in
          let miss : up_to key f.entry ≡ false = ap (λ (v : List ℕ). is_le (byte_order v key)) f.key_is ∙ above in
          ap (filter r) f.is ∙ none_past r key out (f.entry ∷ f.more) (miss, (falls_entries key (f.entry ∷ f.more) all).0 miss)
      | inr ge ↦
          let len : length hs ≡ length blocks = ap length same ∙ handles_len 0 blocks in
          ap (λ (bs : List (List Entry)). filter r (entries_of bs)) (drop_all at blocks (omega arith))
    ]

-- ---- the versions of a key

lt_other : (o : Ordering) → is_lt o ≡ true → o ≢ Equal
lt_other Less t e = absurd cc
lt_other Equal t e = absurd cc
lt_other Greater t e = absurd cc

gt_other : (o : Ordering) → is_le o ≡ false → o ≢ Equal
gt_other Less t e = absurd cc
gt_other Equal t e = absurd cc
gt_other Greater t e = absurd cc

not_wanted : (key : List ℕ) (instant : ℕ) (e : Entry) → byte_order e.key key ≢ Equal → wanted key instant e ≡ false
not_wanted key instant e other = elim (cases_Bool (bytes_eq e.key key)) [
  | inl t ↦ absurd (other (ap (λ (k : List ℕ). byte_order k key) ((bytes_eq-Decides e.key key).0 t) ∙ tied_itself nat_list_cmp_total key))
  | inr f ↦ ap (λ (b : Bool). b && nat_lt e.number instant) f
]

pub versions_before : (key : List ℕ) (instant : ℕ) (hs : List Handle) (at : ℕ) (blocks : List (List Entry)) → AreBlocks blocks → hs ≡ handles_of 0 blocks → Ascend hs → at ≤ blocks_below key hs - 1 → versions_at key instant (entries_of (take at blocks)) ≡ []
versions_before key instant hs at blocks are same up le = front_nothing (wanted key instant) key (λ e t. not_wanted key instant e (lt_other (byte_order e.key key) t)) hs at blocks are same up le

pub versions_behind : (key : List ℕ) (instant : ℕ) (hs : List Handle) (at : ℕ) (blocks : List (List Entry)) → AreBlocks blocks → hs ≡ handles_of 0 blocks → Ascend hs → blocks_up_to key hs ≤ at → versions_at key instant (entries_of (drop at blocks)) ≡ []
versions_behind key instant hs at blocks are same up le = tail_nothing (wanted key instant) key (λ e t. not_wanted key instant e (gt_other (byte_order e.key key) t)) hs at blocks are same up le

-- ---- the entries between two bounds

le_flip : (o p : Ordering) → o ≡ ordering_reverse p → is_lt p ≡ true → is_le o ≡ false
le_flip o Less e t = ap is_le e
le_flip o Equal e t = absurd cc
le_flip o Greater e t = absurd cc

lt_flip : (o p : Ordering) → o ≡ ordering_reverse p → is_lt p ≡ true → is_lt o ≡ false
lt_flip o Less e t = ap is_lt e
lt_flip o Equal e t = absurd cc
lt_flip o Greater e t = absurd cc

gt_lt : (o p : Ordering) → o ≡ ordering_reverse p → is_le p ≡ false → is_lt o ≡ true
gt_lt o Less e t = absurd cc
gt_lt o Equal e t = absurd cc
gt_lt o Greater e t = ap is_lt e

gt_le : (o p : Ordering) → o ≡ ordering_reverse p → is_le p ≡ false → is_le o ≡ true
gt_le o Less e t = absurd cc
gt_le o Equal e t = absurd cc
gt_le o Greater e t = ap is_le e

not_from : (b c : Bool) → b ≡ false → (b && c) ≡ false
not_from b c e = ap (λ (d : Bool). d && c) e

past : (b c : Bool) → c ≡ true → (b && not c) ≡ false
past b c e = ap (λ (d : Bool). b && not d) e ∙ and_false b
  where
    and_false : (b : Bool) → (b && false) ≡ false
    and_false true = refl
    and_false false = refl

within_before : (range : KeyRange) (hs : List Handle) (at : ℕ) (blocks : List (List Entry)) → AreBlocks blocks → hs ≡ handles_of 0 blocks → Ascend hs → at ≤ first_block range.0 hs → entries_within range (entries_of (take at blocks)) ≡ []
within_before (Included key, end) hs at blocks are same up le =
    front_nothing (λ e. is_within (Included key, end) e.key) key (λ e t. not_from (is_le (byte_order key e.key)) (not (is_past_end byte_order end e.key)) (le_flip (byte_order key e.key) (byte_order e.key key) (nat_list_cmp_total.antisymm key e.key) t)) hs at blocks are same up le
within_before (Excluded key, end) hs at blocks are same up le =
    front_nothing (λ e. is_within (Excluded key, end) e.key) key (λ e t. not_from (is_lt (byte_order key e.key)) (not (is_past_end byte_order end e.key)) (lt_flip (byte_order key e.key) (byte_order e.key key) (nat_list_cmp_total.antisymm key e.key) t)) hs at blocks are same up le
within_before (Unbounded, end) hs at blocks are same up le =
    let z : at ≡ 0 = omega arith in
    ap (λ (n : ℕ). entries_within (Unbounded, end) (entries_of (take n blocks))) z

within_behind : (range : KeyRange) (hs : List Handle) (at : ℕ) (blocks : List (List Entry)) → AreBlocks blocks → hs ≡ handles_of 0 blocks → Ascend hs → last_block range.1 hs ≤ at → entries_within range (entries_of (drop at blocks)) ≡ []
within_behind (start, Included key) hs at blocks are same up le =
    tail_nothing (λ e. is_within (start, Included key) e.key) key (λ e t. past (is_from_start byte_order start e.key) (is_lt (byte_order key e.key)) (gt_lt (byte_order key e.key) (byte_order e.key key) (nat_list_cmp_total.antisymm key e.key) t)) hs at blocks are same up le
within_behind (start, Excluded key) hs at blocks are same up le =
    tail_nothing (λ e. is_within (start, Excluded key) e.key) key (λ e t. past (is_from_start byte_order start e.key) (is_le (byte_order key e.key)) (gt_le (byte_order key e.key) (byte_order e.key key) (nat_list_cmp_total.antisymm key e.key) t)) hs at blocks are same up le
within_behind (start, Unbounded) hs at blocks are same up le =
    let len : length hs ≡ length blocks = ap length same ∙ handles_len 0 blocks in
    ap (λ (bs : List (List Entry)). entries_within (start, Unbounded) (entries_of bs)) (drop_all at blocks (omega arith))

-- so the blocks of a span hold all that lies between the bounds
pub span_within : (range : KeyRange) (hs : List Handle) (from to : ℕ) (blocks : List (List Entry)) → AreBlocks blocks → hs ≡ handles_of 0 blocks → Ascend hs → from ≤ first_block range.0 hs → last_block range.1 hs ≤ to → from ≤ to → entries_within range (entries_of blocks) ≡ entries_within range (entries_of (take (to - from) (drop from blocks)))
span_within range hs from to blocks are same up low high le =
    let r : Entry → Bool = λ e. is_within range e.key in
    let front = within_before range hs from blocks are same up low in
    let tail = within_behind range hs to blocks are same up high in
    let rest_is : drop (to - from) (drop from blocks) ≡ drop to blocks = drop-drop (to - from) from blocks ∙ ap (λ (k : ℕ). drop k blocks) (back from to le) in
    let part = entries_within range (entries_of (take (to - from) (drop from blocks))) in
    ap (entries_within range) (parts_of blocks from)
    ∙ filter-append r (entries_of (take from blocks)) (entries_of (drop from blocks))
    ∙ ap (λ (v : List Entry). v ++ entries_within range (entries_of (drop from blocks))) front
    ∙ ap (entries_within range) (parts_of (drop from blocks) (to - from))
    ∙ filter-append r (entries_of (take (to - from) (drop from blocks))) (entries_of (drop (to - from) (drop from blocks)))
    ∙ ap (λ (bs : List (List Entry)). part ++ entries_within range (entries_of bs)) rest_is
    ∙ ap (λ (v : List Entry). part ++ v) tail
    ∙ append-nil part
  where
    back : (from to : ℕ) → from ≤ to → from + (to - from) ≡ to
    back from to le = omega arith

pub last_within : (end : Bound Bytes) (hs : List Handle) → last_block end hs ≤ length hs
last_within (Included key) hs = filter_len (λ (h : Handle). is_le (byte_order h.first_key key)) hs
last_within (Excluded key) hs = filter_len (λ (h : Handle). is_le (byte_order h.first_key key)) hs
last_within Unbounded hs = omega arith
