-- The blocks of a table under its index.
use Rattle.std.proofs.Common.{◌≡◌, ◌≢◌, ℕ, zero, suc, ◌+◌, ◌^◌, ◌<◌, ◌≤◌, false, List, [], ◌∷◌, ◌++◌, length, take, drop, map, slice_get, Option, Some, IfSome, refl, sym, ap, subst, ◌∙◌, append_assoc, add-one, arith}
use Rattle.std.specs.List.{flat_map, AllByRecursion}
use Rattle.std.specs.Ordering.{is_gt}
use Rattle.std.specs.declared.cmp.Ordering.{Ordering}
use Rattle.std.specs.declared.cmp.Ordering.TheVariants.{Greater}
use Rattle.std.proofs.lemmas.List.{length-take, length-drop, length-append, append-nil, take_at, drop_at, take-append-drop}
use Rattle.std.proofs.lemmas.List.Concat.{flat_map-cons}
use Rattle.std.proofs.lemmas.Grind.{flat_map-append}
use Rattle.std.proofs.lemmas.Cmp.{nat_list_cmp_total, upto}
use Rattle.fjall_base.specs.Pairs.{byte_order}
use Rattle.fjall_table.specs.declared.index.BlockHandle.{BlockHandle}
use Rattle.fjall_table.specs.Blocks.{Entry, entry_text, payload_of, block_text, IsOrdered, IsBlock}
use Rattle.fjall_table.specs.Tables.{Handle, first_key, entries_of, handle_text, handles_of, data_text, index_text, footer_text, end_text, table_text, AreBlocks, IsTable, Cover, Ascend, IsIndex, HasIndex}
use Rattle.fjall_table.specs.TableReading.{handle_of, part_at, IsBlockFrom, IsNoBlockFrom, IsNoTable}
use Rattle.fjall_base.proofs.Codecs.{just, some_is}
use Rattle.fjall_table.proofs.Frames.{length_framed}
use Rattle.fjall_table.proofs.BlockParts.{entry_some}
use Rattle.fjall_table.proofs.Indexes.{HasKey, handles_apart, each_handle, is_index}
use Rattle.fjall_table.proofs.TableReading.{one_list, one_payload, one_block, got_map, small, parted, footer_len, ends, room, same_footer}
use Rattle.fjall_table.proofs.Lookups.{never_both, not_above, not_greater}

-- ---- one index

pub one_index : (bytes : List ℕ) (hs ks : List Handle) (n m : ℕ) → HasIndex bytes hs n → HasIndex bytes ks m → (hs ≡ ks) × (n ≡ m)
one_index bytes hs ks n m h k =
    let r = room bytes hs n h in
    let front = h.front ++ index_text hs in
    let end = footer_text (length h.front) (length (index_text hs)) n in
    let line : bytes ≡ front ++ end = h.text ∙ sym (append_assoc h.front (index_text hs) end) in
    let len = footer_len (length h.front) (length (index_text hs)) n in
    let s = same_footer bytes front end ks m (length h.front) (length (index_text hs)) n line len refl r.before r.index h.number k in
    let t = ends bytes front end ks m line len k in
    let p = parted h.front (index_text hs) k.front (index_text ks) t.front_is s.len in
    (same_handles hs ks (length h.front) (length k.front) h.index k.index r.before (room bytes ks m k).before r.index p.1, s.count)
  where
    same_handles : (hs ks : List Handle) (a b : ℕ) → IsIndex hs a → IsIndex ks b → a < 2 ^ 64 → b < 2 ^ 64 → length (index_text hs) < 2 ^ 64 → index_text hs ≡ index_text ks → hs ≡ ks
    same_handles hs ks a b ih ik la lb l e =
        one_list handle_text _ handles_apart hs ks (each_handle 0 a hs la ih.keys ih.cover) (each_handle 0 b ks lb ik.keys ik.cover)
        (one_payload (flat_map handle_text hs) (flat_map handle_text ks) (small (index_text hs) (flat_map handle_text hs) l refl) (small (index_text hs) (flat_map handle_text ks) l e) e)

-- ---- the index of blocks

pub cover_blocks : (at : ℕ) (blocks : List (List Entry)) → Cover at (at + length (data_text blocks)) (handles_of at blocks)
cover_blocks at [] = omega arith
cover_blocks at (b ∷ bs) =
    let e : at + length (block_text b) + length (data_text bs) ≡ at + length (data_text (b ∷ bs)) = omega (arith, ap length (flat_map-cons block_text b bs), length-append (block_text b) (data_text bs)) in
    (refl, subst (λ (n : ℕ). Cover (at + length (block_text b)) n (handles_of (at + length (block_text b)) bs)) e (cover_blocks (at + length (block_text b)) bs))

keys_of_blocks : (at : ℕ) (blocks : List (List Entry)) → AllByRecursion IsBlock blocks → AllByRecursion HasKey (handles_of at blocks)
keys_of_blocks at [] each = tt
keys_of_blocks at ([] ∷ bs) each = let s = each.0.some in absurd (omega arith)
keys_of_blocks at ((e ∷ es) ∷ bs) each = ((each.0.each.0.some, each.0.each.0.key), keys_of_blocks (at + length (block_text (e ∷ es))) bs each.1)

pub ordered_tail : (e : Entry) (es : List Entry) → IsOrdered (e ∷ es) → IsOrdered es
ordered_tail e [] up = tt
ordered_tail e (f ∷ es) up = up.1

pub ordered_back : (xs ys : List Entry) → IsOrdered (xs ++ ys) → IsOrdered ys
ordered_back [] ys up = up
ordered_back (x ∷ xs) ys up = ordered_back xs ys (ordered_tail x (xs ++ ys) up)

above_is : (o : Ordering) → is_gt o ≡ false → o ≢ Greater
above_is o h e = never_both (is_gt o) (ap is_gt e) h

not_above_first : (e : Entry) (es : List Entry) (f : Entry) (more : List Entry) → IsOrdered ((e ∷ es) ++ f ∷ more) → byte_order e.key f.key ≢ Greater
not_above_first e [] f more up = not_greater (byte_order e.key f.key) e.number f.number up.0
not_above_first e (g ∷ es) f more up =
    above_is (byte_order e.key f.key) (upto nat_list_cmp_total e.key g.key f.key (not_above (byte_order e.key g.key) (not_greater (byte_order e.key g.key) e.number g.number up.0)) (not_above (byte_order g.key f.key) (not_above_first g es f more up.1)))

ascend_blocks : (at : ℕ) (blocks : List (List Entry)) → AllByRecursion IsBlock blocks → IsOrdered (entries_of blocks) → Ascend (handles_of at blocks)
ascend_blocks at [] each up = tt
ascend_blocks at (b ∷ []) each up = tt
ascend_blocks at ([] ∷ c ∷ bs) each up = let s = each.0.some in absurd (omega arith)
ascend_blocks at ((e ∷ es) ∷ [] ∷ bs) each up = let s = each.1.0.some in absurd (omega arith)
ascend_blocks at ((e ∷ es) ∷ (f ∷ fs) ∷ bs) each up =
    let all : IsOrdered ((e ∷ es) ++ entries_of ((f ∷ fs) ∷ bs)) = subst IsOrdered (flat_map-cons (λ (b : List Entry). b) (e ∷ es) ((f ∷ fs) ∷ bs)) up in
    let next : IsOrdered ((e ∷ es) ++ f ∷ (fs ++ entries_of bs)) = subst (λ (v : List Entry). IsOrdered ((e ∷ es) ++ v)) (flat_map-cons (λ (b : List Entry). b) (f ∷ fs) bs) all in
    (not_above_first e es f (fs ++ entries_of bs) next, ascend_blocks (at + length (block_text (e ∷ es))) ((f ∷ fs) ∷ bs) each.1 (ordered_back (e ∷ es) (entries_of ((f ∷ fs) ∷ bs)) all))

pub handles_len : (at : ℕ) (blocks : List (List Entry)) → length (handles_of at blocks) ≡ length blocks
handles_len at [] = refl
handles_len at (b ∷ bs) = ap suc (handles_len (at + length (block_text b)) bs)

entries_len : (es : List Entry) → length es ≤ length (payload_of es)
entries_len [] = omega arith
entries_len (e ∷ es) = omega (arith, entries_len es, ap length (flat_map-cons entry_text e es), length-append (entry_text e) (payload_of es), entry_some e)

all_len : (blocks : List (List Entry)) → length (entries_of blocks) ≤ length (data_text blocks)
all_len [] = omega arith
all_len (b ∷ bs) =
    omega (arith, all_len bs, entries_len b, length_framed 8 (payload_of b), ap length (flat_map-cons block_text b bs), length-append (block_text b) (data_text bs), ap length (flat_map-cons (λ (b : List Entry). b) b bs), length-append b (entries_of bs))

-- a table has the index of its blocks
pub table_has : (bytes : List ℕ) (blocks : List (List Entry)) → AreBlocks blocks → bytes ≡ table_text blocks → length bytes < 2 ^ 64 → HasIndex bytes (handles_of 0 blocks) (length (entries_of blocks))
table_has bytes blocks are text fits = record {
  front = data_text blocks;
  text = text;
  index = record {
    some = let s = are.some in let l = handles_len 0 blocks in omega arith;
    keys = keys_of_blocks 0 blocks are.each;
    cover = subst (λ (n : ℕ). Cover 0 n (handles_of 0 blocks)) (zero_plus (length (data_text blocks))) (cover_blocks 0 blocks);
    ascend = ascend_blocks 0 blocks are.each are.ordered;
  };
  fits = fits;
  number =
      let more = end_text (length (data_text blocks)) (handles_of 0 blocks) (length (entries_of blocks)) in
      let l = ap length text in
      let m = length-append (data_text blocks) more in
      let n = all_len blocks in
      omega arith;
}
  where
    zero_plus : (n : ℕ) → 0 + n ≡ n
    zero_plus n = omega arith

-- ---- a block stands where its handle says

pub record Stands (bytes : List ℕ) (blocks : List (List Entry)) (at : ℕ) (h : Handle) : Type 0 where
  pub block : List Entry
  pub here : slice_get blocks at ≡ Some block
  pub key : first_key block ≡ h.first_key
  pub text : part_at h bytes ≡ block_text block

pub stands : (before rest : List ℕ) (blocks : List (List Entry)) (at : ℕ) (h : Handle) → slice_get (handles_of (length before) blocks) at ≡ Some h → Stands (before ++ (data_text blocks ++ rest)) blocks at h
stands before rest [] at h e = absurd cc
stands before rest (b ∷ bs) zero h e =
    let same : record { offset = length before; len = length (block_text b); first_key = first_key b } ≡ h = some_is _ h e in
    let all : data_text (b ∷ bs) ++ rest ≡ block_text b ++ (data_text bs ++ rest) = ap (λ (v : List ℕ). v ++ rest) (flat_map-cons block_text b bs) ∙ append_assoc (block_text b) (data_text bs) rest in
    record {
      block = b;
      here = refl;
      key = ap (λ (x : Handle). x.first_key) same;
      text =
          ap (λ (x : Handle). part_at x (before ++ (data_text (b ∷ bs) ++ rest))) (sym same)
          ∙ ap (take (length (block_text b))) (drop_at before (data_text (b ∷ bs) ++ rest) (length before) refl)
          ∙ ap (take (length (block_text b))) all
          ∙ take_at (block_text b) (data_text bs ++ rest) (length (block_text b)) refl;
    }
stands before rest (b ∷ bs) (suc at) h e =
    let next : slice_get (handles_of (length (before ++ block_text b)) bs) at ≡ Some h = ap (λ (n : ℕ). slice_get (handles_of n bs) at) (length-append before (block_text b)) ∙ e in
    let s = stands (before ++ block_text b) rest bs at h next in
    let all : (before ++ block_text b) ++ (data_text bs ++ rest) ≡ before ++ (data_text (b ∷ bs) ++ rest) =
    append_assoc before (block_text b) (data_text bs ++ rest) ∙ ap (λ (v : List ℕ). before ++ v) (sym (ap (λ (v : List ℕ). v ++ rest) (flat_map-cons block_text b bs) ∙ append_assoc (block_text b) (data_text bs) rest)) in
    record { block = s.block; here = s.here; key = s.key; text = ap (part_at h) (sym all) ∙ s.text }

-- ---- a table that was opened

pub indexed : (bytes : List ℕ) (hs : List Handle) (data_len n : ℕ) → ∥ IsIndex hs data_len ∥₁ → data_len ≤ length bytes → bytes ≡ take data_len bytes ++ end_text data_len hs n → length bytes < 2 ^ 64 → n < 2 ^ 64 → HasIndex bytes hs n
indexed bytes hs data_len n is within line fits number =
    let l : length (take data_len bytes) ≡ data_len = omega (arith, length-take data_len bytes) in
    record {
      front = take data_len bytes;
      text = line ∙ ap (λ (k : ℕ). take data_len bytes ++ end_text k hs n) (sym l);
      index = subst (λ (k : ℕ). IsIndex hs k) (sym l) (is_index hs data_len is);
      fits = fits;
      number = number;
    }

-- the bytes are a table of these blocks
pub record IsOf (bytes : List ℕ) (blocks : List (List Entry)) : Type 0 where
  pub are : AreBlocks blocks
  pub text : bytes ≡ table_text blocks
  pub fits : length bytes < 2 ^ 64

pub blocks_in : (bytes : List ℕ) (es : List Entry) → (t : IsTable bytes es) → IsOf bytes t.blocks
blocks_in bytes es t = record { are = t.are; text = t.text; fits = t.fits }

pub handles_are : (bytes : List ℕ) (hs : List Handle) (n : ℕ) (blocks : List (List Entry)) → HasIndex bytes hs n → IsOf bytes blocks → hs ≡ handles_of 0 blocks
handles_are bytes hs n blocks h t = (one_index bytes hs (handles_of 0 blocks) n (length (entries_of blocks)) h (table_has bytes blocks t.are t.text t.fits)).0

pub stands_at : (bytes : List ℕ) (hs : List Handle) (n : ℕ) (blocks : List (List Entry)) (at : ℕ) (h : Handle) → HasIndex bytes hs n → IsOf bytes blocks → slice_get hs at ≡ Some h → Stands bytes blocks at h
stands_at bytes hs n blocks at h x t e =
    let more = end_text (length (data_text blocks)) (handles_of 0 blocks) (length (entries_of blocks)) in
    let s = stands [] more blocks at h (ap (λ (ks : List Handle). slice_get ks at) (sym (handles_are bytes hs n blocks x t)) ∙ e) in
    subst (λ (b : List ℕ). Stands b blocks at h) (sym t.text) s

pub is_at : {A : Type 0} (P : A → Type 0) (xs : List A) (i : ℕ) (x : A) → AllByRecursion P xs → slice_get xs i ≡ Some x → P x
is_at P [] i x all e = absurd cc
is_at P (a ∷ xs) zero x all e = subst P (some_is a x e) all.0
is_at P (a ∷ xs) (suc i) x all e = is_at P xs i x all.1 e

pub some_at : {A : Type 0} (xs : List A) (i : ℕ) → i < length xs → (x : A) × (slice_get xs i ≡ Some x)
some_at [] i lt = absurd (omega arith)
some_at (a ∷ xs) zero lt = (a, refl)
some_at (a ∷ xs) (suc i) lt = some_at xs i (omega arith)

part_len : (h : Handle) (bytes : List ℕ) → length bytes < 2 ^ 64 → length (part_at h bytes) < 2 ^ 64
part_len h bytes lt = omega (arith, length-take h.len (drop h.offset bytes), length-drop h.offset bytes)

-- what was read there is the block
pub read_is : (bytes : List ℕ) (blocks : List (List Entry)) (at : ℕ) (h : Handle) (vs : List Entry) → IsOf bytes blocks → Stands bytes blocks at h → IsBlockFrom h.first_key (part_at h bytes) vs → slice_get blocks at ≡ Some vs
read_is bytes blocks at h vs t s b =
    let same : s.block ≡ vs = one_block (part_at h bytes) s.block vs (part_len h bytes t.fits) (is_at IsBlock blocks at s.block t.are.each s.here) b.is s.text b.text in
    s.here ∙ ap (λ (v : List Entry). just v) same

pub damaged_at : (bytes : List ℕ) (hs : List Handle) (n at : ℕ) (h : Handle) → HasIndex bytes hs n → slice_get hs at ≡ Some h → IsNoBlockFrom h.first_key (part_at h bytes) → IsNoTable bytes
damaged_at bytes hs n at h x e none es t =
    let s = stands_at bytes hs n t.blocks at h x (blocks_in bytes es t) e in
    none s.block (record { is = is_at IsBlock t.blocks at s.block t.are.each s.here; text = s.text; key_is = s.key })

-- ---- parts of lists

pub more_taken : {A : Type 0} (xs : List A) (n : ℕ) (x : A) → slice_get xs n ≡ Some x → take (n + 1) xs ≡ take n xs ++ x ∷ []
more_taken xs n x e = ap (λ (k : ℕ). take k xs) (add-one n) ∙ go xs n e
  where
    go : {A : Type 0} {x : A} (xs : List A) (n : ℕ) → slice_get xs n ≡ Some x → take (suc n) xs ≡ take n xs ++ x ∷ []
    go [] n e = absurd cc
    go {x = x} (a ∷ xs) zero e = ap (λ (y : _). y ∷ []) (some_is a x e)
    go {x = x} (a ∷ xs) (suc n) e = ap (λ (ys : List _). a ∷ ys) (go {x = x} xs n e)

pub drop_got : {A : Type 0} (xs : List A) (i : ℕ) (x : A) → slice_get xs i ≡ Some x → drop i xs ≡ x ∷ drop (suc i) xs
drop_got [] i x e = absurd cc
drop_got (a ∷ xs) zero x e = ap (λ (y : _). y ∷ xs) (some_is a x e)
drop_got (a ∷ xs) (suc i) x e = drop_got xs i x e

pub entries_joined : (bs : List (List Entry)) (vs : List Entry) → entries_of (bs ++ vs ∷ []) ≡ entries_of bs ++ vs
entries_joined bs vs = flat_map-append (λ (b : List Entry). b) bs (vs ∷ []) ∙ ap (λ (v : List Entry). entries_of bs ++ v) (flat_map-cons (λ (b : List Entry). b) vs [] ∙ append-nil vs)

pub parts_of : (blocks : List (List Entry)) (at : ℕ) → entries_of blocks ≡ entries_of (take at blocks) ++ entries_of (drop at blocks)
parts_of blocks at = ap entries_of (sym (take-append-drop at blocks)) ∙ flat_map-append (λ (b : List Entry). b) (take at blocks) (drop at blocks)

-- ---- a block that a table gave

pub no_table : (bytes : List ℕ) (handles : List BlockHandle) (n at : ℕ) → HasIndex bytes (map handle_of handles) n → at < length handles → IfSome (slice_get handles at) (λ h. IsNoBlockFrom h.first_key.now (part_at (handle_of h) bytes)) → IsNoTable bytes
no_table bytes handles n at x lt none =
    let g = some_at handles at lt in
    damaged_at bytes (map handle_of handles) n at (handle_of g.0) x (got_map handle_of handles at g.0 g.1) (subst (λ (o : Option BlockHandle). IfSome o (λ h. IsNoBlockFrom h.first_key.now (part_at (handle_of h) bytes))) g.1 none)

pub read_here : (bytes : List ℕ) (handles : List BlockHandle) (at : ℕ) (h : BlockHandle) (vs : List Entry) → slice_get handles at ≡ Some h → IfSome (slice_get handles at) (λ h. IsBlockFrom h.first_key.now (part_at (handle_of h) bytes) vs) → IsBlockFrom h.first_key.now (part_at (handle_of h) bytes) vs
read_here bytes handles at h vs e b = subst (λ (o : Option BlockHandle). IfSome o (λ h. IsBlockFrom h.first_key.now (part_at (handle_of h) bytes) vs)) e b
