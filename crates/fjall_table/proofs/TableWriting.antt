-- What a writer of tables holds, and how it grows.
use Rattle.std.proofs.Common.{◌≡◌, ℕ, zero, suc, ◌+◌, ◌-◌, ◌*◌, ◌^◌, ◌<◌, ◌≤◌, List, [], ◌∷◌, ◌++◌, length, Option, Some, None, Result, Ok, Err, OnOk, is_some, false, refl, sym, ap, subst, ◌∙◌, append_assoc, arith}
use Rattle.std.specs.List.{flat_map, AllByRecursion}
use Rattle.std.proofs.lemmas.List.{length-append, append-nil}
use Rattle.std.proofs.lemmas.List.Concat.{flat_map-cons}
use Rattle.std.proofs.lemmas.Grind.{flat_map-append}
use Rattle.fjall_table.specs.Frame.{framed}
use Rattle.fjall_table.specs.Reading.{frame_at}
use Rattle.fjall_table.specs.Blocks.{Entry, entry_text, entry_at, IsEntry, payload_of, block_text, IsOrdered, IsBlock}
use Rattle.fjall_base.specs.Lists.{last_of}
use Rattle.fjall_table.specs.Tables.{Handle, first_key, entries_of, handle_text, handles_of, data_text, index_text, footer_text, AreFull, IsTable}
use Rattle.fjall_table.specs.Writing.{items_in, entries_in, block_at, blocks_in, IsOpen, IsBlockWritten, AreClosed, HaveReached, FollowsEntries, IsLast, IsSoFar}
use Rattle.fjall_base.proofs.Codecs.{some_is, each_more}
use Rattle.fjall_table.proofs.Frames.{frame8, length_framed}
use Rattle.fjall_base.proofs.Lists.{last_behind}
use Rattle.fjall_table.proofs.BlockParts.{entry_codec, entries_apart, begins, shorter, ordered_more}

-- ---- items in bytes

-- a text that is read as one item, whatever follows
abbrev pub Reads : {A : Type 0} → (List ℕ → Option (A × List ℕ)) → (A → List ℕ) → (A → Type 0) → Type 0
Reads {A} read text Is = (a : A) (rest : List ℕ) → Is a → read (text a ++ rest) ≡ Some (a, rest)

pub items_again : {A : Type 0} (read : List ℕ → Option (A × List ℕ)) (text : A → List ℕ) (Is : A → Type 0) → Reads read text Is → read [] ≡ None → (n : ℕ) (xs : List A) → length xs ≤ n → AllByRecursion Is xs → items_in read n (flat_map text xs) ≡ xs
unfolding items_in
items_again read text Is again none zero [] le each = refl
items_again read text Is again none zero (a ∷ xs) le each = absurd (omega arith)
items_again read text Is again none (suc n) [] le each = rw none refl
items_again read text Is again none (suc n) (a ∷ xs) le each =
    rw (flat_map-cons text a xs, again a (flat_map text xs) each.0, items_again read text Is again none n xs (omega arith) each.1) refl

-- each text has a byte
pub no_more_than_bytes : {A : Type 0} (text : A → List ℕ) → ((a : A) → 0 < length (text a)) → (xs : List A) → length xs ≤ length (flat_map text xs)
no_more_than_bytes text some [] = omega arith
no_more_than_bytes text some (a ∷ xs) =
    let l = ap length (flat_map-cons text a xs) in
    let m = length-append (text a) (flat_map text xs) in
    let s = some a in
    let n = no_more_than_bytes text some xs in
    omega arith

-- ---- the open block

no_entry : entry_at [] ≡ None
unfolding entry_at
no_entry = refl

entries_again : (es : List Entry) → AllByRecursion IsEntry es → entries_in (payload_of es) ≡ es
entries_again es each = items_again entry_at entry_text IsEntry entry_codec.again no_entry (length (payload_of es)) es (no_more_than_bytes entry_text entries_apart.some es) each

pub open_reads : (payload : List ℕ) (count : ℕ) (es : List Entry) → IsOpen payload count es → entries_in payload ≡ es
open_reads payload count es is = ap entries_in is.text ∙ entries_again es is.each

pub as_read : (payload : List ℕ) (count : ℕ) (es : List Entry) → IsOpen payload count es → IsOpen payload count (entries_in payload)
as_read payload count es is = subst (λ (xs : List Entry). IsOpen payload count xs) (sym (open_reads payload count es is)) is

pub nothing_open : IsOpen [] 0 []
nothing_open = record {
  text = refl;
  number = refl;
  each = tt;
  closed = λ front more some e. let l = ap length e in let m = length-append front more in absurd (omega arith);
}

pub added_open : (payload now : List ℕ) (count : ℕ) (es : List Entry) (v : Entry) → IsOpen payload count es → length (payload_of es) < 4096 → IsEntry v → now ≡ payload ++ entry_text v → IsOpen now (count + 1) (es ++ v ∷ [])
added_open payload now count es v is room entry added = record {
  text = added ∙ ap (λ (t : List ℕ). t ++ entry_text v) is.text ∙ sym (flat_map-append entry_text es (v ∷ []) ∙ ap (λ (t : List ℕ). payload_of es ++ t) (append-nil (entry_text v)));
  number = let n = is.number in let l = length-append es (v ∷ []) in omega arith;
  each = each_more IsEntry es v is.each entry;
  closed = λ front more some e.
      let b = begins es front more v some e in
      let s = shorter front b.0 in
      let l = ap (λ (xs : List Entry). length (payload_of xs)) b.1 in
      omega arith;
}

-- there is room for the count of one more
pub counts_on : (payload now : List ℕ) (count : ℕ) (es : List Entry) (v : Entry) → IsOpen payload count es → now ≡ payload ++ entry_text v → count + 1 ≤ length now
counts_on payload now count es v is added =
    let n = is.number in
    let m = no_more_than_bytes entry_text entries_apart.some es in
    let t = ap length is.text in
    let l = ap length added in
    let k = length-append payload (entry_text v) in
    let s = entries_apart.some v in
    omega arith

pub first_found : (payload rest : List ℕ) (count : ℕ) (es : List Entry) (e : Entry) → IsOpen payload count es → entry_at payload ≡ Some (e, rest) → (e.key ≡ first_key es) × (length e.key < 2 ^ 16)
first_found payload rest count es e is read = of es is.each (sym (ap entry_at is.text) ∙ read)
  where
    of : (es : List Entry) → AllByRecursion IsEntry es → entry_at (payload_of es) ≡ Some (e, rest) → (e.key ≡ first_key es) × (length e.key < 2 ^ 16)
    of [] each h = let n = no_entry in absurd cc
    of (a ∷ es) each h =
        let same = some_is (a, payload_of es) (e, rest) (sym (entry_codec.again a (payload_of es) each.0) ∙ ap entry_at (sym (flat_map-cons entry_text a es)) ∙ h) in
        let key : e.key ≡ a.key = sym (ap (λ (p : Entry × List ℕ). p.0.key) same) in
        (key, let l = each.0.key in let k = ap length key in omega arith)

pub none_found : (payload : List ℕ) (count : ℕ) (es : List Entry) → IsOpen payload count es → entry_at payload ≡ None → [] ≡ first_key es
none_found payload count es is read = of es is.each (sym (ap entry_at is.text) ∙ read)
  where
    of : (es : List Entry) → AllByRecursion IsEntry es → entry_at (payload_of es) ≡ None → [] ≡ first_key es
    of [] each h = refl
    of (a ∷ es) each h = let g = entry_codec.again a (payload_of es) each.0 in let k = ap entry_at (flat_map-cons entry_text a es) in absurd cc

pub emptied : (payload : List ℕ) → payload ≡ [] → IsOpen payload 0 (entries_in payload) × (entries_in payload ≡ [])
emptied payload none = rw none (as_read [] 0 [] nothing_open, open_reads [] 0 [] nothing_open)

-- ---- the closed blocks

pub block_again : (vs : List Entry) (rest : List ℕ) → IsBlockWritten vs → block_at (block_text vs ++ rest) ≡ Some (vs, rest)
block_again vs rest is = rw (frame8.again (payload_of vs) rest is.1, entries_again vs is.0.each) refl

no_block : block_at [] ≡ None
unfolding frame_at
no_block = refl

pub block_some : (vs : List Entry) → 0 < length (block_text vs)
block_some vs = let l = length_framed 8 (payload_of vs) in omega arith

blocks_again : (blocks : List (List Entry)) → AllByRecursion IsBlockWritten blocks → blocks_in (data_text blocks) ≡ blocks
blocks_again blocks each = items_again block_at block_text IsBlockWritten block_again no_block (length (data_text blocks)) blocks (no_more_than_bytes block_text block_some blocks) each

pub closed_reads : (bytes index : List ℕ) (count : ℕ) (blocks : List (List Entry)) → AreClosed bytes index count blocks → blocks_in bytes ≡ blocks
closed_reads bytes index count blocks are = ap blocks_in are.text ∙ blocks_again blocks are.each

pub as_closed : (bytes index : List ℕ) (count : ℕ) (blocks : List (List Entry)) → AreClosed bytes index count blocks → AreClosed bytes index count (blocks_in bytes)
as_closed bytes index count blocks are = subst (λ (bs : List (List Entry)). AreClosed bytes index count bs) (sym (closed_reads bytes index count blocks are)) are

pub none_closed : (bytes index : List ℕ) → bytes ≡ [] → index ≡ [] → AreClosed bytes index 0 (blocks_in bytes) × (blocks_in bytes ≡ [])
none_closed bytes index e f =
    let none : AreClosed [] [] 0 [] = record { text = refl; index_is = refl; number = refl; each = tt } in
    rw (e, f) (as_closed [] [] 0 [] none, closed_reads [] [] 0 [] none)

-- the handle of a block behind others
pub handles_behind : (at : ℕ) (blocks : List (List Entry)) (block : List Entry) → handles_of at (blocks ++ block ∷ []) ≡ handles_of at blocks ++ record { offset = at + length (data_text blocks); len = length (block_text block); first_key = first_key block } ∷ []
handles_behind at [] block = ap (λ (n : ℕ). record { offset = n; len = length (block_text block); first_key = first_key block } ∷ []) (omega arith)
handles_behind at (b ∷ blocks) block =
    let moved : (at + length (block_text b)) + length (data_text blocks) ≡ at + length (data_text (b ∷ blocks)) = let l = ap length (flat_map-cons block_text b blocks) in let m = length-append (block_text b) (data_text blocks) in omega arith in
    ap (λ (hs : List Handle). record { offset = at; len = length (block_text b); first_key = first_key b } ∷ hs)
    (handles_behind (at + length (block_text b)) blocks block ∙ ap (λ (n : ℕ). handles_of (at + length (block_text b)) blocks ++ record { offset = n; len = length (block_text block); first_key = first_key block } ∷ []) moved)

-- one text more
pub text_behind : {A : Type 0} (f : A → List ℕ) (xs : List A) (x : A) → flat_map f (xs ++ x ∷ []) ≡ flat_map f xs ++ f x
text_behind f xs x = flat_map-append f xs (x ∷ []) ∙ ap (λ (t : List ℕ). flat_map f xs ++ t) (append-nil (f x))

pub entries_behind : (blocks : List (List Entry)) (block : List Entry) → entries_of (blocks ++ block ∷ []) ≡ entries_of blocks ++ block
entries_behind blocks block = flat_map-append (λ (b : List Entry). b) blocks (block ∷ []) ∙ ap (λ (es : List Entry). entries_of blocks ++ es) (append-nil block)

index_behind : (blocks : List (List Entry)) (block : List Entry) → flat_map handle_text (handles_of 0 (blocks ++ block ∷ [])) ≡ flat_map handle_text (handles_of 0 blocks) ++ handle_text (record { offset = length (data_text blocks); len = length (block_text block); first_key = first_key block })
index_behind blocks block =
    let zero_off : 0 + length (data_text blocks) ≡ length (data_text blocks) = omega arith in
    ap (flat_map handle_text) (handles_behind 0 blocks block) ∙ text_behind handle_text (handles_of 0 blocks) (record { offset = 0 + length (data_text blocks); len = length (block_text block); first_key = first_key block }) ∙ ap (λ (n : ℕ). flat_map handle_text (handles_of 0 blocks) ++ handle_text (record { offset = n; len = length (block_text block); first_key = first_key block })) zero_off

-- an entry has a byte, and so a block no more entries than bytes
pub entries_within : (blocks : List (List Entry)) → length (entries_of blocks) ≤ length (data_text blocks)
entries_within [] = omega arith
entries_within (b ∷ blocks) =
    let l = length-append b (entries_of blocks) in
    let m = length-append (block_text b) (data_text blocks) in
    let k = no_more_than_bytes entry_text entries_apart.some b in
    let f = length_framed 8 (payload_of b) in
    let more = entries_within blocks in
    omega arith

pub count_closed : (bytes index payload now : List ℕ) (count number : ℕ) (blocks : List (List Entry)) (block : List Entry) → AreClosed bytes index count blocks → IsOpen payload number block → now ≡ bytes ++ framed 8 payload → count + number ≤ length now
count_closed bytes index payload now count number blocks block are is added =
    let l = ap length added in
    let m = length-append bytes (framed 8 payload) in
    let f = length_framed 8 payload in
    let t = ap length are.text in
    let p = ap length is.text in
    let n = are.number in
    let o = is.number in
    let k = no_more_than_bytes entry_text entries_apart.some block in
    let w = entries_within blocks in
    omega arith

pub one_closed : (bytes index payload key now index_now : List ℕ) (count number offset len : ℕ) (blocks : List (List Entry)) (block : List Entry) → AreClosed bytes index count blocks → IsOpen payload number block → 0 < length block → IsOrdered block → length now < 2 ^ 64
    → now ≡ bytes ++ framed 8 payload → offset ≡ length bytes → len ≡ length now - offset → key ≡ first_key block → index_now ≡ index ++ handle_text (record { offset = offset; len = len; first_key = key })
    → AreClosed now index_now (count + number) (blocks ++ block ∷ [])
one_closed bytes index payload key now index_now count number offset len blocks block are is some up small added at long first line = record {
  text = added ∙ ap (λ (t : List ℕ). t ++ framed 8 payload) are.text ∙ ap (λ (t : List ℕ). data_text blocks ++ framed 8 t) is.text ∙ sym (text_behind block_text blocks block);
  index_is =
      line
      ∙ ap (λ (t : List ℕ). t ++ handle_text (record { offset = offset; len = len; first_key = key })) are.index_is
      ∙ ap (λ (n : ℕ). flat_map handle_text (handles_of 0 blocks) ++ handle_text (record { offset = n; len = len; first_key = key })) (at ∙ ap length are.text)
      ∙ ap (λ (n : ℕ). flat_map handle_text (handles_of 0 blocks) ++ handle_text (record { offset = length (data_text blocks); len = n; first_key = key })) framed_len
      ∙ ap (λ (t : List ℕ). flat_map handle_text (handles_of 0 blocks) ++ handle_text (record { offset = length (data_text blocks); len = length (block_text block); first_key = t })) first
      ∙ sym (index_behind blocks block);
  number = let n = are.number in let o = is.number in let e = ap length (entries_behind blocks block) in let l = length-append (entries_of blocks) block in omega arith;
  each = each_more IsBlockWritten blocks block are.each (record { some = some; each = is.each; ordered = up; closed = is.closed }, let p = ap length is.text in let l = ap length added in let m = length-append bytes (framed 8 payload) in let f = length_framed 8 payload in omega arith);
}
  where
    framed_len : len ≡ length (block_text block)
    framed_len = let l = ap length added in let m = length-append bytes (framed 8 payload) in let p = ap (λ (t : List ℕ). length (framed 8 t)) is.text in omega arith

-- and it has more than one
two_each : (es : List Entry) → 2 * length es ≤ length (payload_of es)
unfolding entry_text
two_each [] = omega arith
two_each (e ∷ es) = let m = length-append (entry_text e) (payload_of es) in let more = two_each es in omega arith

pub two_open : (payload : List ℕ) (count : ℕ) (es : List Entry) → IsOpen payload count es → 2 * count ≤ length payload
two_open payload count es is = let n = is.number in let t = ap length is.text in let m = two_each es in omega arith

two_closed_each : (blocks : List (List Entry)) → 2 * length (entries_of blocks) ≤ length (data_text blocks)
two_closed_each [] = omega arith
two_closed_each (b ∷ blocks) =
    let l = length-append b (entries_of blocks) in
    let m = length-append (block_text b) (data_text blocks) in
    let k = two_each b in
    let f = length_framed 8 (payload_of b) in
    let more = two_closed_each blocks in
    omega arith

pub two_closed : (bytes index : List ℕ) (count : ℕ) (blocks : List (List Entry)) → AreClosed bytes index count blocks → 2 * count ≤ length bytes
two_closed bytes index count blocks are = let n = are.number in let t = ap length are.text in let m = two_closed_each blocks in omega arith

-- ---- the whole table

each_block : (blocks : List (List Entry)) → AllByRecursion IsBlockWritten blocks → AllByRecursion IsBlock blocks
each_block [] each = tt
each_block (b ∷ blocks) each = (each.0.0, each_block blocks each.1)

pub whole_table : (bytes index mid footer out : List ℕ) (count offset len : ℕ) (blocks : List (List Entry)) → AreClosed bytes index count blocks → 0 < length blocks → AreFull blocks → IsOrdered (entries_of blocks)
    → mid ≡ bytes ++ framed 8 index → offset ≡ length bytes → len ≡ length mid - offset → footer ≡ footer_text offset len count → out ≡ mid ++ footer → length out < 2 ^ 64 → IsTable out (entries_of blocks)
whole_table bytes index mid footer out count offset len blocks are some full up e0 at long f e1 small = record {
  blocks = blocks;
  are = record { some = some; each = each_block blocks are.each; full = full; ordered = up };
  all = refl;
  text =
      e1 ∙ ap (λ (t : List ℕ). mid ++ t) (f ∙ ap (λ (n : ℕ). footer_text n len count) (at ∙ ap length are.text) ∙ ap (λ (n : ℕ). footer_text (length (data_text blocks)) n count) index_len ∙ ap (λ (n : ℕ). footer_text (length (data_text blocks)) (length (index_text (handles_of 0 blocks))) n) are.number)
      ∙ ap (λ (t : List ℕ). t ++ footer_text (length (data_text blocks)) (length (index_text (handles_of 0 blocks))) (length (entries_of blocks))) parts
      ∙ append_assoc (data_text blocks) (index_text (handles_of 0 blocks)) (footer_text (length (data_text blocks)) (length (index_text (handles_of 0 blocks))) (length (entries_of blocks)));
  fits = small;
}
  where
    index_len : len ≡ length (index_text (handles_of 0 blocks))
    index_len = let l = ap length e0 in let m = length-append bytes (framed 8 index) in let p = ap (λ (t : List ℕ). length (framed 8 t)) are.index_is in omega arith

    parts : mid ≡ data_text blocks ++ index_text (handles_of 0 blocks)
    parts = e0 ∙ ap (λ (t : List ℕ). t ++ framed 8 index) are.text ∙ ap (λ (t : List ℕ). data_text blocks ++ framed 8 t) are.index_is

-- ---- all entries so far

pub so_far_moved : (key : List ℕ) (number : Option ℕ) (closed now : List (List Entry)) (vs ws : List Entry) → IsSoFar key number closed vs → entries_of now ++ ws ≡ entries_of closed ++ vs → HaveReached now → IsSoFar key number now ws
so_far_moved key number closed now vs ws is same full = record {
  last = subst (λ (es : List Entry). IsLast key number (last_of es)) (sym same) is.last;
  ordered = subst IsOrdered (sym same) is.ordered;
  full = full;
}

pub so_far_grown : (key next : List ℕ) (number : Option ℕ) (closed : List (List Entry)) (vs : List Entry) (v : Entry) → IsSoFar key number closed vs → FollowsEntries (entries_of closed ++ vs) v → next ≡ v.key → IsSoFar next (Some v.number) closed (vs ++ v ∷ [])
so_far_grown key next number closed vs v is behind e = record {
  last = subst (λ (o : Option Entry). IsLast next (Some v.number) o) (sym (ap last_of more ∙ last_behind (entries_of closed ++ vs) v)) (e, refl);
  ordered = subst IsOrdered (sym more) (ordered_more (entries_of closed ++ vs) v is.ordered behind);
  full = is.full;
}
  where
    more : entries_of closed ++ (vs ++ v ∷ []) ≡ (entries_of closed ++ vs) ++ v ∷ []
    more = sym (append_assoc (entries_of closed) vs (v ∷ []))

-- what stands behind in an ordered list is ordered
pub ordered_back : (vs ws : List Entry) → IsOrdered (vs ++ ws) → IsOrdered ws
ordered_back [] ws up = up
ordered_back (v ∷ []) [] up = tt
ordered_back (v ∷ []) (w ∷ ws) up = up.1
ordered_back (v ∷ x ∷ vs) ws up = ordered_back (x ∷ vs) ws up.1

pub no_last : (key : List ℕ) (es : List Entry) → IsLast key None (last_of es) → es ≡ []
no_last key [] is = refl
no_last key (e ∷ []) is = absurd is
no_last key (e ∷ f ∷ es) is = absurd (has_last e (f ∷ es) is)
  where
    has_last : (e : Entry) (es : List Entry) → IsLast key None (last_of (e ∷ es)) → ⊥
    has_last e [] is = is
    has_last e (f ∷ es) is = has_last f es is

pub none_written : (key : List ℕ) (number : Option ℕ) (es : List Entry) → is_some number ≡ false → IsLast key number (last_of es) → es ≡ []
none_written key None es none is = no_last key es is
none_written key (Some n) es none is = absurd cc

-- ---- full blocks

pub all_are_full : (blocks : List (List Entry)) → HaveReached blocks → AreFull blocks
all_are_full [] full = tt
all_are_full (b ∷ []) full = tt
all_are_full (b ∷ d ∷ blocks) full = (full.0, all_are_full (d ∷ blocks) full.1)

pub full_but_last : (blocks : List (List Entry)) (block : List Entry) → HaveReached blocks → AreFull (blocks ++ block ∷ [])
full_but_last [] block full = tt
full_but_last (b ∷ []) block full = (full.0, tt)
full_but_last (b ∷ d ∷ blocks) block full = (full.0, full_but_last (d ∷ blocks) block full.1)

pub closed_last : {E : Type 0} (result : Result (Unit {0}) E) (old now : List (List Entry)) (block : List Entry) → OnOk result (now ≡ old ++ block ∷ []) → OnOk result (HaveReached old → AreFull now)
closed_last (Ok done) old now block e = λ full. subst AreFull (sym e) (full_but_last old block full)
closed_last (Err error) old now block e = tt
