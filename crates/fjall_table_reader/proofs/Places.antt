-- Entries and their places in a text.
use Rattle.std.proofs.Common.{◌≡◌, ℕ, zero, suc, get_or, ◌+◌, ◌<◌, ◌≤◌, ◌^◌, List, [], ◌∷◌, ◌++◌, length, take, drop, map, is_some, cond, Option, Some, None, refl, sym, ap, subst, ◌∙◌, append_assoc, add-one, slice_get, arith}
use Rattle.std.specs.List.{AllByRecursion}
use Rattle.std.specs.Int.{w128, to_be_bytes}
use Rattle.std.proofs.lemmas.List.{length-append, length-map, take_at, drop_at}
use Rattle.std.proofs.lemmas.List.Concat.{flat_map-cons}
use Rattle.byteorder.specs.Endian.{little_bytes}
use Rattle.fjall_base.proofs.Codecs.{length-little}
use Rattle.fjall_table.specs.Blocks.{Entry, IsBlock, IsOrdered, entry_header, entry_text, payload_of, block_text, type_byte, value_bytes}
use Rattle.fjall_table.specs.Frame.{headed}
use Rattle.fjall_base.specs.Check.{check}
use Rattle.fjall_table.specs.Padded.{padded}
use Rattle.fjall_table.specs.TableReading.{IsBlockFrom}
use Rattle.fjall_table.proofs.TableBlocks.{drop_got}
use Rattle.fjall_table_reader.specs.declared.place.EntryPlace.{EntryPlace}
use Rattle.fjall_table_reader.specs.Places.{AreFronts, ArePlaced, end_of, entries_in, entry_in, key_at, place_of, places_from}

-- fifteen bytes stand before a key
header_len : (a b c d : ℕ) → length (entry_header a b c d) ≡ 15
header_len a b c d = omega (arith, length-little 2 a, length-little 8 c, length-little 4 d, length-append (little_bytes 2 a) (b ∷ (little_bytes 8 c ++ little_bytes 4 d)), length-append (little_bytes 8 c) (little_bytes 4 d))

-- the header of an entry, and what stands behind it
header_of : Entry → List ℕ
header_of e = entry_header (length e.key) (type_byte e.value) e.number (length (value_bytes e.value))

header_is : (e : Entry) → length (header_of e) ≡ 15
unfolding header_of
header_is e = header_len (length e.key) (type_byte e.value) e.number (length (value_bytes e.value))

text_is : (e : Entry) → entry_text e ≡ header_of e ++ (e.key ++ value_bytes e.value)
unfolding header_of entry_text
text_is e = refl

-- the next text begins where the value ends
pub end_is : (at : ℕ) (e : Entry) → end_of (place_of at e) ≡ at + length (entry_text e)
end_is at e = omega (arith, ap length (text_is e), header_is e, length-append (header_of e) (e.key ++ value_bytes e.value), length-append e.key (value_bytes e.value))

-- an entry of which the key and the value are these
same_value : (v : Option (List ℕ)) (bytes : List ℕ) → bytes ≡ value_bytes v → cond (is_some v) (Some bytes) None ≡ v
same_value (Some value) bytes e = ap (λ (b : List ℕ). let o : Option (List ℕ) = Some b in o) e
same_value None bytes e = refl

-- what stands at the place of an entry whose text begins there
read_one : (front rest : List ℕ) (e : Entry) → entry_in (front ++ (entry_text e ++ rest)) (place_of (length front) e) ≡ e
read_one front rest e =
    let text = front ++ (entry_text e ++ rest) in
    let head = front ++ header_of e in
    let head_len : length head ≡ length front + 15 = omega (arith, header_is e, length-append front (header_of e)) in
    let one : text ≡ head ++ (e.key ++ (value_bytes e.value ++ rest)) =
    ap (λ (t : List ℕ). front ++ (t ++ rest)) (text_is e) ∙ ap (λ (t : List ℕ). front ++ t) (append_assoc (header_of e) (e.key ++ value_bytes e.value) rest ∙ ap (λ (t : List ℕ). header_of e ++ t) (append_assoc e.key (value_bytes e.value) rest)) ∙ sym (append_assoc front (header_of e) (e.key ++ (value_bytes e.value ++ rest))) in
    let two : text ≡ (head ++ e.key) ++ (value_bytes e.value ++ rest) = one ∙ sym (append_assoc head e.key (value_bytes e.value ++ rest)) in
    let two_len : length (head ++ e.key) ≡ length front + 15 + length e.key = omega (arith, head_len, length-append head e.key) in
    let key : key_at text (place_of (length front) e) ≡ e.key = ap (λ (t : List ℕ). take (length e.key) (drop (length front + 15) t)) one ∙ ap (take (length e.key)) (drop_at head (e.key ++ (value_bytes e.value ++ rest)) (length front + 15) head_len) ∙ take_at e.key (value_bytes e.value ++ rest) (length e.key) refl in
    let value : take (length (value_bytes e.value)) (drop (length front + 15 + length e.key) text) ≡ value_bytes e.value = ap (λ (t : List ℕ). take (length (value_bytes e.value)) (drop (length front + 15 + length e.key) t)) two ∙ ap (take (length (value_bytes e.value))) (drop_at (head ++ e.key) (value_bytes e.value ++ rest) (length front + 15 + length e.key) two_len) ∙ take_at (value_bytes e.value) rest (length (value_bytes e.value)) refl in
    let shown = same_value e.value (take (length (value_bytes e.value)) (drop (length front + 15 + length e.key) text)) value in
    λ i. record { key = key i; number = e.number; value = shown i }

-- one more entry in front
next_text : (front rest : List ℕ) (e : Entry) (es : List Entry) → front ++ (payload_of (e ∷ es) ++ rest) ≡ (front ++ entry_text e) ++ (payload_of es ++ rest)
next_text front rest e es = ap (λ (t : List ℕ). front ++ (t ++ rest)) (flat_map-cons entry_text e es) ∙ ap (λ (t : List ℕ). front ++ t) (append_assoc (entry_text e) (payload_of es) rest) ∙ sym (append_assoc front (entry_text e) (payload_of es ++ rest))

first_text : (front rest : List ℕ) (e : Entry) (es : List Entry) → front ++ (payload_of (e ∷ es) ++ rest) ≡ front ++ (entry_text e ++ (payload_of es ++ rest))
first_text front rest e es = next_text front rest e es ∙ append_assoc front (entry_text e) (payload_of es ++ rest)

next_at : (front : List ℕ) (e : Entry) → end_of (place_of (length front) e) ≡ length (front ++ entry_text e)
next_at front e = end_is (length front) e ∙ sym (length-append front (entry_text e))

-- entries are read at their places
pub read_all : (front rest : List ℕ) (es : List Entry) → entries_in (front ++ (payload_of es ++ rest)) (places_from (length front) es) ≡ es
read_all front rest [] = refl
read_all front rest (e ∷ es) =
    let text = front ++ (payload_of (e ∷ es) ++ rest) in
    let one : entry_in text (place_of (length front) e) ≡ e = ap (λ (t : List ℕ). entry_in t (place_of (length front) e)) (first_text front rest e es) ∙ read_one front (payload_of es ++ rest) e in
    let more : entries_in text (places_from (end_of (place_of (length front) e)) es) ≡ es =
    ap (λ (n : ℕ). entries_in text (places_from n es)) (next_at front e) ∙ ap (λ (t : List ℕ). entries_in t (places_from (length (front ++ entry_text e)) es)) (next_text front rest e es) ∙ read_all (front ++ entry_text e) rest es in
    λ i. one i ∷ more i

-- each of these places ends within the text
pub fits_all : (at len : ℕ) (es : List Entry) → at + length (payload_of es) ≤ len → AllByRecursion (λ p. end_of p ≤ len) (places_from at es)
fits_all at len [] le = tt
fits_all at len (e ∷ es) le =
    let l = ap length (flat_map-cons entry_text e es) in
    let m = length-append (entry_text e) (payload_of es) in
    let n = end_is at e in
    (omega arith, fits_all (end_of (place_of at e)) len es (omega arith))

pub places_len : (at : ℕ) (es : List Entry) → length (places_from at es) ≡ length es
places_len at [] = refl
places_len at (e ∷ es) = ap suc (places_len (end_of (place_of at e)) es)

-- ---- a block's text

-- a block's text is a payload behind its length and before its check
parts : (vs : List Entry) → block_text vs ≡ little_bytes 8 (length (payload_of vs)) ++ (payload_of vs ++ check (headed 8 (payload_of vs)))
parts vs = append_assoc (little_bytes 8 (length (payload_of vs))) (payload_of vs) (check (headed 8 (payload_of vs)))

pub payload_within : (vs : List Entry) → 8 + length (payload_of vs) ≤ length (block_text vs)
payload_within vs = omega (arith, ap length (parts vs), length-append (little_bytes 8 (length (payload_of vs))) (payload_of vs ++ check (headed 8 (payload_of vs))), length-append (payload_of vs) (check (headed 8 (payload_of vs))), length-little 8 (length (payload_of vs)))

pub block_entries : (text : List ℕ) (vs : List Entry) → text ≡ block_text vs → entries_in text (places_from 8 vs) ≡ vs
block_entries text vs e =
    let head = little_bytes 8 (length (payload_of vs)) in
    ap (λ (t : List ℕ). entries_in t (places_from 8 vs)) (e ∙ parts vs)
    ∙ ap (λ (n : ℕ). entries_in (head ++ (payload_of vs ++ check (headed 8 (payload_of vs)))) (places_from n vs)) (sym (length-little 8 (length (payload_of vs))))
    ∙ read_all head (check (headed 8 (payload_of vs))) vs

pub block_placed : (text : List ℕ) (vs : List Entry) (fronts : List ℕ) → IsBlock vs → text ≡ block_text vs → AreFronts fronts vs → ArePlaced text (places_from 8 vs) fronts
block_placed text vs fronts is e are = record {
  some = let s = is.some in let l = places_len 8 vs in omega arith;
  count = omega (arith, ap length are, places_len 8 vs, length-map fronts (to_be_bytes w128), length-map vs (λ (e : Entry). padded 16 e.key));
  fits = fits_all 8 (length text) vs (let w = payload_within vs in let l = ap length e in omega arith);
  ordered = let read = block_entries text vs e in subst IsOrdered (sym read) is.ordered;
  block = e ∙ ap block_text (sym (block_entries text vs e));
  spelled = are ∙ ap (map (λ (e : Entry). padded 16 e.key)) (sym (block_entries text vs e));
}

-- ---- a loop over entries

-- So many of the entries were gone through: their places are there, and the next text begins where it should.
pub record Placing (from : ℕ) (es : List Entry) (places : List EntryPlace) (next n : ℕ) : Type 0 where
  pub all : places ++ places_from next (drop n es) ≡ places_from from es
  pub end : next + length (payload_of (drop n es)) ≡ from + length (payload_of es)

pub drop_here : (es : List Entry) (n : ℕ) (e : Entry) → slice_get es n ≡ Some e → drop n es ≡ e ∷ drop (n + 1) es
drop_here es n e h = drop_got es n e h ∙ ap (λ (k : ℕ). e ∷ drop k es) (sym (add-one n))

pub room_for : (from : ℕ) (es : List Entry) (places : List EntryPlace) (next n : ℕ) (e : Entry) → Placing from es places next n → slice_get es n ≡ Some e → end_of (place_of next e) ≤ from + length (payload_of es)
room_for from es places next n e p h =
    let l = ap (λ (v : List Entry). length (payload_of v)) (drop_here es n e h) in
    let m = ap length (flat_map-cons entry_text e (drop (n + 1) es)) in
    let k = length-append (entry_text e) (payload_of (drop (n + 1) es)) in
    let x = end_is next e in
    let y = p.end in
    omega arith

pub placing_more : (from : ℕ) (es : List Entry) (places : List EntryPlace) (next n : ℕ) (e : Entry) → Placing from es places next n → slice_get es n ≡ Some e → Placing from es (places ++ place_of next e ∷ []) (end_of (place_of next e)) (n + 1)
placing_more from es places next n e p h = record {
  all = append_assoc places (place_of next e ∷ []) (places_from (end_of (place_of next e)) (drop (n + 1) es)) ∙ ap (λ (v : List Entry). places ++ places_from next v) (sym (drop_here es n e h)) ∙ p.all;
  end =
      let l = ap (λ (v : List Entry). length (payload_of v)) (drop_here es n e h) in
      let m = ap length (flat_map-cons entry_text e (drop (n + 1) es)) in
      let k = length-append (entry_text e) (payload_of (drop (n + 1) es)) in
      let x = end_is next e in
      let y = p.end in
      omega arith;
}

pub got_or : {A B : Type 0} (f : A → B) (xs : List A) (i : ℕ) (d : A) → i < length xs → slice_get (map f xs) i ≡ Some (f (get_or xs i d))
got_or f [] i d lt = absurd (omega arith)
got_or f (x ∷ xs) zero d lt = refl
got_or f (x ∷ xs) (suc i) d lt = got_or f xs i d (omega arith)

pub room_less : (from : ℕ) (es : List Entry) (places : List EntryPlace) (next n : ℕ) (e : Entry) → Placing from es places next n → slice_get es n ≡ Some e → from + length (payload_of es) < 2 ^ 64 → end_of (place_of next e) < 2 ^ 64
room_less from es places next n e p h lt = omega (arith, room_for from es places next n e p h, lt)

-- what was decoded is the block that the text is of
pub places_block : (key text : List ℕ) (vs : List Entry) (ps : List EntryPlace) → IsBlockFrom key text vs → ps ≡ places_from 8 vs → IsBlockFrom key text (entries_in text ps)
places_block key text vs ps is at = subst (λ (ws : List Entry). IsBlockFrom key text ws) (sym (ap (entries_in text) at ∙ block_entries text vs is.text)) is

pub places_placed : (key text : List ℕ) (vs : List Entry) (ps : List EntryPlace) (fronts : List ℕ) → IsBlockFrom key text vs → ps ≡ places_from 8 vs → AreFronts fronts vs → ArePlaced text ps fronts
places_placed key text vs ps fronts is at are = subst (λ (qs : List EntryPlace). ArePlaced text qs fronts) (sym at) (block_placed text vs fronts is.is is.text are)
