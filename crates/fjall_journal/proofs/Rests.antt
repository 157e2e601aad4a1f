-- What is left of a text behind a field, an item or an entry is left of it again.
use Rattle.std.proofs.Common.{◌≡◌, ℕ, ◌+◌, ◌-◌, ◌≤◌, ltb, List, [], ◌∷◌, ◌++◌, length, drop, Some, Ok, refl, sym, ap, subst, ◌∙◌, arith}
use Rattle.std.proofs.lemmas.Bool.{ltb-false}
use Rattle.std.proofs.lemmas.List.{length-append, length-drop, drop_at}
use Rattle.std.proofs.Math.Seq.{drop-drop}
use Rattle.byteorder.specs.Endian.{little_number}
use Rattle.fjall_base.specs.Fields as fields
use Rattle.fjall_base.proofs.Codecs.{IsBytes, guard_some, some_is}
use Rattle.fjall_journal.specs.declared.entry.Entry.{Entry}
use Rattle.fjall_journal.specs.Spelling.{spelling}
use Rattle.fjall_journal.specs.Reading.{IsRestOf, entry_at}
use Rattle.fjall_journal.proofs.Entries.{entry_takes}

-- the whole text
pub rest_all : (text : List ℕ) → IsRestOf text text
rest_all text =
    let none : length text - length text ≡ 0 = omega arith in
    (omega arith, ap (λ (n : ℕ). drop n text) none)

rest_drop : (text bytes : List ℕ) (n : ℕ) → IsRestOf text bytes → n ≤ length bytes → IsRestOf text (drop n bytes)
rest_drop text bytes n rest le =
    let len = length-drop n bytes in
    let place : length text - length (drop n bytes) ≡ (length text - length bytes) + n = omega (arith, len, rest.0, le) in
    (omega (arith, len, rest.0), ap (λ (k : ℕ). drop k text) place ∙ sym (drop-drop n (length text - length bytes) text) ∙ ap (drop n) rest.1)

-- behind what stands at the front
rest_behind : (text bytes front rest : List ℕ) → IsRestOf text bytes → bytes ≡ front ++ rest → IsRestOf text rest
rest_behind text bytes front rest left parts =
    let sum : length bytes ≡ length front + length rest = ap length parts ∙ length-append front rest in
    let back : drop (length front) bytes ≡ rest = ap (drop (length front)) parts ∙ drop_at front rest (length front) refl in
    subst (IsRestOf text) back (rest_drop text bytes (length front) left (omega (arith, sum)))

pub rest_byte : (text bytes : List ℕ) (b : ℕ) (rest : List ℕ) → IsRestOf text bytes → fields.byte_at bytes ≡ Some (b, rest) → IsRestOf text rest
rest_byte text [] b rest left e = absurd cc
rest_byte text (c ∷ bytes) b rest left e =
    let same = ap (λ (p : ℕ × List ℕ). p.1) (some_is (c, bytes) (b, rest) e) in
    rest_behind text (c ∷ bytes) (c ∷ []) rest left (ap (λ (r : List ℕ). c ∷ r) same)

pub rest_number : (text bytes : List ℕ) (n x : ℕ) (rest : List ℕ) → IsRestOf text bytes → fields.number_at n bytes ≡ Some (x, rest) → IsRestOf text rest
rest_number text bytes n x rest left e =
    let g = guard_some (ltb (length bytes) n) (Some (little_number n bytes, drop n bytes)) (x, rest) e in
    let same = ap (λ (p : ℕ × List ℕ). p.1) (some_is (little_number n bytes, drop n bytes) (x, rest) g.1) in
    subst (IsRestOf text) same (rest_drop text bytes n left (ltb-false _ _ g.0))

-- the fields of an item up to its key
pub rest_item : (text b0 b1 b2 b3 b4 b5 b6 : List ℕ) (kind compression id key value stored : ℕ) → IsRestOf text b0 → fields.byte_at b0 ≡ Some (kind, b1) → fields.byte_at b1 ≡ Some (compression, b2)
    → fields.number_at 8 b2 ≡ Some (id, b3) → fields.number_at 2 b3 ≡ Some (key, b4) → fields.number_at 4 b4 ≡ Some (value, b5) → fields.number_at 4 b5 ≡ Some (stored, b6) → IsRestOf text b6
rest_item text b0 b1 b2 b3 b4 b5 b6 kind compression id key value stored left e0 e1 e2 e3 e4 e5 =
    let behind_types = rest_byte text b1 compression b2 (rest_byte text b0 kind b1 left e0) e1 in
    let behind_key_len = rest_number text b3 2 key b4 (rest_number text b2 8 id b3 behind_types e2) e3 in
    rest_number text b5 4 stored b6 (rest_number text b4 4 value b5 behind_key_len e4) e5

pub rest_entry : (text bytes : List ℕ) (entry : Entry) (rest : List ℕ) → IsBytes bytes → IsRestOf text bytes → entry_at bytes ≡ Ok (entry, rest) → IsRestOf text rest
rest_entry text bytes entry rest fits left e = rest_behind text bytes (spelling entry) rest left (entry_takes bytes (entry, rest) fits e).0.parts
