-- A word of bytes: lower-case hexadecimal reads back, and nothing else is read.
use Rattle.std.proofs.Common.{◌≡◌, ℕ, zero, suc, ◌+◌, ◌*◌, ◌/◌, ◌%◌, ◌<◌, ◌==◌, nat_lt, Bool, true, false, ◌&&◌, ◌||◌, List, [], ◌∷◌, length, ◌⊎◌, slice_index, Option, Some, None, Result, Ok, Err, refl, sym, ap, ◌∙◌, arith, inl, inr, codes, if◌then◌else◌}
use Rattle.std.specs.Prelude.{◌≢◌}
use Rattle.std.specs.Char.{is_ascii_uppercase}
use Rattle.std.specs.List.{list_any}
use Rattle.std.specs.Result.{result_unwrap_or}
use Rattle.std.proofs.lemmas.Bool.{and_parts, cases_lt, eqb-true}
use Rattle.hex.specs.Hex.{IsBytes, decode_of, decode_pairs, digit_or_error, hex_digit_value, encode_lower, encode_with, lower_digits, pair_value, value_at, ◌>>=◌}
use Rattle.hex.specs.declared.error.FromHexError.{FromHexError}
use Rattle.hex.proofs.HexLemmas.{decode_of-encode_lower, decode_of-ok, decode_of-even, length-encode_with}
use Rattle.fjall_lines.specs.Lines.{hex_word}

-- the digit of a value
abbrev pub digit : ℕ → ℕ
digit d = if nat_lt d 10 then d + 48 else d + 87

abbrev agrees : ℕ → Bool
agrees d = slice_index lower_digits d == digit d

abbrev all_agree : ℕ → Bool
all_agree zero = true
all_agree (suc n) = agrees n && all_agree n

all_agree-at : (n k : ℕ) → all_agree n ≡ true → k < n → agrees k ≡ true
all_agree-at zero k h lt = absurd (omega arith)
all_agree-at (suc n) k h lt =
    let parts = and_parts (agrees n) (all_agree n) h in
    elim (cases_lt k n) [
      | inl below ↦ all_agree-at n k parts.1 below
      | inr top ↦ let e : k ≡ n = omega arith in rw e parts.0
    ]

pub lower_digit : (d : ℕ) → d < 16 → slice_index lower_digits d ≡ digit d
lower_digit d lt = eqb-true (slice_index lower_digits d) (digit d) (all_agree-at 16 d refl lt)

-- a digit that is no capital is the one of its value
digit_back : (c v : ℕ) → hex_digit_value c ≡ Some v → is_ascii_uppercase c ≡ false → digit v ≡ c
digit_back c v h low = grind arith

digit_small : (c v : ℕ) → hex_digit_value c ≡ Some v → v < 16
digit_small c v h = grind arith

-- no digit of the table is a capital
digit_low : (d : ℕ) → d < 16 → is_ascii_uppercase (digit d) ≡ false
digit_low d lt = grind arith

-- what an `Ok` after `>>=` shows
bind_ok : {A B : Type 0} (r : Result A FromHexError) (f : A → Result B FromHexError) (y : B)
    → (r >>= f) ≡ Ok y → (x : A) × (r ≡ Ok x) × (f x ≡ Ok y)
bind_ok (Ok x) f y h = (x, refl, h)
bind_ok (Err e) f y h = cc h

digit_read : (c i : ℕ) (o : Option ℕ) (v : ℕ) → digit_or_error c i o ≡ Ok v → o ≡ Some v
digit_read c i (Some w) v h = ap Some (ap (λ (r : Result ℕ FromHexError). result_unwrap_or r 0) h)
digit_read c i None v h = cc h

pub or_false : (a b : Bool) → (a || b) ≡ false → (a ≡ false) × (b ≡ false)
or_false true b h = cc h
or_false false b h = (refl, h)

-- pairs of digits with no capital are what their bytes are written as
encode-decode_pairs : (i : ℕ) (s bytes : List ℕ) → decode_pairs i s ≡ Ok bytes → list_any is_ascii_uppercase s ≡ false
    → encode_lower bytes ≡ s
unfolding decode_pairs encode_with
encode-decode_pairs i [] bytes h low =
    let e : [] ≡ bytes = ap (λ (r : Result (List ℕ) FromHexError). result_unwrap_or r []) h in
    rw (← e) refl
encode-decode_pairs i (a ∷ []) bytes h low = cc h
encode-decode_pairs i (a ∷ b ∷ rest) bytes h low =
    let p0 = bind_ok (pair_value a b i) _ bytes h in
    let p1 = bind_ok (value_at a i) _ p0.0 p0.1 in
    let p2 = bind_ok (value_at b (i + 1)) _ p0.0 p1.2 in
    let p3 = bind_ok (decode_pairs (i + 2) rest) _ bytes p0.2 in
    let l0 = or_false (is_ascii_uppercase a) (list_any is_ascii_uppercase (b ∷ rest)) low in
    let l1 = or_false (is_ascii_uppercase b) (list_any is_ascii_uppercase rest) l0.1 in
    let ih = encode-decode_pairs (i + 2) rest p3.0 p3.1 l1.1 in
    let e : p0.0 ∷ p3.0 ≡ bytes = ap (λ (r : Result (List ℕ) FromHexError). result_unwrap_or r []) p3.2 in
    let va = digit_read a i (hex_digit_value a) p1.0 p1.1 in
    let vb = digit_read b (i + 1) (hex_digit_value b) p2.0 p2.1 in
    let sa : p1.0 < 16 = digit_small a p1.0 va in
    let sb : p2.0 < 16 = digit_small b p2.0 vb in
    let byte : p1.0 * 16 + p2.0 ≡ p0.0 = ap (λ (r : Result ℕ FromHexError). result_unwrap_or r 0) p2.2 in
    let high : p0.0 / 16 ≡ p1.0 = omega arith in
    let low' : p0.0 % 16 ≡ p2.0 = omega arith in
    let da : slice_index lower_digits (p0.0 / 16) ≡ a = ap (slice_index lower_digits) high ∙ lower_digit p1.0 sa ∙ digit_back a p1.0 va l0.0 in
    let db : slice_index lower_digits (p0.0 % 16) ≡ b = ap (slice_index lower_digits) low' ∙ lower_digit p2.0 sb ∙ digit_back b p2.0 vb l1.0 in
    let front : encode_lower (p0.0 ∷ p3.0) ≡ a ∷ b ∷ rest = rw (da, db, ih) refl in
    ap encode_lower (sym e) ∙ front

-- a text of lower-case digits is what its bytes are written as
pub spelled : (word bytes : List ℕ) → word ≢ [] → list_any is_ascii_uppercase word ≡ false → decode_of word ≡ Ok bytes
    → word ≡ hex_word bytes
unfolding encode_with
spelled word bytes some low h =
    let ok = decode_of-ok word bytes h in
    let pairs = sym (decode_of-even word ok.0) ∙ h in
    go bytes (encode-decode_pairs 0 word bytes pairs low)
  where
    go : (b : List ℕ) → encode_lower b ≡ word → word ≡ hex_word b
    go [] e = absurd (some (sym e))
    go (b ∷ rest) e = sym e

-- what is written has no capital
low_word : (bytes : List ℕ) → IsBytes bytes → list_any is_ascii_uppercase (encode_lower bytes) ≡ false
unfolding encode_with
low_word [] h = refl
low_word (b ∷ rest) h =
    let fits : b < 256 = h 0 in
    let high : b / 16 < 16 = omega arith in
    let low : b % 16 < 16 = omega arith in
    let da : is_ascii_uppercase (slice_index lower_digits (b / 16)) ≡ false = ap is_ascii_uppercase (lower_digit (b / 16) high) ∙ digit_low (b / 16) high in
    let db : is_ascii_uppercase (slice_index lower_digits (b % 16)) ≡ false = ap is_ascii_uppercase (lower_digit (b % 16) low) ∙ digit_low (b % 16) low in
    let ih = low_word rest (λ k. h (suc k)) in
    rw (da, db, ih) refl

-- the word of some bytes is no dash, is not empty, has no capital, and is read as those bytes
pub record IsWord (word bytes : List ℕ) : Type 0 where
  pub dash : word ≢ codes "-"
  pub some : word ≢ []
  pub low : list_any is_ascii_uppercase word ≡ false
  pub read : decode_of word ≡ Ok bytes

word_is : (b : ℕ) (rest : List ℕ) → IsBytes (b ∷ rest) → IsWord (encode_lower (b ∷ rest)) (b ∷ rest)
word_is b rest h =
    let len = length-encode_with lower_digits (b ∷ rest) in record {
      dash = λ e. let same = ap length e in omega (arith, len, same);
      some = λ e. let same = ap length e in omega (arith, len, same);
      low = low_word (b ∷ rest) h;
      read = decode_of-encode_lower (b ∷ rest) h;
    }

-- the two words of bytes
pub words_are : (word bytes : List ℕ) → IsBytes bytes → word ≡ hex_word bytes
    → ((bytes ≡ []) × (word ≡ codes "-")) ⊎ IsWord word bytes
words_are word [] h e = inl (refl, e)
words_are word (b ∷ rest) h e = inr (rw e (word_is b rest h))

-- what `is_empty` tells of a word
pub is_empty_is : (word : List ℕ) (r : Bool) → r ≡ (length word == 0) → (r ≡ true → word ≡ []) × (r ≡ false → word ≢ [])
is_empty_is [] r h = (λ e. refl, λ e. cc (h, e))
is_empty_is (b ∷ rest) r h =
    (λ e. let none = eqb-true (length (b ∷ rest)) 0 (sym h ∙ e) in absurd (omega arith), λ e. λ none. cc none)
