-- The two laws of an entry: what is read is spelled so, and what is spelled so is read, whatever follows.
use Rattle.std.proofs.Common.{◌≡◌, ℕ, ◌+◌, ◌-◌, ◌^◌, ◌<◌, ◌≤◌, Bool, true, false, cond, eqb, List, [], ◌∷◌, ◌++◌, length, take, drop, Result, Ok, Err, refl, sym, ap, subst, ◌∙◌, append_assoc, arith, ◌⊎◌, inl, inr}
use Rattle.std.specs.Prelude.{codes, nat_eq}
use Rattle.std.specs.List.{starts_with}
use Rattle.std.proofs.lemmas.Bool.Decides.{Decides-eqb}
use Rattle.std.proofs.lemmas.Slice.Eq.{starts_is}
use Rattle.std.proofs.lemmas.Bool.{cases_Bool, eqb-true, eqb-false, ne_eqb, eq-eqb}
use Rattle.std.proofs.lemmas.List.{nil_from_length, length-drop, take-append-drop, length-append, take_at, drop_at}
use Rattle.byteorder.specs.Endian.{little_bytes}
use Rattle.fjall_journal.specs.declared.entry.Entry.{Entry}
use Rattle.fjall_journal.specs.declared.entry.Entry.TheVariants.{Start, Item, End, Clear}
use Rattle.fjall_journal.specs.declared.entry.Tag.{Tag}
use Rattle.fjall_journal.specs.declared.entry.Tag.TheVariants as tags
use Rattle.fjall_journal.specs.declared.entry.ValueType.{ValueType}
use Rattle.fjall_journal.specs.declared.entry.ValueType.TheVariants.{Value, Tombstone, WeakTombstone, Indirection}
use Rattle.fjall_base.specs.declared.error.CompressionType.{CompressionType}
use Rattle.fjall_base.specs.declared.error.CompressionType.TheVariants as compressions
use Rattle.fjall_journal.specs.Spelling.{tag_byte, value_type_byte, compression_byte, trailer, item_header, spelling, HasSpelling, IsSpelling, StandsFirst}
use Rattle.fjall_journal.specs.Reading.{Fault, Invalid, NoTrailer, byte_at, number_at, bytes_at, tag_of, value_type_of, compression_of, start_at, item_at, end_at, clear_at, behind, entry_at, Fails}
use Rattle.fjall_base.specs.declared.error.Error.{Error}
use Rattle.fjall_base.specs.declared.error.Error.TheVariants as errors
use Rattle.fjall_base.specs.Results.{◌>>=◌}
use Rattle.fjall_base.proofs.Codecs.{IsBytes, wide2, wide4, wide8}
use Rattle.fjall_base.proofs.Results.{bind_ok}
use Rattle.fjall_journal.proofs.Fields.{guard_ok, pass_ok, ok_is, Takes, Takes-then, byte_takes, number_takes, number_again, bytes_take, bytes_again}

start_takes : (bytes : List ℕ) (x : Entry × List ℕ) → IsBytes bytes → start_at bytes ≡ Ok x → (text : List ℕ) × Takes bytes text x.1 × (1 ∷ text ≡ spelling x.0) × HasSpelling x.0
unfolding start_at spelling
start_takes bytes x fits e =
    let a = bind_ok (number_at 4 bytes) (λ count. number_at 8 count.1 >>= λ number. Ok (Start count.0 number.0, number.1)) x e in
    let b = bind_ok (number_at 8 a.0.1) (λ number. Ok (Start a.0.0 number.0, number.1)) x a.2 in
    let t0 = number_takes 4 (2 ^ 32) wide4 bytes a.0.0 a.0.1 fits a.1 in
    let t1 = number_takes 8 (2 ^ 64) wide8 a.0.1 b.0.0 b.0.1 t0.0.rest_fits b.1 in
    let both = Takes-then bytes (little_bytes 4 a.0.0) a.0.1 (little_bytes 8 b.0.0) b.0.1 t0.0 t1.0 in
    let made : Entry × List ℕ = (Start a.0.0 b.0.0, b.0.1) in
    subst (λ (y : Entry × List ℕ). (text : List ℕ) × Takes bytes text y.1 × (1 ∷ text ≡ spelling y.0) × HasSpelling y.0) (ok_is made x b.2)
    (little_bytes 4 a.0.0 ++ little_bytes 8 b.0.0, both, refl, (t0.1, t1.1))

clear_takes : (bytes : List ℕ) (x : Entry × List ℕ) → IsBytes bytes → clear_at bytes ≡ Ok x → (text : List ℕ) × Takes bytes text x.1 × (4 ∷ text ≡ spelling x.0) × HasSpelling x.0
unfolding clear_at spelling
clear_takes bytes x fits e =
    let a = bind_ok (number_at 8 bytes) (λ id. Ok (Clear id.0, id.1)) x e in
    let t0 = number_takes 8 (2 ^ 64) wide8 bytes a.0.0 a.0.1 fits a.1 in
    let made : Entry × List ℕ = (Clear a.0.0, a.0.1) in
    subst (λ (y : Entry × List ℕ). (text : List ℕ) × Takes bytes text y.1 × (4 ∷ text ≡ spelling y.0) × HasSpelling y.0) (ok_is made x a.2)
    (little_bytes 8 a.0.0, t0.0, refl, t0.1)

-- a slice that begins as four bytes and has four is those
four_are : (xs : List ℕ) → length xs ≡ 4 → starts_with nat_eq xs trailer ≡ true → xs ≡ trailer
four_are xs len e =
    let split = (starts_is Decides-eqb xs trailer _ refl).0 e in
    let nothing : drop 4 xs ≡ [] = nil_from_length _ (omega (arith, length-drop 4 xs)) in
    split ∙ ap (λ (r : List ℕ). trailer ++ r) nothing

end_takes : (bytes : List ℕ) (x : Entry × List ℕ) → IsBytes bytes → end_at bytes ≡ Ok x → (text : List ℕ) × Takes bytes text x.1 × (3 ∷ text ≡ spelling x.0) × HasSpelling x.0
unfolding end_at spelling
end_takes bytes x fits e =
    let a = bind_ok (bytes_at 8 bytes) (λ check. bytes_at 4 check.1 >>= λ mark. cond (starts_with nat_eq mark.0 trailer) (Ok (End check.0, mark.1)) (Err NoTrailer)) x e in
    let b = bind_ok (bytes_at 4 a.0.1) (λ mark. cond (starts_with nat_eq mark.0 trailer) (Ok (End a.0.0, mark.1)) (Err NoTrailer)) x a.2 in
    let g = pass_ok (starts_with nat_eq b.0.0 trailer) NoTrailer (Ok (End a.0.0, b.0.1)) x b.2 in
    let t0 = bytes_take 8 bytes a.0.0 a.0.1 fits a.1 in
    let t1 = bytes_take 4 a.0.1 b.0.0 b.0.1 t0.0.rest_fits b.1 in
    let mark : b.0.0 ≡ trailer = four_are b.0.0 t1.1 g.0 in
    let both = Takes-then bytes a.0.0 a.0.1 b.0.0 b.0.1 t0.0 t1.0 in
    let made : Entry × List ℕ = (End a.0.0, b.0.1) in
    subst (λ (y : Entry × List ℕ). (text : List ℕ) × Takes bytes text y.1 × (3 ∷ text ≡ spelling y.0) × HasSpelling y.0) (ok_is made x g.1)
    (a.0.0 ++ b.0.0, both, ap (λ (m : List ℕ). 3 ∷ a.0.0 ++ m) mark, t0.1)

-- a byte that is told by a chain of tests
picked : {A : Type 0} (b k : ℕ) (x : A) (r : Result A Fault) (y : A) → cond (eqb b k) (Ok x) r ≡ Ok y → ((b ≡ k) × (x ≡ y)) ⊎ (r ≡ Ok y)
picked b k x r y e =
    elim (cases_Bool (eqb b k)) [
      | inl t ↦ inl (eqb-true b k t, ok_is x y (sym (ap (λ (v : Bool). cond v (Ok x) r) t) ∙ e))
      | inr f ↦ inr (sym (ap (λ (v : Bool). cond v (Ok x) r) f) ∙ e)
    ]

value_type_is : (b : ℕ) (kind : ValueType) → value_type_of b ≡ Ok kind → b ≡ value_type_byte kind
value_type_is b kind e =
    elim (picked b 0 Value _ kind e) [
      | inl p ↦ p.0 ∙ ap value_type_byte p.1
      | inr e1 ↦ elim (picked b 1 Tombstone _ kind e1) [
        | inl p ↦ p.0 ∙ ap value_type_byte p.1
        | inr e2 ↦ elim (picked b 2 WeakTombstone _ kind e2) [
          | inl p ↦ p.0 ∙ ap value_type_byte p.1
          | inr e3 ↦ elim (picked b 4 Indirection _ kind e3) [
            | inl p ↦ p.0 ∙ ap value_type_byte p.1
            | inr e4 ↦ absurd cc
          ]
        ]
      ]
    ]

compression_is : (b : ℕ) (compression : CompressionType) → compression_of b ≡ Ok compression → b ≡ compression_byte compression
compression_is b compression e =
    elim (picked b 0 compressions.None _ compression e) [
      | inl p ↦ p.0 ∙ ap compression_byte p.1
      | inr e1 ↦ absurd cc
    ]

tag_is : (b : ℕ) (tag : Tag) → tag_of b ≡ Ok tag → b ≡ tag_byte tag
tag_is b tag e =
    elim (picked b 1 tags.Start _ tag e) [
      | inl p ↦ p.0 ∙ ap tag_byte p.1
      | inr e1 ↦ elim (picked b 2 tags.Item _ tag e1) [
        | inl p ↦ p.0 ∙ ap tag_byte p.1
        | inr e2 ↦ elim (picked b 3 tags.End _ tag e2) [
          | inl p ↦ p.0 ∙ ap tag_byte p.1
          | inr e3 ↦ elim (picked b 4 tags.Clear _ tag e3) [
            | inl p ↦ p.0 ∙ ap tag_byte p.1
            | inr e4 ↦ absurd cc
          ]
        ]
      ]
    ]

-- ---- an item

-- what is read behind the lengths, and from the lengths on
abbrev parts_at : ValueType → CompressionType → ℕ → ℕ → ℕ → List ℕ → Result (Entry × List ℕ) Fault
parts_at kind compression id key_len value_len bytes =
    bytes_at key_len bytes >>= λ key. bytes_at value_len key.1 >>= λ value. Ok (Item id key.0 value.0 kind compression, value.1)

abbrev tested_at : ValueType → CompressionType → ℕ → ℕ → ℕ → ℕ → List ℕ → Result (Entry × List ℕ) Fault
tested_at kind compression id key_len value_len stored_len bytes =
    cond (eqb key_len 0) (Err (Invalid (codes "KeyLength") 0)) (cond (eqb stored_len value_len) (parts_at kind compression id key_len value_len bytes) (Err (Invalid (codes "ValueLength") 0)))

abbrev lengths_at : ValueType → CompressionType → ℕ → List ℕ → Result (Entry × List ℕ) Fault
lengths_at kind compression id bytes =
    number_at 2 bytes >>= λ key_len. number_at 4 key_len.1 >>= λ value_len. number_at 4 value_len.1 >>= λ stored_len. tested_at kind compression id key_len.0 value_len.0 stored_len.0 stored_len.1

pub record Parts (bytes : List ℕ) (kind : ValueType) (compression : CompressionType) (id key_len value_len : ℕ) (x : Entry × List ℕ) : Type 0 where
  pub key : List ℕ
  pub value : List ℕ
  pub takes : Takes bytes (key ++ value) x.1
  pub key_is : length key ≡ key_len
  pub value_is : length value ≡ value_len
  pub is : Item id key value kind compression ≡ x.0

parts_take : (kind : ValueType) (compression : CompressionType) (id key_len value_len : ℕ) (bytes : List ℕ) (x : Entry × List ℕ) → IsBytes bytes → parts_at kind compression id key_len value_len bytes ≡ Ok x
    → Parts bytes kind compression id key_len value_len x
parts_take kind compression id key_len value_len bytes x fits e =
    let a = bind_ok (bytes_at key_len bytes) (λ key. bytes_at value_len key.1 >>= λ value. Ok (Item id key.0 value.0 kind compression, value.1)) x e in
    let b = bind_ok (bytes_at value_len a.0.1) (λ value. Ok (Item id a.0.0 value.0 kind compression, value.1)) x a.2 in
    let t0 = bytes_take key_len bytes a.0.0 a.0.1 fits a.1 in
    let t1 = bytes_take value_len a.0.1 b.0.0 b.0.1 t0.0.rest_fits b.1 in
    let both = Takes-then bytes a.0.0 a.0.1 b.0.0 b.0.1 t0.0 t1.0 in
    let made : Entry × List ℕ = (Item id a.0.0 b.0.0 kind compression, b.0.1) in
    subst (λ (y : Entry × List ℕ). Parts bytes kind compression id key_len value_len y) (ok_is made x b.2)
    (record { key = a.0.0; value = b.0.0; takes = both; key_is = t0.1; value_is = t1.1; is = refl })

pub record Lengths (bytes : List ℕ) (kind : ValueType) (compression : CompressionType) (id : ℕ) (x : Entry × List ℕ) : Type 0 where
  pub key : List ℕ
  pub value : List ℕ
  pub takes : Takes bytes (little_bytes 2 (length key) ++ (little_bytes 4 (length value) ++ (little_bytes 4 (length value) ++ (key ++ value)))) x.1
  pub some : 0 < length key
  pub key_fits : length key < 2 ^ 16
  pub value_fits : length value < 2 ^ 32
  pub is : Item id key value kind compression ≡ x.0

lengths_take : (kind : ValueType) (compression : CompressionType) (id : ℕ) (bytes : List ℕ) (x : Entry × List ℕ) → IsBytes bytes → lengths_at kind compression id bytes ≡ Ok x
    → Lengths bytes kind compression id x
lengths_take kind compression id bytes x fits e =
    let a = bind_ok (number_at 2 bytes) (λ key_len. number_at 4 key_len.1 >>= λ value_len. number_at 4 value_len.1 >>= λ stored_len. tested_at kind compression id key_len.0 value_len.0 stored_len.0 stored_len.1) x e in
    let b = bind_ok (number_at 4 a.0.1) (λ value_len. number_at 4 value_len.1 >>= λ stored_len. tested_at kind compression id a.0.0 value_len.0 stored_len.0 stored_len.1) x a.2 in
    let d = bind_ok (number_at 4 b.0.1) (λ stored_len. tested_at kind compression id a.0.0 b.0.0 stored_len.0 stored_len.1) x b.2 in
    let g0 = guard_ok (eqb a.0.0 0) (Invalid (codes "KeyLength") 0) (cond (eqb d.0.0 b.0.0) (parts_at kind compression id a.0.0 b.0.0 d.0.1) (Err (Invalid (codes "ValueLength") 0))) x d.2 in
    let g1 = pass_ok (eqb d.0.0 b.0.0) (Invalid (codes "ValueLength") 0) (parts_at kind compression id a.0.0 b.0.0 d.0.1) x g0.1 in
    let t0 = number_takes 2 (2 ^ 16) wide2 bytes a.0.0 a.0.1 fits a.1 in
    let t1 = number_takes 4 (2 ^ 32) wide4 a.0.1 b.0.0 b.0.1 t0.0.rest_fits b.1 in
    let t2 = number_takes 4 (2 ^ 32) wide4 b.0.1 d.0.0 d.0.1 t1.0.rest_fits d.1 in
    let p = parts_take kind compression id a.0.0 b.0.0 d.0.1 x t2.0.rest_fits g1.1 in
    let stored : d.0.0 ≡ length p.value = eqb-true _ _ g1.0 ∙ sym p.value_is in
    let last = Takes-then b.0.1 (little_bytes 4 d.0.0) d.0.1 (p.key ++ p.value) x.1 t2.0 p.takes in
    let some : 0 < length p.key = let ne = eqb-false a.0.0 0 g0.0 in omega (arith, p.key_is, ne) in
    let last' : Takes b.0.1 (little_bytes 4 (length p.value) ++ (p.key ++ p.value)) x.1 = subst (λ (n : ℕ). Takes b.0.1 (little_bytes 4 n ++ (p.key ++ p.value)) x.1) stored last in
    let t1' : Takes a.0.1 (little_bytes 4 (length p.value)) b.0.1 = subst (λ (n : ℕ). Takes a.0.1 (little_bytes 4 n) b.0.1) (sym p.value_is) t1.0 in
    let t0' : Takes bytes (little_bytes 2 (length p.key)) a.0.1 = subst (λ (n : ℕ). Takes bytes (little_bytes 2 n) a.0.1) (sym p.key_is) t0.0 in
    let mid = Takes-then a.0.1 (little_bytes 4 (length p.value)) b.0.1 (little_bytes 4 (length p.value) ++ (p.key ++ p.value)) x.1 t1' last' in
    let all = Takes-then bytes (little_bytes 2 (length p.key)) a.0.1 (little_bytes 4 (length p.value) ++ (little_bytes 4 (length p.value) ++ (p.key ++ p.value))) x.1 t0' mid in
    record { key = p.key; value = p.value; takes = all; some = some; key_fits = omega (arith, p.key_is, t0.1); value_fits = omega (arith, p.value_is, t1.1); is = p.is }

item_takes : (bytes : List ℕ) (x : Entry × List ℕ) → IsBytes bytes → item_at bytes ≡ Ok x → (text : List ℕ) × Takes bytes text x.1 × (2 ∷ text ≡ spelling x.0) × HasSpelling x.0
unfolding item_at spelling
item_takes bytes x fits e =
    let a = bind_ok (byte_at bytes) (λ t. value_type_of t.0 >>= λ kind. byte_at t.1 >>= λ c. compression_of c.0 >>= λ compression. number_at 8 c.1 >>= λ id. lengths_at kind compression id.0 id.1) x e in
    let b = bind_ok (value_type_of a.0.0) (λ kind. byte_at a.0.1 >>= λ c. compression_of c.0 >>= λ compression. number_at 8 c.1 >>= λ id. lengths_at kind compression id.0 id.1) x a.2 in
    let d = bind_ok (byte_at a.0.1) (λ c. compression_of c.0 >>= λ compression. number_at 8 c.1 >>= λ id. lengths_at b.0 compression id.0 id.1) x b.2 in
    let f = bind_ok (compression_of d.0.0) (λ compression. number_at 8 d.0.1 >>= λ id. lengths_at b.0 compression id.0 id.1) x d.2 in
    let g = bind_ok (number_at 8 d.0.1) (λ id. lengths_at b.0 f.0 id.0 id.1) x f.2 in
    let t0 = byte_takes bytes a.0.0 a.0.1 fits a.1 in
    let t1 = byte_takes a.0.1 d.0.0 d.0.1 t0.rest_fits d.1 in
    let t2 = number_takes 8 (2 ^ 64) wide8 d.0.1 g.0.0 g.0.1 t1.rest_fits g.1 in
    let l = lengths_take b.0 f.0 g.0.0 g.0.1 x t2.0.rest_fits g.2 in
    let tail = little_bytes 2 (length l.key) ++ (little_bytes 4 (length l.value) ++ (little_bytes 4 (length l.value) ++ (l.key ++ l.value))) in
    let k2 = Takes-then d.0.1 (little_bytes 8 g.0.0) g.0.1 tail x.1 t2.0 l.takes in
    let k1 = Takes-then a.0.1 (d.0.0 ∷ []) d.0.1 (little_bytes 8 g.0.0 ++ tail) x.1 t1 k2 in
    let k0 = Takes-then bytes (a.0.0 ∷ []) a.0.1 ((d.0.0 ∷ []) ++ (little_bytes 8 g.0.0 ++ tail)) x.1 t0 k1 in
    let text : List ℕ = a.0.0 ∷ d.0.0 ∷ (little_bytes 8 g.0.0 ++ tail) in
    let e1 : 2 ∷ text ≡ 2 ∷ value_type_byte b.0 ∷ d.0.0 ∷ (little_bytes 8 g.0.0 ++ tail) = ap (λ (v : ℕ). 2 ∷ v ∷ d.0.0 ∷ (little_bytes 8 g.0.0 ++ tail)) (value_type_is a.0.0 b.0 b.1) in
    let e2 : 2 ∷ text ≡ spelling (Item g.0.0 l.key l.value b.0 f.0) = e1 ∙ ap (λ (v : ℕ). 2 ∷ value_type_byte b.0 ∷ v ∷ (little_bytes 8 g.0.0 ++ tail)) (compression_is d.0.0 f.0 f.1) in
    (text, k0, e2 ∙ ap spelling l.is, subst HasSpelling l.is (t2.1, l.some, l.key_fits, l.value_fits))

-- what is read is spelled so
pub entry_takes : (bytes : List ℕ) (x : Entry × List ℕ) → IsBytes bytes → entry_at bytes ≡ Ok x → Takes bytes (spelling x.0) x.1 × HasSpelling x.0
unfolding entry_at
entry_takes bytes x fits e =
    let a = bind_ok (byte_at bytes) (λ b. tag_of b.0 >>= λ tag. behind tag b.1) x e in
    let b = bind_ok (tag_of a.0.0) (λ tag. behind tag a.0.1) x a.2 in
    let t0 = byte_takes bytes a.0.0 a.0.1 fits a.1 in
    let r = behind_takes b.0 a.0.1 x t0.rest_fits b.2 in
    let whole = Takes-then bytes (a.0.0 ∷ []) a.0.1 r.0 x.1 t0 r.1 in
    let named : a.0.0 ∷ r.0 ≡ spelling x.0 = ap (λ (v : ℕ). v ∷ r.0) (tag_is a.0.0 b.0 b.1) ∙ r.2 in
    (subst (λ (text : List ℕ). Takes bytes text x.1) named whole, r.3)
  where
    behind_takes : (tag : Tag) (bytes : List ℕ) (x : Entry × List ℕ) → IsBytes bytes → behind tag bytes ≡ Ok x → (text : List ℕ) × Takes bytes text x.1 × (tag_byte tag ∷ text ≡ spelling x.0) × HasSpelling x.0
    behind_takes tags.Start bytes x fits e = start_takes bytes x fits e
    behind_takes tags.Item bytes x fits e = item_takes bytes x fits e
    behind_takes tags.End bytes x fits e = end_takes bytes x fits e
    behind_takes tags.Clear bytes x fits e = clear_takes bytes x fits e

-- ---- what is spelled so is read

pub bind_is : {A B E : Type 0} (r : Result A E) (f : A → Result B E) (x : A) (z : Result B E) → r ≡ Ok x → f x ≡ z → (r >>= f) ≡ z
bind_is {A = A} {E = E} r f x z e h = ap (λ (v : Result A E). v >>= f) e ∙ h

start_again : (count number : ℕ) (rest : List ℕ) → count < 2 ^ 32 → number < 2 ^ 64 → start_at (little_bytes 4 count ++ (little_bytes 8 number ++ rest)) ≡ Ok (Start count number, rest)
unfolding start_at
start_again count number rest c n =
    bind_is _ _ (count, little_bytes 8 number ++ rest) _ (number_again 4 (2 ^ 32) wide4 count (little_bytes 8 number ++ rest) c)
    (bind_is _ _ (number, rest) _ (number_again 8 (2 ^ 64) wide8 number rest n) refl)

clear_again : (id : ℕ) (rest : List ℕ) → id < 2 ^ 64 → clear_at (little_bytes 8 id ++ rest) ≡ Ok (Clear id, rest)
unfolding clear_at
clear_again id rest i = bind_is _ _ (id, rest) _ (number_again 8 (2 ^ 64) wide8 id rest i) refl

end_again : (check rest : List ℕ) → length check ≡ 8 → end_at (check ++ (trailer ++ rest)) ≡ Ok (End check, rest)
unfolding end_at
end_again check rest len =
    bind_is _ _ (check, trailer ++ rest) _ (bytes_again 8 check (trailer ++ rest) len)
    (bind_is _ _ (trailer, rest) _ (bytes_again 4 trailer rest refl) refl)

value_type_again : (kind : ValueType) → value_type_of (value_type_byte kind) ≡ Ok kind
value_type_again Value = refl
value_type_again Tombstone = refl
value_type_again WeakTombstone = refl
value_type_again Indirection = refl

compression_again : (compression : CompressionType) → compression_of (compression_byte compression) ≡ Ok compression
compression_again compressions.None = refl

parts_again : (kind : ValueType) (compression : CompressionType) (id : ℕ) (key value rest : List ℕ) → parts_at kind compression id (length key) (length value) (key ++ (value ++ rest)) ≡ Ok (Item id key value kind compression, rest)
parts_again kind compression id key value rest =
    bind_is _ _ (key, value ++ rest) _ (bytes_again (length key) key (value ++ rest) refl)
    (bind_is _ _ (value, rest) _ (bytes_again (length value) value rest refl) refl)

tested_again : (kind : ValueType) (compression : CompressionType) (id : ℕ) (key value rest : List ℕ) → 0 < length key
    → tested_at kind compression id (length key) (length value) (length value) (key ++ (value ++ rest)) ≡ Ok (Item id key value kind compression, rest)
tested_again kind compression id key value rest some =
    let no : eqb (length key) 0 ≡ false = ne_eqb _ _ (λ e. omega (arith, e)) in
    let yes : eqb (length value) (length value) ≡ true = eq-eqb _ _ refl in
    rw (no, yes) (parts_again kind compression id key value rest)

lengths_again : (kind : ValueType) (compression : CompressionType) (id : ℕ) (key value rest : List ℕ) → 0 < length key → length key < 2 ^ 16 → length value < 2 ^ 32
    → lengths_at kind compression id (little_bytes 2 (length key) ++ (little_bytes 4 (length value) ++ (little_bytes 4 (length value) ++ (key ++ (value ++ rest))))) ≡ Ok (Item id key value kind compression, rest)
lengths_again kind compression id key value rest some k v =
    let tail = key ++ (value ++ rest) in
    let l4 = little_bytes 4 (length value) in
    bind_is _ _ (length key, l4 ++ (l4 ++ tail)) _ (number_again 2 (2 ^ 16) wide2 (length key) (l4 ++ (l4 ++ tail)) k)
    (bind_is _ _ (length value, l4 ++ tail) _ (number_again 4 (2 ^ 32) wide4 (length value) (l4 ++ tail) v)
    (bind_is _ _ (length value, tail) _ (number_again 4 (2 ^ 32) wide4 (length value) tail v) (tested_again kind compression id key value rest some)))

item_again : (kind : ValueType) (compression : CompressionType) (id : ℕ) (key value rest : List ℕ) → id < 2 ^ 64 → 0 < length key → length key < 2 ^ 16 → length value < 2 ^ 32
    → item_at (value_type_byte kind ∷ compression_byte compression ∷ (little_bytes 8 id ++ (little_bytes 2 (length key) ++ (little_bytes 4 (length value) ++ (little_bytes 4 (length value) ++ (key ++ (value ++ rest))))))) ≡ Ok (Item id key value kind compression, rest)
unfolding item_at
item_again kind compression id key value rest i some k v =
    let tail = little_bytes 2 (length key) ++ (little_bytes 4 (length value) ++ (little_bytes 4 (length value) ++ (key ++ (value ++ rest)))) in
    bind_is _ _ kind _ (value_type_again kind)
    (bind_is _ _ compression _ (compression_again compression)
    (bind_is _ _ (id, tail) _ (number_again 8 (2 ^ 64) wide8 id tail i) (lengths_again kind compression id key value rest some k v)))

pub entry_again : (entry : Entry) (rest : List ℕ) → HasSpelling entry → entry_at (spelling entry ++ rest) ≡ Ok (entry, rest)
unfolding entry_at spelling
entry_again (Start count number) rest fits = start_again count number rest fits.0 fits.1
entry_again (Item id key value kind compression) rest fits =
    let header = item_header kind compression id (length key) (length value) in
    ap (λ (t : List ℕ). entry_at (header ++ t)) (append_assoc key value rest) ∙ item_again kind compression id key value rest fits.0 fits.1 fits.2 fits.3
entry_again (End check) rest fits = ap (λ (t : List ℕ). entry_at (3 ∷ t)) (append_assoc check trailer rest) ∙ end_again check rest fits
entry_again (Clear id) rest fits = clear_again id rest fits

-- ---- at the front of bytes

pub stands : (bytes : List ℕ) (entry : Entry) (rest : List ℕ) → IsBytes bytes → entry_at bytes ≡ Ok (entry, rest)
    → (length rest ≤ length bytes) × StandsFirst bytes entry (length bytes - length rest) × (drop (length bytes - length rest) bytes ≡ rest)
stands bytes entry rest fits e =
    let t = entry_takes bytes (entry, rest) fits e in
    let parts : bytes ≡ spelling entry ++ rest = t.0.parts in
    let sum : length bytes ≡ length (spelling entry) + length rest = ap length parts ∙ length-append (spelling entry) rest in
    let len : length bytes - length rest ≡ length (spelling entry) = omega arith in
    let front : take (length bytes - length rest) bytes ≡ spelling entry = rw (len, parts) (take_at (spelling entry) rest (length (spelling entry)) refl) in
    let back : drop (length bytes - length rest) bytes ≡ rest = rw (len, parts) (drop_at (spelling entry) rest (length (spelling entry)) refl) in
    (omega arith, (omega arith, (t.1, front)), back)

pub stands_again : (bytes : List ℕ) (entry : Entry) (len : ℕ) → StandsFirst bytes entry len → entry_at bytes ≡ Ok (entry, drop len bytes)
stands_again bytes entry len h =
    let parts : bytes ≡ spelling entry ++ drop len bytes = sym (take-append-drop len bytes) ∙ ap (λ (t : List ℕ). t ++ drop len bytes) h.1.1 in
    ap entry_at parts ∙ entry_again entry (drop len bytes) h.1.0

abbrev pub ok_pair : Entry × ℕ → Result (Entry × ℕ) Fault
ok_pair x = Ok x

-- the length of what was read is the one that stands
pub stands_alone : (bytes : List ℕ) (entry : Entry) (rest : List ℕ) (other : Entry) (len : ℕ) → length rest ≤ length bytes → entry_at bytes ≡ Ok (entry, rest) → StandsFirst bytes other len
    → ok_pair (other, len) ≡ ok_pair (entry, length bytes - length rest)
stands_alone bytes entry rest other len le e h =
    let same : (other, drop len bytes) ≡ (entry, rest) = ok_is (other, drop len bytes) (entry, rest) (sym (stands_again bytes other len h) ∙ e) in
    let len-is : len ≡ length bytes - length rest = let r : drop len bytes ≡ rest = ap (λ (p : Entry × List ℕ). p.1) same in omega (arith, ap length r, length-drop len bytes, h.0) in
    let entry-is : other ≡ entry = ap (λ (p : Entry × List ℕ). p.0) same in
    rw (entry-is, len-is) refl

-- an error that names a fault isn't given where an entry is read
pub fails_never : {Y Z : Type 0} (e : Error) (read : Result Y Fault) (y : Y) (z : Z) → read ≡ Ok y → Fails e read → Fails e (Ok z)
fails_never errors.OutOfMemory read y z e h = tt
fails_never (errors.Io kind) read y z e h = let h' = h.1 in absurd cc
fails_never (errors.InvalidTag tag) read y z e h = absurd cc
fails_never errors.InvalidTrailer read y z e h = absurd cc
fails_never error read y z e h = absurd h

-- no spelling begins another
pub one_spelling : (a b : Entry) (s t x y : List ℕ) → IsSpelling s a → IsSpelling t b → s ++ x ≡ t ++ y → (a ≡ b) × (s ≡ t)
one_spelling a b s t x y sa tb e =
    let ea : entry_at (s ++ x) ≡ Ok (a, x) = ap (λ (v : List ℕ). entry_at (v ++ x)) sa.1 ∙ entry_again a x sa.0 in
    let eb : entry_at (t ++ y) ≡ Ok (b, y) = ap (λ (v : List ℕ). entry_at (v ++ y)) tb.1 ∙ entry_again b y tb.0 in
    let same : (a, x) ≡ (b, y) = ok_is (a, x) (b, y) (sym ea ∙ ap entry_at e ∙ eb) in
    let ab : a ≡ b = ap (λ (p : Entry × List ℕ). p.0) same in
    (ab, sa.1 ∙ ap spelling ab ∙ sym tb.1)

-- an entry takes some bytes
pub text_some : (entry : Entry) → 0 < length (spelling entry)
unfolding spelling
text_some (Start count number) = omega arith
text_some (Item id key value kind compression) = omega arith
text_some (End check) = omega arith
text_some (Clear id) = omega arith

pub entry_shorter : (bytes : List ℕ) (entry : Entry) (rest : List ℕ) → IsBytes bytes → entry_at bytes ≡ Ok (entry, rest) → length rest < length bytes
entry_shorter bytes entry rest fits e =
    let t = entry_takes bytes (entry, rest) fits e in
    let sum : length bytes ≡ length (spelling entry) + length rest = ap length t.0.parts ∙ length-append (spelling entry) rest in
    omega (arith, text_some entry)
