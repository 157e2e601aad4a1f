-- Records: their length, their text, and what is read of them.
use Rattle.std.proofs.Common.{◌≡◌, ℕ, ◌+◌, ◌*◌, List, [], ◌∷◌, ◌++◌, length, drop, Option, Some, None, refl, sym, ap, ◌∙◌, append_assoc, arith}
use Rattle.std.specs.List.{flat_map}
use Rattle.std.proofs.lemmas.List.{length-append, drop_at}
use Rattle.std.proofs.lemmas.List.Concat.{flat_map-cons}
use Rattle.byteorder.specs.Endian.{little_bytes}
use Rattle.fjall_base.specs.Check.{check}
use Rattle.fjall_table.specs.Frame.{with_check, headed}
use Rattle.fjall_table.specs.declared.table_info.TableInfo.{TableInfo}
use Rattle.fjall_manifest.specs.Records.{Fields, optional_text, table_line, numbers_text, body}
use Rattle.fjall_base.proofs.Codecs.{length-little}

-- texts of one length
pub length_each : {A : Type 0} (f : A → List ℕ) (k : ℕ) → ((a : A) → length (f a) ≡ k) → (xs : List A) → length (flat_map f xs) ≡ k * length xs
length_each f k each [] = omega arith
length_each f k each (a ∷ xs) =
    let l = length-append (f a) (flat_map f xs) in
    let e = each a in
    let n = length_each f k each xs in
    ap length (flat_map-cons f a xs) ∙ grind (arith, l, e, n)

length_optional : (n : Option ℕ) → length (optional_text n) ≡ 9
length_optional None = refl
length_optional (Some n) = refl

length_line : (t : TableInfo) → length (table_line t) ≡ 25
unfolding table_line
length_line t = refl

length_numbers : (r : Fields) (n : ℕ) → length (numbers_text r n) ≡ 39
length_numbers r n =
    let a = length_optional r.persisted in
    let b = length_optional r.highest in
    let l = length-append (optional_text r.persisted) (optional_text r.highest ++ (little_bytes 8 r.next_table_id ++ (little_bytes 8 r.next_keyspace_id ++ little_bytes 4 n))) in
    let m = length-append (optional_text r.highest) (little_bytes 8 r.next_table_id ++ (little_bytes 8 r.next_keyspace_id ++ little_bytes 4 n)) in
    omega arith

pub length_body : (r : Fields) → length (body r) ≡ 43 + 25 * length r.tables + 8 * length r.clears
unfolding body
length_body r =
    let a = length_numbers r (length r.tables) in
    let b = length_each table_line 25 length_line r.tables in
    let d = length_each (little_bytes 8) 8 (length-little 8) r.clears in
    let l = length-append (numbers_text r (length r.tables)) (flat_map table_line r.tables ++ (little_bytes 4 (length r.clears) ++ flat_map (little_bytes 8) r.clears)) in
    let m = length-append (flat_map table_line r.tables) (little_bytes 4 (length r.clears) ++ flat_map (little_bytes 8) r.clears) in
    let n = length-append (little_bytes 4 (length r.clears)) (flat_map (little_bytes 8) r.clears) in
    omega arith

-- ---- what a writer adds

-- the pieces of a body
pub body_added : (r : Fields) (old r1 r2 r3 r4 : List ℕ) → r1 ≡ old ++ numbers_text r (length r.tables) → r2 ≡ r1 ++ flat_map table_line r.tables → r3 ≡ r2 ++ little_bytes 4 (length r.clears) → r4 ≡ r3 ++ flat_map (little_bytes 8) r.clears → r4 ≡ old ++ body r
unfolding body
body_added r old r1 r2 r3 r4 e1 e2 e3 e4 = added old (numbers_text r (length r.tables)) (flat_map table_line r.tables) (little_bytes 4 (length r.clears)) (flat_map (little_bytes 8) r.clears) r1 r2 r3 r4 e1 e2 e3 e4
  where
    added : (old a b c d r1 r2 r3 r4 : List ℕ) → r1 ≡ old ++ a → r2 ≡ r1 ++ b → r3 ≡ r2 ++ c → r4 ≡ r3 ++ d → r4 ≡ old ++ (a ++ (b ++ (c ++ d)))
    added old a b c d r1 r2 r3 r4 e1 e2 e3 e4 = rw (e4, e3, e2, e1) (simp append_assoc)

-- the check of what stands behind a beginning
pub check_added : (old text now end : List ℕ) (from : ℕ) → from ≡ length old → now ≡ old ++ text → end ≡ now ++ check (drop from now) → end ≡ old ++ with_check text
check_added old text now end from f e1 e2 =
    let behind : drop from now ≡ text = ap (drop from) e1 ∙ drop_at old text from (sym f) in
    e2 ∙ ap (λ (v : List ℕ). now ++ check v) behind ∙ ap (λ (v : List ℕ). v ++ check text) e1 ∙ append_assoc old text (check text)

-- the length before the payload
pub head_added : (width : ℕ) (old r0 r1 r2 head payload : List ℕ) (len : ℕ) → r0 ≡ old → head ≡ little_bytes width len → len ≡ length payload → r1 ≡ r0 ++ head → r2 ≡ r1 ++ payload → r2 ≡ old ++ headed width payload
head_added width old r0 r1 r2 head payload len e0 h l e1 e2 = rw (e2, e1, e0, h, l) (append_assoc old (little_bytes width (length payload)) payload)
