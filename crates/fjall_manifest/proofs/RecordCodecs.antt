-- What is read of a record is what was written, part by part.
use Rattle.std.proofs.Common.{◌≡◌, ℕ, ◌^◌, ◌<◌, cond, eqb, List, [], ◌∷◌, ◌++◌, length, Option, Some, None, refl, sym, ap, subst, ◌∙◌, append_assoc, arith, inl, inr, IfSome}
use Rattle.std.specs.List.{flat_map}
use Rattle.std.proofs.lemmas.Bool.{eqb-true}
use Rattle.std.proofs.lemmas.List.{append-nil, nil_from_length}
use Rattle.byteorder.specs.Endian.{little_bytes}
use Rattle.fjall_table.specs.declared.level.Level.{Level}
use Rattle.fjall_table.specs.declared.level.Level.TheVariants.{L0, L1}
use Rattle.fjall_table.specs.declared.table_info.TableInfo.{TableInfo}
use Rattle.fjall_manifest.specs.declared.record.Numbers.{Numbers}
use Rattle.fjall_base.specs.Fields.{◌>>=◌, byte_at, number_at, many_at}
use Rattle.fjall_manifest.specs.Records.{Fields, fields_of, level_byte, optional_text, table_line, body, HasRoom, HasRoomForAll, level_of, optional_of, optional_at, table_at, nothing_behind, format_of, numbers_at, body_of}
use Rattle.fjall_base.proofs.Codecs.{IsBytes, some_is, bind_some, pass_some, picked, Found, IsCodec, step, byte_codec, u32_codec, u64_codec, many_codec}

-- ---- an optional number

abbrev pub SmallOption : Option ℕ → Type 0
SmallOption o = IfSome o (λ n. n < 2 ^ 64)

optional_is : (flag n : ℕ) (o : Option ℕ) → n < 2 ^ 64 → optional_of flag n ≡ Some o → (flag ∷ little_bytes 8 n ≡ optional_text o) × SmallOption o
optional_is flag n o fits e =
    elim (picked flag 1 (Some n) _ o e) [
      | inl p ↦ subst (λ (v : Option ℕ). (flag ∷ little_bytes 8 n ≡ optional_text v) × SmallOption v) p.1 (ap (λ (f : ℕ). f ∷ little_bytes 8 n) p.0, fits)
      | inr e1 ↦
          let g = pass_some (eqb flag 0) (cond (eqb n 0) (Some None) None) o e1 in
          let h = pass_some (eqb n 0) (Some None) o g.1 in
          let same : None ≡ o = some_is None o h.1 in
          subst (λ (v : Option ℕ). (flag ∷ little_bytes 8 n ≡ optional_text v) × SmallOption v) same (ap (λ (f : ℕ). f ∷ little_bytes 8 n) (eqb-true flag 0 g.0) ∙ ap (λ (m : ℕ). 0 ∷ little_bytes 8 m) (eqb-true n 0 h.0), tt)
    ]

pub optional_codec : IsCodec optional_at optional_text SmallOption
unfolding optional_at
optional_codec = record { again = again; takes = takes }
  where
    again : (o : Option ℕ) (rest : List ℕ) → SmallOption o → optional_at (optional_text o ++ rest) ≡ Some (o, rest)
    again None rest is = rw (u64_codec.again 0 rest (omega arith)) refl
    again (Some n) rest is = rw (u64_codec.again n rest is) refl

    takes : (bytes : List ℕ) (o : Option ℕ) (rest : List ℕ) → IsBytes bytes → optional_at bytes ≡ Some (o, rest) → Found optional_text SmallOption bytes o rest
    takes bytes o rest fits e =
        let s0 = step byte_at _ _ byte_codec bytes (λ flag. number_at 8 flag.1 >>= λ n. optional_of flag.0 n.0 >>= λ number. Some (number, n.1)) (o, rest) fits e in
        let s1 = step (number_at 8) _ _ u64_codec s0.rest (λ n. optional_of s0.value n.0 >>= λ number. Some (number, n.1)) (o, rest) s0.found.fits s0.next in
        let b = bind_some (optional_of s0.value s1.value) (λ number. Some (number, s1.rest)) (o, rest) s1.next in
        let is = optional_is s0.value s1.value b.0 s1.found.is b.1 in
        subst (λ (p : Option ℕ × List ℕ). Found optional_text SmallOption bytes p.0 p.1) (some_is (b.0, s1.rest) (o, rest) b.2)
        (record { parts = s0.found.parts ∙ ap (λ (v : List ℕ). s0.value ∷ v) s1.found.parts ∙ ap (λ (v : List ℕ). v ++ s1.rest) is.0; is = is.1; fits = s1.found.fits })

-- ---- a table

level_is : (b : ℕ) (level : Level) → level_of b ≡ Some level → b ≡ level_byte level
level_is b level e =
    elim (picked b 0 L0 _ level e) [
      | inl p ↦ p.0 ∙ ap level_byte p.1
      | inr e1 ↦ elim (picked b 1 L1 _ level e1) [
        | inl p ↦ p.0 ∙ ap level_byte p.1
        | inr e2 ↦ absurd cc
      ]
    ]

level_again : (level : Level) → level_of (level_byte level) ≡ Some level
level_again L0 = refl
level_again L1 = refl

pub table_codec : IsCodec table_at table_line HasRoom
unfolding table_at table_line
table_codec = record { again = again; takes = takes }
  where
    again : (t : TableInfo) (rest : List ℕ) → HasRoom t → table_at (table_line t ++ rest) ≡ Some (t, rest)
    again t rest is =
        rw (
          u64_codec.again t.id (level_byte t.level ∷ (little_bytes 8 t.file_len ++ little_bytes 8 t.entry_count) ++ rest) is.0,
          level_again t.level,
          u64_codec.again t.file_len (little_bytes 8 t.entry_count ++ rest) is.1,
          u64_codec.again t.entry_count rest is.2,
        ) refl

    takes : (bytes : List ℕ) (t : TableInfo) (rest : List ℕ) → IsBytes bytes → table_at bytes ≡ Some (t, rest) → Found table_line HasRoom bytes t rest
    takes bytes t rest fits e =
        let s0 = step (number_at 8) _ _ u64_codec bytes (λ id. byte_at id.1 >>= λ b. level_of b.0 >>= λ level. number_at 8 b.1 >>= λ file_len. number_at 8 file_len.1 >>= λ count. Some (record { id = id.0; level = level; file_len = file_len.0; entry_count = count.0 }, count.1)) (t, rest) fits e in
        let s1 = step byte_at _ _ byte_codec s0.rest (λ b. level_of b.0 >>= λ level. number_at 8 b.1 >>= λ file_len. number_at 8 file_len.1 >>= λ count. Some (record { id = s0.value; level = level; file_len = file_len.0; entry_count = count.0 }, count.1)) (t, rest) s0.found.fits s0.next in
        let l = bind_some (level_of s1.value) (λ level. number_at 8 s1.rest >>= λ file_len. number_at 8 file_len.1 >>= λ count. Some (record { id = s0.value; level = level; file_len = file_len.0; entry_count = count.0 }, count.1)) (t, rest) s1.next in
        let s2 = step (number_at 8) _ _ u64_codec s1.rest (λ file_len. number_at 8 file_len.1 >>= λ count. Some (record { id = s0.value; level = l.0; file_len = file_len.0; entry_count = count.0 }, count.1)) (t, rest) s1.found.fits l.2 in
        let s3 = step (number_at 8) _ _ u64_codec s2.rest (λ count. Some (record { id = s0.value; level = l.0; file_len = s2.value; entry_count = count.0 }, count.1)) (t, rest) s2.found.fits s2.next in
        let made : TableInfo = record { id = s0.value; level = l.0; file_len = s2.value; entry_count = s3.value } in
        let e3 : s1.rest ≡ little_bytes 8 s2.value ++ (little_bytes 8 s3.value ++ s3.rest) = s2.found.parts ∙ ap (λ (v : List ℕ). little_bytes 8 s2.value ++ v) s3.found.parts in
        let e2 : s0.rest ≡ level_byte l.0 ∷ (little_bytes 8 s2.value ++ little_bytes 8 s3.value) ++ s3.rest = s1.found.parts ∙ ap (λ (v : ℕ). v ∷ s1.rest) (level_is s1.value l.0 l.1) ∙ ap (λ (v : List ℕ). level_byte l.0 ∷ v) (e3 ∙ sym (append_assoc (little_bytes 8 s2.value) (little_bytes 8 s3.value) s3.rest)) in
        let e1 : bytes ≡ table_line made ++ s3.rest = s0.found.parts ∙ ap (λ (v : List ℕ). little_bytes 8 s0.value ++ v) e2 ∙ sym (append_assoc (little_bytes 8 s0.value) (level_byte l.0 ∷ little_bytes 8 s2.value ++ little_bytes 8 s3.value) s3.rest) in
        subst (λ (p : TableInfo × List ℕ). Found table_line HasRoom bytes p.0 p.1) (some_is (made, s3.rest) (t, rest) s3.next)
        (record { parts = e1; is = (s0.found.is, s2.found.is, s3.found.is); fits = s3.found.fits })

-- ---- the numbers

abbrev pub front_text : Numbers → List ℕ
front_text n = 1 ∷ optional_text n.persisted ++ (optional_text n.highest ++ (little_bytes 8 n.next_table_id ++ little_bytes 8 n.next_keyspace_id))

pub record SmallNumbers (n : Numbers) : Type 0 where
  pub persisted : SmallOption n.persisted
  pub highest : SmallOption n.highest
  pub next_table_id : n.next_table_id < 2 ^ 64
  pub next_keyspace_id : n.next_keyspace_id < 2 ^ 64

format_is : (b f : ℕ) → format_of b ≡ Some f → b ≡ 1
format_is b f e = eqb-true b 1 (pass_some (eqb b 1) (Some 1) f e).0

four : (a b c d rest : List ℕ) → (a ++ (b ++ (c ++ d))) ++ rest ≡ a ++ (b ++ (c ++ (d ++ rest)))
four a b c d rest = simp append_assoc

pub numbers_codec : IsCodec numbers_at front_text SmallNumbers
unfolding numbers_at
numbers_codec = record { again = again; takes = takes }
  where
    again : (n : Numbers) (rest : List ℕ) → SmallNumbers n → numbers_at (front_text n ++ rest) ≡ Some (n, rest)
    again n rest is =
        rw (
          four (optional_text n.persisted) (optional_text n.highest) (little_bytes 8 n.next_table_id) (little_bytes 8 n.next_keyspace_id) rest,
          optional_codec.again n.persisted (optional_text n.highest ++ (little_bytes 8 n.next_table_id ++ (little_bytes 8 n.next_keyspace_id ++ rest))) is.persisted,
          optional_codec.again n.highest (little_bytes 8 n.next_table_id ++ (little_bytes 8 n.next_keyspace_id ++ rest)) is.highest,
          u64_codec.again n.next_table_id (little_bytes 8 n.next_keyspace_id ++ rest) is.next_table_id,
          u64_codec.again n.next_keyspace_id rest is.next_keyspace_id,
        ) refl

    takes : (bytes : List ℕ) (n : Numbers) (rest : List ℕ) → IsBytes bytes → numbers_at bytes ≡ Some (n, rest) → Found front_text SmallNumbers bytes n rest
    takes bytes n rest fits e =
        let s0 = step byte_at _ _ byte_codec bytes (λ b. format_of b.0 >>= λ f. optional_at b.1 >>= λ p. optional_at p.1 >>= λ h. number_at 8 h.1 >>= λ t. number_at 8 t.1 >>= λ k. Some (record { persisted = p.0; highest = h.0; next_table_id = t.0; next_keyspace_id = k.0 }, k.1)) (n, rest) fits e in
        let f = bind_some (format_of s0.value) (λ f. optional_at s0.rest >>= λ p. optional_at p.1 >>= λ h. number_at 8 h.1 >>= λ t. number_at 8 t.1 >>= λ k. Some (record { persisted = p.0; highest = h.0; next_table_id = t.0; next_keyspace_id = k.0 }, k.1)) (n, rest) s0.next in
        let s1 = step optional_at _ _ optional_codec s0.rest (λ p. optional_at p.1 >>= λ h. number_at 8 h.1 >>= λ t. number_at 8 t.1 >>= λ k. Some (record { persisted = p.0; highest = h.0; next_table_id = t.0; next_keyspace_id = k.0 }, k.1)) (n, rest) s0.found.fits f.2 in
        let s2 = step optional_at _ _ optional_codec s1.rest (λ h. number_at 8 h.1 >>= λ t. number_at 8 t.1 >>= λ k. Some (record { persisted = s1.value; highest = h.0; next_table_id = t.0; next_keyspace_id = k.0 }, k.1)) (n, rest) s1.found.fits s1.next in
        let s3 = step (number_at 8) _ _ u64_codec s2.rest (λ t. number_at 8 t.1 >>= λ k. Some (record { persisted = s1.value; highest = s2.value; next_table_id = t.0; next_keyspace_id = k.0 }, k.1)) (n, rest) s2.found.fits s2.next in
        let s4 = step (number_at 8) _ _ u64_codec s3.rest (λ k. Some (record { persisted = s1.value; highest = s2.value; next_table_id = s3.value; next_keyspace_id = k.0 }, k.1)) (n, rest) s3.found.fits s3.next in
        let made : Numbers = record { persisted = s1.value; highest = s2.value; next_table_id = s3.value; next_keyspace_id = s4.value } in
        let behind : s0.rest ≡ optional_text s1.value ++ (optional_text s2.value ++ (little_bytes 8 s3.value ++ (little_bytes 8 s4.value ++ s4.rest))) =
        s1.found.parts ∙ ap (λ (v : List ℕ). optional_text s1.value ++ v) (s2.found.parts ∙ ap (λ (v : List ℕ). optional_text s2.value ++ v) (s3.found.parts ∙ ap (λ (v : List ℕ). little_bytes 8 s3.value ++ v) s4.found.parts)) in
        let all : bytes ≡ front_text made ++ s4.rest = s0.found.parts ∙ ap (λ (v : ℕ). v ∷ s0.rest) (format_is s0.value f.0 f.1) ∙ ap (λ (v : List ℕ). 1 ∷ v) (behind ∙ sym (four (optional_text s1.value) (optional_text s2.value) (little_bytes 8 s3.value) (little_bytes 8 s4.value) s4.rest)) in
        subst (λ (p : Numbers × List ℕ). Found front_text SmallNumbers bytes p.0 p.1) (some_is (made, s4.rest) (n, rest) s4.next)
        (record { parts = all; is = record { persisted = s1.found.is; highest = s2.found.is; next_table_id = s3.found.is; next_keyspace_id = s4.found.is }; fits = s4.found.fits })

-- ---- a body

numbers_of : Fields → Numbers
numbers_of r = record { persisted = r.persisted; highest = r.highest; next_table_id = r.next_table_id; next_keyspace_id = r.next_keyspace_id }

-- the parts of a body, one behind the other
body_parts : (r : Fields) (n : Numbers) (tables : List TableInfo) (clears : List ℕ) → r ≡ fields_of n tables clears
    → body r ≡ front_text n ++ (little_bytes 4 (length tables) ++ (flat_map table_line tables ++ (little_bytes 4 (length clears) ++ flat_map (little_bytes 8) clears)))
unfolding body
body_parts r n tables clears is =
    rw is (ap (λ (v : List ℕ). 1 ∷ v) (five (optional_text n.persisted) (optional_text n.highest) (little_bytes 8 n.next_table_id) (little_bytes 8 n.next_keyspace_id) (little_bytes 4 (length tables)) (flat_map table_line tables ++ (little_bytes 4 (length clears) ++ flat_map (little_bytes 8) clears))))
  where
    five : (a b c d e rest : List ℕ) → (a ++ (b ++ (c ++ (d ++ e)))) ++ rest ≡ (a ++ (b ++ (c ++ d))) ++ (e ++ rest)
    five a b c d e rest = simp append_assoc

pub body_again : (r : Fields) → HasRoomForAll r → length r.tables < 2 ^ 32 → length r.clears < 2 ^ 32 → body_of (body r) ≡ Some r
unfolding body_of numbers_of
body_again r is tables clears =
    rw (
      body_parts r (numbers_of r) r.tables r.clears refl,
      numbers_codec.again (numbers_of r) (little_bytes 4 (length r.tables) ++ (flat_map table_line r.tables ++ (little_bytes 4 (length r.clears) ++ flat_map (little_bytes 8) r.clears))) (record { persisted = is.persisted; highest = is.highest; next_table_id = is.next_table_id; next_keyspace_id = is.next_keyspace_id }),
      u32_codec.again (length r.tables) (flat_map table_line r.tables ++ (little_bytes 4 (length r.clears) ++ flat_map (little_bytes 8) r.clears)) tables,
      (many_codec table_at table_line HasRoom table_codec (length r.tables)).again r.tables (little_bytes 4 (length r.clears) ++ flat_map (little_bytes 8) r.clears) (refl, is.tables),
      u32_codec.again (length r.clears) (flat_map (little_bytes 8) r.clears) clears,
      last,
    ) refl
  where
    last : many_at (number_at 8) (length r.clears) (flat_map (little_bytes 8) r.clears) ≡ Some (r.clears, [])
    last = ap (many_at (number_at 8) (length r.clears)) (sym (append-nil (flat_map (little_bytes 8) r.clears))) ∙ (many_codec (number_at 8) (little_bytes 8) (λ n. n < 2 ^ 64) u64_codec (length r.clears)).again r.clears [] (refl, is.clears)

pub body_takes : (bytes : List ℕ) (r : Fields) → IsBytes bytes → body_of bytes ≡ Some r → (bytes ≡ body r) × HasRoomForAll r
unfolding body_of
body_takes bytes r fits e =
    let s0 = step numbers_at _ _ numbers_codec bytes (λ n. number_at 4 n.1 >>= λ tc. many_at table_at tc.0 tc.1 >>= λ ts. number_at 4 ts.1 >>= λ cc. many_at (number_at 8) cc.0 cc.1 >>= λ cs. nothing_behind (fields_of n.0 ts.0 cs.0) cs.1) r fits e in
    let s1 = step (number_at 4) _ _ u32_codec s0.rest (λ tc. many_at table_at tc.0 tc.1 >>= λ ts. number_at 4 ts.1 >>= λ cc. many_at (number_at 8) cc.0 cc.1 >>= λ cs. nothing_behind (fields_of s0.value ts.0 cs.0) cs.1) r s0.found.fits s0.next in
    let s2 = step (many_at table_at s1.value) _ _ (many_codec table_at table_line HasRoom table_codec s1.value) s1.rest (λ ts. number_at 4 ts.1 >>= λ cc. many_at (number_at 8) cc.0 cc.1 >>= λ cs. nothing_behind (fields_of s0.value ts.0 cs.0) cs.1) r s1.found.fits s1.next in
    let s3 = step (number_at 4) _ _ u32_codec s2.rest (λ cc. many_at (number_at 8) cc.0 cc.1 >>= λ cs. nothing_behind (fields_of s0.value s2.value cs.0) cs.1) r s2.found.fits s2.next in
    let s4 = step (many_at (number_at 8) s3.value) _ _ (many_codec (number_at 8) (little_bytes 8) (λ n. n < 2 ^ 64) u64_codec s3.value) s3.rest (λ cs. nothing_behind (fields_of s0.value s2.value cs.0) cs.1) r s3.found.fits s3.next in
    let p = pass_some (eqb (length s4.rest) 0) (Some (fields_of s0.value s2.value s4.value)) r s4.next in
    let made : Fields = fields_of s0.value s2.value s4.value in
    let nothing : s4.rest ≡ [] = nil_from_length s4.rest (eqb-true _ _ p.0) in
    let d4 : s3.rest ≡ flat_map (little_bytes 8) s4.value = s4.found.parts ∙ ap (λ (v : List ℕ). flat_map (little_bytes 8) s4.value ++ v) nothing ∙ append-nil (flat_map (little_bytes 8) s4.value) in
    let d3 : s2.rest ≡ little_bytes 4 (length s4.value) ++ flat_map (little_bytes 8) s4.value = s3.found.parts ∙ ap (λ (n : ℕ). little_bytes 4 n ++ s3.rest) (sym s4.found.is.0) ∙ ap (λ (v : List ℕ). little_bytes 4 (length s4.value) ++ v) d4 in
    let d2 : s1.rest ≡ flat_map table_line s2.value ++ (little_bytes 4 (length s4.value) ++ flat_map (little_bytes 8) s4.value) = s2.found.parts ∙ ap (λ (v : List ℕ). flat_map table_line s2.value ++ v) d3 in
    let d1 : s0.rest ≡ little_bytes 4 (length s2.value) ++ (flat_map table_line s2.value ++ (little_bytes 4 (length s4.value) ++ flat_map (little_bytes 8) s4.value)) = s1.found.parts ∙ ap (λ (n : ℕ). little_bytes 4 n ++ s1.rest) (sym s2.found.is.0) ∙ ap (λ (v : List ℕ). little_bytes 4 (length s2.value) ++ v) d2 in
    let all : bytes ≡ body made = s0.found.parts ∙ ap (λ (v : List ℕ). front_text s0.value ++ v) d1 ∙ sym (body_parts made s0.value s2.value s4.value refl) in
    subst (λ (v : Fields). (bytes ≡ body v) × HasRoomForAll v) (some_is made r p.1)
    (all, record { persisted = s0.found.is.persisted; highest = s0.found.is.highest; next_table_id = s0.found.is.next_table_id; next_keyspace_id = s0.found.is.next_keyspace_id; tables = s2.found.is.1; clears = s4.found.is.1 })
