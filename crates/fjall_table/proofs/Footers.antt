-- A footer is read as it was written.
use Rattle.std.proofs.Common.{◌≡◌, ℕ, ◌^◌, ◌<◌, true, cond, ◌&&◌, List, [], ◌∷◌, ◌++◌, length, take, Option, Some, None, refl, sym, ap, subst, ◌∙◌, append_assoc}
use Rattle.std.specs.Str.{bytes_eq}
use Rattle.std.proofs.lemmas.Slice.Eq.{bytes_eq-Decides}
use Rattle.std.proofs.lemmas.Bool.{and_parts}
use Rattle.std.proofs.lemmas.List.{take_at, append-nil, nil_from_length}
use Rattle.byteorder.specs.Endian.{little_bytes}
use Rattle.fjall_table.specs.declared.footer.Footer.{Footer}
use Rattle.fjall_base.specs.Check.{check}
use Rattle.fjall_base.specs.Fields.{◌>>=◌, number_at, bytes_at}
use Rattle.fjall_table.specs.Tables.{footer_text}
use Rattle.fjall_table.specs.TableReading.{IsNoFooter, footer_at}
use Rattle.fjall_base.proofs.Codecs.{IsBytes, some_is, pass_some, Found, IsCodec, step, u64_codec, bytes_codec}
use Rattle.fjall_base.proofs.Checks.{check_len}

pub record Room (f : Footer) : Type 0 where
  pub offset : f.index_offset < 2 ^ 64
  pub len : f.index_len < 2 ^ 64
  pub count : f.entry_count < 2 ^ 64

abbrev pub text : Footer → List ℕ
text f = footer_text f.index_offset f.index_len f.entry_count

abbrev pub magic : List ℕ
magic = 70 ∷ 74 ∷ 84 ∷ 1 ∷ []

abbrev pub head : ℕ → ℕ → ℕ → List ℕ
head offset len count = 70 ∷ 74 ∷ 84 ∷ 1 ∷ little_bytes 8 offset ++ (little_bytes 8 len ++ little_bytes 8 count)

pub head_len : (offset len count : ℕ) → length (head offset len count) ≡ 28
head_len offset len count = refl

regroup : (a b c sum rest : List ℕ) → ((magic ++ (a ++ (b ++ c))) ++ sum) ++ rest ≡ magic ++ (a ++ (b ++ (c ++ (sum ++ rest))))
regroup a b c sum rest = simp append_assoc

front : (offset len count : ℕ) (sum rest : List ℕ) → take 28 (magic ++ (little_bytes 8 offset ++ (little_bytes 8 len ++ (little_bytes 8 count ++ (sum ++ rest))))) ≡ head offset len count
front offset len count sum rest =
    ap (take 28) (whole (little_bytes 8 offset) (little_bytes 8 len) (little_bytes 8 count)) ∙ take_at (head offset len count) (sum ++ rest) 28 (head_len offset len count)
  where
    whole : (a b c : List ℕ) → magic ++ (a ++ (b ++ (c ++ (sum ++ rest)))) ≡ (magic ++ (a ++ (b ++ c))) ++ (sum ++ rest)
    whole a b c = simp append_assoc

-- what is read behind the numbers
abbrev last_read : List ℕ → List ℕ → ℕ → ℕ → ℕ → List ℕ × List ℕ → Option (Footer × List ℕ)
last_read bytes m offset len count sum =
    cond (bytes_eq m magic && bytes_eq sum.0 (check (take 28 bytes))) (Some (record { index_offset = offset; index_len = len; entry_count = count }, sum.1)) None

joined : (bytes m a b c sum r0 r1 r2 r3 r4 : List ℕ) → bytes ≡ m ++ r0 → r0 ≡ a ++ r1 → r1 ≡ b ++ r2 → r2 ≡ c ++ r3 → r3 ≡ sum ++ r4 → m ≡ magic → bytes ≡ magic ++ (a ++ (b ++ (c ++ (sum ++ r4))))
joined bytes m a b c sum r0 r1 r2 r3 r4 e0 e1 e2 e3 e4 is = rw (e0, e1, e2, e3, e4, is) refl

last_fields : (bytes m r0 r1 r2 r3 r4 sum : List ℕ) (offset len count : ℕ) (f : Footer) (rest : List ℕ) → bytes ≡ m ++ r0 → r0 ≡ little_bytes 8 offset ++ r1 → offset < 2 ^ 64 → r1 ≡ little_bytes 8 len ++ r2 → len < 2 ^ 64 → r2 ≡ little_bytes 8 count ++ r3 → count < 2 ^ 64
    → r3 ≡ sum ++ r4 → IsBytes r4 → last_read bytes m offset len count (sum, r4) ≡ Some (f, rest) → Found text Room bytes f rest
unfolding footer_text
last_fields bytes m r0 r1 r2 r3 r4 sum offset len count f rest e0 e1 f1 e2 f2 e3 f3 e4 fits e =
    let p = pass_some (bytes_eq m magic && bytes_eq sum (check (take 28 bytes))) (Some (record { index_offset = offset; index_len = len; entry_count = count }, r4)) (f, rest) e in
    let q = and_parts (bytes_eq m magic) (bytes_eq sum (check (take 28 bytes))) p.0 in
    let line = joined bytes m (little_bytes 8 offset) (little_bytes 8 len) (little_bytes 8 count) sum r0 r1 r2 r3 r4 e0 e1 e2 e3 e4 ((bytes_eq-Decides m magic).0 q.0) in
    let of : take 28 bytes ≡ head offset len count = ap (take 28) line ∙ front offset len count sum r4 in
    let is : sum ≡ check (head offset len count) = (bytes_eq-Decides sum (check (take 28 bytes))).0 q.1 ∙ ap check of in
    let all : bytes ≡ footer_text offset len count ++ r4 =
    line ∙ sym (regroup (little_bytes 8 offset) (little_bytes 8 len) (little_bytes 8 count) sum r4) ∙ ap (λ (v : List ℕ). (head offset len count ++ v) ++ r4) is in
    subst (λ (p : Footer × List ℕ). Found text Room bytes p.0 p.1) (some_is (record { index_offset = offset; index_len = len; entry_count = count }, r4) (f, rest) p.1)
    (record { parts = all; is = record { offset = f1; len = f2; count = f3 }; fits = fits })

reads : (bytes m sum r0 r1 r2 r3 r4 : List ℕ) (offset len count : ℕ) → bytes_at 4 bytes ≡ Some (m, r0) → number_at 8 r0 ≡ Some (offset, r1) → number_at 8 r1 ≡ Some (len, r2) → number_at 8 r2 ≡ Some (count, r3) → bytes_at 8 r3 ≡ Some (sum, r4)
    → bytes_eq m magic ≡ true → bytes_eq sum (check (take 28 bytes)) ≡ true → footer_at bytes ≡ Some (record { index_offset = offset; index_len = len; entry_count = count }, r4)
unfolding footer_at
reads bytes m sum r0 r1 r2 r3 r4 offset len count e0 e1 e2 e3 e4 t u = rw (e0, e1, e2, e3, e4, t, u) refl

pub footer_codec : IsCodec footer_at text Room
unfolding footer_at footer_text
footer_codec = record { again = again; takes = takes }
  where
    again : (f : Footer) (rest : List ℕ) → Room f → footer_at (text f ++ rest) ≡ Some (f, rest)
    again f rest is =
        let a = little_bytes 8 f.index_offset in
        let b = little_bytes 8 f.index_len in
        let c = little_bytes 8 f.entry_count in
        let h = head f.index_offset f.index_len f.entry_count in
        let sum = check h in
        let line : text f ++ rest ≡ magic ++ (a ++ (b ++ (c ++ (sum ++ rest)))) = regroup a b c sum rest in
        let of : take 28 (text f ++ rest) ≡ h = ap (take 28) line ∙ front f.index_offset f.index_len f.entry_count sum rest in
        let yes : bytes_eq sum (check (take 28 (text f ++ rest))) ≡ true = (bytes_eq-Decides sum (check (take 28 (text f ++ rest)))).1 (sym (ap check of)) in
        reads (text f ++ rest) magic sum (a ++ (b ++ (c ++ (sum ++ rest)))) (b ++ (c ++ (sum ++ rest))) (c ++ (sum ++ rest)) (sum ++ rest) rest f.index_offset f.index_len f.entry_count
        (ap (bytes_at 4) line ∙ (bytes_codec 4).again magic (a ++ (b ++ (c ++ (sum ++ rest)))) refl)
        (u64_codec.again f.index_offset (b ++ (c ++ (sum ++ rest))) is.offset)
        (u64_codec.again f.index_len (c ++ (sum ++ rest)) is.len)
        (u64_codec.again f.entry_count (sum ++ rest) is.count)
        ((bytes_codec 8).again sum rest (check_len h))
        refl
        yes

    takes : (bytes : List ℕ) (f : Footer) (rest : List ℕ) → IsBytes bytes → footer_at bytes ≡ Some (f, rest) → Found text Room bytes f rest
    takes bytes f rest fits e =
        let s0 = step (bytes_at 4) _ _ (bytes_codec 4) bytes (λ m. number_at 8 m.1 >>= λ o. number_at 8 o.1 >>= λ l. number_at 8 l.1 >>= λ n. bytes_at 8 n.1 >>= λ sum. last_read bytes m.0 o.0 l.0 n.0 sum) (f, rest) fits e in
        let s1 = step (number_at 8) _ _ u64_codec s0.rest (λ o. number_at 8 o.1 >>= λ l. number_at 8 l.1 >>= λ n. bytes_at 8 n.1 >>= λ sum. last_read bytes s0.value o.0 l.0 n.0 sum) (f, rest) s0.found.fits s0.next in
        let s2 = step (number_at 8) _ _ u64_codec s1.rest (λ l. number_at 8 l.1 >>= λ n. bytes_at 8 n.1 >>= λ sum. last_read bytes s0.value s1.value l.0 n.0 sum) (f, rest) s1.found.fits s1.next in
        let s3 = step (number_at 8) _ _ u64_codec s2.rest (λ n. bytes_at 8 n.1 >>= λ sum. last_read bytes s0.value s1.value s2.value n.0 sum) (f, rest) s2.found.fits s2.next in
        let s4 = step (bytes_at 8) _ _ (bytes_codec 8) s3.rest (λ sum. last_read bytes s0.value s1.value s2.value s3.value sum) (f, rest) s3.found.fits s3.next in
        last_fields bytes s0.value s0.rest s1.rest s2.rest s3.rest s4.rest s4.value s1.value s2.value s3.value f rest s0.found.parts s1.found.parts s1.found.is s2.found.parts s2.found.is s3.found.parts s3.found.is s4.found.parts s4.found.fits s4.next

-- ---- a whole footer

pub no_footer : (bytes : List ℕ) → footer_at bytes ≡ None → IsNoFooter bytes
no_footer bytes e offset len count o l n text_is =
    let f : Footer = record { index_offset = offset; index_len = len; entry_count = count } in
    let h = footer_codec.again f [] (record { offset = o; len = l; count = n }) in
    let g = ap footer_at (text_is ∙ sym (append-nil (text f))) in
    cc

pub more_behind : (bytes behind : List ℕ) (f : Footer) → footer_at bytes ≡ Some (f, behind) → (length behind ≡ 0 → ⊥) → IsNoFooter bytes
more_behind bytes behind f e some offset len count o l n text_is =
    let g : Footer = record { index_offset = offset; index_len = len; entry_count = count } in
    let h = footer_codec.again g [] (record { offset = o; len = l; count = n }) in
    let same = some_is (f, behind) (g, []) (sym e ∙ ap footer_at (text_is ∙ sym (append-nil (text g))) ∙ h) in
    some (ap (λ (p : Footer × List ℕ). length p.1) same)

pub is_footer : (bytes behind : List ℕ) (f : Footer) → IsBytes bytes → footer_at bytes ≡ Some (f, behind) → length behind ≡ 0 → bytes ≡ footer_text f.index_offset f.index_len f.entry_count
is_footer bytes behind f fits e none =
    let t = footer_codec.takes bytes f behind fits e in
    t.parts ∙ ap (λ (v : List ℕ). text f ++ v) (nil_from_length behind none) ∙ append-nil (text f)
