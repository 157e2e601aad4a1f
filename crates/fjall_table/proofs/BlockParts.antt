-- The entries of a block, as a reader meets them.
use Rattle.std.proofs.Common.{◌≡◌, ℕ, ◌-◌, ◌^◌, ◌<◌, ◌≤◌, false, cond, eqb, ltb, IsTrue, ◌↔◌, List, [], ◌∷◌, ◌++◌, length, Option, Some, None, IfSome, refl, sym, ap, subst, ◌∙◌, append_assoc, arith, inl, inr}
use Rattle.std.specs.List.{AllByRecursion}
use Rattle.std.proofs.lemmas.Bool.{eqb-true, eqb-false, ne_eqb, ltb-true, lt-ltb}
use Rattle.std.proofs.lemmas.List.{length-append, append-nil, nil_from_length}
use Rattle.std.proofs.lemmas.Grind.{flat_map-append}
use Rattle.std.specs.declared.cmp.Ordering.{Ordering}
use Rattle.std.specs.declared.cmp.Ordering.TheVariants.{Equal, Greater}
use Rattle.byteorder.specs.Endian.{little_bytes}
use Rattle.fjall_table.specs.Frame.{framed}
use Rattle.fjall_base.specs.Fields.{◌>>=◌, byte_at, number_at, bytes_at}
use Rattle.fjall_table.specs.Reading.{frame_at}
use Rattle.fjall_base.specs.Lists.{last_of}
use Rattle.fjall_base.proofs.Lists.{last_behind}
use Rattle.fjall_table.specs.Blocks.{Entry, type_byte, value_bytes, entry_text, IsEntry, payload_of, block_text, StandsBefore, IsBefore, IsOrdered, IsBlock, IsNoBlock, value_of, entry_of, entry_at}
use Rattle.fjall_base.proofs.Codecs.{IsBytes, IsBytes-front, IsBytes-back, just, some_is, bind_some, pass_some, guard_some, picked, Found, IsCodec, step, one_text, byte_codec, u16_codec, u32_codec, u64_codec, bytes_codec, one_behind, each_more}
use Rattle.fjall_table.proofs.Frames.{frame8}
use Rattle.fjall_table.proofs.Lists.{Apart, GoesOn, goes_on}

-- ---- an entry

value_is : (kind : ℕ) (stored : List ℕ) (value : Option (List ℕ)) → value_of kind stored ≡ Some value → (kind ≡ type_byte value) × (stored ≡ value_bytes value)
value_is kind stored value e =
    elim (picked kind 0 (Some stored) _ value e) [
      | inl p ↦ (p.0 ∙ ap type_byte p.1, ap value_bytes p.1)
      | inr e1 ↦
          let g = pass_some (eqb kind 1) (cond (eqb (length stored) 0) (Some None) None) value e1 in
          let h = pass_some (eqb (length stored) 0) (Some None) value g.1 in
          let same : None ≡ value = some_is None value h.1 in
          (eqb-true kind 1 g.0 ∙ ap type_byte same, nil_from_length stored (eqb-true _ _ h.0) ∙ ap value_bytes same)
    ]

value_again : (value : Option (List ℕ)) → value_of (type_byte value) (value_bytes value) ≡ Some value
value_again (Some value) = refl
value_again None = refl

parts : (a b c d e f rest : List ℕ) → ((a ++ (b ++ (c ++ d))) ++ (e ++ f)) ++ rest ≡ a ++ (b ++ (c ++ (d ++ (e ++ (f ++ rest)))))
parts a b c d e f rest = simp append_assoc

joined : (bytes a b c d e f r0 r1 r2 r3 r4 r5 : List ℕ) → bytes ≡ a ++ r0 → r0 ≡ b ++ r1 → r1 ≡ c ++ r2 → r2 ≡ d ++ r3 → r3 ≡ e ++ r4 → r4 ≡ f ++ r5 → bytes ≡ ((a ++ (b ++ (c ++ d))) ++ (e ++ f)) ++ r5
joined bytes a b c d e f r0 r1 r2 r3 r4 r5 e0 e1 e2 e3 e4 e5 = rw (e0, e1, e2, e3, e4, e5) (sym (parts a b c d e f r5))

renamed : {A : Type 0} (f : A → List ℕ) (x y : A) (bytes rest : List ℕ) → x ≡ y → bytes ≡ f x ++ rest → bytes ≡ f y ++ rest
renamed f x y bytes rest same e = e ∙ ap (λ v. f v ++ rest) same

made : List ℕ → ℕ → Option (List ℕ) → Entry
made key number value = record { key = key; number = number; value = value }

-- the fields of an entry, one behind the other
entry_found : (bytes r0 r1 r2 r3 r4 r5 key st : List ℕ) (kl k n vl : ℕ) (value : Option (List ℕ)) → bytes ≡ little_bytes 2 kl ++ r0 → kl < 2 ^ 16 → r0 ≡ k ∷ r1 → r1 ≡ little_bytes 8 n ++ r2 → n < 2 ^ 64 → r2 ≡ little_bytes 4 vl ++ r3 → vl < 2 ^ 32
    → r3 ≡ key ++ r4 → length key ≡ kl → r4 ≡ st ++ r5 → length st ≡ vl → value_of k st ≡ Some value → eqb kl 0 ≡ false → IsBytes r5 → Found entry_text IsEntry bytes (made key n value) r5
unfolding entry_text made
entry_found bytes r0 r1 r2 r3 r4 r5 key st kl k n vl value e0 f0 e1 e2 f2 e3 f3 e4 l4 e5 l5 v some fits =
    let is = value_is k st value v in
    let value_len : vl ≡ length (value_bytes value) = sym l5 ∙ ap length is.1 in
    record {
      parts =
          joined bytes (little_bytes 2 (length key)) (type_byte value ∷ []) (little_bytes 8 n) (little_bytes 4 (length (value_bytes value))) key (value_bytes value) r0 r1 r2 r3 r4 r5
          (renamed (little_bytes 2) kl (length key) bytes r0 (sym l4) e0)
          (e1 ∙ ap (λ (b : ℕ). b ∷ r1) is.0)
          e2
          (renamed (little_bytes 4) vl (length (value_bytes value)) r2 r3 value_len e3)
          e4
          (renamed (λ (t : List ℕ). t) st (value_bytes value) r4 r5 is.1 e5);
      is = record { some = at_least_one kl (length key) some l4; key = subst (λ (m : ℕ). m < 2 ^ 16) (sym l4) f0; number = f2; value = subst (λ (m : ℕ). m < 2 ^ 32) value_len f3 };
      fits = fits;
    }
  where
    at_least_one : (kl m : ℕ) → eqb kl 0 ≡ false → m ≡ kl → 0 < m
    at_least_one kl m some e = let ne = eqb-false kl 0 some in omega arith

same_found : (bytes rest r5 : List ℕ) (w d v : Entry) → Found entry_text IsEntry bytes w r5 → just w ≡ Some d → just {A = Entry × List ℕ} (d, r5) ≡ Some (v, rest) → Found entry_text IsEntry bytes v rest
same_found bytes rest r5 w d v found e f = subst (λ (p : Entry × List ℕ). Found entry_text IsEntry bytes p.0 p.1) (ap (λ (en : Entry). (en, r5)) (some_is w d e) ∙ some_is (d, r5) (v, rest) f) found

-- what is read behind the numbers, and behind key and value
abbrev tail_read : ℕ → ℕ → ℕ → ℕ → List ℕ → Option (Entry × List ℕ)
tail_read kl k n vl r3 = bytes_at kl r3 >>= λ key. bytes_at vl key.1 >>= λ st. value_of k st.0 >>= λ value. entry_of kl key.0 n value >>= λ en. Some (en, st.1)

abbrev last_read : ℕ → ℕ → ℕ → List ℕ → List ℕ → List ℕ → Option (Entry × List ℕ)
last_read kl k n key st r5 = value_of k st >>= λ value. entry_of kl key n value >>= λ en. Some (en, r5)

behind_numbers : (bytes r0 r1 r2 r3 : List ℕ) (kl k n vl : ℕ) (v : Entry) (rest : List ℕ) → bytes ≡ little_bytes 2 kl ++ r0 → kl < 2 ^ 16 → r0 ≡ k ∷ r1 → r1 ≡ little_bytes 8 n ++ r2 → n < 2 ^ 64 → r2 ≡ little_bytes 4 vl ++ r3 → vl < 2 ^ 32 → IsBytes r3
    → tail_read kl k n vl r3 ≡ Some (v, rest) → Found entry_text IsEntry bytes v rest
unfolding made
behind_numbers bytes r0 r1 r2 r3 kl k n vl v rest e0 f0 e1 e2 f2 e3 f3 fits e =
    let s4 = step (bytes_at kl) (λ (t : List ℕ). t) (λ (t : List ℕ). length t ≡ kl) (bytes_codec kl) r3 (λ key. bytes_at vl key.1 >>= λ st. value_of k st.0 >>= λ value. entry_of kl key.0 n value >>= λ en. Some (en, st.1)) (v, rest) fits e in
    let s5 = step (bytes_at vl) (λ (t : List ℕ). t) (λ (t : List ℕ). length t ≡ vl) (bytes_codec vl) s4.rest (λ st. value_of k st.0 >>= λ value. entry_of kl s4.value n value >>= λ en. Some (en, st.1)) (v, rest) s4.found.fits s4.next in
    last_fields bytes r0 r1 r2 r3 s4.rest s5.rest s4.value s5.value kl k n vl v rest e0 f0 e1 e2 f2 e3 f3 s4.found.parts s4.found.is s5.found.parts s5.found.is s5.found.fits s5.next
  where
    last_fields : (bytes r0 r1 r2 r3 r4 r5 key st : List ℕ) (kl k n vl : ℕ) (v : Entry) (rest : List ℕ) → bytes ≡ little_bytes 2 kl ++ r0 → kl < 2 ^ 16 → r0 ≡ k ∷ r1 → r1 ≡ little_bytes 8 n ++ r2 → n < 2 ^ 64 → r2 ≡ little_bytes 4 vl ++ r3 → vl < 2 ^ 32
        → r3 ≡ key ++ r4 → length key ≡ kl → r4 ≡ st ++ r5 → length st ≡ vl → IsBytes r5
        → last_read kl k n key st r5 ≡ Some (v, rest) → Found entry_text IsEntry bytes v rest
    last_fields bytes r0 r1 r2 r3 r4 r5 key st kl k n vl v rest e0 f0 e1 e2 f2 e3 f3 e4 l4 e5 l5 fits e =
        let b = bind_some (value_of k st) (λ value. entry_of kl key n value >>= λ en. Some (en, r5)) (v, rest) e in
        let d = bind_some (entry_of kl key n b.0) (λ en. Some (en, r5)) (v, rest) b.2 in
        let g = guard_some (eqb kl 0) (Some (made key n b.0)) d.0 d.1 in
        same_found bytes rest r5 (made key n b.0) d.0 v (entry_found bytes r0 r1 r2 r3 r4 r5 key st kl k n vl b.0 e0 f0 e1 e2 f2 e3 f3 e4 l4 e5 l5 b.1 g.0 fits) g.1 d.2

pub entry_codec : IsCodec entry_at entry_text IsEntry
unfolding entry_at entry_text made
entry_codec = record { again = again; takes = takes }
  where
    again : (v : Entry) (rest : List ℕ) → IsEntry v → entry_at (entry_text v ++ rest) ≡ Some (v, rest)
    again v rest is =
        let some : eqb (length v.key) 0 ≡ false = ne_eqb (length v.key) 0 (λ z. let s = is.some in omega arith) in
        rw (
          append_assoc v.key (value_bytes v.value) rest,
          u16_codec.again (length v.key) (type_byte v.value ∷ (little_bytes 8 v.number ++ (little_bytes 4 (length (value_bytes v.value)) ++ (v.key ++ (value_bytes v.value ++ rest))))) is.key,
          u64_codec.again v.number (little_bytes 4 (length (value_bytes v.value)) ++ (v.key ++ (value_bytes v.value ++ rest))) is.number,
          u32_codec.again (length (value_bytes v.value)) (v.key ++ (value_bytes v.value ++ rest)) is.value,
          (bytes_codec (length v.key)).again v.key (value_bytes v.value ++ rest) refl,
          (bytes_codec (length (value_bytes v.value))).again (value_bytes v.value) rest refl,
          value_again v.value,
          some,
        ) refl

    takes : (bytes : List ℕ) (v : Entry) (rest : List ℕ) → IsBytes bytes → entry_at bytes ≡ Some (v, rest) → Found entry_text IsEntry bytes v rest
    takes bytes v rest fits e =
        let s0 = step (number_at 2) _ _ u16_codec bytes (λ kl. byte_at kl.1 >>= λ k. number_at 8 k.1 >>= λ n. number_at 4 n.1 >>= λ vl. bytes_at kl.0 vl.1 >>= λ key. bytes_at vl.0 key.1 >>= λ st. value_of k.0 st.0 >>= λ value. entry_of kl.0 key.0 n.0 value >>= λ en. Some (en, st.1)) (v, rest) fits e in
        let s1 = step byte_at _ _ byte_codec s0.rest (λ k. number_at 8 k.1 >>= λ n. number_at 4 n.1 >>= λ vl. bytes_at s0.value vl.1 >>= λ key. bytes_at vl.0 key.1 >>= λ st. value_of k.0 st.0 >>= λ value. entry_of s0.value key.0 n.0 value >>= λ en. Some (en, st.1)) (v, rest) s0.found.fits s0.next in
        let s2 = step (number_at 8) _ _ u64_codec s1.rest (λ n. number_at 4 n.1 >>= λ vl. bytes_at s0.value vl.1 >>= λ key. bytes_at vl.0 key.1 >>= λ st. value_of s1.value st.0 >>= λ value. entry_of s0.value key.0 n.0 value >>= λ en. Some (en, st.1)) (v, rest) s1.found.fits s1.next in
        let s3 = step (number_at 4) _ _ u32_codec s2.rest (λ vl. bytes_at s0.value vl.1 >>= λ key. bytes_at vl.0 key.1 >>= λ st. value_of s1.value st.0 >>= λ value. entry_of s0.value key.0 s2.value value >>= λ en. Some (en, st.1)) (v, rest) s2.found.fits s2.next in
        behind_numbers bytes s0.rest s1.rest s2.rest s3.rest s0.value s1.value s2.value s3.value v rest s0.found.parts s0.found.is s1.found.parts s2.found.parts s2.found.is s3.found.parts s3.found.is s3.found.fits s3.next

pub entry_some : (v : Entry) → 0 < length (entry_text v)
unfolding entry_text
entry_some v = omega arith

pub entries_apart : Apart entry_text IsEntry
entries_apart = record { one = λ a b x y ia ib e. one_text entry_at entry_text IsEntry entry_codec a b x y ia ib e; some = entry_some }

-- ---- order

pub ordered_more : (vs : List Entry) (v : Entry) → IsOrdered vs → IfSome (last_of vs) (λ w. IsBefore w v) → IsOrdered (vs ++ v ∷ [])
ordered_more [] v up after = tt
ordered_more (w ∷ []) v up after = (after, tt)
ordered_more (w ∷ x ∷ vs) v up after = (up.0, ordered_more (x ∷ vs) v up.1 after)

pub ordered_at : (vs more : List Entry) (v : Entry) → IsOrdered (vs ++ v ∷ more) → IfSome (last_of vs) (λ w. IsBefore w v)
ordered_at [] more v up = tt
ordered_at (w ∷ []) more v up = up.0
ordered_at (w ∷ x ∷ vs) more v up = ordered_at (x ∷ vs) more v up.1

-- ---- what was read so far

pub record Part (payload : List ℕ) (vs : List Entry) (last : Option Entry) (rest : List ℕ) : Type 0 where
  pub last_is : last ≡ last_of vs
  pub parts : payload ≡ payload_of vs ++ rest
  pub fits : IsBytes rest
  pub each : AllByRecursion IsEntry vs
  pub ordered : IsOrdered vs
  pub closed : (front more : List Entry) → 0 < length more → vs ≡ front ++ more → length (payload_of front) < 4096

pub nothing_read : (payload : List ℕ) → IsBytes payload → Part payload [] None payload
nothing_read payload fits = record {
  last_is = refl;
  parts = refl;
  fits = fits;
  each = tt;
  ordered = tt;
  closed = λ front more some e. let l = ap length e in let m = length-append front more in absurd (omega arith);
}

-- a beginning has no longer a payload
pub shorter : (vs more : List Entry) → length (payload_of vs) ≤ length (payload_of (vs ++ more))
shorter vs more = let l = ap length (flat_map-append entry_text vs more) in let m = length-append (payload_of vs) (payload_of more) in omega arith

-- a proper beginning of a list with one more is a beginning of the list
pub begins : (vs front more : List Entry) (v : Entry) → 0 < length more → vs ++ v ∷ [] ≡ front ++ more → (back : List Entry) × (vs ≡ front ++ back)
begins vs [] more v some e = (vs, refl)
begins [] (a ∷ front) more v some e = let l = ap length e in let m = length-append front more in absurd (omega arith)
begins (b ∷ vs) (a ∷ front) more v some e =
    let head : b ≡ a = cc in
    let tail : vs ++ v ∷ [] ≡ front ++ more = cc in
    let t = begins vs front more v some tail in
    (t.0, ap (λ (x : Entry). x ∷ vs) head ∙ ap (λ (xs : List Entry). a ∷ xs) t.1)

pub one_more : (payload rest after : List ℕ) (vs : List Entry) (last : Option Entry) (v : Entry) → Part payload vs last rest → entry_at rest ≡ Some (v, after) → length payload - length rest < 4096 → IfSome last (λ w. IsBefore w v) → Part payload (vs ++ v ∷ []) (Some v) after
one_more payload rest after vs last v p e room after_last =
    let f = entry_codec.takes rest v after p.fits e in
    let len : length (payload_of vs) < 4096 = let l = ap length p.parts in let m = length-append (payload_of vs) rest in omega arith in
    record {
      parts = p.parts ∙ ap (λ (t : List ℕ). payload_of vs ++ t) f.parts ∙ one_behind entry_text vs v after;
      fits = f.fits;
      each = each_more IsEntry vs v p.each f.is;
      last_is = sym (last_behind vs v);
      ordered = ordered_more vs v p.ordered (subst (λ (o : Option Entry). IfSome o (λ w. IsBefore w v)) p.last_is after_last);
      closed = λ front more some is.
          let b = begins vs front more v some is in
          let s = shorter front b.0 in
          let l = ap (λ (xs : List Entry). length (payload_of xs)) b.1 in
          omega arith;
    }

pub one_less : (rest after : List ℕ) (v : Entry) → IsBytes rest → entry_at rest ≡ Some (v, after) → length after < length rest
one_less rest after v fits e = let f = entry_codec.takes rest v after fits e in let l = ap length f.parts in let m = length-append (entry_text v) after in let s = entry_some v in omega arith

-- ---- a whole block

pub record Whole (bytes payload : List ℕ) : Type 0 where
  pub text : bytes ≡ framed 8 payload
  pub small : length payload < 2 ^ 64
  pub fits : IsBytes payload

pub whole_takes : (bytes payload behind : List ℕ) → IsBytes bytes → frame_at 8 bytes ≡ Some (payload, behind) → length behind ≡ 0 → Whole bytes payload
whole_takes bytes payload behind fits e none =
    let f = frame8.takes bytes payload behind fits e in
    let all : bytes ≡ framed 8 payload = f.parts ∙ ap (λ (t : List ℕ). framed 8 payload ++ t) (nil_from_length behind none) ∙ append-nil (framed 8 payload) in
    record { text = all; small = f.is; fits = inner (subst IsBytes all fits) }
  where
    inner : IsBytes (framed 8 payload) → IsBytes payload
    inner h = IsBytes-back (little_bytes 8 (length payload)) payload (IsBytes-front (little_bytes 8 (length payload) ++ payload) _ h)

-- any block with this payload
block_has : (bytes payload : List ℕ) (vs : List Entry) → Whole bytes payload → length (payload_of vs) < 2 ^ 64 → bytes ≡ block_text vs → payload ≡ payload_of vs
block_has bytes payload vs w small text =
    (one_text (frame_at 8) (framed 8) (λ (p : List ℕ). length p < 2 ^ 64) frame8 payload (payload_of vs) [] [] w.small small (append-nil (framed 8 payload) ∙ sym w.text ∙ text ∙ sym (append-nil (block_text vs)))).0

pub no_frame : (bytes : List ℕ) → frame_at 8 bytes ≡ None → IsNoBlock bytes
no_frame bytes e vs is small text = let h = frame8.again (payload_of vs) [] small in let g = ap (frame_at 8) (text ∙ sym (append-nil (block_text vs))) in cc

pub more_behind : (bytes payload behind : List ℕ) → frame_at 8 bytes ≡ Some (payload, behind) → (length behind ≡ 0 → ⊥) → IsNoBlock bytes
more_behind bytes payload behind e some vs is small text =
    let h = frame8.again (payload_of vs) [] small in
    let same = some_is (payload, behind) (payload_of vs, []) (sym e ∙ ap (frame_at 8) (text ∙ sym (append-nil (block_text vs))) ∙ h) in
    some (ap (λ (p : List ℕ × List ℕ). length p.1) same)

payload_some : (vs : List Entry) → 0 < length vs → 0 < length (payload_of vs)
payload_some [] some = absurd (omega arith)
payload_some (v ∷ vs) some = let l = entry_some v in let s = shorter (v ∷ []) vs in let m = ap length (append-nil (entry_text v)) in omega arith

pub no_entry : (bytes payload : List ℕ) → Whole bytes payload → length payload ≡ 0 → IsNoBlock bytes
no_entry bytes payload w none vs is small text =
    let h = block_has bytes payload vs w small text in
    let l = ap length h in
    let s = payload_some vs is.some in
    omega arith

-- what any block goes on with
record Next (vs ws : List Entry) (rest : List ℕ) : Type 0 where
  pub entry : Entry
  pub more : List Entry
  pub parts : ws ≡ vs ++ entry ∷ more
  pub is : IsEntry entry
  pub text : rest ≡ entry_text entry ++ payload_of more

next_of : (bytes payload rest : List ℕ) (vs ws : List Entry) (last : Option Entry) → Whole bytes payload → Part payload vs last rest → (length rest ≡ 0 → ⊥) → IsBlock ws → length (payload_of ws) < 2 ^ 64 → bytes ≡ block_text ws → Next vs ws rest
next_of bytes payload rest vs ws last w p some is small text =
    let h = block_has bytes payload ws w small text in
    pick (goes_on entry_text IsEntry entries_apart vs ws rest p.each is.each (sym p.parts ∙ h))
  where
    of : (more : List Entry) → ws ≡ vs ++ more → AllByRecursion IsEntry more → rest ≡ payload_of more → Next vs ws rest
    of [] e each t = absurd (some (ap length t))
    of (v ∷ more) e each t = record { entry = v; more = more; parts = e; is = each.0; text = t }

    pick : GoesOn entry_text IsEntry vs ws rest → Next vs ws rest
    pick g = of g.more g.parts g.each g.text_is

pub unreadable : (bytes payload rest : List ℕ) (vs : List Entry) (last : Option Entry) → Whole bytes payload → Part payload vs last rest → (length rest ≡ 0 → ⊥) → entry_at rest ≡ None → IsNoBlock bytes
unreadable bytes payload rest vs last w p some e ws is small text =
    let n = next_of bytes payload rest vs ws last w p some is small text in
    let h = entry_codec.again n.entry (payload_of n.more) n.is in
    let g = ap entry_at n.text in
    cc

pub too_late : (bytes payload rest : List ℕ) (vs : List Entry) (last : Option Entry) → Whole bytes payload → Part payload vs last rest → (length rest ≡ 0 → ⊥) → 4096 ≤ length payload - length rest → IsNoBlock bytes
too_late bytes payload rest vs last w p some late ws is small text =
    let n = next_of bytes payload rest vs ws last w p some is small text in
    let c = is.closed vs (n.entry ∷ n.more) (omega arith) n.parts in
    let l = ap length p.parts in
    let m = length-append (payload_of vs) rest in
    omega arith

pub out_of_order : (bytes payload rest after : List ℕ) (vs : List Entry) (last : Option Entry) (v : Entry) → Whole bytes payload → Part payload vs last rest → (length rest ≡ 0 → ⊥) → entry_at rest ≡ Some (v, after) → (IfSome last (λ w. IsBefore w v) → ⊥) → IsNoBlock bytes
out_of_order bytes payload rest after vs last v w p some e bad ws is small text =
    let n = next_of bytes payload rest vs ws last w p some is small text in
    let h = entry_codec.again n.entry (payload_of n.more) n.is in
    let same = some_is (v, after) (n.entry, payload_of n.more) (sym e ∙ ap entry_at n.text ∙ h) in
    let up = ordered_at vs n.more n.entry (subst IsOrdered n.parts is.ordered) in
    bad (subst (λ (o : Option Entry). IfSome o (λ y. IsBefore y v)) (sym p.last_is) (subst (λ (x : Entry). IfSome (last_of vs) (λ y. IsBefore y x)) (sym (ap (λ (q : Entry × List ℕ). q.0) same)) up))

pub done : (bytes payload rest : List ℕ) (vs : List Entry) (last : Option Entry) → Whole bytes payload → Part payload vs last rest → length rest ≡ 0 → (length payload ≡ 0 → ⊥) → IsBlock vs × (bytes ≡ block_text vs)
done bytes payload rest vs last w p none some =
    let all : payload ≡ payload_of vs = p.parts ∙ ap (λ (t : List ℕ). payload_of vs ++ t) (nil_from_length rest none) ∙ append-nil (payload_of vs) in
    (record { some = has_one vs all; each = p.each; ordered = p.ordered; closed = p.closed }, w.text ∙ ap (framed 8) all)
  where
    has_one : (vs : List Entry) → payload ≡ payload_of vs → 0 < length vs
    has_one [] e = absurd (some (ap length e))
    has_one (v ∷ vs) e = omega arith

-- ---- one version before another

pub keys_are_equal : (o : Ordering) (n m : ℕ) → o ≡ Equal → IsTrue (ltb m n) ↔ StandsBefore o n m
keys_are_equal o n m e = rw e (λ h. ltb-true m n h, λ h. lt-ltb m n h)

pub keys_descend : (o : Ordering) (n m : ℕ) → o ≡ Greater → IsTrue false ↔ StandsBefore o n m
keys_descend o n m e = rw e (λ h. absurd cc, λ h. absurd h)
