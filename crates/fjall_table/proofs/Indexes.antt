-- The handles of an index, as a reader meets them.
use mathlib.Core.Logic.{∥∥₁_elim}
use Rattle.std.proofs.Props.{props}
use Rattle.std.proofs.Common.{◌≡◌, ◌≢◌, ℕ, zero, suc, slice_get, ◌+◌, ◌^◌, ◌<◌, ◌≤◌, List, [], ◌∷◌, ◌++◌, length, Some, None, refl, sym, ap, subst, ◌∙◌, append_assoc, arith}
use Rattle.std.specs.List.{flat_map, AllByRecursion}
use Rattle.std.proofs.lemmas.List.{length-append, append-nil, nil_from_length}
use Rattle.std.specs.declared.cmp.Ordering.TheVariants.{Greater}
use Rattle.byteorder.specs.Endian.{little_bytes}
use Rattle.fjall_base.specs.Pairs.{byte_order}
use Rattle.fjall_table.specs.Frame.{framed}
use Rattle.fjall_base.specs.Fields.{◌>>=◌, number_at, bytes_at}
use Rattle.fjall_table.specs.Reading.{frame_at}
use Rattle.fjall_table.specs.Tables.{Handle, handle_text, index_text, Cover, Ascend, IsIndex}
use Rattle.fjall_table.specs.TableReading.{handle_at, IsHandle, FollowsBlocks, IsNoIndex}
use Rattle.fjall_base.proofs.Codecs.{IsBytes, some_is, Found, IsCodec, step, one_text, u16_codec, u64_codec, bytes_codec, length-little, first_of, one_behind, each_more}
use Rattle.fjall_table.proofs.Frames.{frame8, length_framed}
use Rattle.fjall_table.proofs.Lists.{Apart, GoesOn, goes_on}
use Rattle.fjall_table.proofs.BlockParts.{Whole, whole_takes}

-- ---- a handle

regroup : (a b k key rest : List ℕ) → (a ++ (b ++ (k ++ key))) ++ rest ≡ a ++ (b ++ (k ++ (key ++ rest)))
regroup a b k key rest = simp append_assoc

joined : (bytes a b k key r0 r1 r2 r3 : List ℕ) → bytes ≡ a ++ r0 → r0 ≡ b ++ r1 → r1 ≡ k ++ r2 → r2 ≡ key ++ r3 → bytes ≡ (a ++ (b ++ (k ++ key))) ++ r3
joined bytes a b k key r0 r1 r2 r3 e0 e1 e2 e3 = rw (e0, e1, e2, e3) (sym (regroup a b k key r3))

made : ℕ → ℕ → List ℕ → Handle
made offset len key = record { offset = offset; len = len; first_key = key }

handle_found : (bytes r0 r1 r2 r3 key : List ℕ) (offset len k : ℕ) → bytes ≡ little_bytes 8 offset ++ r0 → offset < 2 ^ 64 → r0 ≡ little_bytes 8 len ++ r1 → len < 2 ^ 64 → r1 ≡ little_bytes 2 k ++ r2 → k < 2 ^ 16 → r2 ≡ key ++ r3 → length key ≡ k → IsBytes r3
    → Found handle_text IsHandle bytes (made offset len key) r3
unfolding handle_text made
handle_found bytes r0 r1 r2 r3 key offset len k e0 f0 e1 f1 e2 f2 e3 l3 fits = record {
  parts = joined bytes (little_bytes 8 offset) (little_bytes 8 len) (little_bytes 2 (length key)) key r0 r1 r2 r3 e0 e1 (e2 ∙ ap (λ (n : ℕ). little_bytes 2 n ++ r2) (sym l3)) e3;
  is = record { offset = f0; len = f1; key = subst (λ (n : ℕ). n < 2 ^ 16) (sym l3) f2 };
  fits = fits;
}

read_is : (bytes key r0 r1 r2 r3 : List ℕ) (offset len k : ℕ) → number_at 8 bytes ≡ Some (offset, r0) → number_at 8 r0 ≡ Some (len, r1) → number_at 2 r1 ≡ Some (k, r2) → bytes_at k r2 ≡ Some (key, r3) → handle_at bytes ≡ Some (made offset len key, r3)
unfolding handle_at made
read_is bytes key r0 r1 r2 r3 offset len k e0 e1 e2 e3 = rw (e0, e1, e2, e3) refl

pub handle_codec : IsCodec handle_at handle_text IsHandle
unfolding handle_at handle_text made
handle_codec = record { again = again; takes = takes }
  where
    again : (h : Handle) (rest : List ℕ) → IsHandle h → handle_at (handle_text h ++ rest) ≡ Some (h, rest)
    again h rest is =
        let b = little_bytes 8 h.len in
        let k = little_bytes 2 (length h.first_key) in
        let line : handle_text h ++ rest ≡ little_bytes 8 h.offset ++ (b ++ (k ++ (h.first_key ++ rest))) = regroup (little_bytes 8 h.offset) b k h.first_key rest in
        read_is (handle_text h ++ rest) h.first_key (b ++ (k ++ (h.first_key ++ rest))) (k ++ (h.first_key ++ rest)) (h.first_key ++ rest) rest h.offset h.len (length h.first_key)
        (ap (number_at 8) line ∙ u64_codec.again h.offset (b ++ (k ++ (h.first_key ++ rest))) is.offset)
        (u64_codec.again h.len (k ++ (h.first_key ++ rest)) is.len)
        (u16_codec.again (length h.first_key) (h.first_key ++ rest) is.key)
        ((bytes_codec (length h.first_key)).again h.first_key rest refl)

    takes : (bytes : List ℕ) (h : Handle) (rest : List ℕ) → IsBytes bytes → handle_at bytes ≡ Some (h, rest) → Found handle_text IsHandle bytes h rest
    takes bytes h rest fits e =
        let s0 = step (number_at 8) _ _ u64_codec bytes (λ o. number_at 8 o.1 >>= λ l. number_at 2 l.1 >>= λ k. bytes_at k.0 k.1 >>= λ key. Some (made o.0 l.0 key.0, key.1)) (h, rest) fits e in
        let s1 = step (number_at 8) _ _ u64_codec s0.rest (λ l. number_at 2 l.1 >>= λ k. bytes_at k.0 k.1 >>= λ key. Some (made s0.value l.0 key.0, key.1)) (h, rest) s0.found.fits s0.next in
        let s2 = step (number_at 2) _ _ u16_codec s1.rest (λ k. bytes_at k.0 k.1 >>= λ key. Some (made s0.value s1.value key.0, key.1)) (h, rest) s1.found.fits s1.next in
        let s3 = step (bytes_at s2.value) _ _ (bytes_codec s2.value) s2.rest (λ key. Some (made s0.value s1.value key.0, key.1)) (h, rest) s2.found.fits s2.next in
        subst (λ (p : Handle × List ℕ). Found handle_text IsHandle bytes p.0 p.1) (some_is (made s0.value s1.value s3.value, s3.rest) (h, rest) s3.next)
        (handle_found bytes s0.rest s1.rest s2.rest s3.rest s3.value s0.value s1.value s2.value s0.found.parts s0.found.is s1.found.parts s1.found.is s2.found.parts s2.found.is s3.found.parts s3.found.is s3.found.fits)

handle_some : (h : Handle) → 0 < length (handle_text h)
unfolding handle_text
handle_some h = let l = length-append (little_bytes 8 h.offset) (little_bytes 8 h.len ++ (little_bytes 2 (length h.first_key) ++ h.first_key)) in let m = length-little 8 h.offset in omega arith

pub handles_apart : Apart handle_text IsHandle
handles_apart = record { one = λ a b x y ia ib e. one_text handle_at handle_text IsHandle handle_codec a b x y ia ib e; some = handle_some }

-- ---- cover and order

-- the first key of the last handle, if there is one
abbrev pub last_key : List Handle → List ℕ
last_key [] = []
last_key (h ∷ []) = h.first_key
last_key (h ∷ next ∷ handles) = last_key (next ∷ handles)

last_behind : (hs : List Handle) (h : Handle) → last_key (hs ++ h ∷ []) ≡ h.first_key
last_behind [] h = refl
last_behind (a ∷ []) h = refl
last_behind (a ∷ b ∷ hs) h = last_behind (b ∷ hs) h

cover_more : (from at : ℕ) (hs : List Handle) (h : Handle) → Cover from at hs → h.offset ≡ at → Cover from (at + h.len) (hs ++ h ∷ [])
cover_more from at [] h c e = (e ∙ sym c, ap (λ (n : ℕ). n + h.len) c)
cover_more from at (a ∷ hs) h c e = (c.0, cover_more (from + a.len) at hs h c.1 e)

cover_end : (at end : ℕ) (hs : List Handle) → Cover at end hs → at ≤ end
cover_end at end [] c = omega (arith, c)
cover_end at end (h ∷ hs) c = let l = cover_end (at + h.len) end hs c.1 in omega arith

-- what comes next stands where the others end
pub cover_at : (from at end : ℕ) (hs more : List Handle) (h : Handle) → Cover from at hs → Cover from end (hs ++ h ∷ more) → (h.offset ≡ at) × (at + h.len ≤ end)
cover_at from at end [] more h c d = (d.0 ∙ c, let l = cover_end (from + h.len) end more d.1 in omega (arith, c))
cover_at from at end (a ∷ hs) more h c d = cover_at (from + a.len) at end hs more h c.1 d.1

-- all of them end in one place
pub one_end : (from at end : ℕ) (hs : List Handle) → Cover from at hs → Cover from end hs → at ≡ end
one_end from at end [] c d = sym c ∙ d
one_end from at end (h ∷ hs) c d = one_end (from + h.len) at end hs c.1 d.1

ascend_more : (hs : List Handle) (h : Handle) → Ascend hs → byte_order (last_key hs) h.first_key ≢ Greater → Ascend (hs ++ h ∷ [])
ascend_more [] h up after = tt
ascend_more (a ∷ []) h up after = (after, tt)
ascend_more (a ∷ b ∷ hs) h up after = (up.0, ascend_more (b ∷ hs) h up.1 after)

none_below : (key : List ℕ) → byte_order [] key ≢ Greater
none_below [] e = absurd cc
none_below (k ∷ key) e = absurd cc

ascend_at : (hs more : List Handle) (h : Handle) → Ascend (hs ++ h ∷ more) → byte_order (last_key hs) h.first_key ≢ Greater
ascend_at [] more h up = none_below h.first_key
ascend_at (a ∷ []) more h up = up.0
ascend_at (a ∷ b ∷ hs) more h up = ascend_at (b ∷ hs) more h up.1

-- ---- what was read so far

abbrev pub HasKey : Handle → Type 0
HasKey h = (0 < length h.first_key) × (length h.first_key < 2 ^ 16)

pub record Part (payload : List ℕ) (hs : List Handle) (last : List ℕ) (at : ℕ) (end : ℕ) (rest : List ℕ) : Type 0 where
  pub last_is : last ≡ last_key hs
  pub parts : payload ≡ flat_map handle_text hs ++ rest
  pub fits : IsBytes rest
  pub each : AllByRecursion IsHandle hs
  pub keys : AllByRecursion HasKey hs
  pub cover : Cover 0 at hs
  pub within : at ≤ end
  pub ascend : Ascend hs

pub nothing_read : (payload : List ℕ) (end : ℕ) → IsBytes payload → Part payload [] [] 0 end payload
nothing_read payload end fits = record { last_is = refl; parts = refl; fits = fits; each = tt; keys = tt; cover = refl; within = omega arith; ascend = tt }

pub one_more : (payload rest after last : List ℕ) (hs : List Handle) (at end : ℕ) (h : Handle) → Part payload hs last at end rest → handle_at rest ≡ Some (h, after) → FollowsBlocks last at end h → Part payload (hs ++ h ∷ []) h.first_key (at + h.len) end after
one_more payload rest after last hs at end h p e f =
    let t = handle_codec.takes rest h after p.fits e in
    record {
      last_is = sym (last_behind hs h);
      parts = p.parts ∙ ap (λ (v : List ℕ). flat_map handle_text hs ++ v) t.parts ∙ one_behind handle_text hs h after;
      fits = t.fits;
      each = each_more IsHandle hs h p.each t.is;
      keys = each_more HasKey hs h p.keys (f.some, t.is.key);
      cover = cover_more 0 at hs h p.cover f.offset;
      within = f.within;
      ascend = ascend_more hs h p.ascend (subst (λ (k : List ℕ). byte_order k h.first_key ≢ Greater) p.last_is f.ascends);
    }

pub one_less : (rest after : List ℕ) (h : Handle) → IsBytes rest → handle_at rest ≡ Some (h, after) → length after < length rest
one_less rest after h fits e = let f = handle_codec.takes rest h after fits e in let l = ap length f.parts in let m = length-append (handle_text h) after in let s = handle_some h in omega arith

-- what a reader keeps: a whole frame, and what was read of its payload
pub record Reads (bytes : List ℕ) (hs : List Handle) (last : List ℕ) (at : ℕ) (end : ℕ) (rest : List ℕ) : Type 0 where
  pub payload : List ℕ
  pub whole : Whole bytes payload
  pub some : length payload ≡ 0 → ⊥
  pub part : Part payload hs last at end rest

pub begins : (bytes payload behind : List ℕ) (end : ℕ) → IsBytes bytes → frame_at 8 bytes ≡ Some (payload, behind) → length behind ≡ 0 → (length payload ≡ 0 → ⊥) → Reads bytes [] [] 0 end payload
begins bytes payload behind end fits e none some =
    let w = whole_takes bytes payload behind fits e none in
    record { payload = payload; whole = w; some = some; part = nothing_read payload end w.fits }

pub reads_more : (bytes rest after last : List ℕ) (hs : List Handle) (at end : ℕ) (h : Handle) → Reads bytes hs last at end rest → handle_at rest ≡ Some (h, after) → FollowsBlocks last at end h → Reads bytes (hs ++ h ∷ []) h.first_key (at + h.len) end after
reads_more bytes rest after last hs at end h r e f = record { payload = r.payload; whole = r.whole; some = r.some; part = one_more r.payload rest after last hs at end h r.part e f }

-- ---- a whole index

-- all handles have a text, as the bytes that they cover have room for their numbers
pub each_handle : (at end : ℕ) (hs : List Handle) → end < 2 ^ 64 → AllByRecursion HasKey hs → Cover at end hs → AllByRecursion IsHandle hs
each_handle at end [] lt keys c = tt
each_handle at end (h ∷ hs) lt keys c =
    let l = cover_end (at + h.len) end hs c.1 in
    (record { offset = omega (arith, c.0); len = omega arith; key = keys.0.1 }, each_handle (at + h.len) end hs lt keys.1 c.1)

small_payload : (bytes : List ℕ) (hs : List Handle) → length bytes < 2 ^ 64 → bytes ≡ index_text hs → length (flat_map handle_text hs) < 2 ^ 64
small_payload bytes hs lt text = let l = ap length text in let m = length_framed 8 (flat_map handle_text hs) in omega arith

index_has : (bytes payload : List ℕ) (hs : List Handle) → Whole bytes payload → length bytes < 2 ^ 64 → bytes ≡ index_text hs → payload ≡ flat_map handle_text hs
index_has bytes payload hs w lt text =
    (one_text (frame_at 8) (framed 8) (λ (p : List ℕ). length p < 2 ^ 64) frame8 payload (flat_map handle_text hs) [] [] w.small (small_payload bytes hs lt text) (append-nil (framed 8 payload) ∙ sym w.text ∙ text ∙ sym (append-nil (index_text hs)))).0

pub no_frame : (bytes : List ℕ) (end : ℕ) → length bytes < 2 ^ 64 → frame_at 8 bytes ≡ None → IsNoIndex bytes end
no_frame bytes end lt e hs is text = let h = frame8.again (flat_map handle_text hs) [] (small_payload bytes hs lt text) in let g = ap (frame_at 8) (text ∙ sym (append-nil (index_text hs))) in cc

pub more_behind : (bytes payload behind : List ℕ) (end : ℕ) → length bytes < 2 ^ 64 → frame_at 8 bytes ≡ Some (payload, behind) → (length behind ≡ 0 → ⊥) → IsNoIndex bytes end
more_behind bytes payload behind end lt e some hs is text =
    let h = frame8.again (flat_map handle_text hs) [] (small_payload bytes hs lt text) in
    let same = some_is (payload, behind) (flat_map handle_text hs, []) (sym e ∙ ap (frame_at 8) (text ∙ sym (append-nil (index_text hs))) ∙ h) in
    some (ap (λ (p : List ℕ × List ℕ). length p.1) same)

text_some : (hs : List Handle) → 0 < length hs → 0 < length (flat_map handle_text hs)
text_some [] some = absurd (omega arith)
text_some (h ∷ hs) some = let l = handle_some h in let m = ap length (first_of handle_text h hs []) in let n = length-append (flat_map handle_text (h ∷ hs)) [] in let o = length-append (handle_text h) (flat_map handle_text hs ++ []) in omega arith

pub no_handle : (bytes payload : List ℕ) (end : ℕ) → Whole bytes payload → length bytes < 2 ^ 64 → length payload ≡ 0 → IsNoIndex bytes end
no_handle bytes payload end w lt none hs is text =
    let l = ap length (index_has bytes payload hs w lt text) in
    let s = text_some hs is.some in
    omega arith

-- what any index goes on with
record Next (hs all : List Handle) (rest : List ℕ) : Type 0 where
  pub handle : Handle
  pub more : List Handle
  pub parts : all ≡ hs ++ handle ∷ more
  pub is : IsHandle handle
  pub text : rest ≡ handle_text handle ++ flat_map handle_text more

next_of : (bytes payload rest last : List ℕ) (hs all : List Handle) (at end : ℕ) → Whole bytes payload → length bytes < 2 ^ 64 → end < 2 ^ 64 → Part payload hs last at end rest → (length rest ≡ 0 → ⊥) → IsIndex all end → bytes ≡ index_text all → Next hs all rest
next_of bytes payload rest last hs all at end w lt el p some is text =
    pick (goes_on handle_text IsHandle handles_apart hs all rest p.each (each_handle 0 end all el is.keys is.cover) (sym p.parts ∙ index_has bytes payload all w lt text))
  where
    of : (more : List Handle) → all ≡ hs ++ more → AllByRecursion IsHandle more → rest ≡ flat_map handle_text more → Next hs all rest
    of [] e each t = absurd (some (ap length t))
    of (h ∷ more) e each t = record { handle = h; more = more; parts = e; is = each.0; text = t }

    pick : GoesOn handle_text IsHandle hs all rest → Next hs all rest
    pick g = of g.more g.parts g.each g.text_is

pub unreadable : (bytes payload rest last : List ℕ) (hs : List Handle) (at end : ℕ) → Whole bytes payload → length bytes < 2 ^ 64 → end < 2 ^ 64 → Part payload hs last at end rest → (length rest ≡ 0 → ⊥) → handle_at rest ≡ None → IsNoIndex bytes end
unreadable bytes payload rest last hs at end w lt el p some e all is text =
    let n = next_of bytes payload rest last hs all at end w lt el p some is text in
    let h = handle_codec.again n.handle (flat_map handle_text n.more) n.is in
    let g = ap handle_at n.text in
    cc

key_at : (hs more : List Handle) (h : Handle) → AllByRecursion HasKey (hs ++ h ∷ more) → HasKey h
key_at [] more h keys = keys.0
key_at (a ∷ hs) more h keys = key_at hs more h keys.1

pub not_following : (bytes payload rest after last : List ℕ) (hs : List Handle) (at end : ℕ) (h : Handle) → Whole bytes payload → length bytes < 2 ^ 64 → end < 2 ^ 64 → Part payload hs last at end rest → (length rest ≡ 0 → ⊥) → handle_at rest ≡ Some (h, after)
    → (FollowsBlocks last at end h → ⊥) → IsNoIndex bytes end
not_following bytes payload rest after last hs at end h w lt el p some e bad all is text =
    let n = next_of bytes payload rest last hs all at end w lt el p some is text in
    let same : h ≡ n.handle = ap (λ (q : Handle × List ℕ). q.0) (some_is (h, after) (n.handle, flat_map handle_text n.more) (sym e ∙ ap handle_at n.text ∙ handle_codec.again n.handle (flat_map handle_text n.more) n.is)) in
    let c = cover_at 0 at end hs n.more n.handle p.cover (subst (λ (v : List Handle). Cover 0 end v) n.parts is.cover) in
    let k = key_at hs n.more n.handle (subst (λ (v : List Handle). AllByRecursion HasKey v) n.parts is.keys) in
    let up = ascend_at hs n.more n.handle (subst Ascend n.parts is.ascend) in
    let f : FollowsBlocks last at end n.handle = record { offset = c.0; within = c.1; some = k.0; ascends = subst (λ (v : List ℕ). byte_order v n.handle.first_key ≢ Greater) (sym p.last_is) up } in
    bad (subst (λ (v : Handle). FollowsBlocks last at end v) (sym same) f)

-- all handles were read
record All (bytes payload : List ℕ) (hs : List Handle) : Type 0 where
  pub payload_is : payload ≡ flat_map handle_text hs
  pub text : bytes ≡ index_text hs

all_read : (bytes payload rest last : List ℕ) (hs : List Handle) (at end : ℕ) → Whole bytes payload → Part payload hs last at end rest → length rest ≡ 0 → All bytes payload hs
all_read bytes payload rest last hs at end w p none =
    let all : payload ≡ flat_map handle_text hs = p.parts ∙ ap (λ (t : List ℕ). flat_map handle_text hs ++ t) (nil_from_length rest none) ∙ append-nil (flat_map handle_text hs) in
    record { payload_is = all; text = w.text ∙ ap (framed 8) all }

pub ends_elsewhere : (bytes payload rest last : List ℕ) (hs : List Handle) (at end : ℕ) → Whole bytes payload → length bytes < 2 ^ 64 → end < 2 ^ 64 → Part payload hs last at end rest → length rest ≡ 0 → (at ≡ end → ⊥) → IsNoIndex bytes end
ends_elsewhere bytes payload rest last hs at end w lt el p none bad all is text =
    let a = all_read bytes payload rest last hs at end w p none in
    let g = goes_on handle_text IsHandle handles_apart hs all [] p.each (each_handle 0 end all el is.keys is.cover) (append-nil (flat_map handle_text hs) ∙ sym a.payload_is ∙ index_has bytes payload all w lt text) in
    let same : all ≡ hs = g.parts ∙ ap (λ (v : List Handle). hs ++ v) (nothing g.more g.text_is) ∙ append-nil hs in
    bad (one_end 0 at end hs p.cover (subst (λ (v : List Handle). Cover 0 end v) same is.cover))
  where
    nothing : (more : List Handle) → [] ≡ flat_map handle_text more → more ≡ []
    nothing [] e = refl
    nothing (h ∷ more) e = let l = ap length e in let s = text_some (h ∷ more) (omega arith) in absurd (omega arith)

-- each block ends within the bytes that are covered
pub covers : (at end k : ℕ) (hs : List Handle) (h : Handle) → Cover at end hs → Some h ≡ slice_get hs k → h.offset + h.len ≤ end
covers at end k [] h c e = absurd cc
covers at end zero (a ∷ hs) h c e = let l = cover_end (at + a.len) end hs c.1 in let s = some_is h a e in omega (arith, c.0, ap (λ (x : Handle). x.offset) s, ap (λ (x : Handle). x.len) s)
covers at end (suc k) (a ∷ hs) h c e = covers (at + a.len) end k hs h c.1 e

-- ---- a fact that a ghost field holds

Cover-prop : (at end : ℕ) (hs : List Handle) → IsProp (Cover at end hs)
Cover-prop at end [] = hlevel props
Cover-prop at end (h ∷ hs) = hlevel (props, Cover-prop (at + h.len) end hs)

Ascend-prop : (hs : List Handle) → IsProp (Ascend hs)
Ascend-prop [] = hlevel props
Ascend-prop (h ∷ []) = hlevel props
Ascend-prop (h ∷ next ∷ hs) = hlevel (props, Ascend-prop (next ∷ hs))

HasKey-prop : (h : Handle) → IsProp (HasKey h)
HasKey-prop h = hlevel props

HasKeys-prop : (hs : List Handle) → IsProp (AllByRecursion HasKey hs)
HasKeys-prop [] = hlevel props
HasKeys-prop (h ∷ hs) = hlevel (props, HasKey-prop h, HasKeys-prop hs)

IsIndex-prop : (hs : List Handle) (end : ℕ) → IsProp (IsIndex hs end)
IsIndex-prop hs end x y =
    let some_prop : IsProp (0 < length hs) = hlevel props in
    λ i. record {
      some = some_prop x.some y.some i;
      keys = HasKeys-prop hs x.keys y.keys i;
      cover = Cover-prop 0 end hs x.cover y.cover i;
      ascend = Ascend-prop hs x.ascend y.ascend i;
    }

pub is_index : (hs : List Handle) (end : ℕ) → ∥ IsIndex hs end ∥₁ → IsIndex hs end
is_index hs end h = ∥∥₁_elim h (IsIndex-prop hs end) (λ x. x)
