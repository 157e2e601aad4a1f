-- A frame is read as it was written.
use Rattle.std.proofs.Common.{◌≡◌, ℕ, ◌+◌, ◌^◌, ◌<◌, true, cond, List, ◌++◌, length, take, Some, None, refl, sym, ap, subst, ◌∙◌, append_assoc, arith}
use Rattle.std.specs.Str.{bytes_eq}
use Rattle.std.proofs.lemmas.Slice.Eq.{bytes_eq-Decides}
use Rattle.std.proofs.lemmas.List.{take_at, length-append}
use Rattle.byteorder.specs.Endian.{little_bytes}
use Rattle.fjall_base.specs.Check.{check}
use Rattle.fjall_base.proofs.Checks.{check_len}
use Rattle.fjall_table.specs.Frame.{headed, framed}
use Rattle.fjall_base.specs.Fields.{◌>>=◌, number_at, bytes_at}
use Rattle.fjall_table.specs.Reading.{frame_at}
use Rattle.fjall_base.proofs.Codecs.{IsBytes, some_is, pass_some, Found, IsCodec, step, IsWide, wide4, wide8, number_codec, bytes_codec, length-little}

-- how long a frame is
pub length_framed : (width : ℕ) (payload : List ℕ) → length (framed width payload) ≡ width + length payload + 8
length_framed width payload =
    let a = length-append (headed width payload) (check (headed width payload)) in
    let b = length-append (little_bytes width (length payload)) payload in
    let c = check_len (headed width payload) in
    let d = length-little width (length payload) in
    omega arith

pub frame_codec : (width limit : ℕ) → IsWide width limit → IsCodec (frame_at width) (framed width) (λ payload. length payload < limit)
unfolding frame_at
frame_codec width limit wide = record { again = again; takes = takes }
  where
    regroup : (a b c d : List ℕ) → ((a ++ b) ++ c) ++ d ≡ a ++ (b ++ (c ++ d))
    regroup a b c d = simp append_assoc

    -- what the check is of
    front : (payload sum rest : List ℕ) → take (width + length payload) (little_bytes width (length payload) ++ (payload ++ (sum ++ rest))) ≡ headed width payload
    front payload sum rest =
        ap (take (width + length payload)) (sym (append_assoc (little_bytes width (length payload)) payload (sum ++ rest)))
        ∙ take_at (headed width payload) (sum ++ rest) (width + length payload) (let a = length-append (little_bytes width (length payload)) payload in let d = length-little width (length payload) in omega arith)

    again : (payload rest : List ℕ) → length payload < limit → frame_at width (framed width payload ++ rest) ≡ Some (payload, rest)
    again payload rest lt =
        let sum = check (headed width payload) in
        let yes : bytes_eq sum sum ≡ true = (bytes_eq-Decides sum sum).1 refl in
        rw (
          regroup (little_bytes width (length payload)) payload sum rest,
          (number_codec width limit wide).again (length payload) (payload ++ (sum ++ rest)) lt,
          (bytes_codec (length payload)).again payload (sum ++ rest) refl,
          (bytes_codec 8).again sum rest (check_len (headed width payload)),
          front payload sum rest,
          yes,
        ) refl

    takes : (bytes payload rest : List ℕ) → IsBytes bytes → frame_at width bytes ≡ Some (payload, rest) → Found (framed width) (λ payload. length payload < limit) bytes payload rest
    takes bytes payload rest fits e =
        let s0 = step (number_at width) _ _ (number_codec width limit wide) bytes (λ len. bytes_at len.0 len.1 >>= λ p. bytes_at 8 p.1 >>= λ sum. cond (bytes_eq sum.0 (check (take (width + len.0) bytes))) (Some (p.0, sum.1)) None) (payload, rest) fits e in
        let s1 = step (bytes_at s0.value) _ _ (bytes_codec s0.value) s0.rest (λ p. bytes_at 8 p.1 >>= λ sum. cond (bytes_eq sum.0 (check (take (width + s0.value) bytes))) (Some (p.0, sum.1)) None) (payload, rest) s0.found.fits s0.next in
        let s2 = step (bytes_at 8) _ _ (bytes_codec 8) s1.rest (λ sum. cond (bytes_eq sum.0 (check (take (width + s0.value) bytes))) (Some (s1.value, sum.1)) None) (payload, rest) s1.found.fits s1.next in
        let p = pass_some (bytes_eq s2.value (check (take (width + s0.value) bytes))) (Some (s1.value, s2.rest)) (payload, rest) s2.next in
        let text : bytes ≡ little_bytes width (length s1.value) ++ (s1.value ++ (s2.value ++ s2.rest)) =
        s0.found.parts ∙ ap (λ (n : ℕ). little_bytes width n ++ s0.rest) (sym s1.found.is) ∙ ap (λ (v : List ℕ). little_bytes width (length s1.value) ++ v) (s1.found.parts ∙ ap (λ (v : List ℕ). s1.value ++ v) s2.found.parts) in
        let of : take (width + s0.value) bytes ≡ headed width s1.value = ap (λ (n : ℕ). take (width + n) bytes) (sym s1.found.is) ∙ ap (take (width + length s1.value)) text ∙ front s1.value s2.value s2.rest in
        let sum : s2.value ≡ check (headed width s1.value) = (bytes_eq-Decides s2.value (check (take (width + s0.value) bytes))).0 p.0 ∙ ap check of in
        let all : bytes ≡ framed width s1.value ++ s2.rest = text ∙ sym (regroup (little_bytes width (length s1.value)) s1.value s2.value s2.rest) ∙ ap (λ (v : List ℕ). (headed width s1.value ++ v) ++ s2.rest) sum in
        subst (λ (q : List ℕ × List ℕ). Found (framed width) (λ payload. length payload < limit) bytes q.0 q.1) (some_is (s1.value, s2.rest) (payload, rest) p.1)
        (record { parts = all; is = (let l = s1.found.is in let m = s0.found.is in omega arith); fits = s2.found.fits })

pub frame4 : IsCodec (frame_at 4) (framed 4) (λ payload. length payload < 2 ^ 32)
frame4 = frame_codec 4 (2 ^ 32) wide4

pub frame8 : IsCodec (frame_at 8) (framed 8) (λ payload. length payload < 2 ^ 64)
frame8 = frame_codec 8 (2 ^ 64) wide8
