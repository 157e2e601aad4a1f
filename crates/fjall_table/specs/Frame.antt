-- The frame that carries a payload with its length and its check.
use Rattle.std.specs.Prelude.{◌≡◌, ℕ, ◌<◌, ◌^◌, List, ◌++◌, length}
use Rattle.byteorder.specs.Endian.{little_bytes}
use Rattle.fjall_base.specs.Check.{check}

-- bytes, and then their check
abbrev pub with_check : List ℕ → List ℕ
with_check bytes = bytes ++ check bytes

-- a payload behind its length, a number of that many bytes
abbrev pub headed : ℕ → List ℕ → List ℕ
headed width payload = little_bytes width (length payload) ++ payload

-- the length, the payload, and the check of both
abbrev pub framed : ℕ → List ℕ → List ℕ
framed width payload = with_check (headed width payload)

-- no whole frame with a right check stands at the front
abbrev pub NoFrame : ℕ → List ℕ → Type 0
NoFrame width bytes = (payload more : List ℕ) → length payload < 256 ^ width → bytes ≡ framed width payload ++ more → ⊥
