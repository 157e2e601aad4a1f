-- Versions of keys in their order, and keys in two parts.
use Rattle.std.specs.Prelude.{◌≡◌, ℕ, List, ◌++◌, length, take, drop}
use Rattle.std.specs.Int.{w64, to_be_bytes}
use Rattle.std.specs.Ordering.{nat_cmp, on, flip_args, then_cmp}
use Rattle.std.specs.Cmp.{IsTotalOrder}
use Rattle.std.proofs.lemmas.Cmp.{nat_cmp_total, nat_list_cmp_total, on_total, then_total, back_total}
use Rattle.std.specs.declared.cmp.Ordering.{Ordering}
use Rattle.fjall_base.specs.Pairs.{byte_order}
use Rattle.fjall_table.specs.Padded.{padded}

-- a key, and the number of a change
pub record Stamp : Type 0 where
  pub key : List ℕ
  pub number : ℕ

-- by key ascending, then by number descending
abbrev pub stamp_cmp : Stamp → Stamp → Ordering
stamp_cmp = then_cmp (on (λ s. s.key) byte_order) (flip_args (on (λ s. s.number) nat_cmp))

-- this orders all stamps
pub stamp_total : IsTotalOrder stamp_cmp
stamp_total = then_total (on_total (λ s. s.key) nat_list_cmp_total) (back_total (on_total (λ s. s.number) nat_cmp_total))

-- sixteen bytes as two numbers, the greatest first
abbrev pub front_bytes : ℕ → ℕ → List ℕ
front_bytes first second = to_be_bytes w64 first ++ to_be_bytes w64 second

-- a key that has so many bytes of its front, by that and what stands behind it
abbrev pub key_from : List ℕ → List ℕ → ℕ → List ℕ
key_from front rest len = take len front ++ rest

-- The key's front and what stands behind it, and how many bytes of the front are the key's.
pub record AreParts (key front rest : List ℕ) (len : ℕ) : Type 0 where
  pub front_is : front ≡ padded 16 key
  pub rest_is : rest ≡ drop 16 key
  pub len_is : length (take 16 key) ≡ len
