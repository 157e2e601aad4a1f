-- Policies: what holds on each level of a keyspace's tree, the last entry on all further ones. How they are spelled in bytes, and how they are read.
use Rattle.std.specs.Prelude.{ℕ, zero, suc, Bool, true, false, List, [], ◌∷◌, length, Result, Ok, Err, ◌==◌, if◌then◌else◌, codes}
use Rattle.std.specs.List.{flat_map}
use Rattle.byteorder.specs.Endian.{little_bytes}
use Rattle.fjall_base.specs.declared.error.CompressionType.{CompressionType}
use Rattle.fjall_base.specs.declared.error.CompressionType.TheVariants as compressions
use Rattle.fjall_options.specs.declared.options.filter.BloomConstructionPolicy.{BloomConstructionPolicy}
use Rattle.fjall_options.specs.declared.options.filter.BloomConstructionPolicy.TheVariants.{BitsPerKey, FalsePositiveRate}
use Rattle.fjall_options.specs.declared.options.filter.FilterPolicyEntry.{FilterPolicyEntry}
use Rattle.fjall_options.specs.declared.options.filter.FilterPolicyEntry.TheVariants as filters
use Rattle.fjall_base.specs.Results.{◌>>=◌}
use Rattle.fjall_options.specs.Reading.{Fault, Invalid, ValueReader, byte_at, number_at}

-- ---- a policy

-- the count of its entries, and then each of them
abbrev pub policy_bytes : {T : Type 0} → (T → List ℕ) → List T → List ℕ
policy_bytes spelled entries = length entries ∷ flat_map spelled entries

-- so many entries, one after another
abbrev pub entries_at : {T : Type 0} → ValueReader T → ℕ → List ℕ → Result (List T) Fault
entries_at entry_at zero bytes = Ok []
entries_at entry_at (suc n) bytes = do
  first ← entry_at bytes
  others ← entries_at entry_at n first.1
  Ok (first.0 ∷ others)

-- A policy has at least one entry. What stands behind the last one is passed over.
abbrev pub policy_at : {T : Type 0} → ValueReader T → List ℕ → Result (List T) Fault
policy_at entry_at bytes = do
  count ← byte_at bytes
  if count.0 == 0 then Err (Invalid (codes "PolicyLength") 0) else entries_at entry_at count.0 count.1

-- ---- the entries: sizes in bytes and ratios in millionths have four bytes, the lowest first, intervals have one

abbrev pub number_bytes : ℕ → List ℕ
number_bytes n = little_bytes 4 n

abbrev pub interval_bytes : ℕ → List ℕ
interval_bytes n = n ∷ []

abbrev pub flag_bytes : Bool → List ℕ
flag_bytes true = 1 ∷ []
flag_bytes false = 0 ∷ []

-- only 1 is true
abbrev pub flag_at : ValueReader Bool
flag_at bytes = do
  flag ← byte_at bytes
  Ok (flag.0 == 1, flag.1)

abbrev pub compression_bytes : CompressionType → List ℕ
compression_bytes compressions.None = 0 ∷ []

abbrev pub compression_at : ValueReader CompressionType
compression_at bytes = do
  kind ← byte_at bytes
  if kind.0 == 0 then Ok (compressions.None, kind.1) else Err (Invalid (codes "CompressionType") kind.0)

-- bits and rates are in millionths
abbrev pub filter_bytes : FilterPolicyEntry → List ℕ
filter_bytes filters.None = 0 ∷ []
filter_bytes (filters.Bloom (BitsPerKey bits)) = 1 ∷ 0 ∷ number_bytes bits
filter_bytes (filters.Bloom (FalsePositiveRate rate)) = 1 ∷ 1 ∷ number_bytes rate

abbrev pub bloom_at : ValueReader BloomConstructionPolicy
bloom_at bytes = do
  kind ← byte_at bytes
  if kind.0 == 0 then (number_at kind.1 >>= λ bits. Ok (BitsPerKey bits.0, bits.1)) else (
      if kind.0 == 1 then (number_at kind.1 >>= λ rate. Ok (FalsePositiveRate rate.0, rate.1)) else Err (Invalid (codes "BloomPolicy") kind.0))

abbrev pub filter_at : ValueReader FilterPolicyEntry
filter_at bytes = do
  tag ← byte_at bytes
  if tag.0 == 0 then Ok (filters.None, tag.1) else (
      if tag.0 == 1 then (bloom_at tag.1 >>= λ bloom. Ok (filters.Bloom bloom.0, bloom.1)) else Err (Invalid (codes "FilterPolicy") tag.0))
