-- Of a key and a number a keyspace's tables go on having one version, where those of a flush stand behind them.
use Rattle.std.proofs.Common.{◌≡◌, ℕ, ◌<◌, ◌≤◌, true, false, List, ◌++◌, All, Option, None, Some, refl, arith}
use Rattle.std.proofs.lemmas.Bool.{lt-ltb, ltb-false, ltb-true, true≢false}
use Rattle.std.proofs.lemmas.List.Elements.{All-weaker}
use Rattle.fjall_meta.specs.Contents.{is_beyond}
use Rattle.fjall_memtable.proofs.Onces.{chain_once}
use Rattle.fjall_recovery.specs.Folders.{past}
use Rattle.fjall_memtable.proofs.Sorting.{chain_of}
use Rattle.fjall_table.specs.Blocks.{Entry, IsOrdered}
use Rattle.fjall_memtable.specs.Jobs.{OnceEach}
use Rattle.fjall_memtable.proofs.Once.{parts_once}

-- in a table's order each version stands once
pub ordered_once : (versions : List Entry) → IsOrdered versions → OnceEach versions
ordered_once versions ordered = chain_once versions (chain_of versions ordered)

within_past : (p : Option ℕ) (n : ℕ) → is_beyond p n ≡ false → n < past p
within_past None n within = absurd (true≢false within)
within_past (Some m) n within = let le = ltb-false m n within in omega (arith, le)

beyond_past : (p : Option ℕ) (n : ℕ) → is_beyond p n ≡ true → past p ≤ n
beyond_past None n beyond = omega arith
beyond_past (Some m) n beyond = let lt = ltb-true m n beyond in omega (arith, lt)

-- what is beyond the persisted number isn't stored
pub both_once : (p : Option ℕ) (versions more : List Entry) → All (λ v. is_beyond p v.number ≡ false) versions → All (λ v. is_beyond p v.number ≡ true) more → OnceEach versions → OnceEach more
    → OnceEach (versions ++ more)
both_once p versions more within beyond once also =
    parts_once (past p) versions more
    (All-weaker (λ (v : Entry). is_beyond p v.number ≡ false) (λ v. v.number < past p) (λ v is. within_past p v.number is) versions within)
    (All-weaker (λ (v : Entry). is_beyond p v.number ≡ true) (λ v. past p ≤ v.number) (λ v is. beyond_past p v.number is) more beyond) once also

-- from a number that is beyond it on, each is
pub from_is_beyond : (p : Option ℕ) (from n : ℕ) → is_beyond p from ≡ true → from ≤ n → is_beyond p n ≡ true
from_is_beyond None from n beyond le = refl
from_is_beyond (Some m) from n beyond le = lt-ltb m n (let lt = ltb-true m from beyond in omega (arith, lt, le))
