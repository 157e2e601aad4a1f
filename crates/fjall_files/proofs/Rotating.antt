-- The name of the next journal.
use Rattle.std.proofs.Common.{◌≢◌, ℕ, [], codes, decimal, arith, ap, length, length-append}
use Rattle.fjall_files.specs.Names.{journal_name}

pub journal_some : (id : ℕ) → journal_name id ≢ []
journal_some id is = let l = length-append (decimal id) (codes ".jnl") in let none = ap length is in omega (arith, l, none)
