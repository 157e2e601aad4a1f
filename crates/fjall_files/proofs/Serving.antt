-- What can be made where nothing stands in the way.
use Rattle.std.proofs.Common.{◌≢◌, inl, ℕ, ◌<◌, ◌^◌, [], length, codes, decimal, refl, ap, arith, length-append}
use Rattle.fjall_base.specs.Disk.{DiskState, CanCreate}
use Rattle.fjall_files.specs.Names.{Journal, Version, journal_name}
use Rattle.fjall_files.specs.Tidy.{IsTidy}
use Rattle.fjall_files.proofs.OfKinds.{kind_now}
use Rattle.fjall_files.proofs.Fitting.{folder_of-journal}

journal_some : (id : ℕ) → journal_name id ≢ []
journal_some id is = let l = length-append (decimal id) (codes ".jnl") in let none = ap length is in omega (arith, l, none)

-- a journal can be made
pub can_make_journal : (state : DiskState) (id : ℕ) → IsTidy state → id < 2 ^ 64 → CanCreate state (journal_name id)
can_make_journal state id tidy small = record { named = journal_some id; housed = inl (folder_of-journal id small); kind = kind_now state tidy (Journal id) small }

-- and so can the marker
pub can_make_marker : (state : DiskState) → IsTidy state → CanCreate state (codes "version")
can_make_marker state tidy = record { named = λ is. (let no : ⊥ = cc in no); housed = inl refl; kind = kind_now state tidy Version tt }
