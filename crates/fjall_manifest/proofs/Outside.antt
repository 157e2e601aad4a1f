-- What is outside a keyspace's folder.
use Rattle.std.proofs.Common.{◌≡◌, ◌≢◌, inl, inr, ℕ, ◌<◌, ◌^◌, true, false, codes, decimal, refl, sym, ◌∙◌}
use Rattle.fjall_base.specs.Disk.{Name, Meaning, folder_of}
use Rattle.fjall_base.proofs.Names.{bool_cases}
use Rattle.fjall_files.specs.Names.{IsNameOf, keyspace_folder}
use Rattle.fjall_files.specs.Regions.{Within, is_under}
use Rattle.fjall_files.proofs.Fitting.{folder_of-folder}
use Rattle.fjall_files.proofs.Under.{under_join}
use Rattle.fjall_files.proofs.Wider.{within_wider}
use Rattle.fjall_manifest.specs.Homes.{is_counted}
use Rattle.fjall_manifest.proofs.Naming.{apart, beside}

-- the folder of all keyspaces
pub keyspaces_outside : (id : ℕ) → is_under (keyspace_folder id) (codes "keyspaces") ≡ false
keyspaces_outside id = refl

-- a name in it that isn't a keyspace's
pub misnamed_outside : (id : ℕ) (q : Name) → id < 2 ^ 64 → folder_of q ≡ codes "keyspaces" → ((i : ℕ) → IsNameOf keyspace_folder q i → ⊥) → is_under (keyspace_folder id) q ≡ false
misnamed_outside id q small at none = beside (codes "keyspaces") (keyspace_folder id) q (λ e. cc) (folder_of-folder id small) at (λ e. none id (small, e))

-- what another keyspace's home rests on
pub counted_outside : (id other : ℕ) (q : Name) → id < 2 ^ 64 → other < 2 ^ 64 → other ≢ id → is_counted other q ≡ true → is_under (keyspace_folder id) q ≡ false
counted_outside id other q small small' differ counts = elim (bool_cases (is_under (keyspace_folder id) q)) [
  | inl in_id ↦ let no : false ≡ true = sym (apart id other q small small' (λ e. differ (sym e)) in_id) ∙ counts in cc
  | inr out ↦ out
]

-- all that lies under a keyspace's folder lies in that of all keyspaces
pub within_keyspaces : (id : ℕ) (old new : Meaning) → Within (keyspace_folder id) old new → Within (codes "keyspaces") old new
within_keyspaces id old new run = within_wider (codes "keyspaces") (keyspace_folder id) old new (under_join (codes "keyspaces") (decimal id)) run
