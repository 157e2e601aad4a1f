-- Where no folder stands in the way of a change of the catalog.
use Rattle.std.proofs.Common.{ℕ, List, [], ◌∷◌, Option, None, Some, IfSome, sym, subst}
use Rattle.fjall_base.specs.Disk.{Name, Place, DiskState, IsNoFolder}
use Rattle.fjall_files.specs.Names.{table_name}
use Rattle.fjall_table.specs.declared.table_info.TableInfo.{TableInfo}
use Rattle.fjall_manifest.specs.Homes.{AreSafe}
use Rattle.fjall_manifest.specs.Catalog.{listed}

-- where a table is safe no folder stands
pub safe_kind : (state : DiskState) (table : Option TableInfo) (texts : List (List ℕ)) → AreSafe state 0 (listed table) texts → IfSome table (λ t. IsNoFolder (state (table_name 0 t.id)).now)
safe_kind state None texts safe = tt
safe_kind state (Some t) [] safe = absurd safe
safe_kind state (Some t) (bytes ∷ texts) safe = subst (λ (p : Place). IsNoFolder p.now) (sym safe.0) tt

pub kinds_on : (old new : DiskState) (table : Option TableInfo) → ((q : Name) → IsNoFolder (old q).now → IsNoFolder (new q).now) → IfSome table (λ t. IsNoFolder (old (table_name 0 t.id)).now) → IfSome table (λ t. IsNoFolder (new (table_name 0 t.id)).now)
kinds_on old new None kinds is = tt
kinds_on old new (Some t) kinds is = kinds (table_name 0 t.id) is
