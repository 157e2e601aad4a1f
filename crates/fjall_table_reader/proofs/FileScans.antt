-- A block of a table's file that isn't the one of which its index tells.
use Rattle.std.proofs.Common.{ℕ, ◌<◌, List, length, slice_get, Option, IfSome, subst}
use Rattle.fjall_table.specs.declared.table_info.TableInfo.{TableInfo}
use Rattle.fjall_table.specs.Blocks.{Entry}
use Rattle.fjall_table.specs.Tables.{Handle}
use Rattle.fjall_table.specs.TableReading.{part_at, IsNoBlockFrom}
use Rattle.fjall_table_reader.specs.Files.{IsIndexed, IsTableOf}
use Rattle.fjall_table.proofs.TableBlocks.{damaged_at, some_at}

module _ (info : TableInfo) (bytes : List ℕ) (hs : List Handle) (is : IsIndexed info bytes hs) (at : ℕ) where
  -- no block stands where the handle says
  pub wrong_block : at < length hs → IfSome (slice_get hs at) (λ h. IsNoBlockFrom h.first_key (part_at h bytes)) → (entries : List Entry) → IsTableOf info bytes entries → ⊥
  wrong_block lt none entries t =
      let h = some_at hs at lt in
      damaged_at bytes hs info.entry_count at h.0 is.index h.1 (subst (λ (o : Option Handle). IfSome o (λ h. IsNoBlockFrom h.first_key (part_at h bytes))) h.1 none) entries t.table
