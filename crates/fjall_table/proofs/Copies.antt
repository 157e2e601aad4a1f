-- Handles whose first keys are cut from one text.
use Rattle.std.proofs.Common.{◌≡◌, ℕ, List, ◌++◌, map, drop}
use Rattle.fjall_table.specs.declared.index.BlockHandle.{BlockHandle}
use Rattle.fjall_table.specs.declared.owned_handle.OwnedHandle.{OwnedHandle}
use Rattle.fjall_table.specs.Owned.{owned_handle, keys_text}
use Rattle.fjall_table.specs.TableReading.{handle_of}

-- what is made of the handles before a place, and the text of the keys from there on
pub record IsCopied (handles : List BlockHandle) (at : ℕ) (copies : List OwnedHandle) (rest : List ℕ) : Type 0 where
  pub left : rest ≡ keys_text (map handle_of (drop at handles))
  pub made : map owned_handle copies ++ map handle_of (drop at handles) ≡ map handle_of handles
