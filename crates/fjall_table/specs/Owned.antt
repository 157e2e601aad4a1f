-- Handles that own their bytes.
use Rattle.std.specs.Prelude.{ℕ, List}
use Rattle.std.specs.List.{flat_map}
use Rattle.fjall_table.specs.declared.owned_handle.OwnedHandle.{OwnedHandle}
use Rattle.fjall_table.specs.Tables.{Handle}

abbrev pub owned_handle : OwnedHandle → Handle
owned_handle h = record { offset = h.offset; len = h.len; first_key = h.first_key }

-- the first keys, one behind another
abbrev pub keys_text : List Handle → List ℕ
keys_text handles = flat_map (λ h. h.first_key) handles
