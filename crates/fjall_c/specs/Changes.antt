-- The changes that a disk took, to be carried out elsewhere.
use Rattle.std.specs.Prelude.{◌≡◌, ℕ, List, string_bytes}
use Rattle.fjall_base.specs.Disk.{Name}
use Rattle.fjall_c.specs.declared.mirror.change.Change.{Change}
use Rattle.fjall_c.specs.declared.mirror.change.ChangeKind.{ChangeKind}

-- the change is of this kind, at this name, with these bytes and this length
pub record IsChange (kind : ChangeKind) (name : Name) (bytes : List ℕ) (len : ℕ) (change : Change) : Type 0 where
  pub kinds : change.kind ≡ kind
  pub names : string_bytes change.name ≡ name
  pub text : change.bytes.items ≡ bytes
  pub lens : change.len ≡ len
