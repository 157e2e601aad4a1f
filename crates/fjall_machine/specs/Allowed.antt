-- What holds where nothing refuses a call.
use Rattle.std.specs.Prelude.{◌≡◌, ◌≢◌, ℕ, ◌<◌, ◌-◌, ◌^◌, true, false, nat_le, All, None}
use Rattle.std.specs.FinMap.{len}
use Rattle.fjall_base.specs.Pairs.{Bytes}
use Rattle.fjall_base.specs.Store.{Store}
use Rattle.fjall_journal.specs.Changes.{Change, Items, Emptied}
use Rattle.fjall_journal.specs.Ops.{items_refusal}
use Rattle.fjall_meta.specs.Keyspaces.{is_name}
use Rattle.fjall_machine.specs.Machine.{Facts, names_one, is_living, is_unknown}

-- the keyspaces that a change is of live
abbrev pub IsOfLiving : Store → Change → Type 0
IsOfLiving s (Items items) = All (λ item. is_living s item.0 ≡ true) items
IsOfLiving s (Emptied id) = is_living s id ≡ true

-- a batch may have the items of the change
abbrev pub FitsBatch : Change → Type 0
FitsBatch (Items items) = items_refusal items ≡ None
FitsBatch (Emptied id) = Unit {0}

-- The keyspaces of the change live, no fault has poisoned the engine, a number is left, and a batch may have the change.
pub record MayChange (f : Facts) (change : Change) : Type 0 where
  pub living : IsOfLiving f.store change
  pub well : f.poisoned ≡ false
  pub numbered : f.next < 2 ^ 63
  pub fits : FitsBatch change

-- No fault has poisoned the engine, and a number, an id for a table and an id for a keyspace are left.
pub record HasRoomForChange (f : Facts) : Type 0 where
  pub well : f.poisoned ≡ false
  pub numbered : f.next < 2 ^ 63
  pub table : f.table ≢ 2 ^ 64 - 1
  pub free : f.store.next ≢ 2 ^ 64 - 1

-- The name is a name; where none has it, a keyspace can be made.
pub record MayCreate (f : Facts) (name : Bytes) : Type 0 where
  pub named : is_name name ≡ true
  pub room : names_one f.store name ≡ false → HasRoomForChange f

-- No fault has poisoned the engine, and a number is left and, where a keyspace is left, an id for a table.
pub record HasNumber (f : Facts) : Type 0 where
  pub well : f.poisoned ≡ false
  pub numbered : f.next < 2 ^ 63
  pub table : nat_le 2 (len f.store.names) ≡ true → f.table ≢ 2 ^ 64 - 1

-- The id is known; where its keyspace lives, it can be deleted.
pub record MayDelete (f : Facts) (id : ℕ) : Type 0 where
  pub known : is_unknown f.store id ≡ false
  pub number : is_living f.store id ≡ true → HasNumber f
