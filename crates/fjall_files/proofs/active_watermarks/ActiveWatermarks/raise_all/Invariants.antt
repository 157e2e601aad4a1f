use Rattle.std.proofs.Common.{◌≡◌, ℕ, take, IfSome}
use Rattle.fjall_files.specs.Places.{HasPlace, raising, raising_all, told}
use Rattle.fjall_files.proofs.active_watermarks.ActiveWatermarks.raise_all.Given as goal

abbrev pub invariant-loop-item : goal.invariant-loop-item
invariant-loop-item l = (told l.self ≡ raising_all l.lsn (take l.item-index l.items) (told l.fn.self)) × ((id : ℕ) → HasPlace l.fn.self id → HasPlace l.self id)
    × IfSome l.raised (λ id. raising l.lsn id (told l.self) ≡ told l.self)
