use Rattle.std.proofs.Common.{◌≡◌, take, IfSome}
use Rattle.std.specs.List.{All}
use Rattle.fjall_files.specs.Places.{HasPlace, told}
use Rattle.fjall_files.proofs.active_watermarks.ActiveWatermarks.make_places.Given as goal

abbrev pub invariant-loop-item : goal.invariant-loop-item
invariant-loop-item l = (told l.self ≡ told l.fn.self) × All (λ item. HasPlace l.self item.0) (take l.item-index l.items) × IfSome l.made (HasPlace l.self)
