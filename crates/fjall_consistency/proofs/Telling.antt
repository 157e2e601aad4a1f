-- What each call of a list is told, and what is known after it.
use Rattle.std.proofs.Common.{List, [], ◌∷◌, ◌++◌}
use Rattle.fjall_history.specs.declared.reply.Reply.{Reply}
use Rattle.fjall_machine.specs.declared.call.Call.{Call}
use Rattle.fjall_calls.specs.declared.call.TxCall.{TxCall}
use Rattle.fjall_calls.specs.Steps.{IsBegun, IsEnded, IsHeldBack, IsNotBegun, IsRolledBack, IsUnknown, IsWithin, NoCall, OfCore, OneCall, TxRun, TxStep}
use Rattle.fjall_calls.specs.Worlds.{World}
use Rattle.fjall_consistency.specs.Consistency.{AreAnswers, Known}
use Rattle.fjall_consistency.proofs.BeginTelling.{begun_tells, held_back_tells, not_begun_tells, unknown_tells}
use Rattle.fjall_consistency.proofs.CoreTelling.{core_tells}
use Rattle.fjall_consistency.proofs.EndTelling.{ended_tells, rolled_back_tells}
use Rattle.fjall_consistency.proofs.WithinTelling.{within_tells}
use Rattle.fjall_consistency.proofs.Known.{IsKnown, Tells}

-- one call
pub tells : (w v : World) (before : List Reply) (k : Known) (call : TxCall) (reply : Reply) (made : List Call) (told : List Reply) → IsKnown w before k → TxStep w before call reply made told v → Tells v before k call reply
tells w v before k call reply made told known (OfCore c r s step) = core_tells w before k c r s known step
tells w v before k call reply made told known (IsHeldBack due) = held_back_tells w before k known due
tells w v before k call reply made told known (IsNotBegun kind free error s step) = not_begun_tells w before k kind error s known step
tells w v before k call reply made told known (IsBegun kind free ticket s step) = begun_tells w before k kind ticket s known free step
tells w v before k call reply made told known (IsUnknown c name kind is none) = unknown_tells w before k c name kind known is none
tells w v before k call reply made told known (IsWithin name c g others takes r m t s after acts) = within_tells w before k name c g others r m t s after known takes acts
tells w v before k call reply made told known (IsEnded kind name g others takes outcome m t commits new step) = ended_tells w before k kind name g others outcome new known takes step
tells w v before k call reply made told known (IsRolledBack name g others takes r s step) = rolled_back_tells w before k name g others r s known takes step

-- a list of calls
pub all_told : (w v : World) (before : List Reply) (k : Known) (calls : List TxCall) (replies : List Reply) (made : List Call) (told : List Reply) → IsKnown w before k → TxRun w before calls replies made told v
    → AreAnswers k calls replies
all_told w v before k calls replies made told known (NoCall u b) = tt
all_told w v before k calls replies made told known (OneCall u mid x b call reply m t more r later heard step rest) =
    let one = tells w mid b k call reply m t known step in
    (one.answer, all_told mid v (b ++ reply ∷ []) _ more r later heard one.known rest)
