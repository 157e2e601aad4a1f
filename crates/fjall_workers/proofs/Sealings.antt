-- No memtable waits to be sealed twice.
use Rattle.std.proofs.Common.{◌≡◌, ◌≤◌, Bool, false, cond, List, [], ◌∷◌, ◌++◌, drop, count_by, arith, refl}
use Rattle.std.specs.List.{list_any}
use Rattle.std.proofs.lemmas.List.Sums.{sum_by-append, sum_by-cons}
use Rattle.fjall_workers.specs.declared.message.WorkerMessage.{WorkerMessage}
use Rattle.fjall_workers.specs.declared.message.WorkerMessage.TheVariants.{Flush, Compact, RotateMemtable, Close}
use Rattle.fjall_workers.specs.Waiting.{EachSealedOnce, is_asked, seals}

-- one that is taken leaves no more of those behind it
pub sealed_behind_first : (messages : List WorkerMessage) → EachSealedOnce messages → EachSealedOnce (drop 1 messages)
sealed_behind_first [] once = once
sealed_behind_first (message ∷ messages) once = record { seals_of = λ id. let left : count_by (seals id) messages ≤ 1 = omega (arith, sum_by-cons (λ m. cond (seals id m) 1 0) message messages, once.seals_of id) in left }

none_counted : {X : Type 0} (p : X → Bool) (xs : List X) → list_any p xs ≡ false → count_by p xs ≡ 0
none_counted p [] none = refl
none_counted p (x ∷ xs) none = grind (arith, none_counted p xs)

-- one that isn't asked already may stand behind all
pub sealed_once_behind : (message : WorkerMessage) (messages : List WorkerMessage) → EachSealedOnce messages → is_asked message messages ≡ false → EachSealedOnce (messages ++ message ∷ [])
sealed_once_behind Flush messages once new = record { seals_of = λ id. grind (arith, sum_by-append, once.seals_of id) }
sealed_once_behind (Compact of) messages once new = record { seals_of = λ id. grind (arith, sum_by-append, once.seals_of id) }
sealed_once_behind (RotateMemtable of) messages once new = record { seals_of = λ id. grind (arith, sum_by-append, once.seals_of id, none_counted (seals of) messages new) }
sealed_once_behind Close messages once new = record { seals_of = λ id. grind (arith, sum_by-append, once.seals_of id) }
