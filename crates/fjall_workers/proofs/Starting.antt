-- Workers that are started one after another.
use Rattle.std.proofs.Common.{◌≡◌, ℕ, ◌+◌, List, [], ◌∷◌, ◌++◌, length, refl, Result, Ok, arith, append_assoc, length-append}
use Rattle.fjall_workers.specs.Starting.{Starts, StartsFrom}

-- a call more starts one worker more
one_behind : {F H E : Type 0} (step : F → ℕ → Result H E → F → Type 0) (index at : ℕ) (f g last : F) (workers : List H) (worker : H) → StartsFrom step index f workers g → at ≡ index + length workers → step g at (Ok worker) last → StartsFrom step index f (workers ++ worker ∷ []) last
one_behind step index at f g last [] worker calls same call =
    let here : at ≡ index = omega arith in
    (last, rw calls (rw (← here) call), refl)
one_behind step index at f g last (first ∷ workers) worker calls same call =
    (calls.0, calls.1, one_behind step (index + 1) at calls.0 g last workers worker calls.2 (omega arith) call)

pub one_more : {F H E : Type 0} (step : F → ℕ → Result H E → F → Type 0) (count : ℕ) (f g last : F) (old so_far new : List H) (worker : H) → Starts step count f old so_far g → step g count (Ok worker) last → new ≡ so_far ++ worker ∷ [] → Starts step (count + 1) f old new last
one_more step count f g last old so_far new worker begun call pushed = record {
  workers = begun.workers ++ worker ∷ [];
  behind = grind (arith, append_assoc);
  counted = grind (arith, length-append);
  calls = one_behind step 0 count f g last begun.workers worker begun.calls (omega arith) call;
}
