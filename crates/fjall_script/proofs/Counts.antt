-- How many numbers were asked for.
use Rattle.std.proofs.Common.{◌≡◌, ℕ, ◌+◌, ◌≤◌, Bool, true, false, cond, List, ◌∷◌, ◌++◌, length, Option, Some, None, refl, sym, ap, ◌∙◌, arith}
use Rattle.std.proofs.lemmas.Bool.{true≢false}
use Rattle.std.proofs.lemmas.List.Sums.{count_by-le-length, sum_by-append, sum_by-cons}
use Rattle.fjall_lines.specs.declared.command.Command.{Command}
use Rattle.fjall_lines.specs.declared.command.Command.TheVariants.{Ask, Crash, CrashWild, Reopen}
use Rattle.fjall_lines.specs.declared.command.Request.{Request}
use Rattle.fjall_script.specs.Requests.{asked_with, asks_number, is_stop, opens, numbers_before, numbers_in}

pub counted : (a b : List (Option Command)) → numbers_in (a ++ b) ≡ numbers_in a + numbers_in b
counted a b = sum_by-append (λ (found : Option Command). cond (asks_number found) 1 0) a b

first_of : (found : Option Command) (rest : List (Option Command)) → numbers_in (found ∷ rest) ≡ cond (asks_number found) 1 0 + numbers_in rest
first_of found rest = sum_by-cons (λ (f : Option Command). cond (asks_number f) 1 0) found rest

pub few : (lines : List (Option Command)) → numbers_in lines ≤ length lines
few lines = count_by-le-length asks_number lines

-- a line that asks for none
pub none_asked : (found : Option Command) (rest : List (Option Command)) → asks_number found ≡ false → numbers_in (found ∷ rest) ≡ numbers_in rest
none_asked found rest none = first_of found rest ∙ ap (λ b. cond b 1 0 + numbers_in rest) none ∙ omega arith

-- a line that may ask for one
pub one_asked : (earlier : ℕ) (request : Request) (rest : List (Option Command)) → asked_with earlier request + numbers_in rest ≡ earlier + numbers_in (Some (Ask request) ∷ rest)
one_asked earlier request rest = either (opens request) earlier (numbers_in rest) ∙ ap (λ n. earlier + n) (sym (first_of (Some (Ask request)) rest))
  where
    either : (b : Bool) (k n : ℕ) → (cond b (k + 1) k) + n ≡ k + (cond b 1 0 + n)
    either true k n = omega arith
    either false k n = omega arith

-- of a script, up to what is left
pub asked_before : (script front rest : List (Option Command)) → script ≡ front ++ rest → numbers_before script rest ≡ numbers_in front
asked_before script front rest split = let all = ap numbers_in split ∙ counted front rest in omega (arith, all)

pub asked_small : (earlier : ℕ) (request : Request) → asked_with earlier request ≤ earlier + 1
asked_small earlier request = either (opens request)
  where
    either : (b : Bool) → cond b (earlier + 1) earlier ≤ earlier + 1
    either true = omega arith
    either false = omega arith

-- a crash or a reopening asks for none
pub stops_ask_none : (found : Option Command) → is_stop found ≡ true → asks_number found ≡ false
stops_ask_none (Some (Crash keep)) is = refl
stops_ask_none (Some (CrashWild fills)) is = refl
stops_ask_none (Some Reopen) is = refl
stops_ask_none None is = refl
stops_ask_none (Some (Ask request)) is = absurd (true≢false (sym is))
