-- One more answer is printed.
use Rattle.std.proofs.Common.{◌≡◌, ℕ, ◌+◌, ◌<◌, List, [], ◌∷◌, ◌++◌, length, drop, take, get_or, Option, Some, None, sym, ap, ◌∙◌, append_assoc}
use Rattle.std.proofs.lemmas.List.{drop_more}
use Rattle.fjall_disk_memory.specs.Wild.{Fills}
use Rattle.fjall_history.specs.declared.reply.Reply.{Reply}
use Rattle.fjall_lines.specs.declared.command.Command.{Command}
use Rattle.fjall_lines.specs.declared.command.Command.TheVariants.{Ask, Crash, CrashWild, Reopen}
use Rattle.fjall_lines.specs.declared.command.Request.{Request}
use Rattle.fjall_script.specs.Answers.{reply_text, reply_to, bad_line, ok_line, text_of}
use Rattle.fjall_script.specs.Requests.{asked_with}
use Rattle.fjall_script.specs.Sessions.{answers_to}

-- the commands to come, the first of them apart
pub next_is : (commands : List (Option Command)) (i : ℕ) (found : Option Command) → i < length commands → found ≡ get_or commands i found
    → drop i commands ≡ found ∷ drop (i + 1) commands
next_is commands i found lt e =
    drop_more commands i found lt ∙ ap (λ (f : Option Command). f ∷ drop (i + 1) commands) (sym e)

add_line : (text line rest : List ℕ) → ((text ++ line) ++ (10 ∷ [])) ++ rest ≡ text ++ ((line ++ (10 ∷ [])) ++ rest)
add_line text line rest =
    append_assoc (text ++ line) (10 ∷ []) rest ∙ append_assoc text line ((10 ∷ []) ++ rest) ∙ ap (λ (t : List ℕ). text ++ t) (sym (append_assoc line (10 ∷ []) rest))

-- a line whose answer asks for no call
pub plain_step : (earlier asked : ℕ) (commands : List (Option Command)) (i : ℕ) (found : Option Command) (line : List ℕ) (counts counted : List ℕ) (left later : List Reply) (text mid after whole : List ℕ)
    → ((rest : List (Option Command)) → answers_to earlier (found ∷ rest) counts left ≡ line ∷ answers_to earlier rest counts left)
    → i < length commands → found ≡ get_or commands i found → asked ≡ earlier → counted ≡ counts → later ≡ left → mid ≡ text ++ line → after ≡ mid ++ 10 ∷ []
    → text ++ text_of (answers_to earlier (drop i commands) counts left) ≡ whole
    → after ++ text_of (answers_to asked (drop (i + 1) commands) counted later) ≡ whole
plain_step earlier asked commands i found line counts counted left later text mid after whole said lt at count each same first last h =
    let next = next_is commands i found lt at in
    let answer = said (drop (i + 1) commands) in
    let here : text ++ text_of (line ∷ answers_to earlier (drop (i + 1) commands) counts left) ≡ whole = rw (next, answer) at h in
    rw (last, first, same, each, count) (add_line text line (text_of (answers_to earlier (drop (i + 1) commands) counts left)) ∙ here)

pub bad_said : (earlier : ℕ) (found : Option Command) (counts : List ℕ) (left : List Reply) → found ≡ None → (rest : List (Option Command)) → answers_to earlier (found ∷ rest) counts left ≡ bad_line ∷ answers_to earlier rest counts left
bad_said earlier found counts left none rest = ap (λ (f : Option Command). answers_to earlier (f ∷ rest) counts left) none

pub crash_said : (earlier : ℕ) (found : Option Command) (counts : List ℕ) (left : List Reply) (keep : ℕ) → found ≡ Some (Crash keep) → (rest : List (Option Command))
    → answers_to earlier (found ∷ rest) counts left ≡ ok_line ∷ answers_to earlier rest counts left
crash_said earlier found counts left keep is rest = ap (λ (f : Option Command). answers_to earlier (f ∷ rest) counts left) is

pub wild_crash_said : (earlier : ℕ) (found : Option Command) (counts : List ℕ) (left : List Reply) (fills : Fills) → found ≡ Some (CrashWild fills) → (rest : List (Option Command))
    → answers_to earlier (found ∷ rest) counts left ≡ ok_line ∷ answers_to earlier rest counts left
wild_crash_said earlier found counts left fills is rest = ap (λ (f : Option Command). answers_to earlier (f ∷ rest) counts left) is

pub reopen_said : (earlier : ℕ) (found : Option Command) (counts : List ℕ) (left : List Reply) → found ≡ Some Reopen → (rest : List (Option Command)) → answers_to earlier (found ∷ rest) counts left ≡ ok_line ∷ answers_to earlier rest counts left
reopen_said earlier found counts left is rest = ap (λ (f : Option Command). answers_to earlier (f ∷ rest) counts left) is

-- a line with its calls
pub reply_step : (earlier asked number : ℕ) (commands : List (Option Command)) (i : ℕ) (found : Option Command) (request : Request) (counts counted : List ℕ) (count : ℕ) (left mine later : List Reply) (text mid after whole : List ℕ)
    → i < length commands → found ≡ get_or commands i found → found ≡ Some (Ask request) → counts ≡ count ∷ counted → mine ≡ take count left → later ≡ drop count left
    → number ≡ earlier + 1 → asked ≡ asked_with earlier request → mid ≡ text ++ reply_text number request (reply_to mine) → after ≡ mid ++ 10 ∷ []
    → text ++ text_of (answers_to earlier (drop i commands) counts left) ≡ whole
    → after ++ text_of (answers_to asked (drop (i + 1) commands) counted later) ≡ whole
reply_step earlier asked number commands i found request counts counted count left mine later text mid after whole lt at some split own others numbered more first last h =
    let next = next_is commands i found lt at in
    let here : text ++ text_of (answers_to earlier (Some (Ask request) ∷ drop (i + 1) commands) (count ∷ counted) left) ≡ whole = rw (next, some, split) at h in
    rw (last, first, numbered, more, own, others)
    (add_line text (reply_text (earlier + 1) request (reply_to (take count left))) (text_of (answers_to (asked_with earlier request) (drop (i + 1) commands) counted (drop count left))) ∙ here)
