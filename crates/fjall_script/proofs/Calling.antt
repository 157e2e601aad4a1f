-- More calls are made.
use Rattle.std.proofs.Common.{◌≡◌, ℕ, ◌+◌, ◌-◌, ◌<◌, ◌≤◌, List, [], ◌∷◌, ◌++◌, length, length-append, drop, get_or, Option, Some, None, refl, sym, subst, ap, ◌∙◌, append_assoc, arith}
use Rattle.std.proofs.lemmas.List.{append-nil, drop_all, map-append}
use Rattle.std.proofs.lemmas.List.Concat.{flat_map-append}
use Rattle.fjall_calls.specs.declared.call.TxCall.{TxCall}
use Rattle.fjall_lines.specs.declared.command.Command.{Command}
use Rattle.fjall_lines.specs.declared.command.Command.TheVariants.{Ask, Crash, CrashWild, Reopen}
use Rattle.fjall_lines.specs.declared.command.Request.{Request}
use Rattle.fjall_script.specs.Requests.{AddsCalls, AreCalls, AreCallsBehind, AreOfLines, IsCallOf, LineAdds, RequestMakes, SoFar, all_calls, begun_with, behind, calls_with, counts_of, job_of, none_so_far, nowhere, numbered_with, place_by, request_of, requests_of, so_far_in}
use Rattle.fjall_script.specs.declared.calls.Job.{Job}
use Rattle.fjall_script.specs.declared.calls.LineCalls.{LineCalls}
use Rattle.fjall_script.proofs.Printing.{next_is}

-- the list so far is told by its three parts
same_so_far : (a b : SoFar) → a.count ≡ b.count → a.numbered ≡ b.numbered → a.begun ≡ b.begun → a ≡ b
same_so_far a b count numbered begun =
    ap (λ (n : ℕ). record a { count = n }) count ∙ ap (λ (l : List ℕ). record { count = b.count; numbered = l; begun = a.begun }) numbered
    ∙ ap (λ (l : List (Job × ℕ)). record { count = b.count; numbered = b.numbered; begun = l }) begun

all_calls-more : (made : List (List TxCall)) (mine : List TxCall) → all_calls (made ++ mine ∷ []) ≡ all_calls made ++ mine
all_calls-more made mine = flat_map-append (λ (own : List TxCall). own) made (mine ∷ []) ∙ ap (λ (l : List TxCall). all_calls made ++ l) (append-nil mine)

-- The calls of the lines so far, and whichever those of the lines to come are.
pub record MadeSoFar (earlier : ℕ) (commands left : List (Option Command)) (lines : LineCalls) : Type 0 where
  pub made : List (List TxCall)
  pub calls : lines.calls.items ≡ all_calls made
  pub counts : lines.counts.items ≡ counts_of made
  pub same : lines.numbers.earlier ≡ earlier
  pub rest : (more : List (List TxCall)) → AreCallsBehind earlier (so_far_in lines) (requests_of left) more → AreCalls earlier commands (made ++ more)

-- no line so far
pub none_made : (earlier : ℕ) (commands : List (Option Command)) (lines : LineCalls) → lines.calls.items ≡ [] → lines.counts.items ≡ [] → lines.numbers.places.items ≡ nowhere ∷ [] → lines.begun.items ≡ [] → lines.numbers.earlier ≡ earlier
    → MadeSoFar earlier commands commands lines
none_made earlier commands lines calls counts numbered begun same = record {
  made = [];
  calls = calls;
  counts = counts;
  same = same;
  rest = λ more are. subst (λ (s : SoFar). AreCallsBehind earlier s (requests_of commands) more) (same_so_far (so_far_in lines) none_so_far (ap length calls) numbered begun) are;
}

-- the calls of one more request
pub adds_calls : (request : Request) (old new : LineCalls) (call : TxCall) (count : ℕ) → IsCallOf (place_by old.numbers) request call
    → new.calls.items ≡ old.calls.items ++ calls_with old.begun.items (length old.calls.items) (job_of request) call → new.begun.items ≡ begun_with old.begun.items (length old.calls.items) (job_of request)
    → new.numbers.places.items ≡ numbered_with old.numbers.places.items (length old.calls.items) request → new.numbers.earlier ≡ old.numbers.earlier
    → new.counts.items ≡ old.counts.items ++ count ∷ [] → count ≡ length new.calls.items - length old.calls.items → AddsCalls request old new
adds_calls request old new call count is calls begun numbered same counts more =
    let mine = calls_with old.begun.items (length old.calls.items) (job_of request) call in
    let long = ap length calls ∙ length-append old.calls.items mine in
    let each : count ≡ length mine = omega (arith, long, more) in
    record {
      mine = mine;
      makes = (call, is, refl);
      calls = calls;
      counts = counts ∙ ap (λ (n : ℕ). old.counts.items ++ n ∷ []) each;
      numbered = numbered;
      begun = begun;
      earlier = same;
    }

-- the calls of one more line
pub more_made : (earlier : ℕ) (commands : List (Option Command)) (i : ℕ) (found : Option Command) (lines after : LineCalls) → i < length commands → found ≡ get_or commands i found → LineAdds (request_of found) lines after
    → MadeSoFar earlier commands (drop i commands) lines → MadeSoFar earlier commands (drop (i + 1) commands) after
more_made earlier commands i found lines after lt at adds h = steps found adds (subst (λ (l : List (Option Command)). MadeSoFar earlier commands l lines) (next_is commands i found lt at) h)
  where
    rest : List (Option Command)
    rest = drop (i + 1) commands

    none : (f : Option Command) → requests_of (f ∷ rest) ≡ requests_of rest → after ≡ lines → MadeSoFar earlier commands (f ∷ rest) lines → MadeSoFar earlier commands rest after
    none f skips same g = subst (MadeSoFar earlier commands rest) (sym same)
        (record {
          made = g.made;
          calls = g.calls;
          counts = g.counts;
          same = g.same;
          rest = λ more are. g.rest more (subst (λ (rs : List Request). AreCallsBehind earlier (so_far_in lines) rs more) (sym skips) are);
        })

    some : (request : Request) → AddsCalls request lines after → MadeSoFar earlier commands (Some (Ask request) ∷ rest) lines → MadeSoFar earlier commands rest after
    some request adds g =
        let so : so_far_in after ≡ behind (so_far_in lines) request adds.mine = same_so_far (so_far_in after) (behind (so_far_in lines) request adds.mine) (ap length adds.calls ∙ length-append lines.calls.items adds.mine) adds.numbered adds.begun in
        let makes : RequestMakes earlier (so_far_in lines) request adds.mine = subst (λ (n : ℕ). RequestMakes n (so_far_in lines) request adds.mine) g.same adds.makes in
        record {
          made = g.made ++ adds.mine ∷ [];
          calls = adds.calls ∙ ap (λ (l : List TxCall). l ++ adds.mine) g.calls ∙ sym (all_calls-more g.made adds.mine);
          counts = adds.counts ∙ ap (λ (l : List ℕ). l ++ length adds.mine ∷ []) g.counts ∙ sym (map-append (λ (own : List TxCall). length own) g.made (adds.mine ∷ []));
          same = adds.earlier ∙ g.same;
          rest = λ more later. subst (AreCalls earlier commands) (sym (append_assoc g.made (adds.mine ∷ []) more))
              (g.rest (adds.mine ∷ more) (makes, subst (λ (s : SoFar). AreCallsBehind earlier s (requests_of rest) more) so later));
        }

    steps : (f : Option Command) → LineAdds (request_of f) lines after → MadeSoFar earlier commands (f ∷ rest) lines → MadeSoFar earlier commands rest after
    steps None same g = none None refl same g
    steps (Some (Crash keep)) same g = none (Some (Crash keep)) refl same g
    steps (Some (CrashWild fills)) same g = none (Some (CrashWild fills)) refl same g
    steps (Some Reopen) same g = none (Some Reopen) refl same g
    steps (Some (Ask request)) adds g = some request adds g

-- no line is left
pub all_made : (earlier : ℕ) (commands : List (Option Command)) (i : ℕ) (lines : LineCalls) → length commands ≤ i → MadeSoFar earlier commands (drop i commands) lines → AreOfLines earlier commands lines
all_made earlier commands i lines past h =
    let none : drop i commands ≡ [] = drop_all i commands past in
    let g : MadeSoFar earlier commands [] lines = subst (λ (l : List (Option Command)). MadeSoFar earlier commands l lines) none h in
    record {
      made = g.made;
      are = subst (AreCalls earlier commands) (append-nil g.made) (g.rest [] tt);
      calls = g.calls;
      counts = g.counts;
    }
