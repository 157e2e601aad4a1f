-- The calls before the first crash or reopening.
use Rattle.std.proofs.Common.{◌≡◌, ℕ, zero, suc, ◌+◌, ◌≤◌, Bool, true, false, List, [], ◌∷◌, ◌++◌, length, take, drop, Option, unwrap_or, refl, sym, ap, ◌∙◌, subst, arith, inl, inr, ◌⊎◌}
use Rattle.std.specs.Prelude.{All}
use Rattle.std.specs.List.{position, position_or_len}
use Rattle.std.proofs.lemmas.Bool.{cases_lt}
use Rattle.std.proofs.lemmas.List.{take-append-drop}
use Rattle.std.proofs.lemmas.List.Elements.{All-nil, All-cons}
use Rattle.fjall_history.specs.declared.reply.Reply.{Reply}
use Rattle.fjall_lines.specs.declared.command.Command.{Command}
use Rattle.fjall_script.specs.Answers.{text_of}
use Rattle.fjall_calls.specs.Holding.{Held}
use Rattle.fjall_calls.specs.Transactions.{Kept}
use Rattle.fjall_calls.specs.declared.call.TxCall.{TxCall}
use Rattle.fjall_calls.specs.Serving.{RunsTx}
use Rattle.fjall_script.specs.Requests.{AreOfLines, counts_of, is_stop, numbers_in}
use Rattle.fjall_script.specs.declared.calls.LineCalls.{LineCalls}
use Rattle.fjall_script.specs.Sessions.{AnsweredFront, answers_to, IsAtStop}
use Rattle.fjall_script.proofs.Counts.{counted}

either : (v : Bool) → (v ≡ true) ⊎ (v ≡ false)
either true = inl refl
either false = inr refl

abbrev IsCall : Option Command → Type 0
IsCall found = is_stop found ≡ false

-- no crash or reopening stands before the first, and there the calls end
front_at : (commands : List (Option Command)) (n : ℕ) → n ≡ position_or_len is_stop commands
    → All IsCall (take n commands) × IsAtStop (drop n commands)
front_at [] zero h = (All-nil IsCall, tt)
front_at [] (suc n) h = absurd (omega arith)
front_at (found ∷ rest) zero h =
    elim (either (is_stop found)) [
      | inl e ↦ (All-nil IsCall, e)
      | inr e ↦ let at = rw e at h in absurd (omega arith)
    ]
front_at (found ∷ rest) (suc n) h =
    elim (either (is_stop found)) [
      | inl e ↦ let at = rw e at h in absurd (omega arith)
      | inr e ↦
          let at = rw e at h in
          let ih = front_at rest n (omega arith) in
          (All-cons IsCall found (take n rest) e ih.0, ih.1)
    ]

pos_bound : (commands : List (Option Command)) → position_or_len is_stop commands ≤ length commands
pos_bound [] = omega arith
pos_bound (found ∷ rest) =
    let ih = pos_bound rest in
    elim (either (is_stop found)) [
      | inl e ↦ rw e (omega arith)
      | inr e ↦ rw e (omega (arith, ih))
    ]

end_is : (commands : List (Option Command)) (stop : Option ℕ) → stop ≡ position is_stop commands
    → unwrap_or stop (length commands) ≡ position_or_len is_stop commands
end_is commands stop h =
    let bound = pos_bound commands in
    elim (cases_lt (position_or_len is_stop commands) (length commands)) [
      | inl below ↦ grind (arith, h)
      | inr past ↦ let last : length commands ≡ position_or_len is_stop commands = omega arith in grind (arith, h, last)
    ]

pub answered_front : (honest : Bool) (earlier : ℕ) (commands front rest : List (Option Command)) (stop : Option ℕ) (end : ℕ) (core : Held) (kept : Kept) (after : Held) (left : Kept)
    (lines : LineCalls) (counts : List ℕ) (replies shown : List Reply) (text : List ℕ) (asked : ℕ)
    → stop ≡ position is_stop commands → end ≡ unwrap_or stop (length commands) → front ≡ take end commands → rest ≡ drop end commands
    → AreOfLines earlier front lines → RunsTx honest core kept lines.calls.items replies after left → counts ≡ lines.counts.items → shown ≡ replies → text ≡ text_of (answers_to earlier front counts shown)
    → asked ≡ earlier + numbers_in front → AnsweredFront honest earlier commands rest core kept after left text asked
answered_front honest earlier commands front rest stop end core kept after left lines counts replies shown text asked found at before behind are runs each same said count =
    let end' = at ∙ end_is commands stop found in
    let parts = front_at commands end end' in
    let split : commands ≡ front ++ rest = rw (before, behind) (sym (take-append-drop end commands)) in
    let all : numbers_in commands ≡ numbers_in front + numbers_in rest = ap numbers_in split ∙ counted front rest in
    record {
      printed = answers_to earlier front (counts_of are.made) replies;
      ran = record {
        lines = front;
        made = are.made;
        replies = replies;
        split = split;
        calls_alone = rw before parts.0;
        stop = rw behind parts.1;
        asked = are.are;
        runs = subst (λ (calls : List TxCall). RunsTx honest core kept calls replies after left) are.calls runs;
        printed_are = refl;
      };
      text_is = said ∙ ap (λ (r : List Reply). text_of (answers_to earlier front counts r)) same ∙ ap (λ (n : List ℕ). text_of (answers_to earlier front n replies)) (each ∙ are.counts);
      asked_is = omega (arith, count, all);
    }
