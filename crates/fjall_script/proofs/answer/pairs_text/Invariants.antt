use Rattle.std.proofs.Common.{◌≡◌, ◌++◌, drop, codes}
use Rattle.std.specs.Prelude.{string_bytes}
use Rattle.std.specs.List.{flat_map}
use Rattle.fjall_script.specs.Answers.{pair_word, pairs_text}
use Rattle.fjall_script.proofs.answer.pairs_text.Given as goal

-- the text so far, and the pairs to come
abbrev pub invariant-loop-key : goal.invariant-loop-key
invariant-loop-key l = string_bytes l.text ++ flat_map (λ pair. codes " " ++ pair_word pair) (drop l.key-index l.pairs) ≡ pairs_text l.pairs
