use Rattle.std.proofs.Common.{◌≡◌, sym, ◌∙◌, ap, inl, inr, codes, Ok}
use Rattle.std.proofs.lemmas.Slice.Eq.{bytes_eq-Decides}
use Rattle.fjall_lines.proofs.Bytes.{spelled, words_are, is_empty_is}
use Rattle.fjall_lines.proofs.parsing.bytes.Goals as goal
use Rattle.fjall_lines.proofs.parsing.bytes.Goals.{then-is_empty-via-then-is_empty, then-is_empty-via-else-is_empty+then-has_upper_case}

pub returns-then-eq-clause-all_found : goal.returns-then-eq-clause-all_found
returns-then-eq-clause-all_found c b bytes e =
    let same : c.args.word.now ≡ codes "-" = (bytes_eq-Decides c.args.word.now (codes "-")).0 (sym c.eq.ensures ∙ c.if-eq.true) in
    elim (words_are c.args.word.now b bytes e) [
      | inl none ↦ cc
      | inr word ↦ absurd (word.dash same)
    ]

pub returns-then-is_empty-clause-all_found : goal.returns-then-is_empty-clause-all_found
returns-then-is_empty-clause-all_found c b bytes e =
    elim (words_are c.args.word.now b bytes e) [
      | inl none ↦
          let same = (bytes_eq-Decides c.args.word.now (codes "-")).1 none.1 in
          cc (c.eq.ensures, c.if-eq.false, same)
      | inr word ↦ elim c.then-is_empty.branch [
        | then-is_empty-via-then-is_empty w ↦ absurd (word.some ((is_empty_is c.args.word.now c.is_empty.result c.is_empty.ensures).0 w.if-is_empty.true))
        | then-is_empty-via-else-is_empty+then-has_upper_case w ↦ cc (w.has_upper_case.ensures, w.if-has_upper_case.true, word.low)
      ]
    ]

pub returns-in_ok-new-in-Ok-clause-spelled : goal.returns-in_ok-new-in-Ok-clause-spelled
returns-in_ok-new-in-Ok-clause-spelled c =
    spelled c.args.word.now c.in_ok-new-in-Ok.field-0
    ((is_empty_is c.args.word.now c.is_empty.result c.is_empty.ensures).1 c.if-is_empty.false)
    (cc (c.has_upper_case.ensures, c.if-has_upper_case.false))
    (c.in-Ok.ensures.ok ∙ ap Ok (sym (c.in_ok-new-in-Ok.ensures.value ∙ c.as_slice.ensures.value)))

pub returns-in_ok-new-in-Ok-clause-all_found : goal.returns-in_ok-new-in-Ok-clause-all_found
returns-in_ok-new-in-Ok-clause-all_found c b bytes e =
    elim (words_are c.args.word.now b bytes e) [
      | inl none ↦
          let same = (bytes_eq-Decides c.args.word.now (codes "-")).1 none.1 in
          cc (c.eq.ensures, c.if-eq.false, same)
      | inr word ↦ cc (word.read, c.in-Ok.ensures.ok, c.in_ok-new-in-Ok.ensures.value, c.as_slice.ensures.value)
    ]

pub returns-in_default : goal.returns-in_default
returns-in_default c = record {
  spelled = tt;
  all_found = λ b bytes e.
      elim (words_are c.args.word.now b bytes e) [
        | inl none ↦
            let same = (bytes_eq-Decides c.args.word.now (codes "-")).1 none.1 in
            cc (c.eq.ensures, c.if-eq.false, same)
        | inr word ↦ elim c.in-Err.ensures.err [
          | inl memory ↦ absurd (c.in_default.not-OutOfMemory memory)
          | inr other ↦ cc (other, word.read)
        ]
      ];
}
