use Rattle.std.proofs.Common.{◌≡◌, ◌+◌, ◌∷◌, ◌++◌, ◌∙◌, Some, ap, arith, drop, refl, sym}
use Rattle.std.specs.Prelude.{string_bytes}
use Rattle.fjall_script.specs.Answers.{reply_text, reply_to}
use Rattle.fjall_script.proofs.Counts.{asked_small}
use Rattle.fjall_script.proofs.Printing.{bad_said, crash_said, plain_step, reopen_said, reply_step, wild_crash_said}
use Rattle.fjall_script.proofs.session.answers_to.Goals as goal
use Rattle.fjall_script.proofs.session.answers_to.Goals.{in-None+in_ok-push_str-in-None, in-Some+in-Ask+in-Some-split_first+in_ok-answer-in-Ask+in_ok-push_str-in-Ask, in-Some+in-Crash+in_ok-push_str-in-Crash, in-Some+in-CrashWild+in_ok-push_str-in-CrashWild, in-Some+in-Reopen+in_ok-push_str-in-Reopen}

pub loop-found-preserved : goal.loop-found-preserved
loop-found-preserved c =
    let few = c.loop-found.invariant.few in
    elim c.match-found.branch [
      | in-None+in_ok-push_str-in-None w ↦
          let same = w.asked-is in record {
            text = plain_step c.loop-found.asked c.match-found.asked c.args.commands.now c.loop-found.found-index c.found-item.result _ c.loop-found.counted.now c.match-found.counted.now c.loop-found.left.now c.match-found.left.now _ _ _ _ (bad_said c.loop-found.asked c.found-item.result c.loop-found.counted.now c.loop-found.left.now w.in-None.is) c.loop-found-test.true c.found-item.is same (ap (λ l. l.now) w.counted-is) (ap (λ l. l.now) w.left-is) (ap string_bytes w.text-is ∙ w.in_ok-push_str-in-None.ensures.bytes) c.in_ok-push_str.ensures.bytes c.loop-found.invariant.text;
            few = omega (arith, few, same);
          }
      | in-Some+in-Crash+in_ok-push_str-in-Crash w ↦
          let same = w.asked-is in record {
            text = plain_step c.loop-found.asked c.match-found.asked c.args.commands.now c.loop-found.found-index c.found-item.result _ c.loop-found.counted.now c.match-found.counted.now c.loop-found.left.now c.match-found.left.now _ _ _ _ (crash_said c.loop-found.asked c.found-item.result c.loop-found.counted.now c.loop-found.left.now _ (w.in-Some.is ∙ ap Some w.in-Crash.is)) c.loop-found-test.true c.found-item.is same (ap (λ l. l.now) w.counted-is) (ap (λ l. l.now) w.left-is) (ap string_bytes w.text-is ∙ w.in_ok-push_str-in-Crash.ensures.bytes) c.in_ok-push_str.ensures.bytes c.loop-found.invariant.text;
            few = omega (arith, few, same);
          }
      | in-Some+in-CrashWild+in_ok-push_str-in-CrashWild w ↦
          let same = w.asked-is in record {
            text = plain_step c.loop-found.asked c.match-found.asked c.args.commands.now c.loop-found.found-index c.found-item.result _ c.loop-found.counted.now c.match-found.counted.now c.loop-found.left.now c.match-found.left.now _ _ _ _ (wild_crash_said c.loop-found.asked c.found-item.result c.loop-found.counted.now c.loop-found.left.now _ (w.in-Some.is ∙ ap Some w.in-CrashWild.is)) c.loop-found-test.true c.found-item.is same (ap (λ l. l.now) w.counted-is) (ap (λ l. l.now) w.left-is) (ap string_bytes w.text-is ∙ w.in_ok-push_str-in-CrashWild.ensures.bytes) c.in_ok-push_str.ensures.bytes c.loop-found.invariant.text;
            few = omega (arith, few, same);
          }
      | in-Some+in-Reopen+in_ok-push_str-in-Reopen w ↦
          let same = w.asked-is in record {
            text = plain_step c.loop-found.asked c.match-found.asked c.args.commands.now c.loop-found.found-index c.found-item.result _ c.loop-found.counted.now c.match-found.counted.now c.loop-found.left.now c.match-found.left.now _ _ _ _ (reopen_said c.loop-found.asked c.found-item.result c.loop-found.counted.now c.loop-found.left.now (w.in-Some.is ∙ ap Some w.in-Reopen.is)) c.loop-found-test.true c.found-item.is same (ap (λ l. l.now) w.counted-is) (ap (λ l. l.now) w.left-is) (ap string_bytes w.text-is ∙ w.in_ok-push_str-in-Reopen.ensures.bytes) c.in_ok-push_str.ensures.bytes c.loop-found.invariant.text;
            few = omega (arith, few, same);
          }
      | in-Some+in-Ask+in-Some-split_first+in_ok-answer-in-Ask+in_ok-push_str-in-Ask w ↦
          let added : string_bytes w.push_str-in-Ask.new.self ≡ string_bytes c.loop-found.text ++ w.as_str.result.now = w.in_ok-push_str-in-Ask.ensures.bytes in
          let said : w.as_str.result.now ≡ reply_text (c.loop-found.asked + 1) w.in-Ask.request (reply_to w.split.result.0.now) = w.as_str.ensures.value ∙ w.in_ok-answer-in-Ask.ensures in
          let parts : c.loop-found.counted.now ≡ w.in-Some-split_first.count.now ∷ w.in-Some-split_first.others.now = w.in-Some-split_first.ensures.cases.0 in
          let counted : c.match-found.counted.now ≡ w.in-Some-split_first.others.now = ap (λ l. l.now) w.counted-is in
          let rest : c.match-found.left.now ≡ drop w.in-Some-split_first.count.now c.loop-found.left.now = ap (λ l. l.now) w.left-is ∙ w.split.ensures.back in
          let more = w.asked-is ∙ w.asked_with-asked.ensures in
          let small = asked_small c.loop-found.asked w.in-Ask.request in record {
            text = reply_step c.loop-found.asked c.match-found.asked (c.loop-found.asked + 1) c.args.commands.now c.loop-found.found-index c.found-item.result w.in-Ask.request
                c.loop-found.counted.now c.match-found.counted.now w.in-Some-split_first.count.now c.loop-found.left.now w.split.result.0.now c.match-found.left.now _ _ _ _ c.loop-found-test.true c.found-item.is (w.in-Some.is ∙ ap Some w.in-Ask.is)
                (parts ∙ ap (λ l. w.in-Some-split_first.count.now ∷ l) (sym counted)) w.split.ensures.front rest refl more
                (ap string_bytes w.text-is ∙ added ∙ ap (λ t. string_bytes c.loop-found.text ++ t) said) c.in_ok-push_str.ensures.bytes c.loop-found.invariant.text;
            few = omega (arith, few, more, small);
          }
    ]
