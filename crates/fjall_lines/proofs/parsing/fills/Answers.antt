use Rattle.std.proofs.Common.{[]}
use Rattle.fjall_lines.proofs.Filling.{all_taken, bad_words, none_taken, one_taken, two_of, words_left}
use Rattle.fjall_lines.proofs.parsing.fills.Goals as goal

pub loop-rest-init : goal.loop-rest-init
loop-rest-init c = none_taken _ _ c.new-items.ensures.items

pub returns-in_default-2 : goal.returns-in_default-2
returns-in_default-2 c =
    bad_words _ _ _ _ _ _ _ c.loop-rest.invariant (two_of (λ word. word.now) c.loop-rest.rest.now (record { ref_ptr = (0, 0); now = [] }) _ c.in-len2-up.len_at_least) c.in_ok-left.ensures.all_found c.in_default-2.is

pub loop-rest-preserved : goal.loop-rest-preserved
loop-rest-preserved c =
    one_taken _ _ _ _ _ _ _ _ _ _ c.loop-rest.invariant (two_of (λ word. word.now) c.loop-rest.rest.now _ _ c.in-len2-up.len_at_least) c.in_ok-left.ensures.spelled c.in_ok-left.ensures.all_found c.in-Some.is c.in_ok-path.ensures.ok c.in_ok-push.ensures.items

pub returns-then-not-is_empty : goal.returns-then-not-is_empty
returns-then-not-is_empty c = words_left (λ word. word.now) _ _ c.loop-rest.rest.now c.is_empty.result c.loop-rest.invariant c.is_empty.ensures c.if-not-is_empty.true c.in_default.len_below

pub returns : goal.returns
returns c = all_taken (λ word. word.now) _ _ c.loop-rest.rest.now c.is_empty.result _ c.loop-rest.invariant c.is_empty.ensures c.if-not-is_empty.false c.new.ensures
