use Rattle.std.proofs.Common.{◌≡◌, Bool, true, false, not, refl, sym, subst}
use Rattle.std.proofs.lemmas.Bool.{true≢false}
use Rattle.fjall_calls.specs.declared.call.Kind.{Kind}
use Rattle.fjall_core.specs.Commits.{is_writing}
use Rattle.fjall_calls.specs.Serving.{may_begin}
use Rattle.fjall_calls.proofs.ends.begun.Goals as goal

free_of : (b : Bool) → not b ≡ true → b ≡ false
free_of true is = absurd (true≢false (sym is))
free_of false is = refl

pub returns-in-Single-clause-serves : goal.returns-in-Single-clause-serves
returns-in-Single-clause-serves g c free h =
    let core = c.args.core.now.engine in
    let kept = c.args.core.now.transactions in
    c.begin_single.ensures.serves (free_of (is_writing core kept.writer) (subst (λ (k : Kind). may_begin core kept k ≡ true) c.in-Single.is free)) h
