use Rattle.std.proofs.Common.{rules, List, ◌≡◌, ◌≤◌, ◌<◌, ◌+◌, ◌∷◌, ◌++◌, [], length, length-append, take, vec_len, vec_capacity, sym, ◌∙◌, ap, subst, arith}
use Rattle.std.proofs.lemmas.List.{take_all, take_more}
use Rattle.std.proofs.lemmas.Iterator.Adapters.{YieldsList-from_vec}
use Rattle.std.proofs.lemmas.Iterator.Consumers.{YieldsList-end, YieldsList-turn}
use Rattle.fjall_history.specs.declared.reply.Reply.{Reply}
use Rattle.fjall_core.specs.CoreJob.{Job}
use Rattle.fjall_core.specs.Jobs.{KeepsJobs}
use Rattle.fjall_core.proofs.KeptJobs.{none_kept}
use Rattle.fjall_calls.specs.declared.call.TxCall.{TxCall}
use Rattle.fjall_calls.specs.declared.named.Named.{Named}
use Rattle.fjall_calls.specs.Serving.{ServesListed}
use Rattle.fjall_calls.proofs.SoFar.{RunSoFar, all_served, none_served, one_served}
use Rattle.fjall_calls.proofs.serving.run.Goals as goal

pub loop-call-init : goal.loop-call-init
loop-call-init g c = record {
  runs = subst (λ (js : List Job). RunSoFar g.D.Disk.honest js c.args.core.now.engine c.args.core.now.transactions [] c.in_ok-replies.replies.items c.args.core.now.engine c.args.core.now.transactions c.in_ok-listed.listed.items) (sym c.in_ok-jobs.ensures.items)
      (subst (λ (rs : List Reply). RunSoFar g.D.Disk.honest [] c.args.core.now.engine c.args.core.now.transactions [] rs c.args.core.now.engine c.args.core.now.transactions c.in_ok-listed.listed.items) (sym c.in_ok-replies.ensures.items)
      (subst (λ (os : List Named). RunSoFar g.D.Disk.honest [] c.args.core.now.engine c.args.core.now.transactions [] [] c.args.core.now.engine c.args.core.now.transactions os) (sym c.in_ok-listed.ensures.items)
      (none_served g.D.Disk.honest c.args.core.now.engine c.args.core.now.transactions)));
  keeps = none_kept c.args.core.now.engine.memory c.in_ok-jobs.jobs.items c.in_ok-replies.replies.items c.in_ok-jobs.ensures.items c.in_ok-replies.ensures.items;
  count = search rules;
  listed_count = search rules;
  jobs_count = search rules;
  room = search rules;
  listed_room = search rules;
  jobs_room = search rules;
}

pub loop-call-preserved : goal.loop-call-preserved
loop-call-preserved g c =
    let at = c.loop-call in
    let calls = c.args.calls.items in
    let call = c.in-Some.call in
    let road = YieldsList-from_vec {s = c.into_iter-call-iterator.result} calls (search rules) (search rules) in
    let turn = YieldsList-turn road at.yielded at.call-iterator at.yielded_by c.next.result c.next.new.self call c.in-Some.is c.next.ensures.steps in
    let served = c.serve-reply in
    let pushed : c.push.new.self.items ≡ at.replies.items ++ served.result ∷ [] = search rules in
    let one_more : vec_len c.push.new.self ≡ vec_len at.replies + 1 = search rules in
    let longer : length at.yielded + 1 ≡ length (at.yielded ++ call ∷ []) = sym (length-append at.yielded (call ∷ [])) in
    let told : c.deref.result.now ≡ at.replies.items = search rules in
    let next : take (length at.yielded + 1) calls ≡ take (length at.yielded) calls ++ call ∷ [] = take_more calls (length at.yielded) call turn.0 ∙ ap (λ (x : TxCall). take (length at.yielded) calls ++ x ∷ []) (sym turn.1) in
    let serves = subst (λ (rs : List Reply). ServesListed g.D.Disk.honest at.jobs.items served.new.jobs.items at.core.engine at.core.transactions at.listed.items rs call served.result served.new.core.engine served.new.core.transactions served.new.listed.items) told served.ensures.serves in
    record {
      runs = subst (λ n. RunSoFar g.D.Disk.honest served.new.jobs.items c.args.core.now.engine c.args.core.now.transactions (take n calls) c.push.new.self.items served.new.core.engine served.new.core.transactions served.new.listed.items) longer
          (subst (λ (cs : List TxCall). RunSoFar g.D.Disk.honest served.new.jobs.items c.args.core.now.engine c.args.core.now.transactions cs c.push.new.self.items served.new.core.engine served.new.core.transactions served.new.listed.items) (sym next)
          (subst (λ (rs : List Reply). RunSoFar g.D.Disk.honest served.new.jobs.items c.args.core.now.engine c.args.core.now.transactions (take (length at.yielded) calls ++ call ∷ []) rs served.new.core.engine served.new.core.transactions served.new.listed.items) (sym pushed)
          (one_served g.D.Disk.honest at.jobs.items served.new.jobs.items c.args.core.now.engine at.core.engine served.new.core.engine c.args.core.now.transactions at.core.transactions served.new.core.transactions (take (length at.yielded) calls) at.replies.items at.listed.items served.new.listed.items call served.result at.invariant.runs serves)));
      keeps = subst (λ (rs : List Reply). KeepsJobs served.new.core.engine.memory served.new.jobs.items rs) (ap (λ (rs : List Reply). rs ++ served.result ∷ []) told ∙ sym pushed) served.ensures.keeps;
      count = one_more ∙ ap (λ n. n + 1) at.invariant.count ∙ longer;
      listed_count = let most = served.ensures.listed_len in let before = at.invariant.listed_count in omega (arith, most, before, longer);
      jobs_count = let most = served.ensures.jobs_len in let before = at.invariant.jobs_count in omega (arith, most, before, longer);
      room = search rules;
      listed_room = search rules;
      jobs_room = search rules;
    }

pub serve-reply-requires : goal.serve-reply-requires
serve-reply-requires g c =
    let at = c.loop-call in
    let road = YieldsList-from_vec {s = c.into_iter-call-iterator.result} c.args.calls.items (search rules) (search rules) in
    let turn = YieldsList-turn road at.yielded at.call-iterator at.yielded_by c.next.result c.next.new.self c.in-Some.call c.in-Some.is c.next.ensures.steps in
    let told : c.deref.result.now ≡ at.replies.items = search rules in
    record {
      listed_room = omega (arith, turn.0, at.invariant.listed_count, at.invariant.listed_room);
      jobs_room = omega (arith, turn.0, at.invariant.jobs_count, at.invariant.jobs_room);
      keeps = subst (λ (rs : List Reply). KeepsJobs at.core.engine.memory at.jobs.items rs) (sym told) at.invariant.keeps;
    }

pub unwrap-requires : goal.unwrap-requires
unwrap-requires g c =
    let at = c.loop-call in
    let road = YieldsList-from_vec {s = c.into_iter-call-iterator.result} c.args.calls.items (search rules) (search rules) in
    let turn = YieldsList-turn road at.yielded at.call-iterator at.yielded_by c.next.result c.next.new.self c.in-Some.call c.in-Some.is c.next.ensures.steps in
    let less : vec_len at.replies < vec_capacity at.replies = omega (arith, turn.0, at.invariant.count, at.invariant.room) in
    search rules

pub returns-clause-runs : goal.returns-clause-runs
returns-clause-runs g c =
    let at = c.loop-call in
    let calls = c.args.calls.items in
    let road = YieldsList-from_vec {s = c.into_iter-call-iterator.result} calls (search rules) (search rules) in
    let end = YieldsList-end road at.yielded at.call-iterator at.yielded_by c.next.result c.next.new.self c.in-None.is c.next.ensures.steps in
    let all : length calls ≤ length at.yielded = omega (arith, end.1) in
    all_served g.D.Disk.honest at.jobs.items c.args.core.now.engine at.core.engine c.args.core.now.transactions at.core.transactions calls at.replies.items at.listed.items
    (subst (λ (cs : List TxCall). RunSoFar g.D.Disk.honest at.jobs.items c.args.core.now.engine c.args.core.now.transactions cs at.replies.items at.core.engine at.core.transactions at.listed.items) (take_all (length at.yielded) calls all) at.invariant.runs)
