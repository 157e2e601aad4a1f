use Rattle.std.proofs.Common.{rules, IsTrue, List, ◌≡◌, ◌≤◌, ◌<◌, ◌+◌, ◌∷◌, ◌++◌, [], length, length-append, take, vec_len, vec_capacity, refl, sym, ◌∙◌, ap, subst, arith}
use Rattle.std.proofs.lemmas.List.{take_all}
use Rattle.std.proofs.lemmas.Iterator.Adapters.{YieldsList-from_vec}
use Rattle.std.proofs.lemmas.Iterator.Consumers.{YieldsList-end, YieldsList-turn}
use Rattle.fjall_history.specs.declared.reply.Reply.{Reply}
use Rattle.fjall_machine.specs.Places.{resolved, resolved_all}
use Rattle.fjall_machine.specs.Shapes.{shape_of}
use Rattle.fjall_engine.specs.declared.jobs.Job.{Job}
use Rattle.fjall_engine.specs.Jobs.{KeepsJobs, KeepsMerges, KnowsMerges}
use Rattle.fjall_engine.specs.Standing.{Owes, OwesAll, ServesWhere}
use Rattle.fjall_engine.proofs.KeptJobs.{none_kept}
use Rattle.fjall_engine.proofs.ResolvedRuns.{call_more, owed_more, runs_more, so_far}
use Rattle.fjall_engine.proofs.RunsOverCrashes.{RunsKnown, SoFar, none_yet, ends, runs_end, runs_none}
use Rattle.fjall_engine.proofs.engine.Engine.run.Goals as goal

pub loop-call-init : goal.loop-call-init
loop-call-init g c =
    let core = c.args.self.now in
    record {
      runs = λ _. subst (λ (js : List Job). RunsKnown js core [] c.in_ok-replies.replies.items core) (sym c.in_ok-jobs.ensures.items)
          (subst (λ rs. RunsKnown [] core [] rs core) (sym c.in_ok-replies.ensures.items) (runs_none core));
      crash = λ _ s d stands reads on. subst (λ (js : List Job). SoFar js core s d [] c.in_ok-replies.replies.items) (sym c.in_ok-jobs.ensures.items)
          (subst (λ rs. SoFar [] core s d [] rs) (sym c.in_ok-replies.ensures.items) (none_yet core s d stands reads on));
      owes = subst (λ rs. OwesAll core [] rs core) (sym c.in_ok-replies.ensures.items) refl;
      keeps = none_kept core.memory c.in_ok-jobs.jobs.items c.in_ok-replies.replies.items c.in_ok-jobs.ensures.items c.in_ok-replies.ensures.items;
      count = search rules;
      jobs_count = search rules;
      room = search rules;
      jobs_room = search rules;
    }

pub loop-call-preserved : goal.loop-call-preserved
loop-call-preserved g c =
    let at = c.loop-call in
    let calls = c.args.calls.items in
    let call = c.in-Some.call in
    let road = YieldsList-from_vec {s = c.into_iter-call-iterator.result} calls (search rules) (search rules) in
    let turn = YieldsList-turn road at.yielded at.call-iterator at.yielded_by c.next.result c.next.new.self call c.in-Some.is c.next.ensures.steps in
    let served = c.serve-reply in
    let pushed : c.push.new.self.items ≡ at.replies.items ++ served.result ∷ [] = search rules in
    let one_more : vec_len c.push.new.self ≡ vec_len at.replies + 1 = search rules in
    let longer : length at.yielded + 1 ≡ length (at.yielded ++ call ∷ []) = sym (length-append at.yielded (call ∷ [])) in
    let counted : length (take (length at.yielded) calls) ≡ length at.replies.items = search rules in
    let told : c.deref.result.now ≡ at.replies.items = search rules in
    let jobs = at.jobs.items in
    let later = served.new.jobs.items in
    let serves = λ (honest : IsTrue g.D.Disk.honest). subst (λ (rs : List Reply). ServesWhere (λ s. KnowsMerges s jobs) at.self (shape_of (resolved rs call)) served.result served.new.self) told (served.ensures.serves honest) in
    let keeps = λ (honest : IsTrue g.D.Disk.honest). subst (λ (rs : List Reply). KeepsMerges at.self jobs (shape_of (resolved rs call)) served.result later) told (served.ensures.merges honest) in
    record {
      runs = λ honest. subst (λ n. RunsKnown later c.args.self.now (so_far calls n c.push.new.self.items) c.push.new.self.items served.new.self) longer
          (runs_more calls at.replies.items c.push.new.self.items (length at.yielded) call served.result turn.0 turn.1 counted pushed jobs later c.args.self.now at.self served.new.self
          (at.invariant.runs honest) (serves honest) (keeps honest));
      crash = λ honest s d stands reads on. subst (λ n. SoFar later served.new.self s d (so_far calls n c.push.new.self.items) c.push.new.self.items) longer
          (call_more calls at.replies.items c.push.new.self.items (length at.yielded) call served.result turn.0 turn.1 counted pushed jobs later at.self served.new.self s d
          (at.invariant.crash honest s d stands reads on) (serves honest) (keeps honest));
      owes = subst (λ n. OwesAll c.args.self.now (so_far calls n c.push.new.self.items) c.push.new.self.items served.new.self) longer
          (owed_more calls at.replies.items c.push.new.self.items (length at.yielded) call served.result turn.0 turn.1 counted pushed c.args.self.now at.self served.new.self
          at.invariant.owes (subst (λ (rs : List Reply). Owes at.self (shape_of (resolved rs call)) served.result served.new.self) told served.ensures.owes));
      keeps = subst (λ (rs : List Reply). KeepsJobs served.new.self.memory later rs) (ap (λ (rs : List Reply). rs ++ served.result ∷ []) told ∙ sym pushed) served.ensures.keeps;
      count = one_more ∙ ap (λ n. n + 1) at.invariant.count ∙ longer;
      jobs_count = let most = served.ensures.len in let before = at.invariant.jobs_count in omega (arith, most, before, longer);
      room = search rules;
      jobs_room = search rules;
    }

pub serve-reply-requires : goal.serve-reply-requires
serve-reply-requires g c =
    let at = c.loop-call in
    let road = YieldsList-from_vec {s = c.into_iter-call-iterator.result} c.args.calls.items (search rules) (search rules) in
    let turn = YieldsList-turn road at.yielded at.call-iterator at.yielded_by c.next.result c.next.new.self c.in-Some.call c.in-Some.is c.next.ensures.steps in
    let told : c.deref.result.now ≡ at.replies.items = search rules in
    record {
      room = omega (arith, turn.0, at.invariant.jobs_count, at.invariant.jobs_room);
      keeps = subst (λ (rs : List Reply). KeepsJobs at.self.memory at.jobs.items rs) (sym told) at.invariant.keeps;
    }

pub unwrap-requires : goal.unwrap-requires
unwrap-requires g c =
    let at = c.loop-call in
    let road = YieldsList-from_vec {s = c.into_iter-call-iterator.result} c.args.calls.items (search rules) (search rules) in
    let turn = YieldsList-turn road at.yielded at.call-iterator at.yielded_by c.next.result c.next.new.self c.in-Some.call c.in-Some.is c.next.ensures.steps in
    let less : vec_len at.replies < vec_capacity at.replies = omega (arith, turn.0, at.invariant.count, at.invariant.room) in
    search rules

pub returns-clause-runs : goal.returns-clause-runs
returns-clause-runs g c = λ honest.
    let at = c.loop-call in
    let calls = c.args.calls.items in
    let road = YieldsList-from_vec {s = c.into_iter-call-iterator.result} calls (search rules) (search rules) in
    let end = YieldsList-end road at.yielded at.call-iterator at.yielded_by c.next.result c.next.new.self c.in-None.is c.next.ensures.steps in
    let all : length calls ≤ length at.yielded = omega (arith, end.1) in
    let jobs = at.jobs.items in
    runs_end jobs c.args.self.now at.self (resolved_all calls at.replies.items) at.replies.items
    (subst (λ cs. RunsKnown jobs c.args.self.now (resolved_all cs at.replies.items) at.replies.items at.self) (take_all (length at.yielded) calls all) (at.invariant.runs honest))

pub returns-clause-crash : goal.returns-clause-crash
returns-clause-crash g c = λ honest s d stands reads on.
    let at = c.loop-call in
    let calls = c.args.calls.items in
    let road = YieldsList-from_vec {s = c.into_iter-call-iterator.result} calls (search rules) (search rules) in
    let end = YieldsList-end road at.yielded at.call-iterator at.yielded_by c.next.result c.next.new.self c.in-None.is c.next.ensures.steps in
    let all : length calls ≤ length at.yielded = omega (arith, end.1) in
    let jobs = at.jobs.items in
    ends jobs c.args.self.now at.self s d (resolved_all calls at.replies.items) at.replies.items on
    (subst (λ cs. SoFar jobs at.self s d (resolved_all cs at.replies.items) at.replies.items) (take_all (length at.yielded) calls all) (at.invariant.crash honest s d stands reads on))

pub returns-clause-owes : goal.returns-clause-owes
returns-clause-owes g c =
    let at = c.loop-call in
    let calls = c.args.calls.items in
    let road = YieldsList-from_vec {s = c.into_iter-call-iterator.result} calls (search rules) (search rules) in
    let end = YieldsList-end road at.yielded at.call-iterator at.yielded_by c.next.result c.next.new.self c.in-None.is c.next.ensures.steps in
    let all : length calls ≤ length at.yielded = omega (arith, end.1) in
    subst (λ cs. OwesAll c.args.self.now (resolved_all cs at.replies.items) at.replies.items at.self) (take_all (length at.yielded) calls all) at.invariant.owes
