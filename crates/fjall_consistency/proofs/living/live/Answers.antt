use Rattle.std.proofs.Common.{rules, ◌≡◌, List, [], ◌∷◌, ◌++◌, Result, arith, length-append, map-id, sym, subst, ◌∙◌}
use Rattle.std.proofs.lemmas.Iterator.Adapters.{YieldsList-from_vec}
use Rattle.std.proofs.lemmas.Iterator.Consumers.{YieldsList-end}
use Rattle.fjall_base.specs.Store.{Store}
use Rattle.fjall_base.specs.declared.error.Error.{Error}
use Rattle.fjall_consistency.specs.Consistency.{AreLives, no_store}
use Rattle.fjall_consistency.specs.declared.life.Life.{Life}
use Rattle.fjall_consistency.specs.declared.life.Told.{Told}
use Rattle.fjall_consistency.proofs.Lasting.{HasCome, come_to, none_yet, one_more_life}
use Rattle.fjall_consistency.proofs.WildTurns.{turned}
use Rattle.fjall_consistency.proofs.living.live.Goals as goal

pub loop-life-init : goal.loop-life-init
loop-life-init g c =
    let disk = g.P.Disk.Disk.meaning c.args.disk in
    record {
      come = λ h. subst (λ (ts : List (Result Told Error)). HasCome g.P.Power.wild [] ts disk) (sym c.in_ok-told.ensures.items) (none_yet g.P.Power.wild disk (c.requires.fresh h));
      turns = omega arith;
    }

pub loop-life-preserved : goal.loop-life-preserved
loop-life-preserved g c =
    let at = c.loop-life in
    let tells = c.lived-tells.result.0 in
    let left = g.P.Disk.Disk.meaning c.lived-tells.result.1 in
    let next = g.P.Disk.Disk.meaning c.in_ok-disk.disk in
    let pushed : c.push.new.self.items ≡ at.told.items ++ tells ∷ [] = search rules in
    record {
      come = λ h. subst (λ (ts : List (Result Told Error)). HasCome g.P.Power.wild (at.yielded ++ c.in-Some.life ∷ []) ts next) (sym pushed)
          (turned g.P.Power.wild (at.yielded ++ c.in-Some.life ∷ []) (at.told.items ++ tells ∷ []) left next
          (one_more_life g.P.Power.wild at.yielded at.told.items c.in-Some.life tells (g.P.Disk.Disk.meaning at.disk) left (at.invariant.come h) (c.lived-tells.ensures h)) (c.in_ok-disk.ensures.turned h));
      turns = (let one = c.in_ok-disk.ensures.asked in let so_far = at.invariant.turns in let more = length-append at.yielded (c.in-Some.life ∷ []) in omega (arith, one, so_far, more));
    }

pub returns-clause-lives : goal.returns-clause-lives
returns-clause-lives g c = λ h.
    let at = c.loop-life in
    let road = YieldsList-from_vec {s = c.into_iter-life-iterator.result} c.args.lives.items (search rules) (search rules) in
    let end = YieldsList-end road at.yielded at.life-iterator at.yielded_by c.next.result c.next.new.self c.in-None.is c.next.ensures.steps in
    let all : at.yielded ≡ c.args.lives.items = sym (map-id at.yielded) ∙ end.0 in
    subst (λ (ls : List Life). (end : Store) × AreLives g.P.Power.wild no_store ls at.told.items end) all (come_to g.P.Power.wild at.yielded at.told.items (g.P.Disk.Disk.meaning at.disk) (at.invariant.come h))

pub returns-clause-turns : goal.returns-clause-turns
returns-clause-turns g c =
    let at = c.loop-life in
    let road = YieldsList-from_vec {s = c.into_iter-life-iterator.result} c.args.lives.items (search rules) (search rules) in
    let end = YieldsList-end road at.yielded at.life-iterator at.yielded_by c.next.result c.next.new.self c.in-None.is c.next.ensures.steps in
    let made = at.invariant.turns in
    let all = end.1 in
    omega (arith, made, all)
