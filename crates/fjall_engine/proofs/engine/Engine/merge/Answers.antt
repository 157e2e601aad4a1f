-- proofs/engine/Engine/merge/Answers.antt
use Rattle.std.proofs.Common.{◌≡◌, IsTrue, rules, List, Err, Ok, Result, String, subst, sym}
use Rattle.std.specs.declared.alloc.Global.{Global}
use Rattle.fjall_base.specs.declared.error.Error.{Error}
use Rattle.fjall_engine.specs.Holding.{Held}
use Rattle.fjall_engine.specs.CallParts.{Merges, TakesAway}
use Rattle.fjall_engine.proofs.PutMerges.{kept_by, merged_by}
use Rattle.fjall_engine.proofs.engine.Engine.merge.Goals as goal

pub returns-in_err-take_away : goal.returns-in_err-take_away
returns-in_err-take_away g c =
    let honest = IsTrue g.D.Disk.honest in
    let is : c.from_residual-in_err-take_away.result ≡ Err c.in_err-take_away.field-0.0 = search rules in
    let away = subst (λ (l : List (String Global)). TakesAway honest c.put_merge.new.self l (Err c.in_err-take_away.field-0.0) c.take_away.new.self) c.deref.ensures.value c.in_err-take_away.ensures.takes in
    record {
      merges = subst (λ (r : Result Unit Error). Merges honest c.args.self.now c.args.made.now r c.take_away.new.self) (sym is)
          (kept_by honest c.args.self.now c.put_merge.new.self c.take_away.new.self c.args.made.now c.in_ok-taken.taken c.in_err-take_away.field-0.0 c.in_ok-taken.ensures.puts away);
    }

pub returns : goal.returns
returns g c =
    let m = g.D.Disk.meaning in
    let honest = IsTrue g.D.Disk.honest in
    let after : Held = record { disk = m c.self.inside.disk; journal = c.self.inside.journal; catalog = c.self.inside.catalog; memory = c.self.inside.memory } in
    let new : Held = record { disk = m c.self.inside.disk; journal = c.self.inside.journal; catalog = c.self.inside.catalog; memory = c.count_merge.new.self } in
    let away = subst (λ (l : List (String Global)). TakesAway honest c.put_merge.new.self l (Ok tt) c.take_away.new.self) c.deref.ensures.value c.in_ok-take_away.ensures.takes in
    let gone = subst (λ (h : Held). TakesAway honest c.put_merge.new.self c.in_ok-taken.taken.items (Ok tt) h) (sym c.self.view_is) away in
    record {
      merges = merged_by honest c.args.self.now c.put_merge.new.self after new c.args.made.now c.in_ok-taken.taken c.in_ok-taken.ensures.puts gone (λ i. record { disk = new.disk; journal = new.journal; catalog = new.catalog; memory = c.count_merge.ensures i });
    }
