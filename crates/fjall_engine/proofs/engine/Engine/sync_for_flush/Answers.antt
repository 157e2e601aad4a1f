use Rattle.std.proofs.Common.{◌≡◌, IsTrue, true, false, refl, sym, ◌∙◌, ap, subst}
use Rattle.fjall_engine.specs.Holding.{Held}
use Rattle.fjall_engine.specs.CallParts.{SyncsAll}
use Rattle.fjall_engine.specs.Standing.{is_journal_long}
use Rattle.fjall_engine.proofs.FlushBegins.{long_synced, short_synced}
use Rattle.fjall_engine.proofs.engine.Engine.sync_for_flush.Goals as goal

pub returns-then-seals : goal.returns-then-seals
returns-then-seals g c =
    let m = g.D.Disk.meaning in
    let r = c.rotate_journal in
    let old : Held = record { disk = m c.self.inside.disk; journal = c.self.inside.journal; catalog = c.self.inside.catalog; memory = c.self.inside.memory } in
    let new : Held = record { disk = m r.new.disk; journal = r.new.journal; catalog = c.self.inside.catalog; memory = r.new.self } in
    let long : is_journal_long old.journal ≡ true = ap (λ (core : Held). is_journal_long core.journal) c.self.view_is ∙ sym c.requires.long ∙ c.if-seals.true in
    record {
      synced = subst (λ (core : Held). SyncsAll (IsTrue g.D.Disk.honest) core r.result new) c.self.view_is
          (long_synced (IsTrue g.D.Disk.honest) old new long refl r.result r.ensures.ok r.ensures.begun r.ensures.unchanged r.ensures.untouched r.ensures.cause r.ensures.took
          r.ensures.part r.ensures.any_moment r.ensures.lies r.ensures.elsewhere r.ensures.served r.ensures.kinds);
    }

pub returns : goal.returns
returns g c =
    let m = g.D.Disk.meaning in
    let r = c.sync_journal in
    let old : Held = record { disk = m c.self.inside.disk; journal = c.self.inside.journal; catalog = c.self.inside.catalog; memory = c.self.inside.memory } in
    let new : Held = record { disk = m r.new.disk; journal = r.new.journal; catalog = c.self.inside.catalog; memory = c.self.inside.memory } in
    let short : is_journal_long old.journal ≡ false = ap (λ (core : Held). is_journal_long core.journal) c.self.view_is ∙ sym c.requires.long ∙ c.if-seals.false in
    record {
      synced = subst (λ (core : Held). SyncsAll (IsTrue g.D.Disk.honest) core r.result new) c.self.view_is
          (short_synced (IsTrue g.D.Disk.honest) old new short refl refl r.result r.ensures.ok r.ensures.cause r.ensures.took r.ensures.left r.ensures.any_moment r.ensures.lies
          r.ensures.elsewhere r.ensures.served r.ensures.kinds);
    }
