use Rattle.std.proofs.Common.{◌≡◌, false, true, sym, ◌∙◌, ap, subst}
use Rattle.std.proofs.lemmas.Bool.{true≢false}
use Rattle.fjall_base.specs.declared.error.Error.TheVariants.{Poisoned}
use Rattle.fjall_history.specs.declared.reply.Reply.TheVariants.{Flag, Refused}
use Rattle.fjall_machine.specs.Machine.{is_merging}
use Rattle.fjall_machine.specs.Remembered.{Remembered}
use Rattle.fjall_machine.specs.Shapes.{OfMergeFinish}
use Rattle.fjall_engine.specs.Holding.{Held}
use Rattle.fjall_engine.specs.Standing.{IsDueToMergeIn, Owes, Serves}
use Rattle.fjall_engine.proofs.FinishedMerges.{gone_owes, gone_serves, late_owes, late_serves, stale_owes, stale_serves}
use Rattle.fjall_engine.proofs.engine.Engine.settle_merge_early.Goals as goal

-- ---- stale

pub returns-then-not-is_merge_out-clause-serves : goal.returns-then-not-is_merge_out-clause-serves
returns-then-not-is_merge_out-clause-serves g c = λ h.
    stale_serves c.args.self.now c.args.job (ap (λ (core : Held). is_merging core.memory.trees c.args.job) (sym c.self.view_is) ∙ sym c.is_merge_out.ensures.out ∙ c.if-not-is_merge_out.true)

pub returns-then-not-is_merge_out-clause-owes : goal.returns-then-not-is_merge_out-clause-owes
returns-then-not-is_merge_out-clause-owes g c =
    stale_owes c.args.self.now c.args.job (ap (λ (core : Held). is_merging core.memory.trees c.args.job) (sym c.self.view_is) ∙ sym c.is_merge_out.ensures.out ∙ c.if-not-is_merge_out.true)

pub returns-then-not-is_living-clause-serves : goal.returns-then-not-is_living-clause-serves
returns-then-not-is_living-clause-serves g c = λ h.
    let m = g.D.Disk.meaning in
    let job = c.args.job in
    let old : Held = record { disk = m c.self.inside.disk; journal = c.self.inside.journal; catalog = c.self.inside.catalog; memory = c.self.inside.memory } in
    let out = sym c.is_merge_out.ensures.out ∙ c.if-not-is_merge_out.false in
    subst (λ (core : Held). Serves core (OfMergeFinish job) (Flag false) (record old { memory = c.drop_merge.new.self })) c.self.view_is
    (subst (λ (x : Remembered). Serves old (OfMergeFinish job) (Flag false) (record old { memory = x })) (sym c.drop_merge.ensures)
    (gone_serves old job out (sym c.is_living.ensures ∙ c.if-not-is_living.true)))

pub returns-then-not-is_living-clause-owes : goal.returns-then-not-is_living-clause-owes
returns-then-not-is_living-clause-owes g c =
    let m = g.D.Disk.meaning in
    let job = c.args.job in
    let old : Held = record { disk = m c.self.inside.disk; journal = c.self.inside.journal; catalog = c.self.inside.catalog; memory = c.self.inside.memory } in
    let out = sym c.is_merge_out.ensures.out ∙ c.if-not-is_merge_out.false in
    subst (λ (core : Held). Owes core (OfMergeFinish job) (Flag false) (record old { memory = c.drop_merge.new.self })) c.self.view_is
    (subst (λ (x : Remembered). Owes old (OfMergeFinish job) (Flag false) (record old { memory = x })) (sym c.drop_merge.ensures)
    (gone_owes old job out (sym c.is_living.ensures ∙ c.if-not-is_living.true)))

-- ---- poisoned

pub returns-then-is_poisoned-clause-serves : goal.returns-then-is_poisoned-clause-serves
returns-then-is_poisoned-clause-serves g c = λ h.
    let m = g.D.Disk.meaning in
    let job = c.args.job in
    let old : Held = record { disk = m c.self.inside.disk; journal = c.self.inside.journal; catalog = c.self.inside.catalog; memory = c.self.inside.memory } in
    let due : IsDueToMergeIn old job = (sym c.is_merge_out.ensures.out ∙ c.if-not-is_merge_out.false, sym c.is_living.ensures ∙ c.if-not-is_living.false) in
    subst (λ (core : Held). Serves core (OfMergeFinish job) (Refused Poisoned) core) c.self.view_is (late_serves old job due (sym c.is_poisoned.ensures ∙ c.if-is_poisoned.true))

pub returns-then-is_poisoned-clause-owes : goal.returns-then-is_poisoned-clause-owes
returns-then-is_poisoned-clause-owes g c =
    let m = g.D.Disk.meaning in
    let job = c.args.job in
    let old : Held = record { disk = m c.self.inside.disk; journal = c.self.inside.journal; catalog = c.self.inside.catalog; memory = c.self.inside.memory } in
    let due : IsDueToMergeIn old job = (sym c.is_merge_out.ensures.out ∙ c.if-not-is_merge_out.false, sym c.is_living.ensures ∙ c.if-not-is_living.false) in
    subst (λ (core : Held). Owes core (OfMergeFinish job) (Refused Poisoned) core) c.self.view_is (late_owes old job due (sym c.is_poisoned.ensures ∙ c.if-is_poisoned.true))

-- ---- it is out, so nothing is said of one that isn't

pub returns-then-not-is_living-clause-stale : goal.returns-then-not-is_living-clause-stale
returns-then-not-is_living-clause-stale g c = λ none.
    absurd (true≢false (sym c.if-not-is_merge_out.false ∙ c.is_merge_out.ensures.out ∙ ap (λ (core : Held). is_merging core.memory.trees c.args.job) c.self.view_is ∙ none))

pub returns-then-is_poisoned-clause-stale : goal.returns-then-is_poisoned-clause-stale
returns-then-is_poisoned-clause-stale g c = λ none.
    absurd (true≢false (sym c.if-not-is_merge_out.false ∙ c.is_merge_out.ensures.out ∙ ap (λ (core : Held). is_merging core.memory.trees c.args.job) c.self.view_is ∙ none))

pub returns-clause-stale : goal.returns-clause-stale
returns-clause-stale g c = λ none.
    absurd (true≢false (sym c.if-not-is_merge_out.false ∙ c.is_merge_out.ensures.out ∙ ap (λ (core : Held). is_merging core.memory.trees c.args.job) c.self.view_is ∙ none))
