use Rattle.std.proofs.Common.{◌≡◌, ◌⊎◌, inl, inr, false, true, sym, ◌∙◌, ap, subst}
use Rattle.std.proofs.lemmas.Bool.{true≢false}
use Rattle.fjall_base.specs.declared.error.Error.TheVariants.{Poisoned}
use Rattle.fjall_history.specs.declared.reply.Reply.TheVariants.{Flag, Refused}
use Rattle.fjall_tree.specs.Ingestions.{is_flush_due}
use Rattle.fjall_trees.specs.Tables.{shape_in}
use Rattle.fjall_machine.specs.Machine.{is_flushing, is_living}
use Rattle.fjall_machine.specs.Remembered.{Remembered, flush_gone_in_memory}
use Rattle.fjall_machine.specs.Shapes.{OfFlushFinish}
use Rattle.fjall_engine.specs.Holding.{Held}
use Rattle.fjall_engine.specs.Standing.{Owes, Serves, store_in}
use Rattle.fjall_engine.proofs.FinishedFlushes.{gone_owes, gone_serves, late_owes, late_serves, stale_owes, stale_serves, takes_is, takes_none}
use Rattle.fjall_engine.proofs.engine.Engine.settle_early.Goals as goal
use Rattle.fjall_engine.proofs.engine.Engine.settle_early.Goals.{then-not-is_living-via-then-not-is_living, then-not-is_living-via-else-not-is_living+then-not-is_flush_due}

-- ---- stale

pub returns-then-not-is_out-clause-serves : goal.returns-then-not-is_out-clause-serves
returns-then-not-is_out-clause-serves g c = λ h.
    stale_serves c.args.self.now c.args.job (ap (λ (core : Held). is_flushing core.memory.trees c.args.job) (sym c.self.view_is) ∙ sym c.is_out.ensures.out ∙ c.if-not-is_out.true)

pub returns-then-not-is_out-clause-owes : goal.returns-then-not-is_out-clause-owes
returns-then-not-is_out-clause-owes g c =
    stale_owes c.args.self.now c.args.job (ap (λ (core : Held). is_flushing core.memory.trees c.args.job) (sym c.self.view_is) ∙ sym c.is_out.ensures.out ∙ c.if-not-is_out.true)

pub returns-then-not-is_living-clause-serves : goal.returns-then-not-is_living-clause-serves
returns-then-not-is_living-clause-serves g c = λ h.
    let m = g.D.Disk.meaning in
    let job = c.args.job in
    let old : Held = record { disk = m c.self.inside.disk; journal = c.self.inside.journal; catalog = c.self.inside.catalog; memory = c.self.inside.memory } in
    let out = sym c.is_out.ensures.out ∙ c.if-not-is_out.false in
    let why : (is_living (store_in old) job.keyspace_id ≡ false) ⊎ (is_flush_due job.number (shape_in job.keyspace_id old.memory.trees).flush ≡ false) = elim c.then-not-is_living.branch [
      | then-not-is_living-via-then-not-is_living w ↦ inl (sym c.is_living.ensures ∙ w.if-not-is_living.true)
      | then-not-is_living-via-else-not-is_living+then-not-is_flush_due w ↦ inr (sym w.is_flush_due.ensures ∙ w.if-not-is_flush_due.true)
    ] in
    subst (λ (core : Held). Serves core (OfFlushFinish job) (Flag false) (record old { memory = c.drop_flush.new.self })) c.self.view_is
    (subst (λ (x : Remembered). Serves old (OfFlushFinish job) (Flag false) (record old { memory = x })) (sym c.drop_flush.ensures) (gone_serves old job out (takes_none old job out why)))

pub returns-then-not-is_living-clause-owes : goal.returns-then-not-is_living-clause-owes
returns-then-not-is_living-clause-owes g c =
    let m = g.D.Disk.meaning in
    let job = c.args.job in
    let old : Held = record { disk = m c.self.inside.disk; journal = c.self.inside.journal; catalog = c.self.inside.catalog; memory = c.self.inside.memory } in
    let out = sym c.is_out.ensures.out ∙ c.if-not-is_out.false in
    let why : (is_living (store_in old) job.keyspace_id ≡ false) ⊎ (is_flush_due job.number (shape_in job.keyspace_id old.memory.trees).flush ≡ false) = elim c.then-not-is_living.branch [
      | then-not-is_living-via-then-not-is_living w ↦ inl (sym c.is_living.ensures ∙ w.if-not-is_living.true)
      | then-not-is_living-via-else-not-is_living+then-not-is_flush_due w ↦ inr (sym w.is_flush_due.ensures ∙ w.if-not-is_flush_due.true)
    ] in
    subst (λ (core : Held). Owes core (OfFlushFinish job) (Flag false) (record old { memory = c.drop_flush.new.self })) c.self.view_is
    (subst (λ (x : Remembered). Owes old (OfFlushFinish job) (Flag false) (record old { memory = x })) (sym c.drop_flush.ensures) (gone_owes old job out (takes_none old job out why)))

-- ---- poisoned

pub returns-then-is_poisoned-clause-serves : goal.returns-then-is_poisoned-clause-serves
returns-then-is_poisoned-clause-serves g c = λ h.
    let m = g.D.Disk.meaning in
    let job = c.args.job in
    let old : Held = record { disk = m c.self.inside.disk; journal = c.self.inside.journal; catalog = c.self.inside.catalog; memory = c.self.inside.memory } in
    let out = sym c.is_out.ensures.out ∙ c.if-not-is_out.false in
    let takes = takes_is old job true true (sym c.is_living.ensures ∙ c.if-not-is_living.false) out (sym c.is_flush_due.ensures ∙ c.if-not-is_flush_due.false) in
    subst (λ (core : Held). Serves core (OfFlushFinish job) (Refused Poisoned) core) c.self.view_is (late_serves old job (out, takes) (sym c.is_poisoned.ensures ∙ c.if-is_poisoned.true))

pub returns-then-is_poisoned-clause-owes : goal.returns-then-is_poisoned-clause-owes
returns-then-is_poisoned-clause-owes g c =
    let m = g.D.Disk.meaning in
    let job = c.args.job in
    let old : Held = record { disk = m c.self.inside.disk; journal = c.self.inside.journal; catalog = c.self.inside.catalog; memory = c.self.inside.memory } in
    let out = sym c.is_out.ensures.out ∙ c.if-not-is_out.false in
    let takes = takes_is old job true true (sym c.is_living.ensures ∙ c.if-not-is_living.false) out (sym c.is_flush_due.ensures ∙ c.if-not-is_flush_due.false) in
    subst (λ (core : Held). Owes core (OfFlushFinish job) (Refused Poisoned) core) c.self.view_is (late_owes old job (out, takes) (sym c.is_poisoned.ensures ∙ c.if-is_poisoned.true))

-- ---- it is out, so nothing is said of one that isn't

pub returns-then-not-is_living-clause-stale : goal.returns-then-not-is_living-clause-stale
returns-then-not-is_living-clause-stale g c = λ none.
    absurd (true≢false (sym c.if-not-is_out.false ∙ c.is_out.ensures.out ∙ ap (λ (core : Held). is_flushing core.memory.trees c.args.job) c.self.view_is ∙ none))

pub returns-then-is_poisoned-clause-stale : goal.returns-then-is_poisoned-clause-stale
returns-then-is_poisoned-clause-stale g c = λ none.
    absurd (true≢false (sym c.if-not-is_out.false ∙ c.is_out.ensures.out ∙ ap (λ (core : Held). is_flushing core.memory.trees c.args.job) c.self.view_is ∙ none))

pub returns-clause-stale : goal.returns-clause-stale
returns-clause-stale g c = λ none.
    absurd (true≢false (sym c.if-not-is_out.false ∙ c.is_out.ensures.out ∙ ap (λ (core : Held). is_flushing core.memory.trees c.args.job) c.self.view_is ∙ none))
