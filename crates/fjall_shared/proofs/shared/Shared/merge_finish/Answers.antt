use Rattle.std.proofs.Common.{◌≡◌, ◌∙◌, List, set, get_or, take, drop, length, ◌++◌, Ok, Err, Some, IsTrue, ap, refl, subst, sym, arith}
use Rattle.std.specs.Prelude.{remove, slice_get}
use Rattle.std.proofs.lemmas.Option.{slice_get_within}
use Rattle.fjall_history.specs.declared.reply.Reply.{Reply}
use Rattle.fjall_jobs.specs.Made.{merged_job}
use Rattle.fjall_jobs.specs.Merges.{merge_target}
use Rattle.fjall_machine.specs.Shapes.{OfMergeFinish}
use Rattle.fjall_core.specs.Holding.{Held}
use Rattle.fjall_core.specs.CoreStanding.{KnowsMergeIfDue, Owes, ServesWhere, merge_reply, job_of}
use Rattle.fjall_shared.specs.Labels.{Label, merge_made_of}
use Rattle.fjall_shared.specs.Locked.{IsSettled, Locked}
use Rattle.fjall_shared.specs.Does.{FinishesJob, with_merges}
use Rattle.fjall_shared.proofs.Jobs.{found_there, merged_done, merged_settles, put_back, written_back}
use Rattle.fjall_shared.proofs.shared.Shared.merge_finish.Goals as goal

pub invariant_of-self-in-Ok : goal.invariant_of-self-in-Ok
invariant_of-self-in-Ok g c =
    let old : Locked = record { core = c.self.inside.core.engine; kept = c.self.inside.core.transactions; seat = c.self.inside.seat; flushes = c.self.inside.flushes.items; merges = c.self.inside.merges.items } in
    let label = merge_made_of c.in-Some.made in
    let out : slice_get old.merges c.in-Some.place ≡ Some label = subst (λ (jobs : List Label). slice_get jobs c.in-Some.place ≡ Some label) c.deref_mut.ensures.value c.in-Some.ensures.out in
    let whole = written_back old.merges c.find_made.new.jobs c.self.inside.merges.len (omega (arith, c.self.inside.merges.ok.0)) (c.find_made.ensures.same ∙ c.deref_mut.ensures.value) in
    let new = c.merge_finish.new.self in
    let after = c.remove.ensures.items ∙ ap (λ (jobs : List Label). remove jobs c.in-Some.place) whole in
    let target = merge_target (merged_job c.in-Some.made) in
    let owes = subst (λ (x : Held × Reply). Owes x.0 (OfMergeFinish (job_of label.task)) x.1 new) (λ i. (c.deref_mut-2.ensures.value i, (ap merge_reply c.in-Ok.is) i)) c.merge_finish.ensures.owes in
    let serves = λ (is : IsTrue g.D.Disk.honest). subst (λ (x : Held × Reply). ServesWhere (KnowsMergeIfDue x.0 target label.task) x.0 (OfMergeFinish (job_of label.task)) x.1 new) (λ i. (c.deref_mut-2.ensures.value i, (ap merge_reply c.in-Ok.is) i)) (c.merge_finish.ensures.serves is) in (
      c.self.invariant.0,
      subst (λ (jobs : List Label). IsSettled g.D.Disk.honest (record old { core = new; merges = jobs })) (sym after)
          (merged_settles g.D.Disk.honest old new c.in-Some.place target label.task (Ok c.in-Ok.done) c.self.invariant.1 out owes serves),
    )

pub returns-in-Ok : goal.returns-in-Ok
returns-in-Ok g c =
    let old : Locked = record { core = c.self.inside.core.engine; kept = c.self.inside.core.transactions; seat = c.self.inside.seat; flushes = c.self.inside.flushes.items; merges = c.self.inside.merges.items } in
    let label = merge_made_of c.in-Some.made in
    let out : slice_get old.merges c.in-Some.place ≡ Some label = subst (λ (jobs : List Label). slice_get jobs c.in-Some.place ≡ Some label) c.deref_mut.ensures.value c.in-Some.ensures.out in
    let whole = written_back old.merges c.find_made.new.jobs c.self.inside.merges.len (omega (arith, c.self.inside.merges.ok.0)) (c.find_made.ensures.same ∙ c.deref_mut.ensures.value) in
    let new = c.merge_finish.new.self in
    let after = c.remove.ensures.items ∙ ap (λ (jobs : List Label). remove jobs c.in-Some.place) whole in
    let target = merge_target (merged_job c.in-Some.made) in
    let owes = subst (λ (x : Held × Reply). Owes x.0 (OfMergeFinish (job_of label.task)) x.1 new) (λ i. (c.deref_mut-2.ensures.value i, (ap merge_reply c.in-Ok.is) i)) c.merge_finish.ensures.owes in
    let serves = λ (is : IsTrue g.D.Disk.honest). subst (λ (x : Held × Reply). ServesWhere (KnowsMergeIfDue x.0 target label.task) x.0 (OfMergeFinish (job_of label.task)) x.1 new) (λ i. (c.deref_mut-2.ensures.value i, (ap merge_reply c.in-Ok.is) i)) (c.merge_finish.ensures.serves is) in
    subst (λ (l : Locked). FinishesJob g.D.Disk.honest OfMergeFinish l.merges with_merges l c.args.number (Ok c.in-Ok.done) (record old { core = new; merges = c.remove.new.self.items })) c.self.view_is
    (subst (λ (jobs : List Label). FinishesJob g.D.Disk.honest OfMergeFinish old.merges with_merges old c.args.number (Ok c.in-Ok.done) (record old { core = new; merges = jobs })) (sym after)
    (merged_done g.D.Disk.honest old new c.in-Some.place target label.task (Ok c.in-Ok.done) c.self.invariant.1 out owes serves old c.args.number refl c.in-Some.ensures.number))

pub index_mut-requires : goal.index_mut-requires
index_mut-requires g c =
    let old : Locked = record { core = c.self.inside.core.engine; kept = c.self.inside.core.transactions; seat = c.self.inside.seat; flushes = c.self.inside.flushes.items; merges = c.self.inside.merges.items } in
    let label = merge_made_of c.in-Some.made in
    let out : slice_get old.merges c.in-Some.place ≡ Some label = subst (λ (jobs : List Label). slice_get jobs c.in-Some.place ≡ Some label) c.deref_mut.ensures.value c.in-Some.ensures.out in
    omega (arith, slice_get_within old.merges c.in-Some.place label out, c.self.inside.merges.ok.0)

pub hold-requires : goal.hold-requires
hold-requires g c =
    let old : Locked = record { core = c.self.inside.core.engine; kept = c.self.inside.core.transactions; seat = c.self.inside.seat; flushes = c.self.inside.flushes.items; merges = c.self.inside.merges.items } in
    let label = merge_made_of c.in-Some.made in
    let out : slice_get old.merges c.in-Some.place ≡ Some label = subst (λ (jobs : List Label). slice_get jobs c.in-Some.place ≡ Some label) c.deref_mut.ensures.value c.in-Some.ensures.out in
    let whole = written_back old.merges c.find_made.new.jobs c.self.inside.merges.len (omega (arith, c.self.inside.merges.ok.0)) (c.find_made.ensures.same ∙ c.deref_mut.ensures.value) in
    let there : label ≡ c.index_mut.result.now =
    found_there old.merges c.in-Some.place label c.index_mut.result.now c.index_mut.result.now out (subst (λ (jobs : List Label). c.index_mut.result.now ≡ get_or jobs c.in-Some.place c.index_mut.result.now) whole c.index_mut.ensures.value) in
    ap merge_made_of c.in-Err.ensures.back ∙ there

pub invariant_of-self-in-Err : goal.invariant_of-self-in-Err
invariant_of-self-in-Err g c =
    let old : Locked = record { core = c.self.inside.core.engine; kept = c.self.inside.core.transactions; seat = c.self.inside.seat; flushes = c.self.inside.flushes.items; merges = c.self.inside.merges.items } in
    let label = merge_made_of c.in-Some.made in
    let out : slice_get old.merges c.in-Some.place ≡ Some label = subst (λ (jobs : List Label). slice_get jobs c.in-Some.place ≡ Some label) c.deref_mut.ensures.value c.in-Some.ensures.out in
    let whole = written_back old.merges c.find_made.new.jobs c.self.inside.merges.len (omega (arith, c.self.inside.merges.ok.0)) (c.find_made.ensures.same ∙ c.deref_mut.ensures.value) in
    let new = c.merge_finish.new.self in
    let there : label ≡ c.index_mut.result.now =
    found_there old.merges c.in-Some.place label c.index_mut.result.now c.index_mut.result.now out (subst (λ (jobs : List Label). c.index_mut.result.now ≡ get_or jobs c.in-Some.place c.index_mut.result.now) whole c.index_mut.ensures.value) in
    let after = ap (λ (jobs : List Label). set jobs c.in-Some.place c.hold.new.self) whole ∙ ap (λ (l : Label). set old.merges c.in-Some.place l) (c.hold.ensures ∙ sym there) ∙ put_back old.merges c.in-Some.place label out in
    let target = merge_target (merged_job c.in-Some.made) in
    let owes = subst (λ (x : Held × Reply). Owes x.0 (OfMergeFinish (job_of label.task)) x.1 new) (λ i. (c.deref_mut-2.ensures.value i, (ap merge_reply c.in-Err.is) i)) c.merge_finish.ensures.owes in
    let serves = λ (is : IsTrue g.D.Disk.honest). subst (λ (x : Held × Reply). ServesWhere (KnowsMergeIfDue x.0 target label.task) x.0 (OfMergeFinish (job_of label.task)) x.1 new) (λ i. (c.deref_mut-2.ensures.value i, (ap merge_reply c.in-Err.is) i)) (c.merge_finish.ensures.serves is) in (
      c.self.invariant.0,
      subst (λ (jobs : List Label). IsSettled g.D.Disk.honest (record old { core = new; merges = jobs })) (sym after)
          (merged_settles g.D.Disk.honest old new c.in-Some.place target label.task (Err c.in-Err.field-0.error) c.self.invariant.1 out owes serves),
    )

pub returns-in-Err : goal.returns-in-Err
returns-in-Err g c =
    let old : Locked = record { core = c.self.inside.core.engine; kept = c.self.inside.core.transactions; seat = c.self.inside.seat; flushes = c.self.inside.flushes.items; merges = c.self.inside.merges.items } in
    let label = merge_made_of c.in-Some.made in
    let out : slice_get old.merges c.in-Some.place ≡ Some label = subst (λ (jobs : List Label). slice_get jobs c.in-Some.place ≡ Some label) c.deref_mut.ensures.value c.in-Some.ensures.out in
    let whole = written_back old.merges c.find_made.new.jobs c.self.inside.merges.len (omega (arith, c.self.inside.merges.ok.0)) (c.find_made.ensures.same ∙ c.deref_mut.ensures.value) in
    let new = c.merge_finish.new.self in
    let there : label ≡ c.index_mut.result.now =
    found_there old.merges c.in-Some.place label c.index_mut.result.now c.index_mut.result.now out (subst (λ (jobs : List Label). c.index_mut.result.now ≡ get_or jobs c.in-Some.place c.index_mut.result.now) whole c.index_mut.ensures.value) in
    let after = ap (λ (jobs : List Label). set jobs c.in-Some.place c.hold.new.self) whole ∙ ap (λ (l : Label). set old.merges c.in-Some.place l) (c.hold.ensures ∙ sym there) ∙ put_back old.merges c.in-Some.place label out in
    let target = merge_target (merged_job c.in-Some.made) in
    let owes = subst (λ (x : Held × Reply). Owes x.0 (OfMergeFinish (job_of label.task)) x.1 new) (λ i. (c.deref_mut-2.ensures.value i, (ap merge_reply c.in-Err.is) i)) c.merge_finish.ensures.owes in
    let serves = λ (is : IsTrue g.D.Disk.honest). subst (λ (x : Held × Reply). ServesWhere (KnowsMergeIfDue x.0 target label.task) x.0 (OfMergeFinish (job_of label.task)) x.1 new) (λ i. (c.deref_mut-2.ensures.value i, (ap merge_reply c.in-Err.is) i)) (c.merge_finish.ensures.serves is) in
    subst (λ (l : Locked). FinishesJob g.D.Disk.honest OfMergeFinish l.merges with_merges l c.args.number (Err c.in-Err.field-0.error) (record old { core = new; merges = set (take c.self.inside.merges.len (c.find_made.new.jobs ++ drop (length c.find_made.new.jobs) c.self.inside.merges.items)) c.in-Some.place c.hold.new.self })) c.self.view_is
    (subst (λ (jobs : List Label). FinishesJob g.D.Disk.honest OfMergeFinish old.merges with_merges old c.args.number (Err c.in-Err.field-0.error) (record old { core = new; merges = jobs })) (sym after)
    (merged_done g.D.Disk.honest old new c.in-Some.place target label.task (Err c.in-Err.field-0.error) c.self.invariant.1 out owes serves old c.args.number refl c.in-Some.ensures.number))
