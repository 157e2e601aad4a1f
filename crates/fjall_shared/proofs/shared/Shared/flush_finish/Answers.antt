use Rattle.std.proofs.Common.{◌≡◌, ◌∙◌, List, set, get_or, take, drop, length, ◌++◌, Ok, Err, Some, IsTrue, ap, refl, subst, sym, arith}
use Rattle.std.specs.Prelude.{remove, slice_get}
use Rattle.std.proofs.lemmas.Option.{slice_get_within}
use Rattle.fjall_machine.specs.Shapes.{OfFlushFinish}
use Rattle.fjall_core.specs.CoreStanding.{KnowsIfDue, Owes, Serves, finish_reply, flag_reply, job_of}
use Rattle.fjall_shared.specs.Labels.{Label, flush_made_of}
use Rattle.fjall_shared.specs.Locked.{IsSettled, Locked}
use Rattle.fjall_shared.specs.Does.{FinishesJob, with_flushes}
use Rattle.fjall_shared.proofs.Jobs.{asked, flush_known_at, flushed_done, flushed_settles, found_there, put_back, written_back}
use Rattle.fjall_shared.proofs.shared.Shared.flush_finish.Goals as goal

pub invariant_of-self-in-Ok : goal.invariant_of-self-in-Ok
invariant_of-self-in-Ok g c =
    let old : Locked = record { core = c.self.inside.core.engine; kept = c.self.inside.core.transactions; seat = c.self.inside.seat; flushes = c.self.inside.flushes.items; merges = c.self.inside.merges.items } in
    let label = flush_made_of c.in-Some.made in
    let out : slice_get old.flushes c.in-Some.place ≡ Some label = subst (λ (jobs : List Label). slice_get jobs c.in-Some.place ≡ Some label) c.deref_mut.ensures.value c.in-Some.ensures.out in
    let whole = written_back old.flushes c.find_made.new.jobs c.self.inside.flushes.len (omega (arith, c.self.inside.flushes.ok.0)) (c.find_made.ensures.same ∙ c.deref_mut.ensures.value) in
    let new = c.flush_finish.new.self in
    let after = c.remove.ensures.items ∙ ap (λ (jobs : List Label). remove jobs c.in-Some.place) whole in
    let knows = flush_known_at old.core old.flushes c.in-Some.place label out c.self.invariant.1.knows in
    let owes = asked (λ h r. Owes h (OfFlushFinish (job_of label.task)) r new) (λ h. KnowsIfDue h label.task) c.deref_mut-2.result.now old.core (finish_reply c.flush_finish.result) (flag_reply (Ok c.in-Ok.done)) c.deref_mut-2.ensures.value (ap finish_reply c.in-Ok.is) knows c.flush_finish.ensures.owes in
    let serves = λ (is : IsTrue g.D.Disk.honest). asked (λ h r. Serves h (OfFlushFinish (job_of label.task)) r new) (λ h. KnowsIfDue h label.task) c.deref_mut-2.result.now old.core (finish_reply c.flush_finish.result) (flag_reply (Ok c.in-Ok.done)) c.deref_mut-2.ensures.value (ap finish_reply c.in-Ok.is) knows (c.flush_finish.ensures.serves is) in (
      c.self.invariant.0,
      subst (λ (jobs : List Label). IsSettled g.D.Disk.honest (record old { core = new; flushes = jobs })) (sym after)
          (flushed_settles g.D.Disk.honest old new c.in-Some.place label (Ok c.in-Ok.done) c.self.invariant.1 owes serves),
    )

pub returns-in-Ok : goal.returns-in-Ok
returns-in-Ok g c =
    let old : Locked = record { core = c.self.inside.core.engine; kept = c.self.inside.core.transactions; seat = c.self.inside.seat; flushes = c.self.inside.flushes.items; merges = c.self.inside.merges.items } in
    let label = flush_made_of c.in-Some.made in
    let out : slice_get old.flushes c.in-Some.place ≡ Some label = subst (λ (jobs : List Label). slice_get jobs c.in-Some.place ≡ Some label) c.deref_mut.ensures.value c.in-Some.ensures.out in
    let whole = written_back old.flushes c.find_made.new.jobs c.self.inside.flushes.len (omega (arith, c.self.inside.flushes.ok.0)) (c.find_made.ensures.same ∙ c.deref_mut.ensures.value) in
    let new = c.flush_finish.new.self in
    let after = c.remove.ensures.items ∙ ap (λ (jobs : List Label). remove jobs c.in-Some.place) whole in
    let knows = flush_known_at old.core old.flushes c.in-Some.place label out c.self.invariant.1.knows in
    let owes = asked (λ h r. Owes h (OfFlushFinish (job_of label.task)) r new) (λ h. KnowsIfDue h label.task) c.deref_mut-2.result.now old.core (finish_reply c.flush_finish.result) (flag_reply (Ok c.in-Ok.done)) c.deref_mut-2.ensures.value (ap finish_reply c.in-Ok.is) knows c.flush_finish.ensures.owes in
    let serves = λ (is : IsTrue g.D.Disk.honest). asked (λ h r. Serves h (OfFlushFinish (job_of label.task)) r new) (λ h. KnowsIfDue h label.task) c.deref_mut-2.result.now old.core (finish_reply c.flush_finish.result) (flag_reply (Ok c.in-Ok.done)) c.deref_mut-2.ensures.value (ap finish_reply c.in-Ok.is) knows (c.flush_finish.ensures.serves is) in
    subst (λ (l : Locked). FinishesJob g.D.Disk.honest OfFlushFinish l.flushes with_flushes l c.args.number (Ok c.in-Ok.done) (record old { core = new; flushes = c.remove.new.self.items })) c.self.view_is
    (subst (λ (jobs : List Label). FinishesJob g.D.Disk.honest OfFlushFinish old.flushes with_flushes old c.args.number (Ok c.in-Ok.done) (record old { core = new; flushes = jobs })) (sym after)
    (flushed_done g.D.Disk.honest old new c.in-Some.place label (Ok c.in-Ok.done) c.self.invariant.1 owes serves old c.args.number refl out c.in-Some.ensures.number))

pub index_mut-requires : goal.index_mut-requires
index_mut-requires g c =
    let old : Locked = record { core = c.self.inside.core.engine; kept = c.self.inside.core.transactions; seat = c.self.inside.seat; flushes = c.self.inside.flushes.items; merges = c.self.inside.merges.items } in
    let label = flush_made_of c.in-Some.made in
    let out : slice_get old.flushes c.in-Some.place ≡ Some label = subst (λ (jobs : List Label). slice_get jobs c.in-Some.place ≡ Some label) c.deref_mut.ensures.value c.in-Some.ensures.out in
    omega (arith, slice_get_within old.flushes c.in-Some.place label out, c.self.inside.flushes.ok.0)

pub hold-requires : goal.hold-requires
hold-requires g c =
    let old : Locked = record { core = c.self.inside.core.engine; kept = c.self.inside.core.transactions; seat = c.self.inside.seat; flushes = c.self.inside.flushes.items; merges = c.self.inside.merges.items } in
    let label = flush_made_of c.in-Some.made in
    let out : slice_get old.flushes c.in-Some.place ≡ Some label = subst (λ (jobs : List Label). slice_get jobs c.in-Some.place ≡ Some label) c.deref_mut.ensures.value c.in-Some.ensures.out in
    let whole = written_back old.flushes c.find_made.new.jobs c.self.inside.flushes.len (omega (arith, c.self.inside.flushes.ok.0)) (c.find_made.ensures.same ∙ c.deref_mut.ensures.value) in
    let there : label ≡ c.index_mut.result.now =
    found_there old.flushes c.in-Some.place label c.index_mut.result.now c.index_mut.result.now out (subst (λ (jobs : List Label). c.index_mut.result.now ≡ get_or jobs c.in-Some.place c.index_mut.result.now) whole c.index_mut.ensures.value) in
    ap flush_made_of c.in-Err.ensures.back ∙ there

pub invariant_of-self-in-Err : goal.invariant_of-self-in-Err
invariant_of-self-in-Err g c =
    let old : Locked = record { core = c.self.inside.core.engine; kept = c.self.inside.core.transactions; seat = c.self.inside.seat; flushes = c.self.inside.flushes.items; merges = c.self.inside.merges.items } in
    let label = flush_made_of c.in-Some.made in
    let out : slice_get old.flushes c.in-Some.place ≡ Some label = subst (λ (jobs : List Label). slice_get jobs c.in-Some.place ≡ Some label) c.deref_mut.ensures.value c.in-Some.ensures.out in
    let whole = written_back old.flushes c.find_made.new.jobs c.self.inside.flushes.len (omega (arith, c.self.inside.flushes.ok.0)) (c.find_made.ensures.same ∙ c.deref_mut.ensures.value) in
    let new = c.flush_finish.new.self in
    let there : label ≡ c.index_mut.result.now =
    found_there old.flushes c.in-Some.place label c.index_mut.result.now c.index_mut.result.now out (subst (λ (jobs : List Label). c.index_mut.result.now ≡ get_or jobs c.in-Some.place c.index_mut.result.now) whole c.index_mut.ensures.value) in
    let after = ap (λ (jobs : List Label). set jobs c.in-Some.place c.hold.new.self) whole ∙ ap (λ (l : Label). set old.flushes c.in-Some.place l) (c.hold.ensures ∙ sym there) ∙ put_back old.flushes c.in-Some.place label out in
    let knows = flush_known_at old.core old.flushes c.in-Some.place label out c.self.invariant.1.knows in
    let owes = asked (λ h r. Owes h (OfFlushFinish (job_of label.task)) r new) (λ h. KnowsIfDue h label.task) c.deref_mut-2.result.now old.core (finish_reply c.flush_finish.result) (flag_reply (Err c.in-Err.field-0.error)) c.deref_mut-2.ensures.value (ap finish_reply c.in-Err.is) knows c.flush_finish.ensures.owes in
    let serves = λ (is : IsTrue g.D.Disk.honest). asked (λ h r. Serves h (OfFlushFinish (job_of label.task)) r new) (λ h. KnowsIfDue h label.task) c.deref_mut-2.result.now old.core (finish_reply c.flush_finish.result) (flag_reply (Err c.in-Err.field-0.error)) c.deref_mut-2.ensures.value (ap finish_reply c.in-Err.is) knows (c.flush_finish.ensures.serves is) in (
      c.self.invariant.0,
      subst (λ (jobs : List Label). IsSettled g.D.Disk.honest (record old { core = new; flushes = jobs })) (sym after)
          (flushed_settles g.D.Disk.honest old new c.in-Some.place label (Err c.in-Err.field-0.error) c.self.invariant.1 owes serves),
    )

pub returns-in-Err : goal.returns-in-Err
returns-in-Err g c =
    let old : Locked = record { core = c.self.inside.core.engine; kept = c.self.inside.core.transactions; seat = c.self.inside.seat; flushes = c.self.inside.flushes.items; merges = c.self.inside.merges.items } in
    let label = flush_made_of c.in-Some.made in
    let out : slice_get old.flushes c.in-Some.place ≡ Some label = subst (λ (jobs : List Label). slice_get jobs c.in-Some.place ≡ Some label) c.deref_mut.ensures.value c.in-Some.ensures.out in
    let whole = written_back old.flushes c.find_made.new.jobs c.self.inside.flushes.len (omega (arith, c.self.inside.flushes.ok.0)) (c.find_made.ensures.same ∙ c.deref_mut.ensures.value) in
    let new = c.flush_finish.new.self in
    let there : label ≡ c.index_mut.result.now =
    found_there old.flushes c.in-Some.place label c.index_mut.result.now c.index_mut.result.now out (subst (λ (jobs : List Label). c.index_mut.result.now ≡ get_or jobs c.in-Some.place c.index_mut.result.now) whole c.index_mut.ensures.value) in
    let after = ap (λ (jobs : List Label). set jobs c.in-Some.place c.hold.new.self) whole ∙ ap (λ (l : Label). set old.flushes c.in-Some.place l) (c.hold.ensures ∙ sym there) ∙ put_back old.flushes c.in-Some.place label out in
    let knows = flush_known_at old.core old.flushes c.in-Some.place label out c.self.invariant.1.knows in
    let owes = asked (λ h r. Owes h (OfFlushFinish (job_of label.task)) r new) (λ h. KnowsIfDue h label.task) c.deref_mut-2.result.now old.core (finish_reply c.flush_finish.result) (flag_reply (Err c.in-Err.field-0.error)) c.deref_mut-2.ensures.value (ap finish_reply c.in-Err.is) knows c.flush_finish.ensures.owes in
    let serves = λ (is : IsTrue g.D.Disk.honest). asked (λ h r. Serves h (OfFlushFinish (job_of label.task)) r new) (λ h. KnowsIfDue h label.task) c.deref_mut-2.result.now old.core (finish_reply c.flush_finish.result) (flag_reply (Err c.in-Err.field-0.error)) c.deref_mut-2.ensures.value (ap finish_reply c.in-Err.is) knows (c.flush_finish.ensures.serves is) in
    subst (λ (l : Locked). FinishesJob g.D.Disk.honest OfFlushFinish l.flushes with_flushes l c.args.number (Err c.in-Err.field-0.error) (record old { core = new; flushes = set (take c.self.inside.flushes.len (c.find_made.new.jobs ++ drop (length c.find_made.new.jobs) c.self.inside.flushes.items)) c.in-Some.place c.hold.new.self })) c.self.view_is
    (subst (λ (jobs : List Label). FinishesJob g.D.Disk.honest OfFlushFinish old.flushes with_flushes old c.args.number (Err c.in-Err.field-0.error) (record old { core = new; flushes = jobs })) (sym after)
    (flushed_done g.D.Disk.honest old new c.in-Some.place label (Err c.in-Err.field-0.error) c.self.invariant.1 owes serves old c.args.number refl out c.in-Some.ensures.number))
