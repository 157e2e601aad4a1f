use Rattle.std.proofs.Common.{ap, drop, subst, sym, ◌∙◌, ◌⊎◌, [], List}
use Rattle.std.specs.Prelude.{slice_get}
use Rattle.fjall_base.specs.Disk.{Meaning, Name, IsNoFolder, Took, removing, state_in}
use Rattle.fjall_files.specs.Journals.{Sealed}
use Rattle.fjall_files.specs.Evictions.{evicting_one}
use Rattle.fjall_files.proofs.Evicting.{Evicted, another, ended, ended_took, left_behind, no_evictions}
use Rattle.fjall_files.proofs.Going.{first_stops, no_first, split_first}
use Rattle.fjall_files.proofs.journal_manager.JournalManager.maintenance.Goals as goal

pub loop-oldest-init : goal.loop-oldest-init
loop-oldest-init g c =
    let m : _ → Meaning = g.D.Disk.meaning in
    let flushed = g.F.Flushed.flushed c.args.flushed.now in
    let old = m c.args.disk.now in
    subst (λ (now : List Sealed). Evicted flushed g.D.Disk.honest c.args.self.now now old old) (sym c.self.view_is) (no_evictions flushed g.D.Disk.honest c.args.self.now old)

pub returns-in_default-clause-ok : goal.returns-in_default-clause-ok
returns-in_default-clause-ok g c =
    let m : _ → Meaning = g.D.Disk.meaning in
    let flushed = g.F.Flushed.flushed c.args.flushed.now in
    let now = c.loop-oldest.self-inside.journals.items in
    ended flushed g.D.Disk.honest c.args.self.now now (m c.args.disk.now) (m c.loop-oldest.disk) c.loop-oldest.invariant
    (no_first flushed now (c.in_default.ensures.value ∙ ap (λ (l : List Sealed). slice_get l 0) c.deref.ensures.value))

pub returns-in_default-clause-took : goal.returns-in_default-clause-took
returns-in_default-clause-took g c = λ h.
    let m : _ → Meaning = g.D.Disk.meaning in
    let flushed = g.F.Flushed.flushed c.args.flushed.now in
    let now = c.loop-oldest.self-inside.journals.items in
    ended_took flushed g.D.Disk.honest c.args.self.now now (m c.args.disk.now) (m c.loop-oldest.disk) c.loop-oldest.invariant
    (no_first flushed now (c.in_default.ensures.value ∙ ap (λ (l : List Sealed). slice_get l 0) c.deref.ensures.value)) h

pub returns-then-not-may_go-clause-ok : goal.returns-then-not-may_go-clause-ok
returns-then-not-may_go-clause-ok g c =
    let m : _ → Meaning = g.D.Disk.meaning in
    let flushed = g.F.Flushed.flushed c.args.flushed.now in
    let now = c.loop-oldest.self-inside.journals.items in
    let stays = sym c.may_go.ensures ∙ c.if-not-may_go.true in
    ended flushed g.D.Disk.honest c.args.self.now now (m c.args.disk.now) (m c.loop-oldest.disk) c.loop-oldest.invariant
    (first_stops flushed now c.in-Some.oldest.now (c.in-Some.ensures.value ∙ ap (λ (l : List Sealed). slice_get l 0) c.deref.ensures.value) stays)

pub returns-then-not-may_go-clause-took : goal.returns-then-not-may_go-clause-took
returns-then-not-may_go-clause-took g c = λ h.
    let m : _ → Meaning = g.D.Disk.meaning in
    let flushed = g.F.Flushed.flushed c.args.flushed.now in
    let now = c.loop-oldest.self-inside.journals.items in
    let stays = sym c.may_go.ensures ∙ c.if-not-may_go.true in
    ended_took flushed g.D.Disk.honest c.args.self.now now (m c.args.disk.now) (m c.loop-oldest.disk) c.loop-oldest.invariant
    (first_stops flushed now c.in-Some.oldest.now (c.in-Some.ensures.value ∙ ap (λ (l : List Sealed). slice_get l 0) c.deref.ensures.value) stays) h

pub returns-in_err-evict-clause-part : goal.returns-in_err-evict-clause-part
returns-in_err-evict-clause-part g c = λ h.
    let m : _ → Meaning = g.D.Disk.meaning in
    let flushed = g.F.Flushed.flushed c.args.flushed.now in
    let mid = m c.loop-oldest.disk in
    let new = m c.evict.new.disk in
    let now = c.loop-oldest.self-inside.journals.items in
    let next = c.in-Some.oldest.now in
    let is = split_first now next (c.in-Some.ensures.value ∙ ap (λ (l : List Sealed). slice_get l 0) c.deref.ensures.value) in
    let may = sym c.may_go.ensures ∙ c.if-not-may_go.false in
    left_behind c.from_residual.result flushed g.D.Disk.honest c.args.self.now now next (drop 1 now) (m c.args.disk.now) mid new is c.loop-oldest.invariant may h
    (subst (λ (n : Name). Took mid new [] ⊎ Took mid new (removing n (state_in mid n).now)) c.name.ensures (c.in_err-evict.ensures.part h))

pub loop-oldest-preserved : goal.loop-oldest-preserved
loop-oldest-preserved g c =
    let m : _ → Meaning = g.D.Disk.meaning in
    let flushed = g.F.Flushed.flushed c.args.flushed.now in
    let old = m c.args.disk.now in
    let mid = m c.loop-oldest.disk in
    let new = m c.evict.new.disk in
    let now = c.loop-oldest.self-inside.journals.items in
    let next = c.in-Some.oldest.now in
    let is = split_first now next (c.in-Some.ensures.value ∙ ap (λ (l : List Sealed). slice_get l 0) c.deref.ensures.value) in
    let may = sym c.may_go.ensures ∙ c.if-not-may_go.false in
    let run = subst (λ (l : List Sealed). Evicted flushed g.D.Disk.honest c.args.self.now l old mid) is c.loop-oldest.invariant in
    subst (λ (l : List Sealed). Evicted flushed g.D.Disk.honest c.args.self.now l old new) (sym c.remove.ensures.items)
    (another flushed g.D.Disk.honest c.args.self.now (drop 1 now) next old mid new run may
    (λ h. subst (λ (n : Name). Took mid new (evicting_one (state_in mid) n)) c.name.ensures (c.in_ok-evict.ensures.took h))
    (λ h none. c.in_ok-evict.ensures.served h (subst (λ (n : Name). IsNoFolder (state_in mid n).now) (sym c.name.ensures) none))
    c.in_ok-evict.ensures.cause.later)
