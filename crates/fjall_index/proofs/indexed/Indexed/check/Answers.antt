use Rattle.fjall_base.specs.Store.{map_at}
use Rattle.fjall_history.specs.declared.ticket.View.TheVariants.{Present}
use Rattle.fjall_machine.specs.Machine.{present}
use Rattle.std.proofs.Common.{refl}
use Rattle.fjall_index.proofs.Going.{lent_goes}
use Rattle.fjall_index.proofs.Showing.{is_not, shows}
use Rattle.fjall_index.proofs.indexed.Indexed.check.Goals as goal

pub returns-in_err-is_index_in-clause-keeps : goal.returns-in_err-is_index_in-clause-keeps
returns-in_err-is_index_in-clause-keeps g c = λ h since t d all.
    let (e, goes) = lent_goes (g.E.Extract.field_of c.args.self.now.extract) c.args.self.now.main c.args.self.now.index since g.D.Disk.honest c.args.core.now.engine c.deref_mut.result.now c.is_index_in.new.engine c.is_index_in.new.engine
    c.args.core.now.transactions t d h c.deref_mut.ensures.value refl c.is_index_in.ensures.stand all in
    (t, e, goes)

pub returns-then-not-branch-clause-stale : goal.returns-then-not-branch-clause-stale
returns-then-not-branch-clause-stale g c = λ h t stands reads told is.
    let main = shows g.D.Disk.honest c.args.core.now.engine c.deref_mut.result.now Present t.state c.args.self.now.main h c.deref_mut.ensures.value stands.machine reads in
    let index = shows g.D.Disk.honest c.args.core.now.engine c.deref_mut.result.now Present t.state c.args.self.now.index h c.deref_mut.ensures.value stands.machine reads in
    is_not c.in_ok-is_index_in.field-0 c.if-not-branch.true
    ((c.in_ok-is_index_in.ensures.ok (map_at (present t.state).maps c.args.self.now.main) (map_at (present t.state).maps c.args.self.now.index) main index).1 is)

pub returns-then-not-branch-clause-keeps : goal.returns-then-not-branch-clause-keeps
returns-then-not-branch-clause-keeps g c = λ h since t d all.
    let (e, goes) = lent_goes (g.E.Extract.field_of c.args.self.now.extract) c.args.self.now.main c.args.self.now.index since g.D.Disk.honest c.args.core.now.engine c.deref_mut.result.now c.is_index_in.new.engine c.is_index_in.new.engine
    c.args.core.now.transactions t d h c.deref_mut.ensures.value refl c.is_index_in.ensures.stand all in
    (t, e, goes)

pub returns-clause-indexed : goal.returns-clause-indexed
returns-clause-indexed g c = λ h t stands reads.
    let main = shows g.D.Disk.honest c.args.core.now.engine c.deref_mut.result.now Present t.state c.args.self.now.main h c.deref_mut.ensures.value stands.machine reads in
    let index = shows g.D.Disk.honest c.args.core.now.engine c.deref_mut.result.now Present t.state c.args.self.now.index h c.deref_mut.ensures.value stands.machine reads in
    (c.in_ok-is_index_in.ensures.ok (map_at (present t.state).maps c.args.self.now.main) (map_at (present t.state).maps c.args.self.now.index) main index).0
    c.if-not-branch.false

pub returns-clause-keeps : goal.returns-clause-keeps
returns-clause-keeps g c = λ h since t d all.
    let (e, goes) = lent_goes (g.E.Extract.field_of c.args.self.now.extract) c.args.self.now.main c.args.self.now.index since g.D.Disk.honest c.args.core.now.engine c.deref_mut.result.now c.is_index_in.new.engine c.is_index_in.new.engine
    c.args.core.now.transactions t d h c.deref_mut.ensures.value refl c.is_index_in.ensures.stand all in
    (t, e, goes)
