use Rattle.std.proofs.Common.{ℕ, rules, subst}
use Rattle.fjall_base.specs.Pairs.{Pairs}
use Rattle.fjall_base.specs.Store.{map_at}
use Rattle.fjall_machine.specs.Machine.{maps_in}
use Rattle.fjall_core.specs.Shown.{Shows}
use Rattle.fjall_index.proofs.Going.{lent_goes}
use Rattle.fjall_index.proofs.Showing.{shows}
use Rattle.fjall_index.proofs.indexed.Indexed.find.Goals as goal

pub returns-clause-found : goal.returns-clause-found
returns-clause-found g c = λ h t stands reads indexed.
    let of = g.E.Extract.field_of c.args.self.now.extract in
    let at : (id : ℕ) → Shows g.D.Disk.honest c.deref_mut.result.now c.args.view id (map_at (maps_in t.state c.args.view) id) =
    λ id. shows g.D.Disk.honest c.args.core.now.engine c.deref_mut.result.now c.args.view t.state id h c.deref_mut.ensures.value stands.machine reads in
    c.in_ok-found.ensures.found of (map_at (maps_in t.state c.args.view) c.args.self.now.main) (at c.args.self.now.main)
    (subst (λ (m : Pairs). Shows g.D.Disk.honest c.deref_mut.result.now c.args.view c.args.self.now.index m) indexed (at c.args.self.now.index))

pub returns-in_err-found-clause-keeps : goal.returns-in_err-found-clause-keeps
returns-in_err-found-clause-keeps g c = λ h since t d all.
    let (e, goes) = lent_goes _ _ _ since g.D.Disk.honest c.args.core.now.engine c.deref_mut.result.now c.find_in.new.engine _ c.args.core.now.transactions t d h
    c.deref_mut.ensures.value (search rules) c.find_in.ensures.stand all in
    (t, e, goes)

pub returns-clause-keeps : goal.returns-clause-keeps
returns-clause-keeps g c = λ h since t d all.
    let (e, goes) = lent_goes _ _ _ since g.D.Disk.honest c.args.core.now.engine c.deref_mut.result.now c.find_in.new.engine _ c.args.core.now.transactions t d h
    c.deref_mut.ensures.value (search rules) c.find_in.ensures.stand all in
    (t, e, goes)
