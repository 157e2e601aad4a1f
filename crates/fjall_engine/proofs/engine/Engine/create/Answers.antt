use Rattle.std.proofs.Common.{IsTrue, sym, ◌∙◌, ap, subst}
use Rattle.std.proofs.lemmas.Result.{err_from_is_err_and}
use Rattle.fjall_options.specs.Options.{AreOptions}
use Rattle.fjall_base.specs.declared.error.Error.TheVariants.{OutOfMemory}
use Rattle.fjall_machine.specs.Shapes.{OfCreation}
use Rattle.fjall_history.specs.declared.reply.Reply.TheVariants.{Refused}
use Rattle.fjall_engine.specs.Holding.{Held}
use Rattle.fjall_engine.specs.Standing.{Serves}
use Rattle.fjall_engine.proofs.ServedCalls.{memory_serves}
use Rattle.fjall_engine.proofs.CreationCalls.{done_owes, done_serves, id_left_in, number_left, stays_whole, taken_back, undone_memory, undone_owes, undone_serves}
use Rattle.fjall_engine.proofs.engine.Engine.create.Goals as goal

pub returns-in_err-name-clause-serves : goal.returns-in_err-name-clause-serves
returns-in_err-name-clause-serves g c = λ h.
    let p = err_from_is_err_and c.from_residual.result c.from_residual.ensures.1 in
    rw (p.1, p.2) (memory_serves c.args.self.now (OfCreation c.args.name.now c.args.options) tt c.requires.due)

pub create-requires-clause-numbered : goal.create-requires-clause-numbered
create-requires-clause-numbered g c = number_left c.self.view_is c.args.name.now c.args.options c.requires.due c.requires.unnamed

pub create-requires-clause-free : goal.create-requires-clause-free
create-requires-clause-free g c = id_left_in c.self.view_is c.args.name.now c.args.options c.requires.due c.requires.unnamed

pub returns-in_err-id-clause-serves : goal.returns-in_err-id-clause-serves
returns-in_err-id-clause-serves g c = λ h.
    let p = err_from_is_err_and c.from_residual-in_err-id.result c.from_residual-in_err-id.ensures.1 in
    let same = stays_whole c.self.view_is c.in_err-id.ensures.unchanged in
    rw (p.1, p.2, c.in_err-id.ensures.only) (subst (λ (h : Held). Serves c.args.self.now (OfCreation c.args.name.now c.args.options) (Refused OutOfMemory) h) (sym same)
    (memory_serves c.args.self.now (OfCreation c.args.name.now c.args.options) tt c.requires.due))

pub take_back-requires : goal.take_back-requires
take_back-requires g c =
    let there = ap (λ (h : Held). h.memory) c.self-in-Err.view_is
    ∙ undone_memory c.self.view_is c.args.name.now c.args.options c.requires.due c.in_ok-id.ensures.lawful c.requires.fresh (subst AreOptions c.options.view_is c.options.invariant)
    c.in_ok-id.ensures.id c.seqno-number.ensures c.in_ok-id.ensures.ok c.in_ok-name.ensures.value (IsTrue g.D.Disk.honest) c.make.new.self c.in-Err.error c.in-Err.ensures.made in
    (c.args.name.now, c.args.options, c.self.inside.memory, c.in_ok-id.ensures.lawful, there)

pub returns-in-Ok-clause-serves : goal.returns-in-Ok-clause-serves
returns-in-Ok-clause-serves g c = done_serves c.self.view_is c.args.name.now c.args.options c.requires.due c.in_ok-id.ensures.lawful c.requires.fresh (subst AreOptions c.options.view_is c.options.invariant)
    c.in_ok-id.ensures.id c.seqno-number.ensures c.in_ok-id.ensures.ok c.in_ok-name.ensures.value (IsTrue g.D.Disk.honest) c.make.new.self c.in-Ok.ensures.made

pub returns-in-Ok-clause-owes : goal.returns-in-Ok-clause-owes
returns-in-Ok-clause-owes g c = done_owes c.self.view_is c.args.name.now c.args.options c.requires.due c.in_ok-id.ensures.lawful c.requires.fresh (subst AreOptions c.options.view_is c.options.invariant)
    c.in_ok-id.ensures.id c.seqno-number.ensures c.in_ok-id.ensures.ok c.in_ok-name.ensures.value (IsTrue g.D.Disk.honest) c.make.new.self c.in-Ok.ensures.made

pub returns-in-Err-clause-serves : goal.returns-in-Err-clause-serves
returns-in-Err-clause-serves g c =
    let there = ap (λ (h : Held). h.memory) c.self-in-Err.view_is
    ∙ undone_memory c.self.view_is c.args.name.now c.args.options c.requires.due c.in_ok-id.ensures.lawful c.requires.fresh (subst AreOptions c.options.view_is c.options.invariant)
    c.in_ok-id.ensures.id c.seqno-number.ensures c.in_ok-id.ensures.ok c.in_ok-name.ensures.value (IsTrue g.D.Disk.honest) c.make.new.self c.in-Err.error c.in-Err.ensures.made in
    let back = taken_back c.self-in-Err.view_is (c.take_back.ensures c.args.name.now c.args.options c.self.inside.memory c.in_ok-id.ensures.lawful there) in
    undone_serves c.self.view_is c.args.name.now c.args.options c.requires.due c.in_ok-id.ensures.lawful c.requires.fresh (subst AreOptions c.options.view_is c.options.invariant)
    c.in_ok-id.ensures.id c.seqno-number.ensures c.in_ok-id.ensures.ok c.in_ok-name.ensures.value (IsTrue g.D.Disk.honest) c.make.new.self c.in-Err.error c.in-Err.ensures.made back c.poison_by.ensures

pub returns-in-Err-clause-owes : goal.returns-in-Err-clause-owes
returns-in-Err-clause-owes g c =
    let there = ap (λ (h : Held). h.memory) c.self-in-Err.view_is
    ∙ undone_memory c.self.view_is c.args.name.now c.args.options c.requires.due c.in_ok-id.ensures.lawful c.requires.fresh (subst AreOptions c.options.view_is c.options.invariant)
    c.in_ok-id.ensures.id c.seqno-number.ensures c.in_ok-id.ensures.ok c.in_ok-name.ensures.value (IsTrue g.D.Disk.honest) c.make.new.self c.in-Err.error c.in-Err.ensures.made in
    let back = taken_back c.self-in-Err.view_is (c.take_back.ensures c.args.name.now c.args.options c.self.inside.memory c.in_ok-id.ensures.lawful there) in
    undone_owes c.self.view_is c.args.name.now c.args.options c.requires.due c.in_ok-id.ensures.lawful c.requires.fresh (subst AreOptions c.options.view_is c.options.invariant)
    c.in_ok-id.ensures.id c.seqno-number.ensures c.in_ok-id.ensures.ok c.in_ok-name.ensures.value (IsTrue g.D.Disk.honest) c.make.new.self c.in-Err.error c.in-Err.ensures.made back c.poison_by.ensures
