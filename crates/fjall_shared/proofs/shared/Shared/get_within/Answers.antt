use Rattle.std.proofs.Common.{◌≡◌, ◌∙◌, sym, ap, subst, Ok, Result, Option}
use Rattle.fjall_base.specs.Pairs.{Bytes, lookup}
use Rattle.fjall_base.specs.Store.{map_at}
use Rattle.fjall_base.specs.declared.error.Error.{Error}
use Rattle.fjall_tx.specs.Owns.{Own, own_written}
use Rattle.fjall_history.specs.Histories.{view}
use Rattle.fjall_history.specs.Queries.{Get}
use Rattle.fjall_history.specs.declared.ticket.Ticket.{Ticket}
use Rattle.fjall_history.specs.declared.ticket.View.TheVariants.{At}
use Rattle.fjall_machine.specs.Machine.{instant_of}
use Rattle.fjall_machine.specs.Shapes.{OfRead}
use Rattle.fjall_core.specs.CoreStanding.{value_reply}
use Rattle.fjall_shared.specs.Does.{Does}
use Rattle.fjall_shared.specs.Locked.{list_of}
use Rattle.fjall_shared.proofs.Viewing.{got_at}
use Rattle.fjall_shared.proofs.shared.Shared.get_within.Goals as goal

pub returns-clause-value : goal.returns-clause-value
returns-clause-value g c is =
    let tx = c.args.transaction.now in
    let old = c.args.self.now in
    let maps = (view (list_of old) (instant_of old.core.memory.tickets tx.ticket.id)).maps in
    let got : c.get_at.result ≡ Ok c.in_ok-found.found = c.in_ok-found.was in
    let reads = subst (λ (x : Ticket × Result (Option Bytes) Error). Does g.D.Disk.honest old (OfRead (At x.0) c.args.id (Get c.args.key.now)) (value_reply x.1) c.get_at.new.self) (λ i. (c.ticket.ensures i, got i)) c.get_at.ensures in
    let found = got_at g.D.Disk.honest old c.get_at.new.self tx.ticket c.args.id c.args.key.now c.in_ok-found.found is reads in
    subst (λ (x : Own × Bytes). c.in_ok-seen.seen ≡ lookup (map_at (own_written maps x.0) c.args.id) x.1) (λ i. (c.own.ensures i, c.in_ok-name.ensures.value i))
    (c.in_ok-seen.ensures.ok maps (found ∙ ap (λ (k : Bytes). lookup (map_at maps c.args.id) k) (sym c.in_ok-name.ensures.value)))
