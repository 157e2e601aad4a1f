use Rattle.std.proofs.Common.{subst, sym}
use Rattle.fjall_machine.specs.Shapes.{OfHandle, OneLess}
use Rattle.fjall_core.specs.CoreStanding.{reply_of}
use Rattle.fjall_shared.specs.Does.{Collects, Does, Releases}
use Rattle.fjall_shared.specs.Locked.{Locked}
use Rattle.fjall_shared.proofs.Collected.{closed_collects}
use Rattle.fjall_shared.proofs.shared.Shared.collect.Goals as goal

pub loop-init : goal.loop-init
loop-init g c = closed_collects g.D.Disk.honest c.args.self.now c.collect_tickets.new.self c.collect_tickets.ensures

pub loop-preserved : goal.loop-preserved
loop-preserved g c =
    Releases c.loop.self c.release.new.self c.loop.invariant c.in-Some.id (reply_of c.release.result)
    (subst (λ (l : Locked). Does g.D.Disk.honest l (OfHandle OneLess c.in-Some.id) (reply_of c.release.result) c.release.new.self) c.next_handle.ensures c.release.ensures)

pub returns-after-loop : goal.returns-after-loop
returns-after-loop g c = c.loop.invariant

pub returns-in_default : goal.returns-in_default
returns-in_default g c = subst (λ (l : Locked). Collects g.D.Disk.honest c.args.self.now l) (sym c.next_handle.ensures) c.loop.invariant

-- where it finds no memory the handle is watched again
pub returns-in-Err-OutOfMemory : goal.returns-in-Err-OutOfMemory
returns-in-Err-OutOfMemory g c =
    subst (λ (l : Locked). Collects g.D.Disk.honest c.args.self.now l) (sym c.watch_handle.ensures)
    (Releases c.loop.self c.release.new.self c.loop.invariant c.in-Some.id (reply_of c.release.result)
    (subst (λ (l : Locked). Does g.D.Disk.honest l (OfHandle OneLess c.in-Some.id) (reply_of c.release.result) c.release.new.self) c.next_handle.ensures c.release.ensures))
