use Rattle.std.proofs.Common.{ℕ}
use Rattle.std.specs.Prelude.{not}
use Rattle.fjall_files.proofs.Raising.{kept_ascend}
use Rattle.fjall_files.proofs.watermarks.Watermarks.unflushed.Goals as goal

pub returns-clause-ascending : goal.returns-clause-ascending
returns-clause-ascending g c =
    let flushed = g.F.Flushed.flushed c.args.flushed.now in
    kept_ascend c.unflushed_in.result (λ (mark : ℕ × ℕ). not (flushed mark.0 mark.1)) c.self.inside.lsns.entries c.self.invariant c.unflushed_in.ensures.ok
