use Rattle.std.proofs.Common.{Bool, MatchBool, subst}
use Rattle.fjall_base.specs.Disk.{IsFile, IsLong, state_in}
use Rattle.fjall_files.proofs.Trimmed.{any_cut, any_sync, cut_place_as, sync_place_as, after_cut, after_sync}
use Rattle.fjall_files.proofs.Tidying.{stays_cutting, stays_syncing}
use Rattle.fjall_files.proofs.trim.end_file.Goals as goal

pub returns-then-cut-clause-ended : goal.returns-then-cut-clause-ended
returns-then-cut-clause-ended g c honest = cut_place_as _ _ c.args.file.now c.args.len c.args.cut c.if-cut.true c.cut_sync.result (c.cut_sync.ensures.ok honest)

pub returns-then-cut-clause-elsewhere : goal.returns-then-cut-clause-elsewhere
returns-then-cut-clause-elsewhere g c honest = after_cut _ _ c.args.file.now c.args.len c.cut_sync.result (c.cut_sync.ensures.ok honest) (c.cut_sync.ensures.err honest)

pub returns-then-cut-clause-any_moment : goal.returns-then-cut-clause-any_moment
returns-then-cut-clause-any_moment g c honest = any_cut _ _ c.args.file.now c.args.len c.cut_sync.result (c.cut_sync.ensures.ok honest) (c.cut_sync.ensures.err honest)

pub returns-else-cut-clause-ended : goal.returns-else-cut-clause-ended
returns-else-cut-clause-ended g c honest = sync_place_as _ _ c.args.file.now c.args.len c.args.cut c.if-cut.false c.sync.result (c.sync.ensures.ok honest)

pub returns-else-cut-clause-elsewhere : goal.returns-else-cut-clause-elsewhere
returns-else-cut-clause-elsewhere g c honest = after_sync _ _ c.args.file.now c.args.len c.sync.result (c.sync.ensures.ok honest) (c.sync.ensures.err honest)

pub returns-else-cut-clause-any_moment : goal.returns-else-cut-clause-any_moment
returns-else-cut-clause-any_moment g c honest = any_sync _ _ c.args.file.now c.args.len c.sync.result (c.sync.ensures.ok honest) (c.sync.ensures.err honest)

pub returns-then-cut-clause-served : goal.returns-then-cut-clause-served
returns-then-cut-clause-served g c honest can =
    let there = (state_in (g.D.Disk.meaning c.args.disk.now) c.args.file.now).now in
    (c.cut_sync.ensures.judged honest).served (subst (λ (b : Bool). MatchBool b (IsLong c.args.len there) (IsFile there)) c.if-cut.true can)

pub returns-else-cut-clause-served : goal.returns-else-cut-clause-served
returns-else-cut-clause-served g c honest can =
    let there = (state_in (g.D.Disk.meaning c.args.disk.now) c.args.file.now).now in
    (c.sync.ensures.judged honest).served (subst (λ (b : Bool). MatchBool b (IsLong c.args.len there) (IsFile there)) c.if-cut.false can)

pub returns-then-cut-clause-kinds : goal.returns-then-cut-clause-kinds
returns-then-cut-clause-kinds g c honest = stays_cutting _ _ c.args.file.now c.args.len c.cut_sync.result (c.cut_sync.ensures.ok honest) (c.cut_sync.ensures.err honest)

pub returns-else-cut-clause-kinds : goal.returns-else-cut-clause-kinds
returns-else-cut-clause-kinds g c honest = stays_syncing _ _ c.args.file.now c.sync.result (c.sync.ensures.ok honest) (c.sync.ensures.err honest)
