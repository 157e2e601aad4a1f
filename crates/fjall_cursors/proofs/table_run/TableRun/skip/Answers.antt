use Rattle.std.proofs.Common.{ap, drop, ◌∙◌}
use Rattle.std.specs.Option.{option_map}
use Rattle.fjall_cursors.specs.Parts.{TablePart, entries_in, left_of}
use Rattle.fjall_cursors.proofs.Parts.{skipped_behind, skipped_in_front}
use Rattle.fjall_cursors.proofs.table_run.TableRun.skip.Goals as goal

pub returns-then-self-2-clause-left : goal.returns-then-self-2-clause-left
returns-then-self-2-clause-left c =
    let r = c.self.inside in
    skipped_behind r.back (entries_in (option_map (λ b. b.value) r.block)) r.start r.end c.if-self-2.true c.if-self.true c.self.invariant.1 ∙ ap (λ (p : TablePart). drop 1 (left_of p)) c.self.view_is

pub returns-else-self-2-clause-left : goal.returns-else-self-2-clause-left
returns-else-self-2-clause-left c =
    let r = c.self.inside in
    skipped_in_front r.back (entries_in (option_map (λ b. b.value) r.block)) r.start r.end c.if-self-2.false c.if-self.true ∙ ap (λ (p : TablePart). drop 1 (left_of p)) c.self.view_is
