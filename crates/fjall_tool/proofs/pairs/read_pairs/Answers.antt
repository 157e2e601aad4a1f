use Rattle.std.proofs.Common.{Ok, subst, ap, ◌∙◌}
use Rattle.std.specs.Io.Iter.{split_byte, split_known_bytes}
use Rattle.fjall_tool.specs.Pairs.{IsNoPair}
use Rattle.fjall_tool.proofs.Cuts.{all_read, bad_read, begun, line_read, piece_of}
use Rattle.fjall_tool.proofs.pairs.read_pairs.Goals as goal

pub loop-line-init : goal.loop-line-init
loop-line-init g c =
    let same = c.into_iter-line-iterator.ensures.into_iter_gives in (
      ap split_byte same ∙ c.split-line-items.ensures.byte,
      begun _ _ _ (ap (split_known_bytes g.R.Read.remaining) same ∙ c.split-line-items.ensures.bytes) (ap (λ ingestion. ingestion.items) c.new-ingestion.ensures),
    )

pub returns-then-not-branch-clause-none : goal.returns-then-not-branch-clause-none
returns-then-not-branch-clause-none g c done =
    let piece = piece_of _ _ _ _ _ c.loop-line.invariant.0 c.in_ok-line.was c.in-Some.ensures.steps.2 in
    let none = c.add_line.ensures.none (c.in_ok-add_line.was ∙ ap Ok c.if-not-branch.true) in
    bad_read _ _ _ _ c.loop-line.invariant.1 piece.0 (subst IsNoPair c.as_slice.ensures.value none)

pub loop-line-preserved : goal.loop-line-preserved
loop-line-preserved g c =
    let piece = piece_of _ _ _ _ _ c.loop-line.invariant.0 c.in_ok-line.was c.in-Some.ensures.steps.2 in
    let added = c.add_line.ensures.added (c.in_ok-add_line.was ∙ ap Ok c.if-not-branch.false) in
    (c.in-Some.ensures.steps.1 ∙ c.loop-line.invariant.0, line_read _ _ _ _ _ _ _ c.loop-line.invariant.1 piece.0 piece.1 c.as_slice.ensures.value added)

pub returns-clause-pairs : goal.returns-clause-pairs
returns-clause-pairs g c = all_read _ _ _ c.loop-line.invariant.1 c.in-None.ensures.steps.2
