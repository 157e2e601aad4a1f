use Rattle.std.proofs.Common.{ℕ, ◌-◌, ◌+◌, ◌∙◌, ap, ◌++◌, [], ◌∷◌, List, length, arith}
use Rattle.fjall_table.specs.Blocks.{Entry}
use Rattle.fjall_table.specs.Writing.{blocks_in, AreClosed}
use Rattle.fjall_table.proofs.TableWriting.{as_closed, closed_reads, count_closed, one_closed}
use Rattle.fjall_table.proofs.closed_blocks.ClosedBlocks.close.Goals as goal
use Rattle.fjall_table.proofs.closed_blocks.ClosedBlocks.close.Goals.{In_default}

pub overflow_add-self : goal.overflow_add-self
overflow_add-self c =
    let counted = count_closed c.self.inside.bytes.items c.self.inside.index.items c.payload.result.now c.put_frame.new.out.items c.self.inside.entry_count (length c.args.block.now) (blocks_in c.self.inside.bytes.items) c.args.block.now c.self.invariant c.payload.ensures c.in_ok-put_frame.ensures.ok in
    omega (arith, counted, c.entry_count.ensures.count, c.put_frame.new.out.small, c.put_frame.new.out.ok.0)

grown : (c : In_default) → AreClosed c.put_frame.new.out.items c.put_handle.new.out.items (c.self.inside.entry_count + length c.args.block.now) (blocks_in c.self.inside.bytes.items ++ c.args.block.now ∷ [])
grown c =
    one_closed c.self.inside.bytes.items c.self.inside.index.items c.payload.result.now c.first_key-first_key.result.now c.put_frame.new.out.items c.put_handle.new.out.items c.self.inside.entry_count (length c.args.block.now) c.len-offset.result _ (blocks_in c.self.inside.bytes.items) c.args.block.now
    c.self.invariant c.payload.ensures c.requires.some c.requires.ordered (omega (arith, c.put_frame.new.out.small, c.put_frame.new.out.ok.0))
    c.in_ok-put_frame.ensures.ok (c.len-offset.ensures ∙ c.self.inside.bytes.ok.0) (ap (λ (n : ℕ). n - c.len-offset.result) (c.len.ensures ∙ c.put_frame.new.out.ok.0)) c.first_key-first_key.ensures.key c.in_default.ensures.ok

pub invariant_of-self-2 : goal.invariant_of-self-2
invariant_of-self-2 c = as_closed c.put_frame.new.out.items c.put_handle.new.out.items (c.self.inside.entry_count + c.entry_count.result) (blocks_in c.self.inside.bytes.items ++ c.args.block.now ∷ []) (rw c.entry_count.ensures.count (grown (goal.at.invariant_of-self-2 c).In_default))

pub returns-clause-ok : goal.returns-clause-ok
returns-clause-ok c =
    closed_reads c.put_frame.new.out.items c.put_handle.new.out.items (c.self.inside.entry_count + length c.args.block.now) (blocks_in c.self.inside.bytes.items ++ c.args.block.now ∷ []) (grown (goal.at.returns-clause-ok c).In_default)
    ∙ ap (λ (bs : List (List Entry)). bs ++ c.args.block.now ∷ []) c.self.view_is
