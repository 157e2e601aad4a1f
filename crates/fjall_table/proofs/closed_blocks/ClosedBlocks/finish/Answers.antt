use Rattle.std.proofs.Common.{ℕ, ◌-◌, ◌++◌, ◌∙◌, ap, subst, List, arith}
use Rattle.fjall_table.specs.Frame.{framed}
use Rattle.fjall_table.specs.Blocks.{Entry}
use Rattle.fjall_table.specs.Writing.{AreClosed}
use Rattle.fjall_table.proofs.TableWriting.{whole_table}
use Rattle.fjall_table.proofs.closed_blocks.ClosedBlocks.finish.Goals as goal

pub returns-clause-table : goal.returns-clause-table
returns-clause-table c =
    whole_table c.self.inside.bytes.items c.self.inside.index.items c.put_frame.new.out.items c.footer_bytes-footer.result c.extend_from_slice.new.self.items c.self.inside.entry_count c.len-offset.result _ c.args.self
    (subst (λ (bs : List (List Entry)). AreClosed c.self.inside.bytes.items c.self.inside.index.items c.self.inside.entry_count bs) c.self.view_is c.self.invariant)
    c.requires.some c.requires.full c.requires.ordered
    (c.in_ok-put_frame.ensures.ok ∙ ap (λ (t : List ℕ). c.self.inside.bytes.items ++ framed 8 t) c.deref.ensures.value)
    (c.len-offset.ensures ∙ c.self.inside.bytes.ok.0)
    (ap (λ (n : ℕ). n - c.len-offset.result) (c.len.ensures ∙ c.put_frame.new.out.ok.0))
    c.footer_bytes-footer.ensures c.in_ok-extend_from_slice.ensures.items (omega (arith, c.extend_from_slice.new.self.small, c.extend_from_slice.new.self.ok.0))
