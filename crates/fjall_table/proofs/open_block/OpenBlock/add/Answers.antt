use Rattle.std.proofs.Common.{ap, ◌+◌, ◌∙◌, ◌++◌, [], ◌∷◌, sym, subst, ◌<◌, length, List, arith}
use Rattle.fjall_table.specs.Blocks.{Entry, seen, payload_of}
use Rattle.fjall_table.specs.Writing.{entries_in, IsOpen}
use Rattle.fjall_table.proofs.TableWriting.{as_read, open_reads, added_open, counts_on}
use Rattle.fjall_table.proofs.open_block.OpenBlock.add.Goals as goal
use Rattle.fjall_table.proofs.open_block.OpenBlock.add.Goals.{In_ok-encode_into}

grown : (c : In_ok-encode_into) → IsOpen c.encode_into.new.out.items (c.self.inside.entry_count + 1) (entries_in c.self.inside.payload.items ++ seen c.args.version.now ∷ [])
grown c =
    added_open c.self.inside.payload.items c.encode_into.new.out.items c.self.inside.entry_count (entries_in c.self.inside.payload.items) (seen c.args.version.now) c.self.invariant
    (subst (λ (es : List Entry). length (payload_of es) < 4096) (sym c.self.view_is) c.requires) c.in_ok-encode_into.ensures.fits c.in_ok-encode_into.ensures.ok

pub overflow_add-self : goal.overflow_add-self
overflow_add-self c =
    let counted = counts_on c.self.inside.payload.items c.encode_into.new.out.items c.self.inside.entry_count (entries_in c.self.inside.payload.items) (seen c.args.version.now) c.self.invariant c.in_ok-encode_into.ensures.ok in
    omega (arith, counted, c.encode_into.new.out.small, c.encode_into.new.out.ok.0)

pub invariant_of-self-2 : goal.invariant_of-self-2
invariant_of-self-2 c = as_read c.encode_into.new.out.items (c.self.inside.entry_count + 1) _ (grown (goal.at.invariant_of-self-2 c).In_ok-encode_into)

pub returns-clause-ok : goal.returns-clause-ok
returns-clause-ok c = open_reads c.encode_into.new.out.items (c.self.inside.entry_count + 1) _ (grown (goal.at.returns-clause-ok c).In_ok-encode_into) ∙ ap (λ (es : List Entry). es ++ seen c.args.version.now ∷ []) c.self.view_is
