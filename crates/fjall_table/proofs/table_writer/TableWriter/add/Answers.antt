use Rattle.std.proofs.Common.{ℕ, ◌++◌, ap, ◌∙◌, sym, subst, List}
use Rattle.fjall_table.specs.Blocks.{Entry, seen}
use Rattle.fjall_table.specs.Tables.{entries_of}
use Rattle.fjall_table.specs.Writing.{FollowsEntries}
use Rattle.fjall_table.proofs.TableWriting.{ordered_back, so_far_moved, so_far_grown}
use Rattle.fjall_table.proofs.table_writer.TableWriter.add.Goals as goal

pub make_room-requires : goal.make_room-requires
make_room-requires c = ordered_back (entries_of c.self.inside.closed_blocks) c.self.inside.open_block c.self.invariant.ordered

pub invariant_of-self-2 : goal.invariant_of-self-2
invariant_of-self-2 c =
    let moved = so_far_moved c.self.inside.last_key.items c.self.inside.last_number c.self.inside.closed_blocks c.make_room.new.closed_blocks c.self.inside.open_block c.make_room.new.open_block c.self.invariant c.in_ok-make_room.ensures.entries (c.in_ok-make_room.ensures.full c.self.invariant.full) in
    let behind : FollowsEntries (entries_of c.make_room.new.closed_blocks ++ c.make_room.new.open_block) (seen c.args.version.now) = subst (λ (es : List Entry). FollowsEntries es (seen c.args.version.now)) (sym (c.in_ok-make_room.ensures.entries ∙ c.self.view_is)) c.requires in
    let key = ap (λ v. v.items) c.swap.ensures.x_after ∙ c.in_ok-extend_from_slice.ensures.items ∙ ap (λ (t : List ℕ). t ++ c.args.version.now.key.now) c.clear.ensures.items in
    rw c.in_ok-add.ensures.ok (so_far_grown c.self.inside.last_key.items c.swap.new.x.items c.self.inside.last_number c.make_room.new.closed_blocks c.make_room.new.open_block (seen c.args.version.now) moved behind key)
