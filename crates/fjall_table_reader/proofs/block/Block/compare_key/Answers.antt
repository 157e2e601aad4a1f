use Rattle.std.proofs.Common.{◌≡◌, ◌∙◌, List, Option, subst, sym}
use Rattle.std.specs.Prelude.{IfSome}
use Rattle.fjall_base.specs.Pairs.{byte_order}
use Rattle.fjall_table.specs.Blocks.{Entry, seen}
use Rattle.fjall_table_reader.specs.Places.{AreFronts}
use Rattle.fjall_table_reader.proofs.Fronted.{like_fronts, unlike_order}
use Rattle.fjall_table_reader.proofs.block.Block.compare_key.Goals as goal

pub returns-then-is_ne : goal.returns-then-is_ne
returns-then-is_ne c =
    let spelled = subst (λ (es : List Entry). AreFronts c.self.inside.fronts.items es) c.self.view_is c.self.invariant.spelled in
    unlike_order c.self.inside.fronts.items c.args.self.now c.args.at c.index.result.now c.args.front c.args.key.now c.compare_numbers-order.result
    spelled c.requires.within c.index.ensures c.requires.front c.compare_numbers-order.ensures (sym c.is_ne.ensures ∙ c.if-is_ne.true)

pub compare_like-requires : goal.compare_like-requires
compare_like-requires c =
    let spelled = subst (λ (es : List Entry). AreFronts c.self.inside.fronts.items es) c.self.view_is c.self.invariant.spelled in
    like_fronts c.self.inside.fronts.items c.args.self.now c.args.at c.index.result.now c.args.front c.args.key.now (seen c.entry.result) c.compare_numbers-order.result
    spelled c.entry.ensures c.index.ensures c.requires.front c.compare_numbers-order.ensures (sym c.is_ne.ensures ∙ c.if-is_ne.false)

pub returns : goal.returns
returns c =
    subst (λ (v : Option Entry). IfSome v (λ e. c.compare_like.result ≡ byte_order e.key c.args.key.now)) (sym c.entry.ensures) c.compare_like.ensures
