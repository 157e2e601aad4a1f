use Rattle.std.proofs.Common.{◌≡◌, ◌∙◌, ◌<◌, ◌≤◌, ap, arith, sym}
use Rattle.fjall_trees.specs.Kept.{all_aged, all_unread, kept_bytes}
use Rattle.fjall_trees.specs.Views.{forest_of}
use Rattle.fjall_trees.proofs.Bounded.{above_bound, full, not_full, within_bound}
use Rattle.fjall_trees.proofs.trees.Trees.keep_to_bound.Goals as goal

pub returns-then-not-is_full-clause-trees : goal.returns-then-not-is_full-clause-trees
returns-then-not-is_full-clause-trees c =
    let t = c.args.self.now in
    sym (not_full t.kept_bound (forest_of t) (sym c.is_full.ensures ∙ c.if-not-is_full.true))

pub returns-then-kept_bytes-self-clause-trees : goal.returns-then-kept_bytes-self-clause-trees
returns-then-kept_bytes-self-clause-trees c =
    let t = c.args.self.now in
    let is = sym c.is_full.ensures ∙ c.if-not-is_full.false in
    let lt : t.kept_bound < kept_bytes (all_aged (forest_of t)) = omega (arith, c.if-kept_bytes-self.true, c.kept_bytes.ensures, c.let_older_go.ensures.bound, ap kept_bytes c.let_older_go.ensures.trees) in
    c.drop_blocks.ensures.trees ∙ ap all_unread c.let_older_go.ensures.trees ∙ sym (full t.kept_bound (forest_of t) is ∙ above_bound t.kept_bound (all_aged (forest_of t)) lt)

pub returns-else-kept_bytes-self-clause-trees : goal.returns-else-kept_bytes-self-clause-trees
returns-else-kept_bytes-self-clause-trees c =
    let t = c.args.self.now in
    let is = sym c.is_full.ensures ∙ c.if-not-is_full.false in
    let le : kept_bytes (all_aged (forest_of t)) ≤ t.kept_bound = omega (arith, c.if-kept_bytes-self.false, c.kept_bytes.ensures, c.let_older_go.ensures.bound, ap kept_bytes c.let_older_go.ensures.trees) in
    c.let_older_go.ensures.trees ∙ sym (full t.kept_bound (forest_of t) is ∙ within_bound t.kept_bound (all_aged (forest_of t)) le)
