use Rattle.std.proofs.Common.{◌≡◌, [], List, ap, arith, drop, inl, inr, length, subst, sym, ◌∙◌}
use Rattle.fjall_table.specs.Blocks.{Entry}
use Rattle.fjall_cursors.specs.Parts.{TablePart, left_of}
use Rattle.fjall_cursors.specs.RunPages.{LooksOver, back_with}
use Rattle.fjall_cursors.proofs.Looks.{fewer_behind, looks_more, some_first}
use Rattle.fjall_cursors.proofs.back_page.BackPage.look_on.Goals as goal

pub versions-preserved : goal.versions-preserved
versions-preserved c =
    let at = c.versions in
    let some : left_of at.run ≡ [] → ⊥ = λ none. absurd (cc (c.is_empty.ensures.1 none, c.if-not-is_empty.true)) in
    let first = some_first (left_of at.run) some in
    let passed : left_of c.skip.new.self ≡ first.1 = c.skip.ensures.left ∙ ap (drop 1) first.2 in
    let less = fewer_behind (left_of at.run) (left_of c.skip.new.self) some c.skip.ensures.left in
    let len = c.len.ensures in
    let test = c.versions-test.true in
    let more = c.in_ok-look.ensures.few in
    record {
      ahead = c.skip.ensures.ahead ∙ at.invariant.ahead;
      looked =
          subst (λ (rest : List Entry). LooksOver (left_of c.args.run.now) rest (back_with c.args.self.now) (back_with c.look.new.self)) (sym passed)
          (looks_more (left_of c.args.run.now) (left_of at.run) first.0 first.1 (back_with c.args.self.now) (back_with at.self) (back_with c.look.new.self) at.invariant.looked first.2
          (λ versions. c.in_ok-look.ensures.all first.0 first.1 versions first.2));
      few = λ le. omega (arith, len, test, more);
      fewer = inl (elim at.invariant.fewer [
        | inl l ↦ omega (arith, l, less)
        | inr same ↦ (let n = ap (λ (run : TablePart). length (left_of run)) same.1 in omega (arith, n, less))
      ]);
    }
