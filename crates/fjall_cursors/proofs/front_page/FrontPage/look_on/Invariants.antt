use Rattle.std.proofs.Common.{◌≡◌, ◌⊎◌, ◌<◌, ◌≤◌, length}
use Rattle.fjall_cursors.specs.Parts.{left_of}
use Rattle.fjall_cursors.specs.RunPages.{LooksOver, front_pairs, front_with}
use Rattle.fjall_cursors.proofs.front_page.FrontPage.look_on.Given as goal

abbrev pub invariant-versions : goal.invariant-versions
invariant-versions l = record {
  ahead : l.run.ahead ≡ l.fn.run.ahead;
  looked : LooksOver (left_of l.fn.run) (left_of l.run) (front_with l.fn.self) (front_with l.self);
  few : length (front_pairs l.fn.self) ≤ l.max → length (front_pairs l.self) ≤ l.max;
  fewer : (length (left_of l.run) < length (left_of l.fn.run)) ⊎ ((l.self ≡ l.fn.self) × (l.run ≡ l.fn.run));
}

abbrev pub decreases-versions : goal.decreases-versions
decreases-versions l = length (left_of l.run)
