use Rattle.std.proofs.Common.{ap, ◌∙◌, sym, ◌≡◌, ℕ, slice_get}
use Rattle.std.specs.Prelude.{Some}
use Rattle.std.specs.Option.{option_map}
use Rattle.fjall_history.proofs.TrackerEntries.{least-first}
use Rattle.fjall_history.proofs.instants.Instants.least.Goals as goal

pub returns : goal.returns
returns c =
    let first : option_map (λ (e : ℕ × ℕ). e.0) (slice_get c.self.inside.counts.entries 0) ≡ Some c.in_ok-instant.instant.now = ap (option_map (λ (e : ℕ × ℕ). e.0)) c.in_ok-instant.ensures.first in
    sym first ∙ least-first c.self.inside.counts.entries c.self.invariant.0 ∙ ap (λ xs. slice_get xs 0) c.self.view_is
