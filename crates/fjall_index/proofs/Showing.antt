-- What is read of a core.
use Rattle.std.proofs.Common.{◌≡◌, inr, ℕ, Bool, true≢false, false, IsTrue, refl, sym, subst, ◌∙◌}
use Rattle.fjall_base.specs.Pairs.{Pairs}
use Rattle.fjall_base.specs.Store.{map_at}
use Rattle.fjall_history.specs.declared.ticket.View.{View}
use Rattle.fjall_machine.specs.Machine.{State, maps_in}
use Rattle.fjall_core.specs.Holding.{Held}
use Rattle.fjall_core.specs.CoreStanding.{ReadsOn, StandsFor}
use Rattle.fjall_core.specs.Shown.{Shows}

-- a state is shown, by a core that was lent
pub shows : (honest : Bool) (old core : Held) (view : View) (s : State) (id : ℕ) → IsTrue honest → core ≡ old → StandsFor old s → ReadsOn old s → Shows honest core view id (map_at (maps_in s view) id)
shows honest old core view s id h is stands reads = inr (h, (s, subst (λ (c : Held). StandsFor c s) (sym is) stands, subst (λ (c : Held). ReadsOn c s) (sym is) reads, refl))

-- what an engine shows, a reader of it does
pub shown_at : (honest : Bool) (old core : Held) (view from : View) (id : ℕ) (map : Pairs) → core ≡ old → from ≡ view → Shows honest old view id map → Shows honest core from id map
shown_at honest old core view from id map is same shown = subst (λ (c : Held). Shows honest c from id map) (sym is) (subst (λ (v : View). Shows honest old v id map) (sym same) shown)

-- a test that failed
pub is_not : (b : Bool) → b ≡ false → IsTrue b → ⊥
is_not b e holds = true≢false (sym holds ∙ e)
