-- Stores that callers can't tell apart.
use Rattle.std.specs.Prelude.{◌≡◌, ℕ}
use Rattle.fjall_base.specs.Store.{Store, map_at}

-- They have the same names, the same next id, and the same map under each id; of settings nothing is said.
pub record AreAlike (s e : Store) : Type 0 where
  pub names : e.names ≡ s.names
  pub next : e.next ≡ s.next
  pub maps : (id : ℕ) → map_at e.maps id ≡ map_at s.maps id
