-- What reads find among versions is what the store that they make has.
use Rattle.std.proofs.Common.{◌≡◌, ℕ, ◌==◌, Bool, true, false, List, [], ◌∷◌, Option, None, Some, cond, unwrap_or, refl, ◌∙◌, ap}
use Rattle.std.specs.Option.{option_map}
use Rattle.std.specs.FinMap.{empty}
use Rattle.fjall_base.specs.Pairs.{Pairs, altered}
use Rattle.fjall_meta.specs.declared.living.LivingKeyspace.{LivingKeyspace}
use Rattle.fjall_meta.specs.Versions.{Version, pairs_after}
use Rattle.fjall_meta.proofs.Slots.{slot_after}
use Rattle.fjall_meta.proofs.LivingContents.{no_pairs}

-- ---- a keyspace

slot_pairs : (b : Bool) (pairs : Pairs) (slot : Option Pairs) → unwrap_or (cond b (Some pairs) slot) empty ≡ cond b pairs (unwrap_or slot empty)
slot_pairs true pairs slot = refl
slot_pairs false pairs slot = refl

pub pairs_at : (versions : List Version) (slot : Option Pairs) (id : ℕ) → unwrap_or (slot_after slot id versions) empty ≡ pairs_after (unwrap_or slot empty) id versions
pairs_at [] slot id = refl
pairs_at (v ∷ versions) slot id =
    let next = altered (unwrap_or slot empty) v.key v.value in
    pairs_at versions (cond (id == v.keyspace_id) (Some next) slot) id ∙ ap (λ pairs. pairs_after pairs id versions) (slot_pairs (id == v.keyspace_id) next slot)

pub nothing_in : (found : Option LivingKeyspace) → unwrap_or (option_map no_pairs found) empty ≡ empty
nothing_in None = refl
nothing_in (Some k) = refl
