use Rattle.std.proofs.Common.{◌≡◌, ◌≢◌, ◌<◌, ◌+◌, ◌++◌, ◌∷◌, [], ℕ, zero, suc, replicate, refl, sym, ◌∙◌, ap, arith, append_assoc}
use Rattle.std.specs.declared.ops.Bound.TheVariants.{Excluded, Included, Unbounded}
use Rattle.fjall_base.specs.Pairs.{Bytes}
use Rattle.fjall_reading.specs.Prefixes.{prefix_range, raised, up_to}
use Rattle.fjall_reading.proofs.Raising.{none_raised, raised_all_ff, raised_last}
use Rattle.fjall_reading.proofs.laws.prefix_ranges_end.Goals as goal

raises : (front : Bytes) (last count : ℕ) → last ≢ 255 → prefix_range (front ++ last ∷ replicate count 255) ≡ (Included (front ++ last ∷ replicate count 255), Excluded (front ++ (last + 1) ∷ []))
raises [] last count other =
    ap (λ end. (Included (last ∷ replicate count 255), up_to end)) (raised_all_ff (last ∷ []) count ∙ raised_last [] last other)
raises (byte ∷ front) last count other =
    let moved = append_assoc (byte ∷ front) (last ∷ []) (replicate count 255) in
    ap (λ end. (Included (byte ∷ front ++ last ∷ replicate count 255), up_to end))
    (ap raised (sym moved) ∙ raised_all_ff (byte ∷ front ++ last ∷ []) count ∙ raised_last (byte ∷ front) last other)

stays_open : (count : ℕ) → 0 < count → prefix_range (replicate count 255) ≡ (Included (replicate count 255), Unbounded)
stays_open zero some = absurd (omega (arith, some))
stays_open (suc count) some = ap (λ end. (Included (replicate (suc count) 255), up_to end)) (none_raised (suc count))

pub returns : goal.returns
returns c = record { raised = raises; endless = stays_open; empty = refl }
