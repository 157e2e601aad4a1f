-- What batches are to trees that show what files hold.
use Rattle.std.proofs.Common.{◌≡◌, ℕ, ◌+◌, ◌<◌, ◌≤◌, ◌&&◌, not, List, ◌∷◌, ◌++◌, All, Option, None, Some, refl, sym, ◌∙◌, ap, arith}
use Rattle.std.proofs.lemmas.Bool.Decides.{nat_tests}
use Rattle.std.proofs.lemmas.List.Elements.{All-weaker}
use Rattle.fjall_journal.specs.Batches.{Shown}
use Rattle.fjall_meta.specs.declared.living.LivingKeyspace.{LivingKeyspace}
use Rattle.fjall_meta.specs.Keyspaces.{Keyspaces, keyspace_at}
use Rattle.fjall_meta.specs.declared.recovery.Persisted.{Persisted}
use Rattle.fjall_meta.specs.Replays.{counts, counts_unpersisted, fault_of, first_fault, least_after, persisted_at, reaches}
use Rattle.fjall_meta.proofs.ContentFaults.{first_fault-append}
use Rattle.fjall_meta.proofs.Ids.{living_has}
use Rattle.fjall_meta.proofs.LivingContents.{counts_of}
use Rattle.fjall_meta.proofs.Viewing.{no_fault, number_fits}
use Rattle.fjall_meta.specs.Contents.{Stored, counts_beyond, is_beyond}
use Rattle.fjall_meta.proofs.Following.{before_least}
use Rattle.fjall_replay.specs.Replayed.{AreTold}

-- a batch is numbered above those before it
pub all_before : (least : ℕ) (front behind : List Shown) (b : Shown) → first_fault least (front ++ b ∷ behind) ≡ None → All (λ c. c.number < b.number) front
all_before least front behind b sound =
    let parts = no_fault (first_fault least front) (first_fault (least_after least front) (b ∷ behind)) (sym (first_fault-append least front (b ∷ behind)) ∙ sound) in
    let fits = number_fits (least_after least front) b (no_fault (fault_of (least_after least front) b) (first_fault (b.number + 1) behind) parts.1).0 in
    let from : least_after least front ≤ b.number = fits.0 in
    All-weaker (λ c. c.number < least_after least front) (λ c. c.number < b.number) (λ c h. omega arith) front (before_least least front parts.0).1

-- ---- what is persisted

turned : (persisted : Option ℕ) (number : ℕ) → not (reaches persisted number) ≡ is_beyond persisted number
turned None number = refl
turned (Some last) number = grind (arith, nat_tests)

-- what isn't persisted is beyond what is stored
pub told : (s : Keyspaces) (stored : ℕ → Stored) (persisted : List Persisted) → AreTold s stored persisted → (number id : ℕ)
    → counts_unpersisted s persisted number id ≡ counts_beyond s stored number id
told s stored persisted is number id = by (keyspace_at id s.living) refl
  where
    by : (found : Option LivingKeyspace) → keyspace_at id s.living ≡ found → counts_unpersisted s persisted number id ≡ counts_beyond s stored number id
    by None e =
        ap (λ f. counts_of number f && not (reaches (persisted_at id persisted) number)) e
        ∙ sym (ap (λ f. counts_of number f && is_beyond (stored id).persisted number) e)
    by (Some k) e =
        ap (λ b. counts s number id && b)
        (ap (λ p. not (reaches p number)) (living_has (λ j. persisted_at j persisted ≡ (stored j).persisted) s.living id k e is) ∙ turned (stored id).persisted number)
