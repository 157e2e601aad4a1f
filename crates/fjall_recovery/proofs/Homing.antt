-- The homes of keyspaces, read one after another.
use Rattle.std.proofs.Common.{◌≡◌, inl, inr, ℕ, ◌+◌, ◌<◌, List, [], ◌∷◌, ◌++◌, length, take, drop, get_or, sym, ◌∙◌, ap, subst, add-one, eqb, true, arith}
use Rattle.std.proofs.lemmas.List.{drop_more}
use Rattle.std.proofs.lemmas.Bool.Decides.{nat_tests}
use Rattle.std.proofs.Math.Seq.{take-suc}
use Rattle.fjall_base.specs.Disk.{Image}
use Rattle.fjall_base.specs.declared.error.Error.{Error}
use Rattle.fjall_base.specs.declared.error.Error.TheVariants.{Io, OutOfMemory, Storage, Unrecoverable}
use Rattle.fjall_manifest.specs.Records.{view}
use Rattle.fjall_meta.specs.declared.living.LivingKeyspace.{LivingKeyspace}
use Rattle.fjall_manifest.specs.declared.reading.LoadedHome.{LoadedHome}
use Rattle.fjall_manifest.specs.Reading.{IsLoaded}
use Rattle.fjall_recovery.specs.Homes.{AreHomesRead, ClearsAreWithin, IsHomeRead}
use Rattle.fjall_recovery.specs.Refusals.{HasClearBeyond, HomeRefuses, HomesRefuse, IsDue}
use Rattle.fjall_recovery.proofs.Housing.{home_was_read}

-- ---- one keyspace

-- the home was read, and a clear is beyond the persisted number
pub clear_beyond : (image : Image) (id : ℕ) (home : LoadedHome) → IsLoaded image id home → (ClearsAreWithin (view home.record) → ⊥) → HasClearBeyond image id
clear_beyond image id home is beyond = record {
  records = is.records;
  h = is.h;
  indexes = is.indexes;
  openable = is.openable;
  beyond = λ clears. beyond (subst ClearsAreWithin (sym is.record_is) clears);
}

-- ---- keyspaces one after another

homes_more : (image : Image) (front : List LivingKeyspace) (homes : List LoadedHome) (k : LivingKeyspace) (home : LoadedHome) → AreHomesRead image front homes → IsHomeRead image k.id home → AreHomesRead image (front ++ k ∷ []) (homes ++ home ∷ [])
homes_more image [] [] k home all one = (one, tt)
homes_more image [] (h ∷ homes) k home all one = absurd all
homes_more image (j ∷ front) [] k home all one = absurd all
homes_more image (j ∷ front) (h ∷ homes) k home all one = (all.0, homes_more image front homes k home all.1 one)

module _ (image text_image : Image) (living : List LivingKeyspace) (n : ℕ) (d k : LivingKeyspace) (at : k ≡ get_or living n d) (lt : n < length living) (same : text_image ≡ image) where
  -- one more was read
  pub home_read : (homes : List LoadedHome) (home : LoadedHome) → AreHomesRead image (take n living) homes → IsHomeRead text_image k.id home → AreHomesRead image (take (n + 1) living) (homes ++ home ∷ [])
  home_read homes home all one =
      subst (λ (l : List LivingKeyspace). AreHomesRead image l (homes ++ home ∷ [])) (sym (ap (λ m. take m living) (add-one n) ∙ take-suc living n d lt ∙ ap (λ (j : LivingKeyspace). take n living ++ j ∷ []) (sym at)))
      (homes_more image (take n living) homes k home all (subst (λ i. IsHomeRead i k.id home) same one))

  here : (error : Error) → HomesRefuse image (k ∷ drop (n + 1) living) error → HomesRefuse image (drop n living) error
  here error refused = subst (λ (l : List LivingKeyspace). HomesRefuse image l error) (sym (drop_more living n d lt ∙ ap (λ (j : LivingKeyspace). j ∷ drop (n + 1) living) (sym at))) refused

  -- what refuses those behind refuses all
  pub home_passed : (home : LoadedHome) (error : Error) → IsHomeRead text_image k.id home → HomesRefuse image (drop (n + 1) living) error → HomesRefuse image (drop n living) error
  home_passed home error one refused =
      let read : IsHomeRead image k.id home = subst (λ i. IsHomeRead i k.id home) same one in
      here error (inr ((read.loaded.h, home_was_read image k.id home read), refused))

  pub home_refused : (error : Error) → ((error : Error) → HomesRefuse image (drop n living) error → HomesRefuse image living error) → IsDue (HomeRefuses text_image k.id) error → IsDue (HomesRefuse image living) error
  home_refused OutOfMemory so_far is = tt
  home_refused (Io kind) so_far is = tt
  home_refused (Storage cause) so_far is = so_far (Storage cause) (here (Storage cause) (inl (subst (λ i. HomeRefuses i k.id (Storage cause)) same is)))
  home_refused Unrecoverable so_far is = so_far Unrecoverable (here Unrecoverable (inl (subst (λ i. HomeRefuses i k.id Unrecoverable) same is)))
  home_refused error so_far is = absurd is

-- ---- tree 0

pub same_id : (n m : ℕ) → eqb n m ≡ true → n ≡ m
same_id n m test = grind (arith, nat_tests)
