-- Homes and trees of keyspaces, one after another.
use Rattle.std.proofs.Common.{◌≡◌, ℕ, zero, suc, ◌+◌, ◌<◌, true, List, [], ◌∷◌, ◌++◌, length, take, get_or, map, All, AllPairs, Some, is_some, add-one, refl, sym, ◌∙◌, ap, subst, arith}
use Rattle.std.proofs.lemmas.List.{get_or-take, get_or_default}
use Rattle.std.proofs.lemmas.List.Elements.{All-cons, All-head, All-map, All-nil, All-tail}
use Rattle.std.proofs.Math.Seq.{take-suc}
use Rattle.std.proofs.lemmas.List.Kept.{AllPairs-from_increasing}
use Rattle.std.specs.List.Sorted.{IsStrictlyIncreasing}
use Rattle.std.specs.FinMap.{get}
use Rattle.fjall_base.specs.Disk as disk
use Rattle.fjall_base.specs.Disk.{File, Folder, Image, Missing}
use Rattle.fjall_files.specs.Texts.{text_in}
use Rattle.fjall_manifest.specs.declared.reading.LoadedHome.{LoadedHome}
use Rattle.fjall_manifest.proofs.Meanings.{one_home}
use Rattle.fjall_meta.specs.declared.living.LivingKeyspace.{LivingKeyspace}
use Rattle.fjall_meta.specs.Keyspaces.{AreKeyspaces, Keyspaces, keyspace_at}
use Rattle.fjall_memtable.specs.Parts.{Ascends}
use Rattle.fjall_recovery.specs.Homes.{HaveHomes, Homes, IsHomeRead}
use Rattle.fjall_recovery.proofs.Housing.{is_housed}
use Rattle.fjall_replay.specs.Replayed.{ids_of}
use Rattle.fjall_table_reader.specs.Files.{bytes_in}
use Rattle.fjall_trees.specs.Forests.{Forest, Planted}

-- ---- the bytes of a file

pub same_bytes : (entry : disk.DiskEntry) → bytes_in entry ≡ text_in entry
same_bytes Missing = refl
same_bytes (File synced unsynced) = refl
same_bytes Folder = refl

-- ---- numbers that ascend

pub ascends : (ns : List ℕ) → IsStrictlyIncreasing ns → Ascends ns
ascends ns up = by ns (AllPairs-from_increasing ns up)
  where
    by : (ms : List ℕ) → AllPairs (λ x y. x < y) ms → Ascends ms
    by [] pairs = tt
    by (m ∷ ms) pairs = (λ i d lt. pairs 0 (suc i) d (omega arith) (omega (arith, lt)), by ms (λ i j d lt within. pairs (suc i) (suc j) d (omega (arith, lt)) (omega (arith, within))))

-- ---- ids

of_ids : (P : ℕ → Type 0) (trees : Forest) → All P (ids_of trees) → All (λ t. P t.id) trees
of_ids P [] all = All-nil (λ (t : Planted). P t.id)
of_ids P (t ∷ trees) all = All-cons (λ (u : Planted). P u.id) t trees (All-head P t.id (ids_of trees) all) (of_ids P trees (All-tail P t.id (ids_of trees) all))

take_short : (n : ℕ) (living : List LivingKeyspace) (i : ℕ) → i < length (take n living) → i < n
take_short zero living i less = absurd (omega (arith, less))
take_short (suc n) [] i less = absurd (omega (arith, less))
take_short (suc n) (k ∷ living) zero less = omega arith
take_short (suc n) (k ∷ living) (suc i) less = let below : i < n = take_short n living i (omega (arith, less)) in omega (arith, below)

-- the ids ascend, so that the next one is none of those before it
module _ (s : Keyspaces) (are : AreKeyspaces s) (n : ℕ) (d k : LivingKeyspace) (at : k ≡ get_or s.living n d) (lt : n < length s.living) where
  pub front_more : take (n + 1) s.living ≡ take n s.living ++ k ∷ []
  front_more = ap (λ (m : ℕ). take m s.living) (add-one n) ∙ take-suc s.living n d lt ∙ ap (λ (x : LivingKeyspace). take n s.living ++ x ∷ []) (sym at)

  -- all before it have lower ids
  pub lower_ids : All (λ j. j.id < k.id) (take n s.living)
  lower_ids i e less =
      let before : i < n = take_short n s.living i less in
      let low : (get_or s.living i e).id < (get_or s.living n e).id = are.ascending i n e before lt in
      let here : k ≡ get_or s.living n e = at ∙ get_or_default s.living n d e lt in
      subst (λ (j : LivingKeyspace). j.id < k.id) (sym (get_or-take n s.living i e before)) (subst (λ (j : LivingKeyspace). (get_or s.living i e).id < j.id) (sym here) low)

  -- so have their trees
  pub trees_below : (trees : Forest) → ids_of trees ≡ map (λ j. j.id) (take n s.living) → All (λ t. t.id < k.id) trees
  trees_below trees ids = of_ids (λ i. i < k.id) trees (subst (All (λ i. i < k.id)) (sym ids) (All-map (λ i. i < k.id) (λ (j : LivingKeyspace). j.id) (take n s.living) lower_ids))

-- ---- the homes that were read

-- the home that was read is the one that the contents have
pub home_at : (image : Image) (living : List LivingKeyspace) (homes : Homes) → HaveHomes image living homes → (k : LivingKeyspace) → is_some (keyspace_at k.id living) ≡ true → (home : LoadedHome) → (read : IsHomeRead image k.id home)
    → get homes k.id ≡ Some read.loaded.h
home_at image living homes have k lives home read =
    let housed = is_housed image living homes k.id have lives in
    housed.1 ∙ ap Some (one_home image k.id housed.2.records read.loaded.records housed.0 read.loaded.h housed.2.home.files read.loaded.openable.files).1
