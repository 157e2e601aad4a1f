-- Entries that are read from where they were spelled, and entries one after the other, as a loop reads them.
use Rattle.std.proofs.Common.{◌≡◌, ℕ, suc, ◌-◌, ◌+◌, ◌≤◌, ◌<◌, false, List, [], ◌∷◌, ◌++◌, length, take, get_or, Result, Ok, Err, refl, sym, ap, eqb, add-one, ◌∙◌, append_assoc, arith}
use Rattle.std.proofs.lemmas.List.{append-nil}
use Rattle.std.specs.List.{flat_map, AllByRecursion}
use Rattle.std.proofs.lemmas.Bool.{ne_eqb}
use Rattle.std.proofs.Math.Seq.{take-suc}
use Rattle.fjall_base.specs.declared.error.Error.{Error}
use Rattle.fjall_base.specs.declared.error.Error.TheVariants as errors
use Rattle.fjall_base.specs.Results.{◌>>=◌}
use Rattle.fjall_options.specs.Reading.{Fault, Fails, ValueReader}
use Rattle.fjall_options.specs.Policies.{entries_at, policy_at, policy_bytes}

-- the entry is read from where it is spelled, whatever stands behind it
pub record IsReadBack {T : Type 0} (entry_at : ValueReader T) (spelled : T → List ℕ) (x : T) : Type 0 where
  pub back : (rest : List ℕ) → entry_at (spelled x ++ rest) ≡ Ok (x, rest)

abbrev pub AreReadBack : {T : Type 0} → ValueReader T → (T → List ℕ) → List T → Type 0
AreReadBack entry_at spelled xs = AllByRecursion (IsReadBack entry_at spelled) xs

-- what was spelled one after the other is read so
pub entries_back : {T : Type 0} (entry_at : ValueReader T) (spelled : T → List ℕ) (xs : List T) (rest : List ℕ) → AreReadBack entry_at spelled xs
    → entries_at entry_at (length xs) (flat_map spelled xs ++ rest) ≡ Ok xs
entries_back entry_at spelled [] rest all = refl
entries_back entry_at spelled (x ∷ xs) rest all =
    rw (append_assoc (spelled x) (flat_map spelled xs) rest, all.0.back (flat_map spelled xs ++ rest), entries_back entry_at spelled xs rest all.1) refl

pub policy_back : {T : Type 0} (entry_at : ValueReader T) (spelled : T → List ℕ) (xs : List T) (rest : List ℕ) → 0 < length xs → AreReadBack entry_at spelled xs
    → policy_at entry_at (policy_bytes spelled xs ++ rest) ≡ Ok xs
policy_back entry_at spelled [] rest some all = absurd (omega (arith, some))
policy_back entry_at spelled (x ∷ xs) rest some all =
    let no : eqb (length (x ∷ xs)) 0 ≡ false = ne_eqb _ _ (λ e. omega (arith, e)) in
    rw no (entries_back entry_at spelled (x ∷ xs) rest all)

-- the entries before a place, and the one there
pub taken : {T : Type 0} (xs : List T) (i : ℕ) (x : T) → i < length xs → x ≡ get_or xs i x → take (i + 1) xs ≡ take i xs ++ x ∷ []
taken xs i x lt is = rw add-one (take-suc xs i x lt ∙ ap (λ v. take i xs ++ v ∷ []) (sym is))

-- ---- a loop that reads

-- what was read before, and what is still read
abbrev pub with_front : {T : Type 0} → List T → Result (List T) Fault → Result (List T) Fault
with_front front read = read >>= λ xs. Ok (front ++ xs)

regroup : {T : Type 0} (front : List T) (x : T) (read : Result (List T) Fault) → with_front front (read >>= λ xs. Ok (x ∷ xs)) ≡ with_front (front ++ x ∷ []) read
regroup front x (Ok xs) = rw (append_assoc front (x ∷ []) xs) refl
regroup front x (Err fault) = refl

pub goes_on : {T : Type 0} (entry_at : ValueReader T) (front : List T) (count i : ℕ) (bytes : List ℕ) (x : T) (after : List ℕ) (total : Result (List T) Fault) → i < count → entry_at bytes ≡ Ok (x, after)
    → with_front front (entries_at entry_at (count - i) bytes) ≡ total → with_front (front ++ x ∷ []) (entries_at entry_at (count - (i + 1)) after) ≡ total
goes_on entry_at front count i bytes x after total lt h so_far =
    let k : count - i ≡ suc (count - (i + 1)) = omega arith in
    let one : with_front front (entries_at entry_at (count - i) bytes) ≡ with_front (front ++ x ∷ []) (entries_at entry_at (count - (i + 1)) after) = rw (k, h) (regroup front x (entries_at entry_at (count - (i + 1)) after)) in
    sym one ∙ so_far

pub ends : {T : Type 0} (entry_at : ValueReader T) (error : Error) (front : List T) (count i : ℕ) (bytes : List ℕ) (total : Result (List T) Fault) → i < count → Fails error (entry_at bytes)
    → with_front front (entries_at entry_at (count - i) bytes) ≡ total → Fails error total
ends entry_at errors.OutOfMemory front count i bytes total lt h so_far = tt
ends entry_at (errors.Io kind) front count i bytes total lt h so_far =
    let k : count - i ≡ suc (count - (i + 1)) = omega arith in
    let read = h.1 in
    (h.0, sym so_far ∙ rw (k, read) refl)
ends entry_at (errors.InvalidTag tag) front count i bytes total lt h so_far =
    let k : count - i ≡ suc (count - (i + 1)) = omega arith in
    sym so_far ∙ rw (k, h) refl
ends entry_at error front count i bytes total lt h so_far = absurd h

pub is_done : {T : Type 0} (entry_at : ValueReader T) (front : List T) (count i : ℕ) (bytes : List ℕ) (total : Result (List T) Fault) → count ≤ i → with_front front (entries_at entry_at (count - i) bytes) ≡ total → total ≡ Ok front
is_done entry_at front count i bytes total le so_far =
    let k : count - i ≡ 0 = omega arith in
    sym so_far ∙ rw (k, append-nil front) refl
