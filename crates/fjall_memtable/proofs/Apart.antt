-- Parts that stand apart.
use Rattle.std.proofs.Common.{◌≡◌, ℕ, zero, suc, ◌<◌, ◌≤◌, List, [], ◌∷◌, ◌++◌, drop, refl, ap, ◌∙◌, arith}
use Rattle.std.specs.List.{All, flat_map}
use Rattle.std.proofs.lemmas.List.Elements.{All-nil, All-cons, All-head, All-tail, All-append, All-weaker}
use Rattle.std.specs.declared.alloc.Global.{Global}
use Rattle.std.specs.declared.sync.Arc.{Arc}
use Rattle.fjall_memtable.specs.declared.part.Part.{Part}
use Rattle.fjall_memtable.specs.Parts.{AreApart, HeldPart, IsHeld}
use Rattle.fjall_memtable.specs.Held.{held_of}
use Rattle.fjall_memtable.specs.Shares.{shared}

-- ---- some of the parts

pub apart_tail : (h : HeldPart) (parts : List HeldPart) → AreApart (h ∷ parts) → AreApart parts
apart_tail h [] apart = tt
apart_tail h (g ∷ parts) apart = apart.1

pub apart_front : (front behind : List HeldPart) → AreApart (front ++ behind) → AreApart front
apart_front [] behind apart = tt
apart_front (g ∷ []) behind apart = tt
apart_front (g ∷ h ∷ front) behind apart = (apart.0, apart_front (h ∷ front) behind apart.1)

pub apart_behind : (front behind : List HeldPart) → AreApart (front ++ behind) → AreApart behind
apart_behind [] behind apart = apart
apart_behind (g ∷ front) behind apart = apart_behind front behind (apart_tail g (front ++ behind) apart)

pub held_behind : (front behind : List HeldPart) → All IsHeld (front ++ behind) → All IsHeld behind
held_behind [] behind held = held
held_behind (g ∷ front) behind held = held_behind front behind (All-tail IsHeld g (front ++ behind) held)

-- the oldest left out
pub apart_drop : (n : ℕ) (front : List HeldPart) (h : HeldPart) → AreApart (front ++ h ∷ []) → AreApart (drop n front ++ h ∷ [])
apart_drop zero front h apart = apart
apart_drop (suc n) [] h apart = apart
apart_drop (suc n) (g ∷ front) h apart = apart_drop n front h (apart_tail g (front ++ h ∷ []) apart)

-- another one last, which begins at the same number
pub apart_with : (front : List HeldPart) (h g : HeldPart) → g.from ≡ h.from → AreApart (front ++ h ∷ []) → AreApart (front ++ g ∷ [])
apart_with [] h g same apart = tt
apart_with (k ∷ []) h g same apart = let low = apart.0 in (omega arith, tt)
apart_with (k ∷ l ∷ front) h g same apart = (apart.0, apart_with (l ∷ front) h g same apart.1)

-- one more, which begins where the last one ends
pub apart_more : (front : List HeldPart) (h g : HeldPart) → h.until ≤ g.from → AreApart (front ++ h ∷ []) → AreApart ((front ++ h ∷ []) ++ g ∷ [])
apart_more [] h g next apart = (next, tt)
apart_more (k ∷ []) h g next apart = (apart.0, (next, tt))
apart_more (k ∷ l ∷ front) h g next apart = (apart.0, apart_more (l ∷ front) h g next apart.1)

-- ---- the numbers in them

-- a part ends where any later one begins, or before
until_below : (g : HeldPart) (front behind : List HeldPart) (h : HeldPart) → All IsHeld (front ++ h ∷ behind) → AreApart (g ∷ (front ++ h ∷ behind)) → g.until ≤ h.from
until_below g [] behind h held apart = apart.0
until_below g (k ∷ front) behind h held apart =
    let more = until_below k front behind h (All-tail IsHeld k (front ++ h ∷ behind) held) apart.1 in
    let bounds = (All-head IsHeld k (front ++ h ∷ behind) held).bounds in
    let low = apart.0 in
    omega arith

-- what is listed of each part has numbers within its bounds
pub record IsNumbered {X : Type 0} (list : HeldPart → List X) (number : X → ℕ) : Type 0 where
  pub low : (h : HeldPart) → IsHeld h → All (λ x. h.from ≤ number x) (list h)
  pub high : (h : HeldPart) → IsHeld h → All (λ x. number x < h.until) (list h)

pub numbers_below : {X : Type 0} (list : HeldPart → List X) (number : X → ℕ) → IsNumbered list number → (front behind : List HeldPart) (h : HeldPart)
    → All IsHeld (front ++ h ∷ behind) → AreApart (front ++ h ∷ behind) → All (λ x. number x < h.from) (flat_map list front)
numbers_below {X} list number each [] behind h held apart = All-nil (λ (x : X). number x < h.from)
numbers_below {X} list number each (g ∷ front) behind h held apart =
    let until = until_below g front behind h (All-tail IsHeld g (front ++ h ∷ behind) held) apart in
    All-append (λ (x : X). number x < h.from) (list g) (flat_map list front)
    (All-weaker (λ (x : X). number x < g.until) (λ (x : X). number x < h.from) (λ x low. omega arith) (list g) (each.high g (All-head IsHeld g (front ++ h ∷ behind) held)))
    (numbers_below list number each front behind h (All-tail IsHeld g (front ++ h ∷ behind) held) (apart_tail g (front ++ h ∷ behind) apart))

pub from_first : {X : Type 0} (list : HeldPart → List X) (number : X → ℕ) → IsNumbered list number → (h : HeldPart) (behind : List HeldPart)
    → All IsHeld (h ∷ behind) → AreApart (h ∷ behind) → All (λ x. h.from ≤ number x) (flat_map list (h ∷ behind))
from_first {X} list number each h [] held apart =
    All-append (λ (x : X). h.from ≤ number x) (list h) [] (each.low h (All-head IsHeld h [] held)) (All-nil (λ (x : X). h.from ≤ number x))
from_first {X} list number each h (g ∷ behind) held apart =
    let here = All-head IsHeld h (g ∷ behind) held in
    let bounds = here.bounds in
    let low = apart.0 in
    All-append (λ (x : X). h.from ≤ number x) (list h) (flat_map list (g ∷ behind)) (each.low h here)
    (All-weaker (λ (x : X). g.from ≤ number x) (λ (x : X). h.from ≤ number x) (λ x from. omega arith) (flat_map list (g ∷ behind))
    (from_first list number each g behind (All-tail IsHeld h (g ∷ behind) held) apart.1))

pub numbers_from : {X : Type 0} (list : HeldPart → List X) (number : X → ℕ) → IsNumbered list number → (front behind : List HeldPart) (h : HeldPart)
    → All IsHeld (front ++ h ∷ behind) → AreApart (front ++ h ∷ behind) → All (λ x. h.from ≤ number x) (flat_map list (h ∷ behind))
numbers_from list number each front behind h held apart =
    from_first list number each h behind (held_behind front (h ∷ behind) held) (apart_behind front (h ∷ behind) apart)

pub versions_numbered : IsNumbered (λ h. h.versions) (λ v. v.number)
versions_numbered = record { low = λ h held. held.low; high = λ h held. held.high }

pub clears_numbered : IsNumbered (λ h. h.clears) (λ n. n)
clears_numbered = record { low = λ h held. held.low_clears; high = λ h held. held.high_clears }

-- ---- shared parts

pub all_held : (parts : List (Arc Part Global)) → All IsHeld (shared parts)
all_held [] = All-nil IsHeld
all_held (part ∷ parts) = All-cons IsHeld (held_of part.value) (shared parts) part.value.held (all_held parts)

pub shared-append : (parts more : List (Arc Part Global)) → shared (parts ++ more) ≡ shared parts ++ shared more
shared-append [] more = refl
shared-append (part ∷ parts) more = ap (λ (xs : List HeldPart). held_of part.value ∷ xs) (shared-append parts more)

-- the last part beside those before it
pub shared_last : (parts front : List (Arc Part Global)) (part : Arc Part Global) → parts ≡ front ++ part ∷ [] → shared parts ≡ shared front ++ held_of part.value ∷ []
shared_last parts front part e = ap shared e ∙ shared-append front (part ∷ [])
