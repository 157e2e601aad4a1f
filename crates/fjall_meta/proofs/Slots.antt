-- What the maps of a store have at one id, version upon version.
use Rattle.std.proofs.Common.{◌≡◌, ℕ, Bool, true, false, cond, ◌==◌, List, [], ◌∷◌, ◌++◌, map, filter, Option, Some, unwrap_or, refl, sym, ◌∙◌, ap, arith}
use Rattle.std.proofs.lemmas.Bool.Decides.{nat_tests}
use Rattle.std.proofs.lemmas.Bool.{true≢false}
use Rattle.std.specs.Ordering.{nat_cmp, eq_by_cmp}
use Rattle.std.specs.Cmp.{nat_cmp_total}
use Rattle.std.specs.FinMap.{FinMap, empty, get, insert, get-insert, same_map, nat_cmp-IsAntisymmetric}
use Rattle.fjall_base.specs.Pairs.{Pairs, altered}
use Rattle.fjall_base.specs.Store.{Store, Command, Clear, map_at, apply, fold}
use Rattle.fjall_meta.specs.Versions.{Version, command_of}

-- ---- maps by id

pub ties : (q k : ℕ) → eq_by_cmp nat_cmp q k ≡ (q == k)
ties q k = grind (arith, nat_tests)

pub same_id : (q k : ℕ) → (q == k) ≡ true → q ≡ k
same_id q k e = grind (arith, nat_tests)

pub get_put : {X : Type 0} (m : FinMap nat_cmp X) (k : ℕ) (x : X) (q : ℕ) → get (insert m k x) q ≡ cond (q == k) (Some x) (get m q)
get_put m k x q = get-insert nat_cmp_total m k x q ∙ ap (λ b. cond b (Some x) (get m q)) (ties q k)

pub same_maps : {X : Type 0} (m n : FinMap nat_cmp X) → ((q : ℕ) → get m q ≡ get n q) → m ≡ n
same_maps m n same = same_map nat_cmp_total nat_cmp-IsAntisymmetric m n same

-- stores that agree in each part
pub same_store : (a b : Store) → a.names ≡ b.names → ((q : ℕ) → get a.maps q ≡ get b.maps q) → a.options ≡ b.options → a.next ≡ b.next → a ≡ b
same_store a b names maps options next =
    let same = same_maps a.maps b.maps maps in
    λ i. record { names = names i; maps = same i; options = options i; next = next i }

-- ---- commands one after another

pub fold-append : (t : Store) (a b : List Command) → fold t (a ++ b) ≡ fold (fold t a) b
fold-append t [] b = refl
fold-append t (c ∷ a) b = fold-append (apply t c) a b

-- writes and clears change maps alone
abbrev pub SameButMaps : Store → Store → Type 0
SameButMaps a b = (a.names ≡ b.names) × (a.options ≡ b.options) × (a.next ≡ b.next)

pub writes_maps : (versions : List Version) (t : Store) → SameButMaps (fold t (map command_of versions)) t
writes_maps [] t = (refl, refl, refl)
writes_maps (v ∷ versions) t = writes_maps versions (apply t (command_of v))

pub clears_maps : (ids : List ℕ) (t : Store) → SameButMaps (fold t (map Clear ids)) t
clears_maps [] t = (refl, refl, refl)
clears_maps (id ∷ ids) t = clears_maps ids (apply t (Clear id))

-- ---- one id

-- what a store's maps have at an id after these versions
abbrev pub slot_after : Option Pairs → ℕ → List Version → Option Pairs
slot_after slot id [] = slot
slot_after slot id (v ∷ versions) = slot_after (cond (id == v.keyspace_id) (Some (altered (unwrap_or slot empty) v.key v.value)) slot) id versions

slot_step : (t : Store) (v : Version) (id : ℕ) → get (apply t (command_of v)).maps id ≡ cond (id == v.keyspace_id) (Some (altered (unwrap_or (get t.maps id) empty) v.key v.value)) (get t.maps id)
slot_step t v id = get_put t.maps v.keyspace_id (altered (map_at t.maps v.keyspace_id) v.key v.value) id ∙ either (id == v.keyspace_id) refl
  where
    either : (b : Bool) → (id == v.keyspace_id) ≡ b → cond b (Some (altered (map_at t.maps v.keyspace_id) v.key v.value)) (get t.maps id) ≡ cond b (Some (altered (map_at t.maps id) v.key v.value)) (get t.maps id)
    either true e = ap (λ k. Some (altered (map_at t.maps k) v.key v.value)) (sym (same_id id v.keyspace_id e))
    either false e = refl

pub slot_at : (versions : List Version) (t : Store) (id : ℕ) → get (fold t (map command_of versions)).maps id ≡ slot_after (get t.maps id) id versions
slot_at [] t id = refl
slot_at (v ∷ versions) t id = slot_at versions (apply t (command_of v)) id ∙ ap (λ slot. slot_after slot id versions) (slot_step t v id)

pub slot-append : (slot : Option Pairs) (id : ℕ) (front behind : List Version) → slot_after slot id (front ++ behind) ≡ slot_after (slot_after slot id front) id behind
slot-append slot id [] behind = refl
slot-append slot id (v ∷ front) behind = slot-append (cond (id == v.keyspace_id) (Some (altered (unwrap_or slot empty) v.key v.value)) slot) id front behind

filter_step : (v : Version) (rest versions : List Version) (slot : Option Pairs) (id : ℕ) (is kept wanted : Bool) → (id == v.keyspace_id) ≡ is → (is ≡ true → kept ≡ wanted)
    → ((s : Option Pairs) → slot_after s id rest ≡ cond wanted (slot_after s id versions) s)
    → slot_after slot id (cond kept (v ∷ rest) rest) ≡ cond wanted (slot_after slot id (v ∷ versions)) slot
filter_step v rest versions slot id true true true e same ih =
    let next = Some (altered (unwrap_or slot empty) v.key v.value) in
    ap (λ b. slot_after (cond b next slot) id rest) e ∙ ih next ∙ ap (λ b. slot_after (cond b next slot) id versions) (sym e)
filter_step v rest versions slot id true true false e same ih = absurd (true≢false (same refl))
filter_step v rest versions slot id true false true e same ih = absurd (true≢false (sym (same refl)))
filter_step v rest versions slot id true false false e same ih = ih slot
filter_step v rest versions slot id false true wanted e same ih =
    let next = Some (altered (unwrap_or slot empty) v.key v.value) in
    ap (λ b. slot_after (cond b next slot) id rest) e ∙ ih slot ∙ ap (λ b. cond wanted (slot_after (cond b next slot) id versions) slot) (sym e)
filter_step v rest versions slot id false false wanted e same ih =
    let next = Some (altered (unwrap_or slot empty) v.key v.value) in
    ih slot ∙ ap (λ b. cond wanted (slot_after (cond b next slot) id versions) slot) (sym e)

pub either_way : {X : Type 0} (b : Bool) (x : X) → x ≡ cond b x x
either_way true x = refl
either_way false x = refl

-- of the versions of some ids those of one id are all there, or none
pub slot-filter : (versions : List Version) (keep : ℕ → Bool) (slot : Option Pairs) (id : ℕ) → slot_after slot id (filter (λ v. keep v.keyspace_id) versions) ≡ cond (keep id) (slot_after slot id versions) slot
slot-filter [] keep slot id = either_way (keep id) slot
slot-filter (v ∷ versions) keep slot id =
    filter_step v (filter (λ w. keep w.keyspace_id) versions) versions slot id (id == v.keyspace_id) (keep v.keyspace_id) (keep id) refl
    (λ e. ap keep (sym (same_id id v.keyspace_id e))) (λ s. slot-filter versions keep s id)
