-- What holds of each value of a map.
use Rattle.std.proofs.Common.{◌≡◌, ℕ, ◌-◌, ◌||◌, Bool, true, false, cond, List, [], ◌∷◌, All, map, nat_eq, None, Option, Some, refl, sym, ap, subst, ◌∙◌, arith}
use Rattle.std.proofs.lemmas.Bool.Decides.{nat_tests}
use Rattle.std.proofs.lemmas.List.{length-map}
use Rattle.std.proofs.lemmas.List.Elements.{All-cons, All-head, All-nil, All-tail, All-weaker}
use Rattle.std.proofs.lemmas.Option.{none-some}
use Rattle.std.specs.Cmp.{nat_cmp_total}
use Rattle.std.specs.FinMap.{FinMap, empty, entries, entries-insert, len-empty, len-entries, find, get, get-entries, get-remove, insert, nat_cmp-IsAntisymmetric, put, remove, same_map, values}
use Rattle.std.specs.FinMap.Entries.{by_order}
use Rattle.std.specs.Ordering.{eq_by_cmp, is_eq, nat_cmp}
use Rattle.std.specs.declared.cmp.Ordering.TheVariants.{Less, Equal, Greater}
use Rattle.fjall_history.specs.Trackers.{IsSoundTracker, Tracker, is_open}
use Rattle.fjall_history.proofs.TrackerSound.{at_open}
use Rattle.fjall_history.specs.Tickets.{AreTracked}
use Rattle.fjall_history.proofs.Counts.{open_value, same_open}
use Rattle.fjall_history.proofs.Maps.{none_left, put_back}

-- of a value that a key has
pub of_value : (P : ℕ → Type 0) (m : FinMap nat_cmp ℕ) (k v : ℕ) → get m k ≡ Some v → All P (values m) → P v
of_value P m k v there all = at_open P v (values m) (open_value m k v there) all

all_put : (P : ℕ → Type 0) (k v : ℕ) (es : List (ℕ × ℕ)) → P v → All P (map (λ e. e.1) es) → All P (map (λ e. e.1) (put nat_cmp k v es))
all_put P k v [] here all = All-cons P v [] here (All-nil P)
all_put P k v (e ∷ es) here all =
    elim (nat_cmp k e.0) as (λ r. All P (map (λ e. e.1) (by_order r ((k, v) ∷ e ∷ es) ((e.0, v) ∷ es) (e ∷ put nat_cmp k v es)))) [
      | Less ↦ All-cons P v (map (λ e. e.1) (e ∷ es)) here all
      | Equal ↦ All-cons P v (map (λ e. e.1) es) here (All-tail P e.1 (map (λ e. e.1) es) all)
      | Greater ↦ All-cons P e.1 (map (λ e. e.1) (put nat_cmp k v es)) (All-head P e.1 (map (λ e. e.1) es) all) (all_put P k v es here (All-tail P e.1 (map (λ e. e.1) es) all))
    ]

remove_none : (m : FinMap nat_cmp ℕ) (k : ℕ) → get m k ≡ None → remove m k ≡ m
remove_none m k none = same_map nat_cmp_total nat_cmp-IsAntisymmetric (remove m k) m (λ q. get-remove nat_cmp_total m k q ∙ either q (eq_by_cmp nat_cmp q k) refl)
  where
    either : (q : ℕ) (b : Bool) → eq_by_cmp nat_cmp q k ≡ b → cond b None (get m q) ≡ get m q
    either q true e = let same : q ≡ k = grind (arith, nat_tests) in sym (ap (get m) same ∙ none)
    either q false e = refl

-- after an insertion
pub all_inserted : (P : ℕ → Type 0) (m : FinMap nat_cmp ℕ) (k v : ℕ) → P v → All P (values m) → All P (values (insert m k v))
all_inserted P m k v here all = subst (λ es. All P (map (λ e. e.1) es)) (sym (entries-insert nat_cmp_total m k v)) (all_put P k v (entries m) here all)

all_taken : (P : ℕ → Type 0) (k v : ℕ) (es : List (ℕ × ℕ)) → find nat_cmp k es ≡ None → All P (map (λ e. e.1) (put nat_cmp k v es)) → All P (map (λ e. e.1) es)
all_taken P k v [] none all = All-nil P
all_taken P k v (e ∷ es) none all =
    elim (nat_cmp k e.0) as (λ r. cond (is_eq r) (Some e.1) (find nat_cmp k es) ≡ None → All P (map (λ e. e.1) (by_order r ((k, v) ∷ e ∷ es) ((e.0, v) ∷ es) (e ∷ put nat_cmp k v es))) → All P (map (λ e. e.1) (e ∷ es))) [
      | Less ↦ λ n a. All-tail P v (map (λ e. e.1) (e ∷ es)) a
      | Equal ↦ λ n a. absurd (none-some e.1 (sym n))
      | Greater ↦ λ n a.
          All-cons P e.1 (map (λ e. e.1) es) (All-head P e.1 (map (λ e. e.1) (put nat_cmp k v es)) a) (all_taken P k v es n (All-tail P e.1 (map (λ e. e.1) (put nat_cmp k v es)) a))
    ] none all

-- after a removal
pub all_removed : (P : ℕ → Type 0) (m : FinMap nat_cmp ℕ) (k : ℕ) → All P (values m) → All P (values (remove m k))
all_removed P m k all = either (get m k) refl
  where
    either : (o : Option ℕ) → get m k ≡ o → All P (values (remove m k))
    either None none = subst (λ n. All P (values n)) (sym (remove_none m k none)) all
    either (Some v) there =
        all_taken P k v (entries (remove m k)) (sym (get-entries (remove m k) k) ∙ none_left m k)
        (subst (λ es. All P (map (λ e. e.1) es)) (entries-insert nat_cmp_total (remove m k) k v) (subst (λ n. All P (values n)) (sym (put_back m k v there)) all))

each_open : (xs : List ℕ) → All (λ x. is_open x xs ≡ true) xs
each_open [] = All-nil (λ x. is_open x [] ≡ true)
each_open (x ∷ xs) =
    let first : nat_eq x x ≡ true = grind (arith, nat_tests) in
    All-cons (λ y. is_open y (x ∷ xs) ≡ true) x xs (ap (λ b. b || is_open x xs) first)
    (All-weaker (λ y. is_open y xs ≡ true) (λ y. is_open y (x ∷ xs) ≡ true) (λ y h. behind (nat_eq y x) (is_open y xs) h) xs (each_open xs))
  where
    behind : (a b : Bool) → b ≡ true → (a || b) ≡ true
    behind true b e = refl
    behind false b e = e

-- what holds of the tickets' instants holds of the tracker's
pub of_tracker : (P : ℕ → Type 0) (tracker : Tracker) (m : FinMap nat_cmp ℕ) (next : ℕ) → AreTracked tracker m next → All P (values m) → All P tracker.instants
of_tracker P tracker m next is all =
    All-weaker (λ i. is_open i tracker.instants ≡ true) P (λ i h. at_open P i (values m) (sym (same_open tracker.instants (values m) is.same i) ∙ h) all) tracker.instants (each_open tracker.instants)

pub tracked_retracted : (tracker : Tracker) (m : FinMap nat_cmp ℕ) (next : ℕ) → AreTracked tracker m next → IsSoundTracker (record tracker { visible = tracker.visible - 1 }) → AreTracked (record tracker { visible = tracker.visible - 1 }) m next
tracked_retracted tracker m next is sound = record { sound = sound; same = is.same; as_many = is.as_many; given = is.given; few = is.few }

-- of an empty map's none
pub all_none : (P : ℕ → Type 0) → All P (values (empty {X = ℕ} {R = nat_cmp}))
all_none P = λ k d lt.
    let none = length-map (entries (empty {X = ℕ} {R = nat_cmp})) (λ (e : ℕ × ℕ). e.1) in
    let some = len-entries (empty {X = ℕ} {R = nat_cmp}) in
    let zero_is = len-empty nat_cmp ℕ in
    absurd (omega (arith, lt, none, some, zero_is))
