-- Transactions that met nothing since their instants act one after another.
use Rattle.std.proofs.Common.{◌≡◌, ℕ, zero, suc, ◌+◌, ◌-◌, ◌≤◌, true, cond, List, [], ◌∷◌, ◌++◌, take, drop, Option, None, Some, refl, sym, ◌∙◌, ap, subst, arith, length-take}
use Rattle.std.proofs.lemmas.List.{take-append-drop}
use Rattle.std.proofs.lemmas.List.Elements.{filter-append}
use Rattle.std.proofs.lemmas.Option.{slice_get_within, get_or_from_slice_get}
use Rattle.std.specs.Prelude.{Contains, slice_get, is_some}
use Rattle.std.specs.Cmp.Lexicographic.{nat_list_cmp_total}
use Rattle.std.specs.FinMap.{nat_cmp-IsAntisymmetric, same_map, slice_cmp-IsAntisymmetric}
use Rattle.std.specs.FinSet as set
use Rattle.fjall_base.specs.Pairs.{Bytes, lookup}
use Rattle.fjall_base.specs.Store.{Store, apply, fold, map_at}
use Rattle.fjall_tx.specs.declared.oracle.Committed.{Committed}
use Rattle.fjall_tx.specs.Places.{place}
use Rattle.fjall_tx.specs.Marks.{IsCovered, Mark}
use Rattle.fjall_tx.specs.Oracles.{Conflicts, commit_of}
use Rattle.fjall_history.specs.Histories.{Accepted, Commit, History, commands_of, commits, commits_from, latest, view, with_commit_at}
use Rattle.fjall_history.proofs.Views.{commands_append, fold_append}
use Rattle.fjall_history.specs.Checked.{IsChecked, WritesWithin}
use Rattle.fjall_history.specs.Serial.{ChangesByTransactions, IsSerial, ReadsChangeByTransactions, serial_store, transactions_of, value_at}
use Rattle.fjall_history.proofs.Items.{command_alike, command_apart}

-- the store after the transactions among these alone
abbrev after : Store → List Accepted → Store
after s accepted = fold s (commands_of (transactions_of accepted))

-- each transaction among these marked what it wrote
abbrev AreMarked : List Accepted → Type 0
AreMarked [] = Unit {0}
AreMarked (a ∷ accepted) = ((c : Commit) → a.commit ≡ Some c → WritesWithin a.command c.marks.writes) × AreMarked accepted

-- and none of them marked this key
abbrev AreApart : List Accepted → ℕ → Bytes → Type 0
AreApart [] id key = Unit {0}
AreApart (a ∷ accepted) id key = ((c : Commit) → a.commit ≡ Some c → set.contains c.marks.writes (place id key) ≡ true → ⊥) × AreApart accepted id key

-- ---- the two parts of what stands before a commit

front_step : (s t : Store) (a : Accepted) (front : List Accepted) (id : ℕ) (key : Bytes) (o : Option Commit) → a.commit ≡ o → value_at s id key ≡ value_at t id key → ChangesByTransactions s (a ∷ front) id → AreMarked (a ∷ front)
    → ((u v : Store) → value_at u id key ≡ value_at v id key → ChangesByTransactions u front id → value_at (fold u (commands_of front)) id key ≡ value_at (after v front) id key)
    → value_at (fold s (commands_of (a ∷ front))) id key ≡ value_at (fold t (commands_of (cond (is_some o) (a ∷ transactions_of front) (transactions_of front)))) id key
front_step s t a front id key (Some c) e same alone marked rest = rest (apply s a.command) (apply t a.command) (command_alike a.command c.marks.writes (marked.0 c e) s t id key same) alone.1
front_step s t a front id key None e same alone marked rest = rest (apply s a.command) t (ap (λ m. lookup m key) (alone.0 e) ∙ same) alone.1

-- up to the instant: the transactions alone give the same
front_alike : (s t : Store) (front : List Accepted) (id : ℕ) (key : Bytes) → value_at s id key ≡ value_at t id key → ChangesByTransactions s front id → AreMarked front → value_at (fold s (commands_of front)) id key ≡ value_at (after t front) id key
front_alike s t [] id key same alone marked = same
front_alike s t (a ∷ front) id key same alone marked = front_step s t a front id key a.commit refl same alone marked (λ u v same' alone'. front_alike u v front id key same' alone' marked.1)

middle_step : (t : Store) (a : Accepted) (middle : List Accepted) (id : ℕ) (key : Bytes) (o : Option Commit) → a.commit ≡ o → AreMarked (a ∷ middle) → AreApart (a ∷ middle) id key
    → ((u : Store) → value_at (after u middle) id key ≡ value_at u id key) → value_at (fold t (commands_of (cond (is_some o) (a ∷ transactions_of middle) (transactions_of middle)))) id key ≡ value_at t id key
middle_step t a middle id key (Some c) e marked apart rest = rest (apply t a.command) ∙ command_apart a.command c.marks.writes (marked.0 c e) t id key (apart.0 c e)
middle_step t a middle id key None e marked apart rest = rest t

-- from the instant on: those that committed leave the key alone
middle_apart : (t : Store) (middle : List Accepted) (id : ℕ) (key : Bytes) → AreMarked middle → AreApart middle id key → value_at (after t middle) id key ≡ value_at t id key
middle_apart t [] id key marked apart = refl
middle_apart t (a ∷ middle) id key marked apart = middle_step t a middle id key a.commit refl marked apart (λ u. middle_apart u middle id key marked.1 apart.1)

after_append : (s : Store) (xs ys : List Accepted) → after s (xs ++ ys) ≡ after (after s xs) ys
after_append s xs ys =
    ap (λ l. fold s (commands_of l)) (filter-append (λ (a : Accepted). is_some a.commit) xs ys)
    ∙ ap (fold s) (commands_append (transactions_of xs) (transactions_of ys))
    ∙ fold_append s (commands_of (transactions_of xs)) (commands_of (transactions_of ys))

-- what a transaction read at its instant is what those that committed before it left
serial : (s : Store) (front middle : List Accepted) (id : ℕ) (key : Bytes) → ChangesByTransactions s front id → AreMarked front → AreMarked middle → AreApart middle id key
    → value_at (fold s (commands_of front)) id key ≡ value_at (after s (front ++ middle)) id key
serial s front middle id key alone marked later apart =
    front_alike s s front id key refl alone marked
    ∙ sym (middle_apart (after s front) middle id key later apart)
    ∙ ap (λ t. value_at t id key) (sym (after_append s front middle))

-- ---- from places to lists

marked_from : (accepted : List Accepted) → ((k : ℕ) (a : Accepted) (c : Commit) → slice_get accepted k ≡ Some a → a.commit ≡ Some c → WritesWithin a.command c.marks.writes) → AreMarked accepted
marked_from [] each = tt
marked_from (a ∷ accepted) each = (λ c is. each 0 a c refl is, marked_from accepted (λ k b c at is. each (suc k) b c at is))

marked_take : (n : ℕ) (accepted : List Accepted) → AreMarked accepted → AreMarked (take n accepted)
marked_take zero accepted all = tt
marked_take (suc n) [] all = tt
marked_take (suc n) (a ∷ accepted) all = (all.0, marked_take n accepted all.1)

marked_drop : (n : ℕ) (accepted : List Accepted) → AreMarked accepted → AreMarked (drop n accepted)
marked_drop zero accepted all = all
marked_drop (suc n) [] all = tt
marked_drop (suc n) (a ∷ accepted) all = marked_drop n accepted all.1

changes_take : (n : ℕ) (s : Store) (accepted : List Accepted) (id : ℕ) → ChangesByTransactions s accepted id → ChangesByTransactions s (take n accepted) id
changes_take zero s accepted id all = tt
changes_take (suc n) s [] id all = tt
changes_take (suc n) s (a ∷ accepted) id all = (all.0, changes_take n (apply s a.command) accepted id all.1)

take_take : {X : Type 0} (i k : ℕ) (xs : List X) → i ≤ k → take i (take k xs) ≡ take i xs
take_take zero k xs le = refl
take_take (suc i) zero xs le = absurd (omega (arith, le))
take_take (suc i) (suc k) [] le = refl
take_take (suc i) (suc k) (x ∷ xs) le = ap (λ ys. x ∷ ys) (take_take i k xs (omega (arith, le)))

contains_cons : {X : Type 0} (x : X) (xs : List X) (y : X) → Contains xs y → Contains (x ∷ xs) y
contains_cons x xs y (k, lt, e) = (suc k, omega (arith, lt), e)

-- a conflict with later ones is one with all
later_conflict : (instant number : ℕ) (reads : List Mark) (o : Option Commit) (others : List Committed) → Conflicts instant reads others → Conflicts instant reads (with_commit_at number o others)
later_conflict instant number reads None others c = c
later_conflict instant number reads (Some x) others c = record { commit = c.commit; is_committed = contains_cons (commit_of number x.marks.writes) others c.commit c.is_committed; is_late = c.is_late; meets = c.meets }

-- a transaction of that number conflicts where it wrote a key that is read
conflict_here : (instant number : ℕ) (reads : List Mark) (o : Option Commit) (x : Commit) (others : List Committed) (id : ℕ) (key : Bytes) → o ≡ Some x → instant ≤ number → IsCovered reads id key → set.contains x.marks.writes (place id key) ≡ true
    → Conflicts instant reads (with_commit_at number o others)
conflict_here instant number reads o x others id key is late covered written = subst (λ o. Conflicts instant reads (with_commit_at number o others)) (sym is) (record {
  commit = commit_of number x.marks.writes;
  is_committed = (0, omega arith, refl);
  is_late = late;
  meets = record { id = id; key = key; is_written = written; is_read = covered };
})

module _ (instant : ℕ) (reads : List Mark) (id : ℕ) (key : Bytes) (covered : IsCovered reads id key) where
  -- those from the instant on that meet nothing marked no key that is read
  apart_from : (skipped : ℕ) (first : ℕ) (accepted : List Accepted) → instant ≤ first + skipped → (Conflicts instant reads (commits_from first accepted) → ⊥) → AreApart (drop skipped accepted) id key
  apart_from zero first [] late none = tt
  apart_from zero first (a ∷ accepted) late none = (
    λ c is written. none (conflict_here instant first reads a.commit c (commits_from (first + 1) accepted) id key is (omega (arith, late)) covered written),
    apart_from zero (first + 1) accepted (omega (arith, late)) (λ c. none (later_conflict instant first reads a.commit (commits_from (first + 1) accepted) c)),
  )
  apart_from (suc n) first [] late none = tt
  apart_from (suc n) first (a ∷ accepted) late none =
      apart_from n (first + 1) accepted (omega (arith, late)) (λ c. none (later_conflict instant first reads a.commit (commits_from (first + 1) accepted) c))

contains_from : {X : Type 0} (xs : List X) (k : ℕ) (x : X) → slice_get xs k ≡ Some x → Contains xs x
contains_from xs k x at = (k, slice_get_within xs k x at, get_or_from_slice_get xs k x x at)

-- what checked transactions wrote is marked
all_marked : (h : History) → IsChecked h → AreMarked h.accepted
all_marked h checked = marked_from h.accepted (λ k a c at is. let may = checked k a c at is in may.within)

-- where the map of a keyspace changes through transactions alone, it is what these alone make
pub outcome : (h : History) → IsChecked h → (id : ℕ) → ChangesByTransactions h.opened h.accepted id → map_at (latest h).maps id ≡ map_at (serial_store h).maps id
outcome h checked id alone =
    same_map nat_list_cmp_total (slice_cmp-IsAntisymmetric nat_cmp-IsAntisymmetric) (map_at (latest h).maps id) (map_at (serial_store h).maps id)
    (λ key. front_alike h.opened h.opened h.accepted id key refl alone (all_marked h checked))

-- THE LAW: where each commit met nothing since its instant, and what is read changes through transactions alone, they act
-- one after another
pub checked_is_serial : (h : History) → IsChecked h → ReadsChangeByTransactions h → IsSerial h
checked_is_serial h checked premise k a c at is id key covered =
    let may = checked k a c at is in
    let i = c.instant - h.base in
    let front = take k h.accepted in
    let short : i ≤ k = omega (arith, may.until, may.since, length-take k h.accepted) in
    let marked : AreMarked front = marked_take k h.accepted (all_marked h checked) in
    let changes = premise id (record { reader = a; accepted = contains_from h.accepted k a at; commit = c; committed = is; key = key; covered = covered }) in
    let same : take i front ≡ take i h.accepted = take_take i k h.accepted short in
    let late : c.instant ≤ h.base + i = omega (arith, may.since) in
    ap (λ l. value_at (fold h.opened (commands_of l)) id key) (sym same)
    ∙ serial h.opened (take i front) (drop i front) id key
    (subst (λ l. ChangesByTransactions h.opened l id) (sym same) (changes_take i h.opened h.accepted id changes))
    (marked_take i front marked)
    (marked_drop i front marked)
    (apart_from c.instant c.marks.reads id key covered i h.base front late may.apart)
    ∙ ap (λ l. value_at (after h.opened l) id key) (take-append-drop i front)

-- ---- what meets none

changes_drop : (n : ℕ) (s : Store) (accepted : List Accepted) (id : ℕ) → ChangesByTransactions s accepted id → ChangesByTransactions (fold s (commands_of (take n accepted))) (drop n accepted) id
changes_drop zero s accepted id all = all
changes_drop (suc n) s [] id all = tt
changes_drop (suc n) s (a ∷ accepted) id all = changes_drop n (apply s a.command) accepted id all.1

stays_step : (s : Store) (a : Accepted) (middle : List Accepted) (id : ℕ) (key : Bytes) (o : Option Commit) → a.commit ≡ o → ChangesByTransactions s (a ∷ middle) id → AreMarked (a ∷ middle) → AreApart (a ∷ middle) id key
    → value_at (apply s a.command) id key ≡ value_at s id key
stays_step s a middle id key (Some c) e alone marked apart = command_apart a.command c.marks.writes (marked.0 c e) s id key (apart.0 c e)
stays_step s a middle id key None e alone marked apart = ap (λ m. lookup m key) (alone.0 e)

-- those that wrote no such key leave what it has, and so do other commands
stays : (s : Store) (middle : List Accepted) (id : ℕ) (key : Bytes) → ChangesByTransactions s middle id → AreMarked middle → AreApart middle id key → value_at (fold s (commands_of middle)) id key ≡ value_at s id key
stays s [] id key alone marked apart = refl
stays s (a ∷ middle) id key alone marked apart = stays (apply s a.command) middle id key alone.1 marked.1 apart.1 ∙ stays_step s a middle id key a.commit refl alone marked apart

-- what reads that meet none since their instant saw then is what stands there now
pub present_of : (h : History) → IsChecked h → (id : ℕ) → ChangesByTransactions h.opened h.accepted id → (instant : ℕ) (reads : List Mark) → (Conflicts instant reads (commits h) → ⊥) → (key : Bytes) → IsCovered reads id key
    → value_at (view h instant) id key ≡ value_at (latest h) id key
present_of h checked id alone instant reads none key covered =
    let i = instant - h.base in
    let late : instant ≤ h.base + i = omega arith in
    sym (stays (view h instant) (drop i h.accepted) id key (changes_drop i h.opened h.accepted id alone) (marked_drop i h.accepted (all_marked h checked)) (apart_from instant reads id key covered i h.base h.accepted late none))
    ∙ ap (λ t. value_at t id key) (sym (fold_append h.opened (commands_of (take i h.accepted)) (commands_of (drop i h.accepted))))
    ∙ ap (λ l. value_at (fold h.opened l) id key) (sym (commands_append (take i h.accepted) (drop i h.accepted)))
    ∙ ap (λ l. value_at (fold h.opened (commands_of l)) id key) (take-append-drop i h.accepted)
