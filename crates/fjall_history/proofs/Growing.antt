-- Histories that grow: what stays checked, and which transactions committed.
use Rattle.std.proofs.Common.{◌≡◌, ◌⊎◌, inl, inr, ⊎_elim, ℕ, zero, suc, ◌+◌, ◌≤◌, ◌<◌, true, cond, All, List, [], ◌∷◌, ◌++◌, length, map, take, Option, None, Some, unwrap_or, refl, sym, ◌∙◌, ap, subst, arith, append_assoc}
use Rattle.std.proofs.lemmas.List.{append-nil}
use Rattle.std.proofs.lemmas.List.Elements.{All-cons, All-contains, All-filter, All-nil, All-weaker, filter-append}
use Rattle.std.proofs.lemmas.Bool.Decides.{nat_tests}
use Rattle.std.proofs.lemmas.Option.{none-some}
use Rattle.std.specs.Prelude.{nat_le, slice_get}
use Rattle.fjall_base.specs.Store.{Command, Store}
use Rattle.fjall_tx.specs.Marks.{Mark}
use Rattle.fjall_tx.specs.declared.oracle.Committed.{Committed}
use Rattle.fjall_tx.specs.Oracles.{Conflicts, commit_of, pruned, with_commit}
use Rattle.fjall_tx.proofs.Commits.{with_last_commit}
use Rattle.fjall_history.specs.Histories.{Accepted, Commit, History, commits, commits_from, extended, grown, number, plain, with_commit_at}
use Rattle.fjall_history.specs.Checked.{IsChecked, MayCommit}

-- ---- what stays checked

some_same : {X : Type 0} (x y d : X) → Some x ≡ Some y → x ≡ y
some_same x y d e = ap (λ o. unwrap_or o d) e

-- what stands at a place of a list with one more
at_end : {X : Type 0} (xs : List X) (x a : X) (k : ℕ) → slice_get (xs ++ x ∷ []) k ≡ Some a → ((slice_get xs k ≡ Some a) × (take k (xs ++ x ∷ []) ≡ take k xs)) ⊎ ((x ≡ a) × (take k (xs ++ x ∷ []) ≡ xs))
at_end [] x a zero e = inr (some_same x a x e, refl)
at_end [] x a (suc k) e = absurd (none-some a e)
at_end (y ∷ ys) x a zero e = inl (e, refl)
at_end (y ∷ ys) x a (suc k) e = ⊎_elim (λ h. inl (h.0, ap (λ l. y ∷ l) h.1)) (λ h. inr (h.0, ap (λ l. y ∷ l) h.1)) (at_end ys x a k e)

checked_grown : (h : History) (x : Accepted) → IsChecked h → ((c : Commit) → x.commit ≡ Some c → MayCommit h x.command c) → IsChecked (grown h x)
checked_grown h x checked new k a c at is = ⊎_elim
    (λ e. subst (λ l. MayCommit (record h { accepted = l }) a.command c) (sym e.1) (checked k a c e.0 is))
    (λ e. subst (λ l. MayCommit (record h { accepted = l }) a.command c) (sym e.1) (subst (λ (b : Accepted). MayCommit h b.command c) e.0 (new c (ap (λ (b : Accepted). b.commit) e.0 ∙ is))))
    (at_end h.accepted x a k at)

pub checked_opening : (opened : Store) (base : ℕ) → IsChecked (record { opened = opened; base = base; accepted = [] })
checked_opening opened base k a c at is = absurd (none-some a at)

pub checked_plain : (h : History) (command : Command) → IsChecked h → IsChecked (grown h (plain command))
checked_plain h command checked = checked_grown h (plain command) checked (λ c is. absurd (none-some c is))

pub checked_commit : (h : History) (command : Command) (c : Commit) → IsChecked h → MayCommit h command c → IsChecked (grown h (record { command = command; commit = Some c }))
checked_commit h command c checked may =
    checked_grown h (record { command = command; commit = Some c }) checked (λ d is. subst (MayCommit h command) (some_same c d c is) may)

-- one plain command, and then the others
one_by_one : (h : History) (command : Command) (commands : List Command) → extended (grown h (plain command)) (map plain commands) ≡ extended h (map plain (command ∷ commands))
one_by_one h command commands = λ i. record h { accepted = append_assoc h.accepted (plain command ∷ []) (map plain commands) i }

pub checked_many : (h : History) (commands : List Command) → IsChecked h → IsChecked (extended h (map plain commands))
checked_many h [] checked = subst (λ l. IsChecked (record h { accepted = l })) (sym (append-nil h.accepted)) checked
checked_many h (command ∷ commands) checked =
    subst IsChecked (one_by_one h command commands) (checked_many (grown h (plain command)) commands (checked_plain h command checked))

-- ---- which transactions committed

commit_before : (n : ℕ) (o : Option Commit) (xs ys : List Committed) → with_commit_at n o (xs ++ ys) ≡ with_commit_at n o xs ++ ys
commit_before n None xs ys = refl
commit_before n (Some c) xs ys = refl

commits_append : (n : ℕ) (xs ys : List Accepted) → commits_from n (xs ++ ys) ≡ commits_from n xs ++ commits_from (n + length xs) ys
commits_append n [] ys = ap (λ m. commits_from m ys) (let e : n ≡ n + 0 = omega arith in e)
commits_append n (x ∷ xs) ys =
    ap (with_commit_at n x.commit) (commits_append (n + 1) xs ys)
    ∙ commit_before n x.commit (commits_from (n + 1) xs) (commits_from (n + 1 + length xs) ys)
    ∙ ap (λ m. with_commit_at n x.commit (commits_from (n + 1) xs) ++ commits_from m ys) (let e : n + 1 + length xs ≡ n + suc (length xs) = omega arith in e)

pub commits_plain : (h : History) (command : Command) → commits (grown h (plain command)) ≡ commits h
commits_plain h command = commits_append h.base h.accepted (plain command ∷ []) ∙ append-nil (commits h)

pub commits_commit : (h : History) (command : Command) (c : Commit) → commits (grown h (record { command = command; commit = Some c })) ≡ commits h ++ commit_of (number h) c.marks.writes ∷ []
commits_commit h command c = commits_append h.base h.accepted (record { command = command; commit = Some c } ∷ [])

pub commits_many : (h : History) (commands : List Command) → commits (extended h (map plain commands)) ≡ commits h
commits_many h [] = ap (commits_from h.base) (append-nil h.accepted)
commits_many h (command ∷ commands) = ap commits (sym (one_by_one h command commands)) ∙ commits_many (grown h (plain command)) commands ∙ commits_plain h command

-- ---- their numbers

abbrev IsBetween : ℕ → ℕ → Committed → Type 0
IsBetween low high c = (low ≤ c.number) × (c.number < high)

wider : (low high : ℕ) (cs : List Committed) → All (IsBetween (low + 1) high) cs → All (IsBetween low high) cs
wider low high cs all = All-weaker (IsBetween (low + 1) high) (IsBetween low high) (λ c h. (omega (arith, h.0), h.1)) cs all

more_between : (low high : ℕ) (o : Option Commit) (cs : List Committed) → low < high → All (IsBetween low high) cs → All (IsBetween low high) (with_commit_at low o cs)
more_between low high None cs lt all = all
more_between low high (Some c) cs lt all = All-cons (IsBetween low high) (commit_of low c.marks.writes) cs (omega arith, lt) all

between : (n m : ℕ) (accepted : List Accepted) → m ≡ n + length accepted → All (IsBetween n m) (commits_from n accepted)
between n m [] is = All-nil (IsBetween n m)
between n m (a ∷ accepted) is = more_between n m a.commit (commits_from (n + 1) accepted) (omega (arith, is)) (wider n m (commits_from (n + 1) accepted) (between (n + 1) m accepted (omega (arith, is))))

pub numbered : (h : History) → All (λ c. (h.base ≤ c.number) × (c.number < number h)) (commits h)
numbered h = between h.base (number h) h.accepted refl

-- ---- what an oracle keeps

pub no_present_conflict : (h : History) (reads : List Mark) → Conflicts (number h) reads (commits h) → ⊥
no_present_conflict h reads x =
    let early = All-contains (IsBetween h.base (number h)) (commits h) x.commit (numbered h) x.is_committed in
    absurd (omega (arith, early.1, x.is_late))

kept_last : (c : Committed) (watermark : ℕ) → watermark ≤ c.number → pruned (c ∷ []) watermark ≡ c ∷ []
kept_last c watermark le = let yes : nat_le watermark c.number ≡ true = grind (arith, nat_tests) in ap (λ b. cond b (c ∷ []) []) yes

pub still_pruned : (h : History) (command : Command) (c : Commit) (watermark : ℕ) → watermark ≤ number h
    → with_commit (pruned (commits h) watermark) (commit_of (number h) c.marks.writes) ≡ pruned (commits (grown h (record { command = command; commit = Some c }))) watermark
still_pruned h command c watermark le =
    let one = commit_of (number h) c.marks.writes in
    let below : All (λ (d : Committed). d.number ≤ number h) (commits h) = All-weaker (IsBetween h.base (number h)) (λ (d : Committed). d.number ≤ number h) (λ d is. omega (arith, is.1)) (commits h) (numbered h) in
    with_last_commit (pruned (commits h) watermark) one (All-filter (λ (d : Committed). nat_le watermark d.number) (λ (d : Committed). d.number ≤ number h) (commits h) below)
    ∙ ap (λ l. pruned (commits h) watermark ++ l) (sym (kept_last one watermark le))
    ∙ sym (filter-append (λ (d : Committed). nat_le watermark d.number) (commits h) (one ∷ []))
    ∙ ap (λ l. pruned l watermark) (sym (commits_commit h command c))
