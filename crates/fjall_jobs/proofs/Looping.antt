-- The loop of a job.
use Rattle.std.proofs.Common.{◌≡◌, ◌∙◌, ℕ, zero, suc, ◌<◌, false, List, [], ◌∷◌, ◌++◌, Option, Some, Result, Ok, Err, IfOk, Vec, Global, map, length, get_or, slice_get, slice_set, ap, subst, sym, arith}
use Rattle.std.proofs.lemmas.List.{append-nil, length-append, map-set}
use Rattle.std.specs.List.{AllByRecursion}
use Rattle.fjall_base.specs.declared.error.Error.{Error}
use Rattle.fjall_table.specs.Blocks.{Entry, IsEntry}
use Rattle.fjall_memtable.proofs.Taking.{first_taken, others_once, runs_in_turn, taken}
use Rattle.fjall_memtable.specs.Sorted.{IsFirstOf, flat, sorted}
use Rattle.fjall_jobs.specs.declared.keeper.Keeper.{Keeper}
use Rattle.fjall_jobs.specs.declared.made_table.MadeTable.{MadeTable}
use Rattle.fjall_jobs.specs.Keeping.{AreSorted, KeepsVersions}
use Rattle.fjall_jobs.specs.Sequences.{IsSequence, MakesTables}

-- between two versions: what is left of the runs is in order, and is what is still to come
pub record IsInLoop (runs : List (List Entry)) (k : Keeper) (target : Option ℕ) (whole : List Entry) : Type 0 where
  pub are : AreSorted runs
  pub keeps : KeepsVersions k (sorted (flat runs)) whole
  pub target_is : k.tables.target ≡ target

-- ---- entries in parts

parted : (xs ys : List Entry) → AllByRecursion IsEntry (xs ++ ys) → AllByRecursion IsEntry xs × AllByRecursion IsEntry ys
parted [] ys all = (tt, all)
parted (x ∷ xs) ys all = let p = parted xs ys all.1 in ((all.0, p.0), p.1)

all_but : (xs ys : List Entry) (v : Entry) → AllByRecursion IsEntry (xs ++ (v ∷ ys)) → AllByRecursion IsEntry (xs ++ ys)
all_but [] ys v all = all.1
all_but (x ∷ xs) ys v all = (all.0, all_but xs ys v all.1)

-- ---- the run that comes first

-- an element of mapped elements, looked up
pub looked_up : {X : Type 0} (f : X → List Entry) (xs : List X) (at : ℕ) (d : X) (run : List Entry) → slice_get (map f xs) at ≡ Some run → f (get_or xs at d) ≡ run
looked_up f [] at d run e = absurd cc
looked_up f (x ∷ xs) zero d run e = cc
looked_up f (x ∷ xs) (suc at) d run e = looked_up f xs at d run e

all_here : (runs : List (List Entry)) (at : ℕ) (run : List Entry) → slice_get runs at ≡ Some run → AllByRecursion IsEntry (flat runs) → AllByRecursion IsEntry run
all_here [] at run e all = absurd cc
all_here (r ∷ runs) zero run e all = let is : r ≡ run = cc in subst (AllByRecursion IsEntry) is (parted r (flat runs) all).0
all_here (r ∷ runs) (suc at) run e all = all_here runs at run e (parted r (flat runs) all).1

-- the version that comes first is an entry
pub first_entry : (runs : List (List Entry)) (at : ℕ) (v : Entry) (rest : List Entry) → slice_get runs at ≡ Some (v ∷ rest) → AllByRecursion IsEntry (flat runs) → IsEntry v
first_entry runs at v rest here all = (all_here runs at (v ∷ rest) here all).0

-- ---- one version less

-- it is the next one to be looked at
pub now_keeps : (runs : List (List Entry)) (at : ℕ) (v : Entry) (rest whole : List Entry) (target : Option ℕ) (k : Keeper) → IsInLoop runs k target whole → IsFirstOf false runs at v rest
    → KeepsVersions k (v ∷ sorted (flat (slice_set runs at rest))) whole
now_keeps runs at v rest whole target k loop first = subst (λ (vs : List Entry). KeepsVersions k vs whole) (first_taken false runs at v rest loop.are.ordered loop.are.once first) loop.keeps

-- what was made of the first version, and what is left
pub next_in_loop : {X : Type 0} (f : X → List Entry) (xs : List X) (at : ℕ) (x : X) (v : Entry) (rest whole : List Entry) (target : Option ℕ) (old new : Keeper)
    → IsInLoop (map f xs) old target whole → IsFirstOf false (map f xs) at v rest → f x ≡ rest → KeepsVersions new (sorted (flat (slice_set (map f xs) at rest))) whole
    → new.tables.target ≡ old.tables.target → IsInLoop (map f (slice_set xs at x)) new target whole
next_in_loop f xs at x v rest whole target old new loop first left keeps target_is =
    let runs = map f xs in
    let t = taken runs at v rest first.here in
    let shown : map f (slice_set xs at x) ≡ slice_set runs at rest = map-set f xs at x ∙ ap (λ (r : List Entry). slice_set runs at r) left in
    subst (λ (rs : List (List Entry)). IsInLoop rs new target whole) (sym shown) (record {
      are = record {
        ordered = runs_in_turn false runs at v rest loop.are.ordered first;
        once = others_once false runs at v rest loop.are.once first;
        entries = subst (AllByRecursion IsEntry) (sym t.are) (all_but t.before t.behind v (subst (AllByRecursion IsEntry) t.were loop.are.entries));
      };
      keeps = keeps;
      target_is = target_is ∙ loop.target_is;
    })

-- and one less is left
pub fewer_left : {X : Type 0} (f : X → List Entry) (xs : List X) (at : ℕ) (x : X) (v : Entry) (rest : List Entry) → IsFirstOf false (map f xs) at v rest → f x ≡ rest
    → length (flat (map f (slice_set xs at x))) < length (flat (map f xs))
fewer_left f xs at x v rest first left =
    let runs = map f xs in
    let t = taken runs at v rest first.here in
    let shown : flat (map f (slice_set xs at x)) ≡ t.before ++ t.behind = ap flat (map-set f xs at x ∙ ap (λ (r : List Entry). slice_set runs at r) left) ∙ t.are in
    omega (arith, ap length shown, ap length t.were, length-append t.before t.behind, length-append t.before (v ∷ t.behind))

-- ---- the end

-- where nothing is left all was made
pub made_all : (runs : List (List Entry)) (k : Keeper) (target : Option ℕ) (whole : List Entry) (result : Result (Vec MadeTable Global) Error) → IsInLoop runs k target whole → flat runs ≡ []
    → ((closed : List (List Entry)) → IsSequence k.tables closed → IfOk result (λ tables. MakesTables k.tables.target tables.items (flat closed ++ k.tables.writer)))
    → IfOk result (λ tables. MakesTables target tables.items whole)
made_all runs k target whole (Err e) loop none made = tt
made_all runs k target whole (Ok tables) loop none made =
    let end : KeepsVersions k [] whole = subst (λ (vs : List Entry). KeepsVersions k (sorted vs) whole) none loop.keeps in
    let all : flat end.closed ++ k.tables.writer ≡ whole = sym (append-nil (flat end.closed ++ k.tables.writer)) ∙ end.all in
    subst (λ (t : Option ℕ). MakesTables t tables.items whole) loop.target_is (subst (λ (vs : List Entry). MakesTables k.tables.target tables.items vs) all (made end.closed end.sequence))
