-- Pages over runs some of which stand only partly in memory.
use Rattle.std.proofs.Common.{◌≡◌, ℕ, zero, suc, ◌+◌, ◌-◌, ◌<◌, ◌≤◌, Bool, true, false, cond, List, [], ◌∷◌, ◌++◌, length, length-append, map, take, drop, reverse, get_or, slice_get, slice_set, position, Option, Some, None, IfSome, refl, sym, ap, subst, ◌∙◌, arith, ◌&&◌, ltb, inl, inr}
use Rattle.std.specs.List.{AllByRecursion, position_or_len}
use Rattle.std.proofs.lemmas.Bool.{cases_Bool, ltb-false}
use Rattle.std.proofs.lemmas.List.{append-nil, reverse-reverse, take-append-le}
use Rattle.std.proofs.lemmas.List.Elements.{All-from_recursion, recursion_from_All}
use Rattle.fjall_base.specs.Pairs.{Bytes, KeyRange}
use Rattle.fjall_table.specs.Blocks.{Entry}
use Rattle.fjall_table.specs.Tables.{entries_of, entries_within}
use Rattle.fjall_memtable.specs.Sorted.{IsFirst, IsUpToFirst, flat, in_turn}
use Rattle.fjall_cursors.proofs.Heads.{alone_first}
use Rattle.fjall_cursors.proofs.RunPaging.{made_more, made_all, set_run, got_run}
use Rattle.fjall_cursors.specs.declared.page_run.PageRun.{PageRun}
use Rattle.fjall_cursors.specs.declared.page_run.PageRun.TheVariants.{Memory, Table}
use Rattle.fjall_cursors.specs.declared.page_maker.PageMaker.{PageMaker}
use Rattle.fjall_cursors.specs.declared.page_maker.PageMaker.TheVariants.{Front, Back}
use Rattle.fjall_cursors.specs.Parts.{Ahead}
use Rattle.fjall_cursors.specs.Runs.{ahead_of, all_behind, all_of, behind_of, is_dry, is_empty, joined, left_in}
use Rattle.fjall_cursors.specs.Pages.{IsMade, goes_back, made, made_with}
use Rattle.fjall_cursors.specs.RunPages.{LooksOver}
use Rattle.fjall_cursors.specs.Leads.{Leading, UndryBut}

-- ---- runs none of which has to be filled

-- Where nothing of a list is in memory, nothing is behind it.
abbrev Ready : List (List Entry) → List (List Entry) → Type 0
Ready [] more = Unit {0}
Ready (run ∷ runs) [] = Unit {0}
Ready (run ∷ runs) (rest ∷ more) = (run ≡ [] → rest ≡ []) × Ready runs more

none_taken : (n : ℕ) (blocks : List (List Entry)) → n ≡ 0 → take n blocks ≡ []
none_taken n blocks e = ap (λ (k : ℕ). take k blocks) e

turned_none : (back : Bool) → in_turn {A = Entry} back [] ≡ []
turned_none false = refl
turned_none true = refl

none_left : (back : Bool) (held : List Entry) → in_turn back held ≡ [] → held ≡ []
none_left false held e = e
none_left true held e = sym (reverse-reverse held) ∙ ap (λ (es : List Entry). reverse es) e

past_end : (held : List Entry) (next last : ℕ) → held ≡ [] → (is_empty held && ltb next last) ≡ false → last - next ≡ 0
past_end [] next last e dry = let f : ltb next last ≡ false = dry in omega (arith, ltb-false next last f)
past_end (h ∷ held) next last e dry = absurd (cc e)

ready_one : (range : KeyRange) (blocks : List (List Entry)) (run : PageRun) → is_dry run ≡ false → left_in run ≡ [] → behind_of range blocks (ahead_of run) ≡ []
ready_one range blocks (Memory run) dry e = refl
ready_one range blocks (Table part) dry e =
    let none = past_end part.held part.ahead.next part.ahead.last (none_left part.ahead.back part.held e) dry in
    ap (λ (bs : List (List Entry)). in_turn part.ahead.back (entries_within range (entries_of bs))) (none_taken (part.ahead.last - part.ahead.next) (drop part.ahead.next blocks) none) ∙ turned_none part.ahead.back

ready_all : (range : KeyRange) (tables : List (List (List Entry))) (runs : List PageRun) → AllByRecursion (λ run. is_dry run ≡ false) runs → Ready (map left_in runs) (all_behind range tables (map ahead_of runs))
ready_all range tables [] each = tt
ready_all range [] (run ∷ runs) each = (ready_one range [] run each.0, ready_all range [] runs each.1)
ready_all range (blocks ∷ tables) (run ∷ runs) each = (ready_one range blocks run each.0, ready_all range tables runs each.1)

-- where no element passes a test, each fails it
none_found : {X : Type 0} (p : X → Bool) (xs : List X) → length xs ≤ position_or_len p xs → AllByRecursion (λ x. p x ≡ false) xs
none_found p [] le = tt
none_found p (x ∷ xs) le = elim (cases_Bool (p x)) [
  | inl t ↦ absurd (omega (arith, le, starts t))
  | inr f ↦ (f, none_found p xs (omega (arith, le, goes_on f)))
]
  where
    starts : p x ≡ true → position_or_len p (x ∷ xs) ≡ 0
    starts t = rw t refl

    goes_on : p x ≡ false → position_or_len p (x ∷ xs) ≡ position_or_len p xs + 1
    goes_on f = rw f (omega arith)

none_passes : (t : Bool) (at : ℕ) → cond t (Some at) None ≡ None → t ≡ false
none_passes true at e = absurd (cc e)
none_passes false at e = refl

pub all_undry : (runs : List PageRun) → position is_dry runs ≡ None → AllByRecursion (λ run. is_dry run ≡ false) runs
all_undry runs e = none_found is_dry runs (ltb-false (position_or_len is_dry runs) (length runs) (none_passes (ltb (position_or_len is_dry runs) (length runs)) (position_or_len is_dry runs) e))

pub none_dry : (range : KeyRange) (tables : List (List (List Entry))) (runs : List PageRun) → position is_dry runs ≡ None → Ready (map left_in runs) (all_behind range tables (map ahead_of runs))
none_dry range tables runs e = ready_all range tables runs (all_undry runs e)

-- ---- the first version of all

-- The run at a place with what is behind it.
record IsJoined (lefts behinds : List (List Entry)) (at : ℕ) (v : Entry) (rest : List Entry) : Type 0 where
  more : List Entry
  here : slice_get (joined lefts behinds) at ≡ Some (v ∷ (rest ++ more))
  set : joined (slice_set lefts at rest) behinds ≡ slice_set (joined lefts behinds) at (rest ++ more)

joined_at : (lefts behinds : List (List Entry)) (at : ℕ) (v : Entry) (rest : List Entry) → slice_get lefts at ≡ Some (v ∷ rest) → IsJoined lefts behinds at v rest
joined_at [] behinds at v rest e = absurd cc
joined_at (run ∷ lefts) [] zero v rest e =
    let is : run ≡ v ∷ rest = cc in
    record { more = []; here = ap (λ (r : List Entry). Some (r ++ [])) is; set = refl }
joined_at (run ∷ lefts) (b ∷ behinds) zero v rest e =
    let is : run ≡ v ∷ rest = cc in
    record { more = b; here = ap (λ (r : List Entry). Some (r ++ b)) is; set = refl }
joined_at (run ∷ lefts) [] (suc at) v rest e =
    let j = joined_at lefts [] at v rest e in
    record { more = j.more; here = j.here; set = ap (λ (rs : List (List Entry)). (run ++ []) ∷ rs) j.set }
joined_at (run ∷ lefts) (b ∷ behinds) (suc at) v rest e =
    let j = joined_at lefts behinds at v rest e in
    record { more = j.more; here = j.here; set = ap (λ (rs : List (List Entry)). (run ++ b) ∷ rs) j.set }

up_to_one : (back : Bool) (v : Entry) (run b : List Entry) → IsUpToFirst back v run → (run ≡ [] → b ≡ []) → IsUpToFirst back v (run ++ b)
up_to_one back v [] b h ready = subst (IsUpToFirst back v) (sym (ready refl)) tt
up_to_one back v (w ∷ run) b h ready = h

up_to_all : (back : Bool) (v : Entry) (lefts behinds : List (List Entry)) → Ready lefts behinds → AllByRecursion (IsUpToFirst back v) lefts → AllByRecursion (IsUpToFirst back v) (joined lefts behinds)
up_to_all back v [] behinds ready h = tt
up_to_all back v (run ∷ lefts) [] ready h = (up_to_one back v run [] h.0 (λ e. refl), up_to_all back v lefts [] (none_behind lefts) h.1)
  where
    none_behind : (lefts : List (List Entry)) → Ready lefts []
    none_behind [] = tt
    none_behind (run ∷ lefts) = tt
up_to_all back v (run ∷ lefts) (b ∷ behinds) ready h = (up_to_one back v run b h.0 ready.0, up_to_all back v lefts behinds ready.1 h.1)

none_joined : (lefts behinds : List (List Entry)) → Ready lefts behinds → AllByRecursion (λ run. run ≡ []) lefts → AllByRecursion (λ run. run ≡ []) (joined lefts behinds)
none_joined [] behinds ready h = tt
none_joined (run ∷ lefts) [] ready h = (append-nil run ∙ h.0, none_joined lefts [] (none_behind lefts) h.1)
  where
    none_behind : (lefts : List (List Entry)) → Ready lefts []
    none_behind [] = tt
    none_behind (run ∷ lefts) = tt
none_joined (run ∷ lefts) (b ∷ behinds) ready h = (ap (λ (r : List Entry). r ++ b) h.0 ∙ ready.0 h.0, none_joined lefts behinds ready.1 h.1)

-- ---- one version

joined_more : (back : Bool) (lefts behinds others : List (List Entry)) (at : ℕ) (left rest_left : List Entry) (whole : List (Bytes × Bytes)) (all all_new : List Entry → List (Bytes × Bytes)) (made_yet made_new : List (Bytes × Bytes)) (max : ℕ)
    → IsMade back (joined lefts behinds) whole all made_yet max → Ready lefts behinds → IsFirst back lefts (Some at) → slice_get lefts at ≡ Some left → others ≡ slice_set lefts at rest_left
    → ((v : Entry) (rest : List Entry) → left ≡ v ∷ rest → rest_left ≡ rest)
    → ((v : Entry) (rest versions : List Entry) → left ≡ v ∷ rest → all_new versions ≡ all (v ∷ versions))
    → length made_new ≤ length made_yet + 1 → length made_yet < max → IsMade back (joined others behinds) whole all_new made_new max
joined_more back lefts behinds others at left rest_left whole all all_new made_yet made_new max is ready first get set passed looked few lt =
    let v = first.0 in
    let rest = first.1 in
    let same_left : (l m : List Entry) → slice_get lefts at ≡ Some l → slice_get lefts at ≡ Some m → l ≡ m = λ l m e f. cc (e, f) in
    let begins : left ≡ v ∷ rest = same_left left (v ∷ rest) get first.2.here in
    let j = joined_at lefts behinds at v rest first.2.here in
    let same : joined others behinds ≡ slice_set (joined lefts behinds) at (rest ++ j.more) = ap (λ (rs : List (List Entry)). joined rs behinds) (set ∙ ap (λ (run : List Entry). slice_set lefts at run) (passed v rest begins)) ∙ j.set in
    let up = All-from_recursion (IsUpToFirst back v) (joined lefts behinds) (up_to_all back v lefts behinds ready (recursion_from_All (IsUpToFirst back v) lefts first.2.first)) in
    made_more back (joined lefts behinds) (joined others behinds) at (v ∷ (rest ++ j.more)) (rest ++ j.more) whole all all_new made_yet made_new max
    is (v, rest ++ j.more, record { here = j.here; first = up }) j.here same
    (λ w behind e. cc e) (λ w behind versions e. looked v rest versions begins ∙ ap (λ (u : Entry). all (u ∷ versions)) (head_of v w (rest ++ j.more) behind e)) few lt
  where
    head_of : (v w : Entry) (vs ws : List Entry) → v ∷ vs ≡ w ∷ ws → v ≡ w
    head_of v w vs ws e = cc e

-- all was looked at
pub joined_all : (back : Bool) (lefts behinds : List (List Entry)) (whole : List (Bytes × Bytes)) (all : List Entry → List (Bytes × Bytes)) (made_yet : List (Bytes × Bytes)) (max : ℕ) → IsMade back (joined lefts behinds) whole all made_yet max → Ready lefts behinds → IsFirst back lefts None → all [] ≡ whole
joined_all back lefts behinds whole all made_yet max is ready none =
    made_all back (joined lefts behinds) whole all made_yet max is
    (All-from_recursion (λ run. run ≡ []) (joined lefts behinds) (none_joined lefts behinds ready (recursion_from_All (λ run. run ≡ []) lefts none)))

-- ---- runs of a page

pub same_set : {A : Type 0} (xs : List A) (i : ℕ) (x : A) → slice_get xs i ≡ Some x → slice_set xs i x ≡ xs
same_set [] i x e = absurd (cc e)
same_set (y ∷ xs) zero x e = let same : y ≡ x = cc e in ap (λ (z : _). z ∷ xs) (sym same)
same_set (y ∷ xs) (suc i) x e = ap (λ (ys : List _). y ∷ ys) (same_set xs i x e)

set_again : {A : Type 0} (xs : List A) (i : ℕ) (x y : A) → slice_set (slice_set xs i x) i y ≡ slice_set xs i y
set_again [] i x y = refl
set_again (z ∷ xs) zero x y = refl
set_again (z ∷ xs) (suc i) x y = ap (λ (zs : List _). z ∷ zs) (set_again xs i x y)

-- a run that was passed on has the same blocks to come
pub same_ahead : (runs : List PageRun) (at : ℕ) (d new : PageRun) → at < length runs → ahead_of new ≡ ahead_of (get_or runs at d) → map ahead_of (slice_set runs at new) ≡ map ahead_of runs
same_ahead runs at d new lt same = set_run ahead_of runs at new ∙ same_set (map ahead_of runs) at (ahead_of new) (got_run ahead_of runs at d lt ∙ ap (λ a. Some a) (sym same))

-- a full page
pub full : (page : PageMaker) (max : ℕ) (versions : List Entry) → max ≤ length (made page) → take max (made_with page []) ≡ take max (made_with page versions)
full (Front page) max versions le = take-append-le max (made (Front page)) _ le ∙ sym (take-append-le max (made (Front page)) _ le)
full (Back page) max versions le = take-append-le max (made (Back page)) _ le ∙ sym (take-append-le max (made (Back page)) _ le)

-- What a page is gone on with.
pub record Going (back : Bool) (max : ℕ) (first_page page : PageMaker) (first_runs runs : List PageRun) : Type 0 where
  pub end : goes_back page ≡ back
  pub ahead : map ahead_of runs ≡ map ahead_of first_runs
  pub all : (range : KeyRange) (tables : List (List (List Entry))) (whole : List (Bytes × Bytes)) → IsMade back (all_of range tables first_runs) whole (made_with first_page) (made first_page) max → IsMade back (all_of range tables runs) whole (made_with page) (made page) max
  pub few : length (made first_page) ≤ max → length (made page) ≤ max

pub going_more : (back : Bool) (max : ℕ) (first_page page after : PageMaker) (first_runs runs : List PageRun) (at : ℕ) (d new : PageRun) → Going back max first_page page first_runs runs
    → length (made page) < max → AllByRecursion (λ run. is_dry run ≡ false) runs → IsFirst back (map left_in runs) (Some at) → at < length runs
    → ahead_of new ≡ ahead_of (get_or runs at d) → goes_back after ≡ goes_back page
    → ((v : Entry) (rest : List Entry) → left_in (get_or runs at d) ≡ v ∷ rest → left_in new ≡ rest)
    → ((v : Entry) (rest versions : List Entry) → left_in (get_or runs at d) ≡ v ∷ rest → made_with after versions ≡ made_with page (v ∷ versions))
    → length (made after) ≤ length (made page) + 1
    → Going back max first_page after first_runs (slice_set runs at new)
going_more back max first_page page after first_runs runs at d new g lt dry first within ahead ends passed looked few =
    let kept = same_ahead runs at d new within ahead in
    record {
      end = ends ∙ g.end;
      ahead = kept ∙ g.ahead;
      all = λ range tables whole is.
          subst (λ (ahead : List (Option Ahead)). IsMade back (joined (map left_in (slice_set runs at new)) (all_behind range tables ahead)) whole (made_with after) (made after) max) (sym kept)
          (joined_more back (map left_in runs) (all_behind range tables (map ahead_of runs)) (map left_in (slice_set runs at new)) at (left_in (get_or runs at d)) (left_in new) whole (made_with page) (made_with after) (made page) (made after) max
          (g.all range tables whole is) (ready_all range tables runs dry) first (got_run left_in runs at d within) (set_run left_in runs at new) passed looked few lt);
      few = λ le. omega (arith, few, lt);
    }

-- ---- a run that alone has versions

ready_set : (lefts behinds : List (List Entry)) (at : ℕ) (v : Entry) (rest : List Entry) → Ready lefts behinds → Ready (slice_set lefts at (v ∷ rest)) behinds
ready_set [] behinds at v rest ready = tt
ready_set (run ∷ lefts) [] zero v rest ready = tt
ready_set (run ∷ lefts) [] (suc at) v rest ready = tt
ready_set (run ∷ lefts) (b ∷ behinds) zero v rest ready = (λ e. absurd (cc e), ready.1)
ready_set (run ∷ lefts) (b ∷ behinds) (suc at) v rest ready = (ready.0, ready_set lefts behinds at v rest ready.1)

got_set : {A : Type 0} (xs : List A) (i : ℕ) (x y : A) → slice_get xs i ≡ Some x → slice_get (slice_set xs i y) i ≡ Some y
got_set [] i x y e = absurd (cc e)
got_set (z ∷ xs) zero x y e = refl
got_set (z ∷ xs) (suc i) x y e = got_set xs i x y e

-- its versions are looked at one behind another
joined_on : (back : Bool) (lefts behinds : List (List Entry)) (at : ℕ) (front rest : List Entry) (whole : List (Bytes × Bytes)) (all : List Entry → List (Bytes × Bytes)) (made_yet made_new : List (Bytes × Bytes)) (max : ℕ)
    → IsMade back (joined lefts behinds) whole all made_yet max → ((v : Entry) (more : List Entry) → Ready (slice_set lefts at (v ∷ more)) behinds) → slice_get lefts at ≡ Some (front ++ rest) → IsFirst back (slice_set lefts at []) None
    → length made_yet < max → length made_new ≤ max → IsMade back (joined (slice_set lefts at rest) behinds) whole (λ versions. all (front ++ versions)) made_new max
joined_on back lefts behinds at [] rest whole all made_yet made_new max is ready get none lt le =
    subst (λ (rs : List (List Entry)). IsMade back (joined rs behinds) whole all made_new max) (sym (same_set lefts at rest get)) (record { ordered = is.ordered; once = is.once; told = is.told; few = le })
joined_on back lefts behinds at (v ∷ front) rest whole all made_yet made_new max is ready get none lt le =
    let more : List Entry = front ++ rest in
    let next : List (List Entry) = slice_set lefts at more in
    let here : Ready lefts behinds = subst (λ (rs : List (List Entry)). Ready rs behinds) (same_set lefts at (v ∷ more) get) (ready v more) in
    let one : IsMade back (joined next behinds) whole (λ versions. all (v ∷ versions)) made_yet max =
    joined_more back lefts behinds next at (v ∷ more) more whole all (λ versions. all (v ∷ versions)) made_yet made_yet max is here (alone_first back lefts at (v ∷ more) v get refl none) get refl
    (λ u rest e. cc e) (λ u rest versions e. ap (λ (w : Entry). all (w ∷ versions)) (same_head v u more rest e)) (omega arith) lt in
    subst (λ (rs : List (List Entry)). IsMade back (joined rs behinds) whole (λ versions. all (v ∷ (front ++ versions))) made_new max) (set_again lefts at more rest)
    (joined_on back next behinds at front rest whole (λ versions. all (v ∷ versions)) made_yet made_new max one
    (λ u behind. subst (λ (rs : List (List Entry)). Ready rs behinds) (sym (set_again lefts at more (u ∷ behind))) (ready u behind))
    (got_set lefts at (v ∷ more) more get)
    (subst (λ (rs : List (List Entry)). IsFirst back rs None) (sym (set_again lefts at more [])) none) lt le)
  where
    same_head : (v u : Entry) (more rest : List Entry) → v ∷ more ≡ u ∷ rest → v ≡ u
    same_head v u more rest e = cc e

-- a page that looked over some versions of the one run that has any
pub going_on : (back : Bool) (max : ℕ) (first_page page after : PageMaker) (first_runs runs : List PageRun) (at : ℕ) (d new : PageRun) → Going back max first_page page first_runs runs
    → length (made page) < max → AllByRecursion (λ run. is_dry run ≡ false) runs → IsFirst back (slice_set (map left_in runs) at []) None → at < length runs
    → ahead_of new ≡ ahead_of (get_or runs at d) → goes_back after ≡ goes_back page
    → LooksOver (left_in (get_or runs at d)) (left_in new) (made_with page) (made_with after)
    → length (made after) ≤ max
    → Going back max first_page after first_runs (slice_set runs at new)
going_on back max first_page page after first_runs runs at d new g lt dry none within ahead ends over few =
    let kept = same_ahead runs at d new within ahead in
    record {
      end = ends ∙ g.end;
      ahead = kept ∙ g.ahead;
      all = λ range tables whole is.
          let behinds : List (List Entry) = all_behind range tables (map ahead_of runs) in
          let ready = ready_all range tables runs dry in
          let on = joined_on back (map left_in runs) behinds at over.front (left_in new) whole (made_with page) (made page) (made after) max (g.all range tables whole is)
          (λ v more. ready_set (map left_in runs) behinds at v more ready) (got_run left_in runs at d within ∙ ap Some over.passed) none lt few in
          let same : slice_set (map left_in runs) at (left_in new) ≡ map left_in (slice_set runs at new) = sym (set_run left_in runs at new) in
          subst (λ (ahead : List (Option Ahead)). IsMade back (joined (map left_in (slice_set runs at new)) (all_behind range tables ahead)) whole (made_with after) (made after) max) (sym kept)
          (subst (λ (rs : List (List Entry)). IsMade back (joined rs behinds) whole (made_with after) (made after) max) same
          (record { ordered = on.ordered; once = on.once; told = over.looked _ ∙ on.told; few = few }));
      few = λ le. few;
    }

-- fewer versions are left where one run has fewer
pub flat_fewer : (runs : List (List Entry)) (at : ℕ) (left rest : List Entry) → slice_get runs at ≡ Some left → length rest < length left → length (flat (slice_set runs at rest)) < length (flat runs)
flat_fewer [] at left rest e less = absurd (cc e)
flat_fewer (run ∷ runs) zero left rest e less =
    let same : run ≡ left = cc e in
    let a = length-append rest (flat runs) in
    let b = length-append run (flat runs) in
    let n = ap length same in
    omega (arith, a, b, n, less)
flat_fewer (run ∷ runs) (suc at) left rest e less =
    let fewer = flat_fewer runs at left rest e less in
    let a = length-append run (flat (slice_set runs at rest)) in
    let b = length-append run (flat runs) in
    omega (arith, a, b, fewer)

-- ---- a run that goes on

undry_but : (at : ℕ) (runs : List PageRun) → AllByRecursion (λ run. is_dry run ≡ false) runs → UndryBut at runs
undry_but at [] each = tt
undry_but zero (run ∷ runs) each = each.1
undry_but (suc at) (run ∷ runs) each = (each.0, undry_but at runs each.1)

undry_set : (at : ℕ) (runs : List PageRun) (new : PageRun) → UndryBut at runs → UndryBut at (slice_set runs at new)
undry_set at [] new each = tt
undry_set zero (run ∷ runs) new each = each
undry_set (suc at) (run ∷ runs) new each = (each.0, undry_set at runs new each.1)

-- what has a version in memory needn't be filled
undry_one : (run : PageRun) (v : Entry) (rest : List Entry) → left_in run ≡ v ∷ rest → is_dry run ≡ false
undry_one (Memory run) v rest e = refl
undry_one (Table part) v rest e = by part.held refl
  where
    by : (held : List Entry) → part.held ≡ held → (is_empty part.held && ltb part.ahead.next part.ahead.last) ≡ false
    by [] none = absurd (nothing_first (sym e ∙ ap (in_turn part.ahead.back) none ∙ turned_none part.ahead.back))
      where
        nothing_first : v ∷ rest ≡ [] → ⊥
        nothing_first f = cc f
    by (h ∷ held) some = rw some refl

undry_all : (at : ℕ) (runs : List PageRun) (v : Entry) (rest : List Entry) → UndryBut at runs → slice_get (map left_in runs) at ≡ Some (v ∷ rest) → AllByRecursion (λ run. is_dry run ≡ false) runs
undry_all at [] v rest each e = tt
undry_all zero (run ∷ runs) v rest each e = (undry_one run v rest (cc e), each)
undry_all (suc at) (run ∷ runs) v rest each e = (each.0, undry_all at runs v rest each.1 e)

set_length : {A : Type 0} (xs : List A) (i : ℕ) (x : A) → length (slice_set xs i x) ≡ length xs
set_length [] i x = refl
set_length (y ∷ xs) zero x = refl
set_length (y ∷ xs) (suc i) x = ap suc (set_length xs i x)

-- the two runs that come first, of some none of which has to be filled
pub leading : (back : Bool) (runs : List PageRun) (two : ℕ × Option ℕ) → AllByRecursion (λ run. is_dry run ≡ false) runs → IsFirst back (map left_in runs) (Some two.0) → IsFirst back (slice_set (map left_in runs) two.0 []) two.1 → two.0 < length runs → IfSome two.1 (λ other. other < length runs)
    → Leading back runs two.0 two.1
leading back runs two undry first second within other_within = record { within = within; other_within = other_within; first = first; second = second; undry = undry }

pub undry_has : (runs : List PageRun) (at : ℕ) → UndryBut at runs → ((v : Entry) × (rest : List Entry) × (slice_get (map left_in runs) at ≡ Some (v ∷ rest))) → AllByRecursion (λ run. is_dry run ≡ false) runs
undry_has runs at undry has = undry_all at runs has.0 has.1 undry has.2

pub leading_of : (back : Bool) (runs : List PageRun) (at : ℕ) (next : Option (ℕ × Option ℕ)) → UndryBut at runs → IfSome next (λ two. IsFirst back (map left_in runs) (Some two.0)) → IfSome next (λ two. IsFirst back (slice_set (map left_in runs) two.0 []) two.1)
    → IfSome next (λ two. two.0 < length runs) → IfSome next (λ two. IfSome two.1 (λ other. other < length runs)) → IfSome next (λ _. (v : Entry) × (rest : List Entry) × (slice_get (map left_in runs) at ≡ Some (v ∷ rest))) → IfSome next (λ two. Leading back runs two.0 two.1)
leading_of back runs at None undry first second within other has = tt
leading_of back runs at (Some two) undry first second within other has = leading back runs two (undry_has runs at undry has) first second within other

-- what stands of the first of them, once it was passed on
pub record Passed (back : Bool) (runs : List PageRun) (at : ℕ) (other : Option ℕ) : Type 0 where
  pub within : at < length runs
  pub other_within : IfSome other (λ other. other < length runs)
  pub undry : UndryBut at runs
  pub second : IsFirst back (slice_set (map left_in runs) at []) other

pub passed_on : (back : Bool) (runs : List PageRun) (at : ℕ) (other : Option ℕ) (new : PageRun) → Leading back runs at other → Passed back (slice_set runs at new) at other
passed_on back runs at other new l =
    let long = sym (set_length runs at new) in
    record {
      within = subst (λ (n : ℕ). at < n) long l.within;
      other_within = subst (λ (n : ℕ). IfSome other (λ other. other < n)) long l.other_within;
      undry = undry_set at runs new (undry_but at runs l.undry);
      second = subst (λ (rs : List (List Entry)). IsFirst back rs other) (sym (ap (λ (rs : List (List Entry)). slice_set rs at []) (set_run left_in runs at new) ∙ set_again (map left_in runs) at (left_in new) [])) l.second;
    }

-- The two runs that a page goes on with, if any, and fewer versions are left than at first, or as many before one was looked at.
abbrev pub IsNext : Bool → ℕ → List PageRun → PageMaker → List PageRun → Option (ℕ × Option ℕ) → Type 0
IsNext back max first page runs None = length (flat (map left_in runs)) < length (flat (map left_in first))
IsNext back max first page runs (Some two) = Leading back runs two.0 two.1 × (length (made page) < max) × (length (flat (map left_in runs)) ≤ length (flat (map left_in first)))

pub next_of : (back : Bool) (max : ℕ) (first : List PageRun) (page : PageMaker) (runs : List PageRun) (next : Option (ℕ × Option ℕ)) → length (flat (map left_in runs)) < length (flat (map left_in first)) → IfSome next (λ _. length (made page) < max) → IfSome next (λ two. Leading back runs two.0 two.1)
    → IsNext back max first page runs next
next_of back max first page runs None fewer room leads = fewer
next_of back max first page runs (Some two) fewer room leads = (leads, room, omega (arith, fewer))
