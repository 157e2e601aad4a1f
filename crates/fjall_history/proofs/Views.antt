-- Views of a history, and what one more command does to them.
use Rattle.std.proofs.Common.{◌≡◌, ℕ, ◌-◌, ◌≤◌, List, [], ◌∷◌, ◌++◌, refl, sym, ap, ◌∙◌, arith, length-append, append_assoc}
use Rattle.std.proofs.lemmas.List.{append-nil, map-append, take_all, take-append-le}
use Rattle.fjall_base.specs.Store.{Command, Store, apply, fold}
use Rattle.fjall_history.specs.Histories.{Accepted, History, commands_of, command_of, extended, grown, latest, number, view}
use Rattle.fjall_history.specs.Moves.{HasGrown}

pub commands_append : (xs ys : List Accepted) → commands_of (xs ++ ys) ≡ commands_of xs ++ commands_of ys
commands_append xs ys = map-append command_of xs ys

pub fold_append : (s : Store) (xs ys : List Command) → fold s (xs ++ ys) ≡ fold (fold s xs) ys
fold_append s [] ys = refl
fold_append s (x ∷ xs) ys = fold_append (apply s x) xs ys

pub one_more : (h : History) (a : Accepted) → latest (grown h a) ≡ apply (latest h) a.command
one_more h a = ap (fold h.opened) (commands_append h.accepted (a ∷ [])) ∙ fold_append h.opened (commands_of h.accepted) (a.command ∷ [])

pub some_more : (h : History) (more : List Accepted) → latest (extended h more) ≡ fold (latest h) (commands_of more)
some_more h more = ap (fold h.opened) (commands_append h.accepted more) ∙ fold_append h.opened (commands_of h.accepted) (commands_of more)

-- the view at the visible number, or at any later one, shows all
pub view_of_all : (h : History) (instant : ℕ) → number h ≤ instant → view h instant ≡ latest h
view_of_all h instant le = ap (λ (l : List Accepted). fold h.opened (commands_of l)) (take_all (instant - h.base) h.accepted (omega (arith, le)))

-- what is accepted later doesn't show
pub view_stays : (h : History) (more : List Accepted) (instant : ℕ) → instant ≤ number h → view (extended h more) instant ≡ view h instant
view_stays h more instant le =
    ap (λ (l : List Accepted). fold h.opened (commands_of l)) (take-append-le (instant - h.base) h.accepted more (omega (arith, le)))

-- ---- growing

pub same_grown : (h : History) → HasGrown h h
same_grown h = ([], λ i. record h { accepted = sym (append-nil h.accepted) i })

pub grown_on : (old mid new : History) → HasGrown old mid → HasGrown mid new → HasGrown old new
grown_on old mid new (xs, a) (ys, b) =
    (xs ++ ys, b ∙ ap (λ (h : History). extended h ys) a ∙ (λ i. record old { accepted = append_assoc old.accepted xs ys i }))

pub number_grown : (old new : History) → HasGrown old new → number old ≤ number new
number_grown old new (more, is) = let n = ap number is in let l = length-append old.accepted more in omega (arith, n, l)

pub view_grown : (old new : History) (instant : ℕ) → HasGrown old new → instant ≤ number old → view new instant ≡ view old instant
view_grown old new instant (more, is) le = ap (λ (h : History). view h instant) is ∙ view_stays old more instant le
