-- What small moves keep of a history and its tickets.
use Rattle.std.proofs.Common.{◌≡◌, ◌⊎◌, inl, inr, ⊎_elim, ℕ, zero, suc, ◌+◌, ◌-◌, ◌≤◌, ◌<◌, ◌==◌, max, true, false, cond, [], ◌∷◌, None, Some, unwrap_or, refl, sym, ap, subst, ◌∙◌, arith, length-append}
use Rattle.std.proofs.lemmas.Option.{none-some}
use Rattle.std.specs.FinMap.{FinMap, get, get-empty, remove, values}
use Rattle.std.specs.Ordering.{nat_cmp}
use Rattle.fjall_history.specs.Histories.{History, number, view}
use Rattle.fjall_history.specs.Moves.{Accepts, AreSound, Closes, Collects, HasGrown, IsSpared, MayOpen, Moves, MovesOn, NoMove, OneMove, Opens, Rests, Times}
use Rattle.fjall_history.specs.Tickets.{Tickets, closed, collected, counted, least, no_tickets}
use Rattle.fjall_history.proofs.Counts.{least_below, least_from, least_of, open_value, value_open}
use Rattle.fjall_history.proofs.Maps.{found_before, found_in}
use Rattle.fjall_history.proofs.Views.{grown_on, same_grown, view_grown}

-- ---- a closing that is counted

-- it leaves the tickets, and collects or leaves the watermark
record Counted (visible : ℕ) (t new : Tickets) : Type 0 where
  pub instants : new.instants ≡ t.instants
  pub next : new.next ≡ t.next
  pub watermark : (new.watermark ≡ t.watermark) ⊎ (new.watermark ≡ (collected visible t).watermark)

counting : (visible : ℕ) (t : Tickets) → Counted visible t (counted visible t)
counting visible t =
    elim (t.closings + 1 == 10000) as (λ b. Counted visible t (cond b (collected visible (record t { closings = 0 })) (record t { closings = t.closings + 1 }))) [
      | true ↦ record { instants = refl; next = refl; watermark = inr refl }
      | false ↦ record { instants = refl; next = refl; watermark = inl refl }
    ]

closing : (visible id : ℕ) (t : Tickets) → Counted visible (record t { instants = remove t.instants id }) (closed visible id t)
closing visible id t = counting visible (record t { instants = remove t.instants id })

-- ---- one move

-- an open ticket that was given out before was open before, at the same instant
was_open : (old new : Times) → Moves old new → (id instant : ℕ) → id < old.tickets.next → get new.tickets.instants id ≡ Some instant → get old.tickets.instants id ≡ Some instant
was_open old new (Rests same) id instant lt is = ap (λ (t : Times). get t.tickets.instants id) (sym same) ∙ is
was_open old new (Accepts one same) id instant lt is = ap (λ (t : Times). get t.tickets.instants id) (sym same) ∙ is
was_open old new (Opens at may same) id instant lt is =
    ⊎_elim (λ e. let k = e.0 in absurd (omega (arith, k, lt))) (λ there. there)
    (found_in old.tickets.instants old.tickets.next at id instant (ap (λ (t : Times). get t.tickets.instants id) (sym same) ∙ is))
was_open old new (Closes k there same) id instant lt is =
    found_before old.tickets.instants k id instant
    (ap (λ m. get m id) (sym (closing (number old.history) k old.tickets).instants) ∙ ap (λ (t : Times). get t.tickets.instants id) (sym same) ∙ is)
was_open old new (Collects same) id instant lt is = ap (λ (t : Times). get t.tickets.instants id) (sym same) ∙ is

-- ids are given out upwards
pub given_up : (old new : Times) → Moves old new → old.tickets.next ≤ new.tickets.next
given_up old new (Rests same) = let n = ap (λ (t : Times). t.tickets.next) same in omega (arith, n)
given_up old new (Accepts one same) = let n = ap (λ (t : Times). t.tickets.next) same in omega (arith, n)
given_up old new (Opens at may same) = let n = ap (λ (t : Times). t.tickets.next) same in omega (arith, n)
given_up old new (Closes k there same) = let n = ap (λ (t : Times). t.tickets.next) same in let m = (closing (number old.history) k old.tickets).next in omega (arith, n, m)
given_up old new (Collects same) = let n = ap (λ (t : Times). t.tickets.next) same in omega (arith, n)

grown_by : (old new : Times) → Moves old new → HasGrown old.history new.history
grown_by old new (Rests same) = subst (HasGrown old.history) (ap (λ (t : Times). t.history) (sym same)) (same_grown old.history)
grown_by old new (Accepts one same) = (one ∷ [], ap (λ (t : Times). t.history) same)
grown_by old new (Opens at may same) = subst (HasGrown old.history) (ap (λ (t : Times). t.history) (sym same)) (same_grown old.history)
grown_by old new (Closes k there same) = subst (HasGrown old.history) (ap (λ (t : Times). t.history) (sym same)) (same_grown old.history)
grown_by old new (Collects same) = subst (HasGrown old.history) (ap (λ (t : Times). t.history) (sym same)) (same_grown old.history)

-- ---- soundness

-- a ticket may be opened at an instant of the history
pub may_open_within : (t : Times) (instant : ℕ) → AreSound t → MayOpen t instant → (t.history.base ≤ instant) × (instant ≤ number t.history)
may_open_within t instant sound (inl is) = (omega (arith, is), omega (arith, is))
may_open_within t instant sound (inr there) = let s = sound there.0 instant there.1 in (s.1, s.2)

pub sound_opening : (h : History) → AreSound (record { history = h; tickets = no_tickets })
sound_opening h id instant is = absurd (none-some instant (sym (get-empty nat_cmp id) ∙ is))

pub sound_move : (old new : Times) → AreSound old → Moves old new → AreSound new
sound_move old new sound (Rests same) = subst AreSound (sym same) sound
sound_move old new sound (Accepts one same) =
    subst AreSound (sym same) (λ id instant is.
    let s = sound id instant is in
    let a = s.2 in
    let l = length-append old.history.accepted (one ∷ []) in
    (s.0, s.1, omega (arith, a, l)))
sound_move old new sound (Opens at may same) =
    subst AreSound (sym same) (λ id instant is. ⊎_elim
    (λ e. let within = may_open_within old at sound may in let k = e.0 in let v = e.1 in let a = within.0 in let b = within.1 in (omega (arith, k), omega (arith, v, a), omega (arith, v, b)))
    (λ there. let s = sound id instant there in let lt = s.0 in (omega (arith, lt), s.1, s.2))
    (found_in old.tickets.instants old.tickets.next at id instant is))
sound_move old new sound (Closes k there same) =
    subst AreSound (sym same) (λ id instant is.
    let left = closing (number old.history) k old.tickets in
    let s = sound id instant (found_before old.tickets.instants k id instant (ap (λ m. get m id) (sym left.instants) ∙ is)) in
    let lt = s.0 in
    let n = left.next in
    (omega (arith, lt, n), s.1, s.2))
sound_move old new sound (Collects same) = subst AreSound (sym same) sound

-- ---- the watermark

alike : (h : History) (t u : Tickets) → u.instants ≡ t.instants → u.watermark ≡ t.watermark → IsSpared (record { history = h; tickets = t }) → IsSpared (record { history = h; tickets = u })
alike h t u instants watermark spared instant some may =
    subst (λ w. w < instant) (sym watermark)
    (spared instant (subst (λ w. 0 < w) watermark some) (subst (λ (m : FinMap nat_cmp ℕ). (instant ≡ number h) ⊎ ((id : ℕ) × (get m id ≡ Some instant))) instants may))

least_upto : (h : History) (t : Tickets) (instant : ℕ) → MayOpen (record { history = h; tickets = t }) instant → least (number h) (values t.instants) ≤ instant
least_upto h t instant (inl is) = let le = least_below (number h) (values t.instants) in omega (arith, is, le)
least_upto h t instant (inr there) = least_of (number h) (values t.instants) instant (open_value t.instants there.0 instant there.1)

below_both : (w m i : ℕ) → (0 < w → w < i) → m ≤ i → 0 < max w (m - 1) → max w (m - 1) < i
below_both zero m i below le some = omega (arith, le, some)
below_both (suc w) m i below le some = let h = below (omega arith) in omega (arith, h, le)

pub spared_collected : (h : History) (t : Tickets) → IsSpared (record { history = h; tickets = t }) → IsSpared (record { history = h; tickets = collected (number h) t })
spared_collected h t spared instant some may =
    below_both t.watermark (least (number h) (values t.instants)) instant (λ p. spared instant p may) (least_upto h t instant may) some

pub spared_opening : (h : History) → IsSpared (record { history = h; tickets = no_tickets })
spared_opening h instant some may = absurd (omega (arith, some))

closed_spared : (old : Times) (id : ℕ) → IsSpared old → IsSpared (record old { tickets = closed (number old.history) id old.tickets })
closed_spared old id spared =
    let less : Tickets = record old.tickets { instants = remove old.tickets.instants id } in
    let left = closing (number old.history) id old.tickets in
    let fewer : IsSpared (record old { tickets = less }) = λ instant some may. spared instant some (⊎_elim inl (λ there. inr (there.0, found_before old.tickets.instants id there.0 instant there.1)) may) in
    ⊎_elim
    (λ e. alike old.history less (closed (number old.history) id old.tickets) left.instants e fewer)
    (λ e. alike old.history (collected (number old.history) less) (closed (number old.history) id old.tickets) left.instants e (spared_collected old.history less fewer))
    left.watermark

pub spared_move : (old new : Times) → IsSpared old → Moves old new → IsSpared new
spared_move old new spared (Rests same) = subst IsSpared (sym same) spared
spared_move old new spared (Accepts one same) =
    subst IsSpared (sym same) (λ instant some may. ⊎_elim
    (λ is. let lt = spared (number old.history) some (inl refl) in let l = length-append old.history.accepted (one ∷ []) in omega (arith, is, lt, l))
    (λ there. spared instant some (inr there))
    may)
spared_move old new spared (Opens at allowed same) =
    subst IsSpared (sym same) (λ instant some may. ⊎_elim
    (λ is. spared instant some (inl is))
    (λ there. ⊎_elim
    (λ e. subst (λ i. old.tickets.watermark < i) (sym e.1) (spared at some allowed))
    (λ was. spared instant some (inr (there.0, was)))
    (found_in old.tickets.instants old.tickets.next at there.0 instant there.1))
    may)
spared_move old new spared (Closes k there same) = subst IsSpared (sym same) (closed_spared old k spared)
spared_move old new spared (Collects same) = subst IsSpared (sym same) (spared_collected old.history old.tickets spared)

-- so the watermark that is taken is one below the least instant at which a ticket reads or may be opened
pub collected_to : (t : Times) → IsSpared t → (collected (number t.history) t.tickets).watermark ≡ least (number t.history) (values t.tickets.instants) - 1
collected_to t spared =
    elim t.tickets.watermark as (λ w. (0 < w → w < least (number t.history) (values t.tickets.instants)) → max w (least (number t.history) (values t.tickets.instants) - 1) ≡ least (number t.history) (values t.tickets.instants) - 1) [
      | zero ↦ λ below. omega arith
      | suc w ↦ λ below. let h = below (omega arith) in omega (arith, h)
    ] (λ some. let below : t.tickets.watermark + 1 ≤ least (number t.history) (values t.tickets.instants) = least_from (t.tickets.watermark + 1) (number t.history) (values t.tickets.instants)
    (let lt = spared (number t.history) some (inl refl) in omega (arith, lt))
    (λ i among. let there = value_open t.tickets.instants i among in let lt = spared i some (inr there) in omega (arith, lt)) in
    omega (arith, below))

pub never_lower : (old new : Times) → Moves old new → old.tickets.watermark ≤ new.tickets.watermark
never_lower old new (Rests same) = let w = ap (λ (t : Times). t.tickets.watermark) same in omega (arith, w)
never_lower old new (Accepts one same) = let w = ap (λ (t : Times). t.tickets.watermark) same in omega (arith, w)
never_lower old new (Opens at may same) = let w = ap (λ (t : Times). t.tickets.watermark) same in omega (arith, w)
never_lower old new (Closes k there same) =
    let w = ap (λ (t : Times). t.tickets.watermark) same in
    ⊎_elim (λ e. omega (arith, w, e)) (λ e. omega (arith, w, e)) (closing (number old.history) k old.tickets).watermark
never_lower old new (Collects same) = let w = ap (λ (t : Times). t.tickets.watermark) same in omega (arith, w)

-- ---- many moves

pub sound_moves : (old new : Times) → AreSound old → MovesOn old new → AreSound new
sound_moves old new sound (NoMove t) = sound
sound_moves old new sound (OneMove a mid b move rest) = sound_moves mid new (sound_move old mid sound move) rest

pub spared_moves : (old new : Times) → IsSpared old → MovesOn old new → IsSpared new
spared_moves old new spared (NoMove t) = spared
spared_moves old new spared (OneMove a mid b move rest) = spared_moves mid new (spared_move old mid spared move) rest

pub never_falls : (old new : Times) → MovesOn old new → old.tickets.watermark ≤ new.tickets.watermark
never_falls old new (NoMove t) = omega arith
never_falls old new (OneMove a mid b move rest) = let x = never_lower old mid move in let y = never_falls mid new rest in omega (arith, x, y)

pub history_grows : (old new : Times) → MovesOn old new → HasGrown old.history new.history
history_grows old new (NoMove t) = same_grown old.history
history_grows old new (OneMove a mid b move rest) = grown_on old.history mid.history new.history (grown_by old mid move) (history_grows mid new rest)

pub was_open_before : (old new : Times) → MovesOn old new → (id instant : ℕ) → id < old.tickets.next → get new.tickets.instants id ≡ Some instant → get old.tickets.instants id ≡ Some instant
was_open_before old new (NoMove t) id instant lt is = is
was_open_before old new (OneMove a mid b move rest) id instant lt is =
    was_open old mid move id instant lt (was_open_before mid new rest id instant (let up = given_up old mid move in omega (arith, lt, up)) is)

-- a ticket that was closed stays closed
pub stays_closed : (old new : Times) → MovesOn old new → (id : ℕ) → id < old.tickets.next → get old.tickets.instants id ≡ None → get new.tickets.instants id ≡ None
stays_closed old new moves id lt none =
    elim (get new.tickets.instants id) as (λ o. get new.tickets.instants id ≡ o → o ≡ None) [
      | None ↦ λ e. refl
      | Some instant ↦ λ e. absurd (none-some instant (sym none ∙ was_open_before old new moves id instant lt e))
    ] refl

some_same : (x y : ℕ) → Some x ≡ Some y → x ≡ y
some_same x y e = ap (λ o. unwrap_or o x) e

-- a ticket that stays open reads at the same instant, and shows what it showed
pub snapshot_stays : (old new : Times) → AreSound old → MovesOn old new → (id before after : ℕ) → get old.tickets.instants id ≡ Some before → get new.tickets.instants id ≡ Some after
    → (before ≡ after) × (view new.history after ≡ view old.history before)
snapshot_stays old new sound moves id before after there later =
    let s = sound id before there in
    let same = some_same before after (sym there ∙ was_open_before old new moves id after s.0 later) in
    (same, ap (view new.history) (sym same) ∙ view_grown old.history new.history before (history_grows old new moves) s.2)

pub views_stay : (old new : Times) → MovesOn old new → (instant : ℕ) → instant ≤ number old.history → view new.history instant ≡ view old.history instant
views_stay old new moves instant le = view_grown old.history new.history instant (history_grows old new moves) le
