-- Views of a history that grows, and what is held of keyspaces.
use Rattle.std.proofs.Common.{◌≡◌, ⊎_elim, ◌⊎◌, inl, inr, ℕ, ◌+◌, ◌-◌, ◌≤◌, ◌==◌, ◌||◌, not, nat_le, Bool, true, false, cond, List, [], ◌∷◌, ◌++◌, length, Some, refl, sym, ap, ◌∙◌, arith, length-append}
use Rattle.std.proofs.lemmas.Bool.{true≢false}
use Rattle.std.proofs.lemmas.Bool.Decides.{nat_tests}
use Rattle.std.proofs.lemmas.List.{map-append, take-append-le, take_all}
use Rattle.std.specs.FinMap.{get}
use Rattle.std.specs.Option.{is_some}
use Rattle.fjall_base.specs.Store.{Command, Store, apply, fold, map_at}
use Rattle.fjall_meta.specs.Keyspaces.{keyspace_at}
use Rattle.fjall_meta.proofs.Slots.{fold-append, same_id}
use Rattle.fjall_trees.specs.MapTables.{pairs_with}
use Rattle.fjall_history.specs.Histories.{Accepted, History, command_of, commands_of, grown, latest, number, plain, view}
use Rattle.fjall_history.proofs.Values.{of_value}
use Rattle.fjall_machine.specs.Machine.{State, is_among, present, without_id}
use Rattle.fjall_machine.specs.Remembered.{IsReadAt, MemoryStandsFor, Remembered, is_held}

-- ---- views

pub view_before : (h : History) (a : Accepted) (instant : ℕ) → instant ≤ number h → view (grown h a) instant ≡ view h instant
view_before h a instant le = ap (λ l. fold h.opened (commands_of l)) (take-append-le (instant - h.base) h.accepted (a ∷ []) (let room : instant - h.base ≤ length h.accepted = omega (arith, le) in room))

pub view_latest : (h : History) (instant : ℕ) → number h ≤ instant → view h instant ≡ latest h
view_latest h instant le = ap (λ l. fold h.opened (commands_of l)) (take_all (instant - h.base) h.accepted (let room : length h.accepted ≤ instant - h.base = omega (arith, le) in room))

pub latest_grown : (h : History) (a : Accepted) → latest (grown h a) ≡ apply (latest h) a.command
latest_grown h a = ap (fold h.opened) (map-append command_of h.accepted (a ∷ [])) ∙ fold-append h.opened (commands_of h.accepted) (a.command ∷ [])

pub number_grown : (h : History) (a : Accepted) → number (grown h a) ≡ number h + 1
number_grown h a = let more = length-append h.accepted (a ∷ []) in omega (arith, more)

pub view_after : (h : History) (a : Accepted) (instant : ℕ) → instant ≡ number h + 1 → view (grown h a) instant ≡ apply (latest h) a.command
view_after h a instant is = view_latest (grown h a) instant (let more = number_grown h a in omega (arith, is, more)) ∙ latest_grown h a

-- ---- what the present has

-- the present has what the trees show below the next number of what is held
pub present_map : (m : Remembered) (table : ℕ) (s : State) → MemoryStandsFor m table s → (id : ℕ) → is_held m id ≡ true → map_at (present s).maps id ≡ pairs_with s.parts.entries id m.next m.trees
present_map m table s stands id held =
    ap (λ (t : Store). map_at t.maps id) (sym (view_latest s.history m.next (let n = stands.number in omega (arith, n)))) ∙ stands.views m.next (inl refl) id held

-- one command more: what stood is as it was, and the command makes what the trees show
module _ (m k : Remembered) (table : ℕ) (s : State) (stands : MemoryStandsFor m table s) (c : Command) where
  pub record GoesOn : Type 0 where
    pub next : k.next ≡ m.next + 1
    pub tickets : k.tickets ≡ m.tickets
    pub held : (id : ℕ) → is_held k id ≡ true → is_held m id ≡ true
    pub early : (instant id : ℕ) → instant ≤ m.next → is_held k id ≡ true → pairs_with s.parts.entries id instant k.trees ≡ pairs_with s.parts.entries id instant m.trees
    pub late : (id : ℕ) → is_held k id ≡ true → map_at (apply (present s) c).maps id ≡ pairs_with s.parts.entries id k.next k.trees

  pub views_go_on : GoesOn → (instant : ℕ) → IsReadAt k instant → (id : ℕ) → is_held k id ≡ true → map_at (view (grown s.history (plain c)) instant).maps id ≡ pairs_with s.parts.entries id instant k.trees
  views_go_on on instant (inl is) id held =
      let n = stands.number in
      let at : instant ≡ number s.history + 1 = (let e = on.next in omega (arith, is, e, n)) in
      ap (λ (t : Store). map_at t.maps id) (view_after s.history (plain c) instant at) ∙ on.late id held ∙ ap (λ i. pairs_with s.parts.entries id i k.trees) (sym is)
  views_go_on on instant (inr (ticket, there)) id held =
      let was : get m.tickets.instants ticket ≡ Some instant = ap (λ t. get t.instants ticket) (sym on.tickets) ∙ there in
      let le : instant ≤ m.next = of_value (λ i. i ≤ m.next) m.tickets.instants ticket instant was stands.lawful.reached in
      ap (λ (t : Store). map_at t.maps id) (view_before s.history (plain c) instant (let n = stands.number in omega (arith, le, n)))
      ∙ stands.views instant (inr (ticket, was)) id (on.held id held) ∙ sym (on.early instant id le held)

-- ---- what is held

some_or : (a b : Bool) → (a || b) ≡ true → (a ≡ true) ⊎ (b ≡ true)
some_or true b e = inl refl
some_or false b e = inr e

pub first_or : (a b : Bool) → a ≡ true → (a || b) ≡ true
first_or true b e = refl
first_or false b e = absurd (true≢false (sym e))

pub second_or : (a b : Bool) → b ≡ true → (a || b) ≡ true
second_or true b e = refl
second_or false b e = e

-- the three ways in which a keyspace is held
pub data Ways (m : Remembered) (id : ℕ) : Type 0 where
  it_lives : is_some (keyspace_at id m.keyspaces.living) ≡ true → Ways m id
  it_lasts : is_among m.lasting id ≡ true → Ways m id
  it_waits : m.keyspaces.next ≤ id → Ways m id

pub ways : (m : Remembered) (id : ℕ) → is_held m id ≡ true → Ways m id
ways m id held = ⊎_elim (λ e. it_lives e) (λ e. ⊎_elim (λ f. it_lasts f) (λ f. it_waits (let le : m.keyspaces.next ≤ id = grind (arith, nat_tests) in le)) (some_or (is_among m.lasting id) (nat_le m.keyspaces.next id) e)) (some_or _ _ held)

pub held_by : (m : Remembered) (id : ℕ) → Ways m id → is_held m id ≡ true
held_by m id (it_lives e) = first_or _ _ e
held_by m id (it_lasts e) = second_or (is_some (keyspace_at id m.keyspaces.living)) _ (first_or _ (nat_le m.keyspaces.next id) e)
held_by m id (it_waits e) = let yes : nat_le m.keyspaces.next id ≡ true = grind (arith, nat_tests) in second_or (is_some (keyspace_at id m.keyspaces.living)) _ (second_or (is_among m.lasting id) _ yes)

pub among-append : (ids : List ℕ) (last id : ℕ) → is_among (ids ++ last ∷ []) id ≡ true → (is_among ids id ≡ true) ⊎ (last ≡ id)
among-append [] last id e = inr (same_id last id (alone (last == id) e))
  where
    alone : (b : Bool) → (b || false) ≡ true → b ≡ true
    alone true e = refl
    alone false e = e
among-append (other ∷ ids) last id e = ⊎_elim (λ f. inl (first_or (other == id) (is_among ids id) f)) (λ f. ⊎_elim (λ g. inl (second_or (other == id) (is_among ids id) g)) (λ g. inr g)
    (among-append ids last id f)) (some_or (other == id) _ e)

pub among_without : (ids : List ℕ) (gone id : ℕ) → is_among (without_id ids gone) id ≡ true → (is_among ids id ≡ true) × ((id == gone) ≡ false)
among_without [] gone id e = absurd (true≢false (sym e))
among_without (other ∷ ids) gone id e = either (other == gone) refl e (among_without ids gone id)
  where
    either : (b : Bool) → (other == gone) ≡ b → is_among (cond (not b) (other ∷ without_id ids gone) (without_id ids gone)) id ≡ true → (is_among (without_id ids gone) id ≡ true → (is_among ids id ≡ true) × ((id == gone) ≡ false))
        → ((other == id || is_among ids id) ≡ true) × ((id == gone) ≡ false)
    either true same there rest = let more = rest there in (second_or (other == id) _ more.0, more.1)
    either false apart there rest =
        ⊎_elim (λ f. (first_or (other == id) (is_among ids id) f, ap (λ i. i == gone) (sym (same_id other id f)) ∙ apart)) (λ f. let more = rest f in (
          second_or (other == id)
              (is_among ids id) more.0,
          more.1,
        )) (some_or (other == id) (is_among (without_id ids gone) id) there)
