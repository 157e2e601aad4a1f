-- What is shown of a key once clears and versions of one number come behind all others.
use Rattle.std.proofs.Common.{◌≡◌, ℕ, ◌<◌, ◌≤◌, ◌&&◌, ◌||◌, Bool, true, false, cond, List, [], ◌∷◌, ◌++◌, All, Option, None, Some, nat_lt, refl, sym, ◌∙◌, ap, arith}
use Rattle.std.proofs.lemmas.Bool.Decides.{nat_tests}
use Rattle.std.proofs.lemmas.List.Elements.{All-head, All-tail, All-append, All-weaker}
use Rattle.std.proofs.lemmas.List.Folds.{list_any-append}
use Rattle.std.specs.List.{list_any}
use Rattle.fjall_base.specs.Pairs.{Bytes}
use Rattle.fjall_table.specs.Blocks.{Entry}
use Rattle.fjall_memtable.specs.Views.{is_cleared, is_seen, later, newest, value_at, value_left}
use Rattle.fjall_memtable.proofs.NewestSeen.{later_none, newest-append, newest_has, second_wins, top, top_below}
use Rattle.fjall_memtable.proofs.Shown.{value_shown}

-- the value of a key behind what has the greatest number: what its newest version gives, or else none where a clear of that
-- number shows, or else the value before
abbrev added : Option Entry → Bool → Option Bytes → Option Bytes
added None hidden old = cond hidden None old
added (Some v) hidden old = v.value

-- clears that aren't above a number don't hide it
not_cleared : (instant number : ℕ) (clears : List ℕ) → All (λ n. n ≤ number) clears → is_cleared instant clears number ≡ false
not_cleared instant number [] low = refl
not_cleared instant number (n ∷ clears) low =
    let here : n ≤ number = All-head (λ (m : ℕ). m ≤ number) n clears low in
    let test : nat_lt number n ≡ false = grind (arith, nat_tests) in
    (λ i. (test i && nat_lt n instant) || not_cleared instant number clears (All-tail (λ (m : ℕ). m ≤ number) n clears low) i)

-- clears above it hide it where the instant is above them
all_above : (instant number : ℕ) (clears : List ℕ) → All (λ n. number < n) clears → is_cleared instant clears number ≡ list_any (λ n. nat_lt n instant) clears
all_above instant number [] above = refl
all_above instant number (n ∷ clears) above =
    let here : number < n = All-head (λ (m : ℕ). number < m) n clears above in
    let test : nat_lt number n ≡ true = grind (arith, nat_tests) in
    (λ i. (test i && nat_lt n instant) || all_above instant number clears (All-tail (λ (m : ℕ). number < m) n clears above) i)

either : (a b : Bool) (value : Option Bytes) → cond (a || b) None value ≡ cond b None (cond a None value)
either true true value = refl
either true false value = refl
either false true value = refl
either false false value = refl

nothing_either : (b : Bool) (value : Option Bytes) → value ≡ None → value ≡ cond b None value
nothing_either true value e = e
nothing_either false value e = refl

-- clears that come behind
left_behind : (instant n : ℕ) (clears more : List ℕ) (o : Option Entry) → top o ≤ n → All (λ m. m ≡ n) more
    → value_left instant (clears ++ more) o ≡ cond (list_any (λ m. nat_lt m instant) more) None (value_left instant clears o)
left_behind instant n clears more None low same = nothing_either (list_any (λ m. nat_lt m instant) more) None refl
left_behind instant n clears more (Some v) low same =
    let here : v.number < n = omega arith in
    ap (λ b. cond b None v.value) (list_any-append (λ m. nat_lt v.number m && nat_lt m instant) clears more
    ∙ ap (λ b. is_cleared instant clears v.number || b) (all_above instant v.number more (All-weaker (λ m. m ≡ n) (λ m. v.number < m) (λ m e. omega arith) more same)))
    ∙ either (is_cleared instant clears v.number) (list_any (λ m. nat_lt m instant) more) v.value

pub value_added : (key : Bytes) (instant n : ℕ) (clears more : List ℕ) (versions entries : List Entry) → All (λ m. m < n) clears → All (λ v. v.number < n) versions
    → All (λ m. m ≡ n) more → All (λ v. v.number ≡ n) entries
    → value_at key instant (clears ++ more) (versions ++ entries) ≡ added (newest key instant entries) (list_any (λ m. nat_lt m instant) more) (value_at key instant clears versions)
value_added key instant n clears more versions entries low below same numbered =
    value_shown key instant (clears ++ more) (versions ++ entries)
    ∙ ap (value_left instant (clears ++ more)) (newest-append (is_seen key instant) versions entries)
    ∙ by (newest key instant entries) refl
    ∙ ap (added (newest key instant entries) hidden) (sym (value_shown key instant clears versions))
  where
    hidden : Bool
    hidden = list_any (λ m. nat_lt m instant) more

    before : Option Entry
    before = newest key instant versions

    up_to : top before ≤ n
    up_to = top_below (is_seen key instant) n versions below

    by : (o : Option Entry) → newest key instant entries ≡ o → value_left instant (clears ++ more) (later before (newest key instant entries)) ≡ added (newest key instant entries) hidden (value_left instant clears before)
    by None e =
        ap (λ o. value_left instant (clears ++ more) (later before o)) e
        ∙ ap (value_left instant (clears ++ more)) (later_none before)
        ∙ left_behind instant n clears more before up_to same
        ∙ sym (ap (λ o. added o hidden (value_left instant clears before)) e)
    by (Some v) e =
        let here : v.number ≡ n = (newest_has (is_seen key instant) (λ w. w.number ≡ n) entries v e numbered).0 in
        let none : is_cleared instant (clears ++ more) v.number ≡ false = not_cleared instant v.number (clears ++ more)
        (All-append (λ m. m ≤ v.number) clears more (All-weaker (λ m. m < n) (λ m. m ≤ v.number) (λ m h. omega arith) clears low) (All-weaker (λ m. m ≡ n) (λ m. m ≤ v.number) (λ m h. omega arith) more same)) in
        ap (λ o. value_left instant (clears ++ more) (later before o)) e
        ∙ ap (value_left instant (clears ++ more)) (second_wins before (Some v) (omega (arith, up_to)))
        ∙ ap (λ b. cond b None v.value) none
        ∙ sym (ap (λ o. added o hidden (value_left instant clears before)) e)

-- what shows the same before shows the same behind them
pub same_added : (key : Bytes) (instant n : ℕ) (clears others more : List ℕ) (versions held entries : List Entry) → All (λ m. m < n) clears → All (λ m. m < n) others
    → All (λ v. v.number < n) versions → All (λ v. v.number < n) held → All (λ m. m ≡ n) more → All (λ v. v.number ≡ n) entries
    → value_at key instant clears versions ≡ value_at key instant others held
    → value_at key instant (clears ++ more) (versions ++ entries) ≡ value_at key instant (others ++ more) (held ++ entries)
same_added key instant n clears others more versions held entries low small below under same numbered e =
    value_added key instant n clears more versions entries low below same numbered
    ∙ ap (added (newest key instant entries) (list_any (λ m. nat_lt m instant) more)) e
    ∙ sym (value_added key instant n others more held entries small under same numbered)
