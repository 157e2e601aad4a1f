-- Views above all numbers are the same, and versions from an instant on are not seen there.
use Rattle.std.proofs.Common.{◌≡◌, ℕ, ◌<◌, ◌≤◌, ◌&&◌, ◌||◌, cond, List, [], ◌∷◌, ◌++◌, All, Option, Some, None, ltb, refl, sym, ap, ◌∙◌, arith}
use Rattle.std.specs.Str.{bytes_eq}
use Rattle.std.proofs.lemmas.Bool.{and_right, le-ltb, lt-ltb}
use Rattle.std.proofs.lemmas.List.Elements.{All-head, All-tail}
use Rattle.fjall_base.specs.Pairs.{Bytes}
use Rattle.fjall_table.specs.Blocks.{Entry}
use Rattle.fjall_memtable.specs.Jobs.{AreBelow, AreFrom}
use Rattle.fjall_memtable.specs.Views.{is_cleared, is_seen, later, newest, value_at, value_left, view_of}
use Rattle.fjall_memtable.proofs.NewestSeen.{later_none, newest-append}
use Rattle.fjall_memtable.proofs.Shown.{is_view, one_view, value_shown}

-- instants above a number both see it
both_see : (n a b m : ℕ) → n ≤ a → n ≤ b → m < n → ltb m a ≡ ltb m b
both_see n a b m above other low = lt-ltb m a (omega arith) ∙ sym (lt-ltb m b (omega arith))

cleared_same : (n a b : ℕ) (clears : List ℕ) (m : ℕ) → n ≤ a → n ≤ b → All (λ c. c < n) clears → is_cleared a clears m ≡ is_cleared b clears m
cleared_same n a b [] m above other low = refl
cleared_same n a b (c ∷ clears) m above other low =
    let here = both_see n a b c above other (All-head (λ x. x < n) c clears low) in
    let rest = cleared_same n a b clears m above other (All-tail (λ x. x < n) c clears low) in
    λ i. (ltb m c && here i) || rest i

newest_same : (key : Bytes) (n a b : ℕ) (versions : List Entry) → n ≤ a → n ≤ b → AreBelow n versions → newest key a versions ≡ newest key b versions
newest_same key n a b [] above other low = refl
newest_same key n a b (v ∷ versions) above other low =
    let here = both_see n a b v.number above other (All-head (λ (w : Entry). w.number < n) v versions low) in
    let rest = newest_same key n a b versions above other (All-tail (λ (w : Entry). w.number < n) v versions low) in
    λ i. later (cond (bytes_eq v.key key && here i) (Some v) None) (rest i)

pub values_same : (key : Bytes) (n a b : ℕ) (clears : List ℕ) (versions : List Entry) → n ≤ a → n ≤ b → All (λ c. c < n) clears → AreBelow n versions
    → value_at key a clears versions ≡ value_at key b clears versions
values_same key n a b clears versions above other low below =
    value_shown key a clears versions ∙ ap (value_left a clears) (newest_same key n a b versions above other below) ∙ left (newest key b versions)
    ∙ sym (value_shown key b clears versions)
  where
    left : (o : Option Entry) → value_left a clears o ≡ value_left b clears o
    left None = refl
    left (Some v) = ap (λ t. cond t None v.value) (cleared_same n a b clears v.number above other low)

pub views_same : (n a b : ℕ) (clears : List ℕ) (versions : List Entry) → n ≤ a → n ≤ b → All (λ c. c < n) clears → AreBelow n versions
    → view_of a clears versions ≡ view_of b clears versions
views_same n a b clears versions above other low below =
    one_view a clears versions (view_of a clears versions) (view_of b clears versions) (is_view a clears versions)
    (λ key. is_view b clears versions key ∙ values_same key n b a clears versions other above low below)

-- ---- versions from an instant on

none_seen : (key : Bytes) (instant : ℕ) (versions : List Entry) → AreFrom instant versions → newest key instant versions ≡ None
none_seen key instant [] from = refl
none_seen key instant (v ∷ versions) from =
    ap (λ t. later (cond t (Some v) None) (newest key instant versions))
    (and_right (bytes_eq v.key key) (ltb v.number instant) (le-ltb v.number instant (All-head (λ (w : Entry). instant ≤ w.number) v versions from)))
    ∙ none_seen key instant versions (All-tail (λ (w : Entry). instant ≤ w.number) v versions from)

pub unseen_keep : (key : Bytes) (instant : ℕ) (clears : List ℕ) (versions more : List Entry) → AreFrom instant more
    → value_at key instant clears (versions ++ more) ≡ value_at key instant clears versions
unseen_keep key instant clears versions more from =
    value_shown key instant clears (versions ++ more)
    ∙ ap (value_left instant clears) (newest-append (is_seen key instant) versions more ∙ ap (later (newest key instant versions)) (none_seen key instant more from) ∙ later_none (newest key instant versions))
    ∙ sym (value_shown key instant clears versions)
