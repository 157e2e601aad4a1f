-- Own writes over the map of one keyspace.
use Rattle.std.proofs.Common.{◌≡◌, ℕ, Bool, List, Option, Some, None, [], ◌∷◌, cond, refl, inl, inr, is_none, ap, sym, ◌∙◌}
use Rattle.std.specs.FinMap.{FinMap, empty, get, get-insert, insert}
use Rattle.std.specs.Cmp.{nat_cmp_total}
use Rattle.std.specs.Option.{unwrap_or}
use Rattle.std.specs.Ordering.{is_eq, nat_cmp}
use Rattle.std.specs.declared.cmp.Ordering.{Ordering}
use Rattle.std.proofs.lemmas.Cmp.{tied_itself}
use Rattle.std.specs.Borrow.{MutBor}
use Rattle.fjall_tx.specs.Marks.{Mark}
use Rattle.fjall_reading.specs.Readers.{first_of, is_none_of}
use Rattle.fjall_core.specs.ReadsGoing.{reads_none}
use Rattle.fjall_core.specs.Transactions.{Tx, having_read}
use Rattle.fjall_base.specs.Pairs.{Bytes, KeyRange, Pairs, lookup, page, pairs_between}
use Rattle.fjall_base.specs.Store.{map_at}
use Rattle.fjall_tx.specs.Owns.{Own, own_written, wanted}
use Rattle.fjall_history.specs.declared.ticket.View.{View}
use Rattle.fjall_engine.specs.Holding.{Held}
use Rattle.fjall_core.specs.Shown.{Shows}
use Rattle.fjall_core.specs.Laid.{laid}
use Rattle.fjall_core.specs.Seeing.{HasReadOn, IsMarkedOrShort, ReadsWithin, Sees}
use Rattle.fjall_core.specs.OwnReadsGoing.{no_more}

-- maps of one keyspace have its map
pub one_at : (id : ℕ) (pairs : Pairs) → map_at (insert {R = nat_cmp} empty id pairs) id ≡ pairs
one_at id pairs =
    ap (λ (found : Option Pairs). unwrap_or found empty) (get-insert {R = nat_cmp} nat_cmp_total empty id pairs id)
    ∙ ap (λ (order : Ordering). unwrap_or (cond (is_eq order) (Some pairs) (get {R = nat_cmp} empty id)) empty) (tied_itself nat_cmp_total id)

-- the pairs that are wanted of a map are those that are wanted of maps of this keyspace alone
pub wanted_of_one : (own : Own) (id : ℕ) (range : KeyRange) (back : Bool) (max count : ℕ) (below : Pairs) (found : List (Bytes × Bytes))
    → count ≡ wanted own id range max → found ≡ page back count (pairs_between range below)
    → found ≡ page back (wanted own id range max) (pairs_between range (map_at (insert {R = nat_cmp} empty id below) id))
wanted_of_one own id range back max count below found counted is =
    is ∙ ap (λ (n : ℕ). page back n (pairs_between range below)) counted
    ∙ ap (λ (m : Pairs). page back (wanted own id range max) (pairs_between range m)) (sym (one_at id below))

-- what own writes make of a value that was found is the value of the map with them applied
pub seen_laid : (own : Own) (id : ℕ) (below map : Pairs) (key name : Bytes) (found seen : Option Bytes)
    → ((maps : FinMap nat_cmp Pairs) → found ≡ lookup (map_at maps id) name → seen ≡ lookup (map_at (own_written maps own) id) name)
    → name ≡ key → found ≡ lookup below key → map ≡ laid own id below → seen ≡ lookup map key
seen_laid own id below map key name found seen over named is laid_is =
    let under : found ≡ lookup (map_at (insert {R = nat_cmp} empty id below) id) name =
    is ∙ ap (λ (k : Bytes). lookup below k) (sym named) ∙ ap (λ (m : Pairs). lookup m name) (sym (one_at id below)) in
    over (insert {R = nat_cmp} empty id below) under ∙ ap (λ (k : Bytes). lookup (laid own id below) k) named ∙ ap (λ (m : Pairs). lookup m key) (sym laid_is)

-- where a core goes on to show what it showed, and own writes stay, a transaction goes on to see what it saw
pub sees_on : (honest : Bool) (old new : Held) (from to : View) (own after : Own) → ((i : ℕ) (map : Pairs) → Shows honest old from i map → Shows honest new to i map)
    → after ≡ own → (i : ℕ) (map : Pairs) → Sees honest old from own i map → Sees honest new to after i map
sees_on honest old new from to own after same kept i map (below, shown, is) = (below, same i below shown, is ∙ ap (λ (o : Own). laid o i below) (sym kept))

-- ---- what marks leave

pub read_marked : (old new : Tx) (mark : Mark) → new ≡ having_read old mark → HasReadOn old new
read_marked old new mark is = record { more = mark ∷ []; is = is }

pub read_nothing : (old new : Tx) → new ≡ old → HasReadOn old new
read_nothing old new is = record { more = []; is = is ∙ no_more old }

pub read_either : (old new : Tx) (mark : Mark) (short : Bool) → IsMarkedOrShort old mark new short → HasReadOn old new
read_either old new mark short (inl is) = read_marked old new mark is
read_either old new mark short (inr (is, told)) = read_nothing old new is

-- a mark alone leaves what a reader's reads leave
pub only_marked : (honest : Bool) (core : MutBor Held) (view : View) (tx after : MutBor Tx) (id : ℕ) → HasReadOn tx.now after.now → after.ghost_name ≡ tx.ghost_name → ReadsWithin honest core view tx id None core view after
only_marked honest core view tx after id grown lent = record { reads = reads_none honest core view id; grown = grown; lent = lent }

-- and what is seen
pub still_seen : (honest : Bool) (core : Held) (view : View) (old new : Tx) → HasReadOn old new → (i : ℕ) (map : Pairs) → Sees honest core view old.own i map → Sees honest core view new.own i map
still_seen honest core view old new grown = sees_on honest core core view view old.own new.own (λ i map shown. shown) (ap (λ (tx : Tx). tx.own) grown.is)

pub none_of_first : (pairs : List (Bytes × Bytes)) → is_none (first_of pairs) ≡ is_none_of pairs
none_of_first [] = refl
none_of_first (pair ∷ rest) = refl
