-- What versions that are put into a tree make of it.
use Rattle.std.proofs.Common.{◌≡◌, ℕ, Bool, true, false, cond, ◌||◌, List, [], ◌∷◌, ◌++◌, All, Option, Some, None, refl, sym, ap, ◌∙◌, inl, inr, arith}
use Rattle.std.specs.List.{list_any}
use Rattle.std.proofs.lemmas.Bool.{cases_lt, false_from_ne_true, or_parts, true≢false}
use Rattle.std.proofs.lemmas.List.Elements.{All-head, All-tail, All-weaker}
use Rattle.std.proofs.lemmas.List.Folds.{list_any-append, list_any_none}
use Rattle.fjall_base.specs.Pairs.{Bytes}
use Rattle.fjall_table.specs.Blocks.{Entry, IsOrdered}
use Rattle.fjall_memtable.specs.Entries.{IsAbsent, inserted, stamp_of}
use Rattle.fjall_memtable.specs.Jobs.{is_at}
use Rattle.fjall_memtable.specs.Views.{is_seen, later, newest, value_at, value_left}
use Rattle.fjall_memtable.proofs.NewestSeen.{first_wins, later_assoc, later_none, newest-append, newest_among, newest_has, one, reaches, second_wins}
use Rattle.fjall_memtable.proofs.Sameness.{at-from, at-true, same_newest, seen_at}
use Rattle.fjall_memtable.proofs.Shown.{value_shown}
use Rattle.fjall_memtable.proofs.Tests.{any_weaker}
use Rattle.fjall_memtable.specs.Sorted.{flat}
use Rattle.fjall_memtable.proofs.Sorting.{chain_of, inserted_chain, inserted_same, ordered_of}
use Rattle.fjall_memtable.specs.Parts.{parts_of, versions_in}
use Rattle.fjall_memtable.proofs.PartFinds.{last_versions}
use Rattle.fjall_memtable.proofs.Onces.{chain_once}
use Rattle.fjall_tree.specs.Trees.{Shape, clears_of, versions_of, written}
use Rattle.fjall_tree.specs.Puts.{put_all}
use Rattle.fjall_tree.proofs.Changes.{written_clears}
use Rattle.fjall_trees.proofs.Changing.{put_all_keeps, put_has}

-- ---- what stays

-- what each write keeps, where the versions have what it needs
pub put_all_has : (Q : Entry → Type 0) (P : Shape → Type 0) → ((v : Entry) (shape : Shape) → Q v → P shape → P (written v shape))
    → (vs : List Entry) (shape : Shape) → All Q vs → P shape → P (put_all vs shape)
put_all_has Q P step [] shape all is = is
put_all_has Q P step (v ∷ vs) shape all is =
    let rest = put_all_has Q P step vs shape (All-tail Q v vs all) is in
    put_has P v (put_all vs shape) (λ e. rest) (λ e. step v (put_all vs shape) (All-head Q v vs all) rest)

pub put_all_ordered : (vs : List Entry) (shape : Shape) → IsOrdered shape.memory.active.versions → IsOrdered (put_all vs shape).memory.active.versions
put_all_ordered vs shape up =
    put_all_keeps (λ s. IsOrdered s.memory.active.versions)
    (λ v s is. ordered_of (inserted v s.memory.active.versions) (inserted_chain v s.memory.active.versions (chain_of s.memory.active.versions is))) vs shape up

-- ---- keys and numbers

none_at : (v : Entry) (xs : List Entry) → IsAbsent v.key v.number xs → list_any (is_at v) xs ≡ false
none_at v xs absent =
    list_any_none (is_at v) xs (All-weaker (λ (e : Entry). stamp_of e ≡ record { key = v.key; number = v.number } → ⊥) (λ (e : Entry). is_at v e ≡ false) other xs absent)
  where
    other : (e : Entry) → (stamp_of e ≡ record { key = v.key; number = v.number } → ⊥) → is_at v e ≡ false
    other e h = false_from_ne_true (is_at v e) (λ t. let p = at-true v e t in h (λ i. record { key = p.0 i; number = p.1 i }))

-- what is at a version is at each that is of its key and number
at_both : (v w : Entry) → is_at w v ≡ true → (u : Entry) → is_at v u ≡ true → is_at w u ≡ true
at_both v w e u f = let p = at-true w v e in let q = at-true v u f in at-from w u (q.0 ∙ p.0) (q.1 ∙ p.1)

or_swap : (a b d : Bool) → (b || (a || d)) ≡ (a || (b || d))
or_swap true true d = refl
or_swap true false d = refl
or_swap false true d = refl
or_swap false false d = refl

or_there : (a b d : Bool) → (b ≡ true → d ≡ true) → (a || d) ≡ (a || (b || d))
or_there true b d so = refl
or_there false true d so = so refl
or_there false false d so = refl

or_right : (a b : Bool) → (a || b) ≡ true → a ≡ false → b ≡ true
or_right true b e none = absurd (true≢false none)
or_right false b e none = e

-- the active part has the key and number of each of the versions, beside what it had
stamps : (w : Entry) (vs : List Entry) (shape : Shape) → All (λ v. IsAbsent v.key v.number shape.memory.active.versions) vs
    → list_any (is_at w) (put_all vs shape).memory.active.versions ≡ (list_any (is_at w) shape.memory.active.versions || list_any (is_at w) vs)
stamps w [] shape absent = or_none (list_any (is_at w) shape.memory.active.versions)
  where
    or_none : (a : Bool) → a ≡ (a || false)
    or_none true = refl
    or_none false = refl
stamps w (v ∷ vs) shape absent =
    let old = shape.memory.active.versions in
    let more = λ (u : Entry). stamps u vs shape (All-tail (λ (x : Entry). IsAbsent x.key x.number old) v vs absent) in
    put_has (λ s. list_any (is_at w) s.memory.active.versions ≡ (list_any (is_at w) old || (is_at w v || list_any (is_at w) vs))) v (put_all vs shape)
    (λ e.
    let there = or_right (list_any (is_at v) old) (list_any (is_at v) vs) (sym (more v) ∙ e) (none_at v old (All-head (λ (x : Entry). IsAbsent x.key x.number old) v vs absent)) in
    more w ∙ or_there (list_any (is_at w) old) (is_at w v) (list_any (is_at w) vs) (λ h. any_weaker (is_at v) (is_at w) vs (at_both v w h) there))
    (λ e. inserted_same v (put_all vs shape).memory.active.versions (is_at w) e ∙ ap (λ b. is_at w v || b) (more w) ∙ or_swap (list_any (is_at w) old) (is_at w v) (list_any (is_at w) vs))

-- ---- the newest version

-- one in its place is found as if it stood last
newest_put : (key : Bytes) (instant : ℕ) (v : Entry) (xs : List Entry) → IsOrdered xs → list_any (is_at v) xs ≡ false
    → newest key instant (inserted v xs) ≡ later (newest key instant xs) (one (is_seen key instant) v)
newest_put key instant v xs up apart =
    sym (same_newest key instant (xs ++ v ∷ []) (inserted v xs) (chain_once (inserted v xs) (inserted_chain v xs (chain_of xs up)))
    (λ test. list_any-append test xs (v ∷ []) ∙ or_turned (list_any test xs) (test v) ∙ sym (inserted_same v xs test apart)))
    ∙ newest-append (is_seen key instant) xs (v ∷ []) ∙ ap (later (newest key instant xs)) (later_none (one (is_seen key instant) v))
  where
    or_turned : (a b : Bool) → (a || (b || false)) ≡ (b || a)
    or_turned true true = refl
    or_turned true false = refl
    or_turned false true = refl
    or_turned false false = refl

-- of one key and number the last counts
first_hidden : (key : Bytes) (instant : ℕ) (v : Entry) (vs : List Entry) → list_any (is_at v) vs ≡ true
    → newest key instant vs ≡ later (one (is_seen key instant) v) (newest key instant vs)
first_hidden key instant v vs there = by (is_seen key instant v) refl
  where
    by : (b : Bool) → is_seen key instant v ≡ b → newest key instant vs ≡ later (cond b (Some v) None) (newest key instant vs)
    by true e =
        let high = reaches (is_seen key instant) (is_at v) v.number vs
        (λ u f. let p = at-true v u f in let n = p.1 in ((λ i. is_seen_at (p.0 i) (p.1 i)) ∙ e, omega arith)) there in
        sym (second_wins (Some v) (newest key instant vs) (omega arith))
      where
        is_seen_at : Bytes → ℕ → Bool
        is_seen_at k n = is_seen key instant (record { key = k; number = n; value = None })
    by false e = refl

-- others may stand in any order
apart_swap : (key : Bytes) (instant : ℕ) (v : Entry) (vs : List Entry) → list_any (is_at v) vs ≡ false
    → later (newest key instant vs) (one (is_seen key instant) v) ≡ later (one (is_seen key instant) v) (newest key instant vs)
apart_swap key instant v vs apart = by (is_seen key instant v) refl (newest key instant vs) refl
  where
    by : (b : Bool) → is_seen key instant v ≡ b → (o : Option Entry) → newest key instant vs ≡ o → later o (cond b (Some v) None) ≡ later (cond b (Some v) None) o
    by false e o f = later_none o
    by true e None f = refl
    by true e (Some w) f =
        let seen = (newest_has (is_seen key instant) (λ (u : Entry). Unit {0}) vs w f (λ k d lt. tt)).1 in
        let other = λ (same : w.number ≡ v.number). true≢false (sym (newest_among (is_seen key instant) (is_at v) vs w f (seen_at key instant v w e seen same)) ∙ apart) in
        elim (cases_lt v.number w.number) [
          | inl low ↦ first_wins (Some w) (Some v) (omega arith) ∙ sym (second_wins (Some v) (Some w) (omega arith))
          | inr high ↦ elim (cases_lt w.number v.number) [
            | inl less ↦ second_wins (Some w) (Some v) (omega arith) ∙ sym (first_wins (Some v) (Some w) (omega arith))
            | inr equal ↦ absurd (other (omega arith))
          ]
        ]

newest_in_active : (key : Bytes) (instant : ℕ) (vs : List Entry) (shape : Shape) → IsOrdered shape.memory.active.versions → All (λ v. IsAbsent v.key v.number shape.memory.active.versions) vs
    → newest key instant (put_all vs shape).memory.active.versions ≡ later (newest key instant shape.memory.active.versions) (newest key instant vs)
newest_in_active key instant [] shape up absent = sym (later_none (newest key instant shape.memory.active.versions))
newest_in_active key instant (v ∷ vs) shape up absent =
    let old = shape.memory.active.versions in
    let before = newest key instant old in
    let rest = newest key instant vs in
    let here = one (is_seen key instant) v in
    let none = none_at v old (All-head (λ (x : Entry). IsAbsent x.key x.number old) v vs absent) in
    let absent_behind = All-tail (λ (x : Entry). IsAbsent x.key x.number old) v vs absent in
    let more = newest_in_active key instant vs shape up absent_behind in
    let there = stamps v vs shape absent_behind in
    put_has (λ s. newest key instant s.memory.active.versions ≡ later before (later here rest)) v (put_all vs shape)
    (λ e. more ∙ ap (later before) (first_hidden key instant v vs (or_right (list_any (is_at v) old) (list_any (is_at v) vs) (sym there ∙ e) none)))
    (λ e.
    newest_put key instant v (put_all vs shape).memory.active.versions (put_all_ordered vs shape up) e ∙ ap (λ o. later o here) more ∙ later_assoc before rest here
    ∙ ap (later before) (apart_swap key instant v vs (or_parts (list_any (is_at v) old) (list_any (is_at v) vs) (sym there ∙ e)).1))

-- ---- all parts

newest_by_parts : (key : Bytes) (instant : ℕ) (shape : Shape) (entries : List (List Entry))
    → newest key instant (versions_of shape entries) ≡ later (newest key instant (flat entries)) (later (newest key instant (versions_in shape.memory.sealed)) (newest key instant shape.memory.active.versions))
newest_by_parts key instant shape entries =
    newest-append (is_seen key instant) (flat entries) (versions_in (parts_of shape.memory))
    ∙ ap (later (newest key instant (flat entries)))
    (ap (newest key instant) (last_versions shape.memory.sealed shape.memory.active)
    ∙ newest-append (is_seen key instant) (versions_in shape.memory.sealed) shape.memory.active.versions)

pub put_all_sealed : (vs : List Entry) (shape : Shape) → (put_all vs shape).memory.sealed ≡ shape.memory.sealed
put_all_sealed vs shape = put_all_keeps (λ s. s.memory.sealed ≡ shape.memory.sealed) (λ v s same. same) vs shape refl

pub put_all_clears_of : (vs : List Entry) (shape : Shape) → clears_of (put_all vs shape) ≡ clears_of shape
put_all_clears_of vs shape = put_all_keeps (λ s. clears_of s ≡ clears_of shape) (λ v s same. written_clears s v ∙ same) vs shape refl

newest_put_all : (key : Bytes) (instant : ℕ) (vs : List Entry) (shape : Shape) → IsOrdered shape.memory.active.versions → All (λ v. IsAbsent v.key v.number shape.memory.active.versions) vs
    → (entries : List (List Entry)) → newest key instant (versions_of (put_all vs shape) entries) ≡ newest key instant (versions_of shape entries ++ vs)
newest_put_all key instant vs shape up absent entries =
    let tables = newest key instant (flat entries) in
    let sealed = newest key instant (versions_in shape.memory.sealed) in
    let active = newest key instant shape.memory.active.versions in
    let rest = newest key instant vs in
    newest_by_parts key instant (put_all vs shape) entries
    ∙ (λ i. later tables (later (newest key instant (versions_in (put_all_sealed vs shape i))) (newest_in_active key instant vs shape up absent i)))
    ∙ ap (later tables) (sym (later_assoc sealed active rest)) ∙ sym (later_assoc tables (later sealed active) rest)
    ∙ ap (λ o. later o rest) (sym (newest_by_parts key instant shape entries)) ∙ sym (newest-append (is_seen key instant) (versions_of shape entries) vs)

pub shows : (vs : List Entry) (shape : Shape) → IsOrdered shape.memory.active.versions → All (λ v. IsAbsent v.key v.number shape.memory.active.versions) vs
    → (key : Bytes) (instant : ℕ) (entries : List (List Entry))
    → value_at key instant (clears_of (put_all vs shape)) (versions_of (put_all vs shape) entries) ≡ value_at key instant (clears_of shape) (versions_of shape entries ++ vs)
shows vs shape up absent key instant entries =
    value_shown key instant (clears_of (put_all vs shape)) (versions_of (put_all vs shape) entries)
    ∙ (λ i. value_left instant (put_all_clears_of vs shape i) (newest_put_all key instant vs shape up absent entries i))
    ∙ sym (value_shown key instant (clears_of shape) (versions_of shape entries ++ vs))
