-- What jobs keep of their input some view above the watermark shows.
use Rattle.std.proofs.Common.{◌≡◌, ℕ, ◌+◌, ◌<◌, ◌≤◌, Bool, true, false, not, ◌&&◌, ltb, leb, List, Option, Some, None, is_some, refl, sym, ap, subst, ◌∙◌, inl, inr, ◌⊎◌, arith}
use Rattle.std.specs.List.{list_any, All}
use Rattle.std.specs.Str.{bytes_eq}
use Rattle.std.proofs.lemmas.Bool.{cases_lt, and_parts, and_from, and_cases, or_parts, true≢false, ltb-true, lt-ltb, le-leb, false_from_ne_true, not-true, not-false}
use Rattle.std.proofs.lemmas.List.Elements.{All-filter, All-weaker, filter_passes}
use Rattle.fjall_table.specs.Blocks.{Entry}
use Rattle.fjall_memtable.specs.Views.{newest, is_seen, is_cleared, living}
use Rattle.fjall_memtable.specs.Jobs.{is_hidden, is_later, is_old_removal, is_spent, flushed, merged, OnceEach, ShowsAbove}
use Rattle.fjall_memtable.proofs.Tests.{any_beside, any_weaker, any_fewer, any-filter, filter-filter}
use Rattle.fjall_memtable.proofs.NewestSeen.{top, newest_passes}
use Rattle.fjall_memtable.proofs.Sameness.{key_itself, seen_at, is, is-true, is_among, all_among, among_has, at_most_newest, one_alone}
use Rattle.fjall_memtable.proofs.Clears.{alive, is_emptied}
use Rattle.fjall_memtable.proofs.Hiding.{hides, stays, unhidden}

-- The newest version of its key from before an instant, where only what the watermark reaches has a number between the two.
newest_there : (watermark instant : ℕ) (clears : List ℕ) (versions : List Entry) (v : Entry) → OnceEach versions → list_any (is v) versions ≡ true
    → is_hidden watermark clears versions v ≡ false → v.number < instant → ((n : ℕ) → v.number < n → n < instant → n ≤ watermark)
    → newest v.key instant (living instant clears versions) ≡ Some v
newest_there watermark instant clears versions v once there shown low between = by (newest v.key instant (living instant clears versions)) refl
  where
    shown_of : (is_emptied watermark clears v.number ≡ false) × (list_any (hides watermark v) versions ≡ false)
    shown_of = or_parts (is_emptied watermark clears v.number) (list_any (hides watermark v) versions) shown

    in_reach : (c : ℕ) → (ltb v.number c && ltb c instant) ≡ true → (ltb v.number c && leb c watermark) ≡ true
    in_reach c e =
        let p = and_parts (ltb v.number c) (ltb c instant) e in
        and_from (ltb v.number c) (leb c watermark) p.0 (le-leb c watermark (between c (ltb-true v.number c p.0) (ltb-true c instant p.1)))

    living_too : (w : Entry) → is v w ≡ true → (alive instant clears w && is v w) ≡ true
    living_too w e =
        let none = false_from_ne_true (is_cleared instant clears v.number)
        (λ h. true≢false (sym (any_weaker (λ c. ltb v.number c && ltb c instant) (λ c. ltb v.number c && leb c watermark) clears in_reach h) ∙ shown_of.0)) in
        and_from (alive instant clears w) (is v w) (ap (alive instant clears) (is-true v w e) ∙ ap not none) e

    v_lives : list_any (is v) (living instant clears versions) ≡ true
    v_lives = any-filter (is v) (alive instant clears) versions ∙ any_weaker (is v) (λ w. alive instant clears w && is v w) versions living_too there

    v_seen : is_seen v.key instant v ≡ true
    v_seen = and_from (bytes_eq v.key v.key) (ltb v.number instant) (key_itself v.key) (lt-ltb v.number instant low)

    by : (o : Option Entry) → newest v.key instant (living instant clears versions) ≡ o → o ≡ Some v
    by None e =
        let m = at_most_newest (is_seen v.key instant) (living instant clears versions) v v_lives v_seen in
        let t = ap top e in
        absurd (omega arith)
    by (Some w) e = either (cases_lt v.number w.number)
      where
        w_there : list_any (is w) versions ≡ true
        w_there = any_fewer (is w) (alive instant clears) versions (is_among (is_seen v.key instant) (living instant clears versions) w e)

        w_seen : is_seen v.key instant w ≡ true
        w_seen = newest_passes (is_seen v.key instant) (living instant clears versions) w e

        either : (v.number < w.number) ⊎ (w.number ≤ v.number) → Some w ≡ Some v
        either (inl more) =
            let p = and_parts (bytes_eq w.key v.key) (ltb w.number instant) w_seen in
            let over = and_from (is_later v w) (leb w.number watermark)
            (and_from (bytes_eq w.key v.key) (ltb v.number w.number) p.0 (lt-ltb v.number w.number more))
            (le-leb w.number watermark (between w.number more (ltb-true w.number instant p.1))) in
            absurd (true≢false (sym (any_weaker (is w) (hides watermark v) versions
            (λ u g. ap (hides watermark v) (is-true w u g) ∙ over) w_there) ∙ shown_of.1))
        either (inr less) =
            let m = at_most_newest (is_seen v.key instant) (living instant clears versions) v v_lives v_seen in
            let t = ap top e in
            ap Some (sym (one_alone versions v w once there w_there (seen_at v.key instant v w v_seen w_seen (omega arith))))

pub flush_shows : (watermark : ℕ) (clears : List ℕ) (versions : List Entry) → OnceEach versions
    → All (ShowsAbove watermark clears versions) (flushed watermark clears versions)
flush_shows watermark clears versions once =
    all_among (ShowsAbove watermark clears versions) (flushed watermark clears versions) (λ v h. by v h (cases_lt watermark v.number))
  where
    by : (v : Entry) → list_any (is v) (flushed watermark clears versions) ≡ true → (watermark < v.number) ⊎ (v.number ≤ watermark)
        → ShowsAbove watermark clears versions v
    by v h side = either side
      where
        there : list_any (is v) versions ≡ true
        there = any_fewer (is v) (unhidden watermark clears versions) versions h

        shown : is_hidden watermark clears versions v ≡ false
        shown =
            not-true (is_hidden watermark clears versions v)
            (among_has (λ w. unhidden watermark clears versions w ≡ true) (flushed watermark clears versions) v h
            (filter_passes (unhidden watermark clears versions) versions))

        either : (watermark < v.number) ⊎ (v.number ≤ watermark) → ShowsAbove watermark clears versions v
        either (inl above) =
            (v.number + 1, omega arith, newest_there watermark (v.number + 1) clears versions v once there shown (omega arith) (λ n a b. absurd (omega arith)))
        either (inr reached) =
            (watermark + 1, omega arith, newest_there watermark (watermark + 1) clears versions v once there shown (omega arith) (λ n a b. omega arith))

pub merge_shows : (watermark : ℕ) (clears : List ℕ) (versions : List Entry) → OnceEach versions
    → All (ShowsAbove watermark clears versions) (merged watermark clears versions)
merge_shows watermark clears versions once =
    subst (All (ShowsAbove watermark clears versions)) (filter-filter (λ v. not (is_spent watermark versions v)) (unhidden watermark clears versions) versions)
    (All-filter (λ v. not (is_spent watermark versions v)) (ShowsAbove watermark clears versions) (flushed watermark clears versions)
    (flush_shows watermark clears versions once))

-- where the watermark reaches all versions a merge leaves no removal
pub no_removal : (watermark : ℕ) (clears : List ℕ) (versions : List Entry) → All (λ v. v.number ≤ watermark) versions
    → All (λ v. is_some v.value ≡ true) (merged watermark clears versions)
no_removal watermark clears versions reached = all_among (λ v. is_some v.value ≡ true) (merged watermark clears versions) each
  where
    each : (v : Entry) → list_any (is v) (merged watermark clears versions) ≡ true → is_some v.value ≡ true
    each v h = valued (is_some v.value) refl
      where
        kept : (not (is_hidden watermark clears versions v) ≡ true) × (not (is_spent watermark versions v) ≡ true)
        kept =
            and_parts (not (is_hidden watermark clears versions v)) (not (is_spent watermark versions v))
            (among_has (λ w. (not (is_hidden watermark clears versions w) && not (is_spent watermark versions w)) ≡ true) (merged watermark clears versions) v h
            (filter_passes (stays watermark clears versions) versions))

        up_to : v.number ≤ watermark
        up_to = among_has (λ w. w.number ≤ watermark) versions v (any_fewer (is v) (stays watermark clears versions) versions h) reached

        not_spent : is_spent watermark versions v ≡ false
        not_spent = not-true (is_spent watermark versions v) kept.1

        hidden : list_any (is_later v) versions ≡ true → ⊥
        hidden later_one =
            let not_hidden = not-true (is_hidden watermark clears versions v) kept.0 in
            true≢false (sym (any_beside (is_later v) (λ w. leb w.number watermark) versions
            (All-weaker (λ w. w.number ≤ watermark) (λ w. leb w.number watermark ≡ true) (λ w k. le-leb w.number watermark k) versions reached) later_one)
            ∙ (or_parts (is_emptied watermark clears v.number) (list_any (hides watermark v) versions) not_hidden).1)

        valued : (b : Bool) → is_some v.value ≡ b → b ≡ true
        valued true e = refl
        valued false e = elim (and_cases (is_old_removal watermark v) (not (list_any (is_later v) versions)) not_spent) [
          | inl f ↦ absurd (true≢false (sym (and_from (not (is_some v.value)) (leb v.number watermark) (ap not e) (le-leb v.number watermark up_to)) ∙ f))
          | inr f ↦ absurd (hidden (not-false (list_any (is_later v) versions) f))
        ]
