-- How a list of named entries stands for a state.
use Rattle.std.proofs.Common.{◌≡◌, ◌≢◌, ◌↔◌, IsTrue, inl, inr, ℕ, zero, suc, ◌+◌, ◌<◌, ◌≤◌, Bool, true, false, List, [], ◌∷◌, ◌++◌, Some, None, set, get_or, length, refl, sym, ◌∙◌, ap, subst, arith, if◌then◌else◌, string_bytes, position, map}
use Rattle.std.specs.List.{position_or_len}
use Rattle.std.proofs.lemmas.Bool.Decides.{nat_tests}
use Rattle.std.proofs.lemmas.List.Quantifiers.{position-Some}
use Rattle.std.specs.Str.{bytes_eq}
use Rattle.fjall_base.specs.Disk.{Name, DiskEntry, Missing, File, Folder, Place, DiskState, IsThere, standing, put, alter}
use Rattle.fjall_disk_memory.specs.declared.node.Named.{Named}
use Rattle.fjall_disk_memory.specs.declared.node.FileChange.{FileChange}
use Rattle.fjall_disk_memory.specs.declared.node.FileChange.TheVariants.{Append, Sync, Cut, Fill}
use Rattle.fjall_disk_memory.specs.Memory.{entry_of, place_of, state_of, FitsEntry, IsKind}
use Rattle.fjall_disk_memory.specs.declared.node.Kind.{Kind}
use Rattle.fjall_disk_memory.specs.declared.node.Kind.TheVariants as kinds
use Rattle.fjall_base.proofs.Names.{bool_cases, same, same_test}

-- a name is that of the entry
abbrev pub is_named : Name → Named → Bool
is_named q named = bytes_eq q (string_bytes named.name)

-- the entry of that name, where every one before it has another
pub state_set : (names : List Named) (q : Name) (i : ℕ) (d new : Named) → i < length names
    → is_named q (get_or names i d) ≡ true → ((k : ℕ) → k < i → is_named q (get_or names k d) ≡ false) → is_named q new ≡ true
    → (r : Name) → state_of (set names i new) r ≡ (if bytes_eq r q then place_of new else state_of names r)
state_set [] q i d new lt here before is r = absurd (omega arith)
state_set (x ∷ xs) q zero d new lt here before is r =
    let named : q ≡ string_bytes new.name = same is in
    let old : q ≡ string_bytes x.name = same here in
    elim (bool_cases (bytes_eq r q)) [
      | inl is_r ↦ let yes_new : bytes_eq r (string_bytes new.name) ≡ true = subst (λ n. bytes_eq r n ≡ true) named is_r in rw (yes_new, is_r) refl
      | inr not_r ↦
          let no_new : bytes_eq r (string_bytes new.name) ≡ false = subst (λ n. bytes_eq r n ≡ false) named not_r in
          let no_old : bytes_eq r (string_bytes x.name) ≡ false = subst (λ n. bytes_eq r n ≡ false) old not_r in rw (no_new, not_r, no_old) refl
    ]
state_set (x ∷ xs) q (suc i) d new lt here before is r =
    let rest = state_set xs q i d new (omega arith) here (λ k below. before (suc k) (omega arith)) is r in
    let not_x : bytes_eq q (string_bytes x.name) ≡ false = before 0 (omega arith) in
    elim (bool_cases (bytes_eq r q)) [
      | inl is_r ↦ let no_x : bytes_eq r (string_bytes x.name) ≡ false = subst (λ n. bytes_eq n (string_bytes x.name) ≡ false) (sym (same is_r)) not_x in rw no_x rest
      | inr not_r ↦ elim (bool_cases (bytes_eq r (string_bytes x.name))) [
        | inl at_x ↦ rw (at_x, not_r) refl
        | inr not_at_x ↦ rw not_at_x rest
      ]
    ]

-- what stands at that name
pub state_at : (names : List Named) (q : Name) (i : ℕ) (d : Named) → i < length names
    → is_named q (get_or names i d) ≡ true → ((k : ℕ) → k < i → is_named q (get_or names k d) ≡ false)
    → state_of names q ≡ place_of (get_or names i d)
state_at [] q i d lt here before = absurd (omega arith)
state_at (x ∷ xs) q zero d lt here before = let at_x : bytes_eq q (string_bytes x.name) ≡ true = here in rw at_x refl
state_at (x ∷ xs) q (suc i) d lt here before =
    let not_x : bytes_eq q (string_bytes x.name) ≡ false = before 0 (omega arith) in
    rw not_x (state_at xs q i d (omega arith) here (λ k below. before (suc k) (omega arith)))

-- nothing stands at a name that no entry has
pub state_none : (names : List Named) (q : Name) → ((k : ℕ) (d : Named) → k < length names → is_named q (get_or names k d) ≡ false)
    → state_of names q ≡ record { now = Missing; older = [] }
state_none [] q none = refl
state_none (x ∷ xs) q none =
    let not_x : bytes_eq q (string_bytes x.name) ≡ false = none 0 x (omega arith) in
    rw not_x (state_none xs q (λ k d below. none (suc k) d (omega arith)))

pub state_push : (names : List Named) (q : Name) (new : Named) → ((k : ℕ) (d : Named) → k < length names → is_named q (get_or names k d) ≡ false)
    → is_named q new ≡ true → (r : Name) → state_of (names ++ new ∷ []) r ≡ (if bytes_eq r q then place_of new else state_of names r)
state_push [] q new none is r =
    let named : q ≡ string_bytes new.name = same is in ap (λ (n : Name). if bytes_eq r n then place_of new else record { now = Missing; older = [] }) (sym named)
state_push (x ∷ xs) q new none is r =
    let rest = state_push xs q new (λ k d below. none (suc k) d (omega arith)) is r in
    let not_x : bytes_eq q (string_bytes x.name) ≡ false = none 0 x (omega arith) in
    elim (bool_cases (bytes_eq r q)) [
      | inl is_r ↦ let no_x : bytes_eq r (string_bytes x.name) ≡ false = subst (λ n. bytes_eq n (string_bytes x.name) ≡ false) (sym (same is_r)) not_x in rw no_x rest
      | inr not_r ↦ elim (bool_cases (bytes_eq r (string_bytes x.name))) [
        | inl at_x ↦ rw (at_x, not_r) refl
        | inr not_at_x ↦ rw not_at_x rest
      ]
    ]

none_before : (p : Named → Bool) (names : List Named) → length names ≤ position_or_len p names → (k : ℕ) (d : Named) → k < length names → p (get_or names k d) ≡ false
none_before p [] long k d lt = absurd (omega arith)
none_before p (x ∷ xs) long k d lt = elim (bool_cases (p x)) [
  | inl is_x ↦ let short : position_or_len p (x ∷ xs) ≡ 0 = rw is_x refl in absurd (omega arith)
  | inr not_x ↦
      let longer : position_or_len p (x ∷ xs) ≡ 1 + position_or_len p xs = rw not_x refl in
      none_step p x xs not_x (none_before p xs (omega arith)) k d lt
]
  where
    none_step : (p : Named → Bool) (x : Named) (xs : List Named) → p x ≡ false → ((k : ℕ) (d : Named) → k < length xs → p (get_or xs k d) ≡ false)
        → (k : ℕ) (d : Named) → k < length (x ∷ xs) → p (get_or (x ∷ xs) k d) ≡ false
    none_step p x xs not_x rest zero d lt = not_x
    none_step p x xs not_x rest (suc k) d lt = rest k d (omega arith)

position_none : (p : Named → Bool) (names : List Named) → position p names ≡ None → (k : ℕ) (d : Named) → k < length names → p (get_or names k d) ≡ false
position_none p names is = none_before p names (grind (arith, nat_tests))

-- a change of the entry of that name
pub alter_names : (names : List Named) (q : Name) (i : ℕ) (d new : Named) (f : DiskEntry → DiskEntry) → position (is_named q) names ≡ Some i → d ≡ get_or names i d
    → string_bytes new.name ≡ string_bytes d.name → entry_of new.now ≡ f (entry_of d.now)
    → map entry_of new.older.items ≡ map entry_of d.older.items
    → state_of (set names i new) ≡ alter (state_of names) q f
unfolding alter
alter_names names q i d new f at item name_same now_is older_same =
    let first = position-Some (is_named q) names i d at in
    let was : state_of names q ≡ place_of d = state_at names q i d first.0 first.1 first.2 ∙ ap place_of (sym item) in
    let old_named : is_named q d ≡ true = subst (λ n. is_named q n ≡ true) (sym item) first.1 in
    let named : is_named q new ≡ true = rw name_same old_named in
    let placed : place_of new ≡ record { now = f (state_of names q).now; older = (state_of names q).older } = rw was (λ j. record { now = now_is j; older = older_same j }) in
    let each : (r : Name) → state_of (set names i new) r ≡ alter (state_of names) q f r =
    λ r. state_set names q i d new first.0 first.1 first.2 named r ∙ ap (λ (p : Place). if bytes_eq r q then p else state_of names r) placed in
    λ j r. each r j

-- another entry at that name, where it has one
pub put_names : (names : List Named) (q : Name) (i : ℕ) (d new : Named) (entry : DiskEntry) → position (is_named q) names ≡ Some i → d ≡ get_or names i d
    → string_bytes new.name ≡ string_bytes d.name → entry_of new.now ≡ entry
    → map entry_of new.older.items ≡ map entry_of d.older.items ++ entry_of d.now ∷ []
    → state_of (set names i new) ≡ put (state_of names) q entry
unfolding put
put_names names q i d new entry at item name_same now_is older_is =
    let first = position-Some (is_named q) names i d at in
    let was : state_of names q ≡ place_of d = state_at names q i d first.0 first.1 first.2 ∙ ap place_of (sym item) in
    let old_named : is_named q d ≡ true = subst (λ n. is_named q n ≡ true) (sym item) first.1 in
    let named : is_named q new ≡ true = rw name_same old_named in
    let placed : place_of new ≡ record { now = entry; older = (state_of names q).older ++ (state_of names q).now ∷ [] } = rw was (λ j. record { now = now_is j; older = older_is j }) in
    let each : (r : Name) → state_of (set names i new) r ≡ put (state_of names) q entry r =
    λ r. state_set names q i d new first.0 first.1 first.2 named r ∙ ap (λ (p : Place). if bytes_eq r q then p else state_of names r) placed in
    λ j r. each r j

-- a new entry, where the name has none
pub put_new : (names : List Named) (q : Name) (new : Named) (entry : DiskEntry) → position (is_named q) names ≡ None
    → string_bytes new.name ≡ q → entry_of new.now ≡ entry → map entry_of new.older.items ≡ Missing ∷ []
    → state_of (names ++ new ∷ []) ≡ put (state_of names) q entry
unfolding put
put_new names q new entry none name_is now_is older_is =
    let absent = position_none (is_named q) names none in
    let was : state_of names q ≡ record { now = Missing; older = [] } = state_none names q (λ k d. absent k d) in
    let named : is_named q new ≡ true = rw name_is (same_test q) in
    let placed : place_of new ≡ record { now = entry; older = (state_of names q).older ++ (state_of names q).now ∷ [] } = rw was (λ j. record { now = now_is j; older = older_is j }) in
    let each : (r : Name) → state_of (names ++ new ∷ []) r ≡ put (state_of names) q entry r =
    λ r. state_push names q new (λ k d. absent k d) named r ∙ ap (λ (p : Place). if bytes_eq r q then p else state_of names r) placed in
    λ j r. each r j

-- an entry of that name that stands for the same
pub same_names : (names : List Named) (q : Name) (i : ℕ) (d new : Named) → position (is_named q) names ≡ Some i → d ≡ get_or names i d
    → string_bytes new.name ≡ string_bytes d.name → entry_of new.now ≡ entry_of d.now
    → map entry_of new.older.items ≡ map entry_of d.older.items
    → state_of (set names i new) ≡ state_of names
same_names names q i d new at item name_same now_same older_same =
    let first = position-Some (is_named q) names i d at in
    let was : state_of names q ≡ place_of d = state_at names q i d first.0 first.1 first.2 ∙ ap place_of (sym item) in
    let old_named : is_named q d ≡ true = subst (λ n. is_named q n ≡ true) (sym item) first.1 in
    let named : is_named q new ≡ true = rw name_same old_named in
    let placed : place_of new ≡ state_of names q = rw was (λ j. record { now = now_same j; older = older_same j }) in
    let back : (r : Name) → (if bytes_eq r q then state_of names q else state_of names r) ≡ state_of names r =
    λ r. elim (bool_cases (bytes_eq r q)) [ inl is_r ↦ rw is_r (ap (state_of names) (sym (same is_r))) | inr not_r ↦ rw not_r refl ] in
    let each : (r : Name) → state_of (set names i new) r ≡ state_of names r =
    λ r. state_set names q i d new first.0 first.1 first.2 named r ∙ ap (λ (p : Place). if bytes_eq r q then p else state_of names r) placed ∙ back r in
    λ j r. each r j

-- what stands at a name that is found, and at one that is not
pub found_at : (names : List Named) (q : Name) (i : ℕ) (d : Named) → position (is_named q) names ≡ Some i → state_of names q ≡ place_of (get_or names i d)
found_at names q i d at =
    let first = position-Some (is_named q) names i d at in
    state_at names q i d first.0 first.1 first.2

pub none_at : (names : List Named) (q : Name) → position (is_named q) names ≡ None → state_of names q ≡ record { now = Missing; older = [] }
none_at names q none = state_none names q (λ k d. position_none (is_named q) names none k d)

-- where something stands at a name, an entry has it
pub present : (names : List Named) (q : Name) → ((state_of names q).now ≡ Missing → ⊥) → (k : ℕ) × (d : Named) × (k < length names) × (string_bytes (get_or names k d).name ≡ q)
present [] q there = absurd (there refl)
present (x ∷ xs) q there = elim (bool_cases (bytes_eq q (string_bytes x.name))) [
  | inl at_x ↦ (0, x, omega arith, sym (same {q = q} {r = string_bytes x.name} at_x))
  | inr not_x ↦
      let rest_there : (state_of xs q).now ≡ Missing → ⊥ = λ none. there (rw not_x none) in
      let rest = present xs q rest_there in (suc rest.0, rest.1, omega (arith, rest.2), rest.3)
]

-- no folder that is not the root is there where something else stands
pub not_there : (state : DiskState) (folder : Name) → folder ≢ [] → ((state folder).now ≡ Folder → ⊥) → IsTrue false ↔ IsThere (standing state) folder
not_there state folder inner none = (λ bad. cc, λ there. elim there [ inl root ↦ absurd (inner root) | inr stands ↦ absurd (none stands) ])

-- no change fits where nothing stands
pub never_fits : (change : FileChange) → IsTrue false ↔ FitsEntry change Missing
never_fits (Append bytes) = (λ bad. cc, λ fits. absurd fits)
never_fits Sync = (λ bad. cc, λ fits. absurd fits)
never_fits (Cut len) = (λ bad. cc, λ fits. absurd fits)
never_fits (Fill bytes) = (λ bad. cc, λ fits. absurd fits)

pub no_folder : (kind : Kind) (entry : DiskEntry) → IsKind kind entry → (kind ≡ kinds.Folder → ⊥) → entry ≡ Folder → ⊥
no_folder kinds.Missing entry is not folder = let both : Missing ≡ Folder = sym is ∙ folder in cc
no_folder kinds.File entry is not folder = let both : File is.0 is.1 ≡ Folder = sym is.2 ∙ folder in cc
no_folder kinds.Folder entry is not folder = not refl
