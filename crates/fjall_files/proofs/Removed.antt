-- A folder whose files are removed one after another.
use Rattle.std.proofs.Common.{◌≡◌, ◌≢◌, inl, inr, ℕ, zero, suc, ◌+◌, ◌<◌, false, List, [], ◌∷◌, drop, get_or, length, map, Any, refl, sym, ◌∙◌, ap, subst, arith}
use Rattle.std.proofs.lemmas.List.{drop_more}
use Rattle.std.proofs.lemmas.List.Elements.{All-head, All-tail}
use Rattle.std.specs.Str.{bytes_eq}
use Rattle.fjall_base.specs.Disk.{Name, DiskEntry, Missing, File, Folder, Place, DiskState, Meaning, Took, CanRemoveFolder, IsNoFile, IsNoFolder, removing, state_in}
use Rattle.fjall_base.proofs.States.{put-now, put-other}
use Rattle.fjall_files.specs.Regions.{HoldsOnly}
use Rattle.fjall_base.proofs.Names.{bool_cases, same}

removed_at : (file : Name) (old new : Meaning) (there : DiskEntry) → (state_in old file).now ≡ there → Took old new (removing file there) → (state_in new file).now ≡ Missing
removed_at file old new Missing is took = ap (λ (s : DiskState). (s file).now) took.state ∙ is
removed_at file old new (File synced unsynced) is took = put-now (state_in old) (state_in new) file Missing took.state
removed_at file old new Folder is took = put-now (state_in old) (state_in new) file Missing took.state

removed_other : (file q : Name) (old new : Meaning) (there : DiskEntry) → bytes_eq q file ≡ false → Took old new (removing file there) → state_in new q ≡ state_in old q
removed_other file q old new Missing not took = ap (λ (s : DiskState). s q) took.state
removed_other file q old new (File synced unsynced) not took = ap (λ (s : DiskState). s q) took.state ∙ put-other (state_in old) file Missing q not
removed_other file q old new Folder not took = ap (λ (s : DiskState). s q) took.state ∙ put-other (state_in old) file Missing q not

removed_keeps : (P : DiskEntry → Type 0) → P Missing → (file q : Name) (old new : Meaning) → Took old new (removing file (state_in old file).now) → P (state_in old q).now → P (state_in new q).now
removed_keeps P gone file q old new took p = elim (bool_cases (bytes_eq q file)) [
  | inl is ↦ subst P (sym (ap (λ (n : Name). (state_in new n).now) (same is) ∙ removed_at file old new _ refl took)) gone
  | inr not ↦ subst (λ (place : Place). P place.now) (sym (removed_other file q old new _ not took)) p
]

any_later : (q file : Name) (rest : List Name) → q ≢ file → Any (λ n. n ≡ q) (file ∷ rest) → Any (λ n. n ≡ q) rest
any_later q file rest other (zero, x, lt, at, is) = absurd (other (sym (at ∙ is)))
any_later q file rest other (suc k, x, lt, at, is) = (k, x, omega arith, at, is)

one_less : (folder file : Name) (rest : List Name) (old new : Meaning) → Took old new (removing file (state_in old file).now) → HoldsOnly (state_in old) folder (file ∷ rest) → HoldsOnly (state_in new) folder rest
one_less folder file rest old new took holds = record {
  kind = removed_keeps IsNoFile tt file folder old new took holds.kind;
  each = λ i d lt. removed_keeps IsNoFolder tt file (get_or rest i d) old new took (All-tail (λ n. IsNoFolder (state_in old n).now) file rest holds.each i d lt);
  whole = λ q inside some. elim (bool_cases (bytes_eq q file)) [
    | inl is ↦ absurd (some (ap (λ (n : Name). (state_in new n).now) (same is) ∙ removed_at file old new _ refl took))
    | inr not ↦
        let as_was = removed_other file q old new _ not took in
        let other : q ≢ file = λ e. some (ap (λ (n : Name). (state_in new n).now) e ∙ removed_at file old new _ refl took) in
        any_later q file rest other (holds.whole q inside (λ none. some (ap (λ (p : Place). p.now) as_was ∙ none)))
  ];
}

-- the names of the items from the i-th on
abbrev pub names_from : {T : Type 0} → (T → Name) → ℕ → List T → List Name
names_from name i items = map name (drop i items)

-- the i-th of these is removed
pub next_removed : {T : Type 0} (name : T → Name) (folder file : Name) (items : List T) (i : ℕ) (item : T) (old new : Meaning) → i < length items → item ≡ get_or items i item → file ≡ name item
    → Took old new (removing file (state_in old file).now) → HoldsOnly (state_in old) folder (names_from name i items) → HoldsOnly (state_in new) folder (names_from name (i + 1) items)
next_removed {T} name folder file items i item old new lt is at took holds =
    let head : name (get_or items i item) ≡ file = ap name (sym is) ∙ sym at in
    let split : names_from name i items ≡ file ∷ names_from name (i + 1) items = ap (λ (l : List T). map name l) (drop_more items i item lt) ∙ ap (λ (n : Name). n ∷ names_from name (i + 1) items) head in
    one_less folder file (names_from name (i + 1) items) old new took (subst (λ (l : List Name). HoldsOnly (state_in old) folder l) split holds)

-- the next one is no folder
pub next_kind : {T : Type 0} (name : T → Name) (folder file : Name) (items : List T) (i : ℕ) (item : T) (state : DiskState) → i < length items → item ≡ get_or items i item → file ≡ name item
    → HoldsOnly state folder (names_from name i items) → IsNoFolder (state file).now
next_kind {T} name folder file items i item state lt is at holds =
    let head : name (get_or items i item) ≡ file = ap name (sym is) ∙ sym at in
    let split : names_from name i items ≡ file ∷ names_from name (i + 1) items = ap (λ (l : List T). map name l) (drop_more items i item lt) ∙ ap (λ (n : Name). n ∷ names_from name (i + 1) items) head in
    All-head (λ n. IsNoFolder (state n).now) file (names_from name (i + 1) items) (subst (λ (l : List Name). HoldsOnly state folder l) split holds).each

nothing_there : (entry : DiskEntry) → (entry ≢ Missing → ⊥) → entry ≡ Missing
nothing_there Missing some = refl
nothing_there (File synced unsynced) some = absurd (some (λ e. cc))
nothing_there Folder some = absurd (some (λ e. cc))

-- all are removed
pub emptied : (state : DiskState) (folder : Name) → HoldsOnly state folder [] → CanRemoveFolder state folder
emptied state folder holds = record {
  kind = holds.kind;
  empty = λ there q inside. nothing_there (state q).now (λ some. let any = holds.whole q inside some in let lt = any.2 in absurd (omega (arith, lt)));
}
