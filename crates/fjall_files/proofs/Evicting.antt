-- One eviction after another.
use Rattle.std.proofs.Common.{◌≡◌, ◌⊎◌, inl, inr, ℕ, ◌≤◌, Bool, true, IsTrue, List, [], ◌∷◌, ◌++◌, refl, sym, ap, ◌∙◌, subst, append_assoc, arith}
use Rattle.std.specs.Prelude.{◌&&◌, Result, Ok, Err, OnErr}
use Rattle.std.specs.List.{list_all}
use Rattle.std.specs.Str.{bytes_eq}
use Rattle.std.proofs.lemmas.List.{append-nil}
use Rattle.std.proofs.lemmas.List.Folds.{list_all-append}
use Rattle.fjall_base.specs.declared.error.Error.{Error}
use Rattle.fjall_base.specs.Disk.{Name, DiskEntry, Missing, File, Folder, Place, DiskState, DiskStep, SyncFolder, Meaning, Took, IsNoFolder, after, removing, state_in, put, settle, folder_of}
use Rattle.fjall_base.proofs.Moments.{after-append}
use Rattle.fjall_base.proofs.Names.{bool_cases, same}
use Rattle.fjall_base.proofs.States.{put-same, put-other, settle-in, settle-out}
use Rattle.fjall_files.specs.Names.{journal_name}
use Rattle.fjall_journal.proofs.Writing.{took_none, took_then}
use Rattle.fjall_files.specs.Journals.{Sealed, may_go, going, staying, names_of}
use Rattle.fjall_files.specs.Evictions.{HasNoFolders, StoppedBehind, TookEvictions, evicting, evicting_one}
use Rattle.fjall_files.proofs.Going.{Stops, going_on, staying_on, none_goes, all_stay}

-- ---- steps

pub evicting-append : (state : DiskState) (xs ys : List Name) → evicting state (xs ++ ys) ≡ evicting state xs ++ evicting (after state (evicting state xs)) ys
evicting-append state [] ys = refl
evicting-append state (x ∷ xs) ys =
    let one = evicting_one state x in
    let mid = after state one in
    ap (λ (l : List DiskStep). one ++ l) (evicting-append mid xs ys) ∙ sym (append_assoc one (evicting mid xs) (evicting (after mid (evicting mid xs)) ys))
    ∙ ap (λ (s : DiskState). (one ++ evicting mid xs) ++ evicting s ys) (sym (after-append state one (evicting mid xs)))

names-append : (xs ys : List Sealed) → names_of (xs ++ ys) ≡ names_of xs ++ names_of ys
names-append [] ys = refl
names-append (x ∷ xs) ys = ap (λ (l : List Name). journal_name x.id ∷ l) (names-append xs ys)

settle-now : (state : DiskState) (folder q : Name) → (settle state folder q).now ≡ (state q).now
settle-now state folder q = elim (bool_cases (bytes_eq (folder_of q) folder)) [
  | inl is ↦ ap (λ (p : Place). p.now) (settle-in state folder q (same is))
  | inr not ↦ ap (λ (p : Place). p.now) (settle-out state folder q not)
]

put_kind : (state : DiskState) (name q : Name) → IsNoFolder (state q).now → IsNoFolder (put state name Missing q).now
put_kind state name q none = elim (bool_cases (bytes_eq q name)) [
  | inl is ↦ subst (λ (n : Name). IsNoFolder (put state name Missing n).now) (sym (same {q = q} {r = name} is)) (subst (λ (p : Place). IsNoFolder p.now) (sym (put-same state name Missing)) tt)
  | inr not ↦ subst (λ (p : Place). IsNoFolder p.now) (sym (put-other state name Missing q not)) none
]

settled_kind : (state : DiskState) (q : Name) → IsNoFolder (state q).now → IsNoFolder (settle state [] q).now
settled_kind state q none = subst (λ (e : DiskEntry). IsNoFolder e) (sym (settle-now state [] q)) none

one_kind : (state : DiskState) (name q : Name) (entry : DiskEntry) → IsNoFolder (state q).now → IsNoFolder (after state (removing name entry ++ SyncFolder [] ∷ []) q).now
one_kind state name q Missing none = settled_kind state q none
one_kind state name q (File synced unsynced) none = settled_kind (put state name Missing) q (put_kind state name q none)
one_kind state name q Folder none = settled_kind (put state name Missing) q (put_kind state name q none)

kinds : (state : DiskState) (name : Name) (names : List Name) → HasNoFolders state names → HasNoFolders (after state (evicting_one state name)) names
kinds state name [] none = tt
kinds state name (q ∷ names) none = (one_kind state name q (state name).now none.0, kinds state name names none.1)

-- ---- a run of evictions

pub record Evicted (flushed : ℕ → ℕ → Bool) (honest : Bool) (journals now : List Sealed) (old new : Meaning) : Type 0 where
  pub gone : List Sealed
  pub all : journals ≡ gone ++ now
  pub each : IsTrue (list_all (may_go flushed) gone)
  pub took : IsTrue honest → Took old new (evicting (state_in old) (names_of gone))
  pub served : IsTrue honest → HasNoFolders (state_in old) (names_of journals) → (new.misuses ≡ old.misuses) × HasNoFolders (state_in new) (names_of now)
  pub later : old.faults ≤ new.faults

pub no_evictions : (flushed : ℕ → ℕ → Bool) (honest : Bool) (journals : List Sealed) (old : Meaning) → Evicted flushed honest journals journals old old
no_evictions flushed honest journals old = record {
  gone = [];
  all = refl;
  each = refl;
  took = λ _. record { state = refl; steps = sym (append-nil old.steps) };
  served = λ _ none. (refl, none);
  later = omega arith;
}

one_more : (flushed : ℕ → ℕ → Bool) (gone : List Sealed) (next : Sealed) → IsTrue (list_all (may_go flushed) gone) → may_go flushed next ≡ true → IsTrue (list_all (may_go flushed) (gone ++ next ∷ []))
one_more flushed gone next each may =
    list_all-append (may_go flushed) gone (next ∷ []) ∙ ap (λ b. b && (may_go flushed next && true)) each ∙ ap (λ b. b && true) may

pub another : (flushed : ℕ → ℕ → Bool) (honest : Bool) (journals later : List Sealed) (next : Sealed) (old mid new : Meaning)
    → Evicted flushed honest journals (next ∷ later) old mid → may_go flushed next ≡ true
    → (IsTrue honest → Took mid new (evicting_one (state_in mid) (journal_name next.id)))
    → (IsTrue honest → IsNoFolder (state_in mid (journal_name next.id)).now → new.misuses ≡ mid.misuses)
    → mid.faults ≤ new.faults
    → Evicted flushed honest journals later old new
another flushed honest journals later next old mid new run may took served rose =
    let name = journal_name next.id in
    record {
      gone = run.gone ++ next ∷ [];
      all = run.all ∙ sym (append_assoc run.gone (next ∷ []) later);
      each = one_more flushed run.gone next run.each may;
      took = λ h.
          let before = run.took h in
          let steps = evicting (state_in old) (names_of run.gone) in
          let one : evicting (after (state_in old) steps) (name ∷ []) ≡ evicting_one (state_in mid) name =
          append-nil (evicting_one (after (state_in old) steps) name) ∙ ap (λ (s : DiskState). evicting_one s name) (sym before.state) in
          let more : evicting (state_in old) (names_of (run.gone ++ next ∷ [])) ≡ steps ++ evicting_one (state_in mid) name =
          ap (evicting (state_in old)) (names-append run.gone (next ∷ [])) ∙ evicting-append (state_in old) (names_of run.gone) (name ∷ []) ∙ ap (λ (l : List DiskStep). steps ++ l) one in
          subst (λ (l : List DiskStep). Took old new l) (sym more) (took_then old mid new steps (evicting_one (state_in mid) name) before (took h));
      served = λ h none.
          let before = run.served h none in
          let still = subst (λ (s : DiskState). HasNoFolders s (names_of later)) (sym (took h).state) (kinds (state_in mid) name (names_of later) before.1.1) in
          (served h before.1.0 ∙ before.0, still);
      later = omega (arith, run.later, rose);
    }

took_until : (old mid new : Meaning) (gone : List Sealed) (next : Sealed) → Took old mid (evicting (state_in old) (names_of gone))
    → Took mid new [] ⊎ Took mid new (removing (journal_name next.id) (state_in mid (journal_name next.id)).now) → TookEvictions old new gone next
took_until old mid new gone next before (inl none) = inl (took_none old mid new (evicting (state_in old) (names_of gone)) before none)
took_until old mid new gone next before (inr removed) =
    let steps = evicting (state_in old) (names_of gone) in
    let name = journal_name next.id in
    inr (subst (λ (s : DiskState). Took old new (steps ++ removing name (s name).now)) before.state (took_then old mid new steps (removing name (state_in mid name).now) before removed))

-- ---- the end

pub ended : (flushed : ℕ → ℕ → Bool) (honest : Bool) (journals now : List Sealed) (old new : Meaning) → Evicted flushed honest journals now old new → Stops flushed now → now ≡ staying flushed journals
ended flushed honest journals now old new run stops =
    sym (ap (staying flushed) run.all ∙ staying_on flushed run.gone now run.each ∙ all_stay flushed now stops)

pub ended_took : (flushed : ℕ → ℕ → Bool) (honest : Bool) (journals now : List Sealed) (old new : Meaning) → Evicted flushed honest journals now old new → Stops flushed now → IsTrue honest
    → Took old new (evicting (state_in old) (names_of (going flushed journals)))
ended_took flushed honest journals now old new run stops h =
    let went : going flushed journals ≡ run.gone =
    ap (going flushed) run.all ∙ going_on flushed run.gone now run.each ∙ ap (λ (l : List Sealed). run.gone ++ l) (none_goes flushed now stops) ∙ append-nil run.gone in
    subst (λ (l : List Sealed). Took old new (evicting (state_in old) (names_of l))) (sym went) (run.took h)

-- ---- a refusal

pub left_behind : (r : Result Unit Error) (flushed : ℕ → ℕ → Bool) (honest : Bool) (journals now : List Sealed) (next : Sealed) (later : List Sealed) (old mid new : Meaning) → now ≡ next ∷ later
    → Evicted flushed honest journals now old mid → may_go flushed next ≡ true → IsTrue honest
    → Took mid new [] ⊎ Took mid new (removing (journal_name next.id) (state_in mid (journal_name next.id)).now)
    → OnErr r ((gone : List Sealed) × (behind : StoppedBehind flushed journals now gone) × TookEvictions old new gone behind.next)
left_behind (Ok v) flushed honest journals now next later old mid new is run may h took = tt
left_behind (Err e) flushed honest journals now next later old mid new is run may h took = (
  run.gone,
  record { next = next; later = later; all = run.all ∙ ap (λ (l : List Sealed). run.gone ++ l) is; left = is; each = one_more flushed run.gone next run.each may },
  took_until old mid new run.gone next (run.took h) took,
)
