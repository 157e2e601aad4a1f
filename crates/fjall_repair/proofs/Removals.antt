-- Runs that remove names and do nothing else.
use Rattle.std.proofs.Common.{◌≡◌, inl, inr, ℕ, ◌+◌, ◌<◌, true, List, [], ◌∷◌, ◌++◌, map, length, take, drop, get_or, Result, Ok, Err, OnOk, OnErr, refl, sym, ◌∙◌, ap, subst, add-one, lit<, take-append-drop}
use Rattle.std.specs.List.{AllByRecursion, Contains, flat_map}
use Rattle.std.specs.Str.{bytes_eq}
use Rattle.std.proofs.lemmas.List.{append-nil, map-append, map_more}
use Rattle.std.proofs.lemmas.List.Concat.{flat_map-cons}
use Rattle.std.proofs.lemmas.List.Elements.{Contains-append_left, Contains-append_right}
use Rattle.std.proofs.lemmas.Grind.{flat_map-append}
use Rattle.std.proofs.lemmas.Slice.Eq.{bytes_eq-Decides}
use Rattle.std.proofs.Math.Seq.{take-suc}
use Rattle.fjall_base.specs.declared.error.Error.{Error}
use Rattle.fjall_base.specs.Disk.{Name, DiskEntry, Missing, File, Folder, Place, DiskState, DiskStep, Put, Meaning, Took, IsNoFile, IsNoFolder, after, put, removing, state_in}
use Rattle.fjall_base.proofs.States.{put-now, put-other, put-same}
use Rattle.fjall_base.proofs.Names.{bool_cases}
use Rattle.fjall_files.proofs.OwnEntries.{contains_map}
use Rattle.fjall_files.specs.Regions.{is_under, AreUnder, Within}
use Rattle.fjall_files.proofs.Made.{gone, took_both}
use Rattle.fjall_repair.specs.Sweeps.{NamesAreGone, RemovesNames, removals}

-- ---- lists

pub all_both : {A : Type 0} (P : A → Type 0) (xs ys : List A) → AllByRecursion P xs → AllByRecursion P ys → AllByRecursion P (xs ++ ys)
all_both P [] ys one two = two
all_both P (x ∷ xs) ys one two = (one.0, all_both P xs ys one.1 two)

pub all_weaker : {A : Type 0} (P Q : A → Type 0) (xs : List A) → ((x : A) → P x → Q x) → AllByRecursion P xs → AllByRecursion Q xs
all_weaker P Q [] to all = tt
all_weaker P Q (x ∷ xs) to all = (to x all.0, all_weaker P Q xs to all.1)

-- the element at an index, by the name that it has
module _ {A : Type 0} (f : A → Name) (xs : List A) (i : ℕ) (d x : A) (file : Name) (at : x ≡ get_or xs i d) (lt : i < length xs) (value : file ≡ f x) where
  pub contained : Contains (map f xs) file
  contained = subst (Contains (map f xs)) (sym (value ∙ ap (λ y. f y) at)) (contains_map f xs i d lt)

  pub one_more : map f (take (i + 1) xs) ≡ map f (take i xs) ++ file ∷ []
  one_more = map_more f xs i d lt ∙ ap (λ (n : Name). map f (take i xs) ++ n ∷ []) (sym (value ∙ ap (λ y. f y) at))

-- ---- runs

module _ (P : Name → Type 0) where
  pub start : (old : Meaning) → RemovesNames P old old
  start old = record { names = []; took = record { state = refl; steps = sym (append-nil old.steps) }; each = tt }

  pub none : (old new : Meaning) → Took old new [] → RemovesNames P old new
  none old new took = record { names = []; took = took; each = tt }

  pub one : (old new : Meaning) (name : Name) (there : DiskEntry) → P name → Took old new (removing name there) → RemovesNames P old new
  one old new name Missing is took = none old new took
  one old new name (File synced unsynced) is took = record { names = name ∷ []; took = took; each = (is, tt) }
  one old new name Folder is took = record { names = name ∷ []; took = took; each = (is, tt) }

  -- a removal that succeeded or did nothing
  pub perhaps : (old new : Meaning) (name : Name) (there : DiskEntry) (r : Result Unit Error) → P name → OnOk r (Took old new (removing name there)) → OnErr r (Took old new []) → RemovesNames P old new
  perhaps old new name there (Ok done) is ok err = one old new name there is ok
  perhaps old new name there (Err e) is ok err = none old new err

  pub both : (old mid new : Meaning) → RemovesNames P old mid → RemovesNames P mid new → RemovesNames P old new
  both old mid new first more = record {
    names = first.names ++ more.names;
    took = subst (λ (steps : List DiskStep). Took old new steps) (sym (map-append (λ (name : Name). Put name Missing) first.names more.names)) (took_both old mid new (removals first.names) (removals more.names) first.took more.took);
    each = all_both P first.names more.names first.each more.each;
  }

  pub all_under : (folder : Name) → ((name : Name) → P name → is_under folder name ≡ true) → (names : List Name) → AllByRecursion P names → AreUnder folder (removals names)
  all_under folder under [] all = tt
  all_under folder under (name ∷ names) all = (under name all.0, all_under folder under names all.1)

  pub within : (folder : Name) (old new : Meaning) → ((name : Name) → P name → is_under folder name ≡ true) → RemovesNames P old new → Within folder old new
  within folder old new under run = record { added = removals run.names; took = run.took; under = all_under folder under run.names run.each }

pub weaker : (P Q : Name → Type 0) (old new : Meaning) → ((name : Name) → P name → Q name) → RemovesNames P old new → RemovesNames Q old new
weaker P Q old new to run = record { names = run.names; took = run.took; each = all_weaker P Q run.names to run.each }

-- ---- what is gone

put_missing : (state : DiskState) (name q : Name) → (state q).now ≡ Missing → (put state name Missing q).now ≡ Missing
put_missing state name q gone = elim (bool_cases (bytes_eq q name)) [
  | inl at ↦ ap (λ (n : Name). (put state name Missing n).now) ((bytes_eq-Decides q name).0 at) ∙ ap (λ (p : Place). p.now) (put-same state name Missing)
  | inr other ↦ ap (λ (p : Place). p.now) (put-other state name Missing q other) ∙ gone
]

pub after_missing : (state : DiskState) (names : List Name) (q : Name) → (state q).now ≡ Missing → (after state (removals names) q).now ≡ Missing
after_missing state [] q gone = gone
after_missing state (name ∷ names) q gone = after_missing (put state name Missing) names q (put_missing state name q gone)

-- what is missing stays so
pub stays_missing : (P : Name → Type 0) (old new : Meaning) (q : Name) → RemovesNames P old new → (state_in old q).now ≡ Missing → (state_in new q).now ≡ Missing
stays_missing P old new q run gone = ap (λ (s : DiskState). (s q).now) run.took.state ∙ after_missing (state_in old) run.names q gone

pub stay_gone : (P : Name → Type 0) (old new : Meaning) (names : List Name) → RemovesNames P old new → NamesAreGone (state_in old) names → NamesAreGone (state_in new) names
stay_gone P old new names run gone = all_weaker (λ (q : Name). (state_in old q).now ≡ Missing) (λ (q : Name). (state_in new q).now ≡ Missing) names (λ q is. stays_missing P old new q run is) gone

file_gone : (old new : Meaning) (name : Name) (there : DiskEntry) → (state_in old name).now ≡ there → IsNoFolder there → Took old new (removing name there) → (state_in new name).now ≡ Missing
file_gone old new name Missing is kind took = ap (λ (s : DiskState). (s name).now) took.state ∙ is
file_gone old new name (File synced unsynced) is kind took = put-now (state_in old) (state_in new) name Missing took.state
file_gone old new name Folder is kind took = absurd kind

-- one more of the files is gone
pub one_gone : (old mid new : Meaning) (names : List Name) (name : Name) → NamesAreGone (state_in mid) names → IsNoFolder (state_in mid name).now
    → Took mid new (removing name (state_in mid name).now) → NamesAreGone (state_in new) (names ++ name ∷ [])
one_gone old mid new names name gone kind took =
    let run : RemovesNames (λ n. Unit {0}) mid new = one (λ n. Unit {0}) mid new name (state_in mid name).now tt took in
    all_both (λ (q : Name). (state_in new q).now ≡ Missing) names (name ∷ []) (stay_gone (λ n. Unit {0}) mid new names run gone) (file_gone mid new name (state_in mid name).now refl kind took, tt)

-- ---- one list of names after another

module _ (first more : List Name) (old mid new : Meaning) where
  pub removes_first : RemovesNames (Contains first) old mid → RemovesNames (Contains (first ++ more)) old mid
  removes_first run = weaker (Contains first) (Contains (first ++ more)) old mid (λ name is. Contains-append_left first more name is) run

  pub removes_both : RemovesNames (Contains first) old mid → RemovesNames (Contains more) mid new → RemovesNames (Contains (first ++ more)) old new
  removes_both run then =
      both (Contains (first ++ more)) old mid new (removes_first run) (weaker (Contains more) (Contains (first ++ more)) mid new (λ name is. Contains-append_right first more name is) then)

  pub gone_both : (r : Result Unit Error) → NamesAreGone (state_in mid) first → RemovesNames (Contains more) mid new → OnOk r (NamesAreGone (state_in new) more) → OnOk r (NamesAreGone (state_in new) (first ++ more))
  gone_both (Ok done) gone then ok = all_both (λ (q : Name). (state_in new q).now ≡ Missing) first more (stay_gone (Contains more) mid new first then gone) ok
  gone_both (Err e) gone then ok = tt

-- a folder
module _ (old new : Meaning) (folder name : Name) (same : name ≡ folder) (r : Result Unit Error) where
  pub folder_removed : OnOk r (Took old new (removing name (state_in old name).now)) → OnErr r (Took old new []) → RemovesNames (Contains (folder ∷ [])) old new
  folder_removed ok err = perhaps (Contains (folder ∷ [])) old new name (state_in old name).now r (0, lit< tt, sym same) ok err

  pub folder_gone : OnOk r (IsNoFile (state_in old name).now) → OnOk r (Took old new (removing name (state_in old name).now)) → OnOk r (NamesAreGone (state_in new) (folder ∷ []))
  folder_gone kind ok = on_ok r (gone name old new r kind ok)
    where
      on_ok : (r : Result Unit Error) → OnOk r ((state_in new name).now ≡ Missing) → OnOk r (NamesAreGone (state_in new) (folder ∷ []))
      on_ok (Ok done) is = (subst (λ (n : Name). (state_in new n).now ≡ Missing) same is, tt)
      on_ok (Err e) is = tt

-- one home more of a list
module _ {A : Type 0} (f : A → List Name) (xs : List A) (i : ℕ) (d x : A) (at : x ≡ get_or xs i d) (lt : i < length xs) where
  more_of : flat_map f (take (i + 1) xs) ≡ flat_map f (take i xs) ++ f x
  more_of =
      let split : take (i + 1) xs ≡ take i xs ++ x ∷ [] = rw add-one (take-suc xs i d lt ∙ ap (λ (y : A). take i xs ++ y ∷ []) (sym at)) in
      ap (λ (l : List A). flat_map f l) split ∙ flat_map-append f (take i xs) (x ∷ []) ∙ ap (λ (l : List Name). flat_map f (take i xs) ++ l) (flat_map-cons f x [] ∙ append-nil (f x))

  pub within_all : (name : Name) → Contains (f x) name → Contains (flat_map f xs) name
  within_all name is =
      let parts : flat_map f xs ≡ flat_map f (take (i + 1) xs) ++ flat_map f (drop (i + 1) xs) =
      ap (λ (l : List A). flat_map f l) (sym (take-append-drop (i + 1) xs)) ∙ flat_map-append f (take (i + 1) xs) (drop (i + 1) xs) in
      let front : Contains (flat_map f (take (i + 1) xs)) name = subst (λ (l : List Name). Contains l name) (sym more_of) (Contains-append_right (flat_map f (take i xs)) (f x) name is) in
      subst (λ (l : List Name). Contains l name) (sym parts) (Contains-append_left (flat_map f (take (i + 1) xs)) (flat_map f (drop (i + 1) xs)) name front)

  pub home_removed : (old mid new : Meaning) → RemovesNames (Contains (flat_map f xs)) old mid → RemovesNames (Contains (f x)) mid new → RemovesNames (Contains (flat_map f xs)) old new
  home_removed old mid new run then = both (Contains (flat_map f xs)) old mid new run (weaker (Contains (f x)) (Contains (flat_map f xs)) mid new within_all then)

  pub home_gone : (mid new : Meaning) → NamesAreGone (state_in mid) (flat_map f (take i xs)) → RemovesNames (Contains (f x)) mid new → NamesAreGone (state_in new) (f x) → NamesAreGone (state_in new) (flat_map f (take (i + 1) xs))
  home_gone mid new gone then here =
      subst (λ (l : List Name). NamesAreGone (state_in new) l) (sym more_of) (all_both (λ (q : Name). (state_in new q).now ≡ Missing) (flat_map f (take i xs)) (f x) (stay_gone (Contains (f x)) mid new (flat_map f (take i xs)) then gone) here)
