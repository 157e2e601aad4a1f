-- Steps of a folder's making, and how a disk goes on by them.
use Rattle.std.proofs.Common.{◌≡◌, ◌≢◌, inl, inr, ℕ, ◌<◌, ◌^◌, Bool, true, false, List, [], ◌∷◌, ◌++◌, take, Result, Ok, Err, refl, sym, ◌∙◌, ap, subst, arith}
use Rattle.std.proofs.lemmas.List.{append-nil}
use Rattle.std.specs.Prelude.{OnOk, OnErr}
use Rattle.std.specs.List.{AllByRecursion}
use Rattle.std.specs.Str.{bytes_eq}
use Rattle.fjall_base.specs.declared.error.Error.{Error}
use Rattle.fjall_base.specs.Disk.{Name, DiskEntry, Missing, File, Folder, Place, DiskState, Image, DiskStep, Put, Append, Sync, Loosen, Cut, SyncFolder, Meaning, Took, TookCut, TookOrNot, TookPart, Leaves, after, all_synced, alter, appended, change, cut_to, folder_of, loosened, making, put, settle, state_in}
use Rattle.fjall_base.proofs.States.{alter-same, alter-other, differs, put-same, put-other, settle-in, settle-out}
use Rattle.fjall_base.proofs.Moments.{runs_on, stays}
use Rattle.fjall_base.proofs.Names.{bool_cases, same}
use Rattle.fjall_files.specs.Texts.{text_in}
use Rattle.fjall_files.specs.Regions.{AreUnder, Within, is_under, target}
use Rattle.fjall_files.proofs.Made.{took_both}
use Rattle.fjall_files.specs.Names.{table_name}
use Rattle.fjall_repair.specs.Making.{CanHold, ChangesAt, IsKept, IsMaking, KeepsAllTables, MakingGoesOn, MayStand, StaysAt}
use Rattle.fjall_repair.proofs.Standing.{all_appended_stands, appended_stands, cut_stands, kept_image, loosened_stands, synced_stands}

-- ---- one step

-- what a step keeps
pub record Carries (marking : Bool) (old new : DiskState) : Type 0 where
  pub now : IsMaking marking (λ name. (old name).now) → IsMaking marking (λ name. (new name).now)
  pub kept : IsKept marking old → IsKept marking new
  pub tables : KeepsAllTables old new

-- the name isn't a table's
abbrev pub IsNoTable : Name → Type 0
IsNoTable name = (id n : ℕ) → id < 2 ^ 64 → n < 2 ^ 64 → name ≢ table_name id n

each_more : (P : DiskEntry → Type 0) (xs : List DiskEntry) (x : DiskEntry) → AllByRecursion P xs → P x → AllByRecursion P (xs ++ x ∷ [])
each_more P [] x all is = (is, tt)
each_more P (y ∷ xs) x all is = (all.0, each_more P xs x all.1 is)

-- a fact at each name, where one name changed
at_each : (P : Name → Place → Type 0) (old new : DiskState) (name : Name) → ((q : Name) → bytes_eq q name ≡ false → new q ≡ old q) → P name (new name) → ((q : Name) → P q (old q)) → (q : Name) → P q (new q)
at_each P old new name other here all q = elim (bool_cases (bytes_eq q name)) [
  | inl is ↦ subst (λ (n : Name). P n (new n)) (sym (same is)) here
  | inr not ↦ subst (λ (p : Place). P q p) (sym (other q not)) (all q)
]

pub table_stays : (old new : DiskState) (name : Name) → IsNoTable name → ((q : Name) → bytes_eq q name ≡ false → new q ≡ old q) → KeepsAllTables old new
table_stays old new name no_table other id n small small' =
    ap (λ (p : Place). p.now) (other (table_name id n) (differs (table_name id n) name (λ is. no_table id n small small' (sym is))))

now_at : Bool → Name → Place → Type 0
now_at marking q p = MayStand marking q p.now

older_at : Bool → Name → Place → Type 0
older_at marking q p = AllByRecursion (MayStand marking q) p.older

-- a name changed, whatever now stands there
module _ (marking : Bool) (old new : DiskState) (name : Name) (no_table : IsNoTable name) (other : (q : Name) → bytes_eq q name ≡ false → new q ≡ old q) where
  changed : (MayStand marking name (old name).now → MayStand marking name (new name).now)
      → (MayStand marking name (old name).now → AllByRecursion (MayStand marking name) (old name).older → AllByRecursion (MayStand marking name) (new name).older)
      → Carries marking old new
  unfolding now_at older_at
  changed now older = record {
    now = λ all. at_each (now_at marking) old new name other (now (all name)) all;
    kept = λ kept. record {
      now = at_each (now_at marking) old new name other (now (kept.now name)) kept.now;
      older = at_each (older_at marking) old new name other (older (kept.now name) (kept.older name)) kept.older;
    };
    tables = table_stays old new name no_table other;
  }

pub put_carries : (marking : Bool) (state : DiskState) (name : Name) (entry : DiskEntry) → IsNoTable name → MayStand marking name entry → Carries marking state (put state name entry)
put_carries marking state name entry no_table stands =
    let at = put-same state name entry in
    changed marking state (put state name entry) name no_table (λ q not. put-other state name entry q not)
    (λ was. subst (λ (p : Place). MayStand marking name p.now) (sym at) stands)
    (λ was older. subst (λ (p : Place). AllByRecursion (MayStand marking name) p.older) (sym at) (each_more (MayStand marking name) (state name).older (state name).now older was))

pub alter_carries : (marking : Bool) (state : DiskState) (name : Name) (f : DiskEntry → DiskEntry) → IsNoTable name → (MayStand marking name (state name).now → MayStand marking name (f (state name).now)) → Carries marking state (alter state name f)
alter_carries marking state name f no_table stands =
    let at = alter-same state name f in
    changed marking state (alter state name f) name no_table (λ q not. alter-other state name f q not)
    (λ was. subst (λ (p : Place). MayStand marking name p.now) (sym at) (stands was))
    (λ was older. subst (λ (p : Place). AllByRecursion (MayStand marking name) p.older) (sym at) older)

settled_at : (P : Place → Type 0) (state : DiskState) (folder q : Name) → P (state q) → P (record { now = (state q).now; older = [] }) → P (settle state folder q)
settled_at P state folder q all none = elim (bool_cases (bytes_eq (folder_of q) folder)) [
  | inl is ↦ subst P (sym (settle-in state folder q (same is))) none
  | inr not ↦ subst P (sym (settle-out state folder q not)) all
]

pub settle_carries : (marking : Bool) (state : DiskState) (folder : Name) → Carries marking state (settle state folder)
settle_carries marking state folder = record {
  now = λ all q. settled_at (λ (p : Place). MayStand marking q p.now) state folder q (all q) (all q);
  kept = λ kept. record {
    now = λ q. settled_at (λ (p : Place). MayStand marking q p.now) state folder q (kept.now q) (kept.now q);
    older = λ q. settled_at (λ (p : Place). AllByRecursion (MayStand marking q) p.older) state folder q (kept.older q) tt;
  };
  tables = λ id n small small'. settled_at (λ (p : Place). p.now ≡ (state (table_name id n)).now) state folder (table_name id n) refl refl;
}

-- ---- runs

-- each of these steps keeps it
abbrev pub Carry : Bool → DiskState → List DiskStep → Type 0
Carry marking state [] = Unit {0}
Carry marking state (step ∷ steps) = Carries marking state (change step state) × Carry marking (change step state) steps

now_after : (marking : Bool) (state : DiskState) (steps : List DiskStep) → Carry marking state steps → IsMaking marking (λ name. (state name).now) → IsMaking marking (λ name. (after state steps name).now)
now_after marking state [] carry now = now
now_after marking state (step ∷ steps) carry now = now_after marking (change step state) steps carry.1 (carry.0.now now)

kept_after : (marking : Bool) (state : DiskState) (steps : List DiskStep) → Carry marking state steps → IsKept marking state → IsKept marking (after state steps)
kept_after marking state [] carry kept = kept
kept_after marking state (step ∷ steps) carry kept = kept_after marking (change step state) steps carry.1 (carry.0.kept kept)

tables_after : (marking : Bool) (state : DiskState) (steps : List DiskStep) → Carry marking state steps → KeepsAllTables state (after state steps)
tables_after marking state [] carry id n small small' = refl
tables_after marking state (step ∷ steps) carry id n small small' = tables_after marking (change step state) steps carry.1 id n small small' ∙ carry.0.tables id n small small'

leaves_making : (marking : Bool) (state : DiskState) (steps : List DiskStep) (image : Image) → Carry marking state steps → IsKept marking state → Leaves state steps image → IsMaking marking image
leaves_making marking state [] image carry kept now = kept_image marking state image kept now
leaves_making marking state (step ∷ steps) image carry kept (inl now) = kept_image marking state image kept now
leaves_making marking state (step ∷ steps) image carry kept (inr later) = leaves_making marking (change step state) steps image carry.1 (carry.0.kept kept) later

pub goes_by : (marking : Bool) (old new : Meaning) (steps : List DiskStep) → Took old new steps → Carry marking (state_in old) steps → MakingGoesOn marking old new
goes_by marking old new steps took carry = record {
  now = λ now. subst (λ (s : DiskState). IsMaking marking (λ name. (s name).now)) (sym took.state) (now_after marking (state_in old) steps carry now);
  kept = λ kept. subst (IsKept marking) (sym took.state) (kept_after marking (state_in old) steps carry kept);
  moments = λ kept. record { added = steps; took = took; each = λ image left. leaves_making marking (state_in old) steps image carry kept left };
  tables = subst (λ (s : DiskState). KeepsAllTables (state_in old) s) (sym took.state) (tables_after marking (state_in old) steps carry);
}

pub goes_none : (marking : Bool) (old new : Meaning) → Took old new [] → MakingGoesOn marking old new
goes_none marking old new took = goes_by marking old new [] took tt

pub goes_both : (marking : Bool) (old mid new : Meaning) → MakingGoesOn marking old mid → MakingGoesOn marking mid new → MakingGoesOn marking old new
goes_both marking old mid new one two = record {
  now = λ now. two.now (one.now now);
  kept = λ kept. two.kept (one.kept kept);
  moments = λ kept. runs_on old mid new (IsMaking marking) (one.moments kept) (two.moments (one.kept kept));
  tables = λ id n small small'. two.tables id n small small' ∙ one.tables id n small small';
}

-- ---- the calls of a disk

module _ (marking : Bool) (old new : Meaning) (name : Name) (no_table : IsNoTable name) where
  pub goes_made : (entry there : DiskEntry) → MayStand marking name entry → Took old new (making name entry there) → MakingGoesOn marking old new
  goes_made entry Missing stands took = goes_by marking old new (Put name entry ∷ []) took (put_carries marking (state_in old) name entry no_table stands, tt)
  goes_made entry (File synced unsynced) stands took = goes_none marking old new took
  goes_made entry Folder stands took = goes_none marking old new took

  pub goes_synced : TookOrNot old new (Sync name ∷ []) → MakingGoesOn marking old new
  goes_synced (inl none) = goes_none marking old new none
  goes_synced (inr took) = goes_by marking old new (Sync name ∷ []) took (alter_carries marking (state_in old) name all_synced no_table (λ was. synced_stands marking name (state_in old name).now was), tt)

  loosens : (len : ℕ) → Carries marking (state_in old) (alter (state_in old) name (loosened len))
  loosens len = alter_carries marking (state_in old) name (loosened len) no_table (λ was. loosened_stands marking name len (state_in old name).now was)

  pub goes_cut : (len : ℕ) → TookCut old new name len → MakingGoesOn marking old new
  goes_cut len (inl none) = goes_none marking old new none
  goes_cut len (inr (inl took)) = goes_by marking old new (Loosen name len ∷ []) took (loosens len, tt)
  goes_cut len (inr (inr (k, le, took))) =
      let loose = alter (state_in old) name (loosened len) in
      goes_by marking old new (Loosen name len ∷ Cut name k ∷ []) took (loosens len, (alter_carries marking loose name (cut_to k) no_table (λ was. cut_stands marking name k (loose name).now was), tt))

  pub goes_part : (bytes : List ℕ) → CanHold marking name bytes → text_in (state_in old name).now ≡ [] → TookPart old new name bytes → MakingGoesOn marking old new
  goes_part bytes can none (inl nothing) = goes_none marking old new nothing
  goes_part bytes can none (inr (n, took)) =
      goes_by marking old new (Append name (take n bytes) ∷ []) took (alter_carries marking (state_in old) name (appended (take n bytes)) no_table (λ was. appended_stands marking name bytes n (state_in old name).now can none was), tt)

  pub goes_appended : (bytes : List ℕ) → CanHold marking name bytes → text_in (state_in old name).now ≡ [] → Took old new (Append name bytes ∷ []) → MakingGoesOn marking old new
  goes_appended bytes can none took =
      goes_by marking old new (Append name bytes ∷ []) took (alter_carries marking (state_in old) name (appended bytes) no_table (λ was. all_appended_stands marking name bytes (state_in old name).now can none was), tt)

pub goes_settled : (marking : Bool) (old new : Meaning) (folder : Name) (result : Result Unit Error) → OnOk result (Took old new (SyncFolder folder ∷ [])) → OnErr result (Took old new []) → MakingGoesOn marking old new
goes_settled marking old new folder (Ok done) ok err = goes_by marking old new (SyncFolder folder ∷ []) ok (settle_carries marking (state_in old) folder, tt)
goes_settled marking old new folder (Err e) ok err = goes_none marking old new err

-- either answer of a sync or of a cut
pub either_sync : (name : Name) (old new : Meaning) (result : Result Unit Error) → OnOk result (Took old new (Sync name ∷ [])) → OnErr result (TookOrNot old new (Sync name ∷ [])) → TookOrNot old new (Sync name ∷ [])
either_sync name old new (Ok done) ok err = inr ok
either_sync name old new (Err e) ok err = err

pub either_cut : (name : Name) (len : ℕ) (old new : Meaning) (result : Result Unit Error) → OnOk result (Took old new (Loosen name len ∷ Cut name len ∷ [])) → OnErr result (TookCut old new name len) → TookCut old new name len
either_cut name len old new (Ok done) ok err = inr (inr (len, omega arith, ok))
either_cut name len old new (Err e) ok err = err

-- ---- steps at one name

each_both : (P : DiskStep → Type 0) (xs ys : List DiskStep) → AllByRecursion P xs → AllByRecursion P ys → AllByRecursion P (xs ++ ys)
each_both P [] ys all more = more
each_both P (x ∷ xs) ys all more = (all.0, each_both P xs ys all.1 more)

pub stays_none : (name : Name) (old new : Meaning) → Took old new [] → StaysAt name old new
stays_none name old new took = record { added = []; took = took; each = tt }

pub stays_by : (name : Name) (old new : Meaning) (step : DiskStep) → ChangesAt name step → Took old new (step ∷ []) → StaysAt name old new
stays_by name old new step at took = record { added = step ∷ []; took = took; each = (at, tt) }

pub stays_both : (name : Name) (old mid new : Meaning) → StaysAt name old mid → StaysAt name mid new → StaysAt name old new
stays_both name old mid new one two = record { added = one.added ++ two.added; took = took_both old mid new one.added two.added one.took two.took; each = each_both (ChangesAt name) one.added two.added one.each two.each }

module _ (name : Name) (old new : Meaning) where
  pub stays_made : (entry there : DiskEntry) → Took old new (making name entry there) → StaysAt name old new
  stays_made entry Missing took = stays_by name old new (Put name entry) refl took
  stays_made entry (File synced unsynced) took = stays_none name old new took
  stays_made entry Folder took = stays_none name old new took

  pub stays_synced : TookOrNot old new (Sync name ∷ []) → StaysAt name old new
  stays_synced (inl none) = stays_none name old new none
  stays_synced (inr took) = stays_by name old new (Sync name) refl took

  pub stays_cut : (len : ℕ) → TookCut old new name len → StaysAt name old new
  stays_cut len (inl none) = stays_none name old new none
  stays_cut len (inr (inl took)) = stays_by name old new (Loosen name len) refl took
  stays_cut len (inr (inr (k, le, took))) = record { added = Loosen name len ∷ Cut name k ∷ []; took = took; each = (refl, (refl, tt)) }

  pub stays_part : (bytes : List ℕ) → TookPart old new name bytes → StaysAt name old new
  stays_part bytes (inl none) = stays_none name old new none
  stays_part bytes (inr (n, took)) = stays_by name old new (Append name (take n bytes)) refl took

-- what stands elsewhere is as it was
pub step_elsewhere : (name q : Name) (state : DiskState) (step : DiskStep) → bytes_eq q name ≡ false → ChangesAt name step → change step state q ≡ state q
step_elsewhere name q state (Put p entry) not at = put-other state p entry q (ap (bytes_eq q) at ∙ not)
step_elsewhere name q state (Append p bytes) not at = alter-other state p (appended bytes) q (ap (bytes_eq q) at ∙ not)
step_elsewhere name q state (Sync p) not at = alter-other state p all_synced q (ap (bytes_eq q) at ∙ not)
step_elsewhere name q state (Loosen p len) not at = alter-other state p (loosened len) q (ap (bytes_eq q) at ∙ not)
step_elsewhere name q state (Cut p len) not at = alter-other state p (cut_to len) q (ap (bytes_eq q) at ∙ not)
step_elsewhere name q state (SyncFolder folder) not at = absurd at

steps_elsewhere : (name q : Name) (state : DiskState) (steps : List DiskStep) → bytes_eq q name ≡ false → AllByRecursion (ChangesAt name) steps → after state steps q ≡ state q
steps_elsewhere name q state [] not each = refl
steps_elsewhere name q state (step ∷ steps) not each = steps_elsewhere name q (change step state) steps not each.1 ∙ step_elsewhere name q state step not each.0

pub elsewhere : (name : Name) (old new : Meaning) (q : Name) → bytes_eq q name ≡ false → StaysAt name old new → state_in new q ≡ state_in old q
elsewhere name old new q not stays = ap (λ (s : DiskState). s q) stays.took.state ∙ steps_elsewhere name q (state_in old) stays.added not stays.each

step_under : (folder name : Name) (step : DiskStep) → is_under folder name ≡ true → ChangesAt name step → is_under folder (target step) ≡ true
step_under folder name (Put p entry) under at = ap (is_under folder) at ∙ under
step_under folder name (Append p bytes) under at = ap (is_under folder) at ∙ under
step_under folder name (Sync p) under at = ap (is_under folder) at ∙ under
step_under folder name (Loosen p len) under at = ap (is_under folder) at ∙ under
step_under folder name (Cut p len) under at = ap (is_under folder) at ∙ under
step_under folder name (SyncFolder p) under at = absurd at

steps_under : (folder name : Name) (steps : List DiskStep) → is_under folder name ≡ true → AllByRecursion (ChangesAt name) steps → AreUnder folder steps
steps_under folder name [] under each = tt
steps_under folder name (step ∷ steps) under each = (step_under folder name step under each.0, steps_under folder name steps under each.1)

pub stays_within : (folder name : Name) (old new : Meaning) → is_under folder name ≡ true → StaysAt name old new → Within folder old new
stays_within folder name old new under stays = record { added = stays.added; took = stays.took; under = steps_under folder name stays.added under stays.each }

-- nothing was done yet
pub goes_none_at : (marking : Bool) (old : Meaning) → MakingGoesOn marking old old
goes_none_at marking old = goes_none marking old old (record { state = refl; steps = sym (append-nil old.steps) })
