-- Steps at files of the root leave what stands in `keyspaces`.
use Rattle.std.proofs.Common.{◌≡◌, inl, inr, Bool, true, false, cond, nat_lt, lt-ltb, ◌==◌, List, [], ◌∷◌, ◌++◌, ℕ, zero, suc, ◌+◌, ◌/◌, ◌%◌, ◌<◌, ◌^◌, codes, refl, sym, ◌∙◌, ap, arith}
use Rattle.std.proofs.lemmas.Bool.{true≢false}
use Rattle.std.proofs.lemmas.Bool.Decides.{nat_tests}
use Rattle.std.specs.Fmt.{digit_glyph, digits, digits_onto}
use Rattle.std.specs.Prelude.{not}
use Rattle.std.specs.Str.{bytes_eq}
use Rattle.std.specs.List.{AllByRecursion}
use Rattle.fjall_base.specs.Disk.{Name, DiskEntry, Place, DiskState, Image, Survives, Leaves, Meaning, DiskStep, Put, Append, Sync, Loosen, Cut, SyncFolder, Took, after, all_synced, alter, appended, change, cut_to, folder_of, loosened, put, settle, state_in}
use Rattle.fjall_base.proofs.Names.{bool_cases, same}
use Rattle.fjall_base.proofs.States.{alter-other, differs, put-other, settle-in, settle-out}
use Rattle.fjall_files.specs.Names.{journal_name}
use Rattle.fjall_files.specs.Regions.{IsImageIn, is_under, target}
use Rattle.fjall_files.proofs.Parts.{in_region, region_along, region_settle}
use Rattle.fjall_recovery.specs.Halves.{is_of_keyspaces}
use Rattle.fjall_recovery.proofs.Named.{root_cases}
use Rattle.fjall_changes.specs.Rotations.{KeepsSyncedKeyspaces}

-- the step changes no name of `keyspaces`, or syncs the names of the root
abbrev pub IsApart : DiskStep → Type 0
IsApart (SyncFolder folder) = folder ≡ []
IsApart step = is_of_keyspaces (target step) ≡ false

-- digits before a name that isn't in `keyspaces` make one that isn't
digits_apart : (k n : ℕ) (acc rest : List ℕ) → is_of_keyspaces (acc ++ rest) ≡ false → is_of_keyspaces (digits_onto k 10 false n acc ++ rest) ≡ false
digits_apart zero n acc rest out = out
digits_apart (suc k) n acc rest out = by (digits_apart k (n / 10) (glyph ∷ acc) rest first) (n / 10 == 0)
  where
    glyph : ℕ
    glyph = digit_glyph false (n % 10)

    is_digit : nat_lt (n % 10) 10 ≡ true
    is_digit = lt-ltb (n % 10) 10 (omega arith)

    no_letter : (107 == 48 + n % 10) ≡ false
    no_letter = let low : n % 10 < 10 = omega arith in grind (arith, nat_tests, low)

    first : is_of_keyspaces ((glyph ∷ acc) ++ rest) ≡ false
    first =
        ap (λ (b : Bool). cond (107 == cond b (48 + n % 10) (87 + n % 10)) (is_under (codes "eyspaces") (acc ++ rest)) false) is_digit
        ∙ ap (λ (b : Bool). cond b (is_under (codes "eyspaces") (acc ++ rest)) false) no_letter

    by : is_of_keyspaces (digits_onto k 10 false (n / 10) (glyph ∷ acc) ++ rest) ≡ false → (b : Bool) → is_of_keyspaces (cond b (glyph ∷ acc) (digits_onto k 10 false (n / 10) (glyph ∷ acc)) ++ rest) ≡ false
    by more true = first
    by more false = more

-- a journal's file isn't in `keyspaces`, whatever its number
pub each_apart : (id : ℕ) → is_of_keyspaces (journal_name id) ≡ false
unfolding digits
each_apart id = digits_apart 64 id [] (codes ".jnl") refl

pub journal_apart : (id : ℕ) → id < 2 ^ 64 → is_of_keyspaces (journal_name id) ≡ false
journal_apart id small = each_apart id

another : (name q : Name) → is_of_keyspaces name ≡ false → is_of_keyspaces q ≡ true → bytes_eq q name ≡ false
another name q out in_it = differs q name (λ e. true≢false (sym in_it ∙ ap is_of_keyspaces e ∙ out))

-- ---- places

-- the folder itself is the one name of `keyspaces` that is in the root
synced_root : (state : DiskState) (q : Name) → is_of_keyspaces q ≡ true → (state (codes "keyspaces")).older ≡ [] → folder_of q ≡ [] → (state q).older ≡ []
synced_root state q in_it synced root = elim (root_cases q root) [
  | inl is ↦ absurd (true≢false (sym is ∙ ap not in_it))
  | inr at ↦ ap (λ (n : Name). (state n).older) at ∙ synced
]

settle_keeps : (state : DiskState) (q : Name) → (folder_of q ≡ [] → (state q).older ≡ []) → settle state [] q ≡ state q
settle_keeps state q synced = elim (bool_cases (bytes_eq (folder_of q) [])) [
  | inl is ↦
      let root = same {q = folder_of q} {r = []} is in
      settle-in state [] q root ∙ ap (λ (older : List DiskEntry). record { now = (state q).now; older = older }) (sym (synced root))
  | inr not ↦ settle-out state [] q not
]

step_keeps : (step : DiskStep) (state : DiskState) (q : Name) → IsApart step → is_of_keyspaces q ≡ true → (folder_of q ≡ [] → (state q).older ≡ []) → change step state q ≡ state q
step_keeps (Put name entry) state q out in_it synced = put-other state name entry q (another name q out in_it)
step_keeps (Append name bytes) state q out in_it synced = alter-other state name (appended bytes) q (another name q out in_it)
step_keeps (Sync name) state q out in_it synced = alter-other state name all_synced q (another name q out in_it)
step_keeps (Loosen name len) state q out in_it synced = alter-other state name (loosened len) q (another name q out in_it)
step_keeps (Cut name len) state q out in_it synced = alter-other state name (cut_to len) q (another name q out in_it)
step_keeps (SyncFolder folder) state q out in_it synced = ap (λ (f : Name). settle state f q) out ∙ settle_keeps state q synced

steps_keep : (steps : List DiskStep) (state : DiskState) (q : Name) → AllByRecursion IsApart steps → is_of_keyspaces q ≡ true → (folder_of q ≡ [] → (state q).older ≡ []) → after state steps q ≡ state q
steps_keep [] state q apart in_it synced = refl
steps_keep (step ∷ steps) state q apart in_it synced =
    let here = step_keeps step state q apart.0 in_it synced in
    steps_keep steps (change step state) q apart.1 in_it (λ root. ap (λ (p : Place). p.older) here ∙ synced root) ∙ here

pub apart_keeps : (old new : Meaning) (steps : List DiskStep) → Took old new steps → AllByRecursion IsApart steps → KeepsSyncedKeyspaces old new
apart_keeps old new steps took apart synced q in_it =
    ap (λ (s : DiskState). s q) took.state ∙ steps_keep steps (state_in old) q apart in_it (synced_root (state_in old) q in_it synced)

-- ---- images

step_left : (step : DiskStep) (state : DiskState) (image : Image) → IsApart step → IsImageIn Survives is_of_keyspaces (change step state) image → IsImageIn Survives is_of_keyspaces state image
step_left (SyncFolder folder) state image out is = region_settle is_of_keyspaces state folder image is
step_left (Put name entry) state image out is = region_along is_of_keyspaces state (put state name entry) image (λ q in_it. put-other state name entry q (another name q out in_it)) is
step_left (Append name bytes) state image out is = region_along is_of_keyspaces state (alter state name (appended bytes)) image (λ q in_it. alter-other state name (appended bytes) q (another name q out in_it)) is
step_left (Sync name) state image out is = region_along is_of_keyspaces state (alter state name all_synced) image (λ q in_it. alter-other state name all_synced q (another name q out in_it)) is
step_left (Loosen name len) state image out is = region_along is_of_keyspaces state (alter state name (loosened len)) image (λ q in_it. alter-other state name (loosened len) q (another name q out in_it)) is
step_left (Cut name len) state image out is = region_along is_of_keyspaces state (alter state name (cut_to len)) image (λ q in_it. alter-other state name (cut_to len) q (another name q out in_it)) is

pub apart_left : (steps : List DiskStep) (state : DiskState) (image : Image) → AllByRecursion IsApart steps → Leaves state steps image → IsImageIn Survives is_of_keyspaces state image
apart_left [] state image apart is = in_region is_of_keyspaces state image is
apart_left (step ∷ steps) state image apart (inl now) = in_region is_of_keyspaces state image now
apart_left (step ∷ steps) state image apart (inr later) = step_left step state image apart.0 (apart_left steps (change step state) image apart.1 later)
