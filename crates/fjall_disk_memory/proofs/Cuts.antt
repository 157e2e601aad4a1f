-- A cut in two steps.
use Rattle.std.proofs.Common.{◌≡◌, inl, inr, ℕ, List, [], ◌++◌, take, drop, refl, sym, ◌∙◌, ap, append_assoc, take-append-drop}
use Rattle.std.specs.Str.{bytes_eq}
use Rattle.fjall_base.specs.Disk.{Name, DiskEntry, Missing, File, Folder, DiskState, Place, alter, loosened, cut_to}
use Rattle.fjall_base.proofs.Names.{bool_cases, same_test}

cut_loosened : (len : ℕ) (entry : DiskEntry) → cut_to len (loosened len entry) ≡ cut_to len entry
cut_loosened len Missing = refl
cut_loosened len Folder = refl
cut_loosened len (File synced unsynced) =
    let whole : take len synced ++ (drop len synced ++ unsynced) ≡ synced ++ unsynced =
    sym (append_assoc (take len synced) (drop len synced) unsynced) ∙ ap (λ (l : List ℕ). l ++ unsynced) (take-append-drop len synced) in
    ap (λ (l : List ℕ). File (take len l) []) whole

pub cut_in_two : (state : DiskState) (name : Name) (len : ℕ) → alter (alter state name (loosened len)) name (cut_to len) ≡ alter state name (cut_to len)
unfolding alter
cut_in_two state name len =
    let each : (q : Name) → alter (alter state name (loosened len)) name (cut_to len) q ≡ alter state name (cut_to len) q =
    λ q. elim (bool_cases (bytes_eq q name)) [
      | inl is ↦
          rw (is, same_test name) (ap (λ (entry : DiskEntry). let place : Place = record { now = entry; older = (state name).older } in place) (cut_loosened len (state name).now))
      | inr not ↦ rw not refl
    ] in
    λ j q. each q j
