-- The folder of each name that is there goes on standing.
use Rattle.std.proofs.Common.{◌≡◌, ◌≢◌, inl, inr, ℕ, [], sym, ◌∙◌, ap, subst}
use Rattle.std.specs.Str.{bytes_eq}
use Rattle.fjall_base.specs.Disk.{Name, DiskEntry, Missing, Folder, Place, DiskState, HasFolder, IsEmpty, put, alter, settle, folder_of, disk_of}
use Rattle.fjall_base.specs.Crash.{IsHoused, keeping, crashed}
use Rattle.fjall_base.proofs.Names.{bool_cases, same}
use Rattle.fjall_base.proofs.States.{alter-same, alter-other, put-same, put-other, settle-in, settle-out}

-- where no name comes and no folder goes
pub housed_along : (s t : DiskState) → ((q : Name) → (t q).now ≢ Missing → (s q).now ≢ Missing) → ((q : Name) → (s q).now ≡ Folder → (t q).now ≡ Folder) → IsHoused s → IsHoused t
housed_along s t there folder housed = record { each = λ q stands inner. folder (folder_of q) (housed.each q (there q stands) inner) }

-- a change that makes no entry out of none, and leaves folders
housed_alter : (state : DiskState) (name : Name) (change : DiskEntry → DiskEntry) → change Missing ≡ Missing → change Folder ≡ Folder → IsHoused state → IsHoused (alter state name change)
housed_alter state name change on_missing on_folder = housed_along state (alter state name change) there folder
  where
    there : (q : Name) → (alter state name change q).now ≢ Missing → (state q).now ≢ Missing
    there q stands none = elim (bool_cases (bytes_eq q name)) [
      | inl is ↦
          let at : q ≡ name = same {q = q} {r = name} is in
          let none_here : (state name).now ≡ Missing = subst (λ (n : Name). (state n).now ≡ Missing) at none in
          stands (subst (λ (n : Name). (alter state name change n).now ≡ Missing) (sym at) (ap (λ (p : Place). p.now) (alter-same state name change) ∙ ap change none_here ∙ on_missing))
      | inr not ↦ stands (ap (λ (p : Place). p.now) (alter-other state name change q not) ∙ none)
    ]

    folder : (q : Name) → (state q).now ≡ Folder → (alter state name change q).now ≡ Folder
    folder q stands = elim (bool_cases (bytes_eq q name)) [
      | inl is ↦
          let at : q ≡ name = same {q = q} {r = name} is in
          let here : (state name).now ≡ Folder = subst (λ (n : Name). (state n).now ≡ Folder) at stands in
          subst (λ (n : Name). (alter state name change n).now ≡ Folder) (sym at) (ap (λ (p : Place). p.now) (alter-same state name change) ∙ ap change here ∙ on_folder)
      | inr not ↦ ap (λ (p : Place). p.now) (alter-other state name change q not) ∙ stands
    ]

pub housed_altered : (old new : DiskState) (name : Name) (change : DiskEntry → DiskEntry) → change Missing ≡ Missing → change Folder ≡ Folder → new ≡ alter old name change → IsHoused old → IsHoused new
housed_altered old new name change on_missing on_folder is housed = subst IsHoused (sym is) (housed_alter old name change on_missing on_folder housed)

pub housed_settle : (state : DiskState) (folder : Name) → IsHoused state → IsHoused (settle state folder)
housed_settle state folder = housed_along state (settle state folder) (λ q stands none. stands (now q ∙ none)) (λ q stands. now q ∙ stands)
  where
    now : (q : Name) → (settle state folder q).now ≡ (state q).now
    now q = elim (bool_cases (bytes_eq (folder_of q) folder)) [
      | inl is ↦ ap (λ (p : Place). p.now) (settle-in state folder q (same {q = folder_of q} {r = folder} is))
      | inr not ↦ ap (λ (p : Place). p.now) (settle-out state folder q not)
    ]

-- an entry is put where none was, in a folder
pub housed_made : (state : DiskState) (name : Name) (entry : DiskEntry) → (state name).now ≡ Missing → HasFolder state name → IsHoused state → IsHoused (put state name entry)
housed_made state name entry none has housed = record { each = made }
  where
    differ : Missing ≡ Folder → ⊥
    differ e = cc

    made : (q : Name) → (put state name entry q).now ≢ Missing → folder_of q ≢ [] → (put state name entry (folder_of q)).now ≡ Folder
    made q stands inner =
        let inside : (state (folder_of q)).now ≡ Folder = elim (bool_cases (bytes_eq q name)) [
          | inl is ↦
              let at : q ≡ name = same {q = q} {r = name} is in
              elim (subst (λ (n : Name). HasFolder state n) (sym at) has) [ inl root ↦ absurd (inner root) | inr there ↦ there ]
          | inr not ↦ housed.each q (λ gone. stands (ap (λ (p : Place). p.now) (put-other state name entry q not) ∙ gone)) inner
        ] in
        elim (bool_cases (bytes_eq (folder_of q) name)) [
          | inl is ↦
              let at : folder_of q ≡ name = same {q = folder_of q} {r = name} is in
              let here : (state name).now ≡ Folder = subst (λ (n : Name). (state n).now ≡ Folder) at inside in
              let both : Missing ≡ Folder = sym none ∙ here in absurd (differ both)
          | inr not ↦ ap (λ (p : Place). p.now) (put-other state name entry (folder_of q) not) ∙ inside
        ]

-- a file or an empty folder is taken away
pub housed_removed : (state : DiskState) (name : Name) → ((state name).now ≡ Folder → IsEmpty state name) → IsHoused state → IsHoused (put state name Missing)
housed_removed state name empty housed = record { each = λ q stands inner. removed q stands inner }
  where
    removed : (q : Name) → (put state name Missing q).now ≢ Missing → folder_of q ≢ [] → (put state name Missing (folder_of q)).now ≡ Folder
    removed q stands inner = elim (bool_cases (bytes_eq q name)) [
      | inl is ↦
          let at : q ≡ name = same {q = q} {r = name} is in
          absurd (stands (subst (λ (n : Name). (put state name Missing n).now ≡ Missing) (sym at) (ap (λ (p : Place). p.now) (put-same state name Missing))))
      | inr not ↦
          let was : (state q).now ≢ Missing = λ gone. stands (ap (λ (p : Place). p.now) (put-other state name Missing q not) ∙ gone) in
          let inside = housed.each q was inner in
          elim (bool_cases (bytes_eq (folder_of q) name)) [
            | inl is ↦
                let at : folder_of q ≡ name = same {q = folder_of q} {r = name} is in
                absurd (was (empty (subst (λ (n : Name). (state n).now ≡ Folder) at inside) q at))
            | inr other ↦ ap (λ (p : Place). p.now) (put-other state name Missing (folder_of q) other) ∙ inside
          ]
    ]

pub housed_crashed : (keep : ℕ) (state : DiskState) → IsHoused state → IsHoused (disk_of (crashed keep state))
housed_crashed keep state = housed_along state (disk_of (crashed keep state)) (λ q stands none. stands (ap (keeping keep) none)) (λ q stands. ap (keeping keep) stands)
