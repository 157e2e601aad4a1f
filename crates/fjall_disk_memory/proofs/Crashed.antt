-- What a crash leaves of a list of named entries.
use Rattle.std.proofs.Common.{◌≡◌, inl, inr, ℕ, suc, ◌+◌, ◌<◌, min, true, false, List, [], ◌∷◌, ◌++◌, take, drop, length, get_or, refl, sym, ◌∙◌, ap, subst, arith, string_bytes}
use Rattle.std.proofs.Math.Seq.{take-add}
use Rattle.std.proofs.lemmas.List.{take_all, drop_all, take_min}
use Rattle.std.specs.Str.{bytes_eq}
use Rattle.fjall_base.specs.Disk.{Name, Missing, File, disk_of, folder_of, IsEmpty}
use Rattle.fjall_base.specs.Crash.{keeping, crashed}
use Rattle.fjall_base.proofs.Names.{bool_cases}
use Rattle.fjall_base.proofs.Crashes.{is_missing}
use Rattle.fjall_disk_memory.specs.declared.node.Named.{Named}
use Rattle.fjall_disk_memory.specs.Memory.{place_of, state_of}
use Rattle.fjall_disk_memory.proofs.Names.{present}

-- the synced bytes and so many of the others are a front of the whole
front_kept : (bytes : List ℕ) (synced keep n : ℕ) → min n (length bytes) ≡ min (synced + keep) (length bytes)
    → take n bytes ≡ take synced bytes ++ take keep (drop synced bytes)
front_kept bytes synced keep n same =
    sym (take_min n bytes) ∙ ap (λ (k : ℕ). take k bytes) same ∙ take_min (synced + keep) bytes ∙ take-add synced keep bytes

-- a file that was cut behind them and synced
pub cut_behind : (bytes kept : List ℕ) (synced keep n len : ℕ) → kept ≡ take n bytes
    → min n (length bytes) ≡ min (synced + keep) (length bytes) → len ≡ length kept
    → File (take len kept) (drop len kept) ≡ keeping keep (File (take synced bytes) (drop synced bytes))
cut_behind bytes kept synced keep n len is same whole =
    cc (take_all len kept (omega arith), drop_all len kept (omega arith), is, front_kept bytes synced keep n same)

-- each entry is made what a crash leaves of it
pub state_crashed : (old new : List Named) (keep : ℕ) → length old ≡ length new
    → ((k : ℕ) (d : Named) → k < length old → string_bytes (get_or new k d).name ≡ string_bytes (get_or old k d).name)
    → ((k : ℕ) (d : Named) → k < length old → place_of (get_or new k d) ≡ record { now = keeping keep (place_of (get_or old k d)).now; older = [] })
    → state_of new ≡ disk_of (crashed keep (state_of old))
state_crashed old new keep long names places = let each = go old new long names places in λ j q. each q j
  where
    go : (old new : List Named) → length old ≡ length new
        → ((k : ℕ) (d : Named) → k < length old → string_bytes (get_or new k d).name ≡ string_bytes (get_or old k d).name)
        → ((k : ℕ) (d : Named) → k < length old → place_of (get_or new k d) ≡ record { now = keeping keep (place_of (get_or old k d)).now; older = [] })
        → (q : Name) → state_of new q ≡ disk_of (crashed keep (state_of old)) q
    go [] [] long names places q = refl
    go [] (y ∷ ys) long names places q = absurd (omega arith)
    go (x ∷ xs) [] long names places q = absurd (omega arith)
    go (x ∷ xs) (y ∷ ys) long names places q =
        let rest = go xs ys (omega arith) (λ k d below. names (suc k) d (omega arith)) (λ k d below. places (suc k) d (omega arith)) q in
        let name_same : string_bytes y.name ≡ string_bytes x.name = names 0 x (omega arith) in
        let place_is : place_of y ≡ record { now = keeping keep (place_of x).now; older = [] } = places 0 x (omega arith) in
        elim (bool_cases (bytes_eq q (string_bytes x.name))) [
          | inl at_x ↦ let at_y : bytes_eq q (string_bytes y.name) ≡ true = rw name_same at_x in rw (at_y, at_x) place_is
          | inr not_x ↦ let not_y : bytes_eq q (string_bytes y.name) ≡ false = rw name_same not_x in rw (not_y, not_x) rest
        ]

-- nothing stands in a folder where no entry of the list does
pub is_empty : (names : List Named) (folder : Name)
    → ((k : ℕ) (d : Named) → k < length names → folder_of (string_bytes (get_or names k d).name) ≡ folder → (state_of names (string_bytes (get_or names k d).name)).now ≡ Missing)
    → IsEmpty (state_of names) folder
is_empty names folder each name in_folder = is_missing (state_of names name).now (λ there.
    let at = present names name there in
    subst (λ (n : Name). (state_of names n).now ≡ Missing) at.3 (each at.0 at.1 at.2 (ap folder_of at.3 ∙ in_folder)))
