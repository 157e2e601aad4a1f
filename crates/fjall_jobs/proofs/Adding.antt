-- The open table gets an entry.
use Rattle.std.proofs.Common.{◌≡◌, ◌∙◌, ℕ, ◌+◌, ◌-◌, ◌^◌, List, [], ◌∷◌, ◌++◌, min, ap, subst, sym, arith}
use Rattle.std.proofs.lemmas.List.Sums.{sum_by-append}
use Rattle.fjall_table.specs.Blocks.{Entry}
use Rattle.fjall_memtable.specs.Entries.{size_of}
use Rattle.fjall_memtable.specs.Kept.{size_of_all}
use Rattle.fjall_jobs.specs.declared.sequence.TableSequence.{TableSequence}
use Rattle.fjall_jobs.specs.Sequences.{AreParted, last_key, with_open}
use Rattle.fjall_jobs.proofs.Parting.{last_key_behind}

sizes_more : (vs : List Entry) (e : Entry) → size_of_all (vs ++ e ∷ []) ≡ size_of_all vs + size_of e
sizes_more vs e = omega (arith, sum_by-append size_of vs (e ∷ []))

pub size_grows : (old more new : ℕ) (vs : List Entry) (e : Entry) (ws : List Entry) → old ≡ min (size_of_all vs) (2 ^ 64 - 1) → more ≡ min (size_of e) (2 ^ 64 - 1)
    → new ≡ min (old + more) (2 ^ 64 - 1) → ws ≡ vs ++ e ∷ [] → new ≡ min (size_of_all ws) (2 ^ 64 - 1)
size_grows old more new vs e ws old_is more_is new_is grown =
    let h : size_of_all ws ≡ size_of_all vs + size_of e = ap size_of_all grown ∙ sizes_more vs e in omega arith

pub last_is : (vs : List Entry) (e : Entry) (ws : List Entry) → ws ≡ vs ++ e ∷ [] → e.key ≡ last_key ws
last_is vs e ws grown = sym (ap last_key grown ∙ last_key_behind vs e)

pub parted_is : (s : TableSequence) (closed : List (List Entry)) (e : Entry) (ws : List Entry) → AreParted s.target (with_open closed (s.writer ++ e ∷ [])) → ws ≡ s.writer ++ e ∷ []
    → AreParted s.target (with_open closed ws)
parted_is s closed e ws parted grown = subst (λ (l : List Entry). AreParted s.target (with_open closed l)) (sym grown) parted
