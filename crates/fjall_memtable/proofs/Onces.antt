-- In parts that stand apart each version stands once.
use Rattle.std.proofs.Common.{◌≡◌, ◌≤◌, ◌==◌, false, List, [], ◌∷◌, sym, inl, inr, arith}
use Rattle.std.specs.List.{All}
use Rattle.std.specs.Str.{bytes_eq}
use Rattle.std.proofs.lemmas.Bool.{and_parts, cases_Bool, eqb-true}
use Rattle.std.proofs.lemmas.List.Elements.{All-from_recursion, All-head, All-nil, All-tail, All-weaker}
use Rattle.std.proofs.lemmas.List.Folds.{list_any_none}
use Rattle.fjall_table.specs.Blocks.{Entry, IsBefore}
use Rattle.fjall_memtable.specs.Jobs.{OnceEach, is_at}
use Rattle.fjall_memtable.proofs.Once.{parts_once}
use Rattle.fjall_memtable.proofs.Sameness.{same_key}
use Rattle.fjall_memtable.proofs.Sorting.{IsChain, all_weaker, chain_of}
use Rattle.fjall_memtable.proofs.SortedRanges.{older}
use Rattle.fjall_memtable.specs.Parts.{AreApart, HeldPart, IsHeld, versions_in}
use Rattle.fjall_memtable.proofs.Apart.{from_first, versions_numbered}

-- what stands before isn't of the same key and number
not_at : (v w : Entry) → IsBefore v w → is_at v w ≡ false
not_at v w before = elim (cases_Bool (is_at v w)) [
  | inl e ↦
      let p = and_parts (bytes_eq w.key v.key) (w.number == v.number) e in
      let k = same_key w.key v.key p.0 in
      let n = eqb-true w.number v.number p.1 in
      let o = older v w before (sym k) in
      absurd (omega arith)
  | inr e ↦ e
]

pub chain_once : (versions : List Entry) → IsChain versions → OnceEach versions
chain_once [] up = tt
chain_once (v ∷ versions) up = (
  list_any_none (is_at v) versions (All-from_recursion (λ (w : Entry). is_at v w ≡ false) versions (all_weaker (IsBefore v) (λ (w : Entry). is_at v w ≡ false) versions (not_at v) up.0)),
  chain_once versions up.1,
)

pub once_in : (parts : List HeldPart) → All IsHeld parts → AreApart parts → OnceEach (versions_in parts)
once_in [] held apart = tt
once_in (h ∷ []) held apart =
    let here = All-head IsHeld h [] held in
    parts_once h.until h.versions [] here.high (All-nil (λ (v : Entry). h.until ≤ v.number)) (chain_once h.versions (chain_of h.versions here.ordered)) tt
once_in (h ∷ g ∷ parts) held apart =
    let here = All-head IsHeld h (g ∷ parts) held in
    let more = All-tail IsHeld h (g ∷ parts) held in
    let low = apart.0 in
    parts_once h.until h.versions (versions_in (g ∷ parts)) here.high
    (All-weaker (λ (v : Entry). g.from ≤ v.number) (λ (v : Entry). h.until ≤ v.number) (λ v from. omega arith) (versions_in (g ∷ parts))
    (from_first (λ (k : HeldPart). k.versions) (λ (v : Entry). v.number) versions_numbered g parts more apart.1))
    (chain_once h.versions (chain_of h.versions here.ordered)) (once_in (g ∷ parts) more apart.1)
