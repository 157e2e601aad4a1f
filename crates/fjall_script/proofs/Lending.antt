-- What a wild crash leaves behind the synced bytes of files, lent one after another.
use Rattle.std.proofs.Common.{◌≡◌, ℕ, ◌+◌, ◌<◌, List, [], ◌∷◌, ◌++◌, get_or, length, map, take, sym, ◌∙◌, ap}
use Rattle.std.specs.Prelude.{String, string_bytes}
use Rattle.std.specs.Borrow.{Bor}
use Rattle.std.specs.declared.alloc.Global.{Global}
use Rattle.std.proofs.lemmas.List.{map-append, take_more}
use Rattle.fjall_base.specs.Pairs.{Bytes}
use Rattle.fjall_disk_memory.specs.Wild.{Fills, fills_of}
use Rattle.fjall_lines.specs.Fills.{named_bytes}

abbrev Lent : Type 0
Lent = Bor (List ℕ) × Bor (List ℕ)

abbrev Kept : Type 0
Kept = String Global × Bytes

pub next_lent : (kept : List Kept) (lent more : List Lent) (i : ℕ) (fill : Kept) (next : Lent) → i < length kept → fill ≡ get_or kept i fill → fills_of lent ≡ map named_bytes (take i kept)
    → next.0.now ≡ string_bytes fill.0 → next.1.now ≡ fill.1 → more ≡ lent ++ next ∷ [] → fills_of more ≡ map named_bytes (take (i + 1) kept)
next_lent kept lent more i fill next below is so_far path bytes whole =
    ap fills_of whole ∙ map-append (λ (l : Lent). (l.0.now, l.1.now)) lent (next ∷ []) ∙ ap (λ (l : Fills). l ++ (next.0.now, next.1.now) ∷ []) so_far
    ∙ ap (λ (l : Fills). map named_bytes (take i kept) ++ l) (ap (λ (n : List ℕ). (n, next.1.now) ∷ []) path ∙ ap (λ (b : List ℕ). (string_bytes fill.0, b) ∷ []) bytes ∙ ap (λ (f : Kept). named_bytes f ∷ []) is)
    ∙ sym (map-append named_bytes (take i kept) (get_or kept i fill ∷ [])) ∙ sym (ap (map named_bytes) (take_more kept i fill below))
