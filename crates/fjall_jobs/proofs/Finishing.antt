-- A sequence of tables is finished.
use Rattle.std.proofs.Common.{◌≡◌, ◌≢◌, ◌∙◌, ℕ, ◌<◌, ◌≤◌, List, [], ◌∷◌, ◌++◌, Option, ap, subst, sym, refl, length, arith}
use Rattle.std.proofs.lemmas.List.{append-nil}
use Rattle.fjall_table.specs.Blocks.{Entry}
use Rattle.fjall_memtable.specs.Sorted.{flat}
use Rattle.fjall_jobs.specs.declared.made_table.MadeTable.{MadeTable}
use Rattle.fjall_jobs.specs.Sequences.{AreMadeTables, AreParted, MakesTables, with_open}
use Rattle.fjall_jobs.proofs.Parting.{flat_more, with_some}

pub some_apart : (vs : List Entry) → 0 < length vs → vs ≢ []
some_apart [] some e = omega arith
some_apart (v ∷ vs) some e = cc

pub none_is : (vs : List Entry) → length vs ≤ 0 → vs ≡ []
none_is [] none = refl
none_is (v ∷ vs) none = absurd (omega arith)

-- the open table was closed
pub all_closed : (target : Option ℕ) (closed : List (List Entry)) (vs : List Entry) (tables : List MadeTable) → AreParted target (with_open closed vs) → 0 < length vs
    → (vs ≢ [] → AreMadeTables tables (closed ++ vs ∷ [])) → MakesTables target tables (flat closed ++ vs)
all_closed target closed vs tables parted some made =
    let apart = some_apart vs some in
    (closed ++ vs ∷ [], made apart, subst (λ (l : List (List Entry)). AreParted target l) (with_some closed vs apart) parted, flat_more closed vs)

-- nothing was open
pub none_open : (target : Option ℕ) (closed : List (List Entry)) (vs : List Entry) (tables : List MadeTable) → AreParted target (with_open closed vs) → (vs ≡ [] → closed ≡ [])
    → length vs ≤ 0 → AreMadeTables tables closed → MakesTables target tables (flat closed ++ vs)
none_open target closed vs tables parted begun none made =
    let empty : vs ≡ [] = none_is vs none in
    (closed, made, subst (λ (l : List Entry). AreParted target (with_open closed l)) empty parted, sym (append-nil (flat closed)) ∙ ap (λ (l : List Entry). flat closed ++ l) (sym empty))
