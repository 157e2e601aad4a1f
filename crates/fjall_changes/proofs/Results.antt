-- What holds of both results of a call.
use Rattle.std.proofs.Common.{Result, Ok, Err}
use Rattle.std.specs.Prelude.{OnOk, OnErr}

-- it holds of either result
pub either_way : {T E A B : Type 0} (r : Result T E) (P : Type 0) → OnOk r A → OnErr r B → (A → P) → (B → P) → P
either_way (Ok x) P ok err from_ok from_err = from_ok ok
either_way (Err e) P ok err from_ok from_err = from_err err

-- what follows of a success
pub on_ok : {T E A : Type 0} (r : Result T E) (P : Type 0) → OnOk r A → (A → P) → OnOk r P
on_ok (Ok x) P a from = from a
on_ok (Err e) P a from = tt

-- what follows of two facts of a success
pub on_both : {T E A B : Type 0} (r : Result T E) (P : Type 0) → OnOk r A → OnOk r B → (A → B → P) → OnOk r P
on_both (Ok x) P a b from_both = from_both a b
on_both (Err e) P a b from_both = tt

-- what follows of two facts of a refusal, the first under a condition
pub on_err : {T E A B C : Type 0} (r : Result T E) (P : Type 0) → (C → OnErr r A) → OnErr r B → ((C → A) → B → P) → OnErr r P
on_err (Ok x) P a b from = tt
on_err (Err e) P a b from = from a b
