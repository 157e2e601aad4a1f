-- The place of a lone item among the watermarks.
use Rattle.std.proofs.Common.{All, [], ◌∷◌, Result, Ok, Err}
use Rattle.std.proofs.lemmas.List.Elements.{All-cons, All-head, All-nil}
use Rattle.std.specs.Prelude.{OnOk}
use Rattle.fjall_base.specs.declared.error.Error.{Error}
use Rattle.fjall_journal.specs.Ops.{BatchItem}
use Rattle.fjall_files.specs.Places.{HasPlace, JournalPlaces}

pub one_placed : (result : Result Unit Error) (places : JournalPlaces) (item : BatchItem) → OnOk result (HasPlace places item.0) → OnOk result (All (λ (item : BatchItem). HasPlace places item.0) (item ∷ []))
one_placed (Ok done) places item has = All-cons (λ (item : BatchItem). HasPlace places item.0) item [] has (All-nil (λ (item : BatchItem). HasPlace places item.0))
one_placed (Err error) places item has = has

pub place_of_one : (places : JournalPlaces) (item : BatchItem) → All (λ (item : BatchItem). HasPlace places item.0) (item ∷ []) → HasPlace places item.0
place_of_one places item all = All-head (λ (item : BatchItem). HasPlace places item.0) item [] all
