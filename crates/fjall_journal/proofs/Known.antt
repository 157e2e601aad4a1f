-- Batches of which it is known that they stand in a text: how they are read, and what a loop over them knows of those that are left.
use Rattle.std.proofs.Common.{◌≡◌, ℕ, List, [], ◌∷◌, ◌++◌, length, refl, sym, ap, ◌∙◌, Option, Some, None, Result, Ok, Err, IfOk, OnOk, arith}
use Rattle.std.specs.List.{flat_map, AllByRecursion}
use Rattle.std.proofs.lemmas.List.{length-append}
use Rattle.std.proofs.lemmas.List.Concat.{flat_map-cons}
use Rattle.fjall_base.specs.declared.error.Error.{Error}
use Rattle.fjall_journal.specs.declared.batch.Tail.{Tail}
use Rattle.fjall_journal.specs.declared.batch.Batch.{Batch}
use Rattle.fjall_journal.specs.Batches.{Written, IsWritten, batch_text, Shown, shown, view}
use Rattle.fjall_journal.specs.Steps.{known_at}
use Rattle.fjall_journal.specs.Reader.{FindsBatch}
use Rattle.fjall_journal.proofs.Batches.{batch_some, done_is, known_again}

-- ---- one batch

-- what is read where a batch stands is that batch
pub known_is : (bytes : List ℕ) (batch : Batch) (rest : List ℕ) (written : Written) (more : List ℕ) → known_at bytes ≡ Ok (view batch, rest) → IsWritten written → bytes ≡ batch_text written ++ more
    → (view batch ≡ shown written) × (rest ≡ more)
known_is bytes batch rest written more e is text =
    let again : known_at bytes ≡ Ok (shown written, more) = ap known_at text ∙ known_again written more is in
    let same = done_is (view batch, rest) (shown written, more) (sym e ∙ again) in
    (ap (λ (x : Shown × List ℕ). x.0) same, ap (λ (x : Shown × List ℕ). x.1) same)

-- and something is read there
pub known_there : (bytes : List ℕ) (tail : Tail) (written : Written) (more : List ℕ) → known_at bytes ≡ Err tail → IsWritten written → bytes ≡ batch_text written ++ more → ⊥
known_there bytes tail written more e is text =
    let again : known_at bytes ≡ Ok (shown written, more) = ap known_at text ∙ known_again written more is in
    cc

-- nothing holds no batch
pub none_in_nothing : (bytes : List ℕ) (written : Written) (more : List ℕ) → length bytes ≡ 0 → bytes ≡ batch_text written ++ more → ⊥
none_in_nothing bytes written more none text = omega (arith, ap length text, length-append (batch_text written) more, batch_some written)

-- ---- a loop over them

-- the text of batches is that of the first, and then that of the others
pub texts_first : (first : Written) (more : List Written) → flat_map batch_text (first ∷ more) ≡ batch_text first ++ flat_map batch_text more
texts_first first more = flat_map-cons batch_text first more

-- The text is that of these batches, one behind another.
pub record Holds (text : List ℕ) (batches : List Written) : Type 0 where
  pub texts : text ≡ flat_map batch_text batches
  pub each : AllByRecursion IsWritten batches

-- where some are left the first of them stands at the front
pub holds_first : (text : List ℕ) (first : Written) (more : List Written) → Holds text (first ∷ more) → IsWritten first × (text ≡ batch_text first ++ flat_map batch_text more)
holds_first text first more holds = (holds.each.0, holds.texts ∙ texts_first first more)

-- A batch was answered: it is the first of those that were left, and the others are.
pub record Answers (batches : List Written) (batch : Batch) (rest : List ℕ) : Type 0 where
  pub first : Written
  pub more : List Written
  pub is : batches ≡ first ∷ more
  pub shows : view batch ≡ shown first
  pub holds : Holds rest more

-- what next_batch says of its answer at a text, in its clauses' words
abbrev pub FindsKnown : List ℕ → Result (Option Batch) Error → Type 0
FindsKnown text result = (written : Written) (more : List ℕ) → IsWritten written → text ≡ batch_text written ++ more → IfOk result (λ found. FindsBatch found written)

abbrev pub LeavesKnown : List ℕ → Result (Option Batch) Error → List ℕ → Type 0
LeavesKnown text result rest = (written : Written) (more : List ℕ) → IsWritten written → text ≡ batch_text written ++ more → OnOk result (rest ≡ more)

abbrev pub EndsKnown : List ℕ → Result (Option Batch) Error → Type 0
EndsKnown text result = text ≡ [] → result ≡ Ok None

-- an iteration
pub one_answered : (text : List ℕ) (batches : List Written) (batch : Batch) (rest : List ℕ) → Holds text batches → FindsKnown text (Ok (Some batch)) → LeavesKnown text (Ok (Some batch)) rest → EndsKnown text (Ok (Some batch))
    → Answers batches batch rest
one_answered text [] batch rest holds known left end = absurd (let nothing = end holds.texts in cc)
one_answered text (first ∷ more) batch rest holds known left end =
    let front = holds_first text first more holds in
    record {
      first = first;
      more = more;
      is = refl;
      shows = known first (flat_map batch_text more) front.0 front.1;
      holds = record { texts = left first (flat_map batch_text more) front.0 front.1; each = holds.each.1 };
    }

-- at the end
pub all_answered : (text : List ℕ) (batches : List Written) → Holds text batches → FindsKnown text (Ok None) → batches ≡ []
all_answered text [] holds known = refl
all_answered text (first ∷ more) holds known =
    let front = holds_first text first more holds in
    absurd (known first (flat_map batch_text more) front.0 front.1)
