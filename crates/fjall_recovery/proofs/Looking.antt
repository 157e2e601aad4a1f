-- A journal, looked through batch by batch.
use Rattle.std.proofs.Common.{◌≡◌, ℕ, IfOk, IfErr, OnOk, List, [], ◌∷◌, ◌++◌, length, ◌-◌, Option, None, Some, Result, Ok, Err, sym, ◌∙◌, ap, subst}
use Rattle.std.specs.Option.{option_or}
use Rattle.fjall_base.specs.declared.error.Error.{Error}
use Rattle.fjall_journal.specs.declared.batch.Batch.{Batch}
use Rattle.fjall_journal.specs.Batches.{Shown, view}
use Rattle.fjall_journal.specs.Reader.{Next, NextEnds, Reading}
use Rattle.fjall_journal.proofs.Readings.{SoFar, finished, one_more}
use Rattle.fjall_files.specs.Marks.{JournalMarks}
use Rattle.fjall_files.specs.Telling.{AreMarksOf}
use Rattle.fjall_meta.specs.Replays.{JournalFault, NamesFault, first_fault, least_after}
use Rattle.fjall_meta.proofs.ContentFaults.{first_fault-append, least_after-append}
use Rattle.fjall_recovery.specs.declared.look.Look.{Look}
use Rattle.fjall_base.specs.declared.error.Error.TheVariants.{InvalidTag, Unrecoverable}
use Rattle.fjall_recovery.specs.Looks.{AreChecked, IsLook}
use Rattle.fjall_recovery.specs.Refusals.{IsOpeningRefusal}

-- ---- one batch more

none_more : (a b : Option JournalFault) → a ≡ None → b ≡ None → option_or a b ≡ None
none_more a b none other = ap (λ x. option_or x b) none ∙ other

-- a fault that has a name stays the first one
first_stays : (a b : Option JournalFault) (error : Error) → NamesFault a error → NamesFault (option_or a b) error
first_stays (Some fault) b error named = named
first_stays None b error named = absurd (none_named error named)
  where
    none_named : (e : Error) → NamesFault None e → ⊥
    none_named e is = is

-- without a fault before, the name is that of the next
next_named : (a b : Option JournalFault) (error : Error) → a ≡ None → NamesFault b error → NamesFault (option_or a b) error
next_named a b error none named = subst (λ x. NamesFault (option_or x b) error) (sym none) named

module _ (least : ℕ) (front : List Shown) (b : Shown) where
  pub still_none : (next : ℕ) → first_fault least front ≡ None → next ≡ least_after least front → first_fault next (b ∷ []) ≡ None → first_fault least (front ++ b ∷ []) ≡ None
  still_none next none is sound =
      first_fault-append least front (b ∷ []) ∙ none_more (first_fault least front) _ none (ap (λ n. first_fault n (b ∷ [])) (sym is) ∙ sound)

  pub least_more : (next : ℕ) → next ≡ least_after least front → least_after next (b ∷ []) ≡ least_after least (front ++ b ∷ [])
  least_more next is = ap (λ n. least_after n (b ∷ [])) is ∙ sym (least_after-append least front (b ∷ []))

  pub now_named : (next : ℕ) (error : Error) → first_fault least front ≡ None → next ≡ least_after least front → NamesFault (first_fault next (b ∷ [])) error
      → NamesFault (first_fault least (front ++ b ∷ [])) error
  now_named next error none is named =
      subst (λ (f : Option JournalFault). NamesFault f error) (sym (first_fault-append least front (b ∷ [])))
      (next_named (first_fault least front) _ error none (subst (λ n. NamesFault (first_fault n (b ∷ [])) error) is named))

  pub still_named : (error : Error) → NamesFault (first_fault least front) error → NamesFault (first_fault least (front ++ b ∷ [])) error
  still_named error named = subst (λ (f : Option JournalFault). NamesFault f error) (sym (first_fault-append least front (b ∷ []))) (first_stays (first_fault least front) _ error named)

-- what a look at the next batch tells
pub checks_on : (least : ℕ) (front : List Shown) (b : Shown) (next : ℕ) (own : List Shown) (result : Result ℕ Error) → own ≡ b ∷ [] → AreChecked least front (Ok next)
    → IfOk result (λ n. n ≡ least_after next own) → OnOk result (first_fault next own ≡ None) → IfErr result (NamesFault (first_fault next own)) → AreChecked least (front ++ b ∷ []) result
checks_on least front b next own (Ok n) one so_far is sound cause =
    (still_none least front b next so_far.0 so_far.1 (ap (first_fault next) (sym one) ∙ sound), is ∙ ap (least_after next) one ∙ least_more least front b next so_far.1)
checks_on least front b next own (Err error) one so_far is sound cause =
    now_named least front b next error so_far.0 so_far.1 (subst (λ (l : List Shown). NamesFault (first_fault next l) error) one cause)

-- ---- the turns of the loop

-- So far these batches were read, looked at, and told of.
pub record IsLooking (text : List ℕ) (least : ℕ) (checked : Result ℕ Error) (marks : JournalMarks) (reader : Reading) : Type 0 where
  pub front : List Shown
  pub so_far : SoFar text front reader
  pub checked_is : AreChecked least front checked
  pub marks_are : AreMarksOf front marks

module _ (text : List ℕ) (least : ℕ) where
  module _ (checked : Result ℕ Error) (marks : JournalMarks) (old new : Reading) (looking : IsLooking text least checked marks old) where
    pub look_on : (next : Result ℕ Error) (after : JournalMarks) (batch : Batch) → Next old (Some (Ok batch)) new
        → ((front : List Shown) → AreChecked least front checked → AreChecked least (front ++ view batch ∷ []) next)
        → ((front : List Shown) → AreMarksOf front marks → AreMarksOf (front ++ view batch ∷ []) after) → IsLooking text least next after new
    look_on next after batch step checks raises = record {
      front = looking.front ++ view batch ∷ [];
      so_far = one_more text looking.front old new batch looking.so_far step;
      checked_is = checks looking.front looking.checked_is;
      marks_are = raises looking.front looking.marks_are;
    }

    pub looked : (look : Look) → NextEnds old new old.over → look.end ≡ length new.text - length new.rest → look.tail ≡ new.tail → look.checked ≡ checked → AreMarksOf looking.front look.watermarks
        → IsLook text least look
    looked look step end tail is are =
        let here = finished text looking.front old new look.end look.tail looking.so_far step end tail in
        record {
          batches = looking.front;
          read = record { written = here.0.0; shows = here.0.1; whole = here.0.2; behind = here.1 };
          checked = subst (AreChecked least looking.front) (sym is) looking.checked_is;
          marks = are;
        }

-- ---- its text

pub some_look : (text : List ℕ) (least : ℕ) (result : Result Look Error) → IfOk result (IsLook text least) → IfOk result (λ look. (text : List ℕ) × IsLook text least look)
some_look text least (Ok look) is = (text, is)
some_look text least (Err error) is = tt

pub looked_at : (text other : List ℕ) (least : ℕ) (result : Result Look Error) → text ≡ other → IfOk result (IsLook text least) → IfOk result (IsLook other least)
looked_at text other least (Ok look) same is = subst (λ (t : List ℕ). IsLook t least look) same is
looked_at text other least (Err error) same is = tt

-- the name of a fault is one of an opening's refusals
pub fault_listed : (fault : Option JournalFault) (error : Error) → NamesFault fault error → IsOpeningRefusal error
fault_listed None error named = absurd (none_at error named)
  where
    none_at : (e : Error) → NamesFault None e → ⊥
    none_at e is = is
fault_listed (Some fault) Unrecoverable named = tt
fault_listed (Some fault) (InvalidTag tag) named = (named.1, named.2)
fault_listed (Some fault) error named = absurd named
