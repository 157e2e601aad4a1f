-- What is told of the journals that were read.
use Rattle.std.proofs.Common.{◌≡◌, ◌⊎◌, ℕ, ◌+◌, ◌-◌, ◌<◌, ◌≤◌, Bool, List, [], ◌∷◌, ◌++◌, length, get_or, take, drop, map, refl, sym, ap, ◌∙◌, subst, add-one, arith}
use Rattle.std.proofs.lemmas.List.{length-take, map-append, take_more}
use Rattle.std.proofs.Math.Seq.{take-suc}
use Rattle.std.specs.List.{AllZip, flat_map}
use Rattle.fjall_base.specs.Disk.{Image}
use Rattle.fjall_journal.specs.Batches.{IsTail, IsWhole, Shown, Written, batch_text, shown}
use Rattle.fjall_journal.specs.declared.batch.Tail.{Tail}
use Rattle.fjall_journal.specs.declared.batch.Tail.TheVariants.{Clean, Torn}
use Rattle.fjall_files.specs.Journals.{Sealed}
use Rattle.fjall_files.specs.Marks.{JournalMarks}
use Rattle.fjall_files.specs.Telling.{AreMarksOf, IsSealedAs}
use Rattle.fjall_recovery.specs.Journals.{IsReadAs, ReadsAs, WholeJournal, journal_text, tail_of}
use Rattle.fjall_recovery.specs.Told.{AreSealedAs, AreTold, TellOf, TellsOf}
use Rattle.fjall_recovery.proofs.Gathering.{clean_end, either_tail, ids-append, read_last, sealed_more, split_last}

pub no_marks : AreMarksOf [] []
no_marks id = refl

-- ---- sealed journals

-- whole batches end where their texts do
pub whole_end : (text : List ℕ) (batches : List Written) (end : ℕ) → IsWhole text batches end → end ≡ length (flat_map batch_text batches)
whole_end text batches end whole =
    let texts = ap length whole.texts in
    let all = length-take end text in
    let within = whole.within in
    omega (arith, texts, all, within)

pub tell_more : (journals : List WholeJournal) (sealed : List Sealed) (j : WholeJournal) (journal : Sealed) → AllZip TellsOf journals sealed → TellsOf j journal → AllZip TellsOf (journals ++ j ∷ []) (sealed ++ journal ∷ [])
tell_more [] [] j journal tell one = (one, tt)
tell_more [] (s ∷ sealed) j journal tell one = absurd tell
tell_more (k ∷ journals) [] j journal tell one = absurd tell
tell_more (k ∷ journals) (s ∷ sealed) j journal tell one = (tell.0, tell_more journals sealed j journal tell.1 one)

-- one more is told of
pub sealed_as_more : (image : Image) (ids : List ℕ) (id : ℕ) (sealed : List Sealed) (journal : Sealed) (batches : List Shown) (end : ℕ) (tail : Tail) → AreSealedAs image ids sealed
    → IsReadAs (journal_text image id) batches end tail → tail ≡ Clean → IsSealedAs id batches end journal → AreSealedAs image (ids ++ id ∷ []) (sealed ++ journal ∷ [])
sealed_as_more image ids id sealed journal batches end tail so_far read clean told =
    let j : WholeJournal = record { id = id; batches = read.written } in
    let tells : TellsOf j journal = record {
      id_is = told.id_is;
      len_is = told.len_is ∙ whole_end (journal_text image id) read.written end read.whole;
      marks = subst (λ (l : List Shown). AreMarksOf l journal.watermarks) read.shows told.marks;
    } in
    record {
      journals = so_far.journals ++ j ∷ [];
      named = ids-append so_far.journals j ∙ ap (λ (l : List ℕ). l ++ id ∷ []) so_far.named;
      whole = sealed_more image so_far.journals j so_far.whole (clean_end (journal_text image id) batches end tail read clean);
      tell = tell_more so_far.journals sealed j journal so_far.tell tells;
    }

-- a sealed journal is told of by what was found of it
pub sealed_as : (id : ℕ) (batches : List Shown) (end : ℕ) (journal : Sealed) (len : ℕ) (marks : JournalMarks) → journal ≡ record { id = id; len = len; watermarks = marks } → len ≡ end → AreMarksOf batches marks
    → IsSealedAs id batches end journal
sealed_as id batches end journal len marks is at are = record {
  id_is = ap (λ (s : Sealed). s.id) is;
  len_is = ap (λ (s : Sealed). s.len) is ∙ at;
  marks = subst (AreMarksOf batches) (sym (ap (λ (s : Sealed). s.watermarks) is)) are;
}

pub turn_told : (image text_image : Image) (ids : List ℕ) (n : ℕ) (sealed : List Sealed) (journal : Sealed) (batches : List Shown) (end : ℕ) (tail : Tail) → n < length ids → text_image ≡ image
    → AreSealedAs image (take n ids) sealed → IsReadAs (journal_text text_image (get_or ids n 0)) batches end tail → tail ≡ Clean → IsSealedAs (get_or ids n 0) batches end journal
    → AreSealedAs image (take (n + 1) ids) (sealed ++ journal ∷ [])
turn_told image text_image ids n sealed journal batches end tail lt same so_far read clean told =
    subst (λ (l : List ℕ). AreSealedAs image l (sealed ++ journal ∷ [])) (sym (ap (λ m. take m ids) (add-one n) ∙ take-suc ids n 0 lt))
    (sealed_as_more image (take n ids) (get_or ids n 0) sealed journal batches end tail so_far (subst (λ i. IsReadAs (journal_text i (get_or ids n 0)) batches end tail) same read) clean told)

abbrev pub ids_in : List Sealed → List ℕ
ids_in sealed = map (λ (s : Sealed). s.id) sealed

pub turn_ids : (ids : List ℕ) (n : ℕ) (sealed new : List Sealed) (journal : Sealed) → n < length ids → ids_in sealed ≡ take n ids → journal.id ≡ get_or ids n 0 → new ≡ sealed ++ journal ∷ [] → ids_in new ≡ take (n + 1) ids
turn_ids ids n sealed new journal lt so_far id_is is =
    ap ids_in is ∙ map-append (λ (s : Sealed). s.id) sealed (journal ∷ []) ∙ ap (λ (l : List ℕ). l ++ journal.id ∷ []) so_far ∙ ap (λ i. take n ids ++ i ∷ []) id_is ∙ sym (take_more ids n 0 lt)

-- ---- the active one behind them

pub tell_last : (front : List WholeJournal) (j : WholeJournal) (sealed : List Sealed) (marks : JournalMarks) → AllZip TellsOf front sealed → AreMarksOf (map shown j.batches) marks → TellOf (front ++ j ∷ []) sealed marks
tell_last [] j [] marks tell are = (refl, are)
tell_last [] j (s ∷ sealed) marks tell are = absurd tell
tell_last (k ∷ front) j [] marks tell are = absurd tell
tell_last (k ∷ []) j (s ∷ sealed) marks tell are = (tell.0, tell_last [] j sealed marks tell.1 are)
tell_last (k ∷ l ∷ front) j (s ∷ sealed) marks tell are = (tell.0, tell_last (l ∷ front) j sealed marks tell.1 are)

-- what is told of journals is told of all but the last, and of the last
pub tell_apart : (front : List WholeJournal) (j : WholeJournal) (sealed : List Sealed) (marks : JournalMarks) → TellOf (front ++ j ∷ []) sealed marks → AllZip TellsOf front sealed × AreMarksOf (map shown j.batches) marks
tell_apart [] j [] marks tell = (tt, tell.1)
tell_apart [] j (s ∷ sealed) marks tell = absurd (let bad : ⊥ = cc in bad)
tell_apart (k ∷ []) j [] marks tell = absurd tell
tell_apart (k ∷ l ∷ front) j [] marks tell = absurd tell
tell_apart (k ∷ []) j (s ∷ sealed) marks tell = let rest = tell_apart [] j sealed marks tell.1 in ((tell.0, rest.0), rest.1)
tell_apart (k ∷ l ∷ front) j (s ∷ sealed) marks tell = let rest = tell_apart (l ∷ front) j sealed marks tell.1 in ((tell.0, rest.0), rest.1)

pub last_told : (image text_image : Image) (ids : List ℕ) (sealed : List Sealed) (marks : JournalMarks) (batches : List Shown) (end : ℕ) (tail : Tail) (torn : Bool) → 1 ≤ length ids → text_image ≡ image
    → AreSealedAs image (take (length ids - 1) ids) sealed → IsReadAs (journal_text text_image (get_or ids (length ids - 1) 0)) batches end tail → tail ≡ tail_of torn → AreMarksOf batches marks
    → AreTold image ids sealed marks
last_told image text_image ids sealed marks batches end tail torn some same so_far read told are =
    let id = get_or ids (length ids - 1) 0 in
    let text = journal_text text_image id in
    let j : WholeJournal = record { id = id; batches = read.written } in
    let last = subst (λ i. ReadsAs (journal_text i id) read.written Clean ⊎ ReadsAs (journal_text i id) read.written Torn) same
    (either_tail text read.written end torn read.whole (subst (IsTail (drop end text)) told read.behind)) in
    record {
      journals = so_far.journals ++ j ∷ [];
      named = ids-append so_far.journals j ∙ ap (λ (l : List ℕ). l ++ id ∷ []) so_far.named ∙ split_last ids some;
      read = read_last image so_far.journals j so_far.whole last;
      tell = tell_last so_far.journals j sealed marks so_far.tell (subst (λ (l : List Shown). AreMarksOf l marks) read.shows are);
    }

-- where no journal is read
pub none_told : (image : Image) (ids : List ℕ) (sealed : List Sealed) (marks : JournalMarks) → length ids < 1 → sealed ≡ [] → marks ≡ [] → AreTold image ids sealed marks
none_told image [] sealed marks lt none unmarked = record { journals = []; named = refl; read = tt; tell = (none, subst (AreMarksOf []) (sym unmarked) no_marks) }
none_told image (id ∷ ids) sealed marks lt none unmarked = absurd (omega (arith, lt))
