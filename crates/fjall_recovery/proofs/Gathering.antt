-- Journals read one after another.
use Rattle.std.proofs.Common.{◌≡◌, ◌⊎◌, inl, inr, ℕ, suc, ◌+◌, ◌-◌, ◌≤◌, Bool, true, false, List, [], ◌∷◌, ◌++◌, ◌<◌, length, take, drop, get_or, map, Option, None, refl, sym, ◌∙◌, ap, subst, add-one, arith}
use Rattle.std.proofs.lemmas.List.{append-nil, map-append, drop_more, take_all}
use Rattle.std.proofs.Math.Seq.{take-suc}
use Rattle.std.proofs.lemmas.Grind.{flat_map-append}
use Rattle.std.specs.List.{AllByRecursion}
use Rattle.std.specs.Option.{option_or}
use Rattle.fjall_base.specs.Disk.{Image}
use Rattle.fjall_base.specs.declared.error.Error.{Error}
use Rattle.fjall_base.specs.declared.error.Error.TheVariants.{OutOfMemory, Io}
use Rattle.fjall_journal.specs.declared.batch.Tail.{Tail}
use Rattle.fjall_journal.specs.declared.batch.Tail.TheVariants.{Clean, Torn}
use Rattle.fjall_journal.specs.Batches.{Written, Shown, IsWhole, IsTail, shown}
use Rattle.fjall_meta.specs.Replays.{JournalFault, first_fault, least_after, NamesFault}
use Rattle.fjall_recovery.specs.Journals.{WholeJournal, ReadsAs, AreJournalsRead, IsSealed, batches_in, EndsAt, Gathers, AreSealed, AreFound, IsReadAs, journal_text, tail_of}
use Rattle.fjall_recovery.specs.Refusals.{IsDue, JournalsRefuse, TailRefuses, is_last}
pub use Rattle.fjall_meta.proofs.ContentFaults.{first_fault-append, least_after-append}

-- ---- batches behind batches

pub batches-append : (front behind : List WholeJournal) → map shown (batches_in (front ++ behind)) ≡ map shown (batches_in front) ++ map shown (batches_in behind)
batches-append front behind = ap (map shown) (flat_map-append (λ (j : WholeJournal). j.batches) front behind) ∙ map-append shown (batches_in front) (batches_in behind)

one_journal : (j : WholeJournal) → map shown (batches_in (j ∷ [])) ≡ map shown j.batches
one_journal j = ap (map shown) (append-nil j.batches)

none_of_both : (a b : Option JournalFault) → a ≡ None → b ≡ None → option_or a b ≡ None
none_of_both a b none other = ap (λ x. option_or x b) none ∙ other

-- one journal more is gathered
pub gathers_more : (front : List WholeJournal) (j : WholeJournal) (more : List Shown) (least next : ℕ) → Gathers front least → more ≡ map shown j.batches → first_fault least more ≡ None
    → next ≡ least_after least more → Gathers (front ++ j ∷ []) next
gathers_more front j more least next gathers shows sound least_is =
    let shown_front = map shown (batches_in front) in
    let all : map shown (batches_in (front ++ j ∷ [])) ≡ shown_front ++ more = batches-append front (j ∷ []) ∙ ap (λ (l : List Shown). shown_front ++ l) (one_journal j ∙ sym shows) in
    record {
      sound = ap (first_fault 0) all ∙ first_fault-append 0 shown_front more ∙ none_of_both (first_fault 0 shown_front) _ gathers.sound (ap (λ n. first_fault n more) (sym gathers.next) ∙ sound);
      next = least_is ∙ ap (λ n. least_after n more) gathers.next ∙ sym (least_after-append 0 shown_front more) ∙ ap (least_after 0) (sym all);
    }

-- ---- sealed journals

pub sealed_more : (image : Image) (front : List WholeJournal) (j : WholeJournal) → AllByRecursion (IsSealed image) front → IsSealed image j → AllByRecursion (IsSealed image) (front ++ j ∷ [])
sealed_more image [] j each one = (one, tt)
sealed_more image (k ∷ front) j each one = (each.0, sealed_more image front j each.1 one)

pub ids-append : (front : List WholeJournal) (j : WholeJournal) → map (λ (k : WholeJournal). k.id) (front ++ j ∷ []) ≡ map (λ (k : WholeJournal). k.id) front ++ j.id ∷ []
ids-append front j = map-append (λ (k : WholeJournal). k.id) front (j ∷ [])

pub clean_end : (text : List ℕ) (batches : List Shown) (end : ℕ) (tail : Tail) (read : IsReadAs text batches end tail) → tail ≡ Clean → ReadsAs text read.written Clean
clean_end text batches end tail read clean = record { end = end; whole = read.whole; behind = subst (IsTail (drop end text)) clean read.behind }

pub one_sealed_more : (image : Image) (ids : List ℕ) (id : ℕ) (more : List Shown) (least next end : ℕ) (tail : Tail) → AreSealed image ids least
    → IsReadAs (journal_text image id) more end tail → tail ≡ Clean → first_fault least more ≡ None → next ≡ least_after least more → AreSealed image (ids ++ id ∷ []) next
one_sealed_more image ids id more least next end tail so_far read clean sound least_is =
    let j : WholeJournal = record { id = id; batches = read.written } in
    record {
      journals = so_far.journals ++ j ∷ [];
      named = ids-append so_far.journals j ∙ ap (λ (l : List ℕ). l ++ id ∷ []) so_far.named;
      sealed = sealed_more image so_far.journals j so_far.sealed (clean_end (journal_text image id) more end tail read clean);
      gathers = gathers_more so_far.journals j more least next so_far.gathers read.shows sound least_is;
    }

-- ---- the active one behind them

pub read_last : (image : Image) (front : List WholeJournal) (j : WholeJournal) → AllByRecursion (IsSealed image) front → ReadsAs (journal_text image j.id) j.batches Clean ⊎ ReadsAs (journal_text image j.id) j.batches Torn → AreJournalsRead image (front ++ j ∷ [])
read_last image [] j each last = last
read_last image (k ∷ []) j each last = (each.0, last)
read_last image (k ∷ l ∷ front) j each last = (each.0, read_last image (l ∷ front) j each.1 last)

ends_last : (image : Image) (front : List WholeJournal) (j : WholeJournal) (end : ℕ) (torn : Bool) → IsWhole (journal_text image j.id) j.batches end × IsTail (drop end (journal_text image j.id)) (tail_of torn) → EndsAt image (front ++ j ∷ []) end torn
ends_last image [] j end torn is = is
ends_last image (k ∷ []) j end torn is = is
ends_last image (k ∷ l ∷ front) j end torn is = ends_last image (l ∷ front) j end torn is

pub either_tail : (text : List ℕ) (batches : List Written) (end : ℕ) (torn : Bool) → IsWhole text batches end → IsTail (drop end text) (tail_of torn) → ReadsAs text batches Clean ⊎ ReadsAs text batches Torn
either_tail text batches end false whole tail = inl (record { end = end; whole = whole; behind = tail })
either_tail text batches end true whole tail = inr (record { end = end; whole = whole; behind = tail })

pub active_found : (image : Image) (ids : List ℕ) (id : ℕ) (more : List Shown) (least next end : ℕ) (tail : Tail) (torn : Bool) → AreSealed image ids least
    → IsReadAs (journal_text image id) more end tail → tail ≡ tail_of torn → first_fault least more ≡ None → next ≡ least_after least more → AreFound image (ids ++ id ∷ []) next end torn
active_found image ids id more least next end tail torn so_far read told sound least_is =
    let j : WholeJournal = record { id = id; batches = read.written } in
    let behind = subst (IsTail (drop end (journal_text image id))) told read.behind in
    record {
      journals = so_far.journals ++ j ∷ [];
      named = ids-append so_far.journals j ∙ ap (λ (l : List ℕ). l ++ id ∷ []) so_far.named;
      read = read_last image so_far.journals j so_far.sealed (either_tail (journal_text image id) read.written end torn read.whole behind);
      gathers = gathers_more so_far.journals j more least next so_far.gathers read.shows sound least_is;
      ends = ends_last image so_far.journals j end torn (read.whole, behind);
    }

-- ---- refusals

-- what refuses the journals behind one that is sealed and has no fault refuses it and them
pub refuses_behind : (image : Image) (id : ℕ) (ids : List ℕ) (least next end : ℕ) (more : List Shown) (tail : Tail) (error : Error) → IsReadAs (journal_text image id) more end tail → tail ≡ Clean
    → first_fault least more ≡ None → next ≡ least_after least more → JournalsRefuse image next ids error → JournalsRefuse image least (id ∷ ids) error
refuses_behind image id ids least next end more tail error read clean sound least_is refused = (
  read.written,
  Clean,
  clean_end (journal_text image id) more end tail read clean,
  inr (ap (first_fault least) (sym read.shows) ∙ sound, inr (refl, subst (λ n. JournalsRefuse image n ids error) (least_is ∙ ap (least_after least) read.shows) refused)),
)

pub refuses_batch : (image : Image) (id : ℕ) (ids : List ℕ) (least end : ℕ) (more : List Shown) (tail : Tail) (error : Error) → IsReadAs (journal_text image id) more end tail
    → NamesFault (first_fault least more) error → JournalsRefuse image least (id ∷ ids) error
refuses_batch image id ids least end more tail error read named = (
  read.written,
  tail,
  record { end = end; whole = read.whole; behind = read.behind },
  inl (subst (λ (l : List Shown). NamesFault (first_fault least l) error) read.shows named),
)

pub refuses_tail : (image : Image) (id : ℕ) (ids : List ℕ) (least end : ℕ) (more : List Shown) (tail : Tail) (error : Error) → IsReadAs (journal_text image id) more end tail
    → first_fault least more ≡ None → TailRefuses (is_last ids) tail error → JournalsRefuse image least (id ∷ ids) error
refuses_tail image id ids least end more tail error read sound refused = (
  read.written,
  tail,
  record { end = end; whole = read.whole; behind = read.behind },
  inr (ap (first_fault least) (sym read.shows) ∙ sound, inl refused),
)

-- ---- the turns of the loop

pub due : (P : Error → Type 0) (error : Error) → P error → IsDue P error
due P OutOfMemory is = tt
due P (Io kind) is = tt
due P error is = is

-- what refuses the rest of a list refuses all of it, where it does so behind its front
module _ (image : Image) (ids : List ℕ) (n least : ℕ) (active : ℕ) (lt : n < length ids)
    (so_far : (error : Error) → JournalsRefuse image least (drop n ids ++ active ∷ []) error → JournalsRefuse image 0 (ids ++ active ∷ []) error) where
  abbrev id : ℕ
  id = get_or ids n 0

  abbrev rest : List ℕ
  rest = drop (n + 1) ids ++ active ∷ []

  here : (error : Error) → JournalsRefuse image least (id ∷ rest) error → JournalsRefuse image 0 (ids ++ active ∷ []) error
  here error refused = so_far error (subst (λ (l : List ℕ). JournalsRefuse image least (l ++ active ∷ []) error) (sym (drop_more ids n 0 lt)) refused)

  not_last : (l : List ℕ) → is_last (l ++ active ∷ []) ≡ false
  not_last [] = refl
  not_last (x ∷ l) = refl

  pub turn_batch : (text_image : Image) (end : ℕ) (more : List Shown) (tail : Tail) (error : Error) → text_image ≡ image → IsReadAs (journal_text text_image (get_or ids n 0)) more end tail
      → NamesFault (first_fault least more) error → IsDue (JournalsRefuse image 0 (ids ++ active ∷ [])) error
  turn_batch text_image end more tail error same read named =
      due (JournalsRefuse image 0 (ids ++ active ∷ [])) error
      (here error (refuses_batch image id rest least end more tail error (subst (λ i. IsReadAs (journal_text i id) more end tail) same read) named))

  pub turn_tail : (text_image : Image) (end : ℕ) (more : List Shown) (tail : Tail) (error : Error) → text_image ≡ image → IsReadAs (journal_text text_image (get_or ids n 0)) more end tail → first_fault least more ≡ None
      → TailRefuses false tail error → IsDue (JournalsRefuse image 0 (ids ++ active ∷ [])) error
  turn_tail text_image end more tail error same read sound refused =
      due (JournalsRefuse image 0 (ids ++ active ∷ [])) error
      (here error (refuses_tail image id rest least end more tail error (subst (λ i. IsReadAs (journal_text i id) more end tail) same read) sound
      (subst (λ b. TailRefuses b tail error) (sym (not_last (drop (n + 1) ids))) refused)))

  pub turn_on : (text_image : Image) (next end : ℕ) (more : List Shown) (tail : Tail) (error : Error) → text_image ≡ image → IsReadAs (journal_text text_image (get_or ids n 0)) more end tail → tail ≡ Clean
      → first_fault least more ≡ None → next ≡ least_after least more → JournalsRefuse image next (drop (n + 1) ids ++ active ∷ []) error → JournalsRefuse image 0 (ids ++ active ∷ []) error
  turn_on text_image next end more tail error same read clean sound least_is refused =
      here error (refuses_behind image id rest least next end more tail error (subst (λ i. IsReadAs (journal_text i id) more end tail) same read) clean sound least_is refused)

pub turn_found : (image text_image : Image) (ids : List ℕ) (n least next end : ℕ) (more : List Shown) (tail : Tail) → n < length ids → text_image ≡ image → AreSealed image (take n ids) least
    → IsReadAs (journal_text text_image (get_or ids n 0)) more end tail → tail ≡ Clean → first_fault least more ≡ None → next ≡ least_after least more → AreSealed image (take (n + 1) ids) next
turn_found image text_image ids n least next end more tail lt same so_far read clean sound least_is =
    subst (λ (l : List ℕ). AreSealed image l next) (sym (ap (λ m. take m ids) (add-one n) ∙ take-suc ids n 0 lt))
    (one_sealed_more image (take n ids) (get_or ids n 0) more least next end tail so_far (subst (λ i. IsReadAs (journal_text i (get_or ids n 0)) more end tail) same read) clean sound least_is)

-- ---- the last of a list

pub split_last : (ids : List ℕ) → 1 ≤ length ids → take (length ids - 1) ids ++ get_or ids (length ids - 1) 0 ∷ [] ≡ ids
split_last ids some =
    let n = length ids - 1 in
    sym (take-suc ids n 0 (omega (arith, some))) ∙ take_all (suc n) ids (omega (arith, some))

module _ (image text_image : Image) (ids : List ℕ) (some : 1 ≤ length ids) (same : text_image ≡ image) where
  abbrev front : List ℕ
  front = take (length ids - 1) ids

  abbrev active : ℕ
  active = get_or ids (length ids - 1) 0

  all : (error : Error) → JournalsRefuse image 0 (front ++ active ∷ []) error → IsDue (JournalsRefuse image 0 ids) error
  all error refused = due (JournalsRefuse image 0 ids) error (subst (λ (l : List ℕ). JournalsRefuse image 0 l error) (split_last ids some) refused)

  pub front_refuses : (error : Error) → IsDue (JournalsRefuse image 0 (take (length ids - 1) ids ++ get_or ids (length ids - 1) 0 ∷ [])) error → IsDue (JournalsRefuse image 0 ids) error
  front_refuses error refused = subst (λ (l : List ℕ). IsDue (JournalsRefuse image 0 l) error) (split_last ids some) refused

  pub active_batch : (least end : ℕ) (more : List Shown) (tail : Tail) (error : Error) → IsReadAs (journal_text text_image (get_or ids (length ids - 1) 0)) more end tail
      → (JournalsRefuse image least (get_or ids (length ids - 1) 0 ∷ []) error → JournalsRefuse image 0 (take (length ids - 1) ids ++ get_or ids (length ids - 1) 0 ∷ []) error)
      → NamesFault (first_fault least more) error → IsDue (JournalsRefuse image 0 ids) error
  active_batch least end more tail error read behind named =
      all error (behind (refuses_batch image active [] least end more tail error (subst (λ i. IsReadAs (journal_text i active) more end tail) same read) named))

  pub active_tail : (least end : ℕ) (more : List Shown) (tail : Tail) (error : Error) → IsReadAs (journal_text text_image (get_or ids (length ids - 1) 0)) more end tail
      → (JournalsRefuse image least (get_or ids (length ids - 1) 0 ∷ []) error → JournalsRefuse image 0 (take (length ids - 1) ids ++ get_or ids (length ids - 1) 0 ∷ []) error)
      → first_fault least more ≡ None → TailRefuses true tail error → IsDue (JournalsRefuse image 0 ids) error
  active_tail least end more tail error read behind sound refused =
      all error (behind (refuses_tail image active [] least end more tail error (subst (λ i. IsReadAs (journal_text i active) more end tail) same read) sound refused))

  pub last_found : (more : List Shown) (least next end stop : ℕ) (tail : Tail) (torn : Bool) → stop ≡ end → AreSealed image (take (length ids - 1) ids) least
      → IsReadAs (journal_text text_image (get_or ids (length ids - 1) 0)) more end tail → tail ≡ tail_of torn → first_fault least more ≡ None → next ≡ least_after least more → AreFound image ids next stop torn
  last_found more least next end stop tail torn at sealed read told sound least_is =
      subst (λ e. AreFound image ids next e torn) (sym at)
      (subst (λ (l : List ℕ). AreFound image l next end torn) (split_last ids some)
      (active_found image front active more least next end tail torn sealed (subst (λ i. IsReadAs (journal_text i active) more end tail) same read) told sound least_is))
