-- A reader's steps, each from the grammar, and put together.
use Rattle.std.proofs.Common.{◌≡◌, ◌⊎◌, inl, inr, Option, Some, None, IfOk, IfErr, ℕ, ◌+◌, ◌-◌, ◌<◌, Bool, true, false, List, [], ◌∷◌, ◌++◌, length, drop, map, Result, Ok, Err, refl, sym, ap, subst, ◌∙◌, arith}
use Rattle.std.proofs.lemmas.List.{length-append}
use Rattle.fjall_base.specs.declared.error.Error.{Error}
use Rattle.fjall_base.specs.declared.error.Error.TheVariants.{JournalRecovery}
use Rattle.fjall_journal.specs.declared.batch.Tail.{Tail}
use Rattle.fjall_journal.specs.declared.batch.Tail.TheVariants.{Clean, Torn, Damaged}
use Rattle.fjall_journal.specs.declared.batch.Stop.{Stop}
use Rattle.fjall_journal.specs.declared.batch.Stop.TheVariants as stops
use Rattle.fjall_journal.specs.declared.batch.Batch.{Batch}
use Rattle.fjall_journal.specs.Batches.{Written, batch_text, IsWhole, IsTail, Shown, shown, view}
use Rattle.fjall_journal.specs.Steps.{ReadsStep, batch_at}
use Rattle.fjall_journal.specs.Reader.{Reading, Leads, EndsAt, StopsHere, over_with, NextEnds, Next}
use Rattle.fjall_base.proofs.Codecs.{IsBytes}
use Rattle.fjall_journal.proofs.Batches.{batch_takes, tail_is, no_batch, batch_some, ReadSoFar, one_more_read, all_read}

-- what a reading function gives is what the grammar says

pub leads : (bytes : List ℕ) (batch : Batch) (rest : List ℕ) → IsBytes bytes → batch_at bytes ≡ Ok (view batch, rest) → Leads bytes batch rest
leads bytes batch rest fits e =
    let n = batch_takes bytes (view batch, rest) fits e in
    record { written = n.batch; is = n.is; shows = n.shows; parts = n.takes.parts }

pub ends_at : (bytes : List ℕ) (tail : Tail) → IsBytes bytes → batch_at bytes ≡ Err tail → EndsAt bytes tail
ends_at bytes tail fits e = record { none = no_batch bytes tail e; is = tail_is bytes tail fits e }

pub found : {X : Type 0} (seen : X → List ℕ) (bytes : List ℕ) (r : Result (Batch × X) Stop) → IsBytes bytes → ReadsStep (λ x. (view x.0, seen x.1)) r (batch_at bytes) → IfOk r (λ x. Leads bytes x.0 (seen x.1))
found seen bytes (Ok x) fits e = leads bytes x.0 (seen x.1) fits e
found seen bytes (Err stop) fits e = tt

pub stopped : {X : Type 0} (seen : X → List ℕ) (bytes : List ℕ) (r : Result (Batch × X) Stop) → IsBytes bytes → ReadsStep (λ x. (view x.0, seen x.1)) r (batch_at bytes) → IfErr r (StopsHere bytes)
stopped seen bytes (Ok x) fits e = tt
stopped seen bytes (Err stops.Memory) fits e = tt
stopped seen bytes (Err (stops.Tail tail)) fits e = ends_at bytes tail fits e

-- ---- one call of next

-- at a tail
abbrev pub told : Tail → Option (Result Batch Error)
told (Damaged damage) = Some (Err (JournalRecovery damage))
told Clean = None
told Torn = None

quiet : (s t : Reading) (tail : Tail) → t ≡ over_with s tail → (tail ≡ Clean) ⊎ (tail ≡ Torn) → EndsAt s.rest tail → NextEnds s t false
quiet s t tail is calm ends =
    let same : t.tail ≡ tail = ap (λ (v : Reading). v.tail) is in
    (is ∙ ap (λ (v : Tail). over_with s v) (sym same), subst (λ (v : Tail). (v ≡ Clean) ⊎ (v ≡ Torn)) (sym same) calm, subst (λ (v : Tail). EndsAt s.rest v) (sym same) ends)

pub next_stops : (s t : Reading) (tail : Tail) (r : Option (Result Batch Error)) → s.over ≡ false → t ≡ over_with s tail → EndsAt s.rest tail → r ≡ told tail → Next s r t
next_stops s t Clean r going is ends e = rw (e, going) (quiet s t Clean is (inl refl) ends)
next_stops s t Torn r going is ends e = rw (e, going) (quiet s t Torn is (inr refl) ends)
next_stops s t (Damaged damage) r going is ends e = rw e (going, (is, ends))

-- ---- a whole text

-- where reading is over, the tail stands at the rest
abbrev pub OverAt : Bool → List ℕ → Tail → Type 0
OverAt true rest tail = EndsAt rest tail
OverAt false rest tail = Unit {0}

-- the text was read up to the rest, and once that is over its tail is known
pub record SoFar (text : List ℕ) (front : List Shown) (s : Reading) : Type 0 where
  pub same : s.text ≡ text
  pub read : ReadSoFar text front s.rest
  pub ends : OverAt s.over s.rest s.tail

-- what is left to do
abbrev pub left_of : Bool → ℕ → ℕ
left_of true n = 0
left_of false n = n + 1

abbrev pub to_do : Reading → ℕ
to_do s = left_of s.over (length s.rest)

-- ---- one call of next

going_on : (b : Bool) (rest : List ℕ) (tail : Tail) → b ≡ false → OverAt b rest tail
going_on true rest tail e = absurd cc
going_on false rest tail e = tt

to_do_at : (s : Reading) (b : Bool) → s.over ≡ b → to_do s ≡ left_of b (length s.rest)
to_do_at s b e = ap (λ (v : Bool). left_of v (length s.rest)) e

-- a batch was answered
pub one_more : (text : List ℕ) (front : List Shown) (s t : Reading) (batch : Batch) → SoFar text front s → Next s (Some (Ok batch)) t → SoFar text (front ++ view batch ∷ []) t
one_more text front s t batch so_far step =
    let leads = step.2 in
    let more = one_more_read text front s.rest leads.written t.rest so_far.read leads.is leads.parts in
    record {
      same = ap (λ (v : Reading). v.text) step.1 ∙ so_far.same;
      read = subst (λ (v : Shown). ReadSoFar text (front ++ v ∷ []) t.rest) leads.shows more;
      ends = going_on t.over t.rest t.tail (ap (λ (v : Reading). v.over) step.1 ∙ step.0);
    }

pub one_less : (s t : Reading) (batch : Batch) → Next s (Some (Ok batch)) t → to_do t < to_do s
one_less s t batch step =
    let leads = step.2 in
    let sum : length s.rest ≡ length (batch_text leads.written) + length t.rest = ap length leads.parts ∙ length-append (batch_text leads.written) t.rest in
    let some = batch_some leads.written in
    let before = to_do_at s false step.0 in
    let behind = to_do_at t false (ap (λ (v : Reading). v.over) step.1 ∙ step.0) in
    omega arith

-- a damage was told
pub over_now : (text : List ℕ) (front : List Shown) (s t : Reading) (tail : Tail) → SoFar text front s → t ≡ over_with s tail → EndsAt s.rest tail → SoFar text front t
over_now text front s t tail so_far is ends =
    subst (λ (v : Reading). SoFar text front v) (sym is) (record { same = so_far.same; read = so_far.read; ends = ends })

-- the end
ended : (text : List ℕ) (front : List Shown) (s t : Reading) (b : Bool) → s.over ≡ b → SoFar text front s → NextEnds s t b → SoFar text front t × EndsAt t.rest t.tail
ended text front s t true over so_far step =
    let ends : EndsAt s.rest s.tail = subst (λ (b : Bool). OverAt b s.rest s.tail) over so_far.ends in
    (subst (λ (v : Reading). SoFar text front v) (sym step) so_far, subst (λ (v : Reading). EndsAt v.rest v.tail) (sym step) ends)
ended text front s t false over so_far step =
    let rest : t.rest ≡ s.rest = ap (λ (v : Reading). v.rest) step.0 in
    (over_now text front s t t.tail so_far step.0 step.2, subst (λ (v : List ℕ). EndsAt v t.tail) (sym rest) step.2)

pub finished : (text : List ℕ) (front : List Shown) (s t : Reading) (end : ℕ) (tail : Tail) → SoFar text front s → NextEnds s t s.over → end ≡ length t.text - length t.rest → tail ≡ t.tail
    → ((bs : List Written) × (front ≡ map shown bs) × IsWhole text bs end) × IsTail (drop end text) tail
finished text front s t end tail so_far step end-is tail-is =
    let e = ended text front s t s.over refl so_far step in
    let end-same : end ≡ length text - length t.rest = end-is ∙ ap (λ (v : List ℕ). length v - length t.rest) e.0.same in
    rw (end-same, tail-is) (all_read text front t.rest t.tail e.0.read e.1.none e.1.is)
