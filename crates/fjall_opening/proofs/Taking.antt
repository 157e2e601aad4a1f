-- The batches of a text that was read before, taken one after another.
use Rattle.std.proofs.Common.{◌≡◌, ℕ, ◌+◌, ◌<◌, List, [], ◌∷◌, ◌++◌, Some, None, Ok, map, sym, ◌∙◌, ap, subst, append_assoc}
use Rattle.std.specs.Option.{option_or}
use Rattle.std.proofs.lemmas.List.{append-nil, map-append}
use Rattle.std.proofs.lemmas.List.Elements.{All-cons, All-head, All-nil, All-tail}
use Rattle.fjall_journal.specs.declared.batch.Batch.{Batch}
use Rattle.fjall_journal.specs.Batches.{Shown, Written, shown, view}
use Rattle.fjall_journal.proofs.Known.{EndsKnown, FindsKnown, Holds, LeavesKnown, all_answered, one_answered}
use Rattle.fjall_trees.specs.Forests.{Forest}
use Rattle.fjall_meta.specs.Replays.{fault_of, first_fault}
use Rattle.fjall_meta.proofs.Viewing.{no_fault}
use Rattle.fjall_opening.specs.declared.replaying.Progress.{Progress}
use Rattle.fjall_opening.specs.declared.replaying.Replay.{Replay}
use Rattle.fjall_opening.specs.Opened.{IsFit}
use Rattle.fjall_opening.specs.Replaying.{IsUnderway, MayGoOn, MayTake}

-- ---- what may be taken

module _ (r : Replay) (least : ℕ) (b : Shown) (more : List Shown) (may : MayTake r least (b ∷ more)) where
  parts : (fault_of least b ≡ None) × (first_fault (b.number + 1) more ≡ None)
  parts = no_fault (fault_of least b) (first_fault (b.number + 1) more) may.sound

  pub first_may : MayTake r least (b ∷ [])
  first_may = record {
    fit = All-cons IsFit b [] (All-head IsFit b more may.fit) (All-nil IsFit);
    sound = ap (λ f. option_or f None) parts.0;
    below = All-cons (λ (c : Shown). c.number < r.bound) b [] (All-head (λ (c : Shown). c.number < r.bound) b more may.below) (All-nil (λ (c : Shown). c.number < r.bound));
  }

  pub rest_may : (next : ℕ) → next ≡ b.number + 1 → MayTake r next more
  rest_may next is = record {
    fit = All-tail IsFit b more may.fit;
    sound = ap (λ n. first_fault n more) is ∙ parts.1;
    below = All-tail (λ (c : Shown). c.number < r.bound) b more may.below;
  }

-- ---- so far

-- Of these batches some were taken, and the texts of the others are left.
pub record AreLeft (r : Replay) (start : Progress) (batches : List Written) (rest : List ℕ) (p : Progress) : Type 0 where
  pub front : List Written
  pub more : List Written
  pub parts : batches ≡ front ++ more
  pub holds : Holds rest more
  pub taken : (loaded : Forest) (before : List Shown) → IsUnderway r loaded before start → IsUnderway r loaded (before ++ map shown front) p
  pub may : MayTake r start.least (map shown batches) → MayTake r p.least (map shown more)

-- So far some batches were taken; where the text is that of some, these.
pub record IsTaking (r : Replay) (start : Progress) (text rest : List ℕ) (p : Progress) : Type 0 where
  pub ended : MayGoOn r p
  pub some : (loaded : Forest) (before : List Shown) → IsUnderway r loaded before start → (own : List Shown) × IsUnderway r loaded (before ++ own) p
  pub known : (batches : List Written) → Holds text batches → AreLeft r start batches rest p

module _ (r : Replay) (start : Progress) (text : List ℕ) where
  -- where no batch is found at the rest all were taken
  pub all_taken : (batches : List Written) (rest : List ℕ) (p : Progress) → AreLeft r start batches rest p → FindsKnown rest (Ok None) → (loaded : Forest) (before : List Shown) → IsUnderway r loaded before start
      → IsUnderway r loaded (before ++ map shown batches) p
  all_taken batches rest p left found loaded before underway =
      let none = all_answered rest left.more left.holds found in
      let all : batches ≡ left.front = left.parts ∙ ap (λ (l : List Written). left.front ++ l) none ∙ append-nil left.front in
      subst (λ (l : List Written). IsUnderway r loaded (before ++ map shown l) p) (sym all) (left.taken loaded before underway)

  -- ---- one batch more

  module _ (rest after : List ℕ) (old : Progress) (b : Batch) (taking : IsTaking r start text rest old) (known : FindsKnown rest (Ok (Some b))) (leaves : LeavesKnown rest (Ok (Some b)) after)
      (ends : EndsKnown rest (Ok (Some b))) where
    -- it may be taken
    pub may_next : (batches : List Written) → Holds text batches → MayTake r start.least (map shown batches) → MayTake r old.least (view b ∷ [])
    may_next batches holds may =
        let left = taking.known batches holds in
        let one = one_answered rest left.more b after left.holds known leaves ends in
        subst (λ (c : Shown). MayTake r old.least (c ∷ [])) (sym one.shows)
        (first_may r old.least (shown one.first) (map shown one.more) (subst (λ (l : List Written). MayTake r old.least (map shown l)) one.is (left.may may)))

    module _ (new : Progress) (next : new.least ≡ b.seqno + 1) (takes : (loaded : Forest) (front : List Shown) → IsUnderway r loaded front old → IsUnderway r loaded (front ++ view b ∷ []) new) where
      left_on : (batches : List Written) → AreLeft r start batches rest old → AreLeft r start batches after new
      left_on batches left =
          let one = one_answered rest left.more b after left.holds known leaves ends in
          record {
            front = left.front ++ one.first ∷ [];
            more = one.more;
            parts = left.parts ∙ ap (λ (l : List Written). left.front ++ l) one.is ∙ sym (append_assoc left.front (one.first ∷ []) one.more);
            holds = one.holds;
            taken = λ loaded before underway.
                subst (λ (l : List Shown). IsUnderway r loaded l new)
                (append_assoc before (map shown left.front) (view b ∷ [])
                ∙ ap (λ (l : List Shown). before ++ l) (ap (λ (c : Shown). map shown left.front ++ c ∷ []) one.shows ∙ sym (map-append shown left.front (one.first ∷ []))))
                (takes loaded (before ++ map shown left.front) (left.taken loaded before underway));
            may = λ m.
                rest_may r old.least (shown one.first) (map shown one.more) (subst (λ (l : List Written). MayTake r old.least (map shown l)) one.is (left.may m)) new.least
                (next ∙ ap (λ (c : Shown). c.number + 1) one.shows);
          }

      pub take_on : MayGoOn r new → IsTaking r start text after new
      take_on ended = record {
        ended = ended;
        some = λ loaded before underway.
            let so_far = taking.some loaded before underway in
            (so_far.0 ++ view b ∷ [], subst (λ (l : List Shown). IsUnderway r loaded l new) (append_assoc before so_far.0 (view b ∷ [])) (takes loaded (before ++ so_far.0) so_far.1));
        known = λ batches holds. left_on batches (taking.known batches holds);
      }
