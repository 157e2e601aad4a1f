-- A first life that makes a keyspace by its first call.
use Rattle.std.proofs.Common.{◌≡◌, ◌≢◌, ℕ, suc, ◌≤◌, nat_lt, Bool, false, if◌then◌else◌, List, [], ◌∷◌, ◌++◌, length, take, Some, None, refl, ap, subst, ◌∙◌}
use Rattle.std.specs.FinMap.{get}
use Rattle.fjall_base.specs.Pairs.{Bytes}
use Rattle.fjall_base.specs.Store.{Store, Command, Create, fold, kept}
use Rattle.fjall_history.specs.declared.reply.Reply.TheVariants.{Number}
use Rattle.fjall_consistency.specs.Consistency.{AreAnswers, IsBeginning, IsSyncAt, Known, all_attempted, has_name, no_store}
use Rattle.fjall_wrong_stories.specs.Stories.{Chapter, Closed, Ended, Step, keyspace}
use Rattle.fjall_wrong_stories.proofs.Values.{made, no_name}
use Rattle.fjall_wrong_stories.proofs.Fronts.{ahead_of, behind, has_first, same_rest}
use Rattle.fjall_wrong_stories.proofs.Chapters.{IsClosed, Served, calls_in, replies_in, steps_of}

-- the chapter with one more step ahead
abbrev pub ahead : Step → Chapter → Chapter
ahead step (Closed steps) = Closed (step ∷ steps)
ahead step (Ended steps) = Ended (step ∷ steps)

-- what a creation asks for, if its name was taken and if it wasn't
abbrev creates : Bytes → Bool → List Command
creates name taken = if taken then [] else (Create name [] ∷ [])

abbrev after_creation : Bytes → Bool → Known
after_creation name taken = record {
  present = fold no_store (creates name taken);
  snapshots = None ∷ [];
  transactions = None ∷ [];
  failed = false;
  broken = nat_lt (length (creates name taken)) (length (creates name taken));
}

-- what is known after it
abbrev pub founded : Bytes → Known
founded name = after_creation name false

-- what such a life is from there on
pub record Founds (name : Bytes) (id : ℕ) (chapter : Chapter) (next : Store) : Type 0 where
  pub named : get (made name).names id ≡ Some name
  pub answers : AreAnswers (founded name) (calls_in (steps_of chapter)) (replies_in (steps_of chapter))
  pub front : List Command
  pub within : IsBeginning front (all_attempted (founded name) (calls_in (steps_of chapter)) (replies_in (steps_of chapter)))
  pub holds : (i : ℕ) → IsSyncAt (founded name) (calls_in (steps_of chapter)) (replies_in (steps_of chapter)) i
      → IsBeginning (all_attempted (founded name) (take (suc i) (calls_in (steps_of chapter))) (take (suc i) (replies_in (steps_of chapter)))) front
  pub closes : IsClosed chapter → front ≡ all_attempted (founded name) (calls_in (steps_of chapter)) (replies_in (steps_of chapter))
  pub is : next ≡ kept (fold (made name) front)

-- the same as it is told, if the name was taken and if it wasn't
abbrev Raw : Bytes → ℕ → List Step → Type 0 → Store → Bool → Type 0
Raw name id steps Closes next taken =
    ((told : ℕ) × (Number id ≡ Number told) × (name ≢ []) × (length name ≤ 255) × (get (fold no_store (creates name taken)).names told ≡ Some name))
    × AreAnswers (after_creation name taken) (calls_in steps) (replies_in steps)
    × (front : List Command) × IsBeginning front (creates name taken ++ all_attempted (after_creation name taken) (calls_in steps) (replies_in steps))
    × ((i : ℕ) → IsSyncAt (after_creation name taken) (calls_in steps) (replies_in steps) i
    → IsBeginning (creates name taken ++ all_attempted (after_creation name taken) (take (suc i) (calls_in steps)) (take (suc i) (replies_in steps))) front)
    × (taken ≡ false → IsBeginning (creates name taken ++ []) front)
    × (Closes → front ≡ creates name taken ++ all_attempted (after_creation name taken) (calls_in steps) (replies_in steps))
    × (next ≡ kept (fold no_store front))

raw : (name : Bytes) (options : List Bytes) (id : ℕ) (chapter : Chapter) (next : Store) → Served no_store (ahead (keyspace name options, Number id) chapter) next
    → Raw name id (steps_of chapter) (IsClosed chapter) next (has_name no_store name)
raw name options id (Closed steps) next s =
    (s.answers.0.0, s.answers.1, s.front, s.left.within, λ i sync. s.left.holds (suc i) sync, λ free. s.left.holds 0 free, λ c. s.closes c, s.is)
raw name options id (Ended steps) next s =
    (s.answers.0.0, s.answers.1, s.front, s.left.within, λ i sync. s.left.holds (suc i) sync, λ free. s.left.holds 0 free, λ c. s.closes c, s.is)

founds_of : (name : Bytes) (id : ℕ) (chapter : Chapter) (next : Store) → Raw name id (steps_of chapter) (IsClosed chapter) next false → Founds name id chapter next
founds_of name id chapter next r =
    let begun = has_first (Create name []) [] r.2 (r.5 refl) in
    record {
      named = subst (λ (n : ℕ). get (made name).names n ≡ Some name) (number_is (r.0.1)) (r.0.4);
      answers = r.1;
      front = begun.0;
      within = behind _ _ _ _ begun.1 r.3;
      holds = λ i sync. ahead_of _ _ _ _ begun.1 (r.4 i sync);
      closes = λ c. same_rest _ _ _ _ begun.1 (r.6 c);
      is = r.7 ∙ ap (λ (commands : List Command). kept (fold no_store commands)) begun.1;
    }
  where
    number_is : {n m : ℕ} → Number n ≡ Number m → m ≡ n
    number_is e = cc

pub founds : (name : Bytes) (options : List Bytes) (id : ℕ) (chapter : Chapter) (next : Store) → Served no_store (ahead (keyspace name options, Number id) chapter) next → Founds name id chapter next
founds name options id chapter next s = founds_of name id chapter next (subst (Raw name id (steps_of chapter) (IsClosed chapter) next) (no_name name) (raw name options id chapter next s))
