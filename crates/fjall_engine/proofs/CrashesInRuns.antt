-- How runs of commands go on over a disk that may crash.
use Rattle.std.proofs.Common.{◌≡◌, ℕ, zero, suc, List, [], ◌∷◌, ◌++◌, refl, sym, ◌∙◌, ap, subst, append_assoc}
use Rattle.std.proofs.lemmas.List.{append-nil}
use Rattle.fjall_base.specs.Store.{Store, Command, fold, kept}
use Rattle.fjall_base.specs.Disk.{Image, IsImage, Meaning, Took, LeavesOnly, state_in, after}
use Rattle.fjall_base.specs.Disk as disk
use Rattle.fjall_base.proofs.Moments.{after-append, started, runs_on, weaken}
use Rattle.fjall_files.specs.Tidy.{IsTidy, StaysTidy}
use Rattle.fjall_files.proofs.Tidying.{stays_both, stays_start, tidy_on}
use Rattle.fjall_machine.specs.declared.call.Call.{Call}
use Rattle.fjall_machine.specs.Shapes.{shape_of}
use Rattle.fjall_history.specs.declared.reply.Reply.{Reply}
use Rattle.fjall_machine.specs.Machine.{State, Step}
use Rattle.fjall_recovery.specs.Folders.{ImageStandsFor}
use Rattle.fjall_engine.specs.Durables.{Durable, IsBeginning, StandsAmid, CrashLeavesPending, Passes}
use Rattle.fjall_engine.specs.Crashes.{attempt, BlamesEach, CallPasses, RunOn, IsSyncAt, SafeSince, SafeAt, Settled}
use Rattle.fjall_meta.proofs.Kept.{kept_along}
use Rattle.fjall_meta.proofs.Slots.{fold-append}

pub none_first : (commands : List Command) → IsBeginning [] commands
none_first commands = (commands, refl)

-- more may come behind
pub amid_more : (base : Store) (least all more : List Command) (image : Image) → StandsAmid base least all image → StandsAmid base least (all ++ more) image
amid_more base least all more image s = record {
  front = s.front;
  holds = s.holds;
  within = (s.within.0 ++ more, sym (append_assoc s.front s.within.0 more) ∙ ap (λ (l : List Command). l ++ more) s.within.1);
  stands = s.stands;
}

-- a base that has some of the commands already
pub amid_shift : (base later : Store) (safe least all : List Command) (image : Image) → kept later ≡ kept (fold base safe) → StandsAmid later least all image → StandsAmid base (safe ++ least) (safe ++ all) image
amid_shift base later safe least all image same s = record {
  front = safe ++ s.front;
  holds = (s.holds.0, append_assoc safe least s.holds.0 ∙ ap (λ (l : List Command). safe ++ l) s.holds.1);
  within = (s.within.0, append_assoc safe s.front s.within.0 ∙ ap (λ (l : List Command). safe ++ l) s.within.1);
  stands = subst (λ t. ImageStandsFor image t) (kept_along later (fold base safe) s.front same ∙ ap kept (sym (fold-append base safe s.front))) s.stands;
}

pub amid_least : (base : Store) (least all : List Command) (image : Image) → StandsAmid base least all image → StandsAmid base [] all image
amid_least base least all image s = record { front = s.front; holds = none_first s.front; within = s.within; stands = s.stands }

-- the images after a run that passed to there, as the images of the run
pub amid_passed : (d e : Durable) (tried more : List Command) (image : Image) → Passes d tried e → StandsAmid e.base [] (e.pending ++ more) image → StandsAmid d.base [] (d.pending ++ (tried ++ more)) image
amid_passed d e tried more image p s =
    let all : p.safe ++ (e.pending ++ more) ≡ d.pending ++ (tried ++ more) =
    sym (append_assoc p.safe e.pending more) ∙ ap (λ (l : List Command). l ++ more) p.rest ∙ append_assoc d.pending tried more in
    subst (λ l. StandsAmid d.base [] l image) all (amid_least d.base _ _ image (amid_shift d.base e.base p.safe [] (e.pending ++ more) image p.base s))

-- one run of commands, and another behind it
pub passes_on : (d m e : Durable) (a b : List Command) → Passes d a m → Passes m b e → Passes d (a ++ b) e
passes_on d m e a b first second = record {
  leaves = runs_on d.meaning m.meaning e.meaning (StandsAmid d.base [] (d.pending ++ (a ++ b)))
      (weaken d.meaning m.meaning _ _ first.leaves (λ image s. subst (λ l. StandsAmid d.base [] l image) (append_assoc d.pending a b) (amid_more d.base [] (d.pending ++ a) b image s)))
      (weaken m.meaning e.meaning _ _ second.leaves (λ image s. amid_passed d m a b image first s));
  safe = first.safe ++ second.safe;
  base = second.base ∙ kept_along m.base (fold d.base first.safe) second.safe first.base ∙ ap kept (sym (fold-append d.base first.safe second.safe));
  rest = append_assoc first.safe second.safe e.pending ∙ ap (λ (l : List Command). first.safe ++ l) second.rest
      ∙ sym (append_assoc first.safe m.pending b) ∙ ap (λ (l : List Command). l ++ b) first.rest ∙ append_assoc d.pending a b;
  rests = second.rests;
}

-- nothing was done, and nothing was tried
pub passes_still : (d : Durable) → CrashLeavesPending d → Passes d [] d
passes_still d here = record {
  leaves = started d.meaning (StandsAmid d.base [] (d.pending ++ [])) (λ image is. amid_more d.base [] d.pending [] image (here image is));
  safe = [];
  base = refl;
  rest = sym (append-nil d.pending);
  rests = here;
}

-- a run of calls passes
pub run_passes : (s t : State) (d e : Durable) (calls : List Call) (replies : List Reply) (tried : List Command) → CrashLeavesPending d → RunOn s d calls replies tried t e → Passes d tried e
run_passes s t d e [] [] tried here run = subst (λ l. Passes d l e) (sym run.0) (subst (λ x. Passes d [] x) (sym run.2) (passes_still d here))
run_passes s t d e (c ∷ calls) (r ∷ replies) tried here (mid, on, rest, step, call, is, run) =
    subst (λ l. Passes d l e) (sym is) (passes_on d on e (attempt s (shape_of c) r) rest call.0 (run_passes mid t on e calls replies rest call.0.rests run))
run_passes s t d e [] (r ∷ replies) tried here run = absurd run
run_passes s t d e (c ∷ calls) [] tried here run = absurd run

-- and puts at each name only what may stand there
pub run_kinds : (s t : State) (d e : Durable) (calls : List Call) (replies : List Reply) (tried : List Command) → RunOn s d calls replies tried t e → StaysTidy d.meaning e.meaning
run_kinds s t d e [] [] tried run = subst (λ (x : Durable). StaysTidy d.meaning x.meaning) (sym run.2) (stays_start d.meaning)
run_kinds s t d e (c ∷ calls) (r ∷ replies) tried (mid, on, rest, step, call, is, run) = stays_both d.meaning on.meaning e.meaning call.3 (run_kinds mid t on e calls replies rest run)
run_kinds s t d e [] (r ∷ replies) tried run = absurd run
run_kinds s t d e (c ∷ calls) [] tried run = absurd run

-- where nothing stands in the way, each of its faults was the device's
pub run_blames : (s t : State) (d e : Durable) (calls : List Call) (replies : List Reply) (tried : List Command) → IsTidy (state_in d.meaning) → (run : RunOn s d calls replies tried t e) → BlamesEach s d calls replies tried t e run
run_blames s t d e [] [] tried tidy run = tt
run_blames s t d e (c ∷ calls) (r ∷ replies) tried tidy (mid, on, rest, step, call, is, run) = (call.2 tidy, run_blames mid t on e calls replies rest (tidy_on d.meaning on.meaning call.3 tidy) run)
run_blames s t d e [] (r ∷ replies) tried tidy run = absurd run
run_blames s t d e (c ∷ calls) [] tried tidy run = absurd run

-- one call more
pub run-push : (s m t : State) (d n e : Durable) (calls : List Call) (replies : List Reply) (tried : List Command) (c : Call) (r : Reply) → RunOn s d calls replies tried m n → Step m c r t → CallPasses m n (shape_of c) r e
    → RunOn s d (calls ++ c ∷ []) (replies ++ r ∷ []) (tried ++ attempt m (shape_of c) r) t e
run-push s m t d n e [] [] tried c r run step call = (
  t,
  e,
  [],
  subst (λ x. Step x c r t) run.1 step,
  subst (λ x. CallPasses x d (shape_of c) r e) run.1 (subst (λ x. CallPasses m x (shape_of c) r e) run.2 call),
  ap (λ (l : List Command). l ++ attempt m (shape_of c) r) run.0 ∙ ap (λ x. attempt x (shape_of c) r) run.1 ∙ sym (append-nil (attempt s (shape_of c) r)),
  (refl, refl, refl),
)
run-push s m t d n e (c' ∷ calls) (r' ∷ replies) tried c r (mid, on, rest, first, passes, is, run) step call = (
  mid,
  on,
  rest ++ attempt m (shape_of c) r,
  first,
  passes,
  ap (λ (l : List Command). l ++ attempt m (shape_of c) r) is ∙ append_assoc (attempt s (shape_of c') r') rest (attempt m (shape_of c) r),
  run-push mid m t on n e calls replies rest c r run step call,
)
run-push s m t d n e [] (r' ∷ replies) tried c r run step call = absurd run
run-push s m t d n e (c' ∷ calls) [] tried c r run step call = absurd run

pub no_more : (front rest : List Command) → front ++ rest ≡ [] → front ≡ []
no_more [] rest e = refl
no_more (c ∷ front) rest e = cc

-- where nothing is pending, each crash from now on leaves all that was tried so far
pub safe_now : (d m : Durable) (new : Meaning) (tried more : List Command) → Passes d tried m → m.pending ≡ [] → LeavesOnly m.meaning new (StandsAmid m.base [] (m.pending ++ more)) → SafeSince d tried (tried ++ more) new
safe_now d m new tried more p none later =
    let all : p.safe ≡ d.pending ++ tried = sym (append-nil p.safe) ∙ ap (λ (l : List Command). p.safe ++ l) (sym none) ∙ p.rest in
    record {
      moment = m.meaning;
      added = p.leaves.added;
      passed = p.leaves.took;
      exactly = λ image is. settled image all (subst (λ l. StandsAmid m.base [] l image) none (p.rests image is));
      since = weaken m.meaning new _ _ later (λ image s. behind image all (subst (λ l. StandsAmid m.base [] (l ++ more) image) none s));
    }
  where
    settled : (image : Image) → p.safe ≡ d.pending ++ tried → StandsAmid m.base [] [] image → ImageStandsFor image (kept (fold d.base (d.pending ++ tried)))
    settled image all s =
        subst (λ t. ImageStandsFor image t) (ap (λ l. kept (fold m.base l)) (no_more s.front s.within.0 s.within.1) ∙ p.base ∙ ap (λ l. kept (fold d.base l)) all) s.stands

    behind : (image : Image) → p.safe ≡ d.pending ++ tried → StandsAmid m.base [] more image → StandsAmid d.base (d.pending ++ tried) (d.pending ++ (tried ++ more)) image
    behind image all s =
        let shifted = amid_shift d.base m.base p.safe [] more image p.base s in
        let least : p.safe ++ [] ≡ d.pending ++ tried = append-nil p.safe ∙ all in
        let most : p.safe ++ more ≡ d.pending ++ (tried ++ more) = ap (λ (l : List Command). l ++ more) all ∙ append_assoc d.pending tried more in
        subst (λ l. StandsAmid d.base l (d.pending ++ (tried ++ more)) image) least (subst (λ l. StandsAmid d.base (p.safe ++ []) l image) most shifted)

joined : (d m : Durable) (tried more : List Command) (p : Passes d tried m) → p.safe ++ (m.pending ++ more) ≡ d.pending ++ (tried ++ more)
joined d m tried more p = sym (append_assoc p.safe m.pending more) ∙ ap (λ (l : List Command). l ++ more) p.rest ∙ append_assoc d.pending tried more

took_on : (a b c : Meaning) (first then : List disk.DiskStep) → Took a b first → Took b c then → Took a c (first ++ then)
took_on a b c first then p q = record {
  state = q.state ∙ ap (λ (s : disk.DiskState). after s then) p.state ∙ sym (after-append (state_in a) first then);
  steps = q.steps ∙ ap (λ (l : List disk.DiskStep). l ++ then) p.steps ∙ append_assoc a.steps first then;
}

-- a moment within a later part is one of the whole
safe_later : (d m : Durable) (new : Meaning) (tried before all : List Command) → Passes d tried m → SafeSince m before all new → SafeSince d (tried ++ before) (tried ++ all) new
safe_later d m new tried before all p safe = record {
  moment = safe.moment;
  added = p.leaves.added ++ safe.added;
  passed = took_on d.meaning m.meaning safe.moment p.leaves.added safe.added p.leaves.took safe.passed;
  exactly = λ image is.
      subst (λ t. ImageStandsFor image t) (kept_along m.base (fold d.base p.safe) (m.pending ++ before) p.base ∙ ap kept (sym (fold-append d.base p.safe (m.pending ++ before))) ∙ ap (λ l. kept (fold d.base l)) (joined d m tried before p)) (safe.exactly image is);
  since = weaken safe.moment new _ _ safe.since (λ image s.
      subst (λ l. StandsAmid d.base l (d.pending ++ (tried ++ all)) image) (joined d m tried before p)
      (subst (λ l. StandsAmid d.base (p.safe ++ (m.pending ++ before)) l image) (joined d m tried all p) (amid_shift d.base m.base p.safe (m.pending ++ before) (m.pending ++ all) image p.base s)));
}

-- where nothing was pending, all of this is in the base later
settled_now : (d m e : Durable) (tried more : List Command) → Passes d tried m → m.pending ≡ [] → Passes m more e → Settled d tried (tried ++ more) e
settled_now d m e tried more p none later =
    let all : p.safe ≡ d.pending ++ tried = sym (append-nil p.safe) ∙ ap (λ (l : List Command). p.safe ++ l) (sym none) ∙ p.rest in
    record {
      safe = (d.pending ++ tried) ++ later.safe;
      has = (later.safe, refl);
      base = later.base ∙ kept_along m.base (fold d.base (d.pending ++ tried)) later.safe (p.base ∙ ap (λ (l : List Command). kept (fold d.base l)) all) ∙ ap kept (sym (fold-append d.base (d.pending ++ tried) later.safe));
      rest = append_assoc (d.pending ++ tried) later.safe e.pending
          ∙ ap (λ (l : List Command). (d.pending ++ tried) ++ l) (later.rest ∙ ap (λ (l : List Command). l ++ more) none) ∙ append_assoc d.pending tried more;
    }

-- and in a longer run
settled_later : (d m e : Durable) (tried before all : List Command) → Passes d tried m → Settled m before all e → Settled d (tried ++ before) (tried ++ all) e
settled_later d m e tried before all p s = record {
  safe = p.safe ++ s.safe;
  has = (
    s.has.0,
    ap (λ (l : List Command). l ++ s.has.0) (sym (joined d m tried before p)) ∙ append_assoc p.safe (m.pending ++ before) s.has.0 ∙ ap (λ (l : List Command). p.safe ++ l) s.has.1,
  );
  base = s.base ∙ kept_along m.base (fold d.base p.safe) s.safe p.base ∙ ap kept (sym (fold-append d.base p.safe s.safe));
  rest = append_assoc p.safe s.safe e.pending ∙ ap (λ (l : List Command). p.safe ++ l) s.rest ∙ joined d m tried all p;
}

-- each sync of a run that succeeded is such a moment
pub run_safe : (s t : State) (d e : Durable) (calls : List Call) (replies : List Reply) (tried : List Command) (i : ℕ) (run : RunOn s d calls replies tried t e) → IsSyncAt s d calls replies tried t e run i → SafeAt s d calls replies i tried e e.meaning
run_safe s t d e (c ∷ calls) (r ∷ replies) tried zero (mid, on, rest, step, call, is, run) sync = record {
  before = attempt s (shape_of c) r;
  mid = mid;
  on = on;
  so_far = (mid, on, [], step, call, sym (append-nil (attempt s (shape_of c) r)), (refl, refl, refl));
  safe = subst (λ l. SafeSince d (attempt s (shape_of c) r) l e.meaning) (sym is)
      (safe_now d on e.meaning (attempt s (shape_of c) r) rest call.0 (call.1 sync) (run_passes mid t on e calls replies rest call.0.rests run).leaves);
  settled = subst (λ l. Settled d (attempt s (shape_of c) r) l e) (sym is) (settled_now d on e (attempt s (shape_of c) r) rest call.0 (call.1 sync) (run_passes mid t on e calls replies rest call.0.rests run));
}
run_safe s t d e (c ∷ calls) (r ∷ replies) tried (suc i) (mid, on, rest, step, call, is, run) sync =
    let later = run_safe mid t on e calls replies rest i run sync in
    record {
      before = attempt s (shape_of c) r ++ later.before;
      mid = later.mid;
      on = later.on;
      so_far = (mid, on, later.before, step, call, refl, later.so_far);
      safe = subst (λ l. SafeSince d (attempt s (shape_of c) r ++ later.before) l e.meaning) (sym is) (safe_later d on e.meaning (attempt s (shape_of c) r) later.before rest call.0 later.safe);
      settled = subst (λ l. Settled d (attempt s (shape_of c) r ++ later.before) l e) (sym is) (settled_later d on e (attempt s (shape_of c) r) later.before rest call.0 later.settled);
    }
run_safe s t d e [] replies tried i run sync = absurd sync
run_safe s t d e (c ∷ calls) [] tried i run sync = absurd sync
