-- A session goes on: calls are run, and the core opens again.
use Rattle.std.proofs.Common.{◌≡◌, ℕ, ◌+◌, ◌≤◌, Bool, true, false, IsTrue, List, [], ◌∷◌, ◌++◌, Option, sym, ap, ◌∙◌, append_assoc, subst, length, length-append, Result, Ok, Err, arith}
use Rattle.std.specs.Prelude.{IfErr, OnOk}
use Rattle.std.specs.Io.KnownBytes.{Appends}
use Rattle.std.proofs.KnownBytes.{Appends-kept, Appends-nil, Appends-trans, Keeps-refl}
use Rattle.std.proofs.lemmas.List.Concat.{flat_map-append}
use Rattle.fjall_journal.specs.declared.recovery_mode.RecoveryMode.{RecoveryMode}
use Rattle.fjall_calls.specs.CoreStanding.{OwesClosing, ClosesDisk, ClosesSafely}
use Rattle.fjall_lines.specs.declared.command.Command.{Command}
use Rattle.fjall_base.specs.Disk.{Meaning}
use Rattle.fjall_base.specs.declared.error.Error.{Error}
use Rattle.fjall_base.specs.declared.error.Error.TheVariants.{OutOfMemory}
use Rattle.fjall_calls.specs.Holding.{Held}
use Rattle.fjall_calls.specs.Transactions.{Kept, none_kept}
use Rattle.fjall_script.specs.Answers.{ok_line, text_of}
use Rattle.fjall_script.specs.Outputs.{AppendsFront, IsIo}
use Rattle.fjall_script.specs.Machine.{BeginsSession, IsClosed}
use Rattle.fjall_script.specs.Requests.{AreCalls, counts_of, is_stop, numbers_before, numbers_in}
use Rattle.fjall_script.specs.Sessions.{answers_to, AnsweredFront, EndsBy, failed, FrontFails, half_written, IsAtStop, no_room, NotRestarted, PrintsAll, PrintsUntil, Restarts, RunsFront, RunsLines, Session, begun, run, restarted, no_memory, not_restarted, not_closed, unwritten}
use Rattle.fjall_script.proofs.Counts.{counted, few, none_asked, stops_ask_none}

-- A session has come so far, all that it printed was written, and so many numbers were asked for. Its lines are few enough to
-- count.
pub record Prints (mode : RecoveryMode) (honest : Bool) (commands : List (Option Command)) (ran : Bool) (core : Held) (kept : Kept) (rest : List (Option Command)) (old new : Option (List ℕ)) (asked : ℕ) : Type 0 where
  pub printed : List (List ℕ)
  pub session : Session mode honest commands ran core kept printed rest
  pub appends : Appends old new (text_of printed)
  pub asked_is : asked + numbers_in rest ≡ numbers_in commands
  pub room : asked + length rest ≤ length commands

text_of-append : (a b : List (List ℕ)) → text_of (a ++ b) ≡ text_of a ++ text_of b
text_of-append a b = flat_map-append (λ (line : List ℕ). line ++ 10 ∷ []) a b

-- one more part was written
grown : (a b : List (List ℕ)) (start old new : Option (List ℕ)) → Appends start old (text_of a) → Appends old new (text_of b) → Appends start new (text_of (a ++ b))
grown a b start old new h g = subst (λ (t : List ℕ). Appends start new t) (sym (text_of-append a b)) (Appends-trans start old new (text_of a) (text_of b) h g)

-- or a beginning of it
half_grown : (a b : List (List ℕ)) (start old new : Option (List ℕ)) → Appends start old (text_of a) → AppendsFront old new (text_of b) → AppendsFront start new (text_of (a ++ b))
half_grown a b start old new h g =
    (text_of a ++ g.0, g.1, text_of-append a b ∙ ap (λ (t : List ℕ). text_of a ++ t) g.2 ∙ sym (append_assoc (text_of a) g.0 g.1), Appends-trans start old new (text_of a) g.0 h g.3)

-- how many numbers were asked for before these lines
before_is : (asked : ℕ) (commands rest : List (Option Command)) → asked + numbers_in rest ≡ numbers_in commands → numbers_before commands rest ≡ asked
before_is asked commands rest is = omega (arith, is)

pub prints_none : (mode : RecoveryMode) (honest : Bool) (commands : List (Option Command)) (core : Held) (kept : Kept) (out : Option (List ℕ)) → BeginsSession mode honest core → kept ≡ none_kept → Prints mode honest commands false core kept commands out out 0
prints_none mode honest commands core kept out h empty = record {
  printed = [];
  session = subst (λ (k : Kept). Session mode honest commands false core k [] commands) (sym empty) (begun core h);
  appends = Appends-nil out;
  asked_is = omega arith;
  room = omega arith;
}

-- the lines before the next stop were run
ran_on : (mode : RecoveryMode) (honest : Bool) (commands front rest : List (Option Command)) (core after : Held) (kept beside : Kept) (asked : ℕ) (printed more : List (List ℕ)) → Session mode honest commands false core kept printed front
    → asked + numbers_in front ≡ numbers_in commands → RunsLines honest asked front rest core kept after beside more → Session mode honest commands true after beside (printed ++ more) rest
ran_on mode honest commands front rest core after kept beside asked printed more s is r =
    let here : Session mode honest commands false core kept printed (r.lines ++ rest) = (let P : List (Option Command) → Type 0 = λ left. Session mode honest commands false core kept printed left in subst P r.split s) in
    let earlier : numbers_before commands (r.lines ++ rest) ≡ asked = ap (numbers_before commands) (sym r.split) ∙ before_is asked commands front is in
    let are : AreCalls (numbers_before commands (r.lines ++ rest)) r.lines r.made = subst (λ (n : ℕ). AreCalls n r.lines r.made) (sym earlier) r.asked in
    let same : answers_to (numbers_before commands (r.lines ++ rest)) r.lines (counts_of r.made) r.replies ≡ more = ap (λ (n : ℕ). answers_to n r.lines (counts_of r.made) r.replies) earlier ∙ sym r.printed_are in
    subst (λ (l : List (List ℕ)). Session mode honest commands true after beside (printed ++ l) rest) same (run core after kept beside printed r.lines rest r.made r.replies here r.calls_alone r.stop are r.runs)

pub prints_run : (mode : RecoveryMode) (honest : Bool) (commands front rest : List (Option Command)) (core after : Held) (kept beside : Kept) (start old new : Option (List ℕ)) (asked later : ℕ)
    → Prints mode honest commands false core kept front start old asked → RunsFront honest asked front rest core kept after beside old new later → Prints mode honest commands true after beside rest start new later
prints_run mode honest commands front rest core after kept beside start old new asked later p r = record {
  printed = p.printed ++ r.printed;
  session = ran_on mode honest commands front rest core after kept beside asked p.printed r.printed p.session p.asked_is r.ran;
  appends = grown p.printed r.printed start old new p.appends r.appends;
  asked_is = r.asked_is ∙ p.asked_is;
  room =
      let all : numbers_in front ≡ numbers_in r.ran.lines + numbers_in rest = ap numbers_in r.ran.split ∙ counted r.ran.lines rest in
      let long : length front ≡ length r.ran.lines + length rest = ap length r.ran.split ∙ length-append r.ran.lines rest in
      let small = few r.ran.lines in
      let is = r.asked_is in
      let fits = p.room in
      omega (arith, all, long, small, is, fits);
}

pub prints_stop : (mode : RecoveryMode) (honest : Bool) (commands : List (Option Command)) (stop : Option Command) (left rest : List (Option Command)) (core after : Held) (kept beside : Kept) (start old new : Option (List ℕ)) (asked : ℕ)
    → Prints mode honest commands true core kept left start old asked → left ≡ stop ∷ rest → numbers_in left ≡ numbers_in rest → Restarts mode honest stop core after → beside ≡ none_kept → Appends old new (text_of (ok_line ∷ []))
    → Prints mode honest commands false after beside rest start new asked
prints_stop mode honest commands stop left rest core after kept beside start old new asked p split none r empty t =
    let here : Session mode honest commands true core kept p.printed (stop ∷ rest) = (let P : List (Option Command) → Type 0 = λ l. Session mode honest commands true core kept p.printed l in subst P split p.session) in
    let is = p.asked_is in
    let long : length left ≡ length rest + 1 = ap length split ∙ omega arith in
    let fits = p.room in
    record {
      printed = p.printed ++ ok_line ∷ [];
      session = subst (λ (k : Kept). Session mode honest commands false after k (p.printed ++ ok_line ∷ []) rest) (sym empty) (restarted core after kept p.printed stop rest here r);
      appends = grown p.printed (ok_line ∷ []) start old new p.appends t;
      asked_is = omega (arith, is, none);
      room = omega (arith, long, fits);
    }

-- a refusal before anything more was written
ends_here : (mode : RecoveryMode) (honest : Bool) (commands rest : List (Option Command)) (ran : Bool) (core : Held) (kept : Kept) (error : Error) (printed : List (List ℕ)) (start new : Option (List ℕ)) → Session mode honest commands ran core kept printed rest
    → EndsBy mode honest core ran rest printed start new error → PrintsUntil mode honest commands error start new
ends_here mode honest commands rest ran core kept error printed start new s ends = record { ran = ran; core = core; kept = kept; printed = printed; rest = rest; session = s; ends = ends }

-- the list of calls failed, or its answers could not be written
pub until_front : (mode : RecoveryMode) (honest : Bool) (commands front : List (Option Command)) (core after : Held) (kept beside : Kept) (start old new : Option (List ℕ)) (asked : ℕ) (error : Error) → Prints mode honest commands false core kept front start old asked
    → FrontFails honest asked front core kept after beside old new error → PrintsUntil mode honest commands error start new
until_front mode honest commands front core after kept beside start old new asked _ p (no_room keeps) =
    ends_here mode honest commands front false core kept OutOfMemory p.printed start new p.session (failed OutOfMemory (no_memory false front) (Appends-kept start old new (text_of p.printed) p.appends keeps))
until_front mode honest commands front core after kept beside start old new asked _ p (half_written error rest printed io r half) =
    ends_here mode honest commands rest true after beside error (p.printed ++ printed) start new (ran_on mode honest commands front rest core after kept beside asked p.printed printed p.session p.asked_is r)
    (unwritten error io (half_grown p.printed printed start old new p.appends half))

-- the opening of a crash or a reopening was refused
pub until_stop : (mode : RecoveryMode) (honest : Bool) (commands : List (Option Command)) (stop : Option Command) (left rest : List (Option Command)) (core : Held) (kept : Kept) (error : Error) (start new : Option (List ℕ)) (asked : ℕ)
    → Prints mode honest commands true core kept left start new asked → left ≡ stop ∷ rest → is_stop stop ≡ true → NotRestarted mode honest stop core error → PrintsUntil mode honest commands error start new
until_stop mode honest commands stop left rest core kept error start new asked p split stops h =
    let here : Session mode honest commands true core kept p.printed (stop ∷ rest) = (let P : List (Option Command) → Type 0 = λ l. Session mode honest commands true core kept p.printed l in subst P split p.session) in
    ends_here mode honest commands (stop ∷ rest) true core kept error p.printed start new here (failed error (not_restarted stop rest error stops h) p.appends)

-- that it was done could not be written
pub until_ok : (mode : RecoveryMode) (honest : Bool) (commands : List (Option Command)) (stop : Option Command) (left rest : List (Option Command)) (core after : Held) (kept : Kept) (error : Error) (start old new : Option (List ℕ)) (asked : ℕ)
    → Prints mode honest commands true core kept left start old asked → left ≡ stop ∷ rest → Restarts mode honest stop core after → IsIo error → AppendsFront old new (text_of (ok_line ∷ [])) → PrintsUntil mode honest commands error start new
until_ok mode honest commands stop left rest core after kept error start old new asked p split r io half =
    let here : Session mode honest commands true core kept p.printed (stop ∷ rest) = (let P : List (Option Command) → Type 0 = λ l. Session mode honest commands true core kept p.printed l in subst P split p.session) in
    ends_here mode honest commands rest false after none_kept error (p.printed ++ ok_line ∷ []) start new (restarted core after kept p.printed stop rest here r) (unwritten error io (half_grown p.printed (ok_line ∷ []) start old new p.appends half))

-- a crash or a reopening comes next
pub at_stop : (left rest : List (Option Command)) (stop : Option Command) → IsAtStop left → left ≡ stop ∷ rest → is_stop stop ≡ true
at_stop left rest stop h split = rw split at h

-- which asks for no number
pub none_at_stop : (left rest : List (Option Command)) (stop : Option Command) → IsAtStop left → left ≡ stop ∷ rest → numbers_in left ≡ numbers_in rest
none_at_stop left rest stop h split = ap numbers_in split ∙ none_asked stop rest (stops_ask_none stop (at_stop left rest stop h split))

-- the closing was refused
pub until_closing : (mode : RecoveryMode) (honest : Bool) (commands rest : List (Option Command)) (core : Held) (kept : Kept) (start new : Option (List ℕ)) (asked : ℕ) (r : Result Unit Error) (disk : Meaning)
    → Prints mode honest commands true core kept rest start new asked → length rest ≡ 0
    → OwesClosing core r disk → (IsTrue honest → ClosesDisk core r disk) → (IsTrue honest → ClosesSafely core r disk)
    → IfErr r (λ error. PrintsUntil mode honest commands error start new)
until_closing mode honest commands rest core kept start new asked (Ok done) disk p none owes took safe = tt
until_closing mode honest commands [] core kept start new asked (Err error) disk p none owes took safe =
    ends_here mode honest commands [] true core kept error p.printed start new p.session (failed error (not_closed error disk (record { owes = owes; took = took; safe = safe })) p.appends)
until_closing mode honest commands (found ∷ rest) core kept start new asked (Err error) disk p none owes took safe = absurd (omega arith)

-- nothing is left
pub prints_to_end : (mode : RecoveryMode) (honest : Bool) (commands rest : List (Option Command)) (core : Held) (kept : Kept) (start new : Option (List ℕ)) (asked : ℕ) (r : Result Unit Error) → Prints mode honest commands true core kept rest start new asked → length rest ≡ 0
    → OnOk r (IsClosed honest core) → OnOk r (PrintsAll mode honest commands start new)
prints_to_end mode honest commands [] core kept start new asked (Ok x) p none closed = record { core = core; kept = kept; printed = p.printed; session = p.session; closed = closed; appends = p.appends }
prints_to_end mode honest commands (found ∷ rest) core kept start new asked (Ok x) p none closed = absurd (omega arith)
prints_to_end mode honest commands rest core kept start new asked (Err e) p none closed = tt

-- what a closing leaves, where it was not refused
pub closed : (honest : Bool) (core : Held) (r : Result Unit Error) (disk : Meaning) → OwesClosing core r disk → (IsTrue honest → ClosesDisk core r disk) → (IsTrue honest → ClosesSafely core r disk) → OnOk r (IsClosed honest core)
closed honest core (Ok done) disk owes took safe = record { disk = disk; closes = record { owes = owes; took = took; safe = safe } }
closed honest core (Err error) disk owes took safe = tt

-- ---- the calls before a stop

-- memory ran out
pub front_refused : (honest : Bool) (earlier : ℕ) (commands : List (Option Command)) (core after : Held) (kept beside : Kept) (out : Option (List ℕ)) (error : Error) → error ≡ OutOfMemory → FrontFails honest earlier commands core kept after beside out out error
front_refused honest earlier commands core after kept beside out error none = subst (FrontFails honest earlier commands core kept after beside out out) (sym none) (no_room (Keeps-refl out))

pub front_half : (honest : Bool) (earlier : ℕ) (commands rest : List (Option Command)) (core after : Held) (kept beside : Kept) (text bytes : List ℕ) (asked : ℕ) (old new : Option (List ℕ)) (error : Error) → AnsweredFront honest earlier commands rest core kept after beside text asked
    → bytes ≡ text → AppendsFront old new bytes → IsIo error → FrontFails honest earlier commands core kept after beside old new error
front_half honest earlier commands rest core after kept beside text bytes asked old new error a same half io =
    half_written error rest a.printed io a.ran (subst (λ (t : List ℕ). AppendsFront old new t) (same ∙ a.text_is) half)
