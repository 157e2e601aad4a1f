-- A session over a disk that returns what it holds comes to lives of engines one after another.
use Rattle.std.proofs.Common.{◌≡◌, ℕ, zero, suc, ◌+◌, ◌-◌, Bool, true, false, IsTrue, List, [], ◌∷◌, ◌++◌, length, length-append, take, drop, ◌≤◌, Option, Some, None, Result, Ok, Err, refl, sym, ◌∙◌, ap, subst, append_assoc, arith, map}
use Rattle.std.proofs.lemmas.Bool.{true≢false}
use Rattle.std.proofs.lemmas.List.{append-nil, length-drop, map-append}
use Rattle.std.proofs.lemmas.List.Elements.{All-nil, filter_map-append}
use Rattle.std.proofs.lemmas.List.Splits.{slice_split_at, slice_split_none}
use Rattle.std.proofs.lemmas.Grind.{flat_map-append}
use Rattle.std.specs.List.{slice_split}
use Rattle.std.specs.Prelude.{All}
use Rattle.fjall_journal.specs.declared.recovery_mode.RecoveryMode.{RecoveryMode}
use Rattle.fjall_base.specs.Store.{Store, fold, kept}
use Rattle.fjall_base.specs.Store as store
use Rattle.fjall_base.specs.Crash.{crashed}
use Rattle.fjall_base.specs.Disk.{DiskState, Image, IsImage, IsImageBy, Meaning, Survives, disk_of, standing, state_in}
use Rattle.fjall_base.specs.declared.error.Error.{Error}
use Rattle.fjall_meta.specs.Keyspaces.{no_keyspaces}
use Rattle.fjall_meta.specs.Replays.{bare}
use Rattle.fjall_disk_memory.specs.Wild.{Fills, filled}
use Rattle.fjall_recovery.specs.Amid.{HoldsAmid, StandsAmid}
use Rattle.fjall_recovery.specs.Held.{IsOpenFolder}
use Rattle.fjall_recovery.specs.Wild.{IsUnforged, SurvivesUnforged}
use Rattle.fjall_recovery.proofs.Covering.{held_alone, held_more, leaves_wider, usual_where}
use Rattle.fjall_recovery.proofs.Folders.{wild_amid}
use Rattle.fjall_history.specs.declared.reply.Reply.{Reply}
use Rattle.fjall_machine.specs.declared.call.Call.{Call}
use Rattle.fjall_machine.specs.Machine.{present}
use Rattle.fjall_history.proofs.Moving.{sound_opening}
use Rattle.fjall_calls.specs.Durables.{CrashLeavesPending, Durable}
use Rattle.fjall_calls.specs.Holding.{Held}
use Rattle.fjall_consistency.specs.Lives.{Closed, CutBehind, Ended, PastLife, Lives, NoLife, OneMore, Opened, Served, Unclosed, life_begun, start_of}
use Rattle.fjall_calls.specs.Openings.{OpensAfterCrash, OpensAs}
use Rattle.fjall_consistency.proofs.LastSyncs.{a_last_sync}
use Rattle.fjall_consistency.proofs.LivedDisks.{new_disk_tidy}
use Rattle.fjall_consistency.proofs.Lives.{lives_blame, lives_hold, lives_open}
use Rattle.fjall_calls.proofs.Reopening.{holds_store_amid}
use Rattle.fjall_calls.proofs.RunsOverCrashes.{no_run}
use Rattle.fjall_calls.specs.Standing.{StandFor}
use Rattle.fjall_calls.specs.Transactions.{Kept, none_kept}
use Rattle.fjall_calls.proofs.CoreStanding.{opening_stands}
use Rattle.fjall_calls.specs.declared.call.TxCall.{TxCall}
use Rattle.fjall_calls.specs.Steps.{NoCall}
use Rattle.fjall_calls.specs.Worlds.{begins}
use Rattle.fjall_calls.specs.Serving.{AllCome, NoneComes, OneComes, RunsTx}
use Rattle.fjall_lines.specs.declared.command.Command.{Command}
use Rattle.fjall_lines.specs.declared.command.Command.TheVariants.{Ask, Crash, CrashWild, Reopen}
use Rattle.fjall_lines.specs.declared.command.Request.{Request}
use Rattle.fjall_script.specs.Answers.{bad_line, ok_line, reply_text, reply_to}
use Rattle.fjall_script.specs.Lived.{AreServed, Asked, GoesThrough, HasLived, IsServed, made_of, replies_of, served_in, told_as, unasked}
use Rattle.fjall_script.specs.Machine.{BeginsSession, ClosesCore, Crashes, CrashesWild, OpenedOn, new_disk}
use Rattle.fjall_script.specs.Requests.{AreCalls, AreCallsBehind, SoFar, all_calls, asked_with, asks_number, behind, counts_of, is_stop, none_so_far, request_of, requests_of, numbers_before, numbers_in}
use Rattle.fjall_script.specs.Sessions as sessions
use Rattle.fjall_script.specs.Sessions.{ForgesNothing, IsUnforgedStop, Restarts, Session, answers_to}
use Rattle.fjall_script.proofs.Counts.{asked_before, counted, none_asked, one_asked, stops_ask_none}
use Rattle.fjall_script.specs.Told.{IsToldSo}
use Rattle.fjall_script.proofs.Restarting.{bare_holds}
use Rattle.fjall_script.proofs.Telling.{HaveLed, LeadsBehind, LeadsToEach, all_lead, have_led_on, leads_alone, leads_unclosed, none_led, run_leads, served_calls}

abbrev IsCall : Option Command → Type 0
IsCall found = is_stop found ≡ false

-- ---- what is printed

-- how many these are together
abbrev whole : List ℕ → ℕ
whole [] = 0
whole (count ∷ counts) = count + whole counts

whole-append : (a b : List ℕ) → whole (a ++ b) ≡ whole a + whole b
whole-append [] b = omega arith
whole-append (count ∷ a) b = let more = whole-append a b in omega (arith, more)

-- the first of some replies stay as they are with others behind them
take_front : (count : ℕ) (replies others : List Reply) → count ≤ length replies → take count (replies ++ others) ≡ take count replies
take_front zero replies others few = refl
take_front (suc count) [] others few = absurd (omega (arith, few))
take_front (suc count) (reply ∷ replies) others few = ap (λ (l : List Reply). reply ∷ l) (take_front count replies others (omega (arith, few)))

drop_front : (count : ℕ) (replies others : List Reply) → count ≤ length replies → drop count (replies ++ others) ≡ drop count replies ++ others
drop_front zero replies others few = refl
drop_front (suc count) [] others few = absurd (omega (arith, few))
drop_front (suc count) (reply ∷ replies) others few = drop_front count replies others (omega (arith, few))

through-append : (earlier : ℕ) (front more : List (Option Command)) (counts later : List ℕ) (replies others : List Reply) → length counts ≡ length (requests_of front) → whole counts ≡ length replies
    → answers_to earlier (front ++ more) (counts ++ later) (replies ++ others) ≡ answers_to earlier front counts replies ++ answers_to (earlier + numbers_in front) more later others
through-append k [] more [] later [] others each all = ap (λ (n : ℕ). answers_to n more later others) (omega arith)
through-append k [] more [] later (reply ∷ replies) others each all = absurd (omega (arith, all))
through-append k [] more (count ∷ counts) later replies others each all = absurd (omega (arith, each))
through-append k (None ∷ front) more counts later replies others each all =
    ap (λ (l : List (List ℕ)). bad_line ∷ l)
    (through-append k front more counts later replies others each all ∙ ap (λ (n : ℕ). answers_to k front counts replies ++ answers_to (k + n) more later others) (sym (none_asked None front refl)))
through-append k (Some (Crash keep) ∷ front) more counts later replies others each all =
    ap (λ (l : List (List ℕ)). ok_line ∷ l)
    (through-append k front more counts later replies others each all ∙ ap (λ (n : ℕ). answers_to k front counts replies ++ answers_to (k + n) more later others) (sym (none_asked (Some (Crash keep)) front refl)))
through-append k (Some (CrashWild fills) ∷ front) more counts later replies others each all =
    ap (λ (l : List (List ℕ)). ok_line ∷ l)
    (through-append k front more counts later replies others each all ∙ ap (λ (n : ℕ). answers_to k front counts replies ++ answers_to (k + n) more later others) (sym (none_asked (Some (CrashWild fills)) front refl)))
through-append k (Some Reopen ∷ front) more counts later replies others each all =
    ap (λ (l : List (List ℕ)). ok_line ∷ l)
    (through-append k front more counts later replies others each all ∙ ap (λ (n : ℕ). answers_to k front counts replies ++ answers_to (k + n) more later others) (sym (none_asked (Some Reopen) front refl)))
through-append k (Some (Ask request) ∷ front) more [] later replies others each all = absurd (omega (arith, each))
through-append k (Some (Ask request) ∷ front) more (count ∷ counts) later replies others each all =
    let enough : count ≤ length replies = omega (arith, all) in
    let long : length (drop count replies) ≡ length replies - count = length-drop count replies in
    let text = λ (l : List Reply). reply_text (k + 1) request (reply_to l) in
    ap (λ (l : List Reply). text l ∷ answers_to (asked_with k request) (front ++ more) (counts ++ later) (drop count (replies ++ others))) (take_front count replies others enough)
    ∙ ap (λ (l : List Reply). text (take count replies) ∷ answers_to (asked_with k request) (front ++ more) (counts ++ later) l) (drop_front count replies others enough)
    ∙ ap (λ (l : List (List ℕ)). text (take count replies) ∷ l)
    (through-append (asked_with k request) front more counts later (drop count replies) others (omega (arith, each)) (omega (arith, all, long))
    ∙ ap (λ (n : ℕ). answers_to (asked_with k request) front counts (drop count replies) ++ answers_to n more later others) (one_asked k request front))

-- each call has a reply
replied : (before : List Reply) (calls : List TxCall) (replies : List Reply) (made : List Call) (told : List Reply) → AllCome before calls replies made told → length calls ≡ length replies
replied before _ _ _ _ (NoneComes _) = refl
replied before _ _ _ _ (OneComes _ call reply made told calls replies later heard first rest) = ap suc (replied (before ++ reply ∷ []) calls replies later heard rest)

-- and each request its calls
as_many : (earlier : ℕ) (so_far : SoFar) (requests : List Request) (made : List (List TxCall)) → AreCallsBehind earlier so_far requests made → length (counts_of made) ≡ length requests
as_many earlier so_far [] [] are = refl
as_many earlier so_far [] (mine ∷ made) are = absurd are
as_many earlier so_far (request ∷ rest) [] are = absurd are
as_many earlier so_far (request ∷ rest) (mine ∷ made) are = ap suc (as_many earlier (behind so_far request mine) rest made are.1)

-- together they are all
all_counted : (made : List (List TxCall)) → whole (counts_of made) ≡ length (all_calls made)
all_counted [] = refl
all_counted (mine ∷ made) = ap (λ n. length mine + n) (all_counted made) ∙ sym (length-append mine (all_calls made))

-- ---- an opening

-- the core stands for what it opened as, without transactions
stands_as : (core : Held) (store : Store) (opens : OpensAs core store) → StandFor core none_kept (told_as core store opens)
stands_as core store opens = let state = start_of core store opens in opening_stands core state opens.state (sound_opening state.history) refl

-- no call was made
goes_nowhere : (core : Held) (store : Store) (opens : OpensAs core store) → GoesThrough core store opens unasked [] [] core none_kept
goes_nowhere core store opens = record {
  world = begins (told_as core store opens) None;
  steps = NoCall (begins (told_as core store opens) None) [];
  stands = stands_as core store opens;
  reads = opens.reads;
}

-- the calls of a list
goes_on : (core : Held) (store : Store) (opens : OpensAs core store) (new : Held) (beside : Kept) (asked : Asked) (run : RunsTx true core none_kept (all_calls asked.made) asked.replies new beside)
    → GoesThrough core store opens asked run.made run.told new beside
goes_on core store opens new beside asked run =
    let there = run.runs refl (told_as core store opens) (stands_as core store opens) opens.reads in
    record {
      world = there.0;
      steps = there.3;
      stands = there.1;
      reads = there.2;
    }

-- ---- lives so far

-- how many numbers lists of lines ask for
abbrev total : List (List (Option Command)) → ℕ
total [] = 0
total (lines ∷ lists) = numbers_in lines + total lists

total-append : (a b : List (List (Option Command))) → total (a ++ b) ≡ total a + total b
total-append [] b = omega arith
total-append (lines ∷ a) b = let more = total-append a b in omega (arith, more)

served-append : (earlier : ℕ) (a b : List (List (Option Command))) (p q : List Asked) (x y : List (Option Store × List Call × List Reply)) → AreServed earlier a p x → AreServed (earlier + total a) b q y → AreServed earlier (a ++ b) (p ++ q) (x ++ y)
served-append k [] b [] q [] y h g = let same : k + 0 ≡ k = omega arith in subst (λ (n : ℕ). AreServed n b q y) same g
served-append k [] b [] q (life ∷ x) y h g = absurd h
served-append k [] b (asked ∷ p) q x y h g = absurd h
served-append k (lines ∷ a) b [] q x y h g = absurd h
served-append k (lines ∷ a) b (asked ∷ p) q [] y h g = absurd h
served-append k (lines ∷ a) b (asked ∷ p) q (life ∷ x) y h g =
    let same : k + (numbers_in lines + total a) ≡ (k + numbers_in lines) + total a = omega arith in
    (h.0, served-append (k + numbers_in lines) a b p q x y h.1 (subst (λ (n : ℕ). AreServed n b q y) same g))

-- The lines up to here: those that each life ended behind, and those behind the last crash or reopening. However the lines go
-- on, a crash or reopening ends the running part.
record Parts (front : List (Option Command)) (lists : List Asked) (lives : List PastLife) (last : Asked) (showed : Option Store) (calls : List Call) (replies : List Reply) : Type 0 where
  pub ended : List (List (Option Command))
  pub running : List (Option Command)
  pub alone : All IsCall running
  pub split : (more : List (Option Command)) → slice_split is_stop (front ++ more) ≡ ended ++ slice_split is_stop (running ++ more)
  pub counted : numbers_in front ≡ total ended + numbers_in running
  pub ended_are : AreServed 0 ended lists (map served_in lives)
  pub running_are : IsServed (total ended) running last showed calls replies

-- a core that just opened has served no call
no_calls : (core : Held) (store : Store) (opens : OpensAs core store) → Served core store opens [] [] core
no_calls core store opens = no_run core (start_of core store opens) (life_begun core store) opens.state opens.reads opens.base

none_served : (earlier : ℕ) (core : Held) (store : Store) (opens : OpensAs core store) → IsServed earlier [] unasked (Some store) [] []
none_served earlier core store opens = record {
  are = tt;
  come = NoneComes [];
  core = core;
  store = store;
  shown = refl;
  opens = opens;
  new = core;
  served = no_calls core store opens;
  beside = none_kept;
  through = goes_nowhere core store opens;
}

-- parts of which the running one has no line
abbrev FreshParts : List (Option Command) → List Asked → List PastLife → Store → Type 0
FreshParts front lists lives store = (p : Parts front lists lives unasked (Some store) [] []) × (p.running ≡ [])

no_parts : (core : Held) (store : Store) (opens : OpensAs core store) → FreshParts [] [] [] store
no_parts core store opens = (
  record {
    ended = [];
    running = [];
    alone = All-nil IsCall;
    split = λ more. refl;
    counted = refl;
    ended_are = tt;
    running_are = none_served 0 core store opens;
  },
  refl,
)

-- the running part behind those that ended
with_running : (ended : List (List (Option Command))) (lines : List (Option Command)) (lists : List Asked) (lives : List PastLife) (last : Asked) (showed : Option Store) (calls : List Call) (replies : List Reply) → AreServed 0 ended lists (map served_in lives)
    → IsServed (total ended) lines last showed calls replies → AreServed 0 (ended ++ lines ∷ []) (lists ++ last ∷ []) (map served_in lives ++ (showed, calls, replies) ∷ [])
with_running ended lines lists lives last showed calls replies before running =
    let same : total ended ≡ 0 + total ended = omega arith in
    served-append 0 ended (lines ∷ []) lists (last ∷ []) (map served_in lives) ((showed, calls, replies) ∷ []) before (subst (λ (n : ℕ). IsServed n lines last showed calls replies) same running, tt)

-- the calls of the running part
parts_run : (front lines : List (Option Command)) (lists : List Asked) (lives : List PastLife) (old_last : Asked) (showed : Option Store) (old_calls : List Call) (old_replies : List Reply) (last : Asked) (calls : List Call) (replies : List Reply)
    (p : Parts front lists lives old_last showed old_calls old_replies) → p.running ≡ [] → All IsCall lines → IsServed (numbers_in front) lines last showed calls replies → Parts (front ++ lines) lists lives last showed calls replies
parts_run front lines lists lives old_last showed old_calls old_replies last calls replies p fresh alone is =
    let so_far : numbers_in front ≡ total p.ended = p.counted ∙ ap (λ (l : List (Option Command)). total p.ended + numbers_in l) fresh ∙ omega arith in
    record {
      ended = p.ended;
      running = lines;
      alone = alone;
      split = λ more. ap (slice_split is_stop) (append_assoc front lines more) ∙ p.split (lines ++ more)
          ∙ ap (λ (l : List (Option Command)). p.ended ++ slice_split is_stop (l ++ (lines ++ more))) fresh;
      counted = counted front lines ∙ ap (λ n. n + numbers_in lines) so_far;
      ended_are = p.ended_are;
      running_are = subst (λ (n : ℕ). IsServed n lines last showed calls replies) so_far is;
    }

-- a crash or a reopening ends it, and an engine opens again
parts_stop : (front : List (Option Command)) (stop : Option Command) (lists : List Asked) (lives : List PastLife) (last : Asked) (life : PastLife) (core : Held) (store : Store) → OpensAs core store → Parts front lists lives last life.showed life.calls life.replies
    → is_stop stop ≡ true → asks_number stop ≡ false → FreshParts (front ++ stop ∷ []) (lists ++ last ∷ []) (lives ++ life ∷ []) store
parts_stop front stop lists lives last life core store opens p stops asks = (
  record {
    ended = p.ended ++ p.running ∷ [];
    running = [];
    alone = All-nil IsCall;
    split = λ more. ap (slice_split is_stop) (append_assoc front (stop ∷ []) more) ∙ p.split (stop ∷ more)
        ∙ ap (λ (l : List (List (Option Command))). p.ended ++ l) (slice_split_at is_stop p.running stop more p.alone stops)
        ∙ sym (append_assoc p.ended (p.running ∷ []) (slice_split is_stop more));
    counted =
        let all = counted front (stop ∷ []) in
        let none = none_asked stop [] asks in
        let so_far = p.counted in
        let parts = total-append p.ended (p.running ∷ []) in
        omega (arith, all, none, so_far, parts);
    ended_are = subst (AreServed 0 (p.ended ++ p.running ∷ []) (lists ++ last ∷ [])) (sym (map-append served_in lives (life ∷ [])))
        (with_running p.ended p.running lists lives last life.showed life.calls life.replies p.ended_are p.running_are);
    running_are = none_served (total (p.ended ++ p.running ∷ [])) core store opens;
  },
  refl,
)

-- each part has the calls of a life
parts_are : (front : List (Option Command)) (lists : List Asked) (lives : List PastLife) (last : Asked) (showed : Option Store) (calls : List Call) (replies : List Reply) → Parts front lists lives last showed calls replies
    → AreServed 0 (slice_split is_stop front) (lists ++ last ∷ []) (map served_in lives ++ (showed, calls, replies) ∷ [])
parts_are front lists lives last showed calls replies p =
    let whole : slice_split is_stop front ≡ p.ended ++ p.running ∷ [] = ap (slice_split is_stop) (sym (append-nil front)) ∙ p.split []
    ∙ ap (λ (l : List (Option Command)). p.ended ++ slice_split is_stop l) (append-nil p.running)
    ∙ ap (λ (l : List (List (Option Command))). p.ended ++ l) (slice_split_none is_stop p.running p.alone) in
    subst (λ (l : List (List (Option Command))). AreServed 0 l (lists ++ last ∷ []) (map served_in lives ++ (showed, calls, replies) ∷ [])) (sym whole)
    (with_running p.ended p.running lists lives last showed calls replies p.ended_are p.running_are)

-- No line was run since the last crash or reopening: the core is as it opened.
record IsFresh (running : List (Option Command)) (calls : List Call) (replies : List Reply) (last : Asked) (first core : Held) (beside : Kept) : Type 0 where
  pub no_lines : running ≡ []
  pub no_calls : calls ≡ []
  pub no_replies : replies ≡ []
  pub not_asked : last ≡ unasked
  pub same_core : core ≡ first
  pub none_beside : beside ≡ none_kept

record LivedSo (commands rest : List (Option Command)) (ran : Bool) (printed : List (List ℕ)) (core : Held) (beside : Kept) : Type 0 where
  pub front : List (Option Command)
  pub split : commands ≡ front ++ rest
  pub lives : List PastLife
  pub disk : Meaning
  pub base : Store
  pub pending : List store.Command
  pub before : Lives (state_in new_disk) (bare no_keyspaces) lives (state_in disk) base pending
  pub first : Held
  pub opened : OpensAfterCrash disk first base pending
  pub calls : List Call
  pub replies : List Reply
  pub run : Served first (kept (fold base opened.front)) opened.opens calls replies core
  pub lists : List Asked
  pub last : Asked
  pub through : GoesThrough first (kept (fold base opened.front)) opened.opens last calls replies core beside
  pub parts : Parts front lists lives last (Some (kept (fold base opened.front))) calls replies
  pub fresh : ran ≡ false → IsFresh parts.running calls replies last first core beside
  pub led : HaveLed lists base pending
  pub leads : ran ≡ true → LeadsBehind (kept (fold base opened.front)) last run.state run.durable
  pub printed_are : printed ≡ answers_to 0 front (made_of lists ++ counts_of last.made) (replies_of lists ++ last.replies)
  pub each : length (made_of lists ++ counts_of last.made) ≡ length (requests_of front)
  pub all : whole (made_of lists ++ counts_of last.made) ≡ length (replies_of lists ++ last.replies)

start_holds : HoldsAmid (state_in new_disk) (bare no_keyspaces) []
start_holds = holds_store_amid (state_in new_disk) (bare no_keyspaces) bare_holds

begins_so : (mode : RecoveryMode) (commands : List (Option Command)) (core : Held) → BeginsSession mode true core → LivedSo commands commands false [] core none_kept
begins_so mode commands core h =
    let same = h.fresh refl in
    let opened = h.opened.amid refl (bare no_keyspaces) [] (subst (λ (m : Meaning). HoldsAmid (state_in m) (bare no_keyspaces) []) (sym same) start_holds) in
    let store = kept (fold (bare no_keyspaces) opened.front) in
    let parts = no_parts core store opened.opens in
    record {
      front = [];
      split = refl;
      lives = [];
      disk = h.disk;
      base = bare no_keyspaces;
      pending = [];
      before = subst (λ (m : Meaning). Lives (state_in new_disk) (bare no_keyspaces) [] (state_in m) (bare no_keyspaces) []) (sym same) NoLife;
      first = core;
      opened = opened;
      calls = [];
      replies = [];
      run = no_calls core store opened.opens;
      lists = [];
      last = unasked;
      through = goes_nowhere core store opened.opens;
      parts = parts.0;
      fresh = λ h. record { no_lines = parts.1; no_calls = refl; no_replies = refl; not_asked = refl; same_core = refl; none_beside = refl };
      led = none_led;
      leads = λ h. absurd (true≢false (sym h));
      printed_are = refl;
      each = refl;
      all = refl;
    }

-- the calls up to the next crash or reopening
runs : (commands lines rest : List (Option Command)) (old new : Held) (before beside : Kept) (printed : List (List ℕ)) (made : List (List TxCall)) (replies : List Reply) → LivedSo commands (lines ++ rest) false printed old before → All IsCall lines
    → AreCalls (numbers_before commands (lines ++ rest)) lines made → RunsTx true old before (all_calls made) replies new beside
    → LivedSo commands rest true (printed ++ answers_to (numbers_before commands (lines ++ rest)) lines (counts_of made) replies) new beside
runs commands lines rest old new before beside printed made replies s alone are ran =
    let store = kept (fold s.base s.opened.front) in
    let opens = s.opened.opens in
    let fresh = s.fresh refl in
    let asked : Asked = record { made = made; replies = replies } in
    let here : RunsTx true s.first none_kept (all_calls made) replies new beside =
    subst (λ (h : Held). RunsTx true h none_kept (all_calls made) replies new beside) fresh.same_core (subst (λ (k : Kept). RunsTx true old k (all_calls made) replies new beside) fresh.none_beside ran) in
    let served : Served s.first store opens here.made here.told new = here.safe refl (start_of s.first store opens) (life_begun s.first store) opens.state opens.reads opens.base in
    let through = goes_on s.first store opens new beside asked here in
    let lived = replies_of s.lists in
    let so_far : lived ++ s.last.replies ≡ lived = ap (λ (a : Asked). lived ++ a.replies) fresh.not_asked ∙ append-nil lived in
    let counts = made_of s.lists in
    let counted_so : counts ++ counts_of s.last.made ≡ counts = ap (λ (a : Asked). counts ++ counts_of a.made) fresh.not_asked ∙ append-nil counts in
    let earlier = asked_before commands s.front (lines ++ rest) s.split in
    let mine : whole (counts_of made) ≡ length replies = all_counted made ∙ replied [] (all_calls made) replies here.made here.told here.comes in
    let each : length counts ≡ length (requests_of s.front) = ap length (sym counted_so) ∙ s.each in
    let all : whole counts ≡ length lived = ap whole (sym counted_so) ∙ s.all ∙ ap length so_far in
    record {
      front = s.front ++ lines;
      split = s.split ∙ sym (append_assoc s.front lines rest);
      lives = s.lives;
      disk = s.disk;
      base = s.base;
      pending = s.pending;
      before = s.before;
      first = s.first;
      opened = s.opened;
      calls = here.made;
      replies = here.told;
      run = served;
      lists = s.lists;
      last = asked;
      through = through;
      parts = parts_run s.front lines s.lists s.lives s.last (Some store) s.calls s.replies asked here.made here.told s.parts fresh.no_lines alone
          (record {
            are = subst (λ (n : ℕ). AreCalls n lines made) earlier are;
            come = here.comes;
            core = s.first;
            store = store;
            shown = refl;
            opens = opens;
            new = new;
            served = served;
            beside = beside;
            through = through;
          });
      fresh = λ h. absurd (true≢false h);
      led = s.led;
      leads = λ h. run_leads s.first new beside store asked opens here;
      printed_are = ap (λ (l : List (List ℕ)). l ++ answers_to (numbers_before commands (lines ++ rest)) lines (counts_of made) replies)
          (s.printed_are ∙ ap (answers_to 0 s.front (counts ++ counts_of s.last.made)) so_far ∙ ap (λ (l : List ℕ). answers_to 0 s.front l lived) counted_so)
          ∙ ap (λ (n : ℕ). answers_to 0 s.front counts lived ++ answers_to n lines (counts_of made) replies) (earlier ∙ omega arith)
          ∙ sym (through-append 0 s.front lines counts (counts_of made) lived replies each all);
      each = length-append counts (counts_of made) ∙ ap (λ n. n + length (counts_of made)) each ∙ ap (λ n. length (requests_of s.front) + n) (as_many _ none_so_far (requests_of lines) made are)
          ∙ sym (ap length (filter_map-append request_of s.front lines) ∙ length-append (requests_of s.front) (requests_of lines));
      all = whole-append counts (counts_of made) ∙ ap (λ n. n + whole (counts_of made)) all ∙ ap (λ n. length lived + n) mine ∙ sym (length-append lived replies);
    }

-- the life that ended with the old core's
abbrev life_of : (commands rest : List (Option Command)) (printed : List (List ℕ)) (old : Held) (beside : Kept) → LivedSo commands rest true printed old beside → List store.Command → PastLife
life_of commands rest printed old beside s synced = record { showed = Some (kept (fold s.base s.opened.front)); calls = s.calls; replies = s.replies; tried = s.run.tried; synced = synced }

-- one life more, of a core that ended so, and another opened on what it left
again : (mode : RecoveryMode) (commands : List (Option Command)) (stop : Option Command) (rest : List (Option Command)) (printed : List (List ℕ)) (old new : Held) (beside : Kept) (s : LivedSo commands (stop ∷ rest) true printed old beside) → is_stop stop ≡ true
    → (synced : List store.Command) (end : DiskState) (next : Store) (waits : List store.Command) → Ended s.first old (kept (fold s.base s.opened.front)) s.calls s.replies s.opened.opens s.run synced end next waits
    → LeadsToEach (kept (fold s.base s.opened.front)) s.last next waits → (disk : Meaning) → state_in disk ≡ end → OpenedOn mode true disk new → LivedSo commands rest false (printed ++ ok_line ∷ []) new none_kept
again mode commands stop rest printed old new beside s stops synced end next waits ended goes disk same o =
    let life = life_of commands (stop ∷ rest) printed old beside s synced in
    let lives = s.lives ++ life ∷ [] in
    let one = OneMore s.lives life s.disk s.base s.pending end next waits s.before (Opened s.first old s.calls s.replies synced end next waits s.opened s.run ended) in
    let before : Lives (state_in new_disk) (bare no_keyspaces) lives (state_in disk) next waits = subst (λ (st : DiskState). Lives (state_in new_disk) (bare no_keyspaces) lives st next waits) (sym same) one in
    let opened = o.amid refl next waits (lives_hold (state_in new_disk) (bare no_keyspaces) lives (state_in disk) next waits start_holds before).amid in
    let store = kept (fold next opened.front) in
    let parts : FreshParts (s.front ++ stop ∷ []) (s.lists ++ s.last ∷ []) lives store = parts_stop s.front stop s.lists s.lives s.last life new store opened.opens s.parts stops (stops_ask_none stop stops) in
    let lived = replies_of s.lists in
    let replies : lived ++ s.last.replies ≡ replies_of (s.lists ++ s.last ∷ []) ++ [] =
    ap (λ (l : List Reply). lived ++ l) (sym (append-nil s.last.replies)) ∙ sym (flat_map-append (λ (a : Asked). a.replies) s.lists (s.last ∷ [])) ∙ sym (append-nil (replies_of (s.lists ++ s.last ∷ []))) in
    let counts : made_of s.lists ++ counts_of s.last.made ≡ made_of (s.lists ++ s.last ∷ []) ++ [] =
    ap (λ (l : List ℕ). made_of s.lists ++ l) (sym (append-nil (counts_of s.last.made))) ∙ sym (flat_map-append (λ (a : Asked). counts_of a.made) s.lists (s.last ∷ [])) ∙ sym (append-nil (made_of (s.lists ++ s.last ∷ []))) in
    let none : requests_of (s.front ++ stop ∷ []) ≡ requests_of s.front = filter_map-append request_of s.front (stop ∷ []) ∙ ap (λ (l : List Request). requests_of s.front ++ l) (no_call stop stops) ∙ append-nil (requests_of s.front) in
    record {
      front = s.front ++ stop ∷ [];
      split = s.split ∙ sym (append_assoc s.front (stop ∷ []) rest);
      lives = lives;
      disk = disk;
      base = next;
      pending = waits;
      before = before;
      first = new;
      opened = opened;
      calls = [];
      replies = [];
      run = no_calls new store opened.opens;
      lists = s.lists ++ s.last ∷ [];
      last = unasked;
      through = goes_nowhere new store opened.opens;
      parts = parts.0;
      fresh = λ h. record { no_lines = parts.1; no_calls = refl; no_replies = refl; not_asked = refl; same_core = refl; none_beside = refl };
      led = have_led_on s.lists s.last s.base s.pending s.opened.front next waits s.led s.opened.within goes;
      leads = λ h. absurd (true≢false (sym h));
      printed_are = ap (λ (l : List (List ℕ)). l ++ ok_line ∷ []) s.printed_are
          ∙ ap (λ (l : List (List ℕ)). answers_to 0 s.front (made_of s.lists ++ counts_of s.last.made) (lived ++ s.last.replies) ++ l) (sym (ok_said (0 + numbers_in s.front) stop stops))
          ∙ sym (through-append 0 s.front (stop ∷ []) (made_of s.lists ++ counts_of s.last.made) [] (lived ++ s.last.replies) [] s.each s.all)
          ∙ ap (λ (l : List ℕ). answers_to 0 (s.front ++ stop ∷ []) l ((lived ++ s.last.replies) ++ [])) (append-nil (made_of s.lists ++ counts_of s.last.made) ∙ counts)
          ∙ ap (answers_to 0 (s.front ++ stop ∷ []) (made_of (s.lists ++ s.last ∷ []) ++ [])) (append-nil (lived ++ s.last.replies) ∙ replies);
      each = ap length (sym counts) ∙ s.each ∙ ap length (sym none);
      all = ap whole (sym counts) ∙ s.all ∙ ap length replies;
    }
  where
    no_call : (found : Option Command) → is_stop found ≡ true → requests_of (found ∷ []) ≡ []
    no_call (Some (Crash keep)) is = refl
    no_call (Some (CrashWild fills)) is = refl
    no_call (Some Reopen) is = refl
    no_call None is = absurd (true≢false (sym is))
    no_call (Some (Ask request)) is = absurd (true≢false (sym is))

    ok_said : (earlier : ℕ) (found : Option Command) → is_stop found ≡ true → answers_to earlier (found ∷ []) [] [] ≡ ok_line ∷ []
    ok_said earlier (Some (Crash keep)) is = refl
    ok_said earlier (Some (CrashWild fills)) is = refl
    ok_said earlier (Some Reopen) is = refl
    ok_said earlier None is = absurd (true≢false (sym is))
    ok_said earlier (Some (Ask request)) is = absurd (true≢false (sym is))

-- a reopening, whether the closing was refused or not
reopened : (mode : RecoveryMode) (commands rest : List (Option Command)) (printed : List (List ℕ)) (old new : Held) (beside : Kept) (s : LivedSo commands (Some Reopen ∷ rest) true printed old beside) (closing : Result Unit Error) (closed : Meaning) → ClosesCore true old closing closed → (disk : Meaning) → disk ≡ closed
    → OpenedOn mode true disk new → LivedSo commands rest false (printed ++ ok_line ∷ []) new none_kept
reopened mode commands rest printed old new beside s (Ok _) closed closes disk same o =
    again mode commands (Some Reopen) rest printed old new beside s refl s.run.tried (state_in closed) (kept (present s.run.state)) [] (Closed closed closes.owes (closes.safe refl))
    (leads_alone (kept (fold s.base s.opened.front)) s.last (present s.run.state) ((s.leads refl).closed (s.run.stands.remembered.poisoned ∙ closes.owes.0))) disk (ap state_in same) o
reopened mode commands rest printed old new beside s (Err error) closed closes disk same o =
    let last = a_last_sync s.first old (kept (fold s.base s.opened.front)) s.calls s.replies s.opened.opens s.run in
    let safely = closes.safe refl in
    let left = safely s.run.state s.run.durable s.run.stands s.run.reads s.run.on in
    let after = left.after in
    again mode commands (Some Reopen) rest printed old new beside s refl last.0 (state_in closed) after.base after.pending (Unclosed last.0 error closed last.1 safely)
    (leads_unclosed (kept (fold s.base s.opened.front)) s.last s.run.durable after left.passes (s.leads refl).left) disk (ap state_in same) o

-- behind a run each crash leaves its base with a beginning of what is pending
left_amid : (d : Durable) (disk : Meaning) → CrashLeavesPending d → d.meaning ≡ disk → (image : Image) → IsImage (state_in disk) image → StandsAmid d.base [] d.pending image
left_amid d disk rests same image is = rests image (subst (λ (m : Meaning). IsImage (state_in m) image) (sym same) is)

-- what a crash leaves
crashes : (mode : RecoveryMode) (commands rest : List (Option Command)) (printed : List (List ℕ)) (old new : Held) (beside : Kept) (keep : ℕ) (s : LivedSo commands (Some (Crash keep) ∷ rest) true printed old beside) → Crashes mode true keep old new → LivedSo commands rest false (printed ++ ok_line ∷ []) new none_kept
crashes mode commands rest printed old new beside keep s h =
    let d = s.run.durable in
    let image = crashed keep (state_in old.disk) in
    let is = h.image refl in
    let last = a_last_sync s.first old (kept (fold s.base s.opened.front)) s.calls s.replies s.opened.opens s.run in
    let amid = left_amid d old.disk s.run.on.rests s.run.on.same image is in
    let left = kept (fold d.base amid.front) in
    let unforged : IsImageBy SurvivesUnforged (state_in old.disk) image = leaves_wider Survives SurvivesUnforged (usual_where IsUnforged held_more held_alone) (state_in old.disk) [] image is in
    again mode commands (Some (Crash keep)) rest printed old new beside s refl last.0 (disk_of image) left [] (CutBehind last.0 image left last.1 unforged amid.stands)
    (leads_alone (kept (fold s.base s.opened.front)) s.last (fold d.base amid.front) ((s.leads refl).left amid.front amid.within)) h.disk (h.left refl) h.opened

-- what a wild crash leaves that forges nothing, where it opens
crashes_wild : (mode : RecoveryMode) (commands rest : List (Option Command)) (printed : List (List ℕ)) (old new : Held) (beside : Kept) (fills : Fills) (s : LivedSo commands (Some (CrashWild fills) ∷ rest) true printed old beside) → CrashesWild mode true fills old new
    → IsUnforgedStop (Some (CrashWild fills)) old.disk → LivedSo commands rest false (printed ++ ok_line ∷ []) new none_kept
crashes_wild mode commands rest printed old new beside fills s h unforged =
    let d = s.run.durable in
    let image = filled fills (crashed 0 (state_in old.disk)) in
    let last = a_last_sync s.first old (kept (fold s.base s.opened.front)) s.calls s.replies s.opened.opens s.run in
    let opened = h.opened.opened refl in
    let there : IsOpenFolder image opened.folder = subst (λ (state : DiskState). IsOpenFolder (standing state) opened.folder) (h.left refl) opened.is in
    let amid = wild_amid (state_in old.disk) [] d.base [] d.pending image opened.folder (left_amid d old.disk s.run.on.rests s.run.on.same) unforged there in
    let left = kept (fold d.base amid.front) in
    again mode commands (Some (CrashWild fills)) rest printed old new beside s refl last.0 (disk_of image) left [] (CutBehind last.0 image left last.1 unforged amid.stands)
    (leads_alone (kept (fold s.base s.opened.front)) s.last (fold d.base amid.front) ((s.leads refl).left amid.front amid.within)) h.disk (h.left refl) h.opened

restarts : (mode : RecoveryMode) (stop : Option Command) (commands rest : List (Option Command)) (printed : List (List ℕ)) (old new : Held) (beside : Kept) → LivedSo commands (stop ∷ rest) true printed old beside → Restarts mode true stop old new → IsUnforgedStop stop old.disk
    → LivedSo commands rest false (printed ++ ok_line ∷ []) new none_kept
restarts mode (Some (Crash keep)) commands rest printed old new beside s h unforged = crashes mode commands rest printed old new beside keep s h
restarts mode (Some (CrashWild fills)) commands rest printed old new beside s h unforged = crashes_wild mode commands rest printed old new beside fills s h unforged
restarts mode (Some Reopen) commands rest printed old new beside s h unforged = reopened mode commands rest printed old new beside s h.closing h.closed h.closes h.disk (h.same refl) h.opened
restarts mode None commands rest printed old new beside s h unforged = absurd h
restarts mode (Some (Ask request)) commands rest printed old new beside s h unforged = absurd h

-- ---- a session

lived_so : (mode : RecoveryMode) (commands rest : List (Option Command)) (ran : Bool) (core : Held) (beside : Kept) (printed : List (List ℕ)) (session : Session mode true commands ran core beside printed rest) → ForgesNothing session
    → LivedSo commands rest ran printed core beside
lived_so mode commands _ _ _ _ _ (sessions.begun core h) unforged = begins_so mode commands core h
lived_so mode commands _ _ _ _ _ (sessions.run old new before after printed lines rest made replies s alone stop are ran) unforged =
    runs commands lines rest old new before after printed made replies (lived_so mode commands (lines ++ rest) false old before printed s unforged) alone are ran
lived_so mode commands _ _ _ _ _ (sessions.restarted old new before printed stop rest s h) unforged =
    restarts mode stop commands rest printed old new before (lived_so mode commands (stop ∷ rest) true old before printed s unforged.0) h unforged.1

has_lived : (mode : RecoveryMode) (commands rest : List (Option Command)) (ran : Bool) (core : Held) (beside : Kept) (printed : List (List ℕ)) (session : Session mode true commands ran core beside printed rest) → ForgesNothing session → HasLived commands rest printed core beside
has_lived mode commands rest ran core beside printed session unforged =
    let s = lived_so mode commands rest ran core beside printed session unforged in
    let behind = lives_open (state_in new_disk) (bare no_keyspaces) s.lives s.disk s.base s.pending s.first start_holds s.before s.opened in
    record {
      front = s.front;
      split = s.split;
      lives = s.lives;
      disk = s.disk;
      base = s.base;
      pending = s.pending;
      before = s.before;
      first = s.first;
      opened = s.opened;
      calls = s.calls;
      replies = s.replies;
      run = s.run;
      device = lives_blame (state_in new_disk) (bare no_keyspaces) s.lives s.disk s.base s.pending s.first core s.calls s.replies (new_disk_tidy (state_in new_disk) (λ name. refl)) s.before s.opened s.run;
      lists = s.lists;
      last = s.last;
      through = s.through;
      calls_are = parts_are s.front s.lists s.lives s.last (Some (kept (fold s.base s.opened.front))) s.calls s.replies s.parts;
      printed_are = s.printed_are;
      left = behind.0;
      stands = behind.1;
    }

-- over a disk that returns what it holds, where no wild crash forged anything
pub session_lived : (mode : RecoveryMode) (honest : Bool) (commands rest : List (Option Command)) (ran : Bool) (core : Held) (beside : Kept) (printed : List (List ℕ)) (session : Session mode honest commands ran core beside printed rest) → IsTrue honest → ForgesNothing session
    → HasLived commands rest printed core beside
session_lived mode true commands rest ran core beside printed s h unforged = has_lived mode commands rest ran core beside printed s unforged
session_lived mode false commands rest ran core beside printed s h unforged = absurd (true≢false (sym h))

-- the same by what callers see
is_told_so : (mode : RecoveryMode) (commands rest : List (Option Command)) (ran : Bool) (core : Held) (beside : Kept) (printed : List (List ℕ)) (session : Session mode true commands ran core beside printed rest) → ForgesNothing session → IsToldSo commands rest printed
is_told_so mode commands rest ran core beside printed session unforged =
    let s = lived_so mode commands rest ran core beside printed session unforged in
    let lists = s.lists ++ s.last ∷ [] in
    let d = s.run.durable in
    let lead = all_lead ran s.lists s.last s.base s.pending s.opened.front d.base d.pending s.led s.opened.within (λ h. (s.fresh h).not_asked) (λ h. (s.leads h).left) in
    let counts : made_of s.lists ++ counts_of s.last.made ≡ made_of lists =
    ap (λ (l : List ℕ). made_of s.lists ++ l) (sym (append-nil (counts_of s.last.made))) ∙ sym (flat_map-append (λ (a : Asked). counts_of a.made) s.lists (s.last ∷ [])) in
    let replies : replies_of s.lists ++ s.last.replies ≡ replies_of lists =
    ap (λ (l : List Reply). replies_of s.lists ++ l) (sym (append-nil s.last.replies)) ∙ sym (flat_map-append (λ (a : Asked). a.replies) s.lists (s.last ∷ [])) in
    let showed = Some (kept (fold s.base s.opened.front)) in
    record {
      front = s.front;
      split = s.split;
      lists = lists;
      are = served_calls 0 (slice_split is_stop s.front) lists (map served_in s.lives ++ (showed, s.calls, s.replies) ∷ []) (parts_are s.front s.lists s.lives s.last showed s.calls s.replies s.parts);
      end = lead.0;
      lead = lead.1;
      printed_are = s.printed_are ∙ ap (λ (l : List ℕ). answers_to 0 s.front l (replies_of s.lists ++ s.last.replies)) counts ∙ ap (answers_to 0 s.front (made_of lists)) replies;
    }

-- over a disk that returns what it holds, where no wild crash forged anything
pub session_told : (mode : RecoveryMode) (honest : Bool) (commands rest : List (Option Command)) (ran : Bool) (core : Held) (beside : Kept) (printed : List (List ℕ)) (session : Session mode honest commands ran core beside printed rest) → IsTrue honest → ForgesNothing session → IsToldSo commands rest printed
session_told mode true commands rest ran core beside printed s h unforged = is_told_so mode commands rest ran core beside printed s unforged
session_told mode false commands rest ran core beside printed s h unforged = absurd (true≢false (sym h))
