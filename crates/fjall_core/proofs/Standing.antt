-- What a core stands for with its transactions, along its calls.
use Rattle.std.proofs.Common.{◌≡◌, ◌+◌, ◌≤◌, ◌<◌, ◌↔◌, ℕ, List, [], ◌∷◌, ◌++◌, All, Option, None, Some, map, length, drop, zero, suc, refl, sym, ap, subst, ◌∙◌, arith, nat_le}
use Rattle.std.specs.FinMap.{get}
use Rattle.std.proofs.Math.Seq.{drop-append_seam}
use Rattle.std.proofs.lemmas.List.{length-map}
use Rattle.std.proofs.lemmas.List.Elements.{All-filter, All-weaker}
use Rattle.fjall_base.specs.Store.{Command}
use Rattle.fjall_tx.specs.Marks.{Mark}
use Rattle.fjall_tx.specs.declared.oracle.Committed.{Committed}
use Rattle.fjall_tx.specs.Oracles.{Conflicts, pruned}
use Rattle.fjall_tx.proofs.Commits.{pruned_answers}
use Rattle.fjall_history.specs.declared.ticket.Ticket.{Ticket}
use Rattle.fjall_history.specs.declared.reply.Reply.{Reply}
use Rattle.fjall_history.specs.Histories.{Accepted, History, command_of, commands_of, commits, extended, number, plain}
use Rattle.fjall_history.specs.Tickets.{Tickets}
use Rattle.fjall_history.specs.Moves.{AreSound, HasGrown, Moves, NoMove, OneMove}
use Rattle.fjall_history.proofs.Moving.{history_grows, never_lower, sound_move}
use Rattle.fjall_history.proofs.Values.{of_value}
use Rattle.fjall_history.proofs.Views.{commands_append}
use Rattle.fjall_history.specs.Checked.{IsChecked}
use Rattle.fjall_history.proofs.Growing.{checked_many, checked_opening, commits_many, numbered}
use Rattle.fjall_machine.specs.Shapes.{CallShape}
use Rattle.fjall_machine.specs.Machine.{State, StepOf, times}
use Rattle.fjall_machine.proofs.Moving.{shape_moves}
use Rattle.fjall_engine.specs.Holding.{Held}
use Rattle.fjall_engine.specs.Standing.{Owes, ReadsOn, RestsOnTables, Serves, ServesWhere, StandsFor}
use Rattle.fjall_engine.proofs.OwedSteps.{owes_step}
use Rattle.fjall_core.specs.Standing.{GoesOn, StandFor, CoreState, gone_on, history_of}
use Rattle.fjall_core.specs.Transactions.{AreCommitsOf, Kept}

-- ---- what a history has more

-- commands that no transaction committed are themselves
plain_commands : (commands : List Command) → commands_of (map plain commands) ≡ commands
plain_commands [] = refl
plain_commands (command ∷ commands) = ap (λ l. command ∷ l) (plain_commands commands)

-- the history of the state that a call goes on to is told with what it has more
told_more : (t : CoreState) (s : State) (more : List Accepted) → s.history ≡ extended t.state.history more → history_of (gone_on t s) ≡ extended (history_of t) (map plain (commands_of more))
told_more t s more e =
    ap (λ (h : History). record h { accepted = t.accepted ++ map plain (commands_of (drop (length t.state.history.accepted) h.accepted)) }) e
    ∙ ap (λ (l : List Accepted). record t.state.history { accepted = t.accepted ++ map plain (commands_of l) }) (drop-append_seam t.state.history.accepted more)

-- and tells the same commands
told_same : (t : CoreState) (s : State) (more : List Accepted) → s.history ≡ extended t.state.history more → commands_of t.accepted ≡ commands_of t.state.history.accepted
    → commands_of (gone_on t s).accepted ≡ commands_of s.history.accepted
told_same t s more e same =
    ap (λ (h : History). commands_of h.accepted) (told_more t s more e)
    ∙ commands_append t.accepted (map plain (commands_of more))
    ∙ ap (λ l. commands_of t.accepted ++ l) (plain_commands (commands_of more))
    ∙ ap (λ l. l ++ commands_of more) same
    ∙ sym (commands_append t.state.history.accepted more)
    ∙ sym (ap (λ (h : History). commands_of h.accepted) e)

-- ---- a call of the core

moved_stands : (core new : Held) (kept : Kept) (t : CoreState) (s : State) → StandFor core kept t → (moves : Moves (times t.state) (times s)) → HasGrown t.state.history s.history
    → StandsFor new s → StandFor new kept (gone_on t s)
moved_stands core new kept t s stands moves (more, e) is = record {
  machine = is;
  same = told_same t s more e stands.same;
  sound = sound_move (times t.state) (times s) stands.sound moves;
  checked = subst IsChecked (sym (told_more t s more e)) (checked_many (history_of t) (commands_of more) stands.checked);
  upto = stands.upto;
  passed = let before = stands.passed in let later = never_lower (times t.state) (times s) moves in omega (arith, before, later);
  keeps = stands.keeps ∙ ap (λ l. pruned l stands.upto) (sym (commits_many (history_of t) (commands_of more)) ∙ sym (ap commits (told_more t s more e)));
}

pub shape_stands : (core new : Held) (kept : Kept) (t : CoreState) (s : State) (shape : CallShape) (reply : Reply) → StandFor core kept t → StepOf t.state shape reply s → StandsFor new s → StandFor new kept (gone_on t s)
shape_stands core new kept t s shape reply stands step is =
    let moves = shape_moves t.state s shape reply step in
    moved_stands core new kept t s stands moves (history_grows (times t.state) (times s) (OneMove (times t.state) (times s) (times s) moves (NoMove (times s)))) is

-- and a crash leaves what it may
pub served_goes_on : (core new : Held) (kept : Kept) (t : CoreState) (shape : CallShape) (reply : Reply) → StandFor core kept t → ReadsOn core t.state → Serves core shape reply new → GoesOn core t shape reply new kept
served_goes_on core new kept t shape reply stands reads serves =
    let (s, is, on, step, led) = serves.goes_on t.state stands.machine reads in
    (s, shape_stands core new kept t s shape reply stands step is, on, step, led)

pub served_stands : (core new : Held) (kept : Kept) (t : CoreState) (shape : CallShape) (reply : Reply) → StandFor core kept t → ReadsOn core t.state → Serves core shape reply new
    → (s : State) × StandFor new kept (gone_on t s) × ReadsOn new s × StepOf t.state shape reply s
served_stands core new kept t shape reply stands reads serves =
    let (s, stay, on, step, led) = served_goes_on core new kept t shape reply stands reads serves in
    (s, stay, on, step)

-- over any disk, where nothing rests on what tables hold
pub owed_stands : (core new : Held) (kept : Kept) (t : CoreState) (shape : CallShape) (reply : Reply) → StandFor core kept t → (RestsOnTables core shape reply → ⊥) → Owes core shape reply new
    → (s : State) × StandFor new kept (gone_on t s) × StepOf t.state shape reply s
owed_stands core new kept t shape reply stands bare owes =
    let (s, is, step) = owes_step core new shape reply t.state bare owes stands.machine in
    (s, shape_stands core new kept t s shape reply stands step is, step)

-- the same of a call that is served from some states, of which this is one
pub served_stands_where : (core new : Held) (kept : Kept) (t : CoreState) (Meets : State → Type 0) (shape : CallShape) (reply : Reply) → StandFor core kept t → ReadsOn core t.state → Meets t.state → ServesWhere Meets core shape reply new
    → (s : State) × StandFor new kept (gone_on t s) × ReadsOn new s × StepOf t.state shape reply s
served_stands_where core new kept t Meets shape reply stands reads meets serves =
    let (s, is, on, step, led) = serves.goes_on t.state stands.machine reads meets in
    (s, shape_stands core new kept t s shape reply stands step is, on, step)

-- ---- the single writer

-- whoever is kept as the single writer's
pub any_writer : (core : Held) (kept : Kept) (t : CoreState) (writer : Option Ticket) → StandFor core kept t → StandFor core (record kept { writer = writer }) t
any_writer core kept t writer stands = record {
  machine = stands.machine;
  same = stands.same;
  sound = stands.sound;
  checked = stands.checked;
  upto = stands.upto;
  passed = stands.passed;
  keeps = stands.keeps;
}

-- so a call goes on, whoever is kept so behind it
pub writer_goes_on : (core new : Held) (old : Kept) (t : CoreState) (shape : CallShape) (reply : Reply) (writer : Option Ticket) → GoesOn core t shape reply new old → GoesOn core t shape reply new (record old { writer = writer })
writer_goes_on core new old t shape reply writer (s, stay, on, step, led) = (s, any_writer new old (gone_on t s) writer stay, on, step, led)

-- ---- an opening

pub opening_stands : (core : Held) (s : State) → StandsFor core s → AreSound (times s) → s.history.accepted ≡ [] → StandFor core (record { commits = []; writer = None }) (record { state = s; accepted = [] })
opening_stands core s is sound none = record {
  machine = is;
  same = sym (ap commands_of none);
  sound = sound;
  checked = checked_opening s.history.opened s.history.base;
  upto = 0;
  passed = omega arith;
  keeps = refl;
}

-- ---- what is kept

-- all of a list's elements that are kept by a test are of it
all_pruned : (P : Committed → Type 0) (commits : List Committed) (watermark : ℕ) → All P commits → All P (pruned commits watermark)
all_pruned P commits watermark all = All-filter (λ c. nat_le watermark c.number) P commits all

-- the next number, as the history tells it
pub same_number : (core : Held) (kept : Kept) (t : CoreState) → StandFor core kept t → number (history_of t) ≡ core.memory.next
same_number core kept t stands =
    ap (λ n. t.state.history.base + n) (sym (length-map t.accepted command_of) ∙ ap length stands.same ∙ length-map t.state.history.accepted command_of) ∙ stands.machine.remembered.number

pub kept_of_core : (core : Held) (kept : Kept) (t : CoreState) → StandFor core kept t → AreCommitsOf core kept.commits
kept_of_core core kept t stands =
    subst (λ l. AreCommitsOf core l) (sym stands.keeps)
    (all_pruned (λ c. c.number < core.memory.next) (commits (history_of t)) stands.upto
    (All-weaker (λ (c : Committed). (t.state.history.base ≤ c.number) × (c.number < number (history_of t))) (λ (c : Committed). c.number < core.memory.next) (λ c within. subst (λ n. c.number < n) (same_number core kept t stands) within.1) (commits (history_of t)) (numbered (history_of t))))

-- an open ticket reads at or above the number up to which commits may be forgotten
pub upto_within : (upto watermark instant : ℕ) → upto ≤ watermark → (0 < watermark → watermark < instant) → upto ≤ instant
upto_within upto zero instant le above = omega (arith, le)
upto_within upto (suc w) instant le above = let more = above (omega arith) in omega (arith, le, more)

pub upto_spared : (core : Held) (kept : Kept) (t : CoreState) (stands : StandFor core kept t) (id instant : ℕ) → get t.state.tickets.instants id ≡ Some instant → stands.upto ≤ instant
upto_spared core kept t stands id instant there =
    let same = stands.machine.remembered.tickets in
    upto_within stands.upto t.state.tickets.watermark instant stands.passed
    (subst (λ (k : Tickets). 0 < k.watermark → k.watermark < instant) (sym same)
    (of_value (λ i. 0 < core.memory.tickets.watermark → core.memory.tickets.watermark < i) core.memory.tickets.instants id instant (subst (λ (k : Tickets). get k.instants id ≡ Some instant) same there) stands.machine.remembered.lawful.above))

pub exact : (core : Held) (kept : Kept) (t : CoreState) → StandFor core kept t → (id instant : ℕ) → get t.state.tickets.instants id ≡ Some instant
    → (reads : List Mark) → Conflicts instant reads kept.commits ↔ Conflicts instant reads (commits (history_of t))
exact core kept t stands id instant there reads =
    subst (λ l. Conflicts instant reads l ↔ Conflicts instant reads (commits (history_of t))) (sym stands.keeps)
    (pruned_answers (commits (history_of t)) stands.upto instant reads (upto_spared core kept t stands id instant there))
