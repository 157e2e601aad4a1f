-- The calls of lists of lines lead on from one store to another.
use Rattle.std.proofs.Common.{◌≡◌, ℕ, ◌+◌, Bool, true, false, List, [], ◌∷◌, ◌++◌, Option, refl, sym, ◌∙◌, ap, subst, append_assoc}
use Rattle.std.proofs.lemmas.Bool.{true≢false}
use Rattle.std.proofs.lemmas.List.{append-nil}
use Rattle.fjall_base.specs.Store.{Command, Store, fold, kept}
use Rattle.fjall_meta.proofs.Kept.{kept_along, kept_twice}
use Rattle.fjall_meta.proofs.Slots.{fold-append}
use Rattle.fjall_meta.specs.Replays.{bare}
use Rattle.fjall_meta.specs.Keyspaces.{no_keyspaces}
use Rattle.fjall_recovery.specs.Amid.{IsBeginning}
use Rattle.fjall_history.specs.declared.reply.Reply.{Reply}
use Rattle.fjall_machine.specs.Machine.{State, present}
use Rattle.fjall_machine.specs.declared.call.Call.{Call}
use Rattle.fjall_calls.specs.Durables.{Durable, Passes}
use Rattle.fjall_calls.specs.Holding.{Held}
use Rattle.fjall_calls.specs.Openings.{OpensAs}
use Rattle.fjall_calls.specs.Transactions.{Kept, none_kept}
use Rattle.fjall_calls.specs.Serving.{RunsTx}
use Rattle.fjall_calls.specs.declared.call.TxCall.{TxCall}
use Rattle.fjall_consistency.specs.Alike.{AreAlike}
use Rattle.fjall_consistency.specs.Consistency.{Leads, no_store}
use Rattle.fjall_consistency.proofs.Alike.{alike_itself}
use Rattle.fjall_consistency.proofs.Lasting.{LeadAlike, closed_leads, nothing_kept, open_leads}
use Rattle.fjall_consistency.proofs.Lasting as lasting
use Rattle.fjall_lines.specs.declared.command.Command as lines
use Rattle.fjall_script.specs.Lived.{AreServed, Asked, unasked}
use Rattle.fjall_script.specs.Requests.{all_calls, numbers_in}
use Rattle.fjall_script.specs.Told.{LeadOn, MakeCalls}

-- ---- one list more

-- lists of calls led from no store to one that is alike each that a disk may hold, this one with a beginning of what waits
abbrev pub HaveLed : List Asked → Store → List Command → Type 0
HaveLed lists base pending = (front : List Command) → IsBeginning front pending → (end : Store) × LeadOn no_store lists end × AreAlike (kept (fold base front)) end

-- one list leads from a store to each of these
abbrev pub LeadsToEach : Store → Asked → Store → List Command → Type 0
LeadsToEach store asked next waits = (front : List Command) → IsBeginning front waits → LeadAlike store (all_calls asked.made) asked.replies false (kept (fold next front))

-- What the calls lead to that an engine served which now stands so: each store that the disk may hold, and, where no fault poisoned it, the present one.
pub record LeadsBehind (store : Store) (asked : Asked) (state : State) (durable : Durable) : Type 0 where
  pub left : LeadsToEach store asked durable.base durable.pending
  pub closed : state.poisoned ≡ false → LeadAlike store (all_calls asked.made) asked.replies false (kept (present state))

-- a list with something in it isn't a beginning of none
not_none : (c : Command) (front rest : List Command) → (c ∷ front) ++ rest ≡ [] → ⊥
not_none c front rest is = cc

-- as a disk is new, nothing led anywhere
pub none_led : HaveLed [] (bare no_keyspaces) []
none_led [] waits = (no_store, refl, subst (λ (s : Store). AreAlike s no_store) (sym nothing_kept) (alike_itself no_store))
none_led (c ∷ front) waits = absurd (not_none c front waits.0 waits.1)

-- behind lists that led on, one more leads on
leads_more : (start mid end : Store) (lists : List Asked) (last : Asked) → LeadOn start lists mid → Leads mid (all_calls last.made) last.replies false end → LeadOn start (lists ++ last ∷ []) end
leads_more start mid end [] last on more = (end, subst (λ (s : Store). Leads s (all_calls last.made) last.replies false end) on more, refl)
leads_more start mid end (asked ∷ lists) last (next, leads, on) more = (next, leads, leads_more next mid end lists last on more)

-- one list goes on from a store that the lists before it led to
pub have_led_on : (lists : List Asked) (last : Asked) (base : Store) (pending before : List Command) (next : Store) (waits : List Command) → HaveLed lists base pending → IsBeginning before pending
    → LeadsToEach (kept (fold base before)) last next waits → HaveLed (lists ++ last ∷ []) next waits
have_led_on lists last base pending before next waits led within leads front waiting =
    let (mid, on, alike) = led before within in
    let (end, more, alike_end) = leads front waiting mid alike in
    (end, leads_more no_store mid end lists last on more, alike_end)

-- ---- how a list ends

-- whether the engine closed need not be told
less_told : (store : Store) (calls : List TxCall) (replies : List Reply) (next : Store) → LeadAlike store calls replies true next → LeadAlike store calls replies false next
less_told store calls replies next leads start alike =
    let (end, (answers, front, left, all, same), alike_end) = leads start alike in
    (end, (answers, front, left, (λ closed. absurd (true≢false (sym closed))), same), alike_end)

-- a run of calls over an engine that opened as a store
pub run_leads : (core new : Held) (beside : Kept) (store : Store) (asked : Asked) (opens : OpensAs core store) (ran : RunsTx true core none_kept (all_calls asked.made) asked.replies new beside)
    → LeadsBehind store asked (lasting.run true refl core new beside store (all_calls asked.made) asked.replies opens ran).state (lasting.run true refl core new beside store (all_calls asked.made) asked.replies opens ran).durable
run_leads core new beside store asked opens ran =
    let calls = all_calls asked.made in
    let replies = asked.replies in
    let run = lasting.run true refl core new beside store calls replies opens ran in
    record {
      left = λ front waits. open_leads true refl core new beside store calls replies opens ran front waits (kept (fold run.durable.base front)) refl;
      closed = λ well. less_told store calls replies (kept (present run.state)) (closed_leads true refl core new beside store calls replies opens ran well (kept (present run.state)) refl);
    }

-- where one store is there, and nothing waits
pub leads_alone : (store : Store) (asked : Asked) (next : Store) → LeadAlike store (all_calls asked.made) asked.replies false (kept next) → LeadsToEach store asked (kept next) []
leads_alone store asked next leads [] waits = subst (LeadAlike store (all_calls asked.made) asked.replies false) (sym (kept_twice next)) leads
leads_alone store asked next leads (c ∷ front) waits = absurd (not_none c front waits.0 waits.1)

-- where a closing was refused
pub leads_unclosed : (store : Store) (asked : Asked) (d e : Durable) → Passes d [] e → LeadsToEach store asked d.base d.pending → LeadsToEach store asked e.base e.pending
leads_unclosed store asked d e p leads front waits =
    let all : (p.safe ++ front) ++ waits.0 ≡ d.pending = append_assoc p.safe front waits.0 ∙ ap (λ (l : List Command). p.safe ++ l) waits.1 ∙ p.rest ∙ append-nil d.pending in
    subst (LeadAlike store (all_calls asked.made) asked.replies false)
    (sym (kept_along e.base (fold d.base p.safe) front p.base ∙ ap kept (sym (fold-append d.base p.safe front))))
    (leads (p.safe ++ front) (waits.0, all))

-- ---- the list that runs

-- where it ran it leads on too; else it has no call, and nothing changed
leads_now : (ran : Bool) (store start : Store) (last : Asked) (next : Store) (waits : List Command) → (ran ≡ false → last ≡ unasked) → (ran ≡ true → LeadsToEach store last next waits) → AreAlike store start
    → (end : Store) × Leads start (all_calls last.made) last.replies false end
leads_now true store start last next waits fresh leads alike = let (end, on, alike_end) = leads refl [] (waits, refl) start alike in (end, on)
leads_now false store start last next waits fresh leads alike =
    (kept start, subst (λ (a : Asked). Leads start (all_calls a.made) a.replies false (kept start)) (sym (fresh refl)) (tt, [], record { within = ([], refl); holds = λ i sync. absurd sync }, (λ closed. refl), refl))

-- all lists lead to some store
pub all_lead : (ran : Bool) (lists : List Asked) (last : Asked) (base : Store) (pending before : List Command) (next : Store) (waits : List Command) → HaveLed lists base pending → IsBeginning before pending
    → (ran ≡ false → last ≡ unasked) → (ran ≡ true → LeadsToEach (kept (fold base before)) last next waits) → (end : Store) × LeadOn no_store (lists ++ last ∷ []) end
all_lead ran lists last base pending before next waits led within fresh leads =
    let (mid, on, alike) = led before within in
    let (end, more) = leads_now ran (kept (fold base before)) mid last next waits fresh leads alike in
    (end, leads_more no_store mid end lists last on more)

-- the calls of lists that were served
pub served_calls : (earlier : ℕ) (lists : List (List (Option lines.Command))) (others : List Asked) (lives : List (Option Store × List Call × List Reply)) → AreServed earlier lists others lives → MakeCalls earlier lists others
served_calls earlier [] [] [] served = tt
served_calls earlier [] [] (life ∷ lives) served = absurd served
served_calls earlier [] (asked ∷ others) lives served = absurd served
served_calls earlier (first ∷ lists) [] lives served = absurd served
served_calls earlier (first ∷ lists) (asked ∷ others) [] served = absurd served
served_calls earlier (first ∷ lists) (asked ∷ others) (life ∷ lives) served = (served.0.are, served_calls (earlier + numbers_in first) lists others lives served.1)
