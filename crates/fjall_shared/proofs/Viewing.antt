-- What a view of the engine shows, as the list tells it.
use Rattle.std.proofs.Common.{◌≡◌, ℕ, ◌-◌, List, take, Option, None, Bool, IsTrue, Vec, Global, sym, ◌∙◌, ap}
use Rattle.std.proofs.lemmas.List.{take-map}
use Rattle.fjall_base.specs.Pairs.{Bytes, KeyRange, lookup, page, pairs_between}
use Rattle.fjall_base.specs.Store.{Command, Store, fold, map_at}
use Rattle.fjall_history.specs.Histories.{History, command_of, commands_of, view}
use Rattle.fjall_history.specs.Queries.{Get, Page}
use Rattle.fjall_history.specs.declared.reply.Reply.{Reply}
use Rattle.fjall_history.specs.declared.reply.Reply.TheVariants.{Pairs, Value}
use Rattle.fjall_history.specs.declared.ticket.Ticket.{Ticket}
use Rattle.fjall_history.specs.declared.ticket.View.TheVariants.{At}
use Rattle.fjall_history.specs.Tickets.{Tickets}
use Rattle.fjall_machine.specs.Machine.{instant_of, maps_in}
use Rattle.fjall_machine.specs.Shapes.{OfRead}
use Rattle.fjall_core.specs.Standing.{CoreState, history_of}
use Rattle.fjall_shared.specs.Does.{Does}
use Rattle.fjall_shared.specs.Locked.{IsTied, Locked, list_of}

-- a view rests on the commands alone
view_told : (t : CoreState) (list : History) → commands_of t.accepted ≡ commands_of t.state.history.accepted → history_of t ≡ list → (instant : ℕ) → view t.state.history instant ≡ view list instant
view_told t list same is instant =
    let n = instant - t.state.history.base in
    ap (λ l. fold t.state.history.opened l) (sym (take-map command_of n t.state.history.accepted) ∙ ap (λ (l : List Command). take n l) (sym same) ∙ take-map command_of n t.accepted)
    ∙ ap (λ (h : History). view h instant) is

-- the maps that a ticket's view shows are those of the list up to its instant
pub maps_told : (l : Locked) (t : CoreState) → IsTied l t → (ticket : Ticket) → maps_in t.state (At ticket) ≡ (view (list_of l) (instant_of l.core.memory.tickets ticket.id)).maps
maps_told l t tied ticket =
    ap (λ (x : Tickets). (view t.state.history (instant_of x ticket.id)).maps) tied.stands.machine.remembered.tickets
    ∙ ap (λ (s : Store). s.maps) (view_told t (list_of l) tied.stands.same tied.is (instant_of l.core.memory.tickets ticket.id))

abbrev found_in : Reply → Option Bytes
found_in (Value found) = found
found_in other = None

-- a key's value in that view
pub got_at : (honest : Bool) (old new : Locked) (ticket : Ticket) (id : ℕ) (key : Bytes) (found : Option Bytes) → IsTrue honest → Does honest old (OfRead (At ticket) id (Get key)) (Value found) new
    → found ≡ lookup (map_at (view (list_of old) (instant_of old.core.memory.tickets ticket.id)).maps id) key
got_at honest old new ticket id key found is does =
    let (t, tied) = does.makes.was.ties is in
    let (u, on, step, led) = does.makes.steps is t tied in
    ap found_in step.1.0 ∙ ap (λ maps. lookup (map_at maps id) key) (maps_told old t tied ticket)

pairs_same : (a b : Vec (Bytes × Bytes) Global) → Pairs a ≡ Pairs b → a ≡ b
pairs_same a b is = cc

-- and a page of it
pub paged_at : (honest : Bool) (old new : Locked) (ticket : Ticket) (id : ℕ) (range : KeyRange) (back : Bool) (max : ℕ) (found : Vec (Bytes × Bytes) Global) → IsTrue honest
    → Does honest old (OfRead (At ticket) id (Page range back max)) (Pairs found) new
    → found.items ≡ page back max (pairs_between range (map_at (view (list_of old) (instant_of old.core.memory.tickets ticket.id)).maps id))
paged_at honest old new ticket id range back max found is does =
    let (t, tied) = does.makes.was.ties is in
    let (u, on, step, led) = does.makes.steps is t tied in
    let (shown, told, are) = step.1.0 in
    ap (λ (v : Vec (Bytes × Bytes) Global). v.items) (pairs_same found shown told) ∙ are ∙ ap (λ maps. page back max (pairs_between range (map_at maps id))) (maps_told old t tied ticket)
