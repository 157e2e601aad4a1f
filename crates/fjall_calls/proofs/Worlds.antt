-- Worlds that a core with its transactions stands for.
use Rattle.std.proofs.Common.{◌≡◌, ℕ, ◌+◌, true, false, not, List, [], ◌∷◌, ◌++◌, All, Option, Some, None, map, take, drop, length, zero, suc, refl, sym, ap, ◌∙◌, subst}
use Rattle.std.specs.List.{slice_get}
use Rattle.std.proofs.Math.Seq.{drop-length}
use Rattle.std.proofs.lemmas.List.{append-nil, drop-map, map-append, take-map}
use Rattle.std.proofs.lemmas.List.Elements.{All-cons, All-head, All-nil, All-tail}
use Rattle.fjall_base.proofs.Codecs.{some_is}
use Rattle.fjall_history.specs.Histories.{Accepted, commands_of, plain}
use Rattle.fjall_history.specs.Tickets.{Tickets}
use Rattle.fjall_history.specs.declared.ticket.Ticket.{Ticket}
use Rattle.fjall_core.specs.Holding.{Held}
use Rattle.fjall_core.specs.Commits.{is_writing}
use Rattle.fjall_core.specs.Standing.{StandFor, CoreState, gone_on}
use Rattle.fjall_core.specs.Transactions.{Kept}
use Rattle.fjall_calls.specs.Names.{Takes, is_wanted}
use Rattle.fjall_calls.specs.Steps.{is_transaction_named, is_one_open, is_written}
use Rattle.fjall_calls.specs.Steps as steps
use Rattle.fjall_calls.specs.Worlds.{Going, World}
use Rattle.fjall_calls.specs.declared.call.Kind.{Kind}
use Rattle.fjall_calls.specs.declared.call.Kind.TheVariants.{Optimistic, Single}
use Rattle.fjall_calls.specs.declared.named.Named.{Named}
use Rattle.fjall_calls.specs.Serving.{Stands, may_begin}

-- ---- tickets

-- a world has the tickets of the core
pub same_tickets : (core : Held) (kept : Kept) (listed : List Named) (w : World) → Stands core kept listed w → w.told.state.tickets ≡ core.memory.tickets
same_tickets core kept listed w stands = stands.told.machine.remembered.tickets

-- the ticket of a writer is open in both or in neither
same_writer : (core : Held) (writer : Option Ticket) → is_one_open core.memory.tickets writer ≡ is_writing core writer
same_writer core None = refl
same_writer core (Some ticket) = refl

-- so in both one may begin, or in neither
pub same_beginning : (core : Held) (kept : Kept) (listed : List Named) (w : World) (kind : Kind) → Stands core kept listed w → steps.may_begin w kind ≡ may_begin core kept kind
same_beginning core kept listed w Optimistic stands = refl
same_beginning core kept listed w Single stands =
    ap not (ap (λ (t : Tickets). is_one_open t w.writer) (same_tickets core kept listed w stands) ∙ ap (λ (o : Option Ticket). is_one_open core.memory.tickets o) stands.writer ∙ same_writer core kept.writer)

-- ---- what is kept

-- which ticket is the single writer's is of no matter to the commits that are kept
pub other_writer : (core : Held) (kept after : Kept) (t : CoreState) → after.commits ≡ kept.commits → StandFor core kept t → StandFor core after t
other_writer core kept after t same stands = record {
  machine = stands.machine;
  same = stands.same;
  sound = stands.sound;
  checked = stands.checked;
  upto = stands.upto;
  passed = stands.passed;
  keeps = same ∙ stands.keeps;
}

-- ---- names

-- the transaction of a world that stands where the core's does
going_at : (going : List Going) (at : ℕ) (named : Named) → slice_get (map (λ g. g.named) going) at ≡ Some named → (g : Going) × (slice_get going at ≡ Some g) × (g.named ≡ named)
going_at [] at named is = let bad : None ≡ Some named = is in absurd cc
going_at (g ∷ going) zero named is = (g, refl, some_is g.named named is)
going_at (g ∷ going) (suc at) named is = going_at going at named is

all_going : (P : Named → Type 0) (going : List Going) → All P (map (λ g. g.named) going) → All (λ g. P g.named) going
all_going P [] all = All-nil (λ (g : Going). P g.named)
all_going P (g ∷ going) all = All-cons (λ (g : Going). P g.named) g going (All-head P g.named (map (λ h. h.named) going) all) (all_going P going (All-tail P g.named (map (λ h. h.named) going) all))

-- a world without one: what is taken out of the core's list is taken out of the world's
pub record TakesGoing (w : World) (name : ℕ) (kind : Option Kind) (named : Named) (rest : List Named) : Type 0 where
  pub going : Going
  pub others : List Going
  pub takes : Takes (is_transaction_named w name kind) w.going (Some going) others
  pub is : going.named ≡ named
  pub left : map (λ g. g.named) others ≡ rest

pub takes_going : (core : Held) (kept : Kept) (listed rest : List Named) (w : World) (name : ℕ) (kind : Option Kind) (named : Named) → Stands core kept listed w
    → Takes (is_wanted core.memory.tickets name kind) listed (Some named) rest → TakesGoing w name kind named rest
takes_going core kept listed rest w name kind named stands (is, at, here, left) =
    let found = going_at w.going at named (ap (λ (l : List Named). slice_get l at) stands.going ∙ here) in
    let wanted : is_transaction_named w name kind found.0 ≡ true =
    ap (λ (t : Tickets). is_wanted t name kind found.0.named) (same_tickets core kept listed w stands) ∙ ap (is_wanted core.memory.tickets name kind) found.2 ∙ is in
    record {
      going = found.0;
      others = take at w.going ++ drop (at + 1) w.going;
      takes = (wanted, at, found.1, refl);
      is = found.2;
      left = map-append (λ (g : Going). g.named) (take at w.going) (drop (at + 1) w.going)
          ∙ ap (λ (l : List Named). l ++ map (λ g. g.named) (drop (at + 1) w.going)) (sym (take-map (λ (g : Going). g.named) at w.going))
          ∙ ap (λ (l : List Named). take at (map (λ g. g.named) w.going) ++ l) (sym (drop-map (λ (g : Going). g.named) (at + 1) w.going))
          ∙ ap (λ (l : List Named). take at l ++ drop (at + 1) l) stands.going
          ∙ sym left;
    }

pub none_going : (core : Held) (kept : Kept) (listed rest : List Named) (w : World) (name : ℕ) (kind : Option Kind) → Stands core kept listed w
    → Takes (is_wanted core.memory.tickets name kind) listed None rest → All (λ g. is_transaction_named w name kind g ≡ false) w.going
none_going core kept listed rest w name kind stands (none, same) =
    all_going (λ (n : Named). is_wanted w.told.state.tickets name kind n ≡ false) w.going
    (subst (λ (l : List Named). All (λ n. is_wanted w.told.state.tickets name kind n ≡ false) l) (sym stands.going)
    (subst (λ (t : Tickets). All (λ n. is_wanted t name kind n ≡ false) listed) (sym (same_tickets core kept listed w stands)) none))

-- ---- nothing happens

-- a state gone on to itself
pub same_state : (t : CoreState) → gone_on t t.state ≡ t
same_state t =
    let none : drop (length t.state.history.accepted) t.state.history.accepted ≡ [] = drop-length t.state.history.accepted in
    ap (λ (l : List Accepted). record { state = t.state; accepted = t.accepted ++ map plain (commands_of l) }) none ∙ ap (λ (l : List Accepted). record { state = t.state; accepted = l }) (append-nil t.accepted)
