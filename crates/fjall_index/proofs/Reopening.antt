-- How a core stands over an index that was just opened.
use Rattle.std.proofs.Common.{◌≡◌, ◌≢◌, ◌+◌, ℕ, true, [], ◌∷◌, refl, sym, subst, ap, arith}
use Rattle.std.specs.FinMap.{contains_key}
use Rattle.fjall_base.specs.Store.{Store, kept}
use Rattle.fjall_history.specs.Moves.{AreSound, Collects}
use Rattle.fjall_history.proofs.Moving.{sound_move, sound_opening}
use Rattle.fjall_history.proofs.Views.{view_of_all}
use Rattle.fjall_history.specs.Tickets.{collected, no_tickets}
use Rattle.fjall_machine.specs.Machine.{State, times}
use Rattle.fjall_core.specs.Holding.{Held}
use Rattle.fjall_core.specs.Openings.{OpensAs}
use Rattle.fjall_core.specs.Transactions.{none_kept}
use Rattle.fjall_core.proofs.Standing.{opening_stands}
use Rattle.fjall_index_entries.specs.Index.{FieldOf}
use Rattle.fjall_index_entries.specs.Keeping.{IsIndexed, IsIndexedAmid}
use Rattle.fjall_index_entries.proofs.Keeps.{kept_indexed}
use Rattle.fjall_index.specs.Reopening.{durable_of, told_of_opening}
use Rattle.fjall_index.specs.Standing.{StandsIndexed}

nothing_pending : (field : FieldOf) (main index : ℕ) (store : Store) → IsIndexed field main index (kept store).maps → IsIndexedAmid field main index store []
nothing_pending field main index store is [] rest e = is
nothing_pending field main index store is (c ∷ front) rest e = let bad : ⊥ = cc in absurd bad

pub opening_keeps : (field : FieldOf) (main index : ℕ) (core : Held) (store : Store) (opens : OpensAs core store) → index ≢ main → contains_key store.names main ≡ true → contains_key store.names index ≡ true
    → IsIndexed field main index store.maps → StandsIndexed field main index opens.next core none_kept (told_of_opening core store opens) (durable_of core store)
opening_keeps field main index core store opens apart main_lives index_lives is = record {
  stands = opening_stands core s opens.state sound refl;
  reads = opens.reads;
  on = opens.base;
  apart = apart;
  main_lives = main_lives;
  index_lives = index_lives;
  main_alone = tt;
  index_alone = tt;
  views = λ instant late. subst (λ (x : Store). IsIndexed field main index x.maps) (sym (view_of_all s.history instant (omega (arith, late)))) is;
  amid = nothing_pending field main index store (kept_indexed field main index store main_lives index_lives is);
}
  where
    s : State
    s = (told_of_opening core store opens).state

    now : opens.next ≡ opens.next + 0
    now = omega arith

    sound : AreSound (times s)
    sound = sound_move (record { history = s.history; tickets = no_tickets }) (times s) (sound_opening s.history) (Collects (ap (λ (n : ℕ). record { history = s.history; tickets = collected n no_tickets }) now))
