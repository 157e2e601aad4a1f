use Rattle.std.proofs.Common.{◌≡◌, ◌-◌, ◌≤◌, length}
use Rattle.fjall_journal.specs.Reading.{IsRestOf}
use Rattle.fjall_journal.specs.Steps.{changes_at}
use Rattle.fjall_journal.proofs.Loops.{with_front}
use Rattle.fjall_journal.proofs.parsing.changes_of.Given as goal

abbrev pub invariant-loop : goal.invariant-loop
invariant-loop l = record {
  so_far : with_front (l.items.items, l.clears.items) (changes_at (l.count - l.counter) l.rest) ≡ changes_at l.count l.bytes;
  shorter : length l.rest ≤ length l.bytes;
  left : IsRestOf l.text l.rest;
}
