use Rattle.std.proofs.Common.{◌≤◌, ◌∙◌, List, ap, length, subst, sym, arith}
use Rattle.std.proofs.lemmas.Bool.Decides.{nat_tests}
use Rattle.std.proofs.lemmas.List.{take_all}
use Rattle.std.specs.List.{sum_by}
use Rattle.fjall_journal.specs.Writer.{counted}
use Rattle.fjall_meta.specs.declared.living.LivingKeyspace.{LivingKeyspace}
use Rattle.fjall_meta.specs.Keyspaces.{AreKeyspaces}
use Rattle.fjall_machine.specs.Remembered.{Remembered}
use Rattle.fjall_machine.proofs.Sizes.{buffer_of_living, size_in}
use Rattle.fjall_state.proofs.engine_state.EngineState.write_buffer_size.Goals as goal

pub returns : goal.returns
returns c =
    let s = c.args.self.now in
    let items = c.living-keyspace-items.result.now in
    let index = c.loop-keyspace.keyspace-index in
    let end = c.loop-keyspace-test.false in
    let all : length items ≤ index = grind (arith, nat_tests, end) in
    let are : AreKeyspaces s.keyspaces = subst (λ (m : Remembered). AreKeyspaces m.keyspaces) c.self.view_is c.self.invariant.keyspaces in
    c.loop-keyspace.invariant
    ∙ ap (λ (l : List LivingKeyspace). counted (sum_by (size_in s.trees) l)) (take_all index items all ∙ c.living-keyspace-items.ensures)
    ∙ sym (ap counted (buffer_of_living s.keyspaces are s.trees s.trees))
