use Rattle.std.proofs.Common.{◌∙◌, ap, nat_lt, sym}
use Rattle.std.specs.Option.{option_copied, option_map}
use Rattle.fjall_journal.specs.Writer.{counted}
use Rattle.fjall_meta.specs.declared.living.LivingKeyspace.{LivingKeyspace}
use Rattle.fjall_meta.specs.Keyspaces.{keyspace_at}
use Rattle.fjall_options.specs.Options.{effective_settings}
use Rattle.fjall_trees.specs.Tables.{shape_in}
use Rattle.fjall_machine.specs.Machine.{active_size}
use Rattle.fjall_machine.specs.Remembered.{Remembered}
use Rattle.fjall_machine.proofs.Sizes.{held_wants, says_too_large}
use Rattle.fjall_state.proofs.engine_state.EngineState.wants_rotation.Goals as goal

pub returns-in-Some : goal.returns-in-Some
returns-in-Some c =
    let s = c.args.self.now in
    let id = c.args.id in
    (λ i. nat_lt (c.effective.ensures.settings i).max_memtable_size (c.active_size.ensures i))
    ∙ ap (λ (m : Remembered). nat_lt (effective_settings c.in-Some.options.now).max_memtable_size (counted (active_size (shape_in id m.trees)))) c.self.view_is
    ∙ ap (says_too_large (counted (active_size (shape_in id s.trees))))
    (ap (λ o. option_copied o) (sym c.in-Some.is) ∙ c.options_of.ensures ∙ ap (λ (m : Remembered). option_map (λ (k : LivingKeyspace). k.options) (keyspace_at id m.keyspaces.living)) c.self.view_is)
    ∙ sym (held_wants s.keyspaces s.trees s.trees id)

pub returns-in-None : goal.returns-in-None
returns-in-None c =
    let s = c.args.self.now in
    let id = c.args.id in
    ap (says_too_large (counted (active_size (shape_in id s.trees))))
    (ap (λ o. option_copied o) (sym c.in-None.is) ∙ c.options_of.ensures ∙ ap (λ (m : Remembered). option_map (λ (k : LivingKeyspace). k.options) (keyspace_at id m.keyspaces.living)) c.self.view_is)
    ∙ sym (held_wants s.keyspaces s.trees s.trees id)
