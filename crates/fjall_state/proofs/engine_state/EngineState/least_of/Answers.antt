use Rattle.std.proofs.Common.{◌∙◌, ap, sym}
use Rattle.std.specs.Option.{option_copied, option_map}
use Rattle.fjall_trees.specs.Maps.{store_of}
use Rattle.fjall_meta.specs.declared.living.LivingKeyspace.{LivingKeyspace}
use Rattle.fjall_meta.specs.Keyspaces.{keyspace_at}
use Rattle.fjall_options.specs.declared.options.effective.EffectiveSettings.{EffectiveSettings}
use Rattle.fjall_machine.specs.declared.merge_kind.MergeKind.{MergeKind}
use Rattle.fjall_machine.specs.Machine.{least_of, options_in}
use Rattle.fjall_machine.specs.Remembered.{Remembered}
use Rattle.fjall_machine.proofs.MergeSizes.{held_threshold, said}
use Rattle.fjall_state.proofs.engine_state.EngineState.least_of.Goals as goal

pub returns-in-Due-Some : goal.returns-in-Due-Some
returns-in-Due-Some c =
    let s = c.args.self.now in
    ap (λ (e : EffectiveSettings). e.l0_threshold) c.effective.ensures.settings
    ∙ ap (said (λ e. e.l0_threshold))
    (ap (λ o. option_copied o) (sym c.in-Due-Some.is-1) ∙ c.options_of.ensures ∙ ap (λ (m : Remembered). option_map (λ (k : LivingKeyspace). k.options) (keyspace_at c.args.id m.keyspaces.living)) c.self.view_is)
    ∙ sym (held_threshold s.keyspaces s.trees c.args.id)
    ∙ ap (λ (kind : MergeKind). least_of kind (options_in (store_of s.keyspaces s.trees) c.args.id)) (sym c.in-Due-Some.is-0)

pub returns-in_default : goal.returns-in_default
returns-in_default c =
    let s = c.args.self.now in
    ap (said (λ e. e.l0_threshold))
    (ap (λ o. option_copied o) (sym c.in_default.is-1) ∙ c.options_of.ensures ∙ ap (λ (m : Remembered). option_map (λ (k : LivingKeyspace). k.options) (keyspace_at c.args.id m.keyspaces.living)) c.self.view_is)
    ∙ sym (held_threshold s.keyspaces s.trees c.args.id)
    ∙ ap (λ (kind : MergeKind). least_of kind (options_in (store_of s.keyspaces s.trees) c.args.id)) (sym c.in_default.is-0)
