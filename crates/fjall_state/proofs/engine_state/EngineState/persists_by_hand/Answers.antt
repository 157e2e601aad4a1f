use Rattle.std.proofs.Common.{◌∙◌, ap, sym}
use Rattle.std.specs.Option.{option_copied, option_map}
use Rattle.fjall_options.specs.declared.options.effective.EffectiveSettings.{EffectiveSettings}
use Rattle.fjall_meta.specs.declared.living.LivingKeyspace.{LivingKeyspace}
use Rattle.fjall_meta.specs.Keyspaces.{keyspace_at}
use Rattle.fjall_machine.specs.Remembered.{Remembered}
use Rattle.fjall_machine.proofs.ByHand.{held_says, says_by_hand}
use Rattle.fjall_state.proofs.engine_state.EngineState.persists_by_hand.Goals as goal

pub returns-in-Some : goal.returns-in-Some
returns-in-Some c =
    let s = c.args.self.now in
    ap (λ (e : EffectiveSettings). e.manual_journal_persist) c.effective.ensures.settings
    ∙ ap says_by_hand (ap (λ o. option_copied o) (sym c.in-Some.is) ∙ c.options_of.ensures ∙ ap (λ (m : Remembered). option_map (λ (k : LivingKeyspace). k.options) (keyspace_at c.args.id m.keyspaces.living)) c.self.view_is)
    ∙ sym (held_says s.keyspaces s.trees c.args.id)

pub returns-in-None : goal.returns-in-None
returns-in-None c =
    let s = c.args.self.now in
    ap says_by_hand (ap (λ o. option_copied o) (sym c.in-None.is) ∙ c.options_of.ensures ∙ ap (λ (m : Remembered). option_map (λ (k : LivingKeyspace). k.options) (keyspace_at c.args.id m.keyspaces.living)) c.self.view_is)
    ∙ sym (held_says s.keyspaces s.trees c.args.id)
