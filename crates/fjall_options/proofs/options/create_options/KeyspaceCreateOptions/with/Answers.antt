use Rattle.std.proofs.Common.{map}
use Rattle.std.proofs.lemmas.List.{map-set}
use Rattle.fjall_options.specs.Options.{kept_bytes, with_value}
use Rattle.fjall_options.proofs.OptionTables.{with_valid}
use Rattle.fjall_options.proofs.options.create_options.KeyspaceCreateOptions.with.Goals as goal

pub invariant_of-self : goal.invariant_of-self
unfolding with_value
invariant_of-self c = rw (c.place.ensures.place, map-set) (with_valid (map kept_bytes c.self.inside.values.items) c.args.option (kept_bytes c.args.value) c.self.invariant c.requires)

pub returns : goal.returns
unfolding with_value
returns c = rw (← c.self.view_is, c.place.ensures.place) (map-set kept_bytes c.self.inside.values.items _ c.args.value)
