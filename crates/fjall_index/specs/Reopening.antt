-- What a core stands for, and on, that was just opened.
use Rattle.std.specs.Prelude.{[]}
use Rattle.fjall_base.specs.Store.{Store}
use Rattle.fjall_core.specs.Durables.{Durable}
use Rattle.fjall_core.specs.Holding.{Held}
use Rattle.fjall_core.specs.Openings.{OpensAs, state_when_opened}
use Rattle.fjall_core.specs.Standing.{CoreState}

-- the state in which it is, where nothing was accepted yet
abbrev pub told_of_opening : (core : Held) (store : Store) → OpensAs core store → CoreState
told_of_opening core store opens = record { state = state_when_opened core store opens.entries [] opens.next; accepted = [] }

-- its store is the base, and nothing is pending
abbrev pub durable_of : Held → Store → Durable
durable_of core store = record { meaning = core.disk; base = store; pending = [] }
