use Rattle.std.proofs.Common.{◌<◌, ◌≤◌}
use Rattle.std.proofs.lemmas.Grind.{flat_map-append}
use Rattle.fjall_meta.proofs.Viewing as Viewing
use Rattle.fjall_meta.proofs.replay_laws.batches_make_their_versions.Goals as goal
use Rattle.fjall_meta.specs.Views.{clear_in, entries_in}

pub returns-clause-versions : goal.returns-clause-versions
returns-clause-versions c = λ s id. flat_map-append (entries_in s id)

pub returns-clause-clears : goal.returns-clause-clears
returns-clause-clears c = λ s id. flat_map-append (clear_in s id)

pub returns-clause-from : goal.returns-clause-from
returns-clause-from c = λ s id bound. Viewing.versions_numbered (λ n. bound ≤ n) s id

pub returns-clause-below : goal.returns-clause-below
returns-clause-below c = λ s id bound. Viewing.versions_numbered (λ n. n < bound) s id

pub returns-clause-clears_below : goal.returns-clause-clears_below
returns-clause-clears_below c = λ s id bound. Viewing.clears_numbered (λ n. n < bound) s id
