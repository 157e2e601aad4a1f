use Rattle.std.proofs.Common.{◌≤◌, ◌<◌}
use Rattle.std.specs.Prelude.{Contains}
use Rattle.std.proofs.lemmas.List.Elements.{All-contains_itself}
use Rattle.fjall_history.specs.Trackers.{oldest}
use Rattle.fjall_history.proofs.TrackerSound.{at_open, oldest_le}
use Rattle.fjall_history.proofs.tracker_laws.open_instants_are_bounded.Goals as goal

pub returns-clause-among : goal.returns-clause-among
returns-clause-among c i xs there = at_open (Contains xs) i xs there (All-contains_itself xs)

pub returns-clause-reached : goal.returns-clause-reached
returns-clause-reached c i t sound there = at_open (λ x. x ≤ t.visible) i t.instants there sound.reached

pub returns-clause-spared : goal.returns-clause-spared
returns-clause-spared c i t sound there some = at_open (λ x. t.watermark < x) i t.instants there (sound.spared some)

pub returns-clause-oldest : goal.returns-clause-oldest
returns-clause-oldest c i t sound there = at_open (λ x. oldest t ≤ x) i t.instants there (oldest_le t.visible t.instants sound.ascending)
