use Rattle.std.proofs.Common.{length}
use Rattle.std.specs.Option.{option_map}
use Rattle.fjall_manifest.specs.Records.{view}
use Rattle.fjall_manifest.proofs.Currents.{SoFar}
use Rattle.fjall_manifest.proofs.current.read_current.Given as goal

abbrev pub invariant-loop-payload : goal.invariant-loop-payload
invariant-loop-payload l = SoFar l.bytes (option_map view l.record) l.rest

abbrev pub decreases-loop-payload : goal.decreases-loop-payload
decreases-loop-payload l = length l.rest
