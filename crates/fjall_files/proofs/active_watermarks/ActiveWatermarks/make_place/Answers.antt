use Rattle.std.proofs.Common.{◌∙◌, ap}
use Rattle.fjall_files.specs.Places.{told}
use Rattle.fjall_files.proofs.Placing.{told_made}
use Rattle.fjall_files.proofs.active_watermarks.ActiveWatermarks.make_place.Goals.{then-not-contains_key+in_ok-insert, else-not-contains_key}
use Rattle.fjall_files.proofs.active_watermarks.ActiveWatermarks.make_place.Goals as goal

pub returns-clause-told : goal.returns-clause-told
returns-clause-told c = elim c.if-not-contains_key.branch [
  | then-not-contains_key+in_ok-insert w ↦
      ap told w.self-is
      ∙ told_made c.args.keyspace_id c.self.inside.lsns.entries w.insert.new.self.entries c.contains_key.result c.contains_key.ensures w.if-not-contains_key.true w.in_ok-insert.ensures.entries
      ∙ ap told c.self.view_is
  | else-not-contains_key w ↦ ap told w.self-is
]
