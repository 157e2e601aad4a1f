use Rattle.std.proofs.lemmas.List.{append-nil}
use Rattle.fjall_meta.proofs.Orders.{lawful_ascend}
use Rattle.fjall_manifest.proofs.update.prepare.Goals as goal

pub prepare_keyspaces-requires : goal.prepare_keyspaces-requires
prepare_keyspaces-requires c = rw (append-nil, c.living.ensures) (lawful_ascend c.args.keyspaces.now c.next_id.ensures.lawful)
