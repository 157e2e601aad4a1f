use Rattle.fjall_meta.specs.Keyspaces.{without_keyspace}
use Rattle.fjall_meta.proofs.Orders.{lawful_ascend}
use Rattle.fjall_manifest.proofs.update.prepare_deletion.Goals as goal

pub prepare_keyspaces-requires : goal.prepare_keyspaces-requires
prepare_keyspaces-requires c = rw c.living_without.ensures.left (lawful_ascend (without_keyspace c.args.id c.args.keyspaces.now) c.living_without.ensures.lawful)
