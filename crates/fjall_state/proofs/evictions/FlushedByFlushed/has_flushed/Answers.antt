use Rattle.std.proofs.Common.{◌≡◌, ◌∙◌, Some, None, not, true, sym, ap, rules}
use Rattle.std.specs.Option.{is_some}
use Rattle.fjall_meta.specs.Keyspaces.{keyspace_at}
use Rattle.fjall_manifest.specs.Records.{view}
use Rattle.fjall_machine.proofs.Evicting.{told_by}
use Rattle.fjall_state.proofs.evictions.FlushedByFlushed.has_flushed.Goals as goal

pub returns-in-Some : goal.returns-in-Some
returns-in-Some c =
    let s = c.args.self.now.keyspaces.now in
    let lives : is_some (keyspace_at c.args.keyspace_id s.living) ≡ true = search rules in
    let kept = c.in-Some.ensures in
    ap not c.is_beyond.ensures ∙ sym (told_by s c.args.self.now.records.now c.args.keyspace_id c.args.lsn (Some (view c.in-Some.last.now)) lives kept)

pub returns-in-None : goal.returns-in-None
returns-in-None c =
    let s = c.args.self.now.keyspaces.now in
    let lives : is_some (keyspace_at c.args.keyspace_id s.living) ≡ true = search rules in
    let kept = c.in-None.ensures in
    sym (told_by s c.args.self.now.records.now c.args.keyspace_id c.args.lsn None lives kept)
