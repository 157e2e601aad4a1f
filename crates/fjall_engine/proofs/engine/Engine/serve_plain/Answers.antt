use Rattle.std.proofs.Common.{◌≡◌, refl, subst}
use Rattle.fjall_machine.specs.declared.call.Call.{Call}
use Rattle.fjall_machine.specs.declared.call.Call.TheVariants.{Clear, CloneSnapshot, CloseSnapshot, CommitBatch, DeleteKeyspace, FlushBegin, FlushFinish, Gc, GetAt, Ingest, Insert, Keyspace, Maintenance, MajorBegin, MergeBegin, MergeFinish, PageAt, Persist, Release, Remove, RemoveWeak, Retain, RotateJournal, RotateMemtable, Snapshot}
use Rattle.fjall_machine.specs.Shapes.{shape_of}
use Rattle.fjall_engine.specs.Jobs.{IsCount, IsPlain}
use Rattle.fjall_engine.proofs.engine.Engine.serve_plain.Goals as goal

pub serve_count-requires : goal.serve_count-requires
serve_count-requires g c = by c.args.call refl
  where
    no_job : (call : Call) → c.args.call ≡ call → IsPlain (shape_of call)
    no_job call is = subst (λ (call : Call). IsPlain (shape_of call)) is c.requires

    by : (call : Call) → c.args.call ≡ call → IsCount (shape_of call)
    by (Keyspace name options) is = absurd (c.in_default.not-Keyspace name options is)
    by (DeleteKeyspace id) is = absurd (c.in_default.not-DeleteKeyspace id is)
    by (Retain id) is = absurd (c.in_default.not-Retain id is)
    by (Release id) is = absurd (c.in_default.not-Release id is)
    by (Insert id key value) is = absurd (c.in_default.not-Insert id key value is)
    by (Remove id key) is = absurd (c.in_default.not-Remove id key is)
    by (RemoveWeak id key) is = absurd (c.in_default.not-RemoveWeak id key is)
    by (Clear id) is = absurd (c.in_default.not-Clear id is)
    by (CommitBatch items mode) is = absurd (c.in_default.not-CommitBatch items mode is)
    by (Ingest id items) is = absurd (c.in_default.not-Ingest id items is)
    by (RotateMemtable id) is = absurd (c.in_default.not-RotateMemtable id is)
    by RotateJournal is = absurd (c.in_default.not-RotateJournal is)
    by Maintenance is = absurd (c.in_default.not-Maintenance is)
    by (GetAt view id key) is = absurd (c.in_default.not-GetAt view id key is)
    by (PageAt view id range back max) is = absurd (c.in_default.not-PageAt view id range back max is)
    by Snapshot is = absurd (c.in_default.not-Snapshot is)
    by (CloneSnapshot ticket) is = absurd (c.in_default.not-CloneSnapshot ticket is)
    by (CloseSnapshot ticket) is = absurd (c.in_default.not-CloseSnapshot ticket is)
    by Gc is = absurd (c.in_default.not-Gc is)
    by (Persist mode) is = absurd (c.in_default.not-Persist mode is)
    by (FlushBegin id) is = absurd (no_job (FlushBegin id) is)
    by (FlushFinish job) is = absurd (no_job (FlushFinish job) is)
    by (MergeBegin id) is = absurd (no_job (MergeBegin id) is)
    by (MajorBegin id) is = absurd (no_job (MajorBegin id) is)
    by (MergeFinish job) is = absurd (no_job (MergeFinish job) is)
    by call is = tt
