use Rattle.std.proofs.Common.{◌≡◌, ◌∷◌}
use Rattle.std.proofs.lemmas.Result.{err_from_is_err_and}
use Rattle.fjall_script.proofs.Passing.{at_stop, closed, none_at_stop, prints_none, prints_run, prints_stop, prints_to_end, until_closing, until_front, until_ok, until_stop}
use Rattle.fjall_script.proofs.Serving.{io_is}
use Rattle.fjall_script.proofs.session.run_session.Goals as goal

pub returns-in_err-rest-clause-err : goal.returns-in_err-rest-clause-err
returns-in_err-rest-clause-err g c =
    let p = err_from_is_err_and c.from_residual.result c.from_residual.ensures.1 in
    rw (p.1, p.2) (until_front c.args.mode g.P.Disk.Disk.honest _ _ _ _ _ _ _ _ _ 0 _ (prints_none c.args.mode g.P.Disk.Disk.honest c.args.commands.now c.args.core.engine c.args.core.transactions (g.W.Write.contents c.args.output.now) c.requires.begins c.requires.none) c.in_err-rest.ensures.err)

pub loop-stop-init : goal.loop-stop-init
loop-stop-init g c =
    let front = c.in_ok-rest.ensures.ok in record {
      so_far = prints_run c.args.mode g.P.Disk.Disk.honest _ _ _ _ _ _ _ _ _ _ 0 _ (prints_none c.args.mode g.P.Disk.Disk.honest c.args.commands.now c.args.core.engine c.args.core.transactions (g.W.Write.contents c.args.output.now) c.requires.begins c.requires.none) front;
      stop = front.ran.stop;
    }

pub returns-in_err-core-clause-err : goal.returns-in_err-core-clause-err
returns-in_err-core-clause-err g c =
    let split : c.loop-stop.rest.now ≡ c.in-Some.stop.now ∷ c.in-Some.after.now = c.in-Some.ensures.cases.0 in
    let p = err_from_is_err_and c.from_residual-in_err-core.result c.from_residual-in_err-core.ensures.1 in
    rw (p.1, p.2) (until_stop c.args.mode g.P.Disk.Disk.honest _ _ _ _ _ _ _ _ _ _ c.loop-stop.invariant.so_far split (at_stop _ _ _ c.loop-stop.invariant.stop split) c.in_err-core.ensures.err)

pub returns-in_err-write_text-clause-err : goal.returns-in_err-write_text-clause-err
returns-in_err-write_text-clause-err g c =
    let split : c.loop-stop.rest.now ≡ c.in-Some.stop.now ∷ c.in-Some.after.now = c.in-Some.ensures.cases.0 in
    let p = err_from_is_err_and c.from_residual-in_err-write_text.result c.from_residual-in_err-write_text.ensures.1 in
    rw p.1 (until_ok c.args.mode g.P.Disk.Disk.honest _ _ _ _ _ _ _ p.0 _ _ _ _ c.loop-stop.invariant.so_far split c.in_ok-core.ensures.ok (io_is p.0 _ p.2).0 c.in_err-write_text.ensures.err)

pub returns-in_err-rest-2-clause-err : goal.returns-in_err-rest-2-clause-err
returns-in_err-rest-2-clause-err g c =
    let split : c.loop-stop.rest.now ≡ c.in-Some.stop.now ∷ c.in-Some.after.now = c.in-Some.ensures.cases.0 in
    let stopped = prints_stop c.args.mode g.P.Disk.Disk.honest c.args.commands.now c.in-Some.stop.now c.loop-stop.rest.now c.in-Some.after.now c.loop-stop.core.engine c.in_ok-core.core.engine _ c.in_ok-core.core.transactions _ _ _ _ c.loop-stop.invariant.so_far split (none_at_stop _ _ _ c.loop-stop.invariant.stop split) c.in_ok-core.ensures.ok c.in_ok-core.ensures.none c.in_ok-write_text.ensures.ok in
    let p = err_from_is_err_and c.from_residual-in_err-rest-2.result c.from_residual-in_err-rest-2.ensures.1 in
    rw (p.1, p.2) (until_front c.args.mode g.P.Disk.Disk.honest _ _ _ _ _ _ _ _ _ _ _ stopped c.in_err-rest-2.ensures.err)

pub loop-stop-preserved : goal.loop-stop-preserved
loop-stop-preserved g c =
    let split : c.loop-stop.rest.now ≡ c.in-Some.stop.now ∷ c.in-Some.after.now = c.in-Some.ensures.cases.0 in
    let stopped = prints_stop c.args.mode g.P.Disk.Disk.honest c.args.commands.now c.in-Some.stop.now c.loop-stop.rest.now c.in-Some.after.now c.loop-stop.core.engine c.in_ok-core.core.engine _ c.in_ok-core.core.transactions _ _ _ _ c.loop-stop.invariant.so_far split (none_at_stop _ _ _ c.loop-stop.invariant.stop split) c.in_ok-core.ensures.ok c.in_ok-core.ensures.none c.in_ok-write_text.ensures.ok in
    let front = c.in_ok-rest-2.ensures.ok in record {
      so_far = prints_run c.args.mode g.P.Disk.Disk.honest _ _ _ _ _ _ _ _ _ _ _ _ stopped front;
      stop = front.ran.stop;
    }

pub returns-clause-ok : goal.returns-clause-ok
returns-clause-ok g c = prints_to_end c.args.mode g.P.Disk.Disk.honest _ _ _ _ _ _ _ _ c.loop-stop.invariant.so_far c.in_default.ensures.cases (closed g.P.Disk.Disk.honest c.loop-stop.core.engine c.close.result.1 (g.P.Disk.Disk.meaning c.close.result.0) c.close.ensures.owes c.close.ensures.disk c.close.ensures.crash)

pub returns-clause-err : goal.returns-clause-err
returns-clause-err g c = until_closing c.args.mode g.P.Disk.Disk.honest _ _ _ _ _ _ _ c.close.result.1 (g.P.Disk.Disk.meaning c.close.result.0) c.loop-stop.invariant.so_far c.in_default.ensures.cases c.close.ensures.owes c.close.ensures.disk c.close.ensures.crash
