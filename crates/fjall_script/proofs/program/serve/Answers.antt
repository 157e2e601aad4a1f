use Rattle.std.proofs.lemmas.Result.{err_from_is_err_and}
use Rattle.fjall_script.proofs.Serving.{all_run, io_is, memory_is, not_opened, not_read, run_until}
use Rattle.fjall_script.proofs.program.serve.Goals as goal

pub returns-in_err-core-clause-failed : goal.returns-in_err-core-clause-failed
returns-in_err-core-clause-failed g c =
    let p = err_from_is_err_and c.from_residual.result c.from_residual.ensures.1 in
    rw (p.1, p.2) (not_opened c.args.mode g.P.Disk.Disk.honest (g.R.Read.remaining c.args.input.now) (g.W.Write.contents c.args.output.now) _ c.in_err-core.ensures.err)

pub returns-in_err-read_to_end-clause-failed : goal.returns-in_err-read_to_end-clause-failed
returns-in_err-read_to_end-clause-failed g c =
    let p = err_from_is_err_and c.from_residual-in_err-read_to_end.result c.from_residual-in_err-read_to_end.ensures.1 in
    rw p.1 (not_read c.args.mode g.P.Disk.Disk.honest (g.R.Read.remaining c.args.input.now) (g.W.Write.contents c.args.output.now) p.0 (io_is p.0 _ p.2).1)

pub returns-in_err-commands-clause-failed : goal.returns-in_err-commands-clause-failed
returns-in_err-commands-clause-failed g c =
    let p = err_from_is_err_and c.from_residual-in_err-commands.result c.from_residual-in_err-commands.ensures.1 in
    rw p.1 (not_read c.args.mode g.P.Disk.Disk.honest (g.R.Read.remaining c.args.input.now) (g.W.Write.contents c.args.output.now) p.0 (memory_is p.0 p.2))

pub returns-clause-answered : goal.returns-clause-answered
returns-clause-answered g c =
    all_run c.args.mode g.P.Disk.Disk.honest c.hears_crashes.result (g.R.Read.remaining c.args.input.now) c.new-text.result.items c.read_to_end.new.buf.items c.as_slice.result.now c.in_ok-commands.commands.items c.as_slice-2.result.now
    c.run_session.result (g.W.Write.contents c.args.output.now) (g.W.Write.contents c.run_session.new.output)
    c.new-text.ensures.items c.in_ok-read_to_end.ensures.bytes c.as_slice.ensures.value c.hears_crashes.ensures c.in_ok-commands.ensures c.as_slice-2.ensures.value c.run_session.ensures.ok

pub returns-clause-failed : goal.returns-clause-failed
returns-clause-failed g c =
    run_until c.args.mode g.P.Disk.Disk.honest c.hears_crashes.result (g.R.Read.remaining c.args.input.now) c.new-text.result.items c.read_to_end.new.buf.items c.as_slice.result.now c.in_ok-commands.commands.items c.as_slice-2.result.now
    c.run_session.result (g.W.Write.contents c.args.output.now) (g.W.Write.contents c.run_session.new.output)
    c.new-text.ensures.items c.in_ok-read_to_end.ensures.bytes c.as_slice.ensures.value c.hears_crashes.ensures c.in_ok-commands.ensures c.as_slice-2.ensures.value c.run_session.ensures.err
