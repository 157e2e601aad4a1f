use Rattle.std.proofs.lemmas.Result.{err_from_is_err_and}
use Rattle.fjall_script.proofs.Passing.{front_half, front_refused}
use Rattle.fjall_script.proofs.Serving.{io_is}
use Rattle.fjall_script.proofs.session.run_front.Goals as goal

pub returns-in_err-rest-clause-err : goal.returns-in_err-rest-clause-err
returns-in_err-rest-clause-err g c =
    let p = err_from_is_err_and c.from_residual.result c.from_residual.ensures.1 in
    rw (p.1, p.2) (front_refused g.D.Disk.honest c.args.earlier c.args.commands.now c.args.core.now.engine c.answer_front.new.core.engine c.args.core.now.transactions c.answer_front.new.core.transactions (g.W.Write.contents c.args.output.now) _ c.in_err-rest.ensures.only)

pub returns-in_err-write_text-clause-err : goal.returns-in_err-write_text-clause-err
returns-in_err-write_text-clause-err g c =
    let p = err_from_is_err_and c.from_residual-in_err-write_text.result c.from_residual-in_err-write_text.ensures.1 in
    rw p.1 (front_half g.D.Disk.honest c.args.earlier c.args.commands.now c.in_ok-rest.rest.now c.args.core.now.engine c.answer_front.new.core.engine c.args.core.now.transactions c.answer_front.new.core.transactions _ c.as_bytes.result.now c.in_ok-rest.asked
    (g.W.Write.contents c.args.output.now) (g.W.Write.contents c.write_text.new.output) p.0 c.in_ok-rest.ensures.ok c.as_bytes.ensures.value c.in_err-write_text.ensures.err (io_is p.0 _ p.2).0)
