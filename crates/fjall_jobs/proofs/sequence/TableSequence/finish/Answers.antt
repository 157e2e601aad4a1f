use Rattle.std.proofs.Common.{◌<◌, ◌≤◌, [], ◌∷◌, ◌++◌, arith, subst, sym, length}
use Rattle.fjall_jobs.specs.declared.sequence.TableSequence.{TableSequence}
use Rattle.fjall_jobs.specs.Sequences.{AreMadeTables}
use Rattle.fjall_jobs.proofs.Finishing.{all_closed, none_open}
use Rattle.fjall_jobs.proofs.sequence.TableSequence.finish.Goals as goal
use Rattle.fjall_jobs.proofs.sequence.TableSequence.finish.Goals.{then-entry_count-gt0+in_ok-close, else-entry_count-gt0}

pub returns-clause-tables : goal.returns-clause-tables
returns-clause-tables c closed s =
    let n = c.entry_count.ensures in
    elim c.if-entry_count-gt0.branch [
      | then-entry_count-gt0+in_ok-close w ↦
          let some : 0 < length c.args.self.writer = omega (arith, w.if-entry_count-gt0.true) in
          all_closed c.args.self.target closed c.args.self.writer c.if-entry_count-gt0.self.closed.items s.parted some
          (λ apart. subst (λ (t : TableSequence). AreMadeTables t.closed.items (closed ++ c.args.self.writer ∷ [])) (sym w.self-is) (w.in_ok-close.ensures.closed closed s.made apart))
      | else-entry_count-gt0 w ↦
          let none : length c.args.self.writer ≤ 0 = omega (arith, w.if-entry_count-gt0.false) in
          none_open c.args.self.target closed c.args.self.writer c.if-entry_count-gt0.self.closed.items s.parted s.begun none
          (subst (λ (t : TableSequence). AreMadeTables t.closed.items closed) (sym w.self-is) s.made)
    ]
