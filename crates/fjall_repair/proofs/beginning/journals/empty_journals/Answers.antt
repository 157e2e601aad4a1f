use Rattle.std.proofs.Common.{◌≡◌, ◌∙◌, ap, arith, refl, false, get_or, subst}
use Rattle.std.proofs.lemmas.List.{take_all}
use Rattle.std.specs.Prelude.{string_bytes}
use Rattle.fjall_base.specs.Disk.{Meaning, state_in}
use Rattle.fjall_base.proofs.States.{differs}
use Rattle.fjall_repair.proofs.Emptying.{AreEmptied, emptied_more, journal_can, other_name}
use Rattle.fjall_repair.proofs.Moments.{elsewhere, goes_both, goes_none_at}
use Rattle.fjall_files.proofs.Tidying.{stays_both as tidy_both, stays_start, tidy_on}
use Rattle.fjall_repair.proofs.BeginServed.{journal_fits, journal_made}
use Rattle.fjall_repair.proofs.beginning.journals.empty_journals.Goals as goal

pub loop-name-init : goal.loop-name-init
loop-name-init g c = record {
  goes = λ honest ids fit is. goes_none_at false (g.D.Disk.meaning c.args.disk.now);
  elsewhere = λ honest q other. refl;
  emptied = λ honest k d lt. absurd (omega (arith, lt));
  kinds = λ honest ids fit is. stays_start (g.D.Disk.meaning c.args.disk.now);
  served = λ honest tidy ids fit is. refl;
  later = omega arith;
}

pub returns-in_err-empty_file-clause-goes : goal.returns-in_err-empty_file-clause-goes
returns-in_err-empty_file-clause-goes g c honest ids fit is =
    let m : _ → Meaning = g.D.Disk.meaning in
    let at : c.as_str.result.now ≡ string_bytes (get_or c.args.names.now c.loop-name.name-index c.name-item.result) = c.as_str.ensures.value ∙ ap string_bytes c.name-item.is in
    goes_both false (m c.args.disk.now) (m c.loop-name.disk) (m c.empty_file.new.disk) (c.loop-name.invariant.goes honest ids fit is)
    (c.empty_file.ensures.goes honest false (journal_can string_bytes c.args.names.now ids c.loop-name.name-index c.name-item.result c.as_str.result.now at is fit c.loop-name-test.true))

pub returns-in_err-empty_file-clause-elsewhere : goal.returns-in_err-empty_file-clause-elsewhere
returns-in_err-empty_file-clause-elsewhere g c honest q other =
    let m : _ → Meaning = g.D.Disk.meaning in
    let at : c.as_str.result.now ≡ string_bytes (get_or c.args.names.now c.loop-name.name-index c.name-item.result) = c.as_str.ensures.value ∙ ap string_bytes c.name-item.is in
    elsewhere c.as_str.result.now (m c.loop-name.disk) (m c.empty_file.new.disk) q
    (differs q c.as_str.result.now (other_name string_bytes c.args.names.now c.loop-name.name-index c.name-item.result q c.as_str.result.now at c.loop-name-test.true other)) (c.empty_file.ensures.stays honest)
    ∙ c.loop-name.invariant.elsewhere honest q other

pub loop-name-preserved : goal.loop-name-preserved
loop-name-preserved g c =
    let m : _ → Meaning = g.D.Disk.meaning in
    let at : c.as_str.result.now ≡ string_bytes (get_or c.args.names.now c.loop-name.name-index c.name-item.result) = c.as_str.ensures.value ∙ ap string_bytes c.name-item.is in
    let turn = c.in_ok-empty_file.ensures in
    let faults = c.loop-name.invariant.later in
    let more = turn.cause.later in
    record {
      goes = λ honest ids fit is.
          goes_both false (m c.args.disk.now) (m c.loop-name.disk) (m c.empty_file.new.disk) (c.loop-name.invariant.goes honest ids fit is)
          (turn.goes honest false (journal_can string_bytes c.args.names.now ids c.loop-name.name-index c.name-item.result c.as_str.result.now at is fit c.loop-name-test.true));
      elsewhere = λ honest q other.
          elsewhere c.as_str.result.now (m c.loop-name.disk) (m c.empty_file.new.disk) q
          (differs q c.as_str.result.now (other_name string_bytes c.args.names.now c.loop-name.name-index c.name-item.result q c.as_str.result.now at c.loop-name-test.true other)) (turn.stays honest)
          ∙ c.loop-name.invariant.elsewhere honest q other;
      emptied = λ honest.
          emptied_more string_bytes c.args.names.now c.loop-name.name-index c.name-item.result c.as_str.result.now (state_in (m c.loop-name.disk)) (state_in (m c.empty_file.new.disk)) at c.loop-name-test.true
          (c.loop-name.invariant.emptied honest) (λ q not. elsewhere c.as_str.result.now (m c.loop-name.disk) (m c.empty_file.new.disk) q not (turn.stays honest)) (turn.emptied honest);
      kinds = λ honest ids fit is. tidy_both (m c.args.disk.now) (m c.loop-name.disk) (m c.empty_file.new.disk) (c.loop-name.invariant.kinds honest ids fit is) (turn.kinds honest (journal_fits string_bytes c.args.names.now ids c.loop-name.name-index c.name-item.result c.as_str.result.now at is fit c.loop-name-test.true));
      served = λ honest tidy ids fit is. turn.served honest (journal_made string_bytes c.args.names.now ids c.loop-name.name-index c.name-item.result c.as_str.result.now at is fit c.loop-name-test.true (state_in (m c.loop-name.disk))
          (tidy_on (m c.args.disk.now) (m c.loop-name.disk) (c.loop-name.invariant.kinds honest ids fit is) tidy)) ∙ c.loop-name.invariant.served honest tidy ids fit is;
      later = omega (arith, faults, more);
    }

pub returns-clause-emptied : goal.returns-clause-emptied
returns-clause-emptied g c honest =
    let state = state_in (g.D.Disk.meaning c.loop-name.disk) in
    subst (AreEmptied string_bytes state) (take_all c.loop-name.name-index c.args.names.now c.loop-name-test.false) (c.loop-name.invariant.emptied honest)

pub returns-in_err-empty_file-clause-kinds : goal.returns-in_err-empty_file-clause-kinds
returns-in_err-empty_file-clause-kinds g c honest ids fit is =
    let m : _ → Meaning = g.D.Disk.meaning in
    let at : c.as_str.result.now ≡ string_bytes (get_or c.args.names.now c.loop-name.name-index c.name-item.result) = c.as_str.ensures.value ∙ ap string_bytes c.name-item.is in
    tidy_both (m c.args.disk.now) (m c.loop-name.disk) (m c.empty_file.new.disk) (c.loop-name.invariant.kinds honest ids fit is) (c.empty_file.ensures.kinds honest (journal_fits string_bytes c.args.names.now ids c.loop-name.name-index c.name-item.result c.as_str.result.now at is fit c.loop-name-test.true))

pub returns-in_err-empty_file-clause-served : goal.returns-in_err-empty_file-clause-served
returns-in_err-empty_file-clause-served g c honest tidy ids fit is =
    let m : _ → Meaning = g.D.Disk.meaning in
    let at : c.as_str.result.now ≡ string_bytes (get_or c.args.names.now c.loop-name.name-index c.name-item.result) = c.as_str.ensures.value ∙ ap string_bytes c.name-item.is in
    c.empty_file.ensures.served honest (journal_made string_bytes c.args.names.now ids c.loop-name.name-index c.name-item.result c.as_str.result.now at is fit c.loop-name-test.true (state_in (m c.loop-name.disk)) (tidy_on (m c.args.disk.now) (m c.loop-name.disk) (c.loop-name.invariant.kinds honest ids fit is) tidy))
    ∙ c.loop-name.invariant.served honest tidy ids fit is
