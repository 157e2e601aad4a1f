use Rattle.std.proofs.Common.{◌≡◌, sym, subst, rules}
use Rattle.std.specs.Prelude.{Some}
use Rattle.fjall_journal.specs.Ops.{BatchItem}
use Rattle.fjall_files.specs.Places.{HasPlace, raising, told}
use Rattle.fjall_files.proofs.Raised.{raised_next, stays_raised}
use Rattle.fjall_files.proofs.active_watermarks.ActiveWatermarks.raise_all.Goals as goal
use Rattle.fjall_files.proofs.active_watermarks.ActiveWatermarks.raise_all.Goals.{then-ne, else-ne}

pub raise-requires : goal.raise-requires
raise-requires c =
    let item = c.item-item.result in
    record {
      place = c.loop-item.invariant.1 item.0
          (subst (λ (i : BatchItem). HasPlace c.args.self.now i.0) (sym c.item-item.is) (c.requires.places c.loop-item.item-index item c.loop-item-test.true));
    }

pub loop-item-preserved : goal.loop-item-preserved
loop-item-preserved c =
    let loop = c.loop-item.invariant in
    let items = c.args.items.now in
    let at = c.loop-item.item-index in
    let item = c.item-item.result in
    let old = told c.args.self.now in
    let mid = told c.loop-item.self in
    elim c.if-ne.branch [
      | then-ne w ↦
          let new = told w.raise.new.self in
          rw w.self-is (rw w.raised-is (
            raised_next c.args.lsn items at item old mid new c.loop-item-test.true c.item-item.is loop.0 w.raise.ensures.raised,
            λ id had. w.raise.ensures.kept id (loop.1 id had),
            stays_raised c.args.lsn item.0 mid new w.raise.ensures.raised,
          ))
      | else-ne w ↦
          let is : c.loop-item.raised ≡ Some item.0 = search rules in
          let again : raising c.args.lsn item.0 mid ≡ mid = rw is at loop.2 in
          rw w.self-is (rw w.raised-is (
            raised_next c.args.lsn items at item old mid mid c.loop-item-test.true c.item-item.is loop.0 (sym again),
            loop.1,
            loop.2,
          ))
    ]
