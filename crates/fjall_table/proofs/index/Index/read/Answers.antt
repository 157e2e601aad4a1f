use Rattle.std.proofs.Common.{length, map, refl, sym, ◌∙◌, arith}
use Rattle.std.proofs.lemmas.Bool.{eqb-true, eqb-false}
use Rattle.std.proofs.lemmas.List.{map_push}
use Rattle.fjall_table.specs.TableReading.{handle_of}
use Rattle.fjall_table.proofs.BlockParts.{whole_takes}
use Rattle.fjall_table.proofs.Indexes.{no_frame, more_behind, no_handle, begins, unreadable, not_following, one_less, reads_more, ends_elsewhere}
use Rattle.fjall_table.proofs.index.Index.read.Goals as goal

pub returns-in_default-clause-damaged : goal.returns-in_default-clause-damaged
returns-in_default-clause-damaged c = (refl, no_frame c.args.framed.now c.args.data_len (omega arith) c.in_default.ensures)

pub returns-then-not-is_empty-clause-damaged : goal.returns-then-not-is_empty-clause-damaged
returns-then-not-is_empty-clause-damaged c = (
  refl,
  more_behind c.args.framed.now c.in-Some.payload.now c.in-Some.behind.now c.args.data_len (omega arith) c.in-Some.ensures (eqb-false (length c.in-Some.behind.now) 0 (sym c.is_empty.ensures ∙ c.if-not-is_empty.true)),
)

pub returns-then-is_empty-clause-damaged : goal.returns-then-is_empty-clause-damaged
returns-then-is_empty-clause-damaged c =
    let whole = whole_takes c.args.framed.now c.in-Some.payload.now c.in-Some.behind.now (λ i. omega (arith, c.type_inv.framed i)) c.in-Some.ensures (eqb-true (length c.in-Some.behind.now) 0 (sym c.is_empty.ensures ∙ c.if-not-is_empty.false)) in
    (refl, no_handle c.args.framed.now c.in-Some.payload.now c.args.data_len whole (omega arith) (eqb-true (length c.in-Some.payload.now) 0 (sym c.is_empty-2.ensures ∙ c.if-is_empty.true)))

pub loop-last_key-init : goal.loop-last_key-init
loop-last_key-init c =
    rw c.new-handles.ensures.items
    (begins c.args.framed.now c.in-Some.payload.now c.in-Some.behind.now c.args.data_len (λ i. omega (arith, c.type_inv.framed i)) c.in-Some.ensures (eqb-true (length c.in-Some.behind.now) 0 (sym c.is_empty.ensures ∙ c.if-not-is_empty.false)) (eqb-false (length c.in-Some.payload.now) 0 (sym c.is_empty-2.ensures ∙ c.if-is_empty.false)))

pub returns-in_default-decode-clause-damaged : goal.returns-in_default-decode-clause-damaged
returns-in_default-decode-clause-damaged c =
    let r = c.loop-last_key.invariant in
    let some = eqb-false (length c.loop-last_key.rest.now) 0 (sym c.is_empty-in-loop-last_key.ensures ∙ c.loop-last_key-test.true) in
    (refl, unreadable c.args.framed.now r.payload c.loop-last_key.rest.now c.loop-last_key.last_key.now (map handle_of c.loop-last_key.handles.items) c.loop-last_key.at c.args.data_len r.whole (omega arith) (omega arith) r.part some c.in_default-decode.ensures)

pub returns-then-not-follows-clause-damaged : goal.returns-then-not-follows-clause-damaged
returns-then-not-follows-clause-damaged c =
    let r = c.loop-last_key.invariant in
    let some = eqb-false (length c.loop-last_key.rest.now) 0 (sym c.is_empty-in-loop-last_key.ensures ∙ c.loop-last_key-test.true) in (
      refl,
      not_following c.args.framed.now r.payload c.loop-last_key.rest.now c.in-Some-decode.after.now c.loop-last_key.last_key.now (map handle_of c.loop-last_key.handles.items) c.loop-last_key.at c.args.data_len (handle_of c.in-Some-decode.handle) r.whole (omega arith) (omega arith) r.part some c.in-Some-decode.ensures
          (λ h. let yes = c.follows.ensures.1 h in let no = c.if-not-follows.true in absurd cc),
    )

pub loop-last_key-smaller : goal.loop-last_key-smaller
loop-last_key-smaller c = one_less c.loop-last_key.rest.now c.in-Some-decode.after.now (handle_of c.in-Some-decode.handle) c.loop-last_key.invariant.part.fits c.in-Some-decode.ensures

pub loop-last_key-preserved : goal.loop-last_key-preserved
loop-last_key-preserved c =
    rw (c.in_ok-push.ensures.items, map_push handle_of c.loop-last_key.handles.items c.in-Some-decode.handle)
    (reads_more c.args.framed.now c.loop-last_key.rest.now c.in-Some-decode.after.now c.loop-last_key.last_key.now (map handle_of c.loop-last_key.handles.items) c.loop-last_key.at c.args.data_len (handle_of c.in-Some-decode.handle) c.loop-last_key.invariant c.in-Some-decode.ensures (c.follows.ensures.0 c.if-not-follows.false))

pub returns-then-at-data_len-clause-damaged : goal.returns-then-at-data_len-clause-damaged
returns-then-at-data_len-clause-damaged c =
    let r = c.loop-last_key.invariant in
    let none = eqb-true (length c.loop-last_key.rest.now) 0 (sym c.is_empty-in-loop-last_key.ensures ∙ c.loop-last_key-test.false) in
    (refl, ends_elsewhere c.args.framed.now r.payload c.loop-last_key.rest.now c.loop-last_key.last_key.now (map handle_of c.loop-last_key.handles.items) c.loop-last_key.at c.args.data_len r.whole (omega arith) (omega arith) r.part none c.if-at-data_len.true)
