use Rattle.std.proofs.Common.{length, map, refl, sym, ◌∙◌, arith}
use Rattle.std.specs.Option.{option_map}
use Rattle.std.proofs.lemmas.Bool.{eqb-true, eqb-false}
use Rattle.std.proofs.lemmas.List.{map_push}
use Rattle.fjall_table.specs.Blocks.{seen}
use Rattle.fjall_table.proofs.BlockParts.{whole_takes, no_frame, more_behind, no_entry, nothing_read, unreadable, too_late, out_of_order, one_more, one_less, done}
use Rattle.fjall_table.proofs.block.read_block.Goals as goal

pub returns-in_default-clause-damaged : goal.returns-in_default-clause-damaged
returns-in_default-clause-damaged c = (refl, no_frame c.args.bytes.now c.in_default.ensures)

pub returns-then-not-is_empty-clause-damaged : goal.returns-then-not-is_empty-clause-damaged
returns-then-not-is_empty-clause-damaged c =
    (refl, more_behind c.args.bytes.now c.in-Some.payload.now c.in-Some.behind.now c.in-Some.ensures (eqb-false (length c.in-Some.behind.now) 0 (sym c.is_empty.ensures ∙ c.if-not-is_empty.true)))

pub returns-then-is_empty-clause-damaged : goal.returns-then-is_empty-clause-damaged
returns-then-is_empty-clause-damaged c =
    let whole = whole_takes c.args.bytes.now c.in-Some.payload.now c.in-Some.behind.now (λ i. omega (arith, c.type_inv.bytes i)) c.in-Some.ensures (eqb-true (length c.in-Some.behind.now) 0 (sym c.is_empty.ensures ∙ c.if-not-is_empty.false)) in
    (refl, no_entry c.args.bytes.now c.in-Some.payload.now whole (eqb-true (length c.in-Some.payload.now) 0 (sym c.is_empty-2.ensures ∙ c.if-is_empty.true)))

pub loop-payload-init : goal.loop-payload-init
loop-payload-init c =
    let whole = whole_takes c.args.bytes.now c.in-Some.payload.now c.in-Some.behind.now (λ i. omega (arith, c.type_inv.bytes i)) c.in-Some.ensures (eqb-true (length c.in-Some.behind.now) 0 (sym c.is_empty.ensures ∙ c.if-not-is_empty.false)) in
    rw c.new-versions.ensures.items (nothing_read c.in-Some.payload.now whole.fits)

pub returns-in_default-decode-clause-damaged : goal.returns-in_default-decode-clause-damaged
returns-in_default-decode-clause-damaged c =
    let whole = whole_takes c.args.bytes.now c.in-Some.payload.now c.in-Some.behind.now (λ i. omega (arith, c.type_inv.bytes i)) c.in-Some.ensures (eqb-true (length c.in-Some.behind.now) 0 (sym c.is_empty.ensures ∙ c.if-not-is_empty.false)) in
    let some = eqb-false (length c.loop-payload.rest.now) 0 (sym c.is_empty-in-loop-payload.ensures ∙ c.loop-payload-test.true) in
    (refl, unreadable c.args.bytes.now c.in-Some.payload.now c.loop-payload.rest.now (map seen c.loop-payload.versions.items) (option_map seen c.loop-payload.last) whole c.loop-payload.invariant some c.in_default-decode.ensures)

pub returns-then-payload-rest-ge-BLOCK_BYTES-clause-damaged : goal.returns-then-payload-rest-ge-BLOCK_BYTES-clause-damaged
returns-then-payload-rest-ge-BLOCK_BYTES-clause-damaged c =
    let whole = whole_takes c.args.bytes.now c.in-Some.payload.now c.in-Some.behind.now (λ i. omega (arith, c.type_inv.bytes i)) c.in-Some.ensures (eqb-true (length c.in-Some.behind.now) 0 (sym c.is_empty.ensures ∙ c.if-not-is_empty.false)) in
    let some = eqb-false (length c.loop-payload.rest.now) 0 (sym c.is_empty-in-loop-payload.ensures ∙ c.loop-payload-test.true) in
    (refl, too_late c.args.bytes.now c.in-Some.payload.now c.loop-payload.rest.now (map seen c.loop-payload.versions.items) (option_map seen c.loop-payload.last) whole c.loop-payload.invariant some c.if-payload-rest-ge-BLOCK_BYTES.true)

pub returns-then-not-follows-clause-damaged : goal.returns-then-not-follows-clause-damaged
returns-then-not-follows-clause-damaged c =
    let whole = whole_takes c.args.bytes.now c.in-Some.payload.now c.in-Some.behind.now (λ i. omega (arith, c.type_inv.bytes i)) c.in-Some.ensures (eqb-true (length c.in-Some.behind.now) 0 (sym c.is_empty.ensures ∙ c.if-not-is_empty.false)) in
    let some = eqb-false (length c.loop-payload.rest.now) 0 (sym c.is_empty-in-loop-payload.ensures ∙ c.loop-payload-test.true) in (
      refl,
      out_of_order c.args.bytes.now c.in-Some.payload.now c.loop-payload.rest.now c.in-Some-decode.after.now (map seen c.loop-payload.versions.items) (option_map seen c.loop-payload.last) (seen c.in-Some-decode.version) whole c.loop-payload.invariant some c.in-Some-decode.ensures
          (λ h. let yes = c.follows.ensures.1 h in let no = c.if-not-follows.true in absurd cc),
    )

pub loop-payload-smaller : goal.loop-payload-smaller
loop-payload-smaller c = one_less c.loop-payload.rest.now c.in-Some-decode.after.now (seen c.in-Some-decode.version) c.loop-payload.invariant.fits c.in-Some-decode.ensures

pub loop-payload-preserved : goal.loop-payload-preserved
loop-payload-preserved c =
    rw (c.in_ok-push.ensures.items, map_push seen c.loop-payload.versions.items c.in-Some-decode.version)
    (one_more c.in-Some.payload.now c.loop-payload.rest.now c.in-Some-decode.after.now (map seen c.loop-payload.versions.items) (option_map seen c.loop-payload.last) (seen c.in-Some-decode.version) c.loop-payload.invariant c.in-Some-decode.ensures c.if-payload-rest-ge-BLOCK_BYTES.false (c.follows.ensures.0 c.if-not-follows.false))

pub returns-clause-block : goal.returns-clause-block
returns-clause-block c =
    let whole = whole_takes c.args.bytes.now c.in-Some.payload.now c.in-Some.behind.now (λ i. omega (arith, c.type_inv.bytes i)) c.in-Some.ensures (eqb-true (length c.in-Some.behind.now) 0 (sym c.is_empty.ensures ∙ c.if-not-is_empty.false)) in
    done c.args.bytes.now c.in-Some.payload.now c.loop-payload.rest.now (map seen c.loop-payload.versions.items) (option_map seen c.loop-payload.last) whole c.loop-payload.invariant
    (eqb-true (length c.loop-payload.rest.now) 0 (sym c.is_empty-in-loop-payload.ensures ∙ c.loop-payload-test.false))
    (eqb-false (length c.in-Some.payload.now) 0 (sym c.is_empty-2.ensures ∙ c.if-is_empty.false))
