use Rattle.std.proofs.Common.{◌≡◌, ◌+◌, List, ◌%◌, ◌^◌, arith, refl, rules, subst, sym, take, take_all}
use Rattle.fjall_base.specs.declared.error.Error.TheVariants.{OutOfMemory}
use Rattle.fjall_jobs.specs.declared.made_table.MadeTable.{MadeTable}
use Rattle.fjall_jobs.specs.Sequences.{IsMadeTable}
use Rattle.fjall_compaction.proofs.Naming.{named_at, one_for_each}
use Rattle.fjall_compaction.proofs.MergeReading.{AreEach, each_more, is_reader, made_at, readers_of}
use Rattle.fjall_compaction.proofs.readers.merged_readers.Goals as goal

pub returns-in_default-get-clause-readers : goal.returns-in_default-get-clause-readers
returns-in_default-get-clause-readers c id named = absurd (one_for_each id c.args.next c.args.tables.now c.args.files.now c.loop-at.at named c.loop-at-test.true c.in_default-get.ensures.lookup.0)

pub returns-in_err-reader-clause-only : goal.returns-in_err-reader-clause-only
returns-in_err-reader-clause-only c lists made =
    let there = made_at c.args.tables.now lists c.loop-at.at c.index-tables-at.result made c.loop-at-test.true in
    let only : c.in_err-reader.field-0.0 ≡ OutOfMemory = c.in_err-reader.ensures.only there.0 (subst (λ (t : MadeTable). IsMadeTable t there.0) (sym c.index-tables-at.is) there.1) in
    search rules

pub loop-at-preserved : goal.loop-at-preserved
loop-at-preserved c = record {
  each = λ id named.
      let look = c.in-Some-get.ensures.lookup.3 in
      let one = named_at id c.args.next c.args.tables.now c.args.files.now c.loop-at.at c.in-Some-get.file.now named look.0 in
      let is = is_reader id c.args.next c.loop-at.at c.in-Some-get.file.now c.args.files.now (look.1 c.in-Some-get.file.now) one c.as_str.result.now c.as_str.ensures.value c.index-tables-at.result ((c.args.next + c.loop-at.at) % 2 ^ 64)
      refl c.in_ok-reader.field-0 c.in_ok-reader.ensures.name c.in_ok-reader.ensures.info c.in_ok-reader.ensures.reads in
      subst (AreEach id c.args.next (take (c.loop-at.at + 1) c.args.tables.now)) (sym c.in_ok-push.ensures.items)
      (each_more id c.args.next c.args.tables.now c.loop-at.readers.items c.loop-at.at c.index-tables-at.result c.in_ok-reader.field-0 (c.loop-at.invariant.each id named) c.index-tables-at.is c.loop-at-test.true is);
  few = let before = c.loop-at.invariant.few in let more = c.push.ensures.upper_bound in omega (arith, before, more);
  place = let lt = c.loop-at-test.true in omega (arith, lt);
  room = let before = c.loop-at.invariant.room in let more = c.push.ensures.capacity in omega (arith, before, more);
}

pub returns-clause-readers : goal.returns-clause-readers
returns-clause-readers c id named =
    readers_of id c.args.next c.args.tables.now c.loop-at.readers.items
    (subst (λ (l : List MadeTable). AreEach id c.args.next l c.loop-at.readers.items) (take_all c.loop-at.at c.args.tables.now c.loop-at-test.false) (c.loop-at.invariant.each id named))
