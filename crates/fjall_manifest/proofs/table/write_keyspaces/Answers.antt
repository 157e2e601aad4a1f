use Rattle.std.proofs.Common.{◌≡◌, ◌++◌, [], Err, map, rules}
use Rattle.fjall_meta.specs.Entries.{entries_of}
use Rattle.fjall_manifest.specs.Catalog.{table_entry}
use Rattle.fjall_manifest.proofs.Written.{from_last, from_names, from_options, names_behind, names_front, options_behind, options_front, part_ordered, part_refused, part_written}
use Rattle.fjall_manifest.proofs.table.write_keyspaces.Goals as goal

pub write_all_options-requires : goal.write_all_options-requires
write_all_options-requires c =
    let front = c.args.front.now in
    let behind = c.args.behind.now in
    part_ordered ([]) (options_front front behind) (options_behind front behind ++ (names_front front behind ++ names_behind front behind)) (entries_of (front ++ behind)) c.new-writer.result (from_options front behind) c.requires c.new-writer.ensures

pub returns-in_err-write_all_options-clause-cause : goal.returns-in_err-write_all_options-clause-cause
returns-in_err-write_all_options-clause-cause c =
    let front = c.args.front.now in
    let behind = c.args.behind.now in
    let e = c.in_err-write_all_options.field-0.0 in
    let is : c.from_residual.result ≡ Err e = search rules in
    rw is (part_refused ([]) (options_front front behind) (options_behind front behind ++ (names_front front behind ++ names_behind front behind)) (entries_of (front ++ behind)) (from_options front behind) e c.in_err-write_all_options.ensures.cause)

pub write_all_options-requires-2 : goal.write_all_options-requires-2
write_all_options-requires-2 c =
    let front = c.args.front.now in
    let behind = c.args.behind.now in
    let text-1 : c.write_all_options.new.writer ≡ map table_entry (([]) ++ options_front front behind) = part_written ([]) (options_front front behind) c.new-writer.result c.write_all_options.new.writer c.new-writer.ensures c.in_ok-write_all_options.ensures.ok in
    part_ordered (options_front front behind) (options_behind front behind) (names_front front behind ++ names_behind front behind) (entries_of (front ++ behind)) c.write_all_options.new.writer (from_options front behind) c.requires text-1

pub returns-in_err-write_all_options-2-clause-cause : goal.returns-in_err-write_all_options-2-clause-cause
returns-in_err-write_all_options-2-clause-cause c =
    let front = c.args.front.now in
    let behind = c.args.behind.now in
    let e = c.in_err-write_all_options-2.field-0.0 in
    let is : c.from_residual-in_err-write_all_options-2.result ≡ Err e = search rules in
    rw is (part_refused (options_front front behind) (options_behind front behind) (names_front front behind ++ names_behind front behind) (entries_of (front ++ behind)) (from_options front behind) e c.in_err-write_all_options-2.ensures.cause)

pub write_all_names-requires : goal.write_all_names-requires
write_all_names-requires c =
    let front = c.args.front.now in
    let behind = c.args.behind.now in
    let text-1 : c.write_all_options.new.writer ≡ map table_entry (([]) ++ options_front front behind) = part_written ([]) (options_front front behind) c.new-writer.result c.write_all_options.new.writer c.new-writer.ensures c.in_ok-write_all_options.ensures.ok in
    let text-2 : c.write_all_options-2.new.writer ≡ map table_entry ((options_front front behind) ++ options_behind front behind) = part_written (options_front front behind) (options_behind front behind) c.write_all_options.new.writer c.write_all_options-2.new.writer text-1 c.in_ok-write_all_options-2.ensures.ok in
    part_ordered (options_front front behind ++ options_behind front behind) (names_front front behind) (names_behind front behind) (entries_of (front ++ behind)) c.write_all_options-2.new.writer (from_names front behind) c.requires text-2

pub returns-in_err-write_all_names-clause-cause : goal.returns-in_err-write_all_names-clause-cause
returns-in_err-write_all_names-clause-cause c =
    let front = c.args.front.now in
    let behind = c.args.behind.now in
    let e = c.in_err-write_all_names.field-0.0 in
    let is : c.from_residual-in_err-write_all_names.result ≡ Err e = search rules in
    rw is (part_refused (options_front front behind ++ options_behind front behind) (names_front front behind) (names_behind front behind) (entries_of (front ++ behind)) (from_names front behind) e c.in_err-write_all_names.ensures.cause)

pub write_all_names-requires-2 : goal.write_all_names-requires-2
write_all_names-requires-2 c =
    let front = c.args.front.now in
    let behind = c.args.behind.now in
    let text-1 : c.write_all_options.new.writer ≡ map table_entry (([]) ++ options_front front behind) = part_written ([]) (options_front front behind) c.new-writer.result c.write_all_options.new.writer c.new-writer.ensures c.in_ok-write_all_options.ensures.ok in
    let text-2 : c.write_all_options-2.new.writer ≡ map table_entry ((options_front front behind) ++ options_behind front behind) = part_written (options_front front behind) (options_behind front behind) c.write_all_options.new.writer c.write_all_options-2.new.writer text-1 c.in_ok-write_all_options-2.ensures.ok in
    let text-3 : c.write_all_names.new.writer ≡ map table_entry ((options_front front behind ++ options_behind front behind) ++ names_front front behind) = part_written (options_front front behind ++ options_behind front behind) (names_front front behind) c.write_all_options-2.new.writer c.write_all_names.new.writer text-2 c.in_ok-write_all_names.ensures.ok in
    part_ordered ((options_front front behind ++ options_behind front behind) ++ names_front front behind) (names_behind front behind) ([]) (entries_of (front ++ behind)) c.write_all_names.new.writer (from_last front behind) c.requires text-3

pub returns-in_err-write_all_names-2-clause-cause : goal.returns-in_err-write_all_names-2-clause-cause
returns-in_err-write_all_names-2-clause-cause c =
    let front = c.args.front.now in
    let behind = c.args.behind.now in
    let e = c.in_err-write_all_names-2.field-0.0 in
    let is : c.from_residual-in_err-write_all_names-2.result ≡ Err e = search rules in
    rw is (part_refused ((options_front front behind ++ options_behind front behind) ++ names_front front behind) (names_behind front behind) ([]) (entries_of (front ++ behind)) (from_last front behind) e c.in_err-write_all_names-2.ensures.cause)
