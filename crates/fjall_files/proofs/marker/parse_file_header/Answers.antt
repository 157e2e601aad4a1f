use Rattle.std.proofs.Common.{◌≡◌, arith, get_or}
use Rattle.fjall_files.proofs.Headers.{version_behind}
use Rattle.fjall_files.proofs.marker.parse_file_header.Goals as goal

pub returns-in-70 : goal.returns-in-70
returns-in-70 c =
    let f : get_or c.args.bytes.now 0 0 ≡ 70 = omega arith in
    let j : get_or c.args.bytes.now 1 0 ≡ 74 = omega arith in
    let l : get_or c.args.bytes.now 2 0 ≡ 76 = omega arith in
    version_behind c.args.bytes.now c.version_of.result c.in-70.len_at_least f j l (c.version_of.ensures.named, c.version_of.ensures.all_found)
