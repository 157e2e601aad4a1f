use Rattle.fjall_files.proofs.Folders.{no_slash, table_of}
use Rattle.fjall_files.proofs.names.parse_table_name.Goals as goal

pub returns-in_err-file-clause-all_found : goal.returns-in_err-file-clause-all_found
returns-in_err-file-clause-all_found c id is =
    absurd (no_slash c.args.folder.now c.args.name.now c.in_ok-strip_prefix.field-0.now id c.in_ok-strip_prefix.ensures.cases c.in_err-file.ensures.cases is)

pub returns-clause-spelled : goal.returns-clause-spelled
returns-clause-spelled c =
    table_of c.args.folder.now c.args.name.now c.in_ok-strip_prefix.field-0.now c.in_ok-file.file.now c.in_ok-strip_suffix.field-0.now c.parse_number.result c.in_ok-strip_prefix.ensures.cases c.in_ok-file.ensures.cases c.in_ok-strip_suffix.ensures.cases c.parse_number.ensures.spelled
