use Rattle.std.specs.Prelude.{Some}
use Rattle.fjall_rows.proofs.seen_handing.one_is_handed_what_another_saw.Given as goal

-- the word of the database that was just opened
abbrev pub ghosts-run : goal.ghosts-run
ghosts-run g a = record { table = Some a.opened.table }
