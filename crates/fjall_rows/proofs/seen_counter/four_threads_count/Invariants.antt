use Rattle.std.specs.Prelude.{Some}
use Rattle.fjall_rows.proofs.seen_counter.four_threads_count.Given as goal

-- the word of the database that was just opened
abbrev pub ghosts-run : goal.ghosts-run
ghosts-run g a = record { table = Some a.opened.table }
