-- What lines ask for, where crashes are heard or not.
use Rattle.std.specs.Prelude.{◌≡◌, ℕ, Bool, false, List, Option, Some, None}
use Rattle.fjall_lines.specs.declared.command.Command.{Command}
use Rattle.fjall_lines.specs.declared.command.Command.TheVariants.{Crash, CrashWild}
use Rattle.fjall_lines.specs.Lines.{ReadsLine}

-- Over a disk of which nothing is known, as a folder, a crash can't be asked for, a wild one neither, and its line is no command.
abbrev pub heard : Bool → Option Command → Option Command
heard false (Some (Crash keep)) = None
heard false (Some (CrashWild fills)) = None
heard crashes found = found

-- the line asks for this
abbrev pub Hears : Bool → List ℕ → Option Command → Type 0
Hears crashes line found = (read : Option Command) × (ReadsLine line read × (found ≡ heard crashes read))
