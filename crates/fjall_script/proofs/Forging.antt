-- Where no line asks for a wild crash, nothing is forged.
use Rattle.std.proofs.Common.{◌≡◌, ℕ, Bool, true, false, List, [], ◌∷◌, ◌++◌, Option, Some, None, subst}
use Rattle.std.specs.Prelude.{All}
use Rattle.std.proofs.lemmas.Bool.{true≢false}
use Rattle.std.proofs.lemmas.List.Elements.{All-head, All-tail}
use Rattle.fjall_journal.specs.declared.recovery_mode.RecoveryMode.{RecoveryMode}
use Rattle.fjall_base.specs.Disk.{Meaning}
use Rattle.fjall_calls.specs.Holding.{Held}
use Rattle.fjall_calls.specs.Transactions.{Kept}
use Rattle.fjall_lines.specs.declared.command.Command.{Command}
use Rattle.fjall_lines.specs.declared.command.Command.TheVariants.{Ask, Crash, CrashWild, Reopen}
use Rattle.fjall_script.specs.Requests.{is_wild_crash}
use Rattle.fjall_script.specs.Sessions as sessions
use Rattle.fjall_script.specs.Sessions.{ForgesNothing, IsUnforgedStop, Session}
use Rattle.fjall_script.proofs.Answered.{answered}

abbrev IsTame : Option Command → Type 0
IsTame found = is_wild_crash found ≡ false

-- one of them
tame_at : (front : List (Option Command)) (stop : Option Command) (rest : List (Option Command)) → All IsTame (front ++ stop ∷ rest) → IsTame stop
tame_at [] stop rest tame = All-head IsTame stop rest tame
tame_at (found ∷ front) stop rest tame = tame_at front stop rest (All-tail IsTame found (front ++ stop ∷ rest) tame)

tame_stop : (stop : Option Command) (disk : Meaning) → IsTame stop → IsUnforgedStop stop disk
tame_stop None disk tame = tt
tame_stop (Some (Ask request)) disk tame = tt
tame_stop (Some (Crash keep)) disk tame = tt
tame_stop (Some (CrashWild fills)) disk tame = absurd (true≢false tame)
tame_stop (Some Reopen) disk tame = tt

pub none_forge : (mode : RecoveryMode) (honest : Bool) (commands rest : List (Option Command)) (ran : Bool) (core : Held) (kept : Kept) (printed : List (List ℕ)) → All IsTame commands → (session : Session mode honest commands ran core kept printed rest)
    → ForgesNothing session
none_forge mode honest commands _ _ _ _ _ tame (sessions.begun core h) = tt
none_forge mode honest commands _ _ _ _ _ tame (sessions.run old new before after printed lines rest made replies s alone stop are runs) = none_forge mode honest commands (lines ++ rest) false old before printed tame s
none_forge mode honest commands _ _ _ _ _ tame (sessions.restarted old new before printed stop rest s r) =
    let parts = answered mode honest commands (stop ∷ rest) true old before printed s in
    (none_forge mode honest commands (stop ∷ rest) true old before printed tame s, tame_stop stop old.disk (tame_at parts.0 stop rest (subst (All IsTame) parts.1 tame)))
