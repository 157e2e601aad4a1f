use Rattle.fjall_script.proofs.Forging.{none_forge}
use Rattle.fjall_script.proofs.laws.only_wild_crashes_forge.Goals as goal

pub returns : goal.returns
returns c mode honest commands rest ran core kept printed = none_forge mode honest commands rest ran core kept printed
