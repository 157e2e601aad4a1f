use Rattle.std.proofs.lemmas.List.Elements.{All-push}
use Rattle.fjall_memtable.specs.Parts.{IsHeld}
use Rattle.fjall_memtable.specs.Held.{held_of}
use Rattle.fjall_memtable.specs.Shares.{shared}
use Rattle.fjall_memtable.proofs.Apart.{all_held}
use Rattle.fjall_memtable.proofs.parts.Parts.until.Goals as goal

pub returns-clause-held : goal.returns-clause-held
returns-clause-held c = let m = c.args.self.now in All-push IsHeld (shared m.sealed.items) (held_of m.active) (all_held m.sealed.items) m.active.held
