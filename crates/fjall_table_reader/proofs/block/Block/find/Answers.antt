use Rattle.std.proofs.Common.{IfSome, Option, ap, length, option_and_then, slice_get, subst, sym, ◌∙◌, ◌<◌, ℕ}
use Rattle.fjall_table_reader.proofs.Readers.{found_is}
use Rattle.fjall_table_reader.proofs.block.Block.find.Goals as goal

pub returns-in_default-clause-found : goal.returns-in_default-clause-found
returns-in_default-clause-found c = sym (c.newest.ensures.version ∙ ap (option_and_then (slice_get c.args.self.now)) c.in_default.is)

pub returns-clause-found : goal.returns-clause-found
returns-clause-found c =
    let version = c.newest.ensures.version ∙ ap (option_and_then (slice_get c.args.self.now)) c.in-Some.is in
    let within = subst (λ (o : Option ℕ). IfSome o (λ at. at < length c.args.self.now)) c.in-Some.is c.newest.ensures.within in
    found_is c.args.key.now c.args.instant c.args.self.now c.in-Some.at c.in_ok-found.field-0 version within c.in_ok-found.ensures.found
