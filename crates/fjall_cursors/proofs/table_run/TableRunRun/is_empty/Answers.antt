use Rattle.std.proofs.Common.{ap, arith, sym, ◌∙◌}
use Rattle.std.specs.Option.{option_map}
use Rattle.std.proofs.lemmas.Bool.Decides.{nat_tests}
use Rattle.fjall_cursors.specs.Parts.{TablePart, entries_in, left_of}
use Rattle.fjall_cursors.proofs.Parts.{nothing_held, places_meet}
use Rattle.fjall_cursors.proofs.table_run.TableRunRun.is_empty.Goals as goal

pub returns : goal.returns
returns c =
    let r = c.self.inside in
    let es = entries_in (option_map (λ b. b.value) r.block) in
    let view = ap (λ (p : TablePart). left_of p) c.self.view_is in (
      λ yes. sym view ∙ nothing_held r.back es r.start r.end (grind (arith, nat_tests, yes)),
      λ none. let meet = places_meet r.back es r.start r.end c.self.invariant.0 c.self.invariant.1 (view ∙ none) in grind (arith, nat_tests, meet),
    )
