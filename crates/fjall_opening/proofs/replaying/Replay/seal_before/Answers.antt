use Rattle.std.proofs.Common.{◌≡◌, ◌∙◌, ◌∷◌, ◌+◌, Bool, List, drop, false, not, true, ap, sym, subst}
use Rattle.fjall_trees.specs.Views.{forest_of}
use Rattle.std.proofs.lemmas.Option.{slice_get_within}
use Rattle.fjall_opening.specs.Replaying.{ArePast}
use Rattle.fjall_trees.specs.Forests.{Forest}
use Rattle.fjall_opening.specs.Replaying.{made_of, tell_up_to}
use Rattle.fjall_opening.proofs.JournalsLeft.{seals_one}
use Rattle.fjall_opening.proofs.Sealings.{past_one, reached_here}
use Rattle.fjall_opening.proofs.replaying.Replay.seal_before.Goals as goal

pub seal_next-requires : goal.seal_next-requires
seal_next-requires c =
    let left = c.ends_before.ensures.left c.sealing-test.true in
    slice_get_within c.args.self.now.sealed.now c.sealing.progress.place left.0 left.1

pub sealing-preserved : goal.sealing-preserved
sealing-preserved c =
    let so_far = c.sealing.invariant in
    let left = c.ends_before.ensures.left c.sealing-test.true in
    let sealed = c.in_ok-seal_next.ensures in
    record {
      at = λ loaded front at. sealed.ok loaded front (so_far.at loaded front at);
      past = λ past. subst (λ place. ArePast c.args.self.now place c.args.number) (sym sealed.place) (past_one c.args.self.now (forest_of c.args.progress.now.trees) c.sealing.progress.place c.args.number left.0 (so_far.past past) left.1 left.2);
      least = sealed.least ∙ so_far.least;
      ended = λ ended. sealed.ended (so_far.ended ended);
      made = λ counted batch rest is.
          let over : tell_up_to left.0.watermarks batch.number ≡ false = ap (tell_up_to left.0.watermarks) is ∙ c.ends_before.ensures.told left.0 left.1 ∙ ap not c.sealing-test.true in
          ap (λ place. made_of counted (drop place c.args.self.now.sealed.now) (batch ∷ rest) (forest_of c.seal_next.new.progress.trees)) sealed.place
          ∙ ap (made_of counted (drop (c.sealing.progress.place + 1) c.args.self.now.sealed.now) (batch ∷ rest)) sealed.sealed
          ∙ seals_one counted c.args.self.now.sealed.now c.sealing.progress.place left.0 batch rest (forest_of c.sealing.progress.trees) left.1 over
          ∙ so_far.made counted batch rest is;
    }

pub returns-clause-here : goal.returns-clause-here
returns-clause-here c journal is = reached_here c.args.number journal c.ends_before.result c.sealing-test.false (λ none. c.ends_before.ensures.here journal is none)

pub returns-clause-told : goal.returns-clause-told
returns-clause-told c journal is = c.ends_before.ensures.told journal is ∙ ap not c.sealing-test.false
