use Rattle.std.proofs.Common.{◌+◌, ◌<◌, ◌≤◌, ◌∙◌, [], List, ap, drop, length, refl, subst}
use Rattle.fjall_files.specs.Journals.{Sealed}
use Rattle.fjall_trees.specs.Views.{forest_of}
use Rattle.fjall_opening.specs.Replaying.{made_of}
use Rattle.fjall_opening.proofs.JournalsLeft.{none_left, seals_rest}
use Rattle.fjall_opening.proofs.Sealings.{all_parted}
use Rattle.fjall_opening.proofs.replaying.Replay.finish.Goals as goal

pub sealing-init : goal.sealing-init
sealing-init c = record { at = λ loaded front at. at; made = λ counted. refl }

pub sealing-preserved : goal.sealing-preserved
sealing-preserved c =
    let so_far = c.sealing.invariant in
    let sealed = c.in_ok-seal_next.ensures in
    let journals : List Sealed = c.args.self.now.sealed.now in
    let place = c.sealing.rest.place in
    record {
      at = λ loaded front at. sealed.ok loaded front (so_far.at loaded front at);
      made = λ counted.
          ap (λ n. made_of counted (drop n journals) [] (forest_of c.seal_next.new.progress.trees)) sealed.place
          ∙ ap (made_of counted (drop (place + 1) journals) []) sealed.sealed
          ∙ seals_rest counted journals place (forest_of c.sealing.rest.trees) (subst (λ (js : List Sealed). place < length js) c.journals.ensures c.sealing-test.true)
          ∙ so_far.made counted;
    }

pub returns-clause-ok : goal.returns-clause-ok
returns-clause-ok c loaded front at = (c.sealing.invariant.at loaded front at).replayed

pub returns-clause-before : goal.returns-clause-before
returns-clause-before c loaded front at = (c.sealing.invariant.at loaded front at).before

pub returns-clause-parted : goal.returns-clause-parted
returns-clause-parted c loaded front at =
    all_parted c.args.self.now loaded front c.sealing.rest.place (forest_of c.sealing.rest.trees) (subst (λ (js : List Sealed). length js ≤ c.sealing.rest.place) c.journals.ensures c.sealing-test.false) (c.sealing.invariant.at loaded front at)

pub returns-clause-made : goal.returns-clause-made
returns-clause-made c counted =
    none_left counted c.args.self.now.sealed.now c.sealing.rest.place (forest_of c.sealing.rest.trees)
    (subst (λ (js : List Sealed). length js ≤ c.sealing.rest.place) c.journals.ensures c.sealing-test.false)
    ∙ c.sealing.invariant.made counted
