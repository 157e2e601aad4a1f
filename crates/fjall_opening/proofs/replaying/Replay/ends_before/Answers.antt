use Rattle.std.proofs.Common.{List, ◌∙◌, ap, get_or}
use Rattle.fjall_files.specs.Journals.{Sealed}
use Rattle.fjall_opening.proofs.JournalsLeft.{none_at, told_at}
use Rattle.fjall_opening.proofs.replaying.Replay.ends_before.Goals as goal

pub returns-in-Some-clause-told : goal.returns-in-Some-clause-told
returns-in-Some-clause-told c journal is =
    let here : Sealed = c.in-Some.journal.now in
    let look = c.in-Some.ensures.lookup.3 in
    told_at c.args.self.now.sealed.now c.args.place here c.watermarks.result.now c.args.number c.reaches.result
    (look.1 here ∙ ap (λ (js : List Sealed). get_or js c.args.place here) c.journals.ensures) c.watermarks.ensures c.reaches.ensures.reaches c.reaches.ensures.ascending journal is

pub returns-in-None-clause-here : goal.returns-in-None-clause-here
returns-in-None-clause-here c journal is none = absurd (none_at c.journals.result.now c.args.self.now.sealed.now c.args.place journal c.journals.ensures c.in-None.ensures.lookup.0 is)

pub returns-in-None-clause-told : goal.returns-in-None-clause-told
returns-in-None-clause-told c journal is = absurd (none_at c.journals.result.now c.args.self.now.sealed.now c.args.place journal c.journals.ensures c.in-None.ensures.lookup.0 is)
