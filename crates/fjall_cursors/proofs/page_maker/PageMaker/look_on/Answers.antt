use Rattle.fjall_cursors.specs.Pages.{made_with}
use Rattle.fjall_cursors.specs.Runs.{left_in}
use Rattle.fjall_cursors.proofs.Looks.{fewer_after, looked_one}
use Rattle.fjall_cursors.proofs.page_maker.PageMaker.look_on.Goals as goal

pub returns-in-Memory-clause-looked : goal.returns-in-Memory-clause-looked
returns-in-Memory-clause-looked c =
    looked_one c.look_at.result (left_in c.args.run.now) (left_in c.look_at.new.run) (made_with c.args.self.now) (made_with c.look_at.new.self) c.requires.some c.look_at.ensures.left c.look_at.ensures.all

pub returns-in-Memory-clause-fewer : goal.returns-in-Memory-clause-fewer
returns-in-Memory-clause-fewer c = fewer_after c.look_at.result (left_in c.args.run.now) (left_in c.look_at.new.run) c.requires.some c.look_at.ensures.left
