use Rattle.std.proofs.Common.{List, OnOk, subst, sym, ◌∷◌, ◌≡◌}
use Rattle.fjall_table.specs.Blocks.{Entry}
use Rattle.fjall_cursors.specs.declared.page_maker.PageMaker.{PageMaker}
use Rattle.fjall_cursors.specs.Pages.{made_with}
use Rattle.fjall_cursors.specs.RunPages.{back_with, front_with}
use Rattle.fjall_cursors.specs.Runs.{left_in}
use Rattle.fjall_cursors.proofs.page_maker.PageMaker.look.Goals as goal

pub returns-in-Front-clause-all : goal.returns-in-Front-clause-all
returns-in-Front-clause-all c =
    subst (λ (maker : PageMaker). OnOk c.look.result ((v : Entry) (rest versions : List Entry) → left_in c.args.run.now ≡ v ∷ rest → front_with c.look.new.self versions ≡ made_with maker (v ∷ versions))) (sym c.in-Front.is) c.look.ensures.all

pub returns-in-Back-clause-all : goal.returns-in-Back-clause-all
returns-in-Back-clause-all c =
    subst (λ (maker : PageMaker). OnOk c.look-in-Back.result ((v : Entry) (rest versions : List Entry) → left_in c.args.run.now ≡ v ∷ rest → back_with c.look-in-Back.new.self versions ≡ made_with maker (v ∷ versions))) (sym c.in-Back.is) c.look-in-Back.ensures.all
