use Rattle.std.proofs.Common.{[], length, subst, sym, take, ◌≡◌, ◌≤◌, ◌∙◌}
use Rattle.fjall_memtable.specs.Sorted.{in_turn}
use Rattle.fjall_cursors.specs.RunPages.{front_pairs}
use Rattle.fjall_cursors.proofs.RunPaging.{short_page}
use Rattle.fjall_cursors.specs.declared.page_maker.PageMaker.{PageMaker}
use Rattle.fjall_cursors.specs.Pages.{goes_back, made, made_with}
use Rattle.fjall_cursors.proofs.page_maker.PageMaker.finish.Goals as goal

pub returns-in-Front : goal.returns-in-Front
returns-in-Front c =
    let page = c.in-Front.page in
    let few : length (front_pairs page) ≤ c.args.max = subst (λ (maker : PageMaker). length (made maker) ≤ c.args.max) c.in-Front.is c.requires in
    let told = c.finish.ensures ∙ sym (short_page c.args.max (front_pairs page) few) in
    subst (λ (maker : PageMaker). c.finish.result.items ≡ in_turn (goes_back maker) (take c.args.max (made_with maker []))) (sym c.in-Front.is) told
