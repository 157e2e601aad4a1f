use Rattle.std.proofs.Common.{◌≡◌, ◌≢◌, [], inr, refl, sym, ap, ◌∙◌, rules}
use Rattle.fjall_base.specs.Disk.{Place, Missing, Folder}
use Rattle.fjall_disk_memory.specs.Memory.{state_of}
use Rattle.fjall_disk_memory.proofs.Names.{found_at, none_at, not_there, no_folder}
use Rattle.fjall_disk_memory.proofs.node.is_there.Goals as goal

pub returns-in-Folder : goal.returns-in-Folder
returns-in-Folder c =
    let at = found_at c.args.names.now c.args.folder.now c.in-Some.at c.index-names-at.result (search rules) in
    (λ _. inr (ap (λ (p : Place). p.now) at ∙ c.in-Folder.ensures), λ _. refl)

pub returns-in_default : goal.returns-in_default
returns-in_default c =
    let none = none_at c.args.names.now c.args.folder.now (search rules) in
    let inner : c.args.folder.now ≢ [] = search rules in
    not_there (state_of c.args.names.now) c.args.folder.now inner (λ stands. let both : Missing ≡ Folder = sym (ap (λ (p : Place). p.now) none) ∙ stands in cc)

pub returns-in_default-kind : goal.returns-in_default-kind
returns-in_default-kind c =
    let at = found_at c.args.names.now c.args.folder.now c.in-Some.at c.index-names-at.result (search rules) in
    let inner : c.args.folder.now ≢ [] = search rules in
    not_there (state_of c.args.names.now) c.args.folder.now inner (λ stands. no_folder c.kind.result _ c.kind.ensures c.in_default-kind.not-Folder (sym (ap (λ (p : Place). p.now) at) ∙ stands))
