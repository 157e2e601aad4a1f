use Rattle.std.proofs.Common.{◌≡◌, true, false, string_bytes, rules}
use Rattle.std.specs.List.{list_any}
use Rattle.std.proofs.lemmas.List.Quantifiers.{Any-push}
use Rattle.fjall_base.specs.declared.disk.DirEntry.{DirEntry}
use Rattle.fjall_disk_memory.proofs.Listed.{has_name, is_among, apart-push}
use Rattle.fjall_disk_memory.proofs.node.list_name.Goals as goal

pub returns-then-is_listed-clause-it : goal.returns-then-is_listed-clause-it
returns-then-is_listed-clause-it c folder there =
    let found : list_any (has_name (string_bytes c.args.named.now.name)) c.args.listed.now.items ≡ true = search rules in
    is_among _ c.args.listed.now.items found

pub returns-clause-once : goal.returns-clause-once
returns-clause-once c =
    let none : list_any (has_name (string_bytes c.args.named.now.name)) c.args.listed.now.items ≡ false = search rules in
    rw c.in_ok-push.ensures.items (apart-push c.args.listed.now.items (string_bytes c.args.named.now.name) _ (search rules) none c.requires.once)

pub returns-clause-it : goal.returns-clause-it
returns-clause-it c folder there =
    rw c.in_ok-push.ensures.items (Any-push (λ (entry : DirEntry). string_bytes entry.name ≡ string_bytes c.args.named.now.name) c.args.listed.now.items _ (search rules))
