use Rattle.std.proofs.Common.{All, subst, sym, rules}
use Rattle.std.proofs.lemmas.Bool.{true≢false}
use Rattle.fjall_base.specs.Disk.{Name, state_in}
use Rattle.fjall_files.specs.Own.{IsOwnFile}
use Rattle.fjall_files.proofs.OwnEntries.{files_inside, files_named, files_whole, own_entries}
use Rattle.fjall_files.proofs.own.list_own_files.Goals as goal

pub returns-then-not-holds_only_own-clause-exact : goal.returns-then-not-holds_only_own-clause-exact
returns-then-not-holds_only_own-clause-exact g c honest =
    let state = state_in (g.D.Disk.meaning c.args.disk.now) in
    let listed = c.in_ok-folder.folder.entries.items in (
      (λ bad. absurd (true≢false (sym bad))),
      (λ holds. let is = c.holds_only_own.ensures.1 (subst (λ (n : Name). All (IsOwnFile n) listed) (sym c.in_ok-folder.ensures.name) (own_entries state c.args.id listed (c.in_ok-folder.ensures.found honest) holds)) in search rules),
    )

pub returns-clause-own : goal.returns-clause-own
returns-clause-own g c honest =
    let state = state_in (g.D.Disk.meaning c.args.disk.now) in
    let listed = c.in_ok-folder.folder.entries.items in
    let lists = c.in_ok-folder.ensures.found honest in
    let all = subst (λ (n : Name). All (IsOwnFile n) listed) c.in_ok-folder.ensures.name (c.holds_only_own.ensures.0 (let is = c.if-not-holds_only_own.false in search rules)) in
    record {
      folder_is = c.in_ok-folder.ensures.name;
      inside = files_inside state c.args.id listed lists c.in_ok-files.files.items c.in_ok-files.ensures.names;
      named = files_named state c.args.id listed lists c.in_ok-files.files.items c.in_ok-files.ensures.names all;
      whole = files_whole state c.args.id listed lists c.in_ok-files.files.items c.in_ok-files.ensures.names;
    }
