use Rattle.std.proofs.Common.{◌≡◌, ◌≢◌, ℕ, ◌<◌, Any, get_or, length, ◌∙◌, ap, subst, arith, below_more, string_bytes}
use Rattle.std.proofs.lemmas.List.{get_or_default}
use Rattle.fjall_base.specs.declared.disk.DirEntry.{DirEntry}
use Rattle.fjall_disk_memory.specs.declared.node.Named.{Named}
use Rattle.fjall_base.specs.Disk.{Name, Missing, folder_of}
use Rattle.fjall_disk_memory.specs.Memory.{state_of}
use Rattle.fjall_base.proofs.Lists.{Any-more}
use Rattle.fjall_disk_memory.proofs.Names.{present}
use Rattle.fjall_disk_memory.proofs.node.list_names.Goals as goal

pub loop-named-preserved : goal.loop-named-preserved
loop-named-preserved c =
    let more = c.in_ok-list_name.ensures.more in
    let names = c.args.names.now in
    let i = c.loop-named.named-index in
    let lt : i < length names = omega arith in
    record {
      each = c.in_ok-list_name.ensures.each;
      once = c.in_ok-list_name.ensures.once;
      whole = λ k d below. below_more
          (λ (k : ℕ). (d : Named) → folder_of (string_bytes (get_or names k d).name) ≡ c.args.folder.now → (state_of names (string_bytes (get_or names k d).name)).now ≢ Missing
          → Any (λ entry. string_bytes entry.name ≡ string_bytes (get_or names k d).name) c.list_name.new.listed.items)
          i
          (λ k below d folder there. rw more.1 (Any-more (λ (entry : DirEntry). string_bytes entry.name ≡ string_bytes (get_or names k d).name) c.loop-named.listed.items more.0 (c.loop-named.invariant.whole k d below folder there)))
          (λ d.
          let same : c.named-item.result ≡ get_or names i d = c.named-item.is ∙ get_or_default names i _ d lt in
          subst (λ (n : Named). folder_of (string_bytes n.name) ≡ c.args.folder.now → (state_of names (string_bytes n.name)).now ≢ Missing → Any (λ entry. string_bytes entry.name ≡ string_bytes n.name) c.list_name.new.listed.items)
          same c.in_ok-list_name.ensures.it)
          k below d;
    }

pub returns : goal.returns
returns c =
    let names = c.args.names.now in
    record {
      each = c.loop-named.invariant.each;
      once = c.loop-named.invariant.once;
      whole = λ name folder there.
          let at = present names name there in
          subst (λ (n : Name). Any (λ entry. string_bytes entry.name ≡ n) c.loop-named.listed.items) at.3
          (c.loop-named.invariant.whole at.0 at.1 (omega (arith, at.2)) (ap folder_of at.3 ∙ folder) (λ none. there (subst (λ (n : Name). (state_of names n).now ≡ Missing) at.3 none)));
    }
