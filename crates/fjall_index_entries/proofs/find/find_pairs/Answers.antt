use Rattle.std.proofs.Common.{◌≡◌, IfOk, Some, length, sym, ◌∙◌, ap, subst}
use Rattle.std.specs.Prelude.{All}
use Rattle.std.proofs.lemmas.Result.{IfOk-weaker}
use Rattle.fjall_base.specs.Pairs.{lookup, pairs_between}
use Rattle.fjall_index_entries.specs.Entries.{front}
use Rattle.fjall_index_entries.specs.Index.{index_of}
use Rattle.fjall_index_entries.specs.Finding.{behind_all, keys_in, valued}
use Rattle.fjall_index_entries.proofs.Finding.{valued_stand, values_are_found}
use Rattle.fjall_index_entries.proofs.find.find_pairs.Goals as goal

-- the keys behind the fronts of what was read are those of the pairs that have the field
pub returns-clause-found : goal.returns-clause-found
returns-clause-found g c of map main index =
    let w = c.args.field.now in
    let at_main = c.read_keys.ensures.same (g.K.Identified.identity c.args.main.now) map main in
    let long : c.len-front.result ≡ length (front w) = c.len-front.ensures.value ∙ ap length c.in_ok-entry_of.ensures.ok in
    let read = c.in_ok-entries.ensures.keys (index_of of map) index in
    let within = ap (λ r. pairs_between r (index_of of map)) c.in_ok-range.ensures.ok in
    subst (λ pairs. IfOk c.values_of.result (λ found. found.items ≡ pairs))
    (ap (λ n. valued map (behind_all n c.deref.result.now)) long
    ∙ ap (λ keys. valued map (behind_all (length (front w)) keys)) (c.deref.ensures.value ∙ read ∙ ap keys_in (within ∙ c.a_range_finds_the_field.ensures of w map))
    ∙ values_are_found of map w)
    (c.values_of.ensures.ok map at_main)

-- what was found stands in the main keyspace
pub returns-clause-stand : goal.returns-clause-stand
returns-clause-stand g c map main =
    let at_main = c.read_keys.ensures.same (g.K.Identified.identity c.args.main.now) map main in
    IfOk-weaker c.values_of.result (λ found. found.items ≡ valued map (behind_all c.len-front.result c.deref.result.now)) (λ found. All (λ pair. lookup map pair.0 ≡ Some pair.1) found.items)
    (λ found is. subst (All (λ pair. lookup map pair.0 ≡ Some pair.1)) (sym is) (valued_stand map (behind_all c.len-front.result c.deref.result.now)))
    (c.values_of.ensures.ok map at_main)
