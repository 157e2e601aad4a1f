use Rattle.std.proofs.Common.{◌≡◌, ◌∙◌, ◌+◌, List, [], ◌∷◌, ◌++◌, ℕ, map, take, sym, ap}
use Rattle.std.proofs.lemmas.List.{map_more, take_all}
use Rattle.std.specs.Ordering.{eq_by_cmp}
use Rattle.std.specs.Set.{is_member}
use Rattle.fjall_base.specs.Pairs.{byte_order}
use Rattle.fjall_meta.specs.declared.living.LivingKeyspace.{LivingKeyspace}
use Rattle.fjall_meta.proofs.Distinct.{one_more_name, names_apart}
use Rattle.fjall_meta.proofs.meta_keyspace.names_differ.Goals as goal

pub loop-keyspace-preserved : goal.loop-keyspace-preserved
loop-keyspace-preserved c =
    let living = c.args.living.now in
    let i = c.loop-keyspace.keyspace-index in
    let k = c.keyspace-item.result in
    let same : c.in_ok-clone.field-0 ≡ k.name = c.in_ok-clone.ensures.cases in
    let listed : List (List ℕ) = map (λ (j : LivingKeyspace). j.name) (take i living) in
    let more : map (λ (j : LivingKeyspace). j.name) (take (i + 1) living) ≡ listed ++ c.in_ok-clone.field-0 ∷ [] =
    map_more (λ (j : LivingKeyspace). j.name) living i k c.loop-keyspace-test.true ∙ ap (λ (j : LivingKeyspace). listed ++ j.name ∷ []) (sym c.keyspace-item.is) ∙ ap (λ (n : List ℕ). listed ++ n ∷ []) (sym same) in
    λ q. one_more_name c.loop-keyspace.names c.insert.new.self listed c.in_ok-clone.field-0 c.in_ok-insert.ensures.updates.0 c.loop-keyspace.invariant q ∙ ap (λ (ns : List (List ℕ)). is_member (eq_by_cmp byte_order) ns q) (sym more)

pub returns-clause-ok : goal.returns-clause-ok
returns-clause-ok c =
    let living = c.args.living.now in
    let i = c.loop-keyspace.keyspace-index in
    let all : take i living ≡ living = take_all i living c.loop-keyspace-test.false in
    let listed = λ (q : List ℕ). c.loop-keyspace.invariant q ∙ ap (λ (ks : List LivingKeyspace). is_member (eq_by_cmp byte_order) (map (λ (k : LivingKeyspace). k.name) ks) q) all in
    rw c.len.ensures.len (names_apart living c.loop-keyspace.names (listed, c.len.ensures.ordered))
