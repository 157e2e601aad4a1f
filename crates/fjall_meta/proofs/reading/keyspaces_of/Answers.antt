use Rattle.std.proofs.Common.{◌≡◌, ◌<◌, ◌^◌, ℕ, List, [], ◌∷◌, ◌++◌, Result, Ok, get_or, take, sym, ◌∙◌, ap, subst, arith}
use Rattle.std.proofs.lemmas.List.{take_more, map_push}
use Rattle.std.proofs.lemmas.List.Elements.{All-push}
use Rattle.std.proofs.lemmas.Result.{err_from_is_err_and}
use Rattle.fjall_base.specs.declared.error.StorageError.{StorageError}
use Rattle.fjall_options.specs.Options.{RefusesStored}
use Rattle.fjall_meta.specs.declared.living.LivingKeyspace.{LivingKeyspace}
use Rattle.fjall_meta.specs.declared.entry.MetaEntry.{MetaEntry}
use Rattle.fjall_meta.specs.Reading.{pairs_of, own_entries, number_in, stored_keyspace, IsStored}
use Rattle.fjall_meta.proofs.Faults.{goes_on, ends}
use Rattle.fjall_meta.proofs.Grouping.{own_keyspace}
use Rattle.fjall_meta.proofs.reading.keyspaces_of.Goals as goal

pub returns-in_err-keyspace-clause-cause : goal.returns-in_err-keyspace-clause-cause
returns-in_err-keyspace-clause-cause c =
    let ids = c.args.ids.now in
    let i = c.loop-id.id-index in
    let id = get_or ids i 0 in
    let entries = c.args.entries.now in
    let own : c.own.result.now ≡ own_entries id entries = c.own.ensures ∙ c.in_ok-groups.ensures.ok id in
    let bound : id < 2 ^ 64 = (let fits = c.type_inv.ids i in omega (arith, fits)) in
    let read : stored_keyspace id (pairs_of c.own.result.now) ≡ stored_keyspace id (pairs_of entries) = ap (λ (es : List MetaEntry). stored_keyspace id (pairs_of es)) own ∙ own_keyspace id entries bound in
    let error = c.in_err-keyspace.field-0.0 in
    let refuses : RefusesStored error (stored_keyspace id (pairs_of entries)) = subst (λ (r : Result (List ℕ × List (List ℕ)) StorageError). RefusesStored error r) read c.in_err-keyspace.ensures.cause in
    let p = err_from_is_err_and c.from_residual-in_err-keyspace.result c.from_residual-in_err-keyspace.ensures.1 in
    rw (p.1, p.2) (ends error ids (pairs_of entries) i c.loop-id-test.true refuses c.loop-id.invariant.fault)

pub loop-id-preserved : goal.loop-id-preserved
loop-id-preserved c =
    let ids = c.args.ids.now in
    let i = c.loop-id.id-index in
    let id = get_or ids i 0 in
    let entries = c.args.entries.now in
    let k = c.in_ok-keyspace.keyspace in
    let facts = c.in_ok-keyspace.ensures in
    let own : c.own.result.now ≡ own_entries id entries = c.own.ensures ∙ c.in_ok-groups.ensures.ok id in
    let bound : id < 2 ^ 64 = (let fits = c.type_inv.ids i in omega (arith, fits)) in
    let whole : stored_keyspace id (pairs_of entries) ≡ Ok (k.name, k.options) =
    sym (own_keyspace id entries bound) ∙ ap (λ (es : List MetaEntry). stored_keyspace id (pairs_of es)) (sym own) ∙ facts.given in
    let one : IsStored entries k = record {
      given = ap (λ (n : ℕ). stored_keyspace n (pairs_of entries)) facts.id ∙ whole;
      number = facts.number ∙ ap (λ (es : List MetaEntry). number_in es) own ∙ ap (λ (n : ℕ). number_in (own_entries n entries)) (sym facts.id);
    } in
    rw c.in_ok-push.ensures.items (record {
      ids = map_push (λ (j : LivingKeyspace). j.id) c.loop-id.living.items k ∙ ap (λ (ns : List ℕ). ns ++ k.id ∷ []) c.loop-id.invariant.ids ∙ ap (λ (n : ℕ). take i ids ++ n ∷ []) facts.id ∙ sym (take_more ids i 0 c.loop-id-test.true);
      stored = All-push (IsStored entries) c.loop-id.living.items k c.loop-id.invariant.stored one;
      fault = goes_on ids (pairs_of entries) i (k.name, k.options) c.loop-id-test.true whole c.loop-id.invariant.fault;
    })
