use Rattle.std.proofs.Common.{◌≡◌, ◌∙◌, refl, Err, List, ℕ, map, rules, subst}
use Rattle.std.proofs.lemmas.Result.{IfOk-weaker, MatchResult-weaker}
use Rattle.fjall_base.specs.declared.error.StorageError.TheVariants.{TableDamaged}
use Rattle.fjall_table.specs.Blocks.{seen}
use Rattle.fjall_table.specs.Tables.{IsTable}
use Rattle.fjall_table.specs.TableReading.{IsNoTable}
use Rattle.fjall_table.proofs.Damages.{passed_on}
use Rattle.fjall_manifest.proofs.Pairs.{no_index_of, no_pairs_of, no_table_of, table_of}
use Rattle.fjall_manifest.proofs.table.decode_entries.Goals as goal

pub returns-in_err-table-clause-damaged : goal.returns-in_err-table-clause-damaged
returns-in_err-table-clause-damaged c =
    let is : c.from_residual.result ≡ Err c.in_err-table.field-0.0 = search rules in
    rw is (passed_on TableDamaged c.in_err-table.field-0.0 _ _ c.in_err-table.ensures.damaged (no_index_of c.args.info c.args.bytes.now))

pub returns-in_err-versions-clause-damaged : goal.returns-in_err-versions-clause-damaged
returns-in_err-versions-clause-damaged c =
    let is : c.from_residual-in_err-versions.result ≡ Err c.in_err-versions.field-0.0 = search rules in
    rw is (passed_on TableDamaged c.in_err-versions.field-0.0 _ _ c.in_err-versions.ensures.damaged (λ none. no_table_of c.args.info c.args.bytes.now (subst (λ (l : List ℕ). IsNoTable l) c.in_ok-table.ensures.bytes none)))

pub returns-clause-ok : goal.returns-clause-ok
returns-clause-ok c =
    let table : IsTable c.args.bytes.now (map seen c.in_ok-versions.versions.items) = subst (λ (l : List ℕ). IsTable l (map seen c.in_ok-versions.versions.items)) c.in_ok-table.ensures.bytes c.in_ok-versions.ensures.table in
    let items : map seen c.deref.result.now ≡ map seen c.in_ok-versions.versions.items = rw c.deref.ensures.value refl in
    IfOk-weaker c.entries_of.result _ _ (λ entries same. table_of c.args.info c.args.bytes.now _ _ entries.items c.requires c.in_ok-table.ensures.len c.in_ok-table.ensures.index table (same ∙ items)) c.entries_of.ensures.ok

pub returns-clause-damaged : goal.returns-clause-damaged
returns-clause-damaged c =
    let table : IsTable c.args.bytes.now (map seen c.in_ok-versions.versions.items) = subst (λ (l : List ℕ). IsTable l (map seen c.in_ok-versions.versions.items)) c.in_ok-table.ensures.bytes c.in_ok-versions.ensures.table in
    let items : map seen c.in_ok-versions.versions.items ≡ map seen c.deref.result.now = rw c.deref.ensures.value refl in
    MatchResult-weaker c.entries_of.result c.entries_of.ensures.damaged (λ entries none. tt)
    (λ e damaged. passed_on TableDamaged e _ _ damaged (λ none. no_pairs_of c.args.info c.args.bytes.now _ table (λ entries same. none entries (same ∙ items))))
