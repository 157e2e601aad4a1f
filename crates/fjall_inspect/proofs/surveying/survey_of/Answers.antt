use Rattle.std.proofs.Common.{◌∙◌, List, None, Some, refl, rules, subst}
use Rattle.std.specs.List.{filter}
use Rattle.fjall_table.specs.declared.level.Level.TheVariants.{L0, L1}
use Rattle.fjall_table.specs.declared.table_info.TableInfo.{TableInfo}
use Rattle.fjall_inspect.specs.Surveys.{AreCounts, is_at}
use Rattle.fjall_inspect.proofs.Counting.{all_counted}
use Rattle.fjall_inspect.proofs.surveying.survey_of.Goals as goal

pub returns-clause-survey : goal.returns-clause-survey
returns-clause-survey c = record {
  id_is = refl;
  name_is = search rules;
  number_is = refl;
  persisted_is = refl;
  clears_are = c.len.ensures ∙ c.args.home.now.record.clears.ok.0;
  all = all_counted _ c.count_at.result (subst (λ (l : List TableInfo). AreCounts (filter (is_at None) l) c.count_at.result) c.deref.ensures.value c.count_at.ensures);
  level_0 = subst (λ (l : List TableInfo). AreCounts (filter (is_at (Some L0)) l) c.count_at-2.result) c.deref-2.ensures.value c.count_at-2.ensures;
  level_1 = subst (λ (l : List TableInfo). AreCounts (filter (is_at (Some L1)) l) c.count_at-3.result) c.deref-3.ensures.value c.count_at-3.ensures;
}
