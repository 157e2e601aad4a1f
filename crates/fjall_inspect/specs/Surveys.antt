-- What is counted of keyspaces' tables.
use Rattle.std.specs.Prelude.{◌≡◌, ◌-◌, ◌^◌, ℕ, Bool, true, false, min, List, [], ◌∷◌, length, Option, None, Some}
use Rattle.std.specs.List.{filter, sum_by}
use Rattle.fjall_table.specs.declared.level.Level.{Level}
use Rattle.fjall_table.specs.declared.level.Level.TheVariants.{L0, L1}
use Rattle.fjall_table.specs.declared.table_info.TableInfo.{TableInfo}
use Rattle.fjall_manifest.specs.declared.reading.LoadedHome.{LoadedHome}
use Rattle.fjall_meta.specs.declared.living.LivingKeyspace.{LivingKeyspace}
use Rattle.fjall_inspect.specs.declared.surveying.KeyspaceSurvey.{KeyspaceSurvey}
use Rattle.fjall_inspect.specs.declared.surveying.TableCounts.{TableCounts}

-- two levels are one
abbrev pub is_level : Level → Level → Bool
is_level L0 L0 = true
is_level L1 L1 = true
is_level level other = false

-- the table is at this level; where none is given, each one is
abbrev pub is_at : Option Level → TableInfo → Bool
is_at None table = true
is_at (Some level) table = is_level table.level level

-- the sum of what is told of tables, which stops at the greatest number of 64 bits
abbrev pub total : (TableInfo → ℕ) → List TableInfo → ℕ
total part tables = min (sum_by part tables) (2 ^ 64 - 1)

-- how many these tables are, how many entries their record tells of, and how long their files are
pub record AreCounts (tables : List TableInfo) (counts : TableCounts) : Type 0 where
  pub tables_are : counts.tables ≡ total (λ t. 1) tables
  pub entries_are : counts.entries ≡ total (λ t. t.entry_count) tables
  pub bytes_are : counts.bytes ≡ total (λ t. t.file_len) tables

-- what is told of a keyspace that has this home
pub record IsSurveyOf (k : LivingKeyspace) (home : LoadedHome) (s : KeyspaceSurvey) : Type 0 where
  pub id_is : s.id ≡ k.id
  pub name_is : s.name ≡ k.name
  pub number_is : s.number ≡ k.number
  pub persisted_is : s.persisted ≡ home.record.persisted
  pub clears_are : s.clears ≡ length home.record.clears.items
  pub all : AreCounts home.record.tables.items s.tables
  pub level_0 : AreCounts (filter (is_at (Some L0)) home.record.tables.items) s.level_0
  pub level_1 : AreCounts (filter (is_at (Some L1)) home.record.tables.items) s.level_1

-- one of each of these keyspaces, which have these homes
abbrev pub AreSurveysOf : List LivingKeyspace → List LoadedHome → List KeyspaceSurvey → Type 0
AreSurveysOf [] [] [] = Unit {0}
AreSurveysOf (k ∷ living) (home ∷ homes) (s ∷ surveys) = IsSurveyOf k home s × AreSurveysOf living homes surveys
AreSurveysOf living homes surveys = ⊥
