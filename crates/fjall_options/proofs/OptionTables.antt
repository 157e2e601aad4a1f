-- The table of options: each stands at its place, which no other one has, and keeps to valid values.
use Rattle.std.proofs.Common.{◌≡◌, ℕ, ◌<◌, true, not, List, [], length, refl, sym, ap, ◌∙◌, arith, inl, inr, Some}
use Rattle.std.proofs.lemmas.Bool.{cases_eq}
use Rattle.std.proofs.lemmas.List.{length-set, get_or-set_same, get_or-set_other}
use Rattle.std.specs.List.{slice_get}
use Rattle.fjall_options.specs.declared.options.stored_option.StoredOption.{StoredOption}
use Rattle.fjall_options.specs.declared.options.stored_option.StoredOption.TheVariants.{CompactionStrategy, DataBlockCompressionPolicy, DataBlockHashRatioPolicy, DataBlockRestartIntervalPolicy, DataBlockSizePolicy, ExpectPointReadHits, FilterBlockPartitioningPolicy, FilterBlockPinningPolicy, FilterPolicy, IndexBlockCompressionPolicy, IndexBlockPartitioningPolicy, IndexBlockPinningPolicy, IndexBlockRestartIntervalPolicy, LevelCount, ManualJournalPersist, MaxMemtableSize, Version, LeveledL0Threshold, LeveledTargetSize, LeveledLevelRatioPolicy}
use Rattle.fjall_options.specs.Options.{stored_options, place, is_value, with_value, AreOptions}

pub placed : (option : StoredOption) → slice_get stored_options (place option) ≡ Some option
placed CompactionStrategy = refl
placed DataBlockCompressionPolicy = refl
placed DataBlockHashRatioPolicy = refl
placed DataBlockRestartIntervalPolicy = refl
placed DataBlockSizePolicy = refl
placed ExpectPointReadHits = refl
placed FilterBlockPartitioningPolicy = refl
placed FilterBlockPinningPolicy = refl
placed FilterPolicy = refl
placed IndexBlockCompressionPolicy = refl
placed IndexBlockPartitioningPolicy = refl
placed IndexBlockPinningPolicy = refl
placed IndexBlockRestartIntervalPolicy = refl
placed LevelCount = refl
placed ManualJournalPersist = refl
placed MaxMemtableSize = refl
placed Version = refl
placed LeveledL0Threshold = refl
placed LeveledTargetSize = refl
placed LeveledLevelRatioPolicy = refl

pub place_below : (option : StoredOption) → place option < 20
place_below CompactionStrategy = omega arith
place_below DataBlockCompressionPolicy = omega arith
place_below DataBlockHashRatioPolicy = omega arith
place_below DataBlockRestartIntervalPolicy = omega arith
place_below DataBlockSizePolicy = omega arith
place_below ExpectPointReadHits = omega arith
place_below FilterBlockPartitioningPolicy = omega arith
place_below FilterBlockPinningPolicy = omega arith
place_below FilterPolicy = omega arith
place_below IndexBlockCompressionPolicy = omega arith
place_below IndexBlockPartitioningPolicy = omega arith
place_below IndexBlockPinningPolicy = omega arith
place_below IndexBlockRestartIntervalPolicy = omega arith
place_below LevelCount = omega arith
place_below ManualJournalPersist = omega arith
place_below MaxMemtableSize = omega arith
place_below Version = omega arith
place_below LeveledL0Threshold = omega arith
place_below LeveledTargetSize = omega arith
place_below LeveledLevelRatioPolicy = omega arith

-- an option has one place
pub one_place : (a b : StoredOption) → place a ≡ place b → a ≡ b
one_place a b e =
    let same : slice_get stored_options (place a) ≡ slice_get stored_options (place b) = ap (λ (i : ℕ). slice_get stored_options i) e in
    let h : Some a ≡ Some b = sym (placed a) ∙ same ∙ placed b in
    cc

pub with_valid : (options : List (List ℕ)) (option : StoredOption) (value : List ℕ) → AreOptions options → is_value option value ≡ true → AreOptions (with_value option value options)
unfolding with_value
with_valid options option value all valid = record {
  complete = length-set options (place option) value ∙ all.complete;
  valid = λ other. elim (cases_eq (place other) (place option)) [
    | inl same ↦
        let lt : place option < length options = omega (arith, place_below option, all.complete) in
        rw (one_place other option same, get_or-set_same options (place option) value [] lt) valid
    | inr not ↦ rw (get_or-set_other options (place option) (place other) value [] not) (all.valid other)
  ];
}
