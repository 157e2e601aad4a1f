use Rattle.std.proofs.Common.{lit<, ◌≡◌, ℕ, refl, sym, codes, decimal}
use Rattle.std.proofs.lemmas.Slice.Eq.{bytes_eq-Decides}
use Rattle.fjall_files.specs.Names.{IsJournalName, IsNameOf}
use Rattle.fjall_files.proofs.Partings.{not_parted, parted, Parted}
use Rattle.fjall_files.proofs.LastDots.{no_dot_no_journal, no_dot_no_look, journal_stem, look_parts, journal_of, misnamed_of, some_is, empty_is, not_jnl_no_journal}
use Rattle.fjall_files.proofs.names.parse_journal_name.Goals as goal
use Rattle.fjall_files.proofs.names.parse_journal_name.Goals.{then-is_empty-via-then-is_empty, then-is_empty-via-else-is_empty+then-not-eq_ignore_ascii_case, in_default-parse_number-via-in-Some-parse_number+else-eq, in_default-parse_number-via-in_default-parse_number}

pub returns-in_default-clause-all_found : goal.returns-in_default-clause-all_found
returns-in_default-clause-all_found c id is =
    absurd (no_dot_no_journal c.args.name.now id (not_parted 46 c.args.name.now c.in_default.ensures.cases (lit< tt)) is)

pub returns-in_default-clause-refused : goal.returns-in_default-clause-refused
returns-in_default-clause-refused c =
    (λ e. cc e, λ misnamed. absurd (no_dot_no_look c.args.name.now (not_parted 46 c.args.name.now c.in_default.ensures.cases (lit< tt)) misnamed.0))

pub returns-then-is_empty-clause-all_found : goal.returns-then-is_empty-clause-all_found
returns-then-is_empty-clause-all_found c id is =
    let at : Parted 46 c.args.name.now c.in-Some.stem.now c.in-Some.extension.now = parted 46 c.args.name.now c.in-Some.stem.now c.in-Some.extension.now c.in-Some.ensures.cases (lit< tt) in
    elim c.then-is_empty.branch [
      | then-is_empty-via-then-is_empty w ↦
          absurd (journal_stem c.args.name.now c.in-Some.stem.now c.in-Some.extension.now id at is (empty_is c.in-Some.stem.now c.is_empty.result c.is_empty.ensures w.if-is_empty.true))
      | then-is_empty-via-else-is_empty+then-not-eq_ignore_ascii_case w ↦
          absurd (not_jnl_no_journal c.args.name.now c.in-Some.stem.now c.in-Some.extension.now id at is w.if-not-eq_ignore_ascii_case.ensures.test)
    ]

pub returns-then-is_empty-clause-refused : goal.returns-then-is_empty-clause-refused
returns-then-is_empty-clause-refused c =
    let at : Parted 46 c.args.name.now c.in-Some.stem.now c.in-Some.extension.now = parted 46 c.args.name.now c.in-Some.stem.now c.in-Some.extension.now c.in-Some.ensures.cases (lit< tt) in (
      λ e. cc e,
      λ misnamed.
          let looks = look_parts c.args.name.now c.in-Some.stem.now c.in-Some.extension.now at misnamed.0 in
          elim c.then-is_empty.branch [
            | then-is_empty-via-then-is_empty w ↦ absurd (looks.0 (empty_is c.in-Some.stem.now c.is_empty.result c.is_empty.ensures w.if-is_empty.true))
            | then-is_empty-via-else-is_empty+then-not-eq_ignore_ascii_case w ↦ let back = w.if-not-eq_ignore_ascii_case.ensures.test.1 looks.1 in absurd (cc back)
          ],
    )

pub returns-in-Some-parse_number-clause-spelled : goal.returns-in-Some-parse_number-clause-spelled
returns-in-Some-parse_number-clause-spelled c =
    let at : Parted 46 c.args.name.now c.in-Some.stem.now c.in-Some.extension.now = parted 46 c.args.name.now c.in-Some.stem.now c.in-Some.extension.now c.in-Some.ensures.cases (lit< tt) in
    journal_of c.args.name.now c.in-Some.stem.now c.in-Some.extension.now c.in-Some-parse_number.id at c.in-Some-parse_number.ensures.spelled ((bytes_eq-Decides c.in-Some.extension.now (codes "jnl")).0 (sym c.if-eq.ensures))

pub returns-in-Some-parse_number-clause-refused : goal.returns-in-Some-parse_number-clause-refused
returns-in-Some-parse_number-clause-refused c =
    let at : Parted 46 c.args.name.now c.in-Some.stem.now c.in-Some.extension.now = parted 46 c.args.name.now c.in-Some.stem.now c.in-Some.extension.now c.in-Some.ensures.cases (lit< tt) in
    let is : IsJournalName c.args.name.now c.in-Some-parse_number.id = journal_of c.args.name.now c.in-Some.stem.now c.in-Some.extension.now c.in-Some-parse_number.id at c.in-Some-parse_number.ensures.spelled ((bytes_eq-Decides c.in-Some.extension.now (codes "jnl")).0 (sym c.if-eq.ensures)) in
    (λ e. cc e, λ misnamed. absurd (misnamed.1 c.in-Some-parse_number.id is))

pub returns-in_default-parse_number-clause-refused : goal.returns-in_default-parse_number-clause-refused
returns-in_default-parse_number-clause-refused c =
    let at : Parted 46 c.args.name.now c.in-Some.stem.now c.in-Some.extension.now = parted 46 c.args.name.now c.in-Some.stem.now c.in-Some.extension.now c.in-Some.ensures.cases (lit< tt) in
    let no_id : (id : ℕ) → IsNameOf decimal c.in-Some.stem.now id → c.in-Some.extension.now ≡ codes "jnl" → ⊥ = λ id is same.
    elim c.in_default-parse_number.branch [
      | in_default-parse_number-via-in-Some-parse_number+else-eq w ↦ let equal = (bytes_eq-Decides c.in-Some.extension.now (codes "jnl")).1 same in cc (w.if-eq.ensures, equal)
      | in_default-parse_number-via-in_default-parse_number w ↦ let found = w.in_default-parse_number.ensures.all_found id is in cc found
    ] in
    (λ e. misnamed_of c.args.name.now c.in-Some.stem.now c.in-Some.extension.now at (some_is c.in-Some.stem.now c.is_empty.result c.is_empty.ensures c.if-is_empty.false) (c.if-not-eq_ignore_ascii_case.ensures.test.0 refl) no_id, λ misnamed. refl)
