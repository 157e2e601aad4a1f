use Rattle.std.proofs.Common.{ap, ◌∙◌, sym, subst, max, unwrap_or}
use Rattle.std.specs.Map.{keys_of}
use Rattle.std.proofs.lemmas.Map.Keys.{IsStrictlyIncreasing-from_sorted}
use Rattle.fjall_files.specs.Marks.{JournalMarks, IsRaised, lsn_of}
use Rattle.fjall_files.proofs.Raising.{absent, is_raised, lsn_of-lookup}
use Rattle.fjall_files.proofs.watermarks.Watermarks.raise.Goals as goal

pub returns-in_err-insert-clause-present : goal.returns-in_err-insert-clause-present
returns-in_err-insert-clause-present c some =
    absent (lsn_of c.args.self.now c.args.keyspace_id)
    (sym (ap (λ (m : JournalMarks). lsn_of m c.args.keyspace_id) c.self.view_is) ∙ sym (lsn_of-lookup c.args.keyspace_id c.self.inside.lsns.entries) ∙ c.in_err-insert.ensures.absent) some

pub returns-in_err-insert-clause-ascending : goal.returns-in_err-insert-clause-ascending
returns-in_err-insert-clause-ascending c = IsStrictlyIncreasing-from_sorted (keys_of c.insert.new.self.entries) c.in_err-insert.ensures.ordered

pub returns-clause-ok : goal.returns-clause-ok
returns-clause-ok c =
    subst (λ (m : JournalMarks). IsRaised c.args.keyspace_id c.args.lsn m c.insert.new.self.entries) c.self.view_is
    (is_raised c.args.keyspace_id c.args.lsn c.max.result c.self.inside.lsns c.insert.new.self
    (c.max.ensures ∙ ap (λ n. max n c.args.lsn) (c.unwrap_or-before.ensures ∙ ap (λ o. unwrap_or o 0) (c.copied.ensures ∙ c.get.ensures.value)))
    c.in_ok-insert.ensures.updates)

pub returns-clause-ascending : goal.returns-clause-ascending
returns-clause-ascending c = IsStrictlyIncreasing-from_sorted (keys_of c.insert.new.self.entries) c.in_ok-insert.ensures.ordered
