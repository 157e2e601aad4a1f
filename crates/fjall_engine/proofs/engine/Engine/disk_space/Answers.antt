use Rattle.std.proofs.Common.{◌≡◌, ℕ, ◌+◌, arith, ap, sym, ◌∙◌}
use Rattle.fjall_journal.specs.Writer.{counted}
use Rattle.fjall_files.specs.Journals.{bytes_of}
use Rattle.fjall_trees.specs.Tables.{shape_in}
use Rattle.fjall_machine.specs.Machine.{present, space_of, table_space, tables_space}
use Rattle.fjall_machine.proofs.Sizes.{space_agrees, spaces_agree}
use Rattle.fjall_engine.specs.Holding.{Held}
use Rattle.fjall_engine.specs.Standing.{store_in}
use Rattle.fjall_engine.proofs.engine.Engine.disk_space.Goals as goal

-- a sum that stops at the greatest number stops there also where its parts did
told_sum : (a b x y z : ℕ) → x ≡ counted a → y ≡ b → z ≡ counted (x + y) → z ≡ counted (a + b)
told_sum a b x y z one two sum = omega (arith, one, two, sum)

pub returns-in-Some-clause-parts : goal.returns-in-Some-clause-parts
returns-in-Some-clause-parts g c = λ s stands.
    let now = c.args.self.now in
    c.table_space.ensures ∙ ap (λ (h : Held). table_space (shape_in c.in-Some.id h.memory.trees)) c.self.view_is
    ∙ sym (space_agrees now.memory now.catalog.next_table_id s stands.remembered c.in-Some.id) ∙ ap (space_of s) (sym c.in-Some.is)

pub returns-in-None-clause-parts : goal.returns-in-None-clause-parts
returns-in-None-clause-parts g c = λ s stands.
    let now = c.args.self.now in
    let tables = c.tables_space.ensures ∙ ap (λ (h : Held). counted (tables_space (store_in h) h.memory.trees)) c.self.view_is
    ∙ ap counted (sym (spaces_agree now.memory now.catalog.next_table_id s stands.remembered)) in
    told_sum (tables_space (present s) s.parts.trees) (counted (bytes_of s.parts.journals.sealed + s.parts.journal)) c.tables_space.result c.journal_disk_space.result c.saturating_add.result
    tables (c.journal_disk_space.ensures.parts s stands) c.saturating_add.ensures ∙ ap (space_of s) (sym c.in-None.is)
