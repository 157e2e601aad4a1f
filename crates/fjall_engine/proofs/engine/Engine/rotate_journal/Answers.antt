use Rattle.std.proofs.Common.{IsTrue, ◌∙◌}
use Rattle.fjall_machine.specs.Shapes.{OfJournalRotation}
use Rattle.fjall_engine.proofs.JournalRotations.{is_numbered, journal_due, turned_owes, turned_serves}
use Rattle.fjall_engine.proofs.ServedCalls.{due_owes, due_serves}
use Rattle.fjall_engine.proofs.engine.Engine.rotate_journal.Goals as goal

pub returns-in-Some-clause-serves : goal.returns-in-Some-clause-serves
returns-in-Some-clause-serves g c = λ h.
    due_serves c.args.self.now OfJournalRotation c.in-Some.error (journal_due _ c.args.self.now c.self.view_is c.journal_refusal.result c.journal_refusal.ensures ∙ c.in-Some.is)

pub returns-in-Some-clause-owes : goal.returns-in-Some-clause-owes
returns-in-Some-clause-owes g c =
    due_owes c.args.self.now OfJournalRotation c.in-Some.error (journal_due _ c.args.self.now c.self.view_is c.journal_refusal.result c.journal_refusal.ensures ∙ c.in-Some.is)

pub turn_journal-requires : goal.turn_journal-requires
turn_journal-requires g c =
    record { numbered = is_numbered c.args.self.now (journal_due _ c.args.self.now c.self.view_is c.journal_refusal.result c.journal_refusal.ensures ∙ c.in_default.is) }

pub returns-clause-serves : goal.returns-clause-serves
returns-clause-serves g c = λ h.
    turned_serves (IsTrue g.D.Disk.honest) c.args.self.now c.turn_journal.new.self c.turn_journal.result
    (journal_due _ c.args.self.now c.self.view_is c.journal_refusal.result c.journal_refusal.ensures ∙ c.in_default.is) c.turn_journal.ensures.turns h

pub returns-clause-owes : goal.returns-clause-owes
returns-clause-owes g c =
    turned_owes (IsTrue g.D.Disk.honest) c.args.self.now c.turn_journal.new.self c.turn_journal.result
    (journal_due _ c.args.self.now c.self.view_is c.journal_refusal.result c.journal_refusal.ensures ∙ c.in_default.is) c.turn_journal.ensures.turns
