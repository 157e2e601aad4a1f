use Rattle.std.proofs.Common.{◌≡◌, ◌∙◌, ◌++◌, ℕ, List, ◌∷◌, [], ap, sym, refl}
use Rattle.fjall_table.specs.Blocks.{Entry, seen}
use Rattle.fjall_jobs.proofs.Adding.{last_is, parted_is, size_grows}
use Rattle.fjall_jobs.proofs.Parting.{some_is}
use Rattle.fjall_jobs.proofs.sequence.TableSequence.add.Goals as goal

pub returns-clause-ok : goal.returns-clause-ok
returns-clause-ok c closed room =
    let e : Entry = seen c.args.entry.now in
    let ws = c.args.self.now.writer in
    let grown : c.write.new.self ≡ ws ++ e ∷ [] = c.in_ok-write.ensures.ok in
    record {
      made = room.made;
      size_is = size_grows c.args.self.now.size c.size_of.result c.saturating_add-self.result ws e c.write.new.self room.size_is c.size_of.ensures c.saturating_add-self.ensures grown;
      key_is = c.in_ok-extend_from_slice.ensures.items ∙ ap (λ (l : List ℕ). l ++ c.args.entry.now.key.now) c.clear.ensures.items ∙ last_is ws e c.write.new.self grown;
      parted = parted_is c.args.self.now closed e c.write.new.self (room.extends e refl) grown;
      begun = λ none. absurd (some_is ws e (sym grown ∙ none));
    }
