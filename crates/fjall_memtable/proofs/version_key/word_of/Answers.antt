use Rattle.std.proofs.Common.{ap, ◌∙◌, arith}
use Rattle.std.specs.Int.{w64, from_be_bytes}
use Rattle.std.proofs.lemmas.List.{take_all}
use Rattle.std.proofs.lemmas.Nat.{be_bytes_8}
use Rattle.fjall_memtable.proofs.version_key.word_of.Goals as goal

pub returns-in-Some : goal.returns-in-Some
returns-in-Some c =
    let long = c.requires in
    be_bytes_8 c.args.bytes.now c.from_be_bytes.result c.requires (λ i. (c.type_inv.bytes i).fits) (c.from_be_bytes.ensures ∙ ap (from_be_bytes w64) (c.in-Some.ensures.cases.same ∙ take_all 8 c.args.bytes.now (omega (arith, long))))
