use Rattle.std.proofs.Common.{◌≡◌, ℕ, List, ap, ◌∙◌, ◌++◌, append_assoc}
use Rattle.std.specs.List.{flat_map}
use Rattle.byteorder.specs.Endian.{little_bytes}
use Rattle.fjall_manifest.specs.Records.{view, body, table_line, numbers_text}
use Rattle.fjall_manifest.proofs.Texts.{kept_front, kept_through}
use Rattle.fjall_manifest.proofs.Records.{body_added}
use Rattle.fjall_manifest.proofs.record.Record.put_body.Goals as goal
use Rattle.fjall_manifest.proofs.record.Record.put_body.Goals.{In_ok-put_clears}

added : (c : In_ok-put_clears) → c.put_clears.new.out.items ≡ c.args.out.now.items ++ body (view c.args.self.now)
added c =
    body_added (view c.args.self.now) c.args.out.now.items c.extend_from_slice.new.self.items c.put_tables.new.out.items c.extend_from_slice-2.new.self.items c.put_clears.new.out.items
    (c.in_ok-extend_from_slice.ensures.items ∙ ap (λ v. c.args.out.now.items ++ v) (c.numbers.ensures.text ∙ ap (numbers_text (view c.args.self.now)) (c.len.ensures ∙ c.args.self.now.tables.ok.0)))
    (c.in_ok-put_tables.ensures.ok ∙ ap (λ v. c.extend_from_slice.new.self.items ++ flat_map table_line v) c.deref.ensures.value)
    (c.in_ok-extend_from_slice-2.ensures.items ∙ ap (λ v. c.put_tables.new.out.items ++ v) (c.to_le_bytes.ensures ∙ ap (little_bytes 4) (c.len-2.ensures ∙ c.args.self.now.clears.ok.0)))
    (c.in_ok-put_clears.ensures.ok ∙ ap (λ v. c.extend_from_slice-2.new.self.items ++ flat_map (little_bytes 8) v) c.deref-2.ensures.value)

pub returns-clause-ok : goal.returns-clause-ok
returns-clause-ok c = added c

pub returns-clause-kept : goal.returns-clause-kept
returns-clause-kept c = kept_front c.args.out.now.items (body (view c.args.self.now)) c.put_clears.new.out.items (added c)

pub returns-in_err-put_tables-clause-kept : goal.returns-in_err-put_tables-clause-kept
returns-in_err-put_tables-clause-kept c = kept_through c.args.out.now.items c.extend_from_slice.new.self.items c.put_tables.new.out.items c.numbers.result c.in_ok-extend_from_slice.ensures.items c.in_err-put_tables.ensures.kept

pub returns-in_err-put_clears-clause-kept : goal.returns-in_err-put_clears-clause-kept
returns-in_err-put_clears-clause-kept c =
    kept_through c.args.out.now.items c.extend_from_slice-2.new.self.items c.put_clears.new.out.items (c.numbers.result ++ (flat_map table_line c.deref.result.now ++ c.to_le_bytes.result))
    (three c.args.out.now.items c.extend_from_slice.new.self.items c.put_tables.new.out.items c.extend_from_slice-2.new.self.items c.numbers.result (flat_map table_line c.deref.result.now) c.to_le_bytes.result c.in_ok-extend_from_slice.ensures.items c.in_ok-put_tables.ensures.ok c.in_ok-extend_from_slice-2.ensures.items)
    c.in_err-put_clears.ensures.kept
  where
    three : (old r1 r2 r3 a b d : List ℕ) → r1 ≡ old ++ a → r2 ≡ r1 ++ b → r3 ≡ r2 ++ d → r3 ≡ old ++ (a ++ (b ++ d))
    three old r1 r2 r3 a b d e1 e2 e3 = rw (e3, e2, e1) (simp append_assoc)
