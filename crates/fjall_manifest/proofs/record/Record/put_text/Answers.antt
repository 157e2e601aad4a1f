use Rattle.std.proofs.Common.{◌∙◌, arith}
use Rattle.fjall_table.specs.Frame.{headed}
use Rattle.fjall_manifest.specs.Records.{view, body}
use Rattle.fjall_manifest.proofs.Records.{check_added, head_added, length_body}
use Rattle.fjall_manifest.proofs.record.Record.put_text.Goals as goal

pub returns-clause-ok : goal.returns-clause-ok
returns-clause-ok c =
    check_added c.args.out.now.items (headed 4 (body (view c.args.self.now))) c.put_body.new.out.items c.put_check.new.out.items c.len-before.result (c.len-before.ensures ∙ c.args.out.now.ok.0)
    (head_added 4 c.args.out.now.items c.reserve.new.self.items c.extend_from_slice.new.self.items c.put_body.new.out.items c.to_le_bytes.result (body (view c.args.self.now)) c.args.len c.in_ok-reserve.ensures.items
    c.to_le_bytes.ensures (let t = c.args.self.now.tables.ok.0 in let d = c.args.self.now.clears.ok.0 in omega (arith, c.requires, length_body (view c.args.self.now), t, d)) c.in_ok-extend_from_slice.ensures.items c.in_ok-put_body.ensures.ok)
    c.in_ok-put_check.ensures.ok
