use Rattle.std.proofs.Common.{ap, arith, length}
use Rattle.fjall_memtable.proofs.Texts.{sizes_are}
use Rattle.fjall_memtable.proofs.memtable.Memtable.size.Goals as goal

pub returns : goal.returns
returns c = let m = c.args.self.now in let s = sizes_are m.text.items m.map.entries m.all.placed in let f = m.all.filled in let a = ap length c.as_slice.ensures.value in let b = c.len.ensures.len in omega (arith, s, f, a, b)
