-- What a wild crash leaves behind the synced bytes of files, as a line keeps it.
use Rattle.std.specs.Prelude.{String, string_bytes}
use Rattle.std.specs.declared.alloc.Global.{Global}
use Rattle.fjall_base.specs.Disk.{Name}
use Rattle.fjall_base.specs.Pairs.{Bytes}

-- a file's path with bytes
abbrev pub named_bytes : String Global × Bytes → Name × Bytes
named_bytes fill = (string_bytes fill.0, fill.1)
