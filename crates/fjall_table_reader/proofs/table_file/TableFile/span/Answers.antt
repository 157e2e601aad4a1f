use Rattle.std.proofs.Common.{List, map, subst, sym}
use Rattle.fjall_table.specs.Owned.{owned_handle}
use Rattle.fjall_table.specs.Tables.{Ascend}
use Rattle.fjall_table.specs.declared.owned_handle.OwnedHandle.{OwnedHandle}
use Rattle.fjall_table.proofs.Indexes.{is_index}
use Rattle.fjall_table_reader.proofs.table_file.TableFile.span.Goals as goal

pub span_of-requires : goal.span_of-requires
span_of-requires c =
    let s = c.args.self.now.index in
    subst (λ (hs : List OwnedHandle). Ascend (map owned_handle hs)) (sym c.deref.ensures.value) (is_index (map owned_handle s.handles.items) s.data_len s.covers).ascend
