use Rattle.fjall_journal.proofs.Rests.{rest_item}
use Rattle.fjall_journal.proofs.decoding.item_of.Goals as goal

pub part_of-requires : goal.part_of-requires
part_of-requires c =
    rest_item c.args.text.now c.args.bytes.now c.in-Some.rest.now c.in-Some-u8_of.rest.now c.in-Some-u64_of.rest.now c.in-Some-u16_of.rest.now c.in-Some-u32_of.rest.now c.in-Some-u32_of-2.rest.now
    c.in-Some.type_byte c.in-Some-u8_of.compression_byte c.in-Some-u64_of.keyspace_id c.in-Some-u16_of.key_len c.in-Some-u32_of.value_len c.in-Some-u32_of-2.stored_len
    c.requires c.in-Some.ensures c.in-Some-u8_of.ensures c.in-Some-u64_of.ensures c.in-Some-u16_of.ensures c.in-Some-u32_of.ensures c.in-Some-u32_of-2.ensures
