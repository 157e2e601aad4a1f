-- How histories are told apart.
use Rattle.std.specs.Coded.{Coded, codes, coded×, coded_list, coded_ℕ}
use Rattle.std.specs.Ordering.{nat_cmp}
use Rattle.std.specs.FinMap.{FinMap, code}
use Rattle.fjall_base.specs.Pairs.{Bytes, Pairs}
use Rattle.fjall_base.specs.Store.{Options}
use Rattle.fjall_tx.specs.Places.{places_code}
use Rattle.fjall_history.specs.Histories.{History}

abbrev bytes_code : Coded Bytes
bytes_code = coded_list coded_ℕ

abbrev names_code : Coded (FinMap nat_cmp Bytes)
names_code = code coded_ℕ bytes_code

abbrev maps_code : Coded (FinMap nat_cmp Pairs)
maps_code = code coded_ℕ (code bytes_code bytes_code)

abbrev options_code : Coded (FinMap nat_cmp Options)
options_code = code coded_ℕ (coded_list (coded× bytes_code bytes_code))

pub history_code : Coded History
history_code = hlevel (codes, names_code, maps_code, options_code, places_code)
