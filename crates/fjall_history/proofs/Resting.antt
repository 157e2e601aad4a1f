-- What an answer rests on.
use Rattle.std.proofs.Common.{◌≡◌, ◌↔◌, ℕ, Bool, true, false, cond, List, ◌++◌, None, refl, sym, ◌∙◌, ap, subst}
use Rattle.std.proofs.lemmas.List.Elements.{Contains-append_left}
use Rattle.std.proofs.lemmas.Map.Views.{IsInRange-from_range_contains}
use Rattle.std.specs.Prelude.{Contains, Some, slice_get}
use Rattle.std.specs.declared.ops.Bound.{Bound}
use Rattle.std.specs.declared.ops.Bound.TheVariants.{Unbounded}
use Rattle.std.specs.declared.cmp.Ordering.TheVariants.{Equal}
use Rattle.std.specs.Ordering.{nat_cmp}
use Rattle.std.specs.Cmp.Lexicographic.{nat_list_cmp_total}
use Rattle.std.specs.BTreeMap.Range.{IsInRange}
use Rattle.std.specs.FinMap.{FinMap, entries, get, get-retain_keys, retain_keys, same_map, nat_cmp-IsAntisymmetric, slice_cmp-IsAntisymmetric}
use Rattle.fjall_base.specs.Pairs.{Bytes, KeyRange, Pairs, byte_order, is_within, lookup, page}
use Rattle.fjall_base.specs.Store.{Item, map_at, written}
use Rattle.fjall_tx.specs.Marks.{IsCovered, Mark, OfKey, OfRange}
use Rattle.fjall_history.specs.Histories.{Accepted, Commit, History, view}
use Rattle.fjall_history.specs.Queries.{Get, Page, Query, Tells}
use Rattle.fjall_history.specs.declared.reply.Reply.{Reply}
use Rattle.fjall_history.specs.declared.reply.Reply.TheVariants as replies
use Rattle.fjall_history.specs.Asks.{Asks, IsMarked}
use Rattle.fjall_history.specs.Checked.{IsChecked, before}
use Rattle.fjall_history.specs.Serial.{ReadsChangeByTransactions, serial_store}
use Rattle.fjall_history.proofs.Items.{write_alike}
use Rattle.fjall_history.proofs.Serials.{checked_is_serial}

tied : (a b : Bytes) → byte_order a b ≡ Equal → a ≡ b
tied = slice_cmp-IsAntisymmetric nat_cmp-IsAntisymmetric

-- maps that agree where a test passes keep the same of it
same_between : (m n : Pairs) (test : Bytes → Bool) → ((key : Bytes) → test key ≡ true → lookup m key ≡ lookup n key) → retain_keys m test ≡ retain_keys n test
same_between m n test same =
    same_map nat_list_cmp_total tied (retain_keys m test) (retain_keys n test) (λ key. at_key m key ∙ either key (test key) refl ∙ sym (at_key n key))
  where
    at_key : (o : Pairs) (key : Bytes) → get (retain_keys o test) key ≡ cond (test key) (get o key) None
    at_key o key = get-retain_keys o test key (λ x t. ap test (sym (tied key x t)))

    either : (key : Bytes) (b : Bool) → test key ≡ b → cond (test key) (get m key) None ≡ cond (test key) (get n key) None
    either key true e = ap (λ o. cond (test key) o None) (same key e)
    either key false e = ap (λ b. cond b (get m key) None) e ∙ ap (λ b. cond b (get n key) None) (sym e)

rests : (query : Query) (p q : Pairs) → ((key : Bytes) → Asks query key → lookup p key ≡ lookup q key) → (reply : Reply) → Tells query p reply → Tells query q reply
rests (Get key) p q same reply is = is ∙ ap replies.Value (same key refl)
rests (Page range back max) p q same reply (found, told, is) =
    (found, told, is ∙ ap (λ m. page back max (entries m)) (same_between p q (is_within range) (λ key within. same key (IsInRange-from_range_contains nat_list_cmp_total range.0 range.1 key within))))

pub rests_with : (query : Query) (m n : FinMap nat_cmp Pairs) (id : ℕ) (own : List Item) → ((key : Bytes) → Asks query key → lookup (map_at m id) key ≡ lookup (map_at n id) key) → (reply : Reply)
    → Tells query (map_at (written m own) id) reply → Tells query (map_at (written n own) id) reply
rests_with query m n id own same = rests query (map_at (written m own) id) (map_at (written n own) id) (λ key asked. write_alike own m n id key (same key asked))

pub answered_before : (h : History) → IsChecked h → ReadsChangeByTransactions h → (k : ℕ) (a : Accepted) (c : Commit) → slice_get h.accepted k ≡ Some a → a.commit ≡ Some c
    → (id : ℕ) (query : Query) → IsMarked c.marks.reads id query → (own : List Item) (reply : Reply)
    → Tells query (map_at (written (view h c.instant).maps own) id) reply → Tells query (map_at (written (serial_store (before h k)).maps own) id) reply
answered_before h checked premise k a c at is id query marked own =
    rests_with query (view h c.instant).maps (serial_store (before h k)).maps id own (λ key asked. checked_is_serial h checked premise k a c at is id key (marked key asked))

-- ---- which marks suffice

pub key_marked : (reads : List Mark) (id : ℕ) (key : Bytes) → IsMarked reads id (Get key) ↔ IsCovered reads id key
key_marked reads id key = (λ marked. marked key refl, λ covered other same. subst (IsCovered reads id) same covered)

pub key_itself : (reads : List Mark) (id : ℕ) (key : Bytes) → Contains reads (OfKey id key) → IsMarked reads id (Get key)
key_itself reads id key there other same = record { mark = OfKey id key; is_marked = there; covers = (refl, same) }

pub range_marked : (reads : List Mark) (id : ℕ) (start end : Bound Bytes) → Contains reads (OfRange id start end)
    → (range : KeyRange) → ((key : Bytes) → IsInRange byte_order range.0 range.1 key → IsInRange byte_order start end key) → (back : Bool) (max : ℕ) → IsMarked reads id (Page range back max)
range_marked reads id start end there range inside back max key within = record { mark = OfRange id start end; is_marked = there; covers = (refl, inside key within) }

pub range_itself : (reads : List Mark) (id : ℕ) (range : KeyRange) → Contains reads (OfRange id range.0 range.1) → (back : Bool) (max : ℕ) → IsMarked reads id (Page range back max)
range_itself reads id range there back max = range_marked reads id range.0 range.1 there range (λ key within. within) back max

pub whole_marked : (reads : List Mark) (id : ℕ) → Contains reads (OfRange id Unbounded Unbounded) → (query : Query) → IsMarked reads id query
whole_marked reads id there query key asked = record { mark = OfRange id Unbounded Unbounded; is_marked = there; covers = (refl, (tt, tt)) }

pub more_marked : (reads more : List Mark) (id : ℕ) (query : Query) → IsMarked reads id query → IsMarked (reads ++ more) id query
more_marked reads more id query marked key asked =
    let covered = marked key asked in
    record { mark = covered.mark; is_marked = Contains-append_left reads more covered.mark covered.is_marked; covers = covered.covers }
