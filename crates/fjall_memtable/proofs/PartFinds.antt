-- The newest version in parts, and how much they hold.
use Rattle.std.proofs.Common.{◌≡◌, ℕ, List, [], ◌∷◌, ◌++◌, Option, Some, None, sym, ap, subst, ◌∙◌}
use Rattle.std.specs.List.{All}
use Rattle.std.proofs.lemmas.List.{append-nil}
use Rattle.std.proofs.lemmas.List.Concat.{flat_map-append}
use Rattle.std.proofs.lemmas.List.Elements.{All-head}
use Rattle.fjall_base.specs.Pairs.{Bytes}
use Rattle.fjall_table.specs.Blocks.{Entry}
use Rattle.fjall_memtable.specs.Views.{is_seen, later, newest}
use Rattle.fjall_memtable.proofs.NewestSeen.{behind_wins, later_none, newest-append}
use Rattle.fjall_memtable.specs.Parts.{AreApart, HeldPart, IsHeld, versions_in}
use Rattle.fjall_memtable.proofs.Apart.{apart_front, held_behind, numbers_below, versions_numbered}

pub last_versions : (front : List HeldPart) (h : HeldPart) → versions_in (front ++ h ∷ []) ≡ versions_in front ++ h.versions
last_versions front h = flat_map-append (λ (g : HeldPart). g.versions) front (h ∷ []) ∙ ap (λ (xs : List Entry). versions_in front ++ xs) (append-nil h.versions)

-- a version of the last part decides
pub newest_here : (key : Bytes) (instant : ℕ) (front : List HeldPart) (h : HeldPart) (v : Entry) → All IsHeld (front ++ h ∷ []) → AreApart (front ++ h ∷ [])
    → newest key instant h.versions ≡ Some v → newest key instant (versions_in (front ++ h ∷ [])) ≡ Some v
newest_here key instant front h v held apart found =
    let here = All-head IsHeld h [] (held_behind front (h ∷ []) held) in
    ap (newest key instant) (last_versions front h)
    ∙ behind_wins (is_seen key instant) h.from (versions_in front) h.versions v (numbers_below (λ (g : HeldPart). g.versions) (λ (w : Entry). w.number) versions_numbered front [] h held apart) here.low found

-- and without one those before it
pub newest_before : (key : Bytes) (instant : ℕ) (front : List HeldPart) (h : HeldPart) → newest key instant h.versions ≡ None
    → newest key instant (versions_in (front ++ h ∷ [])) ≡ newest key instant (versions_in front)
newest_before key instant front h none =
    ap (newest key instant) (last_versions front h) ∙ newest-append (is_seen key instant) (versions_in front) h.versions
    ∙ ap (λ (o : Option Entry). later (newest key instant (versions_in front)) o) none ∙ later_none (newest key instant (versions_in front))

-- ---- from the last part on

-- what the last part has is what all have
pub newest_found : (key : Bytes) (instant : ℕ) (hs front : List HeldPart) (h : HeldPart) (v : Entry) (found all : Option Entry) → hs ≡ front ++ h ∷ [] → All IsHeld hs → AreApart hs
    → newest key instant (versions_in hs) ≡ all → found ≡ newest key instant h.versions → found ≡ Some v → Some v ≡ all
newest_found key instant hs front h v found all e held apart same is some =
    sym (newest_here key instant front h v (subst (λ (xs : List HeldPart). All IsHeld xs) e held) (subst (λ (xs : List HeldPart). AreApart xs) e apart) (sym is ∙ some))
    ∙ sym (ap (λ (xs : List HeldPart). newest key instant (versions_in xs)) e) ∙ same

-- or those before it have what all have
pub newest_rest : (key : Bytes) (instant : ℕ) (hs front : List HeldPart) (h : HeldPart) (found all : Option Entry) → hs ≡ front ++ h ∷ [] → AreApart hs
    → newest key instant (versions_in hs) ≡ all → found ≡ newest key instant h.versions → found ≡ None → AreApart front × (newest key instant (versions_in front) ≡ all)
newest_rest key instant hs front h found all e apart same is none = (
  apart_front front (h ∷ []) (subst (λ (xs : List HeldPart). AreApart xs) e apart),
  sym (newest_before key instant front h (sym is ∙ none)) ∙ sym (ap (λ (xs : List HeldPart). newest key instant (versions_in xs)) e) ∙ same,
)
