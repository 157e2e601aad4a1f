-- A text is written piece by piece.
use Rattle.std.proofs.Common.{◌≡◌, refl, ℕ, List, [], ◌++◌, Option, Result, Ok, Err, ap, ◌∙◌, sym, take, drop, append_assoc, subst}
use Rattle.std.specs.Prelude.{OnOk, OnErr}
use Rattle.std.specs.Io.KnownBytes.{Appends, Keeps}
use Rattle.std.proofs.KnownBytes.{Appends-kept, Appends-nil, Appends-trans}
use Rattle.std.proofs.lemmas.List.{append-nil, take-append-drop}
use Rattle.fjall_script.specs.Outputs.{AppendsFront}

-- a beginning of the text was written, and this is left of it
pub record Wrote (old new : Option (List ℕ)) (whole rest : List ℕ) : Type 0 where
  front : List ℕ
  split : whole ≡ front ++ rest
  appends : Appends old new front

-- nothing was written yet
pub wrote_none : (old : Option (List ℕ)) (whole : List ℕ) → Wrote old old whole whole
wrote_none old whole = record { front = []; split = refl; appends = Appends-nil old }

-- one more piece
pub wrote_more : (old mid new : Option (List ℕ)) (whole rest later : List ℕ) (n : ℕ) → Wrote old mid whole rest → Appends mid new (take n rest) → later ≡ drop n rest → Wrote old new whole later
wrote_more old mid new whole rest later n w h behind = record {
  front = w.front ++ take n rest;
  split = w.split ∙ ap (λ (t : List ℕ). w.front ++ t) (sym (take-append-drop n rest)) ∙ sym (append_assoc w.front (take n rest) (drop n rest)) ∙ ap (λ (t : List ℕ). (w.front ++ take n rest) ++ t) (sym behind);
  appends = Appends-trans old mid new w.front (take n rest) w.appends h;
}

-- a piece that was refused, or a flush
pub wrote_same : (old mid new : Option (List ℕ)) (whole rest : List ℕ) → Wrote old mid whole rest → Keeps mid new → Wrote old new whole rest
wrote_same old mid new whole rest w h = record { front = w.front; split = w.split; appends = Appends-kept old mid new w.front w.appends h }

pub wrote_front : (old new : Option (List ℕ)) (whole rest : List ℕ) → Wrote old new whole rest → AppendsFront old new whole
wrote_front old new whole rest w = (w.front, rest, w.split, w.appends)

-- nothing is left
pub wrote_all : (old new : Option (List ℕ)) (whole rest : List ℕ) → Wrote old new whole rest → rest ≡ [] → Appends old new whole
wrote_all old new whole rest w none =
    let all : whole ≡ w.front = w.split ∙ ap (λ (t : List ℕ). w.front ++ t) none ∙ append-nil w.front in
    subst (λ (t : List ℕ). Appends old new t) (sym all) w.appends

-- what holds at any rate holds at a success
pub on_ok : {A E : Type 0} (r : Result A E) (P : Type 0) → P → OnOk r P
on_ok (Ok x) P h = h
on_ok (Err e) P h = tt

-- and at a failure
pub on_err : {A E : Type 0} (r : Result A E) (P : Type 0) → P → OnErr r P
on_err (Ok x) P h = tt
on_err (Err e) P h = h

-- whether it failed or not, a beginning was written
pub front_of_both : {A E : Type 0} (r : Result A E) (old new : Option (List ℕ)) (text : List ℕ) → OnOk r (Appends old new text) → OnErr r (AppendsFront old new text) → AppendsFront old new text
front_of_both (Ok x) old new text ok err = (text, [], sym (append-nil text), ok)
front_of_both (Err e) old new text ok err = err
