-- The pieces that a source gave, and those told that it has left.
use Rattle.std.proofs.Common.{◌≡◌, ◌≤◌, ℕ, ◌+◌, inl, inr, List, [], ◌∷◌, ◌++◌, length, take, drop, Option, Some, refl, ap, sym, ◌∙◌, append_assoc, arith}
use Rattle.std.specs.Prelude.{slice_get}
use Rattle.std.proofs.lemmas.List.{append-nil, length-append, take-append-le}
use Rattle.std.proofs.Math.Seq.{take-append_seam, drop-append_seam}
use Rattle.ei_spec.specs.Piece.{Piece}
use Rattle.ei_backend.specs.Outside.{SourceView}
use Rattle.ei_backend.specs.Incoming.{Hands, HasNone, Keeps}
use Rattle.ei_backend.specs.Pieces.{ArePieces, GavePieces, TookPieces}

same_behind : {A : Type 0} (front a b : List A) → front ++ a ≡ front ++ b → a ≡ b
same_behind {A = A} front a b e = sym (drop-append_seam front a) ∙ ap (λ (l : List A). drop (length front) l) e ∙ drop-append_seam front b

front_is : (told : List Piece) (piece : Piece) → slice_get told 0 ≡ Some piece → told ≡ piece ∷ drop 1 told
front_is [] piece e = absurd cc
front_is (p ∷ told) piece e = let same : p ≡ piece = cc in ap (λ (q : Piece). q ∷ told) same

-- these pieces were given since
pub record Gave (before after : SourceView) (came : List Piece) : Type 0 where
  pub gave : after.given ≡ before.given ++ came
  pub told : (told : List Piece) → before.left ≡ Some told → (rest : List Piece) × (after.left ≡ Some rest) × (told ≡ came ++ rest)

pub none_gave : (v : SourceView) → Gave v v []
none_gave v = record { gave = sym (append-nil v.given); told = λ told is. (told, is, refl) }

module _ (x y z : SourceView) (came : List Piece) (g : Gave x y came) where
  pub keeps_gave : Keeps y z → Gave x z came
  keeps_gave h = record {
    gave = h.given ∙ g.gave;
    told = λ told is. let r = g.told told is in (r.0, h.told r.0 r.1, r.2);
  }

  pub ends_gave : HasNone y z → Gave x z came
  ends_gave h = record {
    gave = h.given ∙ g.gave;
    told = λ told is. let r = g.told told is in let n = h.told r.0 r.1 in (r.0, n.1 ∙ ap (λ (l : List Piece). Some l) (sym n.0), r.2);
  }

  pub hands_gave : (p : Piece) → Hands y p z → Gave x z (came ++ p ∷ [])
  hands_gave p h = record {
    gave = h.given ∙ ap (λ (l : List Piece). l ++ p ∷ []) g.gave ∙ append_assoc x.given came (p ∷ []);
    told = λ told is. let r = g.told told is in let f = h.told r.0 r.1 in
        (drop 1 r.0, f.left_is, r.2 ∙ ap (λ (l : List Piece). came ++ l) (front_is r.0 p f.first) ∙ sym (append_assoc came (p ∷ []) (drop 1 r.0)));
  }

pub all_gave : (x z : SourceView) (came : List Piece) → Gave x z came → z.asked ≤ x.asked + length came + 1 → GavePieces x z
all_gave x z came g asked = record { came = came; gave = g.gave; told = g.told; asked = asked }

-- ---- what is told

-- the pieces told are these, and others that are left
pub record Parts (told : List Piece) (left : Option (List Piece)) (came : List Piece) : Type 0 where
  pub rest : List Piece
  pub told_is : told ≡ came ++ rest
  pub left_is : left ≡ Some rest

pub parts : (x z : SourceView) (came : List Piece) (ended : Type 0) (told : List Piece) (left : Option (List Piece)) → Gave x z came → ArePieces x z ended told left → Parts told left came
parts x z came ended told left g (inl h) = let r = g.told told h.told_is in record { rest = r.0; told_is = r.2; left_is = h.left_is ∙ r.1 }
parts x z came ended told left g (inr h) =
    let same : h.came ≡ came = same_behind x.given h.came came (sym h.gave ∙ g.gave) in
    record { rest = h.more; told_is = h.told_is ∙ ap (λ (l : List Piece). l ++ h.more) same; left_is = h.left_is }

-- none is left where it came to its end
pub parts_end : (x y z : SourceView) (came : List Piece) (ended : Type 0) (told : List Piece) (left : Option (List Piece)) → Gave x y came → HasNone y z → ended → ArePieces x z ended told left →
    (told ≡ came ++ []) × (left ≡ Some [])
parts_end x y z came ended told left g none e (inl h) =
    let r = g.told told h.told_is in
    let n = none.told r.0 r.1 in
    (r.2 ∙ ap (λ (l : List Piece). came ++ l) n.0, h.left_is ∙ n.1)
parts_end x y z came ended told left g none e (inr h) =
    let same : h.came ≡ came = same_behind x.given h.came came (sym h.gave ∙ none.given ∙ g.gave) in
    (h.told_is ∙ (λ i. same i ++ h.ends e i), h.left_is ∙ ap (λ (l : List Piece). Some l) (h.ends e))

module _ (told : List Piece) (left : Option (List Piece)) (came : List Piece) (p : Parts told left came) where
  pub took : TookPieces told left (length came)
  took = record {
    within = omega (arith, ap length p.told_is, length-append came p.rest);
    left_is = p.left_is ∙ ap (λ (l : List Piece). Some l) (sym (drop-append_seam came p.rest) ∙ ap (drop (length came)) (sym p.told_is));
  }

  pub firsts : take (length came) told ≡ came
  firsts = ap (take (length came)) p.told_is ∙ take-append_seam came p.rest

  pub firsts_before : (k : ℕ) → k ≤ length came → take k told ≡ take k came
  firsts_before k le = ap (take k) p.told_is ∙ take-append-le k came p.rest le
