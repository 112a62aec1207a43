-- A text of an input, told or given, begins with the bytes that the input gave.
use Rattle.std.proofs.Common.{◌≡◌, inl, inr, ℕ, List, [], ◌++◌, Some, refl, ap, sym, ◌∙◌}
use Rattle.std.specs.Prelude.{Option, Bool, true}
use Rattle.std.proofs.lemmas.List.{append-nil}
use Rattle.reis_lines.specs.Input.{InputView}
use Rattle.reis_lines.specs.Given.{given_since}
use Rattle.reis_lines.specs.HexSource.{Reading, fresh, LaterReading}
use Rattle.reis_lines.specs.InputText.{IsTold, BeginsAsGiven, IsText}
use Rattle.reis_lines.proofs.GaveLaws.{since_is}
use Rattle.reis_lines.proofs.GivenPieces.{none_if_known}
use Rattle.reis_lines.proofs.SourceLaws.{rest_none}

-- It is the bytes given and those left behind them: none where the end is known.
pub record TextBegins {I : Type 0} (view : I → InputView) (old new : I) (ended : Bool) (t : List ℕ) (left : Option (List ℕ)) : Type 0 where
  pub more : List ℕ
  pub text_is : t ≡ given_since view old new ++ more
  pub left_is : left ≡ Some more
  pub ends : ended ≡ true → more ≡ []

module _ {I : Type 0} (view : I → InputView) (later : I → I → Type 0) where
  begins_told : (old : I) (y : Reading I) → LaterReading view later (fresh old) y → (t : List ℕ) (left : Option (List ℕ)) →
      IsTold view old y.input t left → TextBegins view old y.input y.ended t left
  begins_told old y r t left h =
      let m = r.left t h.told_is in
      let since = since_is view old y.input r.bytes r.gave in
      record {
        more = m.0;
        text_is = m.2 ∙ ap (λ v. v ++ m.0) (sym since);
        left_is = h.left_is ∙ r.told t h.told_is h.told_is ∙ m.1;
        ends = rest_none (view y.input).left y.ended m.0 m.1;
      }

  begins_given : (old : I) (y : Reading I) → LaterReading view later (fresh old) y → (t : List ℕ) (left : Option (List ℕ)) →
      BeginsAsGiven view old y.input t left → TextBegins view old y.input y.ended t left
  begins_given old y r t left h = record {
    more = h.more;
    text_is = h.text_is;
    left_is = h.left_is;
    ends = none_if_known view later (fresh old) y r refl h.more h.ends;
  }

  pub text_begins : (old : I) (y : Reading I) → LaterReading view later (fresh old) y → (t : List ℕ) (left : Option (List ℕ)) →
      IsText view old y.input t left → TextBegins view old y.input y.ended t left
  text_begins old y r t left (inl h) = begins_told old y r t left h
  text_begins old y r t left (inr h) = begins_given old y r t left h

-- of an input that wasn't asked all of the text is left
pub unread_text : {I : Type 0} (view : I → InputView) (old : I) (t : List ℕ) (left : Option (List ℕ)) →
    IsText view old old t left → left ≡ Some t
unread_text view old t left (inl h) = h.left_is ∙ h.told_is
unread_text view old t left (inr h) =
    let none : given_since view old old ≡ [] = since_is view old old [] (sym (append-nil (view old).given)) in
    h.left_is ∙ ap (λ v. Some v) (sym (h.text_is ∙ ap (λ v. v ++ h.more) none))
