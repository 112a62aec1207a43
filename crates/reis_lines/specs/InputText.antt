-- The text of an input that was read: the one that it told, or the bytes that it gave with any behind them.
use Rattle.std.specs.Prelude.{◌≡◌, ◌⊎◌, ℕ, true, List, [], ◌++◌, Option, Some}
use Rattle.ei_backend.specs.Outside.{is_end}
use Rattle.reis_lines.specs.Input.{InputView}
use Rattle.reis_lines.specs.Given.{given_since}

-- the input told this text, and has those bytes left
pub record IsTold {I : Type 0} (view : I → InputView) (old new : I) (t : List ℕ) (left : Option (List ℕ)) : Type 0 where
  pub told_is : (view old).left ≡ Some t
  pub left_is : left ≡ (view new).left

-- The input gave the first bytes of this text, whatever it tells, and the others are left: any, but none where its last answer was
-- its end.
pub record BeginsAsGiven {I : Type 0} (view : I → InputView) (old new : I) (t : List ℕ) (left : Option (List ℕ)) : Type 0 where
  pub more : List ℕ
  pub text_is : t ≡ given_since view old new ++ more
  pub left_is : left ≡ Some more
  pub ends : is_end (view new).last ≡ true → more ≡ []

-- a text of the input, and what is left of it
abbrev pub IsText : {I : Type 0} → (I → InputView) → I → I → List ℕ → Option (List ℕ) → Type 0
IsText view old new t left = IsTold view old new t left ⊎ BeginsAsGiven view old new t left

-- what is so of each of these texts and of what is left of it
abbrev pub ForEachText : (List ℕ → Option (List ℕ) → Type 0) → (List ℕ → Option (List ℕ) → Type 0) → Type 0
ForEachText is_text P = (t : List ℕ) (left : Option (List ℕ)) → is_text t left → P t left

-- what is so of each text of an input, told or given
abbrev pub ForText : {I : Type 0} → (I → InputView) → I → I → (List ℕ → Option (List ℕ) → Type 0) → Type 0
ForText view old new P = ForEachText (IsText view old new) P
