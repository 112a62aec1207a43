-- What stands between arguments as text.
use Rattle.std.proofs.Common.{◌≡◌, ℕ, List, [], ◌∷◌, ◌++◌, codes, sym, ◌∙◌, ap, append_assoc}
use Rattle.std.proofs.lemmas.List.{append-nil}
use Rattle.std.proofs.lemmas.Grind.{flat_map-append}
use Rattle.reis_trace.specs.TraceLine.{comma_before_each, commas}

-- what comes before the next argument, by those before it: nothing before the first
abbrev pub gap : {A : Type 0} → List A → List ℕ
gap [] = []
gap (arg ∷ args) = codes ", "

-- one more argument comes behind a gap
pub commas_more : {A : Type 0} (text : A → List ℕ) (args : List A) (arg : A) → commas text (args ++ arg ∷ []) ≡ commas text args ++ (gap args ++ text arg)
commas_more text [] arg = append-nil (text arg)
commas_more text (first ∷ args) arg =
    ap (λ (behind : List ℕ). text first ++ behind) (flat_map-append (λ a. codes ", " ++ text a) args (arg ∷ []) ∙ ap (λ (last : List ℕ). comma_before_each text args ++ last) (append-nil (codes ", " ++ text arg)))
    ∙ sym (append_assoc (text first) (comma_before_each text args) (codes ", " ++ text arg))
