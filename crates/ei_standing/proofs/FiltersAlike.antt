-- Two choices that agree on each of a list choose the same.
use Rattle.std.proofs.Common.{◌≡◌, List, [], ◌∷◌, Option, refl, ap, ◌∙◌}
use Rattle.std.specs.List.{filter_map, cons_option, AllByRecursion}

pub alike : {X Y : Type 0} (f g : X → Option Y) (xs : List X) → AllByRecursion (λ x. f x ≡ g x) xs → filter_map f xs ≡ filter_map g xs
alike f g [] h = refl
alike {Y = Y} f g (x ∷ xs) h = ap (λ (o : Option Y). cons_option o (filter_map f xs)) h.0 ∙ ap (λ (ys : List Y). cons_option (g x) ys) (alike f g xs h.1)
