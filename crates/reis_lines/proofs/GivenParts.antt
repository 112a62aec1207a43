-- The bytes that an input in memory gave, and those that it gives next.
use Rattle.std.proofs.Common.{◌≡◌, ◌≤◌, ℕ, ◌+◌, ◌-◌, List, [], ◌∷◌, ◌++◌, length, take, drop, Some, refl, ap, sym, ◌∙◌, arith, length-drop}
use Rattle.std.proofs.lemmas.List.{length-take-le, take_all, take_at, drop-drop}
use Rattle.reis_lines.specs.Input.{ReadsOn}

-- what is noted behind what was noted before
pub noted_on : {A : Type 0} (old now new more : List A) → new ≡ old ++ more → old ≡ now → new ≡ now ++ more
noted_on old now new more noted is = noted ∙ ap (λ v. v ++ more) is

nil_of : (l : List ℕ) → length l ≡ 0 → l ≡ []
nil_of [] e = refl
nil_of (x ∷ l) e = absurd (omega (arith, e))

-- and the text goes on behind them
pub fetched_on : (items seen copied behind text : List ℕ) (next count : ℕ) → next ≤ length items → count ≤ length items - next → (count ≡ 0 → length items ≤ next) → seen ≡ items → drop next items ≡ text →
    copied ≡ take count (take (length seen - next) (drop next seen)) → ReadsOn text (Some (drop (next + count) items)) count (copied ++ behind)
fetched_on items seen copied behind text next count within less none is told copies =
    let left : length (drop next items) ≡ length items - next = length-drop next items in
    let all : take (length items - next) (drop next items) ≡ drop next items = take_all (length items - next) (drop next items) (omega (arith, left)) in
    let part : copied ≡ take count (drop next items) =
    copies ∙ ap (λ v. take count (take (length v - next) (drop next v))) is ∙ ap (take count) all in
    let len : length copied ≡ count = ap length part ∙ length-take-le count (drop next items) (omega (arith, left, less)) in
    record {
      left = ap (λ (l : List ℕ). Some l) (sym (drop-drop count next items) ∙ ap (drop count) told);
      read = take_at copied behind count len ∙ part ∙ ap (take count) told;
      within = omega (arith, left, less, ap length told);
      ends = λ zero. nil_of text (omega (arith, left, none zero, ap length told));
    }
