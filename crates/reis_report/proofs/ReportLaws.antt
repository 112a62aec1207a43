-- One put after another.
use Rattle.std.proofs.Common.{◌≡◌, ◌+◌, ℕ, List, [], ◌++◌, take, drop, ap, sym, ◌∙◌, append_assoc, Some}
use Rattle.std.proofs.lemmas.List.{append-nil}
use Rattle.std.proofs.Math.Seq.{take-add}
use Rattle.std.specs.Prelude.{Option}
use Rattle.ei_backend.specs.Outside.{Piece, with_more}
use Rattle.reis_report.specs.Report.{Holds}

with_both : (held : Piece) (a b : List ℕ) → with_more b [] (with_more a [] held) ≡ with_more (a ++ b) [] held
with_both held a b = simp (append_assoc, append-nil)

-- n bytes more of the text went
pub put_on : (held : Piece) (text slice : List ℕ) (i n : ℕ) (mid new : Option Piece) → Holds held (take i text) mid → slice ≡ drop i text →
    ((h : Piece) → mid ≡ Some h → new ≡ Some (with_more (take n slice) [] h)) → Holds held (take (i + n) text) new
put_on held text slice i n mid new has is puts =
    puts (with_more (take i text) [] held) has ∙ ap (λ t. Some (with_more (take n t) [] (with_more (take i text) [] held))) is
    ∙ ap (λ h. Some h) (with_both held (take i text) (take n (drop i text)) ∙ ap (λ t. with_more t [] held) (sym (take-add i n text)))
