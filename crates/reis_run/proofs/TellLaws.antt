-- Lines of requests, one after another, and the report that is told.
use Rattle.std.proofs.Common.{◌≡◌, ℕ, ◌+◌, ◌<◌, List, [], ◌∷◌, ◌++◌, length, take, get_or, refl, sym, ap, ◌∙◌, append_assoc}
use Rattle.std.proofs.lemmas.List.{append-nil, take_more}
use Rattle.ei_request.specs.declared.event.EisRequest.{EisRequest}
use Rattle.reis_report.specs.Report.{line_of}
use Rattle.reis_report.specs.RequestLine.{request_text}
use Rattle.reis_run.specs.Tell.{request_lines}

request_lines-append : (a b : List EisRequest) → request_lines (a ++ b) ≡ request_lines a ++ request_lines b
request_lines-append [] b = refl
request_lines-append (r ∷ a) b =
    ap (λ (t : List ℕ). line_of (request_text r) ++ t) (request_lines-append a b)
    ∙ sym (append_assoc (line_of (request_text r)) (request_lines a) (request_lines b))

request_lines_more : (rs : List EisRequest) (i : ℕ) (d : EisRequest) → i < length rs →
    request_lines (take (i + 1) rs) ≡ request_lines (take i rs) ++ line_of (request_text (get_or rs i d))
request_lines_more rs i d lt =
    ap request_lines (take_more rs i d lt) ∙ request_lines-append (take i rs) (get_or rs i d ∷ [])
    ∙ ap (λ (t : List ℕ). request_lines (take i rs) ++ t) (append-nil (line_of (request_text (get_or rs i d))))

-- one line more behind those of the first requests
pub line_more : (before mid line new : List ℕ) (rs : List EisRequest) (i : ℕ) (d : EisRequest) → mid ≡ before ++ request_lines (take i rs) → i < length rs →
    line ≡ request_text (get_or rs i d) → new ≡ mid ++ line_of line → new ≡ before ++ request_lines (take (i + 1) rs)
line_more before mid line new rs i d has lt is puts =
    puts ∙ ap (λ (t : List ℕ). mid ++ line_of t) is
    ∙ ap (λ (t : List ℕ). t ++ line_of (request_text (get_or rs i d))) has
    ∙ append_assoc before (request_lines (take i rs)) (line_of (request_text (get_or rs i d)))
    ∙ ap (λ (t : List ℕ). before ++ t) (sym (request_lines_more rs i d lt))
