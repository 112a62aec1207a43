-- What the six lines say, told by what the session gave.
use Rattle.std.proofs.Common.{◌≡◌, ℕ, List, [], length, Option, Some, Result, refl, sym, ap, subst, ◌∙◌, lit<}
use Rattle.std.specs.Prelude.{count_by}
use Rattle.ei_spec.specs.Message.{Raw, all_bytes}
use Rattle.ei_spec.specs.Piece.{Piece, stream}
use Rattle.ei_backend.specs.Outside.{with_more}
use Rattle.ei_session.specs.Setup.{Setup}
use Rattle.ei_session.specs.Requests.{framed}
use Rattle.ei_session.specs.Events.{replies}
use Rattle.ei_session.specs.Served.{session}
use Rattle.ei_request.specs.declared.event.EisRequest.{EisRequest}
use Rattle.ei_serve.specs.declared.session.Ended.{Ended}
use Rattle.ei_serve.specs.Serving.{HandsOut}
use Rattle.ei_types.specs.declared.error.Error.{Error}
use Rattle.reis_demo.specs.Generated.{demo_setup, cut, generated, generated_bytes}
use Rattle.reis_demo.specs.Summary.{is_input, is_input_request, six_lines, demo_lines}
use Rattle.reis_demo.proofs.CutLaws.{joined_again}
use Rattle.reis_demo.proofs.Counting.{requests_kept, inputs_kept}

-- ---- the numbers

inputs_told : (past : List Raw) (told : Option (List ℕ)) (out : List EisRequest) → HandsOut demo_setup past told [] out → count_by is_input_request out ≡ count_by is_input (framed demo_setup [] past)
inputs_told past told out h = ap (count_by is_input_request) h.grown ∙ inputs_kept demo_setup h.readings past past

requests_told : (past : List Raw) (told : Option (List ℕ)) (out : List EisRequest) → HandsOut demo_setup past told [] out → length out ≡ length (framed demo_setup [] past)
requests_told past told out h = ap (λ (x : List EisRequest). length x) h.grown ∙ requests_kept demo_setup h.readings past past

abbrev empty : Piece
empty = record { bytes = []; handles = [] }

bytes_of_some : (p q : Piece) → Some p ≡ Some q → p.bytes ≡ q.bytes
bytes_of_some p q e = let same : p ≡ q = cc in ap (λ (x : Piece). x.bytes) same

-- a tray that held the first piece holds the second, with the replies to the messages behind it
abbrev Answered : Setup → List Raw → Piece → Piece → Type 0
Answered setup past before after = (held : Piece) → Some before ≡ Some held → Some after ≡ Some (with_more (all_bytes (replies setup past)) [] held)

replies_told : (past : List Raw) (after : Piece) → Answered demo_setup past empty after → length after.bytes ≡ length (all_bytes (replies demo_setup past))
replies_told past after h = ap (λ (x : List ℕ). length x) (bytes_of_some after (with_more (all_bytes (replies demo_setup past)) [] empty) (h empty refl))

-- what a session over a stream gave, where it took an empty list and an empty tray
pub record Gave (s : Setup) (pieces : List Piece) (readings : Option (List ℕ)) (old out : List EisRequest) (before after : Piece) : Type 0 where
  pub requests : HandsOut s (session s pieces).handled readings old out
  pub replied : Answered s (session s pieces).handled before after
  pub none : old ≡ []
  pub nothing : before ≡ empty

gave_so : (s t : Setup) (bytes all : List ℕ) (readings : Option (List ℕ)) (old out : List EisRequest) (before after : Piece) → s ≡ t → bytes ≡ all →
    Gave s (cut 4096 bytes) readings old out before after → Gave t (cut 4096 all) readings [] out empty after
gave_so s t bytes all readings old out before after e f g =
    let one = subst (λ (x : Setup). Gave x (cut 4096 bytes) readings old out before after) e g in
    let two = subst (λ (x : List ℕ). Gave t (cut 4096 x) readings old out before after) f one in
    let three = subst (λ (x : List EisRequest). Gave t (cut 4096 all) readings x out before after) g.none two in
    subst (λ (x : Piece). Gave t (cut 4096 all) readings [] out x after) g.nothing three

same_lines : (groups : ℕ) (answer : Result Ended Error) (a b c d i j k l : ℕ) → a ≡ i → b ≡ j → c ≡ k → d ≡ l → six_lines groups a b c d answer ≡ six_lines groups i j k l answer
same_lines groups answer a b c d i j k l p q r s =
    ap (λ (x : ℕ). six_lines groups x b c d answer) p
    ∙ ap (λ (x : ℕ). six_lines groups i x c d answer) q
    ∙ ap (λ (x : ℕ). six_lines groups i j x d answer) r
    ∙ ap (λ (x : ℕ). six_lines groups i j k x answer) s

-- the lines of what was counted are those of the session
pub lines_told : (groups start : ℕ) (answer : Result Ended Error) (s : Setup) (bytes : List ℕ) (readings : Option (List ℕ)) (old out : List EisRequest) (before after : Piece) (inputs requests bytes_in bytes_out : ℕ) →
    s ≡ demo_setup → bytes ≡ generated_bytes groups start → Gave s (cut 4096 bytes) readings old out before after →
    inputs ≡ count_by is_input_request out → requests ≡ length out → bytes_in ≡ length bytes → bytes_out ≡ length after.bytes →
    six_lines groups inputs requests bytes_in bytes_out answer ≡ demo_lines groups start answer
lines_told groups start answer s bytes readings old out before after inputs requests bytes_in bytes_out e f g i r b o =
    let all = generated_bytes groups start in
    let past = (session demo_setup (generated groups start)).handled in
    let given : Gave demo_setup (cut 4096 all) readings [] out empty after = gave_so s demo_setup bytes all readings old out before after e f g in
    let joined : stream (cut 4096 all) ≡ all = joined_again 4096 all (lit< tt) in
    same_lines groups answer inputs requests bytes_in bytes_out _ _ _ _
    (i ∙ inputs_told past readings out given.requests)
    (r ∙ requests_told past readings out given.requests)
    (b ∙ ap (λ (x : List ℕ). length x) (f ∙ sym joined))
    (o ∙ replies_told past after given.replied)

-- what is so of a setup and of pieces is so of these
pub at_demo : (P : Setup → List Piece → Type 0) (s : Setup) (bytes : List ℕ) (groups start : ℕ) → s ≡ demo_setup → bytes ≡ generated_bytes groups start →
    P s (cut 4096 bytes) → P demo_setup (generated groups start)
at_demo P s bytes groups start e f p =
    subst (λ (x : List ℕ). P demo_setup (cut 4096 x)) f (subst (λ (x : Setup). P x (cut 4096 bytes)) e p)
