use Rattle.std.proofs.Common.{◌≡◌, ◌<◌, ◌^◌, List, [], ap, subst, refl, inl, ◌∙◌, arith, rules}
use Rattle.ei_spec.specs.Piece.{Piece}
use Rattle.ei_session.specs.Setup.{Setup}
use Rattle.ei_session.specs.Served.{Answer, session}
use Rattle.ei_serve.specs.Serving.{AnswersAs, LeftReadings}
use Rattle.ei_types.specs.Decided.{IsDecided}
use Rattle.ei_serve.specs.Standing.{setup_of}
use Rattle.reis_demo.specs.Generated.{generated_bytes}
use Rattle.reis_demo.specs.Script.{StreamView}
use Rattle.reis_demo.proofs.Disconnecting.{ends_by_disconnect}
use Rattle.reis_demo.proofs.DisconnectTold.{disconnect_told}
use Rattle.reis_demo.proofs.Telling.{lines_told, at_demo}
use Rattle.reis_demo.proofs.demo_session.demo.Goals as goal

pub returns-clause-text : goal.returns-clause-text
returns-clause-text g c =
    let decided : IsDecided c.serve_counted-answer.result = search rules in
    let k = c.serve_counted-answer.ensures.serves decided _ _ (inl (record { told_is = refl; left_is = refl })) in
    let bytes : c.in_ok-source.source.left ≡ generated_bytes c.args.groups c.args.start = ap (λ (v : StreamView). v.left) c.in_ok-source.ensures in
    c.in_ok-text.ensures
    ∙ lines_told c.args.groups c.args.start c.serve_counted-answer.result (setup_of c.setup.result) c.in_ok-source.source.left (g.C.Clock.view c.args.clock.now).left
    [] k.came c.new-replies.result.tray.held c.serve_counted-answer.new.sink.tray.held
    c.serve_counted-answer.new.tally.inputs c.serve_counted-answer.new.tally.requests c.bytes_left-bytes_in.result c.len.result c.setup.ensures bytes
    (record {
      requests = k.serves.requests decided;
      replied = (k.serves.replies decided).told;
      none = refl;
      nothing = c.new-replies.ensures;
    })
    k.counts.inputs k.counts.requests c.bytes_left-bytes_in.ensures c.len.ensures

pub returns-clause-answer : goal.returns-clause-answer
returns-clause-answer g c =
    let decided : IsDecided c.serve_counted-answer.result = search rules in
    let k = c.serve_counted-answer.ensures.serves decided _ _ (inl (record { told_is = refl; left_is = refl })) in
    let bytes : c.in_ok-source.source.left ≡ generated_bytes c.args.groups c.args.start = ap (λ (v : StreamView). v.left) c.in_ok-source.ensures in
    at_demo (λ (s : Setup) (pieces : List Piece). AnswersAs (session s pieces).answer c.serve_counted-answer.result) (setup_of c.setup.result) c.in_ok-source.source.left c.args.groups c.args.start
    c.setup.ensures bytes (k.serves.answer)

pub returns-clause-readings : goal.returns-clause-readings
returns-clause-readings g c =
    let decided : IsDecided c.serve_counted-answer.result = search rules in
    let k = c.serve_counted-answer.ensures.serves decided _ _ (inl (record { told_is = refl; left_is = refl })) in
    let bytes : c.in_ok-source.source.left ≡ generated_bytes c.args.groups c.args.start = ap (λ (v : StreamView). v.left) c.in_ok-source.ensures in
    at_demo (λ (s : Setup) (pieces : List Piece). LeftReadings s (session s pieces).handled (g.C.Clock.view c.args.clock.now).left (g.C.Clock.view c.serve_counted-answer.new.clock).left)
    (setup_of c.setup.result) c.in_ok-source.source.left c.args.groups c.args.start
    c.setup.ensures bytes (k.serves.readings decided)

pub returns-clause-disconnects : goal.returns-clause-disconnects
returns-clause-disconnects g c =
    let decided : IsDecided c.serve_counted-answer.result = search rules in
    let k = c.serve_counted-answer.ensures.serves decided _ _ (inl (record { told_is = refl; left_is = refl })) in
    let bytes : c.in_ok-source.source.left ≡ generated_bytes c.args.groups c.args.start = ap (λ (v : StreamView). v.left) c.in_ok-source.ensures in
    let few : c.args.groups < 2 ^ 32 = omega arith in
    let answers = at_demo (λ (s : Setup) (pieces : List Piece). AnswersAs (session s pieces).answer c.serve_counted-answer.result) (setup_of c.setup.result) c.in_ok-source.source.left c.args.groups c.args.start
    c.setup.ensures bytes (k.serves.answer) in
    disconnect_told c.serve_counted-answer.result (subst (λ (a : Answer). AnswersAs a c.serve_counted-answer.result) (ends_by_disconnect c.args.groups c.args.start few) answers) decided
