use Rattle.std.proofs.Common.{ℕ, List, [], ◌∷◌, ◌++◌, length, Some, Ok, Err, sym, ap, ◌∙◌, arith, inr}
use Rattle.ei_backend.specs.Backend.{unsent_of}
use Rattle.ei_backend.specs.Memory.{TrayView, PiecesView, source_of, sink_of, clock_of}
use Rattle.ei_serve.specs.Around.{Around, around}
use Rattle.ei_serve.specs.Steps.{bytes_only}
use Rattle.ei_replay.proofs.Delivering.{all_went, turned}
use Rattle.ei_replay.proofs.delivery.deliver.Goals as goal

pub push-requires-clause-some : goal.push-requires-clause-some
push-requires-clause-some c =
    let went = all_went _ c.flush.result (unsent_of c.args.client.now) (unsent_of c.flush.new.self) c.new-sent.result c.flush.new.sink (sym c.is_err.ensures.value ∙ c.if-is_err.false) (ap (λ (t : TrayView). t.held) c.new-sent.ensures) c.flush.ensures.flushes in
    let n = ap length (c.bytes.ensures ∙ went.bytes) in
    let some = c.requires.some in
    omega (arith, n, some)

pub push-requires-clause-bytes : goal.push-requires-clause-bytes
push-requires-clause-bytes c =
    let went = all_went _ c.flush.result (unsent_of c.args.client.now) (unsent_of c.flush.new.self) c.new-sent.result c.flush.new.sink (sym c.is_err.ensures.value ∙ c.if-is_err.false) (ap (λ (t : TrayView). t.held) c.new-sent.ensures) c.flush.ensures.flushes in
    let n = ap length (c.bytes.ensures ∙ went.bytes) in
    let few = c.requires.few in
    omega (arith, n, few)

pub returns-in-Ok-clause-delivers : goal.returns-in-Ok-clause-delivers
returns-in-Ok-clause-delivers c = λ setup pieces times s.
    let went = all_went _ c.flush.result (unsent_of c.args.client.now) (unsent_of c.flush.new.self) c.new-sent.result c.flush.new.sink (sym c.is_err.ensures.value ∙ c.if-is_err.false) (ap (λ (t : TrayView). t.held) c.new-sent.ensures) c.flush.ensures.flushes in
    let one = ap (λ (p : PiecesView). Some p.left) c.in_ok-push.ensures.ok ∙ ap (λ (p : PiecesView). Some (p.left ++ bytes_only c.bytes.result.now ∷ [])) c.new-source.ensures ∙ ap (λ (l : List ℕ). Some (bytes_only l ∷ [])) (c.bytes.ensures ∙ went.bytes) in
    let before : Around = around (source_of c.push.new.self) c.args.out.now.items (sink_of c.new-answers.result) (clock_of c.in_ok-clock.clock).left in
    let after : Around = around (source_of c.turn.new.source) c.turn.new.out.items (sink_of c.turn.new.sink) (clock_of c.turn.new.clock).left in (
      c.in_ok-extend_from_slice.ensures.items ∙ ap (λ (l : List ℕ). c.args.stream.now.items ++ l) (c.bytes-2.ensures ∙ went.bytes),
      (c.in-Ok.field-0, turned setup pieces times c.args.client.now.unsent (Ok c.in-Ok.field-0) c.turn.new.self before after (c.in-Ok.ensures.turns setup pieces times s) one),
    )

pub returns-clause-delivers : goal.returns-clause-delivers
returns-clause-delivers c = λ setup pieces times s.
    let went = all_went _ c.flush.result (unsent_of c.args.client.now) (unsent_of c.flush.new.self) c.new-sent.result c.flush.new.sink (sym c.is_err.ensures.value ∙ c.if-is_err.false) (ap (λ (t : TrayView). t.held) c.new-sent.ensures) c.flush.ensures.flushes in
    let one = ap (λ (p : PiecesView). Some p.left) c.in_ok-push.ensures.ok ∙ ap (λ (p : PiecesView). Some (p.left ++ bytes_only c.bytes.result.now ∷ [])) c.new-source.ensures ∙ ap (λ (l : List ℕ). Some (bytes_only l ∷ [])) (c.bytes.ensures ∙ went.bytes) in
    let before : Around = around (source_of c.push.new.self) c.args.out.now.items (sink_of c.new-answers.result) (clock_of c.in_ok-clock.clock).left in
    let after : Around = around (source_of c.turn.new.source) c.turn.new.out.items (sink_of c.turn.new.sink) (clock_of c.turn.new.clock).left in
    inr (
      c.in_ok-extend_from_slice.ensures.items ∙ ap (λ (l : List ℕ). c.args.stream.now.items ++ l) (c.bytes-2.ensures ∙ went.bytes),
      inr (c.in-Err.field-0, turned setup pieces times c.args.client.now.unsent (Err c.in-Err.field-0) c.turn.new.self before after (c.in-Err.ensures.turns setup pieces times s) one),
    )
