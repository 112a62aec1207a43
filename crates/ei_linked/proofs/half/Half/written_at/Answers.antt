use Rattle.std.proofs.Common.{◌≡◌, ℕ, List, Err, length, take, drop, ◌-◌, ◌+◌, ap, subst, ◌∙◌, arith}
use Rattle.std.specs.Prelude.{IsSome}
use Rattle.std.specs.List.{flat_map}
use Rattle.std.proofs.lemmas.Result.{err_from_is_err_and}
use Rattle.ei_spec.specs.declared.handle.Handle.{Handle}
use Rattle.ei_spec.specs.Arguments.{behind_values}
use Rattle.ei_backend.specs.Backend.{BackendView}
use Rattle.ei_ends.specs.Sent.{raw_of, spelled, handles_in}
use Rattle.ei_linked.specs.Held.{stored_by}
use Rattle.ei_linked.specs.declared.written.StoreError.{StoreError}
use Rattle.ei_linked.proofs.WrittenAt.{lawful, front_is, there, rest_of, rest_at_most, count_fits, no_target, interface_is, version_is, id_is, row_is, kinds_are, values_are, stops, record_is, behind_is}
use Rattle.ei_linked.proofs.half.Half.written_at.Goals as goal

pub returns-then-at-bytes : goal.returns-then-at-bytes
returns-then-at-bytes g c = λ m ms w.
    let x = stored_by g.C.HasBackend.seen c.args.self.now in
    let eb : c.unsent-bytes.result.now ≡ x.backend.unsent = c.unsent-bytes.ensures ∙ ap (λ (b : BackendView). b.unsent) (c.backend-backend.ensures ∙ ap (λ h. g.C.HasBackend.seen h.context) c.self.view_is) in
    there c.args.events c.args.at m ms x w (omega (arith, ap length eb, c.if-at-bytes.true))

pub returns-in_default : goal.returns-in_default
returns-in_default g c = λ m ms w.
    let x = stored_by g.C.HasBackend.seen c.args.self.now in
    let eb : c.unsent-bytes.result.now ≡ x.backend.unsent = c.unsent-bytes.ensures ∙ ap (λ (b : BackendView). b.unsent) (c.backend-backend.ensures ∙ ap (λ h. g.C.HasBackend.seen h.context) c.self.view_is) in
    let is = rest_of c.unsent-bytes.result.now c.args.at.bytes ∙ ap (λ (l : List ℕ). drop c.args.at.bytes l) eb ∙ front_is c.args.events c.args.at m ms x w in
    let some = c.first_of.ensures.some (raw_of m) (spelled ms) (lawful c.args.events c.args.at m ms x w) is in
    let none = subst IsSome c.in_default.is some in
    absurd cc

pub returns-in_default-wrote_to : goal.returns-in_default-wrote_to
returns-in_default-wrote_to g c = λ m ms w.
    let x = stored_by g.C.HasBackend.seen c.args.self.now in
    let eb : c.unsent-bytes.result.now ≡ x.backend.unsent = c.unsent-bytes.ensures ∙ ap (λ (b : BackendView). b.unsent) (c.backend-backend.ensures ∙ ap (λ h. g.C.HasBackend.seen h.context) c.self.view_is) in
    let is = rest_of c.unsent-bytes.result.now c.args.at.bytes ∙ ap (λ (l : List ℕ). drop c.args.at.bytes l) eb ∙ front_is c.args.events c.args.at m ms x w in
    let f = c.in-Some.ensures.first (raw_of m) (spelled ms) (lawful c.args.events c.args.at m ms x w) is in
    no_target c.args.events c.args.at m ms x w c.in-Some.header c.in-Some.body.now f c.in_default-wrote_to.ensures

pub returns-in_err-values : goal.returns-in_err-values
returns-in_err-values g c = λ m ms w.
    let x = stored_by g.C.HasBackend.seen c.args.self.now in
    let b_is : c.backend-backend.result.now ≡ x.backend = c.backend-backend.ensures ∙ ap (λ h. g.C.HasBackend.seen h.context) c.self.view_is in
    let eb : c.unsent-bytes.result.now ≡ x.backend.unsent = c.unsent-bytes.ensures ∙ ap (λ (b : BackendView). b.unsent) b_is in
    let eh : c.unsent_handles-handles.result.now ≡ x.backend.unsent_handles = c.unsent_handles-handles.ensures ∙ ap (λ (b : BackendView). b.unsent_handles) b_is in
    let is = rest_of c.unsent-bytes.result.now c.args.at.bytes ∙ ap (λ (l : List ℕ). drop c.args.at.bytes l) eb ∙ front_is c.args.events c.args.at m ms x w in
    let f = c.in-Some.ensures.first (raw_of m) (spelled ms) (lawful c.args.events c.args.at m ms x w) is in
    let header = c.in-Some.header in
    let body = c.in-Some.body.now in
    let hs : List Handle = take (length c.unsent_handles-handles.result.now - c.min.result) (drop c.min.result c.unsent_handles-handles.result.now) in
    let eh2 : hs ≡ drop c.args.at.handles x.backend.unsent_handles = rest_at_most c.unsent_handles-handles.result.now c.args.at.handles c.min.result c.min.ensures ∙ ap (λ (l : List Handle). drop c.args.at.handles l) eh in
    let row = row_is c.args.events c.args.at m ms x w header body f c.in-Some-wrote_to.target c.in-Some-wrote_to.ensures in
    let reads = values_are c.args.events c.args.at m ms x w header body f hs c.new-stream.result eh2 c.new-stream.ensures in
    let t = c.row_values.ensures m.values (behind_values hs 0 m.values) w.calls.0 row reads in
    let p = err_from_is_err_and c.from_residual.result c.from_residual.ensures.1 in
    stops c.args.events c.args.at m w.calls.0.kinds m.values (behind_values hs 0 m.values) c.row_values.new.stream c.from_residual.result c.row_values.result c.in_err-values.field-0.0 (p.1 ∙ ap (λ (e : StoreError). Err e) p.2) c.in_err-values.was t

pub returns : goal.returns
returns g c = λ m ms w.
    let x = stored_by g.C.HasBackend.seen c.args.self.now in
    let b_is : c.backend-backend.result.now ≡ x.backend = c.backend-backend.ensures ∙ ap (λ h. g.C.HasBackend.seen h.context) c.self.view_is in
    let eb : c.unsent-bytes.result.now ≡ x.backend.unsent = c.unsent-bytes.ensures ∙ ap (λ (b : BackendView). b.unsent) b_is in
    let eh : c.unsent_handles-handles.result.now ≡ x.backend.unsent_handles = c.unsent_handles-handles.ensures ∙ ap (λ (b : BackendView). b.unsent_handles) b_is in
    let is = rest_of c.unsent-bytes.result.now c.args.at.bytes ∙ ap (λ (l : List ℕ). drop c.args.at.bytes l) eb ∙ front_is c.args.events c.args.at m ms x w in
    let f = c.in-Some.ensures.first (raw_of m) (spelled ms) (lawful c.args.events c.args.at m ms x w) is in
    let header = c.in-Some.header in
    let body = c.in-Some.body.now in
    let target = c.in-Some-wrote_to.target in
    let at_target = c.in-Some-wrote_to.ensures in
    let hs : List Handle = take (length c.unsent_handles-handles.result.now - c.min.result) (drop c.min.result c.unsent_handles-handles.result.now) in
    let eh2 : hs ≡ drop c.args.at.handles x.backend.unsent_handles = rest_at_most c.unsent_handles-handles.result.now c.args.at.handles c.min.result c.min.ensures ∙ ap (λ (l : List Handle). drop c.args.at.handles l) eh in
    let row = row_is c.args.events c.args.at m ms x w header body f target at_target in
    let reads = values_are c.args.events c.args.at m ms x w header body f hs c.new-stream.result eh2 c.new-stream.ensures in
    let t = c.in_ok-values.ensures m.values (behind_values hs 0 m.values) w.calls.0 row reads in
    let from_none : c.handles_taken.result ≡ 0 + length (handles_in m) = c.handles_taken.ensures ∙ ap (λ u. u.taken) t.1 in
    let taken : c.handles_taken.result ≡ length (handles_in m) = omega (arith, from_none) in
    let fits = count_fits c.args.at.handles c.handles_taken.result x.backend.unsent_handles (handles_in m) (flat_map handles_in ms) w.handles taken (omega arith) (omega (arith, ap length eh, c.unsent_handles-handles.type_inv.0)) in
    let sum : c.saturating_add.result ≡ c.args.at.handles + length (handles_in m) = omega (arith, c.saturating_add.ensures, taken, fits) in (
      record_is c.args.events m target.id target.version header.opcode target.interface w.calls.0.kinds c.in_ok-values.values (id_is c.args.events c.args.at m ms x w header body f target at_target) (interface_is c.args.events c.args.at m ms x w header body f target at_target) (version_is c.args.events c.args.at m ms x w header body f target at_target) f.opcode (kinds_are c.args.events c.args.at m ms x w header body f) t.0,
      behind_is c.args.at m (c.args.at.bytes + header.length) c.saturating_add.result (ap (λ (n : ℕ). c.args.at.bytes + n) f.length) sum,
    )
