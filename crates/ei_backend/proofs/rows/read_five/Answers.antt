use Rattle.std.proofs.Common.{◌∙◌, [], ◌∷◌, ap, Err}
use Rattle.std.proofs.lemmas.Result.{err_from_is_err_and}
use Rattle.ei_wire.specs.declared.error.ParseError.{ParseError}
use Rattle.ei_backend.proofs.TextsWant.{stops}
use Rattle.ei_backend.proofs.rows.read_five.Goals as goal

pub returns-in_err-d-clause-memory : goal.returns-in_err-d-clause-memory
returns-in_err-d-clause-memory g c =
    let p = err_from_is_err_and c.from_residual-in_err-d.result c.from_residual-in_err-d.ensures.1 in
    stops c.from_residual-in_err-d.result (g.A.OwnedArg.kind ∷ g.B.OwnedArg.kind ∷ g.C.OwnedArg.kind ∷ []) (g.E.OwnedArg.kind ∷ []) g.D.OwnedArg.kind _ _ (p.1 ∙ ap (λ (e : ParseError). Err e) p.2) c.in_err-d.ensures.memory

pub returns-in_err-e-clause-memory : goal.returns-in_err-e-clause-memory
returns-in_err-e-clause-memory g c =
    let p = err_from_is_err_and c.from_residual-in_err-e.result c.from_residual-in_err-e.ensures.1 in
    stops c.from_residual-in_err-e.result (g.A.OwnedArg.kind ∷ g.B.OwnedArg.kind ∷ g.C.OwnedArg.kind ∷ g.D.OwnedArg.kind ∷ []) [] g.E.OwnedArg.kind _ _ (p.1 ∙ ap (λ (e : ParseError). Err e) p.2) c.in_err-e.ensures.memory
