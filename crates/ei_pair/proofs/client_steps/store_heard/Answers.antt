-- Memory was wanted: the ends are spent, and what was taken last is off the list again.
use Rattle.std.proofs.Common.{◌≡◌, ◌∷◌, true, ap, ◌∙◌}
use Rattle.ei_backend.specs.Backend.{BackendView}
use Rattle.ei_linked.specs.Held.{Held}
use Rattle.ei_linked.specs.Ends.{EndsView}
use Rattle.ei_pair.specs.declared.server_end.ServerEnd.{ServerEnd}
use Rattle.ei_pair.proofs.client_steps.store_heard.Goals as goal

pub returns-in-Err-clause-untakes : goal.returns-in-Err-clause-untakes
returns-in-Err-clause-untakes c = λ last past is.
    let x : EndsView ServerEnd = record { client = c.ends.inside.client; server = c.ends.inside.server; to_client = c.ends.inside.to_client; to_server = c.ends.inside.to_server; spent = c.ends.inside.spent } in
    let all : x ≡ record c.args.ends.now { spent = true } = c.ends.view_is ∙ c.in-Err.ensures.err in
    let taken : x.client.taken ≡ last ∷ past = ap (λ (e : EndsView ServerEnd). e.client.taken) all ∙ is in
    ap (λ (h : Held BackendView). let e : EndsView ServerEnd = record x { client = h } in e) (c.untake.ensures last past taken)
    ∙ ap (λ (e : EndsView ServerEnd). let n : EndsView ServerEnd = record e { client = record e.client { taken = past } } in n) all
