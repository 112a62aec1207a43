use Rattle.std.proofs.Common.{sym, ◌∙◌, rules, tests, arith}
use Rattle.std.proofs.lemmas.Iterator.{YieldsList-from_slice}
use Rattle.std.proofs.lemmas.Iterator.Consumers.{YieldsList-from_filter, count_from_yields_List}
use Rattle.std.specs.Prelude.{is_some}
use Rattle.ei_spec.specs.Interface.{the_interfaces}
use Rattle.ei_spec.proofs.NameMaps.{len_known}
use Rattle.ei_handshake.specs.Versions.{version_at}
use Rattle.ei_handshake.proofs.OtherNames.{len_both}
use Rattle.ei_handshake.proofs.versions.Versions.len.Goals as goal

pub returns : goal.returns
returns c =
    let v = c.self.inside in
    let known =
    count_from_yields_List c.filter.result c.count-known.result c.count-known.ensures.ran
    (YieldsList-from_filter _ (λ i. is_some (version_at v.versions i)) (YieldsList-from_slice the_interfaces cc) c.filter.ensures.closure (λ x r q k. search (rules, tests)))
    ∙ sym (len_known (version_at v.versions)) in
    let both = len_both v.others v.versions c.len.ensures.ordered c.self.invariant.unknown in
    rw (← c.self.view_is) (omega (arith, known, both, c.len.ensures.len))
