use Rattle.std.proofs.Common.{Option, refl, sym, ap, subst, ◌∙◌, map}
use Rattle.ei_ends.specs.Sent.{new_of}
use Rattle.ei_linked.specs.declared.record.Announced.{Announced}
use Rattle.ei_linked.specs.Asked.{AreNew}
use Rattle.ei_spec.specs.Rows as rows
use Rattle.ei_spec.specs.Interface.{known_of}
use Rattle.ei_rows.specs.Parts.{kind_view}
use Rattle.ei_values.specs.Stored.{ValueList, value_view}
use Rattle.ei_linked.specs.Stored.{sent_view}
use Rattle.ei_linked.proofs.Meeting.{no_row, announces_nothing, announces_fixed, announces_named}
use Rattle.ei_linked.proofs.record.Record.announces.Goals as goal

pub returns-in_err-row : goal.returns-in_err-row
returns-in_err-row c = subst (λ (r : Option Announced). AreNew r (new_of c.args.events (sent_view c.args.self.now))) (sym c.from_residual.ensures)
    (no_row c.args.events (sent_view c.args.self.now) c.row_of.result c.in_err-row.was c.row_of.ensures)

pub returns-in-Nothing : goal.returns-in-Nothing
returns-in-Nothing c = announces_nothing c.args.events (sent_view c.args.self.now) c.in_ok-row.row c.row_of.result c.in_ok-row.was c.row_of.ensures c.in-Nothing.is

pub returns-in-Fixed : goal.returns-in-Fixed
returns-in-Fixed c = announces_fixed c.args.events (sent_view c.args.self.now) c.in_ok-row.row c.row_of.result c.in-Fixed.interface _ c.in_ok-row.was c.row_of.ensures c.in-Fixed.is
    (c.new_id-id.ensures ∙ ap (λ (l : ValueList). rows.new_id (map kind_view c.in_ok-row.row.kinds.now) (map value_view l)) c.as_slice-values.ensures) refl
    (c.version_of-version.ensures ∙ ap (λ (l : ValueList). rows.version_of (map value_view l)) c.as_slice-values.ensures)

pub returns-in-Named : goal.returns-in-Named
returns-in-Named c = announces_named c.args.events (sent_view c.args.self.now) c.in_ok-row.row c.row_of.result _ c.in_ok-row.was c.row_of.ensures c.in-Named.is
    (c.new_id-id.ensures ∙ ap (λ (l : ValueList). rows.new_id (map kind_view c.in_ok-row.row.kinds.now) (map value_view l)) c.as_slice-values.ensures)
    (c.interface_in.ensures ∙ ap (λ (l : ValueList). known_of (rows.name_in (map value_view l))) c.as_slice-values.ensures)
    (c.version_of-version.ensures ∙ ap (λ (l : ValueList). rows.version_of (map value_view l)) c.as_slice-values.ensures)
