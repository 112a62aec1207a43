use Rattle.std.proofs.Common.{sym, ap, ◌∙◌}
use Rattle.std.specs.Cmp.{nat_cmp_total}
use Rattle.std.specs.FinSet.{contains, contains-from_list}
use Rattle.reis_strict.proofs.codes.Codes.contains.Goals as goal

pub returns : goal.returns
returns c = c.contains.ensures ∙ sym (contains-from_list nat_cmp_total c.self.inside.codes.keys c.args.code) ∙ ap (λ (s : _). contains s c.args.code) c.self.view_is
