use Rattle.std.proofs.Common.{sym, ◌∙◌, rules, tests}
use Rattle.std.proofs.lemmas.Iterator.{YieldsList-from_slice}
use Rattle.std.proofs.lemmas.Iterator.Consumers.{YieldsList-from_filter, count_from_yields_List}
use Rattle.ei_types.specs.Capability.{bit_of, bits_of, has_bit, capability_list}
use Rattle.ei_replay.proofs.Counted.{counted}
use Rattle.ei_replay.proofs.played.count_of.Goals as goal

pub returns-clause-count : goal.returns-clause-count
returns-clause-count c =
    count_from_yields_List c.filter.result c.count.result c.count.ensures.ran
    (YieldsList-from_filter _ (λ one. has_bit (bits_of c.args.mask) (bit_of one)) (YieldsList-from_slice capability_list cc) c.filter.ensures.closure (λ x r q k. search (rules, tests)))
    ∙ sym (counted (bits_of c.args.mask))
