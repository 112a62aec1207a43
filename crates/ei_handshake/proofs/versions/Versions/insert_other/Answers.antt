use Rattle.std.proofs.Common.{ℕ, List, ap, ◌∙◌}
use Rattle.std.specs.FinMap as finite
use Rattle.ei_spec.specs.Interface.{known_of}
use Rattle.ei_handshake.specs.Versions.{by_name, with_names}
use Rattle.ei_handshake.proofs.OtherNames.{put_other, still_none, same_none}
use Rattle.ei_handshake.proofs.versions.Versions.insert_other.Goals as goal

pub invariant_of-self : goal.invariant_of-self
invariant_of-self c = record { places = c.self.invariant.places; unknown = same_none c.self.inside.others c.insert.new.self c.in_err-insert.ensures.err c.self.invariant.unknown }

pub invariant_of-self-2 : goal.invariant_of-self-2
invariant_of-self-2 c = record {
  places = c.self.invariant.places;
  unknown = still_none c.self.inside.others c.insert.new.self c.in_ok-name.name c.args.version c.in_ok-insert.ensures.updates (ap known_of c.in_ok-name.ensures.ok ∙ c.requires) c.self.invariant.unknown;
}

pub returns-clause-ok : goal.returns-clause-ok
returns-clause-ok c =
    rw (← c.self.view_is)
    (put_other c.self.inside.others c.insert.new.self c.in_ok-name.name c.args.version (by_name c.self.inside.versions) c.in_ok-insert.ensures.updates
    ∙ ap (λ (n : List ℕ). finite.insert (with_names c.self.inside.others.entries (by_name c.self.inside.versions)) n c.args.version) c.in_ok-name.ensures.ok)
