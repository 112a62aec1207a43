-- A new pair keeps what a pair keeps.
use Rattle.std.proofs.Common.{ℕ, ◌<◌, ◌^◌, Fits, w32, arith}
use Rattle.ei_spec.proofs.Utf8.{is_text}
use Rattle.ei_pair.specs.Parts.{pair_in}
use Rattle.ei_pair.proofs.Sound.{is_sound}
use Rattle.ei_pair.proofs.pair.Pair.new.Goals as goal

small : (n : ℕ) → Fits w32 n → n < 2 ^ 32
small n h = omega (arith, h)

pub invariant_of-result : goal.invariant_of-result
invariant_of-result g c =
    let p = c.in_ok-new.field-0 in
    record {
      sound = is_sound p c.in_ok-new.ensures.world (c.resting.ensures.begins c.args.name.now c.args.context_type c.args.initial_serial (pair_in p) (is_text c.args.name.now c.utf8.name) (small c.args.initial_serial c.ranges.initial_serial) c.in_ok-new.ensures.new) c.in_ok-new.ensures.serial;
      tells = λ now. c.calls_by_lists.ensures.begins c.args.name.now c.args.context_type c.args.initial_serial (pair_in p) c.in_ok-new.ensures.new;
    }
