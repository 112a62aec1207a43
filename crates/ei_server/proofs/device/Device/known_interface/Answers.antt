use Rattle.std.proofs.Common.{rules, arith}
use Rattle.ei_spec.proofs.Utf8.{is_text}
use Rattle.ei_server.proofs.NamedKnown.{named_known}
use Rattle.ei_server.proofs.device.Device.known_interface.Goals as goal

pub returns : goal.returns
returns c =
    let same = named_known c.args.interface in
    record {
      sends = record {
        kinds = grind (arith, is_text);
        ok = rw same (search rules);
        object = rw same (search rules);
        err = search rules;
        exhausted = search rules;
        not_long = search rules;
        room = search rules;
      };
    }
