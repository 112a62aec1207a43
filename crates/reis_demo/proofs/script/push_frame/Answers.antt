use Rattle.reis_demo.proofs.Saying.{frame_said}
use Rattle.reis_demo.proofs.script.push_frame.Goals as goal

pub returns-clause-bytes : goal.returns-clause-bytes
returns-clause-bytes c =
    frame_said c.args.out.now.items c.push_header.new.out.items c.extend_from_slice.new.self.items c.extend_from_slice-2.new.self.items
    c.to_le_bytes.result c.to_le_bytes-2.result c.args.time c.to_le_bytes.ensures c.to_le_bytes-2.ensures
    c.push_header.ensures.bytes (rw c.unwrap.ensures at c.extend_from_slice.ensures.items) (rw c.unwrap-2.ensures at c.extend_from_slice-2.ensures.items)
