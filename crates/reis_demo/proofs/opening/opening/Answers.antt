use Rattle.reis_demo.proofs.Saying.{opening_said}
use Rattle.reis_demo.proofs.opening.opening.Goals as goal

pub returns-clause-bytes : goal.returns-clause-bytes
returns-clause-bytes c =
    opening_said c.in_ok-out.out.items c.push_introduction.new.out.items c.push_announcements.new.out.items c.push_device.new.out.items
    c.in_ok-out.ensures.items c.in_ok-push_introduction.ensures.ok c.in_ok-push_announcements.ensures.ok c.in_ok-push_device.ensures.ok
