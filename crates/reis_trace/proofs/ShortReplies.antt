-- No reply is long.
use Rattle.std.proofs.Common.{◌≡◌, ◌+◌, ◌≤◌, List, [], ◌∷◌, ◌++◌, length, refl, arith, length-append}
use Rattle.ei_spec.specs.Message.{Raw, size, bytes_of, all_bytes}
use Rattle.ei_spec.specs.History.{joined}
use Rattle.ei_spec.proofs.Cuts.{size_is}
use Rattle.ei_session.specs.Setup.{Setup}
use Rattle.ei_session.specs.Replies.{greeting}
use Rattle.ei_session.specs.Events.{reply, replies}
use Rattle.ei_session.specs.Longest.{longest_reply}
use Rattle.ei_session.proofs.AllParts.{replies_more}
use Rattle.ei_session.proofs.ReplyBytes.{reply_bytes, longest_is}

abbrev pub AllShort : List Raw → Type 0
AllShort [] = Unit {0}
AllShort (x ∷ xs) = (size x ≤ longest_reply) × AllShort xs

short_by : (xs : List Raw) → length (all_bytes xs) ≤ longest_reply → AllShort xs
short_by [] le = tt
short_by (x ∷ xs) le =
    let both : length (all_bytes (x ∷ xs)) ≡ length (bytes_of x) + length (all_bytes xs) = length-append (bytes_of x) (all_bytes xs) in
    (omega (arith, le, both, size_is x), short_by xs (omega (arith, le, both)))

both_short : (xs ys : List Raw) → AllShort xs → AllShort ys → AllShort (xs ++ ys)
both_short [] ys a b = b
both_short (x ∷ xs) ys a b = (a.0, both_short xs ys a.1 b)

first_replies : (setup : Setup) → replies setup [] ≡ greeting ∷ []
unfolding replies joined
first_replies setup = refl

pub all_short : (setup : Setup) (past : List Raw) → AllShort (replies setup past)
all_short setup [] = rw (first_replies setup) (omega (arith, longest_is), tt)
all_short setup (m ∷ before) = rw (replies_more setup before m) (both_short (replies setup before) (reply setup before m) (all_short setup before) (short_by (reply setup before m) (reply_bytes setup before m)))
