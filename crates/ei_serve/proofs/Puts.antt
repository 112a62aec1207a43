-- What a sink was put at each call: what was left of the greeting, or of one answer.
use Rattle.std.proofs.Common.{◌≡◌, ℕ, Option, Some, List, [], ◌∷◌, ◌++◌, inl, inr, refl, ap, sym, subst, ◌∙◌, append_assoc}
use Rattle.std.proofs.lemmas.List.{append-nil}
use Rattle.std.proofs.lemmas.List.Elements.{All-nil, All-append, All-weaker}
use Rattle.ei_spec.specs.Message.{Raw, bytes_of, all_bytes}
use Rattle.ei_spec.specs.Piece.{Piece}
use Rattle.ei_session.specs.Setup.{Setup}
use Rattle.ei_session.specs.Events.{reply}
use Rattle.ei_session.specs.Replies.{greeting}
use Rattle.ei_backend.specs.Outgoing.{IsLeftOf, IsPutOf}
use Rattle.ei_serve.specs.Steps.{bytes_only, IsLeftOfAnswer, PutsAnswers}
use Rattle.ei_serve.specs.Serving.{IsLeftOfReply, PutsReplies}

pub behind_then : (a b c : List Raw) → ((done : List Raw) × (b ≡ done ++ a)) → ((done : List Raw) × (c ≡ done ++ b)) → (done : List Raw) × (c ≡ done ++ a)
behind_then a b c g h = (h.0 ++ g.0, h.1 ∙ ap (λ (u : List Raw). h.0 ++ u) g.1 ∙ sym (append_assoc h.0 g.0 a))

-- ---- on the way from some messages to others

-- nothing was put
pub no_puts : (setup : Setup) (before reached : List Raw) (told : Option (List Piece)) → PutsAnswers setup before reached told told
no_puts setup before reached told puts is = record { more = []; grown = is ∙ ap (λ (l : List Piece). Some l) (sym (append-nil puts)); each = All-nil (IsLeftOfAnswer setup before reached) }

-- what answers one message was put
pub puts_one : (setup : Setup) (past : List Raw) (m : Raw) (bytes : List ℕ) (old new : Option (List Piece)) → bytes ≡ all_bytes (reply setup past m) → IsPutOf (bytes_only bytes) old new → PutsAnswers setup past (m ∷ past) old new
puts_one setup past m bytes old new is were puts told = let h = were puts told in record {
  more = h.more;
  grown = h.grown;
  each = All-weaker (IsLeftOf (bytes_only bytes)) (IsLeftOfAnswer setup past (m ∷ past))
      (λ put left. record { past = past; m = m; behind = ([], refl); ahead = ([], refl); left = subst (λ (x : List ℕ). IsLeftOf (bytes_only x) put) is left }) h.more h.each;
}

-- a part of the way
wider : (setup : Setup) (a b c d : List Raw) → ((done : List Raw) × (b ≡ done ++ a)) → ((done : List Raw) × (d ≡ done ++ c)) → (put : Piece) → IsLeftOfAnswer setup b c put → IsLeftOfAnswer setup a d put
wider setup a b c d behind ahead put h = record {
  past = h.past;
  m = h.m;
  behind = behind_then a b h.past behind h.behind;
  ahead = behind_then (h.m ∷ h.past) c d h.ahead ahead;
  left = h.left;
}

-- one way, and then another
pub puts_then : (setup : Setup) (a b c : List Raw) (x y z : Option (List Piece)) → ((done : List Raw) × (b ≡ done ++ a)) → ((done : List Raw) × (c ≡ done ++ b)) → PutsAnswers setup a b x y → PutsAnswers setup b c y z → PutsAnswers setup a c x z
puts_then setup a b c x y z first second one other puts told = let g = one puts told in let h = other (puts ++ g.more) g.grown in record {
  more = g.more ++ h.more;
  grown = h.grown ∙ ap (λ (l : List Piece). Some l) (append_assoc puts g.more h.more);
  each = All-append (IsLeftOfAnswer setup a c) g.more h.more
      (All-weaker (IsLeftOfAnswer setup a b) (IsLeftOfAnswer setup a c) (wider setup a a b c ([], refl) second) g.more g.each)
      (All-weaker (IsLeftOfAnswer setup b c) (IsLeftOfAnswer setup a c) (wider setup a b c c first ([], refl)) h.more h.each);
}

-- ---- since the start

-- nothing was put
pub no_replies : (setup : Setup) (messages : List Raw) (told : Option (List Piece)) → PutsReplies setup messages told told
no_replies setup messages told puts is = record { more = []; grown = is ∙ ap (λ (l : List Piece). Some l) (sym (append-nil puts)); each = All-nil (IsLeftOfReply setup messages) }

-- the greeting was put
pub puts_greeting : (setup : Setup) (messages : List Raw) (old new : Option (List Piece)) → IsPutOf (bytes_only (bytes_of greeting)) old new → PutsReplies setup messages old new
puts_greeting setup messages old new were puts told = let h = were puts told in record {
  more = h.more;
  grown = h.grown;
  each = All-weaker (IsLeftOf (bytes_only (bytes_of greeting))) (IsLeftOfReply setup messages) (λ put left. inl left) h.more h.each;
}

longer : (setup : Setup) (a b : List Raw) → ((done : List Raw) × (b ≡ done ++ a)) → (put : Piece) → IsLeftOfReply setup a put → IsLeftOfReply setup b put
longer setup a b behind put (inl g) = inl g
longer setup a b behind put (inr h) = inr (wider setup [] [] a b ([], refl) behind put h)

-- and then what answers further messages
pub puts_on : (setup : Setup) (a b : List Raw) (x y z : Option (List Piece)) → ((done : List Raw) × (b ≡ done ++ a)) → PutsReplies setup a x y → PutsAnswers setup a b y z → PutsReplies setup b x z
puts_on setup a b x y z behind one other puts told = let g = one puts told in let h = other (puts ++ g.more) g.grown in record {
  more = g.more ++ h.more;
  grown = h.grown ∙ ap (λ (l : List Piece). Some l) (append_assoc puts g.more h.more);
  each = All-append (IsLeftOfReply setup b) g.more h.more
      (All-weaker (IsLeftOfReply setup a) (IsLeftOfReply setup b) (longer setup a b behind) g.more g.each)
      (All-weaker (IsLeftOfAnswer setup a b) (IsLeftOfReply setup b) (λ put left. inr (wider setup [] a b b (a, sym (append-nil a)) ([], refl) put left)) h.more h.each);
}
