-- The account of a client's user behind a call for the next event, by what it answered.
use Rattle.std.proofs.Common.{◌≡◌, ℕ, inl, inr, List, [], ◌∷◌, ◌++◌, Option, Some, None, Ok, Err, refl, sym, ap, subst, ◌∙◌}
use Rattle.std.proofs.lemmas.List.{append-nil}
use Rattle.ei_spec.specs.Piece.{Piece}
use Rattle.ei_spec.specs.Reading.{Fault}
use Rattle.ei_types.specs.declared.error.Error.{Error}
use Rattle.ei_types.specs.declared.error.Error.TheVariants as error
use Rattle.ei_types.specs.declared.error.EventError.{EventError}
use Rattle.ei_wire.specs.declared.error.ParseError.{ParseError}
use Rattle.ei_wire.specs.Gives.{fault_of}
use Rattle.ei_reported.specs.Said.{Said}
use Rattle.ei_reported.specs.Changes.{NewIdsDiffer}
use Rattle.ei_event.specs.declared.event.EiEvent.{EiEvent}
use Rattle.ei_event.specs.Typed.{said_of}
use Rattle.ei_event.specs.Kept.{KeptView}
use Rattle.ei_iterator.specs.Turns.{Standing, Turn, standing_at, pieces_of, AreTurns}
use Rattle.ei_iterator.specs.Next.{Answer, Gives, Ends, PieceLimit, HandleLimit, Fails, Parse, BadEvent, Comes}
use Rattle.ei_iterator.specs.Around.{Around, standing_of}
use Rattle.ei_iterator.specs.Steps.{StandsOrLost, parse_trouble}
use Rattle.ei_iterator.specs.Nexts.{Answered, Decides, DecidesBy, Nexts}
use Rattle.ei_iterator.specs.Heard.{heard, readings_of, given_by, Accounts, IsRefusedBy, GoesOn}
use Rattle.ei_iterator.proofs.Hearing.{OneMore, RefusedMakesNone, turns_account, gives_one, refuses_one}

module _ (one : OneMore) (none : RefusedMakesNone) {H : Type 0} (may : H → ℕ → ℕ → Type 0) (most : ℕ) (told : List Piece) (left : Option (List Piece)) (old new : Around H)
    (start : ℕ) (before : List Said) (readings : List ℕ) (given : List EiEvent) (a : Accounts start before readings given old.converter.kept) where
  abbrev stood : List Turn → Standing H
  stood turns = standing_at (standing_of old) turns

  abbrev Goes : Answered → Type 0
  Goes result = GoesOn most told start before readings given (standing_of old) result new.converter.kept

  abbrev read : List Turn → List ℕ
  read turns = readings ++ readings_of (standing_of old) turns

  here : (turns : List Turn) → NewIdsDiffer (heard turns ++ before) → Accounts start (heard turns ++ before) (read turns) given (stood turns).kept
  here turns differ = turns_account one start before readings given (standing_of old) turns a differ

  -- nothing was given or refused
  stays : (turns : List Turn) → AreTurns most (standing_of old) turns → (more : List Piece) → told ≡ pieces_of turns ++ more → new.converter.kept ≡ (stood turns).kept → (result : Answered) → given_by result ≡ [] → IsRefusedBy result (stood turns) [] → Goes result
  stays turns are more pieces kept result gives_none refuses_none = record {
    turns = turns;
    are = are;
    more = more;
    pieces_are = pieces;
    refused = [];
    is_refused = refuses_none;
    accounts = λ differ.
        subst (λ (g : List EiEvent). Accounts start (heard turns ++ before) (read turns) g new.converter.kept) (sym (ap (λ (g : List EiEvent). given ++ g) gives_none ∙ append-nil given))
        (subst (λ (k : KeptView). Accounts start (heard turns ++ before) (read turns) given k) (sym kept) (here turns differ));
  }

  -- ---- the definitions say the answer

  comes : (answer : Answer) (d : Decides may most told left answer old new) → Comes most d.turns (stood d.turns) d.is.more answer d.next.left d.next.taken
  comes answer d = subst (λ (w : Answer). Comes most d.turns (stood d.turns) d.is.more w d.next.left d.next.taken) d.answer_is d.is.comes

  stays_so : (answer : Answer) (d : Decides may most told left answer old new) → d.next.left.kept ≡ (stood d.turns).kept → (result : Answered) → given_by result ≡ [] → IsRefusedBy result (stood d.turns) [] → Goes result
  stays_so answer d kept result gives_none refuses_none = stays d.turns d.is.turns_are d.is.more d.is.pieces_are (d.stands.kept ∙ kept) result gives_none refuses_none

  kept_of : (x y : Standing H) → x ≡ y → x.kept ≡ y.kept
  kept_of x y e = ap (λ (s : Standing H). s.kept) e

  gives : (event : EiEvent) → Decides may most told left (Gives event) old new → Goes (Some (Ok event))
  gives event d = record {
    turns = d.turns;
    are = d.is.turns_are;
    more = d.is.more;
    pieces_are = d.is.pieces_are;
    refused = [];
    is_refused = refl;
    accounts = λ differ.
        subst (λ (k : KeptView). Accounts start (heard d.turns ++ before) (read d.turns) (given ++ event ∷ []) k) (sym d.stands.kept)
        (gives_one start (heard d.turns ++ before) (read d.turns) given (stood d.turns) d.next.left event (here d.turns differ) (comes (Gives event) d).1);
  }

  refuses : (why : EventError) → Decides may most told left (Fails (BadEvent why)) old new → Goes (Some (Err (error.Event why)))
  refuses why d = let f = (comes (Fails (BadEvent why)) d).1 in record {
    turns = d.turns;
    are = d.is.turns_are;
    more = d.is.more;
    pieces_are = d.is.pieces_are;
    refused = said_of f.event ∷ [];
    is_refused = (f.event, f.is, refl);
    accounts = λ differ.
        subst (λ (g : List EiEvent). Accounts start (said_of f.event ∷ (heard d.turns ++ before)) (read d.turns) g new.converter.kept) (sym (append-nil given))
        (subst (λ (k : KeptView). Accounts start (said_of f.event ∷ (heard d.turns ++ before)) (read d.turns) given k) (sym d.stands.kept)
        (refuses_one one none start (heard d.turns ++ before) (read d.turns) given (stood d.turns) d.next.left why (here d.turns differ.1) f differ));
  }

  unread : (pe : ParseError) (o : Option Fault) → DecidesBy may most told left (parse_trouble o) old new → Goes (Some (Err (error.Parse pe)))
  unread pe None d = absurd d
  unread pe (Some f) d = stays_so (Fails (Parse f)) d (kept_of _ _ (comes (Fails (Parse f)) d).1.1) (Some (Err (error.Parse pe))) refl refl

  -- ---- or it was cut short

  kept_cut : (s : Standing H) → StandsOrLost s new → new.converter.kept ≡ s.kept
  kept_cut s (inl h) = h.kept
  kept_cut s (inr h) = h.kept

  fails : (e : Error) → Nexts may most told left (Some (Err e)) old new → Goes (Some (Err e))
  fails error.PieceLimit d = stays_so PieceLimit d (kept_of _ _ (comes PieceLimit d).2) (Some (Err error.PieceLimit)) refl refl
  fails error.HandleLimit d = stays_so HandleLimit d (kept_of _ _ (comes HandleLimit d).3.left_is) (Some (Err error.HandleLimit)) refl refl
  fails error.ReadFault w = stays w.turns w.are w.more w.pieces_are w.stands.kept (Some (Err error.ReadFault)) refl refl
  fails error.WriteFault w = stays w.turns w.cut.cut.are w.more w.pieces_are w.cut.cut.stands.kept (Some (Err error.WriteFault)) refl refl
  fails error.NoMemory w = stays w.turns w.cut.are w.more w.pieces_are (kept_cut (stood w.turns) w.cut.stands) (Some (Err error.NoMemory)) refl refl
  fails (error.Event why) d = refuses why d
  fails (error.Parse pe) d = unread pe (fault_of pe) d
  fails error.UnexpectedHandshakeEvent d = absurd d
  fails (error.InvalidInterfaceVersion name version) d = absurd d
  fails (error.Request reason) d = absurd d
  fails (error.Handshake reason) d = absurd d
  fails error.UnexpectedEof d = absurd d
  fails error.IdsExhausted d = absurd d
  fails error.MessageTooLong d = absurd d

  pub goes_on : (result : Answered) → Nexts may most told left result old new → Goes result
  goes_on None d = stays_so Ends d (kept_of _ _ (comes Ends d).3) None refl refl
  goes_on (Some (Ok event)) d = gives event d
  goes_on (Some (Err e)) d = fails e d
