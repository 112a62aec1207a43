-- Reading arguments wants memory only where one of them is a text.
use Rattle.std.proofs.Common.{◌≡◌, Bool, true, false, ◌||◌, List, [], ◌∷◌, ◌++◌, Result, Ok, Err, refl, sym, subst}
use Rattle.std.specs.Prelude.{IfErr}
use Rattle.std.specs.List.{list_any}
use Rattle.ei_spec.specs.Value.{Kind, Text, Nullable, Value}
use Rattle.ei_spec.specs.Reading.{Fault}
use Rattle.ei_wire.specs.declared.error.ParseError.{ParseError}
use Rattle.ei_wire.specs.declared.error.ParseError.TheVariants as error
use Rattle.ei_wire.specs.Gives.{MayStop, WhereFull}
use Rattle.ei_backend.specs.Message.{is_text}

or_true : (b c : Bool) → c ≡ true → (b || c) ≡ true
or_true true c e = refl
or_true false c e = e

-- a text among others
among : (before after : List Kind) (k : Kind) → is_text k ≡ true → list_any is_text (before ++ k ∷ after) ≡ true
among [] after k e = rw e refl
among (b ∷ before) after k e = or_true (is_text b) (list_any is_text (before ++ k ∷ after)) (among before after k e)

stops_at : {Rest : Type 0} (k : Kind) (read : Result (Value × Rest) Fault) → MayStop k read error.NoMemory → is_text k ≡ true
stops_at Text read s = refl
stops_at Nullable read s = refl
stops_at k read s = absurd s

stops_by : {Rest : Type 0} (before after : List Kind) (k : Kind) (read : Result (Value × Rest) Fault) (e : ParseError) → MayStop k read e → WhereFull (list_any is_text (before ++ k ∷ after) ≡ true) e
stops_by before after k read error.NoMemory s = among before after k (stops_at k read s)
stops_by before after k read e s = tt

pub stops : {X Rest : Type 0} (r : Result X ParseError) (before after : List Kind) (k : Kind) (read : Result (Value × Rest) Fault) (e : ParseError) → r ≡ Err e → MayStop k read e → IfErr r (WhereFull (list_any is_text (before ++ k ∷ after) ≡ true))
stops r before after k read e same s = rw same (stops_by before after k read e s)
