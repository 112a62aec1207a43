-- What has the message at the front of some bytes has it with more bytes behind them.
use Rattle.std.proofs.Common.{◌≡◌, ℕ, ◌≤◌, Bool, true, false, List, [], ◌∷◌, ◌++◌, length, take, drop, Option, Some, None, refl, sym, ap, subst, ◌∙◌, arith}
use Rattle.std.specs.Prelude.{◌==◌}
use Rattle.std.specs.Cmp.{unsigned_Decides}
use Rattle.std.proofs.lemmas.List.{drop-append-le, length-drop, length-append, take-append-drop}
use Rattle.std.proofs.lemmas.Bool.{leb-false}
use Rattle.ei_spec.specs.Message.{Whole, Raw, front}
use Rattle.ei_spec.proofs.FrontLaws.{whole_more, unlawful_more}
use Rattle.ei_wire.specs.declared.error.ParseError.TheVariants as error
use Rattle.ei_backend.specs.declared.front.FrontMessage.{FrontMessage}
use Rattle.ei_backend.specs.declared.front.FrontMessage.TheVariants as code
use Rattle.ei_backend.specs.Front.{front_view, IsLawful, ends_within}
use Rattle.ei_backend.specs.Backend.{Shortens}
use Rattle.ei_backend.specs.Step.{TakesSome, TakesNext, Steps, no_step}
use Rattle.ei_backend.specs.declared.reading.Step.{Step}
use Rattle.ei_backend.specs.Incoming.{IncomingView}
use Rattle.ei_backend.specs.Table.{TableView}
use Rattle.ei_spec.specs.Interface.{ObjectView}
use Rattle.ei_spec.specs.Value.{Value}
use Rattle.ei_wire.specs.declared.error.NoMemory.{NoMemory}
use Rattle.std.specs.Prelude.{IfOk, OnErr, Result, Ok, Err}
use Rattle.ei_backend.specs.declared.message.PendingRequestResult.{PendingRequestResult}
use Rattle.ei_backend.specs.declared.message.PendingRequestResult.TheVariants as pending

view_behind : (first second : List ℕ) (f : FrontMessage) → front_view first f ≡ front first → IsLawful first f → ends_within f (length (first ++ second)) ≡ false →
    front_view (first ++ second) f ≡ front (first ++ second)
view_behind first second (code.Short needed) view lawful none = sym (lawful.short second (omega (arith, leb-false needed (length (first ++ second)) none, length-append first second)))
view_behind first second (code.Unlawful len) view lawful none = sym (unlawful_more first second len (sym view))
view_behind first second (code.Whole id opcode body len) view lawful none =
    let m : Raw = record { id = id; opcode = opcode; body = body.now } in
    ap (Whole m) (drop-append-le len first second lawful) ∙ sym (whole_more first second m (drop len first) (sym view))

-- bytes that are the first of all
pub stands_first : (first second all : List ℕ) (f : FrontMessage) (n : ℕ) (across : Bool) → first ++ second ≡ all → front_view first f ≡ front first → IsLawful first f →
    n ≡ length all → across ≡ ends_within f n → across ≡ false → front_view all f ≡ front all
stands_first first second all f n across whole view lawful len is none =
    let all_of : ends_within f (length (first ++ second)) ≡ false = ap (λ (l : List ℕ). ends_within f (length l)) whole ∙ ap (ends_within f) (sym len) ∙ sym is ∙ none in
    subst (λ (l : List ℕ). front_view l f ≡ front l) whole (view_behind first second f view lawful all_of)

-- bytes that were copied from the first of all
pub stands_copied : (count : ℕ) (copy all : List ℕ) (f : FrontMessage) (n : ℕ) (across : Bool) → take count copy ≡ take count all → front_view (take count copy) f ≡ front (take count copy) → IsLawful (take count copy) f →
    n ≡ length all → across ≡ ends_within f n → across ≡ false → front_view all f ≡ front all
stands_copied count copy all f n across same view lawful len is none =
    stands_first (take count copy) (drop count all) all f n across (ap (λ (l : List ℕ). l ++ drop count all) same ∙ take-append-drop count all) view lawful len is none

-- no item, by the test
pub no_items : {X : Type 0} (xs : List X) (empty : Bool) → empty ≡ (length xs == 0) → empty ≡ true → xs ≡ []
no_items [] empty is holds = refl
no_items (x ∷ xs) empty is holds = let zero : length (x ∷ xs) ≡ 0 = (unsigned_Decides (length (x ∷ xs)) 0).0 (sym is ∙ holds) in absurd (omega (arith, zero))

pub shortens : {M : Type 0} (all : List ℕ) (n : ℕ) (answer : Option (PendingRequestResult M)) → n ≤ length all → TakesSome answer n → Shortens all (drop n all) answer
shortens all n None le some = tt
shortens all n (Some (pending.ParseError (error.HeaderLength len))) le some = tt
shortens all n (Some answer) le some = omega (arith, length-drop n all)

-- ---- a step, taken

-- what is unread without what a step takes
abbrev pub without_step : IncomingView → Step → IncomingView
without_step i step = record { bytes = drop step.bytes i.bytes; handles = drop step.handles i.handles; capacity = i.capacity }

fewer : {M : Type 0} (all : List ℕ) (n : ℕ) (answer : Result (Option (PendingRequestResult M)) NoMemory) → n ≤ length all → IfOk answer (λ said. TakesSome said n) → IfOk answer (λ said. Shortens all (drop n all) said)
fewer all n (Ok said) le some = shortens all n said le some
fewer all n (Err e) le some = tt

stays : {M : Type 0} (i : IncomingView) (step : Step) (answer : Result (Option (PendingRequestResult M)) NoMemory) → OnErr answer (step ≡ no_step) → OnErr answer (without_step i step ≡ i)
stays i step (Ok said) none = tt
stays i step (Err e) none = rw none refl

taken_of : {M : Type 0} (target : M → ObjectView) (code : M → ℕ) (values : M → List Value) (announced : M → Option ObjectView) (events : Bool)
    (i : IncomingView) (told tnew : TableView) (step : Step) (answer : Result (Option (PendingRequestResult M)) NoMemory) → step.bytes ≤ length i.bytes →
    Steps target code values announced events i.bytes i.handles told tnew step answer → TakesNext target code values announced events i (without_step i step) told tnew answer
taken_of target code values announced events i told tnew step answer within s = record {
  ok = λ b. s.ok (record b { capacity = i.capacity });
  brings = s.brings;
  shorter = fewer i.bytes step.bytes answer within s.shorter;
  err = stays i step answer s.err_step;
  err_table = s.err;
  memory = s.memory;
}

pub taken_next : {M : Type 0} (target : M → ObjectView) (code : M → ℕ) (values : M → List Value) (announced : M → Option ObjectView) (events : Bool)
    (i kept : IncomingView) (told tnew : TableView) (step : Step) (answer : Result (Option (PendingRequestResult M)) NoMemory) → kept ≡ i → step.bytes ≤ length i.bytes →
    Steps target code values announced events i.bytes i.handles told tnew step answer → TakesNext target code values announced events i (without_step kept step) told tnew answer
taken_next target code values announced events i kept told tnew step answer same within s =
    rw same (taken_of target code values announced events i told tnew step answer within s)
