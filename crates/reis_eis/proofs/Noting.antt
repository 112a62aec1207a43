-- A request that tells something is refused only for want of memory.
use Rattle.std.proofs.Common.{◌≡◌, ℕ, Some, None, refl}
use Rattle.ei_types.specs.declared.error.Error.TheVariants as error
use Rattle.ei_server.specs.declared.request.Request.{Request}
use Rattle.ei_server.specs.Request.{target_of}
use Rattle.ei_session.specs.Meaning.{Meaning, Pongs, ReleasesSeat}
use Rattle.ei_request.specs.Connection.{ConnectionView}
use Rattle.ei_request.specs.Converter.{ConverterView}
use Rattle.ei_request.specs.Refusing.{refusal}
use Rattle.ei_request.specs.Typed.{meaning_of}
use Rattle.reis_eis.specs.declared.notice.Notice.{Notice}
use Rattle.reis_eis.specs.Handling.{notice_of, RefusesAsked}

never_refused : (c : ConnectionView) (id version : ℕ) (m : Meaning) (told : Notice) → notice_of id m ≡ Some told → refusal c id version m ≡ None
never_refused c id version (Pongs given) told is = refl
never_refused c id version ReleasesSeat told is = refl
never_refused c id version m told is = cc

pub unnoted : (old : ConverterView) (r : Request) (told : Notice) → notice_of (target_of r).id (meaning_of r) ≡ Some told → RefusesAsked error.NoMemory old r old
unnoted old r told tells = record { why = never_refused old.handle (target_of r).id (target_of r).version (meaning_of r) told tells; same = refl }
