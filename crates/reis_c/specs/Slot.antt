-- What the word of a session owns.
use base.Fml.{Fml, ftrue, ffalse}
use denote.RattleType.{RattleType}
use denote.RawPtr.{Ptr, null_ptr, block_ptr}
use Rattle.std.specs.declared.option.Option.{Option}
use Rattle.std.specs.declared.option.Option.TheVariants.{None, Some}
use Rattle.std.specs.declared.alloc.Global.{Global}
use Rattle.std.specs.contracts.impls.GlobalAllocator.TheImpl.{ghosts}
use Rattle.std.specs.Box.Ownership.{box_owns}

-- nothing where it is zero, and else the block there
abbrev pub slot_owns : (R : RattleType) → Global → Ptr → Option R.Denot → Fml
slot_owns R a null_ptr None = ftrue
slot_owns R a null_ptr (Some x) = ffalse
slot_owns R a (block_ptr b o) None = ffalse
slot_owns R a (block_ptr b o) (Some x) = box_owns (ghosts.dealloc_token a) R (block_ptr b o) x
