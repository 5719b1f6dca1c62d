-- What a handle owns.
use Rattle.std.specs.declared.{alloc.Global.Global, option.Option.Option, option.Option.TheVariants.None, option.Option.TheVariants.Some}
use Rattle.{sim_held.specs.contracts.held.Held.the_row, std.specs.contracts.impls.GlobalAllocator.TheImpl.ghosts, std_alloc.specs.Box.Ownership.box_owns}
use base.{Fml.Fml, Fml.feq, Fml.fex, Stored.Coded}
use denote.RawPtr.{null_ptr, Ptr}

-- what a handle can hold
abbrev pub Value : Type 0
Value = the_row.Denot

-- its code, by which a proof tells two values apart
abbrev pub value_code : Coded Value
value_code = the_row.coded

-- a handle that holds nothing is at null, and one that holds a value owns the box at its address
abbrev pub handle_owns : Ptr → Option Value → Fml
handle_owns p None = feq Ptr p null_ptr
handle_owns p (Some v) = fex Global (λ a. box_owns (ghosts.dealloc_token a) the_row p v)
