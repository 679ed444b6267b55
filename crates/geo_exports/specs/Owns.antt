-- What a handle owns: the box behind its pointer, if it holds a value.
use Rattle.std.specs.Prelude.{Option, Some, None}
use Rattle.std.specs.contracts.impls.GlobalAllocator.TheImpl.{ghosts}
use base.Fml.{Fml, ftrue}
use denote.RawPtr.{Ptr}
use mir.Syntax.{Ty}

abbrev pub where_some : {X : Type 0} → Option X → (X → Fml) → Fml
where_some (Some x) owned = owned x
where_some None owned = ftrue

-- the right to free what the global allocator gave, which has no state: it is the same of each of its values
abbrev pub token : Ty → Ptr → Fml
token = ghosts.dealloc_token (record { memory = record { seal = tt } })
