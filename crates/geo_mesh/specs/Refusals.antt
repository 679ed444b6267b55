-- Why an attach is refused, as the model names it.
use Rattle.std.specs.Prelude.{◌≡◌, Option, Some, None, Result, Ok, Err}
use Rattle.geo_model.specs.Errno.{Errno}
use Rattle.geo_model.specs.Errno.TheVariants.{ENXIO, ELOOP, EDEEP}
use Rattle.geo_mesh.specs.declared.records.AttachRefusal.{AttachRefusal}
use Rattle.geo_mesh.specs.declared.records.AttachRefusal.TheVariants.{Enxio, Eloop, Edeep}

-- the error of a refused attach (g_attach(9))
abbrev pub attach_errno : AttachRefusal → Errno
attach_errno Enxio = ENXIO
attach_errno Eloop = ELOOP
attach_errno Edeep = EDEEP

-- the answer to a call that this refuses, if anything does
abbrev pub IsAnswer : Result (Unit {0}) AttachRefusal → Option Errno → Type 0
IsAnswer (Ok _) refusal = refusal ≡ None
IsAnswer (Err e) refusal = refusal ≡ Some (attach_errno e)
