-- The names of errors.
use Rattle.std.specs.Prelude.{ℕ, List, codes}
use Rattle.geo_base.specs.declared.errno.Errno.{Errno}
use Rattle.geo_base.specs.declared.errno.Errno.TheVariants.{ENOENT, EEXIST, EBADF, ENXIO, EPERM, EOVERFLOW, EBUSY, EINVAL, EIO, ELOOP, EDEEP}

-- the name of an error, as errno(2) writes it
abbrev pub errno_text : Errno → List ℕ
errno_text ENOENT = codes "ENOENT"
errno_text EEXIST = codes "EEXIST"
errno_text EBADF = codes "EBADF"
errno_text ENXIO = codes "ENXIO"
errno_text EPERM = codes "EPERM"
errno_text EOVERFLOW = codes "EOVERFLOW"
errno_text EBUSY = codes "EBUSY"
errno_text EINVAL = codes "EINVAL"
errno_text EIO = codes "EIO"
errno_text ELOOP = codes "ELOOP"
errno_text EDEEP = codes "EDEEP"
