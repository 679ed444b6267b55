-- What holds of the classes.
use Rattle.std.specs.Prelude.{ℕ, Bool, true, false, List, codes}
use Rattle.geo_base.specs.declared.kind.Kind.{Kind}
use Rattle.geo_base.specs.declared.kind.Kind.TheVariants.{Disk, Dev, Taste, Mbr, Ebr, Label, Concat, Stripe, Nop}

-- a class's name in capitals
abbrev pub kind_text : Kind → List ℕ
kind_text Disk = codes "DISK"
kind_text Dev = codes "DEV"
kind_text Taste = codes "TASTE"
kind_text Mbr = codes "MBR"
kind_text Ebr = codes "EBR"
kind_text Label = codes "LABEL"
kind_text Concat = codes "CONCAT"
kind_text Stripe = codes "STRIPE"
kind_text Nop = codes "NOP"

-- whether a class's consumers want one exclusive count more than its providers have, where one of these has a count
abbrev pub adds_exclusive : Kind → Bool
adds_exclusive Mbr = true
adds_exclusive Ebr = true
adds_exclusive Label = true
adds_exclusive Concat = true
adds_exclusive Stripe = true
adds_exclusive _ = false
