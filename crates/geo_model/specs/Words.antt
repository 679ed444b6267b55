-- Small words that the other files share.
use Rattle.std.specs.Prelude.{ℕ, ◌==◌, max, Bool, true, false, List, [], ◌∷◌, Option, Some, None, map, bytes_eq, if◌then◌else◌, Result, Ok, Err}
use Rattle.std.specs.Option.{option_or}
use Rattle.geo_base.specs.declared.kind.Kind.{Kind}
use Rattle.geo_base.specs.declared.kind.Kind.TheVariants as kinds
use Rattle.geo_base.specs.declared.request.BioCmd.{BioCmd}
use Rattle.geo_base.specs.declared.request.BioCmd.TheVariants as cmds

-- `option >>= f` is what f gives of the value, if there is one: a line `x ← option` of a `do`
infixl 10 ◌>>=◌
abbrev pub ◌>>=◌ : {A B : Type 0} → Option A → (A → Option B) → Option B
None >>= f = None
(Some x) >>= f = f x

-- whether two names are the same bytes
abbrev pub same_name : List ℕ → List ℕ → Bool
same_name = bytes_eq

-- whether an optional number is this number
abbrev pub names_number : Option ℕ → ℕ → Bool
names_number None n = false
names_number (Some m) n = m == n

-- the largest of the numbers, 0 where there is none
abbrev pub largest : List ℕ → ℕ
largest [] = 0
largest (n ∷ ns) = max n (largest ns)

-- the items, with each that passes the test changed
abbrev pub change_where : {X : Type 0} → (X → Bool) → (X → X) → List X → List X
change_where test change xs = map (λ x. if test x then change x else x) xs

-- the first error whose test holds
abbrev pub first_error : {E : Type 0} → List (Bool × E) → Option E
first_error [] = None
first_error (row ∷ rows) = if row.0 then Some row.1 else first_error rows

-- the first of the values that is there
abbrev pub first_some : {A : Type 0} → List (Option A) → Option A
first_some [] = None
first_some (x ∷ xs) = option_or x (first_some xs)

-- the value, unless there is an error
abbrev pub unless : {A E : Type 0} → Option E → A → Result A E
unless None value = Ok value
unless (Some error) value = Err error

-- the place of a class in the list of classes
abbrev pub kind_number : Kind → ℕ
kind_number kinds.Disk = 0
kind_number kinds.Dev = 1
kind_number kinds.Taste = 2
kind_number kinds.Mbr = 3
kind_number kinds.Ebr = 4
kind_number kinds.Label = 5
kind_number kinds.Concat = 6
kind_number kinds.Stripe = 7
kind_number kinds.Nop = 8

abbrev pub is_kind : Kind → Kind → Bool
is_kind a b = kind_number a == kind_number b

-- whether the class is DEV or TASTE, whose consumers hold what was granted to them
abbrev pub is_granted_kind : Kind → Bool
is_granted_kind kinds.Dev = true
is_granted_kind kinds.Taste = true
is_granted_kind _ = false

abbrev pub is_read : BioCmd → Bool
is_read cmds.Read = true
is_read _ = false

abbrev pub is_write : BioCmd → Bool
is_write cmds.Write = true
is_write _ = false

abbrev pub is_delete : BioCmd → Bool
is_delete cmds.Delete = true
is_delete _ = false

abbrev pub is_flush : BioCmd → Bool
is_flush cmds.Flush = true
is_flush _ = false

-- whether two commands are the same
abbrev pub same_cmd : BioCmd → BioCmd → Bool
same_cmd cmds.Read c = is_read c
same_cmd cmds.Write c = is_write c
same_cmd cmds.Delete c = is_delete c
same_cmd cmds.Flush c = is_flush c
