-- Whether a command's words have their forms, as tests that compute.
use Rattle.std.specs.Prelude.{ℕ, ◌^◌, ◌==◌, nat_lt, nat_le, Bool, true, not, ◌&&◌, ◌||◌, List, length}
use Rattle.std.specs.Bool.{Decides}
use Rattle.std.specs.List.{list_all}
use Rattle.geo_base.specs.Kind.{adds_exclusive}
use Rattle.geo_base.specs.Name.{is_short_name, is_name}
use Rattle.geo_base.specs.declared.kind.Kind.{Kind}
use Rattle.geo_base.specs.declared.kind.Kind.TheVariants as kinds
use Rattle.geo_base.specs.declared.request.Counts.{Counts}
use Rattle.geo_base.specs.declared.limits.TheConstants.{MAX_COMPONENTS, MAX_RUNS_BYTES}
use Rattle.geo_model.specs.declared.command.Command.{Command}
use Rattle.geo_model.specs.declared.command.Command.TheVariants as commands
use Rattle.geo_model.specs.Plans.{IsCommand}
use Rattle.geo_model.specs.Words.{is_kind}

abbrev pub is_word64 : ℕ → Bool
is_word64 n = nat_lt n (2 ^ 64)

abbrev pub is_grant : Counts → Bool
is_grant a =
    nat_le a.r 9 && nat_le a.w 9 && nat_le a.e 9 && (not (a.r == 0) || (not (a.w == 0) || not (a.e == 0)))

abbrev pub is_runs_bytes : List ℕ → Bool
is_runs_bytes bytes =
    nat_le 1 (length bytes) && nat_le (length bytes) MAX_RUNS_BYTES && list_all (λ b. nat_lt b 256) bytes

abbrev pub are_components : List (List ℕ) → Bool
are_components names =
    nat_le 1 (length names) && nat_le (length names) MAX_COMPONENTS && list_all is_name names

abbrev pub is_mark : ℕ → ℕ → ℕ → Bool
is_mark id place count =
    nat_lt id (2 ^ 32) && nat_lt place (2 ^ 16) && nat_le 1 count && nat_le count MAX_COMPONENTS

abbrev pub is_stripe : ℕ → Bool
is_stripe stripe = nat_le 1 stripe && nat_lt stripe (2 ^ 32)

abbrev pub is_named_class : Kind → Bool
is_named_class kind = adds_exclusive kind || is_kind kind kinds.Nop

-- whether the words of a command have their forms
abbrev pub is_command : Command → Bool
is_command (commands.Open h p grant) = is_short_name h && is_name p && is_grant grant
is_command (commands.Close h) = is_short_name h
is_command (commands.Read h offset len) = is_short_name h && is_word64 offset && is_word64 len
is_command (commands.Write h offset bytes) = is_short_name h && is_word64 offset && is_runs_bytes bytes
is_command (commands.Delete h offset len) = is_short_name h && is_word64 offset && is_word64 len
is_command (commands.Flush h) = is_short_name h
is_command commands.Sync = true
is_command commands.Settle = true
is_command (commands.Insert disk) = is_short_name disk
is_command (commands.Pull disk) = is_short_name disk
is_command (commands.Nop p offset size fail) = is_name p && is_word64 offset && is_word64 size && is_word64 fail
is_command (commands.Concat name ps) = is_short_name name && are_components ps
is_command (commands.Stripe name stripe ps) = is_short_name name && is_stripe stripe && are_components ps
is_command (commands.Append name p) = is_short_name name && is_name p
is_command (commands.Destroy kind geom) = is_named_class kind && is_name geom
is_command (commands.Label h name) = is_short_name h && is_short_name name
is_command (commands.Relabel h name) = is_short_name h && is_short_name name
is_command (commands.MarkConcat h name id place count) = is_short_name h && is_short_name name && is_mark id place count
is_command (commands.MarkStripe h name id place count stripe) =
    is_short_name h && is_short_name name && is_mark id place count && is_stripe stripe
is_command commands.Mesh = true

-- the test is true of a command exactly where its words have their forms
abbrev pub TestsForms : Type 0
TestsForms = (c : Command) → Decides (is_command c) (IsCommand c)
