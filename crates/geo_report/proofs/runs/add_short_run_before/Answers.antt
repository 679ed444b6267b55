use Rattle.std.proofs.Common.{rules, sym, ◌∙◌, ap, ◌++◌, ◌∷◌, [], ◌+◌, ◌/◌, ◌%◌}
use Rattle.std.proofs.lemmas.Fmt.{decimal_digit}
use Rattle.std.proofs.lemmas.List.{append_assoc}
use Rattle.geo_base.specs.Runs.{hex_digit}
use Rattle.geo_report.proofs.runs.add_short_run_before.Goals as goal

-- a number below ten has one digit
pub returns : goal.returns
returns c =
    search (
      rules,
      decimal_digit c.args.times c.requires,
      append_assoc c.args.text.now
          (hex_digit (c.args.byte / 16) ∷ hex_digit (c.args.byte % 16) ∷ 42 ∷ (48 + c.args.times) ∷ []) (32 ∷ []),
    )
