-- An actor has fewer commands left: a firm world stays firm.
use Rattle.std.specs.Prelude.{◌≡◌, ℕ, List, [], ◌∷◌, Some, All, slice_get}
use Rattle.std.proofs.Common.{subst}
use Rattle.std.proofs.lemmas.List.Elements.{All-set, All-tail, All-contains}
use Rattle.std.proofs.lemmas.Option.{slice_get_within, get_or_from_slice_get}
use Rattle.geo_model.specs.declared.command.LineCommand.{LineCommand}
use Rattle.geo_model.specs.Plans.{IsCommand}
use Rattle.geo_model.specs.World.{World}
use Rattle.geo_model.specs.Step.{with_commands}
use Rattle.geo_model.specs.Fitting.{Firm}
use Rattle.geo_laws_graph.proofs.Members.{Contains-here}
use Rattle.geo_laws_bios.proofs.Apart.{commands_are_apart}
use Rattle.geo_laws_handles.specs.LeftLaws.{CommandsLeftStayFirm}

-- the commands that an actor has left are commands
left_are : (w : World) (actor : ℕ) (cs : List LineCommand) → slice_get w.actors actor ≡ Some cs → Firm w
    → All (λ c. IsCommand c.command) cs
left_are w actor cs found firm =
    subst (All (λ (c : LineCommand). IsCommand c.command)) (get_or_from_slice_get w.actors actor cs [] found)
    (firm.commands actor [] (slice_get_within w.actors actor cs found))

-- the next one is a command
next_is : (w : World) (actor : ℕ) (c : LineCommand) (rest : List LineCommand)
    → slice_get w.actors actor ≡ Some (c ∷ rest) → Firm w → IsCommand c.command
next_is w actor c rest found firm =
    All-contains (λ (x : LineCommand). IsCommand x.command) (c ∷ rest) c (left_are w actor (c ∷ rest) found firm)
    (Contains-here c rest)

-- an actor takes its next command
taken : (w : World) (actor : ℕ) (c : LineCommand) (rest : List LineCommand)
    → slice_get w.actors actor ≡ Some (c ∷ rest) → Firm w → Firm (with_commands w actor rest)
taken w actor c rest found firm =
    commands_are_apart w (with_commands w actor rest).actors
    (All-set (All (λ (x : LineCommand). IsCommand x.command)) w.actors actor rest
    (All-tail (λ (x : LineCommand). IsCommand x.command) c rest (left_are w actor (c ∷ rest) found firm))
    firm.commands) firm

-- commands that are taken keep a firm world firm
pub commands_left_stay_firm : CommandsLeftStayFirm
commands_left_stay_firm = record { taken = taken; command = next_is }
