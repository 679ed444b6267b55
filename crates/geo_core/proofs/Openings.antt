-- A mesh that has made no step.
use Rattle.std.specs.Prelude.{◌≡◌, ℕ, List, [], length, map}
use Rattle.std.specs.List.{range_with_len}
use Rattle.std.proofs.Common.{sym, ◌∙◌, ap, subst, arith}
use Rattle.geo_model.specs.declared.command.LineCommand.{LineCommand}
use Rattle.geo_model.specs.declared.step.Entry.{Entry}
use Rattle.geo_model.specs.World.{World, Plan, BioOf, commands_of}
use Rattle.geo_model.specs.Log.{owed}
use Rattle.geo_model.specs.Opening.{opening}
use Rattle.geo_model.specs.Plans.{IsPlan, FactsFit}
use Rattle.geo_model.proofs.OpeningLemmas.{opening_owes}
use Rattle.geo_bio.specs.declared.bio.Held.{Held}
use Rattle.geo_log.specs.Room.{Room}
use Rattle.geo_state.specs.declared.state.State.{State}
use Rattle.geo_state.specs.Shown.{AreLogged}
use Rattle.geo_state.specs.World.{world, HasBytes}
use Rattle.geo_moves.specs.Openings.{IsOpened}
pub use Rattle.geo_moves.proofs.Openings.{opening_actors}
use Rattle.geo_core.specs.declared.running.Running.{Running}
use Rattle.geo_core.specs.Left.{left_of, AreNext}
use Rattle.geo_core.specs.Running.{IsMesh}

-- nothing names a place of a log where no request is
no_bytes : (s : State) → s.traffic.bios ≡ [] → HasBytes [] s
no_bytes s none =
    let no_entry : List Entry = [] in
    subst (λ (xs : List (BioOf Held)). AreLogged (length no_entry) xs) (sym none)
    (λ k d less. absurd (omega (arith, less)))

module _ (plan : Plan) (facts : List (ℕ × ℕ)) (left : List ℕ) (s : State) (file_room log_room : ℕ)
    (fit : FactsFit plan facts) (is : IsPlan plan) (opens : IsOpened (opening plan facts) s) (next : AreNext plan left)
    (all : left_of plan.commands left ≡ map (commands_of plan) (range_with_len 0 (length plan.actors))) where
  -- with nothing in its log
  abbrev first : Running
  first = record {
    plan = plan;
    facts = record { items = facts; spare = file_room };
    left = left;
    state = s;
    log = record { items = []; spare = log_room };
  }

  first_world : world (left_of plan.commands left) [] s ≡ opening plan facts
  first_world =
      ap (λ (actors : List (List LineCommand)). world actors [] s) (all ∙ sym (opening_actors plan facts))
      ∙ opens.world []

  first_mesh : IsMesh first
  first_mesh = record {
    plan = is;
    facts = fit;
    lawful = (tt, let none = opening_owes plan facts in omega (arith, none));
    left = next;
    world = first_world;
    holds = opens.holds;
    bytes = no_bytes s opens.bios;
    room = let none : owed (world (left_of plan.commands left) [] s) ≡ 0 =
        ap (λ (w : World). owed w) first_world ∙ opening_owes plan facts in
        omega (arith, none);
  }

-- what a plan begins is a mesh
pub begun : (plan : Plan) (facts : List (ℕ × ℕ)) (sizes : Room (ℕ × ℕ)) (left : List ℕ) (s : State) (log : Room Entry)
    → FactsFit plan facts → IsPlan plan → IsOpened (opening plan facts) s → AreNext plan left
    → left_of plan.commands left ≡ map (commands_of plan) (range_with_len 0 (length plan.actors))
    → sizes.items ≡ facts → log.items ≡ []
    → IsMesh (record { plan = plan; facts = sizes; left = left; state = s; log = log })
begun plan facts sizes left s log fit is opens next all same empty =
    let with_facts : List (ℕ × ℕ) → Running = λ fs.
    record {
      plan = plan;
      facts = record { items = fs; spare = sizes.spare };
      left = left;
      state = s;
      log = log;
    } in
    let with_log : List Entry → Running = λ xs.
    record {
      plan = plan;
      facts = record { items = facts; spare = sizes.spare };
      left = left;
      state = s;
      log = record { items = xs; spare = log.spare };
    } in
    subst (λ (fs : List (ℕ × ℕ)). IsMesh (with_facts fs)) (sym same)
    (subst (λ (xs : List Entry). IsMesh (with_log xs)) (sym empty)
    (first_mesh plan facts left s sizes.spare log.spare fit is opens next all))
