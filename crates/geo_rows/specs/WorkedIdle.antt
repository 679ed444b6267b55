-- What goes at each step of the worked runs was idle, and each request is answered once, as tests.
use Rattle.std.specs.Prelude.{ℕ, ◌==◌, Bool, false, not, ◌&&◌, ◌||◌, List, [], ◌∷◌, length, flat_map, count_by, is_some}
use Rattle.std.specs.List.{list_all, list_any}
use Rattle.std.specs.Option.{option_map_or}
use Rattle.geo_model.specs.declared.command.Command.{Command}
use Rattle.geo_model.specs.declared.command.Command.TheVariants as commands
use Rattle.geo_model.specs.declared.step.Entry.{Entry}
use Rattle.geo_model.specs.declared.step.Outcome.{Outcome}
use Rattle.geo_model.specs.declared.step.Outcome.TheVariants as outcomes
use Rattle.geo_model.specs.declared.step.Step.{Step}
use Rattle.geo_model.specs.declared.step.Step.TheVariants as steps
use Rattle.geo_model.specs.Words.{names_number, same_name}
use Rattle.geo_model.specs.Topology.{Consumer, geom_of_consumer, geom_of_provider, geom_at, provider_at, consumer_at, attached_to, providers_of, consumers_of, is_withering}
use Rattle.geo_model.specs.Demand.{want, is_zero}
use Rattle.geo_model.specs.World.{World, Plan, Handle, granted_in}
use Rattle.geo_model.specs.Freeing.{is_of_geom}
use Rattle.geo_model.specs.History.{is_reply_to, next_command}
use Rattle.geo_model.specs.Log.{moments, after_entry}
use Rattle.geo_model.specs.Opening.{opening}
use Rattle.geo_rows.specs.FixedRuns.{run_fixed, zero_devices}

-- whether the command closes the handle of this name
abbrev pub is_close_of : List ℕ → Command → Bool
is_close_of name (commands.Close other) = same_name other name
is_close_of name _ = false

-- whether the step closes the handle by its name, or reaps it
abbrev pub is_given_up_by : World → Step → Handle → Bool
is_given_up_by w (steps.Go actor) h =
    (h.actor == actor) && option_map_or (λ c. is_close_of h.name c.command) (next_command w actor) false
is_given_up_by w steps.Reap h = h.dead
is_given_up_by w _ h = false

-- whether the step of the entry gives up the handle of the consumer
abbrev pub is_given_up : World → Entry → Consumer → Bool
is_given_up before e c =
    (c.geom == 1)
    && (list_any (λ h. names_number h.consumer c.number && is_given_up_by before e.step h) before.handles
    && not (list_any (λ h. names_number h.consumer c.number) (after_entry before e).handles))

-- whether a consumer that goes was idle
abbrev pub goes_idle : World → Entry → Consumer → Bool
goes_idle before e c =
    list_all (λ x. not (x.source == c.number)) before.bios
    && (is_zero (want (granted_in before) before.topology c) || is_given_up before e c)

-- whether no bio is from or to a part of the geom
abbrev pub has_no_bio : World → ℕ → Bool
has_no_bio w g =
    list_all (λ x. not (is_of_geom (geom_of_consumer w.topology x.source) g)
    && not (is_of_geom (geom_of_provider w.topology x.target) g)) w.bios

-- whether a geom that goes was free
abbrev pub goes_free : World → ℕ → Bool
goes_free before g =
    not (g == 1) && (not (g == 2) && (is_withering before.topology g
    && ((length (providers_of before.topology g) == 0) && ((length (consumers_of before.topology g) == 0)
    && has_no_bio before g))))

abbrev pub frees_only_idle : World → Entry → Bool
frees_only_idle before e =
    let after = after_entry before e in
    list_all (λ c. is_some (consumer_at after.topology c.number) || goes_idle before e c) before.topology.consumers
    && (list_all (λ p.
    is_some (provider_at after.topology p.number) || (length (attached_to before.topology p.number) == 0))
    before.topology.providers
    && list_all (λ g. is_some (geom_at after.topology g.number) || goes_free before g.number) before.topology.geoms)

-- the bios that a log accepts
abbrev pub accepted_in : Outcome → List ℕ
accepted_in (outcomes.Accepted line b) = b ∷ []
accepted_in _ = []

abbrev pub run_log : Plan → List (ℕ × ℕ) → List Entry
run_log plan facts = (run_fixed 400 (opening plan facts) (zero_devices facts)).log

-- whether each step of the run of a plan frees only what is idle
abbrev pub run_frees_idle : Plan → List (ℕ × ℕ) → Bool
run_frees_idle plan facts =
    list_all (λ m. frees_only_idle m.before m.entry) (moments (opening plan facts) (run_log plan facts))

-- whether each accepted bio of the run has exactly one reply
abbrev pub run_answers_once : Plan → List (ℕ × ℕ) → Bool
run_answers_once plan facts =
    let log = run_log plan facts in
    list_all (λ b. count_by (is_reply_to b) log == 1) (flat_map (λ e. accepted_in e.outcome) log)
