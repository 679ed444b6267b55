-- What the worked runs show beside their reports: the measure falls, the results and the contents are those of the log.
use Rattle.std.specs.Prelude.{ℕ, zero, suc, Bool, true, false, ◌&&◌, List, [], ◌∷◌, map, flat_map, filter_map, Option, Some, None, slice_get, unwrap_or, option_map, bytes_eq}
use Rattle.std.specs.Option.{option_map_or}
use Rattle.geo_model.specs.declared.step.Entry.{Entry}
use Rattle.geo_model.specs.declared.step.Outcome.{Outcome}
use Rattle.geo_model.specs.declared.step.Outcome.TheVariants as outcomes
use Rattle.geo_model.specs.declared.step.Reply.{Reply}
use Rattle.geo_model.specs.declared.step.Step.{Step}
use Rattle.geo_model.specs.declared.step.Step.TheVariants as steps
use Rattle.geo_model.specs.World.{World, Plan, Bio, bio_at}
use Rattle.geo_model.specs.Place.{DiskSector, flat}
use Rattle.geo_model.specs.Topology.{provider_at}
use Rattle.geo_model.specs.Bios.{reply_of_result}
use Rattle.geo_model.specs.Log.{Moment, moments, after_entry}
use Rattle.geo_model.specs.Results.{result_of, leaves, sectors_of_request, sector_offsets}
use Rattle.geo_model.specs.Contents.{contents}
use Rattle.geo_base.specs.Sectors.{zero_sectors}
use Rattle.geo_model.specs.Order.{pick, measure, numbers_of, comes_before}
use Rattle.geo_model.specs.Opening.{opening}
use Rattle.geo_rows.specs.FixedRuns.{Run, run_pick, run_fixed, zero_devices}

-- whether each of at most so many steps of the fixed order lowers the measure
abbrev pub falls_from : ℕ → Run → Option Step → Bool
falls_from zero r next = false
falls_from (suc n) r None = true
falls_from (suc n) r (Some s) =
    comes_before (numbers_of (measure (run_pick r s).world)) (numbers_of (measure r.world))
    && falls_from n (run_pick r s) (pick (run_pick r s).world)

-- whether the run of a plan comes to rest in so many steps, each of which lowers the measure
abbrev pub measure_falls : ℕ → Plan → List (ℕ × ℕ) → Bool
measure_falls n plan facts =
    let w : World = opening plan facts in
    falls_from n (record { world = w; devices = zero_devices facts; log = [] }) (pick w)

-- the run of a plan
abbrev pub run_of_plan : Plan → List (ℕ × ℕ) → Run
run_of_plan plan facts = run_fixed 400 (opening plan facts) (zero_devices facts)

abbrev pub history_of : Plan → List (ℕ × ℕ) → List Moment
history_of plan facts = moments (opening plan facts) (run_of_plan plan facts).log

-- the bio and the reply of an entry in which a line's request ends
abbrev pub ended_by : Step → Outcome → Option (ℕ × Reply)
ended_by (steps.Up b) (outcomes.Replied line reply) = Some (b, reply)
ended_by _ _ = None

abbrev pub ended_in : Entry → Option (ℕ × Reply)
ended_in e = ended_by e.step e.outcome

-- the replies to requests, and the results that the log gives for their bios
abbrev pub replies_given : Plan → List (ℕ × ℕ) → List (Option Reply)
replies_given plan facts = map (λ x. Some x.1) (filter_map ended_in (run_of_plan plan facts).log)

abbrev pub replies_by_log : Plan → List (ℕ × ℕ) → List (Option Reply)
replies_by_log plan facts =
    map (λ x. option_map reply_of_result (result_of (history_of plan facts) x.0))
    (filter_map ended_in (run_of_plan plan facts).log)

-- the sectors to which a bio went, and those of its flat map in the world of its acceptance
abbrev pub sectors_gone : Plan → List (ℕ × ℕ) → ℕ → List (Option DiskSector)
sectors_gone plan facts b =
    map (λ s. Some s) (flat_map (λ leaf. sectors_of_request leaf.request) (leaves (history_of plan facts) b))

-- the bio when it was accepted, with the world of that moment
abbrev pub accepted_by : World → Outcome → List (World × Bio)
accepted_by w (outcomes.Accepted line b) = option_map_or (λ x. (w, x) ∷ []) (bio_at w b) []
accepted_by w _ = []

abbrev pub acceptances : Plan → List (ℕ × ℕ) → List (World × Bio)
acceptances plan facts =
    flat_map (λ m. accepted_by (after_entry m.before m.entry) m.entry.outcome) (history_of plan facts)

abbrev pub sectors_of_range : World × Bio → List (Option DiskSector)
sectors_of_range item =
    option_map_or
    (λ p. map (flat item.0.topology p.number) (sector_offsets p.sector item.1.offset item.1.len))
    (provider_at item.0.topology item.1.target)
    []

abbrev pub all_gone : Plan → List (ℕ × ℕ) → List (List (Option DiskSector))
all_gone plan facts = map (λ item. sectors_gone plan facts item.1.number) (acceptances plan facts)

abbrev pub all_due : Plan → List (ℕ × ℕ) → List (List (Option DiskSector))
all_due plan facts = map sectors_of_range (acceptances plan facts)

-- what a disk holds by the log, and what the disk of the run holds
abbrev pub held_by_log : Plan → List (ℕ × ℕ) → ℕ → List (List ℕ)
held_by_log plan facts disk =
    option_map_or (λ f. contents f.0 (zero_sectors f.1 f.0) (run_of_plan plan facts).log disk) (slice_get facts disk) []

-- whether two disks hold the same sectors
abbrev pub same_sectors : List (List ℕ) → List (List ℕ) → Bool
same_sectors [] [] = true
same_sectors (x ∷ xs) (y ∷ ys) = bytes_eq x y && same_sectors xs ys
same_sectors _ _ = false

abbrev pub held_by_run : Plan → List (ℕ × ℕ) → ℕ → List (List ℕ)
held_by_run plan facts disk = unwrap_or (slice_get (run_of_plan plan facts).devices disk) []
