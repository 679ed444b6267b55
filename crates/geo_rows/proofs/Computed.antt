-- What the worked runs compute with: to unfold `computed` is to unfold each definition on its line.
use Rattle.std.specs.Fmt.{digits}
use Rattle.std.specs.Prelude.{Bool, true}
use Rattle.geo_base.specs.Runs.{runs_text}
use Rattle.geo_headline.specs.Sweep.{pick_sweep}
use Rattle.geo_headline.specs.Traces.{read_trace, trace_text}
use Rattle.geo_headline.specs.Verifying.{verified}
use Rattle.geo_model.specs.Bios.{deliver, start, take_bio, up}
use Rattle.geo_model.specs.Commands.{do_command}
use Rattle.geo_model.specs.Contents.{contents}
use Rattle.geo_model.specs.Freeing.{reap, wash, wash_work}
use Rattle.geo_model.specs.Generator.{generated}
use Rattle.geo_model.specs.Listing.{listing}
use Rattle.geo_model.specs.Opening.{opening}
use Rattle.geo_model.specs.Order.{is_at_rest, measure, pick}
use Rattle.geo_model.specs.Report.{mesh_text, report, summary}
use Rattle.geo_model.specs.Script.{script}
use Rattle.geo_model.specs.Step.{event, go, judge_next, reap_next, step, wash_next}
use Rattle.geo_model.specs.Tasting.{judge_step}
use Rattle.geo_model.specs.WorldEvents.{do_event}
use Rattle.geo_rows.specs.FixedRuns.{run_fixed, run_swept}
use Rattle.geo_rows.specs.WorkedFitting.{is_fitting_world}
use Rattle.geo_rows.specs.WorkedSound.{is_sound}
use Rattle.geo_rows.specs.WorkedSteady.{is_steady}

unfoldable pub computed : Bool
unfolding start take_bio deliver up do_event judge_step reap wash_work wash do_command listing go event judge_next
    reap_next wash_next step opening pick pick_sweep run_fixed run_swept measure contents is_at_rest is_sound is_steady
    is_fitting_world script generated runs_text mesh_text report summary trace_text read_trace verified digits
computed = true
