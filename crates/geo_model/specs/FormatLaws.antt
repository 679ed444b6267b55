-- The headline doesn't rest on this file: it states laws of the formats.
-- The laws of the formats: what is written is read again, and what is read keeps its rules.
use Rattle.std.specs.Prelude.{◌≡◌, ◌↔◌, ℕ, ◌^◌, ◌<◌, ◌≤◌, List, Option, Some, Ok, IsTrue, IfSome, option_and_then}
use Rattle.geo_base.specs.Name.{is_short_name}
use Rattle.geo_base.specs.Runs.{IsRuns}
use Rattle.geo_base.specs.Sectors.{IsSectorSize}
use Rattle.geo_base.specs.declared.limits.TheConstants.{MAX_COMPONENTS}
use Rattle.geo_model.specs.declared.class.ConcatRecord.{ConcatRecord}
use Rattle.geo_model.specs.declared.class.LabelRecord.{LabelRecord}
use Rattle.geo_model.specs.declared.class.StripeRecord.{StripeRecord}
use Rattle.geo_model.specs.World.{Plan}
use Rattle.geo_model.specs.Records.{label_record, label_sector, concat_record, concat_sector, stripe_record, stripe_sector, is_stripe_size}
use Rattle.geo_model.specs.Script.{IsScript, runs_in, fitting_bytes, words_of}
use Rattle.geo_model.specs.Plans.{IsPlan, IsWord64}
use Rattle.geo_model.specs.Generator.{CanBeGenerated, generated}

-- the plan of a script keeps the rules of plans
abbrev pub ScriptsArePlans : Type 0
ScriptsArePlans = (text : List ℕ) (plan : Plan) → IsScript text plan → IsPlan plan

-- a generated text is a script
abbrev pub GeneratedTextsAreScripts : Type 0
GeneratedTextsAreScripts = (start count : ℕ) → CanBeGenerated start count
    → (plan : Plan) × IsScript (generated start count) plan

-- the bytes of a text of runs, as the reader of a line finds them
abbrev pub runs_read : List ℕ → Option (List ℕ)
runs_read text = option_and_then fitting_bytes (runs_in (words_of text))

-- the reader of a line and the one text of some bytes agree on what a text of runs is
abbrev pub RunsAgree : Type 0
RunsAgree = (text bytes : List ℕ) → (runs_read text ≡ Some bytes) ↔ IsRuns text bytes

-- a place of an assembly: the numbers fit their fields, and the place is one of those that a geom may have
pub record IsPlaceOf (id place count : ℕ) : Type 0 where
  pub id_fits : id < 2 ^ 32
  pub some_place : 1 ≤ count
  pub few_places : count ≤ MAX_COMPONENTS
  pub inside : place < count

-- each record that a class writes is found again
abbrev pub LabelsAreRead : Type 0
LabelsAreRead =
    (size : ℕ) (x : LabelRecord) → IsSectorSize size → IsTrue (is_short_name x.name) → IfSome x.size IsWord64
    → label_record (label_sector size x) ≡ Ok x

abbrev pub ConcatsAreRead : Type 0
ConcatsAreRead =
    (size : ℕ) (x : ConcatRecord) → IsSectorSize size → IsTrue (is_short_name x.name) → IsPlaceOf x.id x.place x.count
    → concat_record (concat_sector size x) ≡ Ok x

abbrev pub StripesAreRead : Type 0
StripesAreRead =
    (size : ℕ) (x : StripeRecord) → IsSectorSize size → IsTrue (is_short_name x.name) → IsPlaceOf x.id x.place x.count
    → IsTrue (is_stripe_size x.stripe size) → stripe_record (stripe_sector size x) ≡ Ok x
